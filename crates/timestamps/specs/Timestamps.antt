-- A timestamp as bytes and as a number. Document 01: "Timestamp: seconds times 65,536, plus ticks times 2, plus the authoritative bit.
-- Building keeps seconds modulo 2^48 and ticks modulo 32,768."
-- Assumes nothing.
use Rattle.std.specs.Prelude.{ℕ, ◌+◌, ◌*◌, ◌/◌, ◌%◌, ◌^◌, Bool, true, false, List, eqb}
use Rattle.wire_bytes.specs.Bytes.{bytes_of}
use Rattle.wire.specs.Be.{be}
use Rattle.timestamps.specs.declared.Timestamp.{Timestamp}

-- of a value of 8 bytes: the number that it spells
abbrev pub timestamp_of : List ℕ → Timestamp
timestamp_of v = record { 0 = be v }

abbrev pub timestamp_bytes : Timestamp → List ℕ
timestamp_bytes t = bytes_of 8 t.0

abbrev pub bit_of : Bool → ℕ
bit_of true = 1
bit_of false = 0

-- the number of a timestamp that is built, and what it was built of
abbrev pub built : (seconds ticks : ℕ) → (authoritative : Bool) → ℕ
built s t a = s % 2 ^ 48 * 65536 + t % 32768 * 2 + bit_of a

abbrev pub seconds_of : ℕ → ℕ
seconds_of x = x / 65536

abbrev pub ticks_of : ℕ → ℕ
ticks_of x = x / 2 % 32768

abbrev pub authoritative_of : ℕ → Bool
authoritative_of x = eqb (x % 2) 1
