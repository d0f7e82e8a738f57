-- Values that are rows, one after the other: the lists of their rows, which have the counts for lengths.
-- Assumes nothing.
use Rattle.std.specs.Prelude.{ℕ, zero, suc, ◌+◌, ◌-◌, ◌*◌, ◌/◌, ◌%◌, ◌^◌, List, [], ◌∷◌, length, take, drop, ltb}
use Rattle.refusal.specs.Answer.{pick, Answer, given, absent, refused}
use Rattle.diag_rules.specs.Mask.{byte_at}
use Rattle.diag_values.specs.Values.{number_at, mode_of}
use Rattle.diag_rows.specs.declared.ChildTableEntry.{ChildTableEntry}
use Rattle.diag_rows.specs.declared.ChildIpv6AddrInfo.{ChildIpv6AddrInfo}
use Rattle.diag_rows.specs.declared.Part.{Part}

-- f 0, f 1, .. f (n - 1)
unfoldable pub listed : {A : Type 0} → (ℕ → A) → ℕ → List A
listed f zero = []
listed f (suc n) = f 0 ∷ listed (λ k. f (suc k)) n

-- "16: rows of 3: exponent 5 bits, quality 2, child ID 9, mode byte"; the first two bytes are the 16 bits
abbrev pub child_at : List ℕ → (at : ℕ) → ChildTableEntry
child_at v at = record {
  timeout_exponent = number_at 2 at v / 2048 % 32;
  incoming_link_quality = number_at 2 at v / 512 % 4;
  child_id = number_at 2 at v % 512;
  mode = mode_of (byte_at v (at + 2));
}

unfoldable pub child_rows : List ℕ → List ChildTableEntry
child_rows v = listed (λ k. child_at v (k * 3)) (length v / 3)

-- "Timeout is 2 to the (exponent - 4) seconds, or 0 under 4"
unfoldable pub timeout_seconds : (exponent : ℕ) → ℕ
timeout_seconds e = pick (ltb e 4) 0 (2 ^ (e - 4))

-- "8: whole 16-byte addresses, possibly none"
unfoldable pub addresses : List ℕ → List (List ℕ)
addresses v = listed (λ k. take 16 (drop (k * 16) v)) (length v / 16)

-- where they stand: each is the len bytes from start on
abbrev pub part : (start len : ℕ) → Part
part a n = record { start = a; len = n }

unfoldable pub address_parts : List ℕ → List Part
address_parts v = listed (λ k. part (k * 16) 16) (length v / 16)

-- the bytes that are given, and none where none are
abbrev pub or_empty : Answer (List ℕ) → List ℕ
or_empty (given v) = v
or_empty absent = []
or_empty (refused n p i) = []

-- "30: RLOC16, then the same" (whole addresses, from byte 2 to the end); "child ID is RLOC16 modulo 512"
abbrev pub address_list_of : List ℕ → ChildIpv6AddrInfo
address_list_of v = record { rloc16 = number_at 2 0 v; child_id = number_at 2 0 v % 512; start = 2; len = length v - 2 }
