-- A timestamp that was written is read back, and what was read is written back; and what it was built of.
-- Assumes nothing.
use mathlib.Core.Path.{◌≡◌, sym, ap}
use mathlib.Core.Bool.{Bool, true, false}
use mathlib.Core.List.{List}
use Prim.Native.Nat.{ℕ, ◌+◌, ◌*◌, ◌%◌, ◌^◌, ◌<◌}
use native.Mathlib.Omega.{arith}
use lib.ListN.{length}
use lib.Dec.{eqb}
use borrow.Author.Tests.{eqb-true, eqb-false, eq-eqb, ne_eqb}
use Rattle.refusal.specs.Answer.{given, on_given}
use Rattle.refusal.specs.Every.{Bytes}
use Rattle.laws.proofs.Tests.{by_test}
use Rattle.wire.specs.Be.{ruled}
use Rattle.wire.proofs.Bes.{ruled_is}
use Rattle.wire.proofs.Round.{be_bytes, bytes_read, length_bytes}
use Rattle.timestamps.specs.Timestamps.{timestamp_of, timestamp_bytes, bit_of, built, seconds_of, ticks_of, authoritative_of}
use Rattle.timestamps.specs.declared.Timestamp.{Timestamp}
use Rattle.timestamps.proofs.Stamps.{stamp}

module _ (t : Timestamp) where
  pub timestamp_back : t.0 < 2 ^ 64 → timestamp_of (timestamp_bytes t) ≡ t
  timestamp_back h = ap stamp (be_bytes 8 t.0 h)

  pub timestamp_reads : (place : ℕ) → t.0 < 2 ^ 64 → on_given timestamp_of (ruled 8 place (timestamp_bytes t)) ≡ given t
  timestamp_reads place h = sym (ruled_is timestamp_of 8 place (timestamp_bytes t) t (length_bytes 8 t.0) (sym (timestamp_back h)))

pub timestamp_writes : (v : List ℕ) → length v ≡ 8 → Bytes v → timestamp_bytes (timestamp_of v) ≡ v
timestamp_writes v l h = bytes_read 8 v l h

-- what it was built of
module _ (s t : ℕ) where
  pub built_seconds : (a : Bool) → seconds_of (built s t a) ≡ s % 2 ^ 48
  built_seconds true = omega arith
  built_seconds false = omega arith

  pub built_ticks : (a : Bool) → ticks_of (built s t a) ≡ t % 32768
  built_ticks true = omega arith
  built_ticks false = omega arith

  pub built_authoritative : (a : Bool) → authoritative_of (built s t a) ≡ a
  built_authoritative true = eq-eqb (built s t true % 2) 1 (omega arith)
  built_authoritative false = ne_eqb (built s t false % 2) 1 (λ e. omega arith)

-- and it is built of what is read of it
pub built_again : (x : ℕ) → x < 2 ^ 64 → built (seconds_of x) (ticks_of x) (authoritative_of x) ≡ x
built_again x h =
    let spelled : x ≡ seconds_of x * 65536 + ticks_of x * 2 + x % 2 = omega arith in
    let seconds : seconds_of x % 2 ^ 48 ≡ seconds_of x = omega arith in
    let ticks : ticks_of x % 32768 ≡ ticks_of x = omega arith in
    let bit : bit_of (authoritative_of x) ≡ x % 2 =
    by_test (eqb (x % 2) 1) (λ e. rw e (sym (eqb-true _ _ e))) (λ e. rw e (omega (arith, eqb-false (x % 2) 1 e))) in
    rw (seconds, ticks, bit) (sym spelled)
