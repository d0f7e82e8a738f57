-- `diag_rows::ChildTableEntry::timeout_seconds` meets its contract: 1 shifted by k is 2 ^ k.
use mathlib.Core.Path.{◌≡◌, ◌∙◌}
use Prim.Native.Nat.{ℕ, ◌-◌, ◌*◌, ◌%◌, ◌^◌, ◌≤◌, ◌<◌}
use native.Mathlib.Omega.{arith}
use native.Mathlib.Nat.{one-mul}
use lib.Pow.{shl_exact}
use lib.Dec.{lit<}
use borrow.Author.Tests.{lt-ltb, le-ltb}
use Rattle.diag_rows.specs.Rows.{timeout_seconds}
use Rattle.diag_rows.proofs.ChildTableEntry.timeout_seconds.Goals as goal

shifted : (e k : ℕ) → 4 ≤ e → e < 32 → k ≡ e - 4 → 1 * 2 ^ k % 2 ^ 32 ≡ timeout_seconds e
unfolding timeout_seconds
shifted e k least most same = rw same (simp (le-ltb e 4 least) (shl_exact 1 (e - 4) 32 (lit< tt) (omega arith) ∙ simp one-mul))

pub returns-then-exponent-lt4 : goal.returns-then-exponent-lt4
unfolding timeout_seconds
returns-then-exponent-lt4 c = simp (lt-ltb _ _ c.if-exponent-lt4.true)

pub returns : goal.returns
returns c = shifted _ _ (omega (arith, c.if-exponent-lt4.false)) (omega arith) (omega arith)
