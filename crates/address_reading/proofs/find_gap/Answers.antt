-- `address_reading::find_gap` meets its contract.
use mathlib.Core.Path.{◌≡◌, sym, ◌∙◌}
use mathlib.Core.Bool.{true, false, ◌&&◌}
use mathlib.Core.List.{List}
use Prim.Native.Nat.{ℕ, ◌+◌, ◌-◌, ◌<◌}
use native.Mathlib.Omega.{arith}
use lib.Dec.{eqb}
use lib.ListN.{length, get_or, drop}
use Rattle.address_forms.specs.AddressRead.{gap_of}
use Rattle.address_forms.proofs.Gaps.{gap_here, gap_next, gap_end}
use Rattle.address_reading.proofs.find_gap.Goals as goal

-- a turn at i, after the character at j
module _ (t : List ℕ) (i j : ℕ) (after : i ≡ j + 1) (inside : i < length t) (so_far : j + gap_of (drop j t) ≡ gap_of t) where
  found : (eqb (get_or t j 0) 58 && eqb (get_or t i 0) 58) ≡ true → j ≡ gap_of t
  found e = omega (arith, gap_here t j (rw (← after) inside) (rw (← after) e))

  missed : (eqb (get_or t j 0) 58 && eqb (get_or t i 0) 58) ≡ false → i + 1 - 1 + gap_of (drop (i + 1 - 1) t) ≡ gap_of t
  missed e =
      let k : i + 1 - 1 ≡ j + 1 = omega arith in
      rw k (gap_next t j (rw (← after) inside) (rw (← after) e) ∙ so_far)

pub returns-then-text-i : goal.returns-then-text-i
returns-then-text-i c = found c.args.text.now c.loop-i.i (c.loop-i.i - 1) (omega arith) c.loop-i-test.true c.loop-i.invariant.1 c.if-text-i.true

pub loop-i-preserved : goal.loop-i-preserved
loop-i-preserved c =
    (omega arith, missed c.args.text.now c.loop-i.i (c.loop-i.i - 1) (omega arith) c.loop-i-test.true c.loop-i.invariant.1 c.if-text-i.false)

pub returns : goal.returns
returns c = sym (gap_end c.args.text.now (c.loop-i.i - 1) (omega arith) (omega arith)) ∙ c.loop-i.invariant.1
