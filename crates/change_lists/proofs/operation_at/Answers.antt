-- `change_lists::operation_at` meets its contract: the pattern that led to each `return` says which case of `op_frame_at` holds.
use mathlib.Core.Path.{◌≡◌, ap, ◌∙◌}
use mathlib.Core.List.{List}
use Prim.Native.Nat.{ℕ, ◌+◌, ◌-◌, ◌≤◌}
use native.Mathlib.Omega.{arith}
use native.Mathlib.Nat.{add-zero, le_refl}
use lib.ListN.{length, get_or, take, drop, length-drop}
use lib.Seq.{take_all, get_or-drop}
use borrow.Author.Tests.{lt-ltb, le-ltb, le-leb, lt-leb, eq-eqb, ne_eqb}
use Rattle.change_lists.specs.Place.{op_frame_at}
use Rattle.change_lists.specs.declared.OpFrame.TheVariants as o
use Rattle.change_lists.proofs.operation_at.Goals as goal

-- the bytes from the place on
module _ (s : List ℕ) (at : ℕ) where
  all : take (length s - at) (drop at s) ≡ drop at s
  all = take_all (length s - at) (drop at s) (rw length-drop (le_refl _))

  many : length (take (length s - at) (drop at s)) ≡ length s - at
  many = ap length all ∙ length-drop at s

  byte : (k : ℕ) → get_or (take (length s - at) (drop at s)) k 0 ≡ get_or s (at + k) 0
  byte k = ap (λ (l : List ℕ). get_or l k 0) all ∙ get_or-drop at s k 0

  first : get_or (take (length s - at) (drop at s)) 0 0 ≡ get_or s at 0
  first = byte 0 ∙ ap (λ (k : ℕ). get_or s k 0) (add-zero at)

pub returns-then-list-at : goal.returns-then-list-at
unfolding op_frame_at
returns-then-list-at c = simp (le-leb _ _ c.if-list-at.true)

pub returns-in-83 : goal.returns-in-83
unfolding op_frame_at
returns-in-83 c =
    let s = c.args.list.now in
    let at = c.args.at in
    let mark : get_or s at 0 ≡ 83 = omega (arith, first s at) in
    let more : get_or s (at + 1) 0 ≡ 69 = omega (arith, byte s at 1) in
    let long : 3 ≤ length s - at = omega (arith, many s at) in
    simp (lt-leb _ _ c.if-list-at.false, le-ltb _ _ long, eq-eqb _ _ mark, eq-eqb _ _ more) c.set_at.ensures

pub returns-in-82 : goal.returns-in-82
unfolding op_frame_at
returns-in-82 c =
    let s = c.args.list.now in
    let at = c.args.at in
    let mark : get_or s at 0 ≡ 82 = omega (arith, first s at) in
    let more : get_or s (at + 1) 0 ≡ 77 = omega (arith, byte s at 1) in
    let long : 3 ≤ length s - at = omega (arith, many s at) in
    simp (lt-leb _ _ c.if-list-at.false, le-ltb _ _ long, ne_eqb (get_or s at 0) 83 (λ z. omega arith), eq-eqb _ _ mark, eq-eqb _ _ more) (ap o.Remove (omega (arith, byte s at 2)))

pub returns-in_default : goal.returns-in_default
unfolding op_frame_at
returns-in_default c = simp (lt-leb _ _ c.if-list-at.false, lt-ltb (length c.args.list.now - c.args.at) 3 (omega (arith, many c.args.list.now c.args.at)))

pub returns-in_default-2 : goal.returns-in_default-2
unfolding op_frame_at
returns-in_default-2 c =
    let s = c.args.list.now in
    let at = c.args.at in
    let mark : get_or s at 0 ≡ 83 = omega (arith, first s at) in
    let long : 3 ≤ length s - at = omega (arith, many s at) in
    simp (lt-leb _ _ c.if-list-at.false, le-ltb _ _ long, eq-eqb _ _ mark, ne_eqb (get_or s (at + 1) 0) 69 (λ z. omega (arith, byte s at 1)))

pub returns-in_default-3 : goal.returns-in_default-3
unfolding op_frame_at
returns-in_default-3 c =
    let s = c.args.list.now in
    let at = c.args.at in
    let mark : get_or s at 0 ≡ 82 = omega (arith, first s at) in
    let long : 3 ≤ length s - at = omega (arith, many s at) in
    simp (lt-leb _ _ c.if-list-at.false, le-ltb _ _ long, ne_eqb (get_or s at 0) 83 (λ z. omega arith), eq-eqb _ _ mark, ne_eqb (get_or s (at + 1) 0) 77 (λ z. omega (arith, byte s at 1)))

pub returns-in_default-4 : goal.returns-in_default-4
unfolding op_frame_at
returns-in_default-4 c =
    let s = c.args.list.now in
    let at = c.args.at in
    let long : 3 ≤ length s - at = omega (arith, many s at) in
    simp (lt-leb _ _ c.if-list-at.false, le-ltb _ _ long, ne_eqb (get_or s at 0) 83 (λ z. omega (arith, first s at)), ne_eqb (get_or s at 0) 82 (λ z. omega (arith, first s at)))
