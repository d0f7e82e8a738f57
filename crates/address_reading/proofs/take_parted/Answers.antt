-- `address_reading::take_parted` meets its contract. The invariant is `Going`: the rest of the text from its next character on is to what was taken as the whole
-- text is to nothing taken.
use mathlib.Core.Path.{refl, ◌∙◌}
use native.Mathlib.Omega.{arith}
use Rattle.address_reading.proofs.Turns.{going_start, going_colon, stops_colon, going_digit, digit_fits, stops_digit, going_end}
use Rattle.address_reading.proofs.take_parted.Goals.{then-c-eq58+else-count-eq-NO_GROUPS, else-c-eq58+else-d-eq16}
use Rattle.address_reading.proofs.take_parted.Goals as goal

pub loop-c-init : goal.loop-c-init
loop-c-init c = (omega arith, refl, going_start _ _)

pub shape_of-out-then-count-eq-NO_GROUPS : goal.shape_of-out-then-count-eq-NO_GROUPS
shape_of-out-then-count-eq-NO_GROUPS c = c.end_group-count.auto.out ∙ c.loop-c.invariant.1

pub returns-then-count-eq-NO_GROUPS : goal.returns-then-count-eq-NO_GROUPS
returns-then-count-eq-NO_GROUPS c =
    let l = c.loop-c in
    stops_colon _ _ _ _ _ _ l.c-index l.invariant.2 (omega arith) (omega arith) _ _ c.end_group-count.ensures (omega arith) (omega arith)

pub shape_of-out-then-d-eq16 : goal.shape_of-out-then-d-eq16
shape_of-out-then-d-eq16 c = c.loop-c.invariant.1

pub returns-then-d-eq16 : goal.returns-then-d-eq16
returns-then-d-eq16 c =
    let l = c.loop-c in
    stops_digit _ _ _ _ _ _ l.c-index l.invariant.2 (omega arith) (λ z. omega arith) _ c.next_digit-d.ensures (omega arith) (omega arith)

pub overflow_mul-v : goal.overflow_mul-v
overflow_mul-v c =
    let l = c.loop-c in
    let fits = digit_fits _ _ _ _ _ _ l.c-index l.invariant.2 (omega arith) (λ z. omega arith) _ c.next_digit-d.ensures (λ z. omega arith) in
    omega arith

pub overflow_add-v : goal.overflow_add-v
overflow_add-v c =
    let l = c.loop-c in
    let fits = digit_fits _ _ _ _ _ _ l.c-index l.invariant.2 (omega arith) (λ z. omega arith) _ c.next_digit-d.ensures (λ z. omega arith) in
    omega arith

pub loop-c-preserved : goal.loop-c-preserved
loop-c-preserved c =
    let l = c.loop-c in
    elim c.if-c-eq58.branch [
      | then-c-eq58+else-count-eq-NO_GROUPS w ↦
          let g = going_colon _ _ _ _ _ _ l.c-index l.invariant.2 (omega arith) (omega arith) _ _ w.end_group-count.ensures (λ z. omega arith) in
          rw (w.count-is, w.n-is, w.v-is, w.out-is) (g.0, w.end_group-count.auto.out ∙ l.invariant.1, g.1)
      | else-c-eq58+else-d-eq16 w ↦
          let g = going_digit _ _ _ _ _ _ l.c-index l.invariant.2 (omega arith) (λ z. omega arith) _ w.next_digit-d.ensures (λ z. omega arith) in
          rw (w.count-is, w.n-is, w.v-is, w.out-is) (l.invariant.0, l.invariant.1, g)
    ]

pub shape_of-out : goal.shape_of-out
shape_of-out c = c.end_group.auto.out ∙ c.loop-c.invariant.1

pub returns : goal.returns
returns c =
    let l = c.loop-c in
    going_end _ _ _ _ _ _ l.c-index l.invariant.2 (omega arith) _ _ (omega arith) c.end_group.ensures
