-- `writing_plans::routers::mask_agrees` meets its contract. The invariant: the rows from n on are the routers that are to come where all the rows are the mask's.
use mathlib.Core.Path.{sym, ap, ◌∙◌}
use mathlib.Core.List.{◌∷◌}
use Prim.Native.Nat.{ℕ, ◌+◌, ◌<◌}
use native.Mathlib.Omega.{arith}
use Rattle.diag_rules.proofs.Bits.{top, to_come, to_come_first, to_come_take, to_come_next, to_come_end}
use Rattle.writing_plans.proofs.Routing.{mask_small, full_rows, mask_byte, agree, agree_start, agree_end, agree_short, agree_other, agree_hit}
use borrow.Author.Rules.{rules}
use Rattle.writing_plans.proofs.routers.mask_agrees.Goals as goal

pub loop-left-init : goal.loop-left-init
loop-left-init c =
    let t = c.args.t in
    (omega arith, mask_small t _ c.well_formed.0 0, search rules, ap (λ (b : ℕ). agree t 0 (to_come (0 ∷ t.mask) 0 b)) (sym (mask_byte t.mask 0)) ∙ ap (agree t 0) (to_come_first (0 ∷ t.mask)) ∙ agree_start t)

pub overflow_add-j : goal.overflow_add-j
overflow_add-j c = let l = c.loop-left in omega arith

pub returns-then-j-eq-ROUTER_ID_MASK_LEN : goal.returns-then-j-eq-ROUTER_ID_MASK_LEN
returns-then-j-eq-ROUTER_ID_MASK_LEN c =
    let l = c.loop-left in
    let t = c.args.t in
    let wide = full_rows t _ c.well_formed.0 in
    let end = to_come_end (0 ∷ t.mask) l.j l.left (omega (arith, c.if-left-eq0.true)) (omega (arith, c.if-j-eq-ROUTER_ID_MASK_LEN.true)) in
    sym (agree_end t l.n l.invariant.2 (omega (arith, c.requires))) ∙ sym (ap (agree t l.n) end) ∙ l.invariant.3

pub bounds-t-j : goal.bounds-t-j
bounds-t-j c =
    let l = c.loop-left in
    let other = c.if-j-eq-ROUTER_ID_MASK_LEN.false in
    omega arith

pub loop-left-smaller-then-left-eq0 : goal.loop-left-smaller-then-left-eq0
loop-left-smaller-then-left-eq0 c =
    let byte = mask_small c.args.t _ c.well_formed.0 (c.loop-left.j + 1) in
    omega arith

pub loop-left-preserved-then-left-eq0 : goal.loop-left-preserved-then-left-eq0
loop-left-preserved-then-left-eq0 c =
    let l = c.loop-left in
    let t = c.args.t in
    let other = c.if-j-eq-ROUTER_ID_MASK_LEN.false in
    let low : l.j + 1 < 8 = omega arith in
    let next = to_come_next (0 ∷ t.mask) l.j l.left (omega (arith, c.if-left-eq0.true)) low in
    let byte = ap (to_come (0 ∷ t.mask) (l.j + 1)) (mask_byte t.mask (l.j + 1)) in
    (low, mask_small t _ c.well_formed.0 (l.j + 1), l.invariant.2, sym (ap (agree t l.n) (next ∙ byte)) ∙ l.invariant.3)

pub returns-then-n-t : goal.returns-then-n-t
returns-then-n-t c =
    let l = c.loop-left in
    let t = c.args.t in
    let take = to_come_take (0 ∷ t.mask) l.j l.left l.invariant.1 (omega (arith, c.if-left-eq0.false)) in
    sym (agree_short t l.n _ _ c.if-n-t.true) ∙ sym (ap (agree t l.n) take) ∙ l.invariant.3

pub overflow_cast-bit : goal.overflow_cast-bit
overflow_cast-bit c =
    let l = c.loop-left in
    let w = top l.left l.invariant.1 (omega (arith, c.if-left-eq0.false)) in
    omega arith

pub overflow_cast-j : goal.overflow_cast-j
overflow_cast-j c = let l = c.loop-left in omega arith

pub overflow_mul-j : goal.overflow_mul-j
overflow_mul-j c = let l = c.loop-left in omega arith

pub overflow_add-j-else-left-eq0 : goal.overflow_add-j-else-left-eq0
overflow_add-j-else-left-eq0 c =
    let l = c.loop-left in
    let w = top l.left l.invariant.1 (omega (arith, c.if-left-eq0.false)) in
    omega arith

pub returns-then-row-j : goal.returns-then-row-j
returns-then-row-j c =
    let l = c.loop-left in
    let t = c.args.t in
    let wide = full_rows t _ c.well_formed.0 in
    let take = to_come_take (0 ∷ t.mask) l.j l.left l.invariant.1 (omega (arith, c.if-left-eq0.false)) in
    sym (agree_other t l.n _ _ _ c.if-n-t.false (omega (arith, c.requires)) c.if-row-j.true) ∙ sym (ap (agree t l.n) take) ∙ l.invariant.3

pub overflow_shr-left : goal.overflow_shr-left
overflow_shr-left c =
    let w = top c.loop-left.left c.loop-left.invariant.1 (omega (arith, c.if-left-eq0.false)) in
    omega arith

pub overflow_sub-left : goal.overflow_sub-left
overflow_sub-left c =
    let w = top c.loop-left.left c.loop-left.invariant.1 (omega (arith, c.if-left-eq0.false)) in
    omega arith

pub loop-left-smaller : goal.loop-left-smaller
loop-left-smaller c =
    let w = top c.loop-left.left c.loop-left.invariant.1 (omega (arith, c.if-left-eq0.false)) in
    omega arith

pub loop-left-preserved : goal.loop-left-preserved
loop-left-preserved c =
    let l = c.loop-left in
    let t = c.args.t in
    let wide = full_rows t _ c.well_formed.0 in
    let w = top l.left l.invariant.1 (omega (arith, c.if-left-eq0.false)) in
    let take = to_come_take (0 ∷ t.mask) l.j l.left l.invariant.1 (omega (arith, c.if-left-eq0.false)) in (
      l.invariant.0,
      omega arith,
      omega arith,
      agree_hit t l.n _ _ _ c.if-n-t.false (omega (arith, c.requires)) c.if-row-j.false ∙ sym (ap (agree t l.n) take) ∙ l.invariant.3,
    )
