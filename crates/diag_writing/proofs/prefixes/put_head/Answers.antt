-- `diag_writing::prefixes::put_head` meets its contract.
use mathlib.Core.Path.{refl, ◌∙◌}
use native.Mathlib.Omega.{arith}
use lib.ListN.{length-set}
use Rattle.diag_writing.proofs.PrefixParts.{front_full, head_size, head_put}
use Rattle.diag_writing.proofs.prefixes.put_head.Goals as goal

pub bounds-out-start-2 : goal.bounds-out-start-2
bounds-out-start-2 c =
    let size = head_size c.args.e _ c.well_formed.0 in
    let e = c.put_mark-start.ensures.0 in
    let same = c.put_mark-start.auto.out in
    simp length-set (omega arith)

pub put_front-next-requires : goal.put_front-next-requires
put_front-next-requires c =
    let size = head_size c.args.e _ c.well_formed.0 in
    let e = c.put_mark-start.ensures.0 in
    let same = c.put_mark-start.auto.out in
    (omega arith, simp length-set (omega arith))

pub put_rows_mark-requires : goal.put_rows_mark-requires
put_rows_mark-requires c =
    let size = head_size c.args.e _ c.well_formed.0 in
    let e = c.put_mark-start.ensures.0 in
    let same = c.put_mark-start.auto.out in
    let g = c.put_front-next.ensures.0 in
    let kept = simp length-set at c.put_front-next.auto.out in
    omega arith

pub shape_of-out : goal.shape_of-out
shape_of-out c =
    let kept = simp length-set at c.put_front-next.auto.out in
    c.put_rows_mark.auto.out ∙ kept ∙ c.put_mark-start.auto.out

pub returns : goal.returns
returns c =
    let size = head_size c.args.e _ c.well_formed.0 in
    let e = c.put_mark-start.ensures.0 in
    let g = c.put_front-next.ensures.0 in
    let k = c.put_rows_mark.ensures.0 in
    (omega arith, c.put_rows_mark.ensures.1 ∙ head_put c.args.e _ _ _ _ _ _ _ _ c.put_mark-start.ensures.1 refl e c.value_size.ensures c.put_front-next.ensures.1 (omega (arith, front_full c.args.e _ c.well_formed.0)))
