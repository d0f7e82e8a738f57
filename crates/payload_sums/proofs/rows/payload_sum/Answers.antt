-- `payload_sums::rows::payload_sum` meets its contract.
use mathlib.Core.Path.{◌∙◌, refl}
use Rattle.route64.specs.Routes.{route_of}
use Rattle.diag_rows.specs.Rows.{child_rows, addresses}
use Rattle.diag.specs.Answers.{diag_of}
use Rattle.payload_sums.specs.Rows.{routes, children, addresses_sum, payload_sum}
use Rattle.value_sums.proofs.Adds.{adds}
use Rattle.payload_sums.proofs.Rowed.{part_by, routes_inside, children_inside, addresses_inside, of_part_lem}
use Rattle.payload_sums.proofs.rows.payload_sum.Goals as goal
use Rattle.refusal.specs.Results.{option_of}

pub in_part-requires-clause-within : goal.in_part-requires-clause-within
in_part-requires-clause-within c = routes_inside _ _ c.requires

pub in_part-requires-2-clause-within : goal.in_part-requires-2-clause-within
in_part-requires-2-clause-within c = children_inside _ _ c.requires

pub in_part-requires-3-clause-within : goal.in_part-requires-3-clause-within
in_part-requires-3-clause-within c = addresses_inside _ _ c.requires

pub returns : goal.returns
unfolding payload_sum diag_of
returns c =
    let s = c.args.payload.now in
    let d = c.args.d in
    let n1 = adds c.plus-n.ensures refl c.values_sum.ensures in
    let n2 = adds c.plus-n-2.ensures n1 c.parts_sum.ensures in
    let n3 = adds c.plus-n-3.ensures n2 (part_by routes s _ (λ v r h. h) _ _ c.in_part.ensures ∙ of_part_lem route_of _ routes (option_of d.route64)) in
    let n4 = adds c.plus-n-4.ensures n3 (part_by children s _ (λ v r h. h) _ _ c.in_part-2.ensures ∙ of_part_lem child_rows _ children (option_of d.child_table)) in
    let n5 = adds c.plus-n-5.ensures n4 (part_by addresses_sum s _ (λ v r h. h) _ _ c.in_part-3.ensures ∙ of_part_lem addresses _ addresses_sum (option_of d.addresses)) in
    adds c.plus.ensures n5 c.lists_sum.ensures
