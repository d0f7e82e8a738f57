-- `payload_sums::sums::parts_sum` meets its contract.
use mathlib.Core.Path.{◌∙◌, refl}
use Rattle.diag.specs.Diag.{raw}
use Rattle.diag.specs.Answers.{diag_of}
use Rattle.payload_sums.specs.Sums.{part_len, parts_sum}
use Rattle.value_sums.proofs.Adds.{adds}
use Rattle.payload_sums.proofs.Sizes.{part_size, or_zero_plain}
use Rattle.payload_sums.proofs.sums.parts_sum.Goals as goal
use Rattle.refusal.specs.Results.{option_of}

pub returns : goal.returns
unfolding parts_sum diag_of
returns c =
    let s = c.args.payload.now in
    let d = c.args.d in
    let n1 = adds c.plus-n.ensures refl refl in
    let n2 = adds c.plus-n-2.ensures n1 (or_zero_plain part_len _ (λ v r h. h) _ _ c.or_zero.ensures ∙ part_size raw s (option_of d.ext_mac_addr)) in
    let n3 = adds c.plus-n-3.ensures n2 (or_zero_plain part_len _ (λ v r h. h) _ _ c.or_zero-2.ensures ∙ part_size raw s (option_of d.channel_pages)) in
    let n4 = adds c.plus-n-4.ensures n3 (or_zero_plain part_len _ (λ v r h. h) _ _ c.or_zero-3.ensures ∙ part_size raw s (option_of d.type_list)) in
    adds c.plus.ensures n4 (or_zero_plain part_len _ (λ v r h. h) _ _ c.or_zero-4.ensures ∙ part_size raw s (option_of d.eui64))
