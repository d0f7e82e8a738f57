-- `payload_sums::sums::values_sum` meets its contract.
use mathlib.Core.Path.{refl, ◌∙◌}
use Rattle.connectivity.specs.Answers.{connectivity_paper}
use Rattle.value_sums.specs.Sums.{mode_sum}
use Rattle.payload_sums.proofs.Sizes.{number_is, or_zero_by, or_zero_plain}
use Rattle.diag.specs.Answers.{network_paper, diag_of}
use Rattle.payload_sums.specs.Sums.{leader_sum, counters_sum, connectivity_sum, network_sum, values_sum}
use Rattle.value_sums.proofs.Adds.{adds}
use Rattle.payload_sums.proofs.sums.values_sum.Goals as goal

pub returns : goal.returns
unfolding values_sum diag_of
returns c =
    let n1 = adds c.plus-n.ensures refl (c.from.ensures ∙ c.unwrap_or.ensures ∙ number_is c.args.d.mac_addr) in
    let n2 = adds c.plus-n-2.ensures n1 (c.from-2.ensures ∙ c.unwrap_or-2.ensures ∙ number_is c.args.d.timeout) in
    let n3 = adds c.plus-n-3.ensures n2 (c.from-3.ensures ∙ c.unwrap_or-3.ensures ∙ number_is c.args.d.battery_level) in
    let n4 = adds c.plus-n-4.ensures n3 (c.from-4.ensures ∙ c.unwrap_or-4.ensures ∙ number_is c.args.d.supply_voltage) in
    let n5 = adds c.plus-n-5.ensures n4 (or_zero_plain mode_sum _ (λ v r h. h) _ _ c.or_zero.ensures) in
    let n6 = adds c.plus-n-6.ensures n5 (or_zero_plain leader_sum _ (λ v r h. h) _ _ c.or_zero-2.ensures) in
    let n7 = adds c.plus-n-7.ensures n6 (or_zero_by (network_paper c.args.payload.now) network_sum _ (λ v r h. h) _ _ c.or_zero-3.ensures) in
    let n8 = adds c.plus-n-8.ensures n7 (or_zero_by connectivity_paper connectivity_sum _ (λ v r h. h) _ _ c.or_zero-4.ensures) in
    adds c.plus.ensures n8 (or_zero_plain counters_sum _ (λ v r h. h) _ _ c.or_zero-5.ensures)
