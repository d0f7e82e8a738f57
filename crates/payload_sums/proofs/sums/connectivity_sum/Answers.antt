-- `payload_sums::sums::connectivity_sum` meets its contract.
use Rattle.value_sums.proofs.Adds.{adds}
use mathlib.Core.Path.{refl, ◌∙◌}
use Rattle.payload_sums.proofs.Sizes.{number_is}
use Rattle.payload_sums.proofs.sums.connectivity_sum.Goals as goal

pub returns : goal.returns
returns c =
    let n1 = adds c.plus-n.ensures refl c.rank.ensures in
    let n2 = adds c.plus-n-2.ensures n1 refl in
    let n3 = adds c.plus-n-3.ensures n2 refl in
    let n4 = adds c.plus-n-4.ensures n3 refl in
    let n5 = adds c.plus-n-5.ensures n4 refl in
    let n6 = adds c.plus-n-6.ensures n5 refl in
    let n7 = adds c.plus-n-7.ensures n6 refl in
    let n8 = adds c.plus-n-8.ensures n7 (c.from.ensures ∙ c.unwrap_or.ensures ∙ number_is c.args.c.rx_off_child_buffer_size) in
    adds c.plus.ensures n8 (c.from-2.ensures ∙ c.unwrap_or-2.ensures ∙ number_is c.args.c.rx_off_child_datagram_count)
