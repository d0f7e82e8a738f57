-- One possible answer for each public call of `network_walker`.
-- Assumes nothing.
use mathlib.Core.Path.{◌∙◌, ap, refl, sym}
use Rattle.network_framing.proofs.Agrees.{sub_tells}
use Rattle.one_answer.proofs.General.{both}
use Rattle.one_answer.specs.One.{One, OneBy}

-- network_walker::NetworkDataTlvIter::new
pub new : OneBy Rattle.network_walker.specs.contracts.NetworkDataTlvIter.new.ended (λ κs r. r.bytes.now) (λ M 𝓤. Rattle.network_walker.specs.contracts.NetworkDataTlvIter.new.clauses)
new x r q left over = both x.𝓤 _ _ _ (λ e f. (ap (λ x. x.now) (e ∙ sym f), refl))

-- network_walker::NetworkDataTlvIter::item
pub item : One Rattle.network_walker.specs.contracts.NetworkDataTlvIter.item.ended (λ M 𝓤. Rattle.network_walker.specs.contracts.NetworkDataTlvIter.item.clauses)
item x r q left over = both x.𝓤 _ _ _ (λ e f. (sub_tells r q (e ∙ sym f), refl))

-- network_walker::NetworkDataTlvIter::rest
pub rest : OneBy Rattle.network_walker.specs.contracts.NetworkDataTlvIter.rest.ended (λ κs r. r.bytes.now) (λ M 𝓤. Rattle.network_walker.specs.contracts.NetworkDataTlvIter.rest.clauses)
rest x r q left over = both x.𝓤 _ _ _ (λ e f. (e ∙ sym f, refl))

-- network_walker::first_tlv
pub first_tlv : One Rattle.network_walker.specs.contracts.first_tlv.ended (λ M 𝓤. Rattle.network_walker.specs.contracts.first_tlv.clauses)
first_tlv x r q left over = both x.𝓤 _ _ _ (λ e f. (sub_tells r q (e ∙ sym f), refl))

-- network_walker::after_first
pub after_first : OneBy Rattle.network_walker.specs.contracts.after_first.ended (λ κs r. r.now) (λ M 𝓤. Rattle.network_walker.specs.contracts.after_first.clauses)
after_first x r q left over = both x.𝓤 _ _ _ (λ e f. (e ∙ sym f, refl))
