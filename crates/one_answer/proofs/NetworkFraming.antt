-- One possible answer for each public call of `network_framing`.
-- Assumes nothing.
use mathlib.Core.Path.{◌∙◌, refl, sym}
use Rattle.network_framing.proofs.Agrees.{head_tells, sub_tells}
use Rattle.one_answer.proofs.General.{both}
use Rattle.one_answer.specs.One.{One}

-- network_framing::sub_in
pub sub_in : One Rattle.network_framing.specs.contracts.sub_in.ended (λ M 𝓤. Rattle.network_framing.specs.contracts.sub_in.clauses)
sub_in x r q left over = both x.𝓤 _ _ _ (λ e f. (sub_tells r q (e ∙ sym f), refl))

-- network_framing::sub_at
pub sub_at : One Rattle.network_framing.specs.contracts.sub_at.ended (λ M 𝓤. Rattle.network_framing.specs.contracts.sub_at.clauses)
sub_at x r q left over = both x.𝓤 _ _ _ (λ e f. (sub_tells r q (e ∙ sym f), refl))

-- network_framing::head_at
pub head_at : One Rattle.network_framing.specs.contracts.head_at.ended (λ M 𝓤. Rattle.network_framing.specs.contracts.head_at.clauses)
head_at x r q left over = both x.𝓤 _ _ _ (λ e f. (head_tells r q (e ∙ sym f), refl))
