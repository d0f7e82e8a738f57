-- One possible answer for each public call of `child_lists`.
-- Assumes nothing.
use mathlib.Core.Path.{◌∙◌, refl, sym}
use Rattle.child_lists.proofs.Papers.{child_list_tells}
use Rattle.one_answer.proofs.General.{both}
use Rattle.one_answer.specs.One.{One}
use Rattle.refusal.proofs.Papers.{option_tells}

-- child_lists::next_child_list
pub next_child_list : One Rattle.child_lists.specs.contracts.next_child_list.ended (λ M 𝓤. Rattle.child_lists.specs.contracts.next_child_list.clauses)
next_child_list x r q left over = both x.𝓤 _ _ _ (λ e f. (option_tells r q (e ∙ sym f), refl))

-- child_lists::child_list
pub child_list : One Rattle.child_lists.specs.contracts.child_list.ended (λ M 𝓤. Rattle.child_lists.specs.contracts.child_list.clauses)
child_list x r q left over = both x.𝓤 _ _ _ (λ e f. (child_list_tells x.passed.0.now r q (e ∙ sym f), refl))
