-- One possible answer for each public call of `change_lists`.
-- Assumes nothing.
use mathlib.Core.Path.{◌∙◌, refl, sym}
use Rattle.one_answer.proofs.General.{both, both_first, step_tells}
use Rattle.one_answer.specs.One.{One, OneBy, OneByEach}
use Rattle.refusal.proofs.Papers.{answer_tells}
use Rattle.std.specs.Option.{option_map}
use Rattle.change_lists.specs.Walk.{as_op, left, left as rest}

-- change_lists::operation_at
pub operation_at : One Rattle.change_lists.specs.contracts.operation_at.ended (λ M 𝓤. Rattle.change_lists.specs.contracts.operation_at.clauses)
operation_at x r q left over = both x.𝓤 _ _ _ (λ e f. (e ∙ sym f, refl))

-- change_lists::count_operations
pub count_operations : One Rattle.change_lists.specs.contracts.count_operations.ended (λ M 𝓤. Rattle.change_lists.specs.contracts.count_operations.clauses)
count_operations x r q left over = both x.𝓤 _ _ _ (λ e f. (answer_tells r q (e ∙ sym f), refl))

-- change_lists::operations
pub operations : OneBy Rattle.change_lists.specs.contracts.operations.ended (λ κs r. left r) (λ M 𝓤. Rattle.change_lists.specs.contracts.operations.clauses)
operations x r q left over = both x.𝓤 _ _ _ (λ e f. (e ∙ sym f, refl))

-- change_lists::OperationIter::next
pub next : OneByEach Rattle.change_lists.specs.contracts.walk.OperationIterIterator.next.ended (λ κs r. option_map as_op r) (λ κs a w. left w.0) (λ M 𝓤. Rattle.change_lists.specs.contracts.walk.OperationIterIterator.next.clauses)
next x r q left over = both_first x.𝓤 _ _ _ _ _ (step_tells as_op rest x.passed.0.now left.0 over.0 r q)
