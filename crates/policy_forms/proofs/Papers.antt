-- The meanings of the code's answers tell them apart, so that a contract on a meaning determines the answer.
-- Assumes nothing.
use mathlib.Core.Path.{◌≡◌, refl}
use lib.Dec.{eqb}
use Rattle.std.specs.Prelude.{Result, Option}
use Rattle.refusal.specs.Answer.{pick, Answer, on_given}
use Rattle.refusal.specs.Results.{answer_of, found_of}
use Rattle.refusal.specs.declared.Refusal.{Refusal}
use Rattle.refusal.proofs.Papers.{Tells, tells, answer_tells, found_tells}
use Rattle.laws.proofs.Answers.{on_tells}
use Rattle.policy_forms.specs.Forms.{Numbers, numbers_of}
use Rattle.policy_forms.specs.declared.EitherPolicy.{EitherPolicy}
use Rattle.policy_forms.specs.declared.EitherPolicy.TheVariants as p

-- a policy of its numbers
abbrev policy_from : Numbers → EitherPolicy
policy_from n =
    pick (eqb n.size 3) (p.Three (record { rotation_time = n.rotation; flags = n.flags }))
    (p.Four (record { rotation_time = n.rotation; flags = record { 0 = n.flags } }))

policy_from_lem : (x : EitherPolicy) → policy_from (numbers_of x) ≡ x
policy_from_lem (p.Three x) = refl
policy_from_lem (p.Four x) = refl

pub numbers_tell : Tells numbers_of
numbers_tell = tells numbers_of policy_from policy_from_lem

-- the numbers that a read answers, and those that a query answers
abbrev pub either_answer : Result EitherPolicy Refusal → Answer Numbers
either_answer a = on_given numbers_of (answer_of a)

abbrev pub either_found : Result (Option EitherPolicy) Refusal → Answer Numbers
either_found a = on_given numbers_of (found_of a)

pub either_tells : Tells either_answer
either_tells a b e = answer_tells a b (on_tells numbers_of numbers_tell (answer_of a) (answer_of b) e)

pub found_either_tells : Tells either_found
found_either_tells a b e = found_tells a b (on_tells numbers_of numbers_tell (found_of a) (found_of b) e)
