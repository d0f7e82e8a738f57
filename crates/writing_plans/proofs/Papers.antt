-- The meaning of a plan tells plans apart, so that a contract on it determines the plan.
-- Assumes nothing.
use mathlib.Core.Path.{ap, ◌∙◌}
use Rattle.std.specs.Prelude.{ℕ, Result}
use Rattle.refusal.proofs.Papers.{Tells, answer_tells}
use Rattle.refusal.specs.declared.Refusal.{Refusal}
use Rattle.writing_walks.specs.declared.Plan.{Plan}
use Rattle.writing_plans.specs.Plans.{Planning, plan_paper}

abbrev plan : Result ℕ Refusal → Planning → Plan
plan x n = record { answer = x; go = n.go; prefixes = n.prefixes; network = n.network; children = n.children; lists = n.lists }

pub plan_tells : Tells plan_paper
plan_tells a b e =
    ap (λ (x : Result ℕ Refusal). plan x (plan_paper a)) (answer_tells a.answer b.answer (ap (λ (x : Planning). x.answer) e))
    ∙ ap (λ (x : Planning). plan b.answer x) e
