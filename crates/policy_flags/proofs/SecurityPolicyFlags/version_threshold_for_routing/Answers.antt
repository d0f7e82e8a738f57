-- `policy_flags::SecurityPolicyFlags::version_threshold_for_routing` meets its contract.
use mathlib.Core.Path.{sym, ◌∙◌}
use Rattle.policy_flags.specs.Threshold.{version_of}
use Rattle.policy_flags.proofs.Thresholds.{has_legacy, no_legacy, field_is, threshold_legacy, threshold_is, four_up, seven}
use Rattle.policy_flags.proofs.SecurityPolicyFlags.version_threshold_for_routing.Goals as goal

pub returns-then-contains : goal.returns-then-contains
returns-then-contains c = threshold_legacy _ (has_legacy _ (sym c.contains.ensures ∙ c.if-contains.true))

pub returns-in-0 : goal.returns-in-0
unfolding version_of
returns-in-0 c = threshold_is _ 0 (no_legacy _ (sym c.contains.ensures ∙ c.if-contains.false)) (sym (field_is _) ∙ c.in-0.is)

pub returns-in-1 : goal.returns-in-1
unfolding version_of
returns-in-1 c = threshold_is _ 1 (no_legacy _ (sym c.contains.ensures ∙ c.if-contains.false)) (sym (field_is _) ∙ c.in-1.is)

pub returns-in-2 : goal.returns-in-2
unfolding version_of
returns-in-2 c = threshold_is _ 2 (no_legacy _ (sym c.contains.ensures ∙ c.if-contains.false)) (sym (field_is _) ∙ c.in-2.is)

pub returns-in-3 : goal.returns-in-3
unfolding version_of
returns-in-3 c = threshold_is _ 3 (no_legacy _ (sym c.contains.ensures ∙ c.if-contains.false)) (sym (field_is _) ∙ c.in-3.is)

pub returns-in-4 : goal.returns-in-4
unfolding version_of
returns-in-4 c = threshold_is _ 4 (no_legacy _ (sym c.contains.ensures ∙ c.if-contains.false)) (sym (field_is _) ∙ c.in-4.is)

pub returns-in-5 : goal.returns-in-5
unfolding version_of
returns-in-5 c = threshold_is _ 5 (no_legacy _ (sym c.contains.ensures ∙ c.if-contains.false)) (sym (field_is _) ∙ c.in-5.is)

pub returns-in-6 : goal.returns-in-6
unfolding version_of
returns-in-6 c = threshold_is _ 6 (no_legacy _ (sym c.contains.ensures ∙ c.if-contains.false)) (sym (field_is _) ∙ c.in-6.is)

pub returns-in_default : goal.returns-in_default
unfolding version_of
returns-in_default c =
    let r = c.in_default.in_default-own.rest in
    let upper = four_up _ r.0.0.0.0.0.0.1 r.0.0.0.0.0.1 r.0.0.0.0.1 r.0.0.0.1 in
    threshold_is _ 7 (no_legacy _ (sym c.contains.ensures ∙ c.if-contains.false)) (seven _ _ (field_is _) upper r.0.0.1 r.0.1 r.1)
