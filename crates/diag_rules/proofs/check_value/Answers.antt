-- `diag_rules::check_value` meets its contract: one law for each of its three answers.
use mathlib.Core.Path.{sym, ap, ◌∙◌}
use borrow.Author.Tests.{lt-ltb, le-ltb}
use Rattle.diag_rules.specs.Answers.{judged}
use Rattle.diag_rules.proofs.Kept.{value_large, value_kept, value_broken}
use Rattle.diag_rules.proofs.check_value.Goals as goal

pub returns-then-value-gt-MAX_BYTES : goal.returns-then-value-gt-MAX_BYTES
returns-then-value-gt-MAX_BYTES c = c.refuse.ensures ∙ sym (ap judged (value_large _ _ _ (lt-ltb _ _ c.if-value-gt-MAX_BYTES.true)))

pub returns-then-keeps_rule : goal.returns-then-keeps_rule
returns-then-keeps_rule c =
    sym (ap judged (value_kept _ _ _ (le-ltb _ _ c.if-value-gt-MAX_BYTES.false) (sym c.keeps_rule.ensures ∙ c.if-keeps_rule.true)))

pub returns : goal.returns
returns c =
    c.refuse-2.ensures ∙ sym (ap judged (value_broken _ _ _ (le-ltb _ _ c.if-value-gt-MAX_BYTES.false) (sym c.keeps_rule.ensures ∙ c.if-keeps_rule.false)))
