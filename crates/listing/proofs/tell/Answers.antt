-- `listing::tell` meets its contract: what is given, and 11, as they are; the line of any other refusal.
use mathlib.Core.Path.{sym, ◌∙◌}
use Rattle.listing.proofs.Tells.{telling_given, telling_eleven, telling_other}
use Rattle.listing.proofs.tell.Goals as goal

pub returns-in_default : goal.returns-in_default
returns-in_default c = rw c.in_default.is (telling_given _ _)

pub returns-then-number-eq11 : goal.returns-then-number-eq11
returns-then-number-eq11 c = rw c.in-Err.is (telling_eleven _ _ _ _ (sym c.number-number.ensures ∙ c.if-number-eq11.true))

pub returns : goal.returns
returns c =
    let other = telling_other _ _ _ _ (λ eleven. c.if-number-eq11.false (c.number-number.ensures ∙ eleven)) in
    rw c.in-Err.is (rw c.number-number.ensures at c.write_refused.ensures ∙ other)
