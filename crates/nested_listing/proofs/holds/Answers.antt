-- `nested_listing::holds` meets its contract, by the nesting that is still allowed and the type.
use mathlib.Core.Path.{sym, ap, ◌∙◌}
use native.Mathlib.Omega.{arith}
use Rattle.network_framing.specs.Frame.{head_answer}
use Rattle.nested_listing.proofs.Turns.{held_network, held_other, held_prefix, held_tlv, held_last, third_list, prefix_list, prefix_none}
use Rattle.nested_listing.proofs.holds.Goals as goal

pub returns-then-ty-eq7 : goal.returns-then-ty-eq7
returns-then-ty-eq7 c = (held_network _ _ _ c.if-nesting-eq-LEVELS.true c.if-ty-eq7.true, (omega arith, omega arith))

pub returns-then-nesting-eq-LEVELS : goal.returns-then-nesting-eq-LEVELS
returns-then-nesting-eq-LEVELS c = (held_other _ _ _ c.if-nesting-eq-LEVELS.true c.if-ty-eq7.false, tt)

pub returns-in-Some : goal.returns-in-Some
returns-in-Some c =
    let two = c.if-nesting-eq2.true in
    let at = prefix_list _ _ (sym (ap head_answer c.in-Some.is) ∙ c.head_at.ensures) in
    (third_list _ _ two ∙ at.1 ∙ held_prefix _ _ _ two c.if-ty-eq1.true, (omega arith, at.0))

pub returns-in-None : goal.returns-in-None
returns-in-None c =
    let short = prefix_none _ _ _ _ (sym (ap head_answer c.in-None.is) ∙ c.head_at.ensures) in
    (short ∙ held_prefix _ _ _ c.if-nesting-eq2.true c.if-ty-eq1.true, omega arith)

pub returns-else-ty-eq1 : goal.returns-else-ty-eq1
returns-else-ty-eq1 c = (held_tlv _ _ _ c.if-nesting-eq2.true c.if-ty-eq1.false, tt)

pub returns-else-nesting-eq2 : goal.returns-else-nesting-eq2
returns-else-nesting-eq2 c = (held_last _ _ _ c.if-nesting-eq-LEVELS.false c.if-nesting-eq2.false, tt)
