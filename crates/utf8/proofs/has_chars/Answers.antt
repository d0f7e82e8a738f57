-- `utf8::has_chars` meets its contract. The invariant: from here on s is UTF-8 exactly where all of it is.
use mathlib.Core.Path.{refl, sym, ◌∙◌}
use native.Mathlib.Omega.{arith}
use borrow.Author.Tests.{lt-ltb}
use borrow.Author.Rules.{rules}
use Rattle.utf8.proofs.Rule.{rule}
use Rattle.utf8.proofs.Places.{at_end}
use Rattle.utf8.proofs.has_chars.Goals as goal

pub loop-at-init : goal.loop-at-init
loop-at-init c = refl

pub overflow_cast-s : goal.overflow_cast-s
overflow_cast-s c = omega (arith, c.type_inv.s c.loop-at.at)

pub bounds-table-s : goal.bounds-table-s
bounds-table-s c = (c.type_inv.s c.loop-at.at).fits

pub char_len_at-n-requires : goal.char_len_at-n-requires
char_len_at-n-requires c =
    let byte = (c.type_inv.s c.loop-at.at).fits in
    record { inside = search rules; byte = byte; class = rule _ byte }

pub returns-then-n-eq0 : goal.returns-then-n-eq0
returns-then-n-eq0 c = sym (rw c.if-n-eq0.true at c.char_len_at-n.ensures.goes_on) ∙ c.loop-at.invariant

pub overflow_add-at : goal.overflow_add-at
overflow_add-at c = omega (arith, c.char_len_at-n.ensures.inside)

pub loop-at-preserved : goal.loop-at-preserved
loop-at-preserved c =
    let n = c.char_len_at-n in
    sym (rw (lt-ltb 0 n.result (omega arith)) at n.ensures.goes_on) ∙ c.loop-at.invariant

pub returns : goal.returns
returns c = at_end _ _ c.loop-at-test.false ∙ c.loop-at.invariant
