-- `utf8::char_len_at` meets its contract: each class by the law of its length.
use mathlib.Core.Path.{refl, ◌∙◌}
use borrow.Author.Tests.{ne_eqb}
use Rattle.utf8.proofs.Firsts.{after}
use Rattle.utf8.proofs.Places.{by_class, one_char, no_char, two_char, three_char, four_char}
use Rattle.utf8.proofs.char_len_at.Goals as goal

pub returns-in-1 : goal.returns-in-1
unfolding after
returns-in-1 c =
    let p = c.requires in
    one_char _ _ p.inside (by_class p 1 c.in-1.is)

pub returns-in-2 : goal.returns-in-2
unfolding after
returns-in-2 c =
    let p = c.requires in
    two_char _ _ _ c.two_at.ensures p.inside (by_class p 2 c.in-2.is)

pub returns-in-3 : goal.returns-in-3
unfolding after
returns-in-3 c =
    let p = c.requires in
    three_char _ _ _ _ _ c.three_at.ensures p.inside (by_class p 3 c.in-3.is)

pub returns-in-4 : goal.returns-in-4
unfolding after
returns-in-4 c =
    let p = c.requires in
    three_char _ _ _ _ _ c.three_at-in-4.ensures p.inside (by_class p 4 c.in-4.is)

pub returns-in-5 : goal.returns-in-5
unfolding after
returns-in-5 c =
    let p = c.requires in
    three_char _ _ _ _ _ c.three_at-in-5.ensures p.inside (by_class p 5 c.in-5.is)

pub returns-in-6 : goal.returns-in-6
unfolding after
returns-in-6 c =
    let p = c.requires in
    four_char _ _ _ _ _ c.four_at.ensures p.inside (by_class p 6 c.in-6.is)

pub returns-in-7 : goal.returns-in-7
unfolding after
returns-in-7 c =
    let p = c.requires in
    four_char _ _ _ _ _ c.four_at-in-7.ensures p.inside (by_class p 7 c.in-7.is)

pub returns-in-8 : goal.returns-in-8
unfolding after
returns-in-8 c =
    let p = c.requires in
    four_char _ _ _ _ _ c.four_at-in-8.ensures p.inside (by_class p 8 c.in-8.is)

pub returns-in_default : goal.returns-in_default
unfolding after
returns-in_default c =
    let p = c.requires in
    no_char _ _ p.inside (by_class p _ refl ∙ simp (ne_eqb _ _ c.in_default.in_default-own.rest.1, ne_eqb _ _ c.in_default.in_default-own.rest.0.1, ne_eqb _ _ c.in_default.in_default-own.rest.0.0.1, ne_eqb _ _ c.in_default.in_default-own.rest.0.0.0.1, ne_eqb _ _ c.in_default.in_default-own.rest.0.0.0.0.1, ne_eqb _ _ c.in_default.in_default-own.rest.0.0.0.0.0.1, ne_eqb _ _ c.in_default.in_default-own.rest.0.0.0.0.0.0.1, ne_eqb _ _ c.in_default.in_default-own.rest.0.0.0.0.0.0.0.1))
