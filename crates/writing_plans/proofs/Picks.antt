-- Tests made one after the other, of which the first have passed.
-- Assumes nothing.
use mathlib.Core.Path.{◌≡◌, refl}
use mathlib.Core.Bool.{Bool, true, false, ◌&&◌}
use mathlib.Core.List.{List, [], ◌∷◌}
use Rattle.std.specs.List.{list_all}
use Rattle.refusal.specs.Answer.{pick}
use Rattle.refusal.specs.Each.{all}

pub two_passed : (a b c : Bool) → a ≡ true → b ≡ true → c ≡ pick a (pick b c false) false
two_passed a b c e f = rw (e, f)

pub pick_self : (b : Bool) → b ≡ pick b true false
pick_self true = refl
pick_self false = refl

-- two tests in one, whose refusals are the same
pub pick_both : {A : Type 0} (a b : Bool) (x y : A) → pick (pick a b false) x y ≡ pick a (pick b x y) y
pick_both true b x y = refl
pick_both false b x y = refl

pick_and : (a b : Bool) → pick a b false ≡ (a && b)
pick_and true b = refl
pick_and false b = refl

-- a test of each element, as std's `all` answers it
pub all_listed : {A : Type 0} (f : A → Bool) (xs : List A) → all f xs ≡ list_all f xs
unfolding all
all_listed f [] = refl
all_listed f (x ∷ xs) = rw (all_listed f xs) (pick_and (f x) (list_all f xs))
