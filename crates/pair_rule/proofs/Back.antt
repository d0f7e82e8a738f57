-- The number that stands for what is said of a row says it again, where the number of its list is none of the two others.
-- Assumes nothing.
use mathlib.Core.Path.{◌≡◌, refl, ap, ◌∙◌}
use mathlib.Core.List.{List, [], ◌∷◌, map}
use Prim.Native.Nat.{ℕ, ◌<◌}
use native.Mathlib.Omega.{arith}
use borrow.Author.Tests.{ne_eqb}
use Rattle.refusal.specs.Every.{Every}
use Rattle.pair_rule.specs.Codes.{code_none, code_unclear, code_of, meant}
use Rattle.pair_rule.specs.declared.Pairing.{Pairing}
use Rattle.pair_rule.specs.declared.Pairing.TheVariants as p

-- a pair whose list has a number below n
abbrev pub Below : ℕ → Pairing → Type 0
Below n (p.Paired k) = k < n
Below n p.None = Unit {0}
Below n p.Unclear = Unit {0}

pub code_back : (x : Pairing) → Below code_unclear x → meant (code_of x) ≡ x
unfolding meant
code_back (p.Paired k) h = rw (ne_eqb k code_none (λ e. omega arith), ne_eqb k code_unclear (λ e. omega arith))
code_back p.None h = refl
code_back p.Unclear h = refl

pub codes_back : (xs : List Pairing) → Every (Below code_unclear) xs → map meant (map code_of xs) ≡ xs
codes_back [] h = refl
codes_back (x ∷ xs) h = ap (λ (y : Pairing). y ∷ map meant (map code_of xs)) (code_back x h.0) ∙ ap (◌∷◌ x) (codes_back xs h.1)
