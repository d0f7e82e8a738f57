-- The numbers that stand for what is said of a row in an output of numbers.
-- Assumes nothing.
use Rattle.std.specs.Prelude.{ℕ, eqb}
use Rattle.refusal.specs.Answer.{pick}
use Rattle.pair_rule.specs.declared.Pairing.{Pairing}
use Rattle.pair_rule.specs.declared.Pairing.TheVariants as p

abbrev pub code_none : ℕ
code_none = 65535

abbrev pub code_unclear : ℕ
code_unclear = 65534

-- a pair is the number of its list
abbrev pub code_of : Pairing → ℕ
code_of (p.Paired k) = k
code_of p.None = code_none
code_of p.Unclear = code_unclear

-- what a number says (`codes_mean`, `pairing`'s proofs/Codes.antt: of all that `pair` writes, what was said)
unfoldable pub meant : (code : ℕ) → Pairing
meant c = pick (eqb c code_none) p.None (pick (eqb c code_unclear) p.Unclear (p.Paired c))
