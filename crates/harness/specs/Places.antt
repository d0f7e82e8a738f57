-- How many bytes stand before the first one that is asked for.
-- Assumes nothing.
use Rattle.std.specs.Prelude.{ℕ, suc, List, [], ◌∷◌, eqb}
use Rattle.refusal.specs.Answer.{pick}

-- all of them where it is not there
unfoldable pub bytes_before : (stop : ℕ) → List ℕ → ℕ
bytes_before stop [] = 0
bytes_before stop (b ∷ bs) = pick (eqb b stop) 0 (suc (bytes_before stop bs))
