-- Numbers added up modulo 2^64, and what a mode and the counts of Network Data say as one number: the sum of their fields.
-- Assumes nothing.
use Rattle.std.specs.Prelude.{ℕ, ◌+◌, ◌%◌, ◌^◌, Bool, true, false, List, [], ◌∷◌}
use Rattle.network_data.specs.declared.Counts.{Counts}
use Rattle.diag_values.specs.declared.ModeData.{ModeData}

unfoldable pub plus : ℕ → ℕ → ℕ
plus a b = (a + b) % 2 ^ 64

-- numbers added to what there was, one by one
abbrev pub onto : ℕ → List ℕ → ℕ
onto n [] = n
onto n (x ∷ xs) = onto (plus n x) xs

abbrev pub flag : Bool → ℕ
flag true = 1
flag false = 0

abbrev pub mode_sum : ModeData → ℕ
mode_sum m = onto 0 (flag m.rx_on_when_idle ∷ flag m.is_mtd ∷ flag m.requires_full_network_data ∷ [])

abbrev pub counts_sum : Counts → ℕ
counts_sum c = onto 0 (c.prefixes ∷ c.has_routes ∷ c.border_routers ∷ [])
