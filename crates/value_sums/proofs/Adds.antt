-- Sums, one number after the other.
-- Assumes nothing.
use Rattle.std.proofs.Common.{◌≡◌, ℕ, ap, ◌∙◌}
use Rattle.value_sums.specs.Sums.{plus}

-- one more number
pub adds : {r n m x y : ℕ} → r ≡ plus n x → n ≡ m → x ≡ y → r ≡ plus m y
adds {m = m} {x = x} e l h = e ∙ ap (λ k. plus k x) l ∙ ap (plus m) h
