-- The bytes that `to_be_bytes` gives are those of the definition: each from the highest on, or the lowest after all the others.
-- Assumes nothing.
use Rattle.std.proofs.Common.{◌≡◌, ℕ, zero, suc, ◌/◌, ◌%◌, ◌^◌, List, [], ◌∷◌, ◌++◌, refl, sym, ap, ◌∙◌}
use Rattle.std.specs.Int.{byte_at, bytes_high_first}
use native.Mathlib.Nat.{pow-suc, mul_comm}
use Rattle.std.proofs.Math.Nat.{div-div-eq-div-mul}
use Rattle.wire_bytes.specs.Bytes.{bytes_of}

byte_above : (k x : ℕ) → byte_at (suc k) x ≡ byte_at k (x / 256)
byte_above zero x = refl
byte_above (suc k) x = ap (λ (d : ℕ). x / d % 256) (pow-suc 256 (suc k) ∙ mul_comm (256 ^ suc k) 256) ∙ ap (λ (q : ℕ). q % 256) (sym (div-div-eq-div-mul x 256 (256 ^ suc k)))

last_apart : (k x : ℕ) → bytes_high_first (suc k) x ≡ bytes_high_first k (x / 256) ++ (x % 256 ∷ [])
last_apart zero x = refl
last_apart (suc k) x = let e = byte_above k x in let h = last_apart k x in cc

pub highest_first : (k x : ℕ) → bytes_high_first k x ≡ bytes_of k x
unfolding bytes_of
highest_first zero x = refl
highest_first (suc k) x = last_apart k x ∙ ap (λ (s : List ℕ). s ++ (x % 256 ∷ [])) (highest_first k (x / 256))
