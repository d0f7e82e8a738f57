-- Bits and fields of a byte, read off the number that they make; and two tests made one after the other.
-- Assumes nothing.
use mathlib.Core.Path.{◌≡◌, refl, ap, ◌∙◌}
use mathlib.Core.Bool.{Bool, true, false}
use mathlib.Core.List.{List, [], ◌∷◌}
use Prim.Native.Nat.{ℕ, ◌+◌, ◌*◌, ◌/◌, ◌%◌, ◌≤◌, ◌<◌}
use native.Mathlib.Omega.{arith}
use native.Mathlib.Nat.{mul-add-div_right, div-eq_of_lt}
use lib.Dec.{eqb}
use Rattle.refusal.specs.Every.{Every}
use Rattle.refusal.specs.Answer.{pick}
use Rattle.refusal.specs.Each.{bit, all}

-- two tests, the second made where the first passes
pub both : (b c : Bool) → pick b c false ≡ true → (b ≡ true) × (c ≡ true)
both true c h = (refl, h)
both false c h = absurd (let z : ◌≡◌ {A = ℕ} 0 1 = cc in omega arith)

pub all_every : {A : Type 0} (f : A → Bool) (xs : List A) → all f xs ≡ true → Every (λ (x : A). f x ≡ true) xs
unfolding all
all_every f [] h = tt
all_every f (x ∷ xs) h = let b = both (f x) (all f xs) h in (b.0, all_every f xs b.1)

-- ---- one bit, and a field of bits above it
pub bit_read : (b : Bool) → eqb (pick b 1 0) 1 ≡ b
bit_read true = refl
bit_read false = refl

pub bit_small : (b : Bool) → pick b 1 0 ≤ 1
bit_small true = omega arith
bit_small false = omega arith

pub bit_times : (b : Bool) (w : ℕ) → bit b w ≡ pick b 1 0 * w
bit_times true w = omega arith
bit_times false w = omega arith

pub bit_at : (b : Bool) (w : ℕ) → (bit b w ≡ pick b 1 0 * w) × (pick b 1 0 ≤ 1)
bit_at b w = (bit_times b w, bit_small b)

-- a bit is read off the byte that holds it
pub bit_is : (b : Bool) (x : ℕ) → x ≡ pick b 1 0 → eqb x 1 ≡ b
bit_is b x e = ap (λ (n : ℕ). eqb n 1) e ∙ bit_read b

-- what stands above the lower part of a number, and the lowest bit of that
pub above : (w x h l : ℕ) → l < w → x ≡ h * w + l → x / w ≡ h
above w x h l k e =
    let pos : 0 < w = omega arith in
    rw e (mul-add-div_right pos h l ∙ rw (div-eq_of_lt k) (omega arith))

pub bit_of : (w x h b l : ℕ) → l < w → b ≤ 1 → x ≡ (h * 2 + b) * w + l → x / w % 2 ≡ b
bit_of w x h b l k m e =
    let z : (h * 2 + b) % 2 ≡ b = omega arith in
    ap (λ (n : ℕ). n % 2) (above w x (h * 2 + b) l k e) ∙ z
