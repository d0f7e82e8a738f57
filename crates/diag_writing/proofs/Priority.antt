-- A priority by its byte: 1, -1 and -2 are those whose machine values are 1, 255 and 254.
-- Assumes nothing.
use mathlib.Core.Path.{◌≡◌, refl, sym, ap, ◌∙◌}
use Prim.Native.Nat.{ℕ, zero, suc}
use native.Mathlib.Omega.{arith}
use lib.IntN.{ℤ, pos, negsuc}
use borrow.Author.Tests.{lt-leb}
use mir.Syntax.{w8}
use mir.Val.{SFits, to_z, of_z}
use mir.ValLaws.{to_z-of_z}
use Rattle.value_writing.specs.Encode.{priority_bits}

pub bits_at : (p : ℤ) (n : ℕ) → SFits w8 p → of_z w8 p ≡ n → priority_bits (to_z w8 n) ≡ priority_bits p
bits_at p n f e = ap (λ (k : ℕ). priority_bits (to_z w8 k)) (sym e) ∙ ap priority_bits (to_z-of_z w8 p f)

pub bits_else : (p : ℤ) → (of_z w8 p ≡ 1 → ⊥) → (of_z w8 p ≡ 255 → ⊥) → (of_z w8 p ≡ 254 → ⊥) → 0 ≡ priority_bits p
unfolding priority_bits
bits_else (pos zero) a b c = refl
bits_else (pos (suc zero)) a b c = absurd (a refl)
bits_else (pos (suc (suc n))) a b c = rw (lt-leb (suc (suc n)) 1 (omega arith))
bits_else (negsuc zero) a b c = absurd (b refl)
bits_else (negsuc (suc zero)) a b c = absurd (c refl)
bits_else (negsuc (suc (suc n))) a b c = rw (lt-leb (suc (suc n)) 1 (omega arith))
