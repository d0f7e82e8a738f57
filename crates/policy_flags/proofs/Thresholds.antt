-- The laws of the version threshold: which version the flags say; and that a version that was set is the one that is read, no other bit moved.
-- Assumes nothing.
use mathlib.Core.Path.{◌≡◌, sym, ap, ap₂, ◌∙◌, subst⁻¹}
use mathlib.Core.Bool.{true, false}
use Prim.Native.Nat.{ℕ, ◌+◌, ◌-◌, ◌*◌, ◌/◌, ◌%◌, ◌≤◌, ◌<◌}
use native.Mathlib.Omega.{arith}
use lib.Bits.{bit_and, bit_or, and_high, and_mask, mask_lt, and_block, or_add_and, or_shifted_r}
use borrow.Author.Tests.{eqb-true, eqb-false, eq-eqb, ne_eqb}
use Rattle.policy_flags.specs.Threshold.{has_all, legacy, version_bits, version_of, threshold, written, with_threshold}
use Rattle.policy_flags.specs.declared.ThreadProtocolVersion.{ThreadProtocolVersion}
use Rattle.policy_flags.specs.declared.ThreadProtocolVersion.TheVariants as v

-- ---- what the code's masks take of the flags
module _ (bits : ℕ) where
  legacy_masked : bit_and bits 0x0004 ≡ legacy bits * 4
  legacy_masked = and_high bits 1 2

  pub has_legacy : has_all bits 0x0004 ≡ true → legacy bits ≡ 1
  has_legacy h = omega (arith, legacy_masked, eqb-true (bit_and bits 0x0004) 0x0004 h)

  pub no_legacy : has_all bits 0x0004 ≡ false → legacy bits ≡ 1 → ⊥
  no_legacy h e = eqb-false _ _ h (legacy_masked ∙ ap (λ (n : ℕ). n * 4) e)

  pub field_is : bit_and bits 0xe000 / 8192 ≡ version_bits bits
  field_is = ap (λ (n : ℕ). n / 8192) (and_high bits 3 13) ∙ omega arith

-- a field that is none of 0 to 6 is 7; in two parts, since `omega` goes into no more than 6 cases
pub four_up : (n : ℕ) → (n ≡ 0 → ⊥) → (n ≡ 1 → ⊥) → (n ≡ 2 → ⊥) → (n ≡ 3 → ⊥) → 4 ≤ n
four_up n a b c d = omega arith

pub seven : (bits n : ℕ) → n ≡ version_bits bits → 4 ≤ n → (n ≡ 4 → ⊥) → (n ≡ 5 → ⊥) → (n ≡ 6 → ⊥) → version_bits bits ≡ 7
seven bits n is h a b c = omega arith

module _ (bits : ℕ) where
  pub threshold_legacy : legacy bits ≡ 1 → v.V1Or2 ≡ threshold bits
  unfolding threshold
  threshold_legacy h = simp (eq-eqb _ _ h)

  pub threshold_is : (k : ℕ) → (legacy bits ≡ 1 → ⊥) → version_bits bits ≡ k → version_of (k + 3) ≡ threshold bits
  unfolding threshold
  threshold_is k h e = rw (ne_eqb (legacy bits) 1 h, e)

-- ---- setting it: the flags in three parts, which are bits 3 to 15, bit 2 and bits 0 and 1

abbrev parts : (upper middle lower : ℕ) → ℕ
parts q l o = q * 8 + l * 4 + o

spelled : (bits : ℕ) → bits ≡ parts (bits / 8) (legacy bits) (bits % 4)
spelled bits = omega arith

set_legacy : (bits : ℕ) → bits + (1 - legacy bits) * 4 ≡ parts (bits / 8) 1 (bits % 4)
set_legacy bits = omega (arith, spelled bits)

set_field : (bits k : ℕ) → written bits (k + 3) ≡ parts (k * 1024 + bits / 8 % 1024) 0 (bits % 4)
set_field bits k = omega (arith, spelled bits)

-- the code's way, by masks
low : (q o : ℕ) → o < 4 → (q % 8192 * 8 + o) % 8192 ≡ q % 1024 * 8 + o
low q o h = omega arith

module _ (bits : ℕ) where
  pub flag_set : bit_or bits 0x0004 ≡ bits + (1 - legacy bits) * 4
  flag_set = omega (arith, legacy_masked bits, or_add_and bits 0x0004)

  -- without 0x0004 and bits 13 to 15
  abbrev rest : ℕ
  rest = bit_and (bit_and bits 0xfffb) 0x1fff

  flag_cleared : bit_and bits 0xfffb ≡ bits / 8 % 8192 * 8 + bits % 4
  flag_cleared =
      ap (λ (n : ℕ). bit_and n 0xfffb) (let e : bits ≡ bits / 8 * 8 + bits % 8 = omega arith in e)
      ∙ and_block 3 (bits / 8) 8191 (bits % 8) 3 (omega arith) (omega arith)
      ∙ ap₂ (λ (a b : ℕ). a * 8 + b) (and_mask (bits / 8) 13) (and_mask (bits % 8) 2 ∙ omega arith)

  pub rest_is : rest ≡ written bits 3
  rest_is = and_mask (bit_and bits 0xfffb) 13 ∙ ap (λ (n : ℕ). n % 8192) flag_cleared ∙ low (bits / 8) (bits % 4) (omega arith) ∙ sym (set_field bits 0 ∙ omega arith)

  pub field_set : (k : ℕ) → bit_or rest (k * 8192) ≡ written bits (k + 3)
  field_set k = or_shifted_r k 13 rest (mask_lt (bit_and bits 0xfffb) 13) ∙ omega (arith, rest_is)

-- what holds of the flags with bit 2 set, and of those with that cleared and a field written, holds of the flags with any version set
each : (P : ThreadProtocolVersion → ℕ → Type 0) (bits : ℕ) → P v.V1Or2 (parts (bits / 8) 1 (bits % 4))
    → ((k : ℕ) → k < 8 → P (version_of (k + 3)) (parts (k * 1024 + bits / 8 % 1024) 0 (bits % 4))) → (w : ThreadProtocolVersion)
    → P w (with_threshold bits w)
unfolding with_threshold version_of
each P bits one other v.V1Or2 = subst⁻¹ (P v.V1Or2) (set_legacy bits) one
each P bits one other v.V3 = subst⁻¹ (P v.V3) (set_field bits 0) (other 0 (omega arith))
each P bits one other v.V4 = subst⁻¹ (P v.V4) (set_field bits 1) (other 1 (omega arith))
each P bits one other v.V5 = subst⁻¹ (P v.V5) (set_field bits 2) (other 2 (omega arith))
each P bits one other v.V6 = subst⁻¹ (P v.V6) (set_field bits 3) (other 3 (omega arith))
each P bits one other v.V7 = subst⁻¹ (P v.V7) (set_field bits 4) (other 4 (omega arith))
each P bits one other v.V8 = subst⁻¹ (P v.V8) (set_field bits 5) (other 5 (omega arith))
each P bits one other v.V9 = subst⁻¹ (P v.V9) (set_field bits 6) (other 6 (omega arith))
each P bits one other v.V10 = subst⁻¹ (P v.V10) (set_field bits 7) (other 7 (omega arith))

-- the version that was set is the one that is read
pub set_reads : (bits : ℕ) (w : ThreadProtocolVersion) → threshold (with_threshold bits w) ≡ w
set_reads bits w =
    each (λ (u : ThreadProtocolVersion) (x : ℕ). threshold x ≡ u) bits (sym (threshold_legacy _ (omega arith)))
    (λ k h. sym (threshold_is _ k (λ e. omega arith) (omega arith))) w

-- no bit moves but bit 2 and, where that is cleared, bits 13 to 15
pub set_keeps : (bits : ℕ) (w : ThreadProtocolVersion) → (with_threshold bits w % 4 ≡ bits % 4) × (with_threshold bits w / 8 % 1024 ≡ bits / 8 % 1024)
set_keeps bits w =
    each (λ (u : ThreadProtocolVersion) (x : ℕ). (x % 4 ≡ bits % 4) × (x / 8 % 1024 ≡ bits / 8 % 1024)) bits (omega arith, omega arith)
    (λ k h. (omega arith, omega arith)) w

pub set_legacy_keeps : (bits : ℕ) → with_threshold bits v.V1Or2 / 8192 ≡ bits / 8192
unfolding with_threshold
set_legacy_keeps bits = rw (set_legacy bits) (omega (arith, spelled bits))

-- flags of 16 bits stay so
pub set_fits : (bits : ℕ) (w : ThreadProtocolVersion) → bits < 65536 → with_threshold bits w < 65536
set_fits bits w h = each (λ (u : ThreadProtocolVersion) (x : ℕ). x < 65536) bits (omega arith) (λ k l. omega arith) w
