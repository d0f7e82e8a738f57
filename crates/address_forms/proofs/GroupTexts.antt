-- The text of a group is a field as RFC 5952 has it, of the group's value; and such a field is the text of its value.
-- Assumes nothing.
use mathlib.Core.Path.{◌≡◌, refl, sym, ap, ◌∙◌}
use mathlib.Core.Bool.{true}
use mathlib.Core.List.{List, [], ◌∷◌}
use Prim.Native.Nat.{ℕ, ◌+◌, ◌*◌, ◌/◌, ◌%◌, ◌<◌}
use native.Mathlib.Omega.{arith}
use lib.ListN.{length, drop, get_or}
use lib.Dec.{eqb}
use borrow.Author.Tests.{eqb-true, eqb-false}
use Rattle.refusal.specs.Answer.{pick}
use Rattle.refusal.specs.Every.{Every}
use Rattle.laws.proofs.Tests.{by_test}
use Rattle.hex_text.specs.HexText.{digit, hex_text}
use Rattle.base16.specs.Base16.{between, digit_value, lowered}
use Rattle.base16.specs.Loops.{or_zero, is_given, is_digit, value_of, all_digits}
use Rattle.base16.proofs.Scans.{all_parts}
use Rattle.base16.proofs.Digits.{digit_value_lem, value_small, value_lower}
use Rattle.address_forms.specs.AddressText.{suppressed, group_text, texts}
use Rattle.address_forms.specs.AddressForms.{Field, value_from, values}
use Rattle.address_forms.specs.Recommended.{ShortField}
use Rattle.address_forms.proofs.Groups.{Small}
use Rattle.address_forms.proofs.Texts.{group_length}
use Rattle.address_forms.proofs.Fields.{all_more}

-- ---- digits without their leading zeros

zero_value : value_of 48 ≡ 0
unfolding digit_value value_of or_zero
zero_value = refl

suppressed_value : (ds : List ℕ) → value_from 0 (suppressed ds) ≡ value_from 0 ds
unfolding suppressed value_from
suppressed_value [] = refl
suppressed_value (d ∷ []) = refl
suppressed_value (d ∷ e ∷ ds) =
    by_test (eqb d 48) (λ t. rw (t, eqb-true d 48 t, zero_value) (suppressed_value (e ∷ ds))) (λ t. rw t)

suppressed_digits : (ds : List ℕ) → all_digits ds ≡ true → all_digits (suppressed ds) ≡ true
unfolding suppressed
suppressed_digits [] all = all
suppressed_digits (d ∷ []) all = all
suppressed_digits (d ∷ e ∷ ds) all =
    by_test (eqb d 48) (λ t. rw t (suppressed_digits (e ∷ ds) (all_parts d (e ∷ ds) all).1)) (λ t. rw t all)

suppressed_lower : (ds : List ℕ) → lowered ds ≡ ds → lowered (suppressed ds) ≡ suppressed ds
unfolding suppressed lowered
suppressed_lower [] low = low
suppressed_lower (d ∷ []) low = low
suppressed_lower (d ∷ e ∷ ds) low =
    by_test (eqb d 48) (λ t. rw t (suppressed_lower (e ∷ ds) (ap (drop 1) low))) (λ t. rw t low)

suppressed_bare : (ds : List ℕ) (d : ℕ) (es : List ℕ) → suppressed ds ≡ 48 ∷ d ∷ es → ⊥
unfolding suppressed
suppressed_bare [] d es e = absurd (let n = ap length e in omega arith)
suppressed_bare (x ∷ []) d es e = absurd (let n = ap length e in omega arith)
suppressed_bare (x ∷ y ∷ ds) d es e =
    by_test (eqb x 48) (λ t. suppressed_bare (y ∷ ds) d es (simp t at e))
    (λ t. let same : x ∷ y ∷ ds ≡ 48 ∷ d ∷ es = simp t at e in
    eqb-false x 48 t (ap (λ (l : List ℕ). get_or l 0 0) same))

-- ---- a group

module _ (v : ℕ) (small : v < 16) where
  is_digit_lem : is_digit (digit v) ≡ true
  unfolding is_digit is_given
  is_digit_lem = rw (digit_value_lem 0 v small)

  its_value : value_of (digit v) ≡ v
  unfolding value_of or_zero
  its_value = rw (digit_value_lem 0 v small)

  is_lower : pick (between 65 70 (digit v)) (digit v + 32) (digit v) ≡ digit v
  is_lower = sym (value_lower (digit v) is_digit_lem) ∙ ap digit its_value

module _ (g : ℕ) (small : Small g) where
  first : g / 256 / 16 < 16
  first = omega arith

  second : g / 256 % 16 < 16
  second = omega arith

  third : g % 256 / 16 < 16
  third = omega arith

  fourth : g % 256 % 16 < 16
  fourth = omega arith

  four_digits : all_digits (hex_text (g / 256 ∷ g % 256 ∷ [])) ≡ true
  unfolding hex_text all_digits
  four_digits = rw (is_digit_lem _ first, is_digit_lem _ second, is_digit_lem _ third, is_digit_lem _ fourth)

  four_lower : lowered (hex_text (g / 256 ∷ g % 256 ∷ [])) ≡ hex_text (g / 256 ∷ g % 256 ∷ [])
  unfolding hex_text lowered
  four_lower = rw (is_lower _ first, is_lower _ second, is_lower _ third, is_lower _ fourth)

  four_value : value_from 0 (hex_text (g / 256 ∷ g % 256 ∷ [])) ≡ g
  unfolding hex_text value_from
  four_value = rw (its_value _ first, its_value _ second, its_value _ third, its_value _ fourth) (omega arith)

  group_short : ShortField (group_text g)
  unfolding group_text
  group_short =
      let l = group_length g in
      record {
        field = record { one = l.0; four = l.1; digits = suppressed_digits _ four_digits };
        bare = suppressed_bare _;
        lower = suppressed_lower _ four_lower;
      }

  group_value : value_from 0 (group_text g) ≡ g
  unfolding group_text
  group_value = suppressed_value _ ∙ four_value

pub texts_short : (gs : List ℕ) → Every Small gs → Every ShortField (texts gs)
unfolding texts
texts_short [] small = tt
texts_short (g ∷ gs) (s, small) = (group_short g s, texts_short gs small)

pub texts_values : (gs : List ℕ) → Every Small gs → values (texts gs) ≡ gs
unfolding texts values
texts_values [] small = refl
texts_values (g ∷ gs) (s, small) = rw (group_value g s, texts_values gs small)

-- ---- a field

zero_digit : is_digit 48 ≡ true
unfolding digit_value is_digit is_given
zero_digit = refl

-- a digit is the digit of its value, if in lower case
digit_back : (c : ℕ) (cs : List ℕ) → is_digit c ≡ true → lowered (c ∷ cs) ≡ c ∷ cs → digit (value_of c) ≡ c
unfolding lowered
digit_back c cs d low = value_lower c d ∙ ap (λ (l : List ℕ). get_or l 0 0) low

module _ (a b c d : ℕ) (all : all_digits (a ∷ b ∷ c ∷ d ∷ []) ≡ true) (low : lowered (a ∷ b ∷ c ∷ d ∷ []) ≡ a ∷ b ∷ c ∷ d ∷ []) where
  -- four digits are those of their value
  four_back : group_text (value_from 0 (a ∷ b ∷ c ∷ d ∷ [])) ≡ suppressed (a ∷ b ∷ c ∷ d ∷ [])
  unfolding group_text hex_text value_from lowered
  four_back =
      let p = all_parts a _ all in
      let q = all_parts b _ p.1 in
      let r = all_parts c _ q.1 in
      let s = all_parts d _ r.1 in
      let n = value_small b q.0 in
      let m = value_small c r.0 in
      let l = value_small d s.0 in
      let v = (((0 * 16 + value_of a) * 16 + value_of b) * 16 + value_of c) * 16 + value_of d in
      let va : v / 256 / 16 ≡ value_of a = omega arith in
      let vb : v / 256 % 16 ≡ value_of b = omega arith in
      let vc : v % 256 / 16 ≡ value_of c = omega arith in
      let vd : v % 256 % 16 ≡ value_of d = omega arith in
      rw (va, vb, vc, vd)
      (rw (digit_back a _ p.0 low, digit_back b _ q.0 (ap (drop 1) low), digit_back c _ r.0 (ap (drop 2) low), digit_back d _ s.0 (ap (drop 3) low)))

  padded : (x : List ℕ) → suppressed (a ∷ b ∷ c ∷ d ∷ []) ≡ x → group_text (value_from 0 x) ≡ x
  padded x e = ap group_text (ap (value_from 0) (sym e) ∙ suppressed_value _) ∙ four_back ∙ e

zero_more : (ds : List ℕ) → all_digits ds ≡ true → all_digits (48 ∷ ds) ≡ true
zero_more ds all = all_more 48 ds zero_digit all

zero_lower : (ds : List ℕ) → lowered ds ≡ ds → lowered (48 ∷ ds) ≡ 48 ∷ ds
unfolding lowered
zero_lower ds low = ap (◌∷◌ 48) low

kept : (d e : ℕ) (ds : List ℕ) → ((f : ℕ) (fs : List ℕ) → d ∷ e ∷ ds ≡ 48 ∷ f ∷ fs → ⊥) → suppressed (d ∷ e ∷ ds) ≡ d ∷ e ∷ ds
unfolding suppressed
kept d e ds bare = by_test (eqb d 48) (λ t. absurd (bare e ds (rw (eqb-true d 48 t)))) (λ t. rw t)

short_text : (x : List ℕ) → ShortField x → group_text (value_from 0 x) ≡ x
unfolding suppressed
short_text [] s = absurd (omega (arith, s.field.one))
short_text (d ∷ []) s =
    padded 48 48 48 d (zero_more _ (zero_more _ (zero_more _ s.field.digits))) (zero_lower _ (zero_lower _ (zero_lower _ s.lower))) _ refl
short_text (c ∷ d ∷ []) s =
    padded 48 48 c d (zero_more _ (zero_more _ s.field.digits)) (zero_lower _ (zero_lower _ s.lower)) _ (kept c d [] s.bare)
short_text (b ∷ c ∷ d ∷ []) s =
    padded 48 b c d (zero_more _ s.field.digits) (zero_lower _ s.lower) _ (kept b c _ s.bare)
short_text (a ∷ b ∷ c ∷ d ∷ []) s = padded a b c d s.field.digits s.lower _ (kept a b _ s.bare)
short_text (a ∷ b ∷ c ∷ d ∷ e ∷ x) s = absurd (omega (arith, s.field.four))

pub values_texts : (xs : List (List ℕ)) → Every ShortField xs → texts (values xs) ≡ xs
unfolding texts values
values_texts [] each = refl
values_texts (x ∷ xs) (s, each) = rw (short_text x s, values_texts xs each)

-- such fields are fields
pub short_fields : (xs : List (List ℕ)) → Every ShortField xs → Every Field xs
short_fields [] each = tt
short_fields (x ∷ xs) (s, each) = (s.field, short_fields xs each)
