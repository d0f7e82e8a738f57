-- The text that `address_text` gives is the one that RFC 5952 recommends: it keeps every rule, and no other text does.
-- Assumes nothing.
use mathlib.Core.Path.{◌≡◌, refl, sym, ap, ◌∙◌}
use mathlib.Core.List.{List, [], ◌∷◌, ◌++◌}
use Prim.Native.Nat.{ℕ, zero, suc, ◌+◌, ◌-◌, ◌≤◌, ◌<◌}
use native.Mathlib.Omega.{arith}
use lib.ListN.{length, take, drop, replicate, get_or, length-append, length-drop, length-replicate}
use lib.Seq.{length-take-le, take_at, drop_at, drop-drop, take-take}
use lib.Dec.{ltb}
use borrow.Author.Tests.{eq-eqb, ltb-true, ltb-false, le-ltb}
use Rattle.refusal.specs.Every.{Every, Bytes}
use Rattle.laws.proofs.Tests.{by_test}
use Rattle.laws.proofs.Parts.{every_take, every_drop}
use Rattle.address_forms.specs.Groups.{groups}
use Rattle.address_forms.specs.Colons.{joined}
use Rattle.address_forms.specs.AddressText.{texts, parted, zeros_in_front, around, fewest, shortened, address_text}
use Rattle.address_forms.specs.AddressForms.{values, Form, preferred, compressed}
use Rattle.address_forms.specs.Recommended.{Zeros, Unshortened, Shortened, Recommended, in_full, in_short}
use Rattle.address_forms.specs.declared.Run.{Run}
use Rattle.address_forms.proofs.Groups.{Small, groups_small}
use Rattle.address_forms.proofs.Runs.{Longest, longest_is, run_parts}
use Rattle.address_forms.proofs.Texts.{length_texts}
use Rattle.address_forms.proofs.Decides.{length_values}
use Rattle.address_forms.proofs.GroupTexts.{texts_short, texts_values, values_texts, short_fields}

-- ---- runs of zeros

take_replicate : (k n : ℕ) → k ≤ n → take k (replicate {A = ℕ} n 0) ≡ replicate k 0
take_replicate zero n h = refl
take_replicate (suc k) zero h = absurd (omega arith)
take_replicate (suc k) (suc n) h = ap (◌∷◌ 0) (take_replicate k n (omega arith))

zeroes_least : (n : ℕ) (gs : List ℕ) → n ≤ length gs → take n gs ≡ replicate n 0 → n ≤ zeros_in_front gs
unfolding zeros_in_front
zeroes_least zero gs h e = omega arith
zeroes_least (suc n) [] h e = absurd (omega arith)
zeroes_least (suc n) (g ∷ gs) h e =
    let none : g ≡ 0 = ap (λ (l : List ℕ). get_or l 0 0) e in
    rw (eq-eqb g 0 none) (omega (arith, zeroes_least n gs (omega arith) (ap (drop 1) e)))

-- a run of zeros is no longer than what is counted from its first group on
zeros_counted : (gs : List ℕ) (s n : ℕ) → Zeros gs s n → n ≤ zeros_in_front (drop s gs)
zeros_counted gs s n z = zeroes_least n (drop s gs) (rw length-drop (omega (arith, z.inside))) z.zero

-- the first groups of a run are one
zeros_fewer : (gs : List ℕ) (s n k : ℕ) → k ≤ n → Zeros gs s n → Zeros gs s k
zeros_fewer gs s n k h z =
    record {
      inside = omega (arith, z.inside);
      zero = sym (take-take k n (drop s gs) h) ∙ ap (take k) z.zero ∙ take_replicate k n h;
    }

-- groups that are some, n zeros and others
module _ (gs a b : List ℕ) (n : ℕ) (is : gs ≡ a ++ (replicate n 0 ++ b)) where
  abbrev zs : List ℕ
  zs = replicate n 0

  long : length zs ≡ n
  long = length-replicate n 0

  all_length : length gs ≡ length a + (n + length b)
  all_length = ap length is ∙ length-append a _ ∙ omega (arith, length-append zs b, long)

  after : drop (length a) gs ≡ zs ++ b
  after = ap (drop (length a)) is ∙ drop_at a _ (length a) refl

  left_part : take (length a) gs ≡ a
  left_part = ap (take (length a)) is ∙ take_at a _ (length a) refl

  right_part : drop (length a + n) gs ≡ b
  right_part = sym (drop-drop n (length a) gs) ∙ ap (drop n) after ∙ drop_at zs b n long

  between_zeros : Zeros gs (length a) n
  between_zeros = record { inside = omega (arith, all_length); zero = ap (take n) after ∙ take_at zs b n long }

module _ (gs : List ℕ) (r : Run) (l : Longest 0 gs r) where
  found : Zeros gs r.start r.len
  found =
      let none : r.start - 0 ≡ r.start = omega arith in
      record { inside = omega (arith, l.inside); zero = rw none at l.zero_groups }

  none_longer : (s n : ℕ) → Zeros gs s n → n ≤ r.len
  none_longer s n z = omega (arith, zeros_counted gs s n z, l.longest s)

  none_before : (s n : ℕ) → Zeros gs s n → r.len ≤ n → r.start ≤ s
  none_before s n z h =
      by_test (ltb s r.start) (λ e. absurd (omega (arith, zeros_counted gs s n z, l.first s (omega (arith, ltb-true s r.start e)))))
      (λ e. ltb-false s r.start e)

  -- ---- the rules are kept

  module _ (small : Every Small gs) where
    full_kept : r.len < 2 → Unshortened gs (parted gs)
    unfolding parted
    full_kept h =
        record {
          fields = texts gs;
          each = texts_short gs small;
          says = sym (texts_values gs small);
          spells = refl;
          none = λ s z. absurd (omega (arith, none_longer s 2 z));
        }

    short_kept : 2 ≤ r.len → Shortened gs (around r gs)
    unfolding around parted
    short_kept h =
        let a = take r.start gs in
        let b = drop (r.start + r.len) gs in
        let sa = every_take Small r.start gs small in
        let sb = every_drop Small (r.start + r.len) gs small in
        let n : length (texts a) ≡ r.start = length_texts a ∙ length-take-le r.start gs (omega (arith, l.inside)) in
        record {
          left = texts a;
          run = r.len;
          right = texts b;
          each_left = texts_short a sa;
          each_right = texts_short b sb;
          says = rw (texts_values a sa, texts_values b sb) (sym (run_parts gs r l));
          spells = refl;
          several = h;
          longest = none_longer;
          first = λ s z. rw n (none_before s r.len z (omega arith));
        }

    kept : Recommended gs (shortened r gs)
    unfolding shortened
    kept =
        by_test (ltb r.len fewest) (λ e. rw e (in_full (full_kept (omega (arith, ltb-true r.len fewest e))))) (λ e. rw e (in_short (short_kept (omega (arith, ltb-false r.len fewest e)))))

  -- ---- no other text keeps them

  full_one : (t : List ℕ) → Unshortened gs t → t ≡ shortened r gs
  unfolding shortened parted
  full_one t u =
      by_test (ltb r.len fewest) (λ e. rw (e, u.spells) (ap joined (sym (values_texts u.fields u.each) ∙ ap texts (sym u.says))))
      (λ e. absurd (u.none r.start (zeros_fewer gs _ _ 2 (omega (arith, ltb-false r.len fewest e)) found)))

  module _ (t : List ℕ) (s : Shortened gs t) where
    zeros : Zeros gs (length (values s.left)) s.run
    zeros = between_zeros gs (values s.left) (values s.right) s.run s.says

    same_length : r.len ≡ s.run
    same_length = omega (arith, none_longer _ _ zeros, s.longest _ _ found)

    same_start : r.start ≡ length (values s.left)
    same_start =
        omega (arith, none_before _ _ zeros (omega (arith, same_length)), s.first r.start (rw (← same_length) found), length_values s.left)

    short_one : t ≡ shortened r gs
    unfolding shortened around parted
    short_one =
        rw (le-ltb r.len fewest (omega (arith, same_length, s.several)), same_start, same_length)
        (rw (left_part gs (values s.left) (values s.right) s.run s.says, right_part gs (values s.left) (values s.right) s.run s.says, values_texts s.left s.each_left, values_texts s.right s.each_right) s.spells)

  one : (t : List ℕ) → Recommended gs t → t ≡ shortened r gs
  one t (in_full u) = full_one t u
  one t (in_short s) = short_one t s

-- ---- of an address

-- its text is the one that is recommended
pub recommended : (a : List ℕ) → Bytes a → Recommended (groups a) (address_text a)
unfolding address_text
recommended a bytes = kept (groups a) _ (longest_is (groups a) 0) (groups_small a bytes)

-- and no other text is
pub recommended_one : (a t : List ℕ) → Recommended (groups a) t → t ≡ address_text a
unfolding address_text
recommended_one a t = one (groups a) _ (longest_is (groups a) 0) t

-- ---- what is recommended is of the forms of RFC 4291

module _ (gs t : List ℕ) (eight : length gs ≡ 8) where
  full_form : Unshortened gs t → Form t gs
  full_form u =
      preferred (record {
        fields = u.fields;
        each = short_fields u.fields u.each;
        eight = omega (arith, ap length u.says, length_values u.fields);
        spells = u.spells;
        says = u.says;
      })

  short_form : Shortened gs t → Form t gs
  short_form s =
      let long = all_length gs (values s.left) (values s.right) s.run s.says in
      let l = length_values s.left in
      let r = length_values s.right in
      let gap : 8 - (length s.left + length s.right) ≡ s.run = omega arith in
      compressed (record {
        left = s.left;
        right = s.right;
        each_left = short_fields s.left s.each_left;
        each_right = short_fields s.right s.each_right;
        seven = omega (arith, s.several);
        spells = s.spells;
        says = rw gap s.says;
      })

  pub recommended_form : Recommended gs t → Form t gs
  recommended_form (in_full u) = full_form u
  recommended_form (in_short s) = short_form s
