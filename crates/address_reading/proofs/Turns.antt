-- The laws of the loop that takes groups from a text: a turn at a colon, a turn at a digit, and the end.
-- Assumes nothing.
use mathlib.Core.Path.{◌≡◌, refl, sym, ap, ◌∙◌}
use mathlib.Core.Bool.{true, false}
use mathlib.Core.List.{List, [], ◌∷◌}
use Prim.Native.Nat.{ℕ, zero, suc, ◌+◌, ◌*◌, ◌/◌, ◌%◌, ◌≤◌, ◌<◌}
use native.Mathlib.Omega.{arith}
use native.Mathlib.Numerals.{add-one}
use lib.ListN.{length, drop, get_or, drop_of_length-le}
use lib.Seq.{drop-cons}
use lib.Dec.{eqb, ltb}
use borrow.Author.Tests.{lt-ltb, le-ltb, ltb-true, ltb-false, eqb-true, eqb-false, eq-eqb, ne_eqb}
use Rattle.refusal.specs.Answer.{Answer, given}
use Rattle.refusal.specs.Output.{put, Placed, placing}
use Rattle.laws.proofs.Tests.{by_test}
use Rattle.laws.proofs.Puts.{put_none, put_then}
use Rattle.base16.specs.Loops.{value_of}
use Rattle.base16.proofs.Digits.{value_small}
use Rattle.address_forms.specs.Groups.{bytes_of}
use Rattle.address_forms.specs.AddressRead.{good_from, values_from, fields_of}
use Rattle.address_reading.specs.Loops.{added, ended, groups_in, count_in, Taken}
use Rattle.address_reading.proofs.Digits.{none_nibble, added_nibble, Adds, adds}
use Rattle.address_reading.proofs.Counts.{count_few, count_many}

-- ---- a field's value fits 16 bits: it has n digits so far, at most four

-- one more than the largest value of n digits
unfoldable pub most : ℕ → ℕ
most zero = 1
most (suc n) = most n * 16

four_small : (n v : ℕ) → n ≤ 4 → v < most n → v < 65536
unfolding most
four_small zero v h s = omega arith
four_small (suc zero) v h s = omega arith
four_small (suc (suc zero)) v h s = omega arith
four_small (suc (suc (suc zero))) v h s = omega arith
four_small (suc (suc (suc (suc zero)))) v h s = omega arith
four_small (suc (suc (suc (suc (suc n))))) v h s = absurd (omega arith)

most_more : (n v d : ℕ) → v < most n → d < 16 → v * 16 + d < most (n + 1)
unfolding most
most_more n v d s h = rw (add-one n) (omega arith)

-- ---- what is taken

module _ (a : Answer (List ℕ)) (start left : List ℕ) where
  taken_none : count_in a ≡ 9 → Taken a start left 9
  taken_none e = record { counts = sym e; laid = λ h. absurd (omega arith) }

  taken_some : (gs : List ℕ) (k : ℕ) → a ≡ given gs → k ≡ length gs → k ≤ 8 → left ≡ put start 0 (bytes_of gs) → Taken a start left k
  unfolding groups_in
  taken_some gs k e n few l =
      record { counts = rw e (n ∙ sym (count_few gs (omega arith))); laid = λ h. rw e l }

pub taken_empty : (t start : List ℕ) → length t ≡ 0 → Taken (fields_of t) start start 0
unfolding fields_of bytes_of
taken_empty [] start h = taken_some (given []) start start [] 0 refl refl (omega arith) (sym (put_none start 0))
taken_empty (c ∷ cs) start h = absurd (omega arith)

fields_bad : (t : List ℕ) → 0 < length t → good_from 0 t ≡ false → count_in (fields_of t) ≡ 9
unfolding fields_of count_in
fields_bad [] some g = absurd (omega arith)
fields_bad (c ∷ cs) some g = rw g

fields_good : (t : List ℕ) → 0 < length t → good_from 0 t ≡ true → fields_of t ≡ given (values_from 0 t)
unfolding fields_of
fields_good [] some g = absurd (omega arith)
fields_good (c ∷ cs) some g = rw g

module _ (t start left : List ℕ) (some : 0 < length t) where
  taken_bad : good_from 0 t ≡ false → Taken (fields_of t) start left 9
  taken_bad g = taken_none (fields_of t) start left (fields_bad t some g)

  taken_many : 8 < length (values_from 0 t) → Taken (fields_of t) start left 9
  taken_many h =
      by_test (good_from 0 t)
      (λ g. taken_none (fields_of t) start left (ap count_in (fields_good t some g) ∙ count_many (values_from 0 t) h)) (λ g. taken_bad g)

-- ---- a field that ends

data End (v n count k : ℕ) (out left : List ℕ) : Type 0 where
  empty : n ≡ 0 → k ≡ 9 → End v n count k out left
  full : 7 < count → k ≡ 9 → End v n count k out left
  stored : 0 < n → count ≤ 7 → k ≡ count + 1 → left ≡ put out (2 * count) (v / 256 ∷ v % 256 ∷ []) → End v n count k out left

module _ (v n count : ℕ) (out : List ℕ) where
  pub ended_empty : n ≡ 0 → placing 9 out ≡ ended v n count out
  unfolding ended
  ended_empty e = rw (eq-eqb n 0 e)

  pub ended_full : (n ≡ 0 → ⊥) → 7 < count → placing 9 out ≡ ended v n count out
  unfolding ended
  ended_full e h = rw (ne_eqb n 0 e, lt-ltb 7 count h)

  pub ended_stored : (n ≡ 0 → ⊥) → count ≤ 7 → (left : List ℕ) → left ≡ put out (2 * count) (v / 256 ∷ v % 256 ∷ [])
      → placing (count + 1) left ≡ ended v n count out
  unfolding ended
  ended_stored e h left l = rw (ne_eqb n 0 e, le-ltb 7 count h, l)

  module _ (k : ℕ) (left : List ℕ) (told : placing k left ≡ ended v n count out) where
    end_is : End v n count k out left
    end_is =
        by_test (eqb n 0)
        (λ e. let z = eqb-true n 0 e in empty z (ap (λ (x : Placed). x.next) (told ∙ sym (ended_empty z))))
        (λ e. let s = eqb-false n 0 e in
        by_test (ltb 7 count) (λ f. let h = ltb-true 7 count f in full h (ap (λ (x : Placed). x.next) (told ∙ sym (ended_full s h))))
        (λ f. let h = ltb-false 7 count f in
        let is = told ∙ sym (ended_stored s h _ refl) in
        stored (omega arith) h (ap (λ (x : Placed). x.next) is) (ap (λ (x : Placed). x.left) is)))

-- ---- the invariant: what the rest of the text is, after count fields whose bytes are in out and n digits of the value v, is what the whole
-- text t is at the start of out as it was

pub record Going (t start : List ℕ) (count n v : ℕ) (out rest : List ℕ) : Type 0 where
  pub four : n ≤ 4
  pub small : v < most n
  pub good : good_from n rest ≡ good_from 0 t
  pub many : count + length (values_from v rest) ≡ length (values_from 0 t)
  pub laid : put out (2 * count) (bytes_of (values_from v rest)) ≡ put start 0 (bytes_of (values_from 0 t))

pub going_start : (t out : List ℕ) → Going t out 0 0 0 out t
unfolding most
going_start t out = record { four = omega arith; small = omega arith; good = refl; many = omega arith; laid = refl }

-- ---- a turn at a character

module _ (c n v : ℕ) (cs : List ℕ) where
  module _ (colon : c ≡ 58) where
    good_empty : n ≡ 0 → good_from n (c ∷ cs) ≡ false
    unfolding good_from
    good_empty e = rw (eq-eqb c 58 colon, eq-eqb n 0 e)

    good_colon : (n ≡ 0 → ⊥) → good_from n (c ∷ cs) ≡ good_from 0 cs
    unfolding good_from
    good_colon e = rw (eq-eqb c 58 colon, ne_eqb n 0 e)

    values_colon : values_from v (c ∷ cs) ≡ v ∷ values_from 0 cs
    unfolding values_from
    values_colon = rw (eq-eqb c 58 colon)

  module _ (other : c ≡ 58 → ⊥) where
    good_none : 16 ≡ added n c → good_from n (c ∷ cs) ≡ false
    unfolding good_from
    good_none told =
        by_test (eqb n 4) (λ e. rw (ne_eqb c 58 other, e))
        (λ e. rw (ne_eqb c 58 other, e, none_nibble c (added_nibble n c (eqb-false n 4 e) ∙ sym told)))

    good_digit : (d : ℕ) → Adds n c d → good_from n (c ∷ cs) ≡ good_from (n + 1) cs
    unfolding good_from
    good_digit d a = rw (ne_eqb c 58 other, ne_eqb n 4 a.room, a.digit)

    values_digit : (d : ℕ) → d ≡ value_of c → values_from v (c ∷ cs) ≡ values_from (v * 16 + d) cs
    unfolding values_from
    values_digit d e = rw (ne_eqb c 58 other, e)

-- a group was stored, and others are still to be
group_stored : (out left : List ℕ) (count v : ℕ) (vs : List ℕ) → left ≡ put out (2 * count) (v / 256 ∷ v % 256 ∷ [])
    → put left (2 * (count + 1)) (bytes_of vs) ≡ put out (2 * count) (bytes_of (v ∷ vs))
unfolding bytes_of
group_stored out left count v vs e =
    put_then out left (2 * count) (2 * (count + 1)) (v / 256 ∷ v % 256 ∷ []) (bytes_of vs) e (omega arith)

group_last : (out left : List ℕ) (count v : ℕ) → left ≡ put out (2 * count) (v / 256 ∷ v % 256 ∷ []) → left ≡ put out (2 * count) (bytes_of (v ∷ []))
unfolding bytes_of
group_last out left count v e = e

module _ (t start : List ℕ) (count n v : ℕ) (out : List ℕ) where
  digit_turn : (c d : ℕ) (cs : List ℕ) → (c ≡ 58 → ⊥) → Adds n c d → Going t start count n v out (c ∷ cs)
      → Going t start count (n + 1) (v * 16 + d) out cs
  digit_turn c d cs other a g =
      let vs = values_digit c n v cs other d a.is in
      let four = g.four in
      let room = a.room in
      record {
        four = omega arith;
        small = most_more n v d g.small (omega (arith, a.is, value_small c a.digit));
        good = sym (good_digit c n v cs other d a) ∙ g.good;
        many = omega (arith, ap length vs, g.many);
        laid = ap (put _ _) (ap bytes_of (sym vs)) ∙ g.laid;
      }

  module _ (k : ℕ) (left : List ℕ) where
    colon_turn : (c : ℕ) (cs : List ℕ) → c ≡ 58 → (k ≡ 9 → ⊥) → End v n count k out left → Going t start count n v out (c ∷ cs)
        → (k ≤ 8) × Going t start k 0 0 left cs
    unfolding most
    colon_turn c cs colon more (empty e is) g = absurd (more is)
    colon_turn c cs colon more (full h is) g = absurd (more is)
    colon_turn c cs colon more (stored some room is l) g =
        let vs = values_colon c n v cs colon in (
          omega arith,
          record {
            four = omega arith;
            small = omega arith;
            good = sym (good_colon c n v cs colon (λ z. omega arith)) ∙ g.good;
            many = omega (arith, ap length vs, g.many);
            laid = rw is (group_stored out left count v (values_from 0 cs) l) ∙ ap (put _ _) (ap bytes_of (sym vs)) ∙ g.laid;
          },
        )

    colon_stop : (c : ℕ) (cs : List ℕ) → 0 < length t → c ≡ 58 → k ≡ 9 → End v n count k out left → Going t start count n v out (c ∷ cs)
        → Taken (fields_of t) start left 9
    colon_stop c cs some colon nine (empty e is) g = taken_bad t start left some (sym g.good ∙ good_empty c n v cs colon e)
    colon_stop c cs some colon nine (full h is) g = taken_many t start left some (omega (arith, g.many, ap length (values_colon c n v cs colon)))
    colon_stop c cs some colon nine (stored e room is l) g = absurd (omega arith)

    text_end : 0 < length t → End v n count k out left → Going t start count n v out [] → Taken (fields_of t) start left k
    unfolding good_from values_from
    text_end some (empty e is) g = rw is (taken_bad t start left some (sym g.good ∙ le-ltb 0 n (omega arith)))
    text_end some (full h is) g = rw is (taken_many t start left some (omega (arith, g.many)))
    text_end some (stored e room is l) g =
        let good = fields_good t some (sym g.good ∙ lt-ltb 0 n e) in
        taken_some (fields_of t) start left (values_from 0 t) k good (omega (arith, g.many)) (omega arith) (group_last out left count v l ∙ g.laid)

-- ---- the same at a place of the text

module _ (t start : List ℕ) (count n v : ℕ) (out : List ℕ) (i : ℕ) (g : Going t start count n v out (drop i t)) where
  pub going_end : length t ≤ i → (k : ℕ) (left : List ℕ) → 0 < length t → placing k left ≡ ended v n count out → Taken (fields_of t) start left k
  going_end h k left some told =
      text_end t start count n v out k left some (end_is v n count out k left told) (rw (drop_of_length-le t {i = i} h) at g)

  module _ (more : i < length t) where
    here : Going t start count n v out (get_or t i 0 ∷ drop (i + 1) t)
    here = let next : drop i t ≡ get_or t i 0 ∷ drop (i + 1) t = rw (add-one i) (drop-cons t i 0 more) in rw next at g

    module _ (colon : get_or t i 0 ≡ 58) (k : ℕ) (left : List ℕ) (told : placing k left ≡ ended v n count out) where
      pub going_colon : (k ≡ 9 → ⊥) → (k ≤ 8) × Going t start k 0 0 left (drop (i + 1) t)
      going_colon some = colon_turn t start count n v out k left (get_or t i 0) (drop (i + 1) t) colon some (end_is v n count out k left told) here

      pub stops_colon : 0 < length t → k ≡ 9 → Taken (fields_of t) start left 9
      stops_colon some nine =
          colon_stop t start count n v out k left (get_or t i 0) (drop (i + 1) t) some colon nine (end_is v n count out k left told) here

    module _ (other : get_or t i 0 ≡ 58 → ⊥) (d : ℕ) (told : d ≡ added n (get_or t i 0)) where
      pub going_digit : (d ≡ 16 → ⊥) → Going t start count (n + 1) (v * 16 + d) out (drop (i + 1) t)
      going_digit some = digit_turn t start count n v out (get_or t i 0) d (drop (i + 1) t) other (adds n (get_or t i 0) d told some) here

      pub digit_fits : (d ≡ 16 → ⊥) → v * 16 + d < 65536
      digit_fits some = let h = going_digit some in four_small (n + 1) (v * 16 + d) h.four h.small

      pub stops_digit : 0 < length t → d ≡ 16 → Taken (fields_of t) start out 9
      stops_digit some none =
          taken_bad t start out some (sym here.good ∙ good_none (get_or t i 0) n v (drop (i + 1) t) other (sym none ∙ told))
