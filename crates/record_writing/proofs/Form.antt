-- What is written is within document 01's form: types ascending, shortest headers, each type at most once but 30. This is `formed`.
-- Assumes nothing.
use mathlib.Core.Path.{◌≡◌, refl, sym, ap, ◌∙◌, subst}
use mathlib.Core.Bool.{Bool, true, false}
use mathlib.Core.List.{List, [], ◌∷◌, ◌++◌, map, append_assoc}
use Prim.Native.Nat.{ℕ, zero, suc, ◌+◌, ◌≤◌, ◌<◌}
use native.Mathlib.Omega.{arith}
use lib.ListN.{length}
use lib.Dec.{eqb, leb}
use borrow.Author.Tests.{leb-true, leb-false, eqb-true, eqb-false, ne_eqb}
use Rattle.refusal.specs.Sizes.{most_short}
use Rattle.refusal.specs.Every.{Every}
use Rattle.refusal.specs.Answer.{pick, Answer, given, absent, refused}
use Rattle.laws.proofs.Tests.{by_test}
use Rattle.laws.proofs.Bits.{both}
use Rattle.laws.proofs.Answers.{gives}
use Rattle.tlv.specs.Entries.{first, Entry, Content, contents, step, frames, framing}
use Rattle.tlv.specs.Limits.{framed}
use Rattle.tlv.proofs.Tally.{Holds, framed_holds}
use Rattle.tlv_writing.specs.Encode.{header, encode_all, sized, Shortest}
use Rattle.tlv_writing.proofs.Encodes.{header_short, size_bound}
use Rattle.tlv_writing.proofs.Round.{length_all, first_back, parse_written}
use Rattle.pair_rule.specs.Pairing.{occurs}
use Rattle.value_writing.specs.Encode.{ListValue}
use Rattle.record_writing.specs.Values.{Values, Field, fields, entry_for, present, list_content, entries_of}
use Rattle.record_writing.specs.Form.{Ascending, types, Formed}
use Rattle.record_writing.proofs.Round.{in_sizes}

-- ---- shortest headers

short_header : (t at : ℕ) (v : List ℕ) → at + length (header t (length v)) ≡ at + 4 → most_short < length v
short_header t at v e =
    by_test (leb (length v) most_short)
    (λ b. absurd (let h = ap length (header_short t (length v) (leb-true _ _ b)) in omega arith))
    (λ b. leb-false _ _ b)

frames_shortest : (fuel at : ℕ) (cs : List Content) → length (encode_all cs) ≤ fuel → Every Shortest (frames fuel at (encode_all cs)).entries
unfolding frames step first encode_all
frames_shortest zero at [] h = tt
frames_shortest (suc k) at [] h = tt
frames_shortest zero at (c ∷ cs) h = absurd (omega (arith, length_all c cs, size_bound (length c.value)))
frames_shortest (suc k) at (c ∷ cs) h =
    rw (first_back c.ty c.value (encode_all cs))
    (short_header c.ty at c.value, frames_shortest k _ cs (omega (arith, length_all c cs, size_bound (length c.value))))

framing_shortest : (cs : List Content) → Every Shortest (framing (encode_all cs)).entries
unfolding framing
framing_shortest cs = frames_shortest (length (encode_all cs)) 0 cs (omega arith)

-- ---- types

abbrev ty_of : Content → ℕ
ty_of c = c.ty

same_types : (es : List Entry) → types es ≡ map ty_of (contents es)
unfolding contents
same_types [] = refl
same_types (e ∷ es) = ap (λ (l : List ℕ). e.ty ∷ l) (same_types es)

-- each is over the one before it, and the first is n at least; all are below 30
unfoldable pub rises : ℕ → List Field → Bool
rises n [] = leb n 30
rises n (f ∷ fs) = pick (leb n f.ty) (rises (suc f.ty) fs) false

abbrev From : ℕ → List ℕ → Type 0
From n [] = Unit {0}
From n (x ∷ xs) = (n ≤ x) × From x xs

from_less : (m n : ℕ) (l : List ℕ) → m ≤ n → From n l → From m l
from_less m n [] h f = tt
from_less m n (x ∷ xs) h f = (omega (arith, f.0), f.1)

from_ascending : (n : ℕ) (l : List ℕ) → From n l → Ascending l
from_ascending n [] f = tt
from_ascending n (x ∷ []) f = tt
from_ascending n (x ∷ y ∷ ys) f = (f.1.0, from_ascending x (y ∷ ys) f.1)

lists_from : (n : ℕ) (ls : List ListValue) → n ≤ 30 → From n (map ty_of (map list_content ls))
lists_from n [] h = tt
lists_from n (l ∷ ls) h = (h, lists_from 30 ls (omega arith))

lists_none : (t : ℕ) (ls : List ListValue) → eqb 30 t ≡ false → occurs t (map ty_of (map list_content ls)) ≡ 0
unfolding occurs
lists_none t [] h = refl
lists_none t (l ∷ ls) h = rw h (lists_none t ls h)

module _ (ls : List ListValue) where
  abbrev after : List Field → List ℕ
  after fs = map ty_of (present fs ++ map list_content ls)

  one_from : (n t : ℕ) (a : Answer (List ℕ)) (cs : List Content) → n ≤ t → From (suc t) (map ty_of cs) → From n (map ty_of (entry_for t a ++ cs))
  unfolding entry_for
  one_from n t (given x) cs h f = (h, from_less t (suc t) (map ty_of cs) (omega arith) f)
  one_from n t absent cs h f = from_less n (suc t) (map ty_of cs) (omega arith) f
  one_from n t (refused m p i) cs h f = from_less n (suc t) (map ty_of cs) (omega arith) f

  fields_from : (fs : List Field) (n : ℕ) → rises n fs ≡ true → From n (after fs)
  unfolding rises present
  fields_from [] n h = lists_from n ls (leb-true n 30 h)
  fields_from (f ∷ fs) n h =
      let b = both (leb n f.ty) (rises (suc f.ty) fs) h in
      rw append_assoc (one_from n f.ty f.value (present fs ++ map list_content ls) (leb-true n f.ty b.0) (fields_from fs (suc f.ty) b.1))

  one_other : (t u : ℕ) (a : Answer (List ℕ)) (cs : List Content) → eqb u t ≡ false → occurs t (map ty_of (entry_for u a ++ cs)) ≡ occurs t (map ty_of cs)
  unfolding entry_for occurs
  one_other t u (given x) cs h = rw h
  one_other t u absent cs h = refl
  one_other t u (refused m p i) cs h = refl

  one_more : (t u : ℕ) (a : Answer (List ℕ)) (cs : List Content) → occurs t (map ty_of (entry_for u a ++ cs)) ≤ 1 + occurs t (map ty_of cs)
  unfolding entry_for occurs
  one_more t u (given x) cs = by_test (eqb u t) (λ b. rw b (omega arith)) (λ b. rw b (omega arith))
  one_more t u absent cs = omega arith
  one_more t u (refused m p i) cs = omega arith

  -- a type below all of them stands in the lists alone
  below : (fs : List Field) (n t : ℕ) → rises n fs ≡ true → t < n → occurs t (after fs) ≡ occurs t (after [])
  unfolding rises present
  below [] n t h l = refl
  below (f ∷ fs) n t h l =
      let b = both (leb n f.ty) (rises (suc f.ty) fs) h in
      let k = leb-true n f.ty b.0 in
      rw append_assoc
      (one_other t f.ty f.value (present fs ++ map list_content ls) (ne_eqb f.ty t (λ e. absurd (omega arith)))
      ∙ below fs (suc f.ty) t b.1 (omega arith))

  at_most_once : (fs : List Field) (n t : ℕ) → rises n fs ≡ true → occurs t (after fs) ≤ 1 + occurs t (after [])
  unfolding rises present
  at_most_once [] n t h = omega arith
  at_most_once (f ∷ fs) n t h =
      let b = both (leb n f.ty) (rises (suc f.ty) fs) h in
      let cs = present fs ++ map list_content ls in
      by_test (eqb f.ty t)
      (λ e.
      let same = eqb-true f.ty t e in
      rw append_assoc (omega (arith, one_more t f.ty f.value cs, below fs (suc f.ty) t b.1 (omega arith))))
      (λ e. rw append_assoc (omega (arith, one_other t f.ty f.value cs e, at_most_once fs (suc f.ty) t b.1)))

flip : (a b : ℕ) → eqb a b ≡ false → eqb b a ≡ false
flip a b h = ne_eqb b a (λ e. eqb-false a b h (sym e))

module _ (v : Values) (es : List Entry) (is : contents es ≡ entries_of v) where
  types_are : types es ≡ after v.child_lists (fields v)
  unfolding entries_of
  types_are = same_types es ∙ ap (map ty_of) is

  types_ascend : Ascending (types es)
  unfolding rises
  types_ascend = rw types_are (from_ascending 0 (after v.child_lists (fields v)) (fields_from v.child_lists (fields v) 0 refl))

  types_once : (t : ℕ) → eqb t 30 ≡ false → occurs t (types es) ≤ 1
  unfolding rises present
  types_once t h =
      rw types_are (omega (arith, at_most_once v.child_lists (fields v) 0 t refl, lists_none t v.child_lists (flip t 30 h)))

-- what is written is within document 01's form
pub formed : (v : Values) (bs : List ℕ) → sized (entries_of v) ≡ given bs → Formed bs
formed v bs e =
    let z = in_sizes (entries_of v) bs e in
    let g = gives contents (framed 0 (encode_all (entries_of v))) (entries_of v) (parse_written 0 (entries_of v) z.bytes z.entries) in
    record {
      entries = g.one;
      are = ap (framed 0) z.are ∙ g.is;
      ascending = types_ascend v g.one g.so;
      once = types_once v g.one g.so;
      shortest = subst (Holds 0 (Every Shortest)) g.is (framed_holds 0 (Every Shortest) (encode_all (entries_of v)) (framing_shortest (entries_of v)));
    }
