-- "Unknown types are skipped": wherever entries of unknown types stand among others, and however many, they change neither the record nor the refusal.
-- Assumes nothing.
use mathlib.Core.Path.{◌≡◌, refl, sym, ap, ◌∙◌}
use mathlib.Core.Bool.{Bool, true, false}
use mathlib.Core.List.{List, [], ◌∷◌}
use Prim.Native.Nat.{ℕ, ◌≤◌}
use native.Mathlib.Omega.{arith}
use lib.ListN.{length}
use lib.Dec.{eqb, leb}
use borrow.Author.Tests.{ne_eqb, le-ltb}
use Rattle.refusal.specs.Sizes.{most_bytes}
use Rattle.refusal.specs.Answer.{pick, Answer, given, absent, refused, then_do, on_given}
use Rattle.refusal.specs.Every.{Every}
use Rattle.laws.proofs.Tests.{by_test}
use Rattle.tlv.specs.Entries.{Entry, framing}
use Rattle.tlv_last.specs.Last.{last_of}
use Rattle.tlv.proofs.Walks.{Lies, framing_lies}
use Rattle.diag_rules.specs.Rule.{keeps_rule}
use Rattle.diag_rules.proofs.Kept.{value_kept, other_kept}
use Rattle.diag_entries.specs.Parts.{all_of}
use Rattle.diag_entries.specs.Checked.{entry_value, decoding}
use Rattle.diag_entries.specs.Lists.{address_lists}
use Rattle.diag_entries.proofs.Checks.{entry_other}
use Rattle.diag.specs.Diag.{diag}

-- the types of document 01: 0 to 9, 14 to 18, 23 and 30
unfoldable pub known : (ty : ℕ) → Bool
known t = pick (leb t 9) true (pick (leb t 13) false (pick (leb t 18) true (pick (eqb t 23) true (eqb t 30))))

unfoldable pub known_only : List Entry → List Entry
known_only [] = []
known_only (e ∷ es) = pick (known e.ty) (e ∷ known_only es) (known_only es)

-- an unknown type is none of the known
unlike : (t x : ℕ) → known x ≡ false → known t ≡ true → x ≡ t → ⊥
unlike t x u h e = let z : false ≡ true = sym u ∙ ap known e ∙ h in let z : ◌≡◌ {A = ℕ} 0 1 = cc in omega arith

module _ (t : ℕ) (h : known t ≡ true) where
  last_known : (best : Answer Entry) (es : List Entry) → last_of t best (known_only es) ≡ last_of t best es
  unfolding last_of known_only
  last_known best [] = refl
  last_known best (e ∷ es) =
      by_test (known e.ty)
      (λ k. rw k (last_known (pick (eqb e.ty t) (given e) best) es))
      (λ k. rw (k, ne_eqb e.ty t (unlike t e.ty k h)) (last_known best es))

  all_known : (es : List Entry) → all_of t (known_only es) ≡ all_of t es
  unfolding all_of known_only
  all_known [] = refl
  all_known (e ∷ es) =
      by_test (known e.ty)
      (λ k. rw k (ap (λ (l : List Entry). pick (eqb e.ty t) (e ∷ l) l) (all_known es)))
      (λ k. rw (k, ne_eqb e.ty t (unlike t e.ty k h)) (all_known es))

pub diag_known : (es : List Entry) → diag (known_only es) ≡ diag es
unfolding diag address_lists known
diag_known es =
    simp (
      last_known 0 refl absent es,
      last_known 1 refl absent es,
      last_known 2 refl absent es,
      last_known 3 refl absent es,
      last_known 4 refl absent es,
      last_known 5 refl absent es,
      last_known 6 refl absent es,
      last_known 7 refl absent es,
      last_known 8 refl absent es,
      last_known 9 refl absent es,
      last_known 14 refl absent es,
      last_known 15 refl absent es,
      last_known 16 refl absent es,
      last_known 17 refl absent es,
      last_known 18 refl absent es,
      last_known 23 refl absent es,
      all_known 30 refl es,
    )

-- a value of an unknown type decodes, where it is within the size
abbrev pub Small : Entry → Type 0
Small e = length e.value ≤ most_bytes

module _ (t : ℕ) (u : known t ≡ false) where
  not : (n : ℕ) → known n ≡ true → t ≡ n → ⊥
  not n h = unlike n t u h

  unknown_keeps : (v : List ℕ) → true ≡ keeps_rule t v
  unfolding known
  unknown_keeps v =
      other_kept t v (not 1 refl) (not 2 refl) (not 3 refl) (not 4 refl) (not 5 refl) (not 6 refl) (not 8 refl) (not 9 refl) (not 14 refl) (not 15 refl)
      (not 16 refl) (not 23 refl) (not 30 refl)

  unknown_decodes : (place : ℕ) (v : List ℕ) → length v ≤ most_bytes → entry_value t place v ≡ given v
  unfolding known
  unknown_decodes place v h =
      entry_other t place v (not 7 refl) ∙ value_kept t place v (le-ltb _ _ h) (sym (unknown_keeps v))

-- ---- the faults that are met, and what is left where there are none
kept_by : (e : Entry) (a : Answer (List ℕ)) (b : Answer (List Entry)) → known e.ty ≡ true
    → then_do a (λ (v : List ℕ). on_given (λ (xs : List Entry). e ∷ xs) (on_given known_only b))
    ≡ on_given known_only (then_do a (λ (v : List ℕ). on_given (λ (xs : List Entry). e ∷ xs) b))
unfolding known_only
kept_by e (given v) (given xs) k = rw k
kept_by e (given v) absent k = refl
kept_by e (given v) (refused n p i) k = refl
kept_by e absent b k = refl
kept_by e (refused n p i) b k = refl

skipped_by : (e : Entry) (b : Answer (List Entry)) → known e.ty ≡ false
    → on_given known_only b ≡ on_given known_only (on_given (λ (xs : List Entry). e ∷ xs) b)
unfolding known_only
skipped_by e (given xs) k = rw k
skipped_by e absent k = refl
skipped_by e (refused n p i) k = refl

decoding_known : (es : List Entry) → Every Small es → decoding (known_only es) ≡ on_given known_only (decoding es)
unfolding decoding known_only
decoding_known [] h = refl
decoding_known (e ∷ es) h =
    by_test (known e.ty)
    (λ k. rw k (rw (decoding_known es h.1) (kept_by e (entry_value e.ty e.place e.value) (decoding es) k)))
    (λ k. rw (k, unknown_decodes e.ty k e.place e.value h.0) (decoding_known es h.1 ∙ skipped_by e (decoding es) k))

record_by : (a : Answer (List Entry)) → on_given diag a ≡ on_given diag (on_given known_only a)
record_by (given es) = ap given (sym (diag_known es))
record_by absent = refl
record_by (refused n p i) = refl

-- THE LAW: what entries say is what the known ones among them say
pub unknown_skipped : (es : List Entry) → Every Small es → on_given diag (decoding es) ≡ on_given diag (decoding (known_only es))
unknown_skipped es h = record_by (decoding es) ∙ ap (on_given diag) (sym (decoding_known es h))

-- it speaks of the entries of every payload within the size
small_by : (s : List ℕ) (es : List Entry) → length s ≤ most_bytes → Every (Lies s) es → Every Small es
small_by s [] h l = tt
small_by s (e ∷ es) h l = (omega (arith, l.0), small_by s es h l.1)

pub payload_small : (s : List ℕ) → length s ≤ most_bytes → Every Small (framing s).entries
payload_small s h = small_by s (framing s).entries h (framing_lies s)
