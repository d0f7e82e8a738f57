-- What the code finds in a list, by the nesting that is still allowed: a turn of the loop over its items, and what an item holds.
-- Assumes nothing.
use mathlib.Core.Path.{◌≡◌, refl, sym, ap, ◌∙◌, subst}
use mathlib.Core.Bool.{true, false}
use mathlib.Core.List.{List, [], ◌∷◌, ◌++◌, append-nil}
use Prim.Native.Nat.{ℕ, zero, suc, ◌+◌, ◌-◌, ◌*◌, ◌≤◌}
use native.Mathlib.Omega.{arith}
use native.Mathlib.Nat.{le_refl}
use lib.ListN.{length, take, drop, length-drop}
use lib.Seq.{take_all, length-take-le}
use lib.Dec.{leb, eqb}
use borrow.Author.Tests.{leb-true, ne_eqb}
use Rattle.refusal.specs.Answer.{pick, Answer, given, absent, refused}
use Rattle.refusal.specs.Output.{output, emit}
use Rattle.laws.proofs.Tests.{by_test, pick_all}
use Rattle.laws.proofs.Emits.{emit_refused}
use Rattle.laws.proofs.Parts.{length_part}
use Rattle.tlv.specs.Entries.{Entry, Framing}
use Rattle.tlv.specs.Limits.{count}
use Rattle.tlv.specs.Place.{frame_at}
use Rattle.tlv.specs.declared.Frame.{Frame}
use Rattle.tlv.specs.declared.Frame.TheVariants as f
use Rattle.tlv.proofs.Walks as walks
use Rattle.tlv.proofs.Tally.{answers_given, answers_refused}
use Rattle.network_framing.specs.Tlvs.{bytes_for, Opening, broken, opened, Walk}
use Rattle.network_framing.specs.Frame.{sub_in, head_at, inner_of, walk_in, sub_answer}
use Rattle.network_framing.specs.Place.{sub_place}
use Rattle.network_framing.specs.declared.SubTlv.{SubTlv}
use Rattle.network_framing.specs.declared.SubTlv.TheVariants as sub
use Rattle.network_framing.proofs.Agrees.{sub_is}
use Rattle.network_framing.proofs.Walks as subs
use Rattle.nested_listing.specs.Tree.{Items, none, cut, item, indent, item_line, cut_line, lines}
use Rattle.nested_listing.specs.Nested.{pieces, tlvs, inner, after_opening, second_holds, network, first_holds, payload, nested}
use Rattle.nested_listing.specs.Levels.{as_entry, as_tlv, item_at, list_of, held_of, list_text, item_text}

-- ---- `put_indent`: a part of four spaces

pub blanks : (level : ℕ) → level ≤ 2 → take (2 * level - 0) (32 ∷ 32 ∷ 32 ∷ 32 ∷ []) ≡ indent level
unfolding indent
blanks zero h = refl
blanks (suc zero) h = refl
blanks (suc (suc zero)) h = refl
blanks (suc (suc (suc l))) h = absurd (omega arith)

-- ---- `item_at`, by what the framing of the level found

module _ (k : ℕ) (s : List ℕ) (at : ℕ) where
  pub item_first : k ≡ 3 → (r : Frame) → r ≡ frame_at s at → as_entry r ≡ item_at k s at
  unfolding item_at
  item_first h r found = rw (h, found)

  pub item_below : (k ≡ 3 → ⊥) → (r : SubTlv) → sub_answer r ≡ sub_in s at (length s) → as_tlv r ≡ item_at k s at
  unfolding item_at
  item_below h r told = rw (ne_eqb _ _ h, subs.found s at (length s) r told)

pub not_cut : (r : Frame) → (r ≡ f.Cut → ⊥) → r ≡ as_entry r
not_cut (f.Entry t a n) never = refl
not_cut f.End never = refl
not_cut f.Cut never = absurd (never refl)

-- ---- `holds`

module _ (k ty : ℕ) (v : List ℕ) where
  pub held_network : k ≡ 3 → ty ≡ 7 → list_of (k - 1) v ≡ held_of k ty v
  unfolding list_of held_of first_holds network
  held_network h e = rw (h, e)

  pub held_other : k ≡ 3 → (ty ≡ 7 → ⊥) → none ≡ held_of k ty v
  unfolding held_of first_holds
  held_other h e = rw (h, ne_eqb _ _ e)

  pub held_prefix : k ≡ 2 → ty ≡ 1 → after_opening (opened v) ≡ held_of k ty v
  unfolding held_of second_holds
  held_prefix h e = rw (h, e)

  pub held_tlv : k ≡ 2 → (ty ≡ 1 → ⊥) → none ≡ held_of k ty v
  unfolding held_of second_holds
  held_tlv h e = rw (h, ne_eqb _ _ e)

  pub held_last : (k ≡ 3 → ⊥) → (k ≡ 2 → ⊥) → none ≡ held_of k ty v
  unfolding held_of
  held_last h e = simp (ne_eqb _ _ h, ne_eqb _ _ e)

pub third_list : (k : ℕ) (v : List ℕ) → k ≡ 2 → list_of (k - 1) v ≡ inner v
unfolding list_of held_of inner
third_list k v h = rw h

-- ---- where a prefix's list begins

-- the place, and what stands there
abbrev At : List ℕ → Answer ℕ → Items → Type 0
At v (given a) x = (a ≤ length v) × (inner (drop a v) ≡ x)
At v absent x = ⊥
At v (refused n p i) x = cut ≡ x

opens_at : (v : List ℕ) → At v (inner_of 0 (opened v)) (after_opening (opened v))
unfolding opened inner_of after_opening
opens_at [] = refl
opens_at (d ∷ []) = refl
opens_at (d ∷ b ∷ rest) =
    pick_all (λ (o : Opening). At (d ∷ b ∷ rest) (inner_of 0 o) (after_opening o)) (leb (bytes_for b) (length rest)) _ broken
    (λ e. let n = length-take-le (bytes_for b) rest (leb-true _ _ e) in
    let q : 0 + (2 + bytes_for b) ≡ suc (suc (bytes_for b)) = omega arith in
    (omega (arith, leb-true), rw (n, q) refl)) (λ e. refl)

module _ (v : List ℕ) where
  opens_there : (x : Answer ℕ) → x ≡ head_at v 0 (length v) → At v x (after_opening (opened v))
  opens_there x e = subst (λ (x : Answer ℕ). At v x (after_opening (opened v))) (sym (e ∙ subs.head_whole v)) (opens_at v)

  pub prefix_list : (a : ℕ) → given a ≡ head_at v 0 (length v) → (a ≤ length v) × (inner (drop a v) ≡ after_opening (opened v))
  prefix_list a e = opens_there (given a) e

  pub prefix_none : (n p i : ℕ) → refused n p i ≡ head_at v 0 (length v) → cut ≡ after_opening (opened v)
  prefix_none n p i e = opens_there (refused n p i) e

-- ---- the list from a place on

abbrev tlvs_in : (holds : ℕ → List ℕ → Items) → List ℕ → Walk → Items
tlvs_in holds v w = pieces holds v w.stop w.items

list_from : (nesting : ℕ) → List ℕ → (at : ℕ) → Items
list_from k s at = pick (eqb k 3) (payload (walks.from s at).entries) (tlvs_in (held_of k) s (walk_in s at (length s)))

pub text_from : (nesting : ℕ) → List ℕ → (at : ℕ) → List ℕ
text_from k s at = lines (3 - k) (list_from k s at)

pub text_start : (k : ℕ) (s : List ℕ) → text_from k s 0 ≡ list_text k s
unfolding text_from list_from list_text list_of
text_start k s = ap (λ (w : Framing). lines (3 - k) (pick (eqb k 3) (payload w.entries) (tlvs (held_of k) s))) (walks.from_start s)

-- ---- a turn: the list from a place, by what stands there

abbrev by_item : (nesting : ℕ) → List ℕ → Frame → Items
by_item k s (f.Entry t a n) = item t n (held_of k t (take n (drop a s))) (list_from k s (a + n))
by_item k s f.Cut = cut
by_item k s f.End = none

abbrev Inside : List ℕ → (at : ℕ) → Frame → Type 0
Inside s at (f.Entry t a n) = (at + 2 ≤ a) × (a + n ≤ length s)
Inside s at f.Cut = Unit {0}
Inside s at f.End = Unit {0}

module _ (k : ℕ) (s : List ℕ) (at : ℕ) where
  entry_step : eqb k 3 ≡ true → (r : Frame) → r ≡ frame_at s at → list_from k s at ≡ by_item k s (as_entry r)
  unfolding list_from held_of payload
  entry_step h (f.Entry t a n) found =
      let len = length_part s a n (walks.turn_inside s at (f.Entry t a n) found t a n refl).1 in
      simp h (ap payload (walks.turn_entries s at (f.Entry t a n) found t a n refl) ∙ rw len)
  entry_step h f.Cut found = simp h (ap (λ (w : Framing). payload w.entries) (walks.turn_cut s at f.Cut found refl))
  entry_step h f.End found = simp h (ap (λ (w : Framing). payload w.entries) (walks.turn_end s at f.End found refl))

  tlv_step : eqb k 3 ≡ false → (r : SubTlv) → r ≡ sub_place s at (length s) → list_from k s at ≡ by_item k s (as_tlv r)
  unfolding list_from pieces
  tlv_step h (sub.Item t a n) found = simp h (ap (tlvs_in (held_of k) s) (subs.turn_item s at (length s) _ (sub_is s at (length s) _ found) t a n refl))
  tlv_step h sub.Cut found = simp h (ap (tlvs_in (held_of k) s) (subs.turn_cut s at (length s) _ (sub_is s at (length s) _ found) refl))
  tlv_step h sub.End found = simp h (ap (tlvs_in (held_of k) s) (subs.turn_end s at (length s) _ (sub_is s at (length s) _ found) refl))

  entry_inside : (r : Frame) → r ≡ frame_at s at → Inside s at (as_entry r)
  entry_inside (f.Entry t a n) found = walks.turn_inside s at (f.Entry t a n) found t a n refl
  entry_inside f.Cut found = tt
  entry_inside f.End found = tt

  tlv_inside : (r : SubTlv) → r ≡ sub_place s at (length s) → Inside s at (as_tlv r)
  tlv_inside (sub.Item t a n) found = subs.turn_inside s at (length s) _ (sub_is s at (length s) _ found) t a n refl
  tlv_inside sub.Cut found = tt
  tlv_inside sub.End found = tt

  -- THE STEP, and that an item lies inside
  list_step : list_from k s at ≡ by_item k s (item_at k s at)
  unfolding item_at
  list_step = by_test (eqb k 3) (λ h. simp h (entry_step h (frame_at s at) refl)) (λ h. simp h (tlv_step h (sub_place s at (length s)) refl))

  step_inside : Inside s at (item_at k s at)
  unfolding item_at
  step_inside = pick_all (Inside s at) (eqb k 3) _ _ (λ h. entry_inside (frame_at s at) refl) (λ h. tlv_inside (sub_place s at (length s)) refl)

  module _ (r : Frame) (found : r ≡ item_at k s at) where
    text_by : (x : Frame) → r ≡ x → text_from k s at ≡ lines (3 - k) (by_item k s x)
    unfolding text_from
    text_by x e = ap (lines (3 - k)) (list_step ∙ ap (by_item k s) (sym found ∙ e))

    module _ (t a n : ℕ) (e : r ≡ f.Entry t a n) where
      pub turn_inside : (at + 2 ≤ a) × (a + n ≤ length s)
      turn_inside = subst (Inside s at) (sym found ∙ e) step_inside

      pub turn_text : text_from k s at ≡ item_text k t (take n (drop a s)) ++ text_from k s (a + n)
      unfolding text_from item_text lines
      turn_text = text_by (f.Entry t a n) e ∙ rw (length_part s a n turn_inside.1)

    pub cut_text : r ≡ f.Cut → text_from k s at ≡ cut_line (3 - k)
    unfolding lines
    cut_text e = text_by f.Cut e

    pub end_text : r ≡ f.End → text_from k s at ≡ []
    unfolding lines
    end_text e = text_by f.End e

-- ---- an item's lines, by what it holds

module _ (k ty : ℕ) (v : List ℕ) where
  abbrev own : List ℕ
  own = item_line (3 - k) ty (length v)

  pub item_list : (a : ℕ) → 2 ≤ k → k ≤ 3 → list_of (k - 1) (drop a v) ≡ held_of k ty v
      → own ++ list_text (k - 1) (take (length v - a) (drop a v)) ≡ item_text k ty v
  unfolding list_text item_text
  item_list a i j e =
      let l : 3 - (k - 1) ≡ suc (3 - k) = omega arith in
      let all : take (length v - a) (drop a v) ≡ drop a v = take_all (length v - a) (drop a v) (rw length-drop (le_refl _)) in
      rw (all, l, e)

  pub item_cut : cut ≡ held_of k ty v → own ++ cut_line (3 - k + 1) ≡ item_text k ty v
  unfolding item_text lines
  item_cut e =
      let l : 3 - k + 1 ≡ suc (3 - k) = omega arith in
      rw (l, ← e)

  pub item_plain : none ≡ held_of k ty v → own ≡ item_text k ty v
  unfolding item_text lines
  item_plain e = rw (← e) (sym (append-nil own))

-- ---- the call

module _ (s : List ℕ) where
  pub nested_given : (n : ℕ) → given n ≡ count 0 s → nested s ≡ given (list_text 3 s)
  unfolding nested list_text list_of
  nested_given n e = answers_given 0 (λ (es : List Entry). lines 0 (payload es)) s n e

  pub nested_refused : (n p i : ℕ) → refused n p i ≡ count 0 s → refused n p i ≡ nested s
  unfolding nested
  nested_refused n p i e = answers_refused 0 (λ (es : List Entry). lines 0 (payload es)) s n p i e

  -- nothing is written
  pub nested_stops : (out : List ℕ) (n p i : ℕ) → refused n p i ≡ count 0 s → output (refused n p i) out ≡ emit (nested s) out
  nested_stops out n p i e = emit_refused (nested s) out n p i (nested_refused n p i e)
