-- The entries of type 30: the walk from one to the next, entry k of them, and its address list.
-- Assumes nothing.
use mathlib.Core.Path.{◌≡◌, refl, sym, ap, ◌∙◌}
use mathlib.Core.List.{List, [], ◌∷◌, map}
use Prim.Native.Nat.{ℕ, zero, suc, ◌+◌, ◌-◌, ◌≤◌}
use native.Mathlib.Omega.{arith}
use lib.ListN.{length, take, drop}
use lib.Seq.{drop-drop, take-nil}
use lib.Dec.{eqb}
use borrow.Author.Tests.{eqb-true}
use Rattle.refusal.specs.Answer.{Answer, given, absent, refused, on_given}
use Rattle.refusal.specs.Every.{Every}
use Rattle.laws.proofs.Tests.{pick_all}
use Rattle.laws.proofs.Parts.{length_part}
use Rattle.tlv.specs.Entries.{Entry, entry, framing}
use Rattle.tlv_last.specs.Last.{spot_at, spot}
use Rattle.tlv_last.specs.declared.Spot.{Spot}
use Rattle.tlv.proofs.Walks.{framing_lies}
use Rattle.refusal.specs.Numbered.{nth}
use Rattle.diag_rows.specs.Rows.{part, addresses, address_list_of}
use Rattle.diag_rules.specs.Rule.{value_of}
use Rattle.diag_rows.specs.declared.ChildIpv6AddrInfo.{ChildIpv6AddrInfo}
use Rattle.diag_rules.proofs.Kept.{value_cases}
use Rattle.laws.proofs.Numbered.{nth_head, nth_tail, nth_empty}
use Rattle.diag_entries.specs.Parts.{all_of}
use Rattle.tlv.specs.Walk.{entries_from}
use Rattle.tlv.proofs.Left.{left_start}
use Rattle.diag_entries.specs.Checked.{checked}
use Rattle.diag_entries.specs.Lists.{address_list, address_lists, child_list}
use Rattle.diag_entries.specs.Answers.{said_at}
use Rattle.child_lists.specs.Loops.{list_at}
use Rattle.diag_entries.proofs.Lasts.{all_hit, all_miss, all_none}
use Rattle.diag_entries.proofs.Checks.{Decodes, entry_other}
use Rattle.diag_entries.proofs.Sound.{Of, Sound, all_sound}

-- ---- a turn of the loop that looks for entry k of those of type 30 that are left
module _ (l es : List Entry) (e : Entry) (k : ℕ) (is : l ≡ e ∷ es) where
  pub nth_here : e.ty ≡ 30 → k ≡ 0 → given (spot e) ≡ on_given spot (nth (all_of 30 l) k)
  nth_here h none = ap (on_given spot) (sym (nth_head (all_of 30 l) k _ _ (ap (all_of 30) is ∙ all_hit 30 e es h) none))

  pub nth_past : e.ty ≡ 30 → (k ≡ 0 → ⊥) → nth (all_of 30 es) (k - 1) ≡ nth (all_of 30 l) k
  nth_past h some = sym (nth_tail (all_of 30 l) k _ _ (ap (all_of 30) is ∙ all_hit 30 e es h) some)

  pub nth_other : (e.ty ≡ 30 → ⊥) → nth (all_of 30 es) k ≡ nth (all_of 30 l) k
  nth_other h = ap (λ (x : List Entry). nth x k) (sym (ap (all_of 30) is ∙ all_miss 30 e es h))

pub nth_none : (l : List Entry) (k : ℕ) → l ≡ [] → absent ≡ on_given spot (nth (all_of 30 l) k)
nth_none l k h = ap (on_given spot) (sym (nth_empty (all_of 30 l) k (ap (all_of 30) h ∙ all_none 30)))

-- ---- entry k of them lies in the payload, and decodes where all do
at_cons : (P : Entry → Type 0) (e : Entry) (l : List Entry) (k : ℕ) → P e → ((j : ℕ) → Of P (nth l j)) → Of P (nth (e ∷ l) k)
unfolding nth
at_cons P e l zero a b = a
at_cons P e l (suc k) a b = b k

nth_is : (P : Entry → Type 0) (es : List Entry) (k : ℕ) → Every (λ e. e.ty ≡ 30 → P e) es → Of P (nth (all_of 30 es) k)
unfolding nth all_of
nth_is P [] k h = tt
nth_is P (e ∷ es) k h =
    pick_all (λ (l : List Entry). Of P (nth l k)) (eqb e.ty 30) (e ∷ all_of 30 es) (all_of 30 es)
    (λ t. at_cons P e (all_of 30 es) k (h.0 (eqb-true _ _ t)) (λ j. nth_is P es j h.1)) (λ t. nth_is P es k h.1)

pub nth_sound : (s : List ℕ) (k : ℕ) → Every Decodes (framing s).entries → Of (Sound s 30) (nth (all_of 30 (framing s).entries) k)
nth_sound s k h = nth_is (Sound s 30) (framing s).entries k (all_sound s 30 (framing s).entries (framing_lies s) h)

-- ---- the address list of a value that is a part of the payload
drop_take : (k n : ℕ) (l : List ℕ) → drop k (take n l) ≡ take (n - k) (drop k l)
drop_take zero n l = let z : n ≡ n - 0 = omega arith in ap (λ (m : ℕ). take m l) z
drop_take (suc k) zero l = let z : 0 ≡ 0 - suc k = omega arith in ap (λ (m : ℕ). take m (drop (suc k) l)) z
drop_take (suc k) (suc n) [] = sym (take-nil (suc n - suc k))
drop_take (suc k) (suc n) (x ∷ l) =
    let z : n - k ≡ suc n - suc k = omega arith in
    drop_take k n l ∙ ap (λ (m : ℕ). take m (drop k l)) z

module _ (s : List ℕ) (p a n : ℕ) (inside : a + n ≤ length s) where
  tail_part : take (length (take n (drop a s)) - 2) (drop (a + 2) s) ≡ drop 2 (take n (drop a s))
  tail_part = rw (length_part s a n inside) (ap (take (n - 2)) (sym (drop-drop 2 a s)) ∙ sym (drop_take 2 n (drop a s)))

  module _ (x : ChildIpv6AddrInfo) where
    abbrev Reads : Answer (List ℕ) → Type 0
    Reads v = given x ≡ on_given address_list_of v
        → given record { rloc16 = x.rloc16; child_id = x.child_id; addresses = said_at addresses s (part (a + x.start) x.len) }
        ≡ on_given (λ (v : List ℕ). address_list (entry p 30 a v)) v

    reads_given : Reads (given (take n (drop a s)))
    reads_given e =
        let same : x ≡ address_list_of (take n (drop a s)) = cc in
        rw same (rw tail_part refl)

    pub list_read : given x ≡ on_given address_list_of (value_of 30 p (take n (drop a s)))
        → given record { rloc16 = x.rloc16; child_id = x.child_id; addresses = said_at addresses s (part (a + x.start) x.len) } ≡ list_at s p a n
    unfolding list_at
    list_read = value_cases 30 p (take n (drop a s)) Reads reads_given (λ m q i e. absurd (let z : ◌≡◌ {A = ℕ} 0 1 = cc in omega arith))

    starts_by : (v : Answer (List ℕ)) → given x ≡ on_given address_list_of v → x.start ≡ 2
    starts_by (given v) e = let same : x ≡ address_list_of v = cc in ap (λ (y : ChildIpv6AddrInfo). y.start) same
    starts_by absent e = absurd (let z : ◌≡◌ {A = ℕ} 0 1 = cc in omega arith)
    starts_by (refused m q i) e = absurd (let z : ◌≡◌ {A = ℕ} 0 1 = cc in omega arith)

    pub list_starts : given x ≡ on_given address_list_of (value_of 30 p (take n (drop a s))) → x.start ≡ 2
    list_starts = starts_by (value_of 30 p (take n (drop a s)))

-- a refusal stays
pub list_refused : (s : List ℕ) (p a n m q i : ℕ) → refused m q i ≡ on_given address_list_of (value_of 30 p (take n (drop a s))) → refused m q i ≡ list_at s p a n
unfolding list_at
list_refused s p a n m q i = by (value_of 30 p (take n (drop a s)))
  where
    by : (v : Answer (List ℕ)) → refused m q i ≡ on_given address_list_of v → refused m q i ≡ on_given (λ (v : List ℕ). address_list (entry p 30 a v)) v
    by (given v) e = absurd (let z : ◌≡◌ {A = ℕ} 0 1 = cc in omega arith)
    by absent e = absurd (let z : ◌≡◌ {A = ℕ} 0 1 = cc in omega arith)
    by (refused x y z) e = cc

-- ---- `child_list`, by what was found
lists_map : (l : List Entry) (k : ℕ) → nth (map address_list l) k ≡ on_given address_list (nth l k)
unfolding nth
lists_map [] k = refl
lists_map (e ∷ l) zero = refl
lists_map (e ∷ l) (suc k) = lists_map l k

module _ (s : List ℕ) (k : ℕ) (fine : checked s ≡ given (framing s).entries) (decodes : Every Decodes (framing s).entries) where
  child_is : child_list k s ≡ on_given address_list (nth (all_of 30 (framing s).entries) k)
  unfolding child_list address_lists
  child_is = rw fine (lists_map (all_of 30 (framing s).entries) k)

  module _ (p a n : ℕ) where
    found_by : (x : Answer Entry) → Of (Sound s 30) x → given (spot_at p a n) ≡ on_given spot x → (a + n ≤ length s) × (list_at s p a n ≡ on_given address_list x)
    unfolding list_at
    found_by (given e) h told =
        let same : spot_at p a n ≡ spot e = cc in
        rw (ap (λ (x : Spot). x.place) same, ap (λ (x : Spot). x.start) same, ap (λ (x : Spot). x.len) same)
        (h.0.1, rw (← h.0.2, sym (entry_other 30 e.place e.value (λ z. omega arith)) ∙ h.1))
    found_by absent h told = absurd (let z : ◌≡◌ {A = ℕ} 0 1 = cc in omega arith)
    found_by (refused x y z) h told = absurd h

    pub child_found : given (spot_at p a n) ≡ on_given spot (nth (all_of 30 (entries_from s 0)) k) → (a + n ≤ length s) × (list_at s p a n ≡ child_list k s)
    child_found told =
        let here = told ∙ ap (λ (l : List Entry). on_given spot (nth (all_of 30 l) k)) (left_start s) in
        let w = found_by (nth (all_of 30 (framing s).entries) k) (nth_sound s k decodes) here in
        (w.0, w.1 ∙ sym child_is)

  none_by : (x : Answer Entry) → Of (Sound s 30) x → absent ≡ on_given spot x → absent ≡ on_given address_list x
  none_by (given e) h told = absurd (let z : ◌≡◌ {A = ℕ} 0 1 = cc in omega arith)
  none_by absent h told = refl
  none_by (refused x y z) h told = absurd h

  pub child_none : absent ≡ on_given spot (nth (all_of 30 (entries_from s 0)) k) → absent ≡ child_list k s
  child_none told = none_by (nth (all_of 30 (framing s).entries) k) (nth_sound s k decodes) (told ∙ ap (λ (l : List Entry). on_given spot (nth (all_of 30 l) k)) (left_start s)) ∙ sym child_is
