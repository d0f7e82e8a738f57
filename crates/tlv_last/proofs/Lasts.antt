-- The laws of `last_of`: what it says of a list that has the type or has not; one entry more, of the type or of another, where only the spots
-- are kept; and a value that is found is a part of the input.
-- Assumes nothing.
use mathlib.Core.Path.{◌≡◌, refl, sym, ap, ◌∙◌, subst}
use mathlib.Core.Bool.{Bool, true, false}
use mathlib.Core.List.{List, [], ◌∷◌, ◌++◌}
use Prim.Native.Nat.{ℕ, ◌+◌, ◌≤◌}
use native.Mathlib.Omega.{arith}
use lib.ListN.{length, take, drop}
use lib.Dec.{eqb}
use borrow.Author.Tests.{eq-eqb, ne_eqb, eqb-true, eqb-false}
use Rattle.refusal.specs.Answer.{pick, Answer, given, absent, refused, then_do, on_given}
use Rattle.laws.proofs.Tests.{by_test, pick_all}
use Rattle.refusal.specs.Every.{Every}
use Rattle.laws.proofs.Parts.{every_map}
use Rattle.tlv.specs.Entries.{Entry, framing}
use Rattle.tlv.specs.Limits.{framed}
use Rattle.tlv_last.specs.Last.{last_of, last_entry, Spot, spot_at, spot, last_spot, value_or, last_value}
use Rattle.tlv.proofs.Walks.{Lies, framing_lies}
use Rattle.tlv.proofs.Tally.{Only, only, Holds, framed_holds}

-- ---- "the last entry of its type"

-- an entry of another type
abbrev pub Other : ℕ → Entry → Type 0
Other ty e = e.ty ≡ ty → ⊥

-- entries of other types change nothing,
pub over_others : (ty : ℕ) (best : Answer Entry) (es : List Entry) → Every (Other ty) es → last_of ty best es ≡ best
unfolding last_of
over_others ty best [] h = refl
over_others ty best (e ∷ es) h = rw (ne_eqb e.ty ty h.0) (over_others ty best es h.1)

-- so that the last of the type counts, whatever stands before it;
pub last_counts : (ty : ℕ) (best : Answer Entry) (xs : List Entry) (e : Entry) (ys : List Entry) → e.ty ≡ ty → Every (Other ty) ys
    → last_of ty best (xs ++ e ∷ ys) ≡ given e
unfolding last_of
last_counts ty best [] e ys is h =
    let this : pick (eqb e.ty ty) (given e) best ≡ given e = simp (eq-eqb e.ty ty is) in
    ap (λ (x : Answer Entry). last_of ty x ys) this ∙ over_others ty (given e) ys h
last_counts ty best (x ∷ xs) e ys is h = last_counts ty (pick (eqb x.ty ty) (given x) best) xs e ys is h

-- what holds of `best`, and of each entry of the type, holds of what is found;
pub last_holds : (P : Answer Entry → Type 0) (ty : ℕ) (best : Answer Entry) (es : List Entry) → P best → Every (λ (e : Entry). e.ty ≡ ty → P (given e)) es
    → P (last_of ty best es)
unfolding last_of
last_holds P ty best [] b h = b
last_holds P ty best (e ∷ es) b h =
    last_holds P ty (pick (eqb e.ty ty) (given e) best) es (pick_all P (eqb e.ty ty) (given e) best (λ t. h.0 (eqb-true _ _ t)) (λ t. b)) h.1

pub found_all : (P : Answer Entry → Type 0) → ((e : Entry) → P (given e)) → (ty : ℕ) (best : Answer Entry) (es : List Entry) → P best → P (last_of ty best es)
found_all P each ty best es b = last_holds P ty best es b (any es)
  where
    any : (xs : List Entry) → Every (λ (e : Entry). e.ty ≡ ty → P (given e)) xs
    any [] = tt
    any (x ∷ xs) = ((λ t. each x), any xs)

-- and so "absent" tells that there is none
abbrev There : Answer Entry → Type 0
There x = x ≡ absent → ⊥

given_there : (e : Entry) → There (given e)
given_there e h = let z : ◌≡◌ {A = ℕ} 0 1 = cc in omega arith

pub absent_none : (ty : ℕ) (es : List Entry) → last_of ty absent es ≡ absent → Every (Other ty) es
unfolding last_of
absent_none ty [] h = tt
absent_none ty (e ∷ es) h =
    by_test (eqb e.ty ty)
    (λ t. absurd (found_all There given_there ty (given e) es (given_there e) (rw t at h)))
    (λ t. (eqb-false e.ty ty t, absent_none ty es (rw t at h)))

-- bytes that are framed, and no entry of them has the type
pub record Lacks (ty i : ℕ) (s : List ℕ) : Type 0 where
  pub entries : List Entry
  pub is : framed i s ≡ given entries
  pub none : Every (Other ty) entries

pub absent_lacks : (ty i : ℕ) (s : List ℕ) → last_entry ty i s ≡ absent → Lacks ty i s
unfolding last_entry
absent_lacks ty i s h = by (framed i s) refl h
  where
    by : (a : Answer (List Entry)) → framed i s ≡ a → then_do a (last_of ty absent) ≡ absent → Lacks ty i s
    by (given es) is h = record { entries = es; is = is; none = absent_none ty es h }
    by absent is h = absurd (subst (Only i (framing s).entries) is (only i s))
    by (refused n p k) is h = absurd (let z : ◌≡◌ {A = ℕ} 0 1 = cc in omega arith)

-- ---- where it lies

-- the spot of the last of es that has the type, or `best`
unfoldable pub last_spot_of : (ty : ℕ) → Answer Spot → List Entry → Answer Spot
last_spot_of ty best [] = best
last_spot_of ty best (e ∷ es) = last_spot_of ty (pick (eqb e.ty ty) (given (spot e)) best) es

pick_spot : (b : Bool) (e : Entry) (best : Answer Entry) → on_given spot (pick b (given e) best) ≡ pick b (given (spot e)) (on_given spot best)
pick_spot true e best = refl
pick_spot false e best = refl

pub spots_of : (ty : ℕ) (best : Answer Entry) (es : List Entry) → on_given spot (last_of ty best es) ≡ last_spot_of ty (on_given spot best) es
unfolding last_of last_spot_of
spots_of ty best [] = refl
spots_of ty best (e ∷ es) =
    spots_of ty (pick (eqb e.ty ty) (given e) best) es ∙ ap (λ (b : Answer Spot). last_spot_of ty b es) (pick_spot (eqb e.ty ty) e best)

spots_then : (ty : ℕ) (a : Answer (List Entry)) → on_given spot (then_do a (last_of ty absent)) ≡ then_do a (last_spot_of ty absent)
spots_then ty (given es) = spots_of ty absent es
spots_then ty absent = refl
spots_then ty (refused n p i) = refl

pub spot_then : (ty i : ℕ) (s : List ℕ) → last_spot ty i s ≡ then_do (framed i s) (last_spot_of ty absent)
unfolding last_spot last_entry
spot_then ty i s = spots_then ty (framed i s)

-- a turn
module _ (ty : ℕ) (best : Answer Spot) (e : Entry) (es : List Entry) where
  pub last_hit : e.ty ≡ ty → last_spot_of ty best (e ∷ es) ≡ last_spot_of ty (given (spot e)) es
  unfolding last_spot_of
  last_hit h = simp (eq-eqb _ _ h)

  -- which is what is kept then
  pub last_kept : (kept : Answer Spot) → e.ty ≡ ty → kept ≡ given (spot e) → last_spot_of ty kept es ≡ last_spot_of ty best (e ∷ es)
  last_kept kept h is = ap (λ (b : Answer Spot). last_spot_of ty b es) is ∙ sym (last_hit h)

  pub last_miss : (e.ty ≡ ty → ⊥) → last_spot_of ty best (e ∷ es) ≡ last_spot_of ty best es
  unfolding last_spot_of
  last_miss h = simp (ne_eqb _ _ h)

pub last_none : (ty : ℕ) (best : Answer Spot) → last_spot_of ty best [] ≡ best
unfolding last_spot_of
last_none ty best = refl

-- ---- the entry that is given, if any, lies within s
abbrev pub LiesIn : List ℕ → Answer Entry → Type 0
LiesIn s (given e) = Lies s e
LiesIn s absent = Unit {0}
LiesIn s (refused n p i) = Unit {0}

last_lies : (s : List ℕ) (ty : ℕ) (best : Answer Entry) (es : List Entry) → LiesIn s best → Every (Lies s) es → LiesIn s (last_of ty best es)
last_lies s ty best es b h = last_holds (LiesIn s) ty best es b (every_map _ _ (λ e l t. l) es h)

then_lies : (s : List ℕ) (ty i : ℕ) (a : Answer (List Entry)) → Holds i (Every (Lies s)) a → LiesIn s (then_do a (last_of ty absent))
then_lies s ty i (given es) h = last_lies s ty absent es tt h
then_lies s ty i absent h = tt
then_lies s ty i (refused n p k) h = tt

pub entry_lies : (s : List ℕ) (ty i : ℕ) → LiesIn s (last_entry ty i s)
unfolding last_entry
entry_lies s ty i = then_lies s ty i (framed i s) (framed_holds i (Every (Lies s)) s (framing_lies s))

-- what a caller that has the spot learns: it lies within s, and the part of s there is the value
part_by : (s : List ℕ) (p a n : ℕ) (x : Answer Entry) → LiesIn s x → given (spot_at p a n) ≡ on_given spot x
    → (a + n ≤ length s) × (take n (drop a s) ≡ value_or x)
part_by s p a n (given e) l k =
    let same : spot_at p a n ≡ spot e = cc in
    rw (ap (λ (x : Spot). x.start) same, ap (λ (x : Spot). x.len) same) (l.1, sym l.2)
part_by s p a n absent l k = absurd (let z : ◌≡◌ {A = ℕ} 0 1 = cc in omega arith)
part_by s p a n (refused x y z) l k = absurd (let z : ◌≡◌ {A = ℕ} 0 1 = cc in omega arith)

pub spot_part : (s : List ℕ) (ty p a n : ℕ) → given (spot_at p a n) ≡ last_spot ty 0 s
    → (a + n ≤ length s) × (take n (drop a s) ≡ last_value ty s)
unfolding last_spot last_value
spot_part s ty p a n k = part_by s p a n (last_entry ty 0 s) (entry_lies s ty 0) k

none_by : (x : Answer Entry) (y : Answer Spot) → y ≡ on_given spot x → ((e : Spot) → y ≡ given e → ⊥) → value_or x ≡ []
none_by (given e) y k h = absurd (h (spot e) k)
none_by absent y k h = refl
none_by (refused n p i) y k h = refl

pub spot_none : (s : List ℕ) (ty : ℕ) (y : Answer Spot) → y ≡ last_spot ty 0 s → ((e : Spot) → y ≡ given e → ⊥) → last_value ty s ≡ []
unfolding last_spot last_value
spot_none s ty y k h = none_by (last_entry ty 0 s) y k h
