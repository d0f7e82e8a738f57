-- The network name and the channel mask: a query keeps the entry where its value is good, and its value is then that of the last entry of
-- the type.
-- Assumes nothing.
use mathlib.Core.Path.{◌≡◌, refl, sym, ap, ◌∙◌}
use mathlib.Core.Bool.{Bool, true, false}
use mathlib.Core.List.{List, []}
use Prim.Native.Nat.{ℕ, ◌+◌, ◌≤◌}
use native.Mathlib.Omega.{arith}
use lib.ListN.{length, take, drop}
use Rattle.refusal.specs.Answer.{Answer, given, absent, refused, then_do, on_given}
use Rattle.laws.proofs.Answers.{gives, on_absent, on_refused}
use Rattle.laws.proofs.Parts.{length_part}
use Rattle.tlv.specs.Entries.{Entry}
use Rattle.tlv_last.specs.Last.{last_entry, spot_at, spot, last_spot, value_or, last_value}
use Rattle.tlv_last.specs.declared.Spot.{Spot}
use Rattle.tlv_last.proofs.Lasts.{spot_part}
use Rattle.channel_masks.specs.Mask.{Masked, items}
use Rattle.plain_values.specs.Plain.{name_at, checked}
use Rattle.dataset_parts.specs.Parts.{name_entry, mask_at, mask_entry, mask_spot}
use Rattle.dataset_parts.specs.declared.MaskSpot.{MaskSpot}
use Rattle.dataset.proofs.Finds.{found_inside, found, none_found, refused_found}

is_given : {A : Type 0} → Answer A → Bool
is_given (given x) = true
is_given absent = false
is_given (refused n p i) = false

on_given_lem : {A B : Type 0} (g : A → B) (a : Answer A) → is_given (on_given g a) ≡ is_given a
unfolding is_given
on_given_lem g (given x) = refl
on_given_lem g absent = refl
on_given_lem g (refused n p i) = refl

-- x where g answers for its entry
abbrev keep : {A : Type 0} → Answer Entry → (Entry → Answer A) → Answer Entry
keep {A} x g = then_do x (λ (e : Entry). on_given (λ (y : A). e) (g e))

module _ {A : Type 0} (g : Entry → Answer A) where
  keep_is : (x : Answer Entry) → is_given (keep x g) ≡ true → keep x g ≡ x
  unfolding is_given
  keep_is (given e) h = one (g e) h
    where
      one : (a : Answer A) → is_given (on_given (λ (y : A). e) a) ≡ true → on_given (λ (y : A). e) a ≡ given e
      one (given y) k = refl
      one absent k = absurd (let z : ◌≡◌ {A = ℕ} 0 1 = cc in omega arith)
      one (refused n p i) k = absurd (let z : ◌≡◌ {A = ℕ} 0 1 = cc in omega arith)
  keep_is absent h = refl
  keep_is (refused n p i) h = refl

module _ (s : List ℕ) where
  -- ---- the network name

  -- what `network_name` learns: of the entry that was found, and of `check_name`
  module _ (p a n : ℕ) (told : given (spot_at p a n) ≡ last_spot 3 0 s) where
    pub name_kept : given tt ≡ checked (name_at p (take n (drop a s))) → given (spot_at p a n) ≡ on_given spot (name_entry s)
    unfolding name_entry
    name_kept says =
        let x = gives (λ (v : List ℕ). tt) (name_at p (take n (drop a s))) tt (sym says) in
        let size : length (take n (drop a s)) ≡ n = length_part s a n (found_inside 3 s p a n told) in
        rw ((found 3 s p a n told).is, x.is, size)

    pub name_refused : (m q j : ℕ) → refused m q j ≡ checked (name_at p (take n (drop a s))) → refused m q j ≡ on_given spot (name_entry s)
    unfolding name_entry
    name_refused m q j says = rw ((found 3 s p a n told).is, on_refused (λ (v : List ℕ). tt) _ m q j says)

  pub no_name : absent ≡ last_spot 3 0 s → absent ≡ on_given spot (name_entry s)
  unfolding name_entry
  no_name told = rw (none_found 3 s told)

  pub no_name_of : (m q j : ℕ) → refused m q j ≡ last_spot 3 0 s → refused m q j ≡ on_given spot (name_entry s)
  unfolding name_entry
  no_name_of m q j told = rw (refused_found 3 s m q j told)

  -- what the caller of `network_name` learns
  pub name_part : (p a n : ℕ) → given (spot_at p a n) ≡ on_given spot (name_entry s) → (a + n ≤ length s) × (take n (drop a s) ≡ value_or (name_entry s))
  unfolding is_given last_spot last_value name_entry
  name_part p a n says =
      let same = keep_is (λ (e : Entry). name_at e.place e.value) (last_entry 3 0 s) (sym (ap is_given says ∙ on_given_lem spot (name_entry s))) in
      let part = spot_part s 3 p a n (says ∙ ap (on_given spot) same) in
      (part.0, part.1 ∙ ap value_or (sym same))

  -- ---- the channel mask

  pub no_mask : absent ≡ last_spot 53 0 s → absent ≡ mask_spot s
  unfolding mask_spot
  no_mask told = rw (none_found 53 s told)

  pub no_mask_of : (m q j : ℕ) → refused m q j ≡ last_spot 53 0 s → refused m q j ≡ mask_spot s
  unfolding mask_spot
  no_mask_of m q j told = rw (refused_found 53 s m q j told)

  -- what `channel_mask` learns: by where the entry lies, and by its items
  abbrev mask_in : Spot → Answer MaskSpot
  mask_in p = on_given (λ (is : List Masked). mask_at p.place p.start p.len (length is)) (items p.place (take p.len (drop p.start s)))

  mask_by : (x : Answer Spot) → x ≡ last_spot 53 0 s → mask_spot s ≡ then_do x mask_in
  unfolding mask_spot
  mask_by (given p) e =
      let size : length (take p.len (drop p.start s)) ≡ p.len = length_part s p.start p.len (found_inside 53 s p.place p.start p.len e) in
      rw ((found 53 s p.place p.start p.len e).is, size)
  mask_by absent e = sym (no_mask e)
  mask_by (refused m q j) e = sym (no_mask_of m q j e)

  pub mask_by_spot : mask_spot s ≡ then_do (last_spot 53 0 s) mask_in
  mask_by_spot = mask_by (last_spot 53 0 s) refl

  -- what the caller of `channel_mask` learns
  abbrev spot_of : MaskSpot → Spot
  spot_of x = spot_at x.place x.start x.len

  mask_spot_lem : on_given spot_of (mask_spot s) ≡ on_given spot (mask_entry s)
  unfolding mask_spot mask_entry
  mask_spot_lem = both (last_entry 53 0 s)
    where
      one : (e : Entry) (x : Answer (List Masked))
          → on_given spot_of (on_given (λ (is : List Masked). mask_at e.place e.start (length e.value) (length is)) x)
          ≡ on_given spot (on_given (λ (is : List Masked). e) x)
      one e (given is) = refl
      one e absent = refl
      one e (refused u v w) = refl

      both : (x : Answer Entry)
          → on_given spot_of
          (then_do x (λ (e : Entry). on_given (λ (is : List Masked). mask_at e.place e.start (length e.value) (length is)) (items e.place e.value)))
          ≡ on_given spot (then_do x (λ (e : Entry). on_given (λ (is : List Masked). e) (items e.place e.value)))
      both (given e) = one e (items e.place e.value)
      both absent = refl
      both (refused u v w) = refl

  pub mask_part : (p a n k : ℕ) → given (mask_at p a n k) ≡ mask_spot s → (a + n ≤ length s) × (take n (drop a s) ≡ value_or (mask_entry s))
  unfolding is_given last_spot last_value mask_entry
  mask_part p a n k says =
      let told : given (spot_at p a n) ≡ on_given spot (mask_entry s) = ap (on_given spot_of) says ∙ mask_spot_lem in
      let same = keep_is (λ (e : Entry). items e.place e.value) (last_entry 53 0 s) (sym (ap is_given told ∙ on_given_lem spot (mask_entry s))) in
      let part = spot_part s 53 p a n (told ∙ ap (on_given spot) same) in
      (part.0, part.1 ∙ ap value_or (sym same))

  pub mask_told : (m q j : ℕ) → refused m q j ≡ mask_spot s → refused m q j ≡ on_given spot (mask_entry s)
  mask_told m q j says = ap (on_given spot_of) says ∙ mask_spot_lem

  pub mask_none : absent ≡ mask_spot s → absent ≡ on_given spot (mask_entry s)
  mask_none says = ap (on_given spot_of) says ∙ mask_spot_lem

-- where none is told, there are no bytes
pub none_absent : (x : Answer Entry) → absent ≡ on_given spot x → [] ≡ value_or x
none_absent x says = rw (on_absent spot x says)

pub none_refused : (x : Answer Entry) (m q j : ℕ) → refused m q j ≡ on_given spot x → [] ≡ value_or x
none_refused x m q j says = rw (on_refused spot x m q j says)
