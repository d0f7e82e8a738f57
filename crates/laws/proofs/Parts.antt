-- A part of a list, its elements one by one, and what holds of each element of parts and of lists put together.
-- Assumes nothing.
use mathlib.Core.Path.{◌≡◌, refl, ap}
use mathlib.Core.List.{List, [], ◌∷◌, ◌++◌}
use Prim.Native.Nat.{ℕ, zero, suc, ◌+◌, ◌≤◌, ◌<◌}
use native.Mathlib.Omega.{arith}
use lib.ListN.{length, take, drop, get_or, length-drop}
use lib.Seq.{length-take-le, drop-cons}
use Rattle.refusal.specs.Every.{Every, Bytes}

pub length_part : (s : List ℕ) (a n : ℕ) → a + n ≤ length s → length (take n (drop a s)) ≡ n
length_part s a n h = length-take-le n (drop a s) (rw length-drop (omega arith))

-- n elements of v from the index i on
abbrev pub elements : (n i : ℕ) → List ℕ → List ℕ
elements zero i v = []
elements (suc n) i v = get_or v i 0 ∷ elements n (suc i) v

pub part_elements : (n i : ℕ) (v : List ℕ) → i + n ≤ length v → take n (drop i v) ≡ elements n i v
part_elements zero i v h = refl
part_elements (suc n) i v h =
    rw (drop-cons v i 0 (omega arith)) (ap (◌∷◌ (get_or v i 0)) (part_elements n (suc i) v (omega arith)))

module _ {A : Type 0} (P : A → Type 0) where
  pub every_append : (a b : List A) → Every P a → Every P b → Every P (a ++ b)
  every_append [] b g h = h
  every_append (x ∷ a) b g h = (g.0, every_append a b g.1 h)

  pub every_parts : (a b : List A) → Every P (a ++ b) → Every P a × Every P b
  every_parts [] b h = (tt, h)
  every_parts (x ∷ a) b h = let p = every_parts a b h.1 in ((h.0, p.0), p.1)

  pub every_take : (n : ℕ) (l : List A) → Every P l → Every P (take n l)
  every_take zero l h = tt
  every_take (suc n) [] h = tt
  every_take (suc n) (x ∷ l) h = (h.0, every_take n l h.1)

  pub every_drop : (n : ℕ) (l : List A) → Every P l → Every P (drop n l)
  every_drop zero l h = h
  every_drop (suc n) [] h = tt
  every_drop (suc n) (x ∷ l) h = every_drop n l h.1

-- what follows from P holds of each where P does
pub every_map : {A : Type 0} (P Q : A → Type 0) → ((x : A) → P x → Q x) → (l : List A) → Every P l → Every Q l
every_map P Q f [] h = tt
every_map P Q f (x ∷ l) h = (f x h.0, every_map P Q f l h.1)

-- each is a byte where it is one by its index
pub every_byte : (s : List ℕ) → ((i : ℕ) → get_or s i 0 < 256) → Bytes s
every_byte [] h = tt
every_byte (b ∷ s) h = (h 0, every_byte s (λ i. h (suc i)))
