-- A channel mask: "items of page, length, bytes, back to back, possibly none. One call writes one item" (document 01).
-- Assumes nothing.
use Rattle.std.specs.Prelude.{ℕ, zero, suc, ◌+◌, List, [], ◌∷◌, length, take, drop, get_or, ltb, leb}
use Rattle.refusal.specs.Sizes.{most_bytes}
use Rattle.refusal.specs.Answer.{pick, Answer, given, refused, on_given}
use Rattle.channel_masks.specs.declared.MaskItem.{MaskItem}
use Rattle.channel_masks.specs.declared.MaskItem.TheVariants as i

-- an item
pub record Masked : Type 0 where
  pub page : ℕ
  pub mask : List ℕ

abbrev pub masked : (page : ℕ) → (mask : List ℕ) → Masked
masked p v = record { page = p; mask = v }

-- the items of a value, in at most `fuel` of them; 5 at the place of the entry where one is cut short
unfoldable pub items_in : (fuel place : ℕ) → List ℕ → Answer (List Masked)
items_in zero place v = given []
items_in (suc k) place [] = given []
items_in (suc k) place (p ∷ []) = refused 5 place 0
items_in (suc k) place (p ∷ n ∷ rest) =
    pick (leb n (length rest)) (on_given (λ (is : List Masked). masked p (take n rest) ∷ is) (items_in k place (drop n rest))) (refused 5 place 0)

-- each takes at least 2 bytes, so that a step for each byte is enough
unfoldable pub items : (place : ℕ) → List ℕ → Answer (List Masked)
items place v = pick (ltb most_bytes (length v)) (refused 1 0 0) (items_in (length v) place v)

-- what stands at a place of a value, by places: the code's own language. `items_step` (proofs/Items.antt): it is what `items_in` finds there
unfoldable pub item_at : List ℕ → ℕ → MaskItem
item_at v at =
    pick (leb (length v) at) i.End
    (pick (leb (length v) (at + 1)) i.Cut
    (pick (leb (at + 2 + get_or v (at + 1) 0) (length v)) (i.Item (get_or v at 0) (at + 2) (get_or v (at + 1) 0)) i.Cut))

-- one item as it is written: 13 for "mask item over 255"
unfoldable pub item_written : (page : ℕ) → (mask : List ℕ) → Answer (List ℕ)
item_written p v = pick (ltb 255 (length v)) (refused 13 0 0) (given (p ∷ length v ∷ v))
