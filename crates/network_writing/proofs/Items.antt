-- TLVs as they are written are walked again, one by one.
-- Assumes nothing.
use mathlib.Core.Path.{◌≡◌, refl, sym, ap, ◌∙◌}
use mathlib.Core.List.{List, [], ◌∷◌, ◌++◌}
use Prim.Native.Nat.{ℕ, ◌+◌, ◌/◌, ◌%◌, ◌≤◌, ◌<◌}
use native.Mathlib.Omega.{arith}
use native.Mathlib.Nat.{mod-eq_of_lt}
use lib.ListN.{length, get_or, length-append}
use Rattle.refusal.specs.Every.{Every}
use Rattle.network_framing.specs.Tlvs.{Piece, piece, Walk, clean, onto}
use Rattle.network_framing.specs.Frame.{walk_in}
use Rattle.network_framing.specs.declared.SubTlv.TheVariants.{Item as Framed}
use Rattle.network_framing.proofs.Agrees.{sub_item}
use Rattle.network_framing.proofs.Walks.{walk_end, turn_item}
use Rattle.refusal.specs.Each.{joined}
use Rattle.laws.proofs.Stands.{Stands, stands_first, stands_back}
use Rattle.network_writing.specs.Encode.{Item, item_bytes, items_bytes}

-- where they stand, from a place on
unfoldable pub pieces : ℕ → List Item → List Piece
pieces at [] = []
pieces at (i ∷ is) = piece (i.mark / 2) (at + 2) (length i.value) ∷ pieces (at + 2 + length i.value) is

abbrev pub whole : List Piece → Walk
whole es = record { items = es; stop = clean }

pub length_items : (i : Item) (is : List Item) → length (items_bytes (i ∷ is)) ≡ 2 + length i.value + length (items_bytes is)
unfolding joined
length_items i is = omega (arith, length-append (item_bytes i) (items_bytes is))

-- each value fits its length byte
abbrev pub Fitted : List Item → Type 0
Fitted is = Every (λ (i : Item). length i.value < 256) is

pub walk_items : (is : List Item) (s : List ℕ) (at end : ℕ) → Fitted is → Stands s at (items_bytes is) → end ≡ at + length (items_bytes is) → end ≤ length s
    → walk_in s at end ≡ whole (pieces at is)
unfolding joined pieces
walk_items [] s at end g h e k = walk_end s at end (omega arith)
walk_items (i ∷ is) s at end g h e k =
    let size = length_items i is in
    let n = length i.value in
    let first = stands_first s at i.mark ((length i.value % 256) ∷ (i.value ++ items_bytes is)) h in
    let second : get_or s (at + 1) 0 ≡ length i.value = h 1 (omega arith) ∙ mod-eq_of_lt g.0 in
    let told = sub_item s at end (omega arith) k (omega arith) n (sym second) (i.mark / 2) (at + 2) (ap (λ (x : ℕ). x / 2) (sym first)) refl (omega arith) in
    let next : at + 2 + length i.value ≡ at + length (item_bytes i) = omega arith in
    turn_item s at end (Framed (i.mark / 2) (at + 2) n) told (i.mark / 2) (at + 2) n refl
    ∙ ap (onto (piece (i.mark / 2) (at + 2) (length i.value)))
    (walk_items is s (at + 2 + length i.value) end g.1 (stands_back s at (item_bytes i) (items_bytes is) (at + 2 + length i.value) next h) (omega arith) k)

pub pieces_append : (xs ys : List Item) (at next : ℕ) → next ≡ at + length (items_bytes xs) → pieces at (xs ++ ys) ≡ pieces at xs ++ pieces next ys
unfolding joined pieces
pieces_append [] ys at next e = let k : at ≡ next = omega arith in ap (λ (n : ℕ). pieces n ys) k
pieces_append (x ∷ xs) ys at next e =
    ap (λ (l : List Piece). piece (x.mark / 2) (at + 2) (length x.value) ∷ l) (pieces_append xs ys (at + 2 + length x.value) next (omega (arith, length_items x xs)))
