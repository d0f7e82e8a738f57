-- Channel mask items that were written are read back, and what was read is written back.
-- Assumes nothing.
use mathlib.Core.Path.{◌≡◌, refl, sym, ap, ◌∙◌, subst}
use mathlib.Core.List.{List, [], ◌∷◌, ◌++◌, append-nil}
use Prim.Native.Nat.{ℕ, zero, suc, ◌≤◌}
use native.Mathlib.Omega.{arith}
use lib.ListN.{length, take, drop, length-append, length-drop, take-append-drop}
use lib.Seq.{take_at, drop_at, length-take-le}
use lib.Dec.{leb, ltb}
use borrow.Author.Tests.{le-leb, le-ltb, leb-true, ltb-true, ltb-false}
use Rattle.refusal.specs.Sizes.{most_bytes}
use Rattle.refusal.specs.Answer.{Answer, given, absent, refused}
use Rattle.laws.proofs.Tests.{by_test, pick_all}
use Rattle.channel_masks.specs.Mask.{Masked, masked, items_in, items, item_written}
use Rattle.channel_masks.proofs.Items.{ahead, item_too_long, item_fits}

-- items back to back
unfoldable pub in_aRow : List Masked → List ℕ
in_aRow [] = []
in_aRow (x ∷ xs) = x.page ∷ length x.mask ∷ (x.mask ++ in_aRow xs)

row_back : (fuel place : ℕ) (xs : List Masked) → length (in_aRow xs) ≤ fuel → items_in fuel place (in_aRow xs) ≡ given xs
unfolding items_in in_aRow
row_back zero place [] h = refl
row_back zero place (x ∷ xs) h = absurd (omega arith)
row_back (suc k) place [] h = refl
row_back (suc k) place (x ∷ xs) h =
    let n = length-append x.mask (in_aRow xs) in
    rw (le-leb (length x.mask) (length (x.mask ++ in_aRow xs)) (omega arith), take_at x.mask (in_aRow xs) (length x.mask) refl, drop_at x.mask (in_aRow xs) (length x.mask) refl, row_back k place xs (omega arith))

pub items_back : (place : ℕ) (xs : List Masked) → length (in_aRow xs) ≤ most_bytes → items place (in_aRow xs) ≡ given xs
unfolding items
items_back place xs h = rw (le-ltb most_bytes (length (in_aRow xs)) h) (row_back (length (in_aRow xs)) place xs (omega arith))

pub item_back : (place p : ℕ) (v : List ℕ) → length v ≤ 255 → items place (p ∷ length v ∷ v) ≡ given (masked p v ∷ [])
unfolding in_aRow
item_back place p v h =
    ap (λ (s : List ℕ). items place (p ∷ length v ∷ s)) (sym (append-nil v)) ∙ items_back place (masked p v ∷ []) (omega (arith, ap length (append-nil v)))

-- whatever is written for an item reads as that item
pub written_item : (place p : ℕ) (v bs : List ℕ) → item_written p v ≡ given bs → items place bs ≡ given (masked p v ∷ [])
written_item place p v bs e =
    by_test (ltb 255 (length v))
    (λ t. absurd (let z = item_too_long p v (ltb-true _ _ t) ∙ e in let z : ◌≡◌ {A = ℕ} 0 1 = cc in omega arith))
    (λ t.
    let fits = ltb-false _ _ t in
    let same : bs ≡ p ∷ length v ∷ v = let z = sym e ∙ item_fits p v fits in cc in
    ap (items place) same ∙ item_back place p v fits)

-- the items that are given, if any, are v in a row
abbrev Wrote : List ℕ → Answer (List Masked) → Type 0
Wrote v (given xs) = in_aRow xs ≡ v
Wrote v absent = Unit {0}
Wrote v (refused n p i) = Unit {0}

ahead_wrote : (p n : ℕ) (r : List ℕ) (a : Answer (List Masked)) → n ≤ length r → Wrote (drop n r) a
    → Wrote (p ∷ n ∷ r) (ahead (masked p (take n r)) a)
unfolding in_aRow
ahead_wrote p n r (given xs) h w = rw (length-take-le n r h, w, take-append-drop)
ahead_wrote p n r absent h w = tt
ahead_wrote p n r (refused x y z) h w = tt

row_wrote : (fuel place : ℕ) (v : List ℕ) → length v ≤ fuel → Wrote v (items_in fuel place v)
unfolding items_in in_aRow
row_wrote zero place [] h = refl
row_wrote zero place (a ∷ v) h = absurd (omega arith)
row_wrote (suc k) place [] h = refl
row_wrote (suc k) place (p ∷ []) h = tt
row_wrote (suc k) place (p ∷ n ∷ r) h =
    pick_all (Wrote (p ∷ n ∷ r)) (leb n (length r)) (ahead (masked p (take n r)) (items_in k place (drop n r))) (refused 5 place 0)
    (λ t. ahead_wrote p n r (items_in k place (drop n r)) (leb-true _ _ t) (row_wrote k place (drop n r) (rw length-drop (omega arith))))
    (λ t. tt)

pub items_write : (place : ℕ) (v : List ℕ) (xs : List Masked) → items place v ≡ given xs → in_aRow xs ≡ v
unfolding items
items_write place v xs e =
    subst (Wrote v) e
    (pick_all (Wrote v) (ltb most_bytes (length v)) (refused 1 0 0) (items_in (length v) place v) (λ t. tt) (λ t. row_wrote (length v) place v (omega arith)))
