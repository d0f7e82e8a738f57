-- What a caller of `room_for` learns: a refusal is the answer of its own call, or the result keeps the sizes and has room.
-- Assumes nothing.
use mathlib.Core.Path.{◌≡◌, refl, ap}
use mathlib.Core.Bool.{Bool, true, false, ◌||◌}
use mathlib.Core.List.{List}
use Prim.Native.Nat.{ℕ, ◌≤◌}
use native.Mathlib.Omega.{arith}
use lib.ListN.{length}
use lib.Dec.{ltb}
use borrow.Author.Tests.{ltb-false}
use Rattle.refusal.specs.Sizes.{most_bytes, most_entries}
use Rattle.refusal.specs.Answer.{pick, Answer, given, refused}
use Rattle.refusal.specs.Output.{output, emit}
use Rattle.changes.specs.Loops.{room_for}

-- bytes of n entries or operations, where they keep the sizes
abbrev pub sized_by : List ℕ → ℕ → Answer (List ℕ)
sized_by bs n = pick (ltb most_bytes (length bs)) (refused 10 0 0) (pick (ltb most_entries n) (refused 10 0 0) (given bs))

refused_by : (u v w : Bool) (bs out : List ℕ) → w ≡ ltb (length out) (length bs) → (x p k : ℕ)
    → refused x p k ≡ pick (u || v) (refused 10 0 0) (pick w (refused 11 0 0) (given (length bs)))
    → output (refused x p k) out ≡ emit (pick u (refused 10 0 0) (pick v (refused 10 0 0) (given bs))) out
unfolding emit
refused_by true v w bs out h x p k e = ap (λ (a : Answer ℕ). output a out) e
refused_by false true w bs out h x p k e = ap (λ (a : Answer ℕ). output a out) e
refused_by false false true bs out h x p k e = rw (← h) (ap (λ (a : Answer ℕ). output a out) e)
refused_by false false false bs out h x p k e = absurd (let z : ◌≡◌ {A = ℕ} 0 1 = cc in omega arith)

given_by : (u v w : Bool) (x b : ℕ) → given x ≡ pick (u || v) (refused 10 0 0) (pick w (refused 11 0 0) (given b)) → (u ≡ false) × (v ≡ false) × (w ≡ false)
given_by true v w x b e = absurd (let z : ◌≡◌ {A = ℕ} 0 1 = cc in omega arith)
given_by false true w x b e = absurd (let z : ◌≡◌ {A = ℕ} 0 1 = cc in omega arith)
given_by false false true x b e = absurd (let z : ◌≡◌ {A = ℕ} 0 1 = cc in omega arith)
given_by false false false x b e = (refl, refl, refl)

pub room_refused : (bs out : List ℕ) (n b e room : ℕ) → length bs ≡ b → n ≡ e → length out ≡ room → (x p k : ℕ) → refused x p k ≡ room_for b e room
    → output (refused x p k) out ≡ emit (sized_by bs n) out
unfolding room_for
room_refused bs out n b e room i j l x p k told =
    refused_by (ltb most_bytes (length bs)) (ltb most_entries n) (ltb (length out) (length bs)) bs out refl x p k (rw (i, j, l) told)

pub room_given : (b n room x : ℕ) → given x ≡ room_for b n room → (b ≤ most_bytes) × (n ≤ most_entries) × (b ≤ room)
unfolding room_for
room_given b n room x e =
    let t = given_by (ltb most_bytes b) (ltb most_entries n) (ltb room b) x b e in
    (ltb-false _ _ t.0, ltb-false _ _ t.1, ltb-false _ _ t.2)
