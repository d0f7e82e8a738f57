-- The class of the first byte decides what may follow it: the alternatives of the grammar that a byte begins are those of its class.
-- Assumes nothing.
use mathlib.Core.Path.{◌≡◌, refl, ap, ◌∙◌}
use mathlib.Core.Bool.{Bool, true, false, ◌&&◌, ◌||◌, and-true, and-false, or-false, and_assoc, or_assoc, and-or_distrib_right}
use mathlib.Core.List.{List, [], ◌∷◌}
use Prim.Native.Nat.{ℕ, ◌<◌}
use lib.Dec.{T, eqb, eqb→eq}
use Rattle.refusal.specs.Answer.{pick}
use Rattle.utf8.specs.Utf8.{between, tail, one, two, three, four, octets, class_of}
use Rattle.laws.proofs.Below.{below}

-- a byte from low to high, and then what f asks of the rest
unfoldable pub next : ℕ → ℕ → (List ℕ → Bool) → List ℕ → Bool
next low high f [] = false
next low high f (b ∷ r) = between low high b && f r

-- what the rest must be after a first byte of class k
unfoldable pub after : ℕ → List ℕ → Bool
after k r =
    pick (eqb k 1) (octets r)
    (pick (eqb k 2) (next 128 191 octets r)
    (pick (eqb k 3) (next 160 191 (next 128 191 octets) r)
    (pick (eqb k 4) (next 128 191 (next 128 191 octets) r)
    (pick (eqb k 5) (next 128 159 (next 128 191 octets) r)
    (pick (eqb k 6) (next 144 191 (next 128 191 (next 128 191 octets)) r)
    (pick (eqb k 7) (next 128 191 (next 128 191 (next 128 191 octets)) r)
    (pick (eqb k 8) (next 128 143 (next 128 191 (next 128 191 octets)) r) false)))))))

-- ---- the alternatives of the grammar that a byte begins

keep : Bool → ℕ → List ℕ → List ℕ
keep true k ks = k ∷ ks
keep false k ks = ks

-- the classes of those alternatives
begun : ℕ → List ℕ
begun a =
    keep (one a) 1
    (keep (between 194 223 a) 2
    (keep (eqb a 224) 3
    (keep (between 225 236 a) 4
    (keep (eqb a 237) 5
    (keep (between 238 239 a) 4
    (keep (eqb a 240) 6
    (keep (between 241 243 a) 7
    (keep (eqb a 244) 8 []))))))))

-- one of them fits the rest
any : List ℕ → List ℕ → Bool
any [] r = false
any (k ∷ ks) r = after k r || any ks r

any_none : (r : List ℕ) → any [] r ≡ false
unfolding any
any_none r = refl

any_keep : (b : Bool) (k : ℕ) (ks r : List ℕ) → any (keep b k ks) r ≡ b && after k r || any ks r
unfolding any keep
any_keep true k ks r = refl
any_keep false k ks r = refl

clause : (a b c d : ℕ) (r : List ℕ) → octets (a ∷ b ∷ c ∷ d ∷ r)
    ≡ (one a && octets (b ∷ c ∷ d ∷ r)) || ((two a b && octets (c ∷ d ∷ r)) || ((three a b c && octets (d ∷ r)) || (four a b c d && octets r)))
unfolding octets
clause a b c d r = refl

long : (a b c d : ℕ) (r : List ℕ) → octets (a ∷ b ∷ c ∷ d ∷ r) ≡ any (begun a) (b ∷ c ∷ d ∷ r)
unfolding begun after next tail two three four
long a b c d r = clause a b c d r ∙ simp (any_keep, any_none, and_assoc, or_assoc, and-or_distrib_right, or-false)

by_begun : (a : ℕ) (r : List ℕ) → octets (a ∷ r) ≡ any (begun a) r
unfolding octets begun after next tail two three four
by_begun a [] = simp (any_keep, any_none, and-true, and-false, or-false)
by_begun a (b ∷ []) = simp (any_keep, any_none, and_assoc, and-true, and-false, or-false)
by_begun a (b ∷ c ∷ []) = simp (any_keep, any_none, and_assoc, and-true, and-false, or-false)
by_begun a (b ∷ c ∷ d ∷ r) = long a b c d r

-- ---- they are those of its class

-- k is the only one of ks, or there is none and k is 0
alone : List ℕ → ℕ → Bool
alone [] k = eqb k 0
alone (x ∷ []) k = eqb x k
alone (x ∷ y ∷ ks) k = false

alone_after : (ks : List ℕ) (k : ℕ) (r : List ℕ) → T (alone ks k) → any ks r ≡ after k r
unfolding alone any after
alone_after [] k r t = rw (eqb→eq k 0 t)
alone_after (x ∷ []) k r t = or-false (after x r) ∙ ap (λ (j : ℕ). after j r) (eqb→eq x k t)
alone_after (x ∷ y ∷ ks) k r t = absurd t

pub first_byte : (a : ℕ) (r : List ℕ) → a < 256 → octets (a ∷ r) ≡ after (class_of a) r
unfolding alone begun keep class_of one
first_byte a r h = by_begun a r ∙ alone_after (begun a) (class_of a) r (below (λ (b : ℕ). alone (begun b) (class_of b)) 256 tt a h)
