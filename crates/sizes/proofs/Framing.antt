-- What is larger than the sizes, whatever they are: framing refuses it with 1 or 3, or with 2 where it is cut short; lists with 1 or 3, or with 9 where an
-- operation is none; results with 10. And what is within them is answered the same within any larger ones.
-- Assumes nothing.
use mathlib.Core.Path.{◌≡◌, refl}
use mathlib.Core.Logic.{◌⊎◌, inl, inr}
use mathlib.Core.List.{List, [], ◌∷◌}
use Prim.Native.Nat.{ℕ, ◌≤◌, ◌<◌}
use native.Mathlib.Omega.{arith}
use lib.ListN.{length}
use lib.Dec.{ltb, eqb}
use borrow.Author.Tests.{lt-ltb, le-ltb}
use Rattle.refusal.specs.Answer.{pick, Answer, given, absent, refused, then_do, on_given}
use Rattle.laws.proofs.Tests.{by_test, pick_all}
use Rattle.tlv.specs.Entries.{Entry, Stop, clean, cut_at, framing}
use Rattle.tlv.specs.Limits.{place_of_next, limited, framed_within}
use Rattle.base16.specs.Base16.{decoded_within}
use Rattle.tlv_last.specs.Last.{last_of}
use Rattle.change_lists.specs.Operations.{OpAt, ops_of, place_of_next_op, limited_ops, operations_within}
use Rattle.house_template.specs.Template.{site_first}
use Rattle.delay.specs.Delay.{or_else}

-- a refusal of the input i, of which the items were found until stop: 1; 3 where it was read to its end; n, which is 2 or 9, where it was not
pub data Turned {A : Type 0} (i n : ℕ) (stop : Stop) (a : Answer A) : Type 0 where
  too_large : a ≡ refused 1 0 i → Turned i n stop a
  too_many : (p : ℕ) → stop ≡ clean → a ≡ refused 3 p i → Turned i n stop a
  stopped : (p : ℕ) → stop ≡ cut_at p → a ≡ refused n p i → Turned i n stop a

-- and so is whatever goes on with what is given, makes something of it, or has something else where it is absent
module _ {A : Type 0} (i n : ℕ) (stop : Stop) where
  pub turned_then : {B : Type 0} (a : Answer A) (f : A → Answer B) → Turned i n stop a → Turned i n stop (then_do a f)
  turned_then a f (too_large e) = too_large (rw e)
  turned_then a f (too_many p h e) = too_many p h (rw e)
  turned_then a f (stopped p h e) = stopped p h (rw e)

  pub turned_on : {B : Type 0} (f : A → B) (a : Answer A) → Turned i n stop a → Turned i n stop (on_given f a)
  turned_on f a (too_large e) = too_large (rw e)
  turned_on f a (too_many p h e) = too_many p h (rw e)
  turned_on f a (stopped p h e) = stopped p h (rw e)

  pub turned_else : (x : A) (a : Answer A) → Turned i n stop a → Turned i n stop (or_else x a)
  turned_else x a (too_large e) = too_large (rw e)
  turned_else x a (too_many p h e) = too_many p h (rw e)
  turned_else x a (stopped p h e) = stopped p h (rw e)

  -- of the site's, whatever the template's is
  pub turned_site : (a b : Answer A) → Turned i n stop a → Turned i n stop (site_first a b)
  turned_site a b (too_large e) = too_large (rw e)
  turned_site a b (too_many p h e) = too_many p h (rw e)
  turned_site a b (stopped p h e) = stopped p h (rw e)

-- of the template's, where the site's is an answer
abbrev pub Answered : {A : Type 0} → Answer A → Type 0
Answered (given x) = Unit {0}
Answered absent = Unit {0}
Answered (refused n p i) = ⊥

module _ {A : Type 0} (i n : ℕ) (stop : Stop) where
  pub turned_template : (a b : Answer A) → Answered a → Turned i n stop b → Turned i n stop (site_first a b)
  turned_template (given x) b h (too_large e) = too_large (rw e)
  turned_template (given x) b h (too_many p k e) = too_many p k (rw e)
  turned_template (given x) b h (stopped p k e) = stopped p k (rw e)
  turned_template absent b h (too_large e) = too_large (rw e)
  turned_template absent b h (too_many p k e) = too_many p k (rw e)
  turned_template absent b h (stopped p k e) = stopped p k (rw e)
  turned_template (refused m q j) b h t = absurd h

pub last_answered : (ty : ℕ) (best : Answer Entry) (es : List Entry) → Answered best → Answered (last_of ty best es)
unfolding last_of
last_answered ty best [] h = h
last_answered ty best (e ∷ es) h =
    last_answered ty (pick (eqb e.ty ty) (given e) best) es (pick_all Answered (eqb e.ty ty) (given e) best (λ t. tt) (λ t. h))

-- ---- datasets and payloads
module _ (bytes most i : ℕ) (s : List ℕ) where
  limited_larger : (st : Stop) (es : List Entry) → (framing s).stop ≡ st → most < length es → Turned i 2 (framing s).stop (limited most i st es)
  unfolding limited
  limited_larger (cut_at p) es e h = stopped p e refl
  limited_larger clean es e h = too_many (place_of_next most es) e (rw (lt-ltb most (length es) h))

  pub framed_larger : (bytes < length s) ⊎ (most < length (framing s).entries) → Turned i 2 (framing s).stop (framed_within bytes most i s)
  framed_larger (inl h) = too_large (rw (lt-ltb bytes (length s) h))
  framed_larger (inr h) =
      by_test (ltb bytes (length s)) (λ e. rw e (too_large refl)) (λ e. rw e (limited_larger (framing s).stop (framing s).entries refl h))

module _ (bytes most bytes' most' i : ℕ) (s : List ℕ) where
  limited_same : (st : Stop) (es : List Entry) → length es ≤ most → most ≤ most' → limited most i st es ≡ limited most' i st es
  unfolding limited
  limited_same (cut_at p) es h k = refl
  limited_same clean es h k = rw (le-ltb most (length es) h, le-ltb most' (length es) (omega arith))

  pub framed_same : length s ≤ bytes → bytes ≤ bytes' → length (framing s).entries ≤ most → most ≤ most'
      → framed_within bytes most i s ≡ framed_within bytes' most' i s
  framed_same h k f g =
      rw (le-ltb bytes (length s) h, le-ltb bytes' (length s) (omega arith)) (limited_same (framing s).stop (framing s).entries f g)

-- ---- change lists
module _ (bytes most i : ℕ) (s : List ℕ) where
  limited_ops_larger : (st : Stop) (os : List OpAt) → (ops_of s).stop ≡ st → most < length os → Turned i 9 (ops_of s).stop (limited_ops most i st os)
  unfolding limited_ops
  limited_ops_larger (cut_at p) os e h = stopped p e refl
  limited_ops_larger clean os e h = too_many (place_of_next_op most os) e (rw (lt-ltb most (length os) h))

  pub operations_larger : (bytes < length s) ⊎ (most < length (ops_of s).ops) → Turned i 9 (ops_of s).stop (operations_within bytes most i s)
  operations_larger (inl h) = too_large (rw (lt-ltb bytes (length s) h))
  operations_larger (inr h) =
      by_test (ltb bytes (length s)) (λ e. rw e (too_large refl)) (λ e. rw e (limited_ops_larger (ops_of s).stop (ops_of s).ops refl h))

module _ (bytes most bytes' most' i : ℕ) (s : List ℕ) where
  limited_ops_same : (st : Stop) (os : List OpAt) → length os ≤ most → most ≤ most' → limited_ops most i st os ≡ limited_ops most' i st os
  unfolding limited_ops
  limited_ops_same (cut_at p) os h k = refl
  limited_ops_same clean os h k = rw (le-ltb most (length os) h, le-ltb most' (length os) (omega arith))

  pub operations_same : length s ≤ bytes → bytes ≤ bytes' → length (ops_of s).ops ≤ most → most ≤ most'
      → operations_within bytes most i s ≡ operations_within bytes' most' i s
  operations_same h k f g =
      rw (le-ltb bytes (length s) h, le-ltb bytes' (length s) (omega arith)) (limited_ops_same (ops_of s).stop (ops_of s).ops f g)

-- ---- hex text, by its digits
pub decoded_larger : (most : ℕ) (x : List ℕ) → most < length x → decoded_within most x ≡ refused 1 0 0
decoded_larger most x h = rw (lt-ltb most (length x) h)

pub decoded_same : (most most' : ℕ) (x : List ℕ) → length x ≤ most → most ≤ most' → decoded_within most x ≡ decoded_within most' x
decoded_same most most' x h k = rw (le-ltb most (length x) h, le-ltb most' (length x) (omega arith))

-- ---- results, n bytes in m entries or operations: 10 exactly where they are larger
module _ (bytes most n m : ℕ) (bs : List ℕ) where
  abbrev Tested : Answer (List ℕ)
  Tested = pick (ltb bytes n) (refused 10 0 0) (pick (ltb most m) (refused 10 0 0) (given bs))

  pub tested_larger : (bytes < n) ⊎ (most < m) → Tested ≡ refused 10 0 0
  tested_larger (inl h) = rw (lt-ltb bytes n h)
  tested_larger (inr h) = by_test (ltb bytes n) (λ e. rw e) (λ e. rw (e, lt-ltb most m h))

  pub tested_given : n ≤ bytes → m ≤ most → Tested ≡ given bs
  tested_given h k = rw (le-ltb bytes n h, le-ltb most m k)
