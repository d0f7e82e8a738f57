-- The relation of two answers goes through whatever is made of them.
-- Assumes nothing.
use mathlib.Core.Path.{◌≡◌, refl, sym, subst, ◌∙◌}
use mathlib.Core.Logic.{◌⊎◌, inl, inr}
use mathlib.Core.List.{List, []}
use mathlib.Core.Bool.{Bool, true, false}
use Prim.Native.Nat.{ℕ, ◌≤◌}
use native.Mathlib.Omega.{arith}
use lib.Dec.{ltb}
use borrow.Author.Tests.{ltb-false, le-ltb}
use Rattle.refusal.specs.Answer.{pick, Answer, given, absent, refused, then_do, on_given}
use Rattle.refusal.specs.Output.{emit}
use Rattle.laws.proofs.Tests.{by_test}
use Rattle.tlv.specs.Entries.{Entry}
use Rattle.tlv_last.specs.Last.{value_or}
use Rattle.network_data.specs.Decode.{Prefix}
use Rattle.network_data.specs.declared.PrefixEntry.{PrefixEntry}
use Rattle.network_data.specs.declared.HasRouteEntry.{HasRouteEntry}
use Rattle.network_data.specs.declared.BorderRouterEntry.{BorderRouterEntry}
use Rattle.house_template.specs.Template.{site_first}
use Rattle.network_plans.specs.Tables as network
use Rattle.delay.specs.Delay.{or_else}
use Rattle.diag.specs.Diag.{Diag}
use Rattle.diag_tables.specs.Tables as payload
use Rattle.sizes.specs.Within.{ForSize, Still, for_size, same}

-- ---- what it says: whatever is given, or absent, within the smaller sizes is so within the larger; and whatever is refused, but for size
module _ {A : Type 0} (a b : Answer A) where
  pub still_given : Still a b → (x : A) → a ≡ given x → b ≡ given x
  still_given (for_size h) x e = absurd (subst ForSize e h)
  still_given (same s) x e = sym s ∙ e

  pub still_absent : Still a b → a ≡ absent → b ≡ absent
  still_absent (for_size h) e = absurd (subst ForSize e h)
  still_absent (same s) e = sym s ∙ e

  pub still_else_same : Still a b → (ForSize a → ⊥) → a ≡ b
  still_else_same (for_size h) n = absurd (n h)
  still_else_same (same s) n = s

  -- and of whatever is made of an answer: a copy, a count, the text that a program prints
  pub still_of : {B : Type 0} (f : Answer A → B) → Still a b → ForSize a ⊎ (f a ≡ f b)
  still_of f (for_size h) = inl h
  still_of f (same s) = inr (rw s)

-- of a call that writes: it refuses for size and leaves every byte, or answers and leaves what it does within the larger
for_emit : (a : Answer (List ℕ)) (out : List ℕ) → ForSize a → ForSize (emit a out).answer × ((emit a out).left ≡ out)
unfolding emit
for_emit (given x) out h = absurd h
for_emit absent out h = absurd h
for_emit (refused n p i) out h = (h, refl)

pub still_emit : (a b : Answer (List ℕ)) (out : List ℕ) → Still a b → (ForSize (emit a out).answer × ((emit a out).left ≡ out)) ⊎ (emit a out ≡ emit b out)
still_emit a b out (for_size h) = inl (for_emit a out h)
still_emit a b out (same e) = inr (rw e)

-- of a part of the caller's bytes that is handed out: it refuses for size and the part is empty, or it is the same
for_part : (a : Answer Entry) → ForSize a → value_or a ≡ []
for_part (given e) h = absurd h
for_part absent h = absurd h
for_part (refused n p i) h = refl

pub still_part : (a b : Answer Entry) → Still a b → (ForSize a × (value_or a ≡ [])) ⊎ (value_or a ≡ value_or b)
still_part a b (for_size h) = inl (h, for_part a h)
still_part a b (same e) = inr (rw e)

-- of one that fills lent tables: the same of their records
module _ (P : List PrefixEntry) (H : List HasRouteEntry) (B : List BorderRouterEntry) where
  abbrev pub NetworkKept : network.Outcome → Type 0
  NetworkKept o = (o.prefixes ≡ P) × (o.routes ≡ H) × (o.borders ≡ B)

  for_network : (a : Answer (List Prefix)) → ForSize a → ForSize (network.decoded a P H B).answer × NetworkKept (network.decoded a P H B)
  unfolding network.decoded
  for_network (given ps) h = absurd h
  for_network absent h = absurd h
  for_network (refused n p i) h = (h, (refl, refl, refl))

  pub still_network : (a b : Answer (List Prefix)) → Still a b
      → (ForSize (network.decoded a P H B).answer × NetworkKept (network.decoded a P H B)) ⊎ (network.decoded a P H B ≡ network.decoded b P H B)
  still_network a b (for_size h) = inl (for_network a h)
  still_network a b (same e) = inr (rw e)

  abbrev pub PayloadKept : payload.Outcome → Type 0
  PayloadKept o = (o.prefixes ≡ P) × (o.routes ≡ H) × (o.borders ≡ B)

  for_payload : (a : Answer Diag) → ForSize a → ForSize (payload.written a P H B).answer × PayloadKept (payload.written a P H B)
  unfolding payload.written
  for_payload (given d) h = absurd h
  for_payload absent h = absurd h
  for_payload (refused n p i) h = (h, (refl, refl, refl))

  pub still_payload : (a b : Answer Diag) → Still a b
      → (ForSize (payload.written a P H B).answer × PayloadKept (payload.written a P H B)) ⊎ (payload.written a P H B ≡ payload.written b P H B)
  still_payload a b (for_size h) = inl (for_payload a h)
  still_payload a b (same e) = inr (rw e)

-- ---- what is given goes on
module _ {A B : Type 0} where
  for_then : (a : Answer A) (f : A → Answer B) → ForSize a → ForSize (then_do a f)
  for_then (given x) f h = absurd h
  for_then absent f h = absurd h
  for_then (refused n p i) f h = h

  same_then : (a : Answer A) (f g : A → Answer B) → ((x : A) → Still (f x) (g x)) → Still (then_do a f) (then_do a g)
  same_then (given x) f g h = h x
  same_then absent f g h = same refl
  same_then (refused n p i) f g h = same refl

  pub still_then : (a b : Answer A) (f g : A → Answer B) → Still a b → ((x : A) → Still (f x) (g x)) → Still (then_do a f) (then_do b g)
  still_then a b f g (for_size h) k = for_size (for_then a f h)
  still_then a b f g (same e) k = subst (λ (c : Answer A). Still (then_do a f) (then_do c g)) e (same_then a f g k)

  for_on : (f : A → B) (a : Answer A) → ForSize a → ForSize (on_given f a)
  for_on f (given x) h = absurd h
  for_on f absent h = absurd h
  for_on f (refused n p i) h = h

  pub still_on : (f : A → B) (a b : Answer A) → Still a b → Still (on_given f a) (on_given f b)
  still_on f a b (for_size h) = for_size (for_on f a h)
  still_on f a b (same e) = same (rw e)

module _ {A : Type 0} where
  for_else : (x : A) (a : Answer A) → ForSize a → ForSize (or_else x a)
  for_else x (given y) h = absurd h
  for_else x absent h = absurd h
  for_else x (refused n p i) h = h

  pub still_else : (x : A) (a b : Answer A) → Still a b → Still (or_else x a) (or_else x b)
  still_else x a b (for_size h) = for_size (for_else x a h)
  still_else x a b (same e) = same (rw e)

  -- the site's first, then the template's
  given_first : (x : A) (b d : Answer A) → Still b d → Still (site_first (given x) b) (site_first (given x) d)
  given_first x b d (same e) = same (rw e)
  given_first x (given y) d (for_size h) = absurd h
  given_first x absent d (for_size h) = absurd h
  given_first x (refused n p i) d (for_size h) = for_size h

  absent_first : (b d : Answer A) → Still b d → Still (site_first absent b) (site_first absent d)
  absent_first b d (same e) = same (rw e)
  absent_first (given y) d (for_size h) = absurd h
  absent_first absent d (for_size h) = absurd h
  absent_first (refused n p i) d (for_size h) = for_size h

  for_first : (a b : Answer A) → ForSize a → ForSize (site_first a b)
  for_first (given x) b h = absurd h
  for_first absent b h = absurd h
  for_first (refused n p i) b h = h

  same_first : (a b d : Answer A) → Still b d → Still (site_first a b) (site_first a d)
  same_first (given x) b d s = given_first x b d s
  same_first absent b d s = absent_first b d s
  same_first (refused n p i) b d s = same refl

  pub still_first : (a c b d : Answer A) → Still a c → Still b d → Still (site_first a b) (site_first c d)
  still_first a c b d (for_size h) s = for_size (for_first a b h)
  still_first a c b d (same e) s = subst (λ (x : Answer A). Still (site_first a b) (site_first x d)) e (same_first a b d s)

  -- one of two, by a test that knows no size
  pub still_pick : (t : Bool) (a b c d : Answer A) → Still a b → Still c d → Still (pick t a c) (pick t b d)
  still_pick true a b c d h k = h
  still_pick false a b c d h k = k

  -- THE TEST of a size: n against the smaller and the larger
  pub still_test : (m k n : ℕ) (r q a b : Answer A) → m ≤ k → ForSize r → Still a b → Still (pick (ltb m n) r a) (pick (ltb k n) q b)
  still_test m k n r q a b l h s =
      by_test (ltb m n) (λ e. rw e (for_size h)) (λ e. rw (e, le-ltb k n (omega (arith, ltb-false m n e))) s)
