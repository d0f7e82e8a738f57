-- The place of a value's entry is in its refusals alone: what is given is the same wherever the value stands.
-- Assumes nothing.
use mathlib.Core.Path.{◌≡◌, refl, ap, ◌∙◌}
use mathlib.Core.List.{List, [], ◌∷◌}
use Prim.Native.Nat.{ℕ, ◌+◌, ◌/◌, ◌%◌}
use native.Mathlib.Omega.{arith}
use lib.ListN.{length}
use lib.Dec.{eqb, leb, ltb}
use Rattle.refusal.specs.Sizes.{most_bytes, most_prefixes, most_has_routes, most_border_routers}
use Rattle.refusal.specs.Answer.{pick, Answer, given, absent, refused, then_do, on_given}
use Rattle.laws.proofs.Tests.{by_test}
use Rattle.network_framing.specs.Tlvs.{Stop, clean, short, Piece}
use Rattle.network_framing.specs.Frame.{walk_in, head_at}
use Rattle.network_data.specs.Rules.{counts, join, rule, ended, rules, check_in, check_head, check_prefix, values, check_from, check_value}
use Rattle.network_data.specs.Decode.{Prefix, contents, decode_network_data}
use Rattle.network_data.specs.declared.Counts.{Counts}

-- the same, refused at p
unfoldable pub placed : {A : Type 0} → (p : ℕ) → Answer A → Answer A
placed p (given x) = given x
placed p absent = absent
placed p (refused n q i) = refused n p i

module _ (p q : ℕ) where
  then_placed : {A B : Type 0} (a : Answer A) (f g : A → Answer B) → ((x : A) → f x ≡ placed p (g x)) → then_do (placed p a) f ≡ placed p (then_do a g)
  unfolding placed
  then_placed (given x) f g h = h x
  then_placed absent f g h = refl
  then_placed (refused n r i) f g h = refl

  join_placed : (had len size most : ℕ) → join p had len size most ≡ placed p (join q had len size most)
  unfolding join placed
  join_placed had len size most =
      by_test (eqb (len % size) 0) (λ t. by_test (ltb most (had + len / size)) (λ u. simp (t, u)) (λ u. simp (t, u))) (λ t. simp t)

  rule_placed : (c : Counts) (ty len : ℕ) → rule p c ty len ≡ placed p (rule q c ty len)
  unfolding rule placed
  rule_placed c ty len =
      by_test (eqb ty 0)
      (λ t. simp (t, join_placed c.has_routes len 3 most_has_routes) (then_placed (join q c.has_routes len 3 most_has_routes) _ _ (λ n. refl)))
      (λ t. by_test (eqb ty 2)
      (λ u. simp (t, u, join_placed c.border_routers len 4 most_border_routers) (then_placed (join q c.border_routers len 4 most_border_routers) _ _ (λ n. refl)))
      (λ u. by_test (eqb ty 3) (λ v. by_test (eqb len 2) (λ w. simp (t, u, v, w)) (λ w. simp (t, u, v, w))) (λ v. simp (t, u, v))))

  ended_placed : (c : Counts) (st : Stop) → ended p c st ≡ placed p (ended q c st)
  unfolding ended placed
  ended_placed c clean = refl
  ended_placed c short = refl

  rules_placed : (c : Counts) (st : Stop) (es : List Piece) → rules p c st es ≡ placed p (rules q c st es)
  unfolding rules
  rules_placed c st [] = ended_placed c st
  rules_placed c st (e ∷ es) =
      ap (λ (a : Answer Counts). then_do a (λ (d : Counts). rules p d st es)) (rule_placed c e.ty e.len)
      ∙ then_placed (rule q c e.ty e.len) (λ (d : Counts). rules p d st es) (λ (d : Counts). rules q d st es) (λ d. rules_placed d st es)

  module _ (s : List ℕ) where
    head_placed : (c : Counts) (end : ℕ) (x : Answer ℕ) → check_head p s c end x ≡ placed p (check_head q s c end x)
    unfolding check_head check_in placed
    head_placed c end absent = refl
    head_placed c end (refused n r i) = refl
    head_placed c end (given at) = rules_placed c (walk_in s at end).stop (walk_in s at end).items

    prefix_placed : (c : Counts) (start end : ℕ) → check_prefix p s c start end ≡ placed p (check_prefix q s c start end)
    unfolding check_prefix placed
    prefix_placed c start end =
        by_test (leb most_prefixes c.prefixes) (λ t. simp t)
        (λ t. simp t (head_placed (counts (c.prefixes + 1) c.has_routes c.border_routers) end (head_at s start end)))

    one_placed : (c : Counts) (e : Piece) → pick (eqb e.ty 1) (check_prefix p s c e.start (e.start + e.len)) (given c)
        ≡ placed p (pick (eqb e.ty 1) (check_prefix q s c e.start (e.start + e.len)) (given c))
    unfolding placed
    one_placed c e = by_test (eqb e.ty 1) (λ t. simp t (prefix_placed c e.start (e.start + e.len))) (λ t. simp t)

    values_placed : (c : Counts) (st : Stop) (es : List Piece) → values p s c st es ≡ placed p (values q s c st es)
    unfolding values
    values_placed c st [] = ended_placed c st
    values_placed c st (e ∷ es) =
        ap (λ (a : Answer Counts). then_do a (λ (d : Counts). values p s d st es)) (one_placed c e)
        ∙ then_placed (pick (eqb e.ty 1) (check_prefix q s c e.start (e.start + e.len)) (given c)) (λ (d : Counts). values p s d st es) (λ (d : Counts). values q s d st es)
        (λ d. values_placed d st es)

    check_placed : check_value p s ≡ placed p (check_value q s)
    unfolding check_value check_from
    check_placed = values_placed (counts 0 0 0) (walk_in s 0 (length s)).stop (walk_in s 0 (length s)).items

    by_check : (a : Answer Counts) (ps : List Prefix) → on_given (λ (c : Counts). contents s) a ≡ given ps → on_given (λ (c : Counts). contents s) (placed p a) ≡ given ps
    unfolding placed
    by_check (given c) ps e = e
    by_check absent ps e = absurd (let z : ◌≡◌ {A = ℕ} 0 1 = cc in omega arith)
    by_check (refused n r i) ps e = absurd (let z : ◌≡◌ {A = ℕ} 0 1 = cc in omega arith)

    -- a value that is given at q is given at p
    pub given_anywhere : (ps : List Prefix) → decode_network_data q s ≡ given ps → decode_network_data p s ≡ given ps
    unfolding decode_network_data
    given_anywhere ps e =
        by_test (ltb most_bytes (length s))
        (λ t. let f : ◌≡◌ {A = Answer (List Prefix)} (refused 1 0 0) (given ps) = simp t at e in
        absurd (let z : ◌≡◌ {A = ℕ} 0 1 = cc in omega arith))
        (λ t. simp (t, check_placed) (by_check (check_value q s) ps (simp t at e)))
