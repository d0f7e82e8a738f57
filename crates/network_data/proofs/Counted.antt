-- What the checks count is what the definition has: the lengths of its lists.
-- Assumes nothing.
use mathlib.Core.Path.{◌≡◌, refl, sym, ap, ◌∙◌}
use mathlib.Core.Bool.{Bool, true, false}
use mathlib.Core.List.{List, [], ◌∷◌}
use Prim.Native.Nat.{ℕ, zero, suc, ◌+◌, ◌/◌, ◌%◌, ◌≤◌, ◌<◌}
use native.Mathlib.Omega.{arith}
use native.Mathlib.Nat.{zero-add}
use lib.ListN.{length, length-append, length-map}
use lib.Dec.{eqb, leb, ltb}
use borrow.Author.Tests.{eqb-true, ne_eqb, lt-ltb, le-ltb}
use Rattle.refusal.specs.Answer.{pick, Answer, given, absent, refused, then_do, on_given}
use Rattle.network_framing.specs.Tlvs.{Stop, clean, short, Piece}
use Rattle.network_framing.specs.Frame.{walk_in, head_at}
use Rattle.network_data.specs.Rules.{counts, join, rule, ended, rules, check_in, check_head, check_prefix, values, check_from, check_value}
use Rattle.network_data.specs.Decode.{row_places, places_in, Prefix, head_items, inner, prefix_at, prefixes, contents, decode_network_data, all_routes, all_borders, counts_of}
use Rattle.network_data.specs.declared.Counts.{Counts}
use Rattle.laws.proofs.Tests.{pick_all, by_test}
use Rattle.refusal.specs.Sizes.{most_bytes, most_prefixes, most_has_routes, most_border_routers}

pub places_length : (size at n : ℕ) → length (row_places size at n) ≡ n
unfolding row_places
places_length size at zero = refl
places_length size at (suc n) = ap suc (places_length size (at + size) n)

-- a number that is given is that one
abbrev Only : ℕ → Answer ℕ → Type 0
Only n (given m) = m ≡ n
Only n absent = Unit {0}
Only n (refused x p i) = Unit {0}

-- so many more than c where anything is given
abbrev pub Adds : Counts → (n h b : ℕ) → Answer Counts → Type 0
Adds c n h b (given d) = (d.prefixes ≡ c.prefixes + n) × (d.has_routes ≡ c.has_routes + h) × (d.border_routers ≡ c.border_routers + b)
Adds c n h b absent = Unit {0}
Adds c n h b (refused x p i) = Unit {0}

join_only : (p had len size most : ℕ) → Only (had + len / size) (join p had len size most)
unfolding join
join_only p had len size most =
    pick_all (Only (had + len / size)) (eqb (len % size) 0) _ (refused _ p 0)
    (λ _. pick_all (Only (had + len / size)) (ltb most (had + len / size)) (refused 12 p 0) (given (had + len / size)) (λ _. tt) (λ _. refl)) (λ _. tt)

module _ (c : Counts) where
  routes_by : (k : ℕ) (a : Answer ℕ) → Only (c.has_routes + k) a → Adds c 0 k 0 (then_do a (λ n. given (counts c.prefixes n c.border_routers)))
  routes_by k (given m) o = (omega arith, o, omega arith)
  routes_by k absent o = tt
  routes_by k (refused x p i) o = tt

  borders_by : (k : ℕ) (a : Answer ℕ) → Only (c.border_routers + k) a → Adds c 0 0 k (then_do a (λ n. given (counts c.prefixes c.has_routes n)))
  borders_by k (given m) o = (omega arith, omega arith, o)
  borders_by k absent o = tt
  borders_by k (refused x p i) o = tt

  adds_none : Adds c 0 0 0 (given c)
  adds_none = (omega arith, omega arith, omega arith)

  -- the rows of one TLV
  abbrev rows_of : (ty size : ℕ) → Piece → List ℕ
  rows_of ty size e = pick (eqb e.ty ty) (row_places size e.start (e.len / size)) []

  rule_adds : (p : ℕ) (e : Piece) → Adds c 0 (length (rows_of 0 3 e)) (length (rows_of 2 4 e)) (rule p c e.ty e.len)
  unfolding rule
  rule_adds p e =
      by_test (eqb e.ty 0)
      (λ t.
      let u : eqb e.ty 2 ≡ false = ne_eqb e.ty 2 (λ (z : e.ty ≡ 2). omega (arith, eqb-true e.ty 0 t)) in
      simp (t, u, places_length) (routes_by (e.len / 3) (join p c.has_routes e.len 3 most_has_routes) (join_only p c.has_routes e.len 3 most_has_routes)))
      (λ t. by_test (eqb e.ty 2)
      (λ u. simp (t, u, places_length) (borders_by (e.len / 4) (join p c.border_routers e.len 4 most_border_routers) (join_only p c.border_routers e.len 4 most_border_routers)))
      (λ u. simp (t, u) (pick_all (Adds c 0 0 0) (eqb e.ty 3) _ (given c) (λ _. pick_all (Adds c 0 0 0) (eqb e.len 2) (given c) (refused 4 p 0) (λ _. adds_none) (λ _. tt)) (λ _. adds_none))))

  ended_adds : (p : ℕ) (st : Stop) → Adds c 0 0 0 (ended p c st)
  unfolding ended
  ended_adds p clean = adds_none
  ended_adds p short = tt

  -- one after the other
  more_by : (d : Counts) (n h b n' h' b' : ℕ) (x : Answer Counts) → Adds c n h b (given d) → Adds d n' h' b' x → Adds c (n + n') (h + h') (b + b') x
  more_by d n h b n' h' b' (given y) i j = (omega arith, omega arith, omega arith)
  more_by d n h b n' h' b' absent i j = tt
  more_by d n h b n' h' b' (refused x p k) i j = tt

  then_adds : (n h b n' h' b' : ℕ) (a : Answer Counts) (f : Counts → Answer Counts) → Adds c n h b a → ((d : Counts) → Adds d n' h' b' (f d)) → Adds c (n + n') (h + h') (b + b') (then_do a f)
  then_adds n h b n' h' b' (given d) f i j = more_by d n h b n' h' b' (f d) i (j d)
  then_adds n h b n' h' b' absent f i j = tt
  then_adds n h b n' h' b' (refused x p k) f i j = tt

rules_adds : (p : ℕ) (c : Counts) (st : Stop) (es : List Piece) → Adds c 0 (length (places_in 0 3 es)) (length (places_in 2 4 es)) (rules p c st es)
unfolding rules places_in
rules_adds p c st [] = ended_adds c p st
rules_adds p c st (e ∷ es) =
    simp length-append
    (then_adds c 0 _ _ 0 _ _ (rule p c e.ty e.len) (λ d. rules p d st es) (rule_adds c p e) (λ d. rules_adds p d st es))

module _ (p : ℕ) (s : List ℕ) where
  head_adds : (c : Counts) (end : ℕ) (x : Answer ℕ) → Adds c 1 (length (places_in 0 3 (head_items s end x))) (length (places_in 2 4 (head_items s end x))) (check_head p s (counts (c.prefixes + 1) c.has_routes c.border_routers) end x)
  unfolding check_head head_items check_in
  head_adds c end absent = tt
  head_adds c end (refused n q i) = tt
  head_adds c end (given at) =
      simp zero-add at (more_by c (counts (c.prefixes + 1) c.has_routes c.border_routers) 1 0 0 0 _ _ (rules p _ (walk_in s at end).stop (walk_in s at end).items) (refl, omega arith, omega arith)
      (rules_adds p _ (walk_in s at end).stop (walk_in s at end).items))

  prefix_adds : (c : Counts) (start end : ℕ) → Adds c 1 (length (prefix_at s start end).routes) (length (prefix_at s start end).borders) (check_prefix p s c start end)
  unfolding check_prefix prefix_at inner
  prefix_adds c start end =
      pick_all (Adds c 1 _ _) (leb most_prefixes c.prefixes) (refused _ p 0) _ (λ _. tt)
      (λ _. simp length-map (head_adds c end (head_at s start end)))

  values_adds : (c : Counts) (st : Stop) (es : List Piece) → Adds c (length (prefixes s es)) (length (all_routes (prefixes s es))) (length (all_borders (prefixes s es))) (values p s c st es)
  unfolding values prefixes all_routes all_borders
  values_adds c st [] = ended_adds c p st
  values_adds c st (e ∷ es) =
      by_test (eqb e.ty 1)
      (λ t. simp (t, length-append) (then_adds c 1 _ _ _ _ _ (check_prefix p s c e.start (e.start + e.len)) (λ d. values p s d st es) (prefix_adds c e.start (e.start + e.len)) (λ d. values_adds d st es)))
      (λ t. simp t (values_adds c st es))

same_counts : (d : Counts) (n h b : ℕ) → Adds (counts 0 0 0) n h b (given d) → d ≡ counts n h b
same_counts d n h b a =
    let x : d.prefixes ≡ n = omega arith in
    let y : d.has_routes ≡ h = omega arith in
    let z : d.border_routers ≡ b = omega arith in
    ap (λ (k : ℕ). counts k d.has_routes d.border_routers) x ∙ ap (λ (k : ℕ). counts n k d.border_routers) y ∙ ap (counts n h) z

counted_by : (a : Answer Counts) (ps : List Prefix) → Adds (counts 0 0 0) (length ps) (length (all_routes ps)) (length (all_borders ps)) a
    → a ≡ on_given counts_of (on_given (λ (c : Counts). ps) a)
unfolding counts_of
counted_by (given d) ps h = ap given (same_counts d _ _ _ h)
counted_by absent ps h = refl
counted_by (refused n p i) ps h = refl

module _ (p : ℕ) (s : List ℕ) where
  all_adds : Adds (counts 0 0 0) (length (contents s)) (length (all_routes (contents s))) (length (all_borders (contents s))) (check_value p s)
  unfolding check_value check_from contents
  all_adds = values_adds p s (counts 0 0 0) (walk_in s 0 (length s)).stop (walk_in s 0 (length s)).items

  pub counted : length s ≤ most_bytes → check_value p s ≡ on_given counts_of (decode_network_data p s)
  unfolding decode_network_data
  counted h = rw (le-ltb _ _ h) (counted_by (check_value p s) (contents s) all_adds)

  pub too_large : most_bytes < length s → refused 1 0 0 ≡ on_given counts_of (decode_network_data p s)
  unfolding decode_network_data
  too_large h = rw (lt-ltb _ _ h)

  -- what a caller learns of an answer: the contents, or the refusal
  pub is_contents : (ps : List Prefix) → decode_network_data p s ≡ given ps → ps ≡ contents s
  unfolding decode_network_data
  is_contents ps e = by_answer (ltb most_bytes (length s)) (check_value p s) e
    where
      by_answer : (b : Bool) (a : Answer Counts) → pick b (refused 1 0 0) (on_given (λ (c : Counts). contents s) a) ≡ given ps → ps ≡ contents s
      by_answer true a e = absurd (let z : ◌≡◌ {A = ℕ} 0 1 = cc in omega arith)
      by_answer false (given c) e = cc
      by_answer false absent e = absurd (let z : ◌≡◌ {A = ℕ} 0 1 = cc in omega arith)
      by_answer false (refused n q i) e = absurd (let z : ◌≡◌ {A = ℕ} 0 1 = cc in omega arith)

  pub counted_given : (c : Counts) → given c ≡ on_given counts_of (decode_network_data p s) → decode_network_data p s ≡ given (contents s)
  counted_given c e = by_answer (decode_network_data p s) is_contents e
    where
      by_answer : (a : Answer (List Prefix)) → ((ps : List Prefix) → a ≡ given ps → ps ≡ contents s) → given c ≡ on_given counts_of a → a ≡ given (contents s)
      by_answer (given ps) is e = ap given (is ps refl)
      by_answer absent is e = absurd (let z : ◌≡◌ {A = ℕ} 0 1 = cc in omega arith)
      by_answer (refused n q i) is e = absurd (let z : ◌≡◌ {A = ℕ} 0 1 = cc in omega arith)

  pub counted_refused : (n q i : ℕ) → refused n q i ≡ on_given counts_of (decode_network_data p s) → decode_network_data p s ≡ refused n q i
  counted_refused n q i e = by_answer (decode_network_data p s) e
    where
      by_answer : (a : Answer (List Prefix)) → refused n q i ≡ on_given counts_of a → a ≡ refused n q i
      by_answer (given ps) e = absurd (let z : ◌≡◌ {A = ℕ} 0 1 = cc in omega arith)
      by_answer absent e = absurd (let z : ◌≡◌ {A = ℕ} 0 1 = cc in omega arith)
      by_answer (refused m r j) e = ap (λ (x : Answer Counts). then_do x (λ (c : Counts). absent)) (sym e)
