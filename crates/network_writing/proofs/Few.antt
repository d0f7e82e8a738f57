-- A value that passes the checks: it has no more than the sizes (`check_few`), and each of its prefixes its own bytes (`values_whole`).
-- Assumes nothing.
use mathlib.Core.Path.{◌≡◌, refl}
use mathlib.Core.Bool.{Bool, true, false}
use mathlib.Core.List.{List, [], ◌∷◌}
use Prim.Native.Nat.{ℕ, ◌+◌, ◌/◌, ◌%◌, ◌≤◌}
use native.Mathlib.Omega.{arith}
use lib.ListN.{length}
use lib.Dec.{eqb, leb, ltb}
use borrow.Author.Tests.{leb-false, ltb-false, eq-eqb}
use Rattle.refusal.specs.Sizes.{most_prefixes, most_has_routes, most_border_routers}
use Rattle.refusal.specs.Every.{Every}
use Rattle.refusal.specs.Answer.{pick, Answer, given, absent, refused, then_do}
use Rattle.laws.proofs.Tests.{by_test, pick_all}
use Rattle.laws.proofs.Answers.{then_gives}
use Rattle.network_framing.specs.Tlvs.{Piece, Stop, clean, short}
use Rattle.network_framing.specs.Frame.{head_at, walk_in}
use Rattle.network_data.specs.Rules.{counts, join, rule, ended, rules, check_in, check_head, check_prefix, values, check_from, check_value}
use Rattle.network_data.specs.declared.Counts.{Counts}

-- ---- the checks count no more than the sizes

abbrev Few : Counts → Type 0
Few c = (c.prefixes ≤ most_prefixes) × (c.has_routes ≤ most_has_routes) × (c.border_routers ≤ most_border_routers)

abbrev pub AllFew : Answer Counts → Type 0
AllFew (given c) = Few c
AllFew absent = Unit {0}
AllFew (refused n p i) = Unit {0}

abbrev AtMost : ℕ → Answer ℕ → Type 0
AtMost most (given n) = n ≤ most
AtMost most absent = Unit {0}
AtMost most (refused n p i) = Unit {0}

join_most : (p had len size most : ℕ) → AtMost most (join p had len size most)
unfolding join
join_most p had len size most =
    pick_all (AtMost most) (eqb (len % size) 0) _ (refused 4 p 0)
    (λ e. pick_all (AtMost most) (ltb most (had + len / size)) (refused 12 p 0) (given (had + len / size)) (λ t. tt) (λ t. ltb-false _ _ t)) (λ e. tt)

on_few : (most : ℕ) (a : Answer ℕ) (f : ℕ → Counts) → AtMost most a → ((n : ℕ) → n ≤ most → Few (f n)) → AllFew (then_do a (λ n. given (f n)))
on_few most (given n) f h k = k n h
on_few most absent f h k = tt
on_few most (refused n p i) f h k = tt

then_few : (a : Answer Counts) (f : Counts → Answer Counts) → AllFew a → ((c : Counts) → Few c → AllFew (f c)) → AllFew (then_do a f)
then_few (given c) f h k = k c h
then_few absent f h k = tt
then_few (refused n p i) f h k = tt

module _ (p : ℕ) where
  rule_few : (c : Counts) (ty len : ℕ) → Few c → AllFew (rule p c ty len)
  unfolding rule
  rule_few c ty len w =
      pick_all AllFew (eqb ty 0) _ _
      (λ t. on_few most_has_routes (join p c.has_routes len 3 most_has_routes) (λ n. counts c.prefixes n c.border_routers) (join_most p _ len 3 most_has_routes) (λ n h. (w.0, h, w.2)))
      (λ t. pick_all AllFew (eqb ty 2) _ _
      (λ u. on_few most_border_routers (join p c.border_routers len 4 most_border_routers) (λ n. counts c.prefixes c.has_routes n) (join_most p _ len 4 most_border_routers) (λ n h. (w.0, w.1, h)))
      (λ u. pick_all AllFew (eqb ty 3) _ (given c) (λ x. pick_all AllFew (eqb len 2) (given c) (refused 4 p 0) (λ y. w) (λ y. tt)) (λ x. w)))

  ended_few : (c : Counts) (st : Stop) → Few c → AllFew (ended p c st)
  unfolding ended
  ended_few c clean w = w
  ended_few c short w = tt

  rules_few : (st : Stop) (es : List Piece) (c : Counts) → Few c → AllFew (rules p c st es)
  unfolding rules
  rules_few st [] c w = ended_few c st w
  rules_few st (e ∷ es) c w = then_few (rule p c e.ty e.len) (λ d. rules p d st es) (rule_few c e.ty e.len w) (λ d. rules_few st es d)

  head_few : (s : List ℕ) (c : Counts) (end : ℕ) (x : Answer ℕ) → Few c → AllFew (check_head p s c end x)
  unfolding check_head check_in
  head_few s c end (given at) w = rules_few (walk_in s at end).stop (walk_in s at end).items c w
  head_few s c end absent w = tt
  head_few s c end (refused n q i) w = tt

  prefix_few : (s : List ℕ) (c : Counts) (start end : ℕ) → Few c → AllFew (check_prefix p s c start end)
  unfolding check_prefix
  prefix_few s c start end w =
      pick_all AllFew (leb most_prefixes c.prefixes) (refused 12 p 0) _ (λ t. tt)
      (λ t. head_few s (counts (c.prefixes + 1) c.has_routes c.border_routers) end (head_at s start end) (omega (arith, leb-false most_prefixes c.prefixes t), w.1, w.2))

  values_few : (s : List ℕ) (st : Stop) (es : List Piece) (c : Counts) → Few c → AllFew (values p s c st es)
  unfolding values
  values_few s st [] c w = ended_few c st w
  values_few s st (e ∷ es) c w =
      then_few (pick (eqb e.ty 1) (check_prefix p s c e.start (e.start + e.len)) (given c)) (λ d. values p s d st es)
      (pick_all AllFew (eqb e.ty 1) (check_prefix p s c e.start (e.start + e.len)) (given c) (λ t. prefix_few s c e.start (e.start + e.len) w) (λ t. w))
      (λ d. values_few s st es d)

  pub check_few : (s : List ℕ) → AllFew (check_value p s)
  unfolding check_value check_from
  check_few s = values_few s (walk_in s 0 (length s)).stop (walk_in s 0 (length s)).items (counts 0 0 0) (omega arith, omega arith, omega arith)

-- ---- where prefixes are passed, their heads are whole

pub record Whole (s : List ℕ) (start end : ℕ) : Type 0 where
  pub at : ℕ
  pub is : head_at s start end ≡ given at

-- of a TLV that is a prefix
abbrev pub Passed : List ℕ → Piece → Type 0
Passed s e = e.ty ≡ 1 → Whole s e.start (e.start + e.len)

picked : {A : Type 0} (b : Bool) (x y z : A) → b ≡ true → pick b x y ≡ z → x ≡ z
picked true x y z t e = e
picked false x y z t e = absurd (let q : ◌≡◌ {A = ℕ} 0 1 = cc in omega arith)

module _ (p : ℕ) (s : List ℕ) where
  head_whole : (c d : Counts) (start end : ℕ) (x : Answer ℕ) → head_at s start end ≡ x → check_head p s c end x ≡ given d → Whole s start end
  unfolding check_head
  head_whole c d start end (given at) h e = record { at = at; is = h }
  head_whole c d start end absent h e = absurd (let z : ◌≡◌ {A = ℕ} 0 1 = cc in omega arith)
  head_whole c d start end (refused n q i) h e = absurd (let z : ◌≡◌ {A = ℕ} 0 1 = cc in omega arith)

  prefix_whole : (c d : Counts) (start end : ℕ) → check_prefix p s c start end ≡ given d → Whole s start end
  unfolding check_prefix
  prefix_whole c d start end e =
      by_test (leb most_prefixes c.prefixes)
      (λ t. absurd (let f : ◌≡◌ {A = Answer Counts} (refused 12 p 0) (given d) = rw t at e in let z : ◌≡◌ {A = ℕ} 0 1 = cc in omega arith))
      (λ t. head_whole _ d start end (head_at s start end) refl (rw t at e))

  pub values_whole : (st : Stop) (es : List Piece) (c d : Counts) → values p s c st es ≡ given d → Every (Passed s) es
  unfolding values
  values_whole st [] c d e = tt
  values_whole st (x ∷ es) c d e =
      let t = then_gives (pick (eqb x.ty 1) (check_prefix p s c x.start (x.start + x.len)) (given c)) (λ k. values p s k st es) d e in
      ((λ one. prefix_whole c t.0 x.start (x.start + x.len) (picked (eqb x.ty 1) _ _ _ (eq-eqb x.ty 1 one) t.1)), values_whole st es t.0 d t.2)
