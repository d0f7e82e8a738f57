-- Demand 3, on change lists: folding them, and running them on datasets. Every list and dataset here is one within the limits.
-- Assumes nothing.
use mathlib.Core.Path.{◌≡◌, refl, sym, ap, ◌∙◌}
use mathlib.Core.Logic.{◌↔◌}
use mathlib.Core.List.{List, [], ◌∷◌, ◌++◌}
use Prim.Native.Nat.{ℕ, ◌≤◌, ◌<◌}
use lib.ListN.{length}
use native.Mathlib.Omega.{arith}
use Rattle.refusal.specs.Answer.{Answer, given, absent, refused, then_do, on_given}
use Rattle.tlv.specs.Entries.{Entry, Content, entry, contents, valued, first, step, frames, framing}
use Rattle.tlv.specs.Limits.{limited, framed}
use Rattle.tlv_writing.specs.Encode.{encode_all, sized}
use Rattle.tlv_writing.proofs.Round.{parse_written}
use Rattle.change_lists.specs.Operations.{Op, OpAt, bare, encode_ops, operations}
use Rattle.change_folds.specs.Run.{perform, run_all, ran}
use Rattle.change_folds.specs.Fold.{types, fold_all, sized_ops, folded, folded_two}
use Rattle.change_folds.specs.Demand.{Changes, Dataset}
use Rattle.laws.proofs.Parts.{every_append}
use Rattle.change_folds.proofs.Folds.{Typed, run_fold, fold_fold, fold_two, fold_three}
use Rattle.change_folds.proofs.Backs.{ops_alike}
use Rattle.change_lists.proofs.Given.{input_alike}
use Rattle.change_lists.proofs.Reading.{Writable}
use Rattle.change_folds.proofs.Limits.{ops_within, read_short, tested, typed, fold_given, made}
use Rattle.change_folds.proofs.Weights.{fold_bytes}
use Rattle.change_folds.proofs.Effects.{run_empty, same_effects}

-- ---- what the calls answer, by the list's operations

abbrev does : {a : List ℕ} → Changes a → List Op
does c = bare c.ops

module _ {a : List ℕ} (c : Changes a) where
  writable : Writable (does c)
  writable = (ops_within c).writable

  types_fit : Typed (does c)
  types_fit = typed (does c) writable

  folded_is : folded a ≡ sized_ops (fold_all (does c))
  unfolding folded
  folded_is = rw c.within

  folded_given : folded a ≡ given (encode_ops (fold_all (does c)))
  folded_given = folded_is ∙ fold_given (does c) (ops_within c)

  two_is : {b : List ℕ} (e : Changes b) → folded_two a b ≡ sized_ops (fold_all (does c ++ does e))
  unfolding folded_two
  two_is e = rw (c.within, input_alike 0 1 _ e.ops e.within)

  ran_is : {d : List ℕ} (s : Dataset d) → ran d a ≡ sized (run_all (does c) (contents s.entries))
  unfolding ran
  ran_is s = rw (s.within, input_alike 0 1 a c.ops c.within)

no_entry : Dataset []
unfolding framed limited framing frames
no_entry = record { octets = tt; entries = []; within = refl }

one_entry : (t : ℕ) → t < types → Dataset (t ∷ 0 ∷ [])
unfolding framed limited framing frames step first valued types
one_entry t h = record { octets = (h, (omega arith, tt)); entries = entry 0 t 2 [] ∷ []; within = refl }

module _ {a b : List ℕ} (c : Changes a) (e : Changes b) where
  same_fold : folded a ≡ folded b → fold_all (does c) ≡ fold_all (does e)
  same_fold h = let bytes = sym (folded_given c) ∙ h ∙ folded_given e in ops_alike (fold_all (does c)) (fold_all (does e)) (cc)

  same_runs : {d : List ℕ} (s : Dataset d) → ran d a ≡ ran d b
      → sized (run_all (does c) (contents s.entries)) ≡ sized (run_all (does e) (contents s.entries))
  same_runs s h = sym (ran_is c s) ∙ h ∙ ran_is e s

-- ---- the demand

-- Two lists fold to the same bytes exactly when they have the same effect on every dataset: the same bytes, or the same refusal.
pub same_fold_same_effect : (a b : List ℕ) → Changes a → Changes b
    → (folded a ≡ folded b) ↔ ((d : List ℕ) → Dataset d → ran d a ≡ ran d b)
unfolding contents no_entry one_entry
same_fold_same_effect a b c e = (
  (λ h d s.
      let cs = contents s.entries in
      ran_is c s
      ∙ ap sized (sym (run_fold (does c) (types_fit c) cs) ∙ rw (same_fold c e h) (run_fold (does e) (types_fit e) cs))
      ∙ sym (ran_is e s)),
  (λ h.
      folded_is c
      ∙ ap sized_ops
      (same_effects (does c) (does e) (ops_within c) (ops_within e)
      (same_runs c e no_entry (h [] no_entry)) (λ t l. same_runs c e (one_entry t l) (h (t ∷ 0 ∷ []) (one_entry t l))))
      ∙ sym (folded_is e)),
)

-- Folding two lists is folding what each of them folds to.
pub folded_apart : (a b x y : List ℕ) → Changes a → Changes b → folded a ≡ given x → folded b ≡ given y
    → Changes x × Changes y × (folded_two a b ≡ folded_two x y)
folded_apart a b x y c e h k =
    let m = made (does c) x (writable c) (sym (folded_is c) ∙ h) in
    let n = made (does e) y (writable e) (sym (folded_is e) ∙ k) in
    let same = fold_two (does c) (does e) (types_fit c) (types_fit e) in
    (m.0, n.0, two_is c e ∙ ap sized_ops (rw (m.1, n.1) (sym same)) ∙ sym (two_is m.0 n.0))

-- Three lists fold to the same in either grouping, where the first two and the last two fold.
pub either_grouping : (a b c x y : List ℕ) → Changes a → Changes b → Changes c → folded_two a b ≡ given x → folded_two b c ≡ given y
    → Changes x × Changes y × (folded_two x c ≡ folded_two a y)
either_grouping a b c x y d e f h k =
    let m = made (does d ++ does e) x (every_append _ (does d) (does e) (writable d) (writable e)) (sym (two_is d e) ∙ h) in
    let n = made (does e ++ does f) y (every_append _ (does e) (does f) (writable e) (writable f)) (sym (two_is e f) ∙ k) in
    let same = fold_three (does d) (does e) (does f) (types_fit d) (types_fit e) (types_fit f) in
    (m.0, n.0, two_is m.0 f ∙ ap sized_ops (rw (m.1, n.1) same) ∙ sym (two_is d n.0))

-- A list always folds, and to a list that folds to itself.
pub always_folds : (a : List ℕ) → Changes a → (x : List ℕ) × (folded a ≡ given x) × Changes x × (folded x ≡ given x)
always_folds a c =
    let x = encode_ops (fold_all (does c)) in
    let m = made (does c) x (writable c) (fold_given (does c) (ops_within c)) in
    let again = ap fold_all m.1 ∙ fold_fold (does c) (types_fit c) in
    (x, folded_given c, m.0, folded_given m.0 ∙ rw again)

-- On the empty dataset a list is never refused.
pub empty_fits : (a : List ℕ) → Changes a → (x : List ℕ) × (ran [] a ≡ given x)
unfolding contents no_entry
empty_fits a c = (_, ran_is c no_entry ∙ run_empty (does c) (ops_within c))

run_append : (os ps : List Op) (cs : List Content) → run_all (os ++ ps) cs ≡ run_all ps (run_all os cs)
unfolding run_all
run_append [] ps cs = refl
run_append (o ∷ os) ps cs = run_append os ps (perform o cs)

given_alike : (x y : List Content) → ◌≡◌ {A = Answer (List Content)} (given x) (given y) → x ≡ y
given_alike x y h = cc

then_run : (f : Answer (List Entry)) (rs : List Content) {b : List ℕ} (e : Changes b) → on_given contents f ≡ given rs
    → then_do f (λ (es : List Entry). then_do (operations 1 b) (λ (os : List OpAt). sized (run_all (bare os) (contents es)))) ≡ sized (run_all (does e) rs)
then_run (given es) rs {b} e h = rw (input_alike 0 1 b e.ops e.within) (ap (λ (r : List Content). sized (run_all (does e) r)) (given_alike _ _ h))
then_run absent rs e h = absurd (let z : ◌≡◌ {A = ℕ} 0 1 = cc in omega arith)
then_run (refused n p i) rs e h = absurd (let z : ◌≡◌ {A = ℕ} 0 1 = cc in omega arith)

-- Running what two lists fold to is running the first, and the second on what that wrote.
pub two_run : (a b x d m : List ℕ) → Changes a → Changes b → Dataset d → folded_two a b ≡ given x → ran d a ≡ given m → ran d x ≡ ran m b
unfolding ran sized
two_run a b x d m c e s h k =
    let cs = contents s.entries in
    let os = does c ++ does e in
    let good = every_append _ (does c) (does e) (writable c) (writable e) in
    let n = made os x good (sym (two_is c e) ∙ h) in
    let w = tested (encode_all (run_all (does c) cs)) _ m (sym (ran_is c s) ∙ k) in
    ran_is n.0 s
    ∙ ap sized (rw n.1 (run_fold os (typed os good) cs) ∙ run_append (does c) (does e) cs)
    ∙ sym (rw (← w.0) (then_run (framed 0 (encode_all (run_all (does c) cs))) _ e (parse_written 0 _ w.1 w.2)))

-- No list with the same effect on every dataset is shorter than what a list folds to.
pub shortest : (a b x : List ℕ) → Changes a → Changes b → ((d : List ℕ) → Dataset d → ran d a ≡ ran d b) → folded a ≡ given x → length x ≤ length b
shortest a b x c e h k =
    let same = (same_fold_same_effect a b c e).1 h in
    let both = sym k ∙ same ∙ folded_given e in
    let bytes : x ≡ encode_ops (fold_all (does e)) = cc in
    rw bytes (omega (arith, fold_bytes (does e), read_short e))
