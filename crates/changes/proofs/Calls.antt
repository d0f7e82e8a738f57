-- Demand 3 of what the calls `run`, `fold` and `fold_two` answer and write, with outputs of mostBytes bytes: the answer is the definition's, 11 never
-- occurs, and so the demand of the definitions (change_folds/proofs/Demand.antt) is one of the calls.
-- Assumes nothing.
use mathlib.Core.Path.{◌≡◌, refl, sym, ap, ◌∙◌}
use mathlib.Core.Logic.{◌↔◌}
use mathlib.Core.Bool.{Bool}
use mathlib.Core.List.{List, [], ◌++◌}
use Prim.Native.Nat.{ℕ, ◌≤◌}
use native.Mathlib.Omega.{arith}
use lib.ListN.{length, drop}
use lib.Seq.{take-append_seam}
use lib.Dec.{ltb}
use borrow.Author.Tests.{le-ltb, ltb-false}
use Rattle.refusal.specs.Sizes.{most_bytes, most_entries}
use Rattle.refusal.specs.Answer.{pick, Answer, given, absent, refused, then_do, on_given}
use Rattle.refusal.specs.Output.{Output, output, emit}
use Rattle.laws.proofs.Tests.{pick_all}
use Rattle.tlv.specs.Entries.{Content}
use Rattle.tlv.specs.Limits.{framed}
use Rattle.tlv_writing.specs.Encode.{encode_all, sized}
use Rattle.change_lists.specs.Operations.{Op, encode_ops, operations}
use Rattle.change_folds.specs.Run.{ran}
use Rattle.change_folds.specs.Fold.{sized_ops, folded, folded_two}
use Rattle.change_folds.specs.Demand.{Changes, Dataset}
use Rattle.change_folds.proofs.Demand.{same_fold_same_effect, folded_apart, either_grouping, always_folds, empty_fits, two_run, shortest}
use Rattle.changes.specs.Demand.{Roomy, running, folding, folding_two, wrote, Same}

-- ---- what is answered within the limit of bytes

-- what is given keeps the limit
pub record Within (a : Answer (List ℕ)) : Type 0 where
  pub small : (bs : List ℕ) → a ≡ given bs → length bs ≤ most_bytes

within_given : (bs : List ℕ) → length bs ≤ most_bytes → Within (given bs)
within_given bs h = record { small = λ xs e. let same : bs ≡ xs = cc in rw (← same) h }

within_refused : (n p i : ℕ) → Within (refused n p i)
within_refused n p i = record { small = λ bs e. absurd (let z : ◌≡◌ {A = ℕ} 0 1 = cc in omega arith) }

within_then : {A : Type 0} (a : Answer A) (f : A → Answer (List ℕ)) → ((x : A) → Within (f x)) → Within (then_do a f)
within_then (given x) f h = h x
within_then absent f h = record { small = λ bs e. absurd (let z : ◌≡◌ {A = ℕ} 0 1 = cc in omega arith) }
within_then (refused n p i) f h = within_refused n p i

-- bytes that are tested against the limit, and something else after it
tested_within : (bs : List ℕ) (more : Bool)
    → Within (pick (ltb most_bytes (length bs)) (refused 10 0 0) (pick more (refused 10 0 0) (given bs)))
tested_within bs more =
    pick_all Within (ltb most_bytes (length bs)) _ _ (λ e. within_refused 10 0 0)
    (λ e. pick_all Within more _ _ (λ f. within_refused 10 0 0) (λ f. within_given bs (ltb-false _ _ e)))

sized_within : (cs : List Content) → Within (sized cs)
unfolding sized
sized_within cs = tested_within (encode_all cs) (ltb most_entries (length cs))

ops_within : (os : List Op) → Within (sized_ops os)
unfolding sized_ops
ops_within os = tested_within (encode_ops os) (ltb most_entries (length os))

ran_within : (d l : List ℕ) → Within (ran d l)
unfolding ran
ran_within d l = within_then (framed 0 d) _ (λ es. within_then (operations 1 l) _ (λ os. sized_within _))

folded_within : (l : List ℕ) → Within (folded l)
unfolding folded
folded_within l = within_then (operations 0 l) _ (λ os. ops_within _)

two_within : (a b : List ℕ) → Within (folded_two a b)
unfolding folded_two
two_within a b = within_then (operations 0 a) _ (λ os. within_then (operations 1 b) _ (λ ps. ops_within _))

-- ---- the answer of a call is the definition's: there is always room, so 11 never occurs

-- all that is given at the start of out, or the refusal and out as it was: `emit` without its test for room
abbrev pub laid : Answer (List ℕ) → List ℕ → Output
laid (given bs) out = output (given (length bs)) (bs ++ drop (length bs) out)
laid absent out = output absent out
laid (refused n p i) out = output (refused n p i) out

pub fits : (a : Answer (List ℕ)) → Within a → (o : Roomy) → emit a o.bytes ≡ laid a o.bytes
unfolding emit
fits (given bs) h o = rw (le-ltb (length o.bytes) (length bs) (rw o.room (h.small bs refl)))
fits absent h o = refl
fits (refused n p i) h o = refl

pub run_laid : (d l : List ℕ) (o : Roomy) → running d l o ≡ laid (ran d l) o.bytes
run_laid d l o = fits (ran d l) (ran_within d l) o

pub fold_laid : (l : List ℕ) (o : Roomy) → folding l o ≡ laid (folded l) o.bytes
fold_laid l o = fits (folded l) (folded_within l) o

pub fold_two_laid : (a b : List ℕ) (o : Roomy) → folding_two a b o ≡ laid (folded_two a b) o.bytes
fold_two_laid a b o = fits (folded_two a b) (two_within a b) o

-- ---- so two calls answer and write the same exactly when the definitions' answers are the same

abbrev bytes_in : Answer (List ℕ) → List ℕ
bytes_in (given bs) = bs
bytes_in absent = []
bytes_in (refused n p i) = []

laid_count : (a : Answer (List ℕ)) (out : List ℕ) → (laid a out).answer ≡ on_given length a
laid_count (given bs) out = refl
laid_count absent out = refl
laid_count (refused n p i) out = refl

laid_bytes : (a : Answer (List ℕ)) (out : List ℕ) → wrote (laid a out) ≡ bytes_in a
laid_bytes (given bs) out = take-append_seam bs _
laid_bytes absent out = refl
laid_bytes (refused n p i) out = refl

alike : (a b : Answer (List ℕ)) → on_given length a ≡ on_given length b → bytes_in a ≡ bytes_in b → a ≡ b
alike (given x) (given y) n e = ap given e
alike (given x) absent n e = absurd (let z : ◌≡◌ {A = ℕ} 0 1 = cc in omega arith)
alike (given x) (refused m p i) n e = absurd (let z : ◌≡◌ {A = ℕ} 0 1 = cc in omega arith)
alike absent (given y) n e = absurd (let z : ◌≡◌ {A = ℕ} 0 1 = cc in omega arith)
alike absent absent n e = refl
alike absent (refused m p i) n e = absurd (let z : ◌≡◌ {A = ℕ} 0 1 = cc in omega arith)
alike (refused m p i) (given y) n e = absurd (let z : ◌≡◌ {A = ℕ} 0 1 = cc in omega arith)
alike (refused m p i) absent n e = absurd (let z : ◌≡◌ {A = ℕ} 0 1 = cc in omega arith)
alike (refused m p i) (refused k q j) n e = cc

module _ (a b : Answer (List ℕ)) (h : Within a) (k : Within b) (o p : Roomy) where
  same_of : a ≡ b → Same (emit a o.bytes) (emit b p.bytes)
  same_of e =
      rw (fits a h o, fits b k p)
      (laid_count a _ ∙ ap (on_given length) e ∙ sym (laid_count b _), laid_bytes a _ ∙ ap bytes_in e ∙ sym (laid_bytes b _))

  of_same : Same (emit a o.bytes) (emit b p.bytes) → a ≡ b
  of_same e =
      let s = rw (fits a h o, fits b k p) at e in
      alike a b (sym (laid_count a _) ∙ s.0 ∙ laid_count b _) (sym (laid_bytes a _) ∙ s.1 ∙ laid_bytes b _)

-- what a call wrote that answers a number, by the definition
wrote_given : (a : Answer (List ℕ)) → Within a → (o : Roomy) (x : List ℕ) → a ≡ given x → wrote (emit a o.bytes) ≡ x
wrote_given a h o x e = ap wrote (fits a h o) ∙ laid_bytes a o.bytes ∙ ap bytes_in e

given_of : (a : Answer (List ℕ)) → Within a → (o : Roomy) (n : ℕ) → (emit a o.bytes).answer ≡ given n → a ≡ given (wrote (emit a o.bytes))
given_of (given x) h o n e = ap given (sym (wrote_given (given x) h o x refl))
given_of absent h o n e = absurd (let z = rw (fits absent h o) at e in let y : ◌≡◌ {A = ℕ} 0 1 = cc in omega arith)
given_of (refused m p i) h o n e = absurd (let z = rw (fits (refused m p i) h o) at e in let y : ◌≡◌ {A = ℕ} 0 1 = cc in omega arith)

-- ---- the demand

-- Two lists within the limits: `fold` answers and writes the same for both exactly when `run` answers and writes the same for both on every dataset
-- within the limits. The outputs may hold different bytes before.
pub same_fold_same_run : (a b : List ℕ) → Changes a → Changes b → (o p : Roomy)
    → Same (folding a o) (folding b p) ↔ ((d : List ℕ) → Dataset d → (q r : Roomy) → Same (running d a q) (running d b r))
same_fold_same_run a b c e o p =
    let defined = same_fold_same_effect a b c e in (
      (λ h d s q r. same_of _ _ (ran_within d a) (ran_within d b) q r (defined.0 (of_same _ _ (folded_within a) (folded_within b) o p h) d s)),
      (λ h. same_of _ _ (folded_within a) (folded_within b) o p (defined.1 (λ d s. of_same _ _ (ran_within d a) (ran_within d b) o p (h d s o p)))),
    )

-- `fold_two` of two lists, and of what `fold` wrote for each of them.
pub fold_two_of_folds : (a b : List ℕ) → Changes a → Changes b → (o p q r : Roomy)
    → Same (folding_two a b q) (folding_two (wrote (folding a o)) (wrote (folding b p)) r)
fold_two_of_folds a b c e o p q r =
    let x = always_folds a c in
    let y = always_folds b e in
    rw (wrote_given _ (folded_within a) o x.0 x.1, wrote_given _ (folded_within b) p y.0 y.1)
    (same_of _ _ (two_within a b) (two_within x.0 y.0) q r (folded_apart a b _ _ c e x.1 y.1).2)

-- Three lists in either grouping, where `fold_two` answers with a list for the first two and for the last two.
pub same_in_either_grouping : (a b c : List ℕ) → Changes a → Changes b → Changes c → (o p q r : Roomy) (n m : ℕ)
    → (folding_two a b o).answer ≡ given n → (folding_two b c p).answer ≡ given m
    → Same (folding_two (wrote (folding_two a b o)) c q) (folding_two a (wrote (folding_two b c p)) r)
same_in_either_grouping a b c d e f o p q r n m h k =
    let x = given_of _ (two_within a b) o n h in
    let y = given_of _ (two_within b c) p m k in
    same_of _ _ (two_within _ c) (two_within a _) q r (either_grouping a b c _ _ d e f x y).2

-- A list within the limits is never refused by `fold`, nor by `run` on the empty dataset.
pub fold_always_answers : (a : List ℕ) → Changes a → (o : Roomy) → (n : ℕ) × ((folding a o).answer ≡ given n)
fold_always_answers a c o =
    let x = always_folds a c in
    (_, ap (λ (z : Output). z.answer) (fold_laid a o) ∙ laid_count (folded a) o.bytes ∙ ap (on_given length) x.1)

pub run_on_nothing_answers : (a : List ℕ) → Changes a → (o : Roomy) → (n : ℕ) × ((running [] a o).answer ≡ given n)
run_on_nothing_answers a c o =
    let x = empty_fits a c in
    (_, ap (λ (z : Output). z.answer) (run_laid [] a o) ∙ laid_count (ran [] a) o.bytes ∙ ap (on_given length) x.1)

-- What `fold` writes is no longer than any list for which `run` answers and writes the same on every dataset.
pub fold_writes_shortest : (a b : List ℕ) → Changes a → Changes b → ((d : List ℕ) → Dataset d → (q r : Roomy) → Same (running d a q) (running d b r))
    → (o : Roomy) → length (wrote (folding a o)) ≤ length b
fold_writes_shortest a b c e h o =
    let x = always_folds a c in
    rw (wrote_given _ (folded_within a) o x.0 x.1)
    (shortest a b x.0 c e (λ d s. of_same _ _ (ran_within d a) (ran_within d b) o o (h d s o o)) x.1)

-- `run` with what `fold_two` wrote for two lists, and with the second on what `run` wrote with the first.
pub run_of_fold_two : (a b d : List ℕ) → Changes a → Changes b → Dataset d → (o p q r : Roomy) (n m : ℕ)
    → (folding_two a b o).answer ≡ given n → (running d a p).answer ≡ given m
    → Same (running d (wrote (folding_two a b o)) q) (running (wrote (running d a p)) b r)
run_of_fold_two a b d c e s o p q r n m h k =
    let x = given_of _ (two_within a b) o n h in
    let y = given_of _ (ran_within d a) p m k in
    same_of _ _ (ran_within d _) (ran_within _ b) q r (two_run a b _ d _ c e s x y)
