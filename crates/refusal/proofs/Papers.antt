-- The code's answers and their papers say the same: a paper has one answer of the code, so that a contract on it determines the answer.
-- Assumes nothing.
use mathlib.Core.Path.{◌≡◌, refl, sym, ap, ◌∙◌}
use Prim.Native.Nat.{ℕ}
use Rattle.std.specs.Prelude.{Result, Ok, Err, Option, Some, None, IsErrAnd}
use mathlib.Core.List.{List}
use native.Mathlib.Omega.{arith}
use lib.Dec.{eqb}
use Rattle.refusal.specs.Answer.{pick, Answer, given, absent, refused, on_given}
use Rattle.refusal.specs.Number.{fault_number}
use Rattle.refusal.specs.Results.{answer_of, found_of, option_of}
use Rattle.refusal.specs.Output.{Output, output}
use Rattle.refusal.specs.declared.Fault.{Fault}
use Rattle.refusal.specs.declared.Fault.TheVariants as f
use Rattle.refusal.specs.declared.Refusal.{Refusal}

-- f gives two values one image only where they are one
abbrev pub Tells : {A B : Type 0} → (A → B) → Type 0
Tells {A} f = (a b : A) → f a ≡ f b → a ≡ b

-- what can be undone tells its arguments apart
pub tells : {A B : Type 0} (f : A → B) (g : B → A) → ((a : A) → g (f a) ≡ a) → Tells f
tells f g back a b e = sym (back a) ∙ ap g e ∙ back b

abbrev fault_of : ℕ → Fault
fault_of n =
    pick (eqb n 1) f.TooLarge
    (pick (eqb n 2) f.Cut
    (pick (eqb n 3) f.TooMany
    (pick (eqb n 4) f.BadLength
    (pick (eqb n 5) f.ItemCut
    (pick (eqb n 6) f.NotUtf8
    (pick (eqb n 7) f.OddDigits
    (pick (eqb n 8) f.NotHex
    (pick (eqb n 9) f.BadOperation
    (pick (eqb n 10) f.ResultTooLarge
    (pick (eqb n 11) f.NoRoom
    (pick (eqb n 12) f.TooManyRows (pick (eqb n 13) f.ValueTooLong (pick (eqb n 14) f.NowTooLate (pick (eqb n 15) f.Unwritable (pick (eqb n 16) f.NotAddress f.WrongIndex)))))))))))))))

fault_back : (x : Fault) → fault_of (fault_number x) ≡ x
fault_back f.TooLarge = refl
fault_back f.Cut = refl
fault_back f.TooMany = refl
fault_back f.BadLength = refl
fault_back f.ItemCut = refl
fault_back f.NotUtf8 = refl
fault_back f.OddDigits = refl
fault_back f.NotHex = refl
fault_back f.BadOperation = refl
fault_back f.ResultTooLarge = refl
fault_back f.NoRoom = refl
fault_back f.TooManyRows = refl
fault_back f.ValueTooLong = refl
fault_back f.NowTooLate = refl
fault_back f.Unwritable = refl
fault_back f.NotAddress = refl
fault_back f.WrongIndex = refl

pub fault_tells : Tells fault_number
fault_tells = tells fault_number fault_of fault_back

abbrev pub refusal_of : ℕ → ℕ → ℕ → Refusal
refusal_of n p i = record { fault = fault_of n; place = p; input = i }

pub refusal_back : (r : Refusal) → refusal_of (fault_number r.fault) r.place r.input ≡ r
refusal_back r = ap (λ (x : Fault). record { fault = x; place = r.place; input = r.input }) (fault_back r.fault)

-- from an answer on paper back to the code's
abbrev result_of : {A : Type 0} → Answer A → Result A Refusal
result_of (given x) = Ok x
result_of absent = Err (refusal_of 0 0 0)
result_of (refused n p i) = Err (refusal_of n p i)

abbrev query_of : {A : Type 0} → Answer A → Result (Option A) Refusal
query_of (given x) = Ok (Some x)
query_of absent = Ok None
query_of (refused n p i) = Err (refusal_of n p i)

pub answer_tells : {A : Type 0} → Tells (answer_of {A = A})
answer_tells {A} = tells answer_of result_of (elim [ Ok x ↦ refl | Err r ↦ ap Err (refusal_back r) ])

pub found_tells : {A : Type 0} → Tells (found_of {A = A})
found_tells {A} = tells found_of query_of (elim [ Ok (Some x) ↦ refl | Ok None ↦ refl | Err r ↦ ap Err (refusal_back r) ])

abbrev pub maybe_of : {A : Type 0} → Answer A → Option A
maybe_of (given x) = Some x
maybe_of absent = None
maybe_of (refused n p i) = None

pub option_tells : {A : Type 0} → Tells (option_of {A = A})
option_tells {A} = tells option_of maybe_of (elim [ Some x ↦ refl | None ↦ refl ])

pub option_back : {A : Type 0} (x : Option A) → maybe_of (option_of x) ≡ x
option_back (Some x) = refl
option_back None = refl

-- the same where what is given has a paper f of its own, which g undoes
module _ {A B : Type 0} (f : A → B) (g : B → A) (back : (a : A) → g (f a) ≡ a) where
  pub answer_paper_tells : Tells (λ (x : Result A Refusal). on_given f (answer_of x))
  answer_paper_tells =
      tells (λ (x : Result A Refusal). on_given f (answer_of x)) (λ (y : Answer B). result_of (on_given g y))
      (elim [ Ok x ↦ ap Ok (back x) | Err r ↦ ap Err (refusal_back r) ])

  pub found_paper_tells : Tells (λ (x : Result (Option A) Refusal). on_given f (found_of x))
  found_paper_tells =
      tells (λ (x : Result (Option A) Refusal). on_given f (found_of x)) (λ (y : Answer B). query_of (on_given g y))
      (elim [ Ok (Some x) ↦ ap (λ (a : A). Ok (Some a)) (back x) | Ok None ↦ refl | Err r ↦ ap Err (refusal_back r) ])

  pub option_paper_back : (x : Option A) → maybe_of (on_given g (on_given f (option_of x))) ≡ x
  option_paper_back (Some x) = ap Some (back x)
  option_paper_back None = refl

-- what a `?` hands on is the refusal that it met
pub passes : {A : Type 0} (x : Result A Refusal) (r : Refusal) → IsErrAnd x (λ (q : Refusal). q ≡ r) → x ≡ Err r
passes (Ok y) r h = absurd h
passes (Err q) r h = ap Err h

-- a refusal as it is, and nothing else
abbrev emptied : {A B : Type 0} → Answer A → Answer B
emptied (given x) = absent
emptied absent = absent
emptied (refused n p i) = refused n p i

-- a query refuses what a call of its type refuses
pub refuses_found : {A : Type 0} (x : Result (Option A) Refusal) (n p i : ℕ) → answer_of x ≡ refused n p i → found_of x ≡ refused n p i
refuses_found (Ok y) n p i e = absurd (let z : ◌≡◌ {A = ℕ} 0 1 = cc in omega arith)
refuses_found (Err r) n p i e = ap emptied e

-- the one equation that a writer's contract is fixes its answer and its output
pub output_tells :
    (r q : Result ℕ Refusal) (o p : List ℕ) → output (answer_of r) o ≡ output (answer_of q) p → (r ≡ q) × (o ≡ p)
output_tells r q o p e = (answer_tells r q (ap (λ (x : Output). x.answer) e), ap (λ (x : Output). x.left) e)
