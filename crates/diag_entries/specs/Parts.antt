-- The entries of a payload by their type, and parts of the payload. Document 01: "Last of a repeated type counts, but every one must decode;
-- type 30 gathers all, in order."
-- Assumes nothing.
use Rattle.std.specs.Prelude.{ℕ, List, [], ◌∷◌, length, eqb}
use Rattle.refusal.specs.Answer.{pick, Answer, absent, on_given}
use Rattle.tlv.specs.Entries.{Entry}
use Rattle.tlv_last.specs.Last.{last_of}

-- all of es that have the type, in order
unfoldable pub all_of : (ty : ℕ) → List Entry → List Entry
all_of ty [] = []
all_of ty (e ∷ es) = pick (eqb e.ty ty) (e ∷ all_of ty es) (all_of ty es)

-- the last of them
abbrev pub last : (ty : ℕ) → List Entry → Answer Entry
last ty es = last_of ty absent es

-- what stays in the caller's bytes: where it lies, and what it says
pub record Said (A : Type 0) : Type 0 where
  pub start : ℕ
  pub len : ℕ
  pub says : A

abbrev pub said : {A : Type 0} → (List ℕ → A) → Entry → Said A
said f e = record { start = e.start; len = length e.value; says = f e.value }

-- what f says of the last value of a type; and the same with the part of the payload that it is
abbrev pub last_says : {A : Type 0} → (ty : ℕ) → (List ℕ → A) → List Entry → Answer A
last_says ty f es = on_given (λ (e : Entry). f e.value) (last ty es)

abbrev pub last_part : {A : Type 0} → (ty : ℕ) → (List ℕ → A) → List Entry → Answer (Said A)
last_part ty f es = on_given (said f) (last ty es)
