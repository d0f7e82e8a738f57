-- The typed queries of a dataset: "A query uses the last entry of its type" (document 01), 1, 2, 3 before the value's own fault at the entry's place.
-- Assumes nothing.
use Rattle.std.specs.Prelude.{ℕ, List, [], ◌∷◌, map, eqb}
use Rattle.refusal.specs.Answer.{pick, Answer, then_do, on_given}
use Rattle.wire.specs.Be.{ruled}
use Rattle.tlv.specs.Entries.{Entry}
use Rattle.tlv_last.specs.Last.{last_entry}

-- a type, and the length that its value must have
pub record Rule : Type 0 where
  pub ty : ℕ
  pub len : ℕ

abbrev pub rule : (ty len : ℕ) → Rule
rule t n = record { ty = t; len = n }

-- "Lengths: channel 3 (page, number); PAN ID 2; extended PAN ID 8; network key 16; mesh-local prefix 8; each timestamp 8; delay 4; security
-- policy 4 (rotation, flags)", in the order of dataset.rs
abbrev pub rules : List Rule
rules =
    rule 0 3  -- channel
    ∷ rule 1 2  -- PAN ID
    ∷ rule 2 8  -- extended PAN ID
    ∷ rule 5 16  -- network key
    ∷ rule 7 8  -- mesh-local prefix
    ∷ rule 12 4  -- security policy
    ∷ rule 14 8  -- active timestamp
    ∷ rule 51 8  -- pending timestamp
    ∷ rule 52 4  -- delay timer
    ∷ []

-- their types
abbrev pub tlv_types : List ℕ
tlv_types = map (λ (r : Rule). r.ty) rules

abbrev pub length_in : List Rule → (ty : ℕ) → ℕ
length_in [] ty = 0
length_in (r ∷ rs) ty = pick (eqb r.ty ty) r.len (length_in rs ty)

-- what f reads of the value of a type that has a rule
unfoldable pub query : {A : Type 0} → (ty : ℕ) → (List ℕ → A) → List ℕ → Answer A
query ty f s = then_do (last_entry ty 0 s) (λ (e : Entry). on_given f (ruled (length_in rules ty) e.place e.value))
