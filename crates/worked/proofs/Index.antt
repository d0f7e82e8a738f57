-- Worked lines of the index: of datasets, of edited ones, and the order of refusals, computed from the definitions.
-- Assumes nothing.
use mathlib.Core.Path.{◌≡◌, refl}
use mathlib.Core.List.{List, [], ◌∷◌, ◌++◌}
use Prim.Native.Nat.{ℕ, ◌*◌}
use lib.ListN.{take, replicate}
use Rattle.refusal.specs.Answer.{Answer, given, refused, on_given, then_do}
use Rattle.refusal.specs.Every.{Every}
use Rattle.refusal.specs.Each.{same}
use Rattle.wire_bytes.specs.Bytes.{bytes_of}
use Rattle.tlv.specs.Entries.{Entry, valued, long, first, step, frames, framing, contents}
use Rattle.tlv.specs.Limits.{limited, framed}
use Rattle.tlv_writing.specs.Encode.{header, encode, encode_all, sized}
use Rattle.tlv_last.specs.Last.{last_of}
use Rattle.tlv_rewriting.specs.Rewrite.{keeps_of, kept, rewritten, set_last, with_set}
use Rattle.tlv_rewriting.specs.declared.Choice.TheVariants.{Without}
use Rattle.dataset_index.specs.Index.{how_many, last_place, slots, index_bytes, built, loaded}
use Rattle.index_edits.specs.Edits.{by_stored}

-- a dataset, a type, and how many entries of it there are and where the last begins
pub record Line : Type 0 where
  pub dataset : Answer (List ℕ)
  pub ty : ℕ
  pub count : ℕ
  pub place : ℕ

abbrev line : Answer (List ℕ) → (ty count place : ℕ) → Line
line d t n p = record { dataset = d; ty = t; count = n; place = p }

-- a long header, and another entry after it: every writing moves the second
abbrev mixed : List ℕ
mixed = 0x03 ∷ 0xff ∷ 0x00 ∷ 0x01 ∷ 0x41 ∷ 0x07 ∷ 0x00 ∷ []

abbrev pub lines : List Line
lines =
    line (given mixed) 7 1 5
    ∷ line (given mixed) 3 1 0
    -- none: place 0
    ∷ line (given mixed) 4 0 0
    -- the last of two, at its own first byte
    ∷ line (given (0x03 ∷ 0x01 ∷ 0x41 ∷ 0x07 ∷ 0x00 ∷ 0x03 ∷ 0xff ∷ 0x00 ∷ 0x01 ∷ 0x42 ∷ [])) 3 2 5
    -- after an edit: what was set is last, and what stands before it has moved
    ∷ line (with_set 0 [] mixed) 0 1 5
    ∷ line (with_set 0 [] mixed) 7 1 3
    ∷ line (with_set 3 [] mixed) 7 1 0
    ∷ line (rewritten (Without 4) mixed) 7 1 3
    ∷ line (rewritten (Without 3) mixed) 7 1 0
    ∷ []

-- all that there is to say of a type
pub record Slot : Type 0 where
  pub count : ℕ
  pub place : ℕ

abbrev slot : (count place : ℕ) → Slot
slot n p = record { count = n; place = p }

abbrev slot_of : (ty : ℕ) → List ℕ → Answer Slot
slot_of ty s = on_given (λ (es : List Entry). slot (how_many ty es) (last_place ty es)) (framed 0 s)

pub worked : Every (λ (l : Line). then_do l.dataset (slot_of l.ty) ≡ given (slot l.count l.place)) lines
unfolding with_set set_last rewritten kept keeps_of sized encode_all encode header contents how_many last_place last_of framed limited framing frames step first long valued
worked = (refl, (refl, (refl, (refl, (refl, (refl, (refl, (refl, (refl, tt)))))))))

-- the first bytes as they are stored: the upper byte first, of a place too, which is 256 here
pub stored : on_given (λ (es : List Entry). take 10 (index_bytes es)) (framed 0 (0x01 ∷ 0xfe ∷ (replicate 254 0 ++ (0x00 ∷ 0x00 ∷ []))))
    ≡ given (0x49 ∷ 0x58 ∷ 0x00 ∷ 0x01 ∷ 0x01 ∷ 0x00 ∷ 0x00 ∷ 0x01 ∷ 0x00 ∷ 0x00 ∷ [])
unfolding index_bytes slots bytes_of how_many last_place last_of framed limited framing frames step first long valued
stored = refl

-- ---- the order of refusals: a dataset, a stored index, and what loading it says
pub record Refused : Type 0 where
  pub dataset : List ℕ
  pub stored : List ℕ
  pub answer : Answer (Unit {0})

abbrev refusing : List ℕ → List ℕ → Answer (Unit {0}) → Refused
refusing d x a = record { dataset = d; stored = x; answer = a }

-- so many entries without a value, of type 0
abbrev empty : ℕ → List ℕ
empty n = replicate (2 * n) 0

abbrev pub refusals : List Refused
refusals =
    -- 2 and 3 before 17
    refusing (0x03 ∷ []) [] (refused 2 0 0)
    ∷ refusing (empty 257) [] (refused 3 512 0)
    ∷ refusing [] [] (refused 17 0 1)
    ∷ []

pub loads : Every (λ (l : Refused). loaded l.dataset l.stored ≡ l.answer) refusals
unfolding loaded built index_bytes same framed limited framing frames step first long valued
loads = (refl, (refl, (refl, tt)))

-- 17 before 10, which the edit itself would give
pub stored_first : (by_stored (empty 256) [] (with_set 1 [] (empty 256)) ≡ refused 17 0 1) × (with_set 1 [] (empty 256) ≡ refused 10 0 0)
unfolding by_stored loaded built index_bytes same with_set set_last kept keeps_of sized encode_all encode header contents framed limited framing frames step first long valued
stored_first = (refl, refl)
