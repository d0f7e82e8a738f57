-- The operations of a change list. Document 01, "Change lists": "A list is operations back to back, each after a two-byte mark: 53 45 and one
-- TLV sets; 52 4D and one type byte removes."
-- Assumes nothing.
use Rattle.std.specs.Prelude.{ℕ, zero, suc, ◌+◌, ◌-◌, ◌&&◌, List, [], ◌∷◌, ◌++◌, length, get_or, ltb, eqb}
use Rattle.refusal.specs.Sizes.{most_bytes, most_entries}
use Rattle.refusal.specs.Answer.{pick, Answer, given, refused}
use Rattle.tlv.specs.Entries.{First, none, cut, one, first, Content, content, Stop, clean, cut_at}
use Rattle.tlv_writing.specs.Encode.{encode}

pub data Op : Type 0 where
  set : Content → Op
  remove : (ty : ℕ) → Op

-- what stands first: nothing, an operation that is cut short or has an unknown mark, or an operation and the bytes after it
pub data FirstOp : Type 0 where
  nothing : FirstOp
  bad : FirstOp
  operation : Op → (rest : List ℕ) → FirstOp

unfoldable pub set_of : First → FirstOp
set_of none = bad
set_of cut = bad
set_of (one t h v rest) = operation (set (content t v)) rest

unfoldable pub removal_of : List ℕ → FirstOp
removal_of [] = bad
removal_of (t ∷ rest) = operation (remove t) rest

unfoldable pub first_op : List ℕ → FirstOp
first_op [] = nothing
first_op (m ∷ []) = bad
first_op (m ∷ k ∷ rest) =
    pick (eqb m 83 && eqb k 69) (set_of (first rest)) (pick (eqb m 82 && eqb k 77) (removal_of rest) bad)

-- an operation and the place of its mark in the list
pub record OpAt : Type 0 where
  pub place : ℕ
  pub op : Op

abbrev pub op_at : (place : ℕ) → Op → OpAt
op_at p o = record { place = p; op = o }

pub record Listed : Type 0 where
  pub ops : List OpAt
  pub stop : Stop

abbrev pub ends_with : Stop → Listed
ends_with x = record { ops = []; stop = x }

abbrev pub after : OpAt → Listed → Listed
after o l = record { ops = o ∷ l.ops; stop = l.stop }

-- what stands first of the bytes s at the place at, and then what `next` finds at the place after it
unfoldable pub op_step : (at : ℕ) → List ℕ → FirstOp → (ℕ → List ℕ → Listed) → Listed
op_step at s nothing next = ends_with clean
op_step at s bad next = ends_with (cut_at at)
op_step at s (operation o rest) next = after (op_at at o) (next (at + (length s - length rest)) rest)

-- the operations of bytes that begin at the place at, in at most `fuel` steps
unfoldable pub ops_in : (fuel at : ℕ) → List ℕ → Listed
ops_in zero at s = ends_with clean
ops_in (suc k) at s = op_step at s (first_op s) (λ (next : ℕ) (rest : List ℕ). ops_in k next rest)

-- the operations of s. Each takes at least 3 bytes, so that a step for each byte is enough (`ops_step`, proofs/Reading.antt)
unfoldable pub ops_of : List ℕ → Listed
ops_of s = ops_in (length s) 0 s

abbrev pub place_of_next_op : (most : ℕ) → List OpAt → ℕ
place_of_next_op most os = (get_or os most (op_at 0 (remove 0))).place

-- the operations, without their places
unfoldable pub bare : List OpAt → List Op
bare [] = []
bare (o ∷ os) = o.op ∷ bare os

-- operations as they are written
unfoldable pub encode_op : Op → List ℕ
encode_op (set c) = 83 ∷ 69 ∷ encode c.ty c.value
encode_op (remove t) = 82 ∷ 77 ∷ t ∷ []

unfoldable pub encode_ops : List Op → List ℕ
encode_ops [] = []
encode_ops (o ∷ os) = encode_op o ++ encode_ops os

unfoldable pub limited_ops : (most input : ℕ) → Stop → List OpAt → Answer (List OpAt)
limited_ops most i (cut_at p) os = refused 9 p i
limited_ops most i clean os = pick (ltb most (length os)) (refused 3 (place_of_next_op most os) i) (given os)

-- "Lists are tested 1, 9, 3", where so many bytes and operations are the most
abbrev pub operations_within : (bytes most input : ℕ) → List ℕ → Answer (List OpAt)
operations_within bytes most i s = pick (ltb bytes (length s)) (refused 1 0 i) (limited_ops most i (ops_of s).stop (ops_of s).ops)

-- within today's sizes
unfoldable pub operations : (input : ℕ) → List ℕ → Answer (List OpAt)
operations i s = operations_within most_bytes most_entries i s
