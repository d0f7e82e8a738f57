-- What stands in a part of a value, and what the code's answers say of it, with document 01's number: "5: a ... Network Data TLV or prefix is cut short". A
-- function on one value reports place 0.
-- Assumes nothing.
use Rattle.std.specs.Prelude.{ℕ, ◌+◌, ◌-◌, List, length, take, drop, ltb, leb, Option, Some, None}
use Rattle.refusal.specs.Answer.{pick, Answer, given, absent, refused}
use Rattle.network_framing.specs.Tlvs.{First, none, cut, one, first, Opening, broken, opening, opened, Piece, piece, Walk, clean, short, done, frames}
use Rattle.network_framing.specs.declared.SubTlv.{SubTlv}
use Rattle.network_framing.specs.declared.SubTlv.TheVariants.{Item, Cut, End}

-- the bytes of s from the place at to the place end
abbrev pub part : List ℕ → (at end : ℕ) → List ℕ
part s at end = take (end - at) (drop at s)

-- x where no byte is to be read, y where s ends before the place end, z where all bytes are there
abbrev pub among : {A : Type 0} → List ℕ → (at end : ℕ) → (x y z : A) → A
among s at end x y z = pick (leb end at) x (pick (ltb (length s) end) y z)

unfoldable pub sub_of : (at : ℕ) → First → Answer Piece
sub_of at none = absent
sub_of at cut = refused 5 0 0
sub_of at (one t v rest) = given (piece t (at + 2) (length v))

-- the TLV at the place at, where what is read ends at the place end
unfoldable pub sub_in : List ℕ → (at end : ℕ) → Answer Piece
sub_in s at end = among s at end absent (refused 5 0 0) (sub_of at (first (part s at end)))

unfoldable pub inner_of : (start : ℕ) → Opening → Answer ℕ
inner_of start broken = refused 5 0 0
inner_of start (opening d b bytes rest) = given (start + (2 + length bytes))

-- where the inner TLVs of a prefix begin, whose value stands from start to end
unfoldable pub head_at : List ℕ → (start end : ℕ) → Answer ℕ
head_at s start end = among s start end (refused 5 0 0) (refused 5 0 0) (inner_of start (opened (part s start end)))

-- the TLVs from the place at to the place end, in wire order
unfoldable pub walk_in : List ℕ → (at end : ℕ) → Walk
walk_in s at end = among s at end (done clean) (done short) (frames (end - at) at (part s at end))

-- ---- the code's answers, on paper

abbrev pub sub_answer : SubTlv → Answer Piece
sub_answer (Item t a n) = given (piece t a n)
sub_answer Cut = refused 5 0 0
sub_answer End = absent

abbrev pub head_answer : Option ℕ → Answer ℕ
head_answer (Some at) = given at
head_answer None = refused 5 0 0
