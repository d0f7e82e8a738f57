-- The first entry by itself, as the answer of a call, and how a count ends.
-- Assumes nothing.
use Rattle.std.specs.Prelude.{ℕ, ◌-◌, length, ltb, Option, Some, None}
use Rattle.refusal.specs.Sizes.{most_entries}
use Rattle.refusal.specs.Answer.{pick, Answer, given, refused}
use Rattle.refusal.specs.Number.{fault_number}
use Rattle.refusal.specs.declared.Fault.{Fault}
use Rattle.tlv.specs.Entries.{First, none, cut, one, Entry}
pub use Rattle.tlv.specs.declared.Head.{Head}

abbrev pub head : (ty header len : ℕ) → Head
head t h n = record { ty = t; header = h; len = n }

-- the header of an entry, which lies between its first byte and its value's
abbrev pub header_of : Entry → Head
header_of e = head e.ty (e.start - e.place) (length e.value)

-- "Fewer than 2 bytes ... is refusal 2": where nothing stands there too
unfoldable pub head_of : First → Answer Head
head_of none = refused 2 0 0
head_of cut = refused 2 0 0
head_of (one t h v rest) = given (head t h (length v))

-- what a walk over entries or operations answers where it ends, n of them passed: the fault that stopped it, at its place, and else 3 at the place of the first
-- past the most ("2 over the whole input, 3", "9 over the whole list ... then 3")
abbrev pub ended : Option Fault → (at n over input : ℕ) → Answer ℕ
ended (Some f) at n over i = refused (fault_number f) at i
ended None at n over i = pick (ltb most_entries n) (refused 3 over i) (given n)
