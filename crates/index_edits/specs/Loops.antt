-- What the private functions promise: no public contract cites it.
-- Assumes nothing.
use Rattle.std.specs.Prelude.{ℕ, ◌≤◌, List, length, take}
use Rattle.refusal.specs.Answer.{Answer, given, absent, refused}
use Rattle.refusal.specs.Output.{emit}
use Rattle.dataset_index.specs.Index.{built}

-- 11 where an edit could be written, and its own refusal where it could not
abbrev pub no_room_for : Answer ℕ → Answer ℕ
no_room_for (given n) = refused 11 0 0
no_room_for absent = absent
no_room_for (refused n p i) = refused n p i

-- what was written lies within out
abbrev pub Lies : Answer ℕ → (out : List ℕ) → Type 0
Lies (given n) out = n ≤ length out
Lies absent out = Unit {0}
Lies (refused n p i) out = Unit {0}

-- the index of what was written to out, in ix
abbrev pub indexed : Answer ℕ → (out ix : List ℕ) → List ℕ
indexed (given n) out ix = (emit (built (take n out)) ix).left
indexed absent out ix = ix
indexed (refused n p i) out ix = ix
