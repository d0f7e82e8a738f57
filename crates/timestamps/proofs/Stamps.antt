-- What the read of a timestamp cites: a timestamp is the number that its bytes spell.
-- Assumes nothing.
use mathlib.Core.Path.{◌≡◌}
use mathlib.Core.List.{List}
use Prim.Native.Nat.{ℕ}
use Rattle.refusal.specs.Answer.{on_given}
use Rattle.laws.proofs.Answers.{on_on}
use Rattle.wire.specs.Be.{be, ruled, fixed}
use Rattle.timestamps.specs.Timestamps.{timestamp_of}
use Rattle.timestamps.specs.declared.Timestamp.{Timestamp}

abbrev pub stamp : ℕ → Timestamp
stamp x = record { 0 = x }

pub stamped : (place : ℕ) (v : List ℕ) → on_given stamp (fixed 8 place v) ≡ on_given timestamp_of (ruled 8 place v)
unfolding fixed
stamped place v = on_on stamp be (ruled 8 place v)
