-- That a value may be read, with nothing said of what it is.
-- Assumes nothing.
use Rattle.std.specs.Prelude.{ℕ, List}
use Rattle.refusal.specs.Answer.{Answer, on_given}

abbrev pub judged : Answer (List ℕ) → Answer (Unit {0})
judged a = on_given (λ (v : List ℕ). tt) a
