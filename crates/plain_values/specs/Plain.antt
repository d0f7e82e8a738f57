-- Values that are plain bytes: what is a network name, and what a value of any length.
-- Assumes nothing.
use Rattle.std.specs.Prelude.{ℕ, List, length, ltb}
use Rattle.refusal.specs.Sizes.{most_bytes}
use Rattle.refusal.specs.Answer.{pick, Answer, given, refused, then_do, on_given}
use Rattle.utf8.specs.Utf8.{octets}

abbrev pub checked : {A : Type 0} → Answer A → Answer (Unit {0})
checked {A} a = on_given (λ (x : A). tt) a

-- a value of any length, within the size
unfoldable pub sized_value : List ℕ → Answer (List ℕ)
sized_value v = pick (ltb most_bytes (length v)) (refused 1 0 0) (given v)

-- a network name: "valid UTF-8, empty allowed", else 6 at the place of its entry
unfoldable pub name_at : (place : ℕ) → List ℕ → Answer (List ℕ)
name_at place v = then_do (sized_value v) (λ (w : List ℕ). pick (octets w) (given w) (refused 6 place 0))
