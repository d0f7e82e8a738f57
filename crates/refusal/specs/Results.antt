-- The code's answers on paper: what is given, or the number, place and input of the refusal; and `None`, where nothing is found, is "absent".
-- Assumes nothing.
use Rattle.std.specs.Prelude.{Result, Ok, Err, Option, Some, None}
use Rattle.refusal.specs.Answer.{Answer, given, absent}
use Rattle.refusal.specs.Number.{refusal_answer}
use Rattle.refusal.specs.declared.Refusal.{Refusal}

abbrev pub answer_of : {A : Type 0} → Result A Refusal → Answer A
answer_of (Ok x) = given x
answer_of (Err r) = refusal_answer r

-- what may be missing
abbrev pub option_of : {A : Type 0} → Option A → Answer A
option_of (Some x) = given x
option_of None = absent

abbrev pub found_of : {A : Type 0} → Result (Option A) Refusal → Answer A
found_of (Ok x) = option_of x
found_of (Err r) = refusal_answer r
