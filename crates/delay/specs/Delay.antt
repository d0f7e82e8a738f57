-- Document 01: "Working delay: the delay timer, or 30,000 ms where absent. Due second: now, in seconds, plus the working delay over 1,000,
-- rounded up." Document 02, request Four: "The working delay for a dataset without a delay timer becomes 300,000 ms. [..] the college handset
-- that must still give 30,000 asks for it by name."
-- Assumes nothing.
use Rattle.std.specs.Prelude.{ℕ, ◌+◌, ◌-◌, ◌/◌, ◌^◌, List, ltb}
use Rattle.refusal.specs.Answer.{pick, Answer, given, absent, refused, then_do}
use Rattle.wire.specs.Be.{be}
use Rattle.dataset.specs.Queries.{query}

-- "300,000 ms"
abbrev pub default_delay : ℕ
default_delay = 300000

-- "must still give 30,000"
abbrev pub half_minute : ℕ
half_minute = 30000

-- 14: ""now" above 2^48 - 1"
abbrev pub most_now : ℕ
most_now = 2 ^ 48 - 1

-- what is given, or x where that is absent; a refusal stays as it is
abbrev pub or_else : {A : Type 0} → A → Answer A → Answer A
or_else x (given a) = given a
or_else x absent = given x
or_else x (refused n p i) = refused n p i

-- the delay timer, which is the dataset's entry of type 52, or the default where there is none
unfoldable pub delay_or : (default : ℕ) → List ℕ → Answer ℕ
delay_or d s = or_else d (query 52 be s)

-- milliseconds in seconds, "rounded up"
abbrev pub seconds : ℕ → ℕ
seconds ms = (ms + 999) / 1000

-- the refusals of the delay, then 14
unfoldable pub due_or : (default : ℕ) → List ℕ → (clock : ℕ) → Answer ℕ
due_or d s clock = then_do (delay_or d s) (λ (ms : ℕ). pick (ltb most_now clock) (refused 14 0 0) (given (clock + seconds ms)))

-- the two defaults, each by its name
abbrev pub working_delay : List ℕ → Answer ℕ
working_delay s = delay_or default_delay s

abbrev pub working_delay_half_minute : List ℕ → Answer ℕ
working_delay_half_minute s = delay_or half_minute s

abbrev pub due_second : List ℕ → (clock : ℕ) → Answer ℕ
due_second s clock = due_or default_delay s clock

abbrev pub due_second_half_minute : List ℕ → (clock : ℕ) → Answer ℕ
due_second_half_minute s clock = due_or half_minute s clock
