-- What request Four changed: the calls by the old number give what document 01's gave, and the two defaults differ only where there is no timer.
-- Assumes nothing.
use mathlib.Core.Path.{◌≡◌, refl, ap}
use mathlib.Core.List.{List}
use Prim.Native.Nat.{ℕ, ◌+◌, ◌-◌, ◌/◌, ◌^◌, ◌≤◌}
use lib.Dec.{ltb}
use borrow.Author.Tests.{le-ltb, ltb-false}
use Rattle.refusal.specs.Answer.{pick, Answer, given, absent, refused, then_do}
use Rattle.laws.proofs.Tests.{by_test}
use Rattle.wire.specs.Be.{be}
use Rattle.dataset.specs.Queries.{query}
use Rattle.delay.specs.Delay.{most_now, or_else, delay_or, seconds, due_or, working_delay, working_delay_half_minute, due_second, due_second_half_minute}

-- Document 01: "Working delay: the delay timer, or 30,000 ms where absent. Due second: now, in seconds, plus the working delay over 1,000, rounded up"; and its 14
abbrev pub delay01 : List ℕ → Answer ℕ
delay01 s = or_else 30000 (query 52 be s)

abbrev pub due01 : List ℕ → (clock : ℕ) → Answer ℕ
due01 s clock =
    then_do (delay01 s) (λ (ms : ℕ). pick (ltb (2 ^ 48 - 1) clock) (refused 14 0 0) (given (clock + (ms + 999) / 1000)))

module _ (s : List ℕ) where
  pub as_01_gave : working_delay_half_minute s ≡ delay01 s
  unfolding delay_or
  as_01_gave = refl

  pub due_as_01_gave : (clock : ℕ) → due_second_half_minute s clock ≡ due01 s clock
  unfolding due_or delay_or
  due_as_01_gave clock = refl

-- any two defaults
same_else : (d e : ℕ) (a : Answer ℕ) → (a ≡ absent → ⊥) → or_else d a ≡ or_else e a
same_else d e (given x) h = refl
same_else d e absent h = absurd (h refl)
same_else d e (refused n p i) h = refl

abbrev too_late : ℕ → Answer ℕ
too_late ms = refused 14 0 0

refused_all : (d e : ℕ) (a : Answer ℕ) → then_do (or_else d a) too_late ≡ then_do (or_else e a) too_late
refused_all d e (given x) = refl
refused_all d e absent = refl
refused_all d e (refused n p i) = refl

-- the due second by its delay
abbrev due_at : (clock ms : ℕ) → Answer ℕ
due_at clock ms = pick (ltb most_now clock) (refused 14 0 0) (given (clock + seconds ms))

module _ (s : List ℕ) where
  -- where the query of the delay timer gives or refuses, the default plays no part,
  pub with_timer : (query 52 be s ≡ absent → ⊥) → (d e : ℕ) → delay_or d s ≡ delay_or e s
  unfolding delay_or
  with_timer h d e = same_else d e (query 52 be s) h

  module _ (none : query 52 be s ≡ absent) where
    -- and where there is no timer it is the answer
    pub no_timer : (working_delay s ≡ given 300000) × (working_delay_half_minute s ≡ given 30000)
    unfolding delay_or
    no_timer = (rw none, rw none)

    pub due_no_timer : (clock : ℕ) → clock ≤ most_now → (due_second s clock ≡ given (clock + 300)) × (due_second_half_minute s clock ≡ given (clock + 30))
    unfolding due_or delay_or
    due_no_timer clock early = (rw (none, le-ltb most_now clock early), rw (none, le-ltb most_now clock early))

  -- the due second: likewise, but that a "now" that is too late is refused by both
  pub due_same : (clock : ℕ) → (query 52 be s ≡ absent → clock ≤ most_now → ⊥) → (d e : ℕ) → due_or d s clock ≡ due_or e s clock
  unfolding due_or delay_or
  due_same clock h d e =
      by_test (ltb most_now clock)
      (λ late. rw late (refused_all d e (query 52 be s)))
      (λ early. ap (λ (a : Answer ℕ). then_do a (due_at clock)) (same_else d e (query 52 be s) (λ none. h none (ltb-false most_now clock early))))
