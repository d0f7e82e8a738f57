-- From what `check` says of a value to what is answered.
-- Assumes nothing.
use mathlib.Core.Path.{◌≡◌, ap}
use mathlib.Core.List.{List}
use Prim.Native.Nat.{ℕ}
use native.Mathlib.Omega.{arith}
use Rattle.refusal.specs.Answer.{Answer, given, absent, refused, on_given}
use Rattle.network_data.specs.Decode.{Prefix, counts_of}
use Rattle.network_data.specs.declared.Counts.{Counts}
use Rattle.network_plans.specs.Planned.{room_for, answered}

module _ (p h b : ℕ) where
  pub answered_given : (d : Answer (List Prefix)) (c : Counts) → given c ≡ on_given counts_of d → room_for c p h b ≡ answered d p h b
  unfolding answered
  answered_given (given ps) c e = let x : c ≡ counts_of ps = cc in ap (λ (y : Counts). room_for y p h b) x
  answered_given absent c e = absurd (let z : ◌≡◌ {A = ℕ} 0 1 = cc in omega arith)
  answered_given (refused n q i) c e = absurd (let z : ◌≡◌ {A = ℕ} 0 1 = cc in omega arith)

  pub answered_refused : (d : Answer (List Prefix)) (n q i : ℕ) → refused n q i ≡ on_given counts_of d → refused n q i ≡ answered d p h b
  unfolding answered
  answered_refused (given ps) n q i e = absurd (let z : ◌≡◌ {A = ℕ} 0 1 = cc in omega arith)
  answered_refused absent n q i e = absurd (let z : ◌≡◌ {A = ℕ} 0 1 = cc in omega arith)
  answered_refused (refused m r j) n q i e = cc
