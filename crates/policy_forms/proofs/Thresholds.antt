-- The threshold of a policy of either form: where none is stated, as in three bytes, setting one changes nothing; where one is stated, the version that was set is
-- the one that is read. Either way the form stays, and the rotation time, and what is written then is read back.
-- Assumes nothing.
use mathlib.Core.Path.{◌≡◌, refl, ap, ◌∙◌}
use mathlib.Core.List.{List}
use Prim.Native.Nat.{ℕ}
use native.Mathlib.Omega.{arith}
use lib.ListN.{take}
use Rattle.std.specs.Prelude.{Ok, Err, Result, Option, Some, None}
use Rattle.refusal.specs.Answer.{given, on_given}
use Rattle.refusal.specs.Every.{Bytes}
use Rattle.refusal.specs.Output.{output, emit}
use Rattle.refusal.specs.declared.Refusal.{Refusal}
use Rattle.wire.specs.Be.{ruled}
use Rattle.policy_flags.specs.Threshold.{threshold}
use Rattle.policy_flags.specs.declared.ThreadProtocolVersion.{ThreadProtocolVersion}
use Rattle.policy_flags.proofs.Thresholds.{set_reads, set_fits}
use Rattle.values.specs.Typed.{policy_of}
use Rattle.values.specs.declared.SecurityPolicy.{SecurityPolicy}
use Rattle.policy_forms.specs.Forms.{size_in, numbers_of, read, stored_bytes, threshold_in, set_four, set_in}
use Rattle.policy_forms.specs.declared.PolicyForm.{PolicyForm}
use Rattle.policy_forms.specs.declared.PolicyForm.TheVariants as f
use Rattle.policy_forms.specs.declared.EitherPolicy.{EitherPolicy}
use Rattle.policy_forms.specs.declared.EitherPolicy.TheVariants as p
use Rattle.policy_forms.proofs.Papers.{either_answer}
use Rattle.policy_forms.proofs.Modes.{parse_as_base}
use Rattle.policy_forms.proofs.Round.{Fit, parse_back, parsed_size, parsed_fits}

-- the policy that a call to set the threshold hands back, and what reading the threshold of that has to answer
abbrev pub policy_after : Result EitherPolicy EitherPolicy → EitherPolicy
policy_after (Ok x) = x
policy_after (Err x) = x

abbrev pub stated_after : Result EitherPolicy EitherPolicy → ThreadProtocolVersion → Option ThreadProtocolVersion
stated_after (Ok x) v = Some v
stated_after (Err x) v = None

pub set_then_read : (x : EitherPolicy) (v : ThreadProtocolVersion) → threshold_in (policy_after (set_in x v)) ≡ stated_after (set_in x v) v
set_then_read (p.Three x) v = refl
set_then_read (p.Four x) v = ap Some (set_reads x.flags.0 v)

-- "a call to set it answers "none stated" too and hands the value back unchanged": wherever none is stated, and nowhere else
pub none_set : (x : EitherPolicy) (v : ThreadProtocolVersion) → threshold_in x ≡ None → set_in x v ≡ Err x
none_set (p.Three x) v e = refl
none_set (p.Four x) v e = absurd (let z : ◌≡◌ {A = ℕ} 0 1 = cc in omega arith)

pub only_none : (x y : EitherPolicy) (v : ThreadProtocolVersion) → set_in x v ≡ Err y → (threshold_in x ≡ None) × (y ≡ x)
only_none (p.Three x) y v e = (refl, cc)
only_none (p.Four x) y v e = absurd (let z : ◌≡◌ {A = ℕ} 0 1 = cc in omega arith)

pub set_stays : (x : EitherPolicy) (v : ThreadProtocolVersion)
    → ((numbers_of (policy_after (set_in x v))).size ≡ (numbers_of x).size) × ((numbers_of (policy_after (set_in x v))).rotation ≡ (numbers_of x).rotation)
set_stays (p.Three x) v = (refl, refl)
set_stays (p.Four x) v = (refl, refl)

set_fit : (x : EitherPolicy) (v : ThreadProtocolVersion) → Fit (numbers_of x) → Fit (numbers_of (policy_after (set_in x v)))
set_fit (p.Three x) v fit = fit
set_fit (p.Four x) v fit = (fit.0, set_fits x.flags.0 v fit.1)

-- A value is read in a form, its threshold is set, and of what that hands back n bytes are written: `parse`, in the same form and told any place, answers of these
-- what was handed back.
pub set_back : (form : PolicyForm) (place again : ℕ) (bytes : List ℕ) (x : EitherPolicy) → Bytes bytes → either_answer (Ok x) ≡ read (size_in form) place bytes
    → (v : ThreadProtocolVersion) (out left : List ℕ) (n : ℕ) (a : Result EitherPolicy Refusal)
    → output (given n) left ≡ emit (given (stored_bytes (numbers_of (policy_after (set_in x v))))) out → either_answer a ≡ read (size_in form) again (take n left)
    → a ≡ Ok (policy_after (set_in x v))
set_back form place again bytes x b says v out left n a =
    parse_back form again (policy_after (set_in x v)) out left n a ((set_stays x v).0 ∙ parsed_size form place bytes x says)
    (set_fit x v (parsed_fits form place bytes x says b))

-- ---- by the mode in which a value was read

module _ (place : ℕ) (bytes : List ℕ) (x : EitherPolicy) where
  -- three bytes: "the threshold answers "none stated" and can't be set"
  pub three_states_none : either_answer (Ok x) ≡ read 3 place bytes
      → (threshold_in x ≡ None) × ((v : ThreadProtocolVersion) → set_in x v ≡ Err x)
  three_states_none says = of x (parsed_size f.ThreeBytes place bytes x says)
    where
      of : (y : EitherPolicy) → (numbers_of y).size ≡ 3 → (threshold_in y ≡ None) × ((v : ThreadProtocolVersion) → set_in y v ≡ Err y)
      of (p.Three y) e = (refl, λ v. refl)
      of (p.Four y) e = absurd (omega arith)

  -- four bytes, of which document 01's call answers y: its threshold, and its setting
  pub four_as_base : (y : SecurityPolicy) → either_answer (Ok x) ≡ read 4 place bytes → given y ≡ on_given policy_of (ruled 4 place bytes)
      → (x ≡ p.Four y) × (threshold_in x ≡ Some (threshold y.flags.0)) × ((v : ThreadProtocolVersion) → set_in x v ≡ Ok (p.Four (set_four y v)))
  four_as_base y says base =
      let same = parse_as_base place bytes (Ok x) (Ok y) says base in
      let is : x ≡ p.Four y = cc in
      (is, rw is, λ v. rw is)
