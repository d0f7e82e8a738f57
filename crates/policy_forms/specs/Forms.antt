-- The security policy in its two forms. Document 02, Nine: "Thread 1.1 sites store the security policy in three bytes: rotation and a single flag byte.
-- Later versions use four. Add a reading mode for each, chosen by name".
-- Assumes nothing.
use Rattle.std.specs.Prelude.{ℕ, ◌-◌, List, ◌++◌, take, drop, Result, Ok, Err, Option, Some, None}
use Rattle.refusal.specs.Answer.{Answer, then_do, on_given}
use Rattle.wire_bytes.specs.Bytes.{bytes_of}
use Rattle.wire.specs.Be.{be, ruled}
use Rattle.tlv.specs.Entries.{Entry}
use Rattle.tlv_last.specs.Last.{last_entry}
use Rattle.policy_flags.specs.Threshold.{threshold, with_threshold}
use Rattle.policy_flags.specs.declared.ThreadProtocolVersion.{ThreadProtocolVersion}
use Rattle.values.specs.declared.SecurityPolicy.{SecurityPolicy}
use Rattle.policy_forms.specs.declared.PolicyForm.{PolicyForm}
use Rattle.policy_forms.specs.declared.PolicyForm.TheVariants as f
use Rattle.policy_forms.specs.declared.EitherPolicy.{EitherPolicy}
use Rattle.policy_forms.specs.declared.EitherPolicy.TheVariants as p

-- how many bytes a policy of each form has
abbrev pub size_in : PolicyForm → ℕ
size_in f.ThreeBytes = 3
size_in f.FourBytes = 4

-- a policy by its numbers, in either form: how many bytes it has, the rotation time, which is the first two, and the flags, which are the others
pub record Numbers : Type 0 where
  pub size : ℕ
  pub rotation : ℕ
  pub flags : ℕ

abbrev pub numbers : (size rotation flags : ℕ) → Numbers
numbers k r f = record { size = k; rotation = r; flags = f }

-- the numbers of each case of the code's type
abbrev pub four_numbers : SecurityPolicy → Numbers
four_numbers x = numbers 4 x.rotation_time x.flags.0

abbrev pub numbers_of : EitherPolicy → Numbers
numbers_of (p.Three x) = numbers 3 x.rotation_time x.flags
numbers_of (p.Four x) = four_numbers x

-- what a value of k bytes spells
abbrev pub numbers_in : (size : ℕ) → List ℕ → Numbers
numbers_in k v = numbers k (be (take 2 v)) (be (drop 2 v))

-- read in the form of k bytes: "Refusals: 4 for a length that isn't the named mode's"
unfoldable pub read : (size place : ℕ) → List ℕ → Answer Numbers
read k place v = on_given (numbers_in k) (ruled k place v)

-- "A value is written back in the form it was read in."
unfoldable pub stored_bytes : Numbers → List ℕ
stored_bytes n = bytes_of 2 n.rotation ++ bytes_of (n.size - 2) n.flags

-- of a dataset: "A query uses the last entry of its type" (document 01), which is 12
unfoldable pub query : (size : ℕ) → List ℕ → Answer Numbers
query k s = then_do (last_entry 12 0 s) (λ (e : Entry). read k e.place e.value)

-- "In the three-byte mode the flag byte is kept raw and the threshold answers "none stated" and can't be set: a call to set it answers "none stated"
-- too and hands the value back unchanged." In the four-byte mode both are document 01's.
abbrev pub threshold_in : EitherPolicy → Option ThreadProtocolVersion
threshold_in (p.Three x) = None
threshold_in (p.Four x) = Some (threshold x.flags.0)

abbrev pub set_four : SecurityPolicy → ThreadProtocolVersion → SecurityPolicy
set_four x v = record { rotation_time = x.rotation_time; flags = record { 0 = with_threshold x.flags.0 v } }

abbrev pub set_in : EitherPolicy → ThreadProtocolVersion → Result EitherPolicy EitherPolicy
set_in (p.Three x) v = Err (p.Three x)
set_in (p.Four x) v = Ok (p.Four (set_four x v))
