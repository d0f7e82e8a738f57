-- Worked lines of a security policy in either form, computed from the definitions.
-- Assumes nothing.
use mathlib.Core.Path.{◌≡◌, refl}
use mathlib.Core.List.{List, [], ◌∷◌}
use Prim.Native.Nat.{ℕ}
use Rattle.std.specs.Prelude.{Option, Some, None, Result, Ok, Err}
use Rattle.refusal.specs.Answer.{Answer, given, absent, refused}
use Rattle.refusal.specs.Every.{Every}
use Rattle.wire_bytes.specs.Bytes.{bytes_of}
use Rattle.wire.specs.Be.{be_from, be, wrong_length, ruled}
use Rattle.tlv.specs.Entries.{valued, long, first, step, frames, framing}
use Rattle.tlv.specs.Limits.{limited, framed}
use Rattle.tlv_last.specs.Last.{last_of, last_entry}
use Rattle.policy_flags.specs.Threshold.{version_of, threshold, with_threshold}
use Rattle.policy_flags.specs.declared.ThreadProtocolVersion.{ThreadProtocolVersion}
use Rattle.policy_flags.specs.declared.ThreadProtocolVersion.TheVariants as v
use Rattle.policy_forms.specs.Forms.{Numbers, numbers, numbers_of, read, stored_bytes, query, threshold_in, set_in}
use Rattle.policy_forms.proofs.Thresholds.{policy_after}
use Rattle.policy_forms.specs.declared.EitherPolicy.{EitherPolicy}
use Rattle.policy_forms.specs.declared.EitherPolicy.TheVariants as p

-- ---- read in the form of so many bytes: an answer, and what it must be
abbrev pub Line : Type 0
Line = Answer Numbers × Answer Numbers

abbrev pub lines : List Line
lines =
    -- a value of each form in its own mode, and in the other; the flag byte stays as it is
    (read 3 0 (0x02 ∷ 0xa0 ∷ 0xf8 ∷ []), given (numbers 3 672 248))
    ∷ (read 4 0 (0x02 ∷ 0xa0 ∷ 0xf8 ∷ 0x00 ∷ []), given (numbers 4 672 63488))
    ∷ (read 3 0 (0x02 ∷ 0xa0 ∷ 0xf8 ∷ 0x00 ∷ []), refused 4 0 0)
    ∷ (read 4 0 (0x02 ∷ 0xa0 ∷ 0xf8 ∷ []), refused 4 0 0)
    -- of a dataset: the last entry counts, and a wrong length is told at its first byte, under a long header too
    ∷ (query 3 (0x0c ∷ 0x00 ∷ 0x0c ∷ 0x03 ∷ 0x02 ∷ 0xa0 ∷ 0x04 ∷ []), given (numbers 3 672 4))
    ∷ (query 4 (0x0c ∷ 0x00 ∷ 0x0c ∷ 0xff ∷ 0x00 ∷ 0x03 ∷ 0x02 ∷ 0xa0 ∷ 0x04 ∷ []), refused 4 2 0)
    ∷ (query 3 (0x00 ∷ 0x00 ∷ []), absent)
    -- the dataset's faults come before the value's
    ∷ (query 3 (0x0c ∷ 0x00 ∷ 0x03 ∷ []), refused 2 2 0)
    ∷ []

pub worked : Every (λ (l : Line). l.0 ≡ l.1) lines
unfolding query read ruled wrong_length be be_from last_entry last_of framed limited framing frames step first long valued
worked = (refl, (refl, (refl, (refl, (refl, (refl, (refl, (refl, tt))))))))

-- ---- a policy, what it states, what setting a version of it hands back, and the bytes that are then written
pub record Setting : Type 0 where
  pub policy : EitherPolicy
  pub states : Option ThreadProtocolVersion
  pub version : ThreadProtocolVersion
  pub set : Result EitherPolicy EitherPolicy
  pub written : List ℕ

abbrev three : (rotation flags : ℕ) → EitherPolicy
three r f = p.Three (record { rotation_time = r; flags = f })

abbrev four : (rotation flags : ℕ) → EitherPolicy
four r f = p.Four (record { rotation_time = r; flags = record { 0 = f } })

abbrev pub settings : List Setting
settings =
    -- 4, which as 16 flags is `V1Or2`, states nothing as a flag byte, and stays
    record {
      policy = three 672 0x04;
      states = None;
      version = v.V5;
      set = Err (three 672 0x04);
      written = 0x02 ∷ 0xa0 ∷ 0x04 ∷ [];
    }
    ∷ record {
      policy = four 672 0x0004;
      states = Some v.V1Or2;
      version = v.V5;
      set = Ok (four 672 0x4000);
      written = 0x02 ∷ 0xa0 ∷ 0x40 ∷ 0x00 ∷ [];
    }
    ∷ []

pub set : Every
    (λ (l : Setting). (threshold_in l.policy ≡ l.states) × (set_in l.policy l.version ≡ l.set) × (stored_bytes (numbers_of (policy_after l.set)) ≡ l.written))
    settings
unfolding threshold version_of with_threshold stored_bytes bytes_of
set = ((refl, refl, refl), ((refl, refl, refl), tt))
