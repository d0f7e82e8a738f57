-- `policy_flags::SecurityPolicyFlags::contains` meets its contract: it asks what `has_all` asks. Assumes nothing.
use mathlib.Core.Path.{refl}
use Rattle.policy_flags.proofs.SecurityPolicyFlags.contains.Goals as goal

pub returns : goal.returns
returns c = refl
