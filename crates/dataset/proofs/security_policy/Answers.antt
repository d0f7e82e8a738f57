-- `dataset::security_policy` meets its contract, by what its reader promises.
use mathlib.Core.Path.{refl}
use Rattle.values.specs.Typed.{policy_of}
use Rattle.dataset.proofs.Finds.{query_reads}
use Rattle.dataset.proofs.security_policy.Goals as goal

pub returns : goal.returns
returns c = query_reads _ policy_of 4 (λ v p q h. h) _ 12 _ refl c.last_read.ensures
