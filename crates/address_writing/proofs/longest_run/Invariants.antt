-- `address_writing::longest_run` meets its contract. The invariant: the zeros and the longest run of the groups from k on.
use mathlib.Core.Path.{◌≡◌}
use Prim.Native.Nat.{◌*◌}
use lib.ListN.{drop}
use Rattle.address_forms.specs.Groups.{groups}
use Rattle.address_forms.specs.AddressText.{zeros_in_front, longest_from}
use Rattle.address_writing.proofs.longest_run.Given as goal

abbrev pub invariant-loop-k : goal.invariant-loop-k
invariant-loop-k l = (l.zeros ≡ zeros_in_front (groups (drop (2 * l.k) l.bytes))) × (l.best ≡ longest_from l.k (groups (drop (2 * l.k) l.bytes)))
