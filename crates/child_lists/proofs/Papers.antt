-- The meaning of the code's answer tells them apart: the contract of `child_list` leaves one list, its place included, and one refusal.
-- Assumes nothing.
use mathlib.Core.Path.{refl}
use mathlib.Core.List.{List}
use Prim.Native.Nat.{ℕ}
use Rattle.std.specs.Prelude.{Result, Option}
use Rattle.refusal.specs.Answer.{on_given}
use Rattle.refusal.specs.Results.{found_of}
use Rattle.refusal.specs.declared.Refusal.{Refusal}
use Rattle.refusal.proofs.Papers.{Tells, found_paper_tells}
use Rattle.diag_rows.specs.declared.ChildIpv6AddrInfo.{ChildIpv6AddrInfo}
use Rattle.diag_entries.specs.Lists.{AddressList}
use Rattle.child_lists.specs.Answers.{list_paper}

abbrev list_from : AddressList → ChildIpv6AddrInfo
list_from v = record { rloc16 = v.rloc16; child_id = v.child_id; start = v.addresses.start; len = v.addresses.len }

pub child_list_tells : (s : List ℕ) → Tells (λ (x : Result (Option ChildIpv6AddrInfo) Refusal). on_given (list_paper s) (found_of x))
child_list_tells s = found_paper_tells (list_paper s) list_from (λ x. refl)
