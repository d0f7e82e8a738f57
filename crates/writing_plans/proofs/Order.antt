-- The plan by its tests in their order, as one function makes them.
-- Assumes nothing.
use mathlib.Core.Path.{◌≡◌, refl}
use mathlib.Core.Bool.{Bool, true, false, not}
use Prim.Native.Nat.{ℕ, ◌+◌, ◌≤◌}
use lib.Dec.{leb}
use Rattle.refusal.specs.Sizes.{most_bytes, most_entries}
use Rattle.refusal.specs.Answer.{pick}
use Rattle.route64.specs.declared.Route64.{Route64}
use Rattle.diag.specs.declared.NetDiagData.{NetDiagData}
use Rattle.record_writing.specs.Fits.{passes}
use Rattle.record_writing.specs.Lent.{opt_counts}
use Rattle.record_writing.specs.Written.{counts_fit}
use Rattle.writing_walks.specs.declared.Prefixes.{Prefixes}
use Rattle.writing_walks.specs.declared.Lists.{Lists}
use Rattle.writing_walks.specs.declared.Used.{Used}
use Rattle.writing_plans.specs.Tests.{lengths_by, fits_by}
use Rattle.writing_plans.specs.Sizes.{fixed_count, total_size}
use Rattle.writing_plans.specs.Plans.{Planning, stopped, placed_by, sized_by, plan_by}
use Rattle.writing_plans.proofs.Picks.{pick_both}

pick_not : (b : Bool) (x y : Planning) → pick (not b) y x ≡ pick b x y
pick_not true x y = refl
pick_not false x y = refl

pub in_order : (r : NetDiagData) (t : Route64) (x : Used) (f : Prefixes) (h b c : Bool) (ls : Lists) (short few fit small : Bool) (size entries : ℕ)
    → short ≡ lengths_by r ls → few ≡ passes counts_fit (opt_counts r.network_data) → fit ≡ fits_by r t x f h b c ls → size ≡ total_size r t f ls
    → (entries ≡ fixed_count r) × (entries ≤ 16) → small ≡ pick (leb size most_bytes) (leb (entries + x.lists) most_entries) false
    → plan_by r t x f h b c ls ≡ pick (not short) (stopped 13) (pick (not few) (stopped 12) (pick (not fit) (stopped 15) (pick (not small) (stopped 10) (placed_by size x f))))
unfolding plan_by sized_by
in_order r t x f h b c ls short few fit small size entries a d e s n m =
    rw (pick_not short _ (stopped 13), pick_not few _ (stopped 12), pick_not fit _ (stopped 15), pick_not small (placed_by size x f) (stopped 10), a, d, e, m, pick_both (leb size most_bytes) (leb (entries + x.lists) most_entries) (placed_by size x f) (stopped 10), s, n.0)
