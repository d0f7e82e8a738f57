-- `address_reading::find_gap` meets its contract. The invariant: what stands before "::" from i - 1 on, after i - 1 characters, is what stands before it in all.
use mathlib.Core.Path.{◌≡◌}
use Prim.Native.Nat.{◌+◌, ◌-◌, ◌≤◌}
use lib.ListN.{length, drop}
use Rattle.address_forms.specs.AddressRead.{gap_of}
use Rattle.address_reading.proofs.find_gap.Given as goal

abbrev pub invariant-loop-i : goal.invariant-loop-i
invariant-loop-i l = (l.i ≤ length l.text + 1) × (l.i - 1 + gap_of (drop (l.i - 1) l.text) ≡ gap_of l.text)
