-- Which records can be written, over what they say. Document 02, One: "12 for tables over 01's Network Data sizes; then 15 if a field doesn't fit its bits
-- ...". The tests of 13 and 12, and those of 15 for what is lent and counted, are in Written.antt.
-- Assumes nothing.
use Rattle.std.specs.Prelude.{ℕ, Bool, true, false, List, length, eqb}
use Rattle.refusal.specs.Answer.{pick, Answer, given, absent, refused}
use Rattle.refusal.specs.Each.{all}
use Rattle.network_data.specs.Decode.{Prefix}
use Rattle.network_writing.specs.Fits.{network_fits, over_sizes}
use Rattle.value_writing.specs.Fits.{connectivity_fits, route64_fits, child_fits, whole_addresses, list_fits}
use Rattle.record_writing.specs.Values.{Values}

-- the test of what is given; nothing is wrong with what is not
unfoldable pub passes : {A : Type 0} → (A → Bool) → Answer A → Bool
passes f (given x) = f x
passes f absent = true
passes f (refused n p i) = true

-- 12 over the prefixes themselves, a hypothesis of the theorems: `write` tests the record's counts (`counts_fit`)
abbrev pub within_sizes : List Prefix → Bool
within_sizes ps = pick (over_sizes ps) false true

unfoldable pub tables_fit : Values → Bool
tables_fit v = passes within_sizes v.network_data

-- 15. "23: 8 bytes"
abbrev pub eight_bytes : List ℕ → Bool
eight_bytes v = eqb (length v) 8

unfoldable pub values_fit : Values → Bool
values_fit v =
    pick (passes connectivity_fits v.connectivity)
    (pick (passes route64_fits v.route64)
    (pick (passes network_fits v.network_data)
    (pick (passes whole_addresses v.addresses)
    (pick (passes (all child_fits) v.child_table)
    (pick (passes eight_bytes v.eui64) (all list_fits v.child_lists) false) false) false) false) false) false
