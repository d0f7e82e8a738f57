-- Which values can be written. Document 02, One: "15 if a field doesn't fit its bits ..., the mask or a row count disagrees with its rows, address bytes
-- aren't whole addresses, ... Connectivity has one late field alone, or a child ID isn't its RLOC16 modulo 512".
-- Assumes nothing.
use Rattle.std.specs.Prelude.{ℕ, ◌%◌, ◌<◌, Bool, true, false, List, ◌∷◌, map, length, ℤ, pos, negsuc, leb, eqb}
use Rattle.refusal.specs.Every.{Every}
use Rattle.refusal.specs.Answer.{pick, Answer, given, absent, refused}
use Rattle.refusal.specs.Each.{all, same}
use Rattle.diag_rules.specs.Mask.{routers_of}
use Rattle.connectivity.specs.Connectivity.{ConnectivityValue}
use Rattle.route64.specs.Routes.{Route}
use Rattle.diag_values.specs.declared.MacCounters.{MacCounters}
use Rattle.diag_rows.specs.declared.ChildTableEntry.{ChildTableEntry}
use Rattle.route64.specs.declared.RouteDataEntry.{RouteDataEntry}
use Rattle.value_writing.specs.Encode.{counter_list, ListValue}

-- priorities -2 to 1
unfoldable pub priority_fits : ℤ → Bool
priority_fits (pos n) = leb n 1
priority_fits (negsuc n) = leb n 1

-- both late fields or neither
unfoldable pub late_fits : Answer ℕ → Answer ℕ → Bool
late_fits (given b) (given d) = true
late_fits (given b) absent = false
late_fits (given b) (refused n p i) = false
late_fits absent (given d) = false
late_fits absent absent = true
late_fits absent (refused n p i) = false
late_fits (refused n p i) d = false

unfoldable pub connectivity_fits : ConnectivityValue → Bool
connectivity_fits c = pick (priority_fits c.parent_priority) (late_fits c.buffer_size c.datagram_count) false

abbrev pub route_row_fits : RouteDataEntry → Bool
route_row_fits r = pick (leb r.outgoing_link_quality 3) (pick (leb r.incoming_link_quality 3) (leb r.route_cost 15) false) false

abbrev pub router : RouteDataEntry → ℕ
router r = r.router_id

-- the rows are those of the mask's set bits, ascending
unfoldable pub mask_agrees : Route → Bool
mask_agrees r = same (map router r.rows) (routers_of (0 ∷ r.mask))

unfoldable pub route64_fits : Route → Bool
route64_fits r = pick (mask_agrees r) (all route_row_fits r.rows) false

abbrev pub child_fits : ChildTableEntry → Bool
child_fits c = pick (leb c.timeout_exponent 31) (pick (leb c.incoming_link_quality 3) (leb c.child_id 511) false) false

-- "whole 16-byte addresses, possibly none"
abbrev pub whole_addresses : List ℕ → Bool
whole_addresses v = eqb (length v % 16) 0

abbrev pub list_fits : ListValue → Bool
list_fits l = pick (eqb l.child_id (l.rloc16 % 512)) (whole_addresses l.addresses) false

-- ---- numbers within their widths, as the code's types have them. No refusal: hypotheses of the theorems

-- a number below another
abbrev pub Under : ℕ → Answer ℕ → Type 0
Under most (given x) = x < most
Under most absent = Unit {0}
Under most (refused n p i) = Unit {0}

-- "nine u32"
abbrev pub Words : MacCounters → Type 0
Words c = Every (λ (x : ℕ). x < 4294967296) (counter_list c)
