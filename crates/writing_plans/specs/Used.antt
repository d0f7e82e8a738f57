-- Which rows of the lent tables a record uses.
-- Assumes nothing.
use Rattle.std.specs.Prelude.{ℕ, ◌/◌, true, leb, Option, Some, None}
use Rattle.refusal.specs.Answer.{pick, Answer, given, absent, refused}
use Rattle.refusal.specs.Results.{option_of}
use Rattle.network_data.specs.declared.Counts.{Counts}
use Rattle.diag_rows.specs.declared.Part.{Part}
use Rattle.diag.specs.declared.NetworkDataPart.{NetworkDataPart}
use Rattle.diag.specs.declared.NetDiagData.{NetDiagData}
use Rattle.writing_walks.specs.declared.Prefixes.{Prefixes}
use Rattle.writing_walks.specs.declared.Lists.{Lists}
use Rattle.writing_walks.specs.declared.Used.{Used}

unfoldable pub least : ℕ → ℕ → ℕ
least a b = pick (leb a b) a b

-- the counts of Network Data, and zeros where it is absent
unfoldable pub counts_in : Option NetworkDataPart → Counts
counts_in (Some x) = x.counts
counts_in None = record { prefixes = 0; has_routes = 0; border_routers = 0 }

unfoldable pub children_used : Answer Part → (lent : ℕ) → ℕ
children_used (given q) k = least (q.len / 3) k
children_used absent k = 0
children_used (refused n p i) k = 0

-- before the first prefix, and before the first list of so many lent bytes
abbrev pub no_prefixes : Prefixes
no_prefixes = record { routes = 0; borders = 0; size = 0; fits = true }

abbrev pub no_lists : ℕ → Lists
no_lists n = record { bytes = n; short = true; fits = true; size = 0 }

unfoldable pub used_of : NetDiagData → (bytes prefixes routes borders children lists room : ℕ) → Used
used_of r bytes ps hs bs cs ls room = record {
  bytes = bytes;
  room = room;
  prefixes_lent = ps;
  routes_lent = hs;
  borders_lent = bs;
  children_lent = cs;
  lists_lent = ls;
  prefixes = least (counts_in r.network_data).prefixes ps;
  routes = least (counts_in r.network_data).has_routes hs;
  borders = least (counts_in r.network_data).border_routers bs;
  children = children_used (option_of r.child_table) cs;
  lists = least r.child_ipv6_addresses ls;
  no_prefixes = no_prefixes;
  no_lists = no_lists bytes;
  fits = true;
}
