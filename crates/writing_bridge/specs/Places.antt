-- How many rows the tables by value have, and how many of them are lent.
-- Assumes nothing.
use Rattle.std.specs.Prelude.{ℕ, ◌+◌, ◌/◌, List, take, ltb}
use Rattle.refusal.specs.Sizes.{most_bytes, most_entries}
use Rattle.refusal.specs.Answer.{pick}
use Rattle.route64.specs.declared.Route64.{Route64}
use Rattle.network_bridge.specs.Parts.{places}
use Rattle.network_bridge.specs.declared.Tables.{Tables}
use Rattle.record_writing.specs.Lent.{Lent, lent}
use Rattle.writing_bridge.specs.declared.Rows.{Rows}
use Rattle.writing_bridge.specs.declared.Lengths.{Lengths}

-- one more than the "rows of 3" in as many bytes as a payload may have
abbrev pub child_places : ℕ
child_places = most_bytes / 3 + 1

-- one more than the entries of a payload
abbrev pub list_places : ℕ
list_places = most_entries + 1

-- n, or the most that there are
abbrev pub at_most : (n most : ℕ) → ℕ
at_most n most = pick (ltb most n) most n

-- the first records of each table
abbrev pub lent_by : List ℕ → Route64 → Tables → Rows → Lengths → Lent
lent_by s t x y n =
    lent s t (take (at_most n.prefixes places) x.prefixes) (take (at_most n.has_route places) x.has_route)
    (take (at_most n.border_routers places) x.border_routers) (take (at_most n.children child_places) y.children) (take (at_most n.lists list_places) y.lists)
