-- The tests of the writer by the numbers that are known: `Written`'s of record_writing, of which one pass over each table has found its part.
-- Assumes nothing.
use Rattle.std.specs.Prelude.{ℕ, ◌+◌, ◌/◌, ◌%◌, Bool, false, [], ◌∷◌, leb, eqb}
use Rattle.refusal.specs.Answer.{pick}
use Rattle.refusal.specs.Each.{all}
use Rattle.refusal.specs.Results.{option_of}
use Rattle.network_data.specs.declared.Counts.{Counts}
use Rattle.route64.specs.declared.Route64.{Route64}
use Rattle.diag_rows.specs.declared.Part.{Part}
use Rattle.diag.specs.Answers.{opt_connectivity}
use Rattle.diag.specs.declared.NetDiagData.{NetDiagData}
use Rattle.value_writing.specs.Fits.{connectivity_fits, route64_fits}
use Rattle.record_writing.specs.Fits.{passes}
use Rattle.record_writing.specs.Lent.{route_used, opt_counts}
use Rattle.record_writing.specs.Written.{parts_short, routes_counted}
use Rattle.writing_walks.specs.declared.Prefixes.{Prefixes}
use Rattle.writing_walks.specs.declared.Lists.{Lists}
use Rattle.writing_walks.specs.declared.Used.{Used}

-- 13
unfoldable pub lengths_by : NetDiagData → Lists → Bool
lengths_by r ls = pick (parts_short r) ls.short false

-- 15: in n lent bytes
abbrev pub inside_by : ℕ → Part → Bool
inside_by n q = leb (q.start + q.len) n

unfoldable pub parts_inside_by : NetDiagData → ℕ → Bool
parts_inside_by r n =
    all (passes (inside_by n))
    (option_of r.ext_mac_addr ∷ option_of r.addresses ∷ option_of r.channel_pages ∷ option_of r.type_list ∷ option_of r.eui64 ∷ [])

unfoldable pub route_by : Route64 → Part → Bool
route_by t q = pick (routes_counted t) (route64_fits (route_used t)) false

unfoldable pub tables_by : Used → Prefixes → (routes borders : Bool) → Counts → Bool
tables_by x f h b c =
    pick (leb c.prefixes x.prefixes_lent)
    (pick (leb c.has_routes x.routes_lent)
    (pick (leb c.border_routers x.borders_lent)
    (pick f.fits
    (pick (eqb f.routes c.has_routes) (pick (eqb f.borders c.border_routers) (pick h b false) false) false) false) false) false) false

abbrev pub whole_by : Part → Bool
whole_by q = eqb (q.len % 16) 0

unfoldable pub children_by : Used → Bool → Part → Bool
children_by x c q = pick (eqb (q.len % 3) 0) (pick (leb (q.len / 3) x.children_lent) c false) false

abbrev pub eight_by : Part → Bool
eight_by q = eqb q.len 8

unfoldable pub lists_by : NetDiagData → Used → Lists → Bool
lists_by r x ls = pick (leb r.child_ipv6_addresses x.lists_lent) ls.fits false

-- parts of the lent bytes, and the address lists
unfoldable pub bytes_by : NetDiagData → Used → Lists → Bool
bytes_by r x ls =
    pick (parts_inside_by r x.bytes)
    (pick (passes whole_by (option_of r.addresses)) (pick (passes eight_by (option_of r.eui64)) (lists_by r x ls) false) false) false

unfoldable pub links_by : NetDiagData → Route64 → Bool
links_by r t = pick (passes connectivity_fits (opt_connectivity r.connectivity)) (passes (route_by t) (option_of r.route64)) false

unfoldable pub fits_by : NetDiagData → Route64 → Used → Prefixes → (routes borders children : Bool) → Lists → Bool
fits_by r t x f h b c ls =
    pick (bytes_by r x ls)
    (pick (links_by r t)
    (pick (passes (tables_by x f h b) (opt_counts r.network_data)) (passes (children_by x c) (option_of r.child_table)) false) false) false
