-- THE bytes of a record and its tables, or why they have none. Document 02, One: "Refusals, all at place 0: 12 for tables over 01's Network Data sizes; then
-- 15 if ...; both after 13 and before 10 and 11."
-- Assumes nothing.
use Rattle.std.specs.Prelude.{ℕ, ◌+◌, ◌*◌, Bool, false, List, [], ◌∷◌, length, take, leb, eqb}
use Rattle.refusal.specs.Sizes.{most_value, most_prefixes, most_has_routes, most_border_routers}
use Rattle.refusal.specs.Answer.{pick, Answer, refused}
use Rattle.refusal.specs.Each.{all}
use Rattle.refusal.specs.Results.{option_of}
use Rattle.tlv_writing.specs.Encode.{sized}
use Rattle.network_data.specs.declared.Counts.{Counts}
use Rattle.route64.specs.declared.Route64.{Route64}
use Rattle.diag_rows.specs.Rows.{part}
use Rattle.diag_rows.specs.declared.Part.{Part}
use Rattle.diag_rows.specs.declared.ChildTableEntry.{ChildTableEntry}
use Rattle.diag_rows.specs.declared.ChildIpv6AddrInfo.{ChildIpv6AddrInfo}
use Rattle.diag.specs.declared.NetDiagData.{NetDiagData}
use Rattle.network_writing.specs.Tables.{routes_asked, borders_asked}
use Rattle.record_writing.specs.Values.{entries_of}
use Rattle.record_writing.specs.Fits.{passes, values_fit}
use Rattle.record_writing.specs.Lent.{Lent, opt_counts, children_of, values_of}

-- ---- 13, "value over 65,535 bytes ... to be written", by the lengths that the record names. Within 12 and 15 Network Data is never so long, and an EUI-64 of
-- any length but 8 is 15

abbrev pub short_part : Part → Bool
short_part q = leb q.len most_value

-- "RLOC16, then the same"
abbrev pub short_list : ChildIpv6AddrInfo → Bool
short_list x = leb (2 + x.len) most_value

unfoldable pub parts_short : NetDiagData → Bool
parts_short r =
    all (passes short_part)
    (option_of r.ext_mac_addr ∷ option_of r.addresses ∷ option_of r.child_table ∷ option_of r.channel_pages ∷ option_of r.type_list ∷ [])

-- the address lists that the record counts
abbrev pub lists_of : NetDiagData → Lent → List ChildIpv6AddrInfo
lists_of r l = take r.child_ipv6_addresses l.lists

unfoldable pub lengths_fit : NetDiagData → Lent → Bool
lengths_fit r l = pick (parts_short r) (all short_list (lists_of r l)) false

-- ---- 12, "64 prefixes and, over all of them, 96 HasRoute rows and 96 BorderRouter rows", by the record's counts
unfoldable pub counts_fit : Counts → Bool
counts_fit c = pick (leb c.prefixes most_prefixes) (pick (leb c.has_routes most_has_routes) (leb c.border_routers most_border_routers) false) false

-- ---- 15: what the record names is lent, and "a row count" agrees "with its rows"

abbrev pub inside : List ℕ → Part → Bool
inside s q = leb (q.start + q.len) (length s)

unfoldable pub parts_inside : NetDiagData → List ℕ → Bool
parts_inside r s =
    all (passes (inside s))
    (option_of r.ext_mac_addr ∷ option_of r.addresses ∷ option_of r.channel_pages ∷ option_of r.type_list ∷ option_of r.eui64 ∷ [])

abbrev pub list_inside : List ℕ → ChildIpv6AddrInfo → Bool
list_inside s x = inside s (part x.start x.len)

-- the first n of a table are there
abbrev pub enough : {A : Type 0} → List A → ℕ → Bool
enough xs n = leb n (length xs)

-- the rows of a Route64 are in its table
abbrev pub routes_counted : Route64 → Bool
routes_counted t = enough t.route_data t.count

-- the prefixes ask for all the rows that are counted
unfoldable pub tables_agree : Lent → Counts → Bool
tables_agree l c =
    pick (enough l.prefixes c.prefixes)
    (pick (enough l.routes c.has_routes)
    (pick (enough l.borders c.border_routers)
    (pick (eqb (routes_asked (take c.prefixes l.prefixes)) c.has_routes) (eqb (borders_asked (take c.prefixes l.prefixes)) c.border_routers) false) false) false) false

-- whole rows, all of them lent
abbrev pub children_agree : List ChildTableEntry → Part → Bool
children_agree cs q = eqb (length (children_of cs q) * 3) q.len

unfoldable pub agrees : NetDiagData → Lent → Bool
agrees r l =
    pick (parts_inside r l.bytes)
    (pick (passes (λ (q : Part). routes_counted l.route64) (option_of r.route64))
    (pick (passes (tables_agree l) (opt_counts r.network_data))
    (pick (passes (children_agree l.children) (option_of r.child_table))
    (pick (enough l.lists r.child_ipv6_addresses) (all (list_inside l.bytes) (lists_of r l)) false) false) false) false) false

-- 13, 12, 15, then 10; 11 is `emit`'s. 15 is `agrees` (what is lent and counted) and `values_fit` (bits, lengths, rules)
unfoldable pub written : NetDiagData → Lent → Answer (List ℕ)
written r l =
    pick (lengths_fit r l)
    (pick (passes counts_fit (opt_counts r.network_data))
    (pick (agrees r l) (pick (values_fit (values_of r l)) (sized (entries_of (values_of r l))) (refused 15 0 0)) (refused 15 0 0))
    (refused 12 0 0))
    (refused 13 0 0)
