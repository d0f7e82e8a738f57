-- Lines of request One for the call's definition, computed: what it refuses first, and that a record's counts and not the lent slices' lengths speak.
-- Assumes nothing.
use mathlib.Core.Path.{◌≡◌, refl}
use mathlib.Core.List.{List, [], ◌∷◌}
use Prim.Native.Nat.{ℕ, ◌+◌}
use lib.ListN.{replicate}
use Rattle.std.specs.Prelude.{Some, None, Option}
use Rattle.refusal.specs.Sizes.{most_entries}
use Rattle.refusal.specs.Answer.{given, refused}
use Rattle.refusal.specs.Each.{joined, all}
use Rattle.wire_bytes.specs.Bytes.{bytes_of}
use Rattle.tlv_writing.specs.Encode.{header, encode, encode_all, sized}
use Rattle.network_data.specs.Rules.{counts}
use Rattle.network_data.specs.declared.Counts.{Counts}
use Rattle.network_data.specs.declared.PrefixEntry.{PrefixEntry}
use Rattle.route64.specs.Routes.{zero_routes}
use Rattle.diag_rows.specs.Rows.{part}
use Rattle.diag_rows.specs.declared.Part.{Part}
use Rattle.diag_rows.specs.declared.ChildIpv6AddrInfo.{ChildIpv6AddrInfo}
use Rattle.diag.specs.declared.NetDiagData.{NetDiagData}
use Rattle.diag.specs.declared.NetworkDataPart.{NetworkDataPart}
use Rattle.network_writing.specs.Encode.{row_items, context_items, inner_items, prefix_value, network_bytes}
use Rattle.network_writing.specs.Fits.{context_fits, prefix_fits, network_fits}
use Rattle.network_writing.specs.Tables.{prefixes_of, routes_asked, borders_asked}
use Rattle.value_writing.specs.Encode.{children_bytes, list_bytes}
use Rattle.record_writing.specs.Values.{entry_for, present, entries_of}
use Rattle.record_writing.specs.Fits.{passes, values_fit}
use Rattle.record_writing.specs.Lent.{lent, Lent, values_of}
use Rattle.record_writing.specs.Written.{parts_short, lengths_fit, counts_fit, parts_inside, tables_agree, agrees, written}

-- five fields, and the others missing
abbrev made : Option Part → Option NetworkDataPart → Option Part → Option Part → ℕ → NetDiagData
made a b c d e = record {
  ext_mac_addr = a;
  mac_addr = None;
  mode = None;
  timeout = None;
  connectivity = None;
  route64 = None;
  leader_data = None;
  network_data = b;
  addresses = None;
  mac_counters = None;
  battery_level = None;
  supply_voltage = None;
  child_table = c;
  channel_pages = None;
  type_list = None;
  eui64 = d;
  child_ipv6_addresses = e;
}

abbrev network : Counts → Option NetworkDataPart
network c = Some record { start = 0; len = 0; counts = c }

abbrev a_prefix : PrefixEntry
a_prefix = record {
  domain_id = 0;
  prefix_bit_length = 4;
  prefix = 253 ∷ 7 ∷ replicate 30 0;
  six_low_pan_context = None;
  has_routes = 0;
  border_routers = 0;
}

abbrev a_list : ℕ → ChildIpv6AddrInfo
a_list id = record { rloc16 = 10241; child_id = id; start = 0; len = 0 }

abbrev tables : List ℕ → List PrefixEntry → List ChildIpv6AddrInfo → Lent
tables s ps ls = lent s zero_routes ps [] [] [] ls

-- nothing is said: no bytes
nothing : written (made None None None None 0) (tables [] [] []) ≡ given []
unfolding written lengths_fit parts_short agrees parts_inside passes all values_fit values_of entries_of present entry_for sized encode_all
nothing = refl

-- Network Data that is present without prefixes, and a lent prefix that is not counted
uncounted : written (made None (network (counts 0 0 0)) None None 0) (tables [] (a_prefix ∷ []) []) ≡ given (7 ∷ 0 ∷ [])
unfolding written lengths_fit parts_short agrees parts_inside passes all values_fit values_of entries_of present entry_for sized encode_all encode header counts_fit tables_agree network_fits network_bytes joined prefixes_of routes_asked borders_asked
uncounted = refl

-- and one that is: the unused places of its array are not written
counted : written (made None (network (counts 1 0 0)) None None 0) (tables [] (a_prefix ∷ a_prefix ∷ []) []) ≡ given (7 ∷ 5 ∷ 2 ∷ 3 ∷ 0 ∷ 4 ∷ 253 ∷ [])
unfolding written lengths_fit parts_short agrees parts_inside passes all values_fit values_of entries_of present entry_for sized encode_all encode header counts_fit tables_agree network_fits prefix_fits context_fits network_bytes prefix_value inner_items row_items context_items joined prefixes_of routes_asked borders_asked
counted = refl

-- the prefixes ask for no row, and one is counted
disagreeing : written (made None (network (counts 1 0 1)) None None 0) (tables [] (a_prefix ∷ []) []) ≡ refused 15 0 0
unfolding written lengths_fit parts_short agrees parts_inside passes all counts_fit tables_agree routes_asked borders_asked
disagreeing = refl

-- 65 prefixes, none of them lent: 12 before 15
sizes_first : written (made None (network (counts 65 0 0)) None None 0) (tables [] [] []) ≡ refused 12 0 0
unfolding written lengths_fit parts_short passes all counts_fit
sizes_first = refl

-- and a value of 65,536 bytes: 13 before 12
long_first : written (made (Some (part 0 65536)) (network (counts 65 0 0)) None None 0) (tables [] [] []) ≡ refused 13 0 0
unfolding written lengths_fit parts_short passes all
long_first = refl

-- a part that is not lent; 13 does not look at an EUI-64
not_lent : written (made (Some (part 0 8)) None None None 0) (tables (1 ∷ 2 ∷ []) [] []) ≡ refused 15 0 0
unfolding written lengths_fit parts_short agrees parts_inside passes all
not_lent = refl

long_eui : written (made None None None (Some (part 0 65536)) 0) (tables [] [] []) ≡ refused 15 0 0
unfolding written lengths_fit parts_short agrees parts_inside passes all
long_eui = refl

-- a child table that is present without rows, `10 00`; four bytes are not whole rows, nor is one row that is not lent
no_children : written (made None None (Some (part 9 0)) None 0) (tables [] [] []) ≡ given (16 ∷ 0 ∷ [])
unfolding written lengths_fit parts_short agrees parts_inside passes all values_fit values_of entries_of present entry_for sized encode_all encode header children_bytes joined
no_children = refl

odd_children : written (made None None (Some (part 0 4)) None 0) (tables [] [] []) ≡ refused 15 0 0
unfolding written lengths_fit parts_short agrees parts_inside passes all
odd_children = refl

-- a list that is counted is written, the next one is not
one_list : written (made None None None None 1) (tables [] [] (a_list 1 ∷ a_list 2 ∷ [])) ≡ given (30 ∷ 2 ∷ 40 ∷ 1 ∷ [])
unfolding written lengths_fit parts_short agrees parts_inside passes all values_fit values_of entries_of present entry_for sized encode_all encode header list_bytes bytes_of
one_list = refl

-- a child ID that is not its RLOC16 modulo 512; a list that is counted and not lent
other_child : written (made None None None None 2) (tables [] [] (a_list 1 ∷ a_list 2 ∷ [])) ≡ refused 15 0 0
unfolding written lengths_fit parts_short agrees parts_inside passes all values_fit values_of
other_child = refl

missing_list : written (made None None None None 2) (tables [] [] (a_list 1 ∷ [])) ≡ refused 15 0 0
unfolding written lengths_fit parts_short agrees parts_inside passes all
missing_list = refl

-- a list more than a payload may have entries: 10, and 15 before it
many : written (made None None None None (most_entries + 1)) (tables [] [] (replicate (most_entries + 1) (a_list 1))) ≡ refused 10 0 0
unfolding written lengths_fit parts_short agrees parts_inside passes all values_fit values_of entries_of present entry_for sized encode_all encode header list_bytes bytes_of
many = refl

wrong_first : written (made None None None None (most_entries + 2)) (tables [] [] (a_list 2 ∷ replicate (most_entries + 1) (a_list 1))) ≡ refused 15 0 0
unfolding written lengths_fit parts_short agrees parts_inside passes all values_fit values_of
wrong_first = refl
