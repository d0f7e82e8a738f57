-- Document 02, One, for the calls: "Reading what was written gives the record back, unused places of fixed arrays aside". This is `back`.
-- Assumes nothing.
use mathlib.Core.Path.{◌≡◌, refl, sym, ap, ◌∙◌}
use mathlib.Core.Bool.{true}
use mathlib.Core.List.{List, [], map}
use Prim.Native.Nat.{ℕ, ◌%◌}
use native.Mathlib.Omega.{arith}
use lib.ListN.{length, take, length-map}
use lib.Seq.{length-take-le}
use lib.Dec.{eqb}
use borrow.Author.Tests.{eqb-true}
use Rattle.std.specs.Prelude.{Result, Option, Ok, Some, None, Err}
use Rattle.refusal.specs.Every.{Every}
use Rattle.refusal.specs.Answer.{Answer, given, absent, then_do, on_given}
use Rattle.refusal.specs.Numbered.{nth}
use Rattle.refusal.specs.Results.{found_of, option_of}
use Rattle.refusal.specs.declared.Refusal.{Refusal}
use Rattle.laws.proofs.Bits.{both, all_every}
use Rattle.laws.proofs.Answers.{gives, on_on}
use Rattle.tlv.specs.Entries.{Entry, framing}
use Rattle.tlv.proofs.Walks.{framing_lies}
use Rattle.pairing.proofs.Rowed.{nth_map}
use Rattle.network_data.specs.Rules.{counts}
use Rattle.network_data.specs.Decode.{Prefix, entry_of, all_routes, all_borders}
use Rattle.network_data.specs.Decode as N
use Rattle.network_data.specs.declared.Counts.{Counts}
use Rattle.network_data.specs.declared.PrefixEntry.{PrefixEntry}
use Rattle.network_data.specs.declared.HasRouteEntry.{HasRouteEntry}
use Rattle.network_data.specs.declared.BorderRouterEntry.{BorderRouterEntry}
use Rattle.network_plans.specs.Planned.{room_for}
use Rattle.network_plans.specs.Tables.{over}
use Rattle.route64.specs.Routes as R
use Rattle.diag_rows.specs.Rows.{child_rows, addresses}
use Rattle.diag_rows.specs.declared.Part.{Part}
use Rattle.diag_rows.specs.declared.ChildIpv6AddrInfo.{ChildIpv6AddrInfo}
use Rattle.diag_entries.specs.Parts.{all_of}
use Rattle.diag_entries.specs.Answers.{bytes_at}
use Rattle.diag_entries.specs.Lists.{AddressList, address_list, address_lists, child_list}
use Rattle.child_lists.specs.Answers.{list_paper}
use Rattle.diag.specs.Diag.{Diag, raw, diag, decode}
use Rattle.diag.specs.Answers.{opt_network_data, diag_of, decoded_answer}
use Rattle.diag.specs.declared.NetDiagData.{NetDiagData}
use Rattle.diag_tables.specs.Tables.{roomed, answered, outcome, decoded}
use Rattle.diag_tables.specs.Tables as T
use Rattle.network_writing.proofs.Agree.{all_routes_lem, all_borders_lem, entries_back}
use Rattle.value_writing.specs.Encode.{ListValue}
use Rattle.value_writing.specs.Fits.{whole_addresses, list_fits}
use Rattle.value_writing.proofs.Again.{addresses_back}
use Rattle.record_writing.specs.Fits.{passes}
use Rattle.record_writing.specs.Reading.{Listed, Reading, unplaced, reading_of, or_absent, listed, says}
use Rattle.record_writing.specs.Again.{flat}
use Rattle.record_writing.specs.Lent.{Lent, part_bytes, route_used, opt_counts, network_of, children_of, list_of, values_of}
use Rattle.record_writing.specs.Written.{lists_of, tables_agree, written}
use Rattle.record_writing.specs.Machine.{Machine}
use Rattle.record_writing.proofs.Round.{Fit, fit}
use Rattle.record_writing.proofs.Told.{Told, told, Counted, counted}
use Rattle.record_writing.proofs.Back as B
use Rattle.rehearsal.specs.Back.{Same, list_answer, TablesBack, Rows, Back}
use Rattle.rehearsal.proofs.Sits.{Kept, lists_sit}
use Rattle.rehearsal.proofs.Same.{said_same, addresses_same, handed, found}
use Rattle.rehearsal.proofs.Settled.{same_option, same_connectivity, or_part}
use Rattle.rehearsal.proofs.Answered.{counts_are, prefixes_said, network_back, prefixes_in_lem, none_in, has_room, every_nth, never_refused, absent_on, router_by, rows_by, addresses_or}
use Rattle.rehearsal.proofs.Read.{Read, read, part_5, part_7, part_8, part_16, count, reads}

whole_of : (x : ListValue) → list_fits x ≡ true → length x.addresses % 16 ≡ 0
whole_of x h = eqb-true (length x.addresses % 16) 0 (both (eqb x.child_id (x.rloc16 % 512)) (whole_addresses x.addresses) h).1

by_list : (x y : ListValue) → x.rloc16 ≡ y.rloc16 → x.child_id ≡ y.child_id → x.addresses ≡ y.addresses → x ≡ y
by_list x y a b c = rw (a, b, c)

module _ (r : NetDiagData) (l : Lent) (bs : List ℕ) (e : written r l ≡ given bs) (m : Machine r l) where
  abbrev known : Told r l bs
  known = told r l bs e

  fits : Fit (values_of r l)
  fits = fit (values_of r l) known.fits

  module _ (q : NetDiagData) (h : given (diag_of bs q) ≡ decode bs) where
    here : Read q bs
    here = read q bs h

    abbrev lists : List AddressList
    lists = address_lists (framing bs).entries

    reading_is : reading_of (diag_of bs q) lists ≡ says (values_of r l)
    reading_is =
        let told : ◌≡◌ {A = Answer Reading} (given (reading_of (diag_of bs q) lists)) (given (says (values_of r l))) = sym (reads q bs here) ∙ B.back r l bs e m in
        cc

    lists_are : map unplaced lists ≡ map listed (map (list_of l.bytes) (lists_of r l))
    unfolding reading_of says values_of
    lists_are = ap (λ (x : Reading). x.child_lists) reading_is

    prefixes_are : prefixes_said (opt_network_data bs q.network_data) ≡ or_absent (on_given (network_of l) (opt_counts r.network_data))
    unfolding reading_of says values_of diag_of
    prefixes_are = ap (λ (x : Reading). x.network_data) reading_is

    -- ---- the record
    same : Same r l bs q
    unfolding reading_of says values_of diag_of
    same = record {
      ext_mac_addr = said_same bs raw (option_of q.ext_mac_addr) ∙ ap (λ (x : Reading). x.ext_mac_addr) reading_is ∙ or_part (part_bytes l.bytes) r.ext_mac_addr;
      mac_addr = same_option q.mac_addr r.mac_addr (ap (λ (x : Reading). x.mac_addr) reading_is);
      mode = same_option q.mode r.mode (ap (λ (x : Reading). x.mode) reading_is);
      timeout = same_option q.timeout r.timeout (ap (λ (x : Reading). x.timeout) reading_is);
      connectivity = same_connectivity q.connectivity r.connectivity (ap (λ (x : Reading). x.connectivity) reading_is);
      route64 = said_same bs R.route_of (option_of q.route64) ∙ ap (λ (x : Reading). x.route64) reading_is ∙ or_part (λ (x : Part). route_used l.route64) r.route64;
      leader_data = same_option q.leader_data r.leader_data (ap (λ (x : Reading). x.leader_data) reading_is);
      network_data = network_back bs l q.network_data r.network_data (part_7 q bs here) known.agreed.tables prefixes_are;
      addresses =
          addresses_same bs (option_of q.addresses) (part_8 q bs here)
          ∙ ap (λ (x : Reading). on_given flat x.addresses) reading_is ∙ addresses_or l.bytes r.addresses fits.addresses;
      mac_counters = same_option q.mac_counters r.mac_counters (ap (λ (x : Reading). x.mac_counters) reading_is);
      battery_level = same_option q.battery_level r.battery_level (ap (λ (x : Reading). x.battery_level) reading_is);
      supply_voltage = same_option q.supply_voltage r.supply_voltage (ap (λ (x : Reading). x.supply_voltage) reading_is);
      child_table = said_same bs child_rows (option_of q.child_table) ∙ ap (λ (x : Reading). x.child_table) reading_is ∙ or_part (children_of l.children) r.child_table;
      channel_pages = said_same bs raw (option_of q.channel_pages) ∙ ap (λ (x : Reading). x.channel_pages) reading_is ∙ or_part (part_bytes l.bytes) r.channel_pages;
      type_list = said_same bs raw (option_of q.type_list) ∙ ap (λ (x : Reading). x.type_list) reading_is ∙ or_part (part_bytes l.bytes) r.type_list;
      eui64 = said_same bs raw (option_of q.eui64) ∙ ap (λ (x : Reading). x.eui64) reading_is ∙ or_part (part_bytes l.bytes) r.eui64;
      lists =
          count q bs here ∙ sym (length-map lists unplaced) ∙ ap length lists_are ∙ length-map (map (list_of l.bytes) (lists_of r l)) listed
          ∙ length-map (lists_of r l) (list_of l.bytes) ∙ length-take-le r.child_ipv6_addresses l.lists known.agreed.count;
    }

    -- ---- the tables
    module _ (P : List PrefixEntry) (H : List HasRouteEntry) (B : List BorderRouterEntry) where
      filled : (ps : List Prefix) → T.prefixes_of (diag_of bs q) ≡ ps → (c : Counts) → N.counts_of ps ≡ c → room_for c (length P) (length H) (length B) ≡ given c
          → decoded bs P H B ≡ outcome (given (diag_of bs q)) (over (map entry_of ps) P) (over (all_routes ps) H) (over (all_borders ps) B)
      unfolding decoded answered roomed T.written
      filled ps are c many room =
          ap (λ (x : Answer Diag). T.written (then_do x (λ (y : Diag). roomed y (length P) (length H) (length B))) P H B) (sym h)
          ∙ ap (λ (x : Answer Counts). T.written (on_given (λ (y : Counts). diag_of bs q) x) P H B) (ap (λ (x : List Prefix). room_for (N.counts_of x) (length P) (length H) (length B)) are ∙ ap (λ (x : Counts). room_for x (length P) (length H) (length B)) many ∙ room)
          ∙ ap (λ (x : List Prefix). outcome (given (diag_of bs q)) (over (map entry_of x) P) (over (all_routes x) H) (over (all_borders x) B)) are

    module _ (c : Counts) (are : opt_counts r.network_data ≡ given c) where
      agreeing : Counted l c
      unfolding passes
      agreeing = counted l c (ap (passes (tables_agree l)) (sym are) ∙ known.agreed.tables)

      prefixes_of : T.prefixes_of (diag_of bs q) ≡ network_of l c
      unfolding diag_of
      prefixes_of = prefixes_in_lem (opt_network_data bs q.network_data) (network_of l c) (prefixes_are ∙ ap (λ (x : Answer Counts). or_absent (on_given (network_of l) x)) are)

      tables : TablesBack l bs q c
      tables P H B x y z =
          let es = take c.prefixes l.prefixes in
          let hs = take c.has_routes l.routes in
          let rs = take c.border_routers l.borders in
          let k = agreeing in
          rw (entries_back es hs rs (omega (arith, k.routes_all)) (omega (arith, k.borders_all)), all_routes_lem es hs rs k.routes_all, all_borders_lem es hs rs k.borders_all)
          at (filled P H B (network_of l c) prefixes_of c (counts_are l c k) (has_room c (length P) (length H) (length B) x y z))

    untouched : opt_counts r.network_data ≡ absent → (P : List PrefixEntry) (H : List HasRouteEntry) (B : List BorderRouterEntry) → decoded bs P H B ≡ outcome (given (diag_of bs q)) P H B
    unfolding N.counts_of all_routes all_borders diag_of
    untouched none P H B =
        filled P H B [] (none_in (opt_network_data bs q.network_data) (prefixes_are ∙ ap (λ (x : Answer Counts). or_absent (on_given (network_of l) x)) none)) (counts 0 0 0) refl
        (has_room (counts 0 0 0) (length P) (length H) (length B) (omega arith) (omega arith) (omega arith))

    -- ---- the address lists
    module _ (k : ℕ) where
      at_is : child_list k bs ≡ nth lists k
      unfolding child_list
      at_is = ap (λ (x : Answer (List Entry)). then_do x (λ (xs : List Entry). nth (address_lists xs) k)) here.passes

      said_at : on_given unplaced (nth lists k) ≡ on_given listed (on_given (list_of l.bytes) (nth (lists_of r l) k))
      said_at =
          sym (nth_map unplaced lists k) ∙ ap (λ (x : List Listed). nth x k) lists_are ∙ nth_map listed (map (list_of l.bytes) (lists_of r l)) k
          ∙ ap (on_given listed) (nth_map (list_of l.bytes) (lists_of r l) k)

      lists_fit : Every (λ (x : ListValue). list_fits x ≡ true) (map (list_of l.bytes) (lists_of r l))
      unfolding values_of
      lists_fit = all_every list_fits (map (list_of l.bytes) (lists_of r l)) fits.child_lists

      one_list : (x : ChildIpv6AddrInfo) → given (handed bs x) ≡ nth lists k → given (list_of bs x) ≡ on_given (list_of l.bytes) (nth (lists_of r l) k)
      unfolding address_lists
      one_list x at =
          let g = gives address_list (nth (all_of 30 (framing bs).entries) k) (handed bs x) (sym (nth_map address_list (all_of 30 (framing bs).entries) k) ∙ sym at) in
          let kept = every_nth (Kept bs) (all_of 30 (framing bs).entries) k g.one (lists_sit bs (framing bs).entries (framing_lies bs) here.decodes) g.is in
          let f = found bs x g.one kept (sym g.so) in
          let w = gives listed (on_given (list_of l.bytes) (nth (lists_of r l) k)) (unplaced (handed bs x)) (sym said_at ∙ ap (on_given unplaced) (sym at)) in
          let whole = whole_of w.one (every_nth (λ (y : ListValue). list_fits y ≡ true) (map (list_of l.bytes) (lists_of r l)) k w.one lists_fit (nth_map (list_of l.bytes) (lists_of r l) k ∙ w.is)) in
          let bytes = ap flat (ap (λ (y : Listed). y.addresses) w.so) in
          let same : w.one ≡ list_of bs x = by_list w.one (list_of bs x) (ap (λ (y : Listed). y.rloc16) w.so) (ap (λ (y : Listed). y.child_id) w.so)
          (sym (addresses_back w.one.addresses whole) ∙ bytes ∙ addresses_back (bytes_at bs x.start x.len) f.whole) in
          ap given (sym same) ∙ sym w.is

      list : (x : Result (Option ChildIpv6AddrInfo) Refusal) → on_given (list_paper bs) (found_of x) ≡ child_list k bs → list_answer bs x ≡ on_given (list_of l.bytes) (nth (lists_of r l) k)
      list (Ok (Some x)) at = one_list x (at ∙ at_is)
      list (Ok None) at = absent_on listed (on_given (list_of l.bytes) (nth (lists_of r l) k)) (ap (on_given unplaced) (at ∙ at_is) ∙ said_at)
      list (Err x) at = absurd (never_refused lists k _ _ _ (at ∙ at_is))

    rows : Rows r l bs q
    rows = record {
      tables = tables;
      untouched = untouched;
      router = router_by bs here.small (route_used l.route64) (option_of q.route64) (option_of r.route64) (part_5 q bs here) same.route64;
      child = rows_by bs here.small 16 child_rows (option_of q.child_table) (on_given (children_of l.children) (option_of r.child_table)) refl (part_16 q bs here) same.child_table;
      address =
          rows_by bs here.small 8 addresses (option_of q.addresses) (on_given (λ (x : Part). addresses (part_bytes l.bytes x)) (option_of r.addresses)) refl (part_8 q bs here)
          (sym (on_on addresses (part_bytes bs) (option_of q.addresses)) ∙ ap (on_given addresses) same.addresses ∙ on_on addresses (part_bytes l.bytes) (option_of r.addresses));
      list = list;
    }

  -- whatever `NetDiagData::decode` answers on what was written, it is the record that was written
  pub back : (x : Result NetDiagData Refusal) → decoded_answer bs x ≡ decode bs → Back r l bs x
  unfolding decode
  back (Ok q) h = (same q h, rows q h)
  back (Err x) h =
      absurd (let f = (B.written_found r l bs e m).passing in let told = h ∙ ap (on_given diag) f in let z : ◌≡◌ {A = ℕ} 0 1 = cc in omega arith)
