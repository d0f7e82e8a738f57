-- A record that was read is never refused 10, 12, 13 or 15 on writing; and writing what was read and reading it again gives the same record, for what the calls
-- handed out. This is `rewritten`.
-- Assumes nothing.
use mathlib.Core.Path.{◌≡◌, refl, sym, ap, ◌∙◌}
use mathlib.Core.Bool.{true}
use mathlib.Core.List.{List, map}
use Prim.Native.Nat.{ℕ, ◌<◌}
use native.Mathlib.Omega.{arith}
use lib.ListN.{length, take}
use borrow.Author.Tests.{le-leb}
use Rattle.refusal.specs.Every.{Every, Bytes}
use Rattle.refusal.specs.Answer.{Answer, given, then_do}
use Rattle.refusal.specs.Each.{all}
use Rattle.refusal.specs.Numbered.{nth}
use Rattle.refusal.specs.Results.{option_of}
use Rattle.tlv.specs.Entries.{Entry, framing}
use Rattle.tlv.proofs.Walks.{framing_lies}
use Rattle.tlv_writing.specs.Encode.{sized}
use Rattle.network_data.specs.declared.Counts.{Counts}
use Rattle.route64.specs.Routes as R
use Rattle.diag_rows.specs.Rows.{child_rows}
use Rattle.diag_rows.specs.declared.Part.{Part}
use Rattle.diag_rows.specs.declared.ChildIpv6AddrInfo.{ChildIpv6AddrInfo}
use Rattle.diag_entries.specs.Parts.{all_of}
use Rattle.diag_entries.specs.Lists.{address_lists, child_list}
use Rattle.diag.specs.Diag.{raw}
use Rattle.diag.specs.Answers.{diag_of}
use Rattle.diag.specs.declared.NetDiagData.{NetDiagData}
use Rattle.diag_tables.specs.Tables.{decoded}
use Rattle.diag_tables.specs.Tables as T
use Rattle.record_writing.specs.Values.{Values, entries_of}
use Rattle.record_writing.specs.Typed.{Given}
use Rattle.record_writing.specs.Fits.{passes, values_fit}
use Rattle.record_writing.specs.Reading.{Reading, unplaced, reading_of}
use Rattle.record_writing.specs.Again.{list_value, values_in}
use Rattle.record_writing.specs.Lent.{Lent, part_bytes, route_used, opt_counts, children_of, list_of, values_of}
use Rattle.record_writing.specs.Written.{parts_short, lists_of, lengths_fit, counts_fit, parts_inside, tables_agree, agrees, written}
use Rattle.record_writing.proofs.Again.{again}
use Rattle.rehearsal.specs.Handed.{Handed, Rewritten}
use Rattle.rehearsal.proofs.Sits.{lists_sit}
use Rattle.rehearsal.proofs.Same.{by_values, handed_first, handed_most, given_map, given_two, Laid, laid_by, said_same, addresses_same, children_same, route_same, network_same, handed, Found, lists_same, children_are, route_is}
use Rattle.rehearsal.proofs.Read.{Read, read, part_0, part_5, part_7, part_8, part_16, part_17, part_18, part_23, count, reads}
use Rattle.rehearsal.proofs.Agrees.{part_inside, lists_inside, part_short, lists_short, routers_counted, children_agree_lem, network_agrees}

module _ (r : NetDiagData) (l : Lent) (b : Bytes l.bytes) (h : Handed r l) where
  abbrev s : List ℕ
  s = l.bytes

  abbrev es : List Entry
  es = (framing s).entries

  known : Read r s
  known = read r s h.decodes

  -- ---- what the calls handed out
  tables : Given (λ (c : Counts). Laid (T.prefixes_of (diag_of s r)) l) (opt_counts r.network_data)
  unfolding decoded
  tables = given_map _ _ (λ c f. laid_by l (diag_of s r) _ f.prefixes f.routes f.borders f.are) (opt_counts r.network_data) h.tables

  children : Given (λ (q : Part). children_of l.children q ≡ child_rows (part_bytes s q)) (option_of r.child_table)
  children = given_two _ _ _ (λ q w k. children_are s known.small l.children q w k) (option_of r.child_table) (part_16 r s known) h.children

  router : Given (λ (q : Part). route_used l.route64 ≡ R.route_of (part_bytes s q)) (option_of r.route64)
  router = given_two _ _ _ (λ q w k. route_is s known.small l.route64 h.place q w k) (option_of r.route64) (part_5 r s known) h.route64

  list_at : (k : ℕ) → k < length (address_lists es) → then_do (nth l.lists k) (λ (x : ChildIpv6AddrInfo). given (handed s x)) ≡ nth (address_lists es) k
  unfolding child_list
  list_at k m = h.lists k (omega (arith, m, count r s known)) ∙ ap (λ (a : Answer (List Entry)). then_do a (λ (xs : List Entry). nth (address_lists xs) k)) known.passes

  lists : (Every (Found s) (lists_of r l)) × (map (list_of s) (lists_of r l) ≡ map list_value (map unplaced (address_lists es)))
  unfolding address_lists
  lists =
      lists_same s (lists_of r l) (all_of 30 es) (lists_sit s es (framing_lies s) known.decodes)
      (ap (λ (n : ℕ). map (handed s) (take n l.lists)) (count r s known) ∙ handed_first (handed s) (address_lists es) l.lists list_at)

  -- ---- it says what the payload says
  abbrev said : Reading
  said = reading_of (diag_of s r) (address_lists es)

  same : values_of r l ≡ values_in said
  unfolding values_of values_in reading_of diag_of
  same =
      by_values
      (said_same s raw (option_of r.ext_mac_addr))
      refl
      refl
      refl
      refl
      (route_same s (route_used l.route64) (option_of r.route64) router)
      refl
      (network_same s b l r.network_data (part_7 r s known) tables)
      (addresses_same s (option_of r.addresses) (part_8 r s known))
      refl
      refl
      refl
      (children_same s l.children (option_of r.child_table) children)
      (said_same s raw (option_of r.channel_pages))
      (said_same s raw (option_of r.type_list))
      (said_same s raw (option_of r.eui64))
      lists.1

  -- ---- and none of the tests fails
  not_13 : lengths_fit r l ≡ true
  unfolding lengths_fit parts_short all
  not_13 =
      rw (
        part_short s known.small 0 (option_of r.ext_mac_addr) (part_0 r s known),
        part_short s known.small 8 (option_of r.addresses) (part_8 r s known),
        part_short s known.small 16 (option_of r.child_table) (part_16 r s known),
        part_short s known.small 17 (option_of r.channel_pages) (part_17 r s known),
        part_short s known.small 18 (option_of r.type_list) (part_18 r s known),
      )
      (lists_short s known.small (lists_of r l) lists.0)

  inside : parts_inside r s ≡ true
  unfolding parts_inside all
  inside =
      rw (
        part_inside s 0 (option_of r.ext_mac_addr) (part_0 r s known),
        part_inside s 8 (option_of r.addresses) (part_8 r s known),
        part_inside s 17 (option_of r.channel_pages) (part_17 r s known),
        part_inside s 18 (option_of r.type_list) (part_18 r s known),
        part_inside s 23 (option_of r.eui64) (part_23 r s known),
      )

  not_12 : (passes counts_fit (opt_counts r.network_data) ≡ true) × (passes (tables_agree l) (opt_counts r.network_data) ≡ true)
  unfolding diag_of
  not_12 = network_agrees s b l r.network_data (part_7 r s known) tables

  not_15 : agrees r l ≡ true
  unfolding agrees
  not_15 =
      rw (
        inside,
        routers_counted s known.small l.route64 h.place (option_of r.route64) (part_5 r s known) h.route64,
        not_12.1,
        children_agree_lem s l.children (option_of r.child_table) (part_16 r s known) children,
        le-leb r.child_ipv6_addresses (length l.lists) (omega (arith, count r s known, handed_most (handed s) (address_lists es) l.lists list_at)),
      )
      (lists_inside s (lists_of r l) lists.0)

  pub rewritten : Rewritten r l
  unfolding written
  rewritten =
      let a = again s b said (reads r s known) in
      let fits : values_fit (values_of r l) ≡ true = ap values_fit same ∙ a.fits in
      record {
        bytes = a.bytes;
        are = rw (not_13, not_12.0, not_15, fits) (ap (λ (v : Values). sized (entries_of v)) same ∙ a.writes);
        same = a.reads ∙ sym (reads r s known);
      }
