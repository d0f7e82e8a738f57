-- The record that was written, as the calls read it back. Document 02, One: "Reading what was written gives the record back, unused places of fixed arrays
-- aside. An address-list table without rows ... reads back as absent." A part is read back where its bytes are; what it says is the same.
-- Assumes nothing.
use Rattle.std.specs.Prelude.{◌≡◌, List, map, ℕ, ◌≤◌, length, take, Result, Ok, Err, Option}
use Rattle.refusal.specs.Answer.{Answer, given, absent, then_do, on_given}
use Rattle.refusal.specs.Numbered.{nth}
use Rattle.refusal.specs.Results.{found_of, option_of}
use Rattle.refusal.specs.declared.Refusal.{Refusal}
use Rattle.network_data.specs.declared.Counts.{Counts}
use Rattle.network_data.specs.declared.PrefixEntry.{PrefixEntry}
use Rattle.network_data.specs.declared.HasRouteEntry.{HasRouteEntry}
use Rattle.network_data.specs.declared.BorderRouterEntry.{BorderRouterEntry}
use Rattle.network_plans.specs.Tables.{over}
use Rattle.diag_rules.specs.Rule.{value_of}
use Rattle.route64.specs.Routes.{routes}
use Rattle.route64.specs.Routes as R
use Rattle.diag_rows.specs.Rows.{child_rows, addresses}
use Rattle.diag_rows.specs.declared.Part.{Part}
use Rattle.diag_rows.specs.declared.ChildIpv6AddrInfo.{ChildIpv6AddrInfo}
use Rattle.diag_entries.specs.Lists.{child_list}
use Rattle.child_lists.specs.Answers.{list_paper}
use Rattle.diag.specs.Answers.{decoded_answer}
use Rattle.diag.specs.declared.NetDiagData.{NetDiagData}
use Rattle.diag_tables.specs.Tables.{outcome, decoded}
use Rattle.network_writing.specs.Tables.{tidied}
use Rattle.value_writing.specs.Encode.{ListValue}
use Rattle.record_writing.specs.Typed.{Given}
use Rattle.record_writing.specs.Lent.{Lent, part_bytes, route_used, opt_counts, children_of, list_of}
use Rattle.record_writing.specs.Written.{lists_of}
use Rattle.rehearsal.specs.Read.{child_row, address_of}

-- q, which `NetDiagData::decode` answers on bs, says what r and the tables say
pub record Same (r : NetDiagData) (l : Lent) (bs : List ℕ) (q : NetDiagData) : Type 0 where
  pub ext_mac_addr : on_given (part_bytes bs) (option_of q.ext_mac_addr) ≡ on_given (part_bytes l.bytes) (option_of r.ext_mac_addr)
  pub mac_addr : q.mac_addr ≡ r.mac_addr
  pub mode : q.mode ≡ r.mode
  pub timeout : q.timeout ≡ r.timeout
  pub connectivity : q.connectivity ≡ r.connectivity
  pub route64 : on_given (λ (p : Part). R.route_of (part_bytes bs p)) (option_of q.route64) ≡ on_given (λ (p : Part). route_used l.route64) (option_of r.route64)
  pub leader_data : q.leader_data ≡ r.leader_data
  pub network_data : opt_counts q.network_data ≡ opt_counts r.network_data
  pub addresses : on_given (part_bytes bs) (option_of q.addresses) ≡ on_given (part_bytes l.bytes) (option_of r.addresses)
  pub mac_counters : q.mac_counters ≡ r.mac_counters
  pub battery_level : q.battery_level ≡ r.battery_level
  pub supply_voltage : q.supply_voltage ≡ r.supply_voltage
  pub child_table : on_given (λ (p : Part). child_rows (part_bytes bs p)) (option_of q.child_table) ≡ on_given (children_of l.children) (option_of r.child_table)
  pub channel_pages : on_given (part_bytes bs) (option_of q.channel_pages) ≡ on_given (part_bytes l.bytes) (option_of r.channel_pages)
  pub type_list : on_given (part_bytes bs) (option_of q.type_list) ≡ on_given (part_bytes l.bytes) (option_of r.type_list)
  pub eui64 : on_given (part_bytes bs) (option_of q.eui64) ≡ on_given (part_bytes l.bytes) (option_of r.eui64)
  pub lists : q.child_ipv6_addresses ≡ r.child_ipv6_addresses

-- what a list says that `child_list` answers
abbrev pub list_answer : List ℕ → Result (Option ChildIpv6AddrInfo) Refusal → Answer ListValue
list_answer s x = on_given (list_of s) (found_of x)

-- the tables that were written, from the front of what is lent to `diag_tables::decode`, where that has room
abbrev pub TablesBack : Lent → List ℕ → NetDiagData → Counts → Type 0
TablesBack l bs q c =
    (P : List PrefixEntry) (H : List HasRouteEntry) (B : List BorderRouterEntry)
    → c.prefixes ≤ length P → c.has_routes ≤ length H → c.border_routers ≤ length B
    → decoded bs P H B ≡ outcome (decoded_answer bs (Ok q)) (over (map tidied (take c.prefixes l.prefixes)) P) (over (take c.has_routes l.routes) H) (over (take c.border_routers l.borders) B)

-- one of the rows that are given
abbrev pub nth_in : {A : Type 0} → Answer (List A) → ℕ → Answer A
nth_in a k = then_do a (λ (rows : List _). nth rows k)

-- the rows that were written, by the calls on q's parts and on bs
pub record Rows (r : NetDiagData) (l : Lent) (bs : List ℕ) (q : NetDiagData) : Type 0 where
  -- `diag_tables::decode`
  pub tables : (c : Counts) → opt_counts r.network_data ≡ given c → TablesBack l bs q c
  pub untouched : opt_counts r.network_data ≡ absent → (P : List PrefixEntry) (H : List HasRouteEntry) (B : List BorderRouterEntry)
      → decoded bs P H B ≡ outcome (decoded_answer bs (Ok q)) P H B
  -- `route64::decode_route64`
  pub router : Given (λ (p : Part). (place : ℕ) → on_given routes (on_given R.route_of (value_of 5 place (part_bytes bs p))) ≡ given (routes (route_used l.route64))) (option_of q.route64)
  -- `diag_rows::child_row`
  pub child : Given (λ (p : Part). (k : ℕ) → child_row (part_bytes bs p) k ≡ nth_in (on_given (children_of l.children) (option_of r.child_table)) k) (option_of q.child_table)
  -- `diag_rows::address`, which gives no bytes past the last
  pub address : Given (λ (p : Part). (k : ℕ) → address_of (part_bytes bs p) k ≡ nth_in (on_given (λ (x : Part). addresses (part_bytes l.bytes x)) (option_of r.addresses)) k) (option_of q.addresses)
  -- `child_lists::child_list`
  pub list : (k : ℕ) (x : Result (Option ChildIpv6AddrInfo) Refusal) → on_given (list_paper bs) (found_of x) ≡ child_list k bs → list_answer bs x ≡ on_given (list_of l.bytes) (nth (lists_of r l) k)

-- `NetDiagData::decode` does not refuse bs
abbrev pub Back : NetDiagData → Lent → List ℕ → Result NetDiagData Refusal → Type 0
Back r l bs (Ok q) = Same r l bs q × Rows r l bs q
Back r l bs (Err x) = ⊥
