-- What a plan says of the lent tables, and what the writing pass may lean on. No public contract cites it.
-- Assumes nothing.
use Rattle.std.specs.Prelude.{◌≡◌, ℕ, ◌*◌, ◌/◌, ◌≤◌, Bool, true, false, List, length, take, None}
use Rattle.refusal.specs.Sizes.{most_value, most_has_routes, most_border_routers}
use Rattle.refusal.specs.Answer.{pick, Answer, given, absent, refused}
use Rattle.refusal.specs.Each.{all}
use Rattle.refusal.specs.Every.{Every}
use Rattle.refusal.specs.Output.{output, emit}
use Rattle.refusal.specs.Results.{answer_of, option_of}
use Rattle.tables.specs.Fold.{fold}
use Rattle.tlv_writing.specs.Encode.{encode_all}
use Rattle.network_data.specs.declared.Counts.{Counts}
use Rattle.route64.specs.declared.Route64.{Route64}
use Rattle.diag_rows.specs.declared.Part.{Part}
use Rattle.diag.specs.declared.NetDiagData.{NetDiagData}
use Rattle.network_writing.specs.Encode.{network_bytes}
use Rattle.network_writing.specs.Fits.{route_fits, border_fits}
use Rattle.network_writing.specs.Tables.{prefixes_of, routes_asked, borders_asked}
use Rattle.value_writing.specs.Fits.{child_fits}
use Rattle.record_writing.specs.Values.{entries_of}
use Rattle.record_writing.specs.Lent.{Lent, opt_counts, values_of}
use Rattle.record_writing.specs.Written.{written}
use Rattle.diag_writing.specs.Pieces.{Placeable, Counted, ListLies}
use Rattle.diag_writing.specs.Checks.{passed_prefix, passed_list}
use Rattle.writing_walks.specs.declared.Prefixes.{Prefixes}
use Rattle.writing_walks.specs.declared.Lists.{Lists}
use Rattle.writing_walks.specs.declared.Used.{Used}
use Rattle.writing_walks.specs.declared.Plan.{Plan}
use Rattle.writing_plans.specs.Used.{counts_in, no_prefixes, no_lists, used_of}

-- what was found in one pass over each table
pub record Scanned (r : NetDiagData) (l : Lent) (t : Route64) (x : Used) (f : Prefixes) (h b c : Bool) (ls : Lists) : Type 0 where
  pub used :
      x ≡ used_of r (length l.bytes) (length l.prefixes) (length l.routes) (length l.borders) (length l.children) (length l.lists) x.room
  pub route64 : t ≡ l.route64
  pub prefixes : f ≡ fold passed_prefix no_prefixes (take x.prefixes l.prefixes)
  pub routes : h ≡ all route_fits (take x.routes l.routes)
  pub borders : b ≡ all border_fits (take x.borders l.borders)
  pub children : c ≡ all child_fits (take x.children l.children)
  pub lists : ls ≡ fold passed_list (no_lists (length l.bytes)) (take x.lists l.lists)

-- as many rows as are counted, none where there is no count
abbrev pub Rows : Answer Counts → (prefixes : ℕ) → Type 0
Rows (given c) k = k ≡ c.prefixes
Rows absent k = k ≡ 0
Rows (refused n p i) k = k ≡ 0

abbrev pub Thirds : Answer Part → (children : ℕ) → Type 0
Thirds (given q) k = (k ≡ q.len / 3) × (q.len ≡ k * 3)
Thirds absent k = k ≡ 0
Thirds (refused n p i) k = k ≡ 0

-- all is known that writing leans on
pub record Goes (r : NetDiagData) (l : Lent) (room : ℕ) (x : Plan) : Type 0 where
  pub bytes : written r l ≡ given (encode_all (entries_of (values_of r l)))
  pub fits : length (encode_all (entries_of (values_of r l))) ≤ room
  pub answer : answer_of x.answer ≡ given (length (encode_all (entries_of (values_of r l))))
  pub placeable : Placeable r l.bytes
  pub counted : Counted (option_of r.route64) l.route64
  pub prefixes : Rows (opt_counts r.network_data) x.prefixes
  pub prefixes_lent : x.prefixes ≤ length l.prefixes
  pub routes_are : routes_asked (take x.prefixes l.prefixes) ≡ (counts_in r.network_data).has_routes
  pub routes_lent : (counts_in r.network_data).has_routes ≤ length l.routes
  pub routes_few : (counts_in r.network_data).has_routes ≤ most_has_routes
  pub borders_are : borders_asked (take x.prefixes l.prefixes) ≡ (counts_in r.network_data).border_routers
  pub borders_lent : (counts_in r.network_data).border_routers ≤ length l.borders
  pub borders_few : (counts_in r.network_data).border_routers ≤ most_border_routers
  pub network : x.network ≡ length (network_bytes (prefixes_of (take x.prefixes l.prefixes) l.routes l.borders))
  pub network_short : x.network ≤ most_value
  pub children : Thirds (option_of r.child_table) x.children
  pub children_lent : x.children ≤ length l.children
  pub lists : x.lists ≡ r.child_ipv6_addresses
  pub lists_lent : x.lists ≤ length l.lists
  pub lists_lie : Every (ListLies l.bytes) (take x.lists l.lists)

-- nothing is written
pub record Stops (r : NetDiagData) (l : Lent) (room : ℕ) (x : Plan) : Type 0 where
  pub emits : (o : List ℕ) → length o ≡ room → output (answer_of x.answer) o ≡ emit (written r l) o
  pub prefixes : x.prefixes ≡ 0
  pub network : x.network ≡ 0
  pub children : x.children ≡ 0
  pub lists : x.lists ≡ 0

pub record Planned (r : NetDiagData) (l : Lent) (room : ℕ) (x : Plan) : Type 0 where
  pub answer : (o : List ℕ) → length o ≡ room → answer_of x.answer ≡ (emit (written r l) o).answer
  pub goes : x.go ≡ true → Goes r l room x
  pub stops : x.go ≡ false → Stops r l room x

-- THE promise of the plan
abbrev pub Judged : NetDiagData → Route64 → Used → Prefixes → (routes borders children : Bool) → Lists → Plan → Type 0
Judged r t x f h b c ls q = (l : Lent) → Scanned r l t x f h b c ls → Planned r l x.room q

-- ---- the record that is written: none of its fields where nothing is
abbrev pub nothing : NetDiagData
nothing = record {
  ext_mac_addr = None;
  mac_addr = None;
  mode = None;
  timeout = None;
  connectivity = None;
  route64 = None;
  leader_data = None;
  network_data = None;
  addresses = None;
  mac_counters = None;
  battery_level = None;
  supply_voltage = None;
  child_table = None;
  channel_pages = None;
  type_list = None;
  eui64 = None;
  child_ipv6_addresses = 0;
}

abbrev pub chosen_of : Plan → NetDiagData → NetDiagData
chosen_of x r = pick x.go r nothing
