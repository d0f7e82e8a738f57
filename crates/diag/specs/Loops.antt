-- What the private functions promise: no public contract cites it.
-- Assumes nothing.
use Rattle.std.specs.Prelude.{◌≡◌, ℕ, ◌+◌, ◌≤◌, ◌<◌, List, length, get_or, Option, Some, None, Result}
use Rattle.std.specs.Result.{result_ok}
use denote.Bor.{Bor}
use Rattle.refusal.specs.Answer.{Answer, given, absent, refused, then_do, on_given}
use Rattle.refusal.specs.Results.{option_of}
use Rattle.refusal.specs.declared.Refusal.{Refusal}
use Rattle.wire.specs.Be.{be}
use Rattle.tlv.specs.Entries.{framing}
use Rattle.tlv_last.specs.Last.{spot}
use Rattle.tlv_last.specs.declared.Spot.{Spot}
use Rattle.network_data.specs.Decode.{Prefix, contents, counts_of, decode_network_data}
use Rattle.diag_values.specs.Values.{mode_value, leader_of, counters_of}
use Rattle.connectivity.specs.Connectivity.{connectivity_of}
use Rattle.route64.specs.Routes.{route_of}
use Rattle.diag_rows.specs.Rows.{part, child_rows, addresses}
use Rattle.diag_rows.specs.declared.Part.{Part}
use Rattle.diag_rules.specs.Rule.{value_of}
use Rattle.diag_entries.specs.Parts.{last, all_of, Said}
use Rattle.diag_entries.specs.Answers.{bytes_at, said_at}
use Rattle.diag.specs.Diag.{NetworkDataValue, raw, byte_of, Diag}
use Rattle.diag.specs.declared.Places.{Places}

-- where the last entry of a type lies, by the table
abbrev pub spot_of : Places → (ty : ℕ) → Answer Spot
spot_of p t = option_of (get_or p.last t None)

-- where the last entry of a type lies in s
abbrev pub last_in : (ty : ℕ) → List ℕ → Answer Spot
last_in ty s = on_given spot (last ty (framing s).entries)

-- the table holds, for each type below 32, where its last entry in s lies, and how many entries have type 30
pub record Located (p : Places) (s : List ℕ) : Type 0 where
  pub is : (t : ℕ) → t < 32 → spot_of p t ≡ last_in t s
  pub many : p.lists ≡ length (all_of 30 (framing s).entries)

-- the value, if there is one, lies within s
abbrev pub InPayload : List ℕ → Answer Spot → Type 0
InPayload s (given q) = q.start + q.len ≤ length s
InPayload s absent = Unit {0}
InPayload s (refused n p i) = Unit {0}

-- a value that is refused is not there: it does not occur in a payload that was checked
unfoldable pub or_none : {A : Type 0} → Answer A → Answer A
or_none (given x) = given x
or_none absent = absent
or_none (refused n p i) = absent

-- what f says of the value at a spot of s, where it keeps the rule of its type
unfoldable pub read_at : {A : Type 0} → (ty : ℕ) → (List ℕ → A) → List ℕ → Answer Spot → Answer A
read_at ty f s x = or_none (then_do x (λ (q : Spot). on_given f (value_of ty q.place (bytes_at s q.start q.len))))

-- what is made of the value at a spot by a reader that may give x of a value and a place
abbrev pub ReadBy : {A : Type 0} → (Bor (List ℕ) → ℕ → Result A Refusal → Type 0) → List ℕ → Option Spot → Option A → Type 0
ReadBy reads s None r = r ≡ None
ReadBy {A} reads s (Some q) r = (v : Bor (List ℕ)) × (v.now ≡ bytes_at s q.start q.len) × (x : Result A Refusal) × reads v q.place x × (r ≡ result_ok x)

-- what the definition says of Network Data there
unfoldable pub network_at : List ℕ → Answer Spot → Answer (Said NetworkDataValue)
network_at s x =
    or_none
    (then_do x
    (λ (q : Spot).
    on_given
    (λ (ps : List Prefix). record {
      start = q.start;
      len = q.len;
      says = record { prefixes = contents (bytes_at s q.start q.len); counts = counts_of ps };
    })
    (decode_network_data q.place (bytes_at s q.start q.len))))

abbrev pub part_of : Spot → Part
part_of q = part q.start q.len

-- the record of any payload, whether or not it is refused
unfoldable pub collected : List ℕ → Diag
collected s = record {
  ext_mac_addr = on_given (said_at raw s) (on_given part_of (last_in 0 s));
  mac_addr = read_at 1 be s (last_in 1 s);
  mode = read_at 2 mode_value s (last_in 2 s);
  timeout = read_at 3 be s (last_in 3 s);
  connectivity = read_at 4 connectivity_of s (last_in 4 s);
  route64 = on_given (said_at route_of s) (on_given part_of (last_in 5 s));
  leader_data = read_at 6 leader_of s (last_in 6 s);
  network_data = network_at s (last_in 7 s);
  addresses = on_given (said_at addresses s) (on_given part_of (last_in 8 s));
  mac_counters = read_at 9 counters_of s (last_in 9 s);
  battery_level = read_at 14 byte_of s (last_in 14 s);
  supply_voltage = read_at 15 be s (last_in 15 s);
  child_table = on_given (said_at child_rows s) (on_given part_of (last_in 16 s));
  channel_pages = on_given (said_at raw s) (on_given part_of (last_in 17 s));
  type_list = on_given (said_at raw s) (on_given part_of (last_in 18 s));
  eui64 = on_given (said_at raw s) (on_given part_of (last_in 23 s));
  child_lists = length (all_of 30 (framing s).entries);
}
