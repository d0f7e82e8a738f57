-- How what a definition says is shown as numbers, so that all lines of the sheet are of one kind.
-- Assumes nothing.
use Rattle.std.specs.Prelude.{ℕ, List, [], ◌∷◌, ◌++◌, length}
use Rattle.refusal.specs.Answer.{Answer, on_given}
use Rattle.tlv.specs.Entries.{Entry}
use Rattle.timestamps.specs.Timestamps.{bit_of}
use Rattle.policy_flags.specs.declared.ThreadProtocolVersion.{ThreadProtocolVersion}
use Rattle.policy_flags.specs.declared.ThreadProtocolVersion.TheVariants as v
use Rattle.route64.specs.Routes.{route_rows}
use Rattle.diag_rows.specs.Rows.{child_rows, timeout_seconds}
use Rattle.route64.specs.declared.RouteDataEntry.{RouteDataEntry}
use Rattle.diag_rows.specs.declared.ChildTableEntry.{ChildTableEntry}
use Rattle.network_data.specs.Decode.{Prefix}

-- the numbers of each, one after the other
abbrev pub each : {A : Type 0} → (A → List ℕ) → List A → List ℕ
each f [] = []
each f (x ∷ xs) = f x ++ each f xs

-- an entry: type, place, start of its value, length of its value
abbrev pub entry_numbers : Entry → List ℕ
entry_numbers e = e.ty ∷ e.place ∷ e.start ∷ length e.value ∷ []

-- a version: its number, and 2 for `V1Or2`, which no other has
abbrev pub version_number : ThreadProtocolVersion → ℕ
version_number v.V1Or2 = 2
version_number v.V3 = 3
version_number v.V4 = 4
version_number v.V5 = 5
version_number v.V6 = 6
version_number v.V7 = 7
version_number v.V8 = 8
version_number v.V9 = 9
version_number v.V10 = 10

-- a row of a Route64: router, outgoing quality, incoming quality, cost
abbrev pub route_numbers : RouteDataEntry → List ℕ
route_numbers r = r.router_id ∷ r.outgoing_link_quality ∷ r.incoming_link_quality ∷ r.route_cost ∷ []

-- a child row: exponent, quality, ID, seconds, and 1 or 0 for "receiver on" and for "minimal device"
abbrev pub child_numbers : ChildTableEntry → List ℕ
child_numbers c =
    c.timeout_exponent
    ∷ c.incoming_link_quality
    ∷ c.child_id
    ∷ timeout_seconds c.timeout_exponent
    ∷ bit_of c.mode.rx_on_when_idle
    ∷ bit_of c.mode.is_mtd
    ∷ []

-- a prefix: domain, bit length, its bytes, how many HasRoute rows and how many BorderRouter rows
abbrev pub prefix_numbers : Prefix → List ℕ
prefix_numbers p = p.domain ∷ p.bits ∷ (p.bytes ++ (length p.routes ∷ length p.borders ∷ []))

-- ---- answers

abbrev pub entries_shown : Answer (List Entry) → Answer (List ℕ)
entries_shown a = on_given (each entry_numbers) a

-- the rows of a value whose length is right
abbrev pub routes_shown : Answer (List ℕ) → Answer (List ℕ)
routes_shown a = on_given (λ (v : List ℕ). each route_numbers (route_rows v)) a

abbrev pub children_shown : Answer (List ℕ) → Answer (List ℕ)
children_shown a = on_given (λ (v : List ℕ). each child_numbers (child_rows v)) a

abbrev pub prefixes_shown : Answer (List Prefix) → Answer (List ℕ)
prefixes_shown a = on_given (each prefix_numbers) a
