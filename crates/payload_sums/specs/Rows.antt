-- What the rows of a diagnostic record say as one number: the sum of their fields, modulo 2^64, each row as the call that hands it out gives it.
-- Assumes nothing.
use Rattle.std.specs.Prelude.{◌≡◌, ℕ, zero, suc, ◌+◌, ◌/◌, ◌≤◌, List, [], ◌∷◌, length, get_or, take, drop}
use Rattle.refusal.specs.Answer.{Answer, given, absent, refused, then_do, on_given}
use Rattle.tlv.specs.Entries.{Entry, framing}
use Rattle.route64.specs.Routes.{route_row, route_of, laid_out}
use Rattle.refusal.specs.Numbered.{nth}
use Rattle.diag_rows.specs.Rows.{child_rows, addresses, or_empty, address_list_of}
use Rattle.diag_rows.specs.declared.Part.{Part}
use Rattle.diag_rules.specs.Rule.{value_of}
use Rattle.route64.specs.declared.RouteDataEntry.{RouteDataEntry}
use Rattle.route64.specs.declared.Route64.{Route64}
use Rattle.diag_rows.specs.declared.ChildTableEntry.{ChildTableEntry}
use Rattle.diag_rows.specs.declared.ChildIpv6AddrInfo.{ChildIpv6AddrInfo}
use Rattle.diag_entries.specs.Parts.{Said, all_of}
use Rattle.diag.specs.Diag.{Diag}
use Rattle.diag_entries.specs.Answers.{bytes_at}
use Rattle.value_sums.specs.Sums.{plus, onto, mode_sum}
use Rattle.payload_sums.specs.Sums.{or_zero, values_sum, parts_sum}

-- f 0, f 1, .. f (n - 1) added up
unfoldable pub summed : (ℕ → ℕ) → (n : ℕ) → ℕ
summed f zero = 0
summed f (suc n) = plus (summed f n) (f n)

unfoldable pub route_sum : RouteDataEntry → ℕ
route_sum r = onto 0 (r.router_id ∷ r.outgoing_link_quality ∷ r.incoming_link_quality ∷ r.route_cost ∷ [])

abbrev pub mask_sum : List ℕ → ℕ
mask_sum mask = summed (λ k. get_or mask k 0) 8

-- all 64 rows: those past the count are zeros
abbrev pub routes_sum : List RouteDataEntry → ℕ
routes_sum rows = summed (λ k. route_sum (get_or rows k (route_row 0 0))) 64

-- of a Route64 that was handed out as many as it counts are enough
abbrev pub Counted : List RouteDataEntry → (count : ℕ) → Type 0
Counted rows n = (n ≤ 64) × (summed (λ k. route_sum (get_or rows k (route_row 0 0))) n ≡ routes_sum rows)

unfoldable pub route64_sum : Route64 → ℕ
route64_sum r = onto 0 (r.id_sequence ∷ mask_sum r.mask ∷ routes_sum r.route_data ∷ [])

abbrev pub routes : List ℕ → ℕ
routes v = route64_sum (laid_out (on_given route_of (value_of 5 0 v)))

unfoldable pub child_sum : ChildTableEntry → ℕ
child_sum c = onto 0 (c.timeout_exponent ∷ c.incoming_link_quality ∷ c.child_id ∷ mode_sum c.mode ∷ [])

abbrev pub child_at : List ℕ → ℕ → ℕ
child_at v k = or_zero child_sum (then_do (value_of 16 0 v) (λ (w : List ℕ). nth (child_rows w) k))

abbrev pub children : List ℕ → ℕ
children v = summed (child_at v) (length v / 3)

-- of an address the last byte
abbrev pub address_at : List ℕ → ℕ → ℕ
address_at v k = get_or (or_empty (then_do (value_of 8 0 v) (λ (w : List ℕ). nth (addresses w) k))) 15 0

abbrev pub addresses_sum : List ℕ → ℕ
addresses_sum v = summed (address_at v) (length v / 16)

unfoldable pub list_sum : List ℕ → ChildIpv6AddrInfo → ℕ
list_sum v x = onto 0 (x.rloc16 ∷ x.child_id ∷ addresses_sum (take x.len (drop x.start v)) ∷ [])

abbrev pub list_of : List ℕ → ℕ
list_of v = or_zero (list_sum v) (on_given address_list_of (value_of 30 0 v))

abbrev pub lists_onto : ℕ → List Entry → ℕ
lists_onto n [] = n
lists_onto n (e ∷ es) = lists_onto (plus n (list_of e.value)) es

abbrev pub lists : List ℕ → ℕ
lists s = lists_onto 0 (all_of 30 (framing s).entries)

-- what f says of a value that is a part of s
abbrev pub in_part : (List ℕ → ℕ) → List ℕ → Part → ℕ
in_part f s p = f (bytes_at s p.start p.len)

abbrev pub of_part : {A : Type 0} → (List ℕ → ℕ) → List ℕ → Answer (Said A) → ℕ
of_part {A} f s a = or_zero (λ (x : Said A). f (bytes_at s x.start x.len)) a

-- a record of s and all its rows, but those of Network Data
unfoldable pub payload_sum : List ℕ → Diag → ℕ
payload_sum s d =
    onto 0 (values_sum d ∷ parts_sum d ∷ of_part routes s d.route64 ∷ of_part children s d.child_table ∷ of_part addresses_sum s d.addresses ∷ lists s ∷ [])

-- the part, if there is one, lies within s
abbrev pub Inside : List ℕ → Answer Part → Type 0
Inside s (given p) = p.start + p.len ≤ length s
Inside s absent = Unit {0}
Inside s (refused n q i) = Unit {0}
