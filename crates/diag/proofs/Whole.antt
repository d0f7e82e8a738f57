-- What is collected from a payload all of whose entries decode is what it says.
-- Assumes nothing.
use mathlib.Core.Path.{◌≡◌, refl, sym, ap, ◌∙◌}
use mathlib.Core.List.{List, [], ◌∷◌}
use Prim.Native.Nat.{ℕ}
use native.Mathlib.Omega.{arith}
use lib.ListN.{length, length-map}
use lib.Dec.{eqb}
use borrow.Author.Tests.{eqb-true}
use Rattle.refusal.specs.Answer.{pick, Answer, given, absent, refused, on_given}
use Rattle.refusal.specs.Every.{Every}
use Rattle.refusal.specs.Results.{option_of}
use Rattle.laws.proofs.Tests.{pick_all}
use Rattle.wire.specs.Be.{be}
use Rattle.tlv.specs.Entries.{Entry, framing}
use Rattle.tlv_last.specs.Last.{spot, last_of}
use Rattle.tlv_last.specs.declared.Spot.{Spot}
use Rattle.tlv.proofs.Walks.{Lies, framing_lies}
use Rattle.network_data.specs.Decode.{Prefix, contents, decode_network_data}
use Rattle.network_data.proofs.Counted.{is_contents}
use Rattle.diag_values.specs.Values.{mode_value, leader_of, counters_of}
use Rattle.connectivity.specs.Connectivity.{connectivity_of}
use Rattle.route64.specs.Routes.{route_of}
use Rattle.diag_rows.specs.Rows.{child_rows, addresses}
use Rattle.diag_entries.specs.Parts.{last, all_of, said}
use Rattle.diag_entries.specs.Checked.{entry_value}
use Rattle.diag_entries.specs.Lists.{address_lists}
use Rattle.diag_entries.specs.Answers.{said_at}
use Rattle.diag.specs.Diag.{network_data_of, raw, byte_of, diag}
use Rattle.diag.specs.Answers.{opt_connectivity, opt_network_data, diag_of}
use Rattle.diag.specs.Loops.{last_in, InPayload, or_none, read_at, network_at, part_of, collected}
use Rattle.diag.specs.declared.NetDiagData.{NetDiagData}
use Rattle.diag_entries.proofs.Checks.{Decodes, entry_network, entry_other}
use Rattle.diag_entries.proofs.Sound.{Of, Sound, all_sound}

-- ---- what holds of each entry of a type holds of the last
last_by : (ty : ℕ) (P : Entry → Type 0) (best : Answer Entry) (es : List Entry) → Of P best → Every (λ e. e.ty ≡ ty → P e) es → Of P (last_of ty best es)
unfolding last_of
last_by ty P best [] b h = b
last_by ty P best (e ∷ es) b h =
    last_by ty P (pick (eqb e.ty ty) (given e) best) es
    (pick_all (Of P) (eqb e.ty ty) (given e) best (λ t. h.0 (eqb-true _ _ t)) (λ t. b)) h.1

-- the value of the last, if there is one, lies within the payload
lies_by : (s : List ℕ) (ty : ℕ) (es : List Entry) → Every (Lies s) es → Every (λ e. e.ty ≡ ty → Lies s e) es
lies_by s ty [] h = tt
lies_by s ty (e ∷ es) h = (λ t. h.0, lies_by s ty es h.1)

in_by : (s : List ℕ) (x : Answer Entry) → Of (Lies s) x → InPayload s (on_given spot x)
in_by s (given e) h = h.1
in_by s absent h = tt
in_by s (refused n p i) h = absurd h

pub last_lies : (s : List ℕ) (ty : ℕ) → Of (Lies s) (last ty (framing s).entries)
last_lies s ty = last_by ty (Lies s) absent (framing s).entries tt (lies_by s ty (framing s).entries (framing_lies s))

pub last_inside : (s : List ℕ) (ty : ℕ) (x : Answer Spot) → x ≡ last_in ty s → InPayload s x
last_inside s ty x e = rw e (in_by s (last ty (framing s).entries) (last_lies s ty))

-- ---- a value that is read, one that stays, and Network Data
module _ (s : List ℕ) where
  pub says_is : {A : Type 0} (ty : ℕ) (f : List ℕ → A) → (ty ≡ 7 → ⊥) → (x : Answer Entry) → Of (Sound s ty) x
      → read_at ty f s (on_given spot x) ≡ on_given (λ (e : Entry). f e.value) x
  unfolding read_at or_none
  says_is ty f h (given e) k = rw (← k.0.2, sym (entry_other ty e.place e.value h) ∙ k.1)
  says_is ty f h absent k = refl
  says_is ty f h (refused n p i) k = absurd k

  pub part_is : {A : Type 0} (ty : ℕ) (f : List ℕ → A) (x : Answer Entry) → Of (Sound s ty) x
      → on_given (said_at f s) (on_given part_of (on_given spot x)) ≡ on_given (said f) x
  part_is ty f (given e) k = rw (← k.0.2)
  part_is ty f absent k = refl
  part_is ty f (refused n p i) k = absurd k

-- Network Data that decodes gives what is there
given_by : (v : List ℕ) (a : Answer (List Prefix)) → ((ps : List Prefix) → a ≡ given ps → ps ≡ contents v)
    → on_given (λ (ps : List Prefix). v) a ≡ given v → a ≡ given (contents v)
given_by v (given ps) h e = ap given (h ps refl)
given_by v absent h e = absurd (let z : ◌≡◌ {A = ℕ} 0 1 = cc in omega arith)
given_by v (refused n p i) h e = absurd (let z : ◌≡◌ {A = ℕ} 0 1 = cc in omega arith)

network_given : (place : ℕ) (v : List ℕ) → entry_value 7 place v ≡ given v → decode_network_data place v ≡ given (contents v)
network_given place v e =
    given_by v (decode_network_data place v) (is_contents place v) (sym (entry_network 7 place v refl) ∙ e)

network_is : (s : List ℕ) (x : Answer Entry) → Of (Sound s 7) x → network_at s (on_given spot x) ≡ on_given (said network_data_of) x
unfolding network_at or_none
network_is s (given e) k =
    rw (← k.0.2, network_given e.place e.value k.1)
network_is s absent k = refl
network_is s (refused n p i) k = absurd k

module _ (s : List ℕ) (d : Every Decodes (framing s).entries) where
  sound : (ty : ℕ) → Of (Sound s ty) (last ty (framing s).entries)
  sound ty = last_by ty (Sound s ty) absent (framing s).entries tt (all_sound s ty (framing s).entries (framing_lies s) d)

  says : {A : Type 0} (ty : ℕ) (f : List ℕ → A) → (ty ≡ 7 → ⊥)
      → read_at ty f s (on_given spot (last ty (framing s).entries)) ≡ on_given (λ (e : Entry). f e.value) (last ty (framing s).entries)
  says ty f h = says_is s ty f h (last ty (framing s).entries) (sound ty)

  stays : {A : Type 0} (ty : ℕ) (f : List ℕ → A)
      → on_given (said_at f s) (on_given part_of (on_given spot (last ty (framing s).entries))) ≡ on_given (said f) (last ty (framing s).entries)
  stays ty f = part_is s ty f (last ty (framing s).entries) (sound ty)

  pub collected_is : collected s ≡ diag (framing s).entries
  unfolding collected diag address_lists
  collected_is =
      simp (
        stays 0 raw,
        says 1 be (λ z. omega arith),
        says 2 mode_value (λ z. omega arith),
        says 3 be (λ z. omega arith),
        says 4 connectivity_of (λ z. omega arith),
        stays 5 route_of,
        says 6 leader_of (λ z. omega arith),
        network_is s (last 7 (framing s).entries) (sound 7),
        stays 8 addresses,
        says 9 counters_of (λ z. omega arith),
        says 14 byte_of (λ z. omega arith),
        says 15 be (λ z. omega arith),
        stays 16 child_rows,
        stays 17 raw,
        stays 18 raw,
        stays 23 raw,
        length-map,
      )

-- ---- the record that `collect` makes, by its fields
pub made : (s : List ℕ) (r : NetDiagData)
    → option_of r.ext_mac_addr ≡ on_given part_of (last_in 0 s)
    → option_of r.mac_addr ≡ read_at 1 be s (last_in 1 s)
    → option_of r.mode ≡ read_at 2 mode_value s (last_in 2 s)
    → option_of r.timeout ≡ read_at 3 be s (last_in 3 s)
    → opt_connectivity r.connectivity ≡ read_at 4 connectivity_of s (last_in 4 s)
    → option_of r.route64 ≡ on_given part_of (last_in 5 s)
    → option_of r.leader_data ≡ read_at 6 leader_of s (last_in 6 s)
    → opt_network_data s r.network_data ≡ network_at s (last_in 7 s)
    → option_of r.addresses ≡ on_given part_of (last_in 8 s)
    → option_of r.mac_counters ≡ read_at 9 counters_of s (last_in 9 s)
    → option_of r.battery_level ≡ read_at 14 byte_of s (last_in 14 s)
    → option_of r.supply_voltage ≡ read_at 15 be s (last_in 15 s)
    → option_of r.child_table ≡ on_given part_of (last_in 16 s)
    → option_of r.channel_pages ≡ on_given part_of (last_in 17 s)
    → option_of r.type_list ≡ on_given part_of (last_in 18 s)
    → option_of r.eui64 ≡ on_given part_of (last_in 23 s)
    → r.child_ipv6_addresses ≡ length (all_of 30 (framing s).entries)
    → diag_of s r ≡ collected s
unfolding diag_of collected
made s r e0 e1 e2 e3 e4 e5 e6 e7 e8 e9 e14 e15 e16 e17 e18 e23 e30 =
    simp (e0, e1, e2, e3, e4, e5, e6, e7, e8, e9, e14, e15, e16, e17, e18, e23, e30)
