-- Sums over rows and address lists, a turn at a time.
-- Assumes nothing.
use mathlib.Core.Path.{◌≡◌, refl, sym, ap, ◌∙◌}
use mathlib.Core.List.{List, [], ◌∷◌}
use denote.Bor.{Bor}
use Prim.Native.Nat.{ℕ, zero, suc, ◌+◌, ◌≤◌}
use native.Mathlib.Omega.{arith}
use lib.ListN.{length, get_or}
use Rattle.std.specs.Prelude.{Option, Some, None, MatchOption}
use Rattle.refusal.specs.Answer.{Answer, given, absent, refused, on_given}
use Rattle.refusal.specs.Results.{option_of}
use Rattle.tlv.specs.Entries.{Entry, framing}
use Rattle.route64.specs.Routes.{route_of}
use Rattle.diag_rows.specs.Rows.{child_rows, addresses, address_list_of}
use Rattle.diag_rows.specs.declared.Part.{Part}
use Rattle.diag_rules.specs.Rule.{value_of}
use Rattle.diag_rules.specs.Answers.{judged}
use Rattle.diag_rows.specs.declared.ChildIpv6AddrInfo.{ChildIpv6AddrInfo}
use Rattle.diag_rules.proofs.Kept.{kept, list_size}
use Rattle.diag_entries.specs.Parts.{Said, all_of, last_part}
use Rattle.diag_entries.proofs.Lasts.{all_hit, all_miss, all_none}
use Rattle.diag.specs.Diag.{Diag, diag, decode}
use Rattle.diag_entries.specs.Answers.{bytes_at, said_at}
use Rattle.diag.specs.Answers.{diag_of}
use Rattle.diag.specs.declared.NetDiagData.{NetDiagData}
use Rattle.diag.proofs.Callers.{decoded_given, part_there}
use Rattle.payload_sums.specs.Sums.{or_zero}
use Rattle.payload_sums.specs.Rows.{summed, list_of, lists_onto, in_part, of_part, Inside}
use Rattle.value_sums.specs.Sums.{plus}
use Rattle.value_sums.proofs.Adds.{adds}
use Rattle.payload_sums.proofs.Sizes.{said_part}

-- ---- a loop over numbered rows
pub summed_more : (f : ℕ → ℕ) (n k m x : ℕ) → n ≡ summed f k → m ≡ plus n x → x ≡ f k → m ≡ summed f (k + 1)
unfolding summed
summed_more f n k m x inv e h =
    let z : suc k ≡ k + 1 = omega arith in
    adds e inv h ∙ ap (summed f) z

pub summed_done : (f : ℕ → ℕ) (n k rows : ℕ) → n ≡ summed f k → k ≡ rows → n ≡ summed f rows
summed_done f n k rows inv e = inv ∙ ap (summed f) e

-- ---- a loop over the lists of a payload
module _ (l es : List Entry) (e : Entry) (is : l ≡ e ∷ es) (n x : ℕ) (inv : lists_onto n (all_of 30 l) ≡ x) where
  pub lists_more : e.ty ≡ 30 → (m : ℕ) → m ≡ plus n (list_of e.value) → lists_onto m (all_of 30 es) ≡ x
  lists_more h m k = ap (λ (i : ℕ). lists_onto i (all_of 30 es)) k ∙ ap (lists_onto n) (sym (ap (all_of 30) is ∙ all_hit 30 e es h)) ∙ inv

  pub lists_other : (e.ty ≡ 30 → ⊥) → lists_onto n (all_of 30 es) ≡ x
  lists_other h = ap (lists_onto n) (sym (ap (all_of 30) is ∙ all_miss 30 e es h)) ∙ inv

pub lists_done : (l : List Entry) (n x : ℕ) → l ≡ [] → lists_onto n (all_of 30 l) ≡ x → n ≡ x
lists_done l n x none inv = ap (lists_onto n) (sym (ap (all_of 30) none ∙ all_none 30)) ∙ inv

-- ---- the addresses of a list lie within its value
module _ (v : List ℕ) (x : ChildIpv6AddrInfo) where
  keeps_by : (a : Answer (List ℕ)) → given x ≡ on_given address_list_of a → given tt ≡ judged a
  keeps_by (given w) e = refl
  keeps_by absent e = absurd (let z : ◌≡◌ {A = ℕ} 0 1 = cc in omega arith)
  keeps_by (refused n q i) e = absurd (let z : ◌≡◌ {A = ℕ} 0 1 = cc in omega arith)

  pub list_inside : given x ≡ on_given address_list_of (value_of 30 0 v) → x.start + x.len ≤ length v
  list_inside e =
      let keeps = keeps_by (value_of 30 0 v) e in
      let same : given x ≡ given (address_list_of v) = e ∙ ap (on_given address_list_of) (kept 30 0 v keeps).0 in
      let is : x ≡ address_list_of v = cc in
      let size = list_size 0 v keeps in
      let starts = ap (λ (y : ChildIpv6AddrInfo). y.start) is in
      let long = ap (λ (y : ChildIpv6AddrInfo). y.len) is in
      omega (arith, size, starts, long)

-- ---- an address that is not there
pub past : (l : List ℕ) (k : ℕ) → length l ≤ k → 0 ≡ get_or l k 0
past [] k h = refl
past (x ∷ l) zero h = absurd (omega arith)
past (x ∷ l) (suc k) h = past l k (omega arith)

-- ---- the parts of a record lie within the payload
-- what f, which says g of every value, makes of one that is a part
pub part_by : (g : List ℕ → ℕ) (s : List ℕ) (post : Bor (List ℕ) → ℕ → Type 0) → ((v : Bor (List ℕ)) (r : ℕ) → post v r → r ≡ g v.now) → (x : Option Part) (r : ℕ)
    → MatchOption x (r ≡ 0) (λ (p : Part). (v : Bor (List ℕ)) × post v r × (v.now ≡ bytes_at s p.start p.len)) → r ≡ or_zero (in_part g s) (option_of x)
part_by g s post each (Some p) r h = each h.0 r h.1 ∙ ap g h.2
part_by g s post each None r h = h

inside_by : {A : Type 0} (f : List ℕ → A) (s : List ℕ) (ty : ℕ) (x y : Option Part) → x ≡ y
    → on_given (said_at f s) (option_of x) ≡ last_part ty f (framing s).entries → Inside s (option_of y)
inside_by f s ty x (Some p) e is = (part_there f s ty x is p.start p.len e).0
inside_by f s ty x None e is = tt

module _ (s : List ℕ) (d : NetDiagData) (told : given (diag_of s d) ≡ decode s) where
  pub routes_inside : Inside s (option_of d.route64)
  unfolding diag_of diag
  routes_inside = inside_by route_of s 5 d.route64 d.route64 refl (ap (λ (x : Diag). x.route64) (decoded_given s d told).2)

  pub children_inside : Inside s (option_of d.child_table)
  unfolding diag_of diag
  children_inside = inside_by child_rows s 16 d.child_table d.child_table refl (ap (λ (x : Diag). x.child_table) (decoded_given s d told).2)

  pub addresses_inside : Inside s (option_of d.addresses)
  unfolding diag_of diag
  addresses_inside = inside_by addresses s 8 d.addresses d.addresses refl (ap (λ (x : Diag). x.addresses) (decoded_given s d told).2)

-- what is said of the value that is a part
pub of_part_lem : {A : Type 0} (f : List ℕ → A) (s : List ℕ) (g : List ℕ → ℕ) (a : Answer Part) → or_zero (in_part g s) a ≡ of_part g s (on_given (said_at f s) a)
of_part_lem {A} f s g a = said_part f s (λ (x : Said A). g (bytes_at s x.start x.len)) (in_part g s) (λ p. refl) a
