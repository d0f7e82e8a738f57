-- Rows as they are written are read again: the places of a row TLV's rows hold them.
-- Assumes nothing.
use mathlib.Core.Path.{◌≡◌, refl, ap, ◌∙◌}
use mathlib.Core.Bool.{true}
use mathlib.Core.List.{List, [], ◌∷◌, map}
use Prim.Native.Nat.{ℕ, ◌+◌, ◌*◌, ◌/◌, ◌%◌, ◌≤◌, ◌<◌}
use native.Mathlib.Omega.{arith}
use native.Mathlib.Nat.{div-add-mod', mod-eq_of_lt}
use lib.ListN.{length, get_or}
use lib.Dec.{leb}
use borrow.Author.Tests.{leb-true}
use Rattle.refusal.specs.Every.{Every}
use Rattle.refusal.specs.Answer.{pick}
use Rattle.refusal.specs.Each.{joined, bit}
use Rattle.laws.proofs.Bits.{bit_times, bit_small, bit_at, bit_is, above, bit_of}
use Rattle.laws.proofs.Stands.{Stands, stands_first, stands_front, stands_back}
use Rattle.network_data.specs.Decode.{route_at, border_at, context_at, row_places}
use Rattle.network_data.specs.declared.HasRouteEntry.{HasRouteEntry}
use Rattle.network_data.specs.declared.BorderRouterEntry.{BorderRouterEntry}
use Rattle.network_data.specs.declared.SixLowPanContext.{SixLowPanContext}
use Rattle.network_writing.specs.Encode.{route_flags, route_bytes, border_flags, more_flags, border_bytes, context_bytes}
use Rattle.network_writing.specs.Fits.{route_fits, border_fits}

-- six flags under a field
flag_bits : (x q p s d c r o : ℕ) → p ≤ 1 → s ≤ 1 → d ≤ 1 → c ≤ 1 → r ≤ 1 → o ≤ 1 → x ≡ q * 64 + p * 32 + s * 16 + d * 8 + c * 4 + r * 2 + o
    → (x / 64 ≡ q) × (x / 32 % 2 ≡ p) × (x / 16 % 2 ≡ s) × (x / 8 % 2 ≡ d) × (x / 4 % 2 ≡ c) × (x / 2 % 2 ≡ r) × (x % 2 ≡ o)
flag_bits x q p s d c r o hp hs hd hc hr ho e = (
  above 64 x q (p * 32 + s * 16 + d * 8 + c * 4 + r * 2 + o) (omega arith) (omega arith),
  bit_of 32 x q p (s * 16 + d * 8 + c * 4 + r * 2 + o) (omega arith) hp (omega arith),
  bit_of 16 x (q * 2 + p) s (d * 8 + c * 4 + r * 2 + o) (omega arith) hs (omega arith),
  bit_of 8 x (q * 4 + p * 2 + s) d (c * 4 + r * 2 + o) (omega arith) hd (omega arith),
  bit_of 4 x (q * 8 + p * 4 + s * 2 + d) c (r * 2 + o) (omega arith) hc (omega arith),
  bit_of 2 x (q * 16 + p * 8 + s * 4 + d * 2 + c) r o (omega arith) hr (omega arith),
  omega arith,
)

module _ {A : Type 0} (k : ℕ) (enc : A → List ℕ) (size : (x : A) → length (enc x) ≡ k) where
  module _ (s : List ℕ) (f : ℕ → A) (Good : A → Type 0) (back : (x : A) (at : ℕ) → Good x → Stands s at (enc x) → f at ≡ x) where
    pub rows_back : (xs : List A) (at : ℕ) → Every Good xs → Stands s at (joined enc xs) → map f (row_places k at (length xs)) ≡ xs
    unfolding joined row_places
    rows_back [] at g h = refl
    rows_back (x ∷ xs) at g h =
        let n : at + k ≡ at + length (enc x) = omega (arith, size x) in
        let one = back x at g.0 (stands_front s at (enc x) (joined enc xs) h) in
        let more = rows_back xs (at + k) g.1 (stands_back s at (enc x) (joined enc xs) (at + k) n h) in
        ap (λ (y : A). y ∷ map f (row_places k (at + k) (length xs))) one ∙ ap (λ (l : List A). x ∷ l) more

-- ---- a row of each kind

pub route_size : (x : HasRouteEntry) → length (route_bytes x) ≡ 3
unfolding route_bytes
route_size x = refl

pub border_size : (x : BorderRouterEntry) → length (border_bytes x) ≡ 4
unfolding border_bytes
border_size x = refl

module _ (s : List ℕ) where
  pub route_back : (x : HasRouteEntry) (at : ℕ) → route_fits x ≡ true → Stands s at (route_bytes x) → route_at s at ≡ x
  unfolding route_bytes
  route_back x at g h =
      let upper = stands_first s at (x.rloc16 / 256) ((x.rloc16 % 256) ∷ route_flags x ∷ []) h in
      let lower : get_or s (at + 1) 0 ≡ x.rloc16 % 256 = h 1 (omega arith) in
      let flags : get_or s (at + 2) 0 ≡ route_flags x = h 2 (omega arith) in
      let few = leb-true x.router_preference 3 g in
      let n = bit_times x.is_nat64 32 in
      let m = bit_small x.is_nat64 in
      let rloc : get_or s at 0 * 256 + get_or s (at + 1) 0 ≡ x.rloc16 = omega arith in
      let preference : get_or s (at + 2) 0 / 64 ≡ x.router_preference = omega arith in
      let nat64 : get_or s (at + 2) 0 / 32 % 2 ≡ pick x.is_nat64 1 0 = omega arith in
      rw (rloc, preference, bit_is x.is_nat64 _ nat64)

  pub border_back : (x : BorderRouterEntry) (at : ℕ) → border_fits x ≡ true → Stands s at (border_bytes x) → border_at s at ≡ x
  unfolding border_bytes
  border_back x at g h =
      let upper = stands_first s at (x.rloc16 / 256) ((x.rloc16 % 256) ∷ border_flags x ∷ more_flags x ∷ []) h in
      let lower : get_or s (at + 1) 0 ≡ x.rloc16 % 256 = h 1 (omega arith) in
      let flags : get_or s (at + 2) 0 ≡ border_flags x = h 2 (omega arith) in
      let last : get_or s (at + 3) 0 ≡ more_flags x = h 3 (omega arith) in
      let few = leb-true x.prefix_preference 3 g in
      let p = bit_at x.is_preferred 32 in
      let a = bit_at x.is_slaac 16 in
      let d = bit_at x.is_dhcp 8 in
      let c = bit_at x.is_configure 4 in
      let r = bit_at x.is_default_route 2 in
      let o = bit_at x.is_on_mesh 1 in
      let n = bit_at x.is_nd_dns 128 in
      let e = bit_at x.is_dp 64 in
      let rloc : get_or s at 0 * 256 + get_or s (at + 1) 0 ≡ x.rloc16 = omega (arith, div-add-mod' x.rloc16 256) in
      let all =
      flag_bits (get_or s (at + 2) 0) (x.prefix_preference % 4) (pick x.is_preferred 1 0) (pick x.is_slaac 1 0) (pick x.is_dhcp 1 0)
      (pick x.is_configure 1 0) (pick x.is_default_route 1 0) (pick x.is_on_mesh 1 0)
      p.1 a.1 d.1 c.1 r.1 o.1 (flags ∙ rw (p.0, a.0, d.0, c.0, r.0)) in
      let n1 : get_or s (at + 3) 0 / 128 ≡ pick x.is_nd_dns 1 0 = above 128 _ _ (pick x.is_dp 1 0 * 64) (omega (arith, e.1)) (last ∙ rw (n.0, e.0)) in
      let e1 : get_or s (at + 3) 0 / 64 % 2 ≡ pick x.is_dp 1 0 = bit_of 64 _ (pick x.is_nd_dns 1 0) _ 0 (omega arith) e.1 (last ∙ rw (n.0, e.0) (omega arith)) in
      rw (rloc, all.0 ∙ mod-eq_of_lt (let k : x.prefix_preference < 4 = omega arith in k), bit_is x.is_preferred _ all.1, bit_is x.is_slaac _ all.2, bit_is x.is_dhcp _ all.3, bit_is x.is_configure _ all.4, bit_is x.is_default_route _ all.5, bit_is x.is_on_mesh _ all.6, bit_is x.is_nd_dns _ n1, bit_is x.is_dp _ e1)

  pub context_back : (x : SixLowPanContext) (at : ℕ) → leb x.context_id 15 ≡ true → Stands s at (context_bytes x) → context_at s at ≡ x
  context_back x at g h =
      let first = stands_first s at (bit x.is_compress 16 + x.context_id % 16) (x.context_length ∷ []) h in
      let second : get_or s (at + 1) 0 ≡ x.context_length = h 1 (omega arith) in
      let few = leb-true x.context_id 15 g in
      let n = bit_times x.is_compress 16 in
      let m = bit_small x.is_compress in
      let id : get_or s at 0 % 16 ≡ x.context_id = omega arith in
      let compress : get_or s at 0 / 16 % 2 ≡ pick x.is_compress 1 0 = bit_of 16 _ 0 _ (x.context_id % 16) (omega arith) m (first ∙ rw n (omega arith)) in
      rw (bit_is x.is_compress _ compress, id, second)
