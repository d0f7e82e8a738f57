-- Tables that were filled from prefixes say those prefixes again, and ask for all their rows: `filled_back`, `filled_routes`, `filled_borders`.
-- Assumes nothing.
use mathlib.Core.Path.{◌≡◌, refl, sym, ap, ◌∙◌}
use mathlib.Core.Bool.{true}
use mathlib.Core.List.{List, [], ◌∷◌, map}
use Prim.Native.Nat.{ℕ, ◌+◌}
use native.Mathlib.Omega.{arith}
use lib.ListN.{length, take, length-append}
use lib.Seq.{take-append_seam, drop-append_seam}
use Rattle.refusal.specs.Answer.{Answer, given, absent, refused}
use Rattle.refusal.specs.Each.{all}
use Rattle.laws.proofs.Bits.{both}
use Rattle.network_framing.specs.Tlvs.{bytes_for}
use Rattle.network_data.specs.Decode.{Prefix, padded, opt_context, entry_of, all_routes, all_borders}
use Rattle.network_data.specs.declared.SixLowPanContext.{SixLowPanContext}
use Rattle.network_writing.specs.Fits.{context_fits, prefix_fits, network_fits}
use Rattle.network_writing.specs.Tables.{context_of, prefix_of, prefixes_of, routes_asked, borders_asked}
use Rattle.network_writing.proofs.Round.{writable}

context_again : (c : Answer SixLowPanContext) → context_fits c ≡ true → context_of (opt_context c) ≡ c
unfolding opt_context context_fits
context_again (given x) h = refl
context_again absent h = refl
context_again (refused n p i) h = absurd (let z : ◌≡◌ {A = ℕ} 0 1 = cc in omega arith)

bytes_again : (n : ℕ) (bs : List ℕ) → length bs ≡ n → take n (padded bs) ≡ bs
unfolding padded
bytes_again n bs h = ap (λ (k : ℕ). take k (padded bs)) (sym h) ∙ take-append_seam bs _

prefix_again : (p : Prefix) → prefix_fits p ≡ true → prefix_of (entry_of p) p.routes p.borders ≡ p
unfolding entry_of
prefix_again p h = let w = writable p h in rw (bytes_again (bytes_for p.bits) p.bytes w.size, context_again p.context w.context)

pub filled_back : (ps : List Prefix) → network_fits ps ≡ true → prefixes_of (map entry_of ps) (all_routes ps) (all_borders ps) ≡ ps
unfolding network_fits all prefixes_of all_routes all_borders entry_of
filled_back [] h = refl
filled_back (p ∷ ps) h =
    let b = both (prefix_fits p) (all prefix_fits ps) h in
    rw
    (take-append_seam p.routes (all_routes ps), take-append_seam p.borders (all_borders ps), drop-append_seam p.routes (all_routes ps), drop-append_seam p.borders (all_borders ps), filled_back ps b.1)
    (ap (λ (x : Prefix). x ∷ ps) (prefix_again p b.0))

pub filled_routes : (ps : List Prefix) → routes_asked (map entry_of ps) ≡ length (all_routes ps)
unfolding routes_asked all_routes entry_of
filled_routes [] = refl
filled_routes (p ∷ ps) = ap (λ (n : ℕ). length p.routes + n) (filled_routes ps) ∙ sym (length-append p.routes (all_routes ps))

pub filled_borders : (ps : List Prefix) → borders_asked (map entry_of ps) ≡ length (all_borders ps)
unfolding borders_asked all_borders entry_of
filled_borders [] = refl
filled_borders (p ∷ ps) = ap (λ (n : ℕ). length p.borders + n) (filled_borders ps) ∙ sym (length-append p.borders (all_borders ps))
