-- What the code answers as it goes through the lent tables, by its tests.
-- Assumes nothing.
use mathlib.Core.Path.{◌≡◌, refl}
use mathlib.Core.Bool.{Bool, true, false}
use Prim.Native.Nat.{ℕ, ◌+◌, ◌-◌, ◌≤◌, ◌<◌}
use native.Mathlib.Omega.{arith}
use native.Mathlib.Nat.{add-zero}
use lib.Dec.{leb}
use borrow.Author.Tests.{leb-true, le-leb, lt-leb}
use Rattle.refusal.specs.Sizes.{most_bytes}
use Rattle.refusal.specs.Answer.{pick}
use Rattle.laws.proofs.Tests.{by_test}
use Rattle.tlv_writing.specs.Encode.{entry_size}
use Rattle.network_data.specs.declared.PrefixEntry.{PrefixEntry}
use Rattle.network_writing.specs.Fits.{context_fits}
use Rattle.network_writing.specs.Tables.{context_of}
use Rattle.diag_rows.specs.declared.ChildIpv6AddrInfo.{ChildIpv6AddrInfo}
use Rattle.diag_writing.specs.Pieces.{value_size}
use Rattle.diag_writing.specs.Checks.{grown, prefix_held, entry_fits, passed_prefix, list_fits_in, passed_list}
use Rattle.writing_walks.specs.declared.Prefixes.{Prefixes}
use Rattle.writing_walks.specs.declared.Lists.{Lists}
use Rattle.writing_plans.proofs.Tested.{no_entry}
use Rattle.diag_writing.proofs.Both.{both_true}

-- a prefix that passed
pub entry_fits_lem : (e : PrefixEntry) → entry_fits e ≡ true → (e.has_routes ≤ 96) × (e.border_routers ≤ 96) × (value_size e ≤ 255)
unfolding entry_fits
entry_fits_lem e h =
    by (leb e.has_routes 96) (leb e.border_routers 96) (context_fits (context_of e.six_low_pan_context)) (leb (value_size e) 255) (both_true (prefix_held e) _ h).1
    (λ x y z. (leb-true _ _ x, leb-true _ _ y, leb-true _ _ z))
  where
    by : (a b c d : Bool) → pick a (pick b (pick c d false) false) false ≡ true → (a ≡ true → b ≡ true → d ≡ true → (e.has_routes ≤ 96) × (e.border_routers ≤ 96) × (value_size e ≤ 255))
        → (e.has_routes ≤ 96) × (e.border_routers ≤ 96) × (value_size e ≤ 255)
    by true true true d t f = f refl refl t
    by true true false d t f = absurd (let z : ◌≡◌ {A = ℕ} 0 1 = cc in omega arith)
    by true false c d t f = absurd (let z : ◌≡◌ {A = ℕ} 0 1 = cc in omega arith)
    by false b c d t f = absurd (let z : ◌≡◌ {A = ℕ} 0 1 = cc in omega arith)

pub prefix_passed : (f : Prefixes) (e : PrefixEntry) (n : ℕ) → f.fits ≡ true → f.routes ≤ 96 → f.borders ≤ 96 → entry_fits e ≡ true → n ≡ grown f.size (2 + value_size e)
    → record { routes = f.routes + e.has_routes; borders = f.borders + e.border_routers; size = n; fits = true } ≡ passed_prefix f e
unfolding passed_prefix
prefix_passed f e n a b c d k = rw (a, le-leb f.routes 96 b, le-leb f.borders 96 c, d, k)

-- ---- an address list

short_none : (b : Bool) → false ≡ pick b false false
short_none true = refl
short_none false = refl

short_same : (b : Bool) → b ≡ pick b true false
short_same true = refl
short_same false = refl

grown_none : (s : ℕ) → s ≡ grown s 0
unfolding grown
grown_none s = by_test (leb s most_bytes) (λ t. rw (t, add-zero)) (λ t. rw t)

module _ (f : Lists) (x : ChildIpv6AddrInfo) (fit : Bool) (is : fit ≡ pick f.fits (list_fits_in f.bytes x) false) where
  pub list_long : 65533 < x.len → record { bytes = f.bytes; short = false; fits = fit; size = f.size } ≡ passed_list f x
  unfolding passed_list
  list_long h = rw (is, lt-leb (2 + x.len) 65535 (omega arith), no_entry (2 + x.len) (omega arith), ← short_none f.short, ← grown_none f.size)

  pub list_short : (size : ℕ) → x.len ≤ 65533 → size ≡ grown f.size (entry_size (2 + x.len)) → record { bytes = f.bytes; short = f.short; fits = fit; size = size } ≡ passed_list f x
  unfolding passed_list
  list_short size h e = rw (is, e, le-leb (2 + x.len) 65535 (omega arith), ← short_same f.short)
