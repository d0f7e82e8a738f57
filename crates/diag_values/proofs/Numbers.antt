-- The numbers that the bytes of a part of a value spell.
-- Assumes nothing.
use mathlib.Core.Path.{◌≡◌}
use mathlib.Core.List.{List}
use Prim.Native.Nat.{ℕ, suc, ◌+◌, ◌*◌, ◌≤◌}
use native.Mathlib.Omega.{arith}
use native.Mathlib.Numerals.{add-one}
use lib.ListN.{length}
use Rattle.laws.proofs.Parts.{part_elements}
use Rattle.wire.specs.Be.{be, be_from}
use Rattle.diag_rules.specs.Mask.{byte_at}
use Rattle.diag_values.specs.Values.{number_at}

pub two_spell : (v : List ℕ) (at : ℕ) → at + 2 ≤ length v → byte_at v at * 256 + byte_at v (at + 1) ≡ number_at 2 at v
unfolding be be_from
two_spell v at h = rw (part_elements 2 at v h, add-one at) (omega arith)

pub four_spell : (v : List ℕ) (at : ℕ) → at + 4 ≤ length v
    → byte_at v at * 16777216 + byte_at v (at + 1) * 65536 + byte_at v (at + 2) * 256 + byte_at v (at + 3) ≡ number_at 4 at v
unfolding be be_from
four_spell v at h =
    let z : at + 2 ≡ suc (suc at) = omega arith in
    let y : at + 3 ≡ suc (suc (suc at)) = omega arith in
    rw (part_elements 4 at v h, z, y, add-one at) (omega arith)
