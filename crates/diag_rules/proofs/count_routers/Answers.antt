-- `diag_rules::count_routers` meets its contract.
use mathlib.Core.Path.{◌≡◌, ap}
use mathlib.Core.List.{List}
use Prim.Native.Nat.{ℕ, ◌+◌, ◌*◌, ◌≤◌, ◌<◌}
use native.Mathlib.Omega.{arith}
use lib.Count.{ones}
use lib.ListN.{length, get_or, take, drop}
use Rattle.std.proofs.lemmas.List.{get_or-take}
use Rattle.std.proofs.lemmas.Grind.{get_or_after_one}
use Rattle.laws.proofs.Parts.{length_part}
use Rattle.diag_rules.proofs.Mask.{rest, rest_all, rest_end, few}
use Rattle.diag_rules.proofs.Bits.{byte_count}
use Rattle.diag_rules.proofs.count_routers.Goals as goal

pub loop-b-init : goal.loop-b-init
loop-b-init c = let all = ap length (rest_all c.args.v.now) in omega arith

-- the ones of a byte of the mask, and the routers that are to come after it
counted : (v : List ℕ) (j : ℕ) → get_or v (1 + j) 0 < 256 → j < 8
    → length (rest (j * 8) v) ≡ ones (get_or (take 8 (drop 1 v)) j 0) + length (rest ((j + 1) * 8) v)
counted v j small h =
    let next : (j + 1) * 8 ≡ j * 8 + 8 = omega arith in
    rw (next, get_or-take 8 (drop 1 v) j 0 h, get_or_after_one v j 0) (byte_count v j small h)

inside : (v : List ℕ) (j : ℕ) → 9 ≤ length v → j < length (take 8 (drop 1 v)) → j < 8
inside v j l h = omega (arith, length_part v 1 8 l)

pub overflow_add-n : goal.overflow_add-n
overflow_add-n c =
    let v = c.args.v.now in
    let one = counted v c.loop-b.b-index (c.type_inv.v _).fits (inside v _ c.requires c.loop-b-test.true) in
    omega (arith, few v)

pub loop-b-preserved : goal.loop-b-preserved
loop-b-preserved c =
    let v = c.args.v.now in
    let one = counted v c.loop-b.b-index (c.type_inv.v _).fits (inside v _ c.requires c.loop-b-test.true) in
    omega arith

pub returns : goal.returns
returns c =
    let v = c.args.v.now in
    let none = ap length (rest_end (c.loop-b.b-index * 8) v (omega (arith, length_part v 1 8 c.requires))) in
    (omega arith, omega (arith, few v))
