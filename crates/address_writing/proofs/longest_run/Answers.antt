-- `address_writing::longest_run` meets its contract.
use mathlib.Core.Path.{◌≡◌}
use Prim.Native.Nat.{◌+◌, ◌*◌, ◌-◌}
use native.Mathlib.Omega.{arith}
use lib.ListN.{drop, length-drop}
use Rattle.address_forms.specs.Groups.{groups}
use Rattle.address_forms.proofs.Groups.{groups_back, length_groups}
use Rattle.address_forms.proofs.Runs.{zeroes_fit, zeroes_end, longest_end, zeroes_turn, longest_turn}
use Rattle.address_writing.proofs.longest_run.Goals as goal

pub loop-k-init : goal.loop-k-init
loop-k-init c =
    let b = c.args.bytes.now in
    (zeroes_end b 8 (omega arith), longest_end b 8 (omega arith))

pub zeros_from-zeros-requires : goal.zeros_from-zeros-requires
zeros_from-zeros-requires c =
    let b = c.args.bytes.now in
    omega (arith, c.loop-k.invariant.0, zeroes_fit (groups (drop (2 * c.loop-k.k) b)), length_groups (drop (2 * c.loop-k.k) b), length-drop (2 * c.loop-k.k) b)

pub loop-k-preserved : goal.loop-k-preserved
loop-k-preserved c =
    let k = c.loop-k.k in
    let one : k ≡ k - 1 + 1 = omega arith in
    let back = groups_back c.args.bytes.now (k - 1) k one (omega arith) in
    let y = zeroes_turn _ _ _ _ _ one back _ _ c.loop-k.invariant.0 c.zeros_from-zeros.ensures in
    (y, longest_turn _ _ _ _ _ one back _ _ _ y c.loop-k.invariant.1 c.longer-best.ensures)

pub returns : goal.returns
returns c =
    let k : c.loop-k.k ≡ 0 = omega arith in
    rw k at c.loop-k.invariant.1
