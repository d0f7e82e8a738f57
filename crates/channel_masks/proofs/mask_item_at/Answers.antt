-- `channel_masks::mask_item_at` meets its contract: at each `return` the tests that led there say which case of `item_at` holds.
use Prim.Native.Nat.{◌+◌}
use native.Mathlib.Omega.{arith}
use borrow.Author.Tests.{le-leb, lt-leb}
use Rattle.channel_masks.specs.Mask.{item_at}
use Rattle.channel_masks.proofs.mask_item_at.Goals as goal

pub returns-then-n-at : goal.returns-then-n-at
unfolding item_at
returns-then-n-at c = simp (le-leb _ _ c.if-n-at.true)

pub returns-then-n-at-2 : goal.returns-then-n-at-2
unfolding item_at
returns-then-n-at-2 c = simp (lt-leb _ _ c.if-n-at.false, le-leb _ _ c.if-n-at-2.true)

pub overflow_cast-len : goal.overflow_cast-len
overflow_cast-len c = omega (arith, c.type_inv.value (c.args.at + 1))

pub overflow_add-at-3 : goal.overflow_add-at-3
overflow_add-at-3 c = omega (arith, c.type_inv.value (c.args.at + 1))

pub returns-then-at-len : goal.returns-then-at-len
unfolding item_at
returns-then-at-len c = simp (lt-leb _ _ c.if-n-at.false, lt-leb _ _ c.if-n-at-2.false, le-leb _ _ c.if-at-len.true)

pub returns : goal.returns
unfolding item_at
returns c = simp (lt-leb _ _ c.if-n-at.false, lt-leb _ _ c.if-n-at-2.false, lt-leb _ _ c.if-at-len.false)
