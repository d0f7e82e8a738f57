-- `address_writing::put_around` meets its contract.
use mathlib.Core.Path.{◌∙◌}
use native.Mathlib.Omega.{arith}
use lib.ListN.{length-set}
use Rattle.address_writing.proofs.Turns.{around_length, around_put}
use Rattle.address_writing.proofs.put_around.Goals as goal

pub put_parted-at-requires : goal.put_parted-at-requires
put_parted-at-requires c =
    let a = c.args in
    omega (arith, around_length a.address.now a.start a.len)

pub bounds-out-at : goal.bounds-out-at
bounds-out-at c =
    let a = c.args in
    omega (arith, around_length a.address.now a.start a.len, c.put_parted-at.ensures.0, c.put_parted-at.auto.out)

pub overflow_add-out : goal.overflow_add-out
overflow_add-out c =
    let a = c.args in
    omega (arith, around_length a.address.now a.start a.len, c.put_parted-at.ensures.0)

pub bounds-out-at-2 : goal.bounds-out-at-2
bounds-out-at-2 c =
    let a = c.args in
    simp length-set (omega (arith, around_length a.address.now a.start a.len, c.put_parted-at.ensures.0, c.put_parted-at.auto.out))

pub overflow_add-at : goal.overflow_add-at
overflow_add-at c =
    let a = c.args in
    omega (arith, around_length a.address.now a.start a.len, c.put_parted-at.ensures.0)

pub put_parted-requires : goal.put_parted-requires
put_parted-requires c =
    let a = c.args in
    simp length-set (omega (arith, around_length a.address.now a.start a.len, c.put_parted-at.ensures.0, c.put_parted-at.auto.out))

pub shape_of-out : goal.shape_of-out
shape_of-out c = c.put_parted.auto.out ∙ simp length-set c.put_parted-at.auto.out

pub returns : goal.returns
returns c =
    let a = c.args in
    let l = around_length a.address.now a.start a.len in (
      omega (arith, c.put_parted-at.ensures.0, c.put_parted.ensures.0),
      around_put a.address.now a.start a.len _ _ _ _ c.put_parted-at.ensures.0 c.put_parted-at.ensures.1 c.put_parted.ensures.1,
    )
