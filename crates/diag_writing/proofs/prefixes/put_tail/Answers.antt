-- `diag_writing::prefixes::put_tail` meets its contract.
use mathlib.Core.Path.{refl}
use native.Mathlib.Omega.{arith}
use native.Mathlib.Nat.{add-zero}
use lib.ListN.{length-set}
use Rattle.laws.proofs.Puts.{put_none}
use Rattle.diag_writing.proofs.PrefixParts.{context_none, context_length, context_put}
use Rattle.diag_writing.proofs.prefixes.put_tail.Goals as goal

pub put_mark-start-requires : goal.put_mark-start-requires
put_mark-start-requires c = omega (arith, context_length _ _ c.in-Some.is)

pub bounds-out-start : goal.bounds-out-start
bounds-out-start c = omega (arith, context_length _ _ c.in-Some.is, c.put_mark-start.auto.out, c.put_mark-start.ensures.0)

pub bounds-out-start-in-Some : goal.bounds-out-start-in-Some
bounds-out-start-in-Some c =
    simp length-set (omega (arith, context_length _ _ c.in-Some.is, c.put_mark-start.auto.out, c.put_mark-start.ensures.0))

pub returns-in-Some : goal.returns-in-Some
returns-in-Some c =
    let told = c.in-Some.is in
    let n = context_length _ _ told in
    let e = c.put_mark-start.ensures.0 in
    (omega arith, context_put _ _ told _ _ _ _ _ _ c.put_mark-start.ensures.1 refl e c.context_byte.ensures)

pub returns-in-None : goal.returns-in-None
returns-in-None c =
    let none = context_none _ c.in-None.is in
    (rw (none, add-zero), rw (none, put_none))
