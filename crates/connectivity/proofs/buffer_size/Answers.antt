-- `connectivity::buffer_size` meets its contract.
use native.Mathlib.Omega.{arith}
use borrow.Author.Tests.{lt-leb}
use Rattle.connectivity.specs.Connectivity.{buffer_of}
use Rattle.connectivity.proofs.Late.{buffer_is}
use Rattle.connectivity.proofs.buffer_size.Goals as goal

pub returns-then-v-lt10 : goal.returns-then-v-lt10
unfolding buffer_of
returns-then-v-lt10 c = simp (lt-leb _ _ c.if-v-lt10.true)

pub returns : goal.returns
returns c = buffer_is _ _ (omega arith) (omega (arith, c.if-v-lt10.false))
