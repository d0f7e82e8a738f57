-- `connectivity::datagram_count` meets its contract.
use borrow.Author.Tests.{le-leb, lt-leb}
use Rattle.connectivity.specs.Connectivity.{datagrams_of}
use Rattle.connectivity.proofs.datagram_count.Goals as goal

pub returns-then-v-lt10 : goal.returns-then-v-lt10
unfolding datagrams_of
returns-then-v-lt10 c = simp (lt-leb _ _ c.if-v-lt10.true)

pub returns : goal.returns
unfolding datagrams_of
returns c = simp (le-leb _ _ c.if-v-lt10.false)
