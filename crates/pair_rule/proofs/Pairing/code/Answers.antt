-- `pair_rule::Pairing::code` meets its contract: one number for each answer. Assumes nothing.
use Rattle.pair_rule.proofs.Pairing.code.Goals as goal

pub returns-in-None : goal.returns-in-None
returns-in-None c = rw c.in-None.is

pub returns-in-Unclear : goal.returns-in-Unclear
returns-in-Unclear c = rw c.in-Unclear.is
