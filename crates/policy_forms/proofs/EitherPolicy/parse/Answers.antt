-- `policy_forms::EitherPolicy::parse` meets its contract, in each form.
use Rattle.policy_forms.proofs.EitherPolicy.parse.Goals as goal

pub returns-in-ThreeBytes : goal.returns-in-ThreeBytes
returns-in-ThreeBytes c = rw c.in-ThreeBytes.is c.parse_three.ensures

pub returns-in-FourBytes : goal.returns-in-FourBytes
returns-in-FourBytes c = rw c.in-FourBytes.is c.parse_four.ensures
