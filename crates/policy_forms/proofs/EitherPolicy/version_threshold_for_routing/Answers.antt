-- `policy_forms::EitherPolicy::version_threshold_for_routing` meets its contract, in each form.
use Rattle.policy_forms.proofs.EitherPolicy.version_threshold_for_routing.Goals as goal

pub returns-in-Four : goal.returns-in-Four
returns-in-Four c = rw c.in-Four.is c.stated_by.ensures
