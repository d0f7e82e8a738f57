-- `policy_forms::EitherPolicy::write` meets its contract, in each form.
use mathlib.Core.Path.{◌∙◌}
use Rattle.policy_forms.specs.Forms.{stored_bytes}
use Rattle.policy_forms.proofs.Round.{written_as}
use Rattle.policy_forms.proofs.EitherPolicy.write.Goals as goal

pub returns-in-Three : goal.returns-in-Three
returns-in-Three c = c.put_value.ensures ∙ written_as _ _ _ _ c.three_bytes.ensures c.in-Three.is

pub returns-in-Four : goal.returns-in-Four
unfolding stored_bytes
returns-in-Four c = c.put_value-in-Four.ensures ∙ written_as _ _ _ _ c.to_value.ensures c.in-Four.is
