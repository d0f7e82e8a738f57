-- `policy_forms::parse_four` meets its contract, by what the base's call answered.
use mathlib.Core.Path.{ap, ◌∙◌}
use Rattle.std.specs.Prelude.{Ok, Err}
use Rattle.refusal.proofs.Papers.{passes}
use Rattle.policy_forms.proofs.Papers.{either_answer}
use Rattle.policy_forms.proofs.Modes.{four_is}
use Rattle.policy_forms.proofs.parse_four.Goals as goal

pub returns-in_err-parse : goal.returns-in_err-parse
returns-in_err-parse c = ap either_answer (passes _ _ c.from_residual.ensures.1) ∙ four_is _ _ (Err _) c.in_err-parse.ensures

pub returns : goal.returns
returns c = four_is _ _ (Ok _) c.in_ok-parse.ensures
