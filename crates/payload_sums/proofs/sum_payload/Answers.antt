-- `payload_sums::sum_payload` meets its contract.
use mathlib.Core.Path.{◌∙◌, ap}
use Rattle.refusal.specs.Answer.{given, on_given}
use Rattle.refusal.specs.Results.{answer_of}
use Rattle.refusal.proofs.Papers.{passes}
use Rattle.payload_sums.specs.Rows.{payload_sum}
use Rattle.payload_sums.proofs.sum_payload.Goals as goal

pub returns-in_err-d : goal.returns-in_err-d
returns-in_err-d c = ap answer_of (passes _ _ c.from_residual.ensures.1) ∙ ap (on_given (payload_sum _)) c.in_err-d.ensures

pub payload_sum-requires : goal.payload_sum-requires
payload_sum-requires c = c.in_ok-d.ensures

pub returns : goal.returns
returns c = ap given c.payload_sum.ensures ∙ ap (on_given (payload_sum _)) c.in_ok-d.ensures
