-- `timestamps::Timestamp::parse` meets its contract: it is the read of 8 bytes.
use mathlib.Core.Path.{ap, ◌∙◌}
use Rattle.refusal.specs.Answer.{on_given}
use Rattle.refusal.specs.Results.{answer_of}
use Rattle.refusal.proofs.Papers.{passes}
use Rattle.timestamps.proofs.Stamps.{stamp, stamped}
use Rattle.timestamps.proofs.Timestamp.parse.Goals as goal

pub returns-in_err-read_u64 : goal.returns-in_err-read_u64
returns-in_err-read_u64 c = ap answer_of (passes _ _ c.from_residual.ensures.1) ∙ ap (on_given stamp) c.in_err-read_u64.ensures ∙ stamped _ _

pub returns : goal.returns
returns c = ap (on_given stamp) c.in_ok-read_u64.ensures ∙ stamped _ _
