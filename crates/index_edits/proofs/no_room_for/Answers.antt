-- `index_edits::no_room_for` meets its contract. Assumes nothing.
use Rattle.refusal.proofs.Papers.{passes}
use mathlib.Core.Path.{sym, ap, ◌∙◌}
use Rattle.index_edits.specs.Loops.{no_room_for}
use Rattle.index_edits.proofs.no_room_for.Goals as goal
use Rattle.refusal.specs.Results.{answer_of}

pub returns : goal.returns
returns c = c.refuse.ensures ∙ sym (ap (λ w. no_room_for (answer_of w)) c.in_ok-tried.was)

pub returns-in_err-tried : goal.returns-in_err-tried
returns-in_err-tried c = ap answer_of (passes _ _ c.from_residual.ensures.1) ∙ sym (ap (λ w. no_room_for (answer_of w)) c.in_err-tried.was)
