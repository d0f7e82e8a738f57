-- `index_edits::put_index` meets its contract. Assumes nothing.
use Rattle.refusal.proofs.Papers.{passes}
use mathlib.Core.Path.{refl, sym, ap, ◌∙◌}
use lib.Seq.{length-take-le}
use Rattle.refusal.specs.Output.{Output}
use Rattle.refusal.specs.Results.{answer_of}
use Rattle.index_edits.proofs.put_index.Goals as goal

pub slice_bounds-build-end : goal.slice_bounds-build-end
slice_bounds-build-end c =
    let inside = rw c.in_ok-n.was at c.requires in
    sym (length-take-le _ _ inside)

pub returns : goal.returns
returns c = (sym (ap answer_of c.in_ok-n.was), ap (λ (o : Output). o.left) c.build.ensures ∙ rw c.in_ok-n.was)

pub returns-in_err-n : goal.returns-in_err-n
returns-in_err-n c =
    rw c.in_err-n.was (ap answer_of (passes _ _ c.from_residual.ensures.1), refl)
