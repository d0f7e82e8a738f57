-- `listing::report_text` meets its contract: what is told of the listing of the input's line.
use mathlib.Core.Path.{ap, ◌∙◌}
use mathlib.Core.List.{List}
use Prim.Native.Nat.{ℕ}
use native.Mathlib.Omega.{arith}
use Rattle.refusal.specs.Output.{emit}
use Rattle.listing.specs.Listing.{listed_hex, report_by}
use Rattle.listing.proofs.Reports.{line_start, line_part}
use Rattle.listing.proofs.Bounds.{hex_refuses}
use Rattle.listing.proofs.Tells.{tells}
use Rattle.listing.proofs.report_text.Goals as goal

pub slice_bounds-list_hex-end : goal.slice_bounds-list_hex-end
slice_bounds-list_hex-end c = omega (arith, c.line_end-end.ensures, line_start c.args.input.now)

pub returns : goal.returns
unfolding report_by
returns c =
    let out = c.args.out.now in
    let line = line_part _ _ c.line_end-end.ensures in
    let listed = c.list_hex-written.ensures ∙ ap (λ (l : List ℕ). emit (listed_hex l) out) line in
    c.tell.ensures ∙ tells _ (hex_refuses _) _ _ c.list_hex-written.result listed
