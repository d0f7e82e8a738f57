-- `address_writing::lay_text` meets its contract.
use mathlib.Core.Path.{sym, ap, ◌∙◌}
use native.Mathlib.Omega.{arith}
use lib.ListN.{length}
use Rattle.refusal.specs.Output.{put}
use Rattle.address_forms.proofs.Texts.{text_short}
use Rattle.address_writing.proofs.Turns.{text_plain, text_around, run_inside}
use Rattle.address_writing.proofs.lay_text.Goals as goal

pub put_parted-requires : goal.put_parted-requires
put_parted-requires c =
    let plain = text_plain c.args.address.now _ c.longest_run-run.ensures (omega (arith, c.if-run-lt-FEWEST.true)) in
    omega (arith, text_short c.args.address.now c.requires.0, ap length plain)

pub put_around-requires : goal.put_around-requires
put_around-requires c =
    let a = c.args.address.now in
    let found = c.longest_run-run.ensures in
    (omega (arith, run_inside a _ found c.requires.0), omega (arith, text_short a c.requires.0, ap length (text_around a _ found (omega (arith, c.if-run-lt-FEWEST.false)))))

pub returns-then-run-lt-FEWEST : goal.returns-then-run-lt-FEWEST
returns-then-run-lt-FEWEST c =
    let a = c.args.address.now in
    let plain = text_plain a _ c.longest_run-run.ensures (omega (arith, c.if-run-lt-FEWEST.true)) in
    let short = text_short a c.requires.0 in
    (omega (arith, c.put_parted.ensures.0, ap length plain), omega (arith, c.put_parted.ensures.0, ap length plain), c.put_parted.ensures.1 ∙ ap (put _ _) (sym plain))

pub returns-else-run-lt-FEWEST : goal.returns-else-run-lt-FEWEST
returns-else-run-lt-FEWEST c =
    let a = c.args.address.now in
    let both = text_around a _ c.longest_run-run.ensures (omega (arith, c.if-run-lt-FEWEST.false)) in
    let short = text_short a c.requires.0 in
    (c.put_around.ensures.0 ∙ ap length (sym both), omega (arith, c.put_around.ensures.0, ap length both), c.put_around.ensures.1 ∙ ap (put _ _) (sym both))
