-- `diag_writing::prefixes::put_prefixes` meets its contract.
use Rattle.diag_writing.proofs.PrefixLoop.{prefixes_start, prefixes_need, prefixes_turn, prefixes_done}
use Rattle.diag_writing.proofs.prefixes.put_prefixes.Goals as goal

pub loop-e-init : goal.loop-e-init
loop-e-init c = prefixes_start c.args.prefixes.now c.args.routes.now c.args.borders.now c.args.c c.args.out.now

pub put_prefix-c-requires : goal.put_prefix-c-requires
put_prefix-c-requires c =
    prefixes_need c.args.prefixes.now c.args.routes.now c.args.borders.now c.args.c c.args.out.now _ c.loop-e.e-index c.loop-e-test.true c.loop-e.c c.loop-e.out c.loop-e.invariant c.requires.0 c.requires.1 c.requires.2 c.requires.3 c.requires.4

pub loop-e-preserved : goal.loop-e-preserved
loop-e-preserved c =
    prefixes_turn c.args.prefixes.now c.args.routes.now c.args.borders.now c.args.c c.args.out.now _ c.loop-e.e-index c.loop-e-test.true c.loop-e.c c.loop-e.out c.loop-e.invariant _ _ c.put_prefix-c.ensures.0 c.put_prefix-c.ensures.1

pub returns : goal.returns
returns c = prefixes_done c.args.prefixes.now c.args.routes.now c.args.borders.now c.args.c c.args.out.now c.loop-e.e-index c.loop-e-test.false c.loop-e.c c.loop-e.out c.loop-e.invariant
