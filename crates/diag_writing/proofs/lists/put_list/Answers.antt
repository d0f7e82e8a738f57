-- `diag_writing::lists::put_list` meets its contract: the header, the RLOC16 and the addresses are its entry.
use mathlib.Core.Path.{◌∙◌}
use native.Mathlib.Omega.{arith}
use lib.ListN.{length-set}
use Rattle.diag_writing.proofs.Listed.{list_room, list_wrote}
use borrow.Author.Rules.{rules}
use Rattle.diag_writing.proofs.lists.put_list.Goals as goal

pub bounds-out-a : goal.bounds-out-a
bounds-out-a c = omega (arith, list_room c.args.bytes.now c.args.x c.requires.0 _ _ _ _ c.requires.1 c.put_header-a.ensures)

pub overflow_add-out : goal.overflow_add-out
overflow_add-out c =
    let room = list_room c.args.bytes.now c.args.x c.requires.0 _ _ _ _ c.requires.1 c.put_header-a.ensures in
    search rules

pub bounds-out-a-2 : goal.bounds-out-a-2
bounds-out-a-2 c =
    simp length-set (omega (arith, list_room c.args.bytes.now c.args.x c.requires.0 _ _ _ _ c.requires.1 c.put_header-a.ensures))

pub overflow_add-a : goal.overflow_add-a
overflow_add-a c =
    let room = list_room c.args.bytes.now c.args.x c.requires.0 _ _ _ _ c.requires.1 c.put_header-a.ensures in
    search rules

pub shape_of-out : goal.shape_of-out
shape_of-out c = simp length-set at c.put_bytes.auto.out ∙ c.put_header-a.auto.out

pub returns : goal.returns
returns c =
    list_wrote c.args.bytes.now c.args.x c.requires.0 _ _ _ _ c.requires.1 c.put_header-a.ensures _ _ _ c.u16_bytes-rloc16.ensures c.put_bytes.ensures
