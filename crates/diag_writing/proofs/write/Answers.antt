-- `diag_writing::write` meets its contract: each piece is placed after the one before, and together they are what the plan says.
use mathlib.Core.Path.{refl, sym}
use lib.Seq.{length-take-le}
use Rattle.diag_writing.proofs.InTurn.{ask_before, ask_prefixes, ask_between, ask_children, ask_after, ask_lists, written_out}
use Rattle.diag_writing.proofs.write.Goals as goal

pub put_before-a-requires : goal.put_before-a-requires
put_before-a-requires c =
    ask_before c.args.net_diag c.args.bytes.now c.args.route64 c.args.prefixes.now c.args.has_routes.now c.args.border_routers.now c.args.children.now c.args.lists.now c.args.out.now _ _ c.plan_for-p.ensures c.chosen-r.ensures

pub slice_bounds-put_prefixes-end : goal.slice_bounds-put_prefixes-end
slice_bounds-put_prefixes-end c =
    sym (length-take-le _ c.args.prefixes.now (ask_prefixes c.args.net_diag c.args.bytes.now c.args.route64 c.args.prefixes.now c.args.has_routes.now c.args.border_routers.now c.args.children.now c.args.lists.now c.args.out.now _ _ c.plan_for-p.ensures c.chosen-r.ensures c.put_before-a.result _ c.put_before-a.ensures).0)

pub put_prefixes-b-requires : goal.put_prefixes-b-requires
put_prefixes-b-requires c =
    (ask_prefixes c.args.net_diag c.args.bytes.now c.args.route64 c.args.prefixes.now c.args.has_routes.now c.args.border_routers.now c.args.children.now c.args.lists.now c.args.out.now _ _ c.plan_for-p.ensures c.chosen-r.ensures c.put_before-a.result _ c.put_before-a.ensures).1

pub put_between-c-requires : goal.put_between-c-requires
put_between-c-requires c =
    ask_between c.args.net_diag c.args.bytes.now c.args.route64 c.args.prefixes.now c.args.has_routes.now c.args.border_routers.now c.args.children.now c.args.lists.now c.args.out.now _ _ c.plan_for-p.ensures c.chosen-r.ensures c.put_before-a.result _ c.put_before-a.ensures c.put_prefixes-b.result _ c.put_prefixes-b.ensures

pub slice_bounds-put_children-end : goal.slice_bounds-put_children-end
slice_bounds-put_children-end c =
    sym (length-take-le _ c.args.children.now (ask_children c.args.net_diag c.args.bytes.now c.args.route64 c.args.prefixes.now c.args.has_routes.now c.args.border_routers.now c.args.children.now c.args.lists.now c.args.out.now _ _ c.plan_for-p.ensures c.chosen-r.ensures c.put_before-a.result _ c.put_before-a.ensures c.put_prefixes-b.result _ c.put_prefixes-b.ensures _ _ c.put_between-c.ensures).0)

pub put_children-d-requires : goal.put_children-d-requires
put_children-d-requires c =
    (ask_children c.args.net_diag c.args.bytes.now c.args.route64 c.args.prefixes.now c.args.has_routes.now c.args.border_routers.now c.args.children.now c.args.lists.now c.args.out.now _ _ c.plan_for-p.ensures c.chosen-r.ensures c.put_before-a.result _ c.put_before-a.ensures c.put_prefixes-b.result _ c.put_prefixes-b.ensures _ _ c.put_between-c.ensures).1

pub put_after-e-requires : goal.put_after-e-requires
put_after-e-requires c =
    ask_after c.args.net_diag c.args.bytes.now c.args.route64 c.args.prefixes.now c.args.has_routes.now c.args.border_routers.now c.args.children.now c.args.lists.now c.args.out.now _ _ c.plan_for-p.ensures c.chosen-r.ensures c.put_before-a.result _ c.put_before-a.ensures c.put_prefixes-b.result _ c.put_prefixes-b.ensures _ _ c.put_between-c.ensures _ _ c.put_children-d.ensures

pub slice_bounds-put_lists-end : goal.slice_bounds-put_lists-end
slice_bounds-put_lists-end c =
    sym (length-take-le _ c.args.lists.now (ask_lists c.args.net_diag c.args.bytes.now c.args.route64 c.args.prefixes.now c.args.has_routes.now c.args.border_routers.now c.args.children.now c.args.lists.now c.args.out.now _ _ c.plan_for-p.ensures c.chosen-r.ensures c.put_before-a.result _ c.put_before-a.ensures c.put_prefixes-b.result _ c.put_prefixes-b.ensures _ _ c.put_between-c.ensures _ _ c.put_children-d.ensures _ _ c.put_after-e.ensures).0)

pub put_lists-requires : goal.put_lists-requires
put_lists-requires c =
    (ask_lists c.args.net_diag c.args.bytes.now c.args.route64 c.args.prefixes.now c.args.has_routes.now c.args.border_routers.now c.args.children.now c.args.lists.now c.args.out.now _ _ c.plan_for-p.ensures c.chosen-r.ensures c.put_before-a.result _ c.put_before-a.ensures c.put_prefixes-b.result _ c.put_prefixes-b.ensures _ _ c.put_between-c.ensures _ _ c.put_children-d.ensures _ _ c.put_after-e.ensures).1

pub returns : goal.returns
returns c =
    written_out c.args.net_diag c.args.bytes.now c.args.route64 c.args.prefixes.now c.args.has_routes.now c.args.border_routers.now c.args.children.now c.args.lists.now c.args.out.now _ _ c.plan_for-p.ensures c.chosen-r.ensures c.put_before-a.result _ c.put_before-a.ensures c.put_prefixes-b.result _ c.put_prefixes-b.ensures _ _ c.put_between-c.ensures _ _ c.put_children-d.ensures _ _ c.put_after-e.ensures _ _ c.put_lists.ensures _ refl
