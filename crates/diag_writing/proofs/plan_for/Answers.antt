-- `diag_writing::plan_for` meets its contract: what the passes have found is what `judge` asks for.
use mathlib.Core.Path.{sym}
use lib.Seq.{length-take-le}
use Rattle.diag_writing.proofs.Scans.{within, planned}
use Rattle.diag_writing.proofs.plan_for.Goals as goal

pub slice_bounds-pass_prefixes-end : goal.slice_bounds-pass_prefixes-end
slice_bounds-pass_prefixes-end c =
    sym (length-take-le _ c.args.prefixes.now (within c.args.net_diag c.args.bytes c.args.route64 c.args.prefixes.now c.args.has_routes.now c.args.border_routers.now c.args.children.now c.args.lists.now c.args.room c.count_used-u.result c.count_used-u.ensures).prefixes_in)

pub slice_bounds-routes_fit-end : goal.slice_bounds-routes_fit-end
slice_bounds-routes_fit-end c =
    sym (length-take-le _ c.args.has_routes.now (within c.args.net_diag c.args.bytes c.args.route64 c.args.prefixes.now c.args.has_routes.now c.args.border_routers.now c.args.children.now c.args.lists.now c.args.room c.count_used-u.result c.count_used-u.ensures).routes_in)

pub slice_bounds-borders_fit-end : goal.slice_bounds-borders_fit-end
slice_bounds-borders_fit-end c =
    sym (length-take-le _ c.args.border_routers.now (within c.args.net_diag c.args.bytes c.args.route64 c.args.prefixes.now c.args.has_routes.now c.args.border_routers.now c.args.children.now c.args.lists.now c.args.room c.count_used-u.result c.count_used-u.ensures).borders_in)

pub slice_bounds-children_fit-end : goal.slice_bounds-children_fit-end
slice_bounds-children_fit-end c =
    sym (length-take-le _ c.args.children.now (within c.args.net_diag c.args.bytes c.args.route64 c.args.prefixes.now c.args.has_routes.now c.args.border_routers.now c.args.children.now c.args.lists.now c.args.room c.count_used-u.result c.count_used-u.ensures).children_in)

pub slice_bounds-pass_lists-end : goal.slice_bounds-pass_lists-end
slice_bounds-pass_lists-end c =
    sym (length-take-le _ c.args.lists.now (within c.args.net_diag c.args.bytes c.args.route64 c.args.prefixes.now c.args.has_routes.now c.args.border_routers.now c.args.children.now c.args.lists.now c.args.room c.count_used-u.result c.count_used-u.ensures).lists_in)

pub returns : goal.returns
returns c =
    planned c.args.net_diag c.args.bytes c.args.route64 c.args.prefixes.now c.args.has_routes.now c.args.border_routers.now c.args.children.now c.args.lists.now c.args.room c.count_used-u.result c.count_used-u.ensures
    _ _ _ _ _ _ c.pass_prefixes-p.ensures c.routes_fit-h.ensures c.borders_fit-b.ensures c.children_fit-c.ensures c.pass_lists-l.ensures c.judge.ensures
