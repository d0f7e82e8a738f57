-- `diag_writing::prefixes::put_prefix` meets its contract, by the laws of `PrefixParts`: each piece has room after the one before, and the five are the prefix.
use Rattle.std.proofs.Common.{ℕ, ◌≡◌, ◌+◌, ◌-◌, ap, ◌∙◌, arith}
use Rattle.writing_walks.specs.declared.Cursor.{Cursor}
use Rattle.diag_writing.proofs.PrefixParts.{front_full, head_room, routes_room, mark_room, borders_room, tail_room, prefix_placed}
use Rattle.diag_writing.proofs.prefixes.put_prefix.Goals as goal

pub put_head-head-requires : goal.put_head-head-requires
put_head-head-requires c =
    let full = front_full c.args.e _ c.well_formed.0 in
    ((omega arith, omega arith), head_room c.args.e c.args.routes.now c.args.c.route c.args.borders.now c.args.c.border full c.requires.0 c.requires.1 c.args.out.now c.args.c.at c.requires.4)

pub put_routes-mid-requires : goal.put_routes-mid-requires
put_routes-mid-requires c =
    let full = front_full c.args.e _ c.well_formed.0 in
    let h = c.put_head-head.ensures in
    let z : c.args.c.route + c.args.e.has_routes - c.args.c.route ≡ c.args.e.has_routes = omega arith in
    rw z (routes_room c.args.e c.args.routes.now c.args.c.route c.args.borders.now c.args.c.border full c.requires.0 c.requires.1 c.args.out.now c.args.c.at c.requires.4 _ _ h.0 h.1)

pub put_border_mark-next-requires : goal.put_border_mark-next-requires
put_border_mark-next-requires c =
    let full = front_full c.args.e _ c.well_formed.0 in
    let h = c.put_head-head.ensures in
    let z : c.args.c.route + c.args.e.has_routes - c.args.c.route ≡ c.args.e.has_routes = omega arith in
    let r = rw z at c.put_routes-mid.ensures in
    ((omega arith, omega arith), mark_room c.args.e c.args.routes.now c.args.c.route c.args.borders.now c.args.c.border full c.requires.0 c.requires.1 c.args.out.now c.args.c.at c.requires.4 _ _ h.0 h.1 _ _ r.0 r.1)

pub put_borders-last-requires : goal.put_borders-last-requires
put_borders-last-requires c =
    let full = front_full c.args.e _ c.well_formed.0 in
    let h = c.put_head-head.ensures in
    let z : c.args.c.route + c.args.e.has_routes - c.args.c.route ≡ c.args.e.has_routes = omega arith in
    let r = rw z at c.put_routes-mid.ensures in
    let m = c.put_border_mark-next.ensures in
    let y : c.args.c.border + c.args.e.border_routers - c.args.c.border ≡ c.args.e.border_routers = omega arith in
    rw y (borders_room c.args.e c.args.routes.now c.args.c.route c.args.borders.now c.args.c.border full c.requires.0 c.requires.1 c.args.out.now c.args.c.at c.requires.4 _ _ h.0 h.1 _ _ r.0 r.1 _ _ m.0 m.1)

pub put_tail-end-requires : goal.put_tail-end-requires
put_tail-end-requires c =
    let full = front_full c.args.e _ c.well_formed.0 in
    let h = c.put_head-head.ensures in
    let z : c.args.c.route + c.args.e.has_routes - c.args.c.route ≡ c.args.e.has_routes = omega arith in
    let r = rw z at c.put_routes-mid.ensures in
    let m = c.put_border_mark-next.ensures in
    let y : c.args.c.border + c.args.e.border_routers - c.args.c.border ≡ c.args.e.border_routers = omega arith in
    let b = rw y at c.put_borders-last.ensures in
    tail_room c.args.e c.args.routes.now c.args.c.route c.args.borders.now c.args.c.border full c.requires.0 c.requires.1 c.args.out.now c.args.c.at c.requires.4 _ _ h.0 h.1 _ _ r.0 r.1 _ _ m.0 m.1 _ _ b.0 b.1

pub after-requires : goal.after-requires
after-requires c = (c.requires.2, c.requires.3)

pub returns : goal.returns
returns c =
    let full = front_full c.args.e _ c.well_formed.0 in
    let h = c.put_head-head.ensures in
    let z : c.args.c.route + c.args.e.has_routes - c.args.c.route ≡ c.args.e.has_routes = omega arith in
    let r = rw z at c.put_routes-mid.ensures in
    let m = c.put_border_mark-next.ensures in
    let y : c.args.c.border + c.args.e.border_routers - c.args.c.border ≡ c.args.e.border_routers = omega arith in
    let b = rw y at c.put_borders-last.ensures in
    let t = c.put_tail-end.ensures in
    let w = prefix_placed c.args.e c.args.routes.now c.args.c.route c.args.borders.now c.args.c.border full c.requires.0 c.requires.1 c.args.out.now c.args.c.at c.requires.4 _ _ h.0 h.1 _ _ r.0 r.1 _ _ m.0 m.1 _ _ b.0 b.1 _ _ t.0 t.1 in
    (c.after.ensures ∙ ap {B = Cursor} (λ (k : ℕ). record { at = k; route = c.args.c.route + c.args.e.has_routes; border = c.args.c.border + c.args.e.border_routers }) w.0, w.1)
