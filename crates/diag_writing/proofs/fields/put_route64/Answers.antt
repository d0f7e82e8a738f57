-- `diag_writing::fields::put_route64` meets its contract: an entry where the field is present.
use mathlib.Core.Path.{ap, ◌∙◌}
use Prim.Native.Nat.{◌+◌}
use native.Mathlib.Omega.{arith}
use Rattle.diag_rows.specs.declared.Part.{Part}
use Rattle.value_writing.specs.Encode.{route64_bytes}
use Rattle.record_writing.specs.Lent.{route_used}
use Rattle.diag_writing.proofs.Entries.{given_room, given_wrote, absent_wrote, front_is, front_short, routes_counted}
use borrow.Author.Rules.{rules}
use Rattle.diag_writing.proofs.fields.put_route64.Goals as goal
use Rattle.refusal.specs.Results.{option_of}

pub route64_bytes-a-requires : goal.route64_bytes-a-requires
route64_bytes-a-requires c = routes_counted _ _ c.args.t (ap option_of c.in-Some.is) c.requires.0

pub overflow_add-n : goal.overflow_add-n
overflow_add-n c =
    let few = routes_counted _ _ c.args.t (ap option_of c.in-Some.is) c.requires.0 in
    search rules

pub slice_bounds-put_value-end : goal.slice_bounds-put_value-end
slice_bounds-put_value-end c =
    let few = routes_counted _ _ c.args.t (ap option_of c.in-Some.is) c.requires.0 in
    search rules

pub put_value-requires : goal.put_value-requires
put_value-requires c =
    let t = c.args.t in
    let few = routes_counted _ _ c.args.t (ap option_of c.in-Some.is) c.requires.0 in
    given_room (λ (q : Part). route64_bytes (route_used t)) 5 _ c.args.at c.args.out.now _ _ (ap option_of c.in-Some.is) (front_is c.route64_bytes-a.result (9 + t.count) ∙ c.route64_bytes-a.ensures)
    (front_short c.route64_bytes-a.result _ (9 + t.count) c.route64_bytes-a.ensures (search rules) (omega arith)) c.requires.1

pub returns-in-Some : goal.returns-in-Some
returns-in-Some c =
    let t = c.args.t in
    given_wrote (λ (q : Part). route64_bytes (route_used t)) _ _ _ _ _ _ (ap option_of c.in-Some.is) (front_is c.route64_bytes-a.result (9 + t.count) ∙ c.route64_bytes-a.ensures) _ _ c.put_value.ensures

pub returns-in-None : goal.returns-in-None
returns-in-None c = let t = c.args.t in absent_wrote (λ (q : Part). route64_bytes (route_used t)) _ _ _ _ (ap option_of c.in-None.is)
