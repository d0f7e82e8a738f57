-- What the passes over the lent tables have found is what `judge` asks for.
-- Assumes nothing.
use mathlib.Core.Path.{◌≡◌, refl, sym, ap, subst, ◌∙◌}
use mathlib.Core.Bool.{Bool}
use mathlib.Core.List.{List}
use Prim.Native.Nat.{ℕ}
use lib.ListN.{length, take}
use Rattle.refusal.specs.Each.{all}
use Rattle.tables.specs.Fold.{fold}
use Rattle.diag.specs.declared.NetDiagData.{NetDiagData}
use Rattle.route64.specs.declared.Route64.{Route64}
use Rattle.network_data.specs.declared.PrefixEntry.{PrefixEntry}
use Rattle.network_data.specs.declared.HasRouteEntry.{HasRouteEntry}
use Rattle.network_data.specs.declared.BorderRouterEntry.{BorderRouterEntry}
use Rattle.diag_rows.specs.declared.ChildTableEntry.{ChildTableEntry}
use Rattle.diag_rows.specs.declared.ChildIpv6AddrInfo.{ChildIpv6AddrInfo}
use Rattle.record_writing.specs.Lent.{lent}
use Rattle.network_writing.specs.Fits.{route_fits, border_fits}
use Rattle.value_writing.specs.Fits.{child_fits}
use Rattle.diag_writing.specs.Checks.{passed_prefix, passed_list}
use Rattle.writing_plans.specs.Used.{no_prefixes, no_lists, used_of}
use Rattle.diag_writing.specs.Plans.{Planned, Judged}
use Rattle.writing_walks.specs.declared.Prefixes.{Prefixes}
use Rattle.writing_walks.specs.declared.Lists.{Lists}
use Rattle.writing_walks.specs.declared.Used.{Used}
use Rattle.writing_walks.specs.declared.Plan.{Plan}
use Rattle.diag_writing.proofs.Folds.{Within, used_within}

module _ (r : NetDiagData) (n : ℕ) (t : Route64) (ps : List PrefixEntry) (hs : List HasRouteEntry) (bs : List BorderRouterEntry) (cs : List ChildTableEntry) (ls : List ChildIpv6AddrInfo) (room : ℕ) (u : Used)
    (is : u ≡ used_of r n (length ps) (length hs) (length bs) (length cs) (length ls) room) where
  -- no more rows are gone through than are lent
  pub within : Within u (length ps) (length hs) (length bs) (length cs) (length ls)
  within =
      subst (λ (x : Used). Within x (length ps) (length hs) (length bs) (length cs) (length ls)) (sym is) (used_within r n (length ps) (length hs) (length bs) (length cs) (length ls) room)

  room_is : u.room ≡ room
  unfolding used_of
  room_is = ap (λ (x : Used). x.room) is

  pub planned : (f : Prefixes) (h b c : Bool) (g : Lists) (z : Plan) → f ≡ fold passed_prefix no_prefixes (take u.prefixes ps) → h ≡ all route_fits (take u.routes hs)
      → b ≡ all border_fits (take u.borders bs) → c ≡ all child_fits (take u.children cs) → g ≡ fold passed_list (no_lists n) (take u.lists ls)
      → Judged r t u f h b c g z → (s : List ℕ) → length s ≡ n → Planned r (lent s t ps hs bs cs ls) room z
  planned f h b c g z d e k m j judged s size =
      subst (λ (y : ℕ). Planned r (lent s t ps hs bs cs ls) y z) room_is
      (judged (lent s t ps hs bs cs ls) (record {
        used = is ∙ ap (λ (y : ℕ). used_of r y (length ps) (length hs) (length bs) (length cs) (length ls) room) (sym size)
            ∙ ap (λ (y : ℕ). used_of r (length s) (length ps) (length hs) (length bs) (length cs) (length ls) y) (sym room_is);
        route64 = refl;
        prefixes = d;
        routes = e;
        borders = k;
        children = m;
        lists = j ∙ ap (λ (y : ℕ). fold passed_list (no_lists y) (take u.lists ls)) (sym size);
      }))
