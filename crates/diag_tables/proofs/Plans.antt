-- What is refused, and that filling the tables with the records of the payload's Network Data gives the outcome.
-- Assumes nothing.
use mathlib.Core.Path.{◌≡◌, sym, ap, ◌∙◌, subst}
use mathlib.Core.List.{List, []}
use Prim.Native.Nat.{ℕ, ◌+◌, ◌-◌, ◌≤◌}
use native.Mathlib.Omega.{arith}
use native.Mathlib.Nat.{add-sub_cancel_left}
use lib.ListN.{length, take, drop}
use borrow.Author.Tests.{le-leb}
use Rattle.std.specs.Prelude.{Option, Some, None}
use Rattle.refusal.specs.Answer.{Answer, given, absent, refused, on_given}
use Rattle.network_data.specs.Decode.{Prefix, contents, all_routes, all_borders, counts_of, decode_network_data}
use Rattle.network_plans.specs.Tables as nd
use Rattle.network_plans.specs.Planned.{room_for}
use Rattle.network_data.specs.declared.Counts.{Counts}
use Rattle.network_data.specs.declared.PrefixEntry.{PrefixEntry}
use Rattle.network_data.specs.declared.HasRouteEntry.{HasRouteEntry}
use Rattle.network_data.specs.declared.BorderRouterEntry.{BorderRouterEntry}
use Rattle.diag.specs.Diag.{Diag, decode}
use Rattle.diag.specs.Answers.{opt_network_data, diag_of}
use Rattle.diag.specs.declared.NetworkDataPart.{NetworkDataPart}
use Rattle.diag.specs.declared.NetDiagData.{NetDiagData}
use Rattle.diag_tables.specs.Tables.{prefixes_in, prefixes_of, roomed, answered, outcome, written, decoded}
use Rattle.diag_tables.proofs.Held.{Held, held}

-- no records need no room
room_none : (p h b : ℕ) → room_for (counts_of []) p h b ≡ given (counts_of [])
unfolding room_for counts_of all_routes all_borders
room_none p h b = simp (le-leb 0 p (omega arith), le-leb 0 h (omega arith), le-leb 0 b (omega arith))

-- all records stay where the payload is refused
pub refuses : (s : List ℕ) (P : List PrefixEntry) (H : List HasRouteEntry) (B : List BorderRouterEntry) (n q i : ℕ) → refused n q i ≡ decode s → outcome (refused n q i) P H B ≡ decoded s P H B
unfolding decoded answered written
refuses s P H B n q i e = rw (← e)

module _ (s : List ℕ) (d : NetDiagData) (e : given (diag_of s d) ≡ decode s) where
  abbrev D : Diag
  D = diag_of s d

  -- its Network Data, as it is found
  found : (x : Option NetworkDataPart) → d.network_data ≡ x → D.network_data ≡ opt_network_data s x
  unfolding diag_of
  found x is = ap (opt_network_data s) is

  module _ (P : List PrefixEntry) (H : List HasRouteEntry) (B : List BorderRouterEntry) where
    by_room : written (roomed D (length P) (length H) (length B)) P H B ≡ decoded s P H B
    unfolding decoded answered
    by_room = rw (← e)

    pub no_network_data : d.network_data ≡ None → outcome (given D) P H B ≡ decoded s P H B
    unfolding roomed written prefixes_in all_routes all_borders
    no_network_data is =
        let none : prefixes_of D ≡ [] = ap prefixes_in (found None is) in
        let room : room_for (counts_of (prefixes_of D)) (length P) (length H) (length B) ≡ given (counts_of []) = rw none (room_none (length P) (length H) (length B)) in
        let gives : outcome (given D) P H B ≡ written (given D) P H B = rw none in
        gives ∙ ap (λ (a : Answer Counts). written (on_given (λ (k : Counts). D) a) P H B) (sym room) ∙ by_room

  module _ (x : NetworkDataPart) (is : d.network_data ≡ Some x) where
    its : Held s (opt_network_data s (Some x))
    its = subst (Held s) (found (Some x) is) (held s D e)

    pub inside : x.start + x.len ≤ length s
    inside = its.0

    its_prefixes : prefixes_of D ≡ contents (take x.len (drop x.start s))
    unfolding prefixes_in
    its_prefixes = ap prefixes_in (found (Some x) is)

    -- the part, as the code cuts it out
    abbrev v : List ℕ
    v = take (x.start + x.len - x.start) (drop x.start s)

    decodes : decode_network_data 0 v ≡ given (prefixes_of D)
    decodes = rw add-sub_cancel_left its.1 ∙ ap given (sym its_prefixes)

    -- what `network_tables::decode` leaves
    module _ (P : List PrefixEntry) (H : List HasRouteEntry) (B : List BorderRouterEntry)
        (a : Answer Counts) (P' : List PrefixEntry) (H' : List HasRouteEntry) (B' : List BorderRouterEntry) where
      filled_by : (k : Answer Counts) → nd.outcome a P' H' B' ≡ nd.written (prefixes_of D) k P H B
          → outcome (on_given (λ (c : Counts). D) a) P' H' B' ≡ written (on_given (λ (c : Counts). D) k) P H B
      unfolding nd.written written
      filled_by (given k) f = ap (λ (o : nd.Outcome). outcome (on_given (λ (c : Counts). D) o.answer) o.prefixes o.routes o.borders) f
      filled_by absent f = ap (λ (o : nd.Outcome). outcome (on_given (λ (c : Counts). D) o.answer) o.prefixes o.routes o.borders) f
      filled_by (refused n q i) f = ap (λ (o : nd.Outcome). outcome (on_given (λ (c : Counts). D) o.answer) o.prefixes o.routes o.borders) f

      pub filled : nd.outcome a P' H' B' ≡ nd.decoded (decode_network_data 0 v) P H B → outcome (on_given (λ (c : Counts). D) a) P' H' B' ≡ decoded s P H B
      unfolding nd.decoded roomed
      filled f =
          filled_by (room_for (counts_of (prefixes_of D)) (length P) (length H) (length B)) (f ∙ ap (λ (y : Answer (List Prefix)). nd.decoded y P H B) decodes) ∙ by_room P H B
