-- What the plan says, as the writing pass leans on it: the pieces that are written one after the other make the payload, or nothing where it is refused.
-- Assumes nothing.
use mathlib.Core.Path.{◌≡◌, refl, ap, ◌∙◌}
use mathlib.Core.List.{List, [], ◌++◌}
use Prim.Native.Nat.{ℕ, ◌≤◌}
use native.Mathlib.Omega.{arith}
use lib.ListN.{length, take}
use Rattle.refusal.specs.Sizes.{most_value}
use Rattle.refusal.specs.Every.{Every}
use Rattle.refusal.specs.Each.{joined}
use Rattle.refusal.specs.Output.{output, emit, put}
use Rattle.refusal.specs.Results.{answer_of, option_of}
use Rattle.laws.proofs.Tests.{pick_all}
use Rattle.laws.proofs.Puts.{put_none}
use Rattle.laws.proofs.Emits.{emit_done}
use Rattle.tlv_writing.specs.Encode.{encode_all}
use Rattle.network_writing.specs.Encode.{network_bytes}
use Rattle.network_writing.specs.Tables.{prefixes_of, routes_asked, borders_asked}
use Rattle.value_writing.specs.Encode.{child_bytes}
use Rattle.diag.specs.declared.NetDiagData.{NetDiagData}
use Rattle.record_writing.specs.Values.{entry_for, present, entries_of}
use Rattle.record_writing.specs.Lent.{Lent, values_of}
use Rattle.record_writing.specs.Written.{written}
use Rattle.diag_writing.specs.Pieces.{before_bytes, between_bytes, after_bytes, network_header, child_header, list_entry, Placeable, Counted, ListLies}
use Rattle.diag_writing.specs.Plans.{Goes, Stops, Planned, nothing, chosen_of}
use Rattle.writing_walks.specs.declared.Plan.{Plan}
use Rattle.diag_writing.proofs.Joining.{joining}

module _ (x : NetDiagData) (l : Lent) (p : Plan) where
  -- the pieces that tables make
  abbrev pub prefix_bytes : List ℕ
  prefix_bytes = network_bytes (prefixes_of (take p.prefixes l.prefixes) l.routes l.borders)

  abbrev pub children_bytes : List ℕ
  children_bytes = joined child_bytes (take p.children l.children)

  abbrev pub lists_bytes : List ℕ
  lists_bytes = joined (list_entry l.bytes) (take p.lists l.lists)

  -- all of them, in order
  abbrev pub pieces : List ℕ
  pieces =
      before_bytes x l.bytes l.route64 p.network ++ (prefix_bytes ++ (between_bytes x l.bytes ++ (children_bytes ++ (after_bytes x l.bytes ++ lists_bytes))))

  pub record Ready (r : NetDiagData) (o : List ℕ) : Type 0 where
    pub placeable : Placeable x l.bytes
    pub counted : Counted (option_of x.route64) l.route64
    pub network : p.network ≤ most_value
    pub prefixes : p.prefixes ≤ length l.prefixes
    pub routes : routes_asked (take p.prefixes l.prefixes) ≤ length l.routes
    pub borders : borders_asked (take p.prefixes l.prefixes) ≤ length l.borders
    pub few_routes : routes_asked (take p.prefixes l.prefixes) ≤ 96
    pub few_borders : borders_asked (take p.prefixes l.prefixes) ≤ 96
    pub children : p.children ≤ length l.children
    pub lists : p.lists ≤ length l.lists
    pub lists_lie : Every (ListLies l.bytes) (take p.lists l.lists)
    pub room : length pieces ≤ length o
    pub leaves : output (answer_of p.answer) (put o 0 pieces) ≡ emit (written r l) o

module _ (r : NetDiagData) (l : Lent) (p : Plan) (o : List ℕ) where
  going : Goes r l (length o) p → Ready r l p r o
  going g =
      let whole : pieces r l p ≡ encode_all (entries_of (values_of r l)) = joining r l (length o) p g in record {
        placeable = g.placeable;
        counted = g.counted;
        network = g.network_short;
        prefixes = g.prefixes_lent;
        routes = omega (arith, g.routes_are, g.routes_lent);
        borders = omega (arith, g.borders_are, g.borders_lent);
        few_routes = omega (arith, g.routes_are, g.routes_few);
        few_borders = omega (arith, g.borders_are, g.borders_few);
        children = g.children_lent;
        lists = g.lists_lent;
        lists_lie = g.lists_lie;
        room = omega (arith, ap length whole, g.fits);
        leaves = rw g.answer (emit_done (written r l) o (encode_all (entries_of (values_of r l))) g.bytes _ _ refl (ap (put o 0) whole) g.fits);
      }

  nothing_placed : Placeable nothing l.bytes
  nothing_placed = record { ext_mac_addr = tt; addresses = tt; channel_pages = tt; type_list = tt; eui64 = tt; children = tt }

  module _ (s : Stops r l (length o) p) where
    no_pieces : pieces nothing l p ≡ []
    unfolding encode_all entry_for present network_header child_header network_bytes prefixes_of joined
    no_pieces = rw (s.prefixes, s.children, s.lists)

    no_routes : routes_asked (take p.prefixes l.prefixes) ≡ 0
    unfolding routes_asked
    no_routes = rw s.prefixes

    no_borders : borders_asked (take p.prefixes l.prefixes) ≡ 0
    unfolding borders_asked
    no_borders = rw s.prefixes

    stopping : Ready nothing l p r o
    stopping = record {
      placeable = nothing_placed;
      counted = tt;
      network = omega (arith, s.network);
      prefixes = omega (arith, s.prefixes);
      routes = omega (arith, no_routes);
      borders = omega (arith, no_borders);
      few_routes = omega (arith, no_routes);
      few_borders = omega (arith, no_borders);
      children = omega (arith, s.children);
      lists = omega (arith, s.lists);
      lists_lie = rw s.lists tt;
      room = omega (arith, ap length no_pieces);
      leaves = ap (λ (bs : List ℕ). output (answer_of p.answer) (put o 0 bs)) no_pieces ∙ rw (put_none o 0) (s.emits o refl);
    }

  pub ready : Planned r l (length o) p → Ready (chosen_of p r) l p r o
  ready h = pick_all (λ (x : NetDiagData). Ready x l p r o) p.go r nothing (λ e. going (h.goes e)) (λ e. stopping (h.stops e))
