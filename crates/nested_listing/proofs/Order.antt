-- "Every framed item appears once, parents before children, wire order kept." `list_lines`: a list's text is its items' in order, each directly followed by the
-- lines of what it holds, and then `cut` if it is cut. `nested_rows`, `network_rows`, `inner_rows`: the items of the payload, and of a list of either kind, are
-- those of its framing, in order, each once; and `network_held`, `entry_plain`, `prefix_held`, `prefix_opened`, `tlv_plain` say which of them hold a list.
-- `payload_whole`, `first_cut`, `second_cut`, `inner_cut`: a list is cut exactly where it cannot be framed further, or is that of a prefix whose own bytes are cut
-- short. `as_flat`: with nothing to open, the text is the flat listing's without its first line.
-- Assumes nothing.
use mathlib.Core.Path.{◌≡◌, refl, sym, ap, ◌∙◌}
use mathlib.Core.Bool.{false}
use mathlib.Core.List.{List, [], ◌∷◌, ◌++◌, map, append-nil, append_assoc}
use Prim.Native.Nat.{ℕ, suc}
use lib.ListN.{length}
use lib.Dec.{eqb}
use borrow.Author.Tests.{ne_eqb}
use Rattle.refusal.specs.Answer.{pick, Answer, given, absent, refused, on_given}
use Rattle.refusal.specs.Every.{Every}
use Rattle.laws.proofs.Tests.{by_test}
use Rattle.tlv.specs.Entries.{Entry, framing}
use Rattle.tlv.specs.Limits.{framed}
use Rattle.tlv.proofs.Tally.{Only, only}
use Rattle.network_framing.specs.Tlvs.{Opening, broken, opening, opened, Piece, Stop, clean, short}
use Rattle.network_framing.specs.Frame.{walk_in}
use Rattle.listing.specs.Listing.{entry_lines, first_line, listing, listed}
use Rattle.nested_listing.specs.Tree.{Items, none, cut, item, indent, item_line, lines}
use Rattle.nested_listing.specs.Nested.{pieces, third_holds, inner, after_opening, second_holds, network, first_holds, payload, nested}
use Rattle.nested_listing.specs.Rows.{Row, rows, is_cut, row_lines, cut_after, entry_row, tlv_row, stops_short, tlvs_short, prefix_short, Closed}

-- ---- the text of a list

pub list_lines : (l : ℕ) (x : Items) → lines l x ≡ row_lines l (rows x) ++ cut_after l (is_cut x)
unfolding lines rows is_cut row_lines cut_after
list_lines l none = refl
list_lines l cut = refl
list_lines l (item t n held after) =
    ap (λ (rest : List ℕ). item_line l t n ++ lines (suc l) held ++ rest) (list_lines l after)
    ∙ sym (append_assoc (item_line l t n ++ lines (suc l) held) (row_lines l (rows after)) (cut_after l (is_cut after)))

-- ---- the first level

payload_rows : (es : List Entry) → rows (payload es) ≡ map entry_row es
unfolding rows payload
payload_rows [] = refl
payload_rows (e ∷ es) = ap (λ (l : List Row). entry_row e ∷ l) (payload_rows es)

pub payload_whole : (es : List Entry) → is_cut (payload es) ≡ false
unfolding is_cut payload
payload_whole [] = refl
payload_whole (e ∷ es) = payload_whole es

payload_lines : (es : List Entry) → lines 0 (payload es) ≡ row_lines 0 (map entry_row es)
unfolding cut_after
payload_lines es = list_lines 0 (payload es) ∙ rw (payload_rows es, payload_whole es) (append-nil (row_lines 0 (map entry_row es)))

on_same : {A B : Type 0} (f g : A → B) → ((x : A) → f x ≡ g x) → (a : Answer A) → on_given f a ≡ on_given g a
on_same f g h (given x) = ap given (h x)
on_same f g h absent = refl
on_same f g h (refused n p i) = refl

pub nested_rows : (s : List ℕ) → nested s ≡ on_given (λ (es : List Entry). row_lines 0 (map entry_row es)) (framed 0 s)
unfolding nested
nested_rows s = on_same (λ (es : List Entry). lines 0 (payload es)) (λ (es : List Entry). row_lines 0 (map entry_row es)) payload_lines (framed 0 s)

module _ (v : List ℕ) where
  pub network_held : first_holds 7 v ≡ network v
  unfolding first_holds
  network_held = refl

  pub entry_plain : (t : ℕ) → (t ≡ 7 → ⊥) → first_holds t v ≡ none
  unfolding first_holds
  entry_plain t h = simp (ne_eqb _ _ h)

-- ---- the second and the third

module _ (holds : ℕ → List ℕ → Items) (v : List ℕ) where
  pieces_rows : (st : Stop) (es : List Piece) → rows (pieces holds v st es) ≡ map (tlv_row holds v) es
  unfolding rows pieces
  pieces_rows clean [] = refl
  pieces_rows short [] = refl
  pieces_rows st (e ∷ es) = ap (λ (l : List Row). tlv_row holds v e ∷ l) (pieces_rows st es)

  pieces_cut : (st : Stop) (es : List Piece) → is_cut (pieces holds v st es) ≡ stops_short st
  unfolding is_cut stops_short pieces
  pieces_cut clean [] = refl
  pieces_cut short [] = refl
  pieces_cut st (e ∷ es) = pieces_cut st es

module _ (v : List ℕ) where
  pub network_rows : rows (network v) ≡ map (tlv_row second_holds v) (walk_in v 0 (length v)).items
  unfolding network
  network_rows = pieces_rows second_holds v _ _

  pub inner_rows : rows (inner v) ≡ map (tlv_row third_holds v) (walk_in v 0 (length v)).items
  unfolding inner
  inner_rows = pieces_rows third_holds v _ _

  pub prefix_held : opened v ≡ broken → second_holds 1 v ≡ cut
  unfolding second_holds after_opening
  prefix_held e = ap after_opening e

  pub prefix_opened : (d b : ℕ) (bytes rest : List ℕ) → opened v ≡ opening d b bytes rest → second_holds 1 v ≡ inner rest
  unfolding second_holds after_opening
  prefix_opened d b bytes rest e = ap after_opening e

  pub tlv_plain : (t : ℕ) → (t ≡ 1 → ⊥) → second_holds t v ≡ none
  unfolding second_holds
  tlv_plain t h = simp (ne_eqb _ _ h)

-- ---- where a list is cut: that of an entry, of a TLV of Network Data, and of a prefix

network_cut : (v : List ℕ) → is_cut (network v) ≡ tlvs_short v
unfolding network
network_cut v = pieces_cut second_holds v _ _

pub first_cut : (t : ℕ) (v : List ℕ) → is_cut (first_holds t v) ≡ pick (eqb t 7) (tlvs_short v) false
unfolding first_holds is_cut
first_cut t v = by_test (eqb t 7) (λ e. simp e (network_cut v)) (λ e. simp e)

pub inner_cut : (v : List ℕ) → is_cut (inner v) ≡ tlvs_short v
unfolding inner
inner_cut v = pieces_cut third_holds v _ _

opening_cut : (o : Opening) → is_cut (after_opening o) ≡ prefix_short o
unfolding after_opening prefix_short is_cut
opening_cut broken = refl
opening_cut (opening d b bytes rest) = inner_cut rest

pub second_cut : (t : ℕ) (v : List ℕ) → is_cut (second_holds t v) ≡ pick (eqb t 1) (prefix_short (opened v)) false
unfolding second_holds is_cut
second_cut t v = by_test (eqb t 1) (λ e. simp e (opening_cut (opened v))) (λ e. simp e)

-- ---- with nothing to open

closed_lines : (es : List Entry) → Every Closed es → lines 0 (payload es) ≡ entry_lines es
unfolding payload lines item_line indent entry_lines
closed_lines [] h = refl
closed_lines (e ∷ es) h = rw (h.0, closed_lines es h.1, append-nil) refl

pub as_flat : (s : List ℕ) → Every Closed (framing s).entries
    → listed s ≡ on_given (λ (text : List ℕ). first_line (length (framing s).entries) ++ text) (nested s)
unfolding listed nested listing
as_flat s closed = by (framed 0 s) (only 0 s)
  where
    by : (a : Answer (List Entry)) → Only 0 (framing s).entries a
        → on_given listing a ≡ on_given (λ (text : List ℕ). first_line (length (framing s).entries) ++ text) (on_given (λ (es : List Entry). lines 0 (payload es)) a)
    by (given xs) o = rw (o, closed_lines (framing s).entries closed)
    by absent o = refl
    by (refused n p i) o = refl
