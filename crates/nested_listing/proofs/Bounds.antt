-- The length of the text in the payload's. `nested_short`: seven bytes of text for each byte of the payload are enough (six are not: `six_too_few`,
-- worked/proofs/NestedListing.antt). So what the program `nested` prints has at most `nested_report_bytes` bytes (`report_short`), and it always prints
-- (`report_written`).
-- Assumes nothing.
use mathlib.Core.Path.{◌≡◌}
use mathlib.Core.List.{List, [], ◌∷◌, ◌++◌}
use Prim.Native.Nat.{ℕ, zero, suc, ◌+◌, ◌*◌, ◌≤◌, ◌<◌}
use native.Mathlib.Omega.{arith}
use lib.ListN.{length, length-append, length-replicate, take, drop, length-drop, length-take}
use lib.Seq.{length-take-le}
use lib.Dec.{leb, eqb}
use borrow.Author.Tests.{leb-true, eqb-true}
use Rattle.refusal.specs.Answer.{Answer, given, absent, refused, on_given}
use Rattle.refusal.specs.Output.{output, emit}
use Rattle.refusal.specs.Every.{Bytes}
use Rattle.laws.proofs.Tests.{pick_all}
use Rattle.laws.proofs.Parts.{every_take, every_drop}
use Rattle.laws.proofs.Answers.{gives}
use Rattle.tlv.specs.Entries as entries
use Rattle.tlv.specs.Limits.{framed}
use Rattle.tlv.proofs.Tally.{Holds, framed_holds}
use Rattle.tlv.proofs.Fits.{FirstFits, first_fits}
use Rattle.network_framing.specs.Tlvs as tlvs
use Rattle.network_framing.proofs.Walks.{walk_whole}
use Rattle.text_writing.specs.Decimal.{decimal}
use Rattle.text_writing.proofs.Decimals.{length_one, length_few, length_below}
use Rattle.listing.specs.Listing.{pair_line}
use Rattle.listing.proofs.Lines.{length_line}
use Rattle.listing.proofs.Bounds.{Bounded, Decodes, Listable, AtMost, framed_bounded, text_refuses, text_short, text_written}
use Rattle.nested_listing.specs.Tree.{Items, none, item, indent, item_line, cut_line, lines}
use Rattle.nested_listing.specs.Nested.{pieces, tlvs, third_holds, inner, after_opening, second_holds, network, first_holds, payload, nested}
use Rattle.nested_listing.specs.Report.{nested_hex, nested_report, nested_report_bytes}

-- ---- a line

length_item : (l t n : ℕ) → length (item_line l t n) ≡ 2 * l + length (decimal t) + length (decimal n) + 2
unfolding item_line indent
length_item l t n = omega (arith, length-append (indent l) (pair_line t n), length_line t n, length-replicate {A = ℕ} (2 * l) 32)

length_cut : (l : ℕ) → length (cut_line l) ≡ 2 * l + 4
unfolding cut_line indent
length_cut l = omega (arith, length-append (indent l) (99 ∷ 117 ∷ 116 ∷ 10 ∷ []), length-replicate {A = ℕ} (2 * l) 32)

length_more : (l t n : ℕ) (held after : Items)
    → length (lines l (item t n held after)) ≡ length (item_line l t n) + length (lines (suc l) held) + length (lines l after)
unfolding lines
length_more l t n held after =
    omega (arith, length-append (item_line l t n ++ lines (suc l) held) (lines l after), length-append (item_line l t n) (lines (suc l) held))

-- ---- TLVs of Network Data

abbrev Weighs : List ℕ → tlvs.First → Type 0
Weighs s tlvs.none = Unit {0}
Weighs s tlvs.cut = 1 ≤ length s
Weighs s (tlvs.one t v rest) = (t < 128) × (length v < 256) × Bytes rest × (2 + length v + length rest ≤ length s)

first_weighs : (s : List ℕ) → Bytes s → Weighs s (tlvs.first s)
unfolding tlvs.first
first_weighs [] b = tt
first_weighs (t ∷ []) b = omega arith
first_weighs (t ∷ l ∷ rest) b =
    pick_all (Weighs (t ∷ l ∷ rest)) (leb l (length rest)) _ tlvs.cut
    (λ e. let size : length (take l rest) ≡ l = length-take-le l rest (leb-true _ _ e) in
    (omega arith, omega arith, every_drop _ l rest b.1.1, omega (arith, leb-true, length-drop l rest)))
    (λ e. omega arith)

-- an item, with what it holds, takes at most seven times its bytes; and the word at the end at most seven and `over` more
module _ (l over : ℕ) (room : 2 * l + 4 ≤ 7 + over) (holds : ℕ → List ℕ → Items) (v : List ℕ) (bytes : Bytes v)
    (light : (t n : ℕ) (u : List ℕ) → t < 128 → n < 256 → length u ≤ n → Bytes u
    → length (item_line l t n) + length (lines (suc l) (holds t u)) ≤ 7 * (2 + n)) where
  abbrev Light : List ℕ → tlvs.Walk → Type 0
  Light s w = length (lines l (pieces holds v w.stop w.items)) ≤ 7 * length s + over

  step_light : (s : List ℕ) (at : ℕ) (x : tlvs.First) (next : ℕ → List ℕ → tlvs.Walk) → Weighs s x
      → ((k : ℕ) (r : List ℕ) → Bytes r → Light r (next k r)) → Light s (tlvs.step at x next)
  unfolding tlvs.step pieces lines
  step_light s at tlvs.none next w go = omega arith
  step_light s at tlvs.cut next w go = omega (arith, length_cut l)
  step_light s at (tlvs.one t u rest) next w go =
      let value = take (length u) (drop (at + 2) v) in
      let short : length value ≤ length u = omega (arith, length-take (length u) (drop (at + 2) v)) in
      let own = light t (length u) value w.0 w.1 short (every_take _ (length u) (drop (at + 2) v) (every_drop _ (at + 2) v bytes)) in
      let on = next (at + 2 + length u) rest in
      omega
      (arith, w.3, own, length_more l t (length u) (holds t value) (pieces holds v on.stop on.items), go (at + 2 + length u) rest w.2)

  frames_light : (fuel at : ℕ) (s : List ℕ) → Bytes s → Light s (tlvs.frames fuel at s)
  unfolding tlvs.frames pieces lines
  frames_light zero at s b = omega arith
  frames_light (suc fuel) at s b = step_light s at (tlvs.first s) _ (first_weighs s b) (λ k r c. frames_light fuel k r c)

  walk_light : length (lines l (tlvs holds v)) ≤ 7 * length v + over
  walk_light = rw (walk_whole v) (frames_light (length v) 0 v bytes)

inner_light : (v : List ℕ) → Bytes v → length (lines 2 (inner v)) ≤ 7 * length v + 1
unfolding inner lines
inner_light v b =
    walk_light 2 1 (omega arith) third_holds v b
    (λ t n u h k s c. omega (arith, length_item 2 t n, length_below 2 t (omega arith), length_few n))

abbrev OpensWithin : List ℕ → tlvs.Opening → Type 0
OpensWithin u tlvs.broken = Unit {0}
OpensWithin u (tlvs.opening d b bytes rest) = Bytes rest × (2 + length rest ≤ length u)

opened_opens : (u : List ℕ) → Bytes u → OpensWithin u (tlvs.opened u)
unfolding tlvs.opened
opened_opens [] c = tt
opened_opens (d ∷ []) c = tt
opened_opens (d ∷ b ∷ rest) c =
    pick_all (OpensWithin (d ∷ b ∷ rest)) (leb (tlvs.bytes_for b) (length rest)) _ tlvs.broken
    (λ e. (every_drop _ (tlvs.bytes_for b) rest c.1.1, omega (arith, length-drop (tlvs.bytes_for b) rest))) (λ e. tt)

-- a prefix's own line has one digit for its type
prefix_light : (n : ℕ) (u : List ℕ) (o : tlvs.Opening) → n < 256 → length u ≤ n → OpensWithin u o
    → length (item_line 1 1 n) + length (lines 2 (after_opening o)) ≤ 7 * (2 + n)
unfolding after_opening lines
prefix_light n u tlvs.broken k s w = omega (arith, length_item 1 1 n, length_one 1 (omega arith), length_few n, length_cut 2)
prefix_light n u (tlvs.opening d b bytes rest) k s w =
    omega (arith, length_item 1 1 n, length_one 1 (omega arith), length_below 2 n (omega arith), inner_light rest w.0, w.1)

second_light : (t n : ℕ) (u : List ℕ) → t < 128 → n < 256 → length u ≤ n → Bytes u
    → length (item_line 1 t n) + length (lines 2 (second_holds t u)) ≤ 7 * (2 + n)
unfolding second_holds lines
second_light t n u h k s c =
    pick_all (λ (x : Items). length (item_line 1 t n) + length (lines 2 x) ≤ 7 * (2 + n)) (eqb t 1) (after_opening (tlvs.opened u)) none
    (λ e. let prefix : t ≡ 1 = eqb-true _ _ e in
    rw prefix (prefix_light n u (tlvs.opened u) k s (opened_opens u c)))
    (λ e. omega (arith, length_item 1 t n, length_below 2 t (omega arith), length_few n))

network_light : (v : List ℕ) → Bytes v → length (lines 1 (network v)) ≤ 7 * length v
unfolding network
network_light v b = omega (arith, walk_light 1 0 (omega arith) second_holds v b second_light)

-- ---- entries

first_light : (t : ℕ) (v : List ℕ) → Bytes v → length (lines 1 (first_holds t v)) ≤ 7 * length v
unfolding first_holds lines
first_light t v b =
    pick_all (λ (x : Items). length (lines 1 x) ≤ 7 * length v) (eqb t 7) (network v) none (λ e. network_light v b) (λ e. omega arith)

abbrev LightEntries : List ℕ → entries.Framing → Type 0
LightEntries s w = length (lines 0 (payload w.entries)) ≤ 7 * length s

entries_step : (s : List ℕ) (at : ℕ) (x : entries.First) (next : ℕ → List ℕ → entries.Framing) → FirstFits s x
    → ((k : ℕ) (r : List ℕ) → Bytes r → LightEntries r (next k r)) → LightEntries s (entries.step at x next)
unfolding entries.step payload lines
entries_step s at entries.none next w go = omega arith
entries_step s at entries.cut next w go = omega arith
entries_step s at (entries.one t h v rest) next w go =
    let after = payload (next (at + h + length v) rest).entries in
    omega (
      arith,
      w.2,
      w.3,
      length_more 0 t (length v) (first_holds t v) after,
      length_item 0 t (length v),
      length_below 2 t (omega arith),
      length_below 4 (length v) (omega arith),
      first_light t v w.4,
      go (at + h + length v) rest w.1,
    )

entries_light : (fuel at : ℕ) (s : List ℕ) → Bytes s → LightEntries s (entries.frames fuel at s)
unfolding entries.frames payload lines
entries_light zero at s b = omega arith
entries_light (suc fuel) at s b = entries_step s at (entries.first s) _ (first_fits s b) (λ k r c. entries_light fuel k r c)

payload_light : (s : List ℕ) → Bytes s → LightEntries s (entries.framing s)
unfolding entries.framing
payload_light s b = entries_light (length s) 0 s b

-- ---- the text

abbrev Lines : ℕ → List entries.Entry → Type 0
Lines most es = length (lines 0 (payload es)) ≤ most

-- THE BOUND of the text
pub nested_short : (s text : List ℕ) → Bytes s → nested s ≡ given text → length text ≤ 7 * length s
unfolding nested
nested_short s text b e =
    let es = gives (λ (es : List entries.Entry). lines 0 (payload es)) (framed 0 s) text e in
    rw (← es.so) (rw es.is at (framed_holds 0 (Lines (7 * length s)) s (payload_light s b)))

-- ---- the program

text_bounded : (most : ℕ) (a : Answer (List entries.Entry)) → Bounded Listable a → Holds 0 (Lines most) a
    → Bounded (AtMost most) (on_given (λ (es : List entries.Entry). lines 0 (payload es)) a)
text_bounded most (given es) g h = h
text_bounded most absent g h = tt
text_bounded most (refused n p i) g h = g

nested_bounded : (bs : List ℕ) → Decodes bs → Bounded (AtMost nested_report_bytes) (nested bs)
unfolding nested
nested_bounded bs d =
    text_bounded nested_report_bytes (framed 0 bs) (framed_bounded bs d)
    (framed_holds 0 (Lines nested_report_bytes) bs (omega (arith, payload_light bs d.1, d.0)))

pub hex_refuses : (x : List ℕ) (n p i : ℕ) → nested_hex x ≡ refused n p i → n < 11
hex_refuses = text_refuses nested_report_bytes nested nested_bounded

pub report_short : (x : List ℕ) → length (nested_report x) ≤ nested_report_bytes
report_short = text_short nested_report_bytes nested nested_bounded (omega arith)

pub report_written : (x out : List ℕ) → nested_report_bytes ≤ length out
    → emit (given (nested_report x)) out ≡ output (given (length (nested_report x))) (nested_report x ++ drop (length (nested_report x)) out)
report_written = text_written nested_report_bytes nested nested_bounded (omega arith)
