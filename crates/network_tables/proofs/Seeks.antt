-- One TLV more, for each search of the cursors: it is found there, or passed.
-- Assumes nothing.
use mathlib.Core.Path.{◌≡◌, refl, sym, ap, ◌∙◌}
use mathlib.Core.List.{List, [], ◌∷◌, ◌++◌}
use Prim.Native.Nat.{ℕ, ◌+◌, ◌-◌, ◌/◌, ◌≤◌, ◌<◌}
use native.Mathlib.Omega.{arith}
use lib.ListN.{length, get_or, take, drop, replicate, length-append, length-take, length-drop, length-map}
use borrow.Author.Tests.{eq-eqb, ne_eqb, le-ltb, lt-leb}
use Rattle.std.specs.Prelude.{Some, Option, None}
use Rattle.refusal.specs.Answer.{Answer, given, absent}
use Rattle.refusal.specs.Results.{option_of}
use Rattle.network_framing.specs.Tlvs.{Piece, bytes_for}
use Rattle.network_framing.specs.Frame.{walk_in, head_at, head_answer}
use Rattle.network_framing.specs.Place.{head_place}
use Rattle.network_framing.proofs.Agrees.{head_agrees, domain_is, bits_are, bytes_are}
use Rattle.network_data.specs.Decode.{places_in, context_at, last_context, head_items, inner, prefix_at, padded, opt_context, entry_of}
use Rattle.network_tables.specs.Cursor.{rows, or_else, rows_in, rows_out, next_row, span_of, Whole}
use Rattle.network_data.specs.declared.SixLowPanContext.{SixLowPanContext}
use Rattle.network_tables.specs.declared.rows.Rows.{Rows}
use Rattle.network_tables.specs.declared.prefixes.Span.{Span}
use Rattle.network_data.proofs.Counted.{places_length}

pub or_first : (c d : Rows) → 0 < c.left → or_else c d ≡ c
unfolding or_else
or_first c d h = simp (ne_eqb c.left 0 (λ (z : c.left ≡ 0). omega arith))

pub or_second : (c d : Rows) → c.left ≤ 0 → or_else c d ≡ d
unfolding or_else
or_second c d h = simp (eq-eqb c.left 0 (omega arith))

module _ (ty size : ℕ) where
  module _ (end : ℕ) where
    pub in_empty : rows_in ty size end [] ≡ rows 0 0 0 0
    unfolding rows_in
    in_empty = refl

    module _ (e : Piece) (es : List Piece) where
      pub in_miss : (e.ty ≡ ty → ⊥) → rows_in ty size end (e ∷ es) ≡ rows_in ty size end es
      unfolding rows_in
      in_miss h = simp (ne_eqb _ _ h)

      pub in_hit : e.ty ≡ ty → 0 < e.len / size → rows_in ty size end (e ∷ es) ≡ rows e.start (e.len / size) (e.start + e.len) end
      unfolding rows_in
      in_hit h n = simp (eq-eqb _ _ h) (or_first (rows e.start (e.len / size) (e.start + e.len) end) _ n)

      pub in_none : e.ty ≡ ty → e.len / size ≤ 0 → rows_in ty size end (e ∷ es) ≡ rows_in ty size end es
      unfolding rows_in
      in_none h n = simp (eq-eqb _ _ h) (or_second (rows e.start (e.len / size) (e.start + e.len) end) _ n)

  module _ (s : List ℕ) where
    pub out_empty : rows_out ty size s [] ≡ rows 0 0 0 0
    unfolding rows_out
    out_empty = refl

    module _ (e : Piece) (es : List Piece) where
      pub seek_miss : (e.ty ≡ 1 → ⊥) → rows_out ty size s (e ∷ es) ≡ rows_out ty size s es
      unfolding rows_out
      seek_miss h = simp (ne_eqb _ _ h)

      module _ (h : e.ty ≡ 1) (c : Rows) (is : c ≡ rows_in ty size (e.start + e.len) (inner s e.start (e.start + e.len))) where
        pub seek_hit : 0 < c.left → rows_out ty size s (e ∷ es) ≡ c
        unfolding rows_out
        seek_hit n = simp (eq-eqb _ _ h, sym is) (or_first c _ n)

        pub seek_none : c.left ≤ 0 → rows_out ty size s (e ∷ es) ≡ rows_out ty size s es
        unfolding rows_out
        seek_none n = simp (eq-eqb _ _ h, sym is) (or_second c _ n)

-- the next row where a TLV has no more: in the same prefix, or in a later one
module _ (ty size : ℕ) (s : List ℕ) (c : Rows) (last : c.left ≤ 1) (r : Rows) (is : r ≡ rows_in ty size c.end (walk_in s c.stop c.end).items) where
  pub next_same : 0 < r.left → r ≡ next_row ty size s c
  unfolding next_row
  next_same h = simp (le-ltb 1 c.left last, sym is) (sym (or_first r _ h))

  pub next_later : r.left ≤ 0 → (q : Rows) → q ≡ rows_out ty size s (walk_in s c.end (length s)).items → q ≡ next_row ty size s c
  unfolding next_row
  next_later h q e = e ∙ simp (le-ltb 1 c.left last, sym is) (sym (or_second r _ h))

-- how many rows there are
module _ (ty size : ℕ) where
  pub rows_none : length (places_in ty size []) ≡ 0
  unfolding places_in
  rows_none = refl

  module _ (e : Piece) (es : List Piece) where
    pub rows_more : e.ty ≡ ty → length (places_in ty size (e ∷ es)) ≡ e.len / size + length (places_in ty size es)
    unfolding places_in
    rows_more h = simp (eq-eqb _ _ h, length-append, places_length)

    pub rows_same : (e.ty ≡ ty → ⊥) → length (places_in ty size (e ∷ es)) ≡ length (places_in ty size es)
    unfolding places_in
    rows_same h = simp (ne_eqb _ _ h)

module _ (s : List ℕ) (x : Answer SixLowPanContext) where
  pub context_none : last_context s x [] ≡ x
  unfolding last_context
  context_none = refl

  module _ (e : Piece) (es : List Piece) where
    pub context_hit : e.ty ≡ 3 → e.len ≡ 2 → last_context s x (e ∷ es) ≡ last_context s (given (context_at s e.start)) es
    unfolding last_context
    context_hit h n = simp (eq-eqb _ _ h, eq-eqb _ _ n)

    pub context_odd : e.ty ≡ 3 → (e.len ≡ 2 → ⊥) → last_context s x (e ∷ es) ≡ last_context s x es
    unfolding last_context
    context_odd h n = simp (eq-eqb _ _ h, ne_eqb _ _ n)

    pub context_miss : (e.ty ≡ 3 → ⊥) → last_context s x (e ∷ es) ≡ last_context s x es
    unfolding last_context
    context_miss h = simp (ne_eqb _ _ h)

pub span_none : span_of [] ≡ record { start = 0; end = 0 }
unfolding span_of
span_none = refl

module _ (e : Piece) (es : List Piece) where
  pub span_hit : e.ty ≡ 1 → span_of (e ∷ es) ≡ record { start = e.start; end = e.start + e.len }
  unfolding span_of
  span_hit h = simp (eq-eqb _ _ h)

  pub span_miss : (e.ty ≡ 1 → ⊥) → span_of (e ∷ es) ≡ span_of es
  unfolding span_of
  span_miss h = simp (ne_eqb _ _ h)

-- ---- bytes, and zeros after them
pub padded_part : (s : List ℕ) (at n : ℕ) → at + n ≤ length s → take n (drop at s) ++ drop n (replicate 32 0) ≡ padded (take n (drop at s))
unfolding padded
padded_part s at n h =
    let l : length (take n (drop at s)) ≡ n = simp (length-take, length-drop) (omega arith) in
    ap (λ (k : ℕ). take n (drop at s) ++ drop k (replicate 32 0)) (sym l)

-- ---- a whole prefix
context_back : (k : Option SixLowPanContext) → opt_context (option_of k) ≡ k
unfolding opt_context
context_back (Some x) = refl
context_back None = refl

module _ (s : List ℕ) (x : Span) (w : Whole s x) where
  whole_place : head_place s x.start x.end ≡ Some (x.start + (2 + bytes_for (get_or s (x.start + 1) 0)))
  unfolding head_place
  whole_place =
      let a : 2 ≤ x.end - x.start = omega arith in
      let b : 2 + bytes_for (get_or s (x.start + 1) 0) ≤ x.end - x.start = omega arith in
      simp (lt-leb x.end x.start (omega arith), le-ltb (length s) x.end w.1, le-ltb _ _ a, le-ltb _ _ b)

  pub whole_head : head_at s x.start x.end ≡ given (x.start + (2 + bytes_for (get_or s (x.start + 1) 0)))
  whole_head = sym (head_agrees s x.start x.end) ∙ ap head_answer whole_place

  abbrev items : List Piece
  items = (walk_in s (x.start + (2 + bytes_for (get_or s (x.start + 1) 0))) x.end).items

  whole_inner : inner s x.start x.end ≡ items
  unfolding inner head_items
  whole_inner = ap (head_items s x.end) whole_head

  module _ (bs : List ℕ) (k : Option SixLowPanContext) (h b : ℕ) where
    pub entry_is : bs ≡ padded (take (bytes_for (get_or s (x.start + 1) 0)) (drop (x.start + 2) s)) → option_of k ≡ last_context s absent items → h ≡ length (places_in 0 3 items) → b ≡ length (places_in 2 4 items)
        → record { domain_id = get_or s x.start 0; prefix_bit_length = get_or s (x.start + 1) 0; prefix = bs; six_low_pan_context = k; has_routes = h; border_routers = b } ≡ entry_of (prefix_at s x.start x.end)
    unfolding entry_of prefix_at
    entry_is p q r t =
        let q' : k ≡ opt_context (last_context s absent items) = sym (context_back k) ∙ ap opt_context q in
        simp (length-map, whole_inner, domain_is s x.start x.end w.0 w.1, bits_are s x.start x.end w.0 w.1, bytes_are s x.start x.end w.0 w.1, p, q', r, t)
