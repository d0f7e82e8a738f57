-- A prefix part by part, as the code stores it: its head, its rows, the bytes between them, and its tail.
-- Assumes nothing.
use mathlib.Core.Path.{◌≡◌, refl, sym, ap, ◌∙◌}
use mathlib.Core.List.{List, [], ◌∷◌, ◌++◌, append-nil, append_assoc}
use Prim.Native.Nat.{ℕ, zero, suc, ◌+◌, ◌-◌, ◌*◌, ◌%◌, ◌≤◌, ◌<◌}
use native.Mathlib.Omega.{arith}
use native.Mathlib.Numerals.{towards_suc}
use lib.ListN.{length, take, drop, set, length-append, length-drop}
use lib.Seq.{length-take-le}
use lib.Dec.{eqb}
use borrow.Author.Tests.{eqb-true, eqb-false, eq-eqb, ne_eqb}
use mir.Val.{Val}
use denote.Laws.{Is}
use denote.Struct.Laws as LL
use Rattle.std.specs.Prelude.{Option, Some, None}
use Rattle.refusal.specs.Output.{put, placing, placed}
use Rattle.refusal.specs.Each.{bit, joined}
use Rattle.laws.proofs.Tests.{by_test}
use Rattle.laws.proofs.Puts.{put_then, put_length}
use Rattle.laws.proofs.Emits.{placed_next, placed_left}
use Rattle.laws.proofs.Joined.{joined_append, joined_length}
use Rattle.network_framing.specs.Tlvs.{bytes_for}
use Rattle.network_data.specs.Decode.{Prefix}
use Rattle.network_data.specs.declared.HasRouteEntry.{HasRouteEntry}
use Rattle.network_data.specs.declared.BorderRouterEntry.{BorderRouterEntry}
use Rattle.network_data.specs.declared.PrefixEntry.{PrefixEntry}
use Rattle.network_data.specs.declared.SixLowPanContext.{SixLowPanContext}
use Rattle.network_data.specs.contracts.PrefixEntry as E
use Rattle.network_data.proofs.PrefixEntry.TheLaws as E'
use Rattle.network_writing.specs.Encode.{route_bytes, border_bytes, item_bytes, items_bytes, row_items, context_items, inner_items, prefix_value}
use Rattle.network_writing.specs.Tables.{context_of}
use Rattle.network_writing.proofs.Rows.{route_size, border_size}
use Rattle.writing_walks.specs.declared.Cursor.{Cursor}
use Rattle.diag_writing.specs.Pieces.{rows_size, context_size, value_size, rows_mark, head_bytes, border_mark, tail_bytes, prefix_from, prefix_bytes}

-- ---- bytes that are stored one by one, and the first n of an array

pub put_two : (out : List ℕ) (at a b : ℕ) → set (set out at a) (at + 1) b ≡ put out at (a ∷ b ∷ [])
unfolding put
put_two out at a b = simp towards_suc

pub front_put : (bytes : List ℕ) (n at next : ℕ) (out left : List ℕ) → n ≤ length bytes → at + n ≤ length out → placing next left ≡ placed (take (n - 0) (drop 0 bytes)) at out
    → (next ≡ at + n) × (left ≡ put out at (take n bytes))
front_put bytes n at next out left h k told =
    let z : n - 0 ≡ n = omega arith in
    let e : placing next left ≡ placed (take n bytes) at out = told ∙ ap (λ (m : ℕ). placed (take m bytes) at out) z in
    let l = length-take-le n bytes h in
    (placed_next (take n bytes) at out next left e (omega arith) ∙ omega arith, placed_left (take n bytes) at out next left e (omega arith))

-- ---- the two bytes before rows
module _ (m n bytes : ℕ) where
  pub mark_none : n ≡ 0 → rows_mark m n bytes ≡ []
  unfolding rows_mark
  mark_none h = rw (eq-eqb n 0 h)

  pub mark_some : (n ≡ 0 → ⊥) → rows_mark m n bytes ≡ m ∷ (bytes % 256) ∷ []
  unfolding rows_mark
  mark_some h = rw (ne_eqb n 0 h)

-- ---- its context
module _ (y : Option SixLowPanContext) where
  pub context_none : y ≡ None → items_bytes (context_items (context_of y)) ≡ []
  unfolding context_items joined
  context_none e = rw e

  module _ (c : SixLowPanContext) (told : y ≡ Some c) where
    pub context_length : length (items_bytes (context_items (context_of y))) ≡ 4
    unfolding context_items joined
    context_length = rw told

    pub context_put : (out left : List ℕ) (at start x ty : ℕ) → left ≡ put out at (ty ∷ (2 % 256) ∷ []) → ty ≡ 6 → start ≡ at + 2 → x ≡ bit c.is_compress 16 + c.context_id % 16
        → set (set left start x) (start + 1) c.context_length ≡ put out at (items_bytes (context_items (context_of y)))
    unfolding context_items joined put
    context_put out left at start x ty l w e k = rw (told, l, w, e, k) (simp towards_suc)

-- ---- its head
module _ (e : PrefixEntry) where
  abbrev front : List ℕ
  front = take (bytes_for e.prefix_bit_length) e.prefix

  abbrev mark : List ℕ
  mark = rows_mark 0 e.has_routes (e.has_routes * 3)

  -- a prefix's record has an array of 32 bytes, and its bit length is a byte
  module _ (vs : List Val) (is : Is E.the_row e vs) where
    front_fits : bytes_for e.prefix_bit_length ≤ 32
    front_fits = omega (arith, (LL.owed E.the_type E'.the_laws e vs is).1.0.1)

    pub front_full : length front ≡ bytes_for e.prefix_bit_length
    front_full =
        let array = (LL.owed E.the_type E'.the_laws e vs is).1.1.0.1.0.1 in
        length-take-le (bytes_for e.prefix_bit_length) e.prefix (omega (arith, front_fits))

    pub head_size : (bytes_for e.prefix_bit_length ≤ 32) × (length (head_bytes e) ≡ 4 + bytes_for e.prefix_bit_length + length mark)
    head_size = (front_fits, omega (arith, length-append front mark, front_full))

  pub head_put : (out left mid : List ℕ) (at start next n ty : ℕ) → left ≡ put out at (ty ∷ (n % 256) ∷ []) → ty ≡ 2 → start ≡ at + 2 → n ≡ value_size e
      → mid ≡ put (set (set left start e.domain_id) (start + 1) e.prefix_bit_length) (start + 2) front → next ≡ start + 2 + length front
      → put mid next mark ≡ put out at (head_bytes e)
  head_put out left mid at start next n ty l w a k m z =
      let two = put_two left start e.domain_id e.prefix_bit_length in
      put_then (set (set left start e.domain_id) (start + 1) e.prefix_bit_length) mid (start + 2) next front mark m z
      ∙ put_then left (set (set left start e.domain_id) (start + 1) e.prefix_bit_length) start (start + 2) (e.domain_id ∷ e.prefix_bit_length ∷ []) (front ++ mark) two refl
      ∙ put_then out left at start (ty ∷ (n % 256) ∷ []) (e.domain_id ∷ e.prefix_bit_length ∷ (front ++ mark)) l a
      ∙ ap (λ (j : ℕ). put out at (j ∷ (n % 256) ∷ e.domain_id ∷ e.prefix_bit_length ∷ (front ++ mark))) w
      ∙ ap (λ (j : ℕ). put out at (2 ∷ (j % 256) ∷ e.domain_id ∷ e.prefix_bit_length ∷ (front ++ mark))) k

pos_of : (n : ℕ) → (n ≡ 0 → ⊥) → 0 < n
pos_of zero h = absurd (h refl)
pos_of (suc n) h = omega arith

-- ---- the TLV of its rows is the two bytes before them, and them
module _ {A : Type 0} (m k : ℕ) (enc : A → List ℕ) (size : (x : A) → length (enc x) ≡ k) where
  items_of : (xs : List A) → 0 < length xs → items_bytes (row_items m enc xs) ≡ (m ∷ (length xs * k % 256) ∷ []) ++ joined enc xs
  unfolding row_items joined
  items_of [] h = absurd (omega arith)
  items_of (x ∷ xs) h = one (joined enc (x ∷ xs)) (joined_length k enc size (x ∷ xs))
    where
      one : (v : List ℕ) → length v ≡ length (x ∷ xs) * k → items_bytes (record { mark = m; value = v } ∷ []) ≡ (m ∷ (length (x ∷ xs) * k % 256) ∷ []) ++ v
      one v e = ap (λ (n : ℕ). m ∷ (n % 256) ∷ (v ++ [])) e ∙ ap (λ (l : List ℕ). m ∷ (length (x ∷ xs) * k % 256) ∷ l) (append-nil v)

  module _ (xs : List A) (from n : ℕ) (within : from + n ≤ length xs) where
    part_length : length (take n (drop from xs)) ≡ n
    part_length = length-take-le n (drop from xs) (rw length-drop (omega arith))

    none_are : n ≡ 0 → items_bytes (row_items m enc (take n (drop from xs))) ≡ joined enc (take n (drop from xs))
    unfolding row_items joined
    none_are h = rw h

    some_are : 0 < n → items_bytes (row_items m enc (take n (drop from xs))) ≡ (m ∷ (n * k % 256) ∷ []) ++ joined enc (take n (drop from xs))
    some_are h =
        items_of (take n (drop from xs)) (omega (arith, part_length))
        ∙ ap (λ (j : ℕ). (m ∷ (j * k % 256) ∷ []) ++ joined enc (take n (drop from xs))) part_length

    rows_are : items_bytes (row_items m enc (take n (drop from xs))) ≡ rows_mark m n (n * k) ++ joined enc (take n (drop from xs))
    rows_are =
        by_test (eqb n 0)
        (λ t. none_are (eqb-true n 0 t) ∙ ap (λ (l : List ℕ). l ++ joined enc (take n (drop from xs))) (sym (mark_none m n (n * k) (eqb-true n 0 t))))
        (λ t. some_are (pos_of n (eqb-false n 0 t)) ∙ ap (λ (l : List ℕ). l ++ joined enc (take n (drop from xs))) (sym (mark_some m n (n * k) (eqb-false n 0 t))))

    rows_count : length (joined enc (take n (drop from xs))) ≡ n * k
    rows_count = joined_length k enc size (take n (drop from xs)) ∙ ap (λ (j : ℕ). j * k) part_length

    rows_size_lem : rows_size n (n * k) ≡ length (items_bytes (row_items m enc (take n (drop from xs))))
    unfolding rows_size
    rows_size_lem =
        by_test (eqb n 0)
        (λ t. rw t (none_size (eqb-true n 0 t) (ap length (none_are (eqb-true n 0 t)) ∙ rows_count)))
        (λ t. rw t (omega (arith, ap length (some_are (pos_of n (eqb-false n 0 t))), rows_count)))
      where
        none_size : {j : ℕ} → n ≡ 0 → j ≡ n * k → 0 ≡ j
        none_size z e = sym (e ∙ ap (λ (i : ℕ). i * k) z ∙ omega arith)

context_size_lem : (x : Option SixLowPanContext) → context_size x ≡ length (items_bytes (context_items (context_of x)))
unfolding context_size context_items joined
context_size_lem (Some c) = refl
context_size_lem None = refl

-- ---- the inner TLVs of a prefix, one kind after the other
module _ (p : Prefix) where
  abbrev Routes : List ℕ
  Routes = items_bytes (row_items 0 route_bytes p.routes)

  abbrev Borders : List ℕ
  Borders = items_bytes (row_items 4 border_bytes p.borders)

  abbrev Context : List ℕ
  Context = items_bytes (context_items p.context)

  inner_split : items_bytes (inner_items p) ≡ Routes ++ (Borders ++ Context)
  unfolding inner_items
  inner_split =
      joined_append item_bytes (row_items 0 route_bytes p.routes) (row_items 4 border_bytes p.borders ++ context_items p.context)
      ∙ ap (λ (l : List ℕ). Routes ++ l) (joined_append item_bytes (row_items 4 border_bytes p.borders) (context_items p.context))

  value_length : length (prefix_value p) ≡ 2 + (length p.bytes + (length Routes + (length Borders + length Context)))
  unfolding prefix_value
  value_length =
      let a = length-append p.bytes (items_bytes (inner_items p)) in
      let b = ap length inner_split in
      let c = length-append Routes (Borders ++ Context) in
      let d = length-append Borders Context in
      omega arith

regroup : (a b c d e f : List ℕ) → a ++ ((b ++ c) ++ ((d ++ e) ++ f)) ≡ (a ++ b) ++ (c ++ (d ++ (e ++ f)))
regroup a b c d e f =
    ap (λ (l : List ℕ). a ++ ((b ++ c) ++ l)) (append_assoc d e f) ∙ ap (λ (l : List ℕ). a ++ l) (append_assoc b c (d ++ (e ++ f)))
    ∙ sym (append_assoc a b (c ++ (d ++ (e ++ f))))

-- ---- a prefix of five pieces, whose rows stand from h and from b on in the two tables
module _ (e : PrefixEntry) (hs : List HasRouteEntry) (h : ℕ) (bs : List BorderRouterEntry) (b : ℕ) (full : length (front e) ≡ bytes_for e.prefix_bit_length)
    (within : h + e.has_routes ≤ length hs) (also : b + e.border_routers ≤ length bs) where
  abbrev routes : List ℕ
  routes = joined route_bytes (take e.has_routes (drop h hs))

  abbrev borders : List ℕ
  borders = joined border_bytes (take e.border_routers (drop b bs))

  pub value_is : value_size e ≡ length (prefix_value (prefix_from e hs h bs b))
  value_is =
      let r = rows_size_lem 0 3 route_bytes route_size hs h e.has_routes within in
      let s = rows_size_lem 4 4 border_bytes border_size bs b e.border_routers also in
      let c = context_size_lem e.six_low_pan_context in
      let v = value_length (prefix_from e hs h bs b) in
      omega arith

  pub prefix_pieces : prefix_bytes e hs h bs b ≡ head_bytes e ++ (routes ++ (border_mark e ++ (borders ++ tail_bytes e)))
  unfolding prefix_value
  prefix_pieces =
      ap (λ (n : ℕ). 2 ∷ (n % 256) ∷ e.domain_id ∷ e.prefix_bit_length ∷ (front e ++ items_bytes (inner_items (prefix_from e hs h bs b)))) (sym value_is)
      ∙ ap (λ (l : List ℕ). 2 ∷ (value_size e % 256) ∷ e.domain_id ∷ e.prefix_bit_length ∷ l)
      (ap (λ (l : List ℕ). front e ++ l)
      (inner_split (prefix_from e hs h bs b)
      ∙ ap (λ (l : List ℕ). l ++ (Borders (prefix_from e hs h bs b) ++ tail_bytes e)) (rows_are 0 3 route_bytes route_size hs h e.has_routes within)
      ∙ ap (λ (l : List ℕ). (mark e ++ routes) ++ (l ++ tail_bytes e)) (rows_are 4 4 border_bytes border_size bs b e.border_routers also))
      ∙ regroup (front e) (mark e) routes (border_mark e) borders (tail_bytes e))

  pub prefix_length : length (prefix_bytes e hs h bs b) ≡ length (head_bytes e) + (length routes + (length (border_mark e) + (length borders + length (tail_bytes e))))
  prefix_length = ap length prefix_pieces ∙ five (head_bytes e) routes (border_mark e) borders (tail_bytes e)
    where
      five : (u v x y z : List ℕ) → length (u ++ (v ++ (x ++ (y ++ z)))) ≡ length u + (length v + (length x + (length y + length z)))
      five u v x y z =
          let i = length-append u (v ++ (x ++ (y ++ z))) in
          let j = length-append v (x ++ (y ++ z)) in
          let k = length-append x (y ++ z) in
          let l = length-append y z in
          omega arith

  -- each piece has room where it is placed, after the one before
  module _ (o : List ℕ) (at : ℕ) (room : at + length (prefix_bytes e hs h bs b) ≤ length o) where
    pub head_room : at + length (head_bytes e) ≤ length o
    head_room = omega (arith, prefix_length)

    module _ (a₁ : ℕ) (p₁ : List ℕ) (e₁ : a₁ ≡ at + length (head_bytes e)) (l₁ : p₁ ≡ put o at (head_bytes e)) where
      same₁ : length p₁ ≡ length o
      same₁ = ap length l₁ ∙ put_length o at (head_bytes e)

      pub routes_room : a₁ + length routes ≤ length p₁
      routes_room = omega (arith, prefix_length, same₁)

      module _ (a₂ : ℕ) (p₂ : List ℕ) (e₂ : a₂ ≡ a₁ + length routes) (l₂ : p₂ ≡ put p₁ a₁ routes) where
        same₂ : length p₂ ≡ length o
        same₂ = ap length l₂ ∙ put_length p₁ a₁ routes ∙ same₁

        pub mark_room : a₂ + length (border_mark e) ≤ length p₂
        mark_room = omega (arith, prefix_length, same₂)

        module _ (a₃ : ℕ) (p₃ : List ℕ) (e₃ : a₃ ≡ a₂ + length (border_mark e)) (l₃ : p₃ ≡ put p₂ a₂ (border_mark e)) where
          same₃ : length p₃ ≡ length o
          same₃ = ap length l₃ ∙ put_length p₂ a₂ (border_mark e) ∙ same₂

          pub borders_room : a₃ + length borders ≤ length p₃
          borders_room = omega (arith, prefix_length, same₃)

          module _ (a₄ : ℕ) (p₄ : List ℕ) (e₄ : a₄ ≡ a₃ + length borders) (l₄ : p₄ ≡ put p₃ a₃ borders) where
            same₄ : length p₄ ≡ length o
            same₄ = ap length l₄ ∙ put_length p₃ a₃ borders ∙ same₃

            pub tail_room : a₄ + length (tail_bytes e) ≤ length p₄
            tail_room = omega (arith, prefix_length, same₄)

            -- and all five are the prefix
            pub prefix_placed : (a₅ : ℕ) (p₅ : List ℕ) → a₅ ≡ a₄ + length (tail_bytes e) → p₅ ≡ put p₄ a₄ (tail_bytes e)
                → (a₅ ≡ at + length (prefix_bytes e hs h bs b)) × (p₅ ≡ put o at (prefix_bytes e hs h bs b))
            prefix_placed a₅ p₅ e₅ l₅ = (
              omega (arith, prefix_length),
              l₅ ∙ put_then p₃ p₄ a₃ a₄ borders (tail_bytes e) l₄ e₄ ∙ put_then p₂ p₃ a₂ a₃ (border_mark e) (borders ++ tail_bytes e) l₃ e₃
                  ∙ put_then p₁ p₂ a₁ a₂ routes (border_mark e ++ (borders ++ tail_bytes e)) l₂ e₂
                  ∙ put_then o p₁ at a₁ (head_bytes e) (routes ++ (border_mark e ++ (borders ++ tail_bytes e))) l₁ e₁ ∙ ap (put o at) (sym prefix_pieces),
            )

-- ---- where the next prefix begins
pub cursor_is : (at x r y b : ℕ) → x ≡ r → y ≡ b → ◌≡◌ {A = Cursor} (record { at = at; route = x; border = y }) (record { at = at; route = r; border = b })
cursor_is at x r y b e f = rw (e, f)
