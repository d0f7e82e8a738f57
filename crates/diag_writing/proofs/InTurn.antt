-- The pieces of a payload are placed one after the other: each has room where it is placed, and together they are what the plan says.
-- Assumes nothing.
use mathlib.Core.Path.{◌≡◌, refl, sym, ap, subst, ◌∙◌}
use mathlib.Core.List.{List, ◌++◌}
use Prim.Native.Nat.{ℕ, ◌+◌, ◌≤◌}
use native.Mathlib.Omega.{arith}
use native.Mathlib.Nat.{zero-add}
use lib.ListN.{length, take, drop, length-append}
use Rattle.std.specs.Prelude.{Result}
use Rattle.refusal.specs.Sizes.{most_value}
use Rattle.refusal.specs.Every.{Every}
use Rattle.refusal.specs.Each.{joined}
use Rattle.refusal.specs.Output.{put, output, emit}
use Rattle.refusal.specs.Results.{answer_of, option_of}
use Rattle.refusal.specs.declared.Refusal.{Refusal}
use Rattle.laws.proofs.Puts.{put_then, put_length}
use Rattle.network_writing.specs.Encode.{network_bytes}
use Rattle.network_writing.specs.Tables.{prefixes_of, routes_asked, borders_asked}
use Rattle.value_writing.specs.Encode.{child_bytes}
use Rattle.diag.specs.declared.NetDiagData.{NetDiagData}
use Rattle.route64.specs.declared.Route64.{Route64}
use Rattle.network_data.specs.declared.PrefixEntry.{PrefixEntry}
use Rattle.network_data.specs.declared.HasRouteEntry.{HasRouteEntry}
use Rattle.network_data.specs.declared.BorderRouterEntry.{BorderRouterEntry}
use Rattle.diag_rows.specs.declared.ChildTableEntry.{ChildTableEntry}
use Rattle.diag_rows.specs.declared.ChildIpv6AddrInfo.{ChildIpv6AddrInfo}
use Rattle.record_writing.specs.Lent.{Lent, lent}
use Rattle.record_writing.specs.Written.{written}
use Rattle.diag_writing.specs.Pieces.{before_bytes, between_bytes, after_bytes, list_entry, Placeable, Counted, ListLies}
use Rattle.diag_writing.specs.Plans.{Planned, chosen_of}
use Rattle.writing_walks.specs.declared.Plan.{Plan}
use Rattle.writing_walks.specs.declared.Cursor.{Cursor}
use Rattle.diag_writing.proofs.Ready.{prefix_bytes, children_bytes, lists_bytes, Ready, ready}
use Rattle.diag_writing.proofs.Wrote.{Wrote}

-- the start of an output
abbrev begun : ℕ → Cursor
begun n = record { at = n; route = 0; border = 0 }

-- what each callee asks for, and what it says
abbrev pub AsksBefore : NetDiagData → List ℕ → Route64 → ℕ → List ℕ → Type 0
AsksBefore x s t n o = Placeable x s × Counted (option_of x.route64) t × (n ≤ most_value) × (length (before_bytes x s t n) ≤ length o)

abbrev pub SaysBefore : NetDiagData → List ℕ → Route64 → ℕ → List ℕ → Cursor → List ℕ → Type 0
SaysBefore x s t n o z p = (z ≡ begun (length (before_bytes x s t n))) × (p ≡ put o 0 (before_bytes x s t n))

abbrev network : List PrefixEntry → ℕ → List HasRouteEntry → List BorderRouterEntry → Cursor → List ℕ
network t n hs bs c = network_bytes (prefixes_of (take n t) (drop c.route hs) (drop c.border bs))

abbrev pub AsksPrefixes : List PrefixEntry → ℕ → List HasRouteEntry → List BorderRouterEntry → List ℕ → Cursor → Type 0
AsksPrefixes t n hs bs o c =
    (n ≤ length t) × ((c.route + routes_asked (take n t) ≤ length hs) × (c.border + borders_asked (take n t) ≤ length bs) × (c.route + routes_asked (take n t) ≤ 96)
    × (c.border + borders_asked (take n t) ≤ 96) × (c.at + length (network t n hs bs c) ≤ length o))

abbrev pub SaysPrefixes : List PrefixEntry → ℕ → List HasRouteEntry → List BorderRouterEntry → List ℕ → Cursor → Cursor → List ℕ → Type 0
SaysPrefixes t n hs bs o c z p = (z.at ≡ c.at + length (network t n hs bs c)) × (p ≡ put o c.at (network t n hs bs c))

abbrev pub AsksBetween : NetDiagData → List ℕ → List ℕ → Cursor → Type 0
AsksBetween x s o c = Placeable x s × (c.at + length (between_bytes x s) ≤ length o)

abbrev rows : List ChildTableEntry → ℕ → List ℕ
rows t n = joined child_bytes (take n t)

abbrev pub AsksChildren : List ChildTableEntry → ℕ → List ℕ → ℕ → Type 0
AsksChildren t n o a = (n ≤ length t) × (a + length (rows t n) ≤ length o)

abbrev pub AsksAfter : NetDiagData → List ℕ → List ℕ → ℕ → Type 0
AsksAfter x s o a = Placeable x s × (a + length (after_bytes x s) ≤ length o)

abbrev lists_out : List ChildIpv6AddrInfo → ℕ → List ℕ → List ℕ
lists_out t n s = joined (list_entry s) (take n t)

abbrev pub AsksLists : List ChildIpv6AddrInfo → ℕ → List ℕ → List ℕ → ℕ → Type 0
AsksLists t n s o a = (n ≤ length t) × (Every (ListLies s) (take n t) × (a + length (lists_out t n s) ≤ length o))

-- six pieces, each after the one before
module _ (o a b c d e f : List ℕ) (room : length (a ++ (b ++ (c ++ (d ++ (e ++ f))))) ≤ length o) where
  sizes : length (a ++ (b ++ (c ++ (d ++ (e ++ f))))) ≡ length a + (length b + (length c + (length d + (length e + length f))))
  sizes = rw (length-append a (b ++ (c ++ (d ++ (e ++ f)))), length-append b (c ++ (d ++ (e ++ f))), length-append c (d ++ (e ++ f)), length-append d (e ++ f), length-append e f)

  room_a : length a ≤ length o
  room_a = omega (arith, sizes)

  module _ (i : ℕ) (o₁ : List ℕ) (i_is : i ≡ length a) (o₁_is : o₁ ≡ put o 0 a) where
    same₁ : length o₁ ≡ length o
    same₁ = ap length o₁_is ∙ put_length o 0 a

    room_b : i + length b ≤ length o₁
    room_b = omega (arith, sizes, same₁)

    module _ (j : ℕ) (o₂ : List ℕ) (j_is : j ≡ i + length b) (o₂_is : o₂ ≡ put o₁ i b) where
      same₂ : length o₂ ≡ length o
      same₂ = ap length o₂_is ∙ put_length o₁ i b ∙ same₁

      room_c : j + length c ≤ length o₂
      room_c = omega (arith, sizes, same₂)

      module _ (k : ℕ) (o₃ : List ℕ) (k_is : k ≡ j + length c) (o₃_is : o₃ ≡ put o₂ j c) where
        same₃ : length o₃ ≡ length o
        same₃ = ap length o₃_is ∙ put_length o₂ j c ∙ same₂

        room_d : k + length d ≤ length o₃
        room_d = omega (arith, sizes, same₃)

        module _ (m : ℕ) (o₄ : List ℕ) (m_is : m ≡ k + length d) (o₄_is : o₄ ≡ put o₃ k d) where
          same₄ : length o₄ ≡ length o
          same₄ = ap length o₄_is ∙ put_length o₃ k d ∙ same₃

          room_e : m + length e ≤ length o₄
          room_e = omega (arith, sizes, same₄)

          module _ (n : ℕ) (o₅ : List ℕ) (n_is : n ≡ m + length e) (o₅_is : o₅ ≡ put o₄ m e) where
            room_f : n + length f ≤ length o₅
            room_f = omega (arith, sizes, ap length o₅_is ∙ put_length o₄ m e ∙ same₄)

            placed : (o₆ : List ℕ) → o₆ ≡ put o₅ n f → o₆ ≡ put o 0 (a ++ (b ++ (c ++ (d ++ (e ++ f)))))
            placed o₆ o₆_is =
                o₆_is ∙ put_then o₄ o₅ m n e f o₅_is n_is ∙ put_then o₃ o₄ k m d (e ++ f) o₄_is m_is ∙ put_then o₂ o₃ j k c (d ++ (e ++ f)) o₃_is k_is
                ∙ put_then o₁ o₂ i j b (c ++ (d ++ (e ++ f))) o₂_is j_is ∙ put_then o o₁ 0 i a (b ++ (c ++ (d ++ (e ++ f)))) o₁_is (i_is ∙ sym (zero-add (length a)))

module _ (r : NetDiagData) (s : List ℕ) (t : Route64) (ps : List PrefixEntry) (hs : List HasRouteEntry) (bs : List BorderRouterEntry) (cs : List ChildTableEntry) (ls : List ChildIpv6AddrInfo) (o : List ℕ) (p : Plan)
    (x : NetDiagData) (planned : (q : List ℕ) → length q ≡ length s → Planned r (lent q t ps hs bs cs ls) (length o) p) (chose : x ≡ chosen_of p r) where
  abbrev l : Lent
  l = lent s t ps hs bs cs ls

  g : Ready x l p r o
  g = subst (λ (y : NetDiagData). Ready y l p r o) (sym chose) (ready r l p o (planned s refl))

  abbrev A : List ℕ
  A = before_bytes x s t p.network

  abbrev B : List ℕ
  B = prefix_bytes x l p

  abbrev C : List ℕ
  C = between_bytes x s

  abbrev D : List ℕ
  D = children_bytes x l p

  abbrev E : List ℕ
  E = after_bytes x s

  abbrev F : List ℕ
  F = lists_bytes x l p

  pub ask_before : AsksBefore x s t p.network o
  ask_before = (g.placeable, g.counted, g.network, room_a o A B C D E F g.room)

  module _ (z₁ : Cursor) (o₁ : List ℕ) (s₁ : SaysBefore x s t p.network o z₁ o₁) where
    at₁ : z₁.at ≡ length A
    at₁ = ap (λ (y : Cursor). y.at) s₁.0

    out₁ : network ps p.prefixes hs bs z₁ ≡ B
    out₁ = ap (λ (y : Cursor). network ps p.prefixes hs bs y) s₁.0

    pub ask_prefixes : AsksPrefixes ps p.prefixes hs bs o₁ z₁
    ask_prefixes =
        subst (λ (y : Cursor). AsksPrefixes ps p.prefixes hs bs o₁ y) (sym s₁.0)
        (g.prefixes, (omega (arith, g.routes), omega (arith, g.borders), omega (arith, g.few_routes), omega (arith, g.few_borders), room_b o A B C D E F g.room (length A) o₁ refl s₁.1))

    module _ (z₂ : Cursor) (o₂ : List ℕ) (s₂ : SaysPrefixes ps p.prefixes hs bs o₁ z₁ z₂ o₂) where
      at₂ : z₂.at ≡ z₁.at + length B
      at₂ = s₂.0 ∙ ap (λ (y : List ℕ). z₁.at + length y) out₁

      left₂ : o₂ ≡ put o₁ z₁.at B
      left₂ = s₂.1 ∙ ap (put o₁ z₁.at) out₁

      pub ask_between : AsksBetween x s o₂ z₂
      ask_between = (g.placeable, room_c o A B C D E F g.room z₁.at o₁ at₁ s₁.1 z₂.at o₂ at₂ left₂)

      module _ (a₃ : ℕ) (o₃ : List ℕ) (s₃ : Wrote o₂ z₂.at C a₃ o₃) where
        pub ask_children : AsksChildren cs p.children o₃ a₃
        ask_children = (g.children, room_d o A B C D E F g.room z₁.at o₁ at₁ s₁.1 z₂.at o₂ at₂ left₂ a₃ o₃ s₃.0 s₃.1)

        module _ (a₄ : ℕ) (o₄ : List ℕ) (s₄ : Wrote o₃ a₃ D a₄ o₄) where
          pub ask_after : AsksAfter x s o₄ a₄
          ask_after = (g.placeable, room_e o A B C D E F g.room z₁.at o₁ at₁ s₁.1 z₂.at o₂ at₂ left₂ a₃ o₃ s₃.0 s₃.1 a₄ o₄ s₄.0 s₄.1)

          module _ (a₅ : ℕ) (o₅ : List ℕ) (s₅ : Wrote o₄ a₄ E a₅ o₅) where
            pub ask_lists : AsksLists ls p.lists s o₅ a₅
            ask_lists =
                (g.lists, (g.lists_lie, room_f o A B C D E F g.room z₁.at o₁ at₁ s₁.1 z₂.at o₂ at₂ left₂ a₃ o₃ s₃.0 s₃.1 a₄ o₄ s₄.0 s₄.1 a₅ o₅ s₅.0 s₅.1))

            pub written_out : (a₆ : ℕ) (o₆ : List ℕ) → Wrote o₅ a₅ F a₆ o₆ → (z : Result ℕ Refusal) → z ≡ p.answer → output (answer_of z) o₆ ≡ emit (written r l) o
            written_out a₆ o₆ s₆ z y =
                let out = placed o A B C D E F g.room z₁.at o₁ at₁ s₁.1 z₂.at o₂ at₂ left₂ a₃ o₃ s₃.0 s₃.1 a₄ o₄ s₄.0 s₄.1 a₅ o₅ s₅.0 s₅.1 o₆ s₆.1 in
                rw (y, out) g.leaves
