-- A loop that fills a table: each turn it stores the record at a cursor, and takes the cursor a step on.
--     Filling          the cursor and the table after i turns
--     filling_none     before the first turn        filling_more     one turn more        filling_all     after the last
-- Assumes nothing.
use Prim.Native.Nat.{suc}
use Rattle.std.proofs.Common.{◌≡◌, ℕ, ◌+◌, ◌<◌, List, [], ◌∷◌, ◌++◌, length, get_or, drop, set, refl, sym, ap, ◌∙◌, add-one, drop-cons}
use Rattle.std.proofs.Math.Seq.{set-append_seam, drop-length}
use Rattle.std.proofs.lemmas.List.{append-nil}
use mathlib.Core.List.{append_assoc}
use Rattle.tables.specs.Tab.{tab, steps, steps_none, steps_more, tab_length}

module _ {E K : Type 0} (row : K → E) (next : K → K) (d : List E) (k : K) where
  abbrev pub from_cursor : ℕ → E
  from_cursor i = row (steps next i k)

  pub record Filling (i : ℕ) (t : List E) (c : K) : Type 0 where
    pub cursor : c ≡ steps next i k
    pub filled : t ≡ tab from_cursor i ++ drop i d

  pub filling_none : Filling 0 d k
  unfolding tab
  filling_none = record { cursor = sym (steps_none next k); filled = refl }

  stored : (i : ℕ) → i < length d → (r : E) → r ≡ from_cursor i → set (tab from_cursor i ++ drop i d) i r ≡ tab from_cursor (i + 1) ++ drop (i + 1) d
  unfolding tab
  stored i less r e =
      rw (drop-cons d i r less)
      (ap (λ (j : ℕ). set (tab from_cursor i ++ (get_or d i r ∷ drop (suc i) d)) j r) (sym (tab_length from_cursor i))
      ∙ set-append_seam (tab from_cursor i) (get_or d i r) (drop (suc i) d) r
      ∙ ap (λ (x : E). tab from_cursor i ++ (x ∷ drop (suc i) d)) e
      ∙ rw add-one (sym (append_assoc (tab from_cursor i) (from_cursor i ∷ []) (drop (suc i) d))))

  pub filling_more : (i : ℕ) (t : List E) (c : K) → Filling i t c → i < length d → (r : E) → r ≡ row c → (b : K) → b ≡ next c → Filling (i + 1) (set t i r) b
  filling_more i t c f less r r_is b b_is = record {
    cursor = b_is ∙ ap next f.cursor ∙ sym (steps_more next i k);
    filled = ap (λ (x : List E). set x i r) f.filled ∙ stored i less r (r_is ∙ ap row f.cursor);
  }

  pub filling_all : (t : List E) (c : K) → Filling (length d) t c → t ≡ tab from_cursor (length d)
  filling_all t c f = f.filled ∙ ap (λ (l : List E). tab from_cursor (length d) ++ l) (drop-length d) ∙ append-nil (tab from_cursor (length d))
