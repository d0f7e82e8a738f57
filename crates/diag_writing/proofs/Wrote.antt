-- What a writer leaves: the laws by which pieces that were written one after the other are one piece, and of the rows and entries that are such pieces.
-- Assumes nothing.
use mathlib.Core.Path.{◌≡◌, refl, sym, ap, ◌∙◌}
use mathlib.Core.List.{List, [], ◌∷◌, ◌++◌}
use Prim.Native.Nat.{ℕ, ◌+◌, ◌*◌, ◌/◌, ◌%◌, ◌≤◌}
use native.Mathlib.Omega.{arith}
use native.Mathlib.Numerals.{towards_suc}
use lib.ListN.{length, get_or, set, length-append}
use Rattle.refusal.specs.Sizes.{most_value}
use Rattle.refusal.specs.Output.{put, Placed, placing, placed}
use Rattle.refusal.specs.Each.{bit}
use Rattle.laws.proofs.Puts.{put_then, put_length, put_none}
use Rattle.laws.proofs.Emits.{placed_next, placed_left}
use Rattle.tlv_writing.specs.Encode.{header, headed, encode, encoded, placed_if}
use Rattle.tlv_writing.proofs.Encodes.{header_room, entry_placed}
use Rattle.network_data.specs.declared.HasRouteEntry.{HasRouteEntry}
use Rattle.network_data.specs.declared.BorderRouterEntry.{BorderRouterEntry}
use Rattle.network_writing.specs.Encode.{route_bytes, border_flags, more_flags, border_bytes}
use Rattle.diag_rows.specs.declared.ChildTableEntry.{ChildTableEntry}
use Rattle.value_writing.specs.Encode.{child_bytes}

-- xs stands from the place at on, next is the place after it, and nothing else changed
abbrev pub Wrote : (out : List ℕ) → (at : ℕ) → List ℕ → (next : ℕ) → (left : List ℕ) → Type 0
Wrote out at xs next left = (next ≡ at + length xs) × (left ≡ put out at xs)

module _ (out : List ℕ) (at : ℕ) where
  pub wrote_none : Wrote out at [] at out
  wrote_none = (omega arith, sym (put_none out at))

  module _ (next : ℕ) (left : List ℕ) where
    pub wrote_length : (xs : List ℕ) → Wrote out at xs next left → length left ≡ length out
    wrote_length xs w = ap length w.1 ∙ put_length out at xs

    pub wrote_then : (xs ys : List ℕ) (last : ℕ) (done : List ℕ) → Wrote out at xs next left → Wrote left next ys last done → Wrote out at (xs ++ ys) last done
    wrote_then xs ys last done w v = (omega (arith, length-append xs ys), v.1 ∙ put_then out left at next xs ys w.1 w.0)

    -- of the shared writers, where there is room
    pub bytes_wrote : (bs : List ℕ) → at + length bs ≤ length out → placing next left ≡ placed bs at out → Wrote out at bs next left
    bytes_wrote bs h told = (placed_next bs at out next left told h, placed_left bs at out next left told h)

    module _ (t : ℕ) where
      pub header_wrote : (n : ℕ) → n ≤ most_value → at + length (header t n) ≤ length out → placing next left ≡ placed_if (headed t n) at out
          → Wrote out at (header t n) next left
      header_wrote n h k told =
          let e = told ∙ sym (header_room t n at out h k) in
          (ap (λ (x : Placed). x.next) e, ap (λ (x : Placed). x.left) e)

      pub entry_wrote : (v : List ℕ) → length v ≤ most_value → at + length (encode t v) ≤ length out → placing next left ≡ placed_if (encoded t v) at out
          → Wrote out at (encode t v) next left
      entry_wrote v h k told = bytes_wrote (encode t v) k (told ∙ entry_placed t v at out h)

  -- ---- rows, byte by byte
  pub two_wrote : (a b : ℕ) → Wrote out at (a ∷ b ∷ []) (at + 2) (set (set out at a) (at + 1) b)
  unfolding put
  two_wrote a b = (refl, simp towards_suc)

  pub three_wrote : (a b c : ℕ) → Wrote out at (a ∷ b ∷ c ∷ []) (at + 3) (set (set (set out at a) (at + 1) b) (at + 2) c)
  unfolding put
  three_wrote a b c = (refl, simp towards_suc)

  pub route_wrote : (h : HasRouteEntry) (w : ℕ) → w ≡ bit h.is_nat64 32
      → Wrote out at (route_bytes h) (at + 3) (set (set (set out at (h.rloc16 / 256)) (at + 1) (h.rloc16 % 256)) (at + 2) (h.router_preference % 4 * 64 + w))
  unfolding route_bytes
  route_wrote h w e = rw e (three_wrote _ _ _)

  pub border_wrote : (b : BorderRouterEntry) (f g : ℕ) → f ≡ border_flags b → g ≡ more_flags b
      → Wrote out at (border_bytes b) (at + 4) (set (set (set (set out at (b.rloc16 / 256)) (at + 1) (b.rloc16 % 256)) (at + 2) f) (at + 3) g)
  unfolding put border_bytes
  border_wrote b f g e k = (refl, rw (e, k) (simp towards_suc))

  pub child_wrote : (c : ChildTableEntry) (bs : List ℕ) → bs ≡ child_bytes c
      → Wrote out at (child_bytes c) (at + 3) (set (set (set out at (get_or bs 0 0)) (at + 1) (get_or bs 1 0)) (at + 2) (get_or bs 2 0))
  unfolding child_bytes
  child_wrote c bs e = rw e (three_wrote _ _ _)
