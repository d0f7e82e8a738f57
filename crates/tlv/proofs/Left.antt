-- The laws of what a walk has left: one entry and what is left after it, by what `frame_at` found at its place, or nothing.
-- Assumes nothing.
use mathlib.Core.Path.{◌≡◌, refl, sym, ap, ◌∙◌}
use mathlib.Core.List.{List, [], ◌∷◌}
use Prim.Native.Nat.{ℕ, ◌+◌}
use lib.ListN.{take, drop}
use Rattle.tlv.specs.Entries.{entry, framing}
use Rattle.tlv.specs.Place.{frame_at}
use Rattle.tlv.specs.Walk.{entries_from}
use Rattle.tlv.specs.declared.Frame.{Frame}
use Rattle.tlv.specs.declared.Frame.TheVariants as f
use Rattle.tlv.proofs.Walks.{from, from_start, turn_end, turn_cut, turn_entries}

pub left_is : (s : List ℕ) (at : ℕ) → entries_from s at ≡ (from s at).entries
unfolding entries_from from
left_is s at = refl

pub left_start : (s : List ℕ) → entries_from s 0 ≡ (framing s).entries
left_start s = left_is s 0 ∙ ap (λ w. w.entries) (from_start s)

module _ (s : List ℕ) (at : ℕ) (r : Frame) (found : r ≡ frame_at s at) where
  pub left_entry : (t a n : ℕ) → r ≡ f.Entry t a n → entries_from s at ≡ entry at t a (take n (drop a s)) ∷ entries_from s (a + n)
  left_entry t a n e = left_is s at ∙ turn_entries s at r found t a n e ∙ ap (λ es. entry at t a (take n (drop a s)) ∷ es) (sym (left_is s (a + n)))

  pub left_none : ((t a n : ℕ) → r ≡ f.Entry t a n → ⊥) → entries_from s at ≡ []
  left_none h = left_is s at ∙ none r found h
    where
      none : (g : Frame) → g ≡ frame_at s at → ((t a n : ℕ) → g ≡ f.Entry t a n → ⊥) → (from s at).entries ≡ []
      none f.End e k = ap (λ w. w.entries) (turn_end s at f.End e refl)
      none f.Cut e k = ap (λ w. w.entries) (turn_cut s at f.Cut e refl)
      none (f.Entry t a n) e k = absurd (k t a n refl)
