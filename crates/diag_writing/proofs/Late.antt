-- The bytes of a Connectivity, with its late fields and without.
-- Assumes nothing.
use Rattle.std.specs.Prelude.{Some, None}
use mathlib.Core.Path.{◌≡◌}
use mathlib.Core.List.{List, [], ◌∷◌}
use Prim.Native.Nat.{ℕ, ◌*◌}
use lib.ListN.{get_or, take}
use Rattle.wire_bytes.specs.Bytes.{bytes_of}
use Rattle.connectivity.specs.Answers.{connectivity_paper}
use Rattle.connectivity.specs.declared.Connectivity.{Connectivity}
use Rattle.value_writing.specs.Encode.{priority_bits, late_bytes, connectivity_bytes}

module _ (c : Connectivity) (p : ℕ) (is : p ≡ priority_bits c.parent_priority) where
  abbrev seven : List ℕ → List ℕ
  seven l = (p * 64) ∷ c.link_quality_3 ∷ c.link_quality_2 ∷ c.link_quality_1 ∷ c.leader_cost ∷ c.id_sequence ∷ c.active_routers ∷ l

  pub no_buffer : c.rx_off_child_buffer_size ≡ None → take 7 (seven (0 ∷ 0 ∷ 0 ∷ [])) ≡ connectivity_bytes (connectivity_paper c)
  unfolding connectivity_bytes late_bytes
  no_buffer e = rw (is, e)

  pub no_count : (x : ℕ) → c.rx_off_child_buffer_size ≡ Some x → c.rx_off_child_datagram_count ≡ None
      → take 7 (seven (0 ∷ 0 ∷ 0 ∷ [])) ≡ connectivity_bytes (connectivity_paper c)
  unfolding connectivity_bytes late_bytes
  no_count x e f = rw (is, e, f)

  pub both_late : (x y : ℕ) (w : List ℕ) → c.rx_off_child_buffer_size ≡ Some x → c.rx_off_child_datagram_count ≡ Some y → w ≡ bytes_of 2 x
      → take 10 (seven (get_or w 0 0 ∷ get_or w 1 0 ∷ y ∷ [])) ≡ connectivity_bytes (connectivity_paper c)
  unfolding connectivity_bytes late_bytes bytes_of
  both_late x y w e f g = rw (is, e, f, g)
