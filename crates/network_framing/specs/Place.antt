-- The same by places: the code's own language. `sub_agrees` and `head_agrees` (proofs/Agrees.antt): it is what the definition finds there.
-- Assumes nothing.
use Rattle.std.specs.Prelude.{ℕ, ◌+◌, ◌-◌, ◌/◌, List, get_or, ltb, leb, Option, Some, None}
use Rattle.refusal.specs.Answer.{pick}
use Rattle.network_framing.specs.Tlvs.{bytes_for}
use Rattle.network_framing.specs.Frame.{among}
use Rattle.network_framing.specs.declared.SubTlv.{SubTlv}
use Rattle.network_framing.specs.declared.SubTlv.TheVariants.{Item, Cut, End}

unfoldable pub sub_place : List ℕ → (at end : ℕ) → SubTlv
sub_place s at end =
    among s at end End Cut
    (pick (ltb (end - at) 2) Cut
    (pick (leb (get_or s (at + 1) 0) (end - (at + 2))) (Item (get_or s at 0 / 2) (at + 2) (get_or s (at + 1) 0)) Cut))

unfoldable pub head_place : List ℕ → (start end : ℕ) → Option ℕ
head_place s start end =
    among s start end None None
    (pick (ltb (end - start) 2) None
    (pick (ltb (end - start) (2 + bytes_for (get_or s (start + 1) 0))) None (Some (start + (2 + bytes_for (get_or s (start + 1) 0))))))
