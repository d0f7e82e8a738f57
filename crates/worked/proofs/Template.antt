-- Worked lines of the template query, computed from the definitions.
-- Assumes nothing.
use mathlib.Core.Path.{◌≡◌, refl}
use mathlib.Core.List.{List, [], ◌∷◌}
use Prim.Native.Nat.{ℕ}
use Rattle.refusal.specs.Answer.{Answer, given, absent, refused}
use Rattle.refusal.specs.Every.{Every}
use Rattle.tlv.specs.Entries.{valued, long, first, step, frames, framing}
use Rattle.tlv.specs.Limits.{limited, framed}
use Rattle.tlv_last.specs.Last.{last_of, last_entry, spot_at}
use Rattle.tlv_last.specs.declared.Spot.{Spot}
use Rattle.house_template.specs.Template.{Supply, site, template, supplied, supplied_spot, supplied_value}

-- the site's dataset, the template, where the value of type 0 lies, and its bytes
pub record Line : Type 0 where
  pub dataset : List ℕ
  pub house_template : List ℕ
  pub spot : Answer (Supply Spot)
  pub value : List ℕ

abbrev line : List ℕ → List ℕ → Answer (Supply Spot) → List ℕ → Line
line d t x v = record { dataset = d; house_template = t; spot = x; value = v }

abbrev pub lines : List Line
lines =
    -- an empty value of the site's counts as present; the template is tested all the same
    line (0x00 ∷ 0x00 ∷ []) (0x00 ∷ 0x01 ∷ 0x41 ∷ []) (given (site (spot_at 0 2 0))) []
    ∷ line (0x00 ∷ 0x00 ∷ []) (0x03 ∷ []) (refused 2 0 1) []
    -- the last of the site's; the last of the template's, where the site has another type
    ∷ line (0x00 ∷ 0x01 ∷ 0x41 ∷ 0x00 ∷ 0x01 ∷ 0x42 ∷ []) (0x00 ∷ 0x01 ∷ 0x43 ∷ []) (given (site (spot_at 3 5 1))) (0x42 ∷ [])
    ∷ line (0x03 ∷ 0x00 ∷ []) (0x00 ∷ 0x01 ∷ 0x41 ∷ 0x00 ∷ 0xff ∷ 0x00 ∷ 0x01 ∷ 0x42 ∷ []) (given (template (spot_at 3 7 1))) (0x42 ∷ [])
    -- neither has the type
    ∷ line (0x03 ∷ 0x00 ∷ []) (0x07 ∷ 0x00 ∷ []) absent []
    -- the site's refusal before the template's
    ∷ line (0x03 ∷ 0x00 ∷ 0x00 ∷ []) (0x00 ∷ []) (refused 2 2 0) []
    ∷ []

pub worked : Every (λ (l : Line). (supplied_spot 0 l.dataset l.house_template ≡ l.spot) × (supplied_value 0 l.dataset l.house_template ≡ l.value)) lines
unfolding supplied_spot supplied_value supplied last_entry last_of framed limited framing frames step first long valued
worked = ((refl, refl), ((refl, refl), ((refl, refl), ((refl, refl), ((refl, refl), ((refl, refl), tt))))))
