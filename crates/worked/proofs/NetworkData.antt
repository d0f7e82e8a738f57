-- Worked lines on Network Data, computed from the definition: the bench sheet's HasRoute row, which has no star, and one on "first met".
-- Assumes nothing.
use mathlib.Core.Path.{◌≡◌, refl}
use mathlib.Core.Bool.{true}
use mathlib.Core.List.{List, [], ◌∷◌}
use Rattle.refusal.specs.Answer.{Answer, given, absent, refused}
use Rattle.refusal.specs.Every.{Every}
use Rattle.network_framing.specs.Frame.{head_at, inner_of, walk_in}
use Rattle.network_framing.specs.Tlvs.{first, opened, domain_of, bits_of, bytes_of, step, frames}
use Rattle.network_data.specs.Rules.{join, rule, ended, rules, check_in, check_head, check_prefix, values, check_from, check_value}
use Rattle.network_data.specs.Decode.{row_places, places_in, last_context, Prefix, head_items, inner, prefix_at, prefixes, contents, decode_network_data}

-- an answer, and what it is
abbrev pub Line : Type 0
Line = Answer (List Prefix) × Answer (List Prefix)

-- the HasRoute row `A8 00 60`; a row list of 1 byte, with a cut TLV after it
abbrev pub lines : List Line
lines =
    (decode_network_data 0 (0x02 ∷ 0x07 ∷ 0x00 ∷ 0x00 ∷ 0x00 ∷ 0x03 ∷ 0xA8 ∷ 0x00 ∷ 0x60 ∷ []), given (record { domain = 0; bits = 0; bytes = []; context = absent; routes = record { rloc16 = 0xA800; router_preference = 1; is_nat64 = true } ∷ []; borders = [] } ∷ []))
    ∷ (decode_network_data 0 (0x02 ∷ 0x06 ∷ 0x00 ∷ 0x00 ∷ 0x00 ∷ 0x01 ∷ 0x00 ∷ 0x02 ∷ []), refused 4 0 0)
    ∷ []

pub worked : Every (λ (l : Line). l.0 ≡ l.1) lines
unfolding decode_network_data contents prefixes prefix_at inner head_items last_context places_in row_places check_value check_from values check_prefix check_head
    check_in rules ended rule join head_at inner_of walk_in frames step first opened domain_of bits_of bytes_of
worked = (refl, (refl, tt))
