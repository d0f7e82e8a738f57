-- Worked lines, computed from the definitions: which fault of a payload is given and where, what is present and empty, and the lists of type 30.
-- Assumes nothing.
use mathlib.Core.Path.{◌≡◌, refl}
use mathlib.Core.List.{List, [], ◌∷◌}
use Prim.Native.Nat.{ℕ}
use Rattle.refusal.specs.Answer.{Answer, given, absent, refused, on_given}
use Rattle.refusal.specs.Every.{Every}
use Rattle.wire.specs.Be.{be, be_from}
use Rattle.tlv.specs.Entries.{valued, first, step, frames, framing}
use Rattle.tlv.specs.Limits.{limited, framed}
use Rattle.tlv_last.specs.Last.{last_of}
use Rattle.network_framing.specs.Frame.{head_at, inner_of, walk_in}
use Rattle.network_framing.specs.Tlvs as w
use Rattle.network_data.specs.Rules.{ended, rules, check_in, check_head, check_prefix, values, check_from, check_value}
use Rattle.network_data.specs.Decode.{prefixes, contents, all_routes, all_borders, counts_of, decode_network_data}
use Rattle.diag_rules.specs.Rule.{keeps_rule, value_of}
use Rattle.refusal.specs.Numbered.{nth}
use Rattle.diag_rows.specs.Rows.{listed, child_rows, addresses}
use Rattle.diag_entries.specs.Parts.{all_of, Said}
use Rattle.diag_entries.specs.Checked.{entry_value, decoding, checked}
use Rattle.diag_entries.specs.Lists.{address_lists, child_list}
use Rattle.diag.specs.Diag.{NetworkDataValue, Diag, diag, decode}

-- a payload, and its refusal: number and place
abbrev pub Line : Type 0
Line = List ℕ × ℕ × ℕ

abbrev pub lines : List Line
lines =
    -- every entry must decode, also one that does not count; and a cut comes first
    (0x01 ∷ 0x00 ∷ 0x01 ∷ 0x02 ∷ 0x28 ∷ 0x00 ∷ [], 4, 0)
    ∷ (0x01 ∷ 0x00 ∷ 0x01 ∷ 0x02 ∷ [], 2, 2)
    -- the first fault in wire order, whichever its number
    ∷ (0x07 ∷ 0x01 ∷ 0x00 ∷ 0x01 ∷ 0x00 ∷ [], 5, 0)
    ∷ (0x01 ∷ 0x00 ∷ 0x07 ∷ 0x01 ∷ 0x00 ∷ [], 4, 0)
    -- the place is that of the entry, not of what is at fault in it
    ∷ (0x00 ∷ 0x00 ∷ 0x07 ∷ 0x03 ∷ 0x02 ∷ 0x01 ∷ 0x00 ∷ [], 5, 2)
    -- a fault after Network Data that decodes
    ∷ (0x07 ∷ 0x04 ∷ 0x02 ∷ 0x02 ∷ 0x00 ∷ 0x00 ∷ 0x01 ∷ [], 2, 6)
    ∷ (0x07 ∷ 0x04 ∷ 0x02 ∷ 0x02 ∷ 0x00 ∷ 0x00 ∷ 0x01 ∷ 0x00 ∷ [], 4, 6)
    ∷ []

pub refusals : Every (λ (l : Line). decode l.0 ≡ refused l.1 l.2 0) lines
unfolding decode checked decoding entry_value value_of keeps_rule framed limited framing frames step first valued decode_network_data check_value check_from
    values check_prefix check_head head_at check_in rules ended walk_in inner_of w.frames w.step w.first w.opened
refusals = (refl, (refl, (refl, (refl, (refl, (refl, (refl, tt)))))))

abbrev nothing : {A : Type 0} → (start : ℕ) → A → Answer (Said A)
nothing a x = given record { start = a; len = 0; says = x }

abbrev no_prefixes : NetworkDataValue
no_prefixes = record { prefixes = []; counts = record { prefixes = 0; has_routes = 0; border_routers = 0 } }

-- types 8, 16, 0 and 7 of no bytes are present and empty, all others absent
pub present_and_empty : decode (0x08 ∷ 0x00 ∷ 0x10 ∷ 0x00 ∷ 0x00 ∷ 0x00 ∷ 0x07 ∷ 0x00 ∷ []) ≡ given record {
  ext_mac_addr = nothing 6 [];
  mac_addr = absent;
  mode = absent;
  timeout = absent;
  connectivity = absent;
  route64 = absent;
  leader_data = absent;
  network_data = nothing 8 no_prefixes;
  addresses = nothing 2 [];
  mac_counters = absent;
  battery_level = absent;
  supply_voltage = absent;
  child_table = nothing 4 [];
  channel_pages = absent;
  type_list = absent;
  eui64 = absent;
  child_lists = 0;
}
unfolding decode checked decoding entry_value value_of keeps_rule framed limited framing frames step first valued decode_network_data check_value check_from
    values ended walk_in inner_of w.frames w.step w.first w.opened diag last_of contents prefixes counts_of all_routes all_borders address_lists all_of nth child_rows addresses listed
present_and_empty = refl

-- of two values of type 7 the last counts, which has no prefixes
pub last_network_data : on_given (λ (d : Diag). d.network_data) (decode (0x07 ∷ 0x04 ∷ 0x02 ∷ 0x02 ∷ 0x00 ∷ 0x00 ∷ 0x07 ∷ 0x00 ∷ [])) ≡ given (nothing 8 no_prefixes)
unfolding decode checked decoding entry_value value_of keeps_rule framed limited framing frames step first valued decode_network_data check_value check_from
    values check_prefix check_head head_at check_in rules ended walk_in inner_of w.frames w.step w.first w.opened diag last_of all_of nth contents prefixes counts_of all_routes all_borders
last_network_data = refl

-- two lists of type 30, each RLOC16 0x2801 alone
abbrev two_lists : List ℕ
two_lists = 0x1E ∷ 0x02 ∷ 0x28 ∷ 0x01 ∷ 0x1E ∷ 0x02 ∷ 0x28 ∷ 0x01 ∷ []

pub second_list : child_list 1 two_lists ≡ given record { rloc16 = 10241; child_id = 1; addresses = record { start = 8; len = 0; says = [] } }
unfolding child_list checked decoding entry_value value_of keeps_rule framed limited framing frames step first valued address_lists all_of nth be be_from addresses listed
second_list = refl

pub no_third_list : child_list 2 two_lists ≡ absent
unfolding child_list checked decoding entry_value value_of keeps_rule framed limited framing frames step first valued address_lists all_of nth
no_third_list = refl
