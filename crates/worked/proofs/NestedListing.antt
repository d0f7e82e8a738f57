-- Worked lines of the nested listing, computed from the definitions; and that six bytes of text for a byte of the payload are not enough.
-- Assumes nothing.
use mathlib.Core.Path.{◌≡◌, refl}
use mathlib.Core.List.{List, [], ◌∷◌, ◌++◌}
use Prim.Native.Nat.{ℕ, ◌+◌, ◌*◌, ◌<◌}
use native.Mathlib.Omega.{arith}
use lib.ListN.{length}
use Rattle.refusal.specs.Answer.{Answer, given, refused}
use Rattle.refusal.specs.Every.{Every}
use Rattle.tlv.specs.Entries.{valued, long, first, step, frames, framing}
use Rattle.tlv.specs.Limits.{limited, framed}
use Rattle.network_framing.specs.Tlvs.{opened}
use Rattle.network_framing.specs.Tlvs as network
use Rattle.network_framing.specs.Frame.{walk_in}
use Rattle.text_writing.specs.Decimal.{decimal_in, decimal}
use Rattle.listing.specs.Listing.{pair_line}
use Rattle.nested_listing.specs.Tree.{indent, item_line, cut_line, lines}
use Rattle.nested_listing.specs.Nested.{pieces, inner, after_opening, second_holds, network as networkTlvs, first_holds, payload, nested}

-- lines of each level, of a type and a length of one digit; and where a list is cut
abbrev pub first_level : (ty len : ℕ) → List ℕ
first_level t n = (48 + t) ∷ 32 ∷ (48 + n) ∷ 10 ∷ []

abbrev pub second_level : (ty len : ℕ) → List ℕ
second_level t n = 32 ∷ 32 ∷ (48 + t) ∷ 32 ∷ (48 + n) ∷ 10 ∷ []

abbrev pub third_level : (ty len : ℕ) → List ℕ
third_level t n = 32 ∷ 32 ∷ 32 ∷ 32 ∷ (48 + t) ∷ 32 ∷ (48 + n) ∷ 10 ∷ []

abbrev pub cut_at_second : List ℕ
cut_at_second = 32 ∷ 32 ∷ 99 ∷ 117 ∷ 116 ∷ 10 ∷ []

abbrev pub cut_at_third : List ℕ
cut_at_third = 32 ∷ 32 ∷ 32 ∷ 32 ∷ 99 ∷ 117 ∷ 116 ∷ 10 ∷ []

-- Network Data of five prefixes without bytes, and its listing
abbrev pub dense : List ℕ
dense = 0x07 ∷ 0x0a ∷ 0x02 ∷ 0x00 ∷ 0x02 ∷ 0x00 ∷ 0x02 ∷ 0x00 ∷ 0x02 ∷ 0x00 ∷ 0x02 ∷ 0x00 ∷ []

abbrev two_lines : List ℕ
two_lines = second_level 1 0 ++ cut_at_third

abbrev pub dense_text : List ℕ
dense_text = (55 ∷ 32 ∷ 49 ∷ 48 ∷ 10 ∷ []) ++ two_lines ++ two_lines ++ two_lines ++ two_lines ++ two_lines

-- a payload, and its listing
abbrev pub Line : Type 0
Line = List ℕ × Answer (List ℕ)

abbrev pub examples : List Line
examples =
    -- no entry; an entry that is cut short
    ([], given [])
    ∷ (0x03 ∷ [], refused 2 0 0)
    -- Network Data that is no list; a prefix that is too short
    ∷ (0x07 ∷ 0x01 ∷ 0x03 ∷ [], given (first_level 7 1 ++ cut_at_second))
    ∷ (0x07 ∷ 0x02 ∷ 0x02 ∷ 0x00 ∷ [], given (first_level 7 2 ++ second_level 1 0 ++ cut_at_third))
    -- the list goes on after one
    ∷ (
      0x07 ∷ 0x04 ∷ 0x02 ∷ 0x00 ∷ 0x00 ∷ 0x00 ∷ [],
      given (first_level 7 4 ++ second_level 1 0 ++ cut_at_third ++ second_level 0 0),
    )
    -- a prefix in a prefix is not opened, and the stable bit is no part of its type
    ∷ (
      0x07 ∷ 0x07 ∷ 0x02 ∷ 0x05 ∷ 0x00 ∷ 0x00 ∷ 0x03 ∷ 0x01 ∷ 0x00 ∷ [],
      given (first_level 7 7 ++ second_level 1 5 ++ third_level 1 1),
    )
    -- lists that are cut after a good item
    ∷ (
      0x07 ∷ 0x09 ∷ 0x02 ∷ 0x06 ∷ 0x00 ∷ 0x00 ∷ 0x05 ∷ 0x01 ∷ 0xaa ∷ 0x03 ∷ 0x04 ∷ [],
      given (first_level 7 9 ++ second_level 1 6 ++ third_level 2 1 ++ cut_at_third ++ cut_at_second),
    )
    -- every entry of type 7 is opened, and the payload goes on after those that are cut
    ∷ (
      0x07 ∷ 0x02 ∷ 0x03 ∷ 0x00 ∷ 0x07 ∷ 0x01 ∷ 0x02 ∷ 0x03 ∷ 0x00 ∷ [],
      given (first_level 7 2 ++ second_level 1 0 ++ cut_at_third ++ first_level 7 1 ++ cut_at_second ++ first_level 3 0),
    )
    ∷ (dense, given dense_text)
    ∷ []

pub worked : Every (λ (l : Line). nested l.0 ≡ l.1) examples
unfolding nested payload first_holds networkTlvs second_holds after_opening inner pieces lines cut_line item_line indent pair_line decimal decimal_in
    walk_in network.frames network.step network.first opened framed limited framing frames step first long valued
worked = (refl, (refl, (refl, (refl, (refl, (refl, (refl, (refl, (refl, tt)))))))))

pub six_too_few : 6 * length dense < length dense_text
six_too_few = omega arith
