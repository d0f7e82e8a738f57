-- Worked lines of addresses as text, computed from the definitions: the RFCs' own examples, the four cases that request Three names, and what is refused.
-- Assumes nothing.
use mathlib.Core.Path.{◌≡◌, refl}
use mathlib.Core.List.{List, [], ◌∷◌}
use Prim.Native.Nat.{ℕ}
use Prim.Native.Char.{code}
use Prim.Native.String.{String}
use Prim.Native.String as string
use Rattle.refusal.specs.Answer.{given, refused}
use Rattle.refusal.specs.Every.{Every}
use Rattle.hex_text.specs.HexText.{digit, hex_text}
use Rattle.base16.specs.Base16.{digit_value}
use Rattle.base16.specs.Loops.{or_zero, is_given, is_digit, value_of, paired}
use Rattle.address_forms.specs.Groups.{groups, bytes_of}
use Rattle.address_forms.specs.Colons.{led, joined}
use Rattle.address_forms.specs.AddressText.{suppressed, group_text, texts, parted, zeros_in_front, longer_of, longest_from, around, shortened, address_text}
use Rattle.address_forms.specs.AddressRead.{good_from, values_from, fields_of, gap_of, whole, filled, both_sides, text_address}

-- the codes of a text's characters
unfoldable pub codes : String → List ℕ
codes string.[] = []
codes (string.◌∷◌ c cs) = code c ∷ codes cs

-- a text that is typed, its 16 bytes in hex, and the text that is written for them; or a text that is refused
pub data Line : Type 0 where
  address : (typed bytes written : String) → Line
  none : (typed : String) → Line

abbrev pub Holds : Line → Type 0
Holds (address typed bytes written) =
    (text_address (codes typed) ≡ given (paired (codes bytes))) × (address_text (paired (codes bytes)) ≡ codes written)
Holds (none typed) = text_address (codes typed) ≡ refused 16 0 0

abbrev pub lines : List Line
lines =
    -- RFC 5952, 4.1 to 4.2.3, in its order
    address "2001:0db8::0001" "20010db8000000000000000000000001" "2001:db8::1"
    ∷ address "2001:db8:0:0:0:0:2:1" "20010db8000000000000000000020001" "2001:db8::2:1"
    ∷ address "2001:db8::0:1" "20010db8000000000000000000000001" "2001:db8::1"
    ∷ address "2001:db8::1:1:1:1:1" "20010db8000000010001000100010001" "2001:db8:0:1:1:1:1:1"
    ∷ address "2001:0:0:1:0:0:0:1" "20010000000000010000000000000001" "2001:0:0:1::1"
    ∷ address "2001:db8:0:0:1:0:0:1" "20010db8000000000001000000000001" "2001:db8::1:0:0:1"
    -- RFC 5952, 1: eight texts of one address, of which the first is the line above
    ∷ address "2001:0db8:0:0:1:0:0:1" "20010db8000000000001000000000001" "2001:db8::1:0:0:1"
    ∷ address "2001:db8::1:0:0:1" "20010db8000000000001000000000001" "2001:db8::1:0:0:1"
    ∷ address "2001:db8::0:1:0:0:1" "20010db8000000000001000000000001" "2001:db8::1:0:0:1"
    ∷ address "2001:0db8::1:0:0:1" "20010db8000000000001000000000001" "2001:db8::1:0:0:1"
    ∷ address "2001:db8:0:0:1::1" "20010db8000000000001000000000001" "2001:db8::1:0:0:1"
    ∷ address "2001:db8:0000:0:1::1" "20010db8000000000001000000000001" "2001:db8::1:0:0:1"
    ∷ address "2001:DB8:0:0:1::1" "20010db8000000000001000000000001" "2001:db8::1:0:0:1"
    -- RFC 5952, 2.2
    ∷ address "2001:db8:aaaa:bbbb:cccc:dddd::1" "20010db8aaaabbbbccccdddd00000001" "2001:db8:aaaa:bbbb:cccc:dddd:0:1"
    -- RFC 4291, 2.2, forms 1 and 2
    ∷ address "ABCD:EF01:2345:6789:ABCD:EF01:2345:6789" "abcdef0123456789abcdef0123456789" "abcd:ef01:2345:6789:abcd:ef01:2345:6789"
    ∷ address "2001:DB8:0:0:8:800:200C:417A" "20010db80000000000080800200c417a" "2001:db8::8:800:200c:417a"
    ∷ address "FF01:0:0:0:0:0:0:101" "ff010000000000000000000000000101" "ff01::101"
    ∷ address "0:0:0:0:0:0:0:1" "00000000000000000000000000000001" "::1"
    ∷ address "0:0:0:0:0:0:0:0" "00000000000000000000000000000000" "::"
    ∷ address "2001:DB8::8:800:200C:417A" "20010db80000000000080800200c417a" "2001:db8::8:800:200c:417a"
    ∷ address "FF01::101" "ff010000000000000000000000000101" "ff01::101"
    ∷ address "::1" "00000000000000000000000000000001" "::1"
    ∷ address "::" "00000000000000000000000000000000" "::"
    -- request Three: one zero group; two equal runs; all zeros stand above; none
    ∷ address "1:1:1::1:1:1:1" "00010001000100000001000100010001" "1:1:1:0:1:1:1:1"
    ∷ address "1:0:0:2:3::4" "00010000000000020003000000000004" "1::2:3:0:0:4"
    ∷ address "1:20:300:4000:a:B0:cD0:e00F" "0001002003004000000a00b00cd0e00f" "1:20:300:4000:a:b0:cd0:e00f"
    -- the longest run where it is last, and first; equal runs at both ends; "::" for one group, at either end
    ∷ address "1:0:0:2:0:0:0:0" "00010000000000020000000000000000" "1:0:0:2::"
    ∷ address "0:0:0:1:0:0:2:3" "00000000000000010000000000020003" "::1:0:0:2:3"
    ∷ address "0:0:1:1:1:1:0:0" "00000000000100010001000100000000" "::1:1:1:1:0:0"
    ∷ address "1:2:3:4:5:6:7::" "00010002000300040005000600070000" "1:2:3:4:5:6:7:0"
    ∷ address "::2:3:4:5:6:7:8" "00000002000300040005000600070008" "0:2:3:4:5:6:7:8"
    -- "always in hexadecimal groups"
    ∷ address "::ffff:c000:201" "00000000000000000000ffffc0000201" "::ffff:c000:201"
    -- no text; too few groups, and too many; "::" for no group, and twice; a colon too many, within and at the ends; five digits
    ∷ none ""
    ∷ none "1:2:3:4:5:6:7"
    ∷ none "1:2:3:4:5:6:7:8:9"
    ∷ none "1:2:3:4:5:6:7::8"
    ∷ none "1::2::3"
    ∷ none ":"
    ∷ none ":::"
    ∷ none ":1:2:3:4:5:6:7:8"
    ∷ none "1:2:3:4:5:6:7:8:"
    ∷ none "1::2:"
    ∷ none "12345::"
    -- RFC 4291, 2.2, form 3
    ∷ none "0:0:0:0:0:0:13.1.68.3"
    ∷ none "0:0:0:0:0:FFFF:129.144.52.38"
    ∷ none "::13.1.68.3"
    ∷ none "::FFFF:129.144.52.38"
    -- no digit; a zone; a prefix length; blanks; a newline; brackets
    ∷ none "g::"
    ∷ none "fe80::1%eth0"
    ∷ none "2001:db8::/32"
    ∷ none " ::1"
    ∷ none "::1 "
    ∷ none "::1\n"
    ∷ none "[::1]"
    ∷ []

pub worked : Every Holds lines
unfolding codes digit hex_text or_zero is_given is_digit value_of digit_value paired groups bytes_of led joined suppressed group_text texts parted zeros_in_front longer_of longest_from around shortened address_text good_from values_from fields_of gap_of whole filled both_sides text_address
worked = ((refl, refl), ((refl, refl), ((refl, refl), ((refl, refl), ((refl, refl), ((refl, refl), ((refl, refl), ((refl, refl), ((refl, refl), ((refl, refl), ((refl, refl), ((refl, refl), ((refl, refl), ((refl, refl), ((refl, refl), ((refl, refl), ((refl, refl), ((refl, refl), ((refl, refl), ((refl, refl), ((refl, refl), ((refl, refl), ((refl, refl), ((refl, refl), ((refl, refl), ((refl, refl), ((refl, refl), ((refl, refl), ((refl, refl), ((refl, refl), ((refl, refl), ((refl, refl), (refl, (refl, (refl, (refl, (refl, (refl, (refl, (refl, (refl, (refl, (refl, (refl, (refl, (refl, (refl, (refl, (refl, (refl, (refl, (refl, (refl, (refl, tt))))))))))))))))))))))))))))))))))))))))))))))))))))))
