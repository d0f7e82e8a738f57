-- What UTF-8 is: the syntax of RFC 3629, section 4, and the classes of its first bytes.
-- Assumes nothing.
use Rattle.std.specs.Prelude.{Bool, true, ◌&&◌, ◌||◌, List, [], ◌∷◌, ℕ, leb, eqb}
use Rattle.refusal.specs.Answer.{pick}

abbrev pub between : ℕ → ℕ → ℕ → Bool
between low high b = leb low b && leb b high

-- UTF8-tail = %x80-BF
unfoldable pub tail : ℕ → Bool
tail b = between 128 191 b

-- UTF8-1 = %x00-7F
unfoldable pub one : ℕ → Bool
one a = leb a 127

-- UTF8-2 = %xC2-DF UTF8-tail
unfoldable pub two : ℕ → ℕ → Bool
two a b = between 194 223 a && tail b

-- UTF8-3 = %xE0 %xA0-BF UTF8-tail / %xE1-EC 2( UTF8-tail ) / %xED %x80-9F UTF8-tail / %xEE-EF 2( UTF8-tail )
unfoldable pub three : ℕ → ℕ → ℕ → Bool
three a b c =
    (eqb a 224 && (between 160 191 b && tail c))
    || ((between 225 236 a && (tail b && tail c))
    || ((eqb a 237 && (between 128 159 b && tail c)) || (between 238 239 a && (tail b && tail c))))

-- UTF8-4 = %xF0 %x90-BF 2( UTF8-tail ) / %xF1-F3 3( UTF8-tail ) / %xF4 %x80-8F 2( UTF8-tail )
unfoldable pub four : ℕ → ℕ → ℕ → ℕ → Bool
four a b c d =
    (eqb a 240 && (between 144 191 b && (tail c && tail d)))
    || ((between 241 243 a && (tail b && (tail c && tail d))) || (eqb a 244 && (between 128 143 b && (tail c && tail d))))

-- UTF8-octets = *( UTF8-char ), UTF8-char = UTF8-1 / UTF8-2 / UTF8-3 / UTF8-4
unfoldable pub octets : List ℕ → Bool
octets [] = true
octets (a ∷ []) = one a
octets (a ∷ b ∷ []) = (one a && octets (b ∷ [])) || two a b
octets (a ∷ b ∷ c ∷ []) = (one a && octets (b ∷ c ∷ [])) || ((two a b && octets (c ∷ [])) || three a b c)
octets (a ∷ b ∷ c ∷ d ∷ r) =
    (one a && octets (b ∷ c ∷ d ∷ r))
    || ((two a b && octets (c ∷ d ∷ r)) || ((three a b c && octets (d ∷ r)) || (four a b c d && octets r)))

-- The class of a first byte: those of a class ask the same of the bytes that follow. In hex, 1 is 00-7F, 2 is C2-DF, 3 is E0, 4 is E1-EC and
-- EE-EF, 5 is ED, 6 is F0, 7 is F1-F3, 8 is F4, and 0 is every byte that no character begins with.
unfoldable pub class_of : ℕ → ℕ
class_of a =
    pick (leb a 127) 1
    (pick (between 194 223 a) 2
    (pick (eqb a 224) 3
    (pick (between 225 236 a || between 238 239 a) 4
    (pick (eqb a 237) 5
    (pick (eqb a 240) 6
    (pick (between 241 243 a) 7
    (pick (eqb a 244) 8 0)))))))
