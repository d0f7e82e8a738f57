-- The pairing of one child ID. Document 01: "a child table row is paired with an address list if its child ID stands once in the table and once among
-- the lists; "none" if once in the table and in no list; else "unclear"." Document 02, Two: "The top six bits of an RLOC16 name the parent router. From
-- now on a list counts in pairing only if those bits equal the top six of the payload's own MAC Address value. With no MAC Address value, every row is
-- "unclear"."
-- Assumes nothing.
use Rattle.std.specs.Prelude.{ℕ, suc, ◌/◌, ◌%◌, Bool, false, List, [], ◌∷◌, eqb}
use Rattle.refusal.specs.Answer.{pick, Answer, given, absent, refused}
use Rattle.pair_rule.specs.declared.Pairing.{Pairing}
use Rattle.pair_rule.specs.declared.Pairing.TheVariants as p

-- how often x stands in ys
unfoldable pub occurs : ℕ → List ℕ → ℕ
occurs x [] = 0
occurs x (y ∷ ys) = pick (eqb y x) (suc (occurs x ys)) (occurs x ys)

-- ---- the address lists, each by its RLOC16

-- the top six bits of sixteen; and "child ID is RLOC16 modulo 512", so that bit 9 is in neither
abbrev pub parent_of : (rloc16 : ℕ) → ℕ
parent_of r = r / 1024

abbrev pub child_of : (rloc16 : ℕ) → ℕ
child_of r = r % 512

-- whether a list counts in a payload whose own MAC Address value is mac
unfoldable pub counts : (mac list : ℕ) → Bool
counts mac l = eqb (parent_of l) (parent_of mac)

-- the child IDs of the lists that count, in order
unfoldable pub counting : (mac : ℕ) → (lists : List ℕ) → List ℕ
counting mac [] = []
counting mac (l ∷ ls) = pick (counts mac l) (child_of l ∷ counting mac ls) (counting mac ls)

-- the number of the first list that counts and has the child ID x: "a pair names the list, from 0", and every list has its number, counting or not
unfoldable pub number_of : (mac x : ℕ) → (lists : List ℕ) → ℕ
number_of mac x [] = 0
number_of mac x (l ∷ ls) = pick (pick (counts mac l) (eqb (child_of l) x) false) 0 (suc (number_of mac x ls))

-- ---- what is said of a row

-- of one whose child ID stands so often in the table and among the lists that count, there in the list of that number
unfoldable pub judged : (rows lists place : ℕ) → Pairing
judged rows lists place = pick (eqb rows 1) (pick (eqb lists 1) (p.Paired place) (pick (eqb lists 0) p.None p.Unclear)) p.Unclear

-- of a row by its child ID, those of all rows, the RLOC16s of all lists, and the payload's own MAC Address value where it has one (it is never refused)
unfoldable pub pairing : (own : Answer ℕ) → (rows lists : List ℕ) → (id : ℕ) → Pairing
pairing (given mac) rows lists id = judged (occurs id rows) (occurs id (counting mac lists)) (number_of mac id lists)
pairing absent rows lists id = p.Unclear
pairing (refused n q i) rows lists id = p.Unclear
