-- The nested listing of a payload (document 02, request Five): "Payload entries are the first level, Network Data TLVs the second, a prefix's inner TLVs
-- the third."
-- Assumes nothing.
use Rattle.std.specs.Prelude.{ℕ, List, [], ◌∷◌, length, take, drop, eqb}
use Rattle.refusal.specs.Answer.{pick, Answer, on_given}
use Rattle.tlv.specs.Entries.{Entry}
use Rattle.tlv.specs.Limits.{framed}
use Rattle.network_framing.specs.Tlvs.{Opening, broken, opening, opened, Piece, Stop, clean, short}
use Rattle.network_framing.specs.Frame.{walk_in}
use Rattle.nested_listing.specs.Tree.{Items, none, cut, item, lines}

-- TLVs of Network Data that were found in v, by what an item of a type and a value holds; "An inner list that cannot be framed prints `cut` ... after its good
-- items". Their types are "without the stable bit"
unfoldable pub pieces : (holds : ℕ → List ℕ → Items) → (v : List ℕ) → Stop → List Piece → Items
pieces holds v clean [] = none
pieces holds v short [] = cut
pieces holds v stop (e ∷ es) = item e.ty e.len (holds e.ty (take e.len (drop e.start v))) (pieces holds v stop es)

-- all those of v
abbrev pub tlvs : (holds : ℕ → List ℕ → Items) → (v : List ℕ) → Items
tlvs holds v = pieces holds v (walk_in v 0 (length v)).stop (walk_in v 0 (length v)).items

-- the third level: no item is opened, "the allowed nesting of three levels is used up"
abbrev pub third_holds : ℕ → List ℕ → Items
third_holds t v = none

unfoldable pub inner : List ℕ → Items
inner v = tlvs third_holds v

-- the list that a prefix holds: "A prefix value under 2 bytes, or too short for its own prefix bytes, prints only `cut`"
unfoldable pub after_opening : Opening → Items
after_opening broken = cut
after_opening (opening d b bytes rest) = inner rest

-- the second level: a prefix is type 1
unfoldable pub second_holds : ℕ → List ℕ → Items
second_holds t v = pick (eqb t 1) (after_opening (opened v)) none

unfoldable pub network : List ℕ → Items
network v = tlvs second_holds v

-- the first level: Network Data is type 7, every entry of that type and not the last alone
unfoldable pub first_holds : ℕ → List ℕ → Items
first_holds t v = pick (eqb t 7) (network v) none

unfoldable pub payload : List Entry → Items
payload [] = none
payload (e ∷ es) = item e.ty (length e.value) (first_holds e.ty e.value) (payload es)

-- "There is no `entries` line"; 1, 2, 3
unfoldable pub nested : List ℕ → Answer (List ℕ)
nested s = on_given (λ (es : List Entry). lines 0 (payload es)) (framed 0 s)
