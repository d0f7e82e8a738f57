-- The refusals of a Network Data value: 4, 5 and 12, "in wire order, first met" (document 01), at the place p of its entry. A Counts is what is
-- passed so far of the whole value.
-- Assumes nothing.
use Rattle.std.specs.Prelude.{ℕ, ◌+◌, ◌/◌, ◌%◌, List, [], ◌∷◌, length, ltb, leb, eqb}
use Rattle.refusal.specs.Sizes.{most_prefixes, most_has_routes, most_border_routers}
use Rattle.refusal.specs.Answer.{pick, Answer, given, absent, refused, then_do}
use Rattle.network_framing.specs.Tlvs.{Piece, Stop, clean, short, Walk}
use Rattle.network_framing.specs.Frame.{head_at, walk_in}
use Rattle.network_data.specs.declared.Counts.{Counts}

abbrev pub counts : (prefixes has_routes border_routers : ℕ) → Counts
counts n h b = record { prefixes = n; has_routes = h; border_routers = b }

-- the types: "Type 1 is a prefix"; inside it "Inner 0", "Inner 2", "Inner 3"
abbrev pub tlv_types : List ℕ
tlv_types = 1 ∷ 0 ∷ 2 ∷ 3 ∷ []

-- "Inner 0: rows of 3", "Inner 2: rows of 4"
abbrev pub row_sizes : List ℕ
row_sizes = 3 ∷ 4 ∷ []

-- a list of len bytes in rows of so many, after `had` others: "a row list's length is tested before its room"
unfoldable pub join : (p had len size most : ℕ) → Answer ℕ
join p had len size most =
    pick (eqb (len % size) 0) (pick (ltb most (had + len / size)) (refused 12 p 0) (given (had + len / size))) (refused 4 p 0)

-- "Inner 0: rows of 3 ... Inner 2: rows of 4 ... Inner 3: exactly 2"; any other is skipped
unfoldable pub rule : (p : ℕ) → Counts → (ty len : ℕ) → Answer Counts
rule p c ty len =
    pick (eqb ty 0)
    (then_do (join p c.has_routes len 3 most_has_routes) (λ (n : ℕ). given (counts c.prefixes n c.border_routers)))
    (pick (eqb ty 2)
    (then_do (join p c.border_routers len 4 most_border_routers) (λ (n : ℕ). given (counts c.prefixes c.has_routes n)))
    (pick (eqb ty 3) (pick (eqb len 2) (given c) (refused 4 p 0)) (given c)))

-- 5: "Network Data TLV or prefix is cut short"
unfoldable pub ended : (p : ℕ) → Counts → Stop → Answer Counts
ended p c clean = given c
ended p c short = refused 5 p 0

unfoldable pub rules : (p : ℕ) → Counts → Stop → List Piece → Answer Counts
rules p c st [] = ended p c st
rules p c st (e ∷ es) = then_do (rule p c e.ty e.len) (λ (d : Counts). rules p d st es)

unfoldable pub check_in : (p : ℕ) → Counts → Walk → Answer Counts
check_in p c w = rules p c w.stop w.items

-- the inner TLVs from the place that is given on
unfoldable pub check_head : (p : ℕ) → List ℕ → Counts → (end : ℕ) → Answer ℕ → Answer Counts
check_head p s c end (given at) = check_in p c (walk_in s at end)
check_head p s c end absent = absent
check_head p s c end (refused n q i) = refused n p 0

-- "the 65th prefix is refused before its contents are read"
unfoldable pub check_prefix : (p : ℕ) → List ℕ → Counts → (start end : ℕ) → Answer Counts
check_prefix p s c start end =
    pick (leb most_prefixes c.prefixes) (refused 12 p 0)
    (check_head p s (counts (c.prefixes + 1) c.has_routes c.border_routers) end (head_at s start end))

-- "Type 1 is a prefix"; any other is skipped
unfoldable pub values : (p : ℕ) → List ℕ → Counts → Stop → List Piece → Answer Counts
values p s c st [] = ended p c st
values p s c st (e ∷ es) =
    then_do (pick (eqb e.ty 1) (check_prefix p s c e.start (e.start + e.len)) (given c)) (λ (d : Counts). values p s d st es)

unfoldable pub check_from : (p : ℕ) → List ℕ → Counts → Walk → Answer Counts
check_from p s c w = values p s c w.stop w.items

unfoldable pub check_value : (p : ℕ) → List ℕ → Answer Counts
check_value p s = check_from p s (counts 0 0 0) (walk_in s 0 (length s))
