-- Which values of a diagnostic payload are read: document 01's rule for the length of each type, and what breaks it.
-- Assumes nothing.
use Rattle.std.specs.Prelude.{ℕ, ◌-◌, ◌%◌, Bool, true, false, List, [], ◌∷◌, length, eqb, leb, ltb}
use Rattle.refusal.specs.Sizes.{most_bytes}
use Rattle.refusal.specs.Answer.{pick, Answer, given, refused}
use Rattle.diag_rules.specs.Mask.{routes_fit}

-- the types that 01 lists, in the order of their numbers, which is decode.rs's
abbrev pub diag_types : List ℕ
diag_types = 0 ∷ 1 ∷ 2 ∷ 3 ∷ 4 ∷ 5 ∷ 6 ∷ 7 ∷ 8 ∷ 9 ∷ 14 ∷ 15 ∷ 16 ∷ 17 ∷ 18 ∷ 23 ∷ 30 ∷ []

-- "8 mask bytes", "rows of 3"
abbrev pub part_sizes : List ℕ
part_sizes = 8 ∷ 3 ∷ []

-- "0, 17, 18: any bytes. 1: u16. 3: u32. 14: one byte. 15: u16. 23: 8 bytes." "2, one byte". "4, at least 7 bytes". 5: "exactly 9 plus the number of set
-- bits". "6, 8 bytes". "9, 36 bytes". "8: whole 16-byte addresses, possibly none. 30: RLOC16, then the same". "16: rows of 3". "Unknown types are
-- skipped", so they keep it whatever they are; and so does 7, which has rules of its own.
unfoldable pub keeps_rule : (ty : ℕ) → List ℕ → Bool
keeps_rule t v =
    pick (eqb t 0) true
    (pick (eqb t 1) (eqb (length v) 2)
    (pick (eqb t 2) (eqb (length v) 1)
    (pick (eqb t 3) (eqb (length v) 4)
    (pick (eqb t 4) (leb 7 (length v))
    (pick (eqb t 5) (routes_fit v)
    (pick (eqb t 6) (eqb (length v) 8)
    (pick (eqb t 8) (eqb (length v % 16) 0)
    (pick (eqb t 9) (eqb (length v) 36)
    (pick (eqb t 14) (eqb (length v) 1)
    (pick (eqb t 15) (eqb (length v) 2)
    (pick (eqb t 16) (eqb (length v % 3) 0)
    (pick (eqb t 17) true
    (pick (eqb t 18) true
    (pick (eqb t 23) (eqb (length v) 8)
    (pick (eqb t 30) (pick (leb 2 (length v)) (eqb ((length v - 2) % 16) 0) false)
    true)))))))))))))))

-- a value of a type: 1 where it is over the size, then 4 at the place of the entry that holds it ("A function on one bare value reports place 0")
unfoldable pub value_of : (ty place : ℕ) → List ℕ → Answer (List ℕ)
value_of t place v = pick (ltb most_bytes (length v)) (refused 1 0 0) (pick (keeps_rule t v) (given v) (refused 4 place 0))
