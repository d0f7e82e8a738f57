-- Where the value lies that is supplied: what was found in the two, and the part of the one that supplies it.
-- Assumes nothing.
use mathlib.Core.Path.{◌≡◌, refl, sym, subst}
use mathlib.Core.List.{List, []}
use Prim.Native.Nat.{ℕ, ◌+◌, ◌≤◌}
use lib.ListN.{length, take, drop}
use Rattle.refusal.specs.Answer.{Answer, given, absent, refused, on_given}
use Rattle.tlv.specs.Entries.{Entry}
use Rattle.tlv_last.specs.Last.{spot, value_or, last_entry, last_spot}
use Rattle.tlv_last.specs.declared.Spot.{Spot}
use Rattle.tlv_last.proofs.Lasts.{LiesIn, entry_lies}
use Rattle.house_template.specs.Template.{Supply, site, template, whichever, on_supply, site_first, supplied, supplied_spot, supplied_value}

-- first the one, then where it lies, or the other way round
first_of : {A B : Type 0} (f : A → B) (x y : Answer A) → site_first (on_given f x) (on_given f y) ≡ on_given (on_supply f) (site_first x y)
first_of f (refused n p i) y = refl
first_of f (given a) (refused n p i) = refl
first_of f (given a) (given b) = refl
first_of f (given a) absent = refl
first_of f absent (refused n p i) = refl
first_of f absent (given b) = refl
first_of f absent absent = refl

-- by what was found in the two, for the code
pub spots_first : (ty : ℕ) (d t : List ℕ) → supplied_spot ty d t ≡ site_first (last_spot ty 0 d) (last_spot ty 1 t)
unfolding supplied_spot supplied last_spot
spots_first ty d t = sym (first_of spot (last_entry ty 0 d) (last_entry ty 1 t))

-- ---- the part that a spot names, of the one that supplies it
module _ (d t : List ℕ) where
  abbrev pub part_named : Answer (Supply Spot) → List ℕ
  part_named (given (site p)) = take p.len (drop p.start d)
  part_named (given (template p)) = take p.len (drop p.start t)
  part_named absent = []
  part_named (refused n p i) = []

  -- it lies within that one
  abbrev pub Within : Answer (Supply Spot) → Type 0
  Within (given (site p)) = p.start + p.len ≤ length d
  Within (given (template p)) = p.start + p.len ≤ length t
  Within absent = Unit {0}
  Within (refused n p i) = Unit {0}

  abbrev Named : List ℕ → Answer (Supply Spot) → Type 0
  Named v x = Within x × (v ≡ part_named x)

  named_by : (x y : Answer Entry) → LiesIn d x → LiesIn t y → Named (value_or (on_given whichever (site_first x y))) (on_given (on_supply spot) (site_first x y))
  named_by (refused n p i) y l m = (tt, refl)
  named_by (given a) (refused n p i) l m = (tt, refl)
  named_by (given a) (given b) l m = (l.1, l.2)
  named_by (given a) absent l m = (l.1, l.2)
  named_by absent (refused n p i) l m = (tt, refl)
  named_by absent (given b) l m = (m.1, m.2)
  named_by absent absent l m = (tt, refl)

  -- THE THEOREM: the value that is handed back is the part that the call beside it names, or no bytes where that names none
  module _ (ty : ℕ) where
    pub part_named_lem : Within (supplied_spot ty d t) × (supplied_value ty d t ≡ part_named (supplied_spot ty d t))
    unfolding supplied_spot supplied_value supplied
    part_named_lem = named_by (last_entry ty 0 d) (last_entry ty 1 t) (entry_lies d ty 0) (entry_lies t ty 1)

    -- for a caller that has the answer
    pub answer_named : (x : Answer (Supply Spot)) → x ≡ supplied_spot ty d t → Within x × (supplied_value ty d t ≡ part_named x)
    answer_named x e = subst (Named (supplied_value ty d t)) (sym e) part_named_lem
