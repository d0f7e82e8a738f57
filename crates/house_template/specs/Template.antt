-- "a query takes the site's dataset and the template, and hands back the value's bytes out of whichever of the two supplied it, the site's
-- first. An empty value in the site's dataset still counts as present. Refusals: 1 to 3 for the site's bytes, then the template's" (document
-- 02, request Four).
-- Assumes nothing.
use Rattle.std.specs.Prelude.{ℕ, List}
use Rattle.refusal.specs.Answer.{Answer, given, absent, refused, on_given}
use Rattle.tlv.specs.Entries.{Entry}
use Rattle.tlv_last.specs.Last.{last_entry, spot, value_or}
use Rattle.tlv_last.specs.declared.Spot.{Spot}

-- what is supplied, and by which of the two
pub data Supply (A : Type 0) : Type 0 where
  site : A → Supply A
  template : A → Supply A

-- "whichever of the two supplied it"
abbrev pub whichever : {A : Type 0} → Supply A → A
whichever (site a) = a
whichever (template a) = a

-- f of what is supplied, by the same of the two
abbrev pub on_supply : {A B : Type 0} → (A → B) → Supply A → Supply B
on_supply f (site a) = site (f a)
on_supply f (template a) = template (f a)

-- "the site's first": its refusal, then the template's; what the site has, then what the template has. The template's refusal is given even
-- where the site has the value: "Refusals: 1 to 3 for the site's bytes, then the template's", with no condition
abbrev pub site_first : {A : Type 0} → (of_site of_template : Answer A) → Answer (Supply A)
site_first (refused n p i) t = refused n p i
site_first (given a) (refused n p i) = refused n p i
site_first (given a) (given b) = given (site a)
site_first (given a) absent = given (site a)
site_first absent (refused n p i) = refused n p i
site_first absent (given b) = given (template b)
site_first absent absent = absent

-- the entry that supplies the value of a type: the site's dataset is input 0, the template input 1
unfoldable pub supplied : (ty : ℕ) → (dataset template : List ℕ) → Answer (Supply Entry)
supplied ty d t = site_first (last_entry ty 0 d) (last_entry ty 1 t)

-- where it lies, and in which of the two
unfoldable pub supplied_spot : (ty : ℕ) → (dataset template : List ℕ) → Answer (Supply Spot)
supplied_spot ty d t = on_given (on_supply spot) (supplied ty d t)

-- "the value's bytes", and no bytes where neither has the type or one of the two is refused
unfoldable pub supplied_value : (ty : ℕ) → (dataset template : List ℕ) → List ℕ
supplied_value ty d t = value_or (on_given whichever (supplied ty d t))
