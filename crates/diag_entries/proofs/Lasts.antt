-- The laws of `last` and `all_of`: one entry more, of the type or of another.
-- Assumes nothing.
use mathlib.Core.Path.{◌≡◌, refl, ap, ◌∙◌}
use mathlib.Core.List.{List, [], ◌∷◌, ◌++◌}
use Prim.Native.Nat.{ℕ, suc}
use lib.ListN.{length}
use borrow.Author.Tests.{eq-eqb, ne_eqb}
use Rattle.refusal.specs.Answer.{given, absent, on_given}
use Rattle.refusal.specs.Every.{Every}
use Rattle.tlv.specs.Entries.{Entry}
use Rattle.tlv_last.specs.Last.{spot}
use Rattle.tlv_last.proofs.Lasts as lasts
use Rattle.tlv_last.proofs.Lasts.{Other, last_spot_of, spots_of}
use Rattle.diag_entries.specs.Parts.{last, all_of}

module _ (ty : ℕ) (e : Entry) (es : List Entry) where
  pub all_hit : e.ty ≡ ty → all_of ty (e ∷ es) ≡ e ∷ all_of ty es
  unfolding all_of
  all_hit h = simp (eq-eqb _ _ h)

  pub all_miss : (e.ty ≡ ty → ⊥) → all_of ty (e ∷ es) ≡ all_of ty es
  unfolding all_of
  all_miss h = simp (ne_eqb _ _ h)

pub all_none : (ty : ℕ) → all_of ty [] ≡ []
unfolding all_of
all_none ty = refl

-- the same of their number, for a list that a turn has taken apart
module _ (ty : ℕ) (l : List Entry) (e : Entry) (es : List Entry) (is : l ≡ e ∷ es) where
  pub all_more : e.ty ≡ ty → length (all_of ty l) ≡ suc (length (all_of ty es))
  all_more h = ap length (ap (all_of ty) is ∙ all_hit ty e es h)

  pub all_same : (e.ty ≡ ty → ⊥) → length (all_of ty l) ≡ length (all_of ty es)
  all_same h = ap length (ap (all_of ty) is ∙ all_miss ty e es h)

-- "Last of a repeated type counts"
pub last_counts : (xs : List Entry) (e : Entry) (ys : List Entry) → Every (Other e.ty) ys → last e.ty (xs ++ (e ∷ ys)) ≡ given e
last_counts xs e ys h = lasts.last_counts e.ty absent xs e ys refl h

-- where the last of a type lies is the last of the places
pub last_spots : (ty : ℕ) (es : List Entry) → on_given spot (last ty es) ≡ last_spot_of ty absent es
last_spots ty es = spots_of ty absent es
