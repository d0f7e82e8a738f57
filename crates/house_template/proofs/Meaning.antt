-- What the query says, held against request Four's sentences: whose entry it is, by the entries of the two; whose refusal; and the plain query.
-- Assumes nothing.
use mathlib.Core.Path.{◌≡◌, refl, ap, ◌∙◌}
use mathlib.Core.List.{List, [], ◌∷◌, ◌++◌}
use Prim.Native.Nat.{ℕ}
use native.Mathlib.Omega.{arith}
use Rattle.refusal.specs.Answer.{Answer, given, absent, refused, on_given, then_do}
use Rattle.refusal.specs.Every.{Every}
use Rattle.tlv.specs.Entries.{Entry}
use Rattle.tlv.specs.Limits.{framed}
use Rattle.tlv_last.specs.Last.{spot, value_or, last_of, last_entry, last_spot, last_value}
use Rattle.tlv_last.specs.declared.Spot.{Spot}
use Rattle.tlv_last.proofs.Lasts.{Other, over_others, last_counts, found_all, Lacks, absent_lacks}
use Rattle.house_template.specs.Template.{Supply, site, template, whichever, on_supply, site_first, supplied, supplied_spot, supplied_value}

-- nothing is supplied only where neither has anything
neither : (x y : Answer Entry) → site_first x y ≡ absent → (x ≡ absent) × (y ≡ absent)
neither (refused n p i) y e = absurd (let z : ◌≡◌ {A = ℕ} 0 1 = cc in omega arith)
neither (given a) (refused n p i) e = absurd (let z : ◌≡◌ {A = ℕ} 0 1 = cc in omega arith)
neither (given a) (given b) e = absurd (let z : ◌≡◌ {A = ℕ} 0 1 = cc in omega arith)
neither (given a) absent e = absurd (let z : ◌≡◌ {A = ℕ} 0 1 = cc in omega arith)
neither absent (refused n p i) e = absurd (let z : ◌≡◌ {A = ℕ} 0 1 = cc in omega arith)
neither absent (given b) e = absurd (let z : ◌≡◌ {A = ℕ} 0 1 = cc in omega arith)
neither absent absent e = (refl, refl)

-- beside a template that has none, the site's answer
alone : {A : Type 0} (x : Answer A) → site_first x absent ≡ on_given site x
alone (given a) = refl
alone absent = refl
alone (refused n p i) = refl

alone_spot : (x : Answer Entry) → on_given (on_supply spot) (on_given site x) ≡ on_given site (on_given spot x)
alone_spot (given a) = refl
alone_spot absent = refl
alone_spot (refused n p i) = refl

alone_value : (x : Answer Entry) → value_or (on_given whichever (on_given site x)) ≡ value_or x
alone_value (given a) = refl
alone_value absent = refl
alone_value (refused n p i) = refl

-- where it lies is absent only where there is nothing
spot_absent : (x : Answer (Supply Entry)) → on_given (on_supply spot) x ≡ absent → x ≡ absent
spot_absent (given e) h = absurd (let z : ◌≡◌ {A = ℕ} 0 1 = cc in omega arith)
spot_absent absent h = refl
spot_absent (refused n p i) h = absurd (let z : ◌≡◌ {A = ℕ} 0 1 = cc in omega arith)

-- THE THEOREMS, of what the two calls give: `supplied_spot` and `supplied_value`
module _ (ty : ℕ) (d t : List ℕ) where
  abbrev pub Gives : Answer (Supply Spot) → (value : List ℕ) → Type 0
  Gives x v = (supplied_spot ty d t ≡ x) × (supplied_value ty d t ≡ v)

  gives : (x : Answer (Supply Entry)) → supplied ty d t ≡ x → Gives (on_given (on_supply spot) x) (value_or (on_given whichever x))
  unfolding supplied_spot supplied_value
  gives x e = (ap (on_given (on_supply spot)) e, ap (λ (y : Answer (Supply Entry)). value_or (on_given whichever y)) e)

  -- ---- both are framed: whose entry it is
  module _ (ds ts : List Entry) (site_is : framed 0 d ≡ given ds) (template_is : framed 1 t ≡ given ts) where
    by_entries : supplied ty d t ≡ site_first (last_of ty absent ds) (last_of ty absent ts)
    unfolding supplied last_entry
    by_entries = rw (site_is, template_is)

    -- the site's last of the type wherever it has one, be its value empty or not
    pub site_supplies : (xs : List Entry) (e : Entry) (ys : List Entry) → ds ≡ xs ++ e ∷ ys → e.ty ≡ ty → Every (Other ty) ys
        → Gives (given (site (spot e))) e.value
    site_supplies xs e ys is of_type others =
        gives (given (site e)) (by_entries ∙ rw (is, last_counts ty absent xs e ys of_type others) (found_all (λ (x : Answer Entry). site_first (given e) x ≡ given (site e)) (λ b. refl) ty absent ts refl))

    -- else the template's
    pub template_supplies : Every (Other ty) ds → (xs : List Entry) (e : Entry) (ys : List Entry) → ts ≡ xs ++ e ∷ ys → e.ty ≡ ty
        → Every (Other ty) ys → Gives (given (template (spot e))) e.value
    template_supplies none xs e ys is of_type others =
        gives (given (template e)) (by_entries ∙ rw (over_others ty absent ds none, is, last_counts ty absent xs e ys of_type others))

    -- absent where neither has one
    pub neither_absent : Every (Other ty) ds → Every (Other ty) ts → Gives absent []
    neither_absent none-there none_here = gives absent (by_entries ∙ rw (over_others ty absent ds none-there, over_others ty absent ts none_here))

  -- and only there: both are framed, and no entry of either has the type
  pub absent_neither : supplied_spot ty d t ≡ absent → Lacks ty 0 d × Lacks ty 1 t
  unfolding supplied_spot supplied
  absent_neither e =
      let none = neither (last_entry ty 0 d) (last_entry ty 1 t) (spot_absent _ e) in
      (absent_lacks ty 0 d none.0, absent_lacks ty 1 t none.1)

  -- ---- one of them is not framed: the site's refusal, then the template's, whatever the site has
  pub site_refused : (n p i : ℕ) → framed 0 d ≡ refused n p i → Gives (refused n p i) []
  unfolding supplied last_entry
  site_refused n p i e = gives (refused n p i) (rw e)

  pub template_refused : (ds : List Entry) (n p i : ℕ) → framed 0 d ≡ given ds → framed 1 t ≡ refused n p i → Gives (refused n p i) []
  unfolding supplied last_entry
  template_refused ds n p i e f = gives (refused n p i) (rw (e, f) (found_all (λ (x : Answer Entry). site_first x (refused n p i) ≡ refused n p i) (λ a. refl) ty absent ds refl))

  -- ---- a template without the type: the plain query, whatever the site's bytes
  plain_entry : Lacks ty 1 t → supplied ty d t ≡ on_given site (last_entry ty 0 d)
  unfolding supplied last_entry
  plain_entry lacks = rw (lacks.is, over_others ty absent lacks.entries lacks.none) (alone (then_do (framed 0 d) (last_of ty absent)))

  pub plain : Lacks ty 1 t → Gives (on_given site (last_spot ty 0 d)) (last_value ty d)
  unfolding last_spot last_value
  plain lacks =
      let g = gives (on_given site (last_entry ty 0 d)) (plain_entry lacks) in
      (g.0 ∙ alone_spot (last_entry ty 0 d), g.1 ∙ alone_value (last_entry ty 0 d))
