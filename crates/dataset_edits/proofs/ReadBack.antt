-- Reads of what was written: after setting a type, its last value is the one that was set, and every other type has the last value that it
-- had; after removing it, there is none, and the others stay; and writing afresh changes none.
-- Assumes nothing.
use mathlib.Core.Path.{◌≡◌, refl, sym, ap, ◌∙◌}
use mathlib.Core.Bool.{Bool, true, false}
use mathlib.Core.List.{List, [], ◌∷◌, ◌++◌, append-nil}
use Prim.Native.Nat.{ℕ, ◌≤◌}
use native.Mathlib.Omega.{arith}
use lib.Dec.{eqb, ltb}
use lib.ListN.{length}
use borrow.Author.Tests.{eq-eqb, ne_eqb, ltb-false}
use Rattle.refusal.specs.Sizes.{most_bytes, most_entries, most_value}
use Rattle.refusal.specs.Answer.{pick, Answer, given, absent, refused, then_do, on_given}
use Rattle.laws.proofs.Tests.{by_test}
use Rattle.refusal.specs.Every.{Bytes}
use Rattle.tlv.specs.Entries.{Entry, Content, content, contents}
use Rattle.tlv.specs.Limits.{framed}
use Rattle.tlv_last.specs.Last.{last_of, last_entry, value_or, last_value}
use Rattle.tlv_writing.specs.Encode.{encode_all, sized}
use Rattle.tlv_rewriting.specs.Rewrite.{keeps_of, kept, rewritten, set_last, with_set}
use Rattle.tlv_rewriting.specs.declared.Choice.{Choice}
use Rattle.tlv_rewriting.specs.declared.Choice.TheVariants.{All, Without}
use Rattle.tlv_writing.proofs.Round.{given_bytes, given_entries, parse_written}
use Rattle.laws.proofs.Answers.{gives}
use Rattle.tlv_rewriting.proofs.Kept.{rewritten_length}

-- ---- the last value of a type, by what the entries say

unfoldable last_in : (ty : ℕ) → Answer (List ℕ) → List Content → Answer (List ℕ)
last_in ty best [] = best
last_in ty best (c ∷ cs) = last_in ty (pick (eqb c.ty ty) (given c.value) best) cs

abbrev pub value_of : Answer Entry → Answer (List ℕ)
value_of x = on_given (λ (e : Entry). e.value) x

pick_value : (b : Bool) (e : Entry) (best : Answer Entry) → value_of (pick b (given e) best) ≡ pick b (given e.value) (value_of best)
pick_value true e best = refl
pick_value false e best = refl

values_of : (ty : ℕ) (best : Answer Entry) (es : List Entry) → value_of (last_of ty best es) ≡ last_in ty (value_of best) (contents es)
unfolding last_of last_in contents
values_of ty best [] = refl
values_of ty best (e ∷ es) =
    values_of ty (pick (eqb e.ty ty) (given e) best) es
    ∙ ap (λ (b : Answer (List ℕ)). last_in ty b (contents es)) (pick_value (eqb e.ty ty) e best)

last_is : (ty : ℕ) (s : List ℕ) (cs : List Content) → on_given contents (framed 0 s) ≡ given cs → value_of (last_entry ty 0 s) ≡ last_in ty absent cs
unfolding last_entry
last_is ty s cs e =
    let es = gives contents (framed 0 s) cs e in
    rw es.is (values_of ty absent es.one ∙ ap (last_in ty absent) es.so)

differ : (a b : Bool) → a ≡ false → b ≡ true → a ≡ b → ⊥
differ a b f t same = let z : ◌≡◌ {A = ℕ} 0 1 = cc in omega arith

module _ (ty : ℕ) where
  last_miss : (best : Answer (List ℕ)) (x : Content) (xs : List Content) → (x.ty ≡ ty → ⊥) → last_in ty best (x ∷ xs) ≡ last_in ty best xs
  unfolding last_in
  last_miss best x xs h = simp (ne_eqb _ _ h)

  -- by whether entries of the type are kept
  module _ (c : Choice) where
    last_kept : keeps_of c ty ≡ true → (best : Answer (List ℕ)) (cs : List Content) → last_in ty best (kept c cs) ≡ last_in ty best cs
    unfolding last_in kept
    last_kept h best [] = refl
    last_kept h best (x ∷ xs) =
        by_test (keeps_of c x.ty)
        (λ e. rw e (last_kept h (pick (eqb x.ty ty) (given x.value) best) xs))
        (λ e. rw e (last_kept h best xs ∙ sym (last_miss best x xs (λ same. differ _ _ e h (ap (keeps_of c) same)))))

    last_dropped : keeps_of c ty ≡ false → (best : Answer (List ℕ)) (cs : List Content) → last_in ty best (kept c cs) ≡ best
    unfolding last_in kept
    last_dropped h best [] = refl
    last_dropped h best (x ∷ xs) =
        by_test (keeps_of c x.ty)
        (λ e. rw e (last_miss best x (kept c xs) (λ same. differ _ _ h e (sym (ap (keeps_of c) same))) ∙ last_dropped h best xs))
        (λ e. rw e (last_dropped h best xs))

  last_set : (t : ℕ) (v : List ℕ) (best : Answer (List ℕ)) (cs : List Content)
      → last_in ty best (cs ++ (content t v ∷ [])) ≡ pick (eqb t ty) (given v) (last_in ty best cs)
  unfolding last_in
  last_set t v best [] = refl
  last_set t v best (c ∷ cs) = last_set t v (pick (eqb c.ty ty) (given c.value) best) cs

-- a type that is not t
without_other : (t ty : ℕ) → (t ≡ ty → ⊥) → keeps_of (Without t) ty ≡ true
unfolding keeps_of
without_other t ty h = rw (ne_eqb ty t (λ e. h (sym e)))

without_itself : (t : ℕ) → keeps_of (Without t) t ≡ false
unfolding keeps_of
without_itself t = rw (eq-eqb t t refl)

-- ---- what is known where a type was set, or the entries that are kept were written: what they say became f of it
pub record Became (f : List Content → List Content) (s bs : List ℕ) : Type 0 where
  pub before : List Content
  pub read : on_given contents (framed 0 s) ≡ given before
  pub after : on_given contents (framed 0 bs) ≡ given (f before)

sized_given : (cs : List Content) (bs : List ℕ) → sized cs ≡ given bs → on_given contents (framed 0 bs) ≡ given cs
unfolding sized
sized_given cs bs e =
    by_test (ltb most_bytes (length (encode_all cs)))
    (λ t. absurd (let z : refused 10 0 0 ≡ given bs = sym (simp t) ∙ e in let z : ◌≡◌ {A = ℕ} 0 1 = cc in omega arith))
    (λ t.
    by_test (ltb most_entries (length cs))
    (λ u. absurd (let z : refused 10 0 0 ≡ given bs = sym (simp (t, u)) ∙ e in let z : ◌≡◌ {A = ℕ} 0 1 = cc in omega arith))
    (λ u.
    let z : given (encode_all cs) ≡ given bs = sym (simp (t, u)) ∙ e in
    let same : bs ≡ encode_all cs = cc in
    rw same (parse_written 0 cs (ltb-false _ _ t) (ltb-false _ _ u))))

pub was_set : (t : ℕ) (v s bs : List ℕ) → with_set t v s ≡ given bs → Became (set_last t v) s bs
unfolding with_set
was_set t v s bs e = by (framed 0 s) refl e
  where
    by : (a : Answer (List Entry)) → framed 0 s ≡ a
        → then_do a (λ (es : List Entry). pick (ltb most_value (length v)) (refused 13 0 0) (sized (set_last t v (contents es)))) ≡ given bs
        → Became (set_last t v) s bs
    by (given es) h k =
        by_test (ltb most_value (length v))
        (λ u. absurd (let z : refused 13 0 0 ≡ given bs = sym (simp u) ∙ k in let z : ◌≡◌ {A = ℕ} 0 1 = cc in omega arith))
        (λ u. record { before = contents es; read = ap (on_given contents) h; after = sized_given _ bs (sym (simp u) ∙ k) })
    by absent h k = absurd (let z : ◌≡◌ {A = ℕ} 0 1 = cc in omega arith)
    by (refused n p i) h k = absurd (let z : ◌≡◌ {A = ℕ} 0 1 = cc in omega arith)

abbrev bytes_or : Answer (List ℕ) → List ℕ
bytes_or (given v) = v
bytes_or absent = []
bytes_or (refused n p i) = []

or_by : (x : Answer Entry) → value_or x ≡ bytes_or (value_of x)
or_by (given e) = refl
or_by absent = refl
or_by (refused n p i) = refl

-- THE THEOREMS of setting a type
module _ (t : ℕ) (v s bs : List ℕ) (done : with_set t v s ≡ given bs) where
  -- the last entry of the type has the value that was set
  pub set_read : value_of (last_entry t 0 bs) ≡ given v
  unfolding set_last
  set_read =
      let w = was_set t v s bs done in
      last_is t bs _ w.after ∙ last_set t t v absent (kept (Without t) w.before) ∙ rw (eq-eqb t t refl)

  pub set_value : last_value t bs ≡ v
  unfolding last_value
  set_value = or_by (last_entry t 0 bs) ∙ ap bytes_or set_read

  -- every other type has the last value that it had, or none as before
  module _ (ty : ℕ) (other : t ≡ ty → ⊥) where
    pub set_others : value_of (last_entry ty 0 bs) ≡ value_of (last_entry ty 0 s)
    unfolding set_last
    set_others =
        let w = was_set t v s bs done in
        last_is ty bs _ w.after ∙ last_set ty t v absent (kept (Without t) w.before)
        ∙ rw (ne_eqb t ty other) (last_kept ty (Without t) (without_other t ty other) absent w.before)
        ∙ sym (last_is ty s _ w.read)

    pub set_other_values : last_value ty bs ≡ last_value ty s
    unfolding last_value
    set_other_values = or_by (last_entry ty 0 bs) ∙ ap bytes_or set_others ∙ sym (or_by (last_entry ty 0 s))

-- what is kept of a dataset, written afresh, is within the size
pub rewritten_fits : (c : Choice) (s bs : List ℕ) → Bytes s → rewritten c s ≡ given bs → length bs ≤ most_bytes
unfolding rewritten
rewritten_fits c s bs b e =
    let es = gives _ (framed 0 s) bs e in
    omega (arith, rewritten_length c s bs b e, given_bytes 0 s es.one es.is)

kept_count : (c : Choice) (es : List Entry) → length (kept c (contents es)) ≤ length es
unfolding kept contents
kept_count c [] = omega arith
kept_count c (e ∷ es) =
    let go = kept_count c es in
    by_test (keeps_of c e.ty) (λ t. rw t (omega arith)) (λ t. rw t (omega arith))

pub was_kept : (c : Choice) (s bs : List ℕ) → Bytes s → rewritten c s ≡ given bs → Became (kept c) s bs
unfolding rewritten
was_kept c s bs b e =
    let es = gives (λ (es : List Entry). encode_all (kept c (contents es))) (framed 0 s) bs e in
    let few = given_entries 0 s es.one es.is in
    record {
      before = contents es.one;
      read = ap (on_given contents) es.is;
      after =
          ap (λ (l : List ℕ). on_given contents (framed 0 l)) (sym es.so)
          ∙ parse_written 0 _ (omega (arith, ap length es.so, rewritten_fits c s bs b e)) (omega (arith, kept_count c es.one));
    }

-- a type that is kept has the last value that it had, and one that is not has none
module _ (c : Choice) (s bs : List ℕ) (b : Bytes s) (done : rewritten c s ≡ given bs) (ty : ℕ) where
  kept_read : keeps_of c ty ≡ true → value_of (last_entry ty 0 bs) ≡ value_of (last_entry ty 0 s)
  kept_read h =
      let w = was_kept c s bs b done in
      last_is ty bs _ w.after ∙ last_kept ty c h absent w.before ∙ sym (last_is ty s _ w.read)

  dropped_read : keeps_of c ty ≡ false → value_of (last_entry ty 0 bs) ≡ absent
  dropped_read h = let w = was_kept c s bs b done in last_is ty bs _ w.after ∙ last_dropped ty c h absent w.before

-- THE THEOREMS of removing a type
module _ (t : ℕ) (s bs : List ℕ) (b : Bytes s) (done : rewritten (Without t) s ≡ given bs) where
  pub removed_read : value_of (last_entry t 0 bs) ≡ absent
  removed_read = dropped_read (Without t) s bs b done t (without_itself t)

  pub removed_others : (ty : ℕ) → (t ≡ ty → ⊥) → value_of (last_entry ty 0 bs) ≡ value_of (last_entry ty 0 s)
  removed_others ty other = kept_read (Without t) s bs b done ty (without_other t ty other)

-- and of writing afresh
pub afresh_read : (s bs : List ℕ) → Bytes s → rewritten All s ≡ given bs → (ty : ℕ) → value_of (last_entry ty 0 bs) ≡ value_of (last_entry ty 0 s)
unfolding keeps_of
afresh_read s bs b done ty = kept_read All s bs b done ty refl

-- ---- setting twice is setting the last
module _ (c : Choice) where
  kept_append : (cs ds : List Content) → kept c (cs ++ ds) ≡ kept c cs ++ kept c ds
  unfolding kept
  kept_append [] ds = refl
  kept_append (x ∷ xs) ds =
      by_test (keeps_of c x.ty) (λ e. rw e (ap (λ (l : List Content). x ∷ l) (kept_append xs ds))) (λ e. rw e (kept_append xs ds))

  kept_twice : (cs : List Content) → kept c (kept c cs) ≡ kept c cs
  unfolding kept
  kept_twice [] = refl
  kept_twice (x ∷ xs) =
      by_test (keeps_of c x.ty) (λ e. rw e (simp e (ap (λ (l : List Content). x ∷ l) (kept_twice xs)))) (λ e. rw e (kept_twice xs))

-- what was set last is not kept
kept_none : (t : ℕ) (v : List ℕ) → kept (Without t) (content t v ∷ []) ≡ []
unfolding kept
kept_none t v = rw (without_itself t)

set_over : (t : ℕ) (v w : List ℕ) (cs : List Content) → set_last t w (set_last t v cs) ≡ set_last t w cs
unfolding set_last
set_over t v w cs =
    let rest = kept (Without t) cs in
    let old : kept (Without t) (rest ++ (content t v ∷ [])) ≡ rest
    = kept_append (Without t) rest (content t v ∷ [])
    ∙ ap (λ (l : List Content). kept (Without t) rest ++ l) (kept_none t v)
    ∙ append-nil (kept (Without t) rest)
    ∙ kept_twice (Without t) cs in
    ap (λ (l : List Content). l ++ (content t w ∷ [])) old

set_by : (t : ℕ) (w s : List ℕ) (cs : List Content) → on_given contents (framed 0 s) ≡ given cs
    → with_set t w s ≡ pick (ltb most_value (length w)) (refused 13 0 0) (sized (set_last t w cs))
unfolding with_set
set_by t w s cs e =
    let es = gives contents (framed 0 s) cs e in
    rw es.is (ap (λ (l : List Content). pick (ltb most_value (length w)) (refused 13 0 0) (sized (set_last t w l))) es.so)

pub set_twice : (t : ℕ) (v w s bs : List ℕ) → with_set t v s ≡ given bs → with_set t w bs ≡ with_set t w s
set_twice t v w s bs done =
    let became = was_set t v s bs done in
    set_by t w bs _ became.after
    ∙ ap (λ (l : List Content). pick (ltb most_value (length w)) (refused 13 0 0) (sized l)) (set_over t v w became.before)
    ∙ sym (set_by t w s _ became.read)
