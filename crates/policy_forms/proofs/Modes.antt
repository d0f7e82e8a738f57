-- What the reads of a policy cite, and what they say together: the three-byte mode keeps the flag byte as it is, the four-byte mode is the base's call, and no
-- value is read in both modes.
-- Assumes nothing.
use mathlib.Core.Path.{◌≡◌, refl, sym, ap, ap₂, ◌∙◌, fun_ext}
use mathlib.Core.List.{List, [], ◌∷◌}
use Prim.Native.Nat.{ℕ, ◌+◌, ◌*◌, ◌≤◌}
use native.Mathlib.Omega.{arith}
use lib.ListN.{length, take, drop, get_or}
use borrow.Author.Tests.{ne_eqb, le-ltb}
use Rattle.std.specs.Prelude.{Result, Ok, Err, Option, Some, None}
use mir.Syntax.{w16}
use Rattle.std.specs.Int.{from_be_bytes}
use Rattle.refusal.specs.Sizes.{most_bytes}
use Rattle.refusal.specs.Answer.{Answer, given, absent, refused, then_do, on_given}
use Rattle.refusal.specs.declared.Refusal.{Refusal}
use Rattle.refusal.specs.Results.{found_of, answer_of}
use Rattle.laws.proofs.Answers.{gives, then_gives, on_on, on_then}
use Rattle.wire.specs.Be.{be, be_from, wrong_length, ruled}
use Rattle.wire.proofs.Bes.{ruled_is, ruled_gives}
use Rattle.tlv.specs.Entries.{Entry}
use Rattle.tlv_last.specs.Last.{last_entry, spot_at, last_spot}
use Rattle.tlv_last.specs.declared.Spot.{Spot}
use Rattle.values.specs.Typed.{policy_of}
use Rattle.values.specs.declared.SecurityPolicy.{SecurityPolicy}
use Rattle.dataset.specs.Queries as q
use Rattle.dataset.proofs.Finds.{found_inside, found, none_found, refused_found}
use Rattle.policy_forms.specs.Forms.{Numbers, numbers, four_numbers, numbers_in, read, query}
use Rattle.policy_forms.specs.declared.EitherPolicy.{EitherPolicy}
use Rattle.policy_forms.specs.declared.EitherPolicy.TheVariants as p
use Rattle.policy_forms.proofs.Papers.{either_answer, either_found, either_tells, found_either_tells}

-- ---- three bytes

pub three_of : (v : List ℕ) → length v ≡ 3 → numbers 3 (from_be_bytes w16 (get_or v 0 0 ∷ get_or v 1 0 ∷ [])) (get_or v 2 0) ≡ numbers_in 3 v
unfolding be be_from
three_of [] h = absurd (omega arith)
three_of (a ∷ []) h = absurd (omega arith)
three_of (a ∷ b ∷ []) h = absurd (omega arith)
three_of (a ∷ b ∷ c ∷ []) h = ap₂ (numbers 3) (omega arith) (omega arith)
three_of (a ∷ b ∷ c ∷ d ∷ r) h = absurd (omega arith)

-- "the flag byte is kept raw"
pub read_three : (place a b c : ℕ) → read 3 place (a ∷ b ∷ c ∷ []) ≡ given (numbers 3 (a * 256 + b) c)
unfolding read
read_three place a b c = sym (ruled_is (numbers_in 3) 3 place _ _ refl (three_of (a ∷ b ∷ c ∷ []) refl))

-- ---- four bytes: the base's call, refusals too

pub read_four : (place : ℕ) (v : List ℕ) → read 4 place v ≡ on_given four_numbers (on_given policy_of (ruled 4 place v))
unfolding read
read_four place v = sym (on_on four_numbers policy_of (ruled 4 place v))

pub query_four : (s : List ℕ) → query 4 s ≡ on_given four_numbers (q.query 12 policy_of s)
unfolding query q.query read
query_four s =
    ap (then_do (last_entry 12 0 s)) (fun_ext (λ (e : Entry). read_four e.place e.value))
    ∙ sym (on_then four_numbers (λ (e : Entry). on_given policy_of (ruled 4 e.place e.value)) (last_entry 12 0 s))

-- for the code, by what the base's call answered
pub four_is : (place : ℕ) (v : List ℕ) (x : Result SecurityPolicy Refusal) → answer_of x ≡ on_given policy_of (ruled 4 place v)
    → on_given four_numbers (answer_of x) ≡ read 4 place v
four_is place v x says = ap (on_given four_numbers) says ∙ sym (read_four place v)

-- what the base's calls answer, as one of either form
abbrev pub as_either : Result SecurityPolicy Refusal → Result EitherPolicy Refusal
as_either (Ok x) = Ok (p.Four x)
as_either (Err x) = Err x

abbrev pub as_either_found : Result (Option SecurityPolicy) Refusal → Result (Option EitherPolicy) Refusal
as_either_found (Ok (Some x)) = Ok (Some (p.Four x))
as_either_found (Ok None) = Ok None
as_either_found (Err x) = Err x

as_either_lem : (x : Result SecurityPolicy Refusal) → on_given four_numbers (answer_of x) ≡ either_answer (as_either x)
as_either_lem (Ok x) = refl
as_either_lem (Err x) = refl

as_found_lem : (x : Result (Option SecurityPolicy) Refusal) → on_given four_numbers (found_of x) ≡ either_found (as_either_found x)
as_found_lem (Ok (Some x)) = refl
as_found_lem (Ok None) = refl
as_found_lem (Err x) = refl

-- a is what `EitherPolicy::parse` answers in the four-byte mode, x what `SecurityPolicy::parse` answers
pub parse_as_base : (place : ℕ) (v : List ℕ) (a : Result EitherPolicy Refusal) (x : Result SecurityPolicy Refusal) → either_answer a ≡ read 4 place v
    → answer_of x ≡ on_given policy_of (ruled 4 place v) → a ≡ as_either x
parse_as_base place v a x says base =
    either_tells a (as_either x) (says ∙ read_four place v ∙ ap (on_given four_numbers) (sym base) ∙ as_either_lem x)

-- and so of `policy_forms::security_policy` and `dataset::security_policy`
pub query_as_base : (s : List ℕ) (a : Result (Option EitherPolicy) Refusal) (x : Result (Option SecurityPolicy) Refusal) → either_found a ≡ query 4 s
    → found_of x ≡ q.query 12 policy_of s → a ≡ as_either_found x
query_as_base s a x says base =
    found_either_tells a (as_either_found x) (says ∙ query_four s ∙ ap (on_given four_numbers) (sym base) ∙ as_found_lem x)

-- ---- a value is read in the form whose length it has, and in no other

module _ (k place : ℕ) (v : List ℕ) where
  pub read_is : (n : Numbers) → read k place v ≡ given n → (length v ≡ k) × (numbers_in k v ≡ n)
  unfolding read
  read_is n e =
      let g = gives (numbers_in k) (ruled k place v) n e in
      let r = ruled_gives k place v g.one g.is in
      (r.0, ap (numbers_in k) (sym r.1) ∙ g.so)

  -- "4 for a length that isn't the named mode's"
  pub read_not : (length v ≡ k → ⊥) → length v ≤ most_bytes → read k place v ≡ refused 4 place 0
  unfolding read ruled wrong_length
  read_not h l = rw (ne_eqb (length v) k h, le-ltb most_bytes (length v) l)

pub read_not_both : (j k : ℕ) (v : List ℕ) (m n : Numbers) → read 3 j v ≡ given m → read 4 k v ≡ given n → ⊥
read_not_both j k v m n a b = omega (arith, (read_is 3 j v m a).0, (read_is 4 k v n b).0)

-- a policy that the query gives is what is read of the last entry of type 12, at its place: so what is true of every policy that was read is true of it
pub query_reads : (k : ℕ) (s : List ℕ) (n : Numbers) → query k s ≡ given n
    → (e : Entry) × (last_entry 12 0 s ≡ given e) × (read k e.place e.value ≡ given n)
unfolding query
query_reads k s n is = then_gives (last_entry 12 0 s) (λ (e : Entry). read k e.place e.value) n is

pub query_not_both : (s : List ℕ) (m n : Numbers) → query 3 s ≡ given m → query 4 s ≡ given n → ⊥
query_not_both s m n a b =
    let x = query_reads 3 s m a in
    let y = query_reads 4 s n b in
    let same : x.0 ≡ y.0 = cc in
    read_not_both _ _ x.0.value m n x.2 (rw (← same) at y.2)

-- ---- the query, by what `last_entry` answered
module _ (k : ℕ) (s : List ℕ) where
  pub query_at : (p a n : ℕ) → given (spot_at p a n) ≡ last_spot 12 0 s → read k p (take n (drop a s)) ≡ query k s
  unfolding query
  query_at p a n told = rw (found 12 s p a n told).is

  pub query_none : absent ≡ last_spot 12 0 s → absent ≡ query k s
  unfolding query
  query_none told = rw (none_found 12 s told)

  pub query_refused : (m q j : ℕ) → refused m q j ≡ last_spot 12 0 s → refused m q j ≡ query k s
  unfolding query
  query_refused m q j told = rw (refused_found 12 s m q j told)

  -- by where it lies, for the code
  query_by : (x : Answer Spot) → x ≡ last_spot 12 0 s → query k s ≡ then_do x (λ (p : Spot). read k p.place (take p.len (drop p.start s)))
  query_by (given p) told = sym (query_at p.place p.start p.len told)
  query_by absent told = sym (query_none told)
  query_by (refused m q j) told = sym (query_refused m q j told)

  pub query_by_spot : query k s ≡ then_do (last_spot 12 0 s) (λ (p : Spot). read k p.place (take p.len (drop p.start s)))
  query_by_spot = query_by (last_spot 12 0 s) refl

-- where it lies is within the input
abbrev end_of : Answer Spot → ℕ
end_of (given p) = p.start + p.len
end_of absent = 0
end_of (refused n p i) = 0

within_by : (ty : ℕ) (s : List ℕ) (x : Answer Spot) → x ≡ last_spot ty 0 s → end_of x ≤ length s
within_by ty s (given p) told = found_inside ty s p.place p.start p.len told
within_by ty s absent told = omega arith
within_by ty s (refused n p i) told = omega arith

-- `grind` takes a lemma up at the first call that it states
pub spot_within : (ty : ℕ) (s : List ℕ) → (last_spot ty 0 s ≡ last_spot ty 0 s) × (end_of (last_spot ty 0 s) ≤ length s)
spot_within ty s = (refl, within_by ty s (last_spot ty 0 s) refl)
