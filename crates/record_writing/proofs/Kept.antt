-- The last value of a type, and what is made of it, where every value of the type has a property; and the property of values that were read.
-- Assumes nothing.
use mathlib.Core.Path.{◌≡◌, refl, sym, ap, ◌∙◌}
use mathlib.Core.Bool.{Bool, true, false}
use mathlib.Core.List.{List, [], ◌∷◌}
use Prim.Native.Nat.{ℕ, ◌≤◌, ◌<◌}
use native.Mathlib.Omega.{arith}
use lib.ListN.{length}
use lib.Dec.{eqb, ltb}
use borrow.Author.Tests.{eqb-true}
use Rattle.refusal.specs.Sizes.{most_bytes}
use Rattle.refusal.specs.Every.{Every, Bytes}
use Rattle.refusal.specs.Answer.{pick, Answer, given, absent, refused, on_given}
use Rattle.laws.proofs.Tests.{pick_all}
use Rattle.laws.proofs.Answers.{gives}
use Rattle.tlv.specs.Entries.{Content}
use Rattle.diag_rules.specs.Rule.{keeps_rule, value_of}
use Rattle.network_data.specs.Decode.{Prefix, decode_network_data}
use Rattle.network_data.specs.Decode as N
use Rattle.network_data.proofs.Counted.{is_contents}
use Rattle.diag_entries.specs.Checked.{entry_value}
use Rattle.diag.specs.Diag.{raw}
use Rattle.network_writing.specs.Encode.{network_bytes}
use Rattle.network_writing.specs.Fits.{network_fits}
use Rattle.network_writing.proofs.Round.{Small}
use Rattle.network_writing.proofs.Again.{again_small as network_small, again_fits as network_fits_lem, again_length as network_length}
use Rattle.value_writing.specs.Fits.{Under}
use Rattle.record_writing.specs.Typed.{Given}
use Rattle.record_writing.specs.Fits.{passes}
use Rattle.record_writing.specs.Reading.{or_absent}
use Rattle.record_writing.proofs.Last.{last_in, all_in}
use Rattle.record_writing.proofs.Weights.{one}

-- ---- what is given has the property, and nothing is refused
abbrev pub Has : (List ℕ → Type 0) → Answer (List ℕ) → Type 0
Has P (given x) = P x
Has P absent = Unit {0}
Has P (refused n p i) = ⊥

pub last_has : (ty : ℕ) (P : List ℕ → Type 0) (cs : List Content) (best : Answer (List ℕ)) → Has P best → Every (λ (c : Content). c.ty ≡ ty → P c.value) cs → Has P (last_in ty best cs)
unfolding last_in
last_has ty P [] best b h = b
last_has ty P (c ∷ cs) best b h =
    last_has ty P cs (pick (eqb c.ty ty) (given c.value) best)
    (pick_all (Has P) (eqb c.ty ty) (given c.value) best (λ t. h.0 (eqb-true _ _ t)) (λ t. b)) h.1

pub all_has : (ty : ℕ) (P : List ℕ → Type 0) (cs : List Content) → Every (λ (c : Content). c.ty ≡ ty → P c.value) cs → Every P (all_in ty cs)
unfolding all_in
all_has ty P [] h = tt
all_has ty P (c ∷ cs) h =
    let go = all_has ty P cs h.1 in
    pick_all (Every P) (eqb c.ty ty) (c.value ∷ all_in ty cs) (all_in ty cs) (λ t. (h.0 (eqb-true _ _ t), go)) (λ t. go)

module _ {A : Type 0} (P : List ℕ → Type 0) (f : List ℕ → A) where
  pub given_on : (Q : A → Type 0) (a : Answer (List ℕ)) → Has P a → ((x : List ℕ) → P x → Q (f x)) → Given Q (on_given f a)
  given_on Q (given x) h k = k x h
  given_on Q absent h k = tt
  given_on Q (refused n p i) h k = absurd h

  pub passes_on : (t : A → Bool) (a : Answer (List ℕ)) → Has P a → ((x : List ℕ) → P x → t (f x) ≡ true) → passes t (on_given f a) ≡ true
  unfolding passes
  passes_on t (given x) h k = k x h
  passes_on t absent h k = refl
  passes_on t (refused n p i) h k = absurd h

  pub or_on : (a : Answer (List ℕ)) → Has P a → or_absent (on_given f a) ≡ on_given f a
  or_on (given x) h = refl
  or_on absent h = refl
  or_on (refused n p i) h = absurd h

  module _ (w : ℕ → ℕ) (more : (m n : ℕ) → m ≤ n → w m ≤ w n) where
    pub light_on : (enc : A → List ℕ) (a : Answer (List ℕ)) → Has P a → ((x : List ℕ) → P x → length (enc (f x)) ≤ length x) → one w (on_given enc (on_given f a)) ≤ one w a
    unfolding one
    light_on enc (given x) h k = more (length (enc (f x))) (length x) (k x h)
    light_on enc absent h k = omega arith
    light_on enc (refused n p i) h k = absurd h

pub under_on : (P : List ℕ → Type 0) (f : List ℕ → ℕ) (m : ℕ) (a : Answer (List ℕ)) → Has P a → ((x : List ℕ) → P x → f x < m) → Under m (on_given f a)
under_on P f m (given x) h k = k x h
under_on P f m absent h k = tt
under_on P f m (refused n p i) h k = absurd h

pub raw_light : (w : ℕ → ℕ) (a : Answer (List ℕ)) → one w (on_given raw a) ≤ one w a
unfolding one
raw_light w (given x) = omega arith
raw_light w absent = omega arith
raw_light w (refused n p i) = omega arith

-- ---- a value that was read

-- its bytes are bytes, and it decodes
pub record Good (ty : ℕ) (x : List ℕ) : Type 0 where
  pub bytes : Bytes x
  pub place : ℕ
  pub decodes : entry_value ty place x ≡ given x

abbrev pub Keeps : ℕ → List ℕ → Type 0
Keeps ty x = Bytes x × (keeps_rule ty x ≡ true)

kept : (ty place : ℕ) (x : List ℕ) → value_of ty place x ≡ given x → keeps_rule ty x ≡ true
unfolding value_of
kept ty place x e = by_tests (ltb most_bytes (length x)) (keeps_rule ty x) e
  where
    by_tests : (b c : Bool) → pick b (refused 1 0 0) (pick c (given x) (refused 4 place 0)) ≡ given x → c ≡ true
    by_tests true c h = absurd (let z : ◌≡◌ {A = ℕ} 0 1 = cc in omega arith)
    by_tests false true h = refl
    by_tests false false h = absurd (let z : ◌≡◌ {A = ℕ} 0 1 = cc in omega arith)

pub decodes_keeps : (ty place : ℕ) (x : List ℕ) → eqb ty 7 ≡ false → entry_value ty place x ≡ given x → keeps_rule ty x ≡ true
unfolding entry_value
decodes_keeps ty place x h d = kept ty place x (ap (λ (b : Bool). pick b (on_given (λ (ps : List Prefix). x) (decode_network_data place x)) (value_of ty place x)) (sym h) ∙ d)

pub good_keeps : (ty : ℕ) (x : List ℕ) → eqb ty 7 ≡ false → Good ty x → Keeps ty x
good_keeps ty x h g = (g.bytes, decodes_keeps ty g.place x h g.decodes)

pub record Network (x : List ℕ) : Type 0 where
  pub small : Small (N.contents x)
  pub fits : network_fits (N.contents x) ≡ true
  pub size : length (network_bytes (N.contents x)) ≤ length x

pub good_network : (x : List ℕ) → Good 7 x → Network x
unfolding entry_value
good_network x g =
    let d = gives (λ (ps : List Prefix). x) (decode_network_data g.place x) x g.decodes in
    let same = is_contents g.place x d.one d.is in
    let e = d.is ∙ ap given same in
    record { small = network_small g.place x (N.contents x) e; fits = network_fits_lem g.place x (N.contents x) e g.bytes; size = network_length g.place x (N.contents x) e }
