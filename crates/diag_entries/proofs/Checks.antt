-- What the check of a payload goes by, and what its callers learn: the first fault is the answer, or every entry decodes.
-- Assumes nothing.
use mathlib.Core.Path.{◌≡◌, refl, sym, ap, ◌∙◌}
use mathlib.Core.List.{List, [], ◌∷◌}
use Prim.Native.Nat.{ℕ}
use native.Mathlib.Omega.{arith}
use lib.ListN.{length}
use lib.Dec.{eqb}
use borrow.Author.Tests.{eq-eqb, ne_eqb}
use Rattle.refusal.specs.Answer.{Answer, given, absent, refused, then_do, on_given}
use Rattle.refusal.specs.Every.{Every}
use Rattle.laws.proofs.Tests.{by_test}
use Rattle.tlv.specs.Entries.{Entry, framing}
use Rattle.tlv.specs.Limits.{framed, count}
use Rattle.tlv.proofs.Tally.{Only, only, counted_framed, counted_refused, counted_number}
use Rattle.network_data.specs.Decode.{Prefix, counts_of, decode_network_data}
use Rattle.network_data.specs.declared.Counts.{Counts}
use Rattle.diag_rules.specs.Rule.{value_of}
use Rattle.diag_rules.specs.Answers.{judged}
use Rattle.diag_rules.proofs.Kept.{kept}
use Rattle.diag_entries.specs.Checked.{entry_value, decoding, checked}

-- ---- the value of one entry
module _ (ty place : ℕ) (v : List ℕ) where
  pub entry_network : ty ≡ 7 → entry_value ty place v ≡ on_given (λ (ps : List Prefix). v) (decode_network_data place v)
  unfolding entry_value
  entry_network h = simp (eq-eqb _ _ h)

  pub entry_other : (ty ≡ 7 → ⊥) → entry_value ty place v ≡ value_of ty place v
  unfolding entry_value
  entry_other h = simp (ne_eqb _ _ h)

  unit_of : (a : Answer (List Prefix)) → on_given (λ (n : Counts). tt) (on_given counts_of a) ≡ judged (on_given (λ (ps : List Prefix). v) a)
  unit_of (given ps) = refl
  unit_of absent = refl
  unit_of (refused n p i) = refl

  -- by what the check of Network Data answered
  pub network_judged : ty ≡ 7 → (a : Answer Counts) → a ≡ on_given counts_of (decode_network_data place v)
      → on_given (λ (n : Counts). tt) a ≡ judged (entry_value ty place v)
  network_judged h a e = ap (on_given (λ (n : Counts). tt)) e ∙ unit_of (decode_network_data place v) ∙ ap judged (sym (entry_network h))

  network_itself : (a : Answer (List Prefix)) → given tt ≡ judged (on_given (λ (ps : List Prefix). v) a) → on_given (λ (ps : List Prefix). v) a ≡ given v
  network_itself (given ps) e = refl
  network_itself absent e = absurd (let z : ◌≡◌ {A = ℕ} 0 1 = cc in omega arith)
  network_itself (refused n p i) e = absurd (let z : ◌≡◌ {A = ℕ} 0 1 = cc in omega arith)

  -- what is given is the value itself
  pub entry_itself : given tt ≡ judged (entry_value ty place v) → entry_value ty place v ≡ given v
  unfolding entry_value
  entry_itself =
      by_test (eqb ty 7) (λ t. rw t (network_itself (decode_network_data place v))) (λ t. rw t (λ e. (kept ty place v e).0))

-- ---- n, where every entry of es decodes
unfoldable pub verdict : ℕ → List Entry → Answer ℕ
verdict n es = on_given (λ (xs : List Entry). n) (decoding es)

module _ (n : ℕ) (l : List Entry) where
  module _ (e : Entry) (es : List Entry) (is : l ≡ e ∷ es) where
    next_by : (a : Answer (List ℕ)) (b : Answer (List Entry)) → given tt ≡ judged a
        → on_given (λ (xs : List Entry). n) (then_do a (λ (v : List ℕ). on_given (λ (xs : List Entry). e ∷ xs) b)) ≡ on_given (λ (xs : List Entry). n) b
    next_by (given v) (given xs) h = refl
    next_by (given v) absent h = refl
    next_by (given v) (refused x y z) h = refl
    next_by absent b h = absurd (let z : ◌≡◌ {A = ℕ} 0 1 = cc in omega arith)
    next_by (refused x y z) b h = absurd (let z : ◌≡◌ {A = ℕ} 0 1 = cc in omega arith)

    pub verdict_next : given tt ≡ judged (entry_value e.ty e.place e.value) → verdict n l ≡ verdict n es
    unfolding verdict decoding
    verdict_next h = ap (verdict n) is ∙ next_by (entry_value e.ty e.place e.value) (decoding es) h

    stop_by : (a : Answer (List ℕ)) (b : Answer (List Entry)) (x y z : ℕ) → refused x y z ≡ judged a
        → on_given (λ (xs : List Entry). n) (then_do a (λ (v : List ℕ). on_given (λ (xs : List Entry). e ∷ xs) b)) ≡ refused x y z
    stop_by (given v) b x y z h = absurd (let z : ◌≡◌ {A = ℕ} 0 1 = cc in omega arith)
    stop_by absent b x y z h = absurd (let z : ◌≡◌ {A = ℕ} 0 1 = cc in omega arith)
    stop_by (refused i j k) b x y z h = cc

    pub verdict_stop : (x y z : ℕ) → refused x y z ≡ judged (entry_value e.ty e.place e.value) → verdict n l ≡ refused x y z
    unfolding verdict decoding
    verdict_stop x y z h = ap (verdict n) is ∙ stop_by (entry_value e.ty e.place e.value) (decoding es) x y z h

  pub verdict_end : l ≡ [] → verdict n l ≡ given n
  unfolding verdict decoding
  verdict_end h = ap (verdict n) h

-- ---- every entry decodes, and they are what is given
abbrev pub Decodes : Entry → Type 0
Decodes e = entry_value e.ty e.place e.value ≡ given e.value

abbrev pub Fine : List Entry → Answer (List Entry) → Type 0
Fine es (given xs) = (xs ≡ es) × Every Decodes es
Fine es absent = Unit {0}
Fine es (refused n p i) = Unit {0}

fine_by : (e : Entry) (es : List Entry) (a : Answer (List ℕ)) (b : Answer (List Entry)) → a ≡ entry_value e.ty e.place e.value → Fine es b
    → Fine (e ∷ es) (then_do a (λ (v : List ℕ). on_given (λ (xs : List Entry). e ∷ xs) b))
fine_by e es (given v) (given xs) h f = (ap (◌∷◌ e) f.0, (entry_itself e.ty e.place e.value (ap judged h), f.1))
fine_by e es (given v) absent h f = tt
fine_by e es (given v) (refused n p i) h f = tt
fine_by e es absent b h f = tt
fine_by e es (refused n p i) b h f = tt

pub fine : (es : List Entry) → Fine es (decoding es)
unfolding decoding
fine [] = (refl, tt)
fine (e ∷ es) = fine_by e es (entry_value e.ty e.place e.value) (decoding es) refl (fine es)

number_by : (n : ℕ) (es : List Entry) (a : Answer (List Entry)) → n ≡ length es → Fine es a → on_given (λ (xs : List Entry). n) a ≡ on_given length a
number_by n es (given xs) h f = ap given (h ∙ ap length (sym f.0))
number_by n es absent h f = refl
number_by n es (refused x y z) h f = refl

module _ (s : List ℕ) where
  -- ---- the loop of `check_values`, by what `count_entries` answered
  pub check_refused : (n p k : ℕ) → refused n p k ≡ count 0 s → refused n p k ≡ on_given length (checked s)
  unfolding checked
  check_refused n p k e = ap (on_given length) (counted_refused 0 decoding s n p k e)

  pub check_start : (n : ℕ) → given n ≡ count 0 s → verdict n (framing s).entries ≡ on_given length (checked s)
  unfolding verdict checked
  check_start n e =
      number_by n (framing s).entries (decoding (framing s).entries) (counted_number 0 s n e) (fine (framing s).entries)
      ∙ ap (on_given length) (sym (counted_framed 0 decoding s n e))

  -- ---- what a caller of `check_values` learns
  learnt_by : (es : List Entry) (a : Answer (List Entry)) (n : ℕ) → Fine es a → given n ≡ on_given length a → (a ≡ given es) × Every Decodes es
  learnt_by es (given xs) n f e = (ap given f.0, f.1)
  learnt_by es absent n f e = absurd (let z : ◌≡◌ {A = ℕ} 0 1 = cc in omega arith)
  learnt_by es (refused x y z) n f e = absurd (let z : ◌≡◌ {A = ℕ} 0 1 = cc in omega arith)

  all_by : (es : List Entry) (a : Answer (List Entry)) → Only 0 es a → Fine es (then_do a decoding)
  all_by es (given xs) o = rw (← o) (fine xs)
  all_by es absent o = tt
  all_by es (refused n p i) o = tt

  pub fine_checked : Fine (framing s).entries (checked s)
  unfolding checked
  fine_checked = all_by (framing s).entries (framed 0 s) (only 0 s)

  pub checked_given : (n : ℕ) → given n ≡ on_given length (checked s) → (checked s ≡ given (framing s).entries) × Every Decodes (framing s).entries
  checked_given n e = learnt_by (framing s).entries (checked s) n fine_checked e

  undo_by : (a : Answer (List Entry)) (n p k : ℕ) → refused n p k ≡ on_given length a → a ≡ refused n p k
  undo_by (given xs) n p k e = absurd (let z : ◌≡◌ {A = ℕ} 0 1 = cc in omega arith)
  undo_by absent n p k e = absurd (let z : ◌≡◌ {A = ℕ} 0 1 = cc in omega arith)
  undo_by (refused x y z) n p k e = cc

  pub checked_refused : (n p k : ℕ) → refused n p k ≡ on_given length (checked s) → checked s ≡ refused n p k
  checked_refused n p k e = undo_by (checked s) n p k e
