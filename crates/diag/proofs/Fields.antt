-- What a field's reader makes of the value that was found of its type.
-- Assumes nothing.
use mathlib.Core.Path.{◌≡◌, refl, sym, ap, ◌∙◌}
use mathlib.Core.List.{List}
use denote.Bor.{Bor}
use Prim.Native.Nat.{ℕ}
use native.Mathlib.Omega.{arith}
use lib.ListN.{take, drop}
use Rattle.std.specs.Prelude.{Result, Option, Ok, Some, None, Err}
use Rattle.std.specs.Result.{result_ok}
use Rattle.refusal.specs.Answer.{Answer, given, absent, refused, on_given}
use Rattle.refusal.specs.Results.{answer_of, option_of}
use Rattle.refusal.specs.declared.Refusal.{Refusal}
use Rattle.wire.specs.Be.{be}
use Rattle.tlv_last.specs.Last.{spot_at}
use Rattle.tlv_last.specs.declared.Spot.{Spot}
use Rattle.network_data.specs.Decode.{Prefix, contents, counts_of, decode_network_data}
use Rattle.network_data.specs.declared.Counts.{Counts}
use Rattle.diag_rules.specs.Rule.{keeps_rule, value_of}
use Rattle.diag_entries.specs.Parts.{Said}
use Rattle.diag.specs.Diag.{NetworkDataValue}
use Rattle.diag.specs.Loops.{or_none, ReadBy, read_at, network_at}

-- a reader that says of every value what g says of one that keeps the rule of its type; f is the paper of what it gives
module _ {A B : Type 0} (f : A → B) (ty : ℕ) (g : List ℕ → B) (s : List ℕ) (reads : Bor (List ℕ) → ℕ → Result A Refusal → Type 0) where
  ok_or_none : (x : Result A Refusal) (b : Answer B) → on_given f (answer_of x) ≡ b → on_given f (option_of (result_ok x)) ≡ or_none b
  unfolding or_none
  ok_or_none (Ok x) b e = ap or_none e
  ok_or_none (Err q) b e = ap or_none e

  pub read_by : ((v : Bor (List ℕ)) (p : ℕ) (x : Result A Refusal) → reads v p x → on_given f (answer_of x) ≡ on_given g (value_of ty p v.now))
      → (spot : Option Spot) (r : Option A) → ReadBy reads s spot r → on_given f (option_of r) ≡ read_at ty g s (option_of spot)
  unfolding read_at or_none
  read_by each None r h = rw h
  read_by each (Some q) r h =
      rw h.4 (ok_or_none h.2 _ (each h.0 q.place h.2 h.3 ∙ ap (λ (w : List ℕ). on_given g (value_of ty q.place w)) h.1))

on_same : {A : Type 0} (a : Answer A) → on_given (λ (x : A). x) a ≡ a
on_same (given x) = refl
on_same absent = refl
on_same (refused n p i) = refl

pub read_plain : {A : Type 0} (ty : ℕ) (g : List ℕ → A) (s : List ℕ) (reads : Bor (List ℕ) → ℕ → Result A Refusal → Type 0)
    → ((v : Bor (List ℕ)) (p : ℕ) (x : Result A Refusal) → reads v p x → answer_of x ≡ on_given g (value_of ty p v.now))
    → (spot : Option Spot) (r : Option A) → ReadBy reads s spot r → option_of r ≡ read_at ty g s (option_of spot)
read_plain {A} ty g s reads each spot r h = sym (on_same _) ∙ read_by (λ (x : A). x) ty g s reads (λ v p x k. on_same _ ∙ each v p x k) spot r h

-- ---- the same of Network Data
abbrev network_says : List ℕ → (start len : ℕ) → Counts → Said NetworkDataValue
network_says s a n c = record { start = a; len = n; says = record { prefixes = contents (take n (drop a s)); counts = c } }

module _ (s : List ℕ) where
  module _ (a n : ℕ) where
    module _ (x : Answer Spot) (p : ℕ) (e : x ≡ given (spot_at p a n)) where
      counted_by : (c : Counts) (b : Answer (List Prefix)) → given c ≡ on_given counts_of b
          → given (network_says s a n c) ≡ or_none (on_given (λ (ps : List Prefix). network_says s a n (counts_of ps)) b)
      unfolding or_none
      counted_by c (given ps) h = let same : c ≡ counts_of ps = cc in ap (λ (k : Counts). given (network_says s a n k)) same
      counted_by c absent h = absurd (let z : ◌≡◌ {A = ℕ} 0 1 = cc in omega arith)
      counted_by c (refused m q i) h = absurd (let z : ◌≡◌ {A = ℕ} 0 1 = cc in omega arith)

      pub network_counted : (c : Counts) → given c ≡ on_given counts_of (decode_network_data p (take n (drop a s))) → given (network_says s a n c) ≡ network_at s x
      unfolding network_at
      network_counted c h = rw e (counted_by c (decode_network_data p (take n (drop a s))) h)

      refused_by : (m q i : ℕ) (b : Answer (List Prefix)) → refused m q i ≡ on_given counts_of b
          → absent ≡ or_none (on_given (λ (ps : List Prefix). network_says s a n (counts_of ps)) b)
      unfolding or_none
      refused_by m q i (given ps) h = absurd (let z : ◌≡◌ {A = ℕ} 0 1 = cc in omega arith)
      refused_by m q i absent h = refl
      refused_by m q i (refused x y z) h = refl

      pub network_refused : (m q i : ℕ) → refused m q i ≡ on_given counts_of (decode_network_data p (take n (drop a s))) → absent ≡ network_at s x
      unfolding network_at
      network_refused m q i h = rw e (refused_by m q i (decode_network_data p (take n (drop a s))) h)

  pub network_none : absent ≡ network_at s absent
  unfolding network_at or_none
  network_none = refl

-- 1 and 15 have one rule
pub read_15 : (s : List ℕ) (x : Answer Spot) → read_at 1 be s x ≡ read_at 15 be s x
unfolding read_at value_of keeps_rule
read_15 s x = refl
