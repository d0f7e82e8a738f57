-- Operations that do the same to the empty dataset, and to each that has one empty entry, fold to the same.
-- Assumes nothing.
use mathlib.Core.Path.{◌≡◌, refl, sym, ap, ◌∙◌}
use mathlib.Core.Bool.{true, false}
use mathlib.Core.List.{List, [], ◌∷◌, map}
use Prim.Native.Nat.{ℕ, ◌<◌}
use native.Mathlib.Omega.{arith}
use lib.ListN.{length}
use Rattle.refusal.specs.Answer.{given}
use Rattle.laws.proofs.Tests.{by_test}
use Rattle.tlv.specs.Entries.{Content, content}
use Rattle.tlv_writing.specs.Encode.{encode_all, sized}
use Rattle.tlv_writing.proofs.Several.{sized_is}
use Rattle.change_lists.specs.Operations.{Op, set, remove}
use Rattle.change_folds.specs.Run.{run_all}
use Rattle.change_folds.specs.Fold.{touches, lasts, sets_of, types, fold_all}
use Rattle.change_folds.proofs.Lasts.{without, puts, run_is}
use Rattle.change_folds.proofs.Folds.{fold_same}
use Rattle.change_folds.proofs.Weights.{sets_bytes, sets_count}
use Rattle.change_folds.proofs.Backs.{entries_alike}
use Rattle.change_folds.proofs.Limits.{Within, tested}

-- an entry with nothing in it
abbrev pub blank : ℕ → Content
blank t = content t []

-- what is set last always fits
sets_fit : (os : List Op) → Within os → sized (puts (sets_of (lasts os))) ≡ given (encode_all (puts (sets_of (lasts os))))
sets_fit os w = sized_is (puts (sets_of (lasts os))) (omega (arith, sets_bytes os, w.short)) (omega (arith, sets_count os, w.few))

pub run_empty : (os : List Op) → Within os → sized (run_all os []) ≡ given (encode_all (puts (sets_of (lasts os))))
unfolding without
run_empty os w = ap sized (run_is os []) ∙ sets_fit os w

pub sets_puts : (os : List Op) → map set (puts (sets_of os)) ≡ sets_of os
unfolding puts sets_of
sets_puts [] = refl
sets_puts (set c ∷ os) = ap (λ r. set c ∷ r) (sets_puts os)
sets_puts (remove t ∷ os) = sets_puts os

-- one list touches the type, and the other does not
told : (a b : List Op) (t : ℕ) → Within a → sets_of (lasts a) ≡ sets_of (lasts b) → touches a t ≡ true → touches b t ≡ false
    → sized (run_all a (blank t ∷ [])) ≡ sized (run_all b (blank t ∷ [])) → ⊥
unfolding without sized
told a b t w e p q h =
    let last = puts (sets_of (lasts a)) in
    let gone : run_all a (blank t ∷ []) ≡ last = run_is a (blank t ∷ []) ∙ rw p in
    let stays : run_all b (blank t ∷ []) ≡ blank t ∷ last = run_is b (blank t ∷ []) ∙ rw (q, e) in
    let alike = tested (encode_all (blank t ∷ last)) (length (blank t ∷ last)) _ (ap sized (sym stays) ∙ sym h ∙ ap sized gone ∙ sets_fit a w) in
    omega (arith, ap length (entries_alike (blank t ∷ last) last alike.0))

module _ (a b : List Op) (v : Within a) (w : Within b) (empty : sized (run_all a []) ≡ sized (run_all b []))
    (single : (t : ℕ) → t < types → sized (run_all a (blank t ∷ [])) ≡ sized (run_all b (blank t ∷ []))) where
  same_sets : sets_of (lasts a) ≡ sets_of (lasts b)
  same_sets =
      let written = sym (run_empty a v) ∙ empty ∙ run_empty b w in
      let alike = entries_alike (puts (sets_of (lasts a))) (puts (sets_of (lasts b))) (cc) in
      sym (sets_puts (lasts a)) ∙ ap (map set) alike ∙ sets_puts (lasts b)

  same_touches : (t : ℕ) → t < types → touches a t ≡ touches b t
  same_touches t l =
      by_test (touches a t)
      (λ p. by_test (touches b t) (λ q. cc) (λ q. absurd (told a b t v same_sets p q (single t l))))
      (λ p. by_test (touches b t) (λ q. absurd (told b a t w (sym same_sets) q p (sym (single t l)))) (λ q. cc))

  pub same_effects : fold_all a ≡ fold_all b
  same_effects = fold_same a b same_touches same_sets
