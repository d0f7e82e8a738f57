-- From a promise that is a fact to what the theorems say of it, and the general forms: an equation leaves one answer and one output, and a step of a walk one
-- item and one list.
-- Assumes nothing.
use mathlib.Core.Path.{◌≡◌, refl, sym, ap, ◌∙◌}
use Prim.Native.Nat.{ℕ}
use mathlib.Core.List.{List}
use seplogic.Ra.Ura.{Ura}
use base.Logic.{ent, sep, fst∗, snd∗, via}
use contract.Monad.{fact, fact_i, fact_use}
use native.Mathlib.Omega.{arith}
use Rattle.std.specs.Iterator.{YieldsFirstBy}
use Rattle.std.specs.Option.{option_map}
use Rattle.std.specs.Prelude.{Option, None, Some, Result, Err}
use Rattle.refusal.specs.Results.{answer_of}
use Rattle.refusal.specs.Number.{refusal_answer}
use Rattle.refusal.specs.Output.{Output, output, Placed, placing}
use Rattle.refusal.specs.declared.Refusal.{Refusal}
use Rattle.timestamps.specs.declared.Timestamp.{Timestamp}
use Rattle.policy_flags.specs.declared.SecurityPolicyFlags.{SecurityPolicyFlags}
use Rattle.refusal.proofs.Papers.{Tells, answer_tells, output_tells}

pub both : {M : Type 1} (𝓤 : Ura M) (P Q R : Type 0) → (P → Q → R) → ent 𝓤 (sep 𝓤 (fact 𝓤 P) (fact 𝓤 Q)) (fact 𝓤 R)
both 𝓤 P Q R f =
    fact_use 𝓤 P (fst∗ 𝓤 (fact 𝓤 P) (fact 𝓤 Q)) (λ p. fact_use 𝓤 Q (snd∗ 𝓤 (fact 𝓤 P) (fact 𝓤 Q)) (λ q. fact_i 𝓤 R (sep 𝓤 (fact 𝓤 P) (fact 𝓤 Q)) (f p q)))

-- the same of the first of two facts
pub both_first :
    {M : Type 1} (𝓤 : Ura M) (P Q R S T : Type 0)
    → (P → Q → R)
    → ent 𝓤 (sep 𝓤 (sep 𝓤 (fact 𝓤 P) (fact 𝓤 S)) (sep 𝓤 (fact 𝓤 Q) (fact 𝓤 T))) (fact 𝓤 R)
both_first 𝓤 P Q R S T f =
    let one = sep 𝓤 (fact 𝓤 P) (fact 𝓤 S) in
    let other = sep 𝓤 (fact 𝓤 Q) (fact 𝓤 T) in
    fact_use 𝓤 P (via 𝓤 one (fst∗ 𝓤 one other) (fst∗ 𝓤 (fact 𝓤 P) (fact 𝓤 S)))
    (λ p. fact_use 𝓤 Q (via 𝓤 other (snd∗ 𝓤 one other) (fst∗ 𝓤 (fact 𝓤 Q) (fact 𝓤 T))) (λ q. fact_i 𝓤 R (sep 𝓤 one other) (f p q)))

pub leaves :
    (x : Output) (r q : Result ℕ Refusal) (left over : List ℕ)
    → output (answer_of r) left ≡ x
    → output (answer_of q) over ≡ x
    → (r ≡ q) × (left ≡ over)
leaves x r q left over a b = output_tells r q left over (a ∙ sym b)

pub leaves_placed : (x : Placed) (r q : ℕ) (left over : List ℕ) → placing r left ≡ x → placing q over ≡ x → (r ≡ q) × (left ≡ over)
leaves_placed x r q left over a b =
    let same = a ∙ sym b in
    (ap (λ (o : Placed). o.next) same, ap (λ (o : Placed). o.left) same)

-- a step from s that keeps the law of a walk hands out one item, as `view` reads it, and leaves one list
pub step_tells :
    {S A B : Type 0} (view : A → B) (rest : S → List B) (s t u : S) (r q : Option A)
    → YieldsFirstBy view rest s r t
    → YieldsFirstBy view rest s q u
    → (option_map view r ≡ option_map view q) × (rest t ≡ rest u)
step_tells view rest s t u None None a b = (refl, a.1 ∙ sym b.1)
step_tells view rest s t u None (Some y) a b = absurd (let e = sym a.0 ∙ b in let z : ◌≡◌ {A = ℕ} 0 1 = cc in omega arith)
step_tells view rest s t u (Some x) None a b = absurd (let e = sym b.0 ∙ a in let z : ◌≡◌ {A = ℕ} 0 1 = cc in omega arith)
step_tells view rest s t u (Some x) (Some y) a b = let e = sym a ∙ b in let same : view x ≡ view y = cc in (ap (λ z. Some z) same, cc)

-- ---- meanings that no crate has a law for

pub refusal_tells : Tells (refusal_answer {A = ℕ})
refusal_tells a b e =
    let x : Result ℕ Refusal = Err a in
    let y : Result ℕ Refusal = Err b in
    let same : x ≡ y = answer_tells x y e in
    cc

pub stamp_tells : Tells (λ (r : Timestamp). r.0)
stamp_tells a b e = ap (λ (x : ℕ). record { 0 = x }) e

pub flags_tells : Tells (λ (r : SecurityPolicyFlags). r.0)
flags_tells a b e = ap (λ (x : ℕ). record { 0 = x }) e
