-- A name is checked by its size and then by its bytes.
-- Assumes nothing.
use mathlib.Core.Path.{◌≡◌, ◌∙◌}
use mathlib.Core.Bool.{Bool}
use mathlib.Core.List.{List}
use Prim.Native.Nat.{ℕ}
use native.Mathlib.Omega.{arith}
use lib.ListN.{length}
use lib.Dec.{ltb}
use Rattle.refusal.specs.Sizes.{most_bytes}
use Rattle.refusal.specs.Answer.{pick, given, refused}
use Rattle.laws.proofs.Tests.{by_test}
use Rattle.utf8.specs.Utf8.{octets}
use Rattle.plain_values.specs.Plain.{checked, sized_value, name_at}

-- a name within the size is checked by its bytes
pub name_is : (place : ℕ) (v : List ℕ) → given tt ≡ checked (sized_value v) → (b : Bool) → octets v ≡ b → pick b (given tt) (refused 6 place 0) ≡ checked (name_at place v)
unfolding name_at sized_value
name_is place v k b e =
    by_test (ltb most_bytes (length v))
    (λ t. let z : given tt ≡ refused 1 0 0 = k ∙ simp t in absurd (let z : ◌≡◌ {A = ℕ} 0 1 = cc in omega arith))
    (λ t. simp (t, e) (by_test b (λ u. simp u) (λ u. simp u)))
