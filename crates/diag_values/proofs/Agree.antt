-- The rule's table and the reads of `wire`: where a type has one length, a value of it is what `ruled` gives, so that types 1 and 15 are read by
-- `wire::read_u16` and type 3 by `wire::read_u32`.
-- Assumes nothing.
use mathlib.Core.Path.{◌≡◌, refl}
use mathlib.Core.List.{List}
use Prim.Native.Nat.{ℕ, ◌≤◌}
use native.Mathlib.Omega.{arith}
use lib.ListN.{length}
use lib.Dec.{eqb}
use borrow.Author.Tests.{eqb-true, le-ltb}
use Rattle.refusal.specs.Sizes.{most_bytes}
use Rattle.refusal.specs.Answer.{on_given}
use Rattle.laws.proofs.Tests.{by_test}
use Rattle.wire.specs.Be.{be, wrong_length, ruled, fixed}
use Rattle.diag_rules.specs.Rule.{keeps_rule, value_of}

-- THE FACT over the length k
pub one_length : (ty k place : ℕ) (v : List ℕ) → keeps_rule ty v ≡ eqb (length v) k → k ≤ most_bytes → value_of ty place v ≡ ruled k place v
unfolding value_of ruled wrong_length
one_length ty k place v rule h =
    by_test (eqb (length v) k)
    (λ t. let n : length v ≤ most_bytes = omega (arith, eqb-true (length v) k t) in
    rw (le-ltb _ _ n, rule, t))
    (λ t. rw (rule, t))

module _ (place : ℕ) (v : List ℕ) where
  pub mac_address_is : value_of 1 place v ≡ ruled 2 place v
  unfolding keeps_rule
  mac_address_is = one_length 1 2 place v refl (omega arith)

  pub supply_voltage_is : value_of 15 place v ≡ ruled 2 place v
  unfolding keeps_rule
  supply_voltage_is = one_length 15 2 place v refl (omega arith)

  pub timeout_is : value_of 3 place v ≡ ruled 4 place v
  unfolding keeps_rule
  timeout_is = one_length 3 4 place v refl (omega arith)

  pub eui64_is : value_of 23 place v ≡ ruled 8 place v
  unfolding keeps_rule
  eui64_is = one_length 23 8 place v refl (omega arith)

  -- what the reads of `wire` answer
  pub mac_address_read : fixed 2 place v ≡ on_given be (value_of 1 place v)
  unfolding fixed
  mac_address_read = rw mac_address_is

  pub supply_voltage_read : fixed 2 place v ≡ on_given be (value_of 15 place v)
  unfolding fixed
  supply_voltage_read = rw supply_voltage_is

  pub timeout_read : fixed 4 place v ≡ on_given be (value_of 3 place v)
  unfolding fixed
  timeout_read = rw timeout_is
