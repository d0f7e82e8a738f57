-- What holds of every row: how many there are, and that their fields are within their bits.
-- Assumes nothing.
use mathlib.Core.Path.{◌≡◌, refl, ap}
use mathlib.Core.List.{List}
use Prim.Native.Nat.{ℕ, zero, suc, ◌*◌, ◌/◌, ◌<◌}
use native.Mathlib.Omega.{arith}
use lib.ListN.{length, drop, take}
use Rattle.refusal.specs.Every.{Every}
use Rattle.diag_rows.specs.Rows.{listed, child_at, child_rows, part, addresses, address_parts}
use Rattle.diag_rows.specs.declared.ChildTableEntry.{ChildTableEntry}

-- ---- rows by a function

length_listed : {A : Type 0} (f : ℕ → A) (n : ℕ) → length (listed f n) ≡ n
unfolding listed
length_listed f zero = refl
length_listed f (suc n) = ap suc (length_listed (λ k. f (suc k)) n)

every_listed : {A : Type 0} (P : A → Type 0) (f : ℕ → A) (n : ℕ) → ((k : ℕ) → P (f k)) → Every P (listed f n)
unfolding listed
every_listed P f zero h = tt
every_listed P f (suc n) h = (h 0, every_listed P (λ k. f (suc k)) n (λ k. h (suc k)))

module _ (v : List ℕ) where
  pub child_count : length (child_rows v) ≡ length v / 3
  unfolding child_rows
  child_count = length_listed (λ k. child_at v (k * 3)) (length v / 3)

  pub address_count : length (addresses v) ≡ length v / 16
  unfolding addresses
  address_count = length_listed (λ k. take 16 (drop (k * 16) v)) (length v / 16)

  pub part_count : length (address_parts v) ≡ length v / 16
  unfolding address_parts
  part_count = length_listed (λ k. part (k * 16) 16) (length v / 16)

-- ---- fields within their bits

abbrev pub ChildWithin : ChildTableEntry → Type 0
ChildWithin c = (c.timeout_exponent < 32) × (c.incoming_link_quality < 4) × (c.child_id < 512)

pub child_within : (v : List ℕ) → Every ChildWithin (child_rows v)
unfolding child_rows
child_within v = every_listed ChildWithin (λ k. child_at v (k * 3)) (length v / 3) (λ k. (omega arith, omega arith, omega arith))
