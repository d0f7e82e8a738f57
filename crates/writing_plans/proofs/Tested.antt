-- The tests of the plan's functions, as facts on numbers.
-- Assumes nothing.
use mathlib.Core.Path.{◌≡◌, refl, sym, ◌∙◌}
use Prim.Native.Nat.{ℕ, ◌+◌, ◌-◌, ◌≤◌, ◌<◌}
use native.Mathlib.Omega.{arith}
use lib.Dec.{leb}
use borrow.Author.Tests.{le-leb, lt-leb, leb-true, leb-false}
use Rattle.refusal.specs.Sizes.{most_short, most_value}
use Rattle.std.specs.Prelude.{Option, Some, None}
use Rattle.refusal.specs.Answer.{pick}
use Rattle.refusal.specs.Results.{option_of}
use Rattle.connectivity.specs.declared.Connectivity.{Connectivity}
use Rattle.diag.specs.Answers.{opt_connectivity}
use Rattle.diag.specs.declared.NetworkDataPart.{NetworkDataPart}
use Rattle.record_writing.specs.Lent.{opt_counts}
use Rattle.writing_plans.specs.Sizes.{one}
use Rattle.laws.proofs.Tests.{by_test}
use Rattle.tlv_writing.specs.Encode.{size_of, entry_size}

-- what ends within n, counted from its start
pub leb_from : (s l n : ℕ) → s ≤ n → leb l (n - s) ≡ leb (s + l) n
leb_from s l n h =
    by_test (leb (s + l) n) (λ t. le-leb l (n - s) (omega (arith, leb-true (s + l) n t)) ∙ sym t) (λ t. lt-leb l (n - s) (omega (arith, leb-false (s + l) n t)) ∙ sym t)

pub no_entry : (n : ℕ) → 65535 < n → entry_size n ≡ 0
unfolding entry_size
no_entry n h = rw (lt-leb n 65535 h)

pub entry_most : (n : ℕ) → n ≤ 65535 → entry_size n ≤ 65539
unfolding entry_size size_of
entry_most n h = rw (le-leb n 65535 h) (by_test (leb n 254) (λ t. rw t (omega arith)) (λ t. rw t (omega arith)))

pub route_sized : (k : ℕ) → k ≤ 64 → k + 11 ≡ pick (leb k 64) (entry_size (9 + k)) 0
unfolding entry_size size_of
route_sized k h = rw (le-leb k 64 h, le-leb (9 + k) most_value (omega arith), le-leb (9 + k) most_short (omega arith)) (omega arith)

pub entry_within : (n : ℕ) → entry_size n ≤ 65539
entry_within n = by_test (leb n most_value) (λ t. entry_most n (leb-true n most_value t)) (λ t. let z = no_entry n (leb-false n most_value t) in omega arith)

-- ---- what is there on paper is there in the code
pub one_connectivity : (x : Option Connectivity) → one (opt_connectivity x) ≡ one (option_of x)
unfolding one
one_connectivity (Some c) = refl
one_connectivity None = refl

pub one_network : (x : Option NetworkDataPart) → one (opt_counts x) ≡ one (option_of x)
unfolding one
one_network (Some n) = refl
one_network None = refl
