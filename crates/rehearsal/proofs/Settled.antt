-- A field that may be missing is given or absent, so that it is known by what is said of it.
-- Assumes nothing.
use mathlib.Core.Path.{◌≡◌, refl, sym, ap, ◌∙◌}
use Prim.Native.Nat.{ℕ}
use native.Mathlib.Omega.{arith}
use Rattle.std.specs.Prelude.{Option, Some, None}
use Rattle.refusal.specs.Answer.{on_given}
use Rattle.refusal.specs.Results.{option_of}
use Rattle.connectivity.specs.Answers.{connectivity_paper}
use Rattle.connectivity.specs.declared.Connectivity.{Connectivity}
use Rattle.connectivity.proofs.Papers.{connectivity_from, connectivity_back}
use Rattle.diag_rows.specs.declared.Part.{Part}
use Rattle.diag.specs.Answers.{opt_connectivity}
use Rattle.record_writing.specs.Reading.{or_absent}

connectivity_tells : (a b : Connectivity) → connectivity_paper a ≡ connectivity_paper b → a ≡ b
connectivity_tells a b e = sym (connectivity_back a) ∙ ap connectivity_from e ∙ connectivity_back b

pub same_option : {A : Type 0} (a b : Option A) → option_of a ≡ or_absent (option_of b) → a ≡ b
same_option (Some a) (Some b) e = cc
same_option (Some a) None e = absurd (let z : ◌≡◌ {A = ℕ} 0 1 = cc in omega arith)
same_option None (Some b) e = absurd (let z : ◌≡◌ {A = ℕ} 0 1 = cc in omega arith)
same_option None None e = refl

pub same_connectivity : (a b : Option Connectivity) → opt_connectivity a ≡ or_absent (opt_connectivity b) → a ≡ b
same_connectivity (Some a) (Some b) e = let told : connectivity_paper a ≡ connectivity_paper b = cc in ap Some (connectivity_tells a b told)
same_connectivity (Some a) None e = absurd (let z : ◌≡◌ {A = ℕ} 0 1 = cc in omega arith)
same_connectivity None (Some b) e = absurd (let z : ◌≡◌ {A = ℕ} 0 1 = cc in omega arith)
same_connectivity None None e = refl

pub or_part : {A : Type 0} (f : Part → A) (x : Option Part) → or_absent (on_given f (option_of x)) ≡ on_given f (option_of x)
or_part f (Some q) = refl
or_part f None = refl
