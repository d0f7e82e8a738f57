-- Parts of a payload in a sum.
-- Assumes nothing.
use mathlib.Core.Path.{◌≡◌, refl}
use mathlib.Core.List.{List}
use Prim.Native.Nat.{ℕ}
use Rattle.std.specs.Prelude.{Option, Some, None, MatchOption}
use Rattle.std.specs.Option.{unwrap_or}
use Rattle.refusal.specs.Results.{option_of}
use Rattle.refusal.specs.Answer.{Answer, given, absent, refused, on_given}
use Rattle.diag_rows.specs.declared.Part.{Part}
use Rattle.diag_entries.specs.Parts.{Said}
use Rattle.diag_entries.specs.Answers.{said_at}
use Rattle.payload_sums.specs.Sums.{or_zero, number, part_len, size}

-- g says of a part with what is said there what h says of the part
pub said_part : {A : Type 0} (f : List ℕ → A) (s : List ℕ) (g : Said A → ℕ) (h : Part → ℕ) → ((p : Part) → h p ≡ g (said_at f s p)) → (a : Answer Part)
    → or_zero h a ≡ or_zero g (on_given (said_at f s) a)
said_part f s g h same (given p) = same p
said_part f s g h same absent = refl
said_part f s g h same (refused n q i) = refl

pub part_size : {A : Type 0} (f : List ℕ → A) (s : List ℕ) (a : Answer Part) → or_zero part_len a ≡ size (on_given (said_at f s) a)
part_size {A} f s a = said_part f s (λ (x : Said A). x.len) part_len (λ p. refl) a

-- ---- fields that may be missing
pub number_is : (x : Option ℕ) → unwrap_or x 0 ≡ number (option_of x)
number_is (Some n) = refl
number_is None = refl

-- what f, which says g of the paper of every value, makes of one that may be missing
pub or_zero_by : {A B : Type 0} (paper : A → B) (g : B → ℕ) (post : A → ℕ → Type 0) → ((v : A) (r : ℕ) → post v r → r ≡ g (paper v)) → (x : Option A) (r : ℕ)
    → MatchOption x (r ≡ 0) (λ (v : A). post v r) → r ≡ or_zero g (on_given paper (option_of x))
or_zero_by paper g post each (Some v) r h = each v r h
or_zero_by paper g post each None r h = h

pub or_zero_plain : {A : Type 0} (g : A → ℕ) (post : A → ℕ → Type 0) → ((v : A) (r : ℕ) → post v r → r ≡ g v) → (x : Option A) (r : ℕ)
    → MatchOption x (r ≡ 0) (λ (v : A). post v r) → r ≡ or_zero g (option_of x)
or_zero_plain g post each (Some v) r h = each v r h
or_zero_plain g post each None r h = h
