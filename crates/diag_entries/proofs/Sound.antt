-- Entries that lie in the payload and decode, and an answer whose entry is such a one.
-- Assumes nothing.
use mathlib.Core.Path.{◌≡◌, subst}
use mathlib.Core.List.{List, [], ◌∷◌}
use Prim.Native.Nat.{ℕ}
use Rattle.refusal.specs.Answer.{Answer, given, absent, refused}
use Rattle.refusal.specs.Every.{Every}
use Rattle.tlv.specs.Entries.{Entry}
use Rattle.tlv.proofs.Walks.{Lies}
use Rattle.diag_entries.specs.Checked.{entry_value}
use Rattle.diag_entries.proofs.Checks.{Decodes}

-- what is given has the property, and nothing is refused
abbrev pub Of : (Entry → Type 0) → Answer Entry → Type 0
Of P (given e) = P e
Of P absent = Unit {0}
Of P (refused n p i) = ⊥

-- an entry of a type that lies in s and decodes
abbrev pub Sound : List ℕ → ℕ → Entry → Type 0
Sound s ty e = Lies s e × (entry_value ty e.place e.value ≡ given e.value)

pub all_sound : (s : List ℕ) (ty : ℕ) (es : List Entry) → Every (Lies s) es → Every Decodes es → Every (λ e. e.ty ≡ ty → Sound s ty e) es
all_sound s ty [] l d = tt
all_sound s ty (e ∷ es) l d =
    (λ t. (l.0, subst (λ (x : ℕ). entry_value x e.place e.value ≡ given e.value) t d.0), all_sound s ty es l.1 d.1)
