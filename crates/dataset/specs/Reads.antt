-- What the private function promises that all queries share: no public contract cites it.
-- Assumes nothing.
use denote.Ref.{Bor}
use Rattle.std.specs.Prelude.{◌≡◌, ℕ, List, Result, Option}
use Rattle.refusal.specs.Answer.{Answer, given, absent, refused}
use Rattle.refusal.specs.Results.{answer_of, found_of}
use Rattle.refusal.specs.declared.Refusal.{Refusal}
use Rattle.tlv.specs.Entries.{Entry}

-- what is found is what a reader answers of the entry's value and its place; "absent" and a refusal stay as they are
abbrev pub Reads : {A : Type 0} → (Bor (List ℕ) → ℕ → Result A Refusal → Type 0) → Answer Entry → Result (Option A) Refusal → Type 0
Reads {A} P (given e) r = (v : Bor (List ℕ)) × (q : Result A Refusal) × P v e.place q × (v.now ≡ e.value) × (found_of r ≡ answer_of q)
Reads P absent r = found_of r ≡ absent
Reads P (refused n p i) r = found_of r ≡ refused n p i
