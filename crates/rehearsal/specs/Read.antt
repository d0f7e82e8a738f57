-- What two calls answer on a bare value: each right side is that of the call's contract.
-- Assumes nothing.
use Rattle.std.specs.Prelude.{ℕ, List}
use Rattle.refusal.specs.Answer.{Answer, then_do}
use Rattle.refusal.specs.Numbered.{nth}
use Rattle.diag_rules.specs.Rule.{value_of}
use Rattle.diag_rows.specs.Rows.{child_rows, addresses}
use Rattle.diag_rows.specs.declared.ChildTableEntry.{ChildTableEntry}

-- row k by `diag_rows::child_row`
abbrev pub child_row : List ℕ → ℕ → Answer ChildTableEntry
child_row s k = then_do (value_of 16 0 s) (λ (v : List ℕ). nth (child_rows v) k)

-- the bytes of address k by `diag_rows::address`, which gives none where this is absent
abbrev pub address_of : List ℕ → ℕ → Answer (List ℕ)
address_of s k = then_do (value_of 8 0 s) (λ (v : List ℕ). nth (addresses v) k)
