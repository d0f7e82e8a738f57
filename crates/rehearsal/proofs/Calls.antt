-- The two theorems as a caller of `diag_writing::write` has them, whose promise is `output (answer_of answer) left ≡ emit (written r l) out`:
-- "Reading what was written gives the record back" (document 02, One) is `write_reads`; a record that was read is refused by 11 alone: `write_again`.
-- Assumes nothing.
use mathlib.Core.Path.{◌≡◌, sym, ap, ◌∙◌}
use mathlib.Core.List.{List, map}
use Prim.Native.Nat.{ℕ}
use native.Mathlib.Omega.{arith}
use lib.ListN.{take}
use Rattle.std.specs.Prelude.{Result}
use Rattle.refusal.specs.Every.{Bytes}
use Rattle.refusal.specs.Answer.{Answer, given, refused}
use Rattle.refusal.specs.Output.{output, emit}
use Rattle.refusal.specs.declared.Refusal.{Refusal}
use Rattle.laws.proofs.Callers.{gave_front, Refuses, itself, no_room, refuses}
use Rattle.pair_rule.specs.Codes.{code_of}
use Rattle.pairing.specs.Payload.{codes}
use Rattle.diag.specs.Diag.{decode}
use Rattle.diag.specs.Answers.{decoded_answer}
use Rattle.diag.specs.declared.NetDiagData.{NetDiagData}
use Rattle.record_writing.specs.Reading.{reading}
use Rattle.record_writing.specs.Form.{Formed}
use Rattle.record_writing.specs.Pairs.{pairings_of}
use Rattle.record_writing.specs.Lent.{Lent, values_of}
use Rattle.record_writing.specs.Written.{written}
use Rattle.record_writing.specs.Machine.{Machine}
use Rattle.record_writing.proofs.Back.{written_formed, written_codes}
use Rattle.rehearsal.specs.Handed.{Handed}
use Rattle.rehearsal.specs.Back.{Back}
use Rattle.rehearsal.proofs.Back.{back}
use Rattle.rehearsal.proofs.Again.{rewritten}

module _ (r : NetDiagData) (l : Lent) (out left : List ℕ) where
  -- n bytes were written: they are the first n of what is left
  module _ (n : ℕ) (e : output (given n) left ≡ emit (written r l) out) where
    front : written r l ≡ given (take n left)
    front = gave_front out left (written r l) n e

    -- "types ascending", "Writing uses the short header to 254 and the long one from 255"
    pub write_forms : Formed (take n left)
    write_forms = written_formed r l (take n left) front

    -- pairing on what was written is pairing on the record that went in
    pub write_codes : Machine r l → codes (take n left) ≡ given (map code_of (pairings_of (values_of r l)))
    write_codes m = written_codes r l (take n left) front m

    pub write_reads : Machine r l → (x : Result NetDiagData Refusal) → decoded_answer (take n left) x ≡ decode (take n left) → Back r l (take n left) x
    write_reads m x h = back r l (take n left) front m x h

  -- what was read is written, if there is room
  module _ (b : Bytes l.bytes) (h : Handed r l) where
    pub write_again : (n p i : ℕ) → output (refused n p i) left ≡ emit (written r l) out → n ≡ 11
    write_again n p i e = by_refusal (refuses out left (written r l) n p i e)
      where
        by_refusal : Refuses (written r l) out left n p i → n ≡ 11
        by_refusal (itself is kept) = absurd (let are = (rewritten r l b h).are in let z : ◌≡◌ {A = ℕ} 0 1 = cc in omega arith)
        by_refusal (no_room bs is short eleven) = eleven

    pub write_same : (n : ℕ) → output (given n) left ≡ emit (written r l) out → reading (take n left) ≡ reading l.bytes
    write_same n e =
        let w = rewritten r l b h in
        let both : ◌≡◌ {A = Answer (List ℕ)} (given (take n left)) (given w.bytes) = sym (front n e) ∙ w.are in
        let same : take n left ≡ w.bytes = cc in
        ap reading same ∙ w.same
