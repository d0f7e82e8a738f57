-- Document 02, One, for a call's record and tables: "Reading what was written gives the record back". This is `back`; what is written is within document 01's
-- form (`written_formed`), and pairing on it is pairing on the record that went in (`written_pairs`, `written_codes`).
-- Assumes nothing.
use mathlib.Core.Path.{◌≡◌}
use mathlib.Core.List.{List, map}
use Prim.Native.Nat.{ℕ}
use Rattle.refusal.specs.Answer.{given}
use Rattle.diag.specs.declared.NetDiagData.{NetDiagData}
use Rattle.pair_rule.specs.Codes.{code_of}
use Rattle.pairing.specs.Payload.{paired, codes}
use Rattle.record_writing.specs.Reading.{reading, says}
use Rattle.record_writing.specs.Form.{Formed}
use Rattle.record_writing.specs.Pairs.{pairings_of}
use Rattle.record_writing.specs.Lent.{Lent, values_of}
use Rattle.record_writing.specs.Written.{written}
use Rattle.record_writing.specs.Machine.{Machine}
use Rattle.record_writing.proofs.Round.{Found, found, read_back}
use Rattle.record_writing.proofs.Form.{formed}
use Rattle.record_writing.proofs.Pairs.{pairs_back, codes_back}
use Rattle.record_writing.proofs.Told.{told, typed}

module _ (r : NetDiagData) (l : Lent) (bs : List ℕ) (e : written r l ≡ given bs) where
  pub written_formed : Formed bs
  written_formed = formed (values_of r l) bs (told r l bs e).bytes

  module _ (m : Machine r l) where
    pub back : reading bs ≡ given (says (values_of r l))
    back = let t = told r l bs e in read_back (values_of r l) bs (typed r l m) t.tables t.fits t.bytes

    pub written_found : Found (values_of r l) bs
    written_found = let t = told r l bs e in found (values_of r l) bs (typed r l m) t.tables t.fits t.bytes

    pub written_pairs : paired bs ≡ given (pairings_of (values_of r l))
    written_pairs = let t = told r l bs e in pairs_back (values_of r l) bs (typed r l m) t.tables t.fits t.bytes

    pub written_codes : codes bs ≡ given (map code_of (pairings_of (values_of r l)))
    written_codes = let t = told r l bs e in codes_back (values_of r l) bs (typed r l m) t.tables t.fits t.bytes
