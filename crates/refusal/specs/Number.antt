-- The number of each fault, from the table of document 01, "Refusal numbers", and a refusal on paper.
-- Assumes nothing.
use Rattle.std.specs.Prelude.{ℕ}
use Rattle.refusal.specs.Answer.{Answer, refused}
use Rattle.refusal.specs.declared.Fault.{Fault}
use Rattle.refusal.specs.declared.Fault.TheVariants as f
use Rattle.refusal.specs.declared.Refusal.{Refusal}

abbrev pub fault_number : Fault → ℕ
fault_number f.TooLarge = 1
fault_number f.Cut = 2
fault_number f.TooMany = 3
fault_number f.BadLength = 4
fault_number f.ItemCut = 5
fault_number f.NotUtf8 = 6
fault_number f.OddDigits = 7
fault_number f.NotHex = 8
fault_number f.BadOperation = 9
fault_number f.ResultTooLarge = 10
fault_number f.NoRoom = 11
fault_number f.TooManyRows = 12
fault_number f.ValueTooLong = 13
fault_number f.NowTooLate = 14
-- document 02, One: "15 if a field doesn't fit its bits ..."
fault_number f.Unwritable = 15
-- document 02, Three: "16 for any text outside those forms"
fault_number f.NotAddress = 16
-- document 02, Seven: "17 ... for a stored index that is misframed or isn't the one the dataset gives"
fault_number f.WrongIndex = 17

abbrev pub refusal_answer : {A : Type 0} → Refusal → Answer A
refusal_answer r = refused (fault_number r.fault) r.place r.input
