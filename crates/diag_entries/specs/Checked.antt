-- Which payloads are read. Document 01: "Order: 1, ... then 2 over the whole input, 3, then value faults (4, 5, 6, 12) in wire order, first met";
-- "every one must decode"; "Unknown types are skipped".
-- Assumes nothing.
use Rattle.std.specs.Prelude.{ℕ, List, [], ◌∷◌, eqb}
use Rattle.refusal.specs.Answer.{pick, Answer, given, then_do, on_given}
use Rattle.tlv.specs.Entries.{Entry}
use Rattle.tlv.specs.Limits.{framed}
use Rattle.network_data.specs.Decode.{Prefix, decode_network_data}
use Rattle.diag_rules.specs.Rule.{value_of}

-- the value of an entry of a type at a place, or its fault: Network Data has rules of its own, every other type one for its length
unfoldable pub entry_value : (ty place : ℕ) → List ℕ → Answer (List ℕ)
entry_value ty place v = pick (eqb ty 7) (on_given (λ (ps : List Prefix). v) (decode_network_data place v)) (value_of ty place v)

-- es where each of them decodes, or the first fault met
unfoldable pub decoding : List Entry → Answer (List Entry)
decoding [] = given []
decoding (e ∷ es) = then_do (entry_value e.ty e.place e.value) (λ (v : List ℕ). on_given (λ (xs : List Entry). e ∷ xs) (decoding es))

-- the entries of a payload, or why it is refused
unfoldable pub checked : List ℕ → Answer (List Entry)
checked s = then_do (framed 0 s) decoding
