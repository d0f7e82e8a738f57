-- What demand 3 says of change lists and datasets, by name. The demand itself is proofs/Demand.antt; of the calls it is changes/proofs/Calls.antt.
-- Assumes nothing.
use Rattle.std.specs.Prelude.{ℕ, ◌≡◌, List}
use Rattle.refusal.specs.Answer.{given}
use Rattle.refusal.specs.Every.{Bytes}
use Rattle.tlv.specs.Entries.{Entry}
use Rattle.tlv.specs.Limits.{framed}
use Rattle.change_lists.specs.Operations.{OpAt, operations}

-- bytes that are a change list within the limits: its operations are given
pub record Changes (l : List ℕ) : Type 0 where
  pub octets : Bytes l
  pub ops : List OpAt
  pub within : operations 0 l ≡ given ops

-- bytes that are a dataset within the limits: its entries are given
pub record Dataset (d : List ℕ) : Type 0 where
  pub octets : Bytes d
  pub entries : List Entry
  pub within : framed 0 d ≡ given entries
