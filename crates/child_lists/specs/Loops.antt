-- What the private functions promise: no public contract cites it.
-- Assumes nothing.
use Rattle.std.specs.Prelude.{ℕ, List}
use Rattle.refusal.specs.Answer.{Answer, on_given}
use Rattle.tlv.specs.Entries.{entry}
use Rattle.diag_rules.specs.Rule.{value_of}
use Rattle.diag_entries.specs.Lists.{AddressList, address_list}
use Rattle.diag_entries.specs.Answers.{bytes_at}

-- the address list of type 30 whose value is a part of s
unfoldable pub list_at : List ℕ → (place start len : ℕ) → Answer AddressList
list_at s p a n = on_given (λ (v : List ℕ). address_list (entry p 30 a v)) (value_of 30 p (bytes_at s a n))
