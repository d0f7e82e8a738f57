-- An address list that the code hands out, on paper.
-- Assumes nothing.
use Rattle.std.specs.Prelude.{ℕ, List}
use Rattle.diag_rows.specs.Rows.{part, addresses}
use Rattle.diag_rows.specs.declared.ChildIpv6AddrInfo.{ChildIpv6AddrInfo}
use Rattle.diag_entries.specs.Lists.{AddressList}
use Rattle.diag_entries.specs.Answers.{said_at}

-- its addresses are a part of s
abbrev pub list_paper : List ℕ → ChildIpv6AddrInfo → AddressList
list_paper s x = record { rloc16 = x.rloc16; child_id = x.child_id; addresses = said_at addresses s (part x.start x.len) }
