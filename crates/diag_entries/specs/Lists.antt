-- THE definition of a payload's address lists (document 01, "Diagnostic values").
-- Assumes nothing.
use Rattle.std.specs.Prelude.{ℕ, ◌+◌, List, map, drop}
use Rattle.refusal.specs.Answer.{Answer, then_do}
use Rattle.tlv.specs.Entries.{Entry}
use Rattle.diag_rows.specs.Rows.{address_list_of}
use Rattle.refusal.specs.Numbered.{nth}
use Rattle.diag_rows.specs.Rows.{addresses}
use Rattle.diag_rows.specs.declared.ChildIpv6AddrInfo.{ChildIpv6AddrInfo}
use Rattle.diag_entries.specs.Parts.{all_of, Said}
use Rattle.diag_entries.specs.Checked.{checked}

-- "30: RLOC16, then the same" (whole addresses); "child ID is RLOC16 modulo 512"
pub record AddressList : Type 0 where
  pub rloc16 : ℕ
  pub child_id : ℕ
  pub addresses : Said (List (List ℕ))

-- of an entry, by what its value says: there the addresses' place counts from the value's first byte, here from the payload's
abbrev pub list_in : Entry → ChildIpv6AddrInfo → AddressList
list_in e x = record {
  rloc16 = x.rloc16;
  child_id = x.child_id;
  addresses = record { start = e.start + x.start; len = x.len; says = addresses (drop x.start e.value) };
}

abbrev pub address_list : Entry → AddressList
address_list e = list_in e (address_list_of e.value)

-- "type 30 gathers all, in order"
unfoldable pub address_lists : List Entry → List AddressList
address_lists es = map address_list (all_of 30 es)

-- address list k of a payload, from 0
unfoldable pub child_list : (k : ℕ) → List ℕ → Answer AddressList
child_list k s = then_do (checked s) (λ (es : List Entry). nth (address_lists es) k)
