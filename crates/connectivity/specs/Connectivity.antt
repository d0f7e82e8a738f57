-- What the bytes of a Connectivity say (document 01, "Diagnostic values"). It is total: whether a value is long enough is asked first, by the Rule of
-- `diag_rules`.
-- Assumes nothing.
use Rattle.std.specs.Prelude.{ℕ, ◌/◌, List, length, ℤ, pos, negsuc, eqb, leb}
use Rattle.refusal.specs.Answer.{pick, Answer, given, absent}
use Rattle.diag_rules.specs.Mask.{byte_at}
use Rattle.diag_values.specs.Values.{number_at}

-- "4 ...: top two bits of the first give priority (01: 1, 00: 0, 11: -1, 10: -2), then six single bytes. From 10 bytes on, a u16 and a byte follow; at
-- 7 to 9 both are absent"
pub record ConnectivityValue : Type 0 where
  pub parent_priority : ℤ
  pub link_quality3 : ℕ
  pub link_quality2 : ℕ
  pub link_quality1 : ℕ
  pub leader_cost : ℕ
  pub id_sequence : ℕ
  pub active_routers : ℕ
  pub buffer_size : Answer ℕ
  pub datagram_count : Answer ℕ

unfoldable pub priority_of : ℕ → ℤ
priority_of b = pick (eqb (b / 64) 1) (pos 1) (pick (eqb (b / 64) 0) (pos 0) (pick (eqb (b / 64) 3) (negsuc 0) (negsuc 1)))

unfoldable pub buffer_of : List ℕ → Answer ℕ
buffer_of v = pick (leb 10 (length v)) (given (number_at 2 7 v)) absent

unfoldable pub datagrams_of : List ℕ → Answer ℕ
datagrams_of v = pick (leb 10 (length v)) (given (byte_at v 9)) absent

abbrev pub connectivity_of : List ℕ → ConnectivityValue
connectivity_of v = record {
  parent_priority = priority_of (byte_at v 0);
  link_quality3 = byte_at v 1;
  link_quality2 = byte_at v 2;
  link_quality1 = byte_at v 3;
  leader_cost = byte_at v 4;
  id_sequence = byte_at v 5;
  active_routers = byte_at v 6;
  buffer_size = buffer_of v;
  datagram_count = datagrams_of v;
}
