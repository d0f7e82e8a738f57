-- An address list as it is written: a header, two bytes, and the addresses after them.
-- Assumes nothing.
use mathlib.Core.Path.{◌≡◌, ap, ◌∙◌}
use mathlib.Core.List.{List, ◌++◌}
use Prim.Native.Nat.{ℕ, ◌+◌, ◌-◌, ◌≤◌}
use native.Mathlib.Omega.{arith}
use lib.ListN.{length, get_or, set, take, drop, length-append}
use Rattle.refusal.specs.Output.{placing, placed}
use Rattle.laws.proofs.Parts.{length_part}
use Rattle.wire_bytes.specs.Bytes.{bytes_of}
use Rattle.tlv_writing.specs.Encode.{header, headed, encode, placed_if}
use Rattle.diag_rows.specs.declared.ChildIpv6AddrInfo.{ChildIpv6AddrInfo}
use Rattle.diag_entries.specs.Answers.{bytes_at}
use Rattle.value_writing.specs.Encode.{list_bytes}
use Rattle.diag_writing.specs.Pieces.{list_entry, ListLies}
use Rattle.diag_writing.proofs.Wrote.{Wrote, wrote_length, wrote_then, bytes_wrote, header_wrote, two_wrote}

module _ (s : List ℕ) (x : ChildIpv6AddrInfo) (lies : ListLies s x) where
  list_is : list_entry s x ≡ header 30 (2 + x.len) ++ (bytes_of 2 x.rloc16 ++ bytes_at s x.start x.len)
  unfolding encode list_bytes bytes_of
  list_is =
      let n = length_part s x.start x.len lies.0 in
      let k : length (list_bytes (record { rloc16 = x.rloc16; child_id = x.child_id; addresses = bytes_at s x.start x.len })) ≡ 2 + x.len = omega arith in
      ap (λ (m : ℕ). header 30 m ++ (bytes_of 2 x.rloc16 ++ bytes_at s x.start x.len)) k

  list_size : length (list_entry s x) ≡ length (header 30 (2 + x.len)) + (2 + x.len)
  unfolding bytes_of
  list_size =
      let n = length_part s x.start x.len lies.0 in
      ap length list_is ∙ length-append (header 30 (2 + x.len)) _ ∙ omega arith

  module _ (out left : List ℕ) (at a : ℕ) (fits : at + length (list_entry s x) ≤ length out) (told : placing a left ≡ placed_if (headed 30 (2 + x.len)) at out) where
    list_headed : Wrote out at (header 30 (2 + x.len)) a left
    list_headed = header_wrote out at a left 30 (2 + x.len) lies.1 (omega (arith, list_size)) told

    pub list_room : a + (2 + x.len) ≤ length left
    list_room = omega (arith, list_size, list_headed.0, wrote_length out at a left _ list_headed)

    pub list_wrote : (bs done : List ℕ) (next : ℕ) → bs ≡ bytes_of 2 x.rloc16
        → placing next done ≡ placed (take (x.start + x.len - x.start) (drop x.start s)) (a + 2) (set (set left a (get_or bs 0 0)) (a + 1) (get_or bs 1 0))
        → Wrote out at (list_entry s x) next done
    unfolding bytes_of
    list_wrote bs done next e done-told =
        let n = length_part s x.start x.len lies.0 in
        let m : x.start + x.len - x.start ≡ x.len = omega arith in
        let two : Wrote left a (bytes_of 2 x.rloc16) (a + 2) (set (set left a (get_or bs 0 0)) (a + 1) (get_or bs 1 0)) = rw e (two_wrote left a _ _) in
        let rest = bytes_wrote _ (a + 2) next done (bytes_at s x.start x.len) (omega (arith, list_room, wrote_length left a _ _ _ two)) (rw m at done-told) in
        rw list_is (wrote_then out at a left _ _ next done list_headed (wrote_then left a (a + 2) _ _ _ next done two rest))
