-- A Connectivity, by its fields, and the late u16 by its two bytes.
-- Assumes nothing.
use mathlib.Core.Path.{◌≡◌, ap}
use mathlib.Core.List.{List}
use Prim.Native.Nat.{ℕ, ◌+◌, ◌*◌, ◌≤◌}
use native.Mathlib.Omega.{arith}
use lib.ListN.{length}
use borrow.Author.Tests.{le-leb}
use lib.IntN.{ℤ}
use Rattle.refusal.specs.Answer.{Answer, given}
use Rattle.diag_rules.specs.Mask.{byte_at}
use Rattle.diag_values.proofs.Numbers.{two_spell}
use Rattle.connectivity.specs.Connectivity.{priority_of, buffer_of, datagrams_of, connectivity_of}

pub buffer_is : (v : List ℕ) (x : ℕ) → x ≡ byte_at v 7 * 256 + byte_at v 8 → 10 ≤ length v → given x ≡ buffer_of v
unfolding buffer_of
buffer_is v x e h = rw (le-leb _ _ h, e) (ap given (two_spell v 7 (omega arith)))

pub connectivity_is : (v : List ℕ) (z : ℤ) (b d : Answer ℕ) → z ≡ priority_of (byte_at v 0) → b ≡ buffer_of v → d ≡ datagrams_of v
    → record {
      parent_priority = z;
      link_quality3 = byte_at v 1;
      link_quality2 = byte_at v 2;
      link_quality1 = byte_at v 3;
      leader_cost = byte_at v 4;
      id_sequence = byte_at v 5;
      active_routers = byte_at v 6;
      buffer_size = b;
      datagram_count = d;
    } ≡ connectivity_of v
connectivity_is v z b d p q r = simp (p, q, r)
