-- When the operations of a change list are given: it is within the limits and read to its end.
-- Assumes nothing.
use mathlib.Core.Path.{◌≡◌, refl, subst}
use mathlib.Core.List.{List}
use Prim.Native.Nat.{ℕ, ◌≤◌}
use lib.Dec.{ltb}
use lib.ListN.{length}
use borrow.Author.Tests.{le-ltb, ltb-false}
use Rattle.refusal.specs.Sizes.{most_bytes, most_entries}
use Rattle.refusal.specs.Answer.{Answer, given, refused}
use Rattle.laws.proofs.Tests.{pick_all}
use Rattle.tlv.specs.Entries.{Stop, clean, cut_at}
use Rattle.tlv.proofs.Whole.{Whole, IfGiven}
use Rattle.change_lists.specs.Operations.{OpAt, ops_of, limited_ops, operations_within, operations}

-- for any sizes
module _ (bytes most i : ℕ) (s : List ℕ) where
  abbrev Given : Answer (List OpAt) → Type 0
  Given = IfGiven bytes most s (ops_of s).stop (ops_of s).ops

  limited_whole : (st : Stop) → (ops_of s).stop ≡ st → length s ≤ bytes → Given (limited_ops most i st (ops_of s).ops)
  unfolding limited_ops
  limited_whole (cut_at p) e h = tt
  limited_whole clean e h =
      pick_all Given (ltb most (length (ops_of s).ops)) _ (given (ops_of s).ops) (λ t. tt)
      (λ t. record { short = h; few = ltb-false _ _ t; uncut = e; are = refl })

  pub operations_whole : (os : List OpAt) → operations_within bytes most i s ≡ given os → Whole bytes most s (ops_of s).stop (ops_of s).ops os
  operations_whole os e =
      subst Given e (pick_all Given (ltb bytes (length s)) (refused 1 0 i) _ (λ t. tt) (λ t. limited_whole (ops_of s).stop refl (ltb-false _ _ t)))

-- and for today's
abbrev pub Read : (s : List ℕ) → List OpAt → Type 0
Read s os = Whole most_bytes most_entries s (ops_of s).stop (ops_of s).ops os

pub was_given : (i : ℕ) (s : List ℕ) (os : List OpAt) → operations i s ≡ given os → Read s os
unfolding operations
was_given i s os e = operations_whole most_bytes most_entries i s os e

pub are_given : (i : ℕ) (s : List ℕ) (os : List OpAt) → Read s os → operations i s ≡ given os
unfolding operations limited_ops
are_given i s os r =
    rw (le-ltb most_bytes (length s) r.short, r.uncut, r.are, le-ltb most_entries (length os) r.few)

pub input_alike : (i j : ℕ) (s : List ℕ) (os : List OpAt) → operations i s ≡ given os → operations j s ≡ given os
input_alike i j s os e = are_given j s os (was_given i s os e)
