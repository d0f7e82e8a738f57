-- What `list` learns of `tlv::count_entries`: the refusal is its own answer, or all the entries are listed.
-- Assumes nothing.
use mathlib.Core.Path.{◌≡◌}
use mathlib.Core.List.{List}
use Prim.Native.Nat.{ℕ}
use Rattle.refusal.specs.Answer.{given, refused}
use Rattle.tlv.specs.Entries.{framing}
use Rattle.tlv.specs.Limits.{count}
use Rattle.tlv.proofs.Tally.{answers_given, answers_refused}
use Rattle.listing.specs.Listing.{listing, listed}

module _ (s : List ℕ) where
  pub listed_given : (n : ℕ) → given n ≡ count 0 s → listed s ≡ given (listing (framing s).entries)
  unfolding listed
  listed_given n e = answers_given 0 listing s n e

  pub listed_refused : (n p i : ℕ) → refused n p i ≡ count 0 s → refused n p i ≡ listed s
  unfolding listed
  listed_refused n p i e = answers_refused 0 listing s n p i e
