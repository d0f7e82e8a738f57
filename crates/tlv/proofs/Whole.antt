-- What framing gives, for any sizes: all the entries, none cut short, of bytes that are within the sizes; and such bytes are given.
-- Assumes nothing.
use mathlib.Core.Path.{◌≡◌, refl, subst}
use mathlib.Core.List.{List}
use Prim.Native.Nat.{ℕ, ◌≤◌}
use lib.Dec.{ltb}
use lib.ListN.{length}
use borrow.Author.Tests.{le-ltb, ltb-false}
use Rattle.refusal.specs.Answer.{Answer, given, absent, refused}
use Rattle.laws.proofs.Tests.{pick_all}
use Rattle.tlv.specs.Entries.{Entry, Stop, clean, cut_at, framing}
use Rattle.tlv.specs.Limits.{limited, framed_within}

-- of the bytes s, where the items all were found until stop: what was given is all of them, and within the sizes
pub record Whole {A : Type 0} (bytes most : ℕ) (s : List ℕ) (stop : Stop) (all got : List A) : Type 0 where
  pub short : length s ≤ bytes
  pub few : length got ≤ most
  pub uncut : stop ≡ clean
  pub are : all ≡ got

module _ {A : Type 0} (bytes most : ℕ) (s : List ℕ) (stop : Stop) (all : List A) where
  abbrev pub IfGiven : Answer (List A) → Type 0
  IfGiven (given got) = Whole bytes most s stop all got
  IfGiven absent = Unit {0}
  IfGiven (refused n p i) = Unit {0}

module _ (bytes most i : ℕ) (s : List ℕ) where
  abbrev Given : Answer (List Entry) → Type 0
  Given = IfGiven bytes most s (framing s).stop (framing s).entries

  limited_whole : (st : Stop) → (framing s).stop ≡ st → length s ≤ bytes → Given (limited most i st (framing s).entries)
  unfolding limited
  limited_whole (cut_at p) e h = tt
  limited_whole clean e h =
      pick_all Given (ltb most (length (framing s).entries)) _ (given (framing s).entries) (λ t. tt)
      (λ t. record { short = h; few = ltb-false _ _ t; uncut = e; are = refl })

  pub framed_whole : (es : List Entry) → framed_within bytes most i s ≡ given es → Whole bytes most s (framing s).stop (framing s).entries es
  framed_whole es e =
      subst Given e (pick_all Given (ltb bytes (length s)) (refused 1 0 i) _ (λ t. tt) (λ t. limited_whole (framing s).stop refl (ltb-false _ _ t)))

  pub whole_framed : length s ≤ bytes → length (framing s).entries ≤ most → (framing s).stop ≡ clean
      → framed_within bytes most i s ≡ given (framing s).entries
  unfolding limited
  whole_framed h k e = simp (le-ltb _ _ h, e, le-ltb _ _ k)
