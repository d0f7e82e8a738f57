-- The same by the nesting that is still allowed, three levels at first: the code's own language. `nested_given` (proofs/Turns.antt): the call's text is `list_text`
-- of a nesting of three.
-- Assumes nothing.
use Rattle.std.specs.Prelude.{ℕ, suc, ◌-◌, ◌≤◌, List, ◌++◌, length, drop, eqb}
use Rattle.refusal.specs.Answer.{pick}
use Rattle.tlv.specs.Entries.{framing}
use Rattle.tlv.specs.Place.{frame_at}
use Rattle.tlv.specs.declared.Frame.{Frame}
use Rattle.tlv.specs.declared.Frame.TheVariants as f
use Rattle.network_framing.specs.Place.{sub_place}
use Rattle.network_framing.specs.declared.SubTlv.{SubTlv}
use Rattle.network_framing.specs.declared.SubTlv.TheVariants as sub
use Rattle.nested_listing.specs.Tree.{Items, none, cut, item_line, lines}
use Rattle.nested_listing.specs.Nested.{tlvs, second_holds, first_holds, payload}
use Rattle.nested_listing.specs.declared.Held.{Held}
use Rattle.nested_listing.specs.declared.Held.TheVariants as h

-- an entry; one that is cut short ends the list, since the payload's count has refused it
abbrev pub as_entry : Frame → Frame
as_entry (f.Entry t a n) = f.Entry t a n
as_entry f.Cut = f.End
as_entry f.End = f.End

-- a TLV of Network Data
abbrev pub as_tlv : SubTlv → Frame
as_tlv (sub.Item t a n) = f.Entry t a n
as_tlv sub.Cut = f.Cut
as_tlv sub.End = f.End

-- what stands at a place of a list
unfoldable pub item_at : (nesting : ℕ) → List ℕ → (at : ℕ) → Frame
item_at k s at = pick (eqb k 3) (as_entry (frame_at s at)) (as_tlv (sub_place s at (length s)))

-- the list that an item holds
unfoldable pub held_of : (nesting ty : ℕ) → List ℕ → Items
held_of k t v = pick (eqb k 3) (first_holds t v) (pick (eqb k 2) (second_holds t v) none)

-- the list that stands in s
unfoldable pub list_of : (nesting : ℕ) → List ℕ → Items
list_of k s = pick (eqb k 3) (payload (framing s).entries) (tlvs (held_of k) s)

-- what the code found that an item holds: the list stands in the value from a place on
abbrev pub held_by : (nesting : ℕ) → List ℕ → Held → Items
held_by k v h.Nothing = none
held_by k v h.Cut = cut
held_by k v (h.List a) = list_of (k - 1) (drop a v)

-- what the code needs to print it: a level for it, and a place within the value
abbrev pub Opens : (nesting : ℕ) → List ℕ → Held → Type 0
Opens k v h.Nothing = Unit {0}
Opens k v h.Cut = 2 ≤ k
Opens k v (h.List a) = (2 ≤ k) × (a ≤ length v)

-- their lines
unfoldable pub list_text : (nesting : ℕ) → List ℕ → List ℕ
list_text k s = lines (3 - k) (list_of k s)

unfoldable pub item_text : (nesting ty : ℕ) → List ℕ → List ℕ
item_text k t v = item_line (3 - k) t (length v) ++ lines (suc (3 - k)) (held_of k t v)
