-- The parts of a dataset that are handed out: "A query uses the last entry of its type" (document 01), 1, 2, 3 before the value's own fault at
-- the entry's place.
-- Assumes nothing.
use Rattle.std.specs.Prelude.{ℕ, List, [], ◌∷◌, length}
use Rattle.refusal.specs.Answer.{Answer, then_do, on_given}
use Rattle.tlv.specs.Entries.{Entry}
use Rattle.tlv_last.specs.Last.{last_entry}
use Rattle.channel_masks.specs.Mask.{items, Masked}
use Rattle.plain_values.specs.Plain.{name_at}
pub use Rattle.dataset_parts.specs.declared.MaskSpot.{MaskSpot}

-- the Rust's numbers of the two types: the name, the mask
abbrev pub part_types : List ℕ
part_types = 0x03 ∷ 0x35 ∷ []

-- the entry of the network name (type 3), where its value is one
unfoldable pub name_entry : List ℕ → Answer Entry
name_entry s = then_do (last_entry 3 0 s) (λ (e : Entry). on_given (λ (v : List ℕ). e) (name_at e.place e.value))

-- what f makes of the channel mask's entry (type 53) and its items, where they are whole
abbrev pub mask_as : {A : Type 0} → (Entry → List Masked → A) → List ℕ → Answer A
mask_as f s = then_do (last_entry 53 0 s) (λ (e : Entry). on_given (f e) (items e.place e.value))

-- the entry
unfoldable pub mask_entry : List ℕ → Answer Entry
mask_entry s = mask_as (λ (e : Entry) (is : List Masked). e) s

abbrev pub mask_at : (place start len items : ℕ) → MaskSpot
mask_at p a n k = record { place = p; start = a; len = n; items = k }

unfoldable pub mask_spot : List ℕ → Answer MaskSpot
mask_spot s = mask_as (λ (e : Entry) (is : List Masked). mask_at e.place e.start (length e.value) (length is)) s
