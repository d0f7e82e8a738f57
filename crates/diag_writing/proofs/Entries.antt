-- A field as an entry where it is present, and the fields of a record one after the other.
-- Assumes nothing.
use mathlib.Core.Path.{◌≡◌, refl, ap, ◌∙◌, subst}
use mathlib.Core.List.{List, [], ◌∷◌, ◌++◌, append-nil}
use Prim.Native.Nat.{ℕ, ◌+◌, ◌-◌, ◌≤◌}
use native.Mathlib.Nat.{add-sub_cancel_left}
use native.Mathlib.Omega.{arith}
use lib.ListN.{length, take, drop, length-append}
use lib.Seq.{length-take-le}
use Rattle.std.specs.Prelude.{Option, Some, None}
use Rattle.refusal.specs.Sizes.{most_value}
use Rattle.refusal.specs.Answer.{Answer, given, absent, on_given}
use Rattle.laws.proofs.Parts.{length_part}
use Rattle.refusal.specs.Output.{placing}
use Rattle.refusal.specs.Results.{option_of}
use Rattle.tlv_writing.specs.Encode.{header, headed, encode, encode_all, placed_if}
use Rattle.tlv_writing.proofs.Several.{encode_append}
use Rattle.record_writing.specs.Values.{Field, field, entry_for, present}
use Rattle.diag_rows.specs.Rows.{part}
use Rattle.diag_rows.specs.declared.Part.{Part}
use Rattle.route64.specs.declared.Route64.{Route64}
use Rattle.diag.specs.declared.NetDiagData.{NetDiagData}
use Rattle.diag.specs.declared.NetworkDataPart.{NetworkDataPart}
use Rattle.writing_walks.specs.declared.Cursor.{Cursor}
use Rattle.record_writing.specs.Lent.{part_bytes}
use Rattle.diag_writing.specs.Pieces.{field_bytes, fields_bytes, Lies, Short, Counted, first_fields, link_fields, middle_fields, network_header, child_header, before_bytes, between_bytes}
use Rattle.diag_writing.proofs.Wrote.{Wrote, wrote_none, wrote_then, header_wrote}

-- ---- one field, whose bytes f makes of what is given
module _ {A : Type 0} (f : A → List ℕ) (t : ℕ) (q : Answer A) (at : ℕ) (out : List ℕ) where
  module _ (y : A) (v : List ℕ) (told : q ≡ given y) (is : v ≡ f y) where
    given_is : field_bytes t (on_given f q) ≡ encode t v
    unfolding encode_all entry_for
    given_is = rw (told, is) (append-nil (encode t (f y)))

    pub given_room : length (f y) ≤ most_value → at + length (field_bytes t (on_given f q)) ≤ length out
        → (length v ≤ most_value) × (at + length (encode t v) ≤ length out)
    given_room h k = (rw is h, rw given_is at k)

    pub fixed_room : (n : ℕ) → ((z : A) → length (f z) ≡ n) → n ≤ most_value → at + length (field_bytes t (on_given f q)) ≤ length out
        → (length v ≤ most_value) × (at + length (encode t v) ≤ length out)
    fixed_room n size h k = given_room (omega (arith, size y)) k

    pub given_wrote : (next : ℕ) (left : List ℕ) → Wrote out at (encode t v) next left → Wrote out at (field_bytes t (on_given f q)) next left
    given_wrote next left w = rw given_is w

  pub absent_wrote : q ≡ absent → Wrote out at (field_bytes t (on_given f q)) at out
  unfolding encode_all entry_for
  absent_wrote told = rw told (wrote_none out at)

-- ---- a part that lies in the lent bytes, and the first bytes of an array
module _ (s : List ℕ) (q : Answer Part) (a n : ℕ) (told : q ≡ given (part a n)) (lies : Lies s q) where
  part_lies : Lies s (given (part a n))
  part_lies = subst (Lies s) told lies

  pub part_in : a + n ≤ length s
  part_in = part_lies.0

  pub part_short : length (part_bytes s (part a n)) ≤ most_value
  part_short = omega (arith, length_part s a n part_in, part_lies.1)

pub part_is : (s : List ℕ) (a n : ℕ) → take (a + n - a) (drop a s) ≡ part_bytes s (part a n)
part_is s a n = ap (λ (k : ℕ). take k (drop a s)) (add-sub_cancel_left a n)

pub front_is : (bs : List ℕ) (n : ℕ) → take (n - 0) (drop 0 bs) ≡ take n bs
front_is bs n = let e : n - 0 ≡ n = omega arith in rw e

pub front_short : (bs v : List ℕ) (n : ℕ) → take n bs ≡ v → n ≤ length bs → n ≤ most_value → length v ≤ most_value
front_short bs v n e h k = omega (arith, ap length e, length-take-le n bs h)

-- ---- a header, where there is one
module _ (out : List ℕ) (at : ℕ) (xs : List ℕ) where
  pub headed_wrote : (t n next : ℕ) (left : List ℕ) → xs ≡ header t n → n ≤ most_value → at + length xs ≤ length out
      → placing next left ≡ placed_if (headed t n) at out → Wrote out at xs next left
  headed_wrote t n next left e h k told = rw e (header_wrote out at next left t n h (rw e at k) told)

  pub empty_wrote : xs ≡ [] → Wrote out at xs at out
  empty_wrote e = rw e (wrote_none out at)

module _ (x : Option NetworkDataPart) (size : ℕ) where
  pub network_given : (y : NetworkDataPart) → x ≡ Some y → network_header x size ≡ header 7 size
  unfolding network_header
  network_given y e = rw e

  pub network_absent : x ≡ None → network_header x size ≡ []
  unfolding network_header
  network_absent e = rw e

module _ (q : Answer Part) where
  pub child_given : (y : Part) → q ≡ given y → child_header q ≡ header 16 y.len
  unfolding child_header
  child_given y e = rw e

  pub child_absent : q ≡ absent → child_header q ≡ []
  unfolding child_header
  child_absent e = rw e

  pub child_short : (y : Part) → q ≡ given y → Short q → y.len ≤ most_value
  child_short y e h = subst Short e h

  pub routes_counted : (y : Part) (t : Route64) → q ≡ given y → Counted q t → t.count ≤ 64
  routes_counted y t e h = subst (λ (z : Answer Part). Counted z t) e h

-- ---- several
pub fields_none : fields_bytes [] ≡ []
unfolding encode_all present
fields_none = refl

pub fields_more : (t : ℕ) (a : Answer (List ℕ)) (fs : List Field) → fields_bytes (field t a ∷ fs) ≡ field_bytes t a ++ fields_bytes fs
unfolding present
fields_more t a fs = encode_append (entry_for t a) (present fs)

abbrev sizes : List Field → ℕ
sizes [] = 0
sizes (f ∷ fs) = length (field_bytes f.ty f.value) + sizes fs

pub fields_size : (fs : List Field) → length (fields_bytes fs) ≡ sizes fs
fields_size [] = ap length fields_none
fields_size (f ∷ fs) =
    let go = fields_size fs in
    ap length (fields_more f.ty f.value fs) ∙ omega (arith, length-append (field_bytes f.ty f.value) (fields_bytes fs))

pub before_size : (r : NetDiagData) (s : List ℕ) (t : Route64) (size : ℕ)
    → length (before_bytes r s t size)
    ≡ length (fields_bytes (first_fields r s)) + (length (fields_bytes (link_fields r t)) + length (network_header r.network_data size))
before_size r s t size =
    length-append (fields_bytes (first_fields r s)) (fields_bytes (link_fields r t) ++ network_header r.network_data size)
    ∙ rw (length-append (fields_bytes (link_fields r t)) (network_header r.network_data size))

pub between_size : (r : NetDiagData) (s : List ℕ)
    → length (between_bytes r s) ≡ length (fields_bytes (middle_fields r s)) + length (child_header (option_of r.child_table))
between_size r s = length-append (fields_bytes (middle_fields r s)) (child_header (option_of r.child_table))

module _ (out : List ℕ) (at : ℕ) where
  pub wrote_more : (t : ℕ) (a : Answer (List ℕ)) (fs : List Field) (next last : ℕ) (left done : List ℕ)
      → Wrote out at (field_bytes t a) next left → Wrote left next (fields_bytes fs) last done → Wrote out at (fields_bytes (field t a ∷ fs)) last done
  wrote_more t a fs next last left done w v = rw (fields_more t a fs) (wrote_then out at next left (field_bytes t a) (fields_bytes fs) last done w v)

  pub wrote_last : (t : ℕ) (a : Answer (List ℕ)) (next : ℕ) (left : List ℕ) → Wrote out at (field_bytes t a) next left
      → Wrote out at (fields_bytes (field t a ∷ [])) next left
  wrote_last t a next left w = rw (fields_more t a [], fields_none, append-nil (field_bytes t a)) w

-- the cursor before the first prefix
abbrev pub starting : ℕ → Cursor
starting at = record { at = at; route = 0; border = 0 }
