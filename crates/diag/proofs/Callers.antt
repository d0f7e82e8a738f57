-- What a caller of `decode` learns from a record: the entries that were checked, that the record is theirs, and that a part in it is the last value
-- of its type.
-- Assumes nothing.
use mathlib.Core.Path.{◌≡◌, refl, sym, ap, ◌∙◌}
use mathlib.Core.List.{List}
use Prim.Native.Nat.{ℕ, ◌+◌, ◌≤◌}
use native.Mathlib.Omega.{arith}
use lib.ListN.{length, take, drop}
use Rattle.std.specs.Prelude.{Option, Some, None}
use Rattle.refusal.specs.Answer.{Answer, given, absent, refused, on_given}
use Rattle.refusal.specs.Every.{Every}
use Rattle.refusal.specs.Results.{option_of}
use Rattle.tlv.specs.Entries.{Entry, framing}
use Rattle.tlv.proofs.Walks.{Lies}
use Rattle.diag_rows.specs.Rows.{part}
use Rattle.diag_rows.specs.declared.Part.{Part}
use Rattle.diag_entries.specs.Parts.{last, Said, said, last_says, last_part}
use Rattle.diag_entries.specs.Checked.{checked}
use Rattle.diag_entries.specs.Answers.{said_at}
use Rattle.diag.specs.Diag.{raw, diag, decode}
use Rattle.diag.specs.Answers.{diag_of}
use Rattle.diag.specs.declared.NetDiagData.{NetDiagData}
use Rattle.diag_entries.proofs.Checks.{Decodes, Fine, fine_checked}
use Rattle.diag_entries.proofs.Sound.{Of}
use Rattle.diag.proofs.Whole.{last_lies}

module _ (s : List ℕ) (r : NetDiagData) where
  given_by : (es : List Entry) (a : Answer (List Entry)) → Fine es a → given (diag_of s r) ≡ on_given diag a
      → (a ≡ given es) × Every Decodes es × (diag_of s r ≡ diag es)
  given_by es (given xs) f e =
      let same : diag_of s r ≡ diag xs = cc in
      (ap given f.0, f.1, same ∙ ap diag f.0)
  given_by es absent f e = absurd (let z : ◌≡◌ {A = ℕ} 0 1 = cc in omega arith)
  given_by es (refused n q i) f e = absurd (let z : ◌≡◌ {A = ℕ} 0 1 = cc in omega arith)

  pub decoded_given : given (diag_of s r) ≡ decode s
      → (checked s ≡ given (framing s).entries) × Every Decodes (framing s).entries × (diag_of s r ≡ diag (framing s).entries)
  unfolding decode
  decoded_given e = given_by (framing s).entries (checked s) (fine_checked s) e

-- a field of the record that is a part
module _ {A : Type 0} (f : List ℕ → A) (s : List ℕ) (ty : ℕ) (x : Option Part) (is : on_given (said_at f s) (option_of x) ≡ last_part ty f (framing s).entries) where
  there_by : (a n : ℕ) (y : Answer Entry) → Of (Lies s) y → given (said_at f s (part a n)) ≡ on_given (said f) y
      → (a + n ≤ length s) × (on_given (λ (e : Entry). e.value) y ≡ given (take n (drop a s)))
  there_by a n (given e) l h =
      let same : said_at f s (part a n) ≡ said f e = cc in
      rw (ap (λ (z : Said A). z.start) same, ap (λ (z : Said A). z.len) same) (l.1, ap given l.2)
  there_by a n absent l h = absurd (let z : ◌≡◌ {A = ℕ} 0 1 = cc in omega arith)
  there_by a n (refused m q i) l h = absurd l

  pub part_there : (a n : ℕ) → x ≡ Some (part a n) → (a + n ≤ length s) × (last_says ty raw (framing s).entries ≡ given (take n (drop a s)))
  part_there a n e =
      there_by a n (last ty (framing s).entries) (last_lies s ty) (sym (ap (λ (z : Option Part). on_given (said_at f s) (option_of z)) e) ∙ is)

  none_by : (y : Answer Entry) → Of (Lies s) y → absent ≡ on_given (said f) y → y ≡ absent
  none_by (given e) l h = absurd (let z : ◌≡◌ {A = ℕ} 0 1 = cc in omega arith)
  none_by absent l h = refl
  none_by (refused m q i) l h = absurd l

  pub part_absent : x ≡ None → last ty (framing s).entries ≡ absent
  part_absent e = none_by (last ty (framing s).entries) (last_lies s ty) (sym (ap (λ (z : Option Part). on_given (said_at f s) (option_of z)) e) ∙ is)
