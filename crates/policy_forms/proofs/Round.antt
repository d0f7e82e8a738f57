-- THE ROUND TRIP, once over both forms: what was written of a policy is read back in its form, and what was read in a form is written back as it was.
-- Assumes nothing.
use mathlib.Core.Path.{◌≡◌, sym, ap, ap₂, ◌∙◌}
use mathlib.Core.List.{List, ◌++◌}
use Prim.Native.Nat.{ℕ, ◌-◌, ◌^◌, ◌≤◌, ◌<◌}
use native.Mathlib.Omega.{arith}
use lib.ListN.{length, take, drop, length-append, length-drop, take-append-drop}
use lib.Seq.{take_at, drop_at, length-take-le}
use Rattle.std.specs.Prelude.{Result, Ok}
use Rattle.refusal.specs.Answer.{given}
use Rattle.refusal.specs.Every.{Bytes}
use Rattle.refusal.specs.Output.{output, emit}
use Rattle.refusal.specs.declared.Refusal.{Refusal}
use Rattle.laws.proofs.Callers.{gave_front}
use Rattle.laws.proofs.Parts.{every_take, every_drop}
use Rattle.wire_bytes.specs.Bytes.{bytes_of}
use Rattle.wire.specs.Be.{be}
use Rattle.wire.proofs.Bes.{ruled_is}
use Rattle.wire.proofs.Round.{be_bytes, bytes_read, length_bytes, be_small}
use Rattle.policy_forms.specs.Forms.{size_in, Numbers, numbers, numbers_of, numbers_in, read, stored_bytes}
use Rattle.policy_forms.specs.declared.PolicyForm.{PolicyForm}
use Rattle.policy_forms.specs.declared.PolicyForm.TheVariants as f
use Rattle.policy_forms.specs.declared.EitherPolicy.{EitherPolicy}
use Rattle.policy_forms.proofs.Modes.{read_is}
use Rattle.policy_forms.proofs.Papers.{either_answer, either_tells}

-- the numbers fit into their bytes, as those of a value of the code's type do
abbrev pub Fit : Numbers → Type 0
Fit n = (n.rotation < 65536) × (n.flags < 256 ^ (n.size - 2))

-- for a form of any size from 2 on
module _ (k place : ℕ) (two : 2 ≤ k) where
  size_is : (r f : ℕ) → length (bytes_of 2 r ++ bytes_of (k - 2) f) ≡ k
  size_is r f = length-append (bytes_of 2 r) (bytes_of (k - 2) f) ∙ rw (length_bytes 2 r, length_bytes (k - 2) f) (omega arith)

  written_reads : (r f : ℕ) → r < 65536 → f < 256 ^ (k - 2) → read k place (stored_bytes (numbers k r f)) ≡ given (numbers k r f)
  unfolding read stored_bytes
  written_reads r f h l =
      let first : r ≡ be (take 2 (bytes_of 2 r ++ bytes_of (k - 2) f)) =
      sym (ap be (take_at (bytes_of 2 r) (bytes_of (k - 2) f) 2 (length_bytes 2 r)) ∙ be_bytes 2 r h) in
      let last : f ≡ be (drop 2 (bytes_of 2 r ++ bytes_of (k - 2) f)) =
      sym (ap be (drop_at (bytes_of 2 r) (bytes_of (k - 2) f) 2 (length_bytes 2 r)) ∙ be_bytes (k - 2) f l) in
      sym (ruled_is (numbers_in k) k place _ (numbers k r f) (size_is r f) (ap₂ (numbers k) first last))

  module _ (v : List ℕ) (n : Numbers) (b : Bytes v) (e : read k place v ≡ given n) where
    first_two : length (take 2 v) ≡ 2
    first_two = let h = (read_is k place v n e).0 in length-take-le 2 v (omega arith)

    the_others : length (drop 2 v) ≡ k - 2
    the_others = let h = (read_is k place v n e).0 in length-drop 2 v ∙ omega arith

    read_writes : stored_bytes n ≡ v
    unfolding stored_bytes
    read_writes =
        let upper = bytes_read 2 (take 2 v) first_two (every_take _ 2 v b) in
        let lower = bytes_read (k - 2) (drop 2 v) the_others (every_drop _ 2 v b) in
        ap stored_bytes (sym (read_is k place v n e).1) ∙ ap₂ ◌++◌ upper lower ∙ take-append-drop 2 v

    read_fits : Fit n
    read_fits =
        let is = (read_is k place v n e).1 in
        rw (← is) (be_small 2 (take 2 v) first_two (every_take _ 2 v b), be_small (k - 2) (drop 2 v) the_others (every_drop _ 2 v b))

two_least : (form : PolicyForm) → 2 ≤ size_in form
two_least f.ThreeBytes = omega arith
two_least f.FourBytes = omega arith

module _ (form : PolicyForm) (place : ℕ) where
  -- "State the round trip once over both forms."
  pub round_trip :
      ((n : Numbers) → n.size ≡ size_in form → Fit n → read (size_in form) place (stored_bytes n) ≡ given n)
      × ((v : List ℕ) (n : Numbers) → Bytes v → read (size_in form) place v ≡ given n → stored_bytes n ≡ v)
  round_trip = (
    λ n h fit. rw (← h) (written_reads n.size place (rw h (two_least form)) n.rotation n.flags fit.0 fit.1),
    read_writes (size_in form) place (two_least form),
  )

  -- of what `write` wrote of a policy, which are the first n bytes of what is left, `parse` in its form answers that policy
  pub parse_back : (x : EitherPolicy) (out left : List ℕ) (n : ℕ) (a : Result EitherPolicy Refusal) → (numbers_of x).size ≡ size_in form → Fit (numbers_of x)
      → output (given n) left ≡ emit (given (stored_bytes (numbers_of x))) out → either_answer a ≡ read (size_in form) place (take n left) → a ≡ Ok x
  parse_back x out left n a same fit wrote says =
      let front = gave_front out left _ n wrote in
      let bytes : stored_bytes (numbers_of x) ≡ take n left = cc in
      either_tells a (Ok x) (says ∙ ap (read (size_in form) place) (sym bytes) ∙ round_trip.0 (numbers_of x) same fit)

  -- of a value v that `parse` answered with the policy x
  module _ (v : List ℕ) (x : EitherPolicy) (says : either_answer (Ok x) ≡ read (size_in form) place v) where
    -- x has the form, and fits
    pub parsed_size : (numbers_of x).size ≡ size_in form
    parsed_size = ap (λ (n : Numbers). n.size) (sym (read_is (size_in form) place v (numbers_of x) (sym says)).1)

    pub parsed_fits : Bytes v → Fit (numbers_of x)
    parsed_fits b = read_fits (size_in form) place (two_least form) v (numbers_of x) b (sym says)

    -- `write` leaves in every output just what the value would
    pub write_back : Bytes v → (out : List ℕ) → emit (given (stored_bytes (numbers_of x))) out ≡ emit (given v) out
    write_back b out = ap (λ (bs : List ℕ). emit (given bs) out) (round_trip.1 v (numbers_of x) b (sym says))

-- ---- for the code: what is written of a policy, by the case that it is
pub written_as : (bs : List ℕ) (x y : EitherPolicy) (out : List ℕ) → bs ≡ stored_bytes (numbers_of y) → x ≡ y
    → emit (given bs) out ≡ emit (given (stored_bytes (numbers_of x))) out
written_as bs x y out e is = rw (e, is)
