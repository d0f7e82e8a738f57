-- How large an answer can be. `report_short`: what the program `list` prints has at most `report_bytes` bytes; `report_written`: so that it always prints.
-- And `hex_refuses`: a text is never refused with 11, which is left for the room. All but the last section is for any listing.
-- Assumes nothing.
use mathlib.Core.Path.{◌≡◌, sym, subst}
use mathlib.Core.List.{List, [], ◌∷◌, ◌++◌}
use Prim.Native.Nat.{ℕ, ◌+◌, ◌*◌, ◌%◌, ◌≤◌, ◌<◌}
use native.Mathlib.Omega.{arith}
use lib.ListN.{length, length-append, drop}
use lib.Dec.{ltb, eqb}
use borrow.Author.Tests.{le-ltb, ltb-true, ltb-false, eqb-true, eqb-false}
use Rattle.refusal.specs.Sizes.{most_bytes, most_entries, most_digits}
use Rattle.refusal.specs.Answer.{Answer, given, absent, refused, then_do, on_given}
use Rattle.refusal.specs.Output.{output, emit}
use Rattle.laws.proofs.Tests.{by_test, pick_all}
use Rattle.refusal.specs.Every.{Every, Bytes}
use Rattle.tlv.specs.Entries.{Entry, Stop, clean, cut_at, framing}
use Rattle.tlv.specs.Limits.{place_of_next, limited, framed}
use Rattle.base16.specs.Base16.{decoded}
use Rattle.base16.specs.Loops.{is_digit, all_digits, first_bad, paired}
use Rattle.base16.proofs.RoundTrips.{decoded_fits, decoded_bytes}
use Rattle.base16.proofs.Decodes.{decoded_large, decoded_odd, decoded_bad, decoded_good}
use Rattle.text_writing.proofs.Decimals.{length_below}
use Rattle.listing.specs.Listing.{pair_line, entry_lines, listing, listed, listed_hex, hex_by, line_of, told, report_by, report, report_bytes}
use Rattle.listing.proofs.Lines.{line_below, length_listing}
use Rattle.tlv.proofs.Fits.{Fits, Stops, framing_fits, place_within}
use Rattle.listing.proofs.Reports.{length_refused}

-- G of what is given; and a refusal is not 11, at a place within any input
abbrev pub Bounded : {A : Type 0} → (A → Type 0) → Answer A → Type 0
Bounded G (given a) = G a
Bounded G absent = Unit {0}
Bounded G (refused n p i) = (n < 11) × (p ≤ most_digits)

then_bounded : {A B : Type 0} (G : A → Type 0) (H : B → Type 0) (a : Answer A) (f : A → Answer B)
    → Bounded G a → ((x : A) → G x → Bounded H (f x)) → Bounded H (then_do a f)
then_bounded G H (given x) f g h = h x g
then_bounded G H absent f g h = tt
then_bounded G H (refused n p i) f g h = g

on_bounded : {A B : Type 0} (G : A → Type 0) (H : B → Type 0) (a : Answer A) (f : A → B)
    → Bounded G a → ((x : A) → G x → H (f x)) → Bounded H (on_given f a)
on_bounded G H (given x) f g h = h x g
on_bounded G H absent f g h = tt
on_bounded G H (refused n p i) f g h = g

-- ---- hex text

abbrev pub Decodes : List ℕ → Type 0
Decodes bs = (length bs ≤ most_bytes) × Bytes bs

bad_within : (at : ℕ) (x : List ℕ) → first_bad at x ≤ at + length x
unfolding first_bad
bad_within at [] = omega arith
bad_within at (c ∷ x) =
    pick_all (λ (k : ℕ). k ≤ at + length (c ∷ x)) (is_digit c) (first_bad (at + 1) x) at
    (λ e. omega (arith, bad_within (at + 1) x)) (λ e. omega arith)

decoded_bounded : (x : List ℕ) → Bounded Decodes (decoded x)
decoded_bounded x =
    by_test (ltb most_digits (length x))
    (λ e. subst (Bounded Decodes) (decoded_large x (ltb-true _ _ e)) (omega arith, omega arith))
    (λ e. let small = ltb-false _ _ e in
    by_test (eqb (length x % 2) 1)
    (λ o. subst (Bounded Decodes) (decoded_odd x small (eqb-true _ _ o)) (omega arith, omega arith))
    (λ o. let even = eqb-false _ _ o in
    by_test (all_digits x)
    (λ g. let good = decoded_good x small even g in
    subst (Bounded Decodes) (sym good) (decoded_fits x (paired x) good, decoded_bytes x (paired x) good))
    (λ b. subst (Bounded Decodes) (decoded_bad x small even b) (omega arith, omega (arith, bad_within 0 x)))))

-- ---- entries

-- what is listed
abbrev pub Listable : List Entry → Type 0
Listable es = (length es ≤ most_entries) × Every (Fits most_bytes) es

limited_bounded : (st : Stop) (es : List Entry) → Stops most_bytes st → Every (Fits most_bytes) es → Bounded Listable (limited most_entries 0 st es)
unfolding limited
limited_bounded (cut_at p) es k f = (omega arith, omega arith)
limited_bounded clean es k f =
    pick_all (Bounded Listable) (ltb most_entries (length es)) (refused 3 (place_of_next most_entries es) 0) (given es)
    (λ e. (omega arith, omega (arith, place_within most_bytes most_entries es f))) (λ e. (ltb-false _ _ e, f))

pub framed_bounded : (s : List ℕ) → Decodes s → Bounded Listable (framed 0 s)
unfolding framed
framed_bounded s d =
    let f = framing_fits s most_bytes d.1 d.0 in
    pick_all (Bounded Listable) (ltb most_bytes (length s)) (refused 1 0 0) _
    (λ e. (omega arith, omega arith)) (λ e. limited_bounded (framing s).stop (framing s).entries f.1 f.0)

-- ---- what a program prints, by a bound on what it lists

abbrev pub AtMost : ℕ → List ℕ → Type 0
AtMost most text = length text ≤ most

-- the line of a refusal has at most 17 bytes
told_short : (most : ℕ) → 17 ≤ most → (a : Answer (List ℕ)) → Bounded (AtMost most) a → AtMost most (told a)
unfolding told
told_short most room (given t) b = b
told_short most room absent b = omega arith
told_short most room (refused n p i) b = omega (arith, length_refused n p, line_below 1 4 n p (omega arith) (omega arith))

module _ (most : ℕ) (lists : List ℕ → Answer (List ℕ)) (bounded : (bs : List ℕ) → Decodes bs → Bounded (AtMost most) (lists bs)) where
  text_bounded : (x : List ℕ) → Bounded (AtMost most) (hex_by lists x)
  unfolding hex_by
  text_bounded x = then_bounded Decodes (AtMost most) (decoded x) lists (decoded_bounded x) bounded

  pub text_refuses : (x : List ℕ) (n p i : ℕ) → hex_by lists x ≡ refused n p i → n < 11
  text_refuses x n p i e = (subst (Bounded (AtMost most)) e (text_bounded x)).0

  module _ (room : 17 ≤ most) (x : List ℕ) where
    pub text_short : length (report_by lists x) ≤ most
    unfolding report_by
    text_short = told_short most room (hex_by lists (line_of x)) (text_bounded (line_of x))

    pub text_written : (out : List ℕ) → most ≤ length out
        → emit (given (report_by lists x)) out ≡ output (given (length (report_by lists x))) (report_by lists x ++ drop (length (report_by lists x)) out)
    unfolding emit
    text_written out h = simp (le-ltb (length out) (length (report_by lists x)) (omega (arith, text_short)))

-- ---- the flat listing

-- a line has at most 3 digits, a space, 5 digits and a newline
lines_short : (es : List Entry) → Every (Fits most_bytes) es → length (entry_lines es) ≤ 10 * length es
unfolding entry_lines
lines_short [] f = omega arith
lines_short (e ∷ es) f =
    let line = line_below 2 4 e.ty (length e.value) (omega arith) (omega arith) in
    omega (arith, length-append (pair_line e.ty (length e.value)) (entry_lines es), lines_short es f.1)

listing_short : (es : List Entry) → Listable es → AtMost report_bytes (listing es)
listing_short es l = omega (arith, length_listing es, length_below 2 (length es) (omega arith), lines_short es l.1)

listed_bounded : (bs : List ℕ) → Decodes bs → Bounded (AtMost report_bytes) (listed bs)
unfolding listed
listed_bounded bs d = on_bounded Listable (AtMost report_bytes) (framed 0 bs) listing (framed_bounded bs d) listing_short

pub hex_refuses : (x : List ℕ) (n p i : ℕ) → listed_hex x ≡ refused n p i → n < 11
hex_refuses = text_refuses report_bytes listed listed_bounded

-- THE BOUND of what the program prints
pub report_short : (x : List ℕ) → length (report x) ≤ report_bytes
report_short = text_short report_bytes listed listed_bounded (omega arith)

pub report_written : (x out : List ℕ) → report_bytes ≤ length out
    → emit (given (report x)) out ≡ output (given (length (report x))) (report x ++ drop (length (report x)) out)
report_written = text_written report_bytes listed listed_bounded (omega arith)
