-- The numbers that `pair` writes say what was said: no list has the number of one of the two other answers, since a payload has few entries.
-- Assumes nothing.
use mathlib.Core.Path.{◌≡◌, refl, sym, ap, ◌∙◌}
use mathlib.Core.List.{List, [], ◌∷◌, map}
use Prim.Native.Nat.{ℕ, ◌≤◌}
use native.Mathlib.Omega.{arith}
use lib.Dec.{eqb}
use lib.ListN.{length, length-map}
use Rattle.refusal.specs.Sizes.{most_bytes, most_entries}
use Rattle.refusal.specs.Answer.{Answer, given, absent, refused, then_do, on_given}
use Rattle.refusal.specs.Every.{Every}
use Rattle.laws.proofs.Tests.{pick_all}
use Rattle.tlv.specs.Entries.{Entry, framing}
use Rattle.tlv.specs.Limits.{framed}
use Rattle.tlv.proofs.Tally.{only}
use Rattle.tlv.proofs.Whole.{framed_whole}
use Rattle.refusal.specs.Numbered.{nth}
use Rattle.diag_entries.specs.Parts.{all_of}
use Rattle.diag_entries.specs.Checked.{checked}
use Rattle.diag_entries.specs.Lists.{AddressList, address_list, address_lists}
use Rattle.diag_entries.proofs.Checks.{checked_given}
use Rattle.pair_rule.specs.Codes.{code_unclear, code_of, meant}
use Rattle.pair_rule.specs.Pairing.{pairing}
use Rattle.pairing.specs.Payload.{row_ids, list_rlocs, own_mac, pairings, paired, codes, row_pairing}
use Rattle.pair_rule.specs.declared.Pairing.{Pairing}
use Rattle.pair_rule.specs.declared.Pairing.TheVariants as p
use Rattle.pair_rule.proofs.Back.{Below, codes_back}
use Rattle.pairing.proofs.Rowed.{nth_map}
use Rattle.pair_rule.proofs.Sense.{paired_is}
use Rattle.pairing.proofs.Payloads.{framed_by}

-- ---- the lists of a payload are no more than its entries, and those are few
few_lists : (es : List Entry) → length (all_of 30 es) ≤ length es
unfolding all_of
few_lists [] = omega arith
few_lists (e ∷ es) =
    pick_all (λ (l : List Entry). length l ≤ length (e ∷ es)) (eqb e.ty 30) (e ∷ all_of 30 es) (all_of 30 es)
    (λ t. omega (arith, few_lists es)) (λ t. omega (arith, few_lists es))

few_entries : (s : List ℕ) → checked s ≡ given (framing s).entries → length (framing s).entries ≤ most_entries
unfolding checked framed
few_entries s is = (framed_whole most_bytes most_entries 0 s (framing s).entries (framed_by (framing s).entries (framing s).entries (framed 0 s) (only 0 s) is)).few

-- ---- so every pair has a list of a small number
below_by : (own : Answer ℕ) (rows lists : List ℕ) (id : ℕ) → length lists ≤ code_unclear → Below code_unclear (pairing own rows lists id)
below_by own rows lists id few = by_answer (pairing own rows lists id) refl
  where
    by_answer : (x : Pairing) → pairing own rows lists id ≡ x → Below code_unclear x
    by_answer (p.Paired k) e = let low = (paired_is rows lists id own k e).number in omega arith
    by_answer p.None e = tt
    by_answer p.Unclear e = tt

all_below : (own : Answer ℕ) (rows lists ids : List ℕ) → length lists ≤ code_unclear → Every (Below code_unclear) (map (pairing own rows lists) ids)
all_below own rows lists [] few = tt
all_below own rows lists (id ∷ ids) few = (below_by own rows lists id few, all_below own rows lists ids few)

lists_below : (es : List Entry) → length es ≤ most_entries → length (list_rlocs es) ≤ code_unclear
unfolding list_rlocs address_lists
lists_below es h = omega (arith, length-map (address_lists es) (λ (l : AddressList). l.rloc16), length-map (all_of 30 es) address_list, few_lists es)

-- THE CODES of a payload mean its pairings
pub codes_mean : (s : List ℕ) → on_given (λ (cs : List ℕ). map meant cs) (codes s) ≡ paired s
unfolding codes paired pairings
codes_mean s = by_check (checked s) refl
  where
    by_check : (a : Answer (List Entry)) → checked s ≡ a
        → on_given (λ (cs : List ℕ). map meant cs) (on_given (λ (ps : List Pairing). map code_of ps) (on_given pairings a)) ≡ on_given pairings a
    by_check (given es) e =
        let all = (checked_given s (length es) (sym (ap (on_given length) e))).0 in
        let same : (framing s).entries ≡ es = let both = sym all ∙ e in cc in
        let few = rw same at (few_entries s all) in
        ap given (codes_back (pairings es) (all_below (own_mac es) (row_ids es) (list_rlocs es) (row_ids es) (lists_below es few)))
    by_check absent e = refl
    by_check (refused n q i) e = refl

-- and the number that stands for row k is the one for what `pair_row` says of it
pub code_of_row : (s : List ℕ) (k : ℕ) → then_do (codes s) (λ (cs : List ℕ). nth cs k) ≡ on_given code_of (row_pairing k s)
unfolding codes row_pairing
code_of_row s k = by_answer (paired s)
  where
    by_answer : (a : Answer (List Pairing))
        → then_do (on_given (λ (ps : List Pairing). map code_of ps) a) (λ (cs : List ℕ). nth cs k) ≡ on_given code_of (then_do a (λ (ps : List Pairing). nth ps k))
    by_answer (given ps) = nth_map code_of ps k
    by_answer absent = refl
    by_answer (refused n q i) = refl
