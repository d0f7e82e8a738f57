-- Child IDs one by one, as the loops meet them: those of rows, of lists, and the numbers that are written for rows.
-- Assumes nothing.
use mathlib.Core.Path.{◌≡◌, refl, sym, ap, ◌∙◌}
use mathlib.Core.List.{List, [], ◌∷◌}
use mathlib.Core.Bool.{true, false}
use Prim.Native.Nat.{ℕ, suc, ◌+◌, ◌*◌, ◌/◌, ◌%◌, ◌≤◌, ◌<◌}
use native.Mathlib.Omega.{arith}
use native.Mathlib.Numerals.{add-one}
use lib.ListN.{length, set, drop, drop_of_length-le}
use lib.Seq.{drop-cons}
use lib.Dec.{eqb, ltb}
use borrow.Author.Tests.{eq-eqb, ne_eqb, ltb-true, ltb-false}
use Rattle.refusal.specs.Sizes.{most_bytes}
use Rattle.refusal.specs.Answer.{Answer, given, absent, refused, then_do, on_given}
use Rattle.refusal.specs.Output.{put}
use Rattle.refusal.specs.Results.{answer_of, option_of}
use Rattle.refusal.specs.declared.Refusal.{Refusal}
use Rattle.std.specs.Prelude.{Result, Ok, Err}
use Rattle.std.specs.Result.{result_ok}
use Rattle.laws.proofs.Tests.{by_test}
use Rattle.laws.proofs.Puts.{put_byte}
use Rattle.tlv.specs.Entries.{Entry}
use Rattle.wire.specs.Be.{be, wrong_length, ruled, fixed}
use Rattle.diag_rules.specs.Rule.{value_of}
use Rattle.refusal.specs.Numbered.{nth}
use Rattle.diag_rows.specs.Rows.{child_at, child_rows, address_list_of}
use Rattle.diag_rows.specs.declared.ChildTableEntry.{ChildTableEntry}
use Rattle.diag_rows.specs.declared.ChildIpv6AddrInfo.{ChildIpv6AddrInfo}
use Rattle.diag_rules.proofs.Kept.{value_cases}
use Rattle.diag_entries.specs.Parts.{all_of}
use Rattle.pairing.specs.Loops.{or_zero, own_in, is_own, row_id_at, rows_of, list_rloc_of, lists_of, key_of, keys_of, code_by, codes_by}
use Rattle.pairing.proofs.Rowed.{listed_length, listed_at, drop_map, nth_in, nth_out}

-- ---- what `child_row` and `decode_child_ipv6_addresses` answered
abbrev pub row_of : List ℕ → ℕ → Answer ChildTableEntry
row_of v k = then_do (value_of 16 0 v) (λ (w : List ℕ). nth (child_rows w) k)

abbrev pub row_id : ChildTableEntry → ℕ
row_id r = r.child_id

abbrev list_rloc : ChildIpv6AddrInfo → ℕ
list_rloc x = x.rloc16

module _ (v : List ℕ) (k : ℕ) where
  pub row_id_by : (a : Answer ChildTableEntry) → a ≡ row_of v k → or_zero (on_given row_id a) ≡ row_id_at v k
  unfolding row_id_at
  row_id_by a e = ap (λ (x : Answer ChildTableEntry). or_zero (on_given row_id x)) e

  pub row_id_low : (r : ChildTableEntry) → given r ≡ row_of v k → r.child_id < 512
  unfolding child_rows
  row_id_low r =
      value_cases 16 0 v (λ (a : Answer (List ℕ)). given r ≡ then_do a (λ (w : List ℕ). nth (child_rows w) k) → r.child_id < 512)
      (λ e. by_test (ltb k (length v / 3))
      (λ t. let same = e ∙ nth_in (λ (j : ℕ). child_at v (j * 3)) (length v / 3) k (ltb-true _ _ t) in
      let row : r ≡ child_at v (k * 3) = cc in
      omega (arith, ap row_id row))
      (λ t. let none = e ∙ nth_out (λ (j : ℕ). child_at v (j * 3)) (length v / 3) k (ltb-false _ _ t) in
      absurd (let z : ◌≡◌ {A = ℕ} 0 1 = cc in omega arith)))
      (λ n p i e. absurd (let z : ◌≡◌ {A = ℕ} 0 1 = cc in omega arith))

pub list_rloc_by : (v : List ℕ) (a : Answer ChildIpv6AddrInfo) → a ≡ on_given address_list_of (value_of 30 0 v) → or_zero (on_given list_rloc a) ≡ list_rloc_of v
unfolding list_rloc_of
list_rloc_by v a e = ap (λ (x : Answer ChildIpv6AddrInfo). or_zero (on_given list_rloc x)) e

-- what `read_u16` answered: a number, or a refusal
pub own_by : (v : List ℕ) (r : Result ℕ Refusal) → answer_of r ≡ fixed 2 0 v → option_of (result_ok r) ≡ own_in v
unfolding own_in fixed ruled wrong_length
own_by v r =
    by_test (eqb (length v) 2)
    (λ t. rw t (read r))
    (λ t. rw t (by_test (ltb most_bytes (length v)) (λ b. rw b (kept r 1 0 0)) (λ b. rw b (kept r 4 0 0))))
  where
    read : (r : Result ℕ Refusal) → answer_of r ≡ given (be v) → option_of (result_ok r) ≡ given (be v)
    read (Ok x) e = e
    read (Err q) e = absurd (let z : ◌≡◌ {A = ℕ} 0 1 = cc in omega arith)

    kept : (r : Result ℕ Refusal) (n p i : ℕ) → answer_of r ≡ refused n p i → option_of (result_ok r) ≡ absent
    kept (Ok x) n p i e = absurd (let z : ◌≡◌ {A = ℕ} 0 1 = cc in omega arith)
    kept (Err q) n p i e = refl

-- ---- the rows
module _ (v : List ℕ) where
  pub rows_length : length (rows_of v) ≡ length v / 3
  unfolding rows_of
  rows_length = listed_length (row_id_at v) (length v / 3)

  -- row k and the rows after it
  pub rows_next : (k x : ℕ) → k < length v / 3 → x ≡ row_id_at v k → drop k (rows_of v) ≡ x ∷ drop (k + 1) (rows_of v)
  unfolding rows_of
  rows_next k x h e =
      rw (add-one k, e)
      (drop-cons (rows_of v) k 0 (rw rows_length h) ∙ ap (λ (y : ℕ). y ∷ drop (suc k) (rows_of v)) (listed_at (row_id_at v) (length v / 3) k 0 h))

pub rows_end : (v : List ℕ) (k : ℕ) → length v / 3 ≤ k → drop k (rows_of v) ≡ []
rows_end v k h = let z : length (rows_of v) ≤ k = rw (rows_length v) h in drop_of_length-le (rows_of v) z

-- ---- the numbers for them
module _ (own : Answer ℕ) (rows count place v : List ℕ) (k : ℕ) where
  codes_drop : drop k (codes_by own rows count place (rows_of v)) ≡ codes_by own rows count place (drop k (rows_of v))
  unfolding codes_by
  codes_drop = drop_map (code_by own rows count place) k (rows_of v)

  pub codes_end : length v / 3 ≤ k → drop k (codes_by own rows count place (rows_of v)) ≡ []
  unfolding codes_by
  codes_end h = codes_drop ∙ ap (codes_by own rows count place) (rows_end v k h)

-- a turn that stores one
pub codes_turn : (own : Answer ℕ) (rows count place v out : List ℕ) (k id x : ℕ) → k < length v / 3 → id ≡ row_id_at v k → x ≡ code_by own rows count place id
    → put (set out k x) (k + 1) (drop (k + 1) (codes_by own rows count place (rows_of v))) ≡ put out k (drop k (codes_by own rows count place (rows_of v)))
unfolding codes_by
codes_turn own rows count place v out k id x h e made =
    rw made
    (ap (put (set out k (code_by own rows count place id)) (k + 1)) (codes_drop own rows count place v (k + 1))
    ∙ sym (put_byte out k (code_by own rows count place id) (codes_by own rows count place (drop (k + 1) (rows_of v))))
    ∙ ap (λ (l : List ℕ). put out k (codes_by own rows count place l)) (sym (rows_next v k id h e))
    ∙ ap (put out k) (sym (codes_drop own rows count place v k)))

-- ---- the lists
module _ (l : List Entry) (e : Entry) (es : List Entry) (is : l ≡ e ∷ es) where
  pub lists_hit : e.ty ≡ 30 → (x : ℕ) → x ≡ list_rloc_of e.value → lists_of l ≡ x ∷ lists_of es
  unfolding lists_of all_of
  lists_hit h x k = rw (is, eq-eqb _ _ h, k)

  pub lists_miss : (e.ty ≡ 30 → ⊥) → lists_of l ≡ lists_of es
  unfolding lists_of all_of
  lists_miss h = rw (is, ne_eqb _ _ h)

pub lists_none : (l : List Entry) → l ≡ [] → lists_of l ≡ []
unfolding lists_of all_of
lists_none l h = rw h

-- the child ID that a list counts for, or nobody's
module _ (own : Answer ℕ) (l : List ℕ) where
  pub keys_none : l ≡ [] → keys_of own l ≡ []
  unfolding keys_of
  keys_none h = rw h

  module _ (x : ℕ) (rest : List ℕ) (is : l ≡ x ∷ rest) where
    pub keys_own : is_own own x ≡ true → keys_of own l ≡ x % 512 ∷ keys_of own rest
    unfolding keys_of key_of
    keys_own h = rw (is, h)

    pub keys_other : is_own own x ≡ false → keys_of own l ≡ 512 ∷ keys_of own rest
    unfolding keys_of key_of
    keys_other h = rw (is, h)
