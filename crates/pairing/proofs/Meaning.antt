-- What the answers for the rows of a payload say, for whoever reads them, and what they depend on. The entries es are those of a payload, whose places
-- are nothing to the answers.
-- Assumes nothing.
use mathlib.Core.Path.{◌≡◌, refl, sym, ap, ap₂, ◌∙◌}
use mathlib.Core.List.{List, [], ◌∷◌, ◌++◌, map, map-map, map-append, map_congr_left}
use Prim.Native.Nat.{ℕ}
use native.Mathlib.Omega.{arith}
use lib.ListN.{length, length-map}
use Rattle.refusal.specs.Answer.{Answer, given, absent, refused, on_given}
use Rattle.refusal.specs.Every.{Every}
use Rattle.tlv.specs.Entries.{Entry}
use Rattle.tlv_last.specs.Last.{value_or}
use Rattle.refusal.specs.Numbered.{nth}
use Rattle.diag_rows.specs.Rows.{listed, child_rows, address_list_of}
use Rattle.diag_entries.specs.Parts.{last, all_of}
use Rattle.diag_entries.specs.Checked.{checked}
use Rattle.diag_entries.specs.Lists.{AddressList, address_lists}
use Rattle.pair_rule.specs.Pairing.{occurs, parent_of, child_of, counting, number_of, pairing}
use Rattle.pairing.specs.Payload.{row_ids, list_rlocs, own_mac, pairings, paired, codes}
use Rattle.pair_rule.specs.declared.Pairing.TheVariants as p
use Rattle.pairing.proofs.Ids.{row_id}
use Rattle.pairing.proofs.Rowed.{nth_map}
use Rattle.pair_rule.proofs.Parents.{moved, rule01, no_mac, another_parent, as_before}
use Rattle.pair_rule.proofs.Sense.{Pair, Alone, is_paired, is_none, paired_is, none_is, is_unclear, occurs_twice}

-- ---- one row
module _ (es : List Entry) where
  -- The answer for a row is a function of its child ID: where the row stands is nothing to it.
  pub by_its_id : (k : ℕ) → nth (pairings es) k ≡ on_given (pairing (own_mac es) (row_ids es) (list_rlocs es)) (nth (row_ids es) k)
  unfolding pairings
  by_its_id k = nth_map (pairing (own_mac es) (row_ids es) (list_rlocs es)) (row_ids es) k

  -- So rows with one child ID have one answer,
  pub same_id_same_answer : (i j : ℕ) → nth (row_ids es) i ≡ nth (row_ids es) j → nth (pairings es) i ≡ nth (pairings es) j
  same_id_same_answer i j e = by_its_id i ∙ ap (on_given (pairing (own_mac es) (row_ids es) (list_rlocs es))) e ∙ sym (by_its_id j)

  -- which is "unclear" if they are two.
  pub two_rows_unclear : (i j id : ℕ) → (i ≡ j → ⊥) → nth (row_ids es) i ≡ given id → nth (row_ids es) j ≡ given id
      → (nth (pairings es) i ≡ given p.Unclear) × (nth (pairings es) j ≡ given p.Unclear)
  two_rows_unclear i j id apart h k =
      let twice = occurs_twice id (row_ids es) i j apart h k in
      let says = ap given (is_unclear (own_mac es) (row_ids es) (list_rlocs es) id (λ z. omega arith)) in
      (by_its_id i ∙ ap (on_given (pairing (own_mac es) (row_ids es) (list_rlocs es))) h ∙ says, by_its_id j ∙ ap (on_given (pairing (own_mac es) (row_ids es) (list_rlocs es))) k ∙ says)

  -- A row that is "paired with k" has a child ID that stands exactly once in the table and exactly once among the lists of the payload's own parent,
  -- namely in list k.
  pub paired_once : (i k : ℕ) → nth (pairings es) i ≡ given (p.Paired k) → (id : ℕ) × (nth (row_ids es) i ≡ given id) × Pair (own_mac es) (row_ids es) (list_rlocs es) id k
  paired_once i k h = by_id (nth (row_ids es) i) refl (sym (by_its_id i) ∙ h)
    where
      by_id : (a : Answer ℕ) → nth (row_ids es) i ≡ a → on_given (pairing (own_mac es) (row_ids es) (list_rlocs es)) a ≡ given (p.Paired k)
          → (id : ℕ) × (nth (row_ids es) i ≡ given id) × Pair (own_mac es) (row_ids es) (list_rlocs es) id k
      by_id (given id) e h = (id, e, paired_is (row_ids es) (list_rlocs es) id (own_mac es) k (cc))
      by_id absent e h = absurd (let z : ◌≡◌ {A = ℕ} 0 1 = cc in omega arith)
      by_id (refused n q j) e h = absurd (let z : ◌≡◌ {A = ℕ} 0 1 = cc in omega arith)

  -- A row with "none" has one that stands exactly once in the table and in no list of the payload's own parent.
  pub alone_once : (i : ℕ) → nth (pairings es) i ≡ given p.None → (id : ℕ) × (nth (row_ids es) i ≡ given id) × Alone (own_mac es) (row_ids es) (list_rlocs es) id
  alone_once i h = by_id (nth (row_ids es) i) refl (sym (by_its_id i) ∙ h)
    where
      by_id : (a : Answer ℕ) → nth (row_ids es) i ≡ a → on_given (pairing (own_mac es) (row_ids es) (list_rlocs es)) a ≡ given p.None
          → (id : ℕ) × (nth (row_ids es) i ≡ given id) × Alone (own_mac es) (row_ids es) (list_rlocs es) id
      by_id (given id) e h = (id, e, none_is (row_ids es) (list_rlocs es) id (own_mac es) (cc))
      by_id absent e h = absurd (let z : ◌≡◌ {A = ℕ} 0 1 = cc in omega arith)
      by_id (refused n q j) e h = absurd (let z : ◌≡◌ {A = ℕ} 0 1 = cc in omega arith)

  -- And where that is so, with a MAC Address, these are the answers.
  module _ (i id mac : ℕ) (row : nth (row_ids es) i ≡ given id) (own : own_mac es ≡ given mac) (once : occurs id (row_ids es) ≡ 1) where
    by_mac : nth (pairings es) i ≡ given (pairing (given mac) (row_ids es) (list_rlocs es) id)
    by_mac = by_its_id i ∙ ap (on_given _) row ∙ ap (λ (o : Answer ℕ). given (pairing o (row_ids es) (list_rlocs es) id)) own

    pub once_paired : occurs id (counting mac (list_rlocs es)) ≡ 1 → nth (pairings es) i ≡ given (p.Paired (number_of mac id (list_rlocs es)))
    once_paired h = by_mac ∙ ap given (is_paired mac (row_ids es) (list_rlocs es) id once h)

    pub once_alone : occurs id (counting mac (list_rlocs es)) ≡ 0 → nth (pairings es) i ≡ given p.None
    once_alone h = by_mac ∙ ap given (is_none mac (row_ids es) (list_rlocs es) id once h)

  -- There is an answer for each row, and none without a table.
  pub as_many : length (pairings es) ≡ length (row_ids es)
  unfolding pairings
  as_many = length-map (row_ids es) _

  pub no_table : last 16 es ≡ absent → pairings es ≡ []
  unfolding pairings row_ids child_rows listed
  no_table h = rw h

-- ---- all rows

-- The answers depend on nothing but the rows of the last child table, the last MAC Address, and the address lists, in their order.
abbrev bytes_of : Entry → List ℕ
bytes_of e = e.value

abbrev rloc_in : List ℕ → ℕ
rloc_in v = (address_list_of v).rloc16

rlocs_are : (es : List Entry) → list_rlocs es ≡ map rloc_in (map bytes_of (all_of 30 es))
unfolding list_rlocs address_lists
rlocs_are es = map-map _ _ (all_of 30 es) ∙ sym (map-map _ _ (all_of 30 es))

pub rows_and_lists : (es fs : List Entry) → own_mac es ≡ own_mac fs → value_or (last 16 es) ≡ value_or (last 16 fs)
    → map bytes_of (all_of 30 es) ≡ map bytes_of (all_of 30 fs) → pairings es ≡ pairings fs
unfolding pairings row_ids
rows_and_lists es fs own table lists =
    ap (λ (o : Answer ℕ). map (pairing o (row_ids es) (list_rlocs es)) (row_ids es)) own
    ∙ ap₂ (λ (v : List ℕ) (l : List ℕ). map (pairing (own_mac fs) (map row_id (child_rows v)) l) (map row_id (child_rows v)))
    table (rlocs_are es ∙ ap (map rloc_in) lists ∙ sym (rlocs_are fs))

-- So for two payloads that decode: whatever else is in them, entries of any other type and where all of them stand, is nothing to the answers.
pub same_answers : (s t : List ℕ) (es fs : List Entry) → checked s ≡ given es → checked t ≡ given fs → own_mac es ≡ own_mac fs
    → value_or (last 16 es) ≡ value_or (last 16 fs) → map bytes_of (all_of 30 es) ≡ map bytes_of (all_of 30 fs) → (paired s ≡ paired t) × (codes s ≡ codes t)
unfolding paired codes
same_answers s t es fs h k own table lists = let same = rows_and_lists es fs own table lists in (rw (h, k) (ap given same), rw (h, k) (rw same))

-- ---- whose lists count (document 02, Two)

-- The top six bits of a paired list are the MAC Address's.
pub paired_own : (es : List Entry) (i k : ℕ) → nth (pairings es) i ≡ given (p.Paired k) → on_given parent_of (nth (list_rlocs es) k) ≡ on_given parent_of (own_mac es)
paired_own es i k h =
    let pair = (paired_once es i k h).2 in
    ap (on_given parent_of) pair.there ∙ ap given pair.of_parent ∙ sym (ap (on_given parent_of) pair.named)

-- Without a MAC Address every answer is "unclear", also that of a row that no list has.
pub no_mac_unclear : (es : List Entry) → last 1 es ≡ absent → pairings es ≡ map (λ (id : ℕ). p.Unclear) (row_ids es)
unfolding pairings own_mac
no_mac_unclear es h = rw h (map_congr_left {l = row_ids es} (λ id m. no_mac (row_ids es) (list_rlocs es) id))

-- A list of another parent, or any where there is no MAC Address, may be left out or put in: if two payloads have the same MAC Address, the same rows and
-- the same lists but for one such, v, then every row has the same answer in both, and a pair names the same list (`same_list`), whose number is one more
-- where it stands after v.
moved_all : (own : Answer ℕ) (rows ids x y : List ℕ) (l n : ℕ) → (on_given parent_of own ≡ given (parent_of l) → ⊥) → length x ≡ n
    → map (pairing own rows (x ++ l ∷ y)) ids ≡ map (moved n) (map (pairing own rows (x ++ y)) ids)
moved_all own rows ids x y l n other many =
    rw (← many)
    (map_congr_left {l = ids} (λ id m. another_parent own l other rows x y id)
    ∙ sym (map-map (moved (length x)) (pairing own rows (x ++ y)) ids))

module _ (s t : List ℕ) (es fs : List Entry) (h : checked s ≡ given es) (k : checked t ≡ given fs) (own : own_mac es ≡ own_mac fs)
    (table : value_or (last 16 es) ≡ value_or (last 16 fs)) (x y : List (List ℕ)) (v : List ℕ)
    (with : map bytes_of (all_of 30 es) ≡ x ++ v ∷ y) (without : map bytes_of (all_of 30 fs) ≡ x ++ y)
    (other : on_given parent_of (own_mac fs) ≡ given (parent_of (rloc_in v)) → ⊥) where
  rlocs_with : list_rlocs es ≡ map rloc_in x ++ rloc_in v ∷ map rloc_in y
  rlocs_with = rlocs_are es ∙ ap (map rloc_in) with ∙ map-append rloc_in x (v ∷ y)

  rlocs_without : list_rlocs fs ≡ map rloc_in x ++ map rloc_in y
  rlocs_without = rlocs_are fs ∙ ap (map rloc_in) without ∙ map-append rloc_in x y

  pub another_parents_list : paired s ≡ on_given (map (moved (length x))) (paired t)
  unfolding paired pairings row_ids
  another_parents_list =
      rw (h, k, own, table, rlocs_with, rlocs_without)
      (ap given (moved_all (own_mac fs) (row_ids fs) (row_ids fs) (map rloc_in x) (map rloc_in y) (rloc_in v) (length x) other (length-map x rloc_in)))

-- The child ID by which a list is paired is the one that is decoded of it.
pub child_ids : (es : List Entry) → map child_of (list_rlocs es) ≡ map (λ (l : AddressList). l.child_id) (address_lists es)
unfolding list_rlocs address_lists
child_ids es = ap (map child_of) (map-map _ _ (all_of 30 es)) ∙ map-map _ _ (all_of 30 es) ∙ sym (map-map _ _ (all_of 30 es))

-- Where every list is of the payload's own parent, the answers are what document 01's rule gave.
pub as_01_gave : (es : List Entry) (mac : ℕ) → own_mac es ≡ given mac → Every (λ (l : ℕ). parent_of l ≡ parent_of mac) (list_rlocs es)
    → pairings es ≡ map (rule01 (row_ids es) (map (λ (l : AddressList). l.child_id) (address_lists es))) (row_ids es)
unfolding pairings
as_01_gave es mac own all =
    rw (own, ← child_ids es)
    (map_congr_left {l = row_ids es} (λ id m. as_before mac (row_ids es) (list_rlocs es) id all))
