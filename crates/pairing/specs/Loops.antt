-- What the private functions promise: no public contract cites it.
-- Assumes nothing.
use Rattle.std.specs.Prelude.{◌≡◌, ℕ, ◌+◌, ◌/◌, ◌<◌, Bool, false, List, [], ◌∷◌, map, length, get_or, eqb}
use Rattle.refusal.specs.Answer.{pick, Answer, given, absent, refused, then_do, on_given}
use Rattle.tlv.specs.Entries.{Entry}
use Rattle.wire.specs.Be.{be}
use Rattle.diag_rules.specs.Rule.{value_of}
use Rattle.refusal.specs.Numbered.{nth}
use Rattle.diag_rows.specs.Rows.{listed, child_rows, address_list_of}
use Rattle.diag_rows.specs.declared.ChildTableEntry.{ChildTableEntry}
use Rattle.diag_rows.specs.declared.ChildIpv6AddrInfo.{ChildIpv6AddrInfo}
use Rattle.diag_entries.specs.Parts.{all_of}
use Rattle.pair_rule.specs.Pairing.{occurs, child_of, counts, judged}
use Rattle.pair_rule.specs.Codes.{code_of}
use Rattle.pair_rule.specs.declared.Pairing.{Pairing}
use Rattle.pair_rule.specs.declared.Pairing.TheVariants as p

-- ---- child IDs and RLOC16s, 0 where a value is refused: that does not occur in a payload that was checked

abbrev pub or_zero : Answer ℕ → ℕ
or_zero (given x) = x
or_zero absent = 0
or_zero (refused n p i) = 0

unfoldable pub row_id_at : (table : List ℕ) → (k : ℕ) → ℕ
row_id_at v k = or_zero (on_given (λ (r : ChildTableEntry). r.child_id) (then_do (value_of 16 0 v) (λ (w : List ℕ). nth (child_rows w) k)))

unfoldable pub rows_of : (table : List ℕ) → List ℕ
rows_of v = listed (row_id_at v) (length v / 3)

unfoldable pub list_rloc_of : List ℕ → ℕ
list_rloc_of v = or_zero (on_given (λ (x : ChildIpv6AddrInfo). x.rloc16) (on_given address_list_of (value_of 30 0 v)))

unfoldable pub lists_of : List Entry → List ℕ
lists_of es = map (λ (e : Entry). list_rloc_of e.value) (all_of 30 es)

-- ---- the payload's own MAC Address, by the value of its last type 1: absent where that has not two bytes

unfoldable pub own_in : (value : List ℕ) → Answer ℕ
own_in v = pick (eqb (length v) 2) (given (be v)) absent

-- ---- where it is absent no list counts, and every row is unclear

unfoldable pub is_own : (own : Answer ℕ) → (list : ℕ) → Bool
is_own (given mac) l = counts mac l
is_own absent l = false
is_own (refused n p i) l = false

unfoldable pub unclear_without : (own : Answer ℕ) → Pairing → Pairing
unclear_without (given mac) x = x
unclear_without absent x = p.Unclear
unclear_without (refused n q i) x = p.Unclear

-- ---- the child ID that a list counts for; 512, which is nobody's, for one that does not count: child IDs have nine bits

unfoldable pub key_of : (own : Answer ℕ) → (list : ℕ) → ℕ
key_of own l = pick (is_own own l) (child_of l) 512

unfoldable pub keys_of : (own : Answer ℕ) → (lists : List ℕ) → List ℕ
keys_of own ls = map (key_of own) ls

-- ---- tables by child ID

-- the place of the last x in ys, the first of which has the place n; or best
unfoldable pub last_place : ℕ → (best n : ℕ) → List ℕ → ℕ
last_place x best n [] = best
last_place x best n (y ∷ ys) = last_place x (pick (eqb y x) n best) (n + 1) ys

-- for each child ID how often it stands in xs, and where it stands last
pub record Counts (table xs : List ℕ) : Type 0 where
  pub is : (i : ℕ) → i < 512 → get_or table i 0 ≡ occurs i xs

pub record Places (table xs : List ℕ) : Type 0 where
  pub is : (i : ℕ) → i < 512 → get_or table i 0 ≡ last_place i 0 0 xs

abbrev pub code_by : (own : Answer ℕ) → (rows count place : List ℕ) → (id : ℕ) → ℕ
code_by own rows count place id = code_of (unclear_without own (judged (get_or rows id 0) (get_or count id 0) (get_or place id 0)))

unfoldable pub codes_by : (own : Answer ℕ) → (rows count place ids : List ℕ) → List ℕ
codes_by own rows count place ids = map (code_by own rows count place) ids
