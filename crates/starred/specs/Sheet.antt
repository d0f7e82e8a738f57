-- The starred lines of document 01's bench sheet as one table, in the sheet's order and with its words: what a definition says, and what the sheet states.
-- Assumes nothing.
use Rattle.std.specs.Prelude.{◌≡◌, true, List, [], ◌∷◌, ℕ}
use Rattle.refusal.specs.Answer.{Answer, given, refused, then_do}
use Rattle.tlv.specs.Limits.{framed}
use Rattle.tlv_rewriting.specs.Rewrite.{rewritten}
use Rattle.tlv_rewriting.specs.declared.Choice.TheVariants.{All}
use Rattle.timestamps.specs.Timestamps.{built, timestamp_bytes}
use Rattle.policy_flags.specs.Threshold.{threshold, with_threshold}
use Rattle.policy_flags.specs.declared.ThreadProtocolVersion.TheVariants.{V1Or2, V5}
use Rattle.change_folds.specs.Fold.{folded}
use Rattle.change_folds.specs.Run.{ran}
use Rattle.network_data.specs.Decode.{decode_network_data}
use Rattle.diag_rules.specs.Rule.{value_of}
use Rattle.starred.specs.Shown.{version_number, entries_shown, routes_shown, children_shown, prefixes_shown}

-- a line: what a definition says of an input, and what the sheet states
pub record Line : Type 0 where
  pub says : Answer (List ℕ)
  pub stated : Answer (List ℕ)

abbrev pub line : (says stated : Answer (List ℕ)) → Line
line a b = record { says = a; stated = b }

abbrev pub Holds : Line → Type 0
Holds l = l.says ≡ l.stated

-- `07 80 00 00 00 00 00 00 01 9F` and what follows it
abbrev pub route : List ℕ → List ℕ
route rest = 0x07 ∷ 0x80 ∷ 0x00 ∷ 0x00 ∷ 0x00 ∷ 0x00 ∷ 0x00 ∷ 0x00 ∷ 0x01 ∷ 0x9F ∷ rest

-- "List `53 45 00 01 01 53 45 03 01 41 53 45 00 01 02`", and the dataset `00 01 09 07 00 00 00`
abbrev pub list : List ℕ
list = 0x53 ∷ 0x45 ∷ 0x00 ∷ 0x01 ∷ 0x01 ∷ 0x53 ∷ 0x45 ∷ 0x03 ∷ 0x01 ∷ 0x41 ∷ 0x53 ∷ 0x45 ∷ 0x00 ∷ 0x01 ∷ 0x02 ∷ []

abbrev pub dataset : List ℕ
dataset = 0x00 ∷ 0x01 ∷ 0x09 ∷ 0x07 ∷ 0x00 ∷ 0x00 ∷ 0x00 ∷ []

abbrev pub sheet : List Line
sheet =
    -- "empty: no entries."
    line (entries_shown (framed 0 [])) (given [])
    -- "`00 00`: one empty entry."
    ∷ line (entries_shown (framed 0 (0x00 ∷ 0x00 ∷ []))) (given (0 ∷ 0 ∷ 2 ∷ 0 ∷ []))
    -- "`03`: 2 at 0."
    ∷ line (entries_shown (framed 0 (0x03 ∷ []))) (refused 2 0 0)
    -- "`03 FF 00`: 2 at 0."
    ∷ line (entries_shown (framed 0 (0x03 ∷ 0xFF ∷ 0x00 ∷ []))) (refused 2 0 0)
    -- "`03 FF 00 01 41` writes back as `03 01 41`."
    ∷ line (rewritten All (0x03 ∷ 0xFF ∷ 0x00 ∷ 0x01 ∷ 0x41 ∷ [])) (given (0x03 ∷ 0x01 ∷ 0x41 ∷ []))
    -- "Seconds 1, ticks 2, authoritative: `00 00 00 00 00 01 00 05`."
    ∷ line (given (timestamp_bytes (record { 0 = built 1 2 true }))) (given (0x00 ∷ 0x00 ∷ 0x00 ∷ 0x00 ∷ 0x00 ∷ 0x01 ∷ 0x00 ∷ 0x05 ∷ []))
    -- "Flags 0x0004 set to `V5`: 0x4000."
    ∷ line (given (with_threshold 0x0004 V5 ∷ [])) (given (0x4000 ∷ []))
    -- "0xE000 set to `V1Or2`: 0xE004, reads `V1Or2`."
    ∷ line (given (with_threshold 0xE000 V1Or2 ∷ version_number (threshold (with_threshold 0xE000 V1Or2)) ∷ [])) (given (0xE004 ∷ version_number V1Or2 ∷ []))
    -- "`07 80 00 00 00 00 00 00 01 9F 24`: router 0 (2, 1, 15), router 63 (0, 2, 4)."
    ∷ line (routes_shown (value_of 5 0 (route (0x24 ∷ [])))) (given (0 ∷ 2 ∷ 1 ∷ 15 ∷ 63 ∷ 0 ∷ 2 ∷ 4 ∷ []))
    -- "With `24` dropped: 4."
    ∷ line (routes_shown (value_of 5 0 (route []))) (refused 4 0 0)
    -- "Child row `81 05 08`: exponent 16, quality 0, ID 261, 4,096 s, receiver on, minimal device."
    ∷ line (children_shown (value_of 16 0 (0x81 ∷ 0x05 ∷ 0x08 ∷ []))) (given (16 ∷ 0 ∷ 261 ∷ 4096 ∷ 1 ∷ 1 ∷ []))
    -- "Network Data `03 03 00 04 FD`: one 4-bit prefix;"
    ∷ line (prefixes_shown (decode_network_data 0 (0x03 ∷ 0x03 ∷ 0x00 ∷ 0x04 ∷ 0xFD ∷ []))) (given (0 ∷ 4 ∷ 0xFD ∷ 0 ∷ 0 ∷ []))
    -- "`03 02 00 04`: 5."
    ∷ line (prefixes_shown (decode_network_data 0 (0x03 ∷ 0x02 ∷ 0x00 ∷ 0x04 ∷ []))) (refused 5 0 0)
    -- "List ... folds to `53 45 03 01 41 53 45 00 01 02`;"
    ∷ line (folded list) (given (0x53 ∷ 0x45 ∷ 0x03 ∷ 0x01 ∷ 0x41 ∷ 0x53 ∷ 0x45 ∷ 0x00 ∷ 0x01 ∷ 0x02 ∷ []))
    -- "on `00 01 09 07 00 00 00` it gives `07 00 03 01 41 00 01 02`.": the list itself, and what it folds to
    ∷ line (ran dataset list) (given (0x07 ∷ 0x00 ∷ 0x03 ∷ 0x01 ∷ 0x41 ∷ 0x00 ∷ 0x01 ∷ 0x02 ∷ []))
    ∷ line (then_do (folded list) (ran dataset)) (given (0x07 ∷ 0x00 ∷ 0x03 ∷ 0x01 ∷ 0x41 ∷ 0x00 ∷ 0x01 ∷ 0x02 ∷ []))
    -- "`53 45 03 01 41 52 4D 03` folds to `52 4D 03`."
    ∷ line (folded (0x53 ∷ 0x45 ∷ 0x03 ∷ 0x01 ∷ 0x41 ∷ 0x52 ∷ 0x4D ∷ 0x03 ∷ [])) (given (0x52 ∷ 0x4D ∷ 0x03 ∷ []))
    ∷ []
