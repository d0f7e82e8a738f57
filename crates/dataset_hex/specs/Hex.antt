-- Datasets to and from hex text.
-- Assumes nothing.
use Rattle.std.specs.Prelude.{ℕ, List}
use Rattle.refusal.specs.Answer.{Answer, then_do, on_given}
use Rattle.tlv.specs.Entries.{Entry}
use Rattle.tlv.specs.Limits.{framed}
use Rattle.tlv_rewriting.specs.Rewrite.{rewritten}
use Rattle.tlv_rewriting.specs.declared.Choice.TheVariants.{All}
use Rattle.hex_text.specs.HexText.{hex_text}
use Rattle.base16.specs.Base16.{decoded}

-- the text of a dataset, written afresh: 1, 2, 3
unfoldable pub hex_of : List ℕ → Answer (List ℕ)
hex_of s = on_given hex_text (rewritten All s)

-- the bytes of a dataset as they are, where they are well-formed: 1, 2, 3
unfoldable pub well_framed : List ℕ → Answer (List ℕ)
well_framed s = on_given (λ (es : List Entry). s) (framed 0 s)

-- the same of hex text: 1, 7, 8, then 2, 3, whose places "count decoded bytes"
unfoldable pub from_hex : List ℕ → Answer (List ℕ)
from_hex x = then_do (decoded x) well_framed
