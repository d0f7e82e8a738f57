-- What the private functions promise: no public contract cites it.
-- Assumes nothing.
use Rattle.std.specs.Prelude.{ℕ, List, length}
use Rattle.refusal.specs.Answer.{Answer}
use Rattle.tlv.specs.Entries.{Content}
use Rattle.tlv_writing.specs.Encode.{encode_all}
use Rattle.tlv_rewriting.specs.Rewrite.{added, changed}
use Rattle.tlv_rewriting.specs.declared.Choice.{Choice}
use Rattle.tlv_rewriting.specs.declared.Extent.{Extent}

-- how many bytes entries take as they are written, and how many they are
abbrev pub extent_of : List Content → Extent
extent_of cs = record { bytes = length (encode_all cs); entries = length cs }

-- the entries that are kept and one more at the end: `with_set` and `with_pushed` are this for two choices
unfoldable pub with_added : Choice → (ty : ℕ) → (value : List ℕ) → List ℕ → Answer (List ℕ)
with_added c t v s = changed (added c t v) v s
