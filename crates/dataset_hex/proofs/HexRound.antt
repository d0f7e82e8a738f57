-- The hex text of a dataset, read back, is the dataset as it was written.
-- Assumes nothing.
use mathlib.Core.Path.{◌≡◌, sym, ap, ◌∙◌}
use mathlib.Core.List.{List, [], ◌∷◌}
use Prim.Native.Nat.{ℕ, ◌/◌, ◌%◌, ◌<◌}
use native.Mathlib.Omega.{arith}
use native.Mathlib.Nat.{le_refl}
use lib.Dec.{leb}
use lib.ListN.{length}
use borrow.Author.Tests.{leb-true}
use Rattle.refusal.specs.Sizes.{most_short}
use Rattle.refusal.specs.Answer.{given, on_given}
use Rattle.laws.proofs.Tests.{by_test, pick_all}
use Rattle.refusal.specs.Every.{Every, Bytes}
use Rattle.laws.proofs.Parts.{every_append}
use Rattle.tlv.specs.Entries.{Entry, Content, contents}
use Rattle.tlv.specs.Limits.{framed}
use Rattle.tlv_writing.specs.Encode.{header, encode, encode_all}
use Rattle.tlv_rewriting.specs.Rewrite.{keeps_of, kept, rewritten}
use Rattle.tlv_rewriting.specs.declared.Choice.{Choice}
use Rattle.tlv_rewriting.specs.declared.Choice.TheVariants.{All}
use Rattle.tlv.proofs.Tally.{framed_holds}
use Rattle.tlv.proofs.Fits.{Fits, framing_fits}
use Rattle.hex_text.specs.HexText.{hex_text}
use Rattle.base16.proofs.RoundTrips.{decoded_text}
use Rattle.dataset_hex.specs.Hex.{hex_of, well_framed, from_hex}
use Rattle.laws.proofs.Answers.{gives}
use Rattle.dataset_edits.proofs.ReadBack.{rewritten_fits, was_kept}

-- ---- what is written of entries of bytes is bytes

header_bytes : (t n : ℕ) → t < 256 → n < 65536 → Bytes (header t n)
unfolding header
header_bytes t n h k =
    pick_all Bytes (leb n most_short) (t ∷ n ∷ []) (t ∷ 255 ∷ (n / 256) ∷ (n % 256) ∷ [])
    (λ e. (h, (omega (arith, leb-true), tt))) (λ e. (h, (omega arith, (omega arith, (omega arith, tt)))))

all_bytes : (c : Choice) (end : ℕ) (es : List Entry) → Every (Fits end) es → Bytes (encode_all (kept c (contents es)))
unfolding encode_all encode kept contents
all_bytes c end [] h = tt
all_bytes c end (e ∷ es) h =
    let rest = all_bytes c end es h.1 in
    let entry = every_append _ (header e.ty (length e.value)) e.value (header_bytes _ _ h.0.0 h.0.3) h.0.4 in
    by_test (keeps_of c e.ty)
    (λ t. rw t (every_append _ (encode e.ty e.value) (encode_all (kept c (contents es))) entry rest)) (λ t. rw t rest)

pub written_bytes : (c : Choice) (s bs : List ℕ) → Bytes s → rewritten c s ≡ given bs → Bytes bs
unfolding rewritten
written_bytes c s bs b e =
    let es = gives (λ (es : List Entry). encode_all (kept c (contents es))) (framed 0 s) bs e in
    let fit = rw es.is at (framed_holds 0 (Every (Fits (length s))) s (framing_fits s (length s) b (le_refl _)).0) in
    rw (← es.so) (all_bytes c (length s) es.one fit)

-- ---- the round trip

framed_whole : (bs : List ℕ) (cs : List Content) → on_given contents (framed 0 bs) ≡ given cs → well_framed bs ≡ given bs
unfolding well_framed
framed_whole bs cs e = rw (gives contents (framed 0 bs) cs e).is

pub hex_back : (s bs : List ℕ) → Bytes s → rewritten All s ≡ given bs → from_hex (hex_text bs) ≡ given bs
unfolding from_hex
hex_back s bs b e =
    let fits = rewritten_fits All s bs b e in
    rw (decoded_text bs (written_bytes All s bs b e) (omega arith)) (framed_whole bs _ (was_kept All s bs b e).after)

-- the text of a dataset is read as what it was written from
pub hex_text_back : (s x : List ℕ) → Bytes s → hex_of s ≡ given x → from_hex x ≡ rewritten All s
unfolding hex_of
hex_text_back s x b e =
    let bs = gives hex_text (rewritten All s) x e in
    ap from_hex (sym bs.so) ∙ hex_back s bs.one b bs.is ∙ sym bs.is
