-- A set of entries written afresh: which of them are kept, and a type that is set (document 01).
-- Assumes nothing.
use Rattle.std.specs.Prelude.{ℕ, Bool, true, not, List, [], ◌∷◌, ◌++◌, length, ltb, eqb}
use Rattle.refusal.specs.Sizes.{most_value}
use Rattle.refusal.specs.Answer.{pick, Answer, refused, then_do, on_given}
use Rattle.tlv.specs.Entries.{Entry, Content, content, contents}
use Rattle.tlv.specs.Limits.{framed}
use Rattle.tlv_writing.specs.Encode.{encode_all, sized}
use Rattle.tlv_rewriting.specs.declared.Choice.{Choice}
use Rattle.tlv_rewriting.specs.declared.Choice.TheVariants as c

-- which entries a choice keeps
unfoldable pub keeps_of : Choice → (ty : ℕ) → Bool
keeps_of c.All t = true
keeps_of (c.Without x) t = not (eqb t x)

unfoldable pub kept : Choice → List Content → List Content
kept c [] = []
kept c (x ∷ xs) = pick (keeps_of c x.ty) (x ∷ kept c xs) (kept c xs)

-- the entries of s that are kept, written afresh. The result is never longer than s, so 10 cannot occur
unfoldable pub rewritten : Choice → List ℕ → Answer (List ℕ)
rewritten c s = on_given (λ (es : List Entry). encode_all (kept c (contents es))) (framed 0 s)

-- the entries that are kept, and one more at the end
abbrev pub added : Choice → (ty : ℕ) → (value : List ℕ) → List Content → List Content
added c t v cs = kept c cs ++ (content t v ∷ [])

-- "Setting a type removes every entry of it and puts the new one last"
unfoldable pub set_last : (ty : ℕ) → (value : List ℕ) → List Content → List Content
set_last t v cs = added (c.Without t) t v cs

-- the Rust's `push`: one more at the end "without removing existing entries of the same type"
unfoldable pub pushed : (ty : ℕ) → (value : List ℕ) → List Content → List Content
pushed t v cs = added c.All t v cs

-- s with its entries changed, a value being put in: 1, 2, 3, then 13, 10
abbrev pub changed : (List Content → List Content) → (value : List ℕ) → List ℕ → Answer (List ℕ)
changed f v s = then_do (framed 0 s) (λ (es : List Entry). pick (ltb most_value (length v)) (refused 13 0 0) (sized (f (contents es))))

-- s with a type set
unfoldable pub with_set : (ty : ℕ) → (value : List ℕ) → List ℕ → Answer (List ℕ)
with_set t v s = changed (set_last t v) v s

-- s with one entry more
unfoldable pub with_pushed : (ty : ℕ) → (value : List ℕ) → List ℕ → Answer (List ℕ)
with_pushed t v s = changed (pushed t v) v s
