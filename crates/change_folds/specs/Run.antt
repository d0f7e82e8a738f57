-- Running a change list. Document 01: "Running a list on a dataset equals taking its operations singly by the Rust's `set_raw` and `remove_all`
-- without size limit, then writing; sizes are tested once, at the end."
-- Assumes nothing.
use Rattle.std.specs.Prelude.{ℕ, List, [], ◌∷◌}
use Rattle.refusal.specs.Answer.{Answer, then_do}
use Rattle.tlv.specs.Entries.{Entry, Content, contents}
use Rattle.tlv.specs.Limits.{framed}
use Rattle.tlv_writing.specs.Encode.{sized}
use Rattle.tlv_rewriting.specs.Rewrite.{kept, set_last}
use Rattle.tlv_rewriting.specs.declared.Choice.TheVariants.{Without}
use Rattle.change_lists.specs.Operations.{Op, set, remove, OpAt, bare, operations}

-- one operation, by the definitions of the dataset's edits
unfoldable pub perform : Op → List Content → List Content
perform (set c) cs = set_last c.ty c.value cs
perform (remove t) cs = kept (Without t) cs

unfoldable pub run_all : List Op → List Content → List Content
run_all [] cs = cs
run_all (o ∷ os) cs = run_all os (perform o cs)

-- the dataset's faults (input 0), then the list's (input 1), then 10
unfoldable pub ran : (dataset list : List ℕ) → Answer (List ℕ)
ran d l =
    then_do (framed 0 d)
    (λ (es : List Entry). then_do (operations 1 l) (λ (os : List OpAt). sized (run_all (bare os) (contents es))))
