-- `dataset_index::last_entry` meets its contract. Assumes nothing.
use mathlib.Core.Path.{sym, ◌∙◌}
use native.Mathlib.Omega.{arith}
use Rattle.refusal.proofs.Papers.{refuses_found}
use Rattle.dataset_index.proofs.Queries.{framed_long, query_large, query_misframed, query_absent, query_led}
use Rattle.dataset_index.proofs.last_entry.Goals as goal

pub returns-then-dataset-gt-MAX_BYTES : goal.returns-then-dataset-gt-MAX_BYTES
returns-then-dataset-gt-MAX_BYTES c = refuses_found _ _ _ _ c.refuse.ensures ∙ query_large _ _ _ c.if-dataset-gt-MAX_BYTES.true

pub two_at-requires : goal.two_at-requires
two_at-requires c = omega (arith, framed_long _ (sym c.is_framed.ensures ∙ c.if-is_framed.true))

pub returns-then-two_at-eq0 : goal.returns-then-two_at-eq0
returns-then-two_at-eq0 c =
    query_absent _ _ _ c.if-dataset-gt-MAX_BYTES.false (sym c.is_framed.ensures ∙ c.if-is_framed.true) (sym c.two_at.ensures ∙ c.if-two_at-eq0.true)

pub two_at-requires-then-is_framed : goal.two_at-requires-then-is_framed
two_at-requires-then-is_framed c = omega (arith, framed_long _ (sym c.is_framed.ensures ∙ c.if-is_framed.true))

pub returns-then-is_framed : goal.returns-then-is_framed
returns-then-is_framed c =
    rw c.two_at-then-is_framed.ensures at c.entry_at.ensures
    ∙ query_led _ _ _ c.if-dataset-gt-MAX_BYTES.false (sym c.is_framed.ensures ∙ c.if-is_framed.true) (λ z. c.if-two_at-eq0.false (c.two_at.ensures ∙ z))

pub returns : goal.returns
returns c =
    refuses_found _ _ _ _ c.wrong_index.ensures
    ∙ query_misframed _ _ _ c.if-dataset-gt-MAX_BYTES.false (sym c.is_framed.ensures ∙ c.if-is_framed.false)
