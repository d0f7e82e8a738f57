-- `dataset_index::is_framed` meets its contract. Assumes nothing.
use Rattle.dataset_index.proofs.Queries.{other_length, other_mark, second_mark}
use Rattle.dataset_index.proofs.is_framed.Goals as goal

pub returns-then-index-ne-INDEX_BYTES : goal.returns-then-index-ne-INDEX_BYTES
returns-then-index-ne-INDEX_BYTES c = other_length _ c.if-index-ne-INDEX_BYTES.true

pub returns-then-index-ne73 : goal.returns-then-index-ne73
returns-then-index-ne73 c = other_mark _ c.if-index-ne-INDEX_BYTES.false c.if-index-ne73.true

pub returns : goal.returns
returns c = second_mark _ c.if-index-ne-INDEX_BYTES.false c.if-index-ne73.false
