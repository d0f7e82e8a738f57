-- What a walk over operations has left, and an operation that it hands out.
-- Assumes nothing.
use Rattle.std.specs.Prelude.{ℕ, List, length, drop}
use Rattle.tlv.specs.Entries.{content}
use Rattle.change_lists.specs.Operations.{set, remove, OpAt, op_at, ops_in}
use Rattle.change_lists.specs.declared.walk.Operation.{Operation}
use Rattle.change_lists.specs.declared.walk.Operation.TheVariants as o
use Rattle.change_lists.specs.declared.walk.OperationIter.{OperationIter}

-- the operations from a place on, where one begins
unfoldable pub operations_from : List ℕ → ℕ → List OpAt
operations_from s at = (ops_in (length s) at (drop at s)).ops

abbrev pub left : OperationIter → List OpAt
left w = operations_from w.list.now w.at

abbrev pub as_op : Operation → OpAt
as_op (o.Set p t v) = op_at p (set (content t v.now))
as_op (o.Remove p t) = op_at p (remove t)
