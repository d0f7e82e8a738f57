-- How many records go into lent tables, or why none do: settled before a table is touched, since "Every lent byte and record stays" (document 01).
-- Assumes nothing.
use Rattle.std.specs.Prelude.{ℕ, List, leb}
use Rattle.refusal.specs.Answer.{pick, Answer, given, refused, then_do}
use Rattle.network_data.specs.Decode.{Prefix, counts_of}
use Rattle.network_data.specs.declared.Counts.{Counts}

-- 11, "table too short for the result": tables of p, h and b places
unfoldable pub room_for : Counts → (p h b : ℕ) → Answer Counts
room_for c p h b =
    pick (leb c.prefixes p)
    (pick (leb c.has_routes h) (pick (leb c.border_routers b) (given c) (refused 11 0 0)) (refused 11 0 0)) (refused 11 0 0)

unfoldable pub answered : Answer (List Prefix) → (p h b : ℕ) → Answer Counts
answered d p h b = then_do d (λ (ps : List Prefix). room_for (counts_of ps) p h b)
