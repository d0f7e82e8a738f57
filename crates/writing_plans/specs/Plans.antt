-- The plan by what one pass over each table has found: which refusal there is, or how much is written.
-- Assumes nothing.
use Rattle.std.specs.Prelude.{ℕ, ◌+◌, Bool, true, false, leb}
use Rattle.refusal.specs.Sizes.{most_bytes, most_entries}
use Rattle.refusal.specs.Answer.{pick, Answer, given, refused}
use Rattle.refusal.specs.Results.{answer_of}
use Rattle.route64.specs.declared.Route64.{Route64}
use Rattle.diag.specs.declared.NetDiagData.{NetDiagData}
use Rattle.record_writing.specs.Fits.{passes}
use Rattle.record_writing.specs.Lent.{opt_counts}
use Rattle.record_writing.specs.Written.{counts_fit}
use Rattle.writing_walks.specs.declared.Prefixes.{Prefixes}
use Rattle.writing_walks.specs.declared.Lists.{Lists}
use Rattle.writing_walks.specs.declared.Used.{Used}
use Rattle.writing_walks.specs.declared.Plan.{Plan}
use Rattle.writing_plans.specs.Tests.{lengths_by, fits_by}
use Rattle.writing_plans.specs.Sizes.{fixed_count, total_size}

pub record Planning : Type 0 where
  pub answer : Answer ℕ
  pub go : Bool
  pub prefixes : ℕ
  pub network : ℕ
  pub children : ℕ
  pub lists : ℕ

abbrev pub plan_paper : Plan → Planning
plan_paper x = record { answer = answer_of x.answer; go = x.go; prefixes = x.prefixes; network = x.network; children = x.children; lists = x.lists }

abbrev pub stopped : ℕ → Planning
stopped n = record { answer = refused n 0 0; go = false; prefixes = 0; network = 0; children = 0; lists = 0 }

-- 11, or how many bytes and rows
abbrev pub placed_by : ℕ → Used → Prefixes → Planning
placed_by size x f =
    pick (leb size x.room)
    (record { answer = given size; go = true; prefixes = x.prefixes; network = f.size; children = x.children; lists = x.lists }) (stopped 11)

-- 10, then these
unfoldable pub sized_by : NetDiagData → Route64 → Used → Prefixes → Lists → Planning
sized_by r t x f ls =
    pick (leb (total_size r t f ls) most_bytes)
    (pick (leb (fixed_count r + x.lists) most_entries) (placed_by (total_size r t f ls) x f) (stopped 10)) (stopped 10)

-- 13, 12, 15, 10, 11
unfoldable pub plan_by : NetDiagData → Route64 → Used → Prefixes → (routes borders children : Bool) → Lists → Planning
plan_by r t x f h b c ls =
    pick (lengths_by r ls)
    (pick (passes counts_fit (opt_counts r.network_data)) (pick (fits_by r t x f h b c ls) (sized_by r t x f ls) (stopped 15)) (stopped 12))
    (stopped 13)
