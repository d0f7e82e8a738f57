-- `network_data::checks::check_prefix` meets its contract: the size is tested, then the prefix's own bytes, then its inner TLVs.
use mathlib.Core.Path.{sym, ap, ◌∙◌}
use Prim.Native.Nat.{◌<◌, ◌≤◌}
use native.Mathlib.Omega.{arith}
use borrow.Author.Tests.{le-leb, lt-leb}
use Rattle.refusal.specs.Sizes.{most_prefixes}
use Rattle.network_framing.specs.Frame.{head_answer}
use Rattle.network_data.specs.Rules.{check_prefix, check_head}
use Rattle.network_data.proofs.Moved.{inner_value, head_begins}
use Rattle.network_data.proofs.checks.check_prefix.Goals as goal

pub returns-then-before-ge-MAX_PREFIXES : goal.returns-then-before-ge-MAX_PREFIXES
unfolding check_prefix
returns-then-before-ge-MAX_PREFIXES c =
    let full : most_prefixes ≤ c.args.before.prefixes = omega arith in
    c.refuse.ensures ∙ simp (le-leb _ _ full)

pub slice_bounds-check_inner-count : goal.slice_bounds-check_inner-count
slice_bounds-check_inner-count c = head_begins _ _ _ _ _ c.head_at.ensures c.in-Some.is

pub slice_bounds-check_inner-start : goal.slice_bounds-check_inner-start
slice_bounds-check_inner-start c = head_begins _ _ _ _ _ c.head_at.ensures c.in-Some.is

pub returns-in-None : goal.returns-in-None
unfolding check_prefix check_head
returns-in-None c =
    let room : c.args.before.prefixes < most_prefixes = omega arith in
    c.refuse-in-None.ensures ∙ simp (lt-leb _ _ room, sym c.head_at.ensures ∙ ap head_answer c.in-None.is)

pub returns-in-Some : goal.returns-in-Some
unfolding check_prefix check_head
returns-in-Some c =
    let b = c.args.before in
    let room : b.prefixes < most_prefixes = omega arith in
    c.check_inner.ensures
    ∙ inner_value _ _ _ _ c.head_at.ensures c.in-Some.is b _ (omega arith) (omega arith) (omega arith)
    ∙ simp (lt-leb _ _ room, sym c.head_at.ensures ∙ ap head_answer c.in-Some.is)
