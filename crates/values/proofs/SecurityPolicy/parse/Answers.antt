-- `values::SecurityPolicy::parse` meets its contract, by the fact over the length.
use mathlib.Core.Path.{◌≡◌, ◌∙◌}
use native.Mathlib.Omega.{arith}
use Rattle.std.proofs.lemmas.Bool.Decides.{nat_tests}
use lib.ListN.{length}
use Rattle.wire.proofs.Bes.{misfit_any, ruled_not, ruled_is}
use Rattle.values.specs.Typed.{policy_of}
use Rattle.values.proofs.Parses.{two_and_two}
use Rattle.values.proofs.SecurityPolicy.parse.Goals as goal
use Rattle.values.proofs.SecurityPolicy.parse.Goals.{in_default-via-then-value-lt4, in_default-via-else-value-lt4+else-value-lt5}

pub returns-in_default : goal.returns-in_default
returns-in_default c =
    let other : length c.args.value.now ≡ 4 → ⊥ =
    elim c.in_default.branch [ in_default-via-then-value-lt4 w ↦ λ e. grind (arith, nat_tests) | in_default-via-else-value-lt4+else-value-lt5 w ↦ λ e. grind (arith, nat_tests) ] in
    misfit_any c.misfit.result _ _ c.misfit.ensures ∙ ruled_not policy_of _ _ _ other

pub returns : goal.returns
returns c =
    let v = c.args.value.now in
    let long : length v ≡ 4 = omega arith in
    let same = two_and_two v long in
    ruled_is policy_of _ _ _ _ long (rw (c.from_be_bytes.ensures ∙ same.0, c.from_be_bytes-2.ensures ∙ same.1))
