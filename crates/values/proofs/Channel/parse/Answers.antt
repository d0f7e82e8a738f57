-- `values::Channel::parse` meets its contract, by the fact over the length.
use mathlib.Core.Path.{◌≡◌, ap, ◌∙◌}
use Prim.Native.Nat.{ℕ}
use native.Mathlib.Omega.{arith}
use Rattle.std.proofs.lemmas.Bool.Decides.{nat_tests}
use lib.ListN.{length, get_or}
use Rattle.wire.proofs.Bes.{misfit_any, ruled_not, ruled_is}
use Rattle.values.specs.Typed.{channel_of}
use Rattle.values.proofs.Parses.{two_of_three}
use Rattle.values.proofs.Channel.parse.Goals as goal
use Rattle.values.proofs.Channel.parse.Goals.{in_default-via-then-value-lt3, in_default-via-else-value-lt3+else-value-lt4}

pub returns-in_default : goal.returns-in_default
returns-in_default c =
    let other : length c.args.value.now ≡ 3 → ⊥ =
    elim c.in_default.branch [ in_default-via-then-value-lt3 w ↦ λ e. grind (arith, nat_tests) | in_default-via-else-value-lt3+else-value-lt4 w ↦ λ e. grind (arith, nat_tests) ] in
    misfit_any c.misfit.result _ _ c.misfit.ensures ∙ ruled_not channel_of _ _ _ other

pub returns : goal.returns
returns c =
    let v = c.args.value.now in
    let long : length v ≡ 3 = omega arith in
    let same = c.from_be_bytes.ensures ∙ two_of_three v long in
    ruled_is channel_of _ _ _ _ long (ap (λ (n : ℕ). record { page = get_or v 0 0; channel = n }) same)
