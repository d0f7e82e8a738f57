-- `policy_forms::parse_three` meets its contract, by the fact over the length.
use mathlib.Core.Path.{◌≡◌, ◌∙◌}
use native.Mathlib.Omega.{arith}
use lib.ListN.{length}
use Rattle.wire.proofs.Bes.{misfit_any, ruled_not, ruled_is}
use Rattle.policy_forms.specs.Forms.{numbers_in, read}
use Rattle.policy_forms.proofs.Modes.{three_of}
use Rattle.policy_forms.proofs.parse_three.Goals as goal

pub returns-then-n-ne3 : goal.returns-then-n-ne3
unfolding read
returns-then-n-ne3 c = misfit_any c.misfit.result _ _ c.misfit.ensures ∙ ruled_not (numbers_in 3) 3 _ _ (λ e. omega (arith, c.if-n-ne3.true))

pub returns : goal.returns
unfolding read
returns c =
    let v = c.args.value.now in
    let three : length v ≡ 3 = omega (arith, c.if-n-ne3.false) in
    rw c.from_be_bytes.ensures (ruled_is (numbers_in 3) 3 _ _ _ three (three_of v three))
