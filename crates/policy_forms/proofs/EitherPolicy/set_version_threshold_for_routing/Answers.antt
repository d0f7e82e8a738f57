-- `policy_forms::EitherPolicy::set_version_threshold_for_routing` meets its contract, in each form.
use Rattle.std.specs.Prelude.{Ok}
use mathlib.Core.Path.{ap}
use Prim.Native.Nat.{ℕ}
use Rattle.policy_forms.specs.declared.EitherPolicy.TheVariants as p
use Rattle.policy_forms.proofs.EitherPolicy.set_version_threshold_for_routing.Goals as goal

pub returns-in-Three : goal.returns-in-Three
returns-in-Three c = rw c.in-Three.is c.set_threshold.ensures

pub returns-in-Four : goal.returns-in-Four
returns-in-Four c =
    let x = c.in-Four.p in
    rw c.in-Four.is
    (ap (λ (n : ℕ). Ok (p.Four (record { rotation_time = x.rotation_time; flags = record { 0 = n } }))) c.set_version_threshold_for_routing.ensures)
