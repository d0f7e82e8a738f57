-- `policy_flags::SecurityPolicyFlags::set_version_threshold_for_routing` meets its contract: the definition at each version, computed.
use Rattle.policy_flags.specs.Threshold.{with_threshold}
use Rattle.policy_flags.proofs.Thresholds.{flag_set, rest_is, field_set}
use Rattle.policy_flags.proofs.SecurityPolicyFlags.set_version_threshold_for_routing.Goals as goal

pub returns-in-V1Or2 : goal.returns-in-V1Or2
unfolding with_threshold
returns-in-V1Or2 c = rw c.in-V1Or2.is (flag_set _)

pub returns-in-V3 : goal.returns-in-V3
unfolding with_threshold
returns-in-V3 c = rw c.in-V3.is (rest_is _)

pub returns-in-V4 : goal.returns-in-V4
unfolding with_threshold
returns-in-V4 c = rw c.in-V4.is (field_set _ 1)

pub returns-in-V5 : goal.returns-in-V5
unfolding with_threshold
returns-in-V5 c = rw c.in-V5.is (field_set _ 2)

pub returns-in-V6 : goal.returns-in-V6
unfolding with_threshold
returns-in-V6 c = rw c.in-V6.is (field_set _ 3)

pub returns-in-V7 : goal.returns-in-V7
unfolding with_threshold
returns-in-V7 c = rw c.in-V7.is (field_set _ 4)

pub returns-in-V8 : goal.returns-in-V8
unfolding with_threshold
returns-in-V8 c = rw c.in-V8.is (field_set _ 5)

pub returns-in-V9 : goal.returns-in-V9
unfolding with_threshold
returns-in-V9 c = rw c.in-V9.is (field_set _ 6)

pub returns-in-V10 : goal.returns-in-V10
unfolding with_threshold
returns-in-V10 c = rw c.in-V10.is (field_set _ 7)
