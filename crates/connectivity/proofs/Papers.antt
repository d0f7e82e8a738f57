-- The meaning of the code's answer tells it apart, so that a contract on the meaning determines the answer.
-- Assumes nothing.
use mathlib.Core.Path.{◌≡◌}
use Rattle.std.specs.Prelude.{Result}
use Rattle.refusal.specs.Answer.{on_given}
use Rattle.refusal.specs.Results.{answer_of}
use Rattle.refusal.specs.declared.Refusal.{Refusal}
use Rattle.refusal.proofs.Papers.{Tells, answer_paper_tells, maybe_of, option_back}
use Rattle.connectivity.specs.Connectivity.{ConnectivityValue}
use Rattle.connectivity.specs.Answers.{connectivity_paper}
use Rattle.connectivity.specs.declared.Connectivity.{Connectivity}

abbrev pub connectivity_from : ConnectivityValue → Connectivity
connectivity_from x = record {
  parent_priority = x.parent_priority;
  link_quality_3 = x.link_quality3;
  link_quality_2 = x.link_quality2;
  link_quality_1 = x.link_quality1;
  leader_cost = x.leader_cost;
  id_sequence = x.id_sequence;
  active_routers = x.active_routers;
  rx_off_child_buffer_size = maybe_of x.buffer_size;
  rx_off_child_datagram_count = maybe_of x.datagram_count;
}

pub connectivity_back : (x : Connectivity) → connectivity_from (connectivity_paper x) ≡ x
connectivity_back x = simp option_back

pub connectivity_tells : Tells (λ (x : Result Connectivity Refusal). on_given connectivity_paper (answer_of x))
connectivity_tells = answer_paper_tells connectivity_paper connectivity_from connectivity_back
