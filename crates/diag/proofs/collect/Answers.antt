-- `diag::collect` meets its contract, field by field: what was found of each type is the last of it.
use mathlib.Core.Path.{ap, ◌∙◌}
use lib.Dec.{lit<}
use Rattle.refusal.specs.Answer.{on_given}
use Rattle.wire.specs.Be.{be}
use Rattle.diag_values.specs.Values.{mode_value, leader_of, counters_of}
use Rattle.diag_values.proofs.Agree.{mac_address_read, timeout_read, supply_voltage_read}
use Rattle.connectivity.specs.Connectivity.{connectivity_of}
use Rattle.connectivity.specs.Answers.{connectivity_paper}
use Rattle.diag.specs.Diag.{byte_of}
use Rattle.diag.specs.Loops.{read_at, network_at, part_of}
use Rattle.diag.proofs.Fields.{read_by, read_plain}
use Rattle.diag.proofs.Whole.{last_inside, made}
use Rattle.diag.proofs.collect.Goals as goal

pub read_at-requires-clause-within : goal.read_at-requires-clause-within
read_at-requires-clause-within c = last_inside _ 1 _ (c.found_at.ensures ∙ c.find_all-p.ensures.is 1 (lit< tt))

pub read_at-requires-2-clause-within : goal.read_at-requires-2-clause-within
read_at-requires-2-clause-within c = last_inside _ 2 _ (c.found_at-2.ensures ∙ c.find_all-p.ensures.is 2 (lit< tt))

pub read_at-requires-3-clause-within : goal.read_at-requires-3-clause-within
read_at-requires-3-clause-within c = last_inside _ 3 _ (c.found_at-3.ensures ∙ c.find_all-p.ensures.is 3 (lit< tt))

pub read_at-requires-4-clause-within : goal.read_at-requires-4-clause-within
read_at-requires-4-clause-within c = last_inside _ 4 _ (c.found_at-4.ensures ∙ c.find_all-p.ensures.is 4 (lit< tt))

pub read_at-requires-5-clause-within : goal.read_at-requires-5-clause-within
read_at-requires-5-clause-within c = last_inside _ 6 _ (c.found_at-5.ensures ∙ c.find_all-p.ensures.is 6 (lit< tt))

pub network_data_in-requires : goal.network_data_in-requires
network_data_in-requires c = last_inside _ 7 _ (c.found_at-6.ensures ∙ c.find_all-p.ensures.is 7 (lit< tt))

pub read_at-requires-6-clause-within : goal.read_at-requires-6-clause-within
read_at-requires-6-clause-within c = last_inside _ 9 _ (c.found_at-7.ensures ∙ c.find_all-p.ensures.is 9 (lit< tt))

pub read_at-requires-7-clause-within : goal.read_at-requires-7-clause-within
read_at-requires-7-clause-within c = last_inside _ 14 _ (c.found_at-8.ensures ∙ c.find_all-p.ensures.is 14 (lit< tt))

pub read_at-requires-8-clause-within : goal.read_at-requires-8-clause-within
read_at-requires-8-clause-within c = last_inside _ 15 _ (c.found_at-9.ensures ∙ c.find_all-p.ensures.is 15 (lit< tt))

pub returns : goal.returns
returns c =
    let located = c.find_all-p.ensures.is in
    made _ _
    (c.part_at.ensures ∙ ap (on_given part_of) (located 0 (lit< tt)))
    (read_plain 1 be _ _ (λ v p x h. h ∙ mac_address_read _ _) _ _ c.read_at.ensures ∙ ap (read_at 1 be _) (c.found_at.ensures ∙ located 1 (lit< tt)))
    (read_plain 2 mode_value _ _ (λ v p x h. h) _ _ c.read_at-2.ensures ∙ ap (read_at 2 mode_value _) (c.found_at-2.ensures ∙ located 2 (lit< tt)))
    (read_plain 3 be _ _ (λ v p x h. h ∙ timeout_read _ _) _ _ c.read_at-3.ensures ∙ ap (read_at 3 be _) (c.found_at-3.ensures ∙ located 3 (lit< tt)))
    (read_by connectivity_paper 4 connectivity_of _ _ (λ v p x h. h) _ _ c.read_at-4.ensures ∙ ap (read_at 4 connectivity_of _) (c.found_at-4.ensures ∙ located 4 (lit< tt)))
    (c.part_at-2.ensures ∙ ap (on_given part_of) (located 5 (lit< tt)))
    (read_plain 6 leader_of _ _ (λ v p x h. h) _ _ c.read_at-5.ensures ∙ ap (read_at 6 leader_of _) (c.found_at-5.ensures ∙ located 6 (lit< tt)))
    (c.network_data_in.ensures ∙ ap (network_at _) (c.found_at-6.ensures ∙ located 7 (lit< tt)))
    (c.part_at-3.ensures ∙ ap (on_given part_of) (located 8 (lit< tt)))
    (read_plain 9 counters_of _ _ (λ v p x h. h) _ _ c.read_at-6.ensures ∙ ap (read_at 9 counters_of _) (c.found_at-7.ensures ∙ located 9 (lit< tt)))
    (read_plain 14 byte_of _ _ (λ v p x h. h) _ _ c.read_at-7.ensures ∙ ap (read_at 14 byte_of _) (c.found_at-8.ensures ∙ located 14 (lit< tt)))
    (read_plain 15 be _ _ (λ v p x h. h ∙ supply_voltage_read _ _) _ _ c.read_at-8.ensures ∙ ap (read_at 15 be _) (c.found_at-9.ensures ∙ located 15 (lit< tt)))
    (c.part_at-4.ensures ∙ ap (on_given part_of) (located 16 (lit< tt)))
    (c.part_at-5.ensures ∙ ap (on_given part_of) (located 17 (lit< tt)))
    (c.part_at-6.ensures ∙ ap (on_given part_of) (located 18 (lit< tt)))
    (c.part_at-7.ensures ∙ ap (on_given part_of) (located 23 (lit< tt)))
    c.find_all-p.ensures.many
