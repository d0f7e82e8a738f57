-- `diag_writing::linked::connectivity_bytes` meets its contract.
use mathlib.Core.Path.{refl, ap, ◌∙◌}
use Rattle.value_writing.specs.Encode.{priority_bits}
use Rattle.writing_plans.proofs.Priority.{field_back}
use Rattle.diag_writing.proofs.Late.{no_buffer, no_count, both_late}
use native.Mathlib.Omega.{arith}
use Rattle.diag_writing.proofs.linked.connectivity_bytes.Goals as goal

pub returns-in-None : goal.returns-in-None
returns-in-None c =
    let told = c.priority_bits-p.ensures.0 ∙ ap priority_bits (field_back c.args.c _ c.well_formed.0) in
    (no_buffer c.args.c _ told c.in-None.is, omega arith, refl)

pub returns-in-None-d : goal.returns-in-None-d
returns-in-None-d c =
    let told = c.priority_bits-p.ensures.0 ∙ ap priority_bits (field_back c.args.c _ c.well_formed.0) in
    (no_count c.args.c _ told _ c.in-Some.is c.in-None-d.is, omega arith, refl)

pub returns-in-Some-d : goal.returns-in-Some-d
returns-in-Some-d c =
    let told = c.priority_bits-p.ensures.0 ∙ ap priority_bits (field_back c.args.c _ c.well_formed.0) in
    (both_late c.args.c _ told _ _ _ c.in-Some.is c.in-Some-d.is c.u16_bytes-w.ensures, omega arith, refl)
