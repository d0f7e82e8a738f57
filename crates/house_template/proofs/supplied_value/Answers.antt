-- `house_template::supplied_value` meets its contract: what `supplied_entry` found lies within the one that supplies it.
use mathlib.Core.Path.{sym}
use native.Mathlib.Omega.{arith}
use native.Mathlib.Nat.{add-sub_cancel_left}
use Rattle.house_template.proofs.Supplies.{answer_named}
use Rattle.house_template.proofs.supplied_value.Goals as goal

pub overflow_add-result : goal.overflow_add-result
overflow_add-result c = omega (arith, answer_named _ _ _ _ (rw (c.in-Ok-Some-Site.field-0-is, c.in-Ok-Some-Site.field-0-0-is) at c.in-Ok-Some-Site.ensures))

pub slice_bounds-result-end : goal.slice_bounds-result-end
slice_bounds-result-end c = omega (arith, answer_named _ _ _ _ (rw (c.in-Ok-Some-Site.field-0-is, c.in-Ok-Some-Site.field-0-0-is) at c.in-Ok-Some-Site.ensures))

pub overflow_add-result-in-Ok-Some-Template : goal.overflow_add-result-in-Ok-Some-Template
overflow_add-result-in-Ok-Some-Template c = omega (arith, answer_named _ _ _ _ (rw (c.in-Ok-Some-Template.field-0-is, c.in-Ok-Some-Template.field-0-0-is) at c.in-Ok-Some-Template.ensures))

pub slice_bounds-result-end-in-Ok-Some-Template : goal.slice_bounds-result-end-in-Ok-Some-Template
slice_bounds-result-end-in-Ok-Some-Template c = omega (arith, answer_named _ _ _ _ (rw (c.in-Ok-Some-Template.field-0-is, c.in-Ok-Some-Template.field-0-0-is) at c.in-Ok-Some-Template.ensures))

pub returns-in-Ok-Some-Site : goal.returns-in-Ok-Some-Site
returns-in-Ok-Some-Site c = simp add-sub_cancel_left (sym (answer_named _ _ _ _ (rw (c.in-Ok-Some-Site.field-0-is, c.in-Ok-Some-Site.field-0-0-is) at c.in-Ok-Some-Site.ensures)).1)

pub returns-in-Ok-Some-Template : goal.returns-in-Ok-Some-Template
returns-in-Ok-Some-Template c = simp add-sub_cancel_left (sym (answer_named _ _ _ _ (rw (c.in-Ok-Some-Template.field-0-is, c.in-Ok-Some-Template.field-0-0-is) at c.in-Ok-Some-Template.ensures)).1)

pub returns-in-Ok-None : goal.returns-in-Ok-None
returns-in-Ok-None c = sym (answer_named _ _ _ _ (rw c.in-Ok-None.field-0-is at c.in-Ok-None.ensures)).1

pub returns-in-Err : goal.returns-in-Err
returns-in-Err c = sym (answer_named _ _ _ _ c.in-Err.ensures).1
