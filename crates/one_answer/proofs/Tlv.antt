-- One possible answer for each public call of `tlv` and `tlv_last`.
-- Assumes nothing.
use mathlib.Core.Path.{◌∙◌, refl, sym}
use Rattle.one_answer.proofs.General.{both, both_first, step_tells}
use Rattle.one_answer.specs.One.{One, OneBy, OneByEach}
use Rattle.refusal.proofs.Papers.{answer_tells, found_tells}
use Rattle.std.specs.Option.{option_map}
use Rattle.tlv.specs.Walk.{as_entry, left, left as rest}

-- tlv::frame_at
pub frame_at : One Rattle.tlv.specs.contracts.frame_at.ended (λ M 𝓤. Rattle.tlv.specs.contracts.frame_at.clauses)
frame_at x r q left over = both x.𝓤 _ _ _ (λ e f. (e ∙ sym f, refl))

-- tlv::parse_one
pub parse_one : One Rattle.tlv.specs.contracts.parse_one.ended (λ M 𝓤. Rattle.tlv.specs.contracts.parse_one.clauses)
parse_one x r q left over = both x.𝓤 _ _ _ (λ e f. (answer_tells r q (e ∙ sym f), refl))

-- tlv::count_entries
pub count_entries : One Rattle.tlv.specs.contracts.count_entries.ended (λ M 𝓤. Rattle.tlv.specs.contracts.count_entries.clauses)
count_entries x r q left over = both x.𝓤 _ _ _ (λ e f. (answer_tells r q (e ∙ sym f), refl))

-- tlv::stopped
pub stopped : One Rattle.tlv.specs.contracts.stopped.ended (λ M 𝓤. Rattle.tlv.specs.contracts.stopped.clauses)
stopped x r q left over = both x.𝓤 _ _ _ (λ e f. (answer_tells r q (e ∙ sym f), refl))

-- tlv::entries
pub entries : OneBy Rattle.tlv.specs.contracts.entries.ended (λ κs r. left r) (λ M 𝓤. Rattle.tlv.specs.contracts.entries.clauses)
entries x r q left over = both x.𝓤 _ _ _ (λ e f. (e ∙ sym f, refl))

-- tlv::entries_from
pub entries_from : OneBy Rattle.tlv.specs.contracts.entries_from.ended (λ κs r. left r) (λ M 𝓤. Rattle.tlv.specs.contracts.entries_from.clauses)
entries_from x r q left over = both x.𝓤 _ _ _ (λ e f. (e ∙ sym f, refl))

-- tlv::EntryIter::next
pub next : OneByEach Rattle.tlv.specs.contracts.walk.EntryIterIterator.next.ended (λ κs r. option_map as_entry r) (λ κs a w. left w.0) (λ M 𝓤. Rattle.tlv.specs.contracts.walk.EntryIterIterator.next.clauses)
next x r q left over = both_first x.𝓤 _ _ _ _ _ (step_tells as_entry rest x.passed.0.now left.0 over.0 r q)

-- tlv_last::last_entry
pub last_entry : One Rattle.tlv_last.specs.contracts.last_entry.ended (λ M 𝓤. Rattle.tlv_last.specs.contracts.last_entry.clauses)
last_entry x r q left over = both x.𝓤 _ _ _ (λ e f. (found_tells r q (e ∙ sym f), refl))

-- tlv_last::last_value
pub last_value : OneBy Rattle.tlv_last.specs.contracts.last_value.ended (λ κs r. r.now) (λ M 𝓤. Rattle.tlv_last.specs.contracts.last_value.clauses)
last_value x r q left over = both x.𝓤 _ _ _ (λ e f. (e ∙ sym f, refl))
