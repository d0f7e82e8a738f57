-- One possible answer for each public call of `channel_masks`.
-- Assumes nothing.
use mathlib.Core.Path.{◌∙◌, refl, sym}
use Rattle.one_answer.proofs.General.{both, leaves}
use Rattle.one_answer.specs.One.{One}
use Rattle.refusal.proofs.Papers.{answer_tells}

-- channel_masks::mask_item_at
pub mask_item_at : One Rattle.channel_masks.specs.contracts.mask_item_at.ended (λ M 𝓤. Rattle.channel_masks.specs.contracts.mask_item_at.clauses)
mask_item_at x r q left over = both x.𝓤 _ _ _ (λ e f. (e ∙ sym f, refl))

-- channel_masks::count_mask_items
pub count_mask_items : One Rattle.channel_masks.specs.contracts.count_mask_items.ended (λ M 𝓤. Rattle.channel_masks.specs.contracts.count_mask_items.clauses)
count_mask_items x r q left over = both x.𝓤 _ _ _ (λ e f. (answer_tells r q (e ∙ sym f), refl))

-- channel_masks::write_mask_item
pub write_mask_item : One Rattle.channel_masks.specs.contracts.write_mask_item.ended (λ M 𝓤. Rattle.channel_masks.specs.contracts.write_mask_item.clauses)
write_mask_item x r q left over = both x.𝓤 _ _ _ (λ e f. let same = leaves _ r q _ _ e f in (same.0, λ i. (tt, (tt, (same.1 i, tt)))))
