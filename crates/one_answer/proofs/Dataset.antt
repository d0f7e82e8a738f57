-- One possible answer for each public call of `dataset`, `dataset_raw` and `dataset_parts`.
-- Assumes nothing.
use mathlib.Core.Path.{◌∙◌, refl, sym}
use Rattle.one_answer.proofs.General.{both}
use Rattle.one_answer.specs.One.{One, OneBy}
use Rattle.refusal.proofs.Papers.{found_tells}

-- dataset_raw::raw
pub raw : One Rattle.dataset_raw.specs.contracts.raw.ended (λ M 𝓤. Rattle.dataset_raw.specs.contracts.raw.clauses)
raw x r q left over = both x.𝓤 _ _ _ (λ e f. (found_tells r q (e ∙ sym f), refl))

-- dataset_raw::raw_value
pub raw_value : OneBy Rattle.dataset_raw.specs.contracts.raw_value.ended (λ κs r. r.now) (λ M 𝓤. Rattle.dataset_raw.specs.contracts.raw_value.clauses)
raw_value x r q left over = both x.𝓤 _ _ _ (λ e f. (e ∙ sym f, refl))

-- dataset_raw::pskc
pub pskc : One Rattle.dataset_raw.specs.contracts.pskc.ended (λ M 𝓤. Rattle.dataset_raw.specs.contracts.pskc.clauses)
pskc x r q left over = both x.𝓤 _ _ _ (λ e f. (found_tells r q (e ∙ sym f), refl))

-- dataset_raw::pskc_value
pub pskc_value : OneBy Rattle.dataset_raw.specs.contracts.pskc_value.ended (λ κs r. r.now) (λ M 𝓤. Rattle.dataset_raw.specs.contracts.pskc_value.clauses)
pskc_value x r q left over = both x.𝓤 _ _ _ (λ e f. (e ∙ sym f, refl))

-- dataset_parts::network_name
pub network_name : One Rattle.dataset_parts.specs.contracts.network_name.ended (λ M 𝓤. Rattle.dataset_parts.specs.contracts.network_name.clauses)
network_name x r q left over = both x.𝓤 _ _ _ (λ e f. (found_tells r q (e ∙ sym f), refl))

-- dataset_parts::network_name_value
pub network_name_value : OneBy Rattle.dataset_parts.specs.contracts.network_name_value.ended (λ κs r. r.now) (λ M 𝓤. Rattle.dataset_parts.specs.contracts.network_name_value.clauses)
network_name_value x r q left over = both x.𝓤 _ _ _ (λ e f. (e ∙ sym f, refl))

-- dataset::channel
pub channel : One Rattle.dataset.specs.contracts.channel.ended (λ M 𝓤. Rattle.dataset.specs.contracts.channel.clauses)
channel x r q left over = both x.𝓤 _ _ _ (λ e f. (found_tells r q (e ∙ sym f), refl))

-- dataset::pan_id
pub pan_id : One Rattle.dataset.specs.contracts.pan_id.ended (λ M 𝓤. Rattle.dataset.specs.contracts.pan_id.clauses)
pan_id x r q left over = both x.𝓤 _ _ _ (λ e f. (found_tells r q (e ∙ sym f), refl))

-- dataset::delay_timer
pub delay_timer : One Rattle.dataset.specs.contracts.delay_timer.ended (λ M 𝓤. Rattle.dataset.specs.contracts.delay_timer.clauses)
delay_timer x r q left over = both x.𝓤 _ _ _ (λ e f. (found_tells r q (e ∙ sym f), refl))

-- dataset::active_timestamp
pub active_timestamp : One Rattle.dataset.specs.contracts.active_timestamp.ended (λ M 𝓤. Rattle.dataset.specs.contracts.active_timestamp.clauses)
active_timestamp x r q left over = both x.𝓤 _ _ _ (λ e f. (found_tells r q (e ∙ sym f), refl))

-- dataset::pending_timestamp
pub pending_timestamp : One Rattle.dataset.specs.contracts.pending_timestamp.ended (λ M 𝓤. Rattle.dataset.specs.contracts.pending_timestamp.clauses)
pending_timestamp x r q left over = both x.𝓤 _ _ _ (λ e f. (found_tells r q (e ∙ sym f), refl))

-- dataset::security_policy
pub security_policy : One Rattle.dataset.specs.contracts.security_policy.ended (λ M 𝓤. Rattle.dataset.specs.contracts.security_policy.clauses)
security_policy x r q left over = both x.𝓤 _ _ _ (λ e f. (found_tells r q (e ∙ sym f), refl))

-- dataset::extended_pan_id
pub extended_pan_id : One Rattle.dataset.specs.contracts.extended_pan_id.ended (λ M 𝓤. Rattle.dataset.specs.contracts.extended_pan_id.clauses)
extended_pan_id x r q left over = both x.𝓤 _ _ _ (λ e f. (found_tells r q (e ∙ sym f), refl))

-- dataset::mesh_local_prefix
pub mesh_local_prefix : One Rattle.dataset.specs.contracts.mesh_local_prefix.ended (λ M 𝓤. Rattle.dataset.specs.contracts.mesh_local_prefix.clauses)
mesh_local_prefix x r q left over = both x.𝓤 _ _ _ (λ e f. (found_tells r q (e ∙ sym f), refl))

-- dataset::network_key
pub network_key : One Rattle.dataset.specs.contracts.network_key.ended (λ M 𝓤. Rattle.dataset.specs.contracts.network_key.clauses)
network_key x r q left over = both x.𝓤 _ _ _ (λ e f. (found_tells r q (e ∙ sym f), refl))

-- dataset_parts::channel_mask
pub channel_mask : One Rattle.dataset_parts.specs.contracts.channel_mask.ended (λ M 𝓤. Rattle.dataset_parts.specs.contracts.channel_mask.clauses)
channel_mask x r q left over = both x.𝓤 _ _ _ (λ e f. (found_tells r q (e ∙ sym f), refl))

-- dataset_parts::channel_mask_value
pub channel_mask_value : OneBy Rattle.dataset_parts.specs.contracts.channel_mask_value.ended (λ κs r. r.now) (λ M 𝓤. Rattle.dataset_parts.specs.contracts.channel_mask_value.clauses)
channel_mask_value x r q left over = both x.𝓤 _ _ _ (λ e f. (e ∙ sym f, refl))
