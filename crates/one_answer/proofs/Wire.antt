-- One possible answer for each public call of `wire`, `wire_bytes` and `copying`.
-- Assumes nothing.
use mathlib.Core.Path.{◌∙◌, refl, sym}
use Rattle.one_answer.proofs.General.{both, leaves_placed, refusal_tells}
use Rattle.one_answer.specs.One.{One}
use Rattle.refusal.proofs.Papers.{answer_tells}

-- wire::misfit
pub misfit : One Rattle.wire.specs.contracts.misfit.ended (λ M 𝓤. Rattle.wire.specs.contracts.misfit.clauses)
misfit x r q left over = both x.𝓤 _ _ _ (λ e f. (refusal_tells r q (e ∙ sym f), refl))

-- wire::read_u16
pub read_u16 : One Rattle.wire.specs.contracts.read_u16.ended (λ M 𝓤. Rattle.wire.specs.contracts.read_u16.clauses)
read_u16 x r q left over = both x.𝓤 _ _ _ (λ e f. (answer_tells r q (e ∙ sym f), refl))

-- wire::read_u32
pub read_u32 : One Rattle.wire.specs.contracts.read_u32.ended (λ M 𝓤. Rattle.wire.specs.contracts.read_u32.clauses)
read_u32 x r q left over = both x.𝓤 _ _ _ (λ e f. (answer_tells r q (e ∙ sym f), refl))

-- wire::read_u64
pub read_u64 : One Rattle.wire.specs.contracts.read_u64.ended (λ M 𝓤. Rattle.wire.specs.contracts.read_u64.clauses)
read_u64 x r q left over = both x.𝓤 _ _ _ (λ e f. (answer_tells r q (e ∙ sym f), refl))

-- wire_bytes::u16_bytes
pub u16_bytes : One Rattle.wire_bytes.specs.contracts.u16_bytes.ended (λ M 𝓤. Rattle.wire_bytes.specs.contracts.u16_bytes.clauses)
u16_bytes x r q left over = both x.𝓤 _ _ _ (λ e f. (e ∙ sym f, refl))

-- wire_bytes::u32_bytes
pub u32_bytes : One Rattle.wire_bytes.specs.contracts.u32_bytes.ended (λ M 𝓤. Rattle.wire_bytes.specs.contracts.u32_bytes.clauses)
u32_bytes x r q left over = both x.𝓤 _ _ _ (λ e f. (e ∙ sym f, refl))

-- wire_bytes::u64_bytes
pub u64_bytes : One Rattle.wire_bytes.specs.contracts.u64_bytes.ended (λ M 𝓤. Rattle.wire_bytes.specs.contracts.u64_bytes.clauses)
u64_bytes x r q left over = both x.𝓤 _ _ _ (λ e f. (e ∙ sym f, refl))

-- copying::put_bytes
pub put_bytes : One Rattle.copying.specs.contracts.put_bytes.ended (λ M 𝓤. Rattle.copying.specs.contracts.put_bytes.clauses)
put_bytes x r q left over = both x.𝓤 _ _ _ (λ e f. let same = leaves_placed _ r q _ _ e f in (same.0, λ i. (tt, (same.1 i, (tt, tt)))))
