-- `speed::speed_address_text` meets its contract.
use mathlib.Core.Path.{◌≡◌, ◌∙◌, ap}
use Prim.Native.Nat.{ℕ}
use mathlib.Core.List.{List}
use lib.ListN.{replicate}
use Rattle.refusal.specs.Answer.{Answer, given}
use Rattle.refusal.specs.Output.{Output, output, emit, Placed, placing, placed}
use Rattle.address_forms.specs.AddressText.{address_text}
use Rattle.speed.specs.Code.{code}
use Rattle.speed.specs.Address.{address_in}
use Rattle.speed.proofs.speed_address_text.Goals as goal

taken : (n : ℕ) (bytes address : List ℕ) (a : Answer ℕ) (left out : List ℕ) → placing n address ≡ placed bytes 0 (replicate 16 0) → output a left ≡ emit (given (address_text address)) out → output a left ≡ emit (given (address_text (address_in bytes))) out
unfolding address_in
taken n bytes address a left out put wrote = wrote ∙ ap (λ (p : Placed). emit (given (address_text p.left)) out) put

pub returns : goal.returns
returns c =
    let wrote = taken _ _ _ _ _ _ c.put_bytes.ensures c.write_address.ensures in
    (c.coded.ensures ∙ ap (λ (o : Output). code o.answer) wrote, ap (λ (o : Output). o.left) wrote)
