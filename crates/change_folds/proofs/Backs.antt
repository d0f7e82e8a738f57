-- What was written reads back, so what is written alike is alike.
-- Assumes nothing.
use mathlib.Core.Path.{◌≡◌, refl, sym, ap, ap₂, ◌∙◌}
use mathlib.Core.List.{List, [], ◌∷◌, ◌++◌}
use Prim.Native.Nat.{ℕ, zero, suc, ◌+◌, ◌≤◌}
use native.Mathlib.Omega.{arith}
use lib.ListN.{length}
use Rattle.tlv.specs.Entries.{first, Content, content, clean}
use Rattle.tlv_writing.specs.Encode.{encode_all}
use Rattle.tlv_writing.proofs.Round.{first_back}
use Rattle.change_lists.specs.Operations.{Op, set, remove, operation, set_of, removal_of, first_op, op_step, ops_in, bare, encode_op, encode_ops}

op_back : (o : Op) (rest : List ℕ) → first_op (encode_op o ++ rest) ≡ operation o rest
unfolding first_op encode_op set_of removal_of
op_back (set c) rest = rw (first_back c.ty c.value rest)
op_back (remove t) rest = refl

pub ops_back : (os : List Op) (fuel at : ℕ) → length os ≤ fuel
    → ((ops_in fuel at (encode_ops os)).stop ≡ clean) × (bare (ops_in fuel at (encode_ops os)).ops ≡ os)
unfolding ops_in op_step encode_ops first_op bare
ops_back [] zero at h = (refl, refl)
ops_back [] (suc k) at h = (refl, refl)
ops_back (o ∷ os) zero at h = absurd (omega arith)
ops_back (o ∷ os) (suc k) at h = rw (op_back o (encode_ops os)) ((ops_back os k _ (omega arith)).0, ap (λ r. o ∷ r) (ops_back os k _ (omega arith)).1)

pub ops_alike : (a b : List Op) → encode_ops a ≡ encode_ops b → a ≡ b
ops_alike a b e =
    let k = length a + length b in
    sym (ops_back a k 0 (omega arith)).1 ∙ ap (λ (s : List ℕ). bare (ops_in k 0 s).ops) e ∙ (ops_back b k 0 (omega arith)).1

pub entries_alike : (a b : List Content) → encode_all a ≡ encode_all b → a ≡ b
unfolding encode_all first
entries_alike [] [] e = refl
entries_alike [] (d ∷ b) e =
    let none_is_one = ap first e ∙ first_back d.ty d.value (encode_all b) in
    absurd (let z : ◌≡◌ {A = ℕ} 0 1 = cc in omega arith)
entries_alike (c ∷ a) [] e =
    let one_is_none = sym (first_back c.ty c.value (encode_all a)) ∙ ap first e in
    absurd (let z : ◌≡◌ {A = ℕ} 0 1 = cc in omega arith)
entries_alike (c ∷ a) (d ∷ b) e =
    let same = sym (first_back c.ty c.value (encode_all a)) ∙ ap first e ∙ first_back d.ty d.value (encode_all b) in
    let rest : encode_all a ≡ encode_all b = cc in
    let heads : content c.ty c.value ≡ content d.ty d.value = cc in
    ap₂ ◌∷◌ heads (entries_alike a b rest)
