-- The removals that the marks ask for, one type more at a time, and how operations are stored.
-- Assumes nothing.
use mathlib.Core.Path.{◌≡◌, refl, sym, ap, ◌∙◌}
use mathlib.Core.Bool.{true, false}
use mathlib.Core.List.{List, [], ◌∷◌, ◌++◌, append_assoc, append-nil, map}
use Prim.Native.Nat.{ℕ, zero, suc, ◌+◌, ◌*◌, ◌-◌, ◌≤◌}
use native.Mathlib.Omega.{arith}
use native.Mathlib.Numerals.{towards_suc, add-one}
use native.Mathlib.Nat.{zero-add, add-suc, add-zero}
use lib.Dec.{eqb}
use lib.ListN.{length, get_or, length-append}
use lib.ListN as list
use borrow.Author.Tests.{eq-eqb, ne_eqb}
use Rattle.refusal.specs.Output.{put}
use Rattle.laws.proofs.Tests.{by_test}
use Rattle.laws.proofs.Puts.{put_then}
use Rattle.tlv.specs.Entries.{Content}
use Rattle.tlv_writing.specs.Encode.{encode}
use Rattle.change_lists.specs.Operations.{Op, set, remove, encode_op, encode_ops}
use Rattle.changes.specs.Loops.{gone_below, encode_set, encode_sets}

-- ---- operations as they are written

pub ops_append : (a b : List Op) → encode_ops (a ++ b) ≡ encode_ops a ++ encode_ops b
unfolding encode_ops
ops_append [] b = refl
ops_append (o ∷ a) b = ap (λ (l : List ℕ). encode_op o ++ l) (ops_append a b) ∙ sym (append_assoc (encode_op o) (encode_ops a) (encode_ops b))

pub ops_sets : (cs : List Content) → encode_ops (map set cs) ≡ encode_sets true cs
unfolding encode_ops encode_sets encode_set
ops_sets [] = refl
ops_sets (c ∷ cs) = ap (λ (l : List ℕ). encode_op (set c) ++ l) (ops_sets cs)

removal_bytes : (t : ℕ) → encode_ops (remove t ∷ []) ≡ 82 ∷ 77 ∷ t ∷ []
unfolding encode_ops encode_op
removal_bytes t = refl

-- ---- stores

module _ (c : Content) where
  pub set_length : length (encode_set true c) ≡ 2 + length (encode c.ty c.value)
  unfolding encode_set encode_op
  set_length = omega arith

  pub plain_is : encode_set false c ≡ encode c.ty c.value
  unfolding encode_set
  plain_is = refl

  pub set_stored : (out : List ℕ) (at : ℕ)
      → put (list.set (list.set out at 83) (at + 1) 69) (at + 2) (encode c.ty c.value) ≡ put out at (encode_set true c)
  unfolding put encode_set encode_op
  set_stored out at = simp towards_suc

removal_stored : (out : List ℕ) (at t : ℕ) → list.set (list.set (list.set out at 82) (at + 1) 77) (at + 2) t ≡ put out at (82 ∷ 77 ∷ t ∷ [])
unfolding put
removal_stored out at t = simp towards_suc

-- ---- one type more

module _ (m : List ℕ) where
  pub gone_start : encode_ops (gone_below 0 m) ≡ []
  unfolding gone_below encode_ops
  gone_start = refl

  pub gone_none : length (gone_below 0 m) ≡ 0
  unfolding gone_below
  gone_none = refl

  module _ (t : ℕ) where
    gone_more : get_or m t 0 ≡ 1 → gone_below (t + 1) m ≡ gone_below t m ++ (remove t ∷ [])
    unfolding gone_below
    gone_more e = rw add-one (simp (eq-eqb _ _ e))

    pub gone_skip : (get_or m t 0 ≡ 1 → ⊥) → gone_below (t + 1) m ≡ gone_below t m
    unfolding gone_below
    gone_skip e = rw add-one (simp (ne_eqb _ _ e) (append-nil (gone_below t m)))

    pub gone_count : get_or m t 0 ≡ 1 → length (gone_below (t + 1) m) ≡ length (gone_below t m) + 1
    gone_count e = ap length (gone_more e) ∙ length-append (gone_below t m) (remove t ∷ [])

    gone_bytes_more : get_or m t 0 ≡ 1 → encode_ops (gone_below (t + 1) m) ≡ encode_ops (gone_below t m) ++ (82 ∷ 77 ∷ t ∷ [])
    gone_bytes_more e =
        ap encode_ops (gone_more e) ∙ ops_append (gone_below t m) (remove t ∷ []) ∙ ap (λ (l : List ℕ). encode_ops (gone_below t m) ++ l) (removal_bytes t)

    -- what a turn stores
    pub gone_stored : (first out : List ℕ) (to : ℕ) → get_or m t 0 ≡ 1 → out ≡ put first 0 (encode_ops (gone_below t m)) → to ≡ length (encode_ops (gone_below t m))
        → list.set (list.set (list.set out to 82) (to + 1) 77) (to + 2) t ≡ put first 0 (encode_ops (gone_below (t + 1) m))
    gone_stored first out to e l k =
        removal_stored out to t
        ∙ put_then first out 0 to (encode_ops (gone_below t m)) (82 ∷ 77 ∷ t ∷ []) l (k ∙ sym (zero-add _))
        ∙ ap (put first 0) (sym (gone_bytes_more e))

  -- a removal takes three bytes
  pub gone_bytes : (n : ℕ) → length (encode_ops (gone_below n m)) ≡ 3 * length (gone_below n m)
  unfolding gone_below encode_ops encode_op
  gone_bytes zero = refl
  gone_bytes (suc n) =
      let h = gone_bytes n in
      by_test (eqb (get_or m n 0) 1)
      (λ e. rw (e, ops_append (gone_below n m) (remove n ∷ []), length-append (encode_ops (gone_below n m)), length-append (gone_below n m)) (omega arith))
      (λ e. rw (e, append-nil (gone_below n m)) h)

  grows : (n k : ℕ) → length (gone_below n m) ≤ length (gone_below (n + k) m)
  unfolding gone_below
  grows n zero = rw add-zero (omega arith)
  grows n (suc k) =
      let h = grows n k in
      rw (add-suc n k, length-append (gone_below (n + k) m)) (omega arith)

  pub gone_grows : (n : ℕ) → n ≤ 256 → length (gone_below n m) ≤ length (gone_below 256 m)
  gone_grows n h = let e : n + (256 - n) ≡ 256 = omega arith in rw e at (grows n (256 - n))
