-- Reading change lists: what was read from bytes is written in bytes again, and no longer; and the operations from a place on are one step,
-- then the operations from the next place. No proof but these and change_folds/proofs/Backs.antt looks at the fuel.
-- Assumes nothing.
use mathlib.Core.Path.{◌≡◌, refl, sym, ap, ◌∙◌}
use mathlib.Core.Bool.{◌&&◌}
use mathlib.Core.List.{List, [], ◌∷◌, ◌++◌}
use Prim.Native.Nat.{ℕ, zero, suc, ◌+◌, ◌-◌, ◌*◌, ◌≤◌, zero-le}
use native.Mathlib.Omega.{arith}
use lib.Dec.{leb, eqb}
use lib.ListN.{length, take, drop, length-append, length-drop}
use lib.Seq.{drop-append-add, drop-drop, length-take-le}
use borrow.Author.Tests.{leb-true, leb-false, eqb-false}
use Rattle.refusal.specs.Sizes.{most_short}
use Rattle.laws.proofs.Tests.{by_test, pick_all}
use Rattle.refusal.specs.Every.{Every, Bytes}
use Rattle.tlv.specs.Entries.{First, none, cut, one, valued, long, first}
use Rattle.tlv_writing.specs.Encode.{header, encode}
use Rattle.tlv_writing.proofs.Encodes.{header_short, header_long}
use Rattle.change_lists.specs.Operations.{Op, FirstOp, nothing, bad, operation, set_of, removal_of, first_op, OpAt, op_at, Listed, after, op_step, ops_in, ops_of, bare, encode_op, encode_ops}
use Rattle.laws.proofs.Parts.{every_append, every_parts, every_take, every_drop}

-- ---- what stands first

-- the first `size` bytes of s were read and rest is left; where s is bytes, what was read is written as enc in bytes, and no longer
pub record Taken (s enc rest : List ℕ) : Type 0 where
  pub size : ℕ
  pub some : 1 ≤ size
  pub inside : size ≤ length s
  pub left : rest ≡ drop size s
  pub octets : Bytes s → (length enc ≤ size) × Bytes enc

-- an entry that stands first
abbrev TakenEntry : List ℕ → First → Type 0
TakenEntry s none = Unit {0}
TakenEntry s cut = Unit {0}
TakenEntry s (one t h v rest) = Taken s (encode t v) rest

-- the header g of the input, then the value, which is n bytes of r
valued_taken : (t h n : ℕ) (g r : List ℕ) → 1 ≤ length g → (Bytes g → (length (header t n) ≤ length g) × Bytes (header t n))
    → TakenEntry (g ++ r) (valued t h n r)
unfolding valued encode
valued_taken t h n g r some head =
    pick_all (TakenEntry (g ++ r)) (leb n (length r)) (one t h (take n r) (drop n r)) cut
    (λ e.
    let fits = leb-true _ _ e in
    let len = length-take-le n r fits in
    record {
      size = length g + n;
      some = omega arith;
      inside = omega (arith, length-append g r);
      left = sym (drop-append-add g r n);
      octets = λ o.
          let p = every_parts _ g r o in
          let k = head p.0 in
          rw len (simp length-append (omega arith), every_append _ (header t n) (take n r) k.1 (every_take _ n r p.1));
    })
    (λ e. tt)

long_taken : (t l : ℕ) (r : List ℕ) → TakenEntry (t ∷ l ∷ r) (long t r)
unfolding long
long_taken t l [] = tt
long_taken t l (a ∷ []) = tt
long_taken t l (a ∷ b ∷ r) =
    let n = a * 256 + b in
    valued_taken t 4 n (t ∷ l ∷ a ∷ b ∷ []) r (omega arith)
    (λ o.
    by_test (leb n most_short)
    (λ e. let h = leb-true n most_short e in rw (header_short t n h) (omega arith, (o.0, (omega arith, tt))))
    (λ e. rw (header_long t n (leb-false n most_short e)) (omega arith, (o.0, (omega arith, (omega arith, (omega arith, tt)))))))

entry_taken : (s : List ℕ) → TakenEntry s (first s)
unfolding first
entry_taken [] = tt
entry_taken (t ∷ []) = tt
entry_taken (t ∷ l ∷ r) =
    pick_all (TakenEntry (t ∷ l ∷ r)) (eqb l 255) (long t r) (valued t 2 l r) (λ e. long_taken t l r)
    (λ e.
    let apart = eqb-false l 255 e in
    valued_taken t 2 l (t ∷ l ∷ []) r (omega arith) (λ o. rw (header_short t l (omega arith)) (omega arith, o)))

-- an operation that stands first
abbrev pub TakenOp : List ℕ → FirstOp → Type 0
TakenOp s nothing = Unit {0}
TakenOp s bad = Unit {0}
TakenOp s (operation o rest) = Taken s (encode_op o) rest

set_taken : (m k : ℕ) (r : List ℕ) (x : First) → TakenEntry r x → TakenOp (m ∷ k ∷ r) (set_of x)
unfolding set_of encode_op
set_taken m k r none t = tt
set_taken m k r cut t = tt
set_taken m k r (one y h v rest) t = record {
  size = suc (suc t.size);
  some = omega arith;
  inside = omega (arith, t.inside);
  left = t.left;
  octets = λ o. let e = t.octets o.1.1 in (omega arith, (omega arith, (omega arith, e.1)));
}

removal_taken : (m k : ℕ) (r : List ℕ) → TakenOp (m ∷ k ∷ r) (removal_of r)
unfolding removal_of encode_op
removal_taken m k [] = tt
removal_taken m k (t ∷ r) = record {
  size = 3;
  some = omega arith;
  inside = omega arith;
  left = refl;
  octets = λ o. (omega arith, (omega arith, (omega arith, (o.1.1.0, tt))));
}

pub op_taken : (s : List ℕ) → TakenOp s (first_op s)
unfolding first_op
op_taken [] = tt
op_taken (m ∷ []) = tt
op_taken (m ∷ k ∷ r) =
    let P = TakenOp (m ∷ k ∷ r) in
    pick_all P (eqb m 83 && eqb k 69) (set_of (first r)) _ (λ e. set_taken m k r (first r) (entry_taken r))
    (λ e. pick_all P (eqb m 82 && eqb k 77) (removal_of r) bad (λ f. removal_taken m k r) (λ f. tt))

-- ---- all operations

-- those that are written in bytes
abbrev pub Writable : List Op → Type 0
Writable = Every (λ (o : Op). Bytes (encode_op o))

-- what operations that were read from s are, written again
abbrev pub Good : List ℕ → List OpAt → Type 0
Good s os = (length (encode_ops (bare os)) ≤ length s) × Writable (bare os)

step_good : (at : ℕ) (s : List ℕ) (x : FirstOp) (next : ℕ → List ℕ → Listed) → TakenOp s x → Bytes s
    → ((n : ℕ) (r : List ℕ) → Bytes r → Good r (next n r).ops) → Good s (op_step at s x next).ops
unfolding op_step bare encode_ops
step_good at s nothing next t o h = (zero-le, tt)
step_good at s bad next t o h = (zero-le, tt)
step_good at s (operation p rest) next t o h =
    let g = h (at + (length s - length rest)) rest (rw t.left (every_drop _ t.size s o)) in
    let e = t.octets o in
    let l : length rest ≡ length s - t.size = rw t.left (length-drop t.size s) in
    (rw (length-append (encode_op p)) (omega (arith, t.inside, g.0, e.0)), (e.1, g.1))

ops_good : (fuel at : ℕ) (s : List ℕ) → Bytes s → Good s (ops_in fuel at s).ops
unfolding ops_in bare encode_ops
ops_good zero at s o = (zero-le, tt)
ops_good (suc k) at s o = step_good at s (first_op s) (λ n r. ops_in k n r) (op_taken s) o (λ n r. ops_good k n r)

pub read_good : (s : List ℕ) → Bytes s → Good s (ops_of s).ops
unfolding ops_of
read_good s o = ops_good (length s) 0 s o

-- ---- the operations from a place on, with no fuel

step_same : (at : ℕ) (s : List ℕ) (x : FirstOp) (p q : ℕ → List ℕ → Listed) → TakenOp s x
    → ((k : ℕ) → 1 ≤ k → k ≤ length s → p (at + k) (drop k s) ≡ q (at + k) (drop k s)) → op_step at s x p ≡ op_step at s x q
unfolding op_step
step_same at s nothing p q t h = refl
step_same at s bad p q t h = refl
step_same at s (operation o rest) p q t h =
    let k : length s - length (drop t.size s) ≡ t.size = rw length-drop (omega (arith, t.inside)) in
    rw (t.left, k) (ap (after (op_at at o)) (h t.size t.some t.inside))

ops_more : (fuel at : ℕ) (s : List ℕ) → length s ≤ fuel → ops_in fuel at s ≡ ops_in (suc fuel) at s
unfolding ops_in op_step first_op
ops_more zero at [] h = refl
ops_more zero at (x ∷ s) h = absurd (omega arith)
ops_more (suc k) at s h =
    step_same at s (first_op s) (λ n r. ops_in k n r) (λ n r. ops_in (suc k) n r) (op_taken s)
    (λ j some inside. ops_more k (at + j) (drop j s) (rw length-drop (omega arith)))

unfoldable pub ops_from : List ℕ → ℕ → Listed
ops_from s at = ops_in (length s) at (drop at s)

pub ops_start : (s : List ℕ) → ops_from s 0 ≡ ops_of s
unfolding ops_from ops_of
ops_start s = refl

-- THE STEP, with no fuel in it
pub ops_step : (s : List ℕ) (at : ℕ)
    → ops_from s at ≡ op_step at (drop at s) (first_op (drop at s)) (λ (next : ℕ) (rest : List ℕ). ops_from s next)
unfolding ops_from ops_in
ops_step s at =
    ops_more (length s) at (drop at s) (rw length-drop (omega arith))
    ∙ step_same at (drop at s) (first_op (drop at s)) (λ n r. ops_in (length s) n r) (λ n r. ops_from s n) (op_taken (drop at s))
    (λ k some inside. rw drop-drop)
