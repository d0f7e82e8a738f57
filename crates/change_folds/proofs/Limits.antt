-- Change lists within the limits: that their operations can be written, and what 10 tests.
-- Assumes nothing.
use mathlib.Core.Path.{◌≡◌, refl, sym, ap, ◌∙◌, subst}
use mathlib.Core.List.{List, [], ◌∷◌}
use Prim.Native.Nat.{ℕ, suc, ◌≤◌, ◌<◌, zero-le}
use native.Mathlib.Omega.{arith}
use lib.Dec.{ltb, leb}
use lib.ListN.{length, length-append}
use borrow.Author.Tests.{le-ltb, ltb-false, leb-true, leb-false}
use Rattle.refusal.specs.Sizes.{most_bytes, most_entries, most_short}
use Rattle.refusal.specs.Answer.{pick, given, refused}
use Rattle.laws.proofs.Tests.{by_test}
use Rattle.tlv_writing.specs.Encode.{header, encode}
use Rattle.tlv_writing.proofs.Encodes.{header_short, header_long}
use Rattle.refusal.specs.Every.{Bytes}
use Rattle.change_lists.specs.Operations.{Op, set, remove, OpAt, ops_of, bare, encode_op, encode_ops}
use Rattle.change_folds.specs.Fold.{about, types, fold_all, sized_ops}
use Rattle.change_folds.specs.Demand.{Changes}
use Rattle.laws.proofs.Parts.{every_append, every_parts}
use Rattle.change_folds.proofs.Folds.{Typed, every_fold}
use Rattle.change_folds.proofs.Weights.{fold_bytes, fold_count}
use Rattle.change_folds.proofs.Backs.{ops_back}
use Rattle.change_lists.proofs.Given.{Read, was_given, are_given}
use Rattle.change_lists.proofs.Reading.{Writable, read_good}

length_bare : (os : List OpAt) → length (bare os) ≡ length os
unfolding bare
length_bare [] = refl
length_bare (o ∷ os) = ap suc (length_bare os)

-- every operation takes a byte at least
count_bytes : (os : List Op) → length os ≤ length (encode_ops os)
unfolding encode_ops encode_op
count_bytes [] = zero-le
count_bytes (set c ∷ os) = let less = count_bytes os in simp length-append (omega arith)
count_bytes (remove t ∷ os) = let less = count_bytes os in omega arith

-- operations that were written within the limits are read
written_read : (os : List Op) → length (encode_ops os) ≤ most_bytes → length os ≤ most_entries
    → (ps : List OpAt) × Read (encode_ops os) ps × (bare ps ≡ os)
unfolding ops_of
written_read os h k =
    let s = encode_ops os in
    let back = ops_back os (length s) 0 (count_bytes os) in
    let same = sym (length_bare (ops_of s).ops) ∙ ap length back.1 in
    ((ops_of s).ops, record { short = h; few = omega arith; uncut = back.0; are = refl }, back.1)

-- ---- operations that are written in bytes

written_octets : (os : List Op) → Writable os → Bytes (encode_ops os)
unfolding encode_ops
written_octets [] g = tt
written_octets (o ∷ os) g = every_append _ (encode_op o) (encode_ops os) g.0 (written_octets os g.1)

type_octet : (t : ℕ) (v : List ℕ) → Bytes (encode t v) → t < 256
unfolding encode
type_octet t v o =
    let n = length v in
    let h = (every_parts _ (header t n) v o).0 in
    by_test (leb n most_short) (λ e. (rw (header_short t n (leb-true _ _ e)) at h).0) (λ e. (rw (header_long t n (leb-false _ _ e)) at h).0)

pub typed : (os : List Op) → Writable os → Typed os
unfolding encode_op about types
typed [] g = tt
typed (set c ∷ os) g = (type_octet c.ty c.value g.0.1.1, typed os g.1)
typed (remove t ∷ os) g = (g.0.1.1.0, typed os g.1)

-- ---- sizes

-- what is given under the two tests of 10
pub tested : (bs : List ℕ) (n : ℕ) (x : List ℕ)
    → pick (ltb most_bytes (length bs)) (refused 10 0 0) (pick (ltb most_entries n) (refused 10 0 0) (given bs)) ≡ given x
    → (bs ≡ x) × (length bs ≤ most_bytes) × (n ≤ most_entries)
tested bs n x h =
    by_test (ltb most_bytes (length bs))
    (λ e. let no = rw e at h in absurd (let z : ◌≡◌ {A = ℕ} 0 1 = cc in omega arith))
    (λ e. by_test (ltb most_entries n)
    (λ f. let no = rw (e, f) at h in absurd (let z : ◌≡◌ {A = ℕ} 0 1 = cc in omega arith))
    (λ f. let same = rw (e, f) at h in ((cc), ltb-false _ _ e, ltb-false _ _ f)))

-- ---- operations within the limits
pub record Within (os : List Op) : Type 0 where
  pub writable : Writable os
  pub short : length (encode_ops os) ≤ most_bytes
  pub few : length os ≤ most_entries

pub ops_within : {l : List ℕ} (c : Changes l) → Within (bare c.ops)
ops_within {l} c =
    let r = was_given 0 l c.ops c.within in
    let g = rw r.are at (read_good l c.octets) in
    record { writable = g.1; short = omega (arith, g.0, r.short); few = omega (arith, length_bare c.ops, r.few) }

-- a list is never shorter than its operations as they are written
pub read_short : {l : List ℕ} (c : Changes l) → length (encode_ops (bare c.ops)) ≤ length l
read_short {l} c =
    let r = was_given 0 l c.ops c.within in
    let g = rw r.are at (read_good l c.octets) in
    g.0

fold_writable : (os : List Op) → Writable os → Writable (fold_all os)
unfolding encode_op types
fold_writable os g = every_fold _ os (λ t l. (omega arith, (omega arith, (l, tt)))) g

pub fold_given : (os : List Op) → Within os → sized_ops (fold_all os) ≡ given (encode_ops (fold_all os))
unfolding sized_ops
fold_given os w =
    rw (le-ltb most_bytes (length (encode_ops (fold_all os))) (omega (arith, fold_bytes os, w.short)))
    (rw (le-ltb most_entries (length (fold_all os)) (omega (arith, fold_count os, w.few))))

-- what a fold gives is a change list within the limits, and its operations are the fold
pub made : (os : List Op) (x : List ℕ) → Writable os → sized_ops (fold_all os) ≡ given x → (c : Changes x) × (bare c.ops ≡ fold_all os)
unfolding sized_ops
made os x g h =
    let s = tested (encode_ops (fold_all os)) (length (fold_all os)) x h in
    let r = written_read (fold_all os) s.1 s.2 in
    subst (λ (y : List ℕ). (c : Changes y) × (bare c.ops ≡ fold_all os)) s.0
    (record { octets = written_octets (fold_all os) (fold_writable os g); ops = r.0; within = are_given 0 _ r.0 r.1 }, r.2)
