-- What a run and a fold answer, by the marks of their lists: the laws of the public calls.
-- Assumes nothing.
use mathlib.Core.Path.{◌≡◌, refl, sym, ap, ap₂, ◌∙◌, fun_ext}
use mathlib.Core.Bool.{true, false}
use mathlib.Core.List.{List, [], ◌++◌, append-nil, map}
use Prim.Native.Nat.{ℕ, ◌+◌, ◌*◌, ◌≤◌, ◌<◌}
use native.Mathlib.Omega.{arith}
use native.Mathlib.Nat.{zero-add}
use lib.ListN.{length, get_or, length-append, length-map, replicate}
use borrow.Author.Tests.{le-ltb}
use Rattle.refusal.specs.Sizes.{most_bytes, most_entries}
use Rattle.refusal.specs.Answer.{Answer, given, refused, on_given, then_do}
use Rattle.refusal.specs.Output.{Output, output, emit, put}
use Rattle.laws.proofs.Parts.{every_append, every_byte}
use Rattle.laws.proofs.Puts.{put_then}
use Rattle.laws.proofs.Emits.{emit_refused}
use Rattle.tlv.specs.Entries.{Content, contents, Framing, framing}
use Rattle.tlv.specs.Limits.{count}
use Rattle.tlv_writing.specs.Encode.{encode_all, sized}
use Rattle.tlv.proofs.Walks.{from_start}
use Rattle.tlv.proofs.Tally as tally
use Rattle.tlv_writing.proofs.Several.{encode_append}
use Rattle.change_lists.specs.Operations.{Op, set, OpAt, ops_in, ops_of, bare, encode_ops, limited_ops, operations}
use Rattle.change_folds.specs.Run.{run_all, ran}
use Rattle.change_folds.specs.Fold.{lasts, sets_of, fold_all, sized_ops, folded, folded_two}
use Rattle.changes.specs.Loops.{ops_after, Marked, spared, chosen, gone_below, encode_sets, extent_of, folded_sets, folded_extent}
use Rattle.changes.specs.declared.Extent.{Extent}
use Rattle.change_folds.proofs.Lasts.{puts, run_is}
use Rattle.change_folds.proofs.Folds.{Typed}
use Rattle.change_folds.proofs.Effects.{sets_puts}
use Rattle.change_lists.proofs.Counts.{counted_given, counted_refused}
use Rattle.changes.proofs.Marks.{marks_one, marks_two, bare_append, bare_after, between_after, both_between, typed_after, chosen_append, chosen_is, spared_is, gone_is}
use Rattle.changes.proofs.Writes as w
use Rattle.changes.proofs.Removals.{ops_append, ops_sets, gone_bytes}

-- what two and three writers after one another have stored
pub put_both : (out mid end : List ℕ) (to : ℕ) (xs ys bs : List ℕ) → mid ≡ put out 0 xs → to ≡ length xs → end ≡ put mid to ys → bs ≡ xs ++ ys
    → end ≡ put out 0 bs
put_both out mid end to xs ys bs l k r e = r ∙ put_then out mid 0 to xs ys l (k ∙ sym (zero-add (length xs))) ∙ ap (put out 0) (sym e)

pub put_three : (out mid more end : List ℕ) (to next : ℕ) (xs ys zs bs : List ℕ) → mid ≡ put out 0 xs → to ≡ length xs
    → more ≡ put mid to ys → next ≡ to + length ys → end ≡ put more next zs → bs ≡ xs ++ (ys ++ zs) → end ≡ put out 0 bs
put_three out mid more end to next xs ys zs bs l k m n r e =
    put_both out mid end to xs (ys ++ zs) bs l k (r ∙ put_then mid more to next ys zs m n) e

-- ---- a run

abbrev pub left : (marks dataset list : List ℕ) → List Content
left m d l = spared m (contents (framing d).entries) ++ chosen m (ops_after 0 l)

module _ (d l : List ℕ) where
  pub run_refused : (n p k : ℕ) → refused n p k ≡ count 0 d → refused n p k ≡ ran d l
  unfolding ran
  run_refused n p k e = tally.counted_refused 0 _ d n p k e

  -- and as the answer and the output, which is what a return has to show
  pub run_refused_emits : (n p k : ℕ) (out : List ℕ) → refused n p k ≡ count 0 d → output (refused n p k) out ≡ emit (ran d l) out
  run_refused_emits n p k out e = emit_refused (ran d l) out n p k (run_refused n p k e)

  module _ (x : ℕ) (counted : given x ≡ count 0 d) where
    run_given : ran d l ≡ then_do (operations 1 l) (λ (os : List OpAt). sized (run_all (bare os) (contents (framing d).entries)))
    unfolding ran
    run_given =
        tally.counted_given 0 _ d x counted
        ∙ ap (λ (v : Framing). then_do (operations 1 l) (λ (os : List OpAt). sized (run_all (bare os) (contents v.entries)))) (from_start d)

    pub run_list_refused : (n p k : ℕ) → refused n p k ≡ on_given length (operations 1 l) → refused n p k ≡ ran d l
    run_list_refused n p k e = counted_refused 1 _ l n p k e ∙ sym run_given

    pub run_list_refused_emits : (n p k : ℕ) (out : List ℕ) → refused n p k ≡ on_given length (operations 1 l) → output (refused n p k) out ≡ emit (ran d l) out
    run_list_refused_emits n p k out e = emit_refused (ran d l) out n p k (run_list_refused n p k e)

    module _ (y : ℕ) (listed : given y ≡ on_given length (operations 1 l)) (octets : (i : ℕ) → get_or l i 0 < 256) (m : List ℕ)
        (marked : Marked m (replicate 256 0) (ops_after 0 l)) where
      pub run_sized : ran d l ≡ sized (left m d l)
      run_sized =
          let cs = contents (framing d).entries in
          let g = marks_one m (ops_after 0 l) marked in
          let fit = typed_after 0 l (every_byte l octets) in
          run_given ∙ ap (λ (a : Answer (List OpAt)). then_do a (λ (os : List OpAt). sized (run_all (bare os) cs))) (counted_given 1 l y listed)
          ∙ ap sized
          (ap (λ (os : List Op). run_all os cs) (sym (bare_after 0 l)) ∙ run_is (bare (ops_after 0 l)) cs
          ∙ ap₂ ◌++◌ (sym (spared_is m (ops_after 0 l) g fit cs)) (sym (chosen_is m (ops_after 0 l) g fit 0 (0 + length l) (between_after 0 l))))

pub left_bytes : (m d l : List ℕ) → encode_all (left m d l) ≡ encode_all (spared m (contents (framing d).entries)) ++ encode_sets false (chosen m (ops_after 0 l))
left_bytes m d l =
    encode_append (spared m (contents (framing d).entries)) (chosen m (ops_after 0 l))
    ∙ ap (λ (bs : List ℕ). encode_all (spared m (contents (framing d).entries)) ++ bs) (sym (w.sets_plain (chosen m (ops_after 0 l))))

-- the numbers that the loops give
module _ (m d l : List ℕ) (x y : Extent) (e : x ≡ extent_of (spared m (contents (framing d).entries))) (f : y ≡ extent_of (chosen m (ops_after 0 l))) where
  pub left_spared : x.bytes ≡ length (encode_all (spared m (contents (framing d).entries)))
  left_spared = ap (λ (z : Extent). z.bytes) e

  pub left_chosen : y.bytes ≡ length (encode_sets false (chosen m (ops_after 0 l)))
  left_chosen = ap (λ (z : Extent). z.bytes) f ∙ ap length (sym (w.sets_plain (chosen m (ops_after 0 l))))

  pub left_length : length (encode_all (left m d l)) ≡ x.bytes + y.bytes
  left_length = ap length (left_bytes m d l) ∙ length-append (encode_all (spared m (contents (framing d).entries))) _ ∙ ap₂ ◌+◌ (sym left_spared) (sym left_chosen)

  pub left_count : length (left m d l) ≡ x.entries + y.entries
  left_count =
      length-append (spared m (contents (framing d).entries)) (chosen m (ops_after 0 l))
      ∙ ap₂ ◌+◌ (ap (λ (z : Extent). z.entries) (sym e)) (ap (λ (z : Extent). z.entries) (sym f))

-- ---- a fold

-- the operations that two lists fold to, by the marks of both
abbrev pub fewest : (marks first second : List ℕ) → List Op
fewest m a b = gone_below 256 m ++ map set (folded_sets m a b)

module _ (os : List Op) where
  pub ops_fit : length (encode_ops os) ≤ most_bytes → length os ≤ most_entries → sized_ops os ≡ given (encode_ops os)
  unfolding sized_ops
  ops_fit h k = simp (le-ltb _ _ h, le-ltb _ _ k)

module _ (a b : List ℕ) where
  pub fold_refused : (n p k : ℕ) → refused n p k ≡ on_given length (operations 0 a) → refused n p k ≡ folded_two a b
  unfolding folded_two
  fold_refused n p k e = counted_refused 0 _ a n p k e

  module _ (x : ℕ) (counted : given x ≡ on_given length (operations 0 a)) where
    fold_given : folded_two a b ≡ then_do (operations 1 b) (λ (ps : List OpAt). sized_ops (fold_all (bare (ops_of a).ops ++ bare ps)))
    unfolding folded_two
    fold_given = rw (counted_given 0 a x counted)

    pub fold_second_refused : (n p k : ℕ) → refused n p k ≡ on_given length (operations 1 b) → refused n p k ≡ folded_two a b
    fold_second_refused n p k e = counted_refused 1 _ b n p k e ∙ sym fold_given

    module _ (y : ℕ) (listed : given y ≡ on_given length (operations 1 b)) (octets : (i : ℕ) → get_or a i 0 < 256) (more : (i : ℕ) → get_or b i 0 < 256)
        (k m : List ℕ) (marked : Marked k (replicate 256 0) (ops_after 0 a)) (both : Marked m k (ops_after (length a) b)) where
      fold_is : fold_all (bare (ops_of a).ops ++ bare (ops_of b).ops) ≡ fewest m a b
      unfolding fold_all folded_sets
      fold_is =
          let l = ops_after 0 a ++ ops_after (length a) b in
          let g = marks_two k m (ops_after 0 a) (ops_after (length a) b) marked both in
          let same : bare l ≡ bare (ops_of a).ops ++ bare (ops_of b).ops =
          bare_append (ops_after 0 a) (ops_after (length a) b) ∙ ap₂ ◌++◌ (bare_after 0 a) (bare_after (length a) b) in
          let fit : Typed (bare l) =
          rw (bare_append (ops_after 0 a) (ops_after (length a) b))
          (every_append _ (bare (ops_after 0 a)) (bare (ops_after (length a) b)) (typed_after 0 a (every_byte a octets)) (typed_after (length a) b (every_byte b more))) in
          let sets : chosen m (ops_after 0 a) ++ chosen m (ops_after (length a) b) ≡ puts (sets_of (lasts (bare l))) =
          sym (chosen_append m (ops_after 0 a) (ops_after (length a) b)) ∙ chosen_is m l g fit 0 (length a + length b) (both_between a b) in
          ap fold_all (sym same)
          ∙ ap₂ ◌++◌ (sym (gone_is m l g fit)) (sym (sets_puts (lasts (bare l))) ∙ ap (map set) (sym sets))

      pub fold_sized : folded_two a b ≡ sized_ops (fewest m a b)
      fold_sized =
          fold_given ∙ ap (λ (v : Answer (List OpAt)). then_do v (λ (ps : List OpAt). sized_ops (fold_all (bare (ops_of a).ops ++ bare ps)))) (counted_given 1 b y listed)
          ∙ ap sized_ops fold_is

module _ (m a b : List ℕ) where
  pub fewest_bytes : encode_ops (fewest m a b)
      ≡ encode_ops (gone_below 256 m) ++ (encode_sets true (chosen m (ops_after 0 a)) ++ encode_sets true (chosen m (ops_after (length a) b)))
  unfolding folded_sets
  fewest_bytes =
      ops_append (gone_below 256 m) (map set (folded_sets m a b))
      ∙ ap (λ (bs : List ℕ). encode_ops (gone_below 256 m) ++ bs)
      (ops_sets (folded_sets m a b) ∙ w.sets_append true (chosen m (ops_after 0 a)) (chosen m (ops_after (length a) b)))

  pub fewest_parts : length (encode_ops (fewest m a b))
      ≡ length (encode_ops (gone_below 256 m)) + (length (encode_sets true (chosen m (ops_after 0 a))) + length (encode_sets true (chosen m (ops_after (length a) b))))
  fewest_parts =
      ap length fewest_bytes ∙ length-append (encode_ops (gone_below 256 m)) _
      ∙ ap (λ (n : ℕ). length (encode_ops (gone_below 256 m)) + n) (length-append (encode_sets true (chosen m (ops_after 0 a))) _)

  module _ (r : Extent) (is : r ≡ folded_extent m a b) where
    pub fewest_length : length (encode_ops (fewest m a b)) ≡ r.bytes
    fewest_length =
        ap length (ops_append (gone_below 256 m) (map set (folded_sets m a b)) ∙ ap (λ (bs : List ℕ). encode_ops (gone_below 256 m) ++ bs) (ops_sets (folded_sets m a b)))
        ∙ length-append (encode_ops (gone_below 256 m)) _ ∙ ap (λ (z : Extent). z.bytes) (sym is)

    pub fewest_count : length (fewest m a b) ≡ r.entries
    fewest_count =
        length-append (gone_below 256 m) (map set (folded_sets m a b))
        ∙ ap (λ (n : ℕ). length (gone_below 256 m) + n) (length-map (folded_sets m a b) set) ∙ ap (λ (z : Extent). z.entries) (sym is)

  -- the number that `folded_extent` makes of its parts
  pub extent_made : (n : ℕ) (x y : Extent) → n ≡ length (gone_below 256 m) → x ≡ extent_of (chosen m (ops_after 0 a)) → y ≡ extent_of (chosen m (ops_after (length a) b))
      → record { bytes = 3 * n + (2 * (x.entries + y.entries) + (x.bytes + y.bytes)); entries = n + (x.entries + y.entries) } ≡ folded_extent m a b
  unfolding folded_sets
  extent_made n x y c e f =
      let p = chosen m (ops_after 0 a) in
      let q = chosen m (ops_after (length a) b) in
      let bytes : length (encode_ops (gone_below 256 m)) + length (encode_sets true (p ++ q)) ≡ 3 * n + (2 * (length p + length q) + (length (encode_all p) + length (encode_all q))) =
      omega (arith, gone_bytes m 256, c, w.sets_length (p ++ q), length-append p q, ap length (encode_append p q), length-append (encode_all p) (encode_all q)) in
      rw (e, f, bytes, length-append p q, ← c)

-- ---- a fold of one list is a fold of two, the second empty

no_operations : operations 1 [] ≡ given []
unfolding operations limited_ops ops_of ops_in
no_operations = refl

fold_one : (l : List ℕ) → folded_two l [] ≡ folded l
unfolding folded_two folded bare
fold_one l = rw no_operations (ap (then_do (operations 0 l)) (fun_ext λ (os : List OpAt). ap (λ (ps : List Op). sized_ops (fold_all ps)) (append-nil (bare os))))

pub fold_emits : (l out : List ℕ) (o : Output) → o ≡ emit (folded_two l []) out → o ≡ emit (folded l) out
fold_emits l out o e = e ∙ ap (λ (a : Answer (List ℕ)). emit a out) (fold_one l)
