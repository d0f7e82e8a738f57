-- The bytes of a Route64 by value, stored one by one: those of the rows from n on are to be stored.
-- Assumes nothing.
use mathlib.Core.Path.{◌≡◌, refl, sym, ap, ◌∙◌}
use mathlib.Core.List.{List, ◌∷◌, ◌++◌, map}
use Prim.Native.Nat.{ℕ, ◌+◌, ◌≤◌, ◌<◌}
use native.Mathlib.Omega.{arith}
use lib.ListN.{length, get_or, take, drop, set, replicate, length-map}
use lib.Seq.{length-take-le, take_all, take-append_seam}
use Rattle.refusal.specs.Output.{put}
use Rattle.laws.proofs.Parts.{elements, part_elements}
use Rattle.laws.proofs.Puts.{put_none, put_byte, put_then, put_start}
use Rattle.route64.specs.declared.Route64.{Route64}
use Rattle.route64.specs.declared.RouteDataEntry.{RouteDataEntry}
use Rattle.value_writing.specs.Encode.{route_byte, route64_bytes}
use Rattle.record_writing.specs.Lent.{route_used}
use Rattle.writing_plans.proofs.Left.{left, left_start, left_end, left_more}

module _ (t : Route64) where
  abbrev row_bytes : ℕ → List ℕ
  row_bytes n = map route_byte (left t.route_data t.count n)

  abbrev pub Stored : List ℕ → ℕ → Type 0
  Stored a n = take (9 + t.count) (put a (9 + n) (row_bytes n)) ≡ route64_bytes (route_used t)

  abbrev front : List ℕ
  front = t.id_sequence ∷ elements 8 0 t.mask

  front_stored : front ++ replicate 64 0 ≡ put (replicate 73 0) 0 front
  unfolding put
  front_stored = refl

  pub stored_end : (a : List ℕ) (n : ℕ) → t.count ≤ n → Stored a n → take (9 + t.count) a ≡ route64_bytes (route_used t)
  stored_end a n h s =
      let none = ap (map route_byte) (left_end t.route_data t.count n h) in
      ap (take (9 + t.count)) (sym (ap (put a (9 + n)) none ∙ put_none a (9 + n))) ∙ s

  module _ (few : t.count ≤ 64) (full : length t.route_data ≡ 64) where
    rows_length : length (row_bytes 0) ≡ t.count
    rows_length =
        length-map (left t.route_data t.count 0) route_byte ∙ ap length (left_start t.route_data t.count)
        ∙ length-take-le t.count t.route_data (omega arith)

    pub stored_start : length t.mask ≡ 8 → Stored (front ++ replicate 64 0) 0
    unfolding route64_bytes
    stored_start eight =
        let n : length (front ++ row_bytes 0) ≡ 9 + t.count = omega (arith, rows_length) in
        let mask = sym (part_elements 8 0 t.mask (omega arith)) ∙ take_all 8 t.mask (omega arith) in
        ap (take (9 + t.count))
        (put_then (replicate 73 0) (front ++ replicate 64 0) 0 9 front (row_bytes 0) front_stored refl ∙ put_start (replicate 73 0) (front ++ row_bytes 0) (omega arith))
        ∙ ap (λ (k : ℕ). take k (front ++ row_bytes 0 ++ drop (length (front ++ row_bytes 0)) (replicate 73 0))) (sym n)
        ∙ take-append_seam (front ++ row_bytes 0) _
        ∙ ap (λ (l : List ℕ). t.id_sequence ∷ (l ++ row_bytes 0)) mask
        ∙ ap (λ (l : List RouteDataEntry). t.id_sequence ∷ (t.mask ++ map route_byte l)) (left_start t.route_data t.count)

    pub stored_more : (a : List ℕ) (n b : ℕ) (d : RouteDataEntry) → n < t.count → b ≡ route_byte (get_or t.route_data n d) → Stored a n
        → Stored (set a (9 + n) b) (n + 1)
    stored_more a n b d h e s =
        let z : 9 + (n + 1) ≡ 9 + n + 1 = omega arith in
        let more = ap (map route_byte) (left_more t.route_data t.count d n h (omega arith)) in
        ap (take (9 + t.count))
        (ap (λ (k : ℕ). put (set a (9 + n) b) k (row_bytes (n + 1))) z ∙ sym (put_byte a (9 + n) b (row_bytes (n + 1)))
        ∙ ap (λ (x : ℕ). put a (9 + n) (x ∷ row_bytes (n + 1))) e ∙ ap (put a (9 + n)) (sym more))
        ∙ s
