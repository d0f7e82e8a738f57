-- The entries of bytes: types and values are bytes, a length is below 65,536, and places and lengths lie within the input.
-- Assumes nothing.
use mathlib.Core.Path.{◌≡◌}
use mathlib.Core.List.{List, [], ◌∷◌}
use Prim.Native.Nat.{ℕ, zero, suc, ◌+◌, ◌*◌, ◌≤◌, ◌<◌}
use native.Mathlib.Omega.{arith}
use lib.ListN.{length, length-drop, drop, take, get_or}
use lib.Seq.{length-take-le}
use lib.Dec.{leb, eqb}
use borrow.Author.Tests.{leb-true}
use Rattle.laws.proofs.Tests.{pick_all}
use Rattle.laws.proofs.Parts.{every_take, every_drop}
use Rattle.refusal.specs.Every.{Every, Bytes}
use Rattle.tlv.specs.Entries.{First, none, cut, one, valued, long, first, Entry, entry, Stop, clean, cut_at, Framing, step, frames, framing}

-- an entry of bytes that lie before a place
abbrev pub Fits : ℕ → Entry → Type 0
Fits end e = (e.ty < 256) × (e.place ≤ end) × (length e.value ≤ end) × (length e.value < 65536) × Bytes e.value

abbrev pub Stops : ℕ → Stop → Type 0
Stops end clean = Unit {0}
Stops end (cut_at p) = p ≤ end

abbrev pub FirstFits : List ℕ → First → Type 0
FirstFits s none = Unit {0}
FirstFits s cut = Unit {0}
FirstFits s (one t h v rest) =
    (t < 256) × Bytes rest × (h + length v + length rest ≤ length s) × (2 ≤ h) × Bytes v × (length v < 65536)

valued_fits : (s : List ℕ) (t h n : ℕ) (rest : List ℕ) → t < 256 → 2 ≤ h → n < 65536 → Bytes rest → h + length rest ≤ length s
    → FirstFits s (valued t h n rest)
unfolding valued
valued_fits s t h n rest k two most b e =
    pick_all (FirstFits s) (leb n (length rest)) (one t h (take n rest) (drop n rest)) cut
    (λ l. let size : length (take n rest) ≡ n = length-take-le n rest (leb-true _ _ l) in
    (k, every_drop _ n rest b, omega (arith, leb-true, length-drop n rest), two, every_take _ n rest b, omega arith)) (λ l. tt)

long_fits : (s : List ℕ) (t : ℕ) (rest : List ℕ) → t < 256 → Bytes rest → 2 + length rest ≤ length s → FirstFits s (long t rest)
unfolding long
long_fits s t [] k b e = tt
long_fits s t (a ∷ []) k b e = tt
long_fits s t (a ∷ c ∷ rest) k b e = valued_fits s t 4 (a * 256 + c) rest k (omega arith) (omega arith) b.1.1 (omega arith)

pub first_fits : (s : List ℕ) → Bytes s → FirstFits s (first s)
unfolding first
first_fits [] b = tt
first_fits (t ∷ []) b = tt
first_fits (t ∷ l ∷ rest) b =
    let s = t ∷ l ∷ rest in
    pick_all (FirstFits s) (eqb l 255) (long t rest) (valued t 2 l rest)
    (λ e. long_fits s t rest b.0 b.1.1 (omega arith)) (λ e. valued_fits s t 2 l rest b.0 (omega arith) (omega arith) b.1.1 (omega arith))

abbrev pub FramingFits : ℕ → Framing → Type 0
FramingFits end w = Every (Fits end) w.entries × Stops end w.stop

step_fits : (fuel at end : ℕ) (s : List ℕ) (x : First) → FirstFits s x → at + length s ≤ end
    → ((n : ℕ) (r : List ℕ) → Bytes r → n + length r ≤ end → FramingFits end (frames fuel n r))
    → FramingFits end (step at x (λ (n : ℕ) (r : List ℕ). frames fuel n r))
unfolding step
step_fits fuel at end s none f e go = (tt, tt)
step_fits fuel at end s cut f e go = (tt, omega arith)
step_fits fuel at end s (one t h v r) f e go =
    let rest = go (at + h + length v) r f.1 (omega arith) in
    (((f.0, omega arith, omega arith, f.5, f.4), rest.0), rest.1)

frames_fit : (fuel at end : ℕ) (s : List ℕ) → Bytes s → at + length s ≤ end → FramingFits end (frames fuel at s)
unfolding frames
frames_fit zero at end s b e = (tt, tt)
frames_fit (suc fuel) at end s b e =
    step_fits fuel at end s (first s) (first_fits s b) e (λ n r c k. frames_fit fuel n end r c k)

pub framing_fits : (s : List ℕ) (end : ℕ) → Bytes s → length s ≤ end → FramingFits end (framing s)
unfolding framing
framing_fits s end b h = frames_fit (length s) 0 end s b (omega arith)

pub place_within : (end k : ℕ) (es : List Entry) → Every (Fits end) es → (get_or es k (entry 0 0 0 [])).place ≤ end
place_within end k [] f = omega arith
place_within end zero (e ∷ es) f = f.0.1
place_within end (suc k) (e ∷ es) f = place_within end k es f.1
