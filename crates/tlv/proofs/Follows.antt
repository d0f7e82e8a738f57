-- The entries of a framing follow one another from its first place on, and those of a well-framed input take all its bytes: so their headers
-- tell where each of them lies, and how long the input is.
-- Assumes nothing.
use mathlib.Core.Path.{◌≡◌, refl, sym, ap, ◌∙◌}
use mathlib.Core.List.{List, [], ◌∷◌, map}
use Prim.Native.Nat.{ℕ, zero, suc, ◌+◌, ◌-◌, ◌*◌, ◌≤◌}
use native.Mathlib.Omega.{arith}
use lib.ListN.{length, take, drop, length-drop}
use lib.Seq.{length-take-le}
use lib.Dec.{leb, eqb}
use borrow.Author.Tests.{leb-true}
use Rattle.laws.proofs.Tests.{pick_all}
use Rattle.tlv.specs.Entries.{First, none, cut, one, valued, long, marker, first, Entry, clean, Framing, step, frames, framing}
use Rattle.tlv.specs.Answers.{Head, header_of}
use Rattle.refusal.specs.Every.{Every}
use Rattle.tlv.proofs.Walks.{Lies, framing_lies}

-- ---- what stands first takes the bytes up to the rest
abbrev Spans : List ℕ → First → Type 0
Spans s none = length s ≡ 0
Spans s cut = Unit {0}
Spans s (one t h v rest) = (length s ≡ h + length v + length rest) × (2 ≤ h)

valued_spans : (s : List ℕ) (t h n : ℕ) (rest : List ℕ) → length s ≡ h + length rest → 2 ≤ h → Spans s (valued t h n rest)
unfolding valued
valued_spans s t h n rest k l =
    pick_all (Spans s) (leb n (length rest)) (one t h (take n rest) (drop n rest)) cut
    (λ e.
    let c : n ≤ length rest = leb-true n (length rest) e in
    let a = length-take-le n rest c in
    let b = length-drop n rest in
    (omega arith, l))
    (λ e. tt)

long_spans : (s : List ℕ) (t : ℕ) (rest : List ℕ) → length s ≡ 2 + length rest → Spans s (long t rest)
unfolding long
long_spans s t [] k = tt
long_spans s t (a ∷ []) k = tt
long_spans s t (a ∷ b ∷ r) k = valued_spans s t 4 (a * 256 + b) r (omega arith) (omega arith)

first_spans : (s : List ℕ) → Spans s (first s)
unfolding first
first_spans [] = refl
first_spans (t ∷ []) = tt
first_spans (t ∷ l ∷ rest) =
    let s = t ∷ l ∷ rest in
    pick_all (Spans s) (eqb l marker) (long t rest) (valued t 2 l rest)
    (λ e. long_spans s t rest (omega arith)) (λ e. valued_spans s t 2 l rest (omega arith) (omega arith))

-- ---- es begin at the place at, and each where the one before it ends
abbrev pub Follow : (at : ℕ) → List Entry → Type 0
Follow at [] = Unit {0}
Follow at (e ∷ es) = (e.place ≡ at) × (at ≤ e.start) × Follow (e.start + length e.value) es

step_follow : (at : ℕ) (s : List ℕ) (x : First) → Spans s x → (next : ℕ → List ℕ → Framing) → ((n : ℕ) (r : List ℕ) → Follow n (next n r).entries)
    → Follow at (step at x next).entries
unfolding step
step_follow at s none k next h = tt
step_follow at s cut k next h = tt
step_follow at s (one t n v r) k next h = (refl, omega arith, h (at + n + length v) r)

frames_follow : (fuel at : ℕ) (s : List ℕ) → Follow at (frames fuel at s).entries
unfolding frames
frames_follow zero at s = tt
frames_follow (suc k) at s = step_follow at s (first s) (first_spans s) (λ n r. frames k n r) (λ n r. frames_follow k n r)

pub framing_follows : (s : List ℕ) → Follow 0 (framing s).entries
unfolding framing
framing_follows s = frames_follow (length s) 0 s

-- ---- how many bytes entries take
abbrev pub taken : List Entry → ℕ
taken [] = 0
taken (e ∷ es) = (e.start - e.place) + length e.value + taken es

step_takes : (at : ℕ) (s : List ℕ) (x : First) → Spans s x → (next : ℕ → List ℕ → Framing)
    → ((n : ℕ) (r : List ℕ) → length r + 2 ≤ length s → (next n r).stop ≡ clean → length r ≡ taken (next n r).entries)
    → (step at x next).stop ≡ clean → length s ≡ taken (step at x next).entries
unfolding step
step_takes at s none k next h e = k
step_takes at s cut k next h e = absurd (let z : ◌≡◌ {A = ℕ} 0 1 = cc in omega arith)
step_takes at s (one t n v r) k next h e =
    let rest = h (at + n + length v) r (omega arith) e in
    omega arith

frames_take : (fuel at : ℕ) (s : List ℕ) → length s ≤ fuel → (frames fuel at s).stop ≡ clean → length s ≡ taken (frames fuel at s).entries
unfolding frames
frames_take zero at s h e = omega arith
frames_take (suc k) at s h e =
    step_takes at s (first s) (first_spans s) (λ n r. frames k n r) (λ n r l f. frames_take k n r (omega arith) f) e

-- entries that lie in the input take no more bytes than it has
taken_within : (s : List ℕ) (at : ℕ) (es : List Entry) → at ≤ length s → Follow at es → Every (Lies s) es → at + taken es ≤ length s
taken_within s at [] h f l = omega arith
taken_within s at (e ∷ es) h f l =
    let go = taken_within s (e.start + length e.value) es l.0.1 f.2 l.1 in
    omega (arith, f.0, f.1, l.0.0)

pub framing_taken : (s : List ℕ) → taken (framing s).entries ≤ length s
framing_taken s = omega (arith, taken_within s 0 (framing s).entries (omega arith) (framing_follows s) (framing_lies s))

-- a well-framed input is all entries
pub whole_length : (s : List ℕ) → (framing s).stop ≡ clean → length s ≡ taken (framing s).entries
unfolding framing
whole_length s e = frames_take (length s) 0 s (omega arith) e

-- ---- the same headers in the same order
-- take as many bytes,
pub headers_take : (es fs : List Entry) → map header_of es ≡ map header_of fs → taken es ≡ taken fs
headers_take [] [] e = refl
headers_take [] (f ∷ fs) k = absurd (let z : ◌≡◌ {A = ℕ} 0 1 = cc in omega arith)
headers_take (e ∷ es) [] k = absurd (let z : ◌≡◌ {A = ℕ} 0 1 = cc in omega arith)
headers_take (e ∷ es) (f ∷ fs) k =
    let one : header_of e ≡ header_of f = cc in
    let rest : map header_of es ≡ map header_of fs = cc in
    omega (arith, ap (λ (x : Head). x.header) one, ap (λ (x : Head). x.len) one, headers_take es fs rest)

-- and belong to entries of the same types, at the same places
abbrev pub Beside : List Entry → List Entry → Type 0
Beside [] [] = Unit {0}
Beside [] (f ∷ fs) = ⊥
Beside (e ∷ es) [] = ⊥
Beside (e ∷ es) (f ∷ fs) = (e.ty ≡ f.ty) × (e.place ≡ f.place) × Beside es fs

pub headers_beside : (at : ℕ) (es fs : List Entry) → Follow at es → Follow at fs → map header_of es ≡ map header_of fs → Beside es fs
headers_beside at [] [] g h k = tt
headers_beside at [] (f ∷ fs) g h k = absurd (let z : ◌≡◌ {A = ℕ} 0 1 = cc in omega arith)
headers_beside at (e ∷ es) [] g h k = absurd (let z : ◌≡◌ {A = ℕ} 0 1 = cc in omega arith)
headers_beside at (e ∷ es) (f ∷ fs) g h k =
    let one : header_of e ≡ header_of f = cc in
    let rest : map header_of es ≡ map header_of fs = cc in
    let next : e.start + length e.value ≡ f.start + length f.value =
    omega (arith, ap (λ (x : Head). x.header) one, ap (λ (x : Head). x.len) one, g.0, h.0, g.1, h.1) in
    (ap (λ (x : Head). x.ty) one, g.0 ∙ sym h.0, headers_beside (f.start + length f.value) es fs (rw next at g.2) h.2 rest)
