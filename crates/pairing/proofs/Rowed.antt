-- Lists that are made by a function, and rows of lists.
-- Assumes nothing.
use mathlib.Core.Path.{◌≡◌, refl, ap, ◌∙◌}
use mathlib.Core.List.{List, [], ◌∷◌, map}
use Prim.Native.Nat.{ℕ, zero, suc, ◌≤◌, ◌<◌}
use native.Mathlib.Omega.{arith}
use lib.ListN.{length, get_or, drop}
use Rattle.refusal.specs.Answer.{given, absent, on_given}
use Rattle.refusal.specs.Every.{Every}
use Rattle.refusal.specs.Numbered.{nth}
use Rattle.diag_rows.specs.Rows.{listed}

pub listed_length : {A : Type 0} (f : ℕ → A) (n : ℕ) → length (listed f n) ≡ n
unfolding listed
listed_length f zero = refl
listed_length f (suc n) = ap suc (listed_length (λ k. f (suc k)) n)

pub listed_at : {A : Type 0} (f : ℕ → A) (n k : ℕ) (d : A) → k < n → get_or (listed f n) k d ≡ f k
unfolding listed
listed_at f zero k d h = absurd (omega arith)
listed_at f (suc n) zero d h = refl
listed_at f (suc n) (suc k) d h = listed_at (λ j. f (suc j)) n k d (omega arith)

pub drop_map : {A B : Type 0} (f : A → B) (k : ℕ) (l : List A) → drop k (map f l) ≡ map f (drop k l)
drop_map f zero l = refl
drop_map f (suc k) [] = refl
drop_map f (suc k) (x ∷ l) = drop_map f k l

pub listed_map : {A B : Type 0} (g : A → B) (f : ℕ → A) (n : ℕ) → map g (listed f n) ≡ listed (λ (k : ℕ). g (f k)) n
unfolding listed
listed_map g f zero = refl
listed_map g f (suc n) = ap (λ (l : List _). g (f 0) ∷ l) (listed_map g (λ k. f (suc k)) n)

pub listed_same : {A : Type 0} (f g : ℕ → A) (n : ℕ) → ((k : ℕ) → k < n → f k ≡ g k) → listed f n ≡ listed g n
unfolding listed
listed_same f g zero h = refl
listed_same f g (suc n) h =
    ap (λ (x : _). x ∷ listed (λ k. f (suc k)) n) (h 0 (omega arith))
    ∙ ap (λ (l : List _). g 0 ∷ l) (listed_same (λ k. f (suc k)) (λ k. g (suc k)) n (λ k l. h (suc k) (omega arith)))

pub every_listed : {A : Type 0} (P : A → Type 0) (f : ℕ → A) (n : ℕ) → ((k : ℕ) → P (f k)) → Every P (listed f n)
unfolding listed
every_listed P f zero h = tt
every_listed P f (suc n) h = (h 0, every_listed P (λ k. f (suc k)) n (λ k. h (suc k)))

pub map_same : {A : Type 0} (P : ℕ → Type 0) (f g : ℕ → A) (l : List ℕ) → ((x : ℕ) → P x → f x ≡ g x) → Every P l → map f l ≡ map g l
map_same P f g [] h d = refl
map_same P f g (x ∷ l) h d = ap (λ (y : _). y ∷ map f l) (h x d.0) ∙ ap (λ (m : List _). g x ∷ m) (map_same P f g l h d.1)

-- ---- one row
pub nth_in : {A : Type 0} (f : ℕ → A) (n k : ℕ) → k < n → nth (listed f n) k ≡ given (f k)
unfolding listed nth
nth_in f zero k h = absurd (omega arith)
nth_in f (suc n) zero h = refl
nth_in f (suc n) (suc k) h = nth_in (λ j. f (suc j)) n k (omega arith)

pub nth_out : {A : Type 0} (f : ℕ → A) (n k : ℕ) → n ≤ k → nth (listed f n) k ≡ absent
unfolding listed nth
nth_out f zero k h = refl
nth_out f (suc n) zero h = absurd (omega arith)
nth_out f (suc n) (suc k) h = nth_out (λ j. f (suc j)) n k (omega arith)

pub nth_map : {A B : Type 0} (f : A → B) (xs : List A) (k : ℕ) → nth (map f xs) k ≡ on_given f (nth xs k)
unfolding nth
nth_map f [] k = refl
nth_map f (x ∷ xs) zero = refl
nth_map f (x ∷ xs) (suc k) = nth_map f xs k
