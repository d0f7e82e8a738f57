-- How the loop of `find_all` fills its table: what is noted and what is still to be passed give the last entry of each type, and how many have type 30.
-- Assumes nothing.
use mathlib.Core.Path.{◌≡◌, refl, sym, ap, ◌∙◌}
use mathlib.Core.List.{List, [], ◌∷◌}
use Prim.Native.Nat.{ℕ, ◌+◌, ◌≤◌, ◌<◌}
use native.Mathlib.Omega.{arith}
use native.Mathlib.Nat.{zero-add}
use lib.Dec.{eqb}
use lib.ListN.{length, get_or, set, replicate, length-set, get_or-replicate}
use lib.Seq.{get_or-set_same, get_or-set_other}
use borrow.Author.Tests.{eqb-true, eqb-false}
use Rattle.std.specs.Prelude.{Option, Some, None}
use Rattle.refusal.specs.Answer.{absent}
use Rattle.refusal.specs.Results.{option_of}
use Rattle.laws.proofs.Tests.{by_test}
use Rattle.tlv.specs.Entries.{Entry, framing}
use Rattle.tlv_last.specs.Last.{spot}
use Rattle.tlv_last.specs.declared.Spot.{Spot}
use Rattle.tlv_last.proofs.Lasts.{last_spot_of, last_hit, last_miss, last_none}
use Rattle.diag_entries.specs.Parts.{all_of}
use Rattle.diag.specs.Loops.{Located}
use Rattle.diag.specs.declared.Places.{Places}
use Rattle.diag_entries.proofs.Passed.{Passed, passed_start, passed_more}
use Rattle.diag_entries.proofs.Lasts.{all_none, all_more, all_same, last_spots}

-- n entries of type 30 are counted, and l is still to be passed
pub record Finding (last : List (Option Spot)) (n : ℕ) (s : List ℕ) (l : List Entry) : Type 0 where
  pub long : length last ≡ 32
  pub is : (t : ℕ) → t < 32 → last_spot_of t (option_of (get_or last t None)) l ≡ last_spot_of t absent (framing s).entries
  pub many : n + length (all_of 30 l) ≡ length (all_of 30 (framing s).entries)
  pub passed : Passed n s l

pub find_start : (s : List ℕ) (l : List Entry) → l ≡ (framing s).entries → Finding (replicate 32 None) 0 s l
find_start s l h =
    rw h (record {
      long = refl;
      is = λ t k. rw (get_or-replicate {A = Option Spot} 32 t None None k) refl;
      many = zero-add _;
      passed = passed_start s;
    })

-- a turn: e is passed, and es are left
module _ (last : List (Option Spot)) (n : ℕ) (s : List ℕ) (e : Entry) (l es : List Entry) (is : l ≡ e ∷ es) (f : Finding last n s l) where
  module _ (m : ℕ) (count : m + length (all_of 30 es) ≡ length (all_of 30 (framing s).entries)) (most : m ≤ n + 1) where
    pub find_more : e.ty < 32 → Finding (set last e.ty (Some (spot e))) m s es
    find_more h = record {
      long = length-set last e.ty _ ∙ f.long;
      is = λ t k.
          by_test (eqb t e.ty)
          (λ q.
          rw (eqb-true t e.ty q, get_or-set_same last e.ty (Some (spot e)) None (rw f.long h))
          (sym (last_hit e.ty (option_of (get_or last e.ty None)) e es refl) ∙ ap (last_spot_of e.ty _) (sym is) ∙ f.is e.ty h))
          (λ q.
          let x = eqb-false t e.ty q in
          rw (get_or-set_other last e.ty t (Some (spot e)) None x)
          (sym (last_miss t (option_of (get_or last t None)) e es (λ z. x (sym z))) ∙ ap (last_spot_of t _) (sym is) ∙ f.is t k));
      many = count;
      passed = passed_more n s e l es is f.passed m most;
    }

    pub find_skip : 32 ≤ e.ty → Finding last m s es
    find_skip h = record {
      long = f.long;
      is = λ t k. sym (last_miss t (option_of (get_or last t None)) e es (λ z. omega arith)) ∙ ap (last_spot_of t _) (sym is) ∙ f.is t k;
      many = count;
      passed = passed_more n s e l es is f.passed m most;
    }

  pub find_list : e.ty ≡ 30 → n + 1 + length (all_of 30 es) ≡ length (all_of 30 (framing s).entries)
  find_list h = omega (arith, f.many, all_more 30 l e es is h)

  pub find_other : (e.ty ≡ 30 → ⊥) → n + length (all_of 30 es) ≡ length (all_of 30 (framing s).entries)
  find_other h = omega (arith, f.many, all_same 30 l e es is h)

pub find_end : (p : Places) (s : List ℕ) (l : List Entry) → l ≡ [] → Finding p.last p.lists s l → Located p s
find_end p s l h f = record {
  is = λ t k. sym (ap (last_spot_of t _) h ∙ last_none t _) ∙ f.is t k ∙ sym (last_spots t (framing s).entries);
  many = let m = ap (λ (x : List Entry). length (all_of 30 x)) h ∙ ap length (all_none 30) in omega (arith, f.many);
}
