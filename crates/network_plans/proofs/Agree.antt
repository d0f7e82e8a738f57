-- The record i that `network_tables::decode` leaves in a table is the one that the call by number i gives, and past the counts the one that stood there.
-- Assumes nothing.
use mathlib.Core.Path.{◌≡◌, refl, sym, ap, ◌∙◌}
use mathlib.Core.List.{List, [], ◌∷◌, ◌++◌, map}
use Prim.Native.Nat.{ℕ, zero, suc, ◌≤◌, ◌<◌}
use native.Mathlib.Omega.{arith}
use lib.ListN.{length, length-map, drop}
use lib.Dec.{leb}
use Rattle.refusal.specs.Answer.{Answer, given, absent, refused, then_do}
use Rattle.laws.proofs.Tests.{pick_all}
use Rattle.network_data.specs.Decode.{Prefix, decode_network_data, all_routes, all_borders, counts_of, entry_of}
use Rattle.refusal.specs.Numbered.{nth}
use Rattle.network_plans.specs.Planned.{room_for}
use Rattle.network_plans.specs.Tables.{Outcome, over, written, decoded}
use Rattle.network_data.specs.declared.Counts.{Counts}
use Rattle.network_data.specs.declared.PrefixEntry.{PrefixEntry}
use Rattle.network_data.specs.declared.HasRouteEntry.{HasRouteEntry}
use Rattle.network_data.specs.declared.BorderRouterEntry.{BorderRouterEntry}

nth_front : {A : Type 0} (xs ys : List A) (i : ℕ) → i < length xs → nth (xs ++ ys) i ≡ nth xs i
unfolding nth
nth_front [] ys i h = absurd (omega arith)
nth_front (x ∷ xs) ys zero h = refl
nth_front (x ∷ xs) ys (suc i) h = nth_front xs ys i (omega arith)

past_all : {A : Type 0} (xs : List A) (i : ℕ) → length xs ≤ i → nth (xs ++ []) i ≡ absent
unfolding nth
past_all [] i h = refl
past_all (x ∷ xs) zero h = absurd (omega arith)
past_all (x ∷ xs) (suc i) h = past_all xs i (omega arith)

nth_past : {A : Type 0} (new old : List A) (i : ℕ) → length new ≤ i → nth (new ++ drop (length new) old) i ≡ nth old i
unfolding nth
nth_past [] old i h = refl
nth_past (x ∷ new) old zero h = absurd (omega arith)
nth_past (x ∷ new) [] (suc i) h = past_all new i (omega arith)
nth_past (x ∷ new) (y ∷ old) (suc i) h = nth_past new old i (omega arith)

-- new records stand from the first place on, and past them the old ones
over_new : {A : Type 0} (new old : List A) (i : ℕ) → i < length new → nth (over new old) i ≡ nth new i
over_new new old i h = nth_front new (drop (length new) old) i h

over_old : {A : Type 0} (new old : List A) (i : ℕ) → length new ≤ i → nth (over new old) i ≡ nth old i
over_old new old i h = nth_past new old i h

-- what is given is c itself
abbrev Only : Counts → Answer Counts → Type 0
Only c (given d) = d ≡ c
Only c absent = Unit {0}
Only c (refused n p i) = Unit {0}

room_only : (c : Counts) (p h b : ℕ) → Only c (room_for c p h b)
unfolding room_for
room_only c p h b =
    pick_all (Only c) (leb c.prefixes p) _ (refused 11 0 0) (λ _.
    pick_all (Only c) (leb c.has_routes h) _ (refused 11 0 0) (λ _.
    pick_all (Only c) (leb c.border_routers b) (given c) (refused 11 0 0) (λ _. refl) (λ _. tt)) (λ _. tt)) (λ _. tt)

module _ (P : List PrefixEntry) (H : List HasRouteEntry) (B : List BorderRouterEntry) where
  -- the tables of an outcome are, record by record, those of the lists, and then as they were
  pub record Agrees (d : Answer (List Prefix)) (o : Outcome) (c : Counts) : Type 0 where
    pub prefixes : (i : ℕ) → i < c.prefixes → nth o.prefixes i ≡ then_do d (λ (ps : List Prefix). nth (map entry_of ps) i)
    pub routes : (i : ℕ) → i < c.has_routes → nth o.routes i ≡ then_do d (λ (ps : List Prefix). nth (all_routes ps) i)
    pub borders : (i : ℕ) → i < c.border_routers → nth o.borders i ≡ then_do d (λ (ps : List Prefix). nth (all_borders ps) i)
    pub prefixes_stay : (i : ℕ) → c.prefixes ≤ i → nth o.prefixes i ≡ nth P i
    pub routes_stay : (i : ℕ) → c.has_routes ≤ i → nth o.routes i ≡ nth H i
    pub borders_stay : (i : ℕ) → c.border_routers ≤ i → nth o.borders i ≡ nth B i

  written_agrees : (ps : List Prefix) (a : Answer Counts) → Only (counts_of ps) a → (c : Counts) → (written ps a P H B).answer ≡ given c → Agrees (given ps) (written ps a P H B) c
  unfolding written counts_of
  written_agrees ps (given d) o c e =
      let k : d ≡ c = cc in
      let n = sym o ∙ k in
      record {
        prefixes = λ i l. over_new (map entry_of ps) P i (simp length-map (omega (arith, ap (λ (x : Counts). x.prefixes) n)));
        routes = λ i l. over_new (all_routes ps) H i (omega (arith, ap (λ (x : Counts). x.has_routes) n));
        borders = λ i l. over_new (all_borders ps) B i (omega (arith, ap (λ (x : Counts). x.border_routers) n));
        prefixes_stay = λ i l. over_old (map entry_of ps) P i (simp length-map (omega (arith, ap (λ (x : Counts). x.prefixes) n)));
        routes_stay = λ i l. over_old (all_routes ps) H i (omega (arith, ap (λ (x : Counts). x.has_routes) n));
        borders_stay = λ i l. over_old (all_borders ps) B i (omega (arith, ap (λ (x : Counts). x.border_routers) n));
      }
  written_agrees ps absent o c e = absurd (let z : ◌≡◌ {A = ℕ} 0 1 = cc in omega arith)
  written_agrees ps (refused n p i) o c e = absurd (let z : ◌≡◌ {A = ℕ} 0 1 = cc in omega arith)

  decoded_agrees : (d : Answer (List Prefix)) (c : Counts) → (decoded d P H B).answer ≡ given c → Agrees d (decoded d P H B) c
  unfolding decoded
  decoded_agrees (given ps) c e = written_agrees ps (room_for (counts_of ps) (length P) (length H) (length B)) (room_only (counts_of ps) _ _ _) c e
  decoded_agrees absent c e = absurd (let z : ◌≡◌ {A = ℕ} 0 1 = cc in omega arith)
  decoded_agrees (refused n p i) c e = absurd (let z : ◌≡◌ {A = ℕ} 0 1 = cc in omega arith)

  -- of `decode`, where it answers c
  pub tables_agree : (s : List ℕ) (c : Counts) → (decoded (decode_network_data 0 s) P H B).answer ≡ given c
      → Agrees (decode_network_data 0 s) (decoded (decode_network_data 0 s) P H B) c
  tables_agree s c e = decoded_agrees (decode_network_data 0 s) c e
