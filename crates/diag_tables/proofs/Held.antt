-- The Network Data of a payload that is read lies within the payload and decodes, as a bare value too.
-- Assumes nothing.
use mathlib.Core.Path.{◌≡◌, refl, sym, ap, ◌∙◌, subst}
use mathlib.Core.List.{List}
use Prim.Native.Nat.{ℕ, ◌+◌, ◌≤◌}
use native.Mathlib.Omega.{arith}
use lib.ListN.{length, take, drop}
use Rattle.refusal.specs.Answer.{Answer, given, absent, refused, on_given}
use Rattle.tlv.specs.Entries.{Entry, framing}
use Rattle.tlv_last.specs.declared.Spot.{Spot}
use Rattle.network_data.specs.Decode.{Prefix, contents, counts_of, decode_network_data}
use Rattle.network_data.proofs.Counted.{is_contents}
use Rattle.network_data.proofs.Anywhere.{given_anywhere}
use Rattle.diag_entries.specs.Parts.{Said}
use Rattle.diag_entries.specs.Checked.{checked}
use Rattle.diag.specs.Diag.{NetworkDataValue, Diag, diag, decode}
use Rattle.diag.specs.Loops.{last_in, InPayload, or_none, network_at, collected}
use Rattle.diag_entries.proofs.Checks.{checked_given}
use Rattle.diag.proofs.Whole.{last_inside, collected_is}

-- what is said of Network Data holds of a part of s
abbrev pub Held : List ℕ → Answer (Said NetworkDataValue) → Type 0
Held s (given n) =
    (n.start + n.len ≤ length s)
    × (decode_network_data 0 (take n.len (drop n.start s)) ≡ given n.says.prefixes)
    × (n.says.counts ≡ counts_of n.says.prefixes)
Held s absent = Unit {0}
Held s (refused n p i) = Unit {0}

module _ (s : List ℕ) where
  module _ (q : Spot) (inside : q.start + q.len ≤ length s) where
    abbrev v : List ℕ
    v = take q.len (drop q.start s)

    value_held : (a : Answer (List Prefix)) → decode_network_data q.place v ≡ a
        → Held s (or_none (on_given (λ (ps : List Prefix). record { start = q.start; len = q.len; says = record { prefixes = contents v; counts = counts_of ps } }) a))
    unfolding or_none
    value_held (given ps) e =
        let is = is_contents q.place v ps e in
        (inside, given_anywhere 0 q.place v (contents v) (e ∙ ap given is), ap counts_of is)
    value_held absent e = tt
    value_held (refused n p i) e = tt

  spot_held : (x : Answer Spot) → InPayload s x → Held s (network_at s x)
  unfolding network_at or_none
  spot_held (given q) i = value_held q i (decode_network_data q.place (take q.len (drop q.start s))) refl
  spot_held absent i = tt
  spot_held (refused n p k) i = tt

  collected_held : Held s (collected s).network_data
  unfolding collected
  collected_held = spot_held (last_in 7 s) (last_inside s 7 (last_in 7 s) refl)

  read_by : (d : Diag) (a : Answer (List Entry)) → given d ≡ on_given diag a → a ≡ checked s → Held s d.network_data
  read_by d (given es) h e =
      let fine = checked_given s (length es) (ap (on_given length) e) in
      let same : es ≡ (framing s).entries = cc in
      let is : d ≡ diag es = cc in
      subst (λ (x : Diag). Held s x.network_data) (collected_is s fine.1 ∙ ap diag (sym same) ∙ sym is) collected_held
  read_by d absent h e = absurd (let z : ◌≡◌ {A = ℕ} 0 1 = cc in omega arith)
  read_by d (refused n p i) h e = absurd (let z : ◌≡◌ {A = ℕ} 0 1 = cc in omega arith)

  pub held : (d : Diag) → given d ≡ decode s → Held s d.network_data
  unfolding decode
  held d e = read_by d (checked s) e refl
