-- What a record that was read names lies in the payload and keeps the rule of its type.
-- Assumes nothing.
use mathlib.Core.Path.{◌≡◌, sym, ap, ◌∙◌, subst}
use mathlib.Core.Bool.{true, false}
use mathlib.Core.List.{List, [], ◌∷◌}
use Prim.Native.Nat.{ℕ, ◌+◌, ◌≤◌, ◌<◌}
use native.Mathlib.Omega.{arith}
use lib.ListN.{length, drop}
use lib.Dec.{eqb}
use borrow.Author.Tests.{eqb-true}
use Rattle.std.specs.Prelude.{Option, Some, None}
use Rattle.refusal.specs.Every.{Every, Bytes}
use Rattle.refusal.specs.Answer.{Answer, given, absent, refused, on_given}
use Rattle.laws.proofs.Tests.{pick_all}
use Rattle.laws.proofs.Parts.{every_take, every_drop}
use Rattle.tlv.specs.Entries.{Entry, Content, contents, framing}
use Rattle.tlv.proofs.Walks.{Lies}
use Rattle.network_data.specs.Decode as N
use Rattle.network_data.specs.declared.Counts.{Counts}
use Rattle.network_data.specs.Rules.{counts}
use Rattle.diag_rules.specs.Rule.{keeps_rule}
use Rattle.diag_rows.specs.Rows.{part}
use Rattle.diag_rows.specs.declared.Part.{Part}
use Rattle.diag_entries.specs.Parts.{last, all_of, Said, said}
use Rattle.diag_entries.specs.Checked.{entry_value}
use Rattle.diag_entries.specs.Answers.{said_at}
use Rattle.diag_entries.proofs.Checks.{Decodes}
use Rattle.diag_entries.proofs.Sound.{Of}
use Rattle.diag.specs.Diag.{NetworkDataValue, network_data_of}
use Rattle.diag.specs.declared.NetworkDataPart.{NetworkDataPart}
use Rattle.diag.specs.Answers.{opt_network_data}
use Rattle.diag.proofs.Whole.{last_lies}
use Rattle.record_writing.specs.Typed.{Given}
use Rattle.record_writing.specs.Lent.{part_bytes}
use Rattle.record_writing.proofs.Last.{last_contents}
use Rattle.record_writing.proofs.Kept.{Has, last_has, Good, decodes_keeps}

-- where a part lies, and the counts of Network Data
abbrev place_in : {A : Type 0} → Answer (Said A) → Part
place_in (given x) = part x.start x.len
place_in absent = part 0 0
place_in (refused n p i) = part 0 0

abbrev counts_in : Answer (Said NetworkDataValue) → Counts
counts_in (given x) = x.says.counts
counts_in absent = counts 0 0 0
counts_in (refused n p i) = counts 0 0 0

-- a value that decodes
pub record Plain (ty : ℕ) (x : List ℕ) : Type 0 where
  pub place : ℕ
  pub decodes : entry_value ty place x ≡ given x

pub keeps : (ty : ℕ) (x : List ℕ) → eqb ty 7 ≡ false → Plain ty x → keeps_rule ty x ≡ true
keeps ty x h p = decodes_keeps ty p.place x h p.decodes

of_type : (ty : ℕ) (e : Entry) → Decodes e → e.ty ≡ ty → Plain ty e.value
of_type ty e d t = record { place = e.place; decodes = subst (λ (k : ℕ). entry_value k e.place e.value ≡ given e.value) t d }

all_plain : (ty : ℕ) (es : List Entry) → Every Decodes es → Every (λ (c : Content). c.ty ≡ ty → Plain ty c.value) (contents es)
unfolding contents
all_plain ty [] d = tt
all_plain ty (e ∷ es) d = ((λ t. of_type ty e d.0 t), all_plain ty es d.1)

module _ (s : List ℕ) where
  -- a part of the payload
  pub record Sits (ty : ℕ) (q : Part) : Type 0 where
    pub inside : q.start + q.len ≤ length s
    pub plain : Plain ty (part_bytes s q)

  -- Network Data and how many records it has
  pub record Holds (x : Part) (c : Counts) : Type 0 where
    pub plain : Plain 7 (part_bytes s x)
    pub counts : c ≡ N.counts_of (N.contents (part_bytes s x))

  abbrev pub Network : Option NetworkDataPart → Type 0
  Network (Some x) = Holds (part x.start x.len) x.counts
  Network None = Unit {0}

  pub good : (ty : ℕ) (q : Part) → Bytes s → Plain ty (part_bytes s q) → Good ty (part_bytes s q)
  good ty q b p = record {
    bytes = every_take (λ (x : ℕ). x < 256) q.len (drop q.start s) (every_drop (λ (x : ℕ). x < 256) q.start s b);
    place = p.place;
    decodes = p.decodes;
  }

  sits_by : {A : Type 0} (ty : ℕ) (f : List ℕ → A) (a : Answer Part) (x : Answer Entry) → on_given (said_at f s) a ≡ on_given (said f) x → Of (Lies s) x
      → Has (Plain ty) (on_given (λ (e : Entry). e.value) x) → Given (Sits ty) a
  sits_by ty f (given q) (given e) h l g =
      subst (Sits ty) (sym (ap place_in h)) record { inside = l.1; plain = subst (Plain ty) l.2 g }
  sits_by ty f (given q) absent h l g = absurd (let z : ◌≡◌ {A = ℕ} 0 1 = cc in omega arith)
  sits_by ty f (given q) (refused n p i) h l g = absurd l
  sits_by ty f absent x h l g = tt
  sits_by ty f (refused n p i) x h l g = tt

  network_by : (y : Option NetworkDataPart) (x : Answer Entry) → opt_network_data s y ≡ on_given (said network_data_of) x → Of (Lies s) x
      → Has (Plain 7) (on_given (λ (e : Entry). e.value) x) → Network y
  network_by (Some y) (given e) h l g =
      let place : part y.start y.len ≡ part e.start (length e.value) = ap place_in h in
      let same : part_bytes s (part y.start y.len) ≡ e.value = ap (part_bytes s) place ∙ sym l.2 in
      record { plain = subst (Plain 7) (sym same) g; counts = ap counts_in h ∙ ap (λ (v : List ℕ). N.counts_of (N.contents v)) (sym same) }
  network_by (Some y) absent h l g = absurd (let z : ◌≡◌ {A = ℕ} 0 1 = cc in omega arith)
  network_by (Some y) (refused n p i) h l g = absurd l
  network_by None x h l g = tt

  -- the address lists
  abbrev pub Kept : Entry → Type 0
  Kept e = Lies s e × Plain 30 e.value

  pub lists_sit : (es : List Entry) → Every (Lies s) es → Every Decodes es → Every Kept (all_of 30 es)
  unfolding all_of
  lists_sit [] l d = tt
  lists_sit (e ∷ es) l d =
      let go = lists_sit es l.1 d.1 in
      pick_all (Every Kept) (eqb e.ty 30) (e ∷ all_of 30 es) (all_of 30 es) (λ t. ((l.0, of_type 30 e d.0 (eqb-true _ _ t)), go)) (λ t. go)

  module _ (d : Every Decodes (framing s).entries) where
    last_plain : (ty : ℕ) → Has (Plain ty) (on_given (λ (e : Entry). e.value) (last ty (framing s).entries))
    last_plain ty =
        subst (Has (Plain ty)) (sym (last_contents ty absent (framing s).entries))
        (last_has ty (Plain ty) (contents (framing s).entries) absent tt (all_plain ty (framing s).entries d))

    pub sits : {A : Type 0} (ty : ℕ) (f : List ℕ → A) (a : Answer Part) → on_given (said_at f s) a ≡ on_given (said f) (last ty (framing s).entries) → Given (Sits ty) a
    sits ty f a h = sits_by ty f a (last ty (framing s).entries) h (last_lies s ty) (last_plain ty)

    pub network_sits : (y : Option NetworkDataPart) → opt_network_data s y ≡ on_given (said network_data_of) (last 7 (framing s).entries) → Network y
    network_sits y h = network_by y (last 7 (framing s).entries) h (last_lies s 7) (last_plain 7)
