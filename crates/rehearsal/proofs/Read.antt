-- A payload that was read: its entries, and that each part that the record names lies in it and keeps the rule of its type.
-- Assumes nothing.
use mathlib.Core.Path.{◌≡◌, refl, sym, ap, ◌∙◌}
use mathlib.Core.List.{List}
use Prim.Native.Nat.{ℕ, ◌≤◌}
use native.Mathlib.Omega.{arith}
use lib.ListN.{length}
use Rattle.refusal.specs.Sizes.{most_bytes}
use Rattle.refusal.specs.Every.{Every}
use Rattle.refusal.specs.Answer.{Answer, given, absent, refused, then_do, on_given}
use Rattle.refusal.specs.Results.{option_of}
use Rattle.laws.proofs.Answers.{gives}
use Rattle.tlv.specs.Entries.{Entry, framing}
use Rattle.tlv.specs.Limits.{framed}
use Rattle.tlv_writing.proofs.Round.{given_bytes}
use Rattle.route64.specs.Routes as R
use Rattle.diag_rows.specs.Rows.{child_rows, addresses}
use Rattle.diag_entries.specs.Checked.{decoding, checked}
use Rattle.diag_entries.specs.Lists.{address_lists}
use Rattle.diag_entries.proofs.Checks.{Decodes, checked_given}
use Rattle.diag.specs.Diag.{raw, Diag, diag, decode}
use Rattle.diag.specs.Answers.{diag_of}
use Rattle.diag.specs.declared.NetDiagData.{NetDiagData}
use Rattle.record_writing.specs.Typed.{Given}
use Rattle.record_writing.specs.Reading.{reading_of, reading}
use Rattle.rehearsal.proofs.Sits.{Sits, Network, sits, network_sits}

pub record Read (r : NetDiagData) (s : List ℕ) : Type 0 where
  pub small : length s ≤ most_bytes
  pub passes : checked s ≡ given (framing s).entries
  pub decodes : Every Decodes (framing s).entries
  pub says : diag_of s r ≡ diag (framing s).entries

small_by : (s : List ℕ) (a : Answer (List Entry)) (es : List Entry) → framed 0 s ≡ a → then_do a decoding ≡ given es → length s ≤ most_bytes
small_by s (given xs) es h e = given_bytes 0 s xs h
small_by s absent es h e = absurd (let z : ◌≡◌ {A = ℕ} 0 1 = cc in omega arith)
small_by s (refused n p i) es h e = absurd (let z : ◌≡◌ {A = ℕ} 0 1 = cc in omega arith)

pub read : (r : NetDiagData) (s : List ℕ) → given (diag_of s r) ≡ decode s → Read r s
unfolding decode checked
read r s e =
    let g = gives diag (checked s) (diag_of s r) (sym e) in
    let c = checked_given s (length g.one) (sym (ap (on_given length) g.is)) in
    let both : ◌≡◌ {A = Answer (List Entry)} (given g.one) (given (framing s).entries) = sym g.is ∙ c.0 in
    let same : g.one ≡ (framing s).entries = cc in
    record { small = small_by s (framed 0 s) g.one refl g.is; passes = c.0; decodes = c.1; says = sym g.so ∙ ap diag same }

module _ (r : NetDiagData) (s : List ℕ) (known : Read r s) where
  pub part_0 : Given (Sits s 0) (option_of r.ext_mac_addr)
  unfolding diag_of diag
  part_0 = sits s known.decodes 0 raw (option_of r.ext_mac_addr) (ap (λ (d : Diag). d.ext_mac_addr) known.says)

  pub part_5 : Given (Sits s 5) (option_of r.route64)
  unfolding diag_of diag
  part_5 = sits s known.decodes 5 R.route_of (option_of r.route64) (ap (λ (d : Diag). d.route64) known.says)

  pub part_8 : Given (Sits s 8) (option_of r.addresses)
  unfolding diag_of diag
  part_8 = sits s known.decodes 8 addresses (option_of r.addresses) (ap (λ (d : Diag). d.addresses) known.says)

  pub part_16 : Given (Sits s 16) (option_of r.child_table)
  unfolding diag_of diag
  part_16 = sits s known.decodes 16 child_rows (option_of r.child_table) (ap (λ (d : Diag). d.child_table) known.says)

  pub part_17 : Given (Sits s 17) (option_of r.channel_pages)
  unfolding diag_of diag
  part_17 = sits s known.decodes 17 raw (option_of r.channel_pages) (ap (λ (d : Diag). d.channel_pages) known.says)

  pub part_18 : Given (Sits s 18) (option_of r.type_list)
  unfolding diag_of diag
  part_18 = sits s known.decodes 18 raw (option_of r.type_list) (ap (λ (d : Diag). d.type_list) known.says)

  pub part_23 : Given (Sits s 23) (option_of r.eui64)
  unfolding diag_of diag
  part_23 = sits s known.decodes 23 raw (option_of r.eui64) (ap (λ (d : Diag). d.eui64) known.says)

  pub part_7 : Network s r.network_data
  unfolding diag_of diag
  part_7 = network_sits s known.decodes r.network_data (ap (λ (d : Diag). d.network_data) known.says)

  -- of type 30 how many lists there are
  pub count : r.child_ipv6_addresses ≡ length (address_lists (framing s).entries)
  unfolding diag_of diag
  count = ap (λ (d : Diag). d.child_lists) known.says

  pub reads : reading s ≡ given (reading_of (diag_of s r) (address_lists (framing s).entries))
  unfolding reading
  reads =
      ap (on_given (λ (xs : List Entry). reading_of (diag xs) (address_lists xs))) known.passes
      ∙ ap (λ (d : Diag). given (reading_of d (address_lists (framing s).entries))) (sym known.says)
