-- The pieces in which a payload is written, joined, are the entries of the record: Network Data and the child table are a header and their rows.
-- Assumes nothing.
use mathlib.Core.Path.{◌≡◌, refl, sym, ap, ◌∙◌}
use mathlib.Core.List.{List, [], ◌∷◌, ◌++◌, map, append-nil, append_assoc}
use Prim.Native.Nat.{ℕ, ◌≤◌}
use native.Mathlib.Omega.{arith}
use lib.ListN.{length, take}
use lib.Seq.{length-take-le}
use Rattle.std.specs.Prelude.{Option, Some, None}
use Rattle.refusal.specs.Answer.{Answer, given, absent, refused, on_given}
use Rattle.refusal.specs.Each.{joined}
use Rattle.refusal.specs.Results.{option_of}
use Rattle.laws.proofs.Answers.{on_on}
use Rattle.tlv_writing.specs.Encode.{encode, encode_all}
use Rattle.tlv_writing.proofs.Several.{encode_append}
use Rattle.network_writing.specs.Encode.{network_bytes}
use Rattle.network_writing.specs.Tables.{prefixes_of, routes_asked, borders_asked}
use Rattle.network_writing.proofs.Agree.{used_rows}
use Rattle.value_writing.specs.Encode.{route64_bytes, child_bytes, children_bytes}
use Rattle.value_writing.proofs.Round.{children_size}
use Rattle.diag_rows.specs.declared.Part.{Part}
use Rattle.diag_rows.specs.declared.ChildIpv6AddrInfo.{ChildIpv6AddrInfo}
use Rattle.diag.specs.declared.NetworkDataPart.{NetworkDataPart}
use Rattle.diag.specs.declared.NetDiagData.{NetDiagData}
use Rattle.record_writing.specs.Values.{Field, field, fields, entry_for, present, list_content, entries_of}
use Rattle.record_writing.specs.Lent.{Lent, route_used, opt_counts, network_of, children_of, list_of, values_of}
use Rattle.diag_writing.specs.Pieces.{field_bytes, fields_bytes, first_fields, link_fields, middle_fields, last_fields, network_header, child_header, before_bytes, between_bytes, after_bytes, list_entry}
use Rattle.writing_plans.specs.Used.{counts_in}
use Rattle.diag_writing.specs.Plans.{Rows, Thirds, Goes}
use Rattle.writing_walks.specs.declared.Plan.{Plan}
use Rattle.diag_writing.proofs.Entries.{fields_none, fields_more}

-- a field that is there is one entry
given_bytes : (t : ℕ) (v : List ℕ) → field_bytes t (given v) ≡ encode t v
unfolding encode_all entry_for
given_bytes t v = append-nil (encode t v)

absent_bytes : (t : ℕ) → field_bytes t absent ≡ []
unfolding encode_all entry_for
absent_bytes t = refl

refused_bytes : (t n p i : ℕ) → field_bytes t (refused n p i) ≡ []
unfolding encode_all entry_for
refused_bytes t n p i = refl

fields_append : (fs gs : List Field) → fields_bytes (fs ++ gs) ≡ fields_bytes fs ++ fields_bytes gs
fields_append [] gs = rw fields_none
fields_append (f ∷ fs) gs =
    fields_more f.ty f.value (fs ++ gs) ∙ ap (λ (l : List ℕ). field_bytes f.ty f.value ++ l) (fields_append fs gs)
    ∙ sym (append_assoc (field_bytes f.ty f.value) (fields_bytes fs) (fields_bytes gs)) ∙ ap (λ (l : List ℕ). l ++ fields_bytes gs) (sym (fields_more f.ty f.value fs))

-- ---- the values that tables make
module _ (l : Lent) where
  abbrev prefixes_bytes : ℕ → List ℕ
  prefixes_bytes k = network_bytes (prefixes_of (take k l.prefixes) l.routes l.borders)

  network_field_lem : (x : Option NetworkDataPart) (k size : ℕ) → Rows (opt_counts x) k → routes_asked (take k l.prefixes) ≡ (counts_in x).has_routes
      → borders_asked (take k l.prefixes) ≡ (counts_in x).border_routers → size ≡ length (prefixes_bytes k)
      → field_bytes 7 (on_given network_bytes (on_given (network_of l) (opt_counts x))) ≡ network_header x size ++ prefixes_bytes k
  unfolding network_header counts_in encode network_bytes prefixes_of joined
  network_field_lem (Some y) k size rows routes borders e =
      let used = used_rows (take k l.prefixes) l.routes l.borders y.counts.has_routes y.counts.border_routers (omega arith) (omega arith) in
      given_bytes 7 (network_bytes (network_of l y.counts)) ∙ rw (e, used, rows)
  network_field_lem None k size rows routes borders e = absent_bytes 7 ∙ rw rows

  child_field_lem : (q : Answer Part) (k : ℕ) → Thirds q k → k ≤ length l.children
      → field_bytes 16 (on_given children_bytes (on_given (children_of l.children) q)) ≡ child_header q ++ joined child_bytes (take k l.children)
  unfolding child_header encode children_bytes joined
  child_field_lem (given q) k thirds lent =
      let size : length (children_bytes (take k l.children)) ≡ q.len = children_size (take k l.children) ∙ omega (arith, length-take-le k l.children lent, thirds.1) in
      given_bytes 16 (children_bytes (children_of l.children q)) ∙ rw (← thirds.0, size)
  child_field_lem absent k thirds lent = absent_bytes 16 ∙ rw thirds
  child_field_lem (refused n p i) k thirds lent = refused_bytes 16 n p i ∙ rw thirds

list_entries : (s : List ℕ) (xs : List ChildIpv6AddrInfo) → encode_all (map list_content (map (list_of s) xs)) ≡ joined (list_entry s) xs
unfolding encode_all joined
list_entries s [] = refl
list_entries s (x ∷ xs) = ap (λ (l : List ℕ). list_entry s x ++ l) (list_entries s xs)

-- ---- all of them, in order
module _ (r : NetDiagData) (l : Lent) where
  abbrev network_field : Answer (List ℕ)
  network_field = on_given network_bytes (on_given (network_of l) (opt_counts r.network_data))

  abbrev child_field : Answer (List ℕ)
  child_field = on_given children_bytes (on_given (children_of l.children) (option_of r.child_table))

  all_fields : fields (values_of r l)
      ≡ first_fields r l.bytes ++ (link_fields r l.route64 ++ (field 7 network_field ∷ (middle_fields r l.bytes ++ (field 16 child_field ∷ last_fields r l.bytes))))
  unfolding values_of
  all_fields = rw (on_on route64_bytes (λ (q : Part). route_used l.route64) (option_of r.route64))

  entries_are : encode_all (entries_of (values_of r l))
      ≡ (fields_bytes (first_fields r l.bytes) ++ (fields_bytes (link_fields r l.route64) ++ (field_bytes 7 network_field
      ++ (fields_bytes (middle_fields r l.bytes) ++ (field_bytes 16 child_field ++ fields_bytes (last_fields r l.bytes))))))
      ++ joined (list_entry l.bytes) (take r.child_ipv6_addresses l.lists)
  unfolding entries_of values_of
  entries_are =
      encode_append (present (fields (values_of r l))) (map list_content (map (list_of l.bytes) (take r.child_ipv6_addresses l.lists)))
      ∙ rw (list_entries l.bytes (take r.child_ipv6_addresses l.lists), all_fields, fields_append (first_fields r l.bytes) _, fields_append (link_fields r l.route64) _, fields_more 7 network_field _, fields_append (middle_fields r l.bytes) _, fields_more 16 child_field _)

  -- all that the writing pass writes, where the plan lets it
  pub joining : (room : ℕ) (p : Plan) → Goes r l room p
      → before_bytes r l.bytes l.route64 p.network
      ++ (prefixes_bytes l p.prefixes
      ++ (between_bytes r l.bytes ++ (joined child_bytes (take p.children l.children) ++ (after_bytes r l.bytes ++ joined (list_entry l.bytes) (take p.lists l.lists)))))
      ≡ encode_all (entries_of (values_of r l))
  joining room p g =
      let network = network_field_lem l r.network_data p.prefixes p.network g.prefixes g.routes_are g.borders_are g.network in
      let children = child_field_lem l (option_of r.child_table) p.children g.children g.children_lent in
      rw (g.lists, entries_are) (rw (network, children) (simp append_assoc))
