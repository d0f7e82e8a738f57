-- A record and tables that were read from a payload: each line is what the call that it names promises. The payload is lent itself, and each table begins with
-- what the calls handed out.
-- Assumes nothing.
use Rattle.std.specs.Prelude.{◌≡◌, List, ℕ, ◌/◌, ◌<◌, Ok}
use Rattle.refusal.specs.Answer.{given, then_do, on_given}
use Rattle.refusal.specs.Numbered.{nth}
use Rattle.refusal.specs.Results.{option_of}
use Rattle.network_data.specs.declared.Counts.{Counts}
use Rattle.network_data.specs.declared.PrefixEntry.{PrefixEntry}
use Rattle.network_data.specs.declared.HasRouteEntry.{HasRouteEntry}
use Rattle.network_data.specs.declared.BorderRouterEntry.{BorderRouterEntry}
use Rattle.diag_rules.specs.Rule.{value_of}
use Rattle.route64.specs.Routes.{route_of, laid_out}
use Rattle.diag_rows.specs.declared.Part.{Part}
use Rattle.diag_rows.specs.declared.ChildIpv6AddrInfo.{ChildIpv6AddrInfo}
use Rattle.diag_entries.specs.Lists.{child_list}
use Rattle.child_lists.specs.Answers.{list_paper}
use Rattle.diag.specs.Diag.{decode}
use Rattle.diag.specs.Answers.{decoded_answer}
use Rattle.diag.specs.declared.NetDiagData.{NetDiagData}
use Rattle.diag_tables.specs.Tables.{outcome, decoded}
use Rattle.record_writing.specs.Typed.{Given}
use Rattle.record_writing.specs.Reading.{reading}
use Rattle.record_writing.specs.Lent.{Lent, part_bytes, opt_counts}
use Rattle.record_writing.specs.Written.{written}
use Rattle.rehearsal.specs.Read.{child_row}

-- `diag_tables::decode` filled the three tables, whatever they held before
pub record Filled (r : NetDiagData) (l : Lent) : Type 0 where
  pub prefixes : List PrefixEntry
  pub routes : List HasRouteEntry
  pub borders : List BorderRouterEntry
  pub are : outcome (decoded_answer l.bytes (Ok r)) l.prefixes l.routes l.borders ≡ decoded l.bytes prefixes routes borders

pub record Handed (r : NetDiagData) (l : Lent) : Type 0 where
  -- `NetDiagData::decode`
  pub decodes : decoded_answer l.bytes (Ok r) ≡ decode l.bytes
  -- where there is Network Data
  pub tables : Given (λ (c : Counts). Filled r l) (opt_counts r.network_data)
  -- `route64::decode_route64` of the record's part, which was said to stand at this place
  pub place : ℕ
  pub route64 : Given (λ (q : Part). l.route64 ≡ laid_out (on_given route_of (value_of 5 place (part_bytes l.bytes q)))) (option_of r.route64)
  -- `diag_rows::child_row`
  pub children : Given (λ (q : Part). (k : ℕ) → k < q.len / 3 → nth l.children k ≡ child_row (part_bytes l.bytes q) k) (option_of r.child_table)
  -- `child_lists::child_list`
  pub lists : (k : ℕ) → k < r.child_ipv6_addresses → then_do (nth l.lists k) (λ (x : ChildIpv6AddrInfo). given (list_paper l.bytes x)) ≡ child_list k l.bytes

-- it is written, and what is written reads as the payload did
pub record Rewritten (r : NetDiagData) (l : Lent) : Type 0 where
  pub bytes : List ℕ
  pub are : written r l ≡ given bytes
  pub same : reading bytes ≡ reading l.bytes
