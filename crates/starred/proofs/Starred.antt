-- Every starred line of the bench sheet holds of the definitions, by one test that computes over the table.
-- Assumes nothing.
use Rattle.refusal.specs.Every.{Every}
use Rattle.wire_bytes.specs.Bytes.{bytes_of}
use Rattle.wire.specs.Be.{be_from, be}
use Rattle.tlv.specs.Entries.{valued, long, first, contents, step, frames, framing}
use Rattle.tlv.specs.Limits.{limited, framed}
use Rattle.tlv_writing.specs.Encode.{header, encode, encode_all, sized}
use Rattle.tlv_rewriting.specs.Rewrite.{keeps_of, kept, rewritten, set_last}
use Rattle.policy_flags.specs.Threshold.{threshold, with_threshold}
use Rattle.change_lists.specs.Operations.{set_of, removal_of, first_op, op_step, ops_in, ops_of, bare, encode_op, encode_ops, limited_ops, operations}
use Rattle.change_folds.specs.Fold.{about, touches, lasts, sets_of, removes, removals_below, types, fold_all, sized_ops, folded}
use Rattle.change_folds.specs.Run.{perform, run_all, ran}
use Rattle.network_framing.specs.Frame as frame
use Rattle.network_framing.specs.Tlvs as tlvs
use Rattle.network_data.specs.Rules as rules
use Rattle.network_data.specs.Decode as decode
use Rattle.diag_rules.specs.Mask.{bit_of, routers, routers_of, routes_fit}
use Rattle.route64.specs.Routes.{rows_of, route_rows}
use Rattle.diag_rows.specs.Rows.{listed, child_rows, timeout_seconds}
use Rattle.diag_rules.specs.Rule.{keeps_rule, value_of}
use Rattle.starred.specs.Sheet.{Holds, sheet}
use Rattle.starred.proofs.Same.{all_hold}

pub starred : Every Holds sheet
unfolding be_from be bytes_of valued long first contents step frames framing limited framed header encode encode_all keeps_of kept rewritten set_last sized
    threshold with_threshold set_of removal_of first_op op_step ops_in ops_of bare limited_ops operations about touches lasts sets_of removes removals_below
    types fold_all encode_op encode_ops sized_ops folded perform run_all ran frame.walk_in tlvs.step tlvs.frames tlvs.first frame.head_at frame.inner_of tlvs.opened tlvs.domain_of tlvs.bits_of tlvs.bytes_of rules.ended
    rules.rules rules.check_in rules.check_head rules.check_prefix rules.values rules.check_from rules.check_value decode.places_in decode.head_items
    decode.inner decode.prefix_at decode.prefixes decode.contents decode.decode_network_data bit_of routers routers_of routes_fit rows_of route_rows listed
    child_rows timeout_seconds keeps_rule value_of
starred = all_hold sheet tt
