-- `nested_listing::item_at` meets its contract, by what the framing of the level found.
use mathlib.Core.Path.{sym, ap, ◌∙◌}
use Rattle.nested_listing.specs.Levels.{as_entry, as_tlv}
use Rattle.nested_listing.proofs.Turns.{item_first, item_below, not_cut}
use Rattle.nested_listing.proofs.item_at.Goals as goal

pub returns-in_default : goal.returns-in_default
returns-in_default c =
    not_cut _ c.in_default.not-Cut ∙ item_first _ _ _ c.if-nesting-eq-LEVELS.true _ c.frame_at-entry.ensures

pub returns-then-nesting-eq-LEVELS : goal.returns-then-nesting-eq-LEVELS
returns-then-nesting-eq-LEVELS c = ap as_entry (sym c.in-Cut.is) ∙ item_first _ _ _ c.if-nesting-eq-LEVELS.true _ c.frame_at-entry.ensures

pub returns-in-Item : goal.returns-in-Item
returns-in-Item c = ap as_tlv (sym c.in-Item.is) ∙ item_below _ _ _ c.if-nesting-eq-LEVELS.false c.sub_at.result c.sub_at.ensures

pub returns-in-Cut-sub_at : goal.returns-in-Cut-sub_at
returns-in-Cut-sub_at c = ap as_tlv (sym c.in-Cut-sub_at.is) ∙ item_below _ _ _ c.if-nesting-eq-LEVELS.false c.sub_at.result c.sub_at.ensures

pub returns-in-End : goal.returns-in-End
returns-in-End c = ap as_tlv (sym c.in-End.is) ∙ item_below _ _ _ c.if-nesting-eq-LEVELS.false c.sub_at.result c.sub_at.ensures
