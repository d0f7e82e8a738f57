-- `network_tables::rows::seek_prefix` meets its contract. Assumes nothing.
use mathlib.Core.Path.{sym, ap, ◌∙◌}
use Rattle.network_framing.specs.Frame.{head_answer}
use Rattle.network_data.specs.Decode.{inner, head_items}
use Rattle.network_tables.proofs.Seeks.{in_empty}
use Rattle.network_tables.proofs.rows.seek_prefix.Goals as goal

pub returns-in-Some : goal.returns-in-Some
unfolding inner head_items
returns-in-Some c = c.seek_in.ensures ∙ simp (sym c.head_at.ensures ∙ ap head_answer c.in-Some.is)

pub returns-in-None : goal.returns-in-None
unfolding inner head_items
returns-in-None c =
    let a = c.args in
    c.no_rows.ensures ∙ sym (in_empty a.ty a.size a.end) ∙ simp (sym c.head_at.ensures ∙ ap head_answer c.in-None.is)
