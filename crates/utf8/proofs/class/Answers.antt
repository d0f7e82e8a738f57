-- `utf8::class` meets its contract: the table's rule.
use borrow.Author.Rules.{rules}
use Rattle.utf8.proofs.Rule.{rule}
use Rattle.utf8.proofs.class.Goals as goal

pub returns : goal.returns
returns c = rule c.args.b (search rules)
