-- `diag_writing::prefixes::put_front` meets its contract.
use mathlib.Core.Path.{◌≡◌}
use native.Mathlib.Omega.{arith}
use lib.ListN.{length}
use borrow.Author.Rules.{rules}
use Rattle.diag_writing.proofs.PrefixParts.{front_put}
use Rattle.diag_writing.proofs.prefixes.put_front.Goals as goal

pub returns : goal.returns
returns c =
    let array : length c.args.bytes ≡ 32 = search rules in
    front_put c.args.bytes c.args.n c.args.at _ _ _ (omega arith) c.requires.1 c.put_bytes.ensures
