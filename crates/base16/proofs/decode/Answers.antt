-- `base16::decode` meets its contract.
use mathlib.Core.Path.{◌≡◌, sym}
use mathlib.Core.Bool.{true}
use mathlib.Core.List.{List}
use Prim.Native.Nat.{ℕ, ◌≤◌}
use lib.ListN.{length}
use native.Mathlib.Omega.{arith}
use Rattle.laws.proofs.Emits.{emit_refused, emit_no_room, emit_done}
use Rattle.base16.specs.Loops.{all_digits, first_bad}
use Rattle.base16.proofs.Scans.{bad_tells, good_tells}
use Rattle.base16.proofs.Pairs.{length_paired}
use Rattle.base16.proofs.Decodes.{decoded_large, decoded_odd, decoded_bad, decoded_good}
use Rattle.base16.proofs.decode.Goals as goal

-- every character is a digit where no bad one was found
all_good : (text : List ℕ) (bad : ℕ) → bad ≡ first_bad 0 text → length text ≤ bad → all_digits text ≡ true
all_good text bad says over = good_tells text (omega arith)

pub returns-then-text-gt-MAX_DIGITS : goal.returns-then-text-gt-MAX_DIGITS
returns-then-text-gt-MAX_DIGITS c = rw c.refuse.ensures (emit_refused _ _ _ _ _ (decoded_large _ (omega arith)))

pub returns-then-text-eq1 : goal.returns-then-text-eq1
returns-then-text-eq1 c = rw c.refuse-then-text-eq1.ensures (emit_refused _ _ _ _ _ (decoded_odd _ (omega arith) (omega arith)))

pub returns-then-bad-text : goal.returns-then-bad-text
returns-then-bad-text c =
    let e = c.first_bad-bad.ensures in
    rw (c.refuse-then-bad-text.ensures, e) (emit_refused _ _ _ _ _ (decoded_bad _ (omega arith) (omega arith) (bad_tells _ (omega arith))))

pub returns-then-n-out : goal.returns-then-n-out
returns-then-n-out c = rw c.refuse-then-n-out.ensures (emit_no_room _ _ _ (decoded_good c.args.text.now (omega arith) (omega arith) (all_good c.args.text.now _ c.first_bad-bad.ensures c.if-bad-text.false)) (omega (arith, length_paired c.args.text.now)))

pub put_bytes-requires : goal.put_bytes-requires
put_bytes-requires c = ((all_good c.args.text.now _ c.first_bad-bad.ensures c.if-bad-text.false), omega arith)

pub returns : goal.returns
returns c = emit_done _ _ _ (decoded_good c.args.text.now (omega arith) (omega arith) (all_good c.args.text.now _ c.first_bad-bad.ensures c.if-bad-text.false)) _ _ (sym (length_paired _)) c.put_bytes.ensures (omega (arith, length_paired c.args.text.now))
