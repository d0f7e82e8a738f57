-- `policy_forms::three_bytes` meets its contract: the definition, computed.
use mathlib.Core.Path.{◌≡◌}
use Prim.Native.Nat.{◌%◌}
use native.Mathlib.Omega.{arith}
use Rattle.wire_bytes.specs.Bytes.{bytes_of}
use Rattle.policy_forms.specs.Forms.{stored_bytes}
use Rattle.policy_forms.proofs.three_bytes.Goals as goal

pub returns : goal.returns
unfolding stored_bytes bytes_of
returns c = let h : c.args.flags % 256 ≡ c.args.flags = omega arith in rw (c.to_be_bytes.ensures, h)
