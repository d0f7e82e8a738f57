-- `tlv_writing::store_header` meets its contract.
use mathlib.Core.Path.{refl}
use native.Mathlib.Omega.{arith}
use lib.ListN.{length-set}
use Rattle.tlv_writing.proofs.Encodes.{header_short, header_long, header_two, header_four, put_short, put_long}
use Rattle.tlv_writing.proofs.store_header.Goals as goal

pub bounds-out-at : goal.bounds-out-at
bounds-out-at c = omega (arith, header_two c.args.ty c.args.n)

pub bounds-out-at-then-n-le-MAX_STANDARD_TLV_LENGTH : goal.bounds-out-at-then-n-le-MAX_STANDARD_TLV_LENGTH
bounds-out-at-then-n-le-MAX_STANDARD_TLV_LENGTH c = simp length-set (omega (arith, header_two c.args.ty c.args.n))

pub returns-then-n-le-MAX_STANDARD_TLV_LENGTH : goal.returns-then-n-le-MAX_STANDARD_TLV_LENGTH
returns-then-n-le-MAX_STANDARD_TLV_LENGTH c =
    (rw (header_short c.args.ty c.args.n c.if-n-le-MAX_STANDARD_TLV_LENGTH.true) refl, put_short _ _ _ _ c.if-n-le-MAX_STANDARD_TLV_LENGTH.true)

pub bounds-out-at-2 : goal.bounds-out-at-2
bounds-out-at-2 c = simp length-set (omega (arith, header_four c.args.ty c.args.n c.if-n-le-MAX_STANDARD_TLV_LENGTH.false))

pub bounds-out-at-3 : goal.bounds-out-at-3
bounds-out-at-3 c = simp length-set (omega (arith, header_four c.args.ty c.args.n c.if-n-le-MAX_STANDARD_TLV_LENGTH.false))

pub bounds-out-at-4 : goal.bounds-out-at-4
bounds-out-at-4 c = simp length-set (omega (arith, header_four c.args.ty c.args.n c.if-n-le-MAX_STANDARD_TLV_LENGTH.false))

pub returns : goal.returns
returns c =
    (rw (header_long c.args.ty c.args.n c.if-n-le-MAX_STANDARD_TLV_LENGTH.false) refl, put_long _ _ _ _ c.if-n-le-MAX_STANDARD_TLV_LENGTH.false)
