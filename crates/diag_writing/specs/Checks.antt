-- What the code finds as it goes through the lent tables once: no public contract cites it.
-- Assumes nothing.
use Rattle.std.specs.Prelude.{ℕ, ◌+◌, ◌%◌, Bool, true, false, length, take, leb, eqb}
use Rattle.refusal.specs.Sizes.{most_bytes, most_has_routes, most_border_routers}
use Rattle.refusal.specs.Answer.{pick}
use Rattle.tlv_writing.specs.Encode.{entry_size}
use Rattle.network_framing.specs.Tlvs.{bytes_for}
use Rattle.network_data.specs.declared.PrefixEntry.{PrefixEntry}
use Rattle.diag_rows.specs.declared.ChildIpv6AddrInfo.{ChildIpv6AddrInfo}
use Rattle.network_writing.specs.Fits.{most_item, context_fits}
use Rattle.network_writing.specs.Tables.{context_of}
use Rattle.record_writing.specs.Written.{short_list}
use Rattle.diag_writing.specs.Pieces.{value_size}
use Rattle.writing_walks.specs.declared.Prefixes.{Prefixes}
use Rattle.writing_walks.specs.declared.Lists.{Lists}

-- a sum that stays once it is over the size of a payload
unfoldable pub grown : (sum n : ℕ) → ℕ
grown s n = pick (leb s most_bytes) (s + n) s

abbrev pub unfit : Prefixes
unfit = record { routes = 0; borders = 0; size = 0; fits = false }

-- its array holds the bytes that its bit length asks for: an array of 32 always does, and a list need not
abbrev pub prefix_held : PrefixEntry → Bool
prefix_held e = eqb (length (take (bytes_for e.prefix_bit_length) e.prefix)) (bytes_for e.prefix_bit_length)

-- a prefix that has its bytes and few enough rows, fits its length byte, and has a context that fits
unfoldable pub entry_fits : PrefixEntry → Bool
entry_fits e =
    pick (prefix_held e)
    (pick (leb e.has_routes most_has_routes)
    (pick (leb e.border_routers most_border_routers) (pick (context_fits (context_of e.six_low_pan_context)) (leb (value_size e) most_item) false) false) false) false

unfoldable pub passed_prefix : Prefixes → PrefixEntry → Prefixes
passed_prefix f e =
    pick f.fits
    (pick (leb f.routes most_has_routes)
    (pick (leb f.borders most_border_routers)
    (pick (entry_fits e)
    (record { routes = f.routes + e.has_routes; borders = f.borders + e.border_routers; size = grown f.size (2 + value_size e); fits = true })
    unfit) unfit) unfit) unfit

-- in n lent bytes
unfoldable pub list_fits_in : ℕ → ChildIpv6AddrInfo → Bool
list_fits_in n x = pick (eqb x.child_id (x.rloc16 % 512)) (pick (eqb (x.len % 16) 0) (leb (x.start + x.len) n) false) false

unfoldable pub passed_list : Lists → ChildIpv6AddrInfo → Lists
passed_list f x = record {
  bytes = f.bytes;
  short = pick f.short (short_list x) false;
  fits = pick f.fits (list_fits_in f.bytes x) false;
  size = grown f.size (entry_size (2 + x.len));
}
