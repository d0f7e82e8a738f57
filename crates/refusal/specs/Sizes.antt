-- The sizes of documents 01 and 02, by name. Definitions and proofs use the names, so that raising a size is one edit here and one in src/lib.rt.
-- Assumes nothing.
use Rattle.std.specs.Prelude.{ℕ}

-- "Raise datasets, payloads and change lists alike to 16,384 bytes and 256 entries or operations; hex input to 32,768 digits" (document 02, Six)
abbrev pub most_bytes : ℕ
most_bytes = 16384

abbrev pub most_entries : ℕ
most_entries = 256

abbrev pub most_digits : ℕ
most_digits = 32768

-- "for each Network Data value 64 prefixes and, over all of them, 96 HasRoute rows and 96 BorderRouter rows"
abbrev pub most_prefixes : ℕ
most_prefixes = 64

abbrev pub most_has_routes : ℕ
most_has_routes = 96

abbrev pub most_border_routers : ℕ
most_border_routers = 96

-- "a length byte 0 to 254": the longest value under a short header
abbrev pub most_short : ℕ
most_short = 254

-- "value over 65,535 bytes": the longest value that can be written
abbrev pub most_value : ℕ
most_value = 65535
