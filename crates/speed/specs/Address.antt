-- The address that `speed_address_text` takes bytes for.
-- Assumes nothing.
use Rattle.std.specs.Prelude.{ℕ, List, replicate}
use Rattle.refusal.specs.Output.{placed}

-- zeros, with the bytes put at their start where there are at most 16: 16 bytes are the address
unfoldable pub address_in : List ℕ → List ℕ
address_in bytes = (placed bytes 0 (replicate 16 0)).left
