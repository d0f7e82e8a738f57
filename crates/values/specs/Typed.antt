-- Channel and security policy as bytes and numbers. Document 01: "channel 3 (page, number)"; "security policy 4 (rotation, flags)".
-- Assumes nothing.
use Rattle.std.specs.Prelude.{ℕ, List, ◌∷◌, ◌++◌, take, drop, get_or}
use Rattle.wire_bytes.specs.Bytes.{bytes_of}
use Rattle.wire.specs.Be.{be}
use Rattle.values.specs.declared.Channel.{Channel}
use Rattle.values.specs.declared.SecurityPolicy.{SecurityPolicy}

-- of a value of 3 bytes: its first byte, and the number that the others spell
abbrev pub channel_of : List ℕ → Channel
channel_of v = record { page = get_or v 0 0; channel = be (drop 1 v) }

abbrev pub channel_bytes : Channel → List ℕ
channel_bytes c = c.page ∷ bytes_of 2 c.channel

-- of a value of 4 bytes: two numbers of 2 bytes
abbrev pub policy_of : List ℕ → SecurityPolicy
policy_of v = record { rotation_time = be (take 2 v); flags = record { 0 = be (drop 2 v) } }

abbrev pub policy_bytes : SecurityPolicy → List ℕ
policy_bytes p = bytes_of 2 p.rotation_time ++ bytes_of 2 p.flags.0
