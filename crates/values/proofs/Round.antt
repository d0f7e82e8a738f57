-- What was written is read back, and what was read is written back: channel and security policy.
-- Assumes nothing.
use mathlib.Core.Path.{◌≡◌, refl, sym, ap}
use mathlib.Core.List.{List, [], ◌∷◌}
use Prim.Native.Nat.{ℕ, suc, ◌<◌}
use native.Mathlib.Omega.{arith}
use lib.ListN.{length}
use Rattle.refusal.specs.Answer.{given, on_given}
use Rattle.refusal.specs.Every.{Bytes}
use Rattle.wire_bytes.specs.Bytes.{bytes_of}
use Rattle.wire.specs.Be.{ruled}
use Rattle.wire.proofs.Bes.{ruled_is}
use Rattle.wire.proofs.Round.{be_bytes, bytes_read, length_bytes}
use Rattle.values.specs.Typed.{channel_of, channel_bytes, policy_of, policy_bytes}
use Rattle.values.specs.declared.Channel.{Channel}
use Rattle.values.specs.declared.SecurityPolicy.{SecurityPolicy}

-- ---- channel

module _ (c : Channel) where
  pub channel_back : c.channel < 65536 → channel_of (channel_bytes c) ≡ c
  channel_back h = ap (λ (n : ℕ). record { page = c.page; channel = n }) (be_bytes 2 c.channel h)

  pub channel_length : length (channel_bytes c) ≡ 3
  channel_length = ap suc (length_bytes 2 c.channel)

  pub channel_reads : (place : ℕ) → c.channel < 65536 → on_given channel_of (ruled 3 place (channel_bytes c)) ≡ given c
  channel_reads place h = sym (ruled_is channel_of 3 place (channel_bytes c) c channel_length (sym (channel_back h)))

pub channel_writes : (v : List ℕ) → length v ≡ 3 → Bytes v → channel_bytes (channel_of v) ≡ v
channel_writes [] l h = absurd (omega arith)
channel_writes (p ∷ s) l h = ap (λ (r : List ℕ). p ∷ r) (bytes_read 2 s (omega arith) h.1)

-- ---- security policy

module _ (p : SecurityPolicy) (h : p.rotation_time < 65536) (k : p.flags.0 < 65536) where
  pub policy_back : policy_of (policy_bytes p) ≡ p
  unfolding bytes_of
  policy_back = rw (be_bytes 2 p.rotation_time h, be_bytes 2 p.flags.0 k)

  pub policy_reads : (place : ℕ) → on_given policy_of (ruled 4 place (policy_bytes p)) ≡ given p
  unfolding bytes_of
  policy_reads place = sym (ruled_is policy_of 4 place (policy_bytes p) p refl (sym policy_back))

pub policy_writes : (v : List ℕ) → length v ≡ 4 → Bytes v → policy_bytes (policy_of v) ≡ v
policy_writes [] l h = absurd (omega arith)
policy_writes (a ∷ []) l h = absurd (omega arith)
policy_writes (a ∷ b ∷ s) l h =
    rw (bytes_read 2 (a ∷ b ∷ []) refl (h.0, (h.1.0, tt)), bytes_read 2 s (omega arith) h.1.1)
