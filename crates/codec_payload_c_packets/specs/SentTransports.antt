-- The calls on the packets that were sent on a transport.
use Rattle.std.specs.Prelude.{◌≡◌, ◌⊎◌, ℕ, ◌&&◌, nat_le, Bool}
use Rattle.codec_payload_feedback_transport.specs.Sent.{Sent, after_sent, none_sent}
use Rattle.codec_payload_handle.specs.declared.object.Object.{Object}
use Rattle.codec_payload_handle.specs.declared.object.Object.TheVariants as objects

abbrev pub is_limit : ℕ → Bool
is_limit limit = nat_le 1 limit && nat_le limit 32768

-- nothing was sent
abbrev pub IsSentPacketsOf : ℕ → Object → Type 0
IsSentPacketsOf limit (objects.SentPackets r) = r.value ≡ none_sent limit
IsSentPacketsOf limit _ = ⊥

-- Status 0: the next number, and the packet is remembered. Status 17: memory ran out, and nothing changes
abbrev pub AssignsNumber : ℕ → Sent → (status before number : ℕ) → Sent → Type 0
AssignsNumber now r status before number s =
    ((status ≡ 0) × (number ≡ r.next) × (s ≡ after_sent now r)) ⊎ ((status ≡ 17) × (number ≡ before) × (s ≡ r))
