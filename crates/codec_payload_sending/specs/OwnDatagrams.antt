-- How a sample is sent through a custom packetizer: the questions to it, and the use of its answers.
use Rattle.std.specs.Prelude.{◌≡◌, ℕ, zero, suc, ◌+◌, ◌≤◌, ◌==◌, ◌&&◌, ◌||◌, ◌⊎◌, Bool, List, [], Option, Some, None, Result, Ok, Err, length, slice_index_or}
use Rattle.codec_payload_base.specs.declared.error.PacketError.{PacketError}
use Rattle.codec_payload_base.specs.declared.error.PacketError.TheVariants as faults
use Rattle.codec_payload_rtp.specs.RtpReading.{rtp_at}
use Rattle.codec_payload_sending.specs.Datagrams.{Sample, header_at}
use Rattle.codec_payload_sending.specs.declared.sender.Outgoing.{Outgoing}

-- the payload before the one at a place, if the sample has one
abbrev pub previous_of : List (List ℕ) → ℕ → Option (List ℕ)
previous_of payloads zero = None
previous_of payloads (suc before) = Some (slice_index_or payloads before [])

-- the packetizer b is asked once for the marker of the payload at a place, with the previous payload of the sample, and whether it
-- is the last; it is then b'. The marker is also set at the start of a talk spurt, if b marks them
pub record IsAskedAt {B : Type 0} (state : B → List ℕ) (mark : B → List ℕ → Option (List ℕ) → Bool → Bool → List ℕ → Type 0) (spurts : B → Bool)
    (sample : Sample) (payloads : List (List ℕ)) (place : ℕ) (b : B) (marker : Bool) (b' : B) : Type 0 where
  pub answer : Bool
  pub asked : mark b (slice_index_or payloads place []) (previous_of payloads place) (place + 1 == length payloads) answer (state b')
  pub marker_is : marker ≡ (answer || (spurts b && sample.start_of_talk_spurt))

-- the packetizer b is asked for the markers of the first n payloads, in order, and is then b'. P relates each place with its marker
abbrev pub AreAsked : {B : Type 0} (state : B → List ℕ) (mark : B → List ℕ → Option (List ℕ) → Bool → Bool → List ℕ → Type 0) (spurts : B → Bool)
    → Sample → List (List ℕ) → (ℕ → Bool → Type 0) → ℕ → B → B → Type 0
AreAsked state mark spurts sample payloads P zero b b' = b' ≡ b
AreAsked {B} state mark spurts sample payloads P (suc n) b b' =
    (mid : B) × AreAsked state mark spurts sample payloads P n b mid × (marker : Bool) × IsAskedAt state mark spurts sample payloads n mid marker b' × P n marker

-- the datagram at a place reads as the packet with that payload and that marker
abbrev pub ReadsAt : Outgoing → Sample → List (List ℕ) → List (List ℕ) → ℕ → Bool → Type 0
ReadsAt stream sample payloads datagrams place marker =
    rtp_at (slice_index_or datagrams place []) ≡ Ok (record { header = header_at stream sample place (length payloads) marker; payload = slice_index_or payloads place []; padding = 0 })

-- the packetizer b is asked once for the payloads of the sample, and once for the marker of each. Each payload is a datagram with that
-- marker. On a fault the packetizer answered with it, or memory ran out, and the first n markers were asked for
abbrev pub OwnSample : {B : Type 0} (state : B → List ℕ) (packetize : B → ℕ → List ℕ → Result (List (List ℕ)) PacketError → List ℕ → Type 0)
    (mark : B → List ℕ → Option (List ℕ) → Bool → Bool → List ℕ → Type 0) (spurts : B → Bool)
    → ℕ → Outgoing → Sample → B → Result (Unit {0}) PacketError → B → List (List ℕ) → Type 0
OwnSample {B} state packetize mark spurts mtu stream sample b (Ok _) b' datagrams =
    (payloads : List (List ℕ)) × (cut : B) × packetize b mtu sample.bytes (Ok payloads) (state cut) × (length datagrams ≡ length payloads)
    × AreAsked state mark spurts sample payloads (ReadsAt stream sample payloads datagrams) (length payloads) cut b'
OwnSample {B} state packetize mark spurts mtu stream sample b (Err fault) b' datagrams =
    packetize b mtu sample.bytes (Err fault) (state b')
    ⊎ ((fault ≡ faults.OutOfMemory) × (payloads : List (List ℕ)) × (cut : B) × packetize b mtu sample.bytes (Ok payloads) (state cut)
    × (n : ℕ) × (n ≤ length payloads) × AreAsked state mark spurts sample payloads (λ _ _. Unit {0}) n cut b')
