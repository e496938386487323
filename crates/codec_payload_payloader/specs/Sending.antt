-- How a sample becomes packets, and how a sink takes them.
use Rattle.std.specs.Prelude.{◌≡◌, ℕ, ◌+◌, ◌%◌, ◌^◌, ◌&&◌, ◌||◌, Bool, true, false, List, [], ◌∷◌, ◌++◌, Ok, Err, length, refl}
use Rattle.codec_payload_base.specs.Time.{Time, rebased}
use Rattle.codec_payload_base.specs.declared.error.PacketError.{PacketError}
use Rattle.codec_payload_base.specs.declared.wire.extension.ExtensionValues.{ExtensionValues}
use Rattle.codec_payload_base.specs.declared.wire.ToPayload.{ToPayload}
use Rattle.codec_payload_codec.specs.Packetizers.{PacketizerState, PacketizerStep, is_built_in, marker_of, talk_spurt_of, nackable_of}
use Rattle.codec_payload_payloader.specs.Packets.{Packet}
use Rattle.codec_payload_base.specs.StrippedValues.{stripped}

-- a sample, without the place of its bytes
pub record Sample : Type 0 where
  pub pt : ℕ
  pub wallclock : ℕ
  pub rtp_time : Time
  pub bytes : List ℕ
  pub start_of_talk_spurt : Bool
  pub ext_vals : ExtensionValues

abbrev pub sample_of : ToPayload → Sample
sample_of s = record {
  pt = s.pt;
  wallclock = s.wallclock.0;
  rtp_time = s.rtp_time;
  bytes = s.bytes.items;
  start_of_talk_spurt = s.start_of_talk_spurt;
  ext_vals = s.ext_vals;
}

-- a payloader: its packetizer and the rate of the RTP clock
pub record Payloading : Type 0 where
  pub packetizer : PacketizerState
  pub clock_rate : ℕ

-- the RTP time: the time of the sample by the RTP clock, reduced to 32 bits
abbrev pub rtp_time_at : ℕ → Time → ℕ
rtp_time_at clock_rate time = (rebased time clock_rate).numer % 2 ^ 32

-- one packet of a sample, with the extension values for its place; `last` says that no other packet of the sample follows
abbrev pub packet_for : PacketizerState → Sample → ℕ → ℕ → ExtensionValues → Bool → List ℕ → Packet
packet_for packetizer sample rtp_time number ext_vals last payload = record {
  pt = sample.pt;
  number = number;
  rtp_time = rtp_time;
  wallclock = sample.wallclock;
  marker = marker_of packetizer last || (talk_spurt_of packetizer && sample.start_of_talk_spurt);
  nackable = nackable_of packetizer;
  ext_vals = ext_vals;
  payload = payload;
}

abbrev pub is_last : List (List ℕ) → Bool
is_last [] = true
is_last (payload ∷ payloads) = false

-- the packets of a sample from one at that place on, with consecutive numbers
abbrev pub packets_from : PacketizerState → Sample → ℕ → ℕ → ℕ → List (List ℕ) → List Packet
packets_from packetizer sample rtp_time number place [] = []
packets_from packetizer sample rtp_time number place (payload ∷ payloads) =
    packet_for packetizer sample rtp_time number (stripped sample.ext_vals place (place + 1 + length payloads)) (is_last payloads) payload
    ∷ packets_from packetizer sample rtp_time ((number + 1) % 2 ^ 64) (place + 1) payloads

-- all packets of a sample
abbrev pub packets_for : PacketizerState → Sample → ℕ → ℕ → List (List ℕ) → List Packet
packets_for packetizer sample rtp_time number payloads = packets_from packetizer sample rtp_time number 0 payloads

-- the packet is q if the packetizer is built in; a custom one chooses the marker, and whether the packet may be retransmitted,
-- freely
abbrev pub IsAs : Bool → Packet → Packet → Type 0
IsAs true p q = p ≡ q
IsAs false p q = p ≡ record q { marker = p.marker; nackable = p.nackable }

-- the same for each of these packets
abbrev pub AreAs : Bool → List Packet → List Packet → Type 0
AreAs built_in [] [] = Unit {0}
AreAs built_in (p ∷ ps) (q ∷ qs) = IsAs built_in p q × AreAs built_in ps qs
AreAs built_in [] (q ∷ qs) = ⊥
AreAs built_in (p ∷ ps) [] = ⊥

-- a sink takes these packets, one after another, and makes these images of them
abbrev pub Sends : {S : Type 0} → (S → Packet → Packet → S → Type 0) → S → List Packet → List Packet → S → Type 0
Sends accepts before [] images after = (images ≡ []) × (after ≡ before)
Sends {S} accepts before (packet ∷ packets) images after =
    (image : Packet) × (more : List Packet) × (mid : S) × (images ≡ image ∷ more) × accepts before packet image mid × Sends accepts mid packets more after

-- the number after the numbers of these packets
abbrev pub number_after : ℕ → List Packet → ℕ
number_after number [] = number
number_after number (packet ∷ packets) = number_after ((number + 1) % 2 ^ 64) packets

-- the packets of the sample were sent: one for each payload of the packetizer, and the sink gained their images
pub record SendsSample {S : Type 0} (accepts : S → Packet → Packet → S → Type 0) (sent : S → List Packet) (next : S → ℕ) (mtu : ℕ) (sample : Sample) (p : Payloading)
    (before : S) (p' : Payloading) (after : S) : Type 0 where
  pub payloads : List (List ℕ)
  pub packetized : PacketizerStep p.packetizer mtu sample.bytes (Ok payloads) p'.packetizer
  pub packets : List Packet
  pub are : AreAs (is_built_in p'.packetizer) packets (packets_for p'.packetizer sample (rtp_time_at p.clock_rate sample.rtp_time) (next before) payloads)
  pub images : List Packet
  pub sends : Sends accepts before packets images after
  pub gained : sent after ≡ sent before ++ images
  pub goes_on : next after ≡ number_after (next before) images

-- the sink refused a packet of the sample: those before it were sent
pub record SendsBeginning {S : Type 0} (accepts : S → Packet → Packet → S → Type 0) (refuses : S → Packet → PacketError → S → Type 0) (sent : S → List Packet)
    (next : S → ℕ) (mtu : ℕ) (sample : Sample) (fault : PacketError) (p : Payloading) (before : S) (p' : Payloading) (after : S) : Type 0 where
  pub payloads : List (List ℕ)
  pub packetized : PacketizerStep p.packetizer mtu sample.bytes (Ok payloads) p'.packetizer
  pub begun : List Packet
  pub refused : Packet
  pub left : List Packet
  pub whole : AreAs (is_built_in p'.packetizer) (begun ++ refused ∷ left) (packets_for p'.packetizer sample (rtp_time_at p.clock_rate sample.rtp_time) (next before) payloads)
  pub images : List Packet
  pub mid : S
  pub sends : Sends accepts before begun images mid
  pub refusal : refuses mid refused fault after
  pub gained : sent after ≡ sent before ++ images
  pub goes_on : next after ≡ number_after (next before) images

-- the packetizer refused the sample, and nothing was sent
pub record SendsNothing {S : Type 0} (mtu : ℕ) (sample : Sample) (fault : PacketError) (p : Payloading) (before : S) (p' : Payloading) (after : S) : Type 0 where
  pub packetized : PacketizerStep p.packetizer mtu sample.bytes (Err fault) p'.packetizer
  pub same : after ≡ before

-- a third of a second at 90 kHz is 16,000 ticks at 48 kHz
pub rtp_time_at-video : rtp_time_at 48000 (record { numer = 30000; rate = 90000 }) ≡ 16000
rtp_time_at-video = refl
