-- Retransmissions of packets that came before: probes. A sender may send a packet again under RFC 4588 without a request.
use Rattle.std.specs.Prelude.{ℕ, ◌+◌, ◌-◌, ◌/◌, ◌%◌, ◌^◌, ◌==◌, ◌&&◌, nat_lt, if◌then◌else◌, Bool, false, List, length, Option, Some, None, Result, Ok, Err, replicate, slice_get, slice_set}
use Rattle.std.specs.Global.{Box}
use Rattle.std.specs.Option.{option_map}
use Rattle.codec_payload_jitter.specs.declared.outcome.Outcome.{Outcome}
use Rattle.codec_payload_jitter.specs.declared.outcome.Outcome.TheVariants as outcomes
use Rattle.codec_payload_jitter.specs.declared.outcome.PacketCounters.{PacketCounters}
use Rattle.codec_payload_receiver.specs.declared.receiver.Counters.{Counters}
use Rattle.codec_payload_receiver.specs.declared.receiver.ReceiveError.{ReceiveError}
use Rattle.codec_payload_rtp.specs.RtpPackets.{Packet}
use Rattle.codec_payload_rtp.specs.RtpReading.{rtp_at}
use Rattle.codec_payload_rtp.specs.declared.rtp.RtpError.{RtpError}
use Rattle.codec_payload_session_formats.specs.Formats.{resends}
use Rattle.codec_payload_session_formats.specs.declared.formats.Format.{Format}
use Rattle.codec_payload_session_requests.specs.Late.{number_at}

-- for each remainder by 2,048 the quotient of the latest number that came, plus 1, and 0 if none came; how many retransmissions of
-- numbers that had come the receiver dropped as late, and how many as duplicates
pub record Probes : Type 0 where
  pub came : List ℕ
  pub late : ℕ
  pub duplicates : ℕ

-- what a stream keeps on the heap
abbrev pub in_box : Option (Box Probes) → Option Probes
in_box probes = option_map (λ b. b.value) probes

-- nothing came
abbrev pub no_probes : Probes
no_probes = record { came = replicate 2048 0; late = 0; duplicates = 0 }

-- a format without retransmissions has no probes
abbrev pub probes_by : Option ℕ → Option Probes
probes_by None = None
probes_by (Some payload_type) = Some no_probes

abbrev pub probes_for : Format → Option Probes
probes_for f = probes_by f.retransmission

abbrev pub is_round : Option ℕ → ℕ → Bool
is_round None number = false
is_round (Some round) number = round == number / 2048 + 1

-- a packet with this number came, and since then none with another number of the same remainder
abbrev pub has_come : ℕ → List ℕ → Bool
has_come number came = is_round (slice_get came (number % 2048)) number

-- a packet with this number came; without places nothing is remembered
abbrev pub with_number : ℕ → Probes → Probes
with_number number p = if nat_lt (number % 2048) (length p.came) then record p { came = slice_set p.came (number % 2048) (number / 2048 + 1) } else p

-- a packet that is retransmitted although it came, and which the receiver dropped for that
abbrev pub with_late : Bool → Probes → Probes
with_late is_probe p = if is_probe then record p { late = (p.late + 1) % 2 ^ 64 } else p

abbrev pub with_duplicate : Bool → Probes → Probes
with_duplicate is_probe p = if is_probe then record p { duplicates = (p.duplicates + 1) % 2 ^ 64 } else p

-- a packet with this number and outcome, which is a retransmission or not: its number has come, unless it is not known to be of the
-- stream
abbrev pub noted_number : ℕ → Bool → Outcome → Probes → Probes
noted_number number is_again outcomes.Held p = with_number number p
noted_number number is_again outcomes.HeldAndEvicted p = with_number number p
noted_number number is_again outcomes.Duplicate p = with_number number (with_duplicate (is_again && has_come number p.came) p)
noted_number number is_again outcomes.Late p = with_number number (with_late (is_again && has_come number p.came) p)
noted_number number is_again (outcomes.Restarted with_kept) p = with_number number p
noted_number number is_again outcomes.NoMedia p = with_number number p
noted_number number is_again outcomes.Suspect p = p
noted_number number is_again outcomes.OtherStream p = p
noted_number number is_again outcomes.Undecided p = p
noted_number number is_again outcomes.Rtcp p = p

abbrev pub noted_outcome : Option ℕ → Bool → Outcome → Probes → Probes
noted_outcome None is_again outcome p = p
noted_outcome (Some number) is_again outcome p = noted_number number is_again outcome p

abbrev pub after_answer : Option ℕ → Bool → Result Outcome ReceiveError → Probes → Probes
after_answer number is_again (Ok outcome) p = noted_outcome number is_again outcome p
after_answer number is_again (Err e) p = p

-- the datagram is a retransmission
abbrev pub is_again_by : Format → Result Packet RtpError → Bool
is_again_by f (Ok p) = resends f p.header.payload_type
is_again_by f (Err e) = false

abbrev pub is_again : Format → List ℕ → Bool
is_again f bytes = is_again_by f (rtp_at bytes)

-- after a datagram that the receiver answered so; a retransmission counts by its original number
abbrev pub noted : Format → List ℕ → Result Outcome ReceiveError → Option Probes → Option Probes
noted f bytes answer None = None
noted f bytes answer (Some p) = Some (after_answer (number_at f bytes) (is_again f bytes) answer p)

-- ---- counters

abbrev pub late_of : Option Probes → ℕ
late_of None = 0
late_of (Some p) = p.late

abbrev pub duplicates_of : Option Probes → ℕ
duplicates_of None = 0
duplicates_of (Some p) = p.duplicates

-- all of them, modulo 2^64
abbrev pub probes_of : Option Probes → ℕ
probes_of p = (late_of p + duplicates_of p) % 2 ^ 64

-- late packets and duplicates without probes
abbrev pub packets_without : Option Probes → PacketCounters → PacketCounters
packets_without p c = record c {
  late = (c.late + (2 ^ 64 - late_of p)) % 2 ^ 64;
  duplicates = (c.duplicates + (2 ^ 64 - duplicates_of p)) % 2 ^ 64;
}

abbrev pub counters_without : Option Probes → Counters → Counters
counters_without p c = record c { packets = packets_without p c.packets }
