-- What RTCP feedback requests of the sender of a stream (RFC 4585, sections 6.2.1 and 6.3.1; RFC 5104, section 4.3.1).
use Rattle.std.specs.Prelude.{ℕ, ◌==◌, ◌||◌, if◌then◌else◌, Bool, false, List, [], ◌∷◌, ◌++◌, map, Option, Some, None, Result, Ok}
use Rattle.std.specs.Int.{w32, from_be_bytes}
use Rattle.std.specs.List.{flat_map}
use Rattle.codec_payload_rtcp.specs.NackNumbers.{Left, numbers_in, numbers_left}
use Rattle.codec_payload_rtcp.specs.RtcpPackets.{Packet, sender_report, receiver_report, source_description, goodbye, nack, picture_loss, full_intra, other}
use Rattle.codec_payload_rtcp.specs.RtcpReading.{compound_at, packets_left}
use Rattle.codec_payload_rtcp.specs.Steps.{◌>>=◌}
use Rattle.codec_payload_rtcp.specs.declared.packet.RtcpError.{RtcpError}
use Rattle.codec_payload_sending_history.specs.declared.feedback.Request.{Request}
use Rattle.codec_payload_sending_history.specs.declared.feedback.Request.TheVariants as requests
use Rattle.codec_payload_sending_history.specs.declared.feedback.Sorted.{Sorted}
use Rattle.codec_payload_sending_history.specs.declared.feedback.Sorted.TheVariants as sorted

-- the source of the entry at the front, and the entries after it
unfoldable pub entry_at_front : List ℕ → Option (ℕ × List ℕ)
entry_at_front (s3 ∷ s2 ∷ s1 ∷ s0 ∷ number ∷ r2 ∷ r1 ∷ r0 ∷ entries) = Some (from_be_bytes w32 (s3 ∷ s2 ∷ s1 ∷ s0 ∷ []), entries)
entry_at_front bytes = None

-- an entry of the request is for that source
unfoldable pub names : ℕ → List ℕ → Bool
names ssrc (s3 ∷ s2 ∷ s1 ∷ s0 ∷ number ∷ r2 ∷ r1 ∷ r0 ∷ entries) = (from_be_bytes w32 (s3 ∷ s2 ∷ s1 ∷ s0 ∷ []) == ssrc) || names ssrc entries
names ssrc bytes = false

-- what a packet requests of the stream of that source: the packets that a generic NACK for it names, and a keyframe for a PLI or
-- a FIR that names it
abbrev pub requests_of : ℕ → Packet → List Request
requests_of ssrc (nack f) = if f.media == ssrc then map requests.Packet (numbers_in f.fci) else []
requests_of ssrc (picture_loss f) = if f.media == ssrc then requests.Keyframe ∷ [] else []
requests_of ssrc (full_intra f) = if names ssrc f.fci then requests.Keyframe ∷ [] else []
requests_of ssrc (sender_report s) = []
requests_of ssrc (receiver_report r) = []
requests_of ssrc (source_description cs) = []
requests_of ssrc (goodbye g) = []
requests_of ssrc (other p) = []

-- the same, as it is sorted
abbrev pub sorted_requests : Sorted → List Request
sorted_requests (sorted.Numbers numbers) = map requests.Packet (numbers_left numbers)
sorted_requests sorted.Keyframe = requests.Keyframe ∷ []
sorted_requests sorted.Nothing = []

-- what packets request, in order
abbrev pub requests_in : ℕ → List Packet → List Request
requests_in ssrc packets = flat_map (requests_of ssrc) packets

-- what a compound packet requests, or the first fault of it
abbrev pub requests_at : Bool → ℕ → List ℕ → Result (List Request) RtcpError
requests_at full ssrc bytes = compound_at full bytes >>= λ packets. Ok (requests_in ssrc packets)

-- what is left of an iteration: the numbers of a NACK, and the packets after it
pub record RequestsLeft : Type 0 where
  pub ssrc : ℕ
  pub numbers : Left
  pub packets : List ℕ

abbrev pub requests_left : RequestsLeft → List Request
requests_left s = map requests.Packet (numbers_left s.numbers) ++ requests_in s.ssrc (packets_left s.packets)
