-- The requests of a stream, and the compound packets that carry them.
use Rattle.std.specs.Prelude.{◌≡◌, ◌≤◌, ℕ, ◌+◌, ◌/◌, ◌-◌, ◌%◌, ◌^◌, ◌==◌, ◌&&◌, not, min, nat_le, if◌then◌else◌, Bool, true, false, List, [], ◌∷◌, ◌++◌, length, map, Option, Some, None}
use Rattle.codec_payload_feedback_requests.specs.KeyframeRequests.{after_pause, deadline_of as keyframe_deadline, is_due, new_requests as no_keyframes}
use Rattle.codec_payload_feedback_requests.specs.NackSchedule.{Schedule, after_answer, after_due, due_numbers, earliest_of, low_bits, new_schedule, refreshed, reported_as}
use Rattle.codec_payload_feedback_requests.specs.Requests.{earlier}
use Rattle.codec_payload_feedback_requests.specs.RoundTrips.{known_trip}
use Rattle.codec_payload_feedback_requests.specs.declared.keyframe.KeyframeRequests.{KeyframeRequests}
use Rattle.codec_payload_feedback_requests.specs.declared.nack.NackSettings.{NackSettings}
use Rattle.codec_payload_feedback.specs.declared.requests.RequestCounts.{RequestCounts}
use Rattle.codec_payload_rtcp.specs.NackNumbers.{numbers_in}
use Rattle.codec_payload_rtcp.specs.RtcpPackets.{Packet, nack, picture_loss, receiver_report, source_description}
use Rattle.codec_payload_rtcp.specs.RtcpWriting.{AreUnpadded, cname_chunk}

-- who sends feedback, under which name, and whether a report comes first
pub record Source : Type 0 where
  pub ssrc : ℕ
  pub cname : List ℕ
  pub has_report : Bool

-- the requests of the stream with that SSRC, and how many were sent
pub record Requests : Type 0 where
  pub ssrc : ℕ
  pub nack : Schedule
  pub keyframes : KeyframeRequests
  pub counts : RequestCounts

-- no more numbers than one NACK can name
pub record Bounded (s : Schedule) : Type 0 where
  pub capacity : s.settings.capacity ≤ 65533
  pub pending : length s.pending ≤ 65533

abbrev pub source_by : ℕ → List ℕ → Bool → Option Source
source_by ssrc cname has_report = if nat_le (length cname) 255 then Some (record { ssrc = ssrc; cname = cname; has_report = has_report }) else None

-- ---- packets

-- new is old with the bytes of these packets, each without padding, at its end
abbrev pub AppendsAll : List Packet → List ℕ → List ℕ → Type 0
AppendsAll ps old new = (written : List ℕ) × AreUnpadded ps written × (new ≡ old ++ written)

-- an empty receiver report
abbrev pub report_if : Bool → ℕ → List Packet
report_if true ssrc = receiver_report (record { ssrc = ssrc; blocks = []; extension = [] }) ∷ []
report_if false ssrc = []

abbrev pub report_part : Source → List Packet
report_part s = report_if s.has_report s.ssrc

-- a source without a name describes nothing
abbrev pub cname_by : ℕ → List ℕ → List Packet
cname_by ssrc [] = []
cname_by ssrc (c ∷ cs) = source_description (cname_chunk ssrc (c ∷ cs) ∷ []) ∷ []

abbrev pub cname_part : Source → List Packet
cname_part s = cname_by s.ssrc s.cname

abbrev pub cname_if : Bool → Source → List Packet
cname_if true s = cname_part s
cname_if false s = []

-- a compound packet has the name (RFC 3550, section 6.1); one of reduced size has feedback alone (RFC 5506)
abbrev pub description_part : Source → List Packet
description_part s = cname_if s.has_report s

abbrev pub nack_by : ℕ → ℕ → List ℕ → List ℕ → List Packet
nack_by sender media [] pairs = []
nack_by sender media (n ∷ ns) pairs = nack (record { sender = sender; media = media; fci = pairs }) ∷ []

abbrev pub keyframe_part : ℕ → ℕ → Bool → List Packet
keyframe_part sender media true = picture_loss (record { sender = sender; media = media; fci = [] }) ∷ []
keyframe_part sender media false = []

-- pairs that name exactly these numbers, in their order (RFC 4585, section 6.2.1), and no fewer bytes name them
pub record AreFewest (numbers pairs : List ℕ) : Type 0 where
  pub names : numbers_in pairs ≡ numbers
  pub fewest : (other : List ℕ) → numbers_in other ≡ numbers → length pairs ≤ length other

-- a NACK of the fewest pairs that name exactly these numbers, in their order; without numbers nothing
abbrev pub AppendsNack : ℕ → ℕ → List ℕ → List ℕ → List ℕ → Type 0
AppendsNack sender media numbers old new =
    (pairs : List ℕ) × AreFewest numbers pairs × AppendsAll (nack_by sender media numbers pairs) old new

-- the packets of a source with these requests
abbrev pub packets_of : Source → ℕ → List ℕ → List ℕ → Bool → List Packet
packets_of s media numbers pairs keyframe =
    report_part s ++ (description_part s ++ (nack_by s.ssrc media numbers pairs ++ keyframe_part s.ssrc media keyframe))

-- something is requested
abbrev pub has_any : List ℕ → Bool → Bool
has_any [] keyframe = keyframe
has_any (n ∷ ns) keyframe = true

-- packets one after another, of which the NACK names exactly the numbers, by the fewest pairs; none exactly if nothing is requested
abbrev pub IsFeedback : Source → ℕ → List ℕ → Bool → Option (List ℕ) → Type 0
IsFeedback s media numbers keyframe None = has_any numbers keyframe ≡ false
IsFeedback s media numbers keyframe (Some bytes) =
    (has_any numbers keyframe ≡ true) × (pairs : List ℕ) × AreFewest numbers pairs × AreUnpadded (packets_of s media numbers pairs keyframe) bytes

-- ---- calls

abbrev pub limited : NackSettings → NackSettings
limited settings = record settings { capacity = min settings.capacity 65533 }

abbrev pub new_requests : ℕ → NackSettings → ℕ → Requests
new_requests ssrc settings interval = record { ssrc = ssrc; nack = new_schedule (limited settings); keyframes = no_keyframes interval; counts = record { numbers = 0; keyframes = 0 } }

abbrev pub updated : ℕ → List ℕ → Bool → Requests → Requests
updated now missing wanted r = record r { nack = refreshed now missing r.nack; keyframes = record r.keyframes { wanted = wanted } }

-- a keyframe is needed
abbrev pub wanting : Requests → Requests
wanting r = record r { keyframes = record r.keyframes { wanted = true } }

-- what is due: the 16 bits of numbers, and whether a keyframe is
abbrev pub numbers_due : ℕ → Requests → List ℕ
numbers_due now r = map low_bits (due_numbers now r.nack)

abbrev pub keyframe_is_due : ℕ → Requests → Bool
keyframe_is_due now r = is_due now r.keyframes

abbrev pub pause_by : Option ℕ → ℕ
pause_by None = 0
pause_by (Some round_trip) = min (round_trip + round_trip / 2) (2 ^ 64 - 1)

-- a keyframe is not requested again for one and a half round trips: its packets may be on their way
abbrev pub keyframe_pause : Requests → ℕ
keyframe_pause r = pause_by (known_trip r.nack.trip)

-- these requests are counted, modulo 2^64
abbrev pub counted : List ℕ → Bool → RequestCounts → RequestCounts
counted numbers keyframe c = record {
  numbers = if length numbers == 0 then c.numbers else (c.numbers + length numbers) % 2 ^ 64;
  keyframes = if keyframe then (c.keyframes + 1) % 2 ^ 64 else c.keyframes;
}

-- what is due was sent
abbrev pub after_feedback : ℕ → Requests → Requests
after_feedback now r = record r { nack = after_due now r.nack; keyframes = after_pause now (keyframe_pause r) r.keyframes; counts = counted (numbers_due now r) (keyframe_is_due now r) r.counts }

abbrev pub after_answered : ℕ → ℕ → Requests → Requests
after_answered now number r = record r { nack = after_answer now number r.nack }

-- reports say this round trip
abbrev pub reporting : Option ℕ → Requests → Requests
reporting round_trip r = record r { nack = reported_as round_trip r.nack }

-- no number is followed, and no keyframe is needed
abbrev pub is_idle : Requests → Bool
is_idle r = (length r.nack.pending == 0) && not r.keyframes.wanted

-- when the next request is due
abbrev pub deadline_of : Requests → Option ℕ
deadline_of r = earlier (earliest_of r.nack.pending) (keyframe_deadline r.keyframes)
