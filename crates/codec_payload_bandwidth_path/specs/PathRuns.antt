-- Runs of calls of a path, the first one first.
use Rattle.std.specs.Prelude.{◌≡◌, ℕ, ◌+◌, ◌*◌, ◌≤◌, max, if◌then◌else◌, List, [], ◌∷◌, ◌++◌, length, Option, Some, None}
use Rattle.codec_payload_bandwidth_estimator.specs.Estimates.{pace_of}
use Rattle.codec_payload_bandwidth_layers.specs.declared.chooser.LayerChoice.{LayerChoice}
use Rattle.codec_payload_bandwidth_pacer.specs.Pacing.{bits_of, filled, next_of, pushed, removed}
use Rattle.codec_payload_bandwidth_pacer.specs.Resending.{after_resend, new_limit}
use Rattle.codec_payload_bandwidth_pacer.specs.ResendRuns.{Call as LimitCall, after_calls as limit_after, resend as limit_resend, resent_by, resent_bytes, sent as limit_sent, sent_in}
use Rattle.codec_payload_bandwidth_pacer.specs.Runs.{Call as PacerCall, carried_by, last_size, pop as pacer_pop, push as pacer_push, remove as pacer_remove, set_rate, sizes, with_packet}
use Rattle.codec_payload_bandwidth_pacer.specs.declared.pacer.PacedKind.{PacedKind}
use Rattle.codec_payload_bandwidth_pacer.specs.declared.pacer.PacedPacket.{PacedPacket}
use Rattle.codec_payload_bandwidth_path.specs.Departures.{index_near, taken_back}
use Rattle.codec_payload_bandwidth_path.specs.Paths.{Path, after_choice, after_feedback, after_pop, estimate_at, is_first, least_pace, new_path}
use Rattle.codec_payload_bandwidth_path.specs.declared.path.PathSettings.{PathSettings}

-- a packet that is stored; what leaves now; the first packet of a kind is removed; a packet may be retransmitted, or not; feedback;
-- a choice of layers; the latest packet is taken back
pub data Call : Type 0 where
  push : (packet : PacedPacket) → Call
  pop : (now : ℕ) → Call
  remove : (kind : PacedKind) → Call
  resend : (now number size round_trip : ℕ) → Call
  feedback : (now round_trip base : ℕ) (statuses : List (Option ℕ)) → Call
  choose : (now : ℕ) (choices : List LayerChoice) → Call
  take_back : (number : ℕ) → Call

abbrev pub after_call : Call → Path → Path
after_call (push packet) p = record p { pacer = pushed packet p.pacer }
after_call (pop now) p = after_pop now p
after_call (remove kind) p = record p { pacer = removed kind p.pacer }
after_call (resend now number size round_trip) p = record p { limit = after_resend now number size round_trip p.limit }
after_call (feedback now round_trip base statuses) p = after_feedback now round_trip base statuses p
after_call (choose now choices) p = after_choice now choices p
after_call (take_back number) p = record p { departures = taken_back number p.departures }

abbrev pub after_calls : List Call → Path → Path
after_calls [] p = p
after_calls (call ∷ calls) p = after_calls calls (after_call call p)

-- ---- what leaves

abbrev pub left_at : Call → Path → Option PacedPacket
left_at (push packet) p = None
left_at (pop now) p = next_of (filled now p.pacer)
left_at (remove kind) p = None
left_at (resend now number size round_trip) p = None
left_at (feedback now round_trip base statuses) p = None
left_at (choose now choices) p = None
left_at (take_back number) p = None

-- the packets that leave in these calls
abbrev pub left_by : List Call → Path → List PacedPacket
left_by [] p = []
left_by (call ∷ calls) p = with_packet (left_at call p) (left_by calls (after_call call p))

-- the pace that a choice sets
abbrev pub pace_at : ℕ → List LayerChoice → Path → ℕ
pace_at now choices p = max (pace_of now (estimate_at now choices p)) (least_pace choices)

-- what a call is for the pacer
abbrev pub pacer_call : Call → Path → List PacerCall
pacer_call (push packet) p = pacer_push packet ∷ []
pacer_call (pop now) p = pacer_pop now ∷ []
pacer_call (remove kind) p = pacer_remove kind ∷ []
pacer_call (resend now number size round_trip) p = []
pacer_call (feedback now round_trip base statuses) p = []
pacer_call (choose now choices) p = set_rate now (pace_at now choices p) ∷ []
pacer_call (take_back number) p = []

abbrev pub pacer_calls : List Call → Path → List PacerCall
pacer_calls [] p = []
pacer_calls (call ∷ calls) p = pacer_call call p ++ pacer_calls calls (after_call call p)

-- What leaves in any calls, from any state on, is at most what the paces carry meanwhile, and the burst, and the last packet
abbrev pub LeavesByThePace : Type 0
LeavesByThePace =
    (p : Path) (calls : List Call)
    → bits_of (sizes (left_by calls p)) ≤ carried_by (pacer_calls calls p) p.pacer + bits_of (p.pacer.settings.burst + last_size (left_by calls p))

-- ---- retransmissions

abbrev pub sent_call : ℕ → Option PacedPacket → List LimitCall
sent_call now None = []
sent_call now (Some packet) = if is_first packet.kind then limit_sent now packet.size ∷ [] else []

-- what a call is for the limit: a packet that leaves for the first time, or a request
abbrev pub limit_call : Call → Path → List LimitCall
limit_call (push packet) p = []
limit_call (pop now) p = sent_call now (next_of (filled now p.pacer))
limit_call (remove kind) p = []
limit_call (resend now number size round_trip) p = limit_resend now number size round_trip ∷ []
limit_call (feedback now round_trip base statuses) p = []
limit_call (choose now choices) p = []
limit_call (take_back number) p = []

-- in front of those before, so that the latest is first
abbrev pub limit_calls : List Call → Path → List LimitCall → List LimitCall
limit_calls [] p before = before
limit_calls (call ∷ calls) p before = limit_calls calls (after_call call p) (limit_call call p ++ before)

-- the same for a new path
abbrev pub limit_calls_of : ℕ → PathSettings → List Call → List LimitCall
limit_calls_of now settings calls = limit_calls calls (new_path now settings) []

-- The bytes that any calls of a new path allow to be retransmitted are at most the share of the bytes that leave for the first time in them
abbrev pub ResendsByTheShare : Type 0
ResendsByTheShare =
    (now : ℕ) (settings : PathSettings) (calls : List Call)
    → resent_bytes (resent_by (limit_calls_of now settings calls) (new_limit settings.resends)) * 1000
    ≤ settings.resends.share * sent_in (limit_calls_of now settings calls)

-- and the limit of the path after these calls is the one that they leave
abbrev pub LimitsByCalls : Type 0
LimitsByCalls =
    (now : ℕ) (settings : PathSettings) (calls : List Call)
    → (after_calls calls (new_path now settings)).limit ≡ limit_after (limit_calls_of now settings calls) (new_limit settings.resends)

-- ---- feedback

-- Feedback whose first packet did not leave on the path changes nothing
abbrev pub StrangersChangeNothing : Type 0
StrangersChangeNothing =
    (p : Path) (now round_trip base : ℕ) (statuses : List (Option ℕ)) → index_near base p.departures.count ≡ None → after_feedback now round_trip base statuses p ≡ p

-- What feedback says of packets behind all that left changes nothing
abbrev pub PacketsBehindChangeNothing : Type 0
PacketsBehindChangeNothing =
    (p : Path) (now round_trip base first : ℕ) (statuses behind : List (Option ℕ)) → index_near base p.departures.count ≡ Some first
    → p.departures.count ≤ first + length statuses → after_feedback now round_trip base (statuses ++ behind) p ≡ after_feedback now round_trip base statuses p
