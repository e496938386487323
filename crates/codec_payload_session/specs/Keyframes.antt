-- Keyframes that the caller of a session asks for: which stream requests one, and when its request leaves.
use Rattle.std.specs.Prelude.{◌≡◌, ℕ, Bool, true, false, List, Option, Some, None, is_some, slice_get, slice_set}
use Rattle.std.specs.List.{position}
use Rattle.codec_payload_base.specs.declared.wire.Ticks.{Ticks}
use Rattle.codec_payload_feedback.specs.Feedback.{keyframe_is_due}
use Rattle.codec_payload_feedback_requests.specs.Requests.{has_come}
use Rattle.codec_payload_receiver.specs.Sessions.{Session as Receiver}
use Rattle.codec_payload_session.specs.Arrivals.{Port, has_ssrc}
use Rattle.codec_payload_session.specs.Idle.{next_of}
use Rattle.codec_payload_session.specs.Polls.{Polls}
use Rattle.codec_payload_session.specs.Ports.{Session}
use Rattle.codec_payload_session_stream.specs.Quiet.{IsBefore}
use Rattle.codec_payload_session_requests.specs.Requests.{Asking, is_heard, refreshed}
use Rattle.codec_payload_session_stream.specs.Streams.{StreamState, answer_for, asked_for}
use Rattle.codec_payload_session_stream.specs.Units.{Event}
use Rattle.codec_payload_session_requests.specs.declared.requests.KeyframeAnswer.{KeyframeAnswer}
use Rattle.codec_payload_session_requests.specs.declared.requests.KeyframeAnswer.TheVariants as answers
use Rattle.codec_payload_session_stream.specs.declared.stream.Stage.TheVariants as stages

abbrev pub answer_of : Option StreamState → KeyframeAnswer
answer_of None = answers.NoStream
answer_of (Some s) = answer_for s

-- the answer of the stream at a place
abbrev pub answer_among : Option ℕ → List StreamState → KeyframeAnswer
answer_among None ss = answers.NoStream
answer_among (Some place) ss = answer_of (slice_get ss place)

abbrev pub asked_with : Option StreamState → ℕ → List StreamState → List StreamState
asked_with None place ss = ss
asked_with (Some s) place ss = slice_set ss place (asked_for s)

-- a keyframe of the stream at a place is asked for; no other stream changes
abbrev pub asked_among : Option ℕ → Port → Port
asked_among None p = p
asked_among (Some place) p = record p { streams = asked_with (slice_get p.streams place) place p.streams }

-- the first stream of the SSRC is asked; nothing else changes
abbrev pub asks_keyframe : ℕ → Session → Session
asks_keyframe ssrc s = record s { port = asked_among (position (has_ssrc ssrc) s.port.streams) s.port }

-- ---- when the request leaves

-- the limit allows a request for a keyframe
abbrev pub may_ask : Asking → ℕ → Bool
may_ask a now = has_come a.requests.keyframes.next now

-- a stream that was asked for a keyframe: while its sender is heard, each of its packets of requests has a PLI if the limit allows it,
-- and no PLI before. As long as that is so, and the stream plays, no poll is without an event; so the request leaves. The next
-- deadline is at most the time from which on the limit allows it
pub record LeavesFrom (place : ℕ) (a : Asking) (s : StreamState) (t : Session) : Type 0 where
  pub there : slice_get t.port.streams place ≡ Some s
  pub asking : s.feedback ≡ Some a
  pub is_asked : a.asked ≡ true
  pub sends : (now : ℕ) (r : Receiver) → keyframe_is_due now (refreshed now true r a).requests ≡ may_ask a now
  pub some : (now : Ticks) (answer : Option Event) (u : Session) → s.stage ≡ stages.Playing → is_heard now.0 s.last a ≡ true → may_ask a now.0 ≡ true → Polls now t answer u
      → is_some answer ≡ true
  pub deadline : (now : ℕ) → s.stage ≡ stages.Playing → IsBefore (next_of t) now → may_ask a now ≡ false

-- the first stream of the SSRC was asked
pub record KeyframeLeaves (ssrc : ℕ) (t : Session) : Type 0 where
  pub place : ℕ
  pub asking : Asking
  pub stream : StreamState
  pub first : position (has_ssrc ssrc) t.port.streams ≡ Some place
  pub leaves : LeavesFrom place asking stream t
