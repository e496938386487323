-- Keyframes that the caller of a session asks for.
use Rattle.std.specs.Prelude.{◌≡◌, ℕ}
use Rattle.std.specs.List.{position}
use Rattle.codec_payload_handle.specs.declared.object.PortSession.{PortSession}
use Rattle.codec_payload_session.specs.Arrivals.{has_ssrc}
use Rattle.codec_payload_session.specs.Keyframes.{KeyframeLeaves, answer_among, asks_keyframe}
use Rattle.codec_payload_session_requests.specs.declared.requests.KeyframeAnswer.{KeyframeAnswer}
use Rattle.codec_payload_session_requests.specs.declared.requests.KeyframeAnswer.TheVariants as answers

-- the number of an answer
abbrev pub answer_number : KeyframeAnswer → ℕ
answer_number answers.Requested = 0
answer_number answers.NoStream = 1
answer_number answers.NotNegotiated = 2

-- the first stream of the SSRC is asked, and nothing else changes; with answer 0 its request leaves
pub record RequestsKeyframe (ssrc : ℕ) (r : PortSession) (status answer : ℕ) (s : PortSession) : Type 0 where
  pub status_is : status ≡ 0
  pub answer_is : answer ≡ answer_number (answer_among (position (has_ssrc ssrc) r.session.port.streams) r.session.port.streams)
  pub left : s ≡ record r { session = asks_keyframe ssrc r.session }
  pub leaves : answer ≡ 0 → KeyframeLeaves ssrc s.session
