-- The calls of a session, one after another.
use Rattle.std.specs.Prelude.{◌≡◌, ℕ, List, [], ◌∷◌, Option, Some, None, Result, OnOk, OnErr}
use Rattle.std.specs.List.{position}
use Rattle.std.specs.declared.alloc.AllocError.{AllocError}
use Rattle.codec_payload_rtcp.specs.declared.items.ReportBlock.{ReportBlock}
use Rattle.codec_payload_session.specs.Accepting.{Accepts, time_for}
use Rattle.codec_payload_session.specs.Arrivals.{Port, has_ssrc}
use Rattle.codec_payload_session.specs.Keyframes.{answer_among, asks_keyframe}
use Rattle.codec_payload_session.specs.Pairs.{Pairs}
use Rattle.codec_payload_session_stream.specs.Pairs.{with_pair, without_pair}
use Rattle.codec_payload_session.specs.Polls.{Polls}
use Rattle.codec_payload_session.specs.Ports.{ReportsIf, Session, ends_all, ends_of, restarts_transport, waits_of}
use Rattle.codec_payload_session_stream.specs.Streams.{is_of}
use Rattle.codec_payload_session_formats.specs.declared.checks.SessionSettingsError.{SessionSettingsError}
use Rattle.codec_payload_session_stream.specs.declared.arrival.Arrival.{Arrival}
use Rattle.codec_payload_session_stream.specs.Units.{Event}
use Rattle.codec_payload_session_runs.specs.declared.run.NewRunError.{NewRunError}
use Rattle.codec_payload_session_runs.specs.declared.run.NewRunError.TheVariants as refusals
use Rattle.codec_payload_session_runs.specs.declared.run.SessionStep.{SessionStep}
use Rattle.codec_payload_session_runs.specs.declared.run.SessionStep.TheVariants as steps
use Rattle.codec_payload_session_runs.specs.declared.run.StepAnswer.{StepAnswer}
use Rattle.codec_payload_session_runs.specs.declared.run.StepAnswer.TheVariants as answers

-- a call, and its answer
pub record Call : Type 0 where
  pub step : SessionStep
  pub answer : StepAnswer

-- the steps of a run, each with its answer
abbrev pub calls_of : List SessionStep → List StepAnswer → List Call
calls_of [] [] = []
calls_of [] (r ∷ rs) = []
calls_of (s ∷ ss) [] = []
calls_of (s ∷ ss) (r ∷ rs) = record { step = s; answer = r } ∷ calls_of ss rs

-- the block of the stream with this SSRC and payload type
pub record Reports (now ssrc payload_type : ℕ) (s : Session) (block : Option ReportBlock) (t : Session) : Type 0 where
  pub port : Port
  pub reports : ReportsIf (position (is_of ssrc payload_type) s.port.streams) s.settings.tick_rate now s.port block port
  pub left : t ≡ record s { port = port }

-- the pair is added; if memory runs out, nothing has changed
abbrev pub AddsPair : ℕ → ℕ → Session → Result Unit AllocError → Session → Type 0
AddsPair ssrc retransmission s added t =
    OnOk added (Pairs ssrc (with_pair (record { ssrc = ssrc; retransmission = retransmission }) s.settings.pairs.items) s t) × OnErr added (t ≡ s)

-- the session makes one call, with this answer
abbrev pub Does : SessionStep → Session → StepAnswer → Session → Type 0
Does (steps.Receive now micros datagram) s answer t = (arrival : Result Arrival AllocError) × (answer ≡ answers.Received arrival) × Accepts (time_for micros now s) now datagram.items s arrival t
Does (steps.Poll now) s answer t = (event : Option Event) × (answer ≡ answers.Polled event) × Polls now s event t
Does (steps.End now ssrc) s answer t = (answer ≡ answers.Done) × (t ≡ ends_of ssrc now.0 s)
Does (steps.Finish now) s answer t = (answer ≡ answers.Done) × (t ≡ ends_all now.0 s)
Does (steps.SetWaitLimits ssrc payload_type limits) s answer t = (answer ≡ answers.Done) × (t ≡ waits_of ssrc payload_type limits s)
Does (steps.Report now ssrc payload_type) s answer t = (block : Option ReportBlock) × (answer ≡ answers.Reported block) × Reports now.0 ssrc payload_type s block t
Does (steps.AddPair ssrc retransmission) s answer t = (added : Result Unit AllocError) × (answer ≡ answers.PairAdded added) × AddsPair ssrc retransmission s added t
Does steps.RestartTransport s answer t = (answer ≡ answers.Done) × (t ≡ restarts_transport s)
Does (steps.RequestKeyframe ssrc) s answer t =
    (answer ≡ answers.KeyframeAsked (answer_among (position (has_ssrc ssrc) s.port.streams) s.port.streams)) × (t ≡ asks_keyframe ssrc s)
Does (steps.RemovePair ssrc) s answer t = (answer ≡ answers.Done) × Pairs ssrc (without_pair ssrc s.settings.pairs.items) s t

-- the calls in order, and nothing else
abbrev pub Runs : List Call → Session → Session → Type 0
Runs [] s t = t ≡ s
Runs (c ∷ cs) s t = (mid : Session) × Does c.step s c.answer mid × Runs cs mid t

-- why a run of a new session fails: by its settings, or else since memory ran out
abbrev pub refusal_of : Option SessionSettingsError → NewRunError
refusal_of None = refusals.OutOfMemory
refusal_of (Some fault) = refusals.Settings fault
