-- The settings of a session by a clock with another number of ticks per second.
use Rattle.std.specs.Prelude.{ℕ}
use Rattle.std.specs.Option.{option_map}
use Rattle.codec_payload_feedback.specs.declared.transport.TransportSettings.{TransportSettings}
use Rattle.codec_payload_feedback_requests.specs.declared.nack.NackSettings.{NackSettings}
use Rattle.codec_payload_feedback_wait.specs.declared.adaptive_wait.AdaptiveWaitSettings.{AdaptiveWaitSettings}
use Rattle.codec_payload_receiver.specs.TickRates.{limits_at, ticks_at}
use Rattle.codec_payload_session_formats.specs.declared.formats.FeedbackSettings.{FeedbackSettings}
use Rattle.codec_payload_session_formats.specs.declared.formats.SessionSettings.{SessionSettings}

-- the same times between requests of missing packets
abbrev pub nack_at : (before after : ℕ) → NackSettings → NackSettings
nack_at before after n = record n {
  first_wait = ticks_at before after n.first_wait;
  retry = ticks_at before after n.retry;
  shortest_retry = ticks_at before after n.shortest_retry;
  longest_retry = ticks_at before after n.longest_retry;
}

-- the same bounds of a wait that follows how late packets arrive
abbrev pub late_at : (before after : ℕ) → AdaptiveWaitSettings → AdaptiveWaitSettings
late_at before after w = record {
  shortest = ticks_at before after w.shortest;
  longest = ticks_at before after w.longest;
  first = ticks_at before after w.first;
  lost_after = ticks_at before after w.lost_after;
}

-- the same times between requests, and between reports
abbrev pub feedback_at : (before after : ℕ) → FeedbackSettings → FeedbackSettings
feedback_at before after f = record f {
  nack = nack_at before after f.nack;
  keyframe_interval = ticks_at before after f.keyframe_interval;
  silence = ticks_at before after f.silence;
  longest_wait = option_map (ticks_at before after) f.longest_wait;
  report_interval = option_map (ticks_at before after) f.report_interval;
}

-- the same time between feedbacks on a transport
abbrev pub transport_at : (before after : ℕ) → TransportSettings → TransportSettings
transport_at before after t = record t { interval = ticks_at before after t.interval }

-- the same settings for a clock with this number of ticks per second
abbrev pub session_at : (after : ℕ) → SessionSettings → SessionSettings
session_at after s = record s {
  audio = limits_at s.tick_rate after s.audio;
  video = limits_at s.tick_rate after s.video;
  late = late_at s.tick_rate after s.late;
  idle_timeout = ticks_at s.tick_rate after s.idle_timeout;
  bye_wait = ticks_at s.tick_rate after s.bye_wait;
  feedback = option_map (feedback_at s.tick_rate after) s.feedback;
  transport = option_map (transport_at s.tick_rate after) s.transport;
  tick_rate = after;
}
