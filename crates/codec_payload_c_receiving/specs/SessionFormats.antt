-- New sessions: their settings, payload formats and pairs of SSRCs, from C.
use Rattle.std.specs.Prelude.{◌≡◌, ◌⊎◌, ℕ, ◌-◌, ◌&&◌, not, nat_le, nat_lt, if◌then◌else◌, Bool, true, false, Option, Some, None, List, [], is_some, map, filter_map, take, length}
use Rattle.std.specs.List.{list_all}
use Rattle.codec_payload_handle.specs.Settings.{codec_numbered}
use Rattle.codec_payload_handle.specs.declared.object.Object.{Object}
use Rattle.codec_payload_handle.specs.declared.object.Object.TheVariants as objects
use Rattle.codec_payload_handle.specs.declared.object.PortSession.{PortSession}
use Rattle.codec_payload_feedback.specs.declared.transport.TransportSettings.{TransportSettings}
use Rattle.codec_payload_session_formats.specs.Checks.{fault_in, first_of, name_fault, transport_fault}
use Rattle.codec_payload_session.specs.Ports.{new_session}
use Rattle.codec_payload_session_formats.specs.declared.checks.SessionSettingsError.{SessionSettingsError}
use Rattle.codec_payload_session_formats.specs.declared.formats.FeedbackSettings.{FeedbackSettings}
use Rattle.codec_payload_session_formats.specs.declared.formats.Format.{Format}
use Rattle.codec_payload_session_formats.specs.declared.formats.SessionSettings.{SessionSettings as Settings}
use Rattle.codec_payload_session_formats.specs.declared.formats.SsrcPair.{SsrcPair as Pair}
use Rattle.codec_payload_session_formats.specs.declared.formats.Waiting.{Waiting}
use Rattle.codec_payload_session_formats.specs.declared.formats.Waiting.TheVariants as waitings
use Rattle.codec_payload_receiver.specs.declared.receiver.RedSettings.{RedSettings}
use Rattle.codec_payload_c_receiving.specs.AdaptiveWaits.{settings_given}
use Rattle.codec_payload_handle.specs.Ids.{id_given, ids_given}
use Rattle.codec_payload_handle.specs.Numbers.{given_if}
use Rattle.codec_payload_c_receiving.specs.SessionNames.{names_given}
use Rattle.codec_payload_c_receiving.specs.StreamReceivers.{bound_given, from_keyframe_numbered, wait_limits_given}
use Rattle.codec_payload_c_receiving.specs.declared.session_settings.SessionFeedback.{SessionFeedback}
use Rattle.codec_payload_c_receiving.specs.declared.session_settings.SessionFormat.{SessionFormat}
use Rattle.codec_payload_c_receiving.specs.declared.session_settings.SessionSettings.{SessionSettings}
use Rattle.codec_payload_c_receiving.specs.declared.session_settings.SsrcPair.{SsrcPair}

-- ---- ranges

-- the clock of the format has a rate
abbrev pub format_in_range : SessionFormat → Bool
format_in_range f = nat_lt 0 f.spec.rate

-- the clock has a rate, and `from_keyframe` has a meaning
abbrev pub session_in_range : SessionSettings → Bool
session_in_range s = nat_lt 0 s.tick_rate && nat_le s.from_keyframe 2

-- ---- from C

-- RED, with the payload type of its retransmissions, if there are any
abbrev pub red_given : SessionFormat → Option RedSettings
red_given f =
    if f.has_red then Some (record { payload_type = f.red_payload_type; step = f.red_step; retransmission = given_if f.has_red_rtx f.red_rtx_payload_type })
    else None

-- how long frames wait: by how late missing packets arrive, or as the session's limits say, or else by the round trip
abbrev pub waiting_given : SessionFormat → Waiting
waiting_given f = if f.late_wait then waitings.Late else (if f.fixed_wait then waitings.Fixed else waitings.RoundTrip)

abbrev pub format_with : SessionFormat → Format
format_with f = record {
  payload_type = f.payload_type;
  spec = record { codec = codec_numbered f.spec.codec; clock_rate = f.spec.rate; octet_align = f.spec.octet_align };
  red = red_given f;
  retransmission = given_if f.has_rtx f.rtx_payload_type;
  nack = f.nack;
  pli = f.pli;
  wait = waiting_given f;
}

-- a format whose clock has a rate
abbrev pub format_given : SessionFormat → Option Format
format_given f = if format_in_range f then Some (format_with f) else None

abbrev pub pair_given : SsrcPair → Pair
pair_given p = record { ssrc = p.ssrc; retransmission = p.rtx_ssrc }

-- a payload type without media plus 128 is one of telephone events
abbrev pub telephone_given : ℕ → Option ℕ
telephone_given entry = if nat_lt entry 128 then None else Some (entry - 128)

abbrev pub no_media_given : ℕ → Option ℕ
no_media_given entry = if nat_lt entry 128 then Some entry else None

-- who requests missing packets and keyframes, from C
pub record HasFeedback (c : SessionFeedback) (t : FeedbackSettings) : Type 0 where
  pub ssrc_is : t.ssrc ≡ c.ssrc
  pub cname : t.cname.items ≡ take c.cname_len c.cname
  pub cname_len : length t.cname.items ≡ c.cname_len
  pub has_report : t.has_report ≡ c.has_report
  pub keyframe_interval : t.keyframe_interval ≡ c.keyframe_interval
  pub silence : t.silence ≡ c.silence
  pub longest_wait : t.longest_wait ≡ given_if c.has_longest_wait c.longest_wait
  pub report_interval : t.report_interval ≡ given_if c.has_report_interval c.report_interval
  pub max_report : t.max_report ≡ c.max_report
  pub extended : t.extended ≡ c.extended
  pub nack : t.nack ≡ record { first_wait = c.first_wait; retry = c.retry; shortest_retry = c.shortest_retry; longest_retry = c.longest_retry; tries = c.tries; capacity = c.capacity }

-- the settings of requests, if they are set
abbrev pub MatchFeedbackIf : Bool → SessionFeedback → Option FeedbackSettings → Type 0
MatchFeedbackIf false c t = t ≡ None
MatchFeedbackIf true c None = ⊥
MatchFeedbackIf true c (Some t) = HasFeedback c t

abbrev pub MatchFeedback : SessionSettings → Option FeedbackSettings → Type 0
MatchFeedback s t = MatchFeedbackIf s.has_feedback s.feedback t

-- how arrivals are reported, if that is set
abbrev pub transport_given : SessionSettings → Option TransportSettings
transport_given s =
    if s.has_transport
    then Some (record { extension_id = s.transport.extension_id; interval = s.transport.interval; size = s.transport.size; window = s.transport.window })
    else None

-- the settings, from C, without formats, other lists and feedback
pub record HasPlainSettings (s : SessionSettings) (t : Settings) : Type 0 where
  pub ids : t.extension_ids ≡ ids_given s.extension_ids
  pub dependency_descriptor : t.dependency_descriptor ≡ id_given s.dependency_descriptor
  pub name_ids : t.name_ids ≡ names_given s.name_ids
  pub audio : t.audio ≡ wait_limits_given s.audio
  pub video : t.video ≡ wait_limits_given s.video
  pub late : t.late ≡ settings_given s.late
  pub from_keyframe : t.from_keyframe ≡ from_keyframe_numbered s.from_keyframe
  pub limit : t.limit ≡ s.limit
  pub max_unit : t.max_unit ≡ bound_given s.max_unit
  pub max_streams : t.max_streams ≡ s.max_streams
  pub probation : t.probation ≡ s.probation
  pub idle_timeout : t.idle_timeout ≡ s.idle_timeout
  pub bye_wait : t.bye_wait ≡ s.bye_wait
  pub tick_rate : t.tick_rate ≡ s.tick_rate
  pub transport : t.transport ≡ transport_given s

-- the settings of a session, from C
pub record AreSessionSettings (s : SessionSettings) (formats : List SessionFormat) (no_media : List ℕ) (pairs : List SsrcPair) (t : Settings) : Type 0 where
  pub plain : HasPlainSettings s t
  pub formats_are : t.formats.items ≡ filter_map format_given formats
  pub no_media_are : t.no_media.items ≡ filter_map no_media_given no_media
  pub telephone_events_are : t.telephone_events.items ≡ filter_map telephone_given no_media
  pub pairs_are : t.pairs.items ≡ map pair_given pairs
  pub feedback_is : MatchFeedback s t.feedback

-- ---- settings that a session can meet: the rules are those of the session

-- the fault of the name, if there is feedback
abbrev pub name_fault_given : SessionSettings → Option SessionSettingsError
name_fault_given s = if s.has_feedback then name_fault s.feedback.cname_len else None

-- the first setting that no session can meet
abbrev pub fault_given : SessionSettings → List SessionFormat → List ℕ → Option SessionSettingsError
fault_given s formats no_media =
    first_of (fault_in s.limit s.max_streams (filter_map format_given formats) (filter_map no_media_given no_media) (filter_map telephone_given no_media))
    (first_of (name_fault_given s) (transport_fault (transport_given s)))

-- clocks have rates, and `from_keyframe` has a meaning, so the settings can be converted
abbrev pub can_convert : SessionSettings → List SessionFormat → Bool
can_convert s formats = session_in_range s && list_all format_in_range formats

-- clocks have rates, `from_keyframe` has a meaning, and a session can meet the settings
abbrev pub is_in_range : SessionSettings → List SessionFormat → List ℕ → Bool
is_in_range s formats no_media = session_in_range s && (list_all format_in_range formats && not (is_some (fault_given s formats no_media)))

-- a new session with these settings
pub record IsNewSession (s : SessionSettings) (formats : List SessionFormat) (no_media : List ℕ) (pairs : List SsrcPair) (r : PortSession) : Type 0 where
  pub settings : Settings
  pub are : AreSessionSettings s formats no_media pairs settings
  pub made : r.session ≡ new_session settings
  pub lent : r.lent.items ≡ []
  pub taken : r.taken ≡ None

abbrev pub IsPortSessionOf : SessionSettings → List SessionFormat → List ℕ → List SsrcPair → Object → Type 0
IsPortSessionOf s formats no_media pairs (objects.PortSession r) = IsNewSession s formats no_media pairs r.value
IsPortSessionOf s formats no_media pairs _ = ⊥

-- Status 36: the handle is in use, and is unchanged. Status 0: the empty handle has the new session. Otherwise it stays empty: status
-- 37 only if the settings are out of range, and 17 if memory ran out
abbrev pub MakesSessionIn : (Object → Type 0) → Bool → ℕ → Option Object → Type 0
MakesSessionIn Made can status (Some object) = (status ≡ 0) × (can ≡ true) × Made object
MakesSessionIn Made can status None = ((status ≡ 37) × (can ≡ false)) ⊎ (status ≡ 17)

abbrev pub MakesSession : (Object → Type 0) → Bool → Option Object → ℕ → Option Object → Type 0
MakesSession Made can (Some object) status after = (status ≡ 36) × (after ≡ Some object)
MakesSession Made can None status after = MakesSessionIn Made can status after

-- status 37: the settings are out of range; 17: memory ran out
abbrev pub RefusesSession : (in_range : Bool) → ℕ → Type 0
RefusesSession in_range status = ((status ≡ 37) × (in_range ≡ false)) ⊎ (status ≡ 17)
