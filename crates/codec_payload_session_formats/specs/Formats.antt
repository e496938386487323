-- The payload types of a port, and the settings of its streams.
use Rattle.std.specs.Prelude.{◌≡◌, ℕ, ◌==◌, ◌&&◌, ◌||◌, if◌then◌else◌, Bool, true, false, List, [], ◌∷◌, ◌++◌, Option, Some, None}
use Rattle.codec_payload_base.specs.declared.wire.Codec.{Codec}
use Rattle.codec_payload_base.specs.declared.wire.Codec.TheVariants as codecs
use Rattle.codec_payload_jitter.specs.declared.waiting.WaitLimits.{WaitLimits}
use Rattle.codec_payload_jitter.specs.Waiting.{waits_for}
use Rattle.codec_payload_keyframes.specs.declared.unit_gate.FromKeyframe.TheVariants as gates
use Rattle.codec_payload_receiver.specs.Defaults.{no_ids}
use Rattle.codec_payload_datagrams.specs.Kinds.{is_among}
use Rattle.codec_payload_receiver.specs.declared.receiver.RedSettings.{RedSettings}
use Rattle.codec_payload_datagrams.specs.declared.kinds.Retransmission.{Retransmission}
use Rattle.codec_payload_receiver.specs.declared.receiver.Settings.{Settings}
use Rattle.codec_payload_session_formats.specs.Names.{no_name_ids}
use Rattle.codec_payload_base.specs.declared.wire.CodecSpec.{CodecSpec}
use Rattle.codec_payload_feedback_requests.specs.declared.nack.NackSettings.{NackSettings}
use Rattle.codec_payload_session_formats.specs.declared.formats.FeedbackSettings.{FeedbackSettings}
use Rattle.codec_payload_session_formats.specs.declared.formats.Format.{Format}
use Rattle.codec_payload_session_formats.specs.declared.formats.Waiting.TheVariants as waitings
use Rattle.codec_payload_session_formats.specs.declared.formats.Role.{Role}
use Rattle.codec_payload_session_formats.specs.declared.formats.Role.TheVariants as roles
use Rattle.codec_payload_session_formats.specs.declared.formats.SessionSettings.{SessionSettings}
use Rattle.codec_payload_session_formats.specs.declared.formats.SsrcPair.{SsrcPair}

-- ---- payload types

-- a format without RED, retransmissions and requests
abbrev pub plain_format : ℕ → CodecSpec → Format
plain_format payload_type spec = record { payload_type = payload_type; spec = spec; red = None; retransmission = None; nack = false; pli = false; wait = waitings.RoundTrip }

abbrev pub is_type : Option ℕ → ℕ → Bool
is_type None payload_type = false
is_type (Some own) payload_type = own == payload_type

abbrev pub is_red_type : Option RedSettings → ℕ → Bool
is_red_type None payload_type = false
is_red_type (Some red) payload_type = red.payload_type == payload_type

-- packets of this type carry media of the format, in RED or not
abbrev pub has_type : Format → ℕ → Bool
has_type f payload_type = if f.payload_type == payload_type then true else is_red_type f.red payload_type

-- packets of this type are retransmissions of RED packets
abbrev pub resends_red : Option RedSettings → ℕ → Bool
resends_red None payload_type = false
resends_red (Some red) payload_type = is_type red.retransmission payload_type

abbrev pub resends_by : Option ℕ → Option RedSettings → ℕ → Bool
resends_by None red payload_type = false
resends_by (Some own) red payload_type = if own == payload_type then true else resends_red red payload_type

-- packets of this type are retransmissions of the format, whose original packets were RED or not; a format without a type of
-- retransmissions has none of RED
abbrev pub resends : Format → ℕ → Bool
resends f payload_type = resends_by f.retransmission f.red payload_type

-- by the first format that names the type, or by the types without media: those that are dropped, and those of telephone events
abbrev pub role_by : List Format → List ℕ → List ℕ → ℕ → Role
role_by [] dropped telephone payload_type = if is_among payload_type dropped || is_among payload_type telephone then roles.NoMedia else roles.Unknown
role_by (f ∷ fs) dropped telephone payload_type =
    if has_type f payload_type then roles.Media f else (if resends f payload_type then roles.Retransmission f else role_by fs dropped telephone payload_type)

abbrev pub role_of : SessionSettings → ℕ → Role
role_of s payload_type = role_by s.formats.items s.no_media.items s.telephone_events.items payload_type

abbrev pub is_no_media : Role → Bool
is_no_media (roles.Media f) = false
is_no_media (roles.Retransmission f) = false
is_no_media roles.NoMedia = true
is_no_media roles.Unknown = false

-- packets of this type are telephone events beside audio: no format names the type
abbrev pub is_telephone : SessionSettings → ℕ → Bool
is_telephone s payload_type = is_among payload_type s.telephone_events.items && is_no_media (role_of s payload_type)

-- ---- pairs of SSRCs

-- the SSRC of the stream whose packets are retransmitted under this SSRC
abbrev pub stream_of : ℕ → List SsrcPair → Option ℕ
stream_of retransmission [] = None
stream_of retransmission (p ∷ ps) = if p.retransmission == retransmission then Some p.ssrc else stream_of retransmission ps

abbrev pub retransmission_of : ℕ → ℕ → List SsrcPair → Option Retransmission
retransmission_of ssrc payload_type [] = None
retransmission_of ssrc payload_type (p ∷ ps) =
    if p.ssrc == ssrc then Some (record { ssrc = p.retransmission; payload_type = payload_type }) else retransmission_of ssrc payload_type ps

-- the retransmissions of a stream whose format has a type for them
abbrev pub retransmission_for : ℕ → Option ℕ → List SsrcPair → Option Retransmission
retransmission_for ssrc None pairs = None
retransmission_for ssrc (Some payload_type) pairs = retransmission_of ssrc payload_type pairs

-- ---- settings of receivers

abbrev pub is_video : Codec → Bool
is_video codecs.Vp8 = true
is_video codecs.Vp9 = true
is_video codecs.Av1 = true
is_video codecs.Opus = false
is_video codecs.PCMU = false
is_video codecs.PCMA = false
is_video codecs.G722 = false
is_video codecs.CN = false
is_video codecs.AmrWb = false
is_video codecs.H264 = false
is_video codecs.H265 = false
is_video codecs.H266 = false
is_video codecs.Null = false
is_video codecs.Tele = false
is_video codecs.Rtx = false
is_video codecs.Red = false
is_video codecs.Unknown = false

abbrev pub limits_for : SessionSettings → Bool → WaitLimits
limits_for s true = s.video
limits_for s false = s.audio

-- the windows of video and of audio
abbrev pub forward_for : Bool → ℕ
forward_for true = 12000
forward_for false = 3000

abbrev pub backward_for : Bool → ℕ
backward_for true = 5000
backward_for false = 1000

-- a stream's receiver has the SSRC and the format of the stream, and the other settings of the session
pub record HasSettings (s : SessionSettings) (ssrc : ℕ) (f : Format) (r : Settings) : Type 0 where
  pub payload_type : r.payload_type ≡ f.payload_type
  pub no_media : r.no_media.items ≡ s.no_media.items ++ s.telephone_events.items
  pub ssrc_is : r.ssrc ≡ Some ssrc
  pub red : r.red ≡ f.red
  pub retransmission : r.retransmission ≡ retransmission_for ssrc f.retransmission s.pairs.items
  pub extension_ids : r.extension_ids ≡ s.extension_ids
  pub clock_rate : r.clock_rate ≡ f.spec.clock_rate
  pub tick_rate : r.tick_rate ≡ s.tick_rate
  pub wait_limits : r.wait_limits ≡ limits_for s (is_video f.spec.codec)
  pub from_keyframe : r.from_keyframe ≡ s.from_keyframe
  pub limit : r.limit ≡ s.limit
  pub max_unit : r.max_unit ≡ s.max_unit
  pub dependency_descriptor : r.dependency_descriptor ≡ s.dependency_descriptor
  pub forward : r.forward ≡ forward_for (is_video f.spec.codec)
  pub backward : r.backward ≡ backward_for (is_video f.spec.codec)

-- requests of missing packets: 10 ms after they are missed, then each 100 ms until the round trip is known, at most 6 times each
abbrev pub live_nack : NackSettings
live_nack = record { first_wait = 10; retry = 100; shortest_retry = 20; longest_retry = 400; tries = 6; capacity = 1024 }

-- the settings of a new session for live streams: no formats, and the stated numbers of streams, packets, bytes and
-- milliseconds
pub record IsLive (s : SessionSettings) : Type 0 where
  pub formats : s.formats.items ≡ []
  pub no_media : s.no_media.items ≡ []
  pub telephone_events : s.telephone_events.items ≡ []
  pub pairs : s.pairs.items ≡ []
  pub extension_ids : s.extension_ids ≡ no_ids
  pub dependency_descriptor : s.dependency_descriptor ≡ None
  pub name_ids : s.name_ids ≡ no_name_ids
  pub audio : s.audio ≡ waits_for 1 100
  pub video : s.video ≡ waits_for 2 200
  pub late : s.late ≡ record { shortest = 20; longest = 400; first = 200; lost_after = 1000 }
  pub from_keyframe : s.from_keyframe ≡ gates.Mark
  pub limit : s.limit ≡ 4096
  pub max_unit : s.max_unit ≡ Some 1048576
  pub max_streams : s.max_streams ≡ 64
  pub probation : s.probation ≡ 2
  pub idle_timeout : s.idle_timeout ≡ 30000
  pub bye_wait : s.bye_wait ≡ 200
  pub tick_rate : s.tick_rate ≡ 1000
  pub feedback : s.feedback ≡ None
  pub transport : s.transport ≡ None

-- the settings of feedback for live streams: the stated number of milliseconds, the given name, and no report in packets of requests
pub record IsLiveFeedback (ssrc : ℕ) (name : List ℕ) (f : FeedbackSettings) : Type 0 where
  pub ssrc_is : f.ssrc ≡ ssrc
  pub cname : f.cname.items ≡ name
  pub has_report : f.has_report ≡ false
  pub nack : f.nack ≡ live_nack
  pub keyframe_interval : f.keyframe_interval ≡ 100
  pub silence : f.silence ≡ 2000
  pub longest_wait : f.longest_wait ≡ Some 1500
  pub report_interval : f.report_interval ≡ Some 1000
  pub max_report : f.max_report ≡ 1200
  pub extended : f.extended ≡ true
