-- Settings that a session can meet: each payload type has one meaning, and each format can begin streams.
use Rattle.std.specs.Prelude.{ℕ, ◌==◌, ◌&&◌, ◌||◌, not, nat_le, nat_lt, if◌then◌else◌, Bool, true, false, List, [], ◌∷◌, ◌++◌, Option, Some, None, Result, Ok, Err, ⊤, is_some, length}
use Rattle.codec_payload_codec.specs.Depacketizers.{depacketizer_state_for}
use Rattle.codec_payload_feedback.specs.declared.transport.TransportSettings.{TransportSettings}
use Rattle.codec_payload_datagrams.specs.Kinds.{is_among}
use Rattle.codec_payload_receiver.specs.declared.receiver.RedSettings.{RedSettings}
use Rattle.codec_payload_session_formats.specs.Formats.{has_type, resends}
use Rattle.codec_payload_session_formats.specs.declared.checks.SessionSettingsError.{SessionSettingsError}
use Rattle.codec_payload_session_formats.specs.declared.checks.SessionSettingsError.TheVariants as faults
use Rattle.codec_payload_session_formats.specs.declared.formats.FeedbackSettings.{FeedbackSettings}
use Rattle.codec_payload_session_formats.specs.declared.formats.Format.{Format}
use Rattle.codec_payload_session_formats.specs.declared.formats.SessionSettings.{SessionSettings}

abbrev pub first_of : Option SessionSettingsError → Option SessionSettingsError → Option SessionSettingsError
first_of None other = other
first_of (Some fault) other = Some fault

-- ---- payload types

-- packets of this type never look like RTCP: with the marker, 64 to 95 do (RFC 5761, section 4)
abbrev pub is_payload_type : ℕ → Bool
is_payload_type t = nat_le t 127 && (nat_lt t 64 || nat_lt 95 t)

-- a format has the type, for its media or for its retransmissions
abbrev pub is_named : List Format → ℕ → Bool
is_named [] t = false
is_named (f ∷ fs) t = (has_type f t || resends f t) || is_named fs t

-- a payload type of the format with that index, or of a list, which has no index; it may have another meaning already
abbrev pub type_fault : Option ℕ → Bool → ℕ → Option SessionSettingsError
type_fault format taken t =
    if is_payload_type t then (if taken then Some (faults.TwoMeanings format t) else None) else Some (faults.PayloadType format t)

-- ---- a format, after earlier ones

abbrev pub step_fault : ℕ → ℕ → Option SessionSettingsError
step_fault index step = if nat_le 1 step && nat_le step 16383 then None else Some (faults.RedStep index)

-- the payload type and the step of RED, if the format uses it
abbrev pub red_fault : List Format → ℕ → Option RedSettings → Option SessionSettingsError
red_fault earlier own None = None
red_fault earlier own (Some red) =
    first_of (type_fault (Some (length earlier)) (is_named earlier red.payload_type || (own == red.payload_type)) red.payload_type) (step_fault (length earlier) red.step)

abbrev pub red_again_fault : List Format → Format → ℕ → Option ℕ → Option SessionSettingsError
red_again_fault earlier f own None = None
red_again_fault earlier f own (Some t) = type_fault (Some (length earlier)) (is_named earlier t || has_type f t || (own == t)) t

-- the payload type of retransmitted RED packets, if the format uses RED and has one
abbrev pub red_retransmission_fault : List Format → Format → ℕ → Option RedSettings → Option SessionSettingsError
red_retransmission_fault earlier f own None = None
red_retransmission_fault earlier f own (Some red) = red_again_fault earlier f own red.retransmission

-- the payload type of retransmissions, and of those of RED, if the format has one: without it those of RED are not used
abbrev pub retransmission_fault : List Format → Format → Option ℕ → Option SessionSettingsError
retransmission_fault earlier f None = None
retransmission_fault earlier f (Some own) =
    first_of (type_fault (Some (length earlier)) (is_named earlier own || has_type f own) own) (red_retransmission_fault earlier f own f.red)

abbrev pub types_fault : List Format → Format → Option SessionSettingsError
types_fault earlier f =
    first_of (type_fault (Some (length earlier)) (is_named earlier f.payload_type) f.payload_type)
    (first_of (red_fault earlier f.payload_type f.red) (retransmission_fault earlier f f.retransmission))

abbrev pub format_fault : List Format → Format → Option SessionSettingsError
format_fault earlier f = if is_some (depacketizer_state_for f.spec.codec) then types_fault earlier f else Some (faults.Codec (length earlier))

abbrev pub formats_fault : List Format → List Format → Option SessionSettingsError
formats_fault earlier [] = None
formats_fault earlier (f ∷ fs) = first_of (format_fault earlier f) (formats_fault (earlier ++ f ∷ []) fs)

-- ---- settings

-- payload types without media: no format has them, and neither have the others
abbrev pub listed_fault : List Format → List ℕ → List ℕ → Option SessionSettingsError
listed_fault formats others [] = None
listed_fault formats others (t ∷ ts) = first_of (type_fault None (is_named formats t || is_among t others) t) (listed_fault formats others ts)

abbrev pub limit_fault : ℕ → Option SessionSettingsError
limit_fault limit = if nat_le 1 limit && nat_le limit 65536 then None else Some faults.Limit

abbrev pub streams_fault : ℕ → Option SessionSettingsError
streams_fault most = if nat_lt 0 most then None else Some faults.MaxStreams

-- the limits of packets and streams, the formats, the types without media, and those of telephone events, in this order
abbrev pub fault_in : (limit most : ℕ) → List Format → (no_media telephone : List ℕ) → Option SessionSettingsError
fault_in limit most formats no_media telephone =
    first_of (first_of (limit_fault limit) (streams_fault most))
    (first_of (formats_fault [] formats) (first_of (listed_fault formats [] no_media) (listed_fault formats no_media telephone)))

-- a canonical name has 1 to 255 bytes (RFC 3550, section 6.5.1), and each compound packet has it (section 6.1)
abbrev pub name_fault : ℕ → Option SessionSettingsError
name_fault len = if nat_le 1 len && nat_le len 255 then None else Some faults.Cname

abbrev pub feedback_fault : Option FeedbackSettings → Option SessionSettingsError
feedback_fault None = None
feedback_fault (Some f) = name_fault (length f.cname.items)

-- the id of a header extension, and a window of 1 to 32,768 numbers
abbrev pub transport_settings_fault : TransportSettings → Option SessionSettingsError
transport_settings_fault t =
    if nat_le 1 t.extension_id then (if nat_le 1 t.window && nat_le t.window 32768 then None else Some faults.TransportWindow) else Some faults.TransportId

abbrev pub transport_fault : Option TransportSettings → Option SessionSettingsError
transport_fault None = None
transport_fault (Some t) = transport_settings_fault t

-- the first setting that no session can meet; the name and the transport come last
abbrev pub fault_of : SessionSettings → Option SessionSettingsError
fault_of s = first_of (fault_in s.limit s.max_streams s.formats.items s.no_media.items s.telephone_events.items) (first_of (feedback_fault s.feedback) (transport_fault s.transport))

abbrev pub checked : Option SessionSettingsError → Result ⊤ SessionSettingsError
checked None = Ok tt
checked (Some fault) = Err fault

-- ---- what follows from settings without a fault

abbrev pub red_fits : ℕ → Option RedSettings → Bool
red_fits own None = true
red_fits own (Some red) = nat_le red.payload_type 127 && not (red.payload_type == own) && nat_lt 0 red.step && nat_le red.step 16383

abbrev pub at_most_127 : Option ℕ → Bool
at_most_127 None = true
at_most_127 (Some t) = nat_le t 127

-- the codec of the format has a depacketizer, and its payload types and the step of RED are in range
abbrev pub format_fits : Format → Bool
format_fits f = is_some (depacketizer_state_for f.spec.codec) && nat_le f.payload_type 127 && red_fits f.payload_type f.red && at_most_127 f.retransmission

-- a stream of the format can begin: a receiver can be made for it
abbrev pub can_begin : SessionSettings → Format → Bool
can_begin s f = nat_le 1 s.limit && nat_le s.limit 65536 && format_fits f
