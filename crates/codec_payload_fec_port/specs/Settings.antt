-- The settings of a port with FEC, and which of them no port can meet.
use Rattle.std.specs.Prelude.{ℕ, ◌==◌, ◌||◌, ◌&&◌, nat_le, nat_lt, if◌then◌else◌, Bool, false, List, [], ◌∷◌, Option, Some, None, Result, Ok, Err, ⊤}
use Rattle.codec_payload_fec_receiver.specs.declared.content.FecSettings.{FecSettings}
use Rattle.codec_payload_fec_port.specs.declared.port_settings.FecPortSettings.{FecPortSettings}
use Rattle.codec_payload_fec_port.specs.declared.port_settings.FecPortSettingsError.{FecPortSettingsError}
use Rattle.codec_payload_fec_port.specs.declared.port_settings.FecPortSettingsError.TheVariants as faults
use Rattle.codec_payload_fec_port.specs.declared.port_settings.RetransmissionType.{RetransmissionType}

abbrev pub first_of : Option FecPortSettingsError → Option FecPortSettingsError → Option FecPortSettingsError
first_of None other = other
first_of (Some fault) other = Some fault

-- packets of this type never look like RTCP: with the marker, 64 to 95 do (RFC 5761, section 4)
abbrev pub is_a_type : ℕ → Bool
is_a_type payload_type = nat_lt payload_type 64 || (nat_le 96 payload_type && nat_lt payload_type 128)

abbrev pub is_given : Option ℕ → ℕ → Bool
is_given None payload_type = false
is_given (Some given) payload_type = given == payload_type

abbrev pub type_fault : Bool → ℕ → Option FecPortSettingsError
type_fault has_meaning payload_type =
    if is_a_type payload_type then (if has_meaning then Some (faults.TwoMeanings payload_type) else None) else Some (faults.PayloadType payload_type)

abbrev pub streams_fault : ℕ → Option FecPortSettingsError
streams_fault max_streams = if (max_streams == 0) || nat_lt 256 max_streams then Some faults.MaxStreams else None

abbrev pub given_fault : FecPortSettings → Option ℕ → Option FecPortSettingsError
given_fault s None = None
given_fault s (Some t) = type_fault ((t == s.red_type) || (t == s.fec_type)) t

abbrev pub types_fault : FecPortSettings → Option FecPortSettingsError
types_fault s = first_of (type_fault false s.red_type) (first_of (type_fault (s.fec_type == s.red_type) s.fec_type) (given_fault s s.red_retransmission))

abbrev pub is_of_red : FecPortSettings → ℕ → Bool
is_of_red s t = (t == s.red_type) || (t == s.fec_type) || is_given s.red_retransmission t

abbrev pub pair_fault : FecPortSettings → RetransmissionType → Option FecPortSettingsError
pair_fault s p = first_of (type_fault (is_of_red s p.media) p.media) (type_fault (is_of_red s p.retransmission) p.retransmission)

abbrev pub pairs_fault : FecPortSettings → List RetransmissionType → Option FecPortSettingsError
pairs_fault s [] = None
pairs_fault s (p ∷ ps) = first_of (pair_fault s p) (pairs_fault s ps)

abbrev pub fault_of : FecPortSettings → Option FecPortSettingsError
fault_of s = first_of (streams_fault s.max_streams) (first_of (types_fault s) (pairs_fault s s.retransmissions.items))

abbrev pub checked : Option FecPortSettingsError → Result ⊤ FecPortSettingsError
checked None = Ok tt
checked (Some fault) = Err fault

-- the payload type of retransmissions of this media: the first one
abbrev pub again_type : ℕ → List RetransmissionType → Option ℕ
again_type media [] = None
again_type media (p ∷ ps) = if p.media == media then Some p.retransmission else again_type media ps

-- the settings of the receiver of a stream
abbrev pub fec_settings : FecPortSettings → ℕ → FecSettings
fec_settings s ssrc = record { ssrc = ssrc; red_type = s.red_type; fec_type = s.fec_type; late_ids = s.late_ids; bytes = s.bytes }
