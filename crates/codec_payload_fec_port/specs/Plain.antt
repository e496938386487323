-- What passes in the place of a datagram.
use Rattle.std.specs.Prelude.{◌≡◌, ℕ, ◌==◌, IsTrue, nat_lt, if◌then◌else◌, List, [], ◌∷◌, ◌++◌, length, take, drop, Option, option_map, Some, None, Result, Ok, Err}
use Rattle.codec_payload_rtp.specs.RtpPackets.{Header, Packet, header_fits, is_rtcp, packet_bytes}
use Rattle.codec_payload_rtp.specs.RtpReading.{rtp_at}
use Rattle.codec_payload_rtp.specs.RtpValues.{header_of, packet_of}
use Rattle.codec_payload_rtp.specs.declared.rtp.RtpError.{RtpError}
use Rattle.codec_payload_fec_port.specs.Settings.{again_type, is_given}
use Rattle.codec_payload_fec_port.specs.declared.plain.Kind.{Kind}
use Rattle.codec_payload_fec_port.specs.declared.plain.Kind.TheVariants as kinds
use Rattle.codec_payload_fec_port.specs.declared.plain.Passed.{Passed}
use Rattle.codec_payload_fec_port.specs.declared.plain.Passed.TheVariants as passed
use Rattle.codec_payload_fec_port.specs.declared.plain.Plain.{Plain as LentPlain}
use Rattle.codec_payload_fec_port.specs.declared.plain.Plain.TheVariants as lent
use Rattle.codec_payload_fec_port.specs.declared.port_settings.FecPortSettings.{FecPortSettings}

-- ---- the packet of a datagram. RTCP has none (RFC 5761, section 4), and neither have other bytes

abbrev pub read_packet : Result Packet RtpError → Option Packet
read_packet (Ok p) = Some p
read_packet (Err fault) = None

abbrev pub packet_at : List ℕ → Option Packet
packet_at datagram = if is_rtcp datagram then None else read_packet (rtp_at datagram)

-- ---- RED (RFC 2198)

-- the payload type of the only block, and its contents. Several blocks, and RED in RED, are none
abbrev pub block_of : FecPortSettings → List ℕ → Option (ℕ × List ℕ)
block_of s [] = None
block_of s (kind ∷ contents) = if nat_lt 127 kind then None else if kind == s.red_type then None else Some (kind, contents)

abbrev pub retyped : ℕ → Header → Header
retyped payload_type h = record h { payload_type = payload_type }

-- a byte of padding under the number, the time and the header extension of a packet of FEC
abbrev pub without_media : FecPortSettings → Header → Packet
without_media s h = record { header = retyped s.fec_type h; payload = []; padding = 1 }

-- a block of media is the packet as it was before RED
abbrev pub of_block : FecPortSettings → Header → ℕ × List ℕ → Packet
of_block s h x = if x.0 == s.fec_type then without_media s h else record { header = retyped x.0 h; payload = x.1; padding = 0 }

abbrev pub of_red : FecPortSettings → Packet → Option Packet
of_red s p = option_map (of_block s p.header) (block_of s p.payload)

-- a packet of FEC without RED; one without bytes stays
abbrev pub of_fec : FecPortSettings → Packet → Option Packet
of_fec s p = if length p.payload == 0 then None else Some (without_media s p.header)

-- ---- retransmissions (RFC 4588, section 4): the original number, and the original payload

abbrev pub number_and_rest : List ℕ → Option (List ℕ × List ℕ)
number_and_rest payload = if nat_lt (length payload) 2 then None else Some (take 2 payload, drop 2 payload)

abbrev pub again_with : Header → List ℕ → List ℕ → Packet
again_with h number payload = record { header = h; payload = number ++ payload; padding = 0 }

abbrev pub of_type : Header → List ℕ → List ℕ → Option ℕ → Option Packet
of_type h number contents None = None
of_type h number contents (Some payload_type) = if nat_lt payload_type 128 then Some (again_with (retyped payload_type h) number contents) else None

abbrev pub of_again_block : FecPortSettings → Header → List ℕ → Option (ℕ × List ℕ) → Option Packet
of_again_block s h number None = None
of_again_block s h number (Some x) = of_type h number x.1 (again_type x.0 s.retransmissions.items)

abbrev pub of_again_parts : FecPortSettings → Header → Option (List ℕ × List ℕ) → Option Packet
of_again_parts s h None = None
of_again_parts s h (Some x) = of_again_block s h x.0 (block_of s x.1)

-- a retransmission of a packet in RED becomes one of the packet before RED, if its media has a payload type for that
abbrev pub of_again : FecPortSettings → Packet → Option Packet
of_again s p = of_again_parts s p.header (number_and_rest p.payload)

-- ---- a packet

abbrev pub plain_view : LentPlain → Option Packet
plain_view lent.Same = None
plain_view (lent.Packet p) = Some (packet_of p)
plain_view (lent.Again h number payload) = Some (again_with (header_of h) number.now payload.now)

-- it can be written
abbrev pub FitsPlain : LentPlain → Type 0
FitsPlain lent.Same = Unit {0}
FitsPlain (lent.Packet p) = IsTrue (header_fits (header_of p.header))
FitsPlain (lent.Again h number payload) = IsTrue (header_fits (header_of h))

-- None: the packet passes as it is
abbrev pub plain_in : FecPortSettings → Packet → Option Packet
plain_in s p =
    if p.header.payload_type == s.red_type then of_red s p
    else if p.header.payload_type == s.fec_type then of_fec s p
    else if is_given s.red_retransmission p.header.payload_type then of_again s p
    else None

-- ---- a datagram

abbrev pub plain_if : FecPortSettings → Option Packet → Option Packet
plain_if s None = None
plain_if s (Some p) = plain_in s p

-- the packet that passes in the place of a datagram. None: the datagram passes as it is
abbrev pub plain_of : FecPortSettings → List ℕ → Option Packet
plain_of s datagram = plain_if s (packet_at datagram)

abbrev pub plain_bytes_of : Option Packet → Option (List ℕ)
plain_bytes_of None = None
plain_bytes_of (Some p) = Some (packet_bytes p)

abbrev pub IsPassed : List ℕ → List ℕ → Passed → List ℕ → Type 0
IsPassed datagram written passed.AsItIs bytes = bytes ≡ datagram
IsPassed datagram written passed.Instead bytes = bytes ≡ written

-- what a call that wrote `written` passes
abbrev pub Passes : Option Packet → Passed → List ℕ → Type 0
Passes plain passed.AsItIs written = (plain ≡ None) × (written ≡ [])
Passes plain passed.Instead written = plain_bytes_of plain ≡ Some written

-- ---- what a packet is for the receiver of its stream

abbrev pub kind_at : FecPortSettings → Option (ℕ × List ℕ) → Kind
kind_at s None = kinds.Neither
kind_at s (Some x) = if x.0 == s.fec_type then kinds.Fec else kinds.Media

abbrev pub kind_in : FecPortSettings → List ℕ → Kind
kind_in s payload = kind_at s (block_of s payload)

abbrev pub kind_of : FecPortSettings → Packet → Kind
kind_of s p =
    if p.header.payload_type == s.red_type then kind_in s p.payload
    else if p.header.payload_type == s.fec_type then kinds.Fec
    else kinds.Media
