-- What a datagram of a stream with FEC is.
use Rattle.std.specs.Prelude.{ℕ, ◌==◌, nat_lt, if◌then◌else◌, List, [], ◌∷◌, Result, Ok, Err}
use Rattle.codec_payload_rtp.specs.RtpPackets.{FitsHeader, Packet}
use Rattle.codec_payload_rtp.specs.RtpValues.{packet_of}
use Rattle.codec_payload_rtp.specs.declared.rtp.RtpError.{RtpError}
use Rattle.codec_payload_fec_receiver.specs.declared.content.Content.{Content as LentContent}
use Rattle.codec_payload_fec_receiver.specs.declared.content.Content.TheVariants as lent
use Rattle.codec_payload_fec_receiver.specs.declared.content.FecSettings.{FecSettings}

-- `Nothing`: it is not of the stream, or RED with several blocks. `Media`: a packet as it was before RED. `Fec`: the payload of a packet of FEC
pub data Content : Type 0 where
  Nothing : Content
  Media : Packet → Content
  Fec : List ℕ → Content

abbrev pub content_view : LentContent → Content
content_view lent.Nothing = Nothing
content_view (lent.Media p) = Media (packet_of p)
content_view (lent.Fec bytes) = Fec bytes.now

-- a packet of RED with one block: a byte with the payload type of the block, and its contents
abbrev pub in_red : FecSettings → Packet → List ℕ → Content
in_red s p [] = Nothing
in_red s p (kind ∷ contents) =
    if nat_lt 127 kind then Nothing
    else if kind == s.red_type then Nothing
    else if kind == s.fec_type then Fec contents
    else Media (record { header = record p.header { payload_type = kind }; payload = contents; padding = 0 })

abbrev pub of_stream : FecSettings → Packet → Content
of_stream s p =
    if p.header.payload_type == s.red_type then in_red s p p.payload
    else if p.header.payload_type == s.fec_type then Fec p.payload
    else Media p

abbrev pub content_of : FecSettings → Result Packet RtpError → Content
content_of s (Err fault) = Nothing
content_of s (Ok p) = if p.header.ssrc == s.ssrc then of_stream s p else Nothing

-- a packet of media has a header that can be written
abbrev pub FitsContent : Content → Type 0
FitsContent Nothing = Unit {0}
FitsContent (Media p) = FitsHeader p.header
FitsContent (Fec bytes) = Unit {0}
