-- Congestion control feedback as a packet of RTCP that is written.
use Rattle.std.specs.Prelude.{ℕ, List, ◌∷◌}
use Rattle.std.specs.Int.{w16, to_be_bytes}
use Rattle.codec_payload_rtcp.specs.RtcpPackets.{other}
use Rattle.codec_payload_rtcp.specs.RtcpWriting.{Appends}

-- version 2, format 11, type 205, and the length in words
abbrev pub packet_head : ℕ → List ℕ
packet_head words = 139 ∷ 205 ∷ to_be_bytes w16 words

-- new is old with the packet with this body at its end
abbrev pub AppendsBody : List ℕ → List ℕ → List ℕ → Type 0
AppendsBody body old new = Appends old new (other (record { packet_type = 205; count = 11; body = body }))
