-- Rebuilt packets without the elements of header extensions (RFC 8285) that a sender fills in late: zeros are padding.
use Rattle.std.specs.Prelude.{ℕ, zero, suc, ◌-◌, ◌||◌, Bool, true, false, List, [], ◌∷◌, ◌++◌, length, take, replicate, Option, Some, None, Result, Ok, Err}
use Rattle.codec_payload_rtp.specs.Elements.{Element, element_at, form_of_profile}
use Rattle.codec_payload_rtp.specs.RtpPackets.{Extension, Packet, packet_bytes}
use Rattle.codec_payload_rtp.specs.declared.elements.ElementForm.{ElementForm}
use Rattle.codec_payload_rtp.specs.declared.rtp.RtpError.{RtpError}
use Rattle.codec_payload_fec_receiver.specs.Late.{Front, is_id}
use Rattle.codec_payload_fec_receiver.specs.declared.late.LateIds.{LateIds}

abbrev pub is_late : LateIds → ℕ → Bool
is_late late id = is_id late.transport_number id || is_id late.abs_send_time id || is_id late.transmission_offset id || is_id late.video_timing id

-- an element with its head, or padding in its place
abbrev pub cleared_element : Bool → List ℕ → List ℕ
cleared_element true bytes = replicate (length bytes) 0
cleared_element false bytes = bytes

-- what is at the front of an extension, and the bytes after it. It is a byte of padding, an element, or, if there is no element, all bytes
abbrev pub element_front : LateIds → List ℕ → Option (Element × List ℕ) → Front
element_front late bytes None = record { written = bytes; rest = [] }
element_front late bytes (Some x) = record { written = cleared_element (is_late late x.0.id) (take (length bytes - length x.1) bytes); rest = x.1 }

unfoldable pub front_of : LateIds → ElementForm → List ℕ → Front
front_of late form (zero ∷ bytes) = record { written = zero ∷ []; rest = bytes }
front_of late form bytes = element_front late bytes (element_at form bytes)

-- at most n fronts
unfoldable pub cleared_in : ℕ → LateIds → ElementForm → List ℕ → List ℕ
cleared_in zero late form bytes = bytes
cleared_in (suc n) late form bytes = (front_of late form bytes).written ++ cleared_in n late form (front_of late form bytes).rest

-- all elements: each has a byte or more
abbrev pub cleared : LateIds → ElementForm → List ℕ → List ℕ
cleared late form bytes = cleared_in (length bytes) late form bytes

-- an extension of another type is left as it is
abbrev pub cleared_by : LateIds → Option ElementForm → List ℕ → List ℕ
cleared_by late None bytes = bytes
cleared_by late (Some form) bytes = cleared late form bytes

abbrev pub cleared_extension : LateIds → Option Extension → Option Extension
cleared_extension late None = None
cleared_extension late (Some e) = Some (record { profile = e.profile; bytes = cleared_by late (form_of_profile e.profile) e.bytes })

abbrev pub cleared_packet : LateIds → Packet → Packet
cleared_packet late p = record p { header = record p.header { extension = cleared_extension late p.header.extension } }

-- bytes that are not an RTP packet stay
abbrev pub cleared_at : LateIds → List ℕ → Result Packet RtpError → List ℕ
cleared_at late bytes (Ok p) = packet_bytes (cleared_packet late p)
cleared_at late bytes (Err fault) = bytes
