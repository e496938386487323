-- Elements of header extensions (RFC 8285) that a sender fills in after it has made the FEC: FEC protects zeros there.
use Rattle.std.specs.Prelude.{ℕ, zero, suc, ◌-◌, ◌==◌, ◌||◌, if◌then◌else◌, Bool, false, List, [], ◌∷◌, ◌++◌, length, take, replicate, Option, Some, None}
use Rattle.codec_payload_rtp.specs.Elements.{Element, element_at, form_of_profile}
use Rattle.codec_payload_rtp.specs.RtpPackets.{Extension, Packet, packet_bytes}
use Rattle.codec_payload_rtp.specs.declared.elements.ElementForm.{ElementForm}
use Rattle.codec_payload_fec_receiver.specs.declared.late.LateIds.{LateIds}

abbrev pub is_id : Option ℕ → ℕ → Bool
is_id None id = false
is_id (Some known) id = known == id

-- from which byte on the element with this id is filled in late
abbrev pub zeros_from : LateIds → ℕ → Option ℕ
zeros_from late id =
    if is_id late.transport_number id || is_id late.abs_send_time id || is_id late.transmission_offset id then Some 0
    else if is_id late.video_timing id then Some 7
    else None

-- a value with zeros from a byte on
abbrev pub zeroed_value : Option ℕ → List ℕ → List ℕ
zeroed_value None value = value
zeroed_value (Some from) value = take from value ++ replicate (length value - from) 0

-- what is at the front of an extension, with zeros; and the bytes after it. It is a byte of padding, an element, or, if there is no
-- element, all bytes
pub record Front : Type 0 where
  pub written : List ℕ
  pub rest : List ℕ

abbrev pub element_front : LateIds → List ℕ → Option (Element × List ℕ) → Front
element_front late bytes None = record { written = bytes; rest = [] }
element_front late bytes (Some x) = record {
  written = take (length bytes - length x.1 - length x.0.bytes) bytes ++ zeroed_value (zeros_from late x.0.id) x.0.bytes;
  rest = x.1;
}

unfoldable pub front_of : LateIds → ElementForm → List ℕ → Front
front_of late form (zero ∷ bytes) = record { written = zero ∷ []; rest = bytes }
front_of late form bytes = element_front late bytes (element_at form bytes)

-- at most n fronts
unfoldable pub zeroed_in : ℕ → LateIds → ElementForm → List ℕ → List ℕ
zeroed_in zero late form bytes = bytes
zeroed_in (suc n) late form bytes = (front_of late form bytes).written ++ zeroed_in n late form (front_of late form bytes).rest

-- all elements: each has a byte or more
abbrev pub zeroed : LateIds → ElementForm → List ℕ → List ℕ
zeroed late form bytes = zeroed_in (length bytes) late form bytes

-- an extension of another type is left as it is
abbrev pub zeroed_by : LateIds → Option ElementForm → List ℕ → List ℕ
zeroed_by late None bytes = bytes
zeroed_by late (Some form) bytes = zeroed late form bytes

abbrev pub zeroed_extension : LateIds → Option Extension → Option Extension
zeroed_extension late None = None
zeroed_extension late (Some e) = Some (record { profile = e.profile; bytes = zeroed_by late (form_of_profile e.profile) e.bytes })

-- a packet as FEC protects it
abbrev pub plain_bytes : LateIds → Packet → List ℕ
plain_bytes late p = packet_bytes (record p { header = record p.header { extension = zeroed_extension late p.header.extension } })
