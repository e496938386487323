-- A transport-wide number in the header extension of a packet.
use Rattle.std.specs.Prelude.{◌≡◌, ℕ, ◌==◌, ◌&&◌, if◌then◌else◌, Bool, true, false, List, [], ◌∷◌, ◌++◌, Option, Some, None, is_some, Ok, Err}
use Rattle.std.specs.Int.{w16, to_be_bytes}
use Rattle.codec_payload_rtp.specs.Elements.{Element, all_fit, form_of_profile}
use Rattle.codec_payload_rtp.specs.ExtensionFormats.{bytes_with, elements_of}
use Rattle.codec_payload_rtp.specs.ExtensionWriting.{extension_for}
use Rattle.codec_payload_rtp.specs.RtpPackets.{Extension, Header, Packet, extension_fits, header_fits}
use Rattle.codec_payload_rtp.specs.RtpReading.{rtp_at}
use Rattle.codec_payload_rtp.specs.declared.elements.ElementForm.TheVariants as forms
use Rattle.codec_payload_feedback_transport.specs.declared.numbering.NumberingError.{NumberingError}
use Rattle.codec_payload_feedback_transport.specs.declared.numbering.NumberingError.TheVariants as errors

-- the elements with other ids
abbrev pub without : ℕ → List Element → List Element
without id [] = []
without id (e ∷ es) = if e.id == id then without id es else e ∷ without id es

-- the elements with other ids, and this one
abbrev pub with_last : Element → List Element → List Element
with_last last es = without last.id es ++ last ∷ []

-- the number as an element: two bytes
abbrev pub element_for : ℕ → ℕ → Element
element_for id number = record { id = id; bytes = to_be_bytes w16 number }

-- there is no extension, or it has one of the profiles of RFC 8285
abbrev pub has_elements : Option Extension → Bool
has_elements None = true
has_elements (Some e) = is_some (form_of_profile e.profile)

-- each element has a spelling, and the extension is not too long
abbrev pub has_room : List Element → Bool
has_room es = all_fit forms.TwoByte es && extension_fits (extension_for es)

abbrev pub with_extension : Option Extension → Packet → Packet
with_extension e p = record p { header = record p.header { extension = e } }

-- the elements of the packet with the number: those with other ids, and the number as the last one
abbrev pub elements_with : ℕ → ℕ → Packet → List Element
elements_with id number p = with_last (element_for id number) (elements_of p.header.extension)

-- the packet with these elements; all else stays
abbrev pub numbered : ℕ → ℕ → Packet → Packet
numbered id number p = with_extension (extension_for (elements_with id number p)) p

-- the extension has exactly these elements
pub record IsExtension (e : Extension) (es : List Element) : Type 0 where
  pub is : extension_for es ≡ Some e
  pub elements : elements_of (Some e) ≡ es
  pub fit : all_fit forms.TwoByte es ≡ true

-- new is old with bytes at its end that are read as this packet
abbrev pub AppendsPacket : Packet → List ℕ → List ℕ → Type 0
AppendsPacket p old new = (written : List ℕ) × (new ≡ old ++ written) × (rtp_at written ≡ Ok p)

-- new is old with a datagram at its end, which is read as the packet with the number
pub record AppendsNumbered (id number : ℕ) (datagram old new : List ℕ) : Type 0 where
  pub packet : Packet
  pub was : rtp_at datagram ≡ Ok packet
  pub written : AppendsPacket (numbered id number packet) old new
  pub elements : elements_of (numbered id number packet).header.extension ≡ elements_with id number packet

-- ---- faults

-- why the elements are not read
abbrev pub HasNoElements : Option Extension → NumberingError → Type 0
HasNoElements e errors.OtherProfile = has_elements e ≡ false
HasNoElements e errors.OutOfMemory = Unit {0}
HasNoElements e errors.NoRoom = ⊥
HasNoElements e (errors.Rtp fault) = ⊥

-- why the elements are not written
abbrev pub HasNoRoom : Element → Option Extension → NumberingError → Type 0
HasNoRoom last e errors.OtherProfile = has_elements e ≡ false
HasNoRoom last e errors.OutOfMemory = Unit {0}
HasNoRoom last e errors.NoRoom = all_fit forms.TwoByte (with_last last (elements_of e)) ≡ false
HasNoRoom last e (errors.Rtp fault) = ⊥

-- why the packet is not written
abbrev pub IsTooLong : Option Extension → Header → NumberingError → Type 0
IsTooLong e h errors.OtherProfile = ⊥
IsTooLong e h errors.OutOfMemory = Unit {0}
IsTooLong e h errors.NoRoom = header_fits (record h { extension = e }) ≡ false
IsTooLong e h (errors.Rtp fault) = ⊥

-- why the datagram gets no number
abbrev pub IsUnnumbered : ℕ → ℕ → List ℕ → NumberingError → Type 0
IsUnnumbered id number datagram errors.OtherProfile = (p : Packet) × (rtp_at datagram ≡ Ok p) × (has_elements p.header.extension ≡ false)
IsUnnumbered id number datagram errors.OutOfMemory = Unit {0}
IsUnnumbered id number datagram errors.NoRoom = (p : Packet) × (rtp_at datagram ≡ Ok p) × (has_room (elements_with id number p) ≡ false)
IsUnnumbered id number datagram (errors.Rtp fault) = rtp_at datagram ≡ Err fault

-- ---- theorems

-- the number is read by its id
abbrev pub NumbersComeBack : Type 0
NumbersComeBack = (id number : ℕ) (p : Packet) → bytes_with id (elements_with id number p) ≡ Some (to_be_bytes w16 number)
