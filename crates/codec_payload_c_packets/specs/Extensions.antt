-- Elements of header extensions by their ids, and their values.
use Rattle.std.specs.Prelude.{◌≡◌, ℕ, List, Result, Ok, Err}
use Rattle.codec_payload_handle.specs.HeaderValues.{values_told}
use Rattle.codec_payload_handle.specs.declared.extension_values.ExtensionValues.{ExtensionValues as CValues}
use Rattle.codec_payload_rtp.specs.ExtensionFormats.{bytes_with, elements_of, values_in}
use Rattle.codec_payload_rtp.specs.RtpPackets.{Packet}
use Rattle.codec_payload_rtp.specs.declared.rtp.RtpError.{RtpError}
use Rattle.codec_payload_rtp.specs.declared.values.ExtensionIds.{ExtensionIds}
use Rattle.codec_payload_handle.specs.RtpFaults.{rtp_status}
use Rattle.codec_payload_c_packets.specs.StreamSenders.{GivesDatagram}

-- For a packet: the value of the first element with an id is written as a datagram is; status 32 if there is no such element.
-- For bytes that are not a packet: only the status of the error.
abbrev pub ReadsElement : Result Packet RtpError → ℕ → ℕ → (before bytes : List ℕ) → (size_before size : ℕ) → Type 0
ReadsElement (Ok p) id status before bytes size_before size = GivesDatagram (bytes_with id (elements_of p.header.extension)) status before bytes size_before size
ReadsElement (Err e) id status before bytes size_before size = (status ≡ rtp_status e) × (bytes ≡ before) × (size ≡ size_before)

-- For a packet: the values that its elements have under these ids. For bytes that are not a packet: only the status of the
-- error.
abbrev pub ReadsValues : Result Packet RtpError → ExtensionIds → ℕ → (before after : CValues) → Type 0
ReadsValues (Ok p) ids status before after = (status ≡ 0) × (after ≡ values_told (values_in ids (elements_of p.header.extension)))
ReadsValues (Err e) ids status before after = (status ≡ rtp_status e) × (after ≡ before)
