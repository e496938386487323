-- Sizes of packets as FEC protects them.
use Rattle.std.proofs.Common.{◌≡◌, ℕ, zero, suc, ◌+◌, ◌<◌, ◌≤◌, Bool, true, false, cond, List, [], ◌∷◌, ◌++◌, length, Option, Some, None, refl, sym, ap, ◌∙◌, arith, ltb}
use Rattle.std.proofs.lemmas.Bool.{ltb-false}
use Rattle.std.proofs.lemmas.List.{length-append}
use Rattle.codec_payload_rtp.specs.Elements.{form_of_profile}
use Rattle.codec_payload_rtp.specs.RtpPackets.{Extension, Header, IsRtp, Packet, extension_bytes, fixed_bytes, header_bytes, is_padded}
use Rattle.codec_payload_fec_receiver.specs.Late.{plain_bytes, zeroed_extension}
use Rattle.codec_payload_fec_receiver.specs.declared.late.LateIds.{LateIds}
use Rattle.codec_payload_fec_receiver.proofs.LateLemmas.{by_size}
use Rattle.codec_payload_sending_fec.specs.Senders.{fault_of, numbered, protected_bytes}
use Rattle.codec_payload_sending_fec.specs.declared.fec_sender.FecSendError.{FecSendError}
use Rattle.codec_payload_sending_fec.specs.declared.fec_sender.FecSendError.TheVariants as faults
use Rattle.codec_payload_sending_fec.specs.declared.fec_sender.FecSenderSettings.{FecSenderSettings}

fixed_size : (padded : Bool) (h : Header) → length (fixed_bytes padded h) ≡ 12
fixed_size padded h = refl

header_size : (padded : Bool) (h : Header) → length (header_bytes padded h) ≡ 12 + (length h.csrcs + length (extension_bytes h.extension))
header_size padded h =
    omega (arith, fixed_size padded h, length-append (fixed_bytes padded h) (h.csrcs ++ extension_bytes h.extension), length-append h.csrcs (extension_bytes h.extension))

extension_size : (late : LateIds) (e : Option Extension) → length (extension_bytes (zeroed_extension late e)) ≡ length (extension_bytes e)
extension_size late None = refl
extension_size late (Some e) = ap (λ (n : ℕ). suc (suc (suc (suc n)))) (by_size late (form_of_profile e.profile) e.bytes)

plain_size : (late : LateIds) (n : ℕ) (p : Packet) → length (plain_bytes late (record (numbered n p) { padding = 0 })) ≡ 12 + (length p.header.csrcs + length (extension_bytes p.header.extension)) + length p.payload
plain_size late n p =
    let h : Header = record p.header { sequence_number = n; extension = zeroed_extension late p.header.extension } in
    let none : List ℕ = [] in
    omega (arith, header_size false h, length-append (header_bytes false h) (p.payload ++ none), length-append p.payload none, extension_size late p.header.extension)

-- it is not longer than the datagram
pub short : (s : FecSenderSettings) (datagram : List ℕ) (p : Packet) (n : ℕ) → IsRtp datagram p → length datagram < 65548 → length (protected_bytes s (numbered n p)) < 65548
short s datagram p n is few =
    let whole : length datagram ≡ length (header_bytes (is_padded p) p.header ++ (p.payload ++ is.tail)) = ap length is.is in
    omega (arith, whole, few, plain_size s.late_ids n p, header_size (is_padded p) p.header, length-append (header_bytes (is_padded p) p.header) (p.payload ++ is.tail), length-append p.payload is.tail)

few_if : (size : ℕ) (o : Option FecSendError) (b : Bool) → b ≡ ltb 65547 size → cond b (Some faults.TooLarge) o ≡ None → size < 65548
few_if size o true is e = absurd cc
few_if size o false is e = omega (arith, ltb-false 65547 size (sym is))

pub no_fault_few : (s : FecSenderSettings) (size : ℕ) (p : Packet) → fault_of s size p ≡ None → size < 65548
no_fault_few s size p e = few_if size _ (ltb 65547 size) refl e
