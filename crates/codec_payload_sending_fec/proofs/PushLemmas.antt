-- What a push writes.
use Rattle.std.proofs.Common.{◌≡◌, ℕ, Bool, false, List, length, Option, Some, None, Result, Ok, Err, refl, sym, ap, ◌∙◌}
use Rattle.codec_payload_rtp.specs.RtpPackets.{Packet, packet_bytes}
use Rattle.codec_payload_rtp.specs.RtpReading.{rtp_at}
use Rattle.codec_payload_rtp.specs.declared.rtp.RtpError.{RtpError}
use Rattle.codec_payload_sending_fec.specs.Senders.{Pushed, Sender, after_packet, ends_frame, fault_of, number_in, numbered, pushed, pushed_as, pushed_at, pushed_if, sent_packet}
use Rattle.codec_payload_sending_fec.specs.StreamNumbers.{is_too_old, sent_as}
use Rattle.codec_payload_sending_fec.specs.declared.fec_sender.FecSendError.{FecSendError}

as_is : (s : Sender) (n : ℕ) (p : Packet) → is_too_old s.numbers n ≡ false
    → pushed_as s n p ≡ Ok (record { bytes = packet_bytes (sent_packet s.settings.red_type (numbered (sent_as s.numbers n) p)); ends = ends_frame s n p; sender = after_packet s n p })
as_is s n p old = rw old refl

pub pushed_is : (s t : Sender) (datagram bytes : List ℕ) (p : Packet) (n : ℕ) (ends : Bool) → Ok p ≡ rtp_at datagram → None ≡ fault_of s.settings (length datagram) p → n ≡ number_in s p → false ≡ is_too_old s.numbers n
    → bytes ≡ packet_bytes (sent_packet s.settings.red_type (numbered (sent_as s.numbers n) p)) → ends ≡ ends_frame s n p → t ≡ after_packet s n p
    → pushed datagram s ≡ Ok (record { bytes = bytes; ends = ends; sender = t })
pushed_is s t datagram bytes p n ends e1 e2 e3 e4 e5 e6 e7 =
    ap (λ (r : Result Packet RtpError). pushed_at (length datagram) r s) (sym e1) ∙ ap (λ (o : Option FecSendError). pushed_if o s p) (sym e2) ∙ ap (λ (k : ℕ). pushed_as s k p) (sym e3)
    ∙ as_is s n p (sym e4)
    ∙ sym (made bytes ends t _ _ _ e5 e6 e7)
  where
    made : (bytes : List ℕ) (ends : Bool) (t : Sender) (bytes' : List ℕ) (ends' : Bool) (t' : Sender) → bytes ≡ bytes' → ends ≡ ends' → t ≡ t'
        → (let a : Result Pushed FecSendError = Ok (record { bytes = bytes; ends = ends; sender = t }) in let b : Result Pushed FecSendError = Ok (record { bytes = bytes'; ends = ends'; sender = t' }) in a ≡ b)
    made bytes ends t bytes' ends' t' f1 f2 f3 = cc
