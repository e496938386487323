-- What passes in the place of packets in RED, and of others.
use Rattle.std.proofs.Common.{◌≡◌, ℕ, ◌<◌, Bool, true, false, cond, eqb, nat_lt, List, Option, Some, None, Result, refl, ap, sym, ◌∙◌, arith}
use Rattle.codec_payload_rtp.specs.RtpPackets.{Packet, is_rtcp}
use Rattle.codec_payload_rtp.specs.RtpReading.{rtp_at}
use Rattle.codec_payload_rtp.specs.declared.rtp.RtpError.{RtpError}
use Rattle.codec_payload_fec_port.specs.Passing.{MediaPassesAsBefore, OthersPassAsTheyAre, in_red}
use Rattle.codec_payload_fec_port.specs.Plain.{of_again, of_block, of_fec, of_red, plain_if, plain_in, read_packet, retyped, without_media}
use Rattle.codec_payload_fec_port.specs.Settings.{is_given}

self : (n : ℕ) → eqb n n ≡ true
self n = grind (arith)

low : (n : ℕ) → n < 128 → nat_lt 127 n ≡ false
low n h = grind (arith, h)

pub media_passes : MediaPassesAsBefore
media_passes s p datagram small red fec none rtcp read =
    let q : Packet = in_red s p in
    let k : ℕ = p.header.payload_type in
    let made : Packet = record { header = retyped k q.header; payload = p.payload; padding = 0 } in
    let by_rtcp : Bool → Option Packet = λ b. plain_if s (cond b None (read_packet (rtp_at datagram))) in
    let by_read : Result Packet RtpError → Option Packet = λ r. plain_if s (read_packet r) in
    let by_red : Bool → Option Packet = λ b. cond b (of_red s q) (cond (eqb s.red_type s.fec_type) (of_fec s q) (cond (is_given s.red_retransmission s.red_type) (of_again s q) None)) in
    let by_low : Bool → Option Packet = λ b. option_map_block (cond b None (cond (eqb k s.red_type) None (Some (k, p.payload)))) in
    let by_block : Bool → Option Packet = λ b. option_map_block (cond b None (Some (k, p.payload))) in
    let by_fec : Bool → Option Packet = λ b. Some (cond b (without_media s q.header) made) in
    let padded : ℕ → Option Packet = λ n. Some (record { header = p.header; payload = p.payload; padding = n }) in
    ap by_rtcp rtcp ∙ ap by_read read ∙ ap by_red (self s.red_type) ∙ ap by_low (low k small) ∙ ap by_block red ∙ ap by_fec fec ∙ ap padded (sym none)
  where
    option_map_block : Option (ℕ × List ℕ) → Option Packet
    option_map_block None = None
    option_map_block (Some x) = Some (of_block s (in_red s p).header x)

pub others_pass : OthersPassAsTheyAre
others_pass s p datagram red fec again read = by (is_rtcp datagram)
  where
    types : plain_in s p ≡ None
    types =
        ap (λ (b : Bool). cond b (of_red s p) (cond (eqb p.header.payload_type s.fec_type) (of_fec s p) (cond (is_given s.red_retransmission p.header.payload_type) (of_again s p) None))) red
        ∙ ap (λ (b : Bool). cond b (of_fec s p) (cond (is_given s.red_retransmission p.header.payload_type) (of_again s p) None)) fec ∙ ap (λ (b : Bool). cond b (of_again s p) None) again

    by : (b : Bool) → plain_if s (cond b None (read_packet (rtp_at datagram))) ≡ None
    by true = refl
    by false = ap (λ (r : Result Packet RtpError). plain_if s (read_packet r)) read ∙ types
