-- What a receiver reads in a retransmission of a datagram in RED: the same packet and blocks.
use Rattle.std.proofs.Common.{◌≡◌, ◌∙◌, refl, sym, ap, subst, ℕ, ◌+◌, ◌*◌, ◌/◌, ◌%◌, ◌^◌, ◌<◌, ◌++◌, List, Bool, true, false, cond, eqb, Option, Some, Ok, length, arith}
use Rattle.std.specs.Int.{w16, to_be_bytes}
use Rattle.std.proofs.lemmas.Bool.{eq-eqb, lt-ltb, ne_eqb}
use Rattle.std.proofs.lemmas.Option.{same_Some}
use Rattle.codec_payload_payloader.specs.Packets.{Packet}
use Rattle.codec_payload_red.proofs.RedRunLemmas.{output_reads}
use Rattle.codec_payload_red.specs.RedLevels.{is_accepted, output, wrapped}
use Rattle.codec_payload_red.specs.RedReading.{red_at}
use Rattle.codec_payload_red.specs.RedRecovery.{Receiver}
use Rattle.codec_payload_rtp.proofs.RtpFields.{ok_is}
use Rattle.codec_payload_rtp.specs.RtpPackets as rtp
use Rattle.codec_payload_rtp.specs.RtpPackets.{Header, is_rtcp}
use Rattle.codec_payload_rtp.specs.RtpReading.{rtp_at}
use Rattle.codec_payload_sending_history.specs.Histories.{IsRetransmission}
use Rattle.codec_payload_sending_history.specs.declared.retransmission.RetransmissionStream.{RetransmissionStream}
use Rattle.codec_payload_sending_red.specs.Writers.{IsInRed, Writer, type_for}
use Rattle.codec_payload_sending.specs.declared.sender.Outgoing.{Outgoing}
use Rattle.codec_payload_datagrams.specs.Kinds.{AgainInRed, Carrier, Kinds, carrier_with, datagram_at, is_sent_again, red_again_of, red_again_parts}
use Rattle.codec_payload_datagrams.specs.declared.kinds.RedStream.{RedStream}
use Rattle.codec_payload_datagrams.specs.declared.kinds.Retransmission.{Retransmission}
use Rattle.codec_payload_datagram_runs.proofs.ReadingLemmas.{is_no_rtcp, packet_at}
use Rattle.codec_payload_datagram_runs.specs.RedHistoryReleases.{HearsRedAgain}

-- what a receiver finds in a retransmission
abbrev pub carrier_again : RetransmissionStream → Receiver → Outgoing → Writer → Packet → Carrier
carrier_again again receiver stream w q = carrier_with receiver (record (packet_at stream q).header { payload_type = again.payload_type }) (wrapped w.red q.payload q.rtp_time w.budget)

-- the header of a retransmission in RED
abbrev red_header_again : RetransmissionStream → ℕ → Outgoing → Packet → Header
red_header_again again next stream q = record (packet_at stream q).header { payload_type = again.payload_type; sequence_number = next; ssrc = again.ssrc }

-- the original number, and then the payload in RED
parts_read : (receiver : Receiver) (known : Option ℕ) (again : RetransmissionStream) (next : ℕ) (stream : Outgoing) (w : Writer) (q : Packet) → known ≡ Some stream.ssrc
    → red_at (output w.red q.payload q.rtp_time w.budget) ≡ Some (wrapped w.red q.payload q.rtp_time w.budget)
    → red_again_parts receiver known (red_header_again again next stream q) (to_be_bytes w16 (q.number % 2 ^ 16) ++ output w.red q.payload q.rtp_time w.budget)
    ≡ AgainInRed (carrier_again again receiver stream w q)
parts_read receiver known again next stream w q is payload =
    let n : ℕ = q.number % 2 ^ 16 in
    let number : n / 256 % 256 * 256 + n % 256 ≡ n = omega arith in
    rw (is, number, payload) refl

pub red_again_is : (kinds : Kinds) (ssrc : Option ℕ) (stream : Outgoing) (red : RedStream) (w : Writer) (q : Packet) (datagram bytes : List ℕ) (after : Writer) (again : RetransmissionStream) (next : ℕ)
    → kinds.red ≡ Some red → HearsRedAgain again kinds → is_accepted w.red.distances ≡ true → length q.payload < w.budget → ssrc ≡ Some stream.ssrc
    → IsInRed w (packet_at stream q) datagram after → IsRetransmission again next datagram bytes → datagram_at kinds ssrc bytes ≡ AgainInRed (carrier_again again red.receiver stream w q)
red_again_is kinds ssrc stream red w q datagram bytes after again next used hears accepted room known in_red repeats =
    let h : Header = record (packet_at stream q).header { payload_type = w.red_type } in
    let p : rtp.Packet = record { header = h; payload = output w.red q.payload q.rtp_time w.budget; padding = 0 } in
    let fits : type_for w q.payload ≡ w.red_type = ap (λ (b : Bool). cond b w.red_type w.media_type) (lt-ltb (length q.payload) w.budget room) in
    let reads : rtp_at datagram ≡ Ok p =
    in_red.reads ∙ ap (λ (n : ℕ). Ok (record { header = record (packet_at stream q).header { payload_type = n }; payload = output w.red q.payload q.rtp_time w.budget; padding = 0 })) fits in
    let same : p ≡ repeats.original = ok_is p repeats.original (sym reads ∙ repeats.was) in
    let payload_again : List ℕ = to_be_bytes w16 (q.number % 2 ^ 16) ++ output w.red q.payload q.rtp_time w.budget in
    let there : rtp_at bytes ≡ Ok (record { header = red_header_again again next stream q; payload = payload_again; padding = 0 }) =
    subst (λ (x : rtp.Packet). rtp_at bytes ≡ Ok (record {
      header = record x.header { payload_type = again.payload_type; sequence_number = next; ssrc = again.ssrc };
      payload = to_be_bytes w16 x.header.sequence_number ++ x.payload;
      padding = 0;
    })) (sym same) repeats.reads in
    let no_rtcp : is_rtcp bytes ≡ false = is_no_rtcp bytes _ there hears.not_rtcp in
    let other : Retransmission = hears.again in
    let ssrc_same : eqb other.ssrc again.ssrc ≡ true = eq-eqb other.ssrc again.ssrc hears.ssrc in
    let type_other : eqb other.payload_type again.payload_type ≡ false = ne_eqb other.payload_type again.payload_type hears.no_other in
    let not_again : is_sent_again kinds.retransmission (red_header_again again next stream q) ≡ false = rw (hears.named, ssrc_same, type_other) refl in
    let not_media : eqb again.payload_type kinds.payload_type ≡ false = ne_eqb again.payload_type kinds.payload_type hears.no_media in
    let red_same : hears.red ≡ red = same_Some hears.red red (sym hears.used ∙ used) in
    let type_is : red.retransmission ≡ Some again.payload_type = ap (λ (x : RedStream). x.retransmission) (sym red_same) ∙ hears.red_type in
    let type_same : eqb again.payload_type again.payload_type ≡ true = eq-eqb again.payload_type again.payload_type refl in
    let receiver_is : red_again_of kinds.retransmission kinds.red (red_header_again again next stream q) ≡ Some red.receiver = rw (hears.named, used, ssrc_same, type_is, type_same) refl in
    let payload : red_at (output w.red q.payload q.rtp_time w.budget) ≡ Some (wrapped w.red q.payload q.rtp_time w.budget) = output_reads w.red q.payload q.rtp_time w.budget accepted room in
    rw (no_rtcp, there, not_again, not_media, receiver_is) (parts_read red.receiver ssrc again next stream w q known payload)
