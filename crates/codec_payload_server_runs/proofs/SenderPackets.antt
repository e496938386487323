-- The datagrams of a sender: packets of its stream, without padding. So a retransmission of one that is unwrapped reads as the datagram,
-- and is the datagram, if that is bytes.
use Rattle.std.proofs.Common.{◌≡◌, ◌∙◌, refl, sym, ap, subst, ℕ, zero, suc, ◌<◌, ◌^◌, List, [], ◌∷◌, ◌++◌, Option, Some, None, MatchOption, Result, Ok, length, arith}
use Rattle.std.specs.Int.{w16, to_be_bytes}
use Rattle.std.specs.Option.{option_map}
use Rattle.std.specs.Prelude.{slice_get, slice_index_or}
use Rattle.std.proofs.lemmas.Nat.{from_be_bytes-to_be_bytes_2}
use Rattle.std.proofs.lemmas.Option.{same_Some}
use Rattle.codec_payload_base.specs.declared.error.PacketError.{PacketError}
use Rattle.codec_payload_payloader.specs.Sending.{Sample}
use Rattle.codec_payload_rtp.specs.RtpPackets.{IsPadding, IsRtp, Packet, header_bytes, is_padded, packet_bytes, padding_bytes}
use Rattle.codec_payload_rtp.specs.RtpReading.{rtp_at}
use Rattle.codec_payload_rtp.specs.declared.rtp.RtpError.{RtpError}
use Rattle.codec_payload_sending.specs.Senders.{Sending}
use Rattle.codec_payload_sending_forward.specs.Forwarding.{wrapped}
use Rattle.codec_payload_sending_history.specs.Originals.{WritesOriginal, numbered, original_of, original_with}
use Rattle.codec_payload_sending_history.specs.declared.original.OriginalStream.{OriginalStream}
use Rattle.codec_payload_sending_history.specs.declared.retransmission.RetransmissionStream.{RetransmissionStream}
use Rattle.codec_payload_datagram_runs.specs.WireRuns.{SendsIt, SendsOrRefuses, Wire, sent_sample}
use Rattle.codec_payload_datagram_runs.specs.declared.run.SentSample.{SentSample}
use Rattle.codec_payload_forward_runs.specs.FirstHop.{original_stream}

-- a datagram of a stream
pub record IsOf (stream : OriginalStream) (datagram : List ℕ) : Type 0 where
  pub packet : Packet
  pub reads : rtp_at datagram ≡ Ok packet
  pub ssrc : packet.header.ssrc ≡ stream.ssrc
  pub payload_type : packet.header.payload_type ≡ stream.payload_type
  pub number : packet.header.sequence_number < 2 ^ 16
  pub padding : packet.padding ≡ 0

abbrev pub AllOf : OriginalStream → List (List ℕ) → Type 0
AllOf stream [] = Unit {0}
AllOf stream (d ∷ ds) = IsOf stream d × AllOf stream ds

of_append : (stream : OriginalStream) (ds es : List (List ℕ)) → AllOf stream ds → AllOf stream es → AllOf stream (ds ++ es)
of_append stream [] es here more = more
of_append stream (d ∷ ds) es here more = (here.0, of_append stream ds es here.1 more)

pub of_at : (stream : OriginalStream) (ds : List (List ℕ)) (k : ℕ) (d : List ℕ) → AllOf stream ds → slice_get ds k ≡ Some d → IsOf stream d
of_at stream [] k d all there = absurd (cc)
of_at stream (e ∷ ds) zero d all there = subst (IsOf stream) (same_Some e d there) all.0
of_at stream (e ∷ ds) (suc k) d all there = of_at stream ds k d all.1 there

of_each : (stream : OriginalStream) (ds : List (List ℕ)) → ((i : ℕ) → i < length ds → IsOf stream (slice_index_or ds i [])) → AllOf stream ds
of_each stream [] each = tt
of_each stream (d ∷ ds) each = (each 0 (omega arith), of_each stream ds (λ i l. each (suc i) (omega (arith, l))))

-- The sender keeps its stream, and has sent nothing else

abbrev pub stream_of : Wire → OriginalStream
stream_of s = original_stream s.sending.stream

abbrev pub SendsItsOwn : Wire → Type 0
SendsItsOwn s = AllOf (stream_of s) s.datagrams

sent_own : (sample : Sample) (fault : Option PacketError) (s t : Sending) → SendsOrRefuses (sent_sample sample) s fault t
    → (original_stream t.stream ≡ original_stream s.stream) × AllOf (original_stream s.stream) t.datagrams
sent_own sample None s t sends = (
  ap (λ (x : Sending). original_stream x.stream) sends.left,
  of_each (original_stream s.stream) t.datagrams (λ i l.
      let at = sends.sent.1 i (omega (arith, sends.sent.0, l)) in
      record { packet = _; reads = at.reads; ssrc = refl; payload_type = refl; number = omega arith; padding = refl }),
)
sent_own sample (Some fault) s t refuses =
    let nothing : t.datagrams ≡ [] = ap (λ (x : Sending). x.datagrams) refuses.1.left in
    (ap (λ (x : Sending). original_stream x.stream) refuses.1.left, subst (AllOf (original_stream s.stream)) (sym nothing) tt)

pub sends_own : (o : Option Sample) (s t : Wire)
    → MatchOption o (t ≡ s) (λ sample. (entry : SentSample) × SendsIt sample s.sending s.datagrams entry t.sending t.datagrams
    × (t ≡ record s { sending = t.sending; datagrams = t.datagrams; sends = s.sends ++ entry ∷ [] }))
    → SendsItsOwn s → (stream_of t ≡ stream_of s) × SendsItsOwn t
sends_own None s t same own = (ap stream_of same, subst SendsItsOwn (sym same) own)
sends_own (Some sample) s t done own =
    let sent = sent_own sample done.0.fault s.sending t.sending done.1.sends in
    let all : AllOf (stream_of s) t.datagrams = subst (AllOf (stream_of s)) (sym done.1.gained) (of_append (stream_of s) s.datagrams t.sending.datagrams own sent.1) in
    (sent.0, subst (λ (stream : OriginalStream). AllOf stream t.datagrams) (sym sent.0) all)

-- Retransmissions

pub same_packet : (p q : Packet) → ◌≡◌ {A = Result Packet RtpError} (Ok p) (Ok q) → p ≡ q
same_packet p q same = cc

-- the number in front of the payload
number_of : (number : ℕ) (payload : List ℕ) → number < 2 ^ 16 → numbered (to_be_bytes w16 number ++ payload) ≡ Some (number, payload)
unfolding numbered
number_of number payload small = ap (λ (n : ℕ). Some (n, payload)) (from_be_bytes-to_be_bytes_2 number small)

abbrev with_fields : Packet → (ssrc payload_type padding : ℕ) → Packet
with_fields p ssrc payload_type padding = record { header = record p.header { ssrc = ssrc; payload_type = payload_type }; payload = p.payload; padding = padding }

-- a packet with the fields that it has
has_fields : (p : Packet) (ssrc payload_type : ℕ) → p.header.ssrc ≡ ssrc → p.header.payload_type ≡ payload_type → p.padding ≡ 0 → with_fields p ssrc payload_type 0 ≡ p
has_fields p ssrc payload_type is_ssrc is_type none =
    ap (λ (n : ℕ). with_fields p n payload_type 0) (sym is_ssrc)
    ∙ (ap (λ (n : ℕ). with_fields p p.header.ssrc n 0) (sym is_type) ∙ ap (with_fields p p.header.ssrc p.header.payload_type) (sym none))

pub reads_again : (stream : OriginalStream) (datagram : List ℕ) (of : IsOf stream datagram) (again : RetransmissionStream) (next : ℕ) (retransmission bytes : List ℕ)
    → rtp_at retransmission ≡ Ok (wrapped again next of.packet) → WritesOriginal stream retransmission bytes → rtp_at bytes ≡ rtp_at datagram
reads_again stream datagram of again next retransmission bytes is writes =
    let p : Packet = of.packet in
    let packet : writes.packet ≡ wrapped again next p = same_packet writes.packet (wrapped again next p) (sym writes.was ∙ is) in
    let unwrapped : original_of stream (wrapped again next p) ≡ Some (with_fields p stream.ssrc stream.payload_type 0) =
    ap (λ (o : Option (ℕ × List ℕ)). option_map (original_with stream (wrapped again next p).header) o) (number_of p.header.sequence_number p.payload of.number) in
    let original : writes.original ≡ with_fields p stream.ssrc stream.payload_type 0 =
    same_Some writes.original (with_fields p stream.ssrc stream.payload_type 0) (sym writes.is ∙ (ap (original_of stream) packet ∙ unwrapped)) in
    writes.reads ∙ (ap (λ (x : Packet). Ok x) (original ∙ has_fields p stream.ssrc stream.payload_type of.ssrc of.payload_type of.padding) ∙ sym of.reads)

-- a packet without padding has one spelling
no_padding : (n : ℕ) (tail : List ℕ) → n ≡ 0 → IsPadding n tail → tail ≡ padding_bytes n
no_padding zero tail none is = is
no_padding (suc n) tail none is = absurd (omega (arith, none))

spelled_whole : (d : List ℕ) (p : Packet) → p.padding ≡ 0 → IsRtp d p → d ≡ packet_bytes p
spelled_whole d p none is = is.is ∙ ap (λ (tail : List ℕ). header_bytes (is_padded p) p.header ++ (p.payload ++ tail)) (no_padding p.padding is.tail none is.padding)

-- what is unwrapped is the datagram, byte for byte
pub same_bytes : (stream : OriginalStream) (datagram : List ℕ) (of : IsOf stream datagram) (again : RetransmissionStream) (next : ℕ) (retransmission bytes : List ℕ)
    → IsRtp datagram of.packet → rtp_at retransmission ≡ Ok (wrapped again next of.packet) → WritesOriginal stream retransmission bytes → bytes ≡ datagram
same_bytes stream datagram of again next retransmission bytes spelled is writes =
    let original : writes.original ≡ of.packet = same_packet writes.original of.packet (sym writes.reads ∙ (reads_again stream datagram of again next retransmission bytes is writes ∙ of.reads)) in
    writes.bytes_are ∙ (ap packet_bytes original ∙ sym (spelled_whole datagram of.packet of.padding spelled))
