-- A receiver sorts a datagram of its sender as a packet with media, and a retransmission of it as that packet again.
use Rattle.std.proofs.Common.{◌≡◌, ◌∙◌, refl, sym, subst, ℕ, ◌+◌, ◌/◌, ◌%◌, ◌^◌, ◌*◌, ◌<◌, ◌≤◌, ◌⊎◌, inl, inr, List, [], ◌∷◌, ◌++◌, Bool, true, false, eqb, cond, Option, Some, None, Result, Ok, Err, arith, leb}
use Rattle.std.specs.Int.{w16, w32, from_be_bytes, to_be_bytes}
use Rattle.std.proofs.lemmas.Bool.{and_parts, eq-eqb, false_from_ne_true, leb-true}
use Rattle.codec_payload_payloader.specs.Packets.{Packet}
use Rattle.codec_payload_sending_history.specs.Histories.{IsRetransmission}
use Rattle.codec_payload_sending_history.specs.declared.retransmission.RetransmissionStream.{RetransmissionStream}
use Rattle.codec_payload_rtp.proofs.RtpFields.{bind_ok, ok_is}
use Rattle.codec_payload_rtp.specs.RtpPackets.{Header, is_rtcp}
use Rattle.codec_payload_rtp.specs.RtpPackets as rtp
use Rattle.codec_payload_rtp.specs.RtpReading.{◌>>=◌, behind_fixed, cut, extension_at, header_at, rtp_at, unpadded}
use Rattle.codec_payload_rtp.specs.declared.rtp.RtpError.{RtpError}
use Rattle.codec_payload_rtp.specs.declared.rtp.RtpError.TheVariants as errors
use Rattle.codec_payload_sending.specs.Datagrams.{header_with}
use Rattle.codec_payload_sending.specs.declared.sender.Outgoing.{Outgoing}
use Rattle.codec_payload_datagrams.specs.Kinds.{Again, Kinds, Original, WithMedia, again_read, datagram_at, is_other, is_sent_again}
use Rattle.codec_payload_datagrams.specs.declared.kinds.Retransmission.{Retransmission}
use Rattle.codec_payload_datagram_runs.specs.Releases.{ReadsAs, is_sent_again_by}

where_true : {A : Type 0} (b : Bool) (r : Result A RtpError) (d : RtpError) (y : A) → cond b r (Err d) ≡ Ok y → r ≡ Ok y
where_true true r d y e = e
where_true false r d y e = absurd cc

abbrev Types : ℕ → Type 0
Types payload_type = (64 ≤ payload_type) × (payload_type ≤ 95)

-- if the second byte is one of RTCP, the payload type is in the range of RTCP
header_types : (bytes : List ℕ) (x : Header × Bool × List ℕ) → header_at bytes ≡ Ok x → is_rtcp bytes ≡ true → Types x.0.payload_type
unfolding header_at behind_fixed
header_types (f ∷ s ∷ s1 ∷ s0 ∷ t3 ∷ t2 ∷ t1 ∷ t0 ∷ c3 ∷ c2 ∷ c1 ∷ c0 ∷ rest) x e rtcp =
    let padded : Bool = eqb (f / 32 % 2) 1 in
    let extended : Bool = eqb (f / 16 % 2) 1 in
    let sequence : ℕ = from_be_bytes w16 (s1 ∷ s0 ∷ []) in
    let time : ℕ = from_be_bytes w32 (t3 ∷ t2 ∷ t1 ∷ t0 ∷ []) in
    let ssrc : ℕ = from_be_bytes w32 (c3 ∷ c2 ∷ c1 ∷ c0 ∷ []) in
    let v = where_true (eqb (f / 64) 2) (behind_fixed padded extended (f % 16) (eqb (s / 128) 1) (s % 128) sequence time ssrc rest) errors.WrongVersion x e in
    let a = bind_ok (cut (4 * (f % 16)) errors.CsrcsTooShort rest)
    (λ csrcs. extension_at extended csrcs.1 >>= λ extension. Ok (
      record {
        marker = eqb (s / 128) 1;
        payload_type = s % 128;
        sequence_number = sequence;
        timestamp = time;
        ssrc = ssrc;
        csrcs = csrcs.0;
        extension =
            extension.0;
      },
      padded,
      extension.1,
    )) x v in
    let b = bind_ok (extension_at extended a.0.1) (λ extension. Ok (
      record {
        marker = eqb (s / 128) 1;
        payload_type = s % 128;
        sequence_number = sequence;
        timestamp = time;
        ssrc = ssrc;
        csrcs = a.0.0;
        extension = extension.0;
      },
      padded,
      extension.1,
    )) x a.2 in
    let h : Header = record { marker = eqb (s / 128) 1; payload_type = s % 128; sequence_number = sequence; timestamp = time; ssrc = ssrc; csrcs = a.0.0; extension = b.0.0 } in
    let both = and_parts (leb 192 s) (leb s 223) rtcp in
    subst (λ (y : Header × Bool × List ℕ). Types y.0.payload_type) {x = (h, padded, b.0.1)} (ok_is (h, padded, b.0.1) x b.2)
    (omega (arith, leb-true 192 s both.0, leb-true s 223 both.1), omega (arith, leb-true 192 s both.0, leb-true s 223 both.1))
header_types bytes x e rtcp = cc

packet_types : (bytes : List ℕ) (p : rtp.Packet) → rtp_at bytes ≡ Ok p → is_rtcp bytes ≡ true → Types p.header.payload_type
unfolding rtp_at
packet_types bytes p e rtcp =
    let a = bind_ok (header_at bytes) (λ header. unpadded header.1 header.2 >>= λ payload. Ok (record { header = header.0; payload = payload.0; padding = payload.1 })) p e in
    let b = bind_ok (unpadded a.0.1 a.0.2) (λ payload. Ok (record { header = a.0.0; payload = payload.0; padding = payload.1 })) p a.2 in
    let made : rtp.Packet = record { header = a.0.0; payload = b.0.0; padding = b.0.1 } in
    subst (λ (y : rtp.Packet). Types y.header.payload_type) (ok_is made p b.2) (header_types bytes a.0 a.1 rtcp)

pub is_no_rtcp : (bytes : List ℕ) (p : rtp.Packet) → rtp_at bytes ≡ Ok p → (p.header.payload_type < 64) ⊎ (95 < p.header.payload_type) → is_rtcp bytes ≡ false
is_no_rtcp bytes p reads (inl low) = false_from_ne_true (is_rtcp bytes) (λ rtcp. let types = packet_types bytes p reads rtcp in omega (arith, types.0, low))
is_no_rtcp bytes p reads (inr high) = false_from_ne_true (is_rtcp bytes) (λ rtcp. let types = packet_types bytes p reads rtcp in omega (arith, types.1, high))

-- the packet that a datagram reads as
abbrev pub packet_at : Outgoing → Packet → rtp.Packet
packet_at stream q = record { header = header_with stream (record { marker = q.marker; number = q.number % 2 ^ 16; time = q.rtp_time }) q.ext_vals; payload = q.payload; padding = 0 }

again_same : (r : Option Retransmission) (stream : Outgoing) (q : Packet) → is_sent_again r (packet_at stream q).header ≡ is_sent_again_by r stream
again_same None stream q = refl
again_same (Some r) stream q = refl

-- it is a packet with media of the stream
pub datagram_is : (kinds : Kinds) (ssrc : Option ℕ) (stream : Outgoing) (q : Packet) (bytes : List ℕ)
    → ReadsAs stream q bytes → kinds.payload_type ≡ stream.payload_type → (stream.payload_type < 64) ⊎ (95 < stream.payload_type) → is_other ssrc stream.ssrc ≡ false
    → is_sent_again_by kinds.retransmission stream ≡ false
    → datagram_at kinds ssrc bytes ≡ WithMedia (packet_at stream q)
datagram_is kinds ssrc stream q bytes reads payload_type types own not_again =
    let no_rtcp : is_rtcp bytes ≡ false = is_no_rtcp bytes (packet_at stream q) reads types in
    let again : is_sent_again kinds.retransmission (packet_at stream q).header ≡ false = again_same kinds.retransmission stream q ∙ not_again in
    let media : eqb stream.payload_type kinds.payload_type ≡ true = eq-eqb stream.payload_type kinds.payload_type (sym payload_type) in
    rw (no_rtcp, reads, again, own, media) refl

-- a retransmission of the packet, under a number of the stream of retransmissions
abbrev pub header_again : RetransmissionStream → ℕ → Outgoing → Packet → Header
header_again again next stream q = record (packet_at stream q).header { payload_type = again.payload_type; sequence_number = next; ssrc = again.ssrc }

abbrev pub original_at : RetransmissionStream → ℕ → Outgoing → Packet → Original
original_at again next stream q = record { header = header_again again next stream q; number = q.number % 2 ^ 16; ssrc = stream.ssrc; bytes = q.payload }

again_reads : (known : Option ℕ) (h : Header) (n ssrc : ℕ) (bytes : List ℕ) → n < 65536 → known ≡ Some ssrc
    → again_read known h (to_be_bytes w16 n ++ bytes) ≡ Again (record { header = h; number = n; ssrc = ssrc; bytes = bytes })
again_reads known h n ssrc bytes small is =
    let number : n / 256 % 256 * 256 + n % 256 ≡ n = omega (arith, small) in
    rw (is, number) refl

retransmission_reads : (again : RetransmissionStream) (next : ℕ) (stream : Outgoing) (q : Packet) (datagram bytes : List ℕ) → ReadsAs stream q datagram
    → IsRetransmission again next datagram bytes
    → rtp_at bytes ≡ Ok (record { header = header_again again next stream q; payload = to_be_bytes w16 (q.number % 2 ^ 16) ++ q.payload; padding = 0 })
retransmission_reads again next stream q datagram bytes reads is =
    let same : packet_at stream q ≡ is.original = ok_is (packet_at stream q) is.original (sym reads ∙ is.was) in
    subst (λ (p : rtp.Packet). rtp_at bytes ≡ Ok (record {
      header = record p.header { payload_type = again.payload_type; sequence_number = next; ssrc = again.ssrc };
      payload = to_be_bytes w16 p.header.sequence_number ++ p.payload;
      padding = 0;
    })) (sym same) is.reads

-- a receiver that knows the stream of retransmissions reads the packet again
pub again_is : (kinds : Kinds) (ssrc : Option ℕ) (again : RetransmissionStream) (next : ℕ) (stream : Outgoing) (q : Packet) (datagram bytes : List ℕ)
    → ReadsAs stream q datagram → IsRetransmission again next datagram bytes → ssrc ≡ Some stream.ssrc
    → kinds.retransmission ≡ Some (record { ssrc = again.ssrc; payload_type = again.payload_type }) → (again.payload_type < 64) ⊎ (95 < again.payload_type)
    → datagram_at kinds ssrc bytes ≡ Again (original_at again next stream q)
again_is kinds ssrc again next stream q datagram bytes reads is known heard types =
    let small : q.number % 2 ^ 16 < 65536 = omega arith in
    let there = retransmission_reads again next stream q datagram bytes reads is in
    let no_rtcp : is_rtcp bytes ≡ false = is_no_rtcp bytes _ there types in
    let same_ssrc : eqb again.ssrc again.ssrc ≡ true = eq-eqb again.ssrc again.ssrc refl in
    let same_type : eqb again.payload_type again.payload_type ≡ true = eq-eqb again.payload_type again.payload_type refl in
    let sent_again : is_sent_again kinds.retransmission (header_again again next stream q) ≡ true = rw (heard, same_ssrc, same_type) refl in
    rw (no_rtcp, there, sent_again) (again_reads ssrc (header_again again next stream q) (q.number % 2 ^ 16) stream.ssrc q.payload small known)
