-- What the edges of a stream see of its sender's datagrams: packets of a sender that sends in order, and media alone.
use Rattle.std.proofs.Common.{◌≡◌, ◌≢◌, ◌∙◌, ◌⊎◌, inl, inr, refl, sym, ap, ap₂, subst, subst₂, ℕ, zero, suc, ◌+◌, ◌*◌, ◌/◌, ◌%◌, ◌^◌, ◌<◌, ◌≤◌, ◌||◌, eqb, cond, List, [], ◌∷◌, ◌++◌, Bool, true, false, Option, Some, None, Ok, Err, length, get_or, slice_get, arith}
use Rattle.std.specs.Int.{w16, to_be_bytes}
use Rattle.std.proofs.lemmas.Bool.{cases_lt, eq-eqb, ne_eqb}
use Rattle.codec_payload_base.specs.Described.{AnswersDescribed, described}
use Rattle.codec_payload_base.specs.Extended.{extended}
use Rattle.codec_payload_base.specs.declared.wire.Codec.{Codec}
use Rattle.codec_payload_base.specs.declared.wire.Codec.TheVariants as codecs
use Rattle.codec_payload_codec.specs.Depacketizers.{DepacketizerState, configured_depacketizer, depacketizer_state_for, kind_of_depacketizer}
use Rattle.codec_payload_codec.specs.Depacketizers.{Vp8Payloads, Vp9Payloads}
use Rattle.codec_payload_codec.specs.Packetizers.{PacketizerState, is_built_in, payloads_by}
use Rattle.codec_payload_codec.specs.Packetizers.{AmrWbPacketizing, Av1Packetizing, BoxedPacketizing, ComfortNoisePacketizing, G711Packetizing, G722Packetizing, NullPacketizing, OpusPacketizing, TelePacketizing, Vp8Packetizing, Vp9Packetizing}
use Rattle.codec_payload_datagram_runs.proofs.ReadingLemmas.{header_again, packet_at}
use Rattle.codec_payload_datagram_runs.specs.Releases.{ReadsAs}
use Rattle.codec_payload_datagram_runs.specs.declared.run.SentSample.{SentSample}
use Rattle.codec_payload_edges.specs.Edges.{vp8_edge, vp9_edge}
use Rattle.codec_payload_edges.specs.OwnSenders.{Answer, AreVp8Answers, AreVp9Answers, IsInOrder, Vp8SendsInOrder, Vp9SendsInOrder, own_sender, payload_at, pictures_of, sizes_of, start_of}
use Rattle.codec_payload_edges.specs.Senders.{FindsNothing, HasMediaAlone, IsOf, Sender, SendsInOrder}
use Rattle.codec_payload_edges.specs.declared.edge.Edge.{Edge}
use Rattle.codec_payload_payloader.specs.Packets.{Packet}
use Rattle.codec_payload_payloader.specs.Sending.{Sample}
use Rattle.codec_payload_receiver.specs.Sessions.{Session as Receiver}
use Rattle.codec_payload_rtp.proofs.RtpFields.{ok_is}
use Rattle.codec_payload_rtp.specs.ExtensionFormats.{bytes_for, elements_of}
use Rattle.codec_payload_rtp.specs.RtpPackets as rtp
use Rattle.codec_payload_rtp.specs.RtpReading.{rtp_at}
use Rattle.codec_payload_sending.specs.Senders.{Sending}
use Rattle.codec_payload_sending.specs.declared.sender.Outgoing.{Outgoing}
use Rattle.codec_payload_sending_history.specs.Histories.{IsRetransmission, Repeats}
use Rattle.codec_payload_sending_history.specs.declared.retransmission.RetransmissionStream.{RetransmissionStream}
use Rattle.codec_payload_stream_edges.specs.Brought.{MediaPacket, at_edge, brought_at, edge_by, edge_of, edge_with, has_type, original_payload, whole}
use Rattle.codec_payload_stream_edges.specs.Following.{number_in}
use Rattle.codec_payload_stream_edges.specs.declared.rules.EdgeRules.{EdgeRules}
use Rattle.codec_payload_vp8.specs.Vp8Sent.{Vp8Sends, advanced, gives_packets, header as vp8_header}
use Rattle.codec_payload_session_units.specs.OneSender.{AreApartFrom, AreUndescribed, SendsAll}
use Rattle.codec_payload_session_units.proofs.EdgeSteps.{IsShown}
use Rattle.codec_payload_session_units.proofs.PlaceLemmas.{ArePartsOf, AreSteps, IsPartOf, sends_placing}

-- ---- a copy that the receiver has just received

-- the bytes are a sent datagram, or a retransmission of one, and the receiver's highest number is near that of the packet
pub record IsCopyHere (again : Option RetransmissionStream) (stream : Outgoing) (first : ℕ) (datagrams : List (List ℕ)) (bytes : List ℕ) (r : Receiver) : Type 0 where
  pub index : ℕ
  pub packet : Packet
  pub datagram : List ℕ
  pub there : slice_get datagrams index ≡ Some datagram
  pub reads : ReadsAs stream packet datagram
  pub number : packet.number ≡ first + index
  pub next : ℕ
  pub copy : (bytes ≡ datagram) ⊎ Repeats again next datagram bytes
  pub nearest : extended 65536 r.packets.numbering.greatest (packet.number % 2 ^ 16) ≡ packet.number
  pub ssrc_is : r.ssrc ≡ Some stream.ssrc

-- what the edges find in the packet
record Brings (k : EdgeRules) (q : Packet) (m : MediaPacket) : Type 0 where
  number : m.number ≡ q.number % 2 ^ 16
  marker : m.marker ≡ q.marker
  bytes : m.bytes ≡ q.payload
  undescribed : bytes_for k.descriptor (elements_of m.extension) ≡ None

some_same : {X : Type 0} (x y : X) → Some x ≡ Some y → x ≡ y
some_same x y e = cc

module _ (k : EdgeRules) (again : Option RetransmissionStream) (stream : Outgoing) (first : ℕ) (datagrams : List (List ℕ)) (type_is : k.payload_type ≡ stream.payload_type)
    (no_again : k.red_again ≡ None) (apart : AreApartFrom stream.ssrc again) (plain : AreUndescribed k.descriptor datagrams) where
  undescribed : (index : ℕ) (q : Packet) (d : List ℕ) → slice_get datagrams index ≡ Some d → ReadsAs stream q d → bytes_for k.descriptor (elements_of (packet_at stream q).header.extension) ≡ None
  undescribed index q d there reads = plain index d (packet_at stream q) there reads

  abbrev original_of : Packet → MediaPacket
  original_of q = record { number = q.number % 2 ^ 16; marker = q.marker; extension = (packet_at stream q).header.extension; bytes = q.payload }

  original_brings : (index : ℕ) (q : Packet) (d : List ℕ) (m : MediaPacket) → slice_get datagrams index ≡ Some d → ReadsAs stream q d → brought_at k stream.ssrc d ≡ Some m → Brings k q m
  original_brings index q d m there reads is =
      let own : eqb stream.ssrc stream.ssrc ≡ true = eq-eqb stream.ssrc stream.ssrc refl in
      let media : eqb stream.payload_type k.payload_type ≡ true = eq-eqb stream.payload_type k.payload_type (sym type_is) in
      let made : brought_at k stream.ssrc d ≡ Some (original_of q) = rw (reads, own, media) refl in
      subst (Brings k q) (some_same (original_of q) m (sym made ∙ is)) (record { number = refl; marker = refl; bytes = refl; undescribed = undescribed index q d there reads })

  abbrev again_of : Packet → MediaPacket
  again_of q = record { number = q.number % 2 ^ 16 / 256 % 256 * 256 + q.number % 2 ^ 16 % 256; marker = q.marker; extension = (packet_at stream q).header.extension; bytes = q.payload }

  again_made : (s : RetransmissionStream) (next index : ℕ) (q : Packet) (d : List ℕ) (m : MediaPacket) (typed : Bool) → slice_get datagrams index ≡ Some d → ReadsAs stream q d → has_type k.retransmission s.payload_type ≡ typed
      → whole (header_again s next stream q) (q.number % 2 ^ 16 / 256 % 256 * 256 + q.number % 2 ^ 16 % 256) (cond typed (Some q.payload) None) ≡ Some m → Brings k q m
  again_made s next index q d m true there reads typed is =
      let number : q.number % 2 ^ 16 / 256 % 256 * 256 + q.number % 2 ^ 16 % 256 ≡ q.number % 2 ^ 16 = omega arith in
      subst (Brings k q) (some_same (again_of q) m is) (record { number = number; marker = refl; bytes = refl; undescribed = undescribed index q d there reads })
  again_made s next index q d m false there reads typed is = absurd (cc)

  again_brings : (s : RetransmissionStream) (next index : ℕ) (q : Packet) (d bytes : List ℕ) (m : MediaPacket) → s.ssrc ≢ stream.ssrc → slice_get datagrams index ≡ Some d → ReadsAs stream q d
      → IsRetransmission s next d bytes → brought_at k stream.ssrc bytes ≡ Some m → Brings k q m
  again_brings s next index q d bytes m other there reads repeats is =
      let same : packet_at stream q ≡ repeats.original = ok_is (packet_at stream q) repeats.original (sym reads ∙ repeats.was) in
      let read : rtp_at bytes ≡ Ok (record { header = header_again s next stream q; payload = to_be_bytes w16 (q.number % 2 ^ 16) ++ q.payload; padding = 0 }) =
      subst (λ (p : rtp.Packet). rtp_at bytes ≡ Ok (record {
        header = record p.header { payload_type = s.payload_type; sequence_number = next; ssrc = s.ssrc };
        payload = to_be_bytes w16 p.header.sequence_number ++ p.payload;
        padding = 0;
      })) (sym same) repeats.reads in
      let differs : eqb s.ssrc stream.ssrc ≡ false = ne_eqb s.ssrc stream.ssrc other in
      let none : has_type k.red_again s.payload_type ≡ false = ap (λ (o : Option ℕ). has_type o s.payload_type) no_again in
      let got : whole (header_again s next stream q) (q.number % 2 ^ 16 / 256 % 256 * 256 + q.number % 2 ^ 16 % 256) (original_payload k s.payload_type q.payload) ≡ Some m = rw (read, differs) at is in
      again_made s next index q d m (has_type k.retransmission s.payload_type) there reads refl (rw none at got)

  repeated_brings : (o : Option RetransmissionStream) (next index : ℕ) (q : Packet) (d bytes : List ℕ) (m : MediaPacket) → AreApartFrom stream.ssrc o → slice_get datagrams index ≡ Some d → ReadsAs stream q d
      → Repeats o next d bytes → brought_at k stream.ssrc bytes ≡ Some m → Brings k q m
  repeated_brings None next index q d bytes m apart_is there reads repeats is =
      original_brings index q d m there reads (subst (λ (x : List ℕ). brought_at k stream.ssrc x ≡ Some m) repeats is)
  repeated_brings (Some s) next index q d bytes m apart_is there reads repeats is = again_brings s next index q d bytes m apart_is.0 there reads repeats is

  copy_brings : (bytes : List ℕ) (r : Receiver) (ssrc : ℕ) (m : MediaPacket) → (here : IsCopyHere again stream first datagrams bytes r) → r.ssrc ≡ Some ssrc → brought_at k ssrc bytes ≡ Some m → Brings k here.packet m
  copy_brings bytes r ssrc m here ssrc_is is =
      let same : ssrc ≡ stream.ssrc = some_same ssrc stream.ssrc (sym ssrc_is ∙ here.ssrc_is) in
      by here.copy (subst (λ (n : ℕ). brought_at k n bytes ≡ Some m) same is)
    where
      by : (bytes ≡ here.datagram) ⊎ Repeats again here.next here.datagram bytes → brought_at k stream.ssrc bytes ≡ Some m → Brings k here.packet m
      by (inl same) got = original_brings here.index here.packet here.datagram m here.there here.reads (subst (λ (x : List ℕ). brought_at k stream.ssrc x ≡ Some m) same got)
      by (inr repeats) got = repeated_brings again here.next here.index here.packet here.datagram bytes m apart here.there here.reads repeats got

  -- what the packet says of its picture
  edge_is : (q : Packet) (m : MediaPacket) → Brings k q m → edge_of k m ≡ edge_by k.codec q.marker q.payload
  edge_is q m b =
      ap (λ (o : Option (List ℕ)). edge_with o k.codec m.marker m.bytes) b.undescribed ∙ ap₂ (λ (marker : Bool) (bytes : List ℕ). edge_by k.codec marker bytes) b.marker b.bytes

  at_some : (e edge : Edge) → at_edge (Some edge) ≡ Some e → edge ≡ e
  at_some e edge is = by (edge.begins || edge.ends) is
    where
      by : (b : Bool) → cond b (Some edge) None ≡ Some e → edge ≡ e
      by true got = cc
      by false got = absurd (cc)

  -- the packets of the pictures of a packetizer with ids
  pub in_order_shows : (nothing : FindsNothing) (own_edge : Bool → List ℕ → Option Edge) (id : ℕ) (pictures : List (List (List ℕ))) (is : IsInOrder own_edge first id pictures) → ArePartsOf pictures datagrams
      → ((marker : Bool) (bytes : List ℕ) → edge_by k.codec marker bytes ≡ own_edge marker bytes) → (bytes : List ℕ) (r : Receiver) → IsCopyHere again stream first datagrams bytes r
      → IsShown nothing (own_sender first id pictures) is.in_order is.media_alone k bytes r
  in_order_shows nothing own_edge id pictures is parts same bytes r here ssrc m e ssrc_is brings edge =
      let q : Packet = here.packet in
      let b : Brings k q m = copy_brings bytes r ssrc m here ssrc_is brings in
      let part : IsPartOf pictures here.index here.datagram = parts here.index here.datagram here.there in
      let packet : part.packet ≡ packet_at stream q = ok_is part.packet (packet_at stream q) (sym part.reads ∙ here.reads) in
      let payload : q.payload ≡ payload_at pictures part.picture part.place = sym (ap (λ (p : rtp.Packet). p.payload) packet) ∙ part.payload in
      let marker : q.marker ≡ eqb (suc part.place) (length (get_or pictures part.picture [])) = sym (ap (λ (p : rtp.Packet). p.header.marker) packet) ∙ part.marker in
      let of = is.packets part.picture part.place part.within in
      let own : edge_of k m ≡ Some of.0 = edge_is q m b ∙ (same q.marker q.payload ∙ (ap₂ own_edge marker payload ∙ of.1)) in
      let edge_same : of.0 ≡ e = at_some e of.0 (ap at_edge (sym own) ∙ edge) in
      let number : first + (start_of (sizes_of pictures) part.picture + part.place) ≡ number_in r m.number =
      ap (λ (n : ℕ). first + n) (sym part.at) ∙ (sym here.number ∙ (sym here.nearest ∙ ap (λ (n : ℕ). extended 65536 r.packets.numbering.greatest n) (sym b.number))) in
      subst₂ (λ (n : ℕ) (x : Edge). IsOf (own_sender first id pictures) (record { number = n; edge = x })) number edge_same of.2

  -- packets that say nothing of their pictures
  pub nothing_shows : (nothing : FindsNothing) (s : Sender) (order : SendsInOrder s) (alone : HasMediaAlone s)
      → ((bytes : List ℕ) (r : Receiver) (here : IsCopyHere again stream first datagrams bytes r) → edge_by k.codec here.packet.marker here.packet.payload ≡ None)
      → (bytes : List ℕ) (r : Receiver) → IsCopyHere again stream first datagrams bytes r → IsShown nothing s order alone k bytes r
  nothing_shows nothing s order alone none bytes r here ssrc m e ssrc_is brings edge =
      let b : Brings k here.packet m = copy_brings bytes r ssrc m here ssrc_is brings in
      let silent : edge_of k m ≡ None = edge_is here.packet m b ∙ none bytes r here in
      let no : None ≡ Some e = ap at_edge (sym silent) ∙ edge in
      absurd (cc)

-- ---- a sender that the edges can follow

pub record IsFollowed (nothing : FindsNothing) (k : EdgeRules) (again : Option RetransmissionStream) (stream : Outgoing) (first : ℕ) (datagrams : List (List ℕ)) : Type 0 where
  pub sender : Sender
  pub order : SendsInOrder sender
  pub alone : HasMediaAlone sender
  pub shows : (bytes : List ℕ) (r : Receiver) → IsCopyHere again stream first datagrams bytes r → IsShown nothing sender order alone k bytes r

-- a sender without pictures
abbrev pub no_sender : Sender
no_sender = record { picture_of = λ n. None; id_of = λ i. i; step = 1 }

pub none_in_order : SendsInOrder no_sender
none_in_order = record {
  in_order = λ m n i k up a b. absurd (cc);
  each_sent = λ m n i j k a b up down. absurd (cc);
  ids_rise = λ i. omega arith;
  ids_near = λ i. omega arith;
}

pub none_alone : HasMediaAlone no_sender
none_alone m n k i j up down a b = absurd (cc)

-- ---- packetizers of VP8

some_after : (id : ℕ) (b : Bool) → (after : ℕ) × (advanced b (Some id) ≡ Some after)
some_after id true = ((id + 1) % 2 ^ 15, refl)
some_after id false = (id, refl)

vp8_answers : (id : ℕ) (answers : List Answer) → AreSteps (Vp8Packetizing (Some id)) answers → AreVp8Answers id answers
vp8_answers id [] steps = tt
vp8_answers id (answer ∷ answers) steps =
    let step = steps.3 in
    let after = some_after id (gives_packets answer) in
    let next : step.1 ≡ Some after.0 = step.2.1 ∙ after.1 in
    let state : steps.2 ≡ Vp8Packetizing (Some after.0) = step.3 ∙ ap (λ (o : Option ℕ). Vp8Packetizing o) next in (
      steps.0,
      steps.1,
      after.0,
      subst (λ (o : Option ℕ). Vp8Sends (Some id) steps.0 steps.1 answer o) next step.2,
      vp8_answers after.0 answers (subst (λ (p : PacketizerState). AreSteps p answers) state steps.4),
    )

-- the id of the first frame has 15 bits
vp8_small : (id : ℕ) (answer : Answer) (answers : List Answer) → AreSteps (Vp8Packetizing (Some id)) (answer ∷ answers) → id < 2 ^ 15
vp8_small id answer answers steps = steps.3.0

-- payloads without ids
abbrev ArePlain : List (List ℕ) → Type 0
ArePlain [] = Unit {0}
ArePlain (payload ∷ payloads) = ((marker : Bool) → vp8_edge marker payload ≡ None) × ArePlain payloads

abbrev AllPlain : List (List (List ℕ)) → Type 0
AllPlain [] = Unit {0}
AllPlain (payloads ∷ pictures) = ArePlain payloads × AllPlain pictures

piece_plain : (first last : Bool) (piece : List ℕ) (marker : Bool) → vp8_edge marker (vp8_header None first last ++ piece) ≡ None
piece_plain true last piece marker = refl
piece_plain false last piece marker = refl

described_plain : (first : Bool) (pieces : List (List ℕ)) → ArePlain (described (vp8_header None) first pieces)
described_plain first [] = tt
described_plain first (piece ∷ []) = (piece_plain first true piece, tt)
described_plain first (piece ∷ next ∷ pieces) = (piece_plain first false piece, described_plain false (next ∷ pieces))

answer_plain : (size mtu : ℕ) (frame : List ℕ) (payloads : List (List ℕ)) → AnswersDescribed (vp8_header None) size mtu frame (Ok payloads) → ArePlain payloads
answer_plain size mtu frame payloads answers = by (cases_lt size mtu)
  where
    by : (size < mtu) ⊎ (mtu ≤ size) → ArePlain payloads
    by (inl room) = let pieces = answers.1 room in subst ArePlain (sym pieces.2) (described_plain true pieces.0)
    by (inr full) = subst ArePlain (sym (answers.0 full)) tt

none_after : (b : Bool) → advanced b None ≡ None
none_after true = refl
none_after false = refl

steps_plain : (answers : List Answer) → AreSteps (Vp8Packetizing None) answers → AllPlain (pictures_of answers)
steps_plain [] steps = tt
steps_plain (answer ∷ answers) steps = by answer steps.3.2.0 (steps_plain answers (subst (λ (p : PacketizerState). AreSteps p answers) state steps.4))
  where
    state : steps.2 ≡ Vp8Packetizing None
    state = steps.3.3 ∙ ap (λ (o : Option ℕ). Vp8Packetizing o) (steps.3.2.1 ∙ none_after (gives_packets answer))

    by : (a : Answer) → AnswersDescribed (vp8_header None) 1 steps.0 steps.1 a → AllPlain (pictures_of answers) → AllPlain (pictures_of (a ∷ answers))
    by (Ok []) said later = later
    by (Ok (payload ∷ payloads)) said later = (answer_plain 1 steps.0 steps.1 (payload ∷ payloads) said, later)
    by (Err fault) said later = later

plain_at : (payloads : List (List ℕ)) (place : ℕ) → place < length payloads → ArePlain payloads → (marker : Bool) → vp8_edge marker (get_or payloads place []) ≡ None
plain_at [] place below plain marker = absurd (omega (arith, below))
plain_at (payload ∷ payloads) zero below plain marker = plain.0 marker
plain_at (payload ∷ payloads) (suc place) below plain marker = plain_at payloads place (omega (arith, below)) plain.1 marker

plain_payload : (pictures : List (List (List ℕ))) (picture place : ℕ) → place < length (get_or pictures picture []) → AllPlain pictures → (marker : Bool) → vp8_edge marker (payload_at pictures picture place) ≡ None
plain_payload [] picture place below all marker = absurd (omega (arith, below))
plain_payload (payloads ∷ pictures) zero place below all marker = plain_at payloads place below all.0 marker
plain_payload (payloads ∷ pictures) (suc picture) place below all marker = plain_payload pictures picture place below all.1 marker

vp9_answers : (s : _) (answers : List Answer) → AreSteps (Vp9Packetizing s) answers → AreVp9Answers s answers
vp9_answers s [] steps = tt
vp9_answers s (answer ∷ answers) steps =
    let step = steps.3 in
    (steps.0, steps.1, step.1, step.2, vp9_answers step.1 answers (subst (λ (p : PacketizerState). AreSteps p answers) step.3 steps.4))

vp9_small : (s : _) (answer : Answer) (answers : List Answer) → AreSteps (Vp9Packetizing s) (answer ∷ answers) → s.picture_id < 2 ^ 15
vp9_small s answer answers steps = steps.3.0

-- ---- senders of one stream

module _ (nothing : FindsNothing) (vp8 : Vp8SendsInOrder) (vp9 : Vp9SendsInOrder) (k : EdgeRules) (again : Option RetransmissionStream) (sender : Sending) (first : ℕ) (samples : List Sample) (entries : List SentSample)
    (datagrams : List (List ℕ)) (type_is : k.payload_type ≡ sender.stream.payload_type) (no_again : k.red_again ≡ None) (apart : AreApartFrom sender.stream.ssrc again) (plain : AreUndescribed k.descriptor datagrams)
    (built : is_built_in sender.packetizer ≡ true) (sends : SendsAll samples sender entries datagrams) where
  abbrev Followed : Type 0
  Followed = IsFollowed nothing k again sender.stream first datagrams

  silent : ((bytes : List ℕ) (r : Receiver) (here : IsCopyHere again sender.stream first datagrams bytes r) → edge_by k.codec here.packet.marker here.packet.payload ≡ None) → Followed
  silent none = record {
    sender = no_sender;
    order = none_in_order;
    alone = none_alone;
    shows = nothing_shows k again sender.stream first datagrams type_is no_again apart plain nothing no_sender none_in_order none_alone none;
  }

  -- without any sample there is no copy
  no_copy : ArePartsOf [] datagrams → Followed
  no_copy parts = silent (λ bytes r here. let part = parts here.index here.datagram here.there in absurd (omega (arith, part.within)))

  vp8_followed : (id : Option ℕ) (answers : List Answer) → AreSteps (Vp8Packetizing id) answers → ArePartsOf (pictures_of answers) datagrams → k.codec ≡ codecs.Vp8 → Followed
  vp8_followed id [] steps parts codec = no_copy parts
  vp8_followed (Some id) (answer ∷ answers) steps parts codec =
      let is : IsInOrder vp8_edge first id (pictures_of (answer ∷ answers)) = vp8 first id (answer ∷ answers) (vp8_small id answer answers steps) (vp8_answers id (answer ∷ answers) steps) in
      record {
        sender = own_sender first id (pictures_of (answer ∷ answers));
        order = is.in_order;
        alone = is.media_alone;
        shows = in_order_shows k again sender.stream first datagrams type_is no_again apart plain nothing vp8_edge id (pictures_of (answer ∷ answers)) is parts
            (λ marker bytes. ap (λ (c : Codec). edge_by c marker bytes) codec);
      }
  vp8_followed None (answer ∷ answers) steps parts codec = silent (λ bytes r here.
      let part : IsPartOf (pictures_of (answer ∷ answers)) here.index here.datagram = parts here.index here.datagram here.there in
      let packet : part.packet ≡ packet_at sender.stream here.packet = ok_is part.packet (packet_at sender.stream here.packet) (sym part.reads ∙ here.reads) in
      let payload : here.packet.payload ≡ payload_at (pictures_of (answer ∷ answers)) part.picture part.place = sym (ap (λ (p : rtp.Packet). p.payload) packet) ∙ part.payload in
      ap (λ (c : Codec). edge_by c here.packet.marker here.packet.payload) codec
      ∙ (ap (vp8_edge here.packet.marker) payload ∙ plain_payload (pictures_of (answer ∷ answers)) part.picture part.place part.within (steps_plain (answer ∷ answers) steps) here.packet.marker))

  vp9_followed : (s : _) (answers : List Answer) → AreSteps (Vp9Packetizing s) answers → ArePartsOf (pictures_of answers) datagrams → k.codec ≡ codecs.Vp9 → Followed
  vp9_followed s [] steps parts codec = no_copy parts
  vp9_followed s (answer ∷ answers) steps parts codec =
      let is : IsInOrder vp9_edge first s.picture_id (pictures_of (answer ∷ answers)) = vp9 first s (answer ∷ answers) (vp9_small s answer answers steps) (vp9_answers s (answer ∷ answers) steps) in
      record {
        sender = own_sender first s.picture_id (pictures_of (answer ∷ answers));
        order = is.in_order;
        alone = is.media_alone;
        shows = in_order_shows k again sender.stream first datagrams type_is no_again apart plain nothing vp9_edge s.picture_id (pictures_of (answer ∷ answers)) is parts
            (λ marker bytes. ap (λ (c : Codec). edge_by c marker bytes) codec);
      }

  by_vp8 : (p : PacketizerState) → sender.packetizer ≡ p → payloads_by p ≡ Vp8Payloads → k.codec ≡ codecs.Vp8 → Followed
  by_vp8 (Vp8Packetizing id) is kind codec =
      let placing = sends_placing Vp8Payloads samples sender entries datagrams (refl, refl) (ap payloads_by is) built sends in
      vp8_followed id placing.answers (subst (λ (p : PacketizerState). AreSteps p placing.answers) is placing.steps) placing.parts codec
  by_vp8 (Vp9Packetizing s) is kind codec = absurd (cc)
  by_vp8 G711Packetizing is kind codec = absurd (cc)
  by_vp8 G722Packetizing is kind codec = absurd (cc)
  by_vp8 OpusPacketizing is kind codec = absurd (cc)
  by_vp8 ComfortNoisePacketizing is kind codec = absurd (cc)
  by_vp8 TelePacketizing is kind codec = absurd (cc)
  by_vp8 Av1Packetizing is kind codec = absurd (cc)
  by_vp8 (AmrWbPacketizing octet) is kind codec = absurd (cc)
  by_vp8 NullPacketizing is kind codec = absurd (cc)
  by_vp8 BoxedPacketizing is kind codec = absurd (cc)

  by_vp9 : (p : PacketizerState) → sender.packetizer ≡ p → payloads_by p ≡ Vp9Payloads → k.codec ≡ codecs.Vp9 → Followed
  by_vp9 (Vp9Packetizing s) is kind codec =
      let placing = sends_placing Vp9Payloads samples sender entries datagrams (refl, refl) (ap payloads_by is) built sends in
      vp9_followed s placing.answers (subst (λ (p : PacketizerState). AreSteps p placing.answers) is placing.steps) placing.parts codec
  by_vp9 (Vp8Packetizing id) is kind codec = absurd (cc)
  by_vp9 G711Packetizing is kind codec = absurd (cc)
  by_vp9 G722Packetizing is kind codec = absurd (cc)
  by_vp9 OpusPacketizing is kind codec = absurd (cc)
  by_vp9 ComfortNoisePacketizing is kind codec = absurd (cc)
  by_vp9 TelePacketizing is kind codec = absurd (cc)
  by_vp9 Av1Packetizing is kind codec = absurd (cc)
  by_vp9 (AmrWbPacketizing octet) is kind codec = absurd (cc)
  by_vp9 NullPacketizing is kind codec = absurd (cc)
  by_vp9 BoxedPacketizing is kind codec = absurd (cc)

  silent_codec : (c : Codec) → k.codec ≡ c → ((marker : Bool) (bytes : List ℕ) → edge_by c marker bytes ≡ None) → Followed
  silent_codec c codec none = silent (λ bytes r here. ap (λ (x : Codec). edge_by x here.packet.marker here.packet.payload) codec ∙ none here.packet.marker here.packet.payload)

  -- by the codec, whose payloads the packetizer makes
  pub is_followed : (octet : Bool) (rate : ℕ) (c : Codec) → k.codec ≡ c
      → ((d : DepacketizerState) → depacketizer_state_for c ≡ Some d → kind_of_depacketizer (configured_depacketizer octet rate d) ≡ payloads_by sender.packetizer) → Followed
  is_followed octet rate codecs.Vp8 codec alike = by_vp8 sender.packetizer refl (sym (alike _ refl)) codec
  is_followed octet rate codecs.Vp9 codec alike = by_vp9 sender.packetizer refl (sym (alike _ refl)) codec
  is_followed octet rate codecs.Opus codec alike = silent_codec codecs.Opus codec (λ marker bytes. refl)
  is_followed octet rate codecs.PCMU codec alike = silent_codec codecs.PCMU codec (λ marker bytes. refl)
  is_followed octet rate codecs.PCMA codec alike = silent_codec codecs.PCMA codec (λ marker bytes. refl)
  is_followed octet rate codecs.G722 codec alike = silent_codec codecs.G722 codec (λ marker bytes. refl)
  is_followed octet rate codecs.CN codec alike = silent_codec codecs.CN codec (λ marker bytes. refl)
  is_followed octet rate codecs.AmrWb codec alike = silent_codec codecs.AmrWb codec (λ marker bytes. refl)
  is_followed octet rate codecs.H264 codec alike = silent_codec codecs.H264 codec (λ marker bytes. refl)
  is_followed octet rate codecs.H265 codec alike = silent_codec codecs.H265 codec (λ marker bytes. refl)
  is_followed octet rate codecs.H266 codec alike = silent_codec codecs.H266 codec (λ marker bytes. refl)
  is_followed octet rate codecs.Av1 codec alike = silent_codec codecs.Av1 codec (λ marker bytes. refl)
  is_followed octet rate codecs.Null codec alike = silent_codec codecs.Null codec (λ marker bytes. refl)
  is_followed octet rate codecs.Tele codec alike = silent_codec codecs.Tele codec (λ marker bytes. refl)
  is_followed octet rate codecs.Rtx codec alike = silent_codec codecs.Rtx codec (λ marker bytes. refl)
  is_followed octet rate codecs.Red codec alike = silent_codec codecs.Red codec (λ marker bytes. refl)
  is_followed octet rate codecs.Unknown codec alike = silent_codec codecs.Unknown codec (λ marker bytes. refl)
