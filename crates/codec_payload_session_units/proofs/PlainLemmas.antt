-- Which packets have no dependency descriptor: those in RED, if the packets that were written have none, and those of senders without
-- header extensions.
use Rattle.std.proofs.Common.{◌≡◌, ◌∙◌, ◌⊎◌, inl, inr, refl, sym, ap, subst, ℕ, zero, suc, ◌-◌, ◌<◌, ◌≤◌, eqb, List, [], ◌∷◌, ◌++◌, Bool, true, false, Option, Some, None, Ok, length, slice_get, arith}
use Rattle.std.specs.Prelude.{slice_index_or}
use Rattle.std.proofs.lemmas.Bool.{cases_lt}
use Rattle.std.proofs.lemmas.Option.{slice_get_within}
use Rattle.codec_payload_base.specs.declared.error.PacketError.{PacketError}
use Rattle.codec_payload_base.specs.declared.wire.extension.ExtensionValues.{ExtensionValues}
use Rattle.codec_payload_base.specs.StrippedValues.{stripped}
use Rattle.codec_payload_codec.specs.Packetizers.{PacketizerState}
use Rattle.codec_payload_datagram_runs.specs.RedRuns.{WritesAll}
use Rattle.codec_payload_datagram_runs.specs.WireRuns.{SendsOrRefuses, sent_sample}
use Rattle.codec_payload_datagram_runs.specs.declared.run.SentSample.{SentSample}
use Rattle.codec_payload_payloader.specs.Sending.{Sample}
use Rattle.codec_payload_rtp.proofs.RtpFields.{ok_is}
use Rattle.codec_payload_rtp.specs.Elements.{Element}
use Rattle.codec_payload_rtp.specs.ExtensionFormats.{bytes_for, elements_of}
use Rattle.codec_payload_rtp.specs.ExtensionWriting.{elements_for, extension_for}
use Rattle.codec_payload_rtp.specs.RtpPackets.{Extension, Packet}
use Rattle.codec_payload_rtp.specs.RtpReading.{rtp_at}
use Rattle.codec_payload_rtp.specs.declared.values.ExtensionIds.{ExtensionIds}
use Rattle.codec_payload_sending.specs.Datagrams.{Sample as SentNow, AreSent, IsSentAt, header_at}
use Rattle.codec_payload_sending.specs.Senders.{Sending}
use Rattle.codec_payload_sending.specs.declared.sender.Outgoing.{Outgoing}
use Rattle.codec_payload_sending_red.specs.Writers.{Writer, Writes, WritesPacket}
use Rattle.codec_payload_session_units.specs.OneSender.{AreUndescribed, SendsAll}
use Rattle.codec_payload_session_units.proofs.PlaceLemmas.{get_behind, get_front, index_is}

-- ---- RED

-- the packet that is written keeps its header extension
written_extension : (b : Bool) (w : Writer) (packet : Packet) (datagram out : List ℕ) (t : Writer) (p : Packet) → rtp_at datagram ≡ Ok packet → WritesPacket b w packet datagram out t → rtp_at out ≡ Ok p
    → p.header.extension ≡ packet.header.extension
written_extension true w packet datagram out t p read written reads = ap (λ (x : Packet). x.header.extension) (ok_is p _ (sym reads ∙ written.reads))
written_extension false w packet datagram out t p read written reads =
    let same : rtp_at out ≡ Ok packet = ap rtp_at written.0 ∙ read in
    ap (λ (x : Packet). x.header.extension) (ok_is p packet (sym reads ∙ same))

-- the first datagram that is written, and those behind it
behind_plain : (descriptor : Option ℕ) (w : Writer) (datagram out : List ℕ) (more : List (List ℕ)) (t : Writer) (n : ℕ) (d : List ℕ) (p : Packet) → Writes w datagram out t
    → ((q : Packet) → rtp_at datagram ≡ Ok q → bytes_for descriptor (elements_of q.header.extension) ≡ None) → AreUndescribed descriptor more → slice_get (out ∷ more) n ≡ Some d → rtp_at d ≡ Ok p
    → bytes_for descriptor (elements_of p.header.extension) ≡ None
behind_plain descriptor w datagram out more t zero d p one plain later there reads =
    let same : out ≡ d = cc in
    let kept : p.header.extension ≡ one.packet.header.extension =
    written_extension (eqb one.packet.header.payload_type w.media_type) w one.packet datagram out t p one.read one.written (ap rtp_at same ∙ reads) in
    ap (λ (x : Option Extension). bytes_for descriptor (elements_of x)) kept ∙ plain one.packet one.read
behind_plain descriptor w datagram out more t (suc n) d p one plain later there reads = later n d p there reads

pub written_plain : (descriptor : Option ℕ) (w : Writer) (datagrams written : List (List ℕ)) (t : Writer) → WritesAll w datagrams written t → AreUndescribed descriptor datagrams → AreUndescribed descriptor written
written_plain descriptor w [] written t writes plain index d p there reads =
    let no : slice_get [] index ≡ Some d = subst (λ (x : List (List ℕ)). slice_get x index ≡ Some d) writes.0 there in absurd (cc)
written_plain descriptor w (datagram ∷ datagrams) written t writes plain index d p there reads =
    behind_plain descriptor w datagram writes.0 writes.1 writes.2 index d p writes.4 (λ q is. plain 0 datagram q refl is)
    (written_plain descriptor writes.2 datagrams writes.1 t writes.5 (λ i e q at is. plain (suc i) e q at is))
    (subst (λ (x : List (List ℕ)). slice_get x index ≡ Some d) writes.3 there) reads

-- ---- senders without header extensions

-- no element is written with these ids
abbrev pub WriteNone : ExtensionIds → Type 0
WriteNone ids = (values : ExtensionValues) → elements_for ids values ≡ []

nothing_for : (descriptor : Option ℕ) → bytes_for descriptor (elements_of None) ≡ None
nothing_for None = refl
nothing_for (Some id) = refl

front_plain : (descriptor : Option ℕ) (stream : Outgoing) (packetizer : PacketizerState) (sample : SentNow) (payloads ds : List (List ℕ)) → WriteNone stream.ids → AreSent stream packetizer sample payloads ds → AreUndescribed descriptor ds
front_plain descriptor stream packetizer sample payloads ds none sent index d p there reads = by (cases_lt index (length payloads))
  where
    by : (index < length payloads) ⊎ (length payloads ≤ index) → bytes_for descriptor (elements_of p.header.extension) ≡ None
    by (inl below) =
        let at : IsSentAt stream packetizer sample (length payloads) index (slice_index_or payloads index []) d =
        subst (λ (x : List ℕ). IsSentAt stream packetizer sample (length payloads) index (slice_index_or payloads index []) x) (index_is ds index d there) (sent.1 index below) in
        let packet : Packet = record { header = header_at stream sample index (length payloads) at.marker; payload = slice_index_or payloads index []; padding = 0 } in
        ap (λ (x : Packet). bytes_for descriptor (elements_of x.header.extension)) (ok_is p packet (sym reads ∙ at.reads))
        ∙ (ap (λ (es : List Element). bytes_for descriptor (elements_of (extension_for es))) (none (stripped sample.ext_vals index (length payloads))) ∙ nothing_for descriptor)
    by (inr above) = absurd (omega (arith, above, sent.0, slice_get_within ds index d there))

both_plain : (descriptor : Option ℕ) (ds more : List (List ℕ)) → AreUndescribed descriptor ds → AreUndescribed descriptor more → AreUndescribed descriptor (ds ++ more)
both_plain descriptor ds more front behind index d p there reads = by (cases_lt index (length ds))
  where
    by : (index < length ds) ⊎ (length ds ≤ index) → bytes_for descriptor (elements_of p.header.extension) ≡ None
    by (inl below) = front index d p (get_front ds more index d below there) reads
    by (inr above) = behind (index - length ds) d p (get_behind ds more index d above there) reads

none_plain : (descriptor : Option ℕ) (ds : List (List ℕ)) → ds ≡ [] → AreUndescribed descriptor ds
none_plain descriptor ds none index d p there reads = let no : slice_get [] index ≡ Some d = subst (λ (x : List (List ℕ)). slice_get x index ≡ Some d) none there in absurd (cc)

one_plain : (descriptor : Option ℕ) (sample : Sample) (s t : Sending) (fault : Option PacketError) → WriteNone s.stream.ids → SendsOrRefuses (sent_sample sample) s fault t
    → AreUndescribed descriptor t.datagrams × (t.stream.ids ≡ s.stream.ids)
one_plain descriptor sample s t None none got =
    (front_plain descriptor s.stream t.packetizer (sent_sample sample) got.payloads t.datagrams none got.sent, ap (λ (x : Sending). x.stream.ids) got.left)
one_plain descriptor sample s t (Some fault) none got = (none_plain descriptor t.datagrams (ap (λ (x : Sending). x.datagrams) got.1.left), ap (λ (x : Sending). x.stream.ids) got.1.left)

pub sends_plain : (descriptor : Option ℕ) (samples : List Sample) (s : Sending) (entries : List SentSample) (ds : List (List ℕ)) → WriteNone s.stream.ids → SendsAll samples s entries ds → AreUndescribed descriptor ds
sends_plain descriptor [] s [] ds none sends = none_plain descriptor ds sends
sends_plain descriptor [] s (entry ∷ entries) ds none sends = absurd sends
sends_plain descriptor (sample ∷ samples) s [] ds none sends = absurd sends
sends_plain descriptor (sample ∷ samples) s (entry ∷ entries) ds none sends =
    let one = one_plain descriptor sample s sends.0 entry.fault none sends.2 in
    subst (AreUndescribed descriptor) (sym sends.4)
    (both_plain descriptor sends.0.datagrams sends.1 one.0 (sends_plain descriptor samples sends.0 entries sends.1 (subst WriteNone (sym one.1) none) sends.5))
