-- The sender of the frames that a forwarder does not leave out: it sends them with consecutive numbers.
use Rattle.std.proofs.Common.{◌≡◌, ◌∙◌, refl, sym, ap, subst, ℕ, zero, suc, ◌+◌, ◌%◌, ◌^◌, ◌<◌, List, [], ◌∷◌, ◌++◌, append-nil, Bool, true, false, Option, Some, None, Result, Ok, length, arith, length-append}
use Rattle.std.specs.Prelude.{slice_index_or}
use Rattle.codec_payload_base.specs.declared.error.PacketError.{PacketError}
use Rattle.codec_payload_base.specs.declared.wire.Codec.TheVariants as codecs
use Rattle.codec_payload_codec.specs.Packetizers.{AmrWbPacketizing, Av1Packetizing, BoxedPacketizing, ComfortNoisePacketizing, G711Packetizing, G722Packetizing, NullPacketizing, OpusPacketizing, PacketizerState, PacketizerStep, TelePacketizing, Vp8Packetizing, Vp9Packetizing, is_built_in}
use Rattle.codec_payload_payloader.specs.Sending.{Sample, rtp_time_at}
use Rattle.codec_payload_receiver.specs.Defaults.{no_ids}
use Rattle.codec_payload_rtp.proofs.RtpWriting.{packet_again}
use Rattle.codec_payload_rtp.specs.RtpPackets.{FitsHeader, Packet}
use Rattle.codec_payload_rtp.specs.RtpReading.{rtp_at}
use Rattle.codec_payload_rtp.specs.declared.rtp.RtpError.{RtpError}
use Rattle.codec_payload_sending.specs.Datagrams.{AreSent, IsMarker, IsSentAt, header_at, time_of}
use Rattle.codec_payload_sending.specs.Senders.{Refuses, Sending, Sends, counted}
use Rattle.codec_payload_sending.specs.declared.sender.Outgoing.{Outgoing}
use Rattle.codec_payload_sending_forward.specs.Forwarding.{Forward, payload_for}
use Rattle.codec_payload_sending_forward.specs.Numbers.{is_in}
use Rattle.codec_payload_sending_forward.specs.Times.{time_as}
use Rattle.codec_payload_sending_forward.specs.declared.ids.IdOffsets.{IdOffsets}
use Rattle.codec_payload_datagram_runs.specs.WireRuns.{SendsIt, SendsOrRefuses, sent_sample}
use Rattle.codec_payload_datagram_runs.specs.declared.run.SentSample.{SentSample}
use Rattle.codec_payload_forward_runs.proofs.KeptPayloads.{is_plain_vp8, still_kept}
use Rattle.codec_payload_forward_runs.proofs.LeaveLists.{closed_all, closed_append, closed_few, closed_none, numbered}
use Rattle.codec_payload_forward_runs.proofs.SenderLemmas.{viewer_time}
use Rattle.codec_payload_forward_runs.specs.ForwardReleases.{viewer_sample}
use Rattle.codec_payload_forward_runs.specs.ForwardRuns.{packet_read}
use Rattle.codec_payload_forward_runs.specs.LeaveReleases.{Offsets, closed, closed_bytes, closed_datagram, closed_packet, ids_at, sends_no_ids}

-- A packetizer without ids stays

pub stays : (packetizer after : PacketizerState) (mtu : ℕ) (frame : List ℕ) (answer : Result (List (List ℕ)) PacketError) → sends_no_ids packetizer ≡ true → PacketizerStep packetizer mtu frame answer after
    → after ≡ packetizer
stays G711Packetizing after mtu frame answer none step = step.1
stays G722Packetizing after mtu frame answer none step = step.1
stays OpusPacketizing after mtu frame answer none step = step.1
stays NullPacketizing after mtu frame answer none step = step.1
stays (Vp8Packetizing None) after mtu frame answer none step =
    is_plain_vp8 after (still_kept codecs.Vp8 (Vp8Packetizing None) after mtu frame answer refl (λ built. step))
stays (Vp8Packetizing (Some id)) after mtu frame answer none step = absurd (cc)
stays (Vp9Packetizing sender) after mtu frame answer none step = absurd (cc)
stays ComfortNoisePacketizing after mtu frame answer none step = step.1
stays TelePacketizing after mtu frame answer none step = step.1
stays Av1Packetizing after mtu frame answer none step = step.1
stays (AmrWbPacketizing octet) after mtu frame answer none step = step.1
stays BoxedPacketizing after mtu frame answer none step = step

-- a sample leaves the bytes of a payload
pub mtu_stays : (sample : Sample) (s t : Sending) (fault : Option PacketError) → SendsOrRefuses (sent_sample sample) s fault t → t.mtu ≡ s.mtu
mtu_stays sample s t None sends = ap (λ (x : Sending). x.mtu) sends.left
mtu_stays sample s t (Some fault) refuses = ap (λ (x : Sending). x.mtu) refuses.1.left

-- the packetizer of the run stays, if it has no ids
pub own_stays : (packetizer : PacketizerState) → is_built_in packetizer ≡ true → sends_no_ids packetizer ≡ true → (sample : Sample) (s t : Sending) (fault : Option PacketError) → s.packetizer ≡ packetizer
    → SendsOrRefuses (sent_sample sample) s fault t → t.packetizer ≡ packetizer
own_stays packetizer built none sample s t None own sends =
    stays s.packetizer t.packetizer s.mtu sample.bytes (Ok sends.payloads) (ap sends_no_ids own ∙ none) (sends.packetized (ap is_built_in own ∙ built)) ∙ own
own_stays packetizer built none sample s t (Some fault) own refuses =
    let step = refuses.1.packetized (ap is_built_in own ∙ built) in
    stays s.packetizer t.packetizer s.mtu sample.bytes step.0 (ap sends_no_ids own ∙ none) step.1 ∙ own

module _ (e : Forward) (fits_type : e.settings.payload_type < 128) (fits_ssrc : e.settings.ssrc < 2 ^ 32) (rate : ℕ) (some : 0 < rate) (o : Offsets) where
  -- the viewer's stream, with this number of the next packet
  abbrev pub stream_at : ℕ → Outgoing
  stream_at number = record { ssrc = e.settings.ssrc; payload_type = e.settings.payload_type; clock_rate = rate; ids = no_ids; number = number }

  fits : (ids : IdOffsets) (n : ℕ) (p : Packet) → FitsHeader (closed_packet e ids n p).header
  fits ids n p = record {
    payload_type = fits_type;
    sequence_number = omega arith;
    timestamp = omega arith;
    ssrc = omega (arith, fits_ssrc);
    csrcs = record { whole = refl; few = omega arith };
    extension = tt;
  }

  reads : (ids : IdOffsets) (n : ℕ) (d : List ℕ) (p : Packet) → rtp_at d ≡ Ok p → p.padding < 256 → rtp_at (closed_datagram e ids n d) ≡ Ok (closed_packet e ids n p)
  reads ids n d p is few = ap (λ (r : Result Packet RtpError). rtp_at (closed_bytes e ids n (packet_read r))) is ∙ packet_again (closed_packet e ids n p) (fits ids n p) few

  abbrev packet_with : Bool → List ℕ → ℕ → ℕ → Packet
  packet_with marker payload number time = record {
    header = record { marker = marker; payload_type = e.settings.payload_type; sequence_number = number; timestamp = time; ssrc = e.settings.ssrc; csrcs = []; extension = None };
    payload = payload;
    padding = 0;
  }

  -- payloads as the viewer gets them
  abbrev pub moves : ℕ → List (List ℕ) → List (List ℕ)
  moves k [] = []
  moves k (x ∷ xs) = payload_for e.settings.codec (ids_at o k) x ∷ moves (k + 1) xs

  moves_length : (xs : List (List ℕ)) (k : ℕ) → length (moves k xs) ≡ length xs
  moves_length [] k = refl
  moves_length (x ∷ xs) k = ap suc (moves_length xs (k + 1))

  moves_at : (xs : List (List ℕ)) (k i : ℕ) → i < length xs → slice_index_or (moves k xs) i [] ≡ payload_for e.settings.codec (ids_at o (k + i)) (slice_index_or xs i [])
  moves_at [] k i l = absurd (omega (arith, l))
  moves_at (x ∷ xs) k zero l = ap (λ (n : ℕ). payload_for e.settings.codec (ids_at o n) x) (omega arith)
  moves_at (x ∷ xs) k (suc i) l = moves_at xs (k + 1) i (omega (arith, l)) ∙ ap (λ (n : ℕ). payload_for e.settings.codec (ids_at o n) (slice_index_or xs i [])) (omega arith)

  moves_none : (xs : List (List ℕ)) (k : ℕ) → ((i : ℕ) → i < length xs → (x : IdOffsets) → payload_for e.settings.codec x (slice_index_or xs i []) ≡ slice_index_or xs i []) → moves k xs ≡ xs
  moves_none [] k kept = refl
  moves_none (x ∷ xs) k kept =
      ap (λ (y : List ℕ). y ∷ moves (k + 1) xs) (kept 0 (omega arith) (ids_at o k)) ∙ ap (λ (ys : List (List ℕ)). x ∷ ys) (moves_none xs (k + 1) (λ i l. kept (suc i) (omega (arith, l))))

  -- a list of numbered datagrams
  numbered_length : (gone : List ℕ) (ds : List (List ℕ)) (k number : ℕ) → length (numbered e o gone k number ds) ≡ length ds
  numbered_length gone [] k number = refl
  numbered_length gone (d ∷ ds) k number = ap suc (numbered_length gone ds (k + 1) (number + 1))

  numbered_at : (gone : List ℕ) (ds : List (List ℕ)) (k number i : ℕ) → i < length ds
      → slice_index_or (numbered e o gone k number ds) i [] ≡ closed_datagram e (ids_at o (k + i)) (number + i) (slice_index_or ds i [])
  numbered_at gone [] k number i l = absurd (omega (arith, l))
  numbered_at gone (d ∷ ds) k number zero l = ap (λ (n : ℕ). closed_datagram e (ids_at o n) number d) (omega arith) ∙ ap (λ (n : ℕ). closed_datagram e (ids_at o (k + 0)) n d) (omega arith)
  numbered_at gone (d ∷ ds) k number (suc i) l =
      numbered_at gone ds (k + 1) (number + 1) i (omega (arith, l))
      ∙ (ap (λ (n : ℕ). closed_datagram e (ids_at o n) (number + 1 + i) (slice_index_or ds i [])) (omega arith)
      ∙ ap (λ (n : ℕ). closed_datagram e (ids_at o (k + suc i)) n (slice_index_or ds i [])) (omega arith))

  -- a datagram of a sample
  module _ (stream : Outgoing) (clock : stream.clock_rate ≡ rate) (sample : Sample) where
    abbrev moved : Sample
    moved = viewer_sample e rate sample

    time_moves : time_as e.times (time_of stream (sent_sample sample)) ≡ time_of (stream_at 0) (sent_sample moved)
    time_moves = ap (λ (r : ℕ). time_as e.times (rtp_time_at r sample.rtp_time)) clock ∙ sym (viewer_time rate (time_as e.times (rtp_time_at rate sample.rtp_time)) some (omega arith))

    packet_moves : (ids : IdOffsets) (next n count place : ℕ) (marker : Bool) (payload : List ℕ) → next ≡ n % 65536
        → closed_packet e ids (n + place) (record { header = header_at stream (sent_sample sample) place count marker; payload = payload; padding = 0 })
        ≡ record { header = header_at (stream_at next) (sent_sample moved) place count marker; payload = payload_for e.settings.codec ids payload; padding = 0 }
    packet_moves ids next n count place marker payload is =
        let numbers : (n + place) % 65536 ≡ (next + place) % 2 ^ 16 = omega (arith, is) in
        ap (λ (k : ℕ). packet_with marker (payload_for e.settings.codec ids payload) k (time_as e.times (time_of stream (sent_sample sample)))) numbers
        ∙ ap (λ (k : ℕ). packet_with marker (payload_for e.settings.codec ids payload) ((next + place) % 2 ^ 16) k) time_moves

    pub sent_at : (ids : IdOffsets) (next n : ℕ) → next ≡ n % 65536 → (own packetizer : PacketizerState) → (is_built_in packetizer ≡ true → own ≡ packetizer)
        → (count place : ℕ) (payload datagram : List ℕ) → IsSentAt stream own (sent_sample sample) count place payload datagram
        → IsSentAt (stream_at next) packetizer (sent_sample moved) count place (payload_for e.settings.codec ids payload) (closed_datagram e ids (n + place) datagram)
    sent_at ids next n is own packetizer same count place payload datagram sent = record {
      marker = sent.marker;
      marked = λ built. subst (λ (p : PacketizerState). IsMarker p (sent_sample sample) place count sent.marker) (same built) sent.marked built;
      reads = reads ids (n + place) datagram _ sent.reads (omega arith) ∙ ap (λ (p : Packet). Ok p) (packet_moves ids next n count place sent.marker payload is);
    }

    pub are_sent : (gone : List ℕ) (k next n : ℕ) → next ≡ n % 65536 → (own packetizer : PacketizerState) → (is_built_in packetizer ≡ true → own ≡ packetizer)
        → (payloads datagrams : List (List ℕ)) → AreSent stream own (sent_sample sample) payloads datagrams
        → AreSent (stream_at next) packetizer (sent_sample moved) (moves k payloads) (numbered e o gone k n datagrams)
    are_sent gone k next n is own packetizer same payloads datagrams are = (
      numbered_length gone datagrams k n ∙ (are.0 ∙ sym (moves_length payloads k)),
      λ place l.
          let low : place < length payloads = omega (arith, l, moves_length payloads k) in
          let ids : IdOffsets = ids_at o (k + place) in
          subst (λ (c : ℕ). IsSentAt (stream_at next) packetizer (sent_sample moved) c place (slice_index_or (moves k payloads) place []) (slice_index_or (numbered e o gone k n datagrams) place [])) (sym (moves_length payloads k))
          (subst (λ (x : List ℕ). IsSentAt (stream_at next) packetizer (sent_sample moved) (length payloads) place x (slice_index_or (numbered e o gone k n datagrams) place [])) (sym (moves_at payloads k place low))
          (subst (IsSentAt (stream_at next) packetizer (sent_sample moved) (length payloads) place (payload_for e.settings.codec ids (slice_index_or payloads place [])))
          (sym (numbered_at gone datagrams k n place (omega (arith, low, are.0))))
          (sent_at ids next n is own packetizer same (length payloads) place (slice_index_or payloads place []) (slice_index_or datagrams place []) (are.1 place low)))),
    )

  -- datagrams that are sent: none of them is left out, or all are

  pub after_is : (gone : List ℕ) (before new after : List (List ℕ)) → after ≡ before ++ new → ((place : ℕ) → place < length new → is_in (length before + place) gone ≡ false)
      → closed e o gone 0 o.number after ≡ closed e o gone 0 o.number before ++ numbered e o gone (length before) (o.number + length (closed e o gone 0 o.number before)) new
  after_is gone before new after is out =
      let c : ℕ = length (closed e o gone 0 o.number before) in
      ap (closed e o gone 0 o.number) is
      ∙ (closed_append e o gone before new 0 o.number
      ∙ ap (λ (xs : List (List ℕ)). closed e o gone 0 o.number before ++ xs)
      (ap (λ (n : ℕ). closed e o gone n (o.number + c) new) (omega arith) ∙ closed_all e o gone new (length before) (o.number + c) out))

  -- a sample that was left out adds nothing
  pub left_beside : (gone : List ℕ) (before new after : List (List ℕ)) → after ≡ before ++ new → ((place : ℕ) → place < length new → is_in (length before + place) gone ≡ true)
      → closed e o gone 0 o.number after ≡ closed e o gone 0 o.number before
  left_beside gone before new after is out =
      let c : ℕ = length (closed e o gone 0 o.number before) in
      ap (closed e o gone 0 o.number) is
      ∙ (closed_append e o gone before new 0 o.number
      ∙ (ap (λ (xs : List (List ℕ)). closed e o gone 0 o.number before ++ xs) (ap (λ (n : ℕ). closed e o gone n (o.number + c) new) (omega arith) ∙ closed_none e o gone new (length before) (o.number + c) out)
      ∙ append-nil (closed e o gone 0 o.number before)))

  -- A sender of the kept frames, beside the sender of the run. Its packetizer has no ids, or nothing is known of it

  module _ (packetizer : PacketizerState) (none : is_built_in packetizer ≡ true → sends_no_ids packetizer ≡ true)
      (plain : is_built_in packetizer ≡ true → (mtu : ℕ) (frame : List ℕ) (payloads : List (List ℕ)) → PacketizerStep packetizer mtu frame (Ok payloads) packetizer
      → (i : ℕ) → i < length payloads → (x : IdOffsets) → payload_for e.settings.codec x (slice_index_or payloads i []) ≡ slice_index_or payloads i [])
      (gone : List ℕ) where
    abbrev shown : List (List ℕ) → List (List ℕ)
    shown = closed e o gone 0 o.number

    -- it has sent these datagrams
    pub record IsBeside (v s : Sending) (datagrams : List (List ℕ)) : Type 0 where
      pub packetizer_is : v.packetizer ≡ packetizer
      pub mtu : v.mtu ≡ s.mtu
      pub stream : v.stream ≡ stream_at v.stream.number
      pub next : v.stream.number ≡ (o.number + length (closed e o gone 0 o.number datagrams)) % 65536

    -- after a sample that was not left out
    pub record SendsBeside (sample : Sample) (v t : Sending) (before after : List (List ℕ)) (entry : SentSample) : Type 0 where
      pub left : Sending
      pub sends : SendsIt (viewer_sample e rate sample) v (closed e o gone 0 o.number before) entry left (closed e o gone 0 o.number after)
      pub beside : IsBeside left t after

    sent_beside : (sample : Sample) (v s t : Sending) (before after : List (List ℕ)) (entry : SentSample) → (is_built_in packetizer ≡ true → s.packetizer ≡ packetizer) → s.stream.clock_rate ≡ rate
        → IsBeside v s before → Sends s (sent_sample sample) t → entry.fault ≡ None → after ≡ before ++ t.datagrams → entry.count ≡ length t.datagrams → length after < 2 ^ 63
        → ((place : ℕ) → place < length t.datagrams → is_in (length before + place) gone ≡ false) → SendsBeside sample v t before after entry
    sent_beside sample v s t before after entry own clock beside sends no_fault gained count few out =
        let k : ℕ = length before in
        let c : ℕ = length (shown before) in
        let new : List (List ℕ) = numbered e o gone k (o.number + c) t.datagrams in
        let payloads : List (List ℕ) = moves k sends.payloads in
        let sample' : Sample = viewer_sample e rate sample in
        let left : Sending = record v {
          packetizer = packetizer;
          stream = record v.stream { number = (v.stream.number + length payloads) % 2 ^ 16 };
          counts = counted v.counts (time_of v.stream (sent_sample sample')) payloads;
          datagrams = new;
        } in
        let whole : shown after ≡ shown before ++ new = after_is gone before t.datagrams after gained out in
        let new_length : length new ≡ length t.datagrams = numbered_length gone t.datagrams k (o.number + c) in
        let length_is : length (shown after) ≡ c + length t.datagrams = ap length whole ∙ (length-append (shown before) new ∙ ap (λ (n : ℕ). c + n) new_length) in
        let moved_length : length payloads ≡ length sends.payloads = moves_length sends.payloads k in
        let does : Sends v (sent_sample sample') left = record {
          payloads = payloads;
          packetized = λ built. steps_too sample v s t k sends.payloads own sends.packetized beside.packetizer_is beside.mtu built;
          sent = subst (λ (x : Outgoing). AreSent x packetizer (sent_sample sample') payloads new) (sym beside.stream)
              (are_sent s.stream clock sample gone k v.stream.number (o.number + c) beside.next t.packetizer packetizer
              (λ built. own_stays packetizer built (none built) sample s t None (own built) sends) sends.payloads t.datagrams sends.sent);
          left = refl;
        } in
        record {
          left = left;
          sends = record {
            sends = subst (λ (fault : Option PacketError). SendsOrRefuses (sent_sample sample') v fault left) (sym no_fault) does;
            gained = whole;
            count = count ∙ sym new_length;
            few = omega (arith, few, closed_few e o gone after 0 o.number);
          };
          beside = record {
            packetizer_is = refl;
            mtu = beside.mtu ∙ sym (ap (λ (x : Sending). x.mtu) sends.left);
            stream = ap (λ (x : Outgoing). record x { number = (v.stream.number + length payloads) % 2 ^ 16 }) beside.stream;
            next = omega (arith, beside.next, length_is, sends.sent.0, moved_length);
          };
        }
      where
        steps_too : (sample : Sample) (v s t : Sending) (k : ℕ) (payloads : List (List ℕ)) → (is_built_in packetizer ≡ true → s.packetizer ≡ packetizer)
            → (is_built_in s.packetizer ≡ true → PacketizerStep s.packetizer s.mtu sample.bytes (Ok payloads) t.packetizer) → v.packetizer ≡ packetizer → v.mtu ≡ s.mtu → is_built_in v.packetizer ≡ true
            → PacketizerStep v.packetizer v.mtu sample.bytes (Ok (moves k payloads)) packetizer
        steps_too sample v s t k payloads own packetized is mtu built =
            let known : is_built_in packetizer ≡ true = sym (ap is_built_in is) ∙ built in
            let step : PacketizerStep s.packetizer s.mtu sample.bytes (Ok payloads) t.packetizer = packetized (ap is_built_in (own known) ∙ known) in
            let after : t.packetizer ≡ packetizer = stays s.packetizer t.packetizer s.mtu sample.bytes (Ok payloads) (ap sends_no_ids (own known) ∙ none known) step ∙ own known in
            let here : PacketizerStep packetizer s.mtu sample.bytes (Ok payloads) packetizer =
            subst (λ (p : PacketizerState). PacketizerStep p s.mtu sample.bytes (Ok payloads) packetizer) (own known) (subst (PacketizerStep s.packetizer s.mtu sample.bytes (Ok payloads)) after step) in
            let same : moves k payloads ≡ payloads = moves_none payloads k (plain known s.mtu sample.bytes payloads here) in
            subst (λ (xs : List (List ℕ)). PacketizerStep v.packetizer v.mtu sample.bytes (Ok xs) packetizer) (sym same)
            (subst (λ (p : PacketizerState). PacketizerStep p v.mtu sample.bytes (Ok payloads) packetizer) (sym is)
            (subst (λ (m : ℕ). PacketizerStep packetizer m sample.bytes (Ok payloads) packetizer) (sym mtu) here))

    refused_beside : (sample : Sample) (v s t : Sending) (before after : List (List ℕ)) (entry : SentSample) (fault : PacketError) → (is_built_in packetizer ≡ true → s.packetizer ≡ packetizer) → IsBeside v s before
        → SendsOrRefuses (sent_sample sample) s (Some fault) t → entry.fault ≡ Some fault → after ≡ before ++ t.datagrams → entry.count ≡ length t.datagrams → length after < 2 ^ 63 → SendsBeside sample v t before after entry
    refused_beside sample v s t before after entry fault own beside refuses is_fault gained count few =
        let left : Sending = record v { packetizer = packetizer; datagrams = [] } in
        let nothing : t.datagrams ≡ [] = ap (λ (x : Sending). x.datagrams) refuses.1.left in
        let same_after : after ≡ before = gained ∙ (ap (λ (ds : List (List ℕ)). before ++ ds) nothing ∙ append-nil before) in
        let whole : shown after ≡ shown before = ap shown same_after in
        let does : Refuses v (sent_sample (viewer_sample e rate sample)) fault left = record {
          packetized = λ built.
              let known : is_built_in packetizer ≡ true = sym (ap is_built_in beside.packetizer_is) ∙ built in
              let step = refuses.1.packetized (ap is_built_in (own known) ∙ known) in
              let after : t.packetizer ≡ packetizer = own_stays packetizer known (none known) sample s t (Some fault) (own known) refuses in (
                step.0,
                subst (λ (q : PacketizerState). PacketizerStep q v.mtu sample.bytes step.0 packetizer) (own known ∙ sym beside.packetizer_is)
                    (subst (λ (m : ℕ). PacketizerStep s.packetizer m sample.bytes step.0 packetizer) (sym beside.mtu) (subst (PacketizerStep s.packetizer s.mtu sample.bytes step.0) after step.1)),
                step.2,
              );
          left = refl;
        } in
        record {
          left = left;
          sends = record {
            sends = subst (λ (f : Option PacketError). SendsOrRefuses (sent_sample (viewer_sample e rate sample)) v f left) (sym is_fault) (refuses.0, does);
            gained = whole ∙ sym (append-nil (shown before));
            count = count ∙ ap length nothing;
            few = omega (arith, few, closed_few e o gone after 0 o.number);
          };
          beside = record {
            packetizer_is = refl;
            mtu = beside.mtu ∙ sym (ap (λ (x : Sending). x.mtu) refuses.1.left);
            stream = beside.stream;
            next = beside.next ∙ ap (λ (ds : List (List ℕ)). (o.number + length ds) % 65536) (sym whole);
          };
        }

    -- a sample that was not left out
    pub sends_beside : (sample : Sample) (v s t : Sending) (before after : List (List ℕ)) (entry : SentSample) → (is_built_in packetizer ≡ true → s.packetizer ≡ packetizer) → s.stream.clock_rate ≡ rate → IsBeside v s before
        → SendsIt sample s before entry t after → ((place : ℕ) → place < entry.count → is_in (length before + place) gone ≡ false) → SendsBeside sample v t before after entry
    sends_beside sample v s t before after entry own clock beside sends out = by entry.fault refl sends.sends
      where
        by : (fault : Option PacketError) → entry.fault ≡ fault → SendsOrRefuses (sent_sample sample) s fault t → SendsBeside sample v t before after entry
        by None is does = sent_beside sample v s t before after entry own clock beside does is sends.gained sends.count sends.few (λ place l. out place (omega (arith, l, sends.count)))
        by (Some fault) is does = refused_beside sample v s t before after entry fault own beside does is sends.gained sends.count sends.few
