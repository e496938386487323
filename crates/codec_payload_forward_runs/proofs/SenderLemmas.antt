-- The sender whose datagrams a viewer gets sends its samples as the sender of the run does.
use Rattle.std.proofs.Common.{◌≡◌, ◌∙◌, refl, sym, ap, subst, ℕ, zero, suc, ◌+◌, ◌*◌, ◌/◌, ◌%◌, ◌^◌, ◌<◌, List, [], ◌∷◌, ◌++◌, Bool, true, ◌||◌, ◌&&◌, Option, Some, None, MatchOption, Result, Ok, length, map, arith}
use Rattle.std.specs.Prelude.{◌==◌, slice_get, slice_index_or}
use Rattle.std.specs.Option.{option_map}
use Rattle.std.proofs.Math.Nat.{mul-div_cancel}
use Rattle.std.proofs.lemmas.List.{length-map}
use Rattle.std.proofs.lemmas.Option.{slice_get-map}
use Rattle.codec_payload_base.specs.declared.error.PacketError.{PacketError}
use Rattle.codec_payload_base.specs.declared.wire.Codec.TheVariants as codecs
use Rattle.codec_payload_codec.specs.Packetizers.{BoxedPacketizing, PacketizerState, PacketizerStep, is_built_in, marker_of, talk_spurt_of}
use Rattle.codec_payload_payloader.specs.Sending.{Sample, rtp_time_at}
use Rattle.codec_payload_rtp.proofs.RtpWriting.{packet_again}
use Rattle.codec_payload_rtp.specs.RtpPackets.{FitsHeader, Packet}
use Rattle.codec_payload_rtp.specs.RtpReading.{rtp_at}
use Rattle.codec_payload_rtp.specs.declared.rtp.RtpError.{RtpError}
use Rattle.codec_payload_sending.specs.Datagrams.{AreSent, IsMarker, IsSentAt, header_at, time_of}
use Rattle.codec_payload_sending.specs.Senders.{Refuses, Sending, Sends}
use Rattle.codec_payload_sending.specs.declared.sender.Outgoing.{Outgoing}
use Rattle.codec_payload_sending_forward.specs.Forwarding.{Forward, payload_for}
use Rattle.codec_payload_sending_forward.specs.Times.{time_as}
use Rattle.codec_payload_datagram_runs.specs.WireRuns.{DoesStep, SendsIt, SendsOrRefuses, Wire, sent_sample}
use Rattle.codec_payload_datagram_runs.specs.declared.run.DatagramStep.TheVariants as plain
use Rattle.codec_payload_datagram_runs.specs.declared.run.SentSample.{SentSample}
use Rattle.codec_payload_forward_runs.specs.ForwardReleases.{keeps_packetizer, keeps_payloads, viewer_bytes, viewer_datagram, viewer_packet, viewer_packetizer, viewer_sample, viewer_samples, viewer_sender, viewer_stream}
use Rattle.codec_payload_forward_runs.specs.ForwardRuns.{packet_read}
use Rattle.codec_payload_forward_runs.proofs.MovedPayloads.{lands_moves, moved_answer, octets_move, plain_step, same_fact, step_moves}

-- Lists

pub index_map : {X Y : Type 0} (f : X → Y) (xs : List X) (k : ℕ) (x : X) (y : Y) → k < length xs → slice_index_or (map f xs) k y ≡ f (slice_index_or xs k x)
index_map f [] k x y l = absurd (omega (arith, l))
index_map f (z ∷ xs) zero x y l = refl
index_map f (z ∷ xs) (suc k) x y l = index_map f xs k x y (omega (arith, l))

pub map_append : {X Y : Type 0} (f : X → Y) (xs ys : List X) → map f (xs ++ ys) ≡ map f xs ++ map f ys
map_append f [] ys = refl
map_append f (x ∷ xs) ys = ap (λ (zs : List _). f x ∷ zs) (map_append f xs ys)

-- The time of a sample at the viewer

pub viewer_time : (rate time : ℕ) → 0 < rate → time < 2 ^ 32 → rtp_time_at rate (record { numer = time; rate = rate }) ≡ time
viewer_time rate time some small =
    let same : time * rate / rate ≡ time = mul-div_cancel time some in
    ap (λ (n : ℕ). n % 2 ^ 64 % 2 ^ 32) same ∙ omega (arith, small)

-- What is known of the packetizer of the viewer's sender, for a packetizer of the run

abbrev pub View : Type 0
View = PacketizerState → PacketizerState

abbrev pub seen_sender : View → Forward → Sending → Sending
seen_sender view f s = record (viewer_sender f s) { packetizer = view s.packetizer }

abbrev pub seen_wire : View → Forward → Wire → Wire
seen_wire view f s = record s { sending = seen_sender view f s.sending; datagrams = map (viewer_datagram f) s.datagrams }

-- a view of packetizers that are good: if it is of a built-in packetizer, it sends the moved payloads, with the same markers
pub record IsView (f : Forward) (good : PacketizerState → Type 0) (view : View) : Type 0 where
  pub built_in : (packetizer : PacketizerState) → is_built_in (view packetizer) ≡ true → is_built_in packetizer ≡ true
  pub marks : (packetizer : PacketizerState) (last starts : Bool) → is_built_in (view packetizer) ≡ true
      → (marker_of (view packetizer) last || (talk_spurt_of (view packetizer) && starts)) ≡ (marker_of packetizer last || (talk_spurt_of packetizer && starts))
  pub steps : (packetizer after : PacketizerState) (mtu : ℕ) (frame : List ℕ) (answer : Result (List (List ℕ)) PacketError) → good packetizer → is_built_in (view packetizer) ≡ true
      → PacketizerStep packetizer mtu frame answer after → PacketizerStep (view packetizer) mtu frame (moved_answer f.settings.codec f.ids.offsets answer) (view after)

-- a packetizer whose ids are moved
pub moved_view : (f : Forward) (good : PacketizerState → Type 0)
    → ((packetizer : PacketizerState) → good packetizer → (keeps_payloads f.settings.codec packetizer ≡ true) × (keeps_packetizer f.settings.codec packetizer ≡ true))
    → IsView f good (viewer_packetizer f)
moved_view f good keeps = record {
  built_in = λ packetizer built. sym (same_fact is_built_in f.settings.codec f.ids.offsets packetizer (λ s. refl)) ∙ built;
  marks = λ packetizer last starts built. same_fact (λ (p : PacketizerState). marker_of p last || (talk_spurt_of p && starts)) f.settings.codec f.ids.offsets packetizer (λ s. refl);
  steps = λ packetizer after mtu frame answer is built step.
      step_moves f.settings.codec f.ids.offsets packetizer after mtu frame answer (keeps packetizer is).0 (keeps packetizer is).1 step;
}

-- nothing is known of the packetizer
abbrev pub unknown : View
unknown packetizer = BoxedPacketizing

pub unknown_view : (f : Forward) (good : PacketizerState → Type 0) → IsView f good unknown
unknown_view f good = record {
  built_in = λ packetizer built. absurd (cc);
  marks = λ packetizer last starts built. absurd (cc);
  steps = λ packetizer after mtu frame answer is built step. absurd (cc);
}

-- a forwarder of a codec without ids leaves payloads as they are
abbrev pub unchanged : View
unchanged packetizer = packetizer

abbrev pub without_ids : Forward → Forward
without_ids f = record f { settings = record f.settings { codec = codecs.Opus } }

pub same_view : (f : Forward) (good : PacketizerState → Type 0) → IsView (without_ids f) good unchanged
same_view f good = record {
  built_in = λ packetizer built. built;
  marks = λ packetizer last starts built. refl;
  steps = λ packetizer after mtu frame answer is built step. plain_step codecs.Opus f.ids.offsets packetizer after mtu frame answer (λ x. refl) step;
}

module _ (e : Forward) (fits_type : e.settings.payload_type < 128) (fits_ssrc : e.settings.ssrc < 2 ^ 32) where
  -- a payload as the viewer gets it
  abbrev move : List ℕ → List ℕ
  move = payload_for e.settings.codec e.ids.offsets

  -- Packets

  fits : (p : Packet) → FitsHeader (viewer_packet e p).header
  fits p = record {
    payload_type = fits_type;
    sequence_number = omega arith;
    timestamp = omega arith;
    ssrc = omega (arith, fits_ssrc);
    csrcs = record { whole = refl; few = omega arith };
    extension = tt;
  }

  pub reads : (d : List ℕ) (p : Packet) → rtp_at d ≡ Ok p → p.padding < 256 → rtp_at (viewer_datagram e d) ≡ Ok (viewer_packet e p)
  reads d p is few = ap (λ (r : Result Packet RtpError). rtp_at (viewer_bytes e (packet_read r))) is ∙ packet_again (viewer_packet e p) (fits p) few

  -- a packet of the viewer's stream, with this number and time
  abbrev packet_with : Bool → List ℕ → ℕ → ℕ → Packet
  packet_with marker payload number time = record {
    header = record { marker = marker; payload_type = e.settings.payload_type; sequence_number = number; timestamp = time; ssrc = e.settings.ssrc; csrcs = []; extension = None };
    payload = payload;
    padding = 0;
  }

  same_packet : (marker : Bool) (payload : List ℕ) (n m t u : ℕ) → n ≡ m → t ≡ u → packet_with marker payload n t ≡ packet_with marker payload m u
  same_packet marker payload n m t u numbers times = ap (λ (k : ℕ). packet_with marker payload k t) numbers ∙ ap (λ (k : ℕ). packet_with marker payload m k) times

  module _ (good : PacketizerState → Type 0) (view : View) (is_view : IsView e good view) where
    module _ (stream : Outgoing) (some : 0 < stream.clock_rate) (sample : Sample) where
      time_moves : time_as e.times (time_of stream (sent_sample sample)) ≡ time_of (viewer_stream e stream) (sent_sample (viewer_sample e stream.clock_rate sample))
      time_moves = sym (viewer_time stream.clock_rate (time_as e.times (rtp_time_at stream.clock_rate sample.rtp_time)) some (omega arith))

      -- the packet at a place
      packet_moves : (count place : ℕ) (marker : Bool) (payload : List ℕ)
          → viewer_packet e (record { header = header_at stream (sent_sample sample) place count marker; payload = payload; padding = 0 })
          ≡ record { header = header_at (viewer_stream e stream) (sent_sample (viewer_sample e stream.clock_rate sample)) place count marker; payload = move payload; padding = 0 }
      packet_moves count place marker payload = same_packet marker (move payload) _ _ _ _ (omega arith) time_moves

      marker_moves : (packetizer : PacketizerState) (count place : ℕ) (marker : Bool) → IsMarker packetizer (sent_sample sample) place count marker
          → IsMarker (view packetizer) (sent_sample (viewer_sample e stream.clock_rate sample)) place count marker
      marker_moves packetizer count place marker marked built =
          marked (is_view.built_in packetizer built) ∙ sym (is_view.marks packetizer (place + 1 == count) sample.start_of_talk_spurt built)

      sent_at : (packetizer : PacketizerState) (count place : ℕ) (payload datagram : List ℕ) → IsSentAt stream packetizer (sent_sample sample) count place payload datagram
          → IsSentAt (viewer_stream e stream) (view packetizer) (sent_sample (viewer_sample e stream.clock_rate sample)) count place (move payload) (viewer_datagram e datagram)
      sent_at packetizer count place payload datagram is = record {
        marker = is.marker;
        marked = marker_moves packetizer count place is.marker is.marked;
        reads = reads datagram _ is.reads (omega arith) ∙ ap (λ (p : Packet). Ok p) (packet_moves count place is.marker payload);
      }

      -- one of the datagrams
      abbrev IsAtPlace : PacketizerState → (count place : ℕ) → (payload datagram : List ℕ) → Type 0
      IsAtPlace packetizer count place payload datagram = IsSentAt (viewer_stream e stream) (view packetizer) (sent_sample (viewer_sample e stream.clock_rate sample)) count place payload datagram

      place_moves : (packetizer : PacketizerState) (payloads datagrams : List (List ℕ)) (place : ℕ) → length datagrams ≡ length payloads → place < length payloads
          → IsSentAt stream packetizer (sent_sample sample) (length payloads) place (slice_index_or payloads place []) (slice_index_or datagrams place [])
          → IsAtPlace packetizer (length (map move payloads)) place (slice_index_or (map move payloads) place []) (slice_index_or (map (viewer_datagram e) datagrams) place [])
      place_moves packetizer payloads datagrams place same l is =
          let within : place < length datagrams = omega (arith, same, l) in
          subst (λ (n : ℕ). IsAtPlace packetizer n place (slice_index_or (map move payloads) place []) (slice_index_or (map (viewer_datagram e) datagrams) place [])) (sym (length-map payloads move))
          (subst (λ (x : List ℕ). IsAtPlace packetizer (length payloads) place x (slice_index_or (map (viewer_datagram e) datagrams) place [])) (sym (index_map move payloads place [] [] l))
          (subst (IsAtPlace packetizer (length payloads) place (move (slice_index_or payloads place []))) (sym (index_map (viewer_datagram e) datagrams place [] [] within))
          (sent_at packetizer (length payloads) place (slice_index_or payloads place []) (slice_index_or datagrams place []) is)))

      pub are_sent : (packetizer : PacketizerState) (payloads datagrams : List (List ℕ)) → AreSent stream packetizer (sent_sample sample) payloads datagrams
          → AreSent (viewer_stream e stream) (view packetizer) (sent_sample (viewer_sample e stream.clock_rate sample)) (map move payloads) (map (viewer_datagram e) datagrams)
      are_sent packetizer payloads datagrams are = (
        length-map datagrams (viewer_datagram e) ∙ (are.0 ∙ sym (length-map payloads move)),
        λ place l.
            let low : place < length payloads = omega (arith, length-map payloads move, l) in
            place_moves packetizer payloads datagrams place are.0 low (are.1 place low),
      )

    -- Samples

    -- the sender after a sample, with its number and its counts
    abbrev sender_with : Sending → Sending → (number packets octets time : ℕ) → Sending
    sender_with s t number packets octets time = record (seen_sender view e s) {
      packetizer = view t.packetizer;
      stream = record (viewer_stream e s.stream) { number = number };
      counts = record { packets = packets; octets = octets; rtp_time = Some time };
      datagrams = map (viewer_datagram e) t.datagrams;
    }

    same_sender : (s t : Sending) (n n' p p' o o' u u' : ℕ) → n ≡ n' → p ≡ p' → o ≡ o' → u ≡ u' → sender_with s t n p o u ≡ sender_with s t n' p' o' u'
    same_sender s t n n' p p' o o' u u' numbers packets octets times =
        ap (λ (k : ℕ). sender_with s t k p o u) numbers
        ∙ (ap (λ (k : ℕ). sender_with s t n' k o u) packets
        ∙ (ap (λ (k : ℕ). sender_with s t n' p' k u) octets
        ∙ ap (λ (k : ℕ). sender_with s t n' p' o' k) times))

    pub sends_too : (sample : Sample) (s t : Sending) → good s.packetizer → 0 < s.stream.clock_rate → Sends s (sent_sample sample) t
        → Sends (seen_sender view e s) (sent_sample (viewer_sample e s.stream.clock_rate sample)) (seen_sender view e t)
    sends_too sample s t keeps some sends =
        let count : length (map move sends.payloads) ≡ length sends.payloads = length-map sends.payloads move in
        record {
          payloads = map move sends.payloads;
          packetized = λ built. is_view.steps s.packetizer t.packetizer s.mtu sample.bytes (Ok sends.payloads) keeps built (sends.packetized (is_view.built_in s.packetizer built));
          sent = are_sent s.stream some sample t.packetizer sends.payloads t.datagrams sends.sent;
          left = ap (seen_sender view e) sends.left
              ∙ same_sender s t _ _ _ _ _ _ _ _ (omega (arith, count)) (omega (arith, count)) (ap (λ (n : ℕ). (s.counts.octets + n) % 2 ^ 32) (sym (octets_move e.settings.codec e.ids.offsets sends.payloads)))
              (time_moves s.stream some sample);
        }

    pub refuses_too : (sample : Sample) (fault : PacketError) (s t : Sending) → good s.packetizer → Refuses s (sent_sample sample) fault t
        → Refuses (seen_sender view e s) (sent_sample (viewer_sample e s.stream.clock_rate sample)) fault (seen_sender view e t)
    refuses_too sample fault s t keeps refuses = record {
      packetized = λ built.
          let step = refuses.packetized (is_view.built_in s.packetizer built) in
          (moved_answer e.settings.codec e.ids.offsets step.0, is_view.steps s.packetizer t.packetizer s.mtu sample.bytes step.0 keeps built step.1, lands_moves e.settings.codec e.ids.offsets step.0 fault step.2);
      left = ap (seen_sender view e) refuses.left;
    }

    sends_or_refuses : (sample : Sample) (fault : Option PacketError) (s t : Sending) → good s.packetizer → 0 < s.stream.clock_rate → SendsOrRefuses (sent_sample sample) s fault t
        → SendsOrRefuses (sent_sample (viewer_sample e s.stream.clock_rate sample)) (seen_sender view e s) fault (seen_sender view e t)
    sends_or_refuses sample None s t keeps some sends = sends_too sample s t keeps some sends
    sends_or_refuses sample (Some fault) s t keeps some refuses = (refuses.0, refuses_too sample fault s t keeps refuses.1)

    pub sends_it_too : (sample : Sample) (s t : Sending) (before after : List (List ℕ)) (entry : SentSample) → good s.packetizer → 0 < s.stream.clock_rate → SendsIt sample s before entry t after
        → SendsIt (viewer_sample e s.stream.clock_rate sample) (seen_sender view e s) (map (viewer_datagram e) before) entry (seen_sender view e t) (map (viewer_datagram e) after)
    sends_it_too sample s t before after entry keeps some sends = record {
      sends = sends_or_refuses sample entry.fault s t keeps some sends.sends;
      gained = ap (map (viewer_datagram e)) sends.gained ∙ map_append (viewer_datagram e) before t.datagrams;
      count = sends.count ∙ sym (length-map t.datagrams (viewer_datagram e));
      few = omega (arith, length-map after (viewer_datagram e), sends.few);
    }

    send_step : (rate : ℕ) (o : Option Sample) (s t : Wire) → s.sending.stream.clock_rate ≡ rate → 0 < rate → good s.sending.packetizer
        → MatchOption o (t ≡ s) (λ sample. (entry : SentSample) × SendsIt sample s.sending s.datagrams entry t.sending t.datagrams
        × (t ≡ record s { sending = t.sending; datagrams = t.datagrams; sends = s.sends ++ entry ∷ [] }))
        → MatchOption (option_map (viewer_sample e rate) o) (seen_wire view e t ≡ seen_wire view e s)
        (λ sample. (entry : SentSample) × SendsIt sample (seen_sender view e s.sending) (map (viewer_datagram e) s.datagrams) entry (seen_sender view e t.sending) (map (viewer_datagram e) t.datagrams)
        × (seen_wire view e t ≡ record (seen_wire view e s) { sending = seen_sender view e t.sending; datagrams = map (viewer_datagram e) t.datagrams; sends = s.sends ++ entry ∷ [] }))
    send_step rate None s t is some keeps same = ap (seen_wire view e) same
    send_step rate (Some sample) s t is some keeps done = (
      done.0,
      subst (λ (r : ℕ). SendsIt (viewer_sample e r sample) (seen_sender view e s.sending) (map (viewer_datagram e) s.datagrams) done.0 (seen_sender view e t.sending) (map (viewer_datagram e) t.datagrams)) is
          (sends_it_too sample s.sending t.sending s.datagrams t.datagrams done.0 keeps (subst (λ (r : ℕ). 0 < r) (sym is) some) done.1),
      ap (seen_wire view e) done.2,
    )

    -- a step that sends
    pub sends_step : (rate : ℕ) (samples : List Sample) (i : ℕ) (s t : Wire) → s.sending.stream.clock_rate ≡ rate → 0 < rate → good s.sending.packetizer → DoesStep samples (plain.Send i) s t
        → DoesStep (viewer_samples e rate samples) (plain.Send i) (seen_wire view e s) (seen_wire view e t)
    sends_step rate samples i s t is some keeps does =
        subst (λ (o : Option Sample).
        MatchOption o (seen_wire view e t ≡ seen_wire view e s)
        (λ sample. (entry : SentSample) × SendsIt sample (seen_sender view e s.sending) (map (viewer_datagram e) s.datagrams) entry (seen_sender view e t.sending) (map (viewer_datagram e) t.datagrams)
        × (seen_wire view e t ≡ record (seen_wire view e s) { sending = seen_sender view e t.sending; datagrams = map (viewer_datagram e) t.datagrams; sends = s.sends ++ entry ∷ [] })))
        (sym (slice_get-map (viewer_sample e rate) samples i)) (send_step rate (slice_get samples i) s t is some keeps does)
