-- A sender sends over a run exactly the packets that a payloader sends for the same samples.
use Rattle.std.proofs.Common.{◌≡◌, ◌≢◌, ◌∙◌, refl, sym, ap, subst, ℕ, suc, ◌+◌, ◌%◌, ◌^◌, ◌<◌, ◌||◌, ◌&&◌, List}
use Rattle.std.proofs.Common.{[], ◌∷◌, ◌++◌, Bool, true, eqb, Option, Some, None, Result, Ok, Err, MatchOption, length, arith, append_assoc, append-nil, map, replicate}
use Rattle.std.specs.Prelude.{slice_get, slice_index_or}
use Rattle.std.proofs.lemmas.Bool.{eq-eqb, ne_eqb}
use Rattle.std.proofs.lemmas.List.{length-append}
use Rattle.codec_payload_base.specs.Answers.{Lands}
use Rattle.codec_payload_base.specs.StrippedValues.{stripped}
use Rattle.codec_payload_base.specs.declared.error.PacketError.{PacketError}
use Rattle.codec_payload_base.specs.declared.error.PacketError.TheVariants as faults
use Rattle.codec_payload_base.specs.declared.wire.extension.ExtensionValues.{ExtensionValues}
use Rattle.codec_payload_codec.proofs.CodecLemmas.{packetizer_stays}
use Rattle.codec_payload_codec.specs.Packetizers.{PacketizerState, PacketizerStep, is_built_in, marker_of, talk_spurt_of}
use Rattle.codec_payload_buffer.specs.Steps.{State}
use Rattle.codec_payload_payloader.specs.Packets.{Packet, AreNumbered}
use Rattle.codec_payload_buffer_runs.specs.Schedule as core
use Rattle.codec_payload_buffer_runs.specs.Schedule.{Answer, RunState, run_state, packets_sent}
use Rattle.codec_payload_payloader.specs.Sending.{Sample, AreAs, is_last, packet_for, packets_from, rtp_time_at}
use Rattle.codec_payload_sending_history.specs.declared.retransmission.RetransmissionStream.{RetransmissionStream}
use Rattle.codec_payload_buffer_runs.specs.declared.run.Sent.{Sent}
use Rattle.codec_payload_buffer_runs.specs.declared.run.Step.{Step}
use Rattle.codec_payload_rtp.specs.RtpPackets.{Header}
use Rattle.codec_payload_sending.specs.Datagrams.{IsSentAt, header_at, header_with}
use Rattle.codec_payload_sending.specs.Senders.{Refuses, Sending, Sends}
use Rattle.codec_payload_sending.specs.declared.sender.Outgoing.{Outgoing}
use Rattle.codec_payload_datagram_runs.proofs.Courses.{DeliversCopy, Proceeds}
use Rattle.codec_payload_datagram_runs.specs.Releases.{AreDatagrams, ReadsAs, sending_steps, sends_after, times_of, times_sent}
use Rattle.codec_payload_base.specs.declared.wire.Ticks.{Ticks}
use Rattle.codec_payload_datagram_runs.specs.WireRuns.{SendsIt, SendsOrRefuses, Wire, sent_sample}
use Rattle.codec_payload_datagram_runs.specs.declared.run.DatagramStep.{DatagramStep}
use Rattle.codec_payload_datagram_runs.specs.declared.run.DatagramStep.TheVariants as steps
use Rattle.codec_payload_datagram_runs.specs.declared.run.SentSample.{SentSample}

-- Lists of packets

pub datagrams_append : (stream : Outgoing) (ps : List Packet) (ds : List (List ℕ)) (qs : List Packet) (es : List (List ℕ))
    → AreDatagrams stream ps ds → AreDatagrams stream qs es → AreDatagrams stream (ps ++ qs) (ds ++ es)
datagrams_append stream [] [] qs es here more = more
datagrams_append stream [] (d ∷ ds) qs es here more = absurd here
datagrams_append stream (p ∷ ps) [] qs es here more = absurd here
datagrams_append stream (p ∷ ps) (d ∷ ds) qs es here more = (here.0, datagrams_append stream ps ds qs es here.1 more)

pub same_count : (stream : Outgoing) (ps : List Packet) (ds : List (List ℕ)) → AreDatagrams stream ps ds → length ps ≡ length ds
same_count stream [] [] are = refl
same_count stream [] (d ∷ ds) are = absurd are
same_count stream (p ∷ ps) [] are = absurd are
same_count stream (p ∷ ps) (d ∷ ds) are = ap suc (same_count stream ps ds are.1)

numbered_append : (n : ℕ) (ps qs : List Packet) → AreNumbered n ps → AreNumbered (n + length ps) qs → AreNumbered n (ps ++ qs)
numbered_append n [] qs here more = subst (λ (m : ℕ). AreNumbered m qs) (omega arith) more
numbered_append n (p ∷ ps) qs here more = (here.0, numbered_append (n + 1) ps qs here.1 (subst (λ (m : ℕ). AreNumbered m qs) (omega arith) more))

are_as_themselves : (ps : List Packet) → AreAs true ps ps
are_as_themselves [] = tt
are_as_themselves (p ∷ ps) = (refl, are_as_themselves ps)

-- the packets of a sample have consecutive numbers
from_numbered : (packetizer : PacketizerState) (sample : Sample) (rtp_time number place : ℕ) (payloads : List (List ℕ)) → number + length payloads < 2 ^ 64
    → AreNumbered number (packets_from packetizer sample rtp_time number place payloads)
from_numbered packetizer sample rtp_time number place [] few = tt
from_numbered packetizer sample rtp_time number place (payload ∷ payloads) few =
    let next : (number + 1) % 2 ^ 64 ≡ number + 1 = omega arith in (
      refl,
      subst (λ (n : ℕ). AreNumbered n (packets_from packetizer sample rtp_time ((number + 1) % 2 ^ 64) (place + 1) payloads)) next
          (from_numbered packetizer sample rtp_time ((number + 1) % 2 ^ 64) (place + 1) payloads (omega arith)),
    )

from_count : (packetizer : PacketizerState) (sample : Sample) (rtp_time number place : ℕ) (payloads : List (List ℕ))
    → length (packets_from packetizer sample rtp_time number place payloads) ≡ length payloads
from_count packetizer sample rtp_time number place [] = refl
from_count packetizer sample rtp_time number place (payload ∷ payloads) = ap suc (from_count packetizer sample rtp_time ((number + 1) % 2 ^ 64) (place + 1) payloads)

-- and one RTP time
from_times : (packetizer : PacketizerState) (sample : Sample) (rtp_time number place : ℕ) (payloads : List (List ℕ))
    → map (λ (q : Packet). q.rtp_time) (packets_from packetizer sample rtp_time number place payloads) ≡ replicate (length payloads) rtp_time
from_times packetizer sample rtp_time number place [] = refl
from_times packetizer sample rtp_time number place (payload ∷ payloads) =
    ap (λ (ts : List ℕ). rtp_time ∷ ts) (from_times packetizer sample rtp_time ((number + 1) % 2 ^ 64) (place + 1) payloads)

-- the RTP times of packets
abbrev pub times_in : List Packet → List ℕ
times_in packets = map (λ (q : Packet). q.rtp_time) packets

times_append : (ps qs : List Packet) → times_in (ps ++ qs) ≡ times_in ps ++ times_in qs
times_append [] qs = refl
times_append (p ∷ ps) qs = ap (λ (ts : List ℕ). p.rtp_time ∷ ts) (times_append ps qs)

-- One sample

-- a packet is the last where none follows
last_is : (place : ℕ) (payloads : List (List ℕ)) → eqb (place + 1) (place + 1 + length payloads) ≡ is_last payloads
last_is place [] = eq-eqb (place + 1) (place + 1 + 0) (omega arith)
last_is place (payload ∷ payloads) = ne_eqb (place + 1) (place + 1 + suc (length payloads)) (λ e. omega (arith, e))

abbrev headed : Outgoing → Bool → ℕ → ℕ → ExtensionValues → Header
headed stream marker number time values = header_with stream (record { marker = marker; number = number; time = time }) values

-- headers of the same fields, for any next number
same_header : (sending stream : Outgoing) (m m' : Bool) (n n' t t' : ℕ) (values values' : ExtensionValues) → sending ≡ record stream { number = sending.number }
    → m ≡ m' → n ≡ n' → t ≡ t' → values ≡ values'
    → headed sending m n t values ≡ headed stream m' n' t' values'
same_header sending stream m m' n n' t t' values values' kept e1 e2 e3 e4 =
    ap (λ (x : Outgoing). headed x m n t values) kept
    ∙ (ap (λ (b : Bool). headed stream b n t values) e1
    ∙ (ap (λ (k : ℕ). headed stream m' k t values) e2
    ∙ (ap (λ (k : ℕ). headed stream m' n' k values) e3
    ∙ ap (λ (v : ExtensionValues). headed stream m' n' t' v) e4)))

-- the datagrams of a sample, from a place on, read as its packets
sent_reads : (sending stream : Outgoing) (packetizer : PacketizerState) (sample : Sample) (count number place : ℕ) (payloads datagrams : List (List ℕ))
    → sending ≡ record stream { number = sending.number } → is_built_in packetizer ≡ true → length datagrams ≡ length payloads → place + length payloads ≡ count
    → number + length payloads < 2 ^ 64 → number % 2 ^ 16 ≡ (sending.number + place) % 2 ^ 16
    → ((i : ℕ) → i < length payloads → IsSentAt sending packetizer (sent_sample sample) count (place + i) (slice_index_or payloads i []) (slice_index_or datagrams i []))
    → AreDatagrams stream (packets_from packetizer sample (rtp_time_at stream.clock_rate sample.rtp_time) number place payloads) datagrams
sent_reads sending stream packetizer sample count number place [] [] kept built_in same whole few low each = tt
sent_reads sending stream packetizer sample count number place [] (d ∷ ds) kept built_in same whole few low each = absurd (omega (arith, same))
sent_reads sending stream packetizer sample count number place (payload ∷ payloads) [] kept built_in same whole few low each = absurd (omega (arith, same))
sent_reads sending stream packetizer sample count number place (payload ∷ payloads) (d ∷ ds) kept built_in same whole few low each =
    let first : IsSentAt sending packetizer (sent_sample sample) count place payload d =
    subst (λ (n : ℕ). IsSentAt sending packetizer (sent_sample sample) count n payload d) (omega arith) (each 0 (omega arith)) in
    let all : count ≡ place + 1 + length payloads = omega (arith, whole) in
    let q : Packet = packet_for packetizer sample (rtp_time_at stream.clock_rate sample.rtp_time) number (stripped sample.ext_vals place (place + 1 + length payloads)) (is_last payloads) payload in
    let marker : first.marker ≡ q.marker = first.marked built_in
    ∙ ap (λ (b : Bool). marker_of packetizer b || (talk_spurt_of packetizer && sample.start_of_talk_spurt)) (ap (eqb (place + 1)) all ∙ last_is place payloads) in
    let header : header_at sending (sent_sample sample) place count first.marker ≡ headed stream q.marker (q.number % 2 ^ 16) q.rtp_time q.ext_vals =
    same_header sending stream first.marker q.marker ((sending.number + place) % 2 ^ 16) (q.number % 2 ^ 16) _ q.rtp_time _ q.ext_vals kept marker (sym low)
    (ap (λ (x : Outgoing). rtp_time_at x.clock_rate sample.rtp_time) kept) (ap (stripped sample.ext_vals place) all) in
    let reads : ReadsAs stream q d = first.reads ∙ ap (λ (h : Header). Ok (record { header = h; payload = payload; padding = 0 })) header in
    let next : (number + 1) % 2 ^ 64 ≡ number + 1 = omega arith in (
      reads,
      sent_reads sending stream packetizer sample count ((number + 1) % 2 ^ 64) (place + 1) payloads ds kept built_in (omega (arith, same)) (omega (arith, whole))
          (omega (arith, next)) (omega (arith, next, low))
          (λ i l. subst (λ (n : ℕ). IsSentAt sending packetizer (sent_sample sample) count n (slice_index_or payloads i []) (slice_index_or ds i [])) (omega arith) (each (suc i) (omega (arith, l)))),
    )

-- a payloader that has sent these packets, beside a sender
abbrev pub running : State → ℕ → ℕ → Sending → List Packet → RunState
running buffer first clock_rate s packets = run_state (record { packetizer = s.packetizer; clock_rate = clock_rate }) buffer (record { first = first; packets = packets })

-- the sender's datagrams so far are these packets
pub record IsAt (stream : Outgoing) (budget start : ℕ) (s : Sending) (datagrams : List (List ℕ)) (packets : List Packet) : Type 0 where
  pub mtu : s.mtu ≡ budget
  pub built_in : is_built_in s.packetizer ≡ true
  pub kept : s.stream ≡ record stream { number = s.stream.number }
  pub number : s.stream.number % 2 ^ 16 ≡ (start + length packets) % 2 ^ 16
  pub reads : AreDatagrams stream packets datagrams
  pub numbered : AreNumbered start packets
  pub few : length packets < 2 ^ 63

-- a sample was sent, also by the payloader
pub record SendsBoth (buffer : State) (stream : Outgoing) (budget start place : ℕ) (sample : Sample) (s t : Sending) (after : List (List ℕ)) (packets : List Packet) : Type 0 where
  pub more : List Packet
  pub entry : Sent
  pub sends : core.SendsIt place budget sample (running buffer start stream.clock_rate s packets) entry (running buffer start stream.clock_rate t (packets ++ more))
  pub at : IsAt stream budget start t after (packets ++ more)
  pub times : times_in more ≡ replicate (length t.datagrams) (rtp_time_at stream.clock_rate sample.rtp_time)

-- a sample for which the packetizer gave payloads
sent_both : (buffer : State) (stream : Outgoing) (budget start place : ℕ) (sample : Sample) (s t : Sending) (before after : List (List ℕ)) (packets : List Packet)
    → start < 2 ^ 63 → IsAt stream budget start s before packets → after ≡ before ++ t.datagrams → length after < 2 ^ 63 → Sends s (sent_sample sample) t
    → SendsBoth buffer stream budget start place sample s t after packets
sent_both buffer stream budget start place sample s t before after packets small at gained few sends =
    let payloads : List (List ℕ) = sends.payloads in
    let number : ℕ = start + length packets in
    let more : List Packet = packets_from t.packetizer sample (rtp_time_at stream.clock_rate sample.rtp_time) number 0 payloads in
    let after_number : ℕ = (s.stream.number + length payloads) % 2 ^ 16 in
    let step : PacketizerStep s.packetizer s.mtu sample.bytes (Ok payloads) t.packetizer = sends.packetized at.built_in in
    let built_in : is_built_in t.packetizer ≡ true = packetizer_stays s.packetizer s.mtu sample.bytes (Ok payloads) t.packetizer step ∙ at.built_in in
    let count : length more ≡ length payloads = from_count t.packetizer sample (rtp_time_at stream.clock_rate sample.rtp_time) number 0 payloads in
    let datagrams : length t.datagrams ≡ length payloads = sends.sent.0 in
    let known : length packets ≡ length before = same_count stream packets before at.reads in
    let whole : length after ≡ length before + length t.datagrams = ap length gained ∙ length-append before t.datagrams in
    let fits : number + length payloads < 2 ^ 64 = omega (arith, small, datagrams, known, whole, few) in
    let low : number % 2 ^ 16 ≡ (s.stream.number + 0) % 2 ^ 16 = omega (arith, at.number) in
    let reads : AreDatagrams stream more t.datagrams =
    sent_reads s.stream stream t.packetizer sample (length payloads) number 0 payloads t.datagrams at.kept built_in datagrams (omega arith) fits low
    (λ i l. subst (λ (n : ℕ). IsSentAt s.stream t.packetizer (sent_sample sample) (length payloads) n (slice_index_or payloads i [])
    (slice_index_or t.datagrams i [])) (omega arith) (sends.sent.1 i l)) in
    let numbered : AreNumbered number more = from_numbered t.packetizer sample (rtp_time_at stream.clock_rate sample.rtp_time) number 0 payloads fits in
    let all : length (packets ++ more) ≡ length packets + length more = length-append packets more in
    let few_packets : length (packets ++ more) < 2 ^ 63 = omega (arith, all, count, datagrams, known, whole, few) in
    let goes_on : t.stream.number ≡ after_number = ap (λ (x : Sending). x.stream.number) sends.left in
    record {
      more = more;
      entry = record { step = place; first = length packets; count = length payloads; fault = None };
      sends = record {
        answer = Ok payloads;
        packetizer = t.packetizer;
        packetized = subst (λ (mtu : ℕ). PacketizerStep s.packetizer mtu sample.bytes (Ok payloads) t.packetizer) at.mtu step;
        not_memory = λ e. cc;
        entry_is = refl;
        packets = more;
        are = subst (λ (b : Bool). AreAs b more more) (sym built_in) (are_as_themselves more);
        numbered = numbered;
        few = few_packets;
        left = refl;
      };
      at = record {
        mtu = ap (λ (x : Sending). x.mtu) sends.left ∙ at.mtu;
        built_in = built_in;
        kept = ap (λ (x : Sending). x.stream) sends.left
            ∙ (ap (λ (x : Outgoing). record x { number = after_number }) at.kept
            ∙ ap (λ (n : ℕ). record stream { number = n }) (sym goes_on));
        number = omega (arith, goes_on, at.number, all, count);
        reads = subst (AreDatagrams stream (packets ++ more)) (sym gained) (datagrams_append stream packets before more t.datagrams at.reads reads);
        numbered = numbered_append start packets more at.numbered numbered;
        few = few_packets;
      };
      times = from_times t.packetizer sample (rtp_time_at stream.clock_rate sample.rtp_time) number 0 payloads
          ∙ ap (λ (n : ℕ). replicate n (rtp_time_at stream.clock_rate sample.rtp_time)) (sym datagrams);
    }

-- the answer of the packetizer if it refused a sample, and memory did not run out
refused_as : (answer : Result (List (List ℕ)) PacketError) (fault : PacketError) → fault ≢ faults.OutOfMemory → Lands answer (Err fault) [] → answer ≡ Err fault
refused_as (Ok packets) fault not_memory lands = absurd (not_memory lands)
refused_as (Err other) fault not_memory lands = let same : fault ≡ other = cc in ap (λ (f : PacketError). Err f) (sym same)

-- a sample that the packetizer refused
refused_both : (buffer : State) (stream : Outgoing) (budget start place : ℕ) (sample : Sample) (fault : PacketError) (s t : Sending) (before after : List (List ℕ)) (packets : List Packet)
    → IsAt stream budget start s before packets → after ≡ before ++ t.datagrams → fault ≢ faults.OutOfMemory → Refuses s (sent_sample sample) fault t
    → SendsBoth buffer stream budget start place sample s t after packets
refused_both buffer stream budget start place sample fault s t before after packets at gained not_memory refuses =
    let answered = refuses.packetized at.built_in in
    let is : answered.0 ≡ Err fault = refused_as answered.0 fault not_memory answered.2 in
    let step : PacketizerStep s.packetizer s.mtu sample.bytes (Err fault) t.packetizer = subst
    (λ (a : Result (List (List ℕ)) PacketError). PacketizerStep s.packetizer s.mtu sample.bytes a t.packetizer) is answered.1 in
    let nothing : t.datagrams ≡ [] = ap (λ (x : Sending). x.datagrams) refuses.left in
    let same : after ≡ before = gained ∙ (ap (λ (ds : List (List ℕ)). before ++ ds) nothing ∙ append-nil before) in
    let number : t.stream.number ≡ s.stream.number = ap (λ (x : Sending). x.stream.number) refuses.left in
    let nil : packets ++ [] ≡ packets = append-nil packets in
    record {
      more = [];
      entry = record { step = place; first = length packets; count = 0; fault = Some fault };
      sends = record {
        answer = Err fault;
        packetizer = t.packetizer;
        packetized = subst (λ (mtu : ℕ). PacketizerStep s.packetizer mtu sample.bytes (Err fault) t.packetizer) at.mtu step;
        not_memory = λ e. let memory : fault ≡ faults.OutOfMemory = cc in not_memory memory;
        entry_is = refl;
        packets = [];
        are = subst (λ (b : Bool). AreAs b [] []) (sym (packetizer_stays s.packetizer s.mtu sample.bytes (Err fault) t.packetizer step ∙ at.built_in)) tt;
        numbered = tt;
        few = subst (λ (ps : List Packet). length ps < 2 ^ 63) (sym nil) at.few;
        left = refl;
      };
      at = subst (IsAt stream budget start t after) (sym nil) record {
        mtu = ap (λ (x : Sending). x.mtu) refuses.left ∙ at.mtu;
        built_in = packetizer_stays s.packetizer s.mtu sample.bytes (Err fault) t.packetizer step ∙ at.built_in;
        kept = ap (λ (x : Sending). x.stream) refuses.left ∙ (at.kept ∙ ap (λ (n : ℕ). record stream { number = n }) (sym number));
        number = omega (arith, number, at.number);
        reads = subst (AreDatagrams stream packets) (sym same) at.reads;
        numbered = at.numbered;
        few = at.few;
      };
      times = ap (λ (ds : List (List ℕ)). replicate (length ds) (rtp_time_at stream.clock_rate sample.rtp_time)) (sym nothing);
    }

one_sample : (buffer : State) (stream : Outgoing) (budget start place : ℕ) (sample : Sample) (fault : Option PacketError) (s t : Sending) (before after : List (List ℕ)) (packets : List Packet)
    → start < 2 ^ 63 → IsAt stream budget start s before packets → after ≡ before ++ t.datagrams → length after < 2 ^ 63 → SendsOrRefuses (sent_sample sample) s fault t
    → SendsBoth buffer stream budget start place sample s t after packets
one_sample buffer stream budget start place sample None s t before after packets small at gained few sends = sent_both buffer stream budget start place sample s t
    before after packets small at gained few sends
one_sample buffer stream budget start place sample (Some fault) s t before after packets small at gained few refuses = refused_both buffer stream budget start place
    sample fault s t before after packets at gained refuses.0 refuses.1

-- Whole runs

-- over a run a payloader sends packets, and the datagrams read as these packets
pub record SendsRun (buffer : State) (stream : Outgoing) (budget start place : ℕ) (samples : List Sample) (all_steps : List DatagramStep) (s t : Wire) (packets : List Packet) : Type 0 where
  pub all : List Packet
  pub entries : List Sent
  pub runs : core.Runs samples place (sending_steps budget all_steps) (running buffer start stream.clock_rate s.sending packets) entries [] (running buffer start stream.clock_rate t.sending all)
  pub at : IsAt stream budget start t.sending t.datagrams all
  pub later : List SentSample
  pub sends_are : t.sends ≡ s.sends ++ later
  pub times : times_in all ≡ times_in packets ++ times_sent stream.clock_rate samples all_steps later

module _ (buffer : State) (stream : Outgoing) (budget start : ℕ) (small : start < 2 ^ 63) (samples : List Sample) where
  abbrev Goes : ℕ → List DatagramStep → Wire → Wire → List Packet → Type 0
  Goes place all_steps s t packets = SendsRun buffer stream budget start place samples all_steps s t packets

  abbrev At : Wire → List Packet → Type 0
  At s packets = IsAt stream budget start s.sending s.datagrams packets

  -- a step that leaves sender and datagrams unchanged
  at_same : (s mid : Wire) (packets : List Packet) → mid.sending ≡ s.sending → mid.datagrams ≡ s.datagrams → At s packets → At mid packets
  at_same s mid packets sending datagrams at =
      subst (λ (x : Sending). IsAt stream budget start x mid.datagrams packets) (sym sending) (subst (λ (ds : List (List ℕ)). IsAt stream budget start s.sending ds packets) (sym datagrams) at)

  -- a step that sends no sample is not a step of a payloader
  stays : (place : ℕ) (step : DatagramStep) (later : List DatagramStep) (s mid t : Wire) (packets : List Packet)
      → sending_steps budget (step ∷ later) ≡ sending_steps budget later → mid.sending ≡ s.sending → mid.sends ≡ s.sends
      → ((sends : List SentSample) → times_sent stream.clock_rate samples (step ∷ later) sends ≡ times_sent stream.clock_rate samples later sends)
      → Goes place later mid t packets → Goes place (step ∷ later) s t packets
  stays place step later s mid t packets none sending sends no_times goes = record {
    all = goes.all;
    entries = goes.entries;
    runs = subst (λ (ss : List Step). core.Runs samples place ss (running buffer start stream.clock_rate s.sending packets) goes.entries []
        (running buffer start stream.clock_rate t.sending goes.all)) (sym none)
        (subst (λ (x : Sending). core.Runs samples place (sending_steps budget later) (running buffer start stream.clock_rate x packets) goes.entries []
        (running buffer start stream.clock_rate t.sending goes.all)) sending goes.runs);
    at = goes.at;
    later = goes.later;
    sends_are = goes.sends_are ∙ ap (λ (es : List SentSample). es ++ goes.later) sends;
    times = goes.times ∙ ap (λ (ts : List ℕ). times_in packets ++ ts) (sym (no_times goes.later));
  }

  -- a step that sends
  sends_one : (o : Option Sample) (place i : ℕ) (later : List DatagramStep) (s mid t : Wire) (packets : List Packet) → slice_get samples i ≡ o → At s packets
      → MatchOption o (mid ≡ s) (λ sample. (entry : SentSample) × SendsIt sample s.sending s.datagrams entry mid.sending mid.datagrams
      × (mid ≡ record s { sending = mid.sending; datagrams = mid.datagrams; sends = s.sends ++ entry ∷ [] }))
      → ((more : List Packet) → At mid more → Goes (place + 1) later mid t more) → Goes place (steps.Send i ∷ later) s t packets
  sends_one None place i later s mid t packets is at same rest =
      let sending : mid.sending ≡ s.sending = ap (λ (x : Wire). x.sending) same in
      let goes = rest packets (at_same s mid packets sending (ap (λ (x : Wire). x.datagrams) same) at) in
      let c : RunState = running buffer start stream.clock_rate s.sending packets in
      let d : RunState = running buffer start stream.clock_rate mid.sending packets in
      let left : d ≡ c = ap (λ (x : Sending). running buffer start stream.clock_rate x packets) sending in
      record {
        all = goes.all;
        entries = goes.entries;
        runs = (
          [],
          goes.entries,
          [],
          [],
          d,
          refl,
          refl,
          (
            refl,
            subst (λ (o : Option Sample). MatchOption o (◌≡◌ {A = List Sent} [] [] × (d ≡ c))
                (λ sample. (entry : Sent) × ([] ≡ entry ∷ []) × core.SendsIt place budget sample c entry d)) (sym is) (refl, left),
          ),
          goes.runs,
        );
        at = goes.at;
        later = goes.later;
        sends_are = goes.sends_are ∙ ap (λ (x : Wire). x.sends ++ goes.later) same;
        times = goes.times ∙ ap (λ (o : Option Sample). times_in packets ++ (times_of stream.clock_rate o goes.later ++ times_sent stream.clock_rate samples later (sends_after o goes.later))) (sym is);
      }
  sends_one (Some sample) place i later s mid t packets is at done rest =
      let both = one_sample buffer stream budget start place sample done.0.fault s.sending mid.sending s.datagrams mid.datagrams packets small at done.1.gained done.1.few done.1.sends in
      let goes = rest (packets ++ both.more) both.at in
      let c : RunState = running buffer start stream.clock_rate s.sending packets in
      let d : RunState = running buffer start stream.clock_rate mid.sending (packets ++ both.more) in
      let one : List Sent = both.entry ∷ [] in
      record {
        all = goes.all;
        entries = both.entry ∷ goes.entries;
        runs = (
          one,
          goes.entries,
          [],
          [],
          d,
          refl,
          refl,
          (
            refl,
            subst (λ (o : Option Sample). MatchOption o ((one ≡ []) × (d ≡ c))
                (λ sample. (entry : Sent) × (one ≡ entry ∷ []) × core.SendsIt place budget sample c entry d)) (sym is) (both.entry, refl, both.sends),
          ),
          goes.runs,
        );
        at = goes.at;
        later = done.0 ∷ goes.later;
        sends_are = goes.sends_are ∙ (ap (λ (x : Wire). x.sends ++ goes.later) done.2 ∙ append_assoc s.sends (done.0 ∷ []) goes.later);
        times = goes.times ∙ (ap (λ (ts : List ℕ). ts ++ rest_times goes.later) (times_append packets both.more)
            ∙ (append_assoc (times_in packets) (times_in both.more) (rest_times goes.later)
            ∙ (ap (λ (ts : List ℕ). times_in packets ++ (ts ++ rest_times goes.later)) (both.times ∙ ap (λ (n : ℕ). replicate n (rtp_time_at stream.clock_rate sample.rtp_time)) (sym done.1.count))
            ∙ ap (λ (o : Option Sample). times_in packets ++ (times_of stream.clock_rate o (done.0 ∷ goes.later)
            ++ times_sent stream.clock_rate samples later (sends_after o (done.0 ∷ goes.later)))) (sym is))));
      }
    where
      rest_times : List SentSample → List ℕ
      rest_times sends = times_sent stream.clock_rate samples later sends

  -- a delivery leaves the sender and its datagrams unchanged
  delivery_leaves : (again : Option RetransmissionStream) (o : Option (List ℕ)) (now : Ticks) (s mid : Wire) → DeliversCopy again o now s mid
      → (mid.sending ≡ s.sending) × (mid.datagrams ≡ s.datagrams) × (mid.sends ≡ s.sends)
  delivery_leaves again None now s mid same = (ap (λ (x : Wire). x.sending) same, ap (λ (x : Wire). x.datagrams) same, ap (λ (x : Wire). x.sends) same)
  delivery_leaves again (Some datagram) now s mid done = (ap (λ (x : Wire). x.sending) done.5, ap (λ (x : Wire). x.datagrams) done.5, ap (λ (x : Wire). x.sends) done.5)

  pub sends_run : (again : Option RetransmissionStream) (place : ℕ) (all_steps : List DatagramStep) (s t : Wire) (packets : List Packet) → At s packets → Proceeds again samples all_steps s t → Goes place all_steps s t packets
  sends_run again place [] s t packets at run = record {
    all = packets;
    entries = [];
    runs = (refl, refl, ap (λ (x : Wire). running buffer start stream.clock_rate x.sending packets) run);
    at = at_same s t packets (ap (λ (x : Wire). x.sending) run) (ap (λ (x : Wire). x.datagrams) run) at;
    later = [];
    sends_are = ap (λ (x : Wire). x.sends) run ∙ sym (append-nil s.sends);
    times = sym (append-nil (times_in packets));
  }
  sends_run again place (steps.Send i ∷ later) s t packets at run =
      sends_one (slice_get samples i) place i later s run.0 t packets refl at run.1 (λ more next. sends_run again (place + 1) later run.0 t more next run.2)
  sends_run again place (steps.Deliver k now ∷ later) s t packets at run =
      let leaves = delivery_leaves again (slice_get s.datagrams k) now s run.0 run.1 in
      stays place (steps.Deliver k now) later s run.0 t packets refl leaves.0 leaves.2 (λ sends. refl) (sends_run again place later run.0 t packets (at_same s run.0 packets leaves.0 leaves.1 at) run.2)
  sends_run again place (steps.Pop now ∷ later) s t packets at run =
      let sending : run.0.sending ≡ s.sending = ap (λ (x : Wire). x.sending) run.1.4 in
      stays place (steps.Pop now) later s run.0 t packets refl sending (ap (λ (x : Wire). x.sends) run.1.4) (λ sends. refl) (sends_run again place later run.0 t packets (at_same s run.0 packets sending (ap (λ (x : Wire). x.datagrams) run.1.4) at) run.2)
  sends_run again place (steps.Finish ∷ later) s t packets at run =
      let sending : run.0.sending ≡ s.sending = ap (λ (x : Wire). x.sending) run.1.2 in
      stays place steps.Finish later s run.0 t packets refl sending (ap (λ (x : Wire). x.sends) run.1.2) (λ sends. refl) (sends_run again place later run.0 t packets (at_same s run.0 packets sending (ap (λ (x : Wire). x.datagrams) run.1.2) at) run.2)
