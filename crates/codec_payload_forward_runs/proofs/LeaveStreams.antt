-- The packets of VP8 that were not left out, with their picture ids moved, are the stream of the units of their frames.
use Rattle.std.proofs.Common.{◌≡◌, ◌≢◌, ◌∙◌, refl, sym, ap, subst, ℕ, suc, ◌+◌, ◌*◌, ◌%◌, ◌^◌, ◌<◌, ◌≤◌, List, [], ◌∷◌, ◌++◌, append-nil, append_assoc, length-append, Bool, true, false, cond, eqb, ltb, leb, ◌&&◌, ◌||◌, Option, Some, None, MatchOption, Result, Ok, Err, length, map, replicate, arith}
use Rattle.std.specs.Prelude.{not, slice_get, slice_index_or}
use Rattle.std.specs.Option.{option_map}
use Rattle.std.proofs.lemmas.Bool.{eq-eqb, lt-ltb, lt-leb, ne_eqb}
use Rattle.std.proofs.lemmas.List.{length-map, map-append}
use Rattle.std.proofs.lemmas.Option.{slice_get-map}
use Rattle.codec_payload_base.specs.Answers.{Lands, is_empty}
use Rattle.codec_payload_base.specs.StrippedValues.{stripped}
use Rattle.codec_payload_base.specs.declared.error.PacketError.{PacketError}
use Rattle.codec_payload_base.specs.declared.error.PacketError.TheVariants as faults
use Rattle.codec_payload_base.specs.declared.wire.Codec.{Codec}
use Rattle.codec_payload_base.specs.declared.wire.Codec.TheVariants as codecs
use Rattle.codec_payload_base.specs.declared.wire.Ticks.{Ticks}
use Rattle.codec_payload_base.specs.declared.wire.extension.ExtensionValues.{ExtensionValues}
use Rattle.codec_payload_buffer.specs.Steps.{State}
use Rattle.codec_payload_buffer_runs.proofs.units.SendsUnits.{SendsUnits, carry_on}
use Rattle.codec_payload_buffer_runs.proofs.units.StreamLemmas.{Streams}
use Rattle.codec_payload_buffer_runs.proofs.units.UnitTimes.{times_append, times_of_sample}
use Rattle.codec_payload_buffer_runs.proofs.units.UnitValues.{AllCarry, carried_by_sample, carry_append}
use Rattle.codec_payload_buffer_runs.specs.LawfulUnits.{AllLawful}
use Rattle.codec_payload_buffer_runs.specs.RunValues.{values_of_run, values_of_sample}
use Rattle.codec_payload_buffer_runs.specs.Schedule.{RunState, run_state}
use Rattle.codec_payload_buffer_runs.specs.SentStream.{AreReadable, SentUnit, packetizer_after_sample, packets_of, units_of_run, units_of_sample}
use Rattle.codec_payload_buffer_runs.specs.Units.{canonical_units, is_skipped, packetizer_after}
use Rattle.codec_payload_buffer_runs.specs.declared.run.Step.{Step}
use Rattle.codec_payload_buffer_runs.specs.declared.run.Step.TheVariants as run_steps
use Rattle.codec_payload_codec.specs.Depacketizers.{Vp8Payloads}
use Rattle.codec_payload_codec.specs.Packetizers.{PacketizerState, PacketizerStep, Vp8Packetizing, is_built_in, marker_of, talk_spurt_of}
use Rattle.codec_payload_datagram_runs.specs.HistoryReleases.{delivery_of}
use Rattle.codec_payload_datagram_runs.specs.Releases.{AreDatagrams, ReadsAs, sending_steps, sends_after, times_of, times_sent}
use Rattle.codec_payload_datagram_runs.specs.WireRuns.{Delivers, Receipt, SendsIt, SendsOrRefuses, Wire, sent_sample}
use Rattle.codec_payload_datagram_runs.specs.declared.run.DatagramStep.{DatagramStep}
use Rattle.codec_payload_datagram_runs.specs.declared.run.DatagramStep.TheVariants as seen
use Rattle.codec_payload_datagram_runs.specs.declared.run.SentSample.{SentSample}
use Rattle.codec_payload_payloader.specs.Packets.{AreNumbered, Packet}
use Rattle.codec_payload_receiver.specs.Sessions.{Session}
use Rattle.codec_payload_payloader.specs.Sending.{Sample, is_last, packet_for, packets_for, packets_from, rtp_time_at}
use Rattle.codec_payload_rtp.specs.RtpPackets.{Header}
use Rattle.codec_payload_sending.specs.Datagrams.{AreSent, IsSentAt, header_at, header_with}
use Rattle.codec_payload_sending.specs.Senders.{Sending, Sends}
use Rattle.codec_payload_sending.specs.declared.sender.Outgoing.{Outgoing}
use Rattle.codec_payload_sending_forward.specs.Forwarding.{Forward, payload_for}
use Rattle.codec_payload_sending_forward.specs.Numbers.{Falls, is_in}
use Rattle.codec_payload_sending_forward.specs.Vp8Numbers.{payload_as}
use Rattle.codec_payload_sending_forward.specs.declared.ids.IdOffsets.{IdOffsets}
use Rattle.codec_payload_vp8.specs.Vp8Sent.{advanced, header_size}
use Rattle.codec_payload_forward_runs.proofs.LeaveEvents.{DoesSend, Happens}
use Rattle.codec_payload_forward_runs.proofs.LeaveLists.{below_flat, closed_few, numbered}
use Rattle.codec_payload_forward_runs.proofs.LeaveSenders.{after_is, are_sent, left_beside, moves, mtu_stays, stream_at}
use Rattle.codec_payload_forward_runs.proofs.MovedVp8.{SendsMoved, sends_moved}
use Rattle.codec_payload_forward_runs.specs.ForwardReleases.{forwarded_by, viewer_sample, viewer_samples}
use Rattle.codec_payload_forward_runs.specs.ForwardRuns.{Hops}
use Rattle.codec_payload_forward_runs.specs.LeaveReleases.{AreWhole, Event, IsWhole, Offsets, closed, count_of, delivers, ends, entry_unless, forwards, ids_at, kept_sends, kept_steps, leaves, leaves_sample, place_of, pops, sends, step_unless}

-- Lists of packets

pub datagrams_append : (stream : Outgoing) (ps : List Packet) (ds : List (List ℕ)) (qs : List Packet) (es : List (List ℕ)) → AreDatagrams stream ps ds → AreDatagrams stream qs es → AreDatagrams stream (ps ++ qs) (ds ++ es)
datagrams_append stream [] [] qs es here more = more
datagrams_append stream [] (d ∷ ds) qs es here more = absurd here
datagrams_append stream (p ∷ ps) [] qs es here more = absurd here
datagrams_append stream (p ∷ ps) (d ∷ ds) qs es here more = (here.0, datagrams_append stream ps ds qs es here.1 more)

same_count : (stream : Outgoing) (ps : List Packet) (ds : List (List ℕ)) → AreDatagrams stream ps ds → length ps ≡ length ds
same_count stream [] [] are = refl
same_count stream [] (d ∷ ds) are = absurd are
same_count stream (p ∷ ps) [] are = absurd are
same_count stream (p ∷ ps) (d ∷ ds) are = ap suc (same_count stream ps ds are.1)

numbered_append : (n : ℕ) (ps qs : List Packet) → AreNumbered n ps → AreNumbered (n + length ps) qs → AreNumbered n (ps ++ qs)
numbered_append n [] qs here more = subst (λ (m : ℕ). AreNumbered m qs) (omega arith) more
numbered_append n (p ∷ ps) qs here more = (here.0, numbered_append (n + 1) ps qs here.1 (subst (λ (m : ℕ). AreNumbered m qs) (omega arith) more))

packets_append : (us vs : List SentUnit) → packets_of (us ++ vs) ≡ packets_of us ++ packets_of vs
packets_append [] vs = refl
packets_append (u ∷ us) vs = ap (λ (zs : List Packet). u.packets ++ zs) (packets_append us vs) ∙ sym (append_assoc u.packets (packets_of us) (packets_of vs))

lawful_append : (splits : Bool) (us vs : List SentUnit) → AllLawful Vp8Payloads splits us → AllLawful Vp8Payloads splits vs → AllLawful Vp8Payloads splits (us ++ vs)
lawful_append splits [] vs a b = b
lawful_append splits (u ∷ us) vs a b = (a.0, lawful_append splits us vs a.1 b)

-- the packets of a sample have consecutive numbers and one time
from_numbered : (packetizer : PacketizerState) (sample : Sample) (rtp_time number place : ℕ) (payloads : List (List ℕ)) → number + length payloads < 2 ^ 64
    → AreNumbered number (packets_from packetizer sample rtp_time number place payloads)
from_numbered packetizer sample rtp_time number place [] few = tt
from_numbered packetizer sample rtp_time number place (payload ∷ payloads) few =
    let next : (number + 1) % 2 ^ 64 ≡ number + 1 = omega arith in (
      refl,
      subst (λ (n : ℕ). AreNumbered n (packets_from packetizer sample rtp_time ((number + 1) % 2 ^ 64) (place + 1) payloads)) next
          (from_numbered packetizer sample rtp_time ((number + 1) % 2 ^ 64) (place + 1) payloads (omega arith)),
    )

from_count : (packetizer : PacketizerState) (sample : Sample) (rtp_time number place : ℕ) (payloads : List (List ℕ)) → length (packets_from packetizer sample rtp_time number place payloads) ≡ length payloads
from_count packetizer sample rtp_time number place [] = refl
from_count packetizer sample rtp_time number place (payload ∷ payloads) = ap suc (from_count packetizer sample rtp_time ((number + 1) % 2 ^ 64) (place + 1) payloads)

abbrev pub times_in : List Packet → List ℕ
times_in packets = map (λ (q : Packet). q.rtp_time) packets

from_times : (packetizer : PacketizerState) (sample : Sample) (rtp_time number place : ℕ) (payloads : List (List ℕ)) → times_in (packets_from packetizer sample rtp_time number place payloads) ≡ replicate (length payloads) rtp_time
from_times packetizer sample rtp_time number place [] = refl
from_times packetizer sample rtp_time number place (payload ∷ payloads) = ap (λ (ts : List ℕ). rtp_time ∷ ts) (from_times packetizer sample rtp_time ((number + 1) % 2 ^ 64) (place + 1) payloads)

pub packet_times : (ps qs : List Packet) → times_in (ps ++ qs) ≡ times_in ps ++ times_in qs
packet_times [] qs = refl
packet_times (p ∷ ps) qs = ap (λ (ts : List ℕ). p.rtp_time ∷ ts) (packet_times ps qs)

-- packets of VP8 do not depend on the id in the packetizer
same_from : (a b : Option ℕ) (sample : Sample) (rtp_time number place : ℕ) (payloads : List (List ℕ))
    → packets_from (Vp8Packetizing a) sample rtp_time number place payloads ≡ packets_from (Vp8Packetizing b) sample rtp_time number place payloads
same_from a b sample rtp_time number place [] = refl
same_from a b sample rtp_time number place (payload ∷ payloads) =
    ap (λ (qs : List Packet). packet_for (Vp8Packetizing a) sample rtp_time number (stripped sample.ext_vals place (place + 1 + length payloads)) (is_last payloads) payload ∷ qs)
    (same_from a b sample rtp_time ((number + 1) % 2 ^ 64) (place + 1) payloads)

-- The datagrams of a sample read as its packets

last_is : (place : ℕ) (payloads : List (List ℕ)) → eqb (place + 1) (place + 1 + length payloads) ≡ is_last payloads
last_is place [] = eq-eqb (place + 1) (place + 1 + 0) (omega arith)
last_is place (payload ∷ payloads) = ne_eqb (place + 1) (place + 1 + suc (length payloads)) (λ e. omega (arith, e))

abbrev headed : Outgoing → Bool → ℕ → ℕ → ExtensionValues → Header
headed stream marker number time values = header_with stream (record { marker = marker; number = number; time = time }) values

same_header : (stream : Outgoing) (m m' : Bool) (n n' t : ℕ) (values values' : ExtensionValues) → m ≡ m' → n ≡ n' → values ≡ values' → headed stream m n t values ≡ headed stream m' n' t values'
same_header stream m m' n n' t values values' e1 e2 e4 =
    ap (λ (b : Bool). headed stream b n t values) e1 ∙ (ap (λ (k : ℕ). headed stream m' k t values) e2 ∙ ap (λ (v : ExtensionValues). headed stream m' n' t v) e4)

sent_reads : (stream : Outgoing) (next : ℕ) (packetizer : PacketizerState) (sample : Sample) (count number place : ℕ) (payloads datagrams : List (List ℕ)) → is_built_in packetizer ≡ true → length datagrams ≡ length payloads
    → place + length payloads ≡ count → number + length payloads < 2 ^ 64 → number % 2 ^ 16 ≡ (next + place) % 2 ^ 16
    → ((i : ℕ) → i < length payloads → IsSentAt (record stream { number = next }) packetizer (sent_sample sample) count (place + i) (slice_index_or payloads i []) (slice_index_or datagrams i []))
    → AreDatagrams stream (packets_from packetizer sample (rtp_time_at stream.clock_rate sample.rtp_time) number place payloads) datagrams
sent_reads stream next packetizer sample count number place [] [] built same whole few low each = tt
sent_reads stream next packetizer sample count number place [] (d ∷ ds) built same whole few low each = absurd (omega (arith, same))
sent_reads stream next packetizer sample count number place (payload ∷ payloads) [] built same whole few low each = absurd (omega (arith, same))
sent_reads stream next packetizer sample count number place (payload ∷ payloads) (d ∷ ds) built same whole few low each =
    let first : IsSentAt (record stream { number = next }) packetizer (sent_sample sample) count place payload d =
    subst (λ (n : ℕ). IsSentAt (record stream { number = next }) packetizer (sent_sample sample) count n payload d) (omega arith) (each 0 (omega arith)) in
    let all : count ≡ place + 1 + length payloads = omega (arith, whole) in
    let q : Packet = packet_for packetizer sample (rtp_time_at stream.clock_rate sample.rtp_time) number (stripped sample.ext_vals place (place + 1 + length payloads)) (is_last payloads) payload in
    let marker : first.marker ≡ q.marker = first.marked built
    ∙ ap (λ (b : Bool). marker_of packetizer b || (talk_spurt_of packetizer && sample.start_of_talk_spurt)) (ap (eqb (place + 1)) all ∙ last_is place payloads) in
    let header : header_at (record stream { number = next }) (sent_sample sample) place count first.marker ≡ headed stream q.marker (q.number % 2 ^ 16) q.rtp_time q.ext_vals =
    same_header stream first.marker q.marker ((next + place) % 2 ^ 16) (q.number % 2 ^ 16) q.rtp_time _ q.ext_vals marker (sym low) (ap (stripped sample.ext_vals place) all) in
    let reads : ReadsAs stream q d = first.reads ∙ ap (λ (h : Header). Ok (record { header = h; payload = payload; padding = 0 })) header in
    let on : (number + 1) % 2 ^ 64 ≡ number + 1 = omega arith in (
      reads,
      sent_reads stream next packetizer sample count ((number + 1) % 2 ^ 64) (place + 1) payloads ds built (omega (arith, same)) (omega (arith, whole)) (omega (arith, on)) (omega (arith, on, low))
          (λ i l. subst (λ (n : ℕ). IsSentAt (record stream { number = next }) packetizer (sent_sample sample) count n (slice_index_or payloads i []) (slice_index_or ds i [])) (omega arith) (each (suc i) (omega (arith, l)))),
    )

-- The units of a frame do not depend on its id, if payloads have room for any id

size_few : (id : ℕ) → header_size (Some id) ≤ 4
size_few id = by (ltb id 128) refl
  where
    by : (b : Bool) → ltb id 128 ≡ b → header_size (Some id) ≤ 4
    by true e = rw e (omega arith)
    by false e = rw e (omega arith)

skips : (id mtu : ℕ) (frame : List ℕ) → 4 < mtu → is_skipped (Vp8Packetizing (Some id)) mtu frame ≡ is_empty frame
skips id mtu frame roomy = ap (λ (b : Bool). is_empty frame || b) (roomy_not id mtu roomy) ∙ or_false (is_empty frame)
  where
    roomy_not : (id mtu : ℕ) → 4 < mtu → leb mtu (header_size (Some id)) ≡ false
    roomy_not id mtu roomy = lt-leb mtu (header_size (Some id)) (omega (arith, roomy, size_few id))

    or_false : (b : Bool) → (b || false) ≡ b
    or_false true = refl
    or_false false = refl

pub same_canonical : (a b mtu : ℕ) (frame : List ℕ) → 4 < mtu → canonical_units (Vp8Packetizing (Some a)) mtu frame ≡ canonical_units (Vp8Packetizing (Some b)) mtu frame
same_canonical a b mtu frame roomy =
    ap (λ (x : Bool). cond (x || false) [] (((frame ∷ []) ∷ []))) (skips a mtu frame roomy ∙ sym (skips b mtu frame roomy))

pub next_is : (gave : Bool) (id : ℕ) → (next : ℕ) × (advanced gave (Some id) ≡ Some next)
next_is true id = ((id + 1) % 2 ^ 15, refl)
next_is false id = (id, refl)

pub refused_as : (answer : Result (List (List ℕ)) PacketError) (fault : PacketError) → fault ≢ faults.OutOfMemory → Lands answer (Err fault) [] → answer ≡ Err fault
refused_as (Ok packets) fault not_memory lands = absurd (not_memory lands)
refused_as (Err other) fault not_memory lands = let same : fault ≡ other = cc in ap (λ (f : PacketError). Err f) (sym same)

-- a packetizer of VP8 refuses no frame
pub never_refuses : (id mtu : ℕ) (frame : List ℕ) (fault : PacketError) (after : PacketizerState) → fault ≢ faults.OutOfMemory → PacketizerStep (Vp8Packetizing (Some id)) mtu frame (Err fault) after → ⊥
never_refuses id mtu frame fault after not_memory step = not_memory step.2.0.0

all_readable : (id : Option ℕ) (samples : List Sample) → AreReadable (Vp8Packetizing id) samples
all_readable id [] = tt
all_readable id (sample ∷ samples) = (refl, all_readable id samples)

pub entries_count : (entry : Option SentSample) (what : Option Sample) (s mid : Hops) → DoesSend what entry s mid → length mid.wire.datagrams ≡ length s.wire.datagrams + count_of entry
entries_count None None s mid same = ap (λ (x : Hops). length x.wire.datagrams) same ∙ omega arith
entries_count (Some entry) None s mid does = absurd does
entries_count None (Some sample) s mid does = absurd does
entries_count (Some entry) (Some sample) s mid does = ap length does.0.gained ∙ (length-append s.wire.datagrams mid.wire.sending.datagrams ∙ ap (λ (n : ℕ). length s.wire.datagrams + n) (sym does.0.count))

-- Whole runs

module _ (e : Forward) (fits_type : e.settings.payload_type < 128) (fits_ssrc : e.settings.ssrc < 2 ^ 32) (rate : ℕ) (some : 0 < rate) (o : Offsets) (vp8 : e.settings.codec ≡ codecs.Vp8) (gone : List ℕ)
    (pictures : Falls o.pictures) (among : (k : ℕ) → is_in k o.pictures ≡ true → is_in k gone ≡ true) (samples : List Sample) (mtu : ℕ) (roomy : 4 < mtu) (buffer : State) (start : ℕ) (small : start < 2 ^ 63)
    (low : o.number % 65536 ≡ start % 65536) where
  abbrev shown : List (List ℕ) → List (List ℕ)
  shown = closed e o gone 0 o.number

  abbrev pub stream : Outgoing
  stream = stream_at e fits_type fits_ssrc rate some o (o.number % 65536)

  abbrev all_samples : List Sample
  all_samples = viewer_samples e rate samples

  -- a sample as the viewer gets it
  abbrev seen_sample : Sample → Sample
  seen_sample = viewer_sample e rate

  abbrev time_of : Sample → ℕ
  time_of sample = rtp_time_at rate (viewer_sample e rate sample).rtp_time

  -- a payloader that has sent these packets
  abbrev pub state : ℕ → List Packet → RunState
  state id packets = run_state (record { packetizer = Vp8Packetizing (Some id); clock_rate = rate }) buffer (record { first = start; packets = packets })

  -- One sample that was not left out

  -- its payloads are moved by the same offsets
  moves_flat : (first : ℕ) (xs : List (List ℕ)) (k : ℕ) → ((i : ℕ) → i < length xs → ids_at o (k + i) ≡ ids_at o first) → moves e fits_type fits_ssrc rate some o k xs ≡ map (payload_as (ids_at o first)) xs
  moves_flat first [] k flat = refl
  moves_flat first (x ∷ xs) k flat =
      let here : ids_at o k ≡ ids_at o first = ap (ids_at o) (omega arith) ∙ flat 0 (omega arith) in
      let one : payload_for e.settings.codec (ids_at o k) x ≡ payload_as (ids_at o first) x =
      ap (λ (c : Codec). payload_for c (ids_at o k) x) vp8 ∙ ap (λ (ids : IdOffsets). payload_as ids x) here in
      ap (λ (y : List ℕ). y ∷ moves e fits_type fits_ssrc rate some o (k + 1) xs) one
      ∙ ap (λ (ys : List (List ℕ)). payload_as (ids_at o first) x ∷ ys) (moves_flat first xs (k + 1) (λ i l. ap (ids_at o) (omega arith) ∙ flat (suc i) (omega (arith, l))))

  not_picture : (k : ℕ) → is_in k gone ≡ false → is_in k o.pictures ≡ false
  not_picture k kept = by (is_in k o.pictures) refl
    where
      by : (b : Bool) → is_in k o.pictures ≡ b → is_in k o.pictures ≡ false
      by true is = absurd (let there : is_in k gone ≡ true = among k is in cc)
      by false is = is

  ids_flat : (first count : ℕ) → ((place : ℕ) → place < count → is_in (first + place) gone ≡ false) → (i : ℕ) → i < count → ids_at o (first + i) ≡ ids_at o first
  ids_flat first count kept i l =
      ap (λ (n : ℕ). record o.ids { picture = (o.ids.picture + 65535 * n) % 65536 }) (below_flat o.pictures first i pictures (λ j m. not_picture (first + j) (kept j (omega (arith, l, m)))))

  pub record Kept (sample : Sample) (t : Sending) (first : ℕ) (before : List (List ℕ)) (seen_id : ℕ) (packets : List Packet) : Type 0 where
    pub more : List Packet
    pub reads : AreDatagrams stream more (numbered e o gone first (o.number + length before) t.datagrams)
    pub numbers : AreNumbered (start + length packets) more
    pub times : times_in more ≡ replicate (length t.datagrams) (time_of sample)
    pub id : ℕ
    pub own : t.packetizer ≡ Vp8Packetizing (Some id)
    pub next : ℕ
    pub after : packetizer_after (Vp8Packetizing (Some seen_id)) mtu (seen_sample sample).bytes ≡ Vp8Packetizing (Some next)
    pub payloads : List (List ℕ)
    pub are : more ≡ packets_for (Vp8Packetizing (Some next)) (seen_sample sample) (time_of sample) (start + length packets) payloads
    pub units : SendsUnits (Vp8Packetizing (Some seen_id)) mtu (seen_sample sample) (time_of sample) (start + length packets) payloads (Vp8Packetizing (Some next))

  kept_one : (sample : Sample) (s t : Sending) (first : ℕ) (before : List (List ℕ)) (id seen_id : ℕ) (packets : List Packet) → s.packetizer ≡ Vp8Packetizing (Some id) → s.mtu ≡ mtu → s.stream.clock_rate ≡ rate
      → AreDatagrams stream packets before → length packets + length t.datagrams < 2 ^ 63 → ((place : ℕ) → place < length t.datagrams → is_in (first + place) gone ≡ false) → Sends s (sent_sample sample) t
      → Kept sample t first before seen_id packets
  kept_one sample s t first before id seen_id packets own mtu_is clock reads few kept made =
      let c : ℕ = length before in
      let number : ℕ = start + length packets in
      let next : ℕ = (o.number + c) % 65536 in
      let step : PacketizerStep (Vp8Packetizing (Some id)) mtu (seen_sample sample).bytes (Ok made.payloads) t.packetizer =
      subst (λ (m : ℕ). PacketizerStep (Vp8Packetizing (Some id)) m sample.bytes (Ok made.payloads) t.packetizer) mtu_is
      (subst (λ (p : PacketizerState). PacketizerStep p s.mtu sample.bytes (Ok made.payloads) t.packetizer) own (made.packetized (ap is_built_in own))) in
      let ids : IdOffsets = ids_at o first in
      let one : SendsMoved ids id mtu (seen_sample sample) (time_of sample) number (Ok made.payloads) t.packetizer =
      sends_moved ids id mtu (seen_sample sample) (time_of sample) number (Ok made.payloads) t.packetizer step (λ fault. cc) in
      let payloads : List (List ℕ) = map (payload_as ids) made.payloads in
      let flat : moves e fits_type fits_ssrc rate some o first made.payloads ≡ payloads = moves_flat first made.payloads first (ids_flat first (length made.payloads) (λ place l. kept place (omega (arith, l, made.sent.0)))) in
      let size : length payloads ≡ length t.datagrams = length-map made.payloads (payload_as ids) ∙ sym made.sent.0 in
      let count : length packets ≡ c = same_count stream packets before reads in
      let more : List Packet = packets_for (Vp8Packetizing (Some one.next)) (seen_sample sample) (time_of sample) number payloads in
      let are : AreSent (record stream { number = next }) (Vp8Packetizing (Some one.next)) (sent_sample (seen_sample sample)) payloads (numbered e o gone first (o.number + c) t.datagrams) =
      subst (λ (xs : List (List ℕ)). AreSent (record stream { number = next }) (Vp8Packetizing (Some one.next)) (sent_sample (seen_sample sample)) xs (numbered e o gone first (o.number + c) t.datagrams)) flat
      (are_sent e fits_type fits_ssrc rate some o s.stream clock sample gone first next (o.number + c) refl t.packetizer (Vp8Packetizing (Some one.next)) (λ _. one.left) made.payloads t.datagrams made.sent) in
      let goes = next_is (not (is_skipped (Vp8Packetizing (Some seen_id)) mtu (seen_sample sample).bytes)) seen_id in
      let seen_after : packetizer_after (Vp8Packetizing (Some seen_id)) mtu (seen_sample sample).bytes ≡ Vp8Packetizing (Some goes.0) = ap Vp8Packetizing goes.1 in
      let same_packets : more ≡ packets_for (Vp8Packetizing (Some goes.0)) (seen_sample sample) (time_of sample) number payloads =
      same_from (Some one.next) (Some goes.0) (seen_sample sample) (time_of sample) number 0 payloads in
      let units : SendsUnits (Vp8Packetizing (Some id)) mtu (seen_sample sample) (time_of sample) number payloads t.packetizer = one.units in
      record {
        more = more;
        reads = sent_reads stream next (Vp8Packetizing (Some one.next)) (seen_sample sample) (length payloads) number 0 payloads (numbered e o gone first (o.number + c) t.datagrams) refl are.0 (omega arith)
            (omega (arith, small, size, few)) (omega (arith, count, low))
            (λ i l. subst (λ (n : ℕ).
            IsSentAt (record stream { number = next }) (Vp8Packetizing (Some one.next)) (sent_sample (seen_sample sample)) (length payloads) n (slice_index_or payloads i [])
            (slice_index_or (numbered e o gone first (o.number + c) t.datagrams) i []))
            (omega arith) (are.1 i l));
        numbers = from_numbered (Vp8Packetizing (Some one.next)) (seen_sample sample) (time_of sample) number 0 payloads (omega (arith, small, size, few));
        times = from_times (Vp8Packetizing (Some one.next)) (seen_sample sample) (time_of sample) number 0 payloads ∙ ap (λ (n : ℕ). replicate n (time_of sample)) size;
        id = one.next;
        own = one.left;
        next = goes.0;
        after = seen_after;
        payloads = payloads;
        are = same_packets;
        units = record {
          units = units.units;
          canonical = units.canonical ∙ same_canonical id seen_id mtu (seen_sample sample).bytes roomy;
          packets = units.packets
              ∙ (ap (λ (p : PacketizerState). packets_for p (seen_sample sample) (time_of sample) number payloads) one.left ∙ same_packets);
          lawful = λ _. units.lawful refl;
          ids = units.ids;
          ids_go_on = λ m. refl;
          goes_on = sym seen_after;
        };
      }

  -- A run, from a state in which the sender has sent these packets

  pub record IsAt (s : Hops) (packets : List Packet) : Type 0 where
    pub id : ℕ
    pub own : s.wire.sending.packetizer ≡ Vp8Packetizing (Some id)
    pub mtu_is : s.wire.sending.mtu ≡ mtu
    pub clock : s.wire.sending.stream.clock_rate ≡ rate
    pub reads : AreDatagrams stream packets (closed e o gone 0 o.number s.wire.datagrams)
    pub numbers : AreNumbered start packets
    pub few : length s.wire.datagrams < 2 ^ 63

  pub record Comes (all_steps : List DatagramStep) (entries : List SentSample) (t : Hops) (seen_id : ℕ) (packets : List Packet) : Type 0 where
    pub last : ℕ
    pub all : List Packet
    pub reads : AreDatagrams stream all (closed e o gone 0 o.number t.wire.datagrams)
    pub numbers : AreNumbered start all
    pub few : length all < 2 ^ 63
    pub times : times_in all ≡ times_in packets ++ times_sent rate all_samples all_steps entries
    pub streams : Streams all_samples (sending_steps mtu all_steps) (state seen_id packets) (state last all)

  -- steps that send nothing
  quiet_comes : (step : DatagramStep) (all_steps : List DatagramStep) (entries : List SentSample) (t : Hops) (seen_id : ℕ) (packets : List Packet)
      → sending_steps mtu (step ∷ all_steps) ≡ sending_steps mtu all_steps → times_sent rate all_samples (step ∷ all_steps) entries ≡ times_sent rate all_samples all_steps entries
      → Comes all_steps entries t seen_id packets → Comes (step ∷ all_steps) entries t seen_id packets
  quiet_comes step all_steps entries t seen_id packets steps_are times_are rest = record {
    last = rest.last;
    all = rest.all;
    reads = rest.reads;
    numbers = rest.numbers;
    few = rest.few;
    times = rest.times ∙ ap (λ (ts : List ℕ). times_in packets ++ ts) (sym times_are);
    streams = subst (λ (ss : List Step). Streams all_samples ss (state seen_id packets) (state rest.last rest.all)) (sym steps_are) rest.streams;
  }

  delivery_comes : (k : Option ℕ) (now : Ticks) (all_steps : List DatagramStep) (entries : List SentSample) (t : Hops) (seen_id : ℕ) (packets : List Packet) → Comes all_steps entries t seen_id packets
      → Comes (delivery_of k now ++ all_steps) entries t seen_id packets
  delivery_comes None now all_steps entries t seen_id packets rest = rest
  delivery_comes (Some k) now all_steps entries t seen_id packets rest = quiet_comes (seen.Deliver k now) all_steps entries t seen_id packets refl refl rest

  -- a sample that is not there
  none_comes : (i : ℕ) (all_steps : List DatagramStep) (entries : List SentSample) (t : Hops) (seen_id : ℕ) (packets : List Packet) → slice_get all_samples i ≡ None → Comes all_steps entries t seen_id packets
      → Comes (seen.Send i ∷ all_steps) entries t seen_id packets
  none_comes i all_steps entries t seen_id packets none rest =
      let p : PacketizerState = Vp8Packetizing (Some seen_id) in
      let later : List Step = sending_steps mtu all_steps in
      record {
        last = rest.last;
        all = rest.all;
        reads = rest.reads;
        numbers = rest.numbers;
        few = rest.few;
        times = rest.times ∙ ap (λ (ts : List ℕ). times_in packets ++ ts)
            (sym (ap (λ (x : Option Sample). times_of rate x entries ++ times_sent rate all_samples all_steps (sends_after x entries)) none));
        streams = record {
          units = rest.streams.units;
          canonical = rest.streams.canonical ∙ sym (ap (λ (x : Option Sample). units_of_sample p mtu x ++ units_of_run (packetizer_after_sample p mtu x) all_samples later) none);
          gained = rest.streams.gained;
          lawful = rest.streams.lawful;
          one_time = rest.streams.one_time;
          numbered = rest.streams.numbered;
          ids = rest.streams.ids;
          few = rest.streams.few;
          first = rest.streams.first;
          values = λ video. subst (λ (vs : List ExtensionValues). AllCarry vs rest.streams.units)
              (sym (ap (λ (x : Option Sample). values_of_sample p mtu x ++ values_of_run (packetizer_after_sample p mtu x) all_samples later) none)) (rest.streams.values video);
        };
      }

  -- a sample that was not left out
  kept_comes : (i : ℕ) (sample : Sample) (entry : SentSample) (all_steps : List DatagramStep) (entries : List SentSample) (mid : Sending) (first : ℕ) (before : List (List ℕ)) (t : Hops) (seen_id : ℕ) (packets : List Packet)
      → slice_get all_samples i ≡ Some (seen_sample sample) → entry.count ≡ length mid.datagrams → AreNumbered start packets → (k : Kept sample mid first before seen_id packets)
      → Comes all_steps entries t k.next (packets ++ k.more) → Comes (seen.Send i ∷ all_steps) (entry ∷ entries) t seen_id packets
  kept_comes i sample entry all_steps entries mid first before t seen_id packets there count numbers k rest =
      let p : PacketizerState = Vp8Packetizing (Some seen_id) in
      let q : PacketizerState = Vp8Packetizing (Some k.next) in
      let one : Sample = seen_sample sample in
      let later : List Step = sending_steps mtu all_steps in
      let here : SendsUnits p mtu one (time_of sample) (start + length packets) k.payloads q = k.units in
      let sent : packets_of here.units ≡ k.more = here.packets ∙ sym k.are in
      let whole : units_of_run p all_samples (run_steps.Send i mtu ∷ later) ≡ canonical_units p mtu one.bytes ++ units_of_run q all_samples later =
      ap (λ (x : Option Sample). units_of_sample p mtu x ++ units_of_run (packetizer_after_sample p mtu x) all_samples later) there
      ∙ ap (λ (x : PacketizerState). canonical_units p mtu one.bytes ++ units_of_run x all_samples later) k.after in
      let values_are : values_of_run p all_samples (run_steps.Send i mtu ∷ later) ≡ values_of_sample p mtu (Some one) ++ values_of_run q all_samples later =
      ap (λ (x : Option Sample). values_of_sample p mtu x ++ values_of_run (packetizer_after_sample p mtu x) all_samples later) there
      ∙ ap (λ (x : PacketizerState). values_of_sample p mtu (Some one) ++ values_of_run x all_samples later) k.after in
      let next : start + length (packets ++ k.more) ≡ start + length packets + length k.more = omega (arith, length-append packets k.more) in
      let units : List SentUnit = here.units ++ rest.streams.units in
      let all_are : packets_of units ≡ k.more ++ packets_of rest.streams.units = packets_append here.units rest.streams.units ∙ ap (λ (qs : List Packet). qs ++ packets_of rest.streams.units) sent in
      let times_here : times_in (packets ++ k.more) ≡ times_in packets ++ replicate entry.count (time_of sample) =
      packet_times packets k.more ∙ (ap (λ (ts : List ℕ). times_in packets ++ ts) k.times ∙ ap (λ (n : ℕ). times_in packets ++ replicate n (time_of sample)) (sym count)) in
      record {
        last = rest.last;
        all = rest.all;
        reads = rest.reads;
        numbers = rest.numbers;
        few = rest.few;
        times = rest.times
            ∙ (ap (λ (ts : List ℕ). ts ++ times_sent rate all_samples all_steps entries) times_here
            ∙ (append_assoc (times_in packets) (replicate entry.count (time_of sample)) (times_sent rate all_samples all_steps entries)
            ∙ ap (λ (ts : List ℕ). times_in packets ++ ts)
            (sym (ap (λ (x : Option Sample). times_of rate x (entry ∷ entries) ++ times_sent rate all_samples all_steps (sends_after x (entry ∷ entries))) there))));
        streams = record {
          units = units;
          canonical = map-append (λ (u : SentUnit). u.parts) here.units rest.streams.units
              ∙ (ap (λ (us : List (List (List ℕ))). us ++ map (λ (u : SentUnit). u.parts) rest.streams.units) here.canonical
              ∙ (ap (λ (us : List (List (List ℕ))). canonical_units p mtu one.bytes ++ us) rest.streams.canonical ∙ sym whole));
          gained = rest.streams.gained ∙ (append_assoc packets k.more (packets_of rest.streams.units) ∙ ap (λ (qs : List Packet). packets ++ qs) (sym all_are));
          lawful = λ _. lawful_append false here.units rest.streams.units (here.lawful refl) (rest.streams.lawful (all_readable (Some k.next) (viewer_samples e rate samples)));
          one_time = times_append here.units rest.streams.units (times_of_sample q one (time_of sample) (start + length packets) k.payloads here.units here.packets) rest.streams.one_time;
          numbered = rw all_are (numbered_append (start + length packets) k.more (packets_of rest.streams.units) k.numbers (subst (λ (n : ℕ). AreNumbered n (packets_of rest.streams.units)) next rest.streams.numbered));
          ids = carry_on None None here.units rest.streams.units here.ids (λ m. refl) rest.streams.ids;
          few = λ _. rest.few;
          first = rest.streams.first;
          values = λ video. subst (λ (vs : List ExtensionValues). AllCarry vs units) (sym values_are)
              (carry_append (values_of_sample p mtu (Some one)) (values_of_run q all_samples later) here.units rest.streams.units
              (carried_by_sample p q mtu one (time_of sample) (start + length packets) k.payloads here.units video here.canonical here.packets) (rest.streams.values video));
        };
      }

  -- none of the datagrams of a kept sample was left out
  kept_at_place : (first count : ℕ) → leaves_sample gone first count ≡ false → IsWhole gone first count → (place : ℕ) → place < count → is_in (first + place) gone ≡ false
  kept_at_place first count kept whole place l =
      let there : ltb 0 count ≡ true = lt-ltb 0 count (omega (arith, l)) in
      let here : is_in first gone ≡ false = sym (ap (λ (b : Bool). b && is_in first gone) there) ∙ kept in
      whole place l ∙ here

  and_true : (b c : Bool) → (b && c) ≡ true → c ≡ true
  and_true true c is = is
  and_true false c is = absurd (cc)

  -- the states around a sample

  sent_at_mid : (sample : Sample) (entry : SentSample) (s mid : Hops) (id : ℕ) → (own : s.wire.sending.packetizer ≡ Vp8Packetizing (Some id)) → SendsIt sample s.wire.sending s.wire.datagrams entry mid.wire.sending mid.wire.datagrams
      → Sends s.wire.sending (sent_sample sample) mid.wire.sending
  sent_at_mid sample entry s mid id own made = by entry.fault made.sends
    where
      by : (fault : Option PacketError) → SendsOrRefuses (sent_sample sample) s.wire.sending fault mid.wire.sending → Sends s.wire.sending (sent_sample sample) mid.wire.sending
      by None does = does
      by (Some fault) refuses =
          let step = refuses.1.packetized (ap is_built_in own) in
          let is : step.0 ≡ Err fault = refused_as step.0 fault refuses.0 step.2 in
          absurd (never_refuses id s.wire.sending.mtu sample.bytes fault mid.wire.sending.packetizer refuses.0
          (subst (λ (p : PacketizerState). PacketizerStep p s.wire.sending.mtu sample.bytes (Err fault) mid.wire.sending.packetizer) own
          (subst (λ (a : Result (List (List ℕ)) PacketError). PacketizerStep s.wire.sending.packetizer s.wire.sending.mtu sample.bytes a mid.wire.sending.packetizer) is step.1)))

  -- the packetizer of the run goes on
  own_next : (sample : Sample) (s t : Sending) (id : ℕ) → s.packetizer ≡ Vp8Packetizing (Some id) → Sends s (sent_sample sample) t → (next : ℕ) × (t.packetizer ≡ Vp8Packetizing (Some next))
  own_next sample s t id own made =
      let step : PacketizerStep (Vp8Packetizing (Some id)) s.mtu sample.bytes (Ok made.payloads) t.packetizer =
      subst (λ (p : PacketizerState). PacketizerStep p s.mtu sample.bytes (Ok made.payloads) t.packetizer) own (made.packetized (ap is_built_in own)) in
      let one : SendsMoved o.ids id s.mtu sample 0 0 (Ok made.payloads) t.packetizer = sends_moved o.ids id s.mtu sample 0 0 (Ok made.payloads) t.packetizer step (λ fault. cc) in
      (one.next, one.left)

  -- a sample
  pub send_comes : (i : ℕ) (what : Option Sample) (entry : Option SentSample) (left : Bool) (all_steps : List DatagramStep) (entries : List SentSample) (s mid t : Hops) (seen_id : ℕ) (packets : List Packet)
      → slice_get samples i ≡ what → leaves_sample gone (length s.wire.datagrams) (count_of entry) ≡ left → IsWhole gone (length s.wire.datagrams) (count_of entry) → IsAt s packets → DoesSend what entry s mid
      → ((next : ℕ) (qs : List Packet) → IsAt mid qs → Comes all_steps entries t next qs)
      → Comes (step_unless left i ++ all_steps) (entry_unless left entry ++ entries) t seen_id packets
  send_comes i None None true all_steps entries s mid t seen_id packets is left_is whole at same rest = absurd (cc)
  send_comes i None None false all_steps entries s mid t seen_id packets is left_is whole at same rest =
      none_comes i all_steps entries t seen_id packets (slice_get-map (viewer_sample e rate) samples i ∙ ap (option_map (viewer_sample e rate)) is)
      (rest seen_id packets (subst (λ (x : Hops). IsAt x packets) (sym same) at))
  send_comes i None (Some entry) left all_steps entries s mid t seen_id packets is left_is whole at does rest = absurd does
  send_comes i (Some sample) None left all_steps entries s mid t seen_id packets is left_is whole at does rest = absurd does
  send_comes i (Some sample) (Some entry) true all_steps entries s mid t seen_id packets is left_is whole at does rest =
      let made = sent_at_mid sample entry s mid at.id at.own does.0 in
      let next = own_next sample s.wire.sending mid.wire.sending at.id at.own made in
      let first : is_in (length s.wire.datagrams) gone ≡ true = and_true (ltb 0 entry.count) (is_in (length s.wire.datagrams) gone) left_is in
      let nothing : shown mid.wire.datagrams ≡ shown s.wire.datagrams =
      left_beside e fits_type fits_ssrc rate some o gone s.wire.datagrams mid.wire.sending.datagrams mid.wire.datagrams does.0.gained (λ place l. whole place (omega (arith, l, does.0.count)) ∙ first) in
      rest seen_id packets (record {
        id = next.0;
        own = next.1;
        mtu_is = mtu_stays sample s.wire.sending mid.wire.sending entry.fault does.0.sends ∙ at.mtu_is;
        clock = ap (λ (x : Sending). x.stream.clock_rate) made.left ∙ at.clock;
        reads = subst (AreDatagrams stream packets) (sym nothing) at.reads;
        numbers = at.numbers;
        few = does.0.few;
      })
  send_comes i (Some sample) (Some entry) false all_steps entries s mid t seen_id packets is left_is whole at does rest =
      let made = sent_at_mid sample entry s mid at.id at.own does.0 in
      let d : List (List ℕ) = s.wire.datagrams in
      let new : List (List ℕ) = mid.wire.sending.datagrams in
      let kept : (place : ℕ) → place < length new → is_in (length d + place) gone ≡ false = λ place l. kept_at_place (length d) entry.count left_is whole place (omega (arith, l, does.0.count)) in
      let count : length packets ≡ length (shown d) = same_count stream packets (shown d) at.reads in
      let sum : length mid.wire.datagrams ≡ length d + length new = ap length does.0.gained ∙ length-append d new in
      let room : length packets + length new < 2 ^ 63 = omega (arith, count, closed_few e o gone d 0 o.number, sum, does.0.few) in
      let k : Kept sample mid.wire.sending (length d) (shown d) seen_id packets =
      kept_one sample s.wire.sending mid.wire.sending (length d) (shown d) at.id seen_id packets at.own at.mtu_is at.clock at.reads room kept made in
      let whole_is : shown mid.wire.datagrams ≡ shown d ++ numbered e o gone (length d) (o.number + length (shown d)) new = after_is e fits_type fits_ssrc rate some o gone d new mid.wire.datagrams does.0.gained kept in
      let there : slice_get all_samples i ≡ Some (viewer_sample e rate sample) = slice_get-map (viewer_sample e rate) samples i ∙ ap (option_map (viewer_sample e rate)) is in
      kept_comes i sample entry all_steps entries mid.wire.sending (length d) (shown d) t seen_id packets there does.0.count at.numbers k
      (rest k.next (packets ++ k.more) (record {
        id = k.id;
        own = k.own;
        mtu_is = mtu_stays sample s.wire.sending mid.wire.sending entry.fault does.0.sends ∙ at.mtu_is;
        clock = ap (λ (x : Sending). x.stream.clock_rate) made.left ∙ at.clock;
        reads = subst (AreDatagrams stream (packets ++ k.more)) (sym whole_is) (datagrams_append stream packets (shown d) k.more (numbered e o gone (length d) (o.number + length (shown d)) new) at.reads k.reads);
        numbers = numbered_append start packets k.more at.numbers k.numbers;
        few = does.0.few;
      }))

  -- a state with the same sender
  same_at : (s mid : Hops) (packets : List Packet) → mid.wire.sending ≡ s.wire.sending → mid.wire.datagrams ≡ s.wire.datagrams → IsAt s packets → IsAt mid packets
  same_at s mid packets sending datagrams at = record {
    id = at.id;
    own = ap (λ (x : Sending). x.packetizer) sending ∙ at.own;
    mtu_is = ap (λ (x : Sending). x.mtu) sending ∙ at.mtu_is;
    clock = ap (λ (x : Sending). x.stream.clock_rate) sending ∙ at.clock;
    reads = subst (λ (ds : List (List ℕ)). AreDatagrams stream packets (shown ds)) (sym datagrams) at.reads;
    numbers = at.numbers;
    few = subst (λ (ds : List (List ℕ)). length ds < 2 ^ 63) (sym datagrams) at.few;
  }

  delivered_wire : (now : Ticks) (what : Option (List ℕ)) (s mid : Hops)
      → MatchOption what (mid ≡ s) (λ bytes. (receipt : Receipt) × (session : Session) × Delivers now bytes s.wire.session receipt session
      × (mid ≡ record s { wire = record s.wire { session = session; receipts = s.wire.receipts ++ receipt ∷ [] } }))
      → (mid.wire.sending ≡ s.wire.sending) × (mid.wire.datagrams ≡ s.wire.datagrams)
  delivered_wire now None s mid same = (ap (λ (x : Hops). x.wire.sending) same, ap (λ (x : Hops). x.wire.datagrams) same)
  delivered_wire now (Some bytes) s mid done = (ap (λ (x : Hops). x.wire.sending) done.3, ap (λ (x : Hops). x.wire.datagrams) done.3)

  pub comes : (all_events : List Event) (s t : Hops) (forwarded : List ℕ) (seen_id : ℕ) (packets : List Packet) → IsAt s packets → AreWhole gone (length s.wire.datagrams) all_events → Happens samples all_events s t
      → Comes (kept_steps gone (length s.wire.datagrams) forwarded all_events) (kept_sends gone (length s.wire.datagrams) all_events) t seen_id packets
  comes [] s t forwarded seen_id packets at whole run = record {
    last = seen_id;
    all = packets;
    reads = subst (λ (x : Hops). AreDatagrams stream packets (shown x.wire.datagrams)) (sym run) at.reads;
    numbers = at.numbers;
    few = omega (arith, same_count stream packets (shown s.wire.datagrams) at.reads, closed_few e o gone s.wire.datagrams 0 o.number, at.few);
    times = sym (append-nil (times_in packets));
    streams = record {
      units = [];
      canonical = refl;
      gained = sym (append-nil packets);
      lawful = λ _. tt;
      one_time = tt;
      numbered = tt;
      ids = tt;
      few = λ few. few;
      first = refl;
      values = λ video. tt;
    };
  }
  comes (sends i entry ∷ later) s t forwarded seen_id packets at whole run =
      let mid : Hops = run.0 in
      let count : length mid.wire.datagrams ≡ length s.wire.datagrams + count_of entry = entries_count entry (slice_get samples i) s mid run.1 in
      send_comes i (slice_get samples i) entry (leaves_sample gone (length s.wire.datagrams) (count_of entry)) (kept_steps gone (length s.wire.datagrams + count_of entry) forwarded later)
      (kept_sends gone (length s.wire.datagrams + count_of entry) later) s mid t seen_id packets refl refl whole.0 at run.1
      (λ next qs at_mid.
      subst (λ (n : ℕ). Comes (kept_steps gone n forwarded later) (kept_sends gone n later) t next qs) count
      (comes later mid t forwarded next qs at_mid (subst (λ (n : ℕ). AreWhole gone n later) (sym count) whole.1) run.2))
  comes (forwards k answer ∷ later) s t forwarded seen_id packets at whole run =
      let mid : Hops = run.0 in
      let wire : mid.wire ≡ s.wire = ap (λ (x : Hops). x.wire) run.1.is in
      subst (λ (w : Wire). Comes (kept_steps gone (length w.datagrams) (forwarded ++ forwarded_by answer (place_of gone k)) later) (kept_sends gone (length w.datagrams) later) t seen_id packets) wire
      (comes later mid t (forwarded ++ forwarded_by answer (place_of gone k)) seen_id packets (same_at s mid packets (ap (λ (w : Wire). w.sending) wire) (ap (λ (w : Wire). w.datagrams) wire) at)
      (subst (λ (w : Wire). AreWhole gone (length w.datagrams) later) (sym wire) whole) run.2)
  comes (leaves k answer ∷ later) s t forwarded seen_id packets at whole run =
      let mid : Hops = run.0 in
      let wire : mid.wire ≡ s.wire = ap (λ (x : Hops). x.wire) run.1.is in
      subst (λ (w : Wire). Comes (kept_steps gone (length w.datagrams) forwarded later) (kept_sends gone (length w.datagrams) later) t seen_id packets) wire
      (comes later mid t forwarded seen_id packets (same_at s mid packets (ap (λ (w : Wire). w.sending) wire) (ap (λ (w : Wire). w.datagrams) wire) at)
      (subst (λ (w : Wire). AreWhole gone (length w.datagrams) later) (sym wire) whole) run.2)
  comes (delivers j now ∷ later) s t forwarded seen_id packets at whole run =
      let mid : Hops = run.0 in
      let wire = delivered_wire now (slice_get s.written j) s mid run.1 in
      delivery_comes (slice_get forwarded j) now (kept_steps gone (length s.wire.datagrams) forwarded later) (kept_sends gone (length s.wire.datagrams) later) t seen_id packets
      (subst (λ (ds : List (List ℕ)). Comes (kept_steps gone (length ds) forwarded later) (kept_sends gone (length ds) later) t seen_id packets) wire.1
      (comes later mid t forwarded seen_id packets (same_at s mid packets wire.0 wire.1 at) (subst (λ (ds : List (List ℕ)). AreWhole gone (length ds) later) (sym wire.1) whole) run.2))
  comes (pops now ∷ later) s t forwarded seen_id packets at whole run =
      let mid : Hops = run.0 in
      let sending : mid.wire.sending ≡ s.wire.sending = ap (λ (x : Hops). x.wire.sending) run.1.2 ∙ ap (λ (w : Wire). w.sending) run.1.1.4 in
      let datagrams : mid.wire.datagrams ≡ s.wire.datagrams = ap (λ (x : Hops). x.wire.datagrams) run.1.2 ∙ ap (λ (w : Wire). w.datagrams) run.1.1.4 in
      quiet_comes (seen.Pop now) (kept_steps gone (length s.wire.datagrams) forwarded later) (kept_sends gone (length s.wire.datagrams) later) t seen_id packets refl refl
      (subst (λ (ds : List (List ℕ)). Comes (kept_steps gone (length ds) forwarded later) (kept_sends gone (length ds) later) t seen_id packets) datagrams
      (comes later mid t forwarded seen_id packets (same_at s mid packets sending datagrams at) (subst (λ (ds : List (List ℕ)). AreWhole gone (length ds) later) (sym datagrams) whole) run.2))
  comes (ends ∷ later) s t forwarded seen_id packets at whole run =
      let mid : Hops = run.0 in
      let sending : mid.wire.sending ≡ s.wire.sending = ap (λ (x : Hops). x.wire.sending) run.1.2 ∙ ap (λ (w : Wire). w.sending) run.1.1.2 in
      let datagrams : mid.wire.datagrams ≡ s.wire.datagrams = ap (λ (x : Hops). x.wire.datagrams) run.1.2 ∙ ap (λ (w : Wire). w.datagrams) run.1.1.2 in
      quiet_comes seen.Finish (kept_steps gone (length s.wire.datagrams) forwarded later) (kept_sends gone (length s.wire.datagrams) later) t seen_id packets refl refl
      (subst (λ (ds : List (List ℕ)). Comes (kept_steps gone (length ds) forwarded later) (kept_sends gone (length ds) later) t seen_id packets) datagrams
      (comes later mid t forwarded seen_id packets (same_at s mid packets sending datagrams at) (subst (λ (ds : List (List ℕ)). AreWhole gone (length ds) later) (sym datagrams) whole) run.2))
