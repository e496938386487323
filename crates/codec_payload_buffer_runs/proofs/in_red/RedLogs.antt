-- The guarantees of whole runs with RED, from their logs.
use Rattle.std.specs.Prelude.{slice_get, option_map}
use Rattle.std.specs.List.{AllByRecursion}
use Rattle.std.proofs.Common.{◌≡◌, ◌∙◌, refl, sym, ap, subst, List, [], Option, None, Some, Bool, false, true, ℕ, zero, suc, ◌+◌, ◌==◌, ◌++◌, ◌∷◌, ◌<◌, inl, inr, arith, length, map, take}
use Rattle.std.proofs.lemmas.Bool.Decides.{nat_tests}
use Rattle.std.proofs.lemmas.List.{length-map}
use Rattle.std.proofs.lemmas.Option.{slice_get-map, slice_get_within}
use Rattle.codec_payload_buffer.proofs.MemberLemmas.{IsIn, in_contains}
use Rattle.codec_payload_buffer_runs.proofs.order.BeginLemmas.{begins_from}
use Rattle.codec_payload_buffer_runs.proofs.units.BuiltInRuns.{Runs}
use Rattle.codec_payload_codec.proofs.CodecLemmas.{codec_payloads, marker_free}
use Rattle.codec_payload_buffer_runs.proofs.order.ChainLemmas.{PushesBefore, pushed_before, answers_all}
use Rattle.codec_payload_buffer_runs.proofs.order.ContiguousLemmas.{all_follow}
use Rattle.codec_payload_buffer_runs.proofs.order.CountLemmas.{red_counts}
use Rattle.codec_payload_buffer_runs.proofs.order.EarlierLemmas.{AllEarlier, of_earlier, red_earlier}
use Rattle.codec_payload_buffer_runs.proofs.order.LogLemmas.{Logs, DoesAsNamed, log_from, entry_before}
use Rattle.codec_payload_buffer_runs.proofs.order.LossLemmas.{none_is_lost}
use Rattle.codec_payload_buffer_runs.proofs.in_red.RedRuns.{IsInStep, IsImage, image_at, take_in_red, length_in_red, wrapped_by, runs_in_red}
use Rattle.codec_payload_buffer_runs.proofs.order.RunLogs.{slice_taken, slice_take, slice_there, taken_within}
use Rattle.codec_payload_buffer_runs.proofs.order.RunSettings.{may_go, setting, fresh, ready, nothing, tracked, empty}
use Rattle.codec_payload_buffer_runs.proofs.order.SafetyLemmas.{SendsAll, all_end, number_at, sends_all}
use Rattle.codec_payload_buffer_runs.proofs.units.StreamLemmas.{Streams, streams}
use Rattle.codec_payload_buffer_runs.proofs.order.TakenLemmas.{none_is_passed}
use Rattle.codec_payload_buffer_runs.proofs.order.TurnLemmas.{Setting, ArePushes, Chain, IsReady, chain_of, chain_in_order, are_stretches}
use Rattle.codec_payload_buffer_runs.proofs.units.UnitRows.{IsFaithful, held_as}
use Rattle.codec_payload_codec.specs.Depacketizers.{DepacketizerState, DepacketizerKind, kind_of_depacketizer, is_codec, tail_in}
use Rattle.codec_payload_buffer.specs.Held.{has_number}
use Rattle.codec_payload_codec.specs.Packetizers.{PacketizerState, Vp9Packetizing, is_video, may_split, payloads_by}
use Rattle.codec_payload_buffer.specs.Steps.{arrived}
use Rattle.codec_payload_buffer.specs.Stretches.{after_pushes}
use Rattle.codec_payload_metadata.specs.declared.meta.RtpMeta.{RtpMeta}
use Rattle.codec_payload_buffer_runs.specs.Exact.{IsPushedFirst, AnswersAll}
use Rattle.codec_payload_buffer_runs.specs.Headline.{InOrder}
use Rattle.codec_payload_buffer_runs.specs.LawfulUnits.{AllLawful}
use Rattle.codec_payload_buffer_runs.specs.Log.{Stretch, Turn, begun, packet_named, IsLogBy}
use Rattle.codec_payload_payloader.specs.Packets.{Packet}
use Rattle.codec_payload_buffer_runs.specs.RedPromises.{RedRan, sent_in, IsRedFresh, IsIn as IsInPacket, IsRedPushOf, WasSent, ReleasesRecovered}
use Rattle.codec_payload_buffer_runs.specs.RedPromises.{RecoversUnits, recovered_held, pushes_of, RedLog, RunsAsRedSteps, KeepsRedPromises}
use Rattle.codec_payload_buffer_runs.specs.RedSchedule.{remembered, all_remembered, all_in_red, meta_of_block, meta_of_recovered, recovered_of, recovered_in}
use Rattle.codec_payload_buffer_runs.specs.RunCounts.{sent_before}
use Rattle.codec_payload_buffer_runs.specs.RunOrder.{AreStretches, AllFollowAsSaid}
use Rattle.codec_payload_buffer_runs.specs.RunUnits.{NoneIsLost, NonePassedOver, FirstIsWhole, NoneEvicted, IsPatient, AreNext}
use Rattle.codec_payload_buffer_runs.specs.Schedule.{RunState}
use Rattle.codec_payload_buffer_runs.specs.SentStream.{SentUnit, packets_of}
use Rattle.codec_payload_buffer_runs.specs.ReportedIds.{next_id}
use Rattle.codec_payload_buffer_runs.specs.declared.run.Step.TheVariants as steps
use Rattle.codec_payload_red.proofs.RedRunLemmas.{recovers_sent, output_reads, same_distances}
use Rattle.codec_payload_red.specs.RedLevels.{Entry, Sender, is_accepted, wrapped}
use Rattle.codec_payload_red.specs.RedReading.{red_at}
use Rattle.codec_payload_red.specs.RedRecovery.{RecoveredPacket, recovered}
use Rattle.codec_payload_red.specs.RedRun.{sender_after, sender_at, IsCarried, AreOfSent}

-- only codecs of video send picture ids
no_ids : (packetizer : PacketizerState) → is_video packetizer ≡ false → next_id packetizer ≡ None
no_ids (Vp9Packetizing sender) none = absurd (cc)
no_ids packetizer none = refl

-- the metadata of a recovered packet is known from the packet that was sent: for the primary block also marker and values
meta_is : (place clock_rate pt : ℕ) (carrier q : Packet) (x : RecoveredPacket) (b : Bool) → x.is_primary ≡ b → x.seq_no ≡ q.number → x.time ≡ q.rtp_time
    → (b ≡ true → (carrier.marker ≡ q.marker) × (carrier.ext_vals ≡ q.ext_vals))
    → meta_of_recovered place clock_rate pt carrier x ≡ meta_of_block place clock_rate pt b q
meta_is place clock_rate pt carrier q x true is number time same = let (marker, values) = same refl in rw (is, number, time, marker, values) refl
meta_is place clock_rate pt carrier q x false is number time same = rw (is, number, time) refl

-- a recovered packet with this number is pushed
has_recovered : (place clock_rate pt : ℕ) (carrier : Packet) (d : DepacketizerState) (n : ℕ) (xs : List RecoveredPacket) (x : RecoveredPacket) → IsIn x xs → x.seq_no ≡ n
    → has_number n (map (λ (y : RecoveredPacket). arrived d (meta_of_recovered place clock_rate pt carrier y) y.bytes) xs) ≡ true
has_recovered place clock_rate pt carrier d n [] x is number = absurd is
has_recovered place clock_rate pt carrier d n (y ∷ ys) x (inl same) number =
    let here : y.seq_no ≡ n = ap (λ (z : RecoveredPacket). z.seq_no) (sym same) ∙ number in
    grind (arith, nat_tests, here)
has_recovered place clock_rate pt carrier d n (y ∷ ys) x (inr later) number =
    let rest = has_recovered place clock_rate pt carrier d n ys x later number in
    grind (arith, rest)

in_end : {X : Type 0} (xs : List X) (x : X) → IsIn x (xs ++ x ∷ [])
in_end [] x = inl refl
in_end (y ∷ xs) x = inr (in_end xs x)

room_at : (P : Entry → Type 0) (es : List Entry) (k : ℕ) (e : Entry) → AllByRecursion P es → slice_get es k ≡ Some e → P e
room_at P [] k e all h = absurd (cc)
room_at P (x ∷ es) zero e all h = let same : x ≡ e = cc in subst P same all.0
room_at P (x ∷ es) (suc k) e all h = room_at P es k e all.1 h

module _ (r : RedRan) (run : RunsAsRedSteps r) (is : IsRedFresh r) where
  abbrev s : RunState
  s = r.before.plain

  abbrev t : RunState
  t = r.after.plain

  abbrev red : Sender
  red = r.before.sender

  abbrev sent : List Packet
  sent = sent_in r

  abbrev entries : List Entry
  entries = all_remembered (sent_in r)

  -- nothing was sent before it
  start : IsInStep red r.with.budget r.before
  start = record {
    images = is.none_in_sink ∙ ap (all_in_red red r.with.budget) (sym is.unused.nothing_sent);
    sender = ap (λ (ps : List Packet). sender_after red (all_remembered ps)) (sym is.unused.nothing_sent);
  }

  pub runs : Runs (wrapped_by r.with red) r.samples 0 r.steps s r.sends r.pops t × IsInStep red r.with.budget r.after
  runs =
      runs_in_red r.with red r.samples 0 r.steps r.before r.after r.sends r.pops is.unused.built_in
      (ap is_codec is.unused.alike ∙ codec_payloads s.payloading.packetizer is.unused.built_in) start run

  abbrev stream : Streams r.samples r.steps s t
  stream = streams (wrapped_by r.with red) r.samples 0 r.steps s t r.sends r.pops runs.0

  all : SendsAll s t stream.units
  all = sends_all r.samples r.steps s t is.unused stream

  pub faithful : IsFaithful (IsRedPushOf r) s.payloading.clock_rate (payloads_by s.payloading.packetizer)
  faithful = record {
    number = λ k q m push. ap (λ (x : RtpMeta). x.seq_no.0) push.told;
    time = λ k q m push. ap (λ (x : RtpMeta). x.time) push.told;
    tail = λ k q m push. marker_free s.payloading.packetizer is.no_video m.header.marker q.marker q.payload;
  }

  number_is : (k : ℕ) (q : Packet) → slice_get sent k ≡ Some q → q.number ≡ s.sink.first + k
  number_is k q there = number_at (packets_of stream.units) s.sink.first k q all.numbered (subst (λ (ps : List Packet). slice_get ps k ≡ Some q) all.whole there)

  -- ---- recovered packets

  image_of : (k : ℕ) (p : Packet) → slice_get r.after.images k ≡ Some p → IsImage red r.with.budget sent k p
  image_of k p there = image_at red r.with.budget sent k p (subst (λ (ps : List Packet). slice_get ps k ≡ Some p) runs.1.images there)

  recovers : (k : ℕ) (p : Packet) → IsImage red r.with.budget sent k p → AreOfSent red r.with.budget s.sink.first entries k (recovered_in r.with.receiver p)
  recovers k p image =
      let q = image.packet in
      let here : slice_get entries k ≡ Some (remembered q) = slice_get-map remembered sent k ∙ ap (λ o. option_map remembered o) image.there in
      let room : length q.payload < r.with.budget = room_at (λ (e : Entry). length e.bytes < r.with.budget) entries k (remembered q) is.recoverable.each_fits here in
      let accepted : is_accepted (sender_at red entries k).distances ≡ true = ap is_accepted (same_distances red (take k entries)) ∙ is.recoverable.accepted in
      let found = wrapped (sender_at red entries k) q.payload q.rtp_time r.with.budget in
      let reads = output_reads (sender_at red entries k) q.payload q.rtp_time r.with.budget accepted room in
      let number : p.number ≡ s.sink.first + k = ap (λ (x : Packet). x.number) image.is ∙ number_is k q image.there in
      let time : p.rtp_time ≡ q.rtp_time = ap (λ (x : Packet). x.rtp_time) image.is in
      let payload : red_at p.payload ≡ Some found = ap (λ (x : Packet). red_at x.payload) image.is ∙ reads in
      let list : recovered_in r.with.receiver p ≡ recovered r.with.receiver (s.sink.first + k) q.rtp_time found =
      ap (recovered_of r.with.receiver p) payload ∙ (ap (λ (n : ℕ). recovered r.with.receiver n p.rtp_time found) number ∙ ap (λ (m : ℕ). recovered r.with.receiver (s.sink.first + k) m found) time) in
      recovers_sent red r.with.receiver r.with.budget s.sink.first entries is.recoverable k (remembered q) here (recovered_in r.with.receiver p) (found, reads, list)

  was_sent : (k : ℕ) (x : RecoveredPacket) → IsCarried red r.with.budget s.sink.first entries k x → WasSent r k x
  was_sent k x by = at (slice_get sent by.index) refl (sym (slice_get-map remembered sent by.index) ∙ by.is_at.there)
    where
      at : (o : Option Packet) → slice_get sent by.index ≡ o → option_map remembered o ≡ Some by.is_at.entry → WasSent r k x
      at None none h = absurd (cc)
      at (Some q) there h =
          let same : remembered q ≡ by.is_at.entry = cc in
          record {
            index = by.index;
            packet = q;
            there = there;
            number = by.is_at.number ∙ sym (number_is by.index q there);
            time = by.is_at.time ∙ sym (ap (λ (e : Entry). e.time) same);
            bytes = by.is_at.bytes ∙ sym (ap (λ (e : Entry). e.bytes) same);
            carried = by.carried;
            primary = by.primary;
          }

  all_were_sent : (k : ℕ) (xs : List RecoveredPacket) → AllByRecursion (IsCarried red r.with.budget s.sink.first entries k) xs → AllByRecursion (WasSent r k) xs
  all_were_sent k [] each = tt
  all_were_sent k (x ∷ xs) each = (was_sent k x each.0, all_were_sent k xs each.1)

  pub were_sent : (k : ℕ) (p : Packet) → slice_get r.after.images k ≡ Some p → AllByRecursion (WasSent r k) (recovered_in r.with.receiver p)
  were_sent k p there = all_were_sent k (recovered_in r.with.receiver p) (recovers k p (image_of k p there)).were_sent

  -- ---- its log

  does : DoesAsNamed (wrapped_by r.with red) (pushes_of r) t.sink.packets s.payloading.clock_rate r.sends
  does place k u taken clock =
      let images : take (sent_before place r.sends) r.after.images ≡ all_in_red red r.with.budget u.sink.packets =
      ap (take (sent_before place r.sends)) runs.1.images ∙ (take_in_red red r.with.budget (sent_before place r.sends) t.sink.packets ∙ ap (all_in_red red r.with.budget) taken) in
      ap (λ (ps : List Packet). after_pushes u.buffer (recovered_held place s.payloading.clock_rate r.with.receiver (slice_get ps k) u.buffer.depacketizer)) images
      ∙ ap (λ (rate : ℕ). after_pushes u.buffer (recovered_held place rate r.with.receiver (slice_get (all_in_red red r.with.budget u.sink.packets) k) u.buffer.depacketizer)) (sym clock)

  found : Logs (pushes_of r) 0 r.steps (begun s.buffer) r.pops t.buffer
  found =
      log_from (wrapped_by r.with red) (pushes_of r) t.sink.packets s.payloading.clock_rate r.sends r.samples does r.steps 0 s t r.sends [] r.pops
      (begun s.buffer) runs.0 refl refl refl (λ n l. sym (ap length is.unused.nothing_sent)) refl

  module _ (units : List SentUnit) (lawful : AllLawful (payloads_by s.payloading.packetizer) (may_split s.payloading.packetizer) units) (packets : packets_of units ≡ t.sink.packets) where
    abbrev pub red_setting : Setting
    red_setting = setting r.samples r.steps s t stream is.unused is.readable (IsRedPushOf r) faithful units lawful packets

    -- a step pushes packets that were sent
    sent_recovered : (place k : ℕ) (d : DepacketizerState) (p : Packet) (xs : List RecoveredPacket) → slice_get r.steps place ≡ Some (steps.Push k)
        → kind_of_depacketizer d ≡ payloads_by s.payloading.packetizer → k < sent_before place r.sends → IsImage red r.with.budget sent k p → AllByRecursion (WasSent r k) xs
        → ArePushes red_setting (map (λ (x : RecoveredPacket). arrived d (meta_of_recovered place s.payloading.clock_rate r.with.receiver.primary_pt p x) x.bytes) xs)
    sent_recovered place k d p [] at reads early image each = tt
    sent_recovered place k d p (x ∷ xs) at reads early image each =
        let one = each.0 in
        let there : slice_get (packets_of units) one.index ≡ Some one.packet = subst (λ (ps : List Packet). slice_get ps one.index ≡ Some one.packet) (sym packets) one.there in
        let meta = meta_is place s.payloading.clock_rate r.with.receiver.primary_pt p one.packet x (one.index == k) one.primary one.number one.time (λ same. own one same) in
        let push : IsRedPushOf r one.index one.packet (meta_of_recovered place s.payloading.clock_rate r.with.receiver.primary_pt p x) = record
        { place = place; carrier = k; pushes = at; after_send = early; carried = one.carried; told = meta } in (
          (
            one.index,
            one.packet,
            there,
            push,
            ap (λ (y : DepacketizerKind). held_as y (meta_of_recovered place s.payloading.clock_rate r.with.receiver.primary_pt p x) x.bytes) reads
                ∙ ap (λ (b : List ℕ). held_as (payloads_by s.payloading.packetizer) (meta_of_recovered place s.payloading.clock_rate r.with.receiver.primary_pt p x) b) one.bytes,
          ),
          sent_recovered place k d p xs at reads early image each.1,
        )
      where
        own : (one : WasSent r k x) → (one.index == k) ≡ true → (p.marker ≡ one.packet.marker) × (p.ext_vals ≡ one.packet.ext_vals)
        own one same =
            let index : one.index ≡ k = grind (arith, nat_tests, same) in
            let here : slice_get sent k ≡ Some one.packet = subst (λ (n : ℕ). slice_get sent n ≡ Some one.packet) index one.there in
            let there : slice_get sent k ≡ Some image.packet = image.there in
            let packet : one.packet ≡ image.packet = cc in (
              ap (λ (y : Packet). y.marker) image.is ∙ ap (λ (y : Packet). y.marker) (sym packet),
              ap (λ (y : Packet). y.ext_vals) image.is ∙ ap (λ (y : Packet). y.ext_vals) (sym packet),
            )

    pub named_sent : (place k : ℕ) (d : DepacketizerState) → slice_get r.steps place ≡ Some (steps.Push k)
        → kind_of_depacketizer d ≡ payloads_by s.payloading.packetizer → ArePushes red_setting (pushes_of r place k d)
    named_sent place k d at reads = by_packet (packet_named r.after.images r.sends place k) refl
      where
        by_packet : (o : Option Packet) → packet_named r.after.images r.sends place k ≡ o → ArePushes red_setting (recovered_held place s.payloading.clock_rate r.with.receiver o d)
        by_packet None none = tt
        by_packet (Some p) named =
            let there = slice_taken r.after.images _ k p named in
            sent_recovered place k d p (recovered_in r.with.receiver p) at reads (taken_within r.after.images _ k p named) (image_of k p there) (were_sent k p there)

    red_chain : (turns : List Turn) (end : Stretch) → IsLogBy (pushes_of r) 0 r.steps (begun s.buffer) turns end → Chain red_setting s.buffer turns end
    red_chain turns end log =
        chain_of red_setting r.steps (pushes_of r) named_sent r.steps 0 (begun s.buffer) turns end refl 0
        (fresh r.samples r.steps s t stream is.unused is.readable (IsRedPushOf r) faithful units lawful packets) (record { sent = tt; now = refl }) log

  abbrev lawful : AllLawful (payloads_by s.payloading.packetizer) (may_split s.payloading.packetizer) stream.units
  lawful = stream.lawful is.readable

  chain : Chain (red_setting stream.units lawful (sym all.whole)) s.buffer found.turns found.end
  chain = red_chain stream.units lawful (sym all.whole) found.turns found.end found.is_log

  -- units are released in order, each at most once
  abbrev safe : ReleasesRecovered r
  safe = record {
    units = stream.units;
    canonical = stream.canonical;
    packets = sym all.whole;
    ends = all_end (payloads_by s.payloading.packetizer) (may_split s.payloading.packetizer) stream.units lawful;
    in_order = subst (InOrder (IsRedPushOf r) (may_split s.payloading.packetizer) stream.units 0) found.answers
        (chain_in_order (red_setting stream.units lawful (sym all.whole)) 0 s.buffer found.turns found.end
        (fresh r.samples r.steps s t stream is.unused is.readable (IsRedPushOf r) faithful stream.units lawful (sym all.whole)) chain);
    before_pops = of_earlier (wrapped_by r.with red) r.samples (red_earlier r.with red) 0 r.steps s t r.sends r.pops runs.0 (subst (AllEarlier 0) (sym is.unused.nothing_held) tt);
  }

  -- a packet that is in another is recovered from it
  in_recovered : (j carrier : ℕ) (p : Packet) → slice_get r.after.images carrier ≡ Some p → IsInPacket r j carrier → (x : RecoveredPacket)
      × IsIn x (recovered_in r.with.receiver p) × (x.seq_no ≡ s.sink.first + j)
  in_recovered j carrier p there (inl same) =
      let itself = (recovers carrier p (image_of carrier p there)).itself in
      (itself.1, subst (IsIn itself.1) (sym itself.2) (in_end itself.0 itself.1), itself.3.number ∙ ap (λ (n : ℕ). s.sink.first + n) (sym same))
  in_recovered j carrier p there (inr kept) =
      let one = (recovers carrier p (image_of carrier p there)).all_kept j kept in
      (one.0, in_contains one.0 (recovered_in r.with.receiver p) one.1, one.2.number)

  -- so it is pushed before the first pop if that one is
  pushed_first : (j carrier : ℕ) → IsPushedFirst r.steps r.sends carrier → IsInPacket r j carrier → carrier < length sent → PushesBefore (s.sink.first + j) found.turns
  pushed_first j carrier p inside l =
      let reach = entry_before (wrapped_by r.with red) r.samples 0 r.steps s t r.sends r.pops runs.0 p.entry (in_contains p.entry r.sends p.noted) p.place p.sent_before in
      let early : carrier < sent_before p.place r.sends = omega (arith, reach, p.reaches, ap length is.unused.nothing_sent) in
      let many : length r.after.images ≡ length sent = ap length runs.1.images ∙ length_in_red red r.with.budget sent in
      let at = slice_there r.after.images carrier (omega (arith, l, many)) in
      let taken : packet_named r.after.images r.sends p.place carrier ≡ Some at.0 = slice_take r.after.images (sent_before p.place r.sends) carrier early ∙ at.1 in
      let one = in_recovered j carrier at.0 at.1 inside in
      pushed_before r.steps (pushes_of r) p.place carrier (s.sink.first + j) p.pushes p.before_pops
      (λ d. ap (λ (o : Option Packet). has_number (s.sink.first + j) (recovered_held p.place s.payloading.clock_rate r.with.receiver o d)) taken
      ∙ has_recovered p.place s.payloading.clock_rate r.with.receiver.primary_pt at.0 d (s.sink.first + j) (recovered_in r.with.receiver at.0) one.0 one.1 one.2)
      r.steps 0 (begun s.buffer) found.turns found.end refl found.is_log (inl (omega arith))

  -- the packet that another is in was sent
  carrier_there : (j carrier : ℕ) → j < length sent → IsInPacket r j carrier → carrier < length sent
  carrier_there j carrier l (inl same) = omega (arith, same, l)
  carrier_there j carrier l (inr kept) =
      omega (arith, slice_get_within entries carrier kept.entry kept.there, many_entries)
    where
      many_entries : length entries ≡ length sent
      many_entries = length-map sent remembered

  pub exact : RecoversUnits r
  exact = record {
    released = safe;
    exactly = λ there. subst (AnswersAll (IsRedPushOf r) 0 stream.units) found.answers
        (answers_all (red_setting stream.units lawful (sym all.whole)) s.buffer found.turns found.end
        (empty r.samples r.steps s t stream is.unused is.readable (IsRedPushOf r) faithful stream.units lawful (sym all.whole) there.few)
        (may_go r.samples r.steps s t stream is.unused is.readable (IsRedPushOf r) faithful) chain
        (λ k l.
        let within : k < length sent = omega (arith, l, ap length all.whole) in
        let by = there.there k within in
        pushed_first k by.0 by.1 by.2 (carrier_there k by.0 within by.2)));
  }

  pub logged : RedLog r
  logged = record {
    released = safe;
    lawful = lawful;
    turns = found.turns;
    end = found.end;
    is_log = found.is_log;
    answers = found.answers;
    left = found.left;
  }

  module _ (log : RedLog r) where
    abbrev pub log_setting : Setting
    log_setting = red_setting log.released.units log.lawful log.released.packets

    pub log_ready : IsReady log_setting 0 s.buffer
    log_ready = ready r.samples r.steps s t stream is.unused is.readable (IsRedPushOf r) faithful log.released.units log.lawful log.released.packets

    pub log_chain : Chain log_setting s.buffer log.turns log.end
    log_chain = red_chain log.released.units log.lawful log.released.packets log.turns log.end log.is_log

    pub order_free : AreStretches (IsRedPushOf r) s.sink.first sent log.turns log.end
    order_free = subst (λ (ps : List Packet). AreStretches (IsRedPushOf r) s.sink.first ps log.turns log.end) log.released.packets
        (are_stretches log_setting 0 s.buffer log.turns log.end log_ready log_chain)

    pub contiguous_as_said : AllFollowAsSaid s.sink.first (length sent) None false log.turns
    contiguous_as_said =
        subst (λ (ps : List Packet). AllFollowAsSaid s.sink.first (length ps) None false log.turns) log.released.packets
        (all_follow log_setting 0 None false s.buffer log.turns log.end (no_ids s.payloading.packetizer is.no_video) log_ready
        (tracked r.samples r.steps s t stream is.unused is.readable (IsRedPushOf r) faithful log.released.units log.lawful log.released.packets) log_chain)

    pub passes_none_over : NonePassedOver log.turns
    passes_none_over = none_is_passed log_setting 0 s.buffer log.turns log.end (no_ids s.payloading.packetizer is.no_video) log_ready log_chain

    pub loses_none_silently : NoneIsLost (IsRedPushOf r) s.sink.first (may_split s.payloading.packetizer) log.released.units log.turns log.end
    loses_none_silently = none_is_lost log_setting 0 s.buffer log.turns log.end log_ready log_chain

    pub begins_as_sent : FirstIsWhole (IsRedPushOf r) (may_split s.payloading.packetizer) log.released.units r.pops → NoneEvicted s.sink.first (length sent) log.turns
        → IsPatient s.sink.first log.released.units 0 log.turns
        → AreNext (IsRedPushOf r) (may_split s.payloading.packetizer) log.released.units 0 r.pops
    begins_as_sent whole kept patient =
        let first_whole = subst (FirstIsWhole (IsRedPushOf r) (may_split s.payloading.packetizer) log.released.units) (sym log.answers) whole in
        let none_evicted = subst (λ (ps : List Packet). NoneEvicted s.sink.first (length ps) log.turns) (sym log.released.packets) kept in
        subst (AreNext (IsRedPushOf r) (may_split s.payloading.packetizer) log.released.units 0) log.answers
        (begins_from log_setting s.buffer log.turns log.end log_ready
        (nothing r.samples r.steps s t stream is.unused is.readable (IsRedPushOf r) faithful log.released.units log.lawful log.released.packets) log_chain first_whole none_evicted patient)

-- the guarantees of a run with RED follow from its steps alone
pub red_promises : (r : RedRan) → RunsAsRedSteps r → KeepsRedPromises r
red_promises r run = record {
  run_as_steps = run;
  counted = red_counts r.with r.samples 0 r.steps r.before r.sends r.pops r.after run;
  were_sent = λ is. were_sent r run is;
  safety_half = λ is. (exact r run is).released;
  exact_half = λ is. exact r run is;
  logged = λ is. logged r run is;
  order = λ is log. order_free r run is log;
  contiguous = λ is log. contiguous_as_said r run is log;
  no_silent_loss = λ is log. loses_none_silently r run is log;
  none_skipped = λ is log. passes_none_over r run is log;
  beginning = λ is log. begins_as_sent r run is log;
}
