-- The guarantees of whole runs, from their logs.
use Rattle.std.specs.Prelude.{slice_get}
use Rattle.std.proofs.Common.{◌≡◌, ◌∙◌, refl, sym, ap, subst, List, [], Option, None, Some, true, false, ℕ, zero, suc, ◌+◌, ◌++◌, ◌∷◌, ◌<◌, inl, arith, length, map, take, drop}
use Rattle.std.proofs.lemmas.Bool.Decides.{nat_tests}
use Rattle.std.proofs.lemmas.List.{take-append-drop}
use Rattle.codec_payload_buffer.proofs.MemberLemmas.{in_contains}
use Rattle.codec_payload_buffer_runs.proofs.order.AlikeLemmas.{chains_same}
use Rattle.codec_payload_buffer_runs.proofs.order.BeginLemmas.{begins_from}
use Rattle.codec_payload_buffer_runs.proofs.units.BuiltInRuns.{Runs, plainly, unused_exactly}
use Rattle.codec_payload_buffer_runs.proofs.order.ChainLemmas.{PushesBefore, pushed_before, answers_all}
use Rattle.codec_payload_buffer_runs.proofs.order.ContiguousLemmas.{all_follow}
use Rattle.codec_payload_buffer_runs.proofs.order.CountLemmas.{run_counts}
use Rattle.codec_payload_buffer_runs.proofs.order.EarlierLemmas.{AllEarlier, of_earlier, plain_earlier}
use Rattle.codec_payload_buffer_runs.proofs.order.GapLemmas.{only_past_gap}
use Rattle.codec_payload_buffer_runs.proofs.order.LogLemmas.{Logs, log_from, entry_before, plain_as_named}
use Rattle.codec_payload_buffer_runs.proofs.order.LossLemmas.{none_is_lost}
use Rattle.codec_payload_buffer_runs.proofs.order.RunSettings.{may_go, setting, fresh, ready, nothing, tracked, empty}
use Rattle.codec_payload_buffer_runs.proofs.order.SafetyLemmas.{SendsAll, all_end, fresh_beyond, number_at, sends_all}
use Rattle.codec_payload_buffer_runs.proofs.units.SameUnits.{values_of}
use Rattle.codec_payload_buffer_runs.proofs.units.StreamLemmas.{Streams, streams}
use Rattle.codec_payload_buffer_runs.proofs.order.TakenLemmas.{Follows, none_is_passed}
use Rattle.codec_payload_buffer_runs.proofs.order.TurnLemmas.{Setting, Beyond, ArePushes, Chain, IsReady, by_steps, chain_of, chain_in_order, are_stretches}
use Rattle.codec_payload_buffer_runs.proofs.units.UnitRows.{IsFaithful, push_faithful, held_as, slice_append}
use Rattle.codec_payload_buffer_runs.proofs.units.UnitValues.{AreStripped, carried_at, told_by_all}
use Rattle.codec_payload_base.specs.declared.wire.extension.ExtensionValues.{ExtensionValues}
use Rattle.codec_payload_codec.specs.Depacketizers.{DepacketizerState, DepacketizerKind, kind_of_depacketizer}
use Rattle.codec_payload_buffer.specs.Held.{Held, has_number}
use Rattle.codec_payload_metadata.specs.Release.{AreValues}
use Rattle.codec_payload_buffer.specs.Steps.{State}
use Rattle.codec_payload_metadata.specs.declared.meta.RtpMeta.{RtpMeta}
use Rattle.codec_payload_buffer_runs.specs.Exact.{IsPushedFirst, AnswersAll, ReleasesUnits}
use Rattle.codec_payload_buffer_runs.specs.Headline.{IsPushOf, ArePushesBy, InOrder, IsUnused, ReleasesInOrder, packets_before}
use Rattle.codec_payload_buffer_runs.specs.LawfulUnits.{AllLawful}
use Rattle.codec_payload_buffer_runs.specs.Log.{Stretch, Turn, begun, packet_named, held_of, IsLog, RunLog}
use Rattle.codec_payload_payloader.specs.Packets.{Packet}
use Rattle.codec_payload_buffer_runs.specs.RunCounts.{sent_before}
use Rattle.codec_payload_buffer_runs.specs.RunOrder.{AreStretches, IsOrderFree, AllFollowAsSaid, IsContiguousAsSaid, bare_meta, answer_with, OnlySetsCount}
use Rattle.codec_payload_buffer_runs.specs.RunPromises.{Ran, IsFresh, KeepsPromises, RunsAsSteps}
use Rattle.codec_payload_buffer_runs.specs.RunUnits.{LosesNoneSilently, PassesNoneOver, PassesOnlyPastGap, FirstIsWhole, NoneEvicted, AreNext, BeginsAsSent}
use Rattle.codec_payload_buffer_runs.specs.RunValues.{HaveValuesOfSamples, values_of_run}
use Rattle.codec_payload_buffer_runs.specs.Schedule.{Answer, RunState, meta_of_push}
use Rattle.codec_payload_payloader.specs.Sending.{Sample}
use Rattle.codec_payload_buffer_runs.specs.SentStream.{AllEndWithTail, AreReadable, SentUnit, packets_of, EndsWithTail}
use Rattle.codec_payload_codec.specs.Packetizers.{payloads_by, may_split}
use Rattle.codec_payload_buffer_runs.specs.declared.run.Sent.{Sent}
use Rattle.codec_payload_buffer_runs.specs.declared.run.Step.{Step}
use Rattle.codec_payload_buffer_runs.specs.declared.run.Step.TheVariants as steps

-- packets sent by then were sent
pub slice_taken : (packets : List Packet) (n k : ℕ) (q : Packet) → slice_get (take n packets) k ≡ Some q → slice_get packets k ≡ Some q
slice_taken packets n k q h = subst (λ (ps : List Packet). slice_get ps k ≡ Some q) (take-append-drop n packets) (slice_append (take n packets) (drop n packets) k q h)

-- and packets sent by then are among the first n
pub taken_within : (packets : List Packet) (n k : ℕ) (q : Packet) → slice_get (take n packets) k ≡ Some q → k < n
taken_within packets zero k q h = absurd (cc)
taken_within [] (suc n) k q h = absurd (cc)
taken_within (p ∷ ps) (suc n) zero q h = omega arith
taken_within (p ∷ ps) (suc n) (suc k) q h = omega (arith, taken_within ps n k q h)

-- and every sent packet was sent by some time
pub slice_take : (packets : List Packet) (n k : ℕ) → k < n → slice_get (take n packets) k ≡ slice_get packets k
slice_take packets zero k l = absurd (omega (arith, l))
slice_take [] (suc n) k l = refl
slice_take (p ∷ ps) (suc n) zero l = refl
slice_take (p ∷ ps) (suc n) (suc k) l = slice_take ps n k (omega (arith, l))

pub slice_there : (packets : List Packet) (k : ℕ) → k < length packets → (q : Packet) × (slice_get packets k ≡ Some q)
slice_there [] k l = absurd (omega (arith, l))
slice_there (p ∷ ps) zero l = (p, refl)
slice_there (p ∷ ps) (suc k) l = slice_there ps k (omega (arith, l))

end_at : (kind : DepacketizerKind) (units : List SentUnit) (place : ℕ) (u : SentUnit) → AllEndWithTail kind units → slice_get units place ≡ Some u → EndsWithTail kind u.packets
end_at kind [] place u ends is = absurd (cc)
end_at kind (v ∷ us) zero u ends is = let same : v ≡ u = cc in subst (λ (x : SentUnit). EndsWithTail kind x.packets) same ends.0
end_at kind (v ∷ us) (suc place) u ends is = end_at kind us place u ends.1 is

-- the log of a run is a chain: its steps push packets that were sent
plain_chain : (c : Setting) (all_steps : List Step) (sends : List Sent) (turns : List Turn) (end : Stretch) (s : State) → Beyond (by_steps c all_steps sends) 0 s
    → IsLog (packets_of c.units) c.clock_rate sends 0 all_steps (begun s) turns end → Chain (by_steps c all_steps sends) s turns end
plain_chain c all_steps sends turns end s beyond log = chain_of (by_steps c all_steps sends) all_steps named named_sent all_steps 0 (begun s) turns end refl 0 beyond
    (record { sent = tt; now = refl }) log
  where
    named : ℕ → ℕ → DepacketizerState → List Held
    named place k = held_of place c.clock_rate (packet_named (packets_of c.units) sends place k)

    named_sent : (place k : ℕ) (d : DepacketizerState) → slice_get all_steps place ≡ Some (steps.Push k) → kind_of_depacketizer d ≡ c.kind → ArePushes (by_steps c all_steps sends) (named place k d)
    named_sent place k d at reads = by_packet (packet_named (packets_of c.units) sends place k) refl
      where
        by_packet : (o : Option Packet) → packet_named (packets_of c.units) sends place k ≡ o → ArePushes (by_steps c all_steps sends) (held_of place c.clock_rate o d)
        by_packet None is = tt
        by_packet (Some q) is =
            let meta = meta_of_push place c.clock_rate q in
            ((k, q, slice_taken (packets_of c.units) _ k q is, (place, at, taken_within (packets_of c.units) _ k q is, refl), ap (λ (x : DepacketizerKind). held_as x meta q.payload) reads), tt)

module _ (samples : List Sample) (all_steps : List Step) (s t : RunState) (sends : List Sent) (pops : List Answer)
    (run : Runs plainly samples 0 all_steps s sends pops t) (unused : IsUnused s) (readable : AreReadable s.payloading.packetizer samples) where
  -- the facts about pushes, and the packets that a step pushes
  abbrev Known : ℕ → Packet → RtpMeta → Type 0
  Known = IsPushOf all_steps sends s.payloading.clock_rate

  abbrev faithful : IsFaithful Known s.payloading.clock_rate (payloads_by s.payloading.packetizer)
  faithful = push_faithful all_steps sends s.payloading.clock_rate (payloads_by s.payloading.packetizer)

  abbrev named : ℕ → ℕ → DepacketizerState → List Held
  named place k = held_of place s.payloading.clock_rate (packet_named t.sink.packets sends place k)

  abbrev stream : Streams samples all_steps s t
  stream = streams plainly samples 0 all_steps s t sends pops run

  found : Logs named 0 all_steps (begun s.buffer) pops t.buffer
  found =
      log_from plainly named t.sink.packets s.payloading.clock_rate sends samples
      (plain_as_named t.sink.packets s.payloading.clock_rate sends) all_steps 0 s t sends [] pops (begun s.buffer) run refl refl refl
      (λ n l. sym (ap length unused.nothing_sent)) refl

  module _ (units : List SentUnit) (lawful : AllLawful (payloads_by s.payloading.packetizer) (may_split s.payloading.packetizer) units) (packets : packets_of units ≡ t.sink.packets) where
    abbrev pub run_setting : Setting
    run_setting = setting samples all_steps s t stream unused readable Known faithful units lawful packets

    abbrev run_fresh : Beyond run_setting 0 s.buffer
    run_fresh = fresh samples all_steps s t stream unused readable Known faithful units lawful packets

    abbrev pub run_ready : IsReady run_setting 0 s.buffer
    run_ready = ready samples all_steps s t stream unused readable Known faithful units lawful packets

    pub run_chain : (turns : List Turn) (end : Stretch) → IsLog t.sink.packets s.payloading.clock_rate sends 0 all_steps (begun s.buffer) turns end → Chain run_setting s.buffer turns end
    run_chain turns end log =
        plain_chain run_setting all_steps sends turns end s.buffer run_fresh
        (subst (λ (ps : List Packet). IsLog ps s.payloading.clock_rate sends 0 all_steps (begun s.buffer) turns end) (sym packets) log)

  -- the units of the stream, and the packets that were sent
  sent : SendsAll s t stream.units
  sent = sends_all samples all_steps s t unused stream

  chain : Chain (run_setting stream.units (stream.lawful readable) (sym sent.whole)) s.buffer found.turns found.end
  chain = run_chain stream.units (stream.lawful readable) (sym sent.whole) found.turns found.end found.is_log

  -- a run over an unused sink and an unused buffer releases the units that it sends in order, each at most once
  abbrev safe : ReleasesInOrder samples all_steps s sends pops t
  safe = record {
    units = stream.units;
    canonical = stream.canonical;
    packets = sym sent.whole;
    ends = all_end (payloads_by s.payloading.packetizer) (may_split s.payloading.packetizer) stream.units (stream.lawful readable);
    in_order = subst (InOrder Known (may_split s.payloading.packetizer) stream.units 0) found.answers
        (chain_in_order (run_setting stream.units (stream.lawful readable) (sym sent.whole)) 0 s.buffer found.turns found.end (run_fresh stream.units (stream.lawful readable) (sym sent.whole)) chain);
    before_pops = of_earlier plainly samples plain_earlier 0 all_steps s t sends pops run (subst (AllEarlier 0) (sym unused.nothing_held) tt);
  }

  -- a packet that is pushed first is named before the first pop
  pushed_first : (k : ℕ) → k < length (packets_of stream.units) → IsPushedFirst all_steps sends k → PushesBefore (s.sink.first + k) found.turns
  pushed_first k l p =
      let reach = entry_before plainly samples 0 all_steps s t sends pops run p.entry (in_contains p.entry sends p.noted) p.place p.sent_before in
      let early : k < sent_before p.place sends = omega (arith, reach, p.reaches, ap length unused.nothing_sent) in
      let at = slice_there (packets_of stream.units) k l in
      let taken : packet_named t.sink.packets sends p.place k ≡ Some at.0 =
      slice_take t.sink.packets (sent_before p.place sends) k early ∙ ap (λ (ps : List Packet). slice_get ps k) sent.whole ∙ at.1 in
      let number : at.0.number ≡ s.sink.first + k = number_at (packets_of stream.units) s.sink.first k at.0 sent.numbered at.1 in
      pushed_before all_steps named p.place k (s.sink.first + k) p.pushes p.before_pops
      (λ d. ap (λ (o : Option Packet). has_number (s.sink.first + k) (held_of p.place s.payloading.clock_rate o d)) taken ∙ grind (arith, nat_tests, number))
      all_steps 0 (begun s.buffer) found.turns found.end refl found.is_log (inl (omega arith))

  -- and all of them if all are pushed first
  pub exact : ReleasesUnits samples all_steps s sends pops t
  exact = record {
    in_order = safe;
    exactly = λ pushed. subst (AnswersAll Known 0 stream.units) found.answers
        (answers_all (run_setting stream.units (stream.lawful readable) (sym sent.whole)) s.buffer found.turns found.end
        (empty samples all_steps s t stream unused readable Known faithful stream.units (stream.lawful readable) (sym sent.whole) pushed.few)
        (may_go samples all_steps s t stream unused readable Known faithful) chain
        (λ k l. pushed_first k l (pushed.pushed k (omega (arith, l, ap length sent.whole)))));
  }

  -- every run has a log
  pub logged : RunLog samples all_steps s sends pops t
  logged = record {
    released = safe;
    lawful = stream.lawful readable;
    turns = found.turns;
    end = found.end;
    is_log = found.is_log;
    answers = found.answers;
    left = found.left;
  }

  -- for video, a whole release reports the values of its sample
  pub has_values : (released : ReleasesInOrder samples all_steps s sends pops t) → HaveValuesOfSamples released
  has_values released video place r whole =
      let sent = sends_all samples all_steps s t unused stream in
      let kind = payloads_by s.payloading.packetizer in
      let ends = all_end kind (may_split s.payloading.packetizer) stream.units (stream.lawful readable) in
      let all = values_of kind (values_of_run s.payloading.packetizer samples all_steps) released.units stream.units released.ends ends (released.packets ∙ sent.whole) (stream.values video) in
      let at = carried_at (values_of_run s.payloading.packetizer samples all_steps) released.units place whole.0.sent all whole.0.at_place in
      let exact : whole.0.rest ≡ whole.0.sent.packets = ap (λ (ps : List Packet). ps ++ whole.0.rest) (sym whole.1) ∙ whole.0.whole in
      let k = packets_before place released.units + length whole.0.missing in
      let pushes : ArePushesBy Known k whole.0.sent.packets r.metas = subst (λ (ps : List Packet). ArePushesBy Known k ps r.metas) exact whole.0.metas in
      (at.0, at.1, told whole.0.sent.packets k at.0 (end_at kind released.units place whole.0.sent released.ends whole.0.at_place) pushes at.2)
    where
      told : (ps : List Packet) (k : ℕ) (values : ExtensionValues) → EndsWithTail (payloads_by s.payloading.packetizer) ps → ArePushesBy Known k ps r.metas
          → AreStripped values 0 (length ps) ps → AreValues r.metas values
      told [] k values end pushes carry = absurd end
      told (p ∷ ps) k values end pushes carry = told_by_all all_steps sends s.payloading.clock_rate values k p ps r.metas pushes carry

  module _ (log : RunLog samples all_steps s sends pops t) where
    abbrev pub log_setting : Setting
    log_setting = run_setting log.released.units log.lawful log.released.packets

    abbrev pub log_ready : IsReady log_setting 0 s.buffer
    log_ready = run_ready log.released.units log.lawful log.released.packets

    pub log_chain : Chain log_setting s.buffer log.turns log.end
    log_chain = run_chain log.released.units log.lawful log.released.packets log.turns log.end log.is_log

    log_nothing : Follows log_setting 0 s.buffer.depacketizer s.buffer.contiguity
    log_nothing = nothing samples all_steps s t stream unused readable Known faithful log.released.units log.lawful log.released.packets

    pub order_free : IsOrderFree log
    order_free = subst (λ (ps : List Packet). AreStretches Known s.sink.first ps log.turns log.end) log.released.packets (are_stretches log_setting 0 s.buffer log.turns log.end log_ready log_chain)

    pub contiguous_as_said : IsContiguousAsSaid log
    contiguous_as_said plain =
        subst (λ (ps : List Packet). AllFollowAsSaid s.sink.first (length ps) None false log.turns) log.released.packets
        (all_follow log_setting 0 None false s.buffer log.turns log.end plain log_ready
        (tracked samples all_steps s t stream unused readable Known faithful log.released.units log.lawful log.released.packets) log_chain)

    pub passes_none_over : PassesNoneOver log
    passes_none_over plain = none_is_passed log_setting 0 s.buffer log.turns log.end plain log_ready log_chain

    pub passes_only_past_gap : PassesOnlyPastGap log
    passes_only_past_gap = only_past_gap log_setting s.buffer log.turns log.end log_ready log_nothing log_chain

    pub loses_none_silently : LosesNoneSilently log
    loses_none_silently = none_is_lost log_setting 0 s.buffer log.turns log.end log_ready log_chain

    pub begins_as_sent : BeginsAsSent log
    begins_as_sent whole kept patient =
        let first_whole = subst (FirstIsWhole Known (may_split s.payloading.packetizer) log.released.units) (sym log.answers) whole in
        let none_evicted = subst (λ (ps : List Packet). NoneEvicted s.sink.first (length ps) log.turns) (sym log.released.packets) kept in
        subst (AreNext Known (may_split s.payloading.packetizer) log.released.units 0) log.answers
        (begins_from log_setting s.buffer log.turns log.end log_ready log_nothing log_chain first_whole none_evicted patient)

-- two runs over the same packets
pub only_sets_count : OnlySetsCount
only_sets_count samples all_steps other_steps s t u sends other_sends pops other_pops run other_run packets unused readable log other same =
    let exactly = unused_exactly samples all_steps s sends pops t unused run in
    let c = log_setting samples all_steps s t sends pops exactly unused readable log in
    let ready_of_log = log_ready samples all_steps s t sends pops exactly unused readable log in
    let d = by_steps c other_steps other_sends in
    let beyond = fresh_beyond d.known d.clock_rate d.first d.kind d.faithful d.splits d.units d.lawful d.numbered s.buffer unused.nothing_held unused.no_cutoff unused.alike in
    let ready_of_other : IsReady d 0 s.buffer = record { beyond = beyond; few = ready_of_log.few } in
    let other_log : IsLog (packets_of log.released.units) s.payloading.clock_rate other_sends 0 other_steps (begun s.buffer) other.turns other.end =
    subst (λ (ps : List Packet). IsLog ps s.payloading.clock_rate other_sends 0 other_steps (begun s.buffer) other.turns other.end) (sym (log.released.packets ∙ packets)) other.is_log in
    let other_chain = plain_chain c other_steps other_sends other.turns other.end s.buffer beyond other_log in
    ap (map (answer_with bare_meta)) (sym log.answers)
    ∙ chains_same true c d.known d.faithful (λ q. bare_meta (meta_of_push 0 s.payloading.clock_rate q)) (λ k q m push. ap bare_meta push.3)
    (λ k q m push. ap bare_meta push.3) 0 0 s.buffer s.buffer log.turns other.turns log.end other.end ready_of_log ready_of_other refl
    (log_chain samples all_steps s t sends pops exactly unused readable log) other_chain same
    ∙ ap (map (answer_with bare_meta)) other.answers

-- the guarantees of a run follow from its steps alone
pub promises : (r : Ran) → RunsAsSteps r → KeepsPromises r
promises r run =
    let exactly : IsFresh r → Runs plainly r.samples 0 r.steps r.before r.sends r.pops r.after = λ is. unused_exactly r.samples r.steps r.before r.sends r.pops r.after is.0 run in
    record {
      run_as_steps = run;
      counted = run_counts r.samples 0 r.steps r.before r.sends r.pops r.after run;
      safety_half = λ is. safe r.samples r.steps r.before r.after r.sends r.pops (exactly is) is.0 is.1;
      exact_half = λ is. exact r.samples r.steps r.before r.after r.sends r.pops (exactly is) is.0 is.1;
      logged = λ is. logged r.samples r.steps r.before r.after r.sends r.pops (exactly is) is.0 is.1;
      order = λ is log. order_free r.samples r.steps r.before r.after r.sends r.pops (exactly is) is.0 is.1 log;
      contiguous = λ is log. contiguous_as_said r.samples r.steps r.before r.after r.sends r.pops (exactly is) is.0 is.1 log;
      no_silent_loss = λ is log. loses_none_silently r.samples r.steps r.before r.after r.sends r.pops (exactly is) is.0 is.1 log;
      none_skipped = λ is log. passes_none_over r.samples r.steps r.before r.after r.sends r.pops (exactly is) is.0 is.1 log;
      skipped_past_gap = λ is log. passes_only_past_gap r.samples r.steps r.before r.after r.sends r.pops (exactly is) is.0 is.1 log;
      beginning = λ is log. begins_as_sent r.samples r.steps r.before r.after r.sends r.pops (exactly is) is.0 is.1 log;
      extension_values = λ is released. has_values r.samples r.steps r.before r.after r.sends r.pops (exactly is) is.0 is.1 released;
    }
