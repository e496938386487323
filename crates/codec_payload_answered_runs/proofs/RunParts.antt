-- What a run over datagrams in which each gap is filled pops. The part before `at_pops` repeats ReleaseLemmas of
-- codec_payload_datagram_runs, whose names for these facts are private.
use Rattle.std.proofs.Common.{◌≡◌, ◌∙◌, refl, sym, ap, subst, ℕ, ◌+◌, ◌-◌, ◌%◌, ◌^◌, ◌<◌, ◌&&◌, List, [], ◌∷◌, inl, inr, false, Bool, Option, None, length, leb, map, arith}
use Rattle.std.specs.Prelude.{Contains}
use Rattle.std.proofs.lemmas.Bool.{and_parts, leb-true}
use Rattle.std.proofs.lemmas.Option.{slice_get_within}
use Rattle.codec_payload_buffer.proofs.MemberLemmas.{contains_in, in_contains}
use Rattle.codec_payload_codec.specs.Depacketizers.{DepacketizerKind, is_built_in_depacketizer, is_codec, tail_in}
use Rattle.codec_payload_codec.proofs.CodecLemmas.{codec_payloads}
use Rattle.codec_payload_codec.specs.Packetizers.{payloads_by, may_split}
use Rattle.codec_payload_metadata.specs.declared.meta.RtpMeta.{RtpMeta}
use Rattle.codec_payload_sending_history.specs.declared.retransmission.RetransmissionStream.{RetransmissionStream}
use Rattle.codec_payload_buffer_runs.proofs.order.ArrivalLemmas.{AllKnown, met_all, met_in_order}
use Rattle.codec_payload_buffer_runs.proofs.units.BuiltInRuns.{plainly, unused_exactly}
use Rattle.codec_payload_buffer_runs.proofs.order.RunSettings.{empty, fresh, may_go, nothing, ready, setting, tracked}
use Rattle.codec_payload_buffer_runs.proofs.order.SafetyLemmas.{SendsAll, all_end, sends_all}
use Rattle.codec_payload_buffer_runs.proofs.units.StreamLemmas.{Streams, streams}
use Rattle.codec_payload_buffer_runs.proofs.order.TurnLemmas.{IsReady, Setting}
use Rattle.codec_payload_buffer_runs.proofs.units.UnitRows.{IsFaithful}
use Rattle.codec_payload_buffer_runs.specs.Arrivals.{AllArriveFirst, Event, Meets}
use Rattle.codec_payload_buffer_runs.specs.Exact.{AnswersAll}
use Rattle.codec_payload_buffer_runs.specs.Headline.{IsUnused, packets_before}
use Rattle.codec_payload_buffer_runs.specs.LawfulUnits.{AllLawful}
use Rattle.codec_payload_buffer_runs.specs.Log as runs
use Rattle.codec_payload_buffer_runs.specs.Log.{Turn}
use Rattle.codec_payload_buffer_runs.specs.RunValues.{values_of_run}
use Rattle.codec_payload_buffer_runs.specs.SentStream.{SentUnit, packets_of}
use Rattle.codec_payload_buffer_runs.specs.declared.run.Step.{Step}
use Rattle.codec_payload_payloader.specs.Packets.{Packet}
use Rattle.codec_payload_buffer_runs.specs.Schedule.{Answer, RunState}
use Rattle.codec_payload_payloader.specs.Sending.{Sample}
use Rattle.codec_payload_numbers.specs.NotedTimes.{AreTimesOf}
use Rattle.codec_payload_numbers.specs.Numbers.{Numbering}
use Rattle.codec_payload_sending.specs.Senders.{Sending}
use Rattle.codec_payload_receiver.specs.Sessions.{Session}
use Rattle.codec_payload_receiver.specs.RedOnce.{HasNoBlock}
use Rattle.codec_payload_receiver.proofs.BlockTimeLemmas.{new_has_no_block}
use Rattle.codec_payload_datagram_runs.proofs.BroughtLemmas.{Came, pops_came}
use Rattle.codec_payload_datagram_runs.proofs.Courses.{Proceeds, proceeds}
use Rattle.codec_payload_datagram_runs.proofs.DeliveredLemmas.{AllIn, delivered_before}
use Rattle.codec_payload_datagram_runs.proofs.TimelyLemmas.{StayTimely, stay_timely}
use Rattle.codec_payload_datagram_runs.proofs.EventLemmas.{Brings, HasLog, IsMet, IsRead, delivery_of, met, split_at_end, times_from}
use Rattle.codec_payload_datagram_runs.proofs.GapLemmas.{only_past_gap}
use Rattle.codec_payload_datagram_runs.proofs.LogLemmas.{Chained, all_follow, all_in_time, chained, log_known, none_is_lost, none_passed, stretches}
use Rattle.codec_payload_datagram_runs.proofs.NewReceivers.{IsBegun, new_is_begun, passed}
use Rattle.codec_payload_receiver.specs.declared.receiver.SettingsError.TheVariants as refusals
use Rattle.codec_payload_datagram_runs.proofs.ReceivingLemmas.{AllNumbered, IsListening}
use Rattle.codec_payload_datagram_runs.proofs.SendingLemmas.{SendsRun, running, same_count, sends_run}
use Rattle.codec_payload_datagram_runs.proofs.HeldLemmas.{AllHeld}
use Rattle.codec_payload_datagram_runs.proofs.StepLemmas.{Takes}
use Rattle.codec_payload_datagram_runs.proofs.ValueLemmas.{has_values}
use Rattle.codec_payload_datagram_runs.specs.HistoryReleases.{AreHeard, plain_steps_of}
use Rattle.codec_payload_datagram_runs.specs.HistoryRuns.{begins_with}
use Rattle.codec_payload_datagram_runs.specs.Releases.{is_sent_again_by, AllComeFirst, AreDatagrams, HasValuesOf, IsDelivery, times_sent}
use Rattle.codec_payload_datagram_runs.specs.Releases.{IsWithinWindows, ReleasesUnits, delivered, received_steps, sending_steps}
use Rattle.codec_payload_datagram_runs.specs.WireLogs.{IsLogOf, KeepsPromises, WireLog}
use Rattle.codec_payload_datagram_runs.specs.WireRuns.{Wire, begins}
use Rattle.codec_payload_datagram_runs.specs.declared.run.DatagramStep.{DatagramStep}
use Rattle.codec_payload_datagram_runs.specs.declared.run.DatagramStep.TheVariants as steps
use Rattle.codec_payload_datagram_runs.proofs.RepeatLemmas.{course}
use Rattle.codec_payload_datagram_runs.proofs.ReleaseLemmas.{AllBelow, SendsFrom, SentFrom, first_for, first_low, first_small, numbered_within, starts_unused, takes_of}
use Rattle.codec_payload_timely_runs.proofs.TimedTurns.{Answered, answered, due_by_deliveries, none_overdue, timed_of, units_come}
use Rattle.codec_payload_buffer.specs.declared.buffer.frames.CompleteFrame.{CompleteFrame}
use Rattle.codec_payload_buffer_runs.proofs.order.TakenLemmas.{IsPlain}
use Rattle.codec_payload_buffer_runs.specs.ReportedIds.{next_id}
use Rattle.codec_payload_buffer_runs.specs.RunUnits.{AreNext, IsAmong, NonePassedOver}
use Rattle.codec_payload_timely_runs.specs.TimelyRuns.{From, KeepsTimes, LeavesBy, SomePopBy, evicted, held, pop_times, released, skipped_over}
use Rattle.codec_payload_feedback_requests.specs.declared.nack.NackSettings.{NackSettings}
use Rattle.codec_payload_feedback_requests.specs.NackRuns.{Exact, OnTime}
use Rattle.codec_payload_feedback_requests.specs.NackSchedule.{new_schedule}
use Rattle.codec_payload_buffer.proofs.MemberLemmas.{IsIn}
use Rattle.codec_payload_datagram_runs.proofs.EventLemmas.{AllTimed}
use Rattle.codec_payload_datagram_runs.proofs.TimelyLemmas.{time_in}
use Rattle.codec_payload_datagram_runs.specs.declared.run.SentSample.{SentSample}
use Rattle.codec_payload_answered_runs.proofs.AskedCourses.{AskedCourse, HearsTo, Listens, asked_course, hears_to, plain_course, plain_heard}
use Rattle.codec_payload_answered_runs.proofs.ServedGaps.{unseen, walk}
use Rattle.codec_payload_answered_runs.specs.AskedRuns.{AllowsTries, Asked, AskedStep, Asking, FillsGaps, RequestsFillGaps, ServesRequests, begins_asking, receiver_steps, plain_of}
use Rattle.codec_payload_answered_runs.proofs.WholeRuns.{comes_begun, comes_by, in_turn, none_evicted}
use Rattle.codec_payload_answered_runs.proofs.WholeTurns.{IsOf, Stands, StandsAt}
use Rattle.codec_payload_answered_runs.specs.FilledGaps.{FilledGapsLoseNone, FilledGapsLoseNoneWithHistory, GapsAreFilled, IsPoppedBy, KeepsUp, LosesNone, WaitsByTime, first_size}

-- no pop skips the unit
none_skipped_by : (first : ℕ) (units : List SentUnit) (place by : ℕ) (times : List ℕ) (turns : List Turn) → NonePassedOver turns
    → SomePopBy by (λ (turn : Turn). IsAmong first units place turn.passed) times turns → ⊥
none_skipped_by first units place by [] turns none some = some
none_skipped_by first units place by (time ∷ times) [] none some = some
none_skipped_by first units place by (time ∷ times) (turn ∷ turns) none (inl here) = no_item here.1.0 (subst (λ (fs : List CompleteFrame). Contains fs here.1.0) none.0 here.1.1)
  where
    no_item : (f : CompleteFrame) → Contains [] f → ⊥
    no_item f (k, l, e) = absurd (omega (arith, l))
none_skipped_by first units place by (time ∷ times) (turn ∷ turns) none (inr later) = none_skipped_by first units place by times turns none.1 later

all_timed : (first : ℕ) (packets : List Packet) (ks : List ℕ) → AllTimed (times_from first packets) first packets ks
all_timed first packets [] = tt
all_timed first packets (k ∷ ks) = let place : k ≡ first + k - first = omega arith in (ap (time_in packets) place, all_timed first packets ks)

-- the numbers of datagrams that were sent
takes_below : (again : Option RetransmissionStream) (later : List DatagramStep) (datagrams : List (List ℕ)) (s t : Session) (answers : List Answer) → Takes again later datagrams s answers t → AllBelow (length datagrams) (delivered later)
takes_below again [] datagrams s t answers takes = tt
takes_below again (steps.Send i ∷ later) datagrams s t answers takes = takes_below again later datagrams s t answers takes
takes_below again (steps.Deliver k now ∷ later) datagrams s t answers takes = (slice_get_within datagrams k takes.0 takes.1, takes_below again later datagrams takes.5 t answers takes.7)
takes_below again (steps.Pop now ∷ later) datagrams s t answers takes = takes_below again later datagrams takes.2 t takes.1 takes.6
takes_below again (steps.Finish ∷ later) datagrams s t answers takes = takes_below again later datagrams takes.0 t answers takes.2

module _ (again : Option RetransmissionStream) (samples : List Sample) (all_steps : List DatagramStep) (sender : Sending) (receiver : Session) (t : Wire)
    (takes : Takes again (received_steps samples 0 all_steps t.sends) t.datagrams receiver t.pops t.session) (sends_from : SendsFrom samples all_steps sender receiver t)
    (hears : AreHeard again receiver.stream.retransmission) (within : IsWithinWindows samples all_steps sender receiver t.sends) where
  abbrev received : List DatagramStep
  received = received_steps samples 0 all_steps t.sends

  abbrev rate : ℕ
  rate = sender.stream.clock_rate

  abbrev number : ℕ
  number = sender.stream.number % 65536

  low : number < 65536
  low = omega arith

  abbrev first : ℕ
  first = first_for number (delivered received)

  abbrev forward : ℕ
  forward = within.settings.forward

  abbrev backward : ℕ
  backward = within.settings.backward

  begun : IsBegun within.settings within.depacketizer receiver
  begun = new_is_begun within.settings within.depacketizer receiver within.new

  listening : IsListening again sender.stream receiver
  listening = record {
    payload_type = ap (λ (x : Session). x.stream.payload_type) begun.is ∙ within.one_stream.payload_type;
    named = ap (λ (x : Session). x.named) begun.is ∙ within.one_stream.ssrc;
    ssrc = ap (λ (x : Session). x.ssrc) begun.is ∙ within.one_stream.ssrc;
    not_again = ap (λ (x : Session). is_sent_again_by x.stream.retransmission sender.stream) begun.is ∙ within.one_stream.not_again;
    rate = ap (λ (x : Session). x.packets.rate) begun.is ∙ within.one_stream.clock_rate;
    running = ap (λ (x : Session). x.packets.is_restarting) begun.is;
    none_noted = ap (λ (x : Session). x.packets.no_media_numbers) begun.is;
    of_codec = ap (λ (x : Session). is_built_in_depacketizer x.packets.buffer.depacketizer) begun.is ∙ (ap is_codec within.one_stream.alike ∙ codec_payloads sender.packetizer within.one_stream.built_in);
    no_block_seen = subst HasNoBlock (sym (ap (λ (x : Session). x.seen) begun.is)) new_has_no_block;
    drops_none = ap (λ (x : Session). x.gates.drops) begun.is ∙ within.one_stream.drops_none;
    heard = hears;
  }

  few : length t.datagrams < 2 ^ 63
  few = let any = sends_from number (omega arith) (omega arith) in omega (arith, any.few, same_count sender.stream any.all t.datagrams any.reads)

  numbers : AllNumbered first receiver.packets.numbering (delivered received)
  numbers = subst (λ (n : Numbering). AllNumbered first n (delivered received)) (sym (ap (λ (x : Session). x.packets.numbering) begun.is))
      (numbered_within forward backward number (length t.datagrams) (delivered received) begun.windows low few (takes_below again received t.datagrams receiver t.session t.pops takes) within.within)

  sent : SentFrom receiver.packets.buffer samples all_steps sender t first
  sent = sends_from first (first_small forward backward number (delivered received) low within.within) (first_low forward backward sender.stream.number (delivered received) within.within)

  nothing_noted : AreTimesOf (times_from first sent.all) receiver.packets.noted
  nothing_noted = subst (λ (x : Session). AreTimesOf (times_from first sent.all) x.packets.noted) (sym begun.is) (tt, refl)

  timely : StayTimely rate first sent.all receiver.packets.first (delivered received)
  timely = subst (λ (x : Session). StayTimely rate first sent.all x.packets.first (delivered received)) (sym begun.is)
      (stay_timely rate first sent.all (times_sent rate samples all_steps t.sends) (delivered received) sent.times within.timely)

  come : IsMet receiver.packets sender.stream sent.all received receiver t.pops t.session
  come = met again sender.stream within.one_stream.not_rtcp first sent.all t.datagrams sent.reads sent.numbered receiver.packets received receiver t.session t.pops listening (record { wait_limits = refl; room = refl }) numbers timely nothing_noted takes

  abbrev start : RunState
  start = running receiver.packets.buffer first rate sender []

  unused : IsUnused start
  unused = starts_unused within.settings within.depacketizer sender receiver first within.new within.one_stream

  -- the units of the samples

  abbrev after : RunState
  after = running receiver.packets.buffer first rate sent.end sent.all

  abbrev sends : List Step
  sends = sending_steps sender.mtu all_steps

  units_sent : Streams samples sends start after
  units_sent = sent.stream

  whole : SendsAll start after units_sent.units
  whole = sends_all samples sends start after unused units_sent

  abbrev units : List SentUnit
  units = units_sent.units

  abbrev kind : DepacketizerKind
  kind = payloads_by sender.packetizer

  abbrev splits : Bool
  splits = may_split sender.packetizer

  lawful : AllLawful kind splits units
  lawful = units_sent.lawful within.readable

  abbrev Known : ℕ → Packet → RtpMeta → Type 0
  Known = IsDelivery receiver.stream.ids sender.stream (packets_of units) received

  faithful : IsFaithful Known rate kind
  faithful = record {
    number = λ k q m known. known.1.number;
    time = λ k q m known. known.1.time;
    tail = λ k q m known. ap (λ b. tail_in kind b q.payload) known.1.marker;
  }

  -- the buffer's part of the run
  abbrev here : Setting
  here = setting samples sends start after units_sent unused within.readable Known faithful units lawful (sym whole.whole)

  known : AllKnown here come.events
  known k meta is q tells = (
    contains_in (steps.Deliver k meta.received) received (delivery_of receiver.packets.ended received come.events k meta come.brings is),
    tells,
    subst (λ (ps : List Packet). HasValuesOf receiver.stream.ids sender.stream ps k meta) whole.whole (come.values k meta is),
  )

  meets : Meets rate (packets_of units) come.events receiver.packets.buffer t.pops t.session.packets.buffer
  meets = subst (λ (ps : List Packet). Meets rate ps come.events receiver.packets.buffer t.pops t.session.packets.buffer) whole.whole come.meets

  all_come : AllComeFirst receiver.packets.buffer.limit (length t.datagrams) received → AllArriveFirst receiver.packets.buffer.limit sent.all come.events
  all_come come_first =
      let split = split_at_end receiver.packets.ended come_first.before come_first.after come.events come_first.no_pops
      (subst (λ (es : List DatagramStep). Brings receiver.packets.ended es come.events) come_first.whole come.brings) in
      let count : length sent.all ≡ length t.datagrams = same_count sender.stream sent.all t.datagrams sent.reads in
      record {
        few = omega (arith, come_first.few, count);
        before = split.first;
        after = split.rest;
        whole = split.whole;
        no_pops = split.only;
        each = λ k l. split.has k (in_contains k (delivered come_first.before) (come_first.each k (omega (arith, l, count))));
        made = split.made;
      }

  answers_all : AllComeFirst receiver.packets.buffer.limit (length t.datagrams) received → AnswersAll Known 0 units t.pops
  answers_all come_first =
      let first_all = all_come come_first in
      met_all here first_all.before first_all.after receiver.packets.buffer t.session.packets.buffer t.pops (subst (AllKnown here) first_all.whole known) first_all.no_pops first_all.made
      (empty samples sends start after units_sent unused within.readable Known faithful units lawful (sym whole.whole) first_all.few)
      (may_go samples sends start after units_sent unused within.readable Known faithful)
      (λ k l. first_all.each k (subst (λ (ps : List Packet). k < length ps) (sym whole.whole) l))
      (subst (λ (es : List Event). Meets rate (packets_of units) es receiver.packets.buffer t.pops t.session.packets.buffer) first_all.whole meets)

  abbrev releases_units : ReleasesUnits samples all_steps (begins sender receiver) t
  releases_units = record {
    units = units;
    canonical = units_sent.canonical;
    datagrams = subst (λ (ps : List Packet). AreDatagrams sender.stream ps t.datagrams) whole.whole sent.reads;
    ends = all_end kind splits units lawful;
    in_order = met_in_order here 0 come.events receiver.packets.buffer t.session.packets.buffer t.pops known
        (fresh samples sends start after units_sent unused within.readable Known faithful units lawful (sym whole.whole)) meets;
    before_pops = delivered_before rate sent.all receiver.packets.ended received [] come.events receiver.packets.buffer t.session.packets.buffer t.pops come.brings come.meets
        (subst (λ (x : Session). AllIn [] x.packets.buffer.held) (sym begun.is) tt);
    exactly = answers_all;
    extension_values = λ video ids place r is. has_values receiver.stream.ids sender.stream received kind splits units (values_of_run sender.packetizer samples sends)
        (all_end kind splits units lawful) (units_sent.values video) ids.same ids.fit place r is;
  }

  -- Pop by pop

  abbrev readies : IsReady here 0 receiver.packets.buffer
  readies = ready samples sends start after units_sent unused within.readable Known faithful units lawful (sym whole.whole)

  log : HasLog (IsRead receiver.stream.ids sender.stream sent.all) sent.all receiver.packets receiver.packets.ended received (runs.begun receiver.packets.buffer) t.pops t.session.packets.buffer
  log = come.logs (runs.begun receiver.packets.buffer) refl

  is_log : IsLogOf Known (packets_of units) receiver.packets receiver.packets.ended received (runs.begun receiver.packets.buffer) log.turns log.end
  is_log =
      log_known received (IsRead receiver.stream.ids sender.stream (packets_of units)) Known (packets_of units) receiver.packets
      (λ k q m is read. (contains_in (steps.Deliver k m.received) received is, read.0, read.1)) receiver.packets.ended received (λ step is. is)
      (runs.begun receiver.packets.buffer) log.turns log.end
      (subst (λ (ps : List Packet). IsLogOf (IsRead receiver.stream.ids sender.stream ps) ps receiver.packets receiver.packets.ended received (runs.begun receiver.packets.buffer) log.turns log.end) whole.whole log.is_log)

  chain : (l : WireLog samples all_steps (begins sender receiver) t units) → Chained here receiver.packets.buffer l.turns l.end
  chain l = chained here receiver.packets receiver.packets.ended received 0 (runs.begun receiver.packets.buffer) l.turns l.end readies (record { sent = tt; now = refl }) l.is_log

  abbrev keeps_all : KeepsPromises samples all_steps (begins sender receiver) t
  keeps_all = record {
    released = releases_units;
    first = first;
    numbered = whole.numbered;
    logged = record { turns = log.turns; end = log.end; is_log = is_log; answers = log.answers_are; left = log.left };
    order = λ l. stretches here 0 receiver.packets.buffer l.turns l.end readies (chain l);
    contiguous = λ plain l. all_follow here 0 None false receiver.packets.buffer l.turns l.end plain readies
        (tracked samples sends start after units_sent unused within.readable Known faithful units lawful (sym whole.whole)) (chain l);
    no_silent_loss = λ l. none_is_lost here 0 receiver.packets.buffer l.turns l.end readies (chain l);
    in_time = λ l. all_in_time here receiver.packets.buffer l.turns l.end readies (ap (λ (x : Session). x.packets.buffer.cutoff) begun.is) (chain l);
    before_pops = (pops_came rate first (packets_of units) whole.numbered receiver.packets.ended received [] come.events receiver.packets.buffer t.session.packets.buffer t.pops come.brings meets
        (subst (λ (x : Session). AllHeld (Came []) x.packets.buffer.held) (sym begun.is) tt)).0;
    none_skipped = λ plain l. none_passed here 0 receiver.packets.buffer l.turns l.end plain readies (chain l);
    skipped_past_gap = λ l. only_past_gap here receiver.packets.buffer l.turns l.end readies
        (nothing samples sends start after units_sent unused within.readable Known faithful units lawful (sym whole.whole)) (chain l);
  }

  -- Times

  at_pops : (l : WireLog samples all_steps (begins sender receiver) t units) → Answered receiver.packets (pop_times received) l.turns
  at_pops l = answered Known (packets_of units) receiver.packets receiver.packets.ended received (runs.begun receiver.packets.buffer) l.turns l.end l.is_log

  abbrev keeps_times : KeepsTimes samples all_steps (begins sender receiver) t
  keeps_times = record {
    promises = keeps_all;
    none_overdue = λ max_wait limit l. none_overdue here receiver.packets max_wait limit 0 receiver.packets.buffer l.turns l.end (pop_times received) readies (chain l) (at_pops l);
    in_time = λ max_wait limit l pops.
        units_come here receiver.packets max_wait limit receiver.packets.buffer l.turns l.end (pop_times received) readies (ap (λ (x : Session). x.packets.buffer.cutoff) begun.is) (chain l) (at_pops l)
        (timed_of max_wait (From 0 None) received l.turns pops);
    after_deliveries = λ max_wait limit l pops place by u at comes delivered.
        units_come here receiver.packets max_wait limit receiver.packets.buffer l.turns l.end (pop_times received) readies (ap (λ (x : Session). x.packets.buffer.cutoff) begun.is) (chain l) (at_pops l)
        (timed_of max_wait (From 0 None) received l.turns pops) place by u at comes
        (due_by_deliveries here max_wait by (first + packets_before (place + 1) units) (λ k q m is. delivered k m.received is.0) 0 receiver.packets.buffer l.turns l.end readies (chain l));
  }

  -- Filled gaps

  plain_here : next_id sender.packetizer ≡ None → IsPlain here
  plain_here plain = plain

  same_sent : length t.datagrams ≡ length (packets_of units)
  same_sent = sym (ap length (sym whole.whole) ∙ same_count sender.stream sent.all t.datagrams sent.reads)

  few_sent : receiver.packets.buffer.limit < 2 ^ 63
  few_sent =
      let a = passed (leb within.settings.payload_type 127) _ refusals.PayloadType receiver within.new in
      let b = passed (leb 1 within.settings.limit && leb within.settings.limit 65536) _ refusals.Limit receiver a.1 in
      let range = and_parts (leb 1 within.settings.limit) (leb within.settings.limit 65536) b.0 in
      let most = leb-true within.settings.limit 65536 range.1 in
      let same = ap (λ (x : Session). x.packets.buffer.limit) begun.is in
      omega (arith, most, same)

  -- nothing was popped, and nothing came
  stands_first : (plain : IsPlain here) (max_wait : ℕ) (settings : WaitsByTime max_wait receiver.packets)
      → Stands here receiver.packets max_wait plain settings few_sent 0 [] receiver.packets.buffer
  stands_first plain max_wait settings =
      let empty_is : receiver.packets.buffer.held ≡ [] = ap (λ (x : Session). x.packets.buffer.held) begun.is in
      record {
        ready = readies;
        held_in = subst (AllHeld (IsOf here receiver.packets max_wait plain settings few_sent [])) (sym empty_is) tt;
        in_held = λ k has. absurd (cc);
        cut = subst (StandsAt here receiver.packets max_wait plain settings few_sent 0 []) (sym (ap (λ (x : Session). x.packets.buffer.cutoff) begun.is)) refl;
        near = λ k has. absurd (cc);
        limit = refl;
      }

  not_ended : receiver.packets.ended ≡ false
  not_ended = ap (λ (x : Session). x.packets.ended) begun.is

  log_on : (l : WireLog samples all_steps (begins sender receiver) t units) → IsLogOf here.known (packets_of here.units) receiver.packets false received (runs.begun receiver.packets.buffer) l.turns l.end
  log_on l = subst (λ (b : Bool). IsLogOf here.known (packets_of here.units) receiver.packets b received (runs.begun receiver.packets.buffer) l.turns l.end) not_ended l.is_log

  -- it keeps up
  abbrev Keeps : Type 0
  Keeps = KeepsUp receiver.packets.room receiver.packets.buffer.limit units 0 received t.pops

  keeps_log : (l : WireLog samples all_steps (begins sender receiver) t units) → Keeps
      → KeepsUp receiver.packets.room receiver.packets.buffer.limit units 0 received (map (λ (turn : Turn). turn.answer) l.turns)
  keeps_log l keeps = subst (KeepsUp receiver.packets.room receiver.packets.buffer.limit units 0 received) (sym l.answers) keeps

  all_in_turn : (plain : IsPlain here) (max_wait : ℕ) → WaitsByTime max_wait receiver.packets → Keeps → GapsAreFilled max_wait (first_size units) [] received → AreNext Known splits units 0 t.pops
  all_in_turn plain max_wait settings keeps filled =
      let l : WireLog samples all_steps (begins sender receiver) t units = keeps_all.logged in
      subst (AreNext Known splits units 0) l.answers
      (in_turn here receiver.packets max_wait plain settings few_sent 0 [] received (runs.begun receiver.packets.buffer) l.turns l.end
      (stands_first plain max_wait settings) (log_on l) filled (keeps_log l keeps))

  -- a unit that leaves is popped: none is skipped, and none evicted
  unit_popped : (plain : IsPlain here) (max_wait : ℕ) → WaitsByTime max_wait receiver.packets → Keeps → GapsAreFilled max_wait (first_size units) [] received → (l : WireLog samples all_steps (begins sender receiver) t units)
      → (place by : ℕ) → LeavesBy Known first splits units place by (pop_times received) l.turns l.end → IsPoppedBy Known first splits units place by (pop_times received) l.turns l.end
  unit_popped plain max_wait settings keeps filled l place by (released is) = inl is
  unit_popped plain max_wait settings keeps filled l place by (skipped_over is) =
      absurd (none_skipped_by first units place by (pop_times received) l.turns (none_passed here 0 receiver.packets.buffer l.turns l.end plain readies (chain l)) is)
  unit_popped plain max_wait settings keeps filled l place by (evicted is) =
      absurd (none_evicted here receiver.packets max_wait plain settings few_sent is.0 0 [] received (runs.begun receiver.packets.buffer) l.turns l.end
      (stands_first plain max_wait settings) (comes_begun here receiver.packets max_wait plain settings few_sent 0 [] receiver.packets.buffer (stands_first plain max_wait settings))
      (log_on l) filled (keeps_log l keeps) is.2)
  unit_popped plain max_wait settings keeps filled l place by (held whole all) = inr (whole, all)

  abbrev loses_none : next_id sender.packetizer ≡ None → LosesNone samples all_steps (begins sender receiver) t
  loses_none plain = record {
    times = keeps_times;
    in_turn = all_in_turn (plain_here plain);
    in_time = λ max_wait settings keeps filled l pops place by u at comes delivered.
        unit_popped (plain_here plain) max_wait settings keeps filled l place by
        (keeps_times.after_deliveries max_wait settings.limit l pops place by u at
        (comes_by here receiver.packets max_wait (plain_here plain) settings few_sent place by 0 (From 0 None) [] [] received (runs.begun receiver.packets.buffer) l.turns l.end
        (stands_first (plain_here plain) max_wait settings) (log_on l) filled (keeps_log l keeps) pops (λ j has. absurd (cc)) comes) delivered);
  }

  -- Requests

  -- the gaps that the requests of the receiver fill
  fills_gaps : (plain : next_id sender.packetizer ≡ None) (exact : Exact) (on_time : OnTime) (settings : NackSettings) (heard : List AskedStep) (asked : List Asked) → plain_of heard ≡ received
      → Listens again heard t.datagrams receiver (new_schedule settings) t.pops asked → (max_wait slack within_time k : ℕ) → WaitsByTime max_wait receiver.packets → Keeps
      → AllowsTries settings max_wait slack within_time k receiver.packets.buffer.limit → ServesRequests first slack within_time k (first_size units) heard asked
      → GapsAreFilled max_wait (first_size units) [] received
  fills_gaps plain exact on_time settings heard asked same listens max_wait slack within_time k waiting keeps allows serves =
      let ks : delivered (plain_of heard) ≡ delivered received = ap delivered same in
      subst (GapsAreFilled max_wait (first_size units) []) same
      (walk exact on_time settings here receiver.packets max_wait slack within_time k (plain_here plain) waiting few_sent allows again sender.stream within.one_stream.not_rtcp
      t.datagrams (subst (λ (ps : List Packet). AreDatagrams sender.stream ps t.datagrams) whole.whole sent.reads) receiver.stream.ids (times_from first sent.all) received
      (λ n q meta is tells values. (contains_in (steps.Deliver n meta.received) received is, tells, values))
      heard t.pops asked 0 None 0 [] [] receiver listens (subst (λ (xs : List DatagramStep). KeepsUp receiver.packets.room receiver.packets.buffer.limit units 0 xs t.pops) (sym same) keeps) serves.times serves.asks serves.first_unit (λ step is. subst (λ (xs : List DatagramStep). IsIn step xs) same is)
      (record {
        listening = listening;
        same_ids = refl;
        limits = record { wait_limits = refl; room = refl };
        not_ended = not_ended;
        numbers = subst (AllNumbered first receiver.packets.numbering) (sym ks) numbers;
        timed = subst (λ (ps : List Packet). AllTimed (times_from first sent.all) first ps (delivered (plain_of heard))) whole.whole (all_timed first sent.all (delivered (plain_of heard)));
        timely = subst (λ (ps : List Packet). StayTimely rate first ps receiver.packets.first (delivered (plain_of heard))) whole.whole (subst (StayTimely rate first sent.all receiver.packets.first) (sym ks) timely);
        times = nothing_noted;
        stands = stands_first (plain_here plain) max_wait waiting;
        low = ap (λ (x : Session). x.packets.lowest) begun.is;
        high = ap (λ (x : Session). x.packets.numbering.greatest) begun.is;
        begins = λ e. serves.begins;
      })
      (λ j. unseen (λ m has. absurd (cc)) refl refl (serves.serves j)))

-- What a run sends

module _ (again : Option RetransmissionStream) (samples : List Sample) (all_steps : List DatagramStep) (sender : Sending) (receiver : Session) (t : Wire)
    (run : Proceeds again samples all_steps (begins sender receiver) t) (hears : AreHeard again receiver.stream.retransmission)
    (within : IsWithinWindows samples all_steps sender receiver t.sends) where
  -- from a number with these low bits on
  sends_from : SendsFrom samples all_steps sender receiver t
  sends_from start small same =
      let runs : SendsRun receiver.packets.buffer sender.stream sender.mtu start 0 samples all_steps (begins sender receiver) t [] =
      sends_run receiver.packets.buffer sender.stream sender.mtu start small samples again 0 all_steps (begins sender receiver) t []
      (record { mtu = refl; built_in = within.one_stream.built_in; kept = refl; number = same; reads = tt; numbered = tt; few = omega arith }) run in
      let before : RunState = running receiver.packets.buffer start sender.stream.clock_rate sender [] in
      let after : RunState = running receiver.packets.buffer start sender.stream.clock_rate t.sending runs.all in
      let sends : List Step = sending_steps sender.mtu all_steps in
      let unused : IsUnused before = starts_unused within.settings within.depacketizer sender receiver start within.new within.one_stream in
      record {
        all = runs.all;
        reads = runs.at.reads;
        numbered = runs.at.numbered;
        few = runs.at.few;
        times = runs.times ∙ ap (times_sent sender.stream.clock_rate samples all_steps) (sym runs.sends_are);
        end = t.sending;
        stream = streams plainly samples 0 sends before after runs.entries [] (unused_exactly samples sends before runs.entries [] after unused runs.runs);
      }

  pub loses_none_of_run : next_id sender.packetizer ≡ None → LosesNone samples all_steps (begins sender receiver) t
  loses_none_of_run = loses_none again samples all_steps sender receiver t (takes_of again samples all_steps sender receiver t run) sends_from hears within

-- Runs without retransmissions

pub filled_gaps_lose_none : FilledGapsLoseNone
filled_gaps_lose_none samples all_steps sender receiver t run plain within =
    loses_none_of_run None samples all_steps sender receiver t (proceeds None samples all_steps (begins sender receiver) t run) tt within plain

-- Runs with retransmissions

pub filled_gaps_with_history : FilledGapsLoseNoneWithHistory
filled_gaps_with_history samples all_steps sender history receiver t run plain answers within =
    loses_none_of_run history.stream samples (plain_steps_of samples all_steps (begins_with sender history receiver) t) sender receiver t.wire
    (course samples all_steps sender history receiver t run answers.settings answers.new) answers.heard within plain

-- Runs whose receiver requests what is missing

module _ (exact : Exact) (on_time : OnTime) (again : Option RetransmissionStream) (samples : List Sample) (all_steps : List AskedStep) (sender : Sending) (receiver : Session) (settings : NackSettings) (t : Asking)
    (run : AskedCourse again samples all_steps (begins_asking sender receiver settings) t) (hears : AreHeard again receiver.stream.retransmission)
    (within : IsWithinWindows samples (plain_of all_steps) sender receiver t.wire.sends) (plain : next_id sender.packetizer ≡ None) where
  on_wire : Proceeds again samples (plain_of all_steps) (begins sender receiver) t.wire
  on_wire = plain_course again samples all_steps (begins_asking sender receiver settings) t run

  hearing : HearsTo again samples all_steps (begins_asking sender receiver settings) t
  hearing = hears_to again samples all_steps (begins_asking sender receiver settings) t run

  listens : Listens again (receiver_steps samples 0 all_steps t.wire.sends) t.wire.datagrams receiver (new_schedule settings) t.wire.pops t.asked
  listens =
      subst (λ (xs : List Asked). Listens again (receiver_steps samples 0 all_steps t.wire.sends) t.wire.datagrams receiver (new_schedule settings) t.wire.pops xs) (sym hearing.asked)
      (subst (λ (as' : List Answer). Listens again (receiver_steps samples 0 all_steps t.wire.sends) t.wire.datagrams receiver (new_schedule settings) as' hearing.more) (sym hearing.pops)
      (subst (λ (es : List SentSample). Listens again (receiver_steps samples 0 all_steps es) t.wire.datagrams receiver (new_schedule settings) hearing.answers hearing.more) (sym hearing.sends) hearing.listens))

  abbrev run_part : LosesNone samples (plain_of all_steps) (begins sender receiver) t.wire
  run_part = loses_none again samples (plain_of all_steps) sender receiver t.wire (takes_of again samples (plain_of all_steps) sender receiver t.wire on_wire)
      (sends_from again samples (plain_of all_steps) sender receiver t.wire on_wire hears within) hears within plain

  gaps : (max_wait slack within_time k : ℕ) → WaitsByTime max_wait receiver.packets
      → KeepsUp receiver.packets.room receiver.packets.buffer.limit run_part.times.promises.released.units 0 (received_steps samples 0 (plain_of all_steps) t.wire.sends) t.wire.pops
      → AllowsTries settings max_wait slack within_time k receiver.packets.buffer.limit
      → ServesRequests run_part.times.promises.first slack within_time k (first_size run_part.times.promises.released.units) (receiver_steps samples 0 all_steps t.wire.sends) t.asked
      → GapsAreFilled max_wait (first_size run_part.times.promises.released.units) [] (received_steps samples 0 (plain_of all_steps) t.wire.sends)
  gaps max_wait slack within_time k waiting keeps allows serves =
      fills_gaps again samples (plain_of all_steps) sender receiver t.wire (takes_of again samples (plain_of all_steps) sender receiver t.wire on_wire)
      (sends_from again samples (plain_of all_steps) sender receiver t.wire on_wire hears within) hears within plain exact on_time settings (receiver_steps samples 0 all_steps t.wire.sends) t.asked
      (plain_heard samples 0 all_steps t.wire.sends) listens max_wait slack within_time k waiting keeps allows serves

  pub fills : FillsGaps samples all_steps settings (begins_asking sender receiver settings) t
  fills = record {
    run = run_part;
    filled = gaps;
    in_turn = λ max_wait slack within_time k waiting keeps allows serves. run_part.in_turn max_wait waiting keeps (gaps max_wait slack within_time k waiting keeps allows serves);
    in_time = λ max_wait slack within_time k waiting keeps allows serves. run_part.in_time max_wait waiting keeps (gaps max_wait slack within_time k waiting keeps allows serves);
  }

pub requests_fill_gaps : Exact → OnTime → RequestsFillGaps
requests_fill_gaps exact on_time samples all_steps sender receiver settings t run plain within =
    fills exact on_time None samples all_steps sender receiver settings t (asked_course None samples all_steps (begins_asking sender receiver settings) t run) tt within plain
