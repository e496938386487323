-- The times at which the units of a run in RED come. What stands in front of `at_pops` repeats RedReleaseLemmas of
-- codec_payload_datagram_runs, whose names for these facts are private.
use Rattle.std.proofs.Common.{◌≡◌, ◌∙◌, refl, sym, ap, subst, ℕ, ◌+◌, ◌-◌, ◌%◌, ◌^◌, ◌<◌, ◌≤◌, List, [], ◌∷◌, ◌++◌, inr, inl, Bool, true, false, eqb, Option, None, Some, length, arith}
use Rattle.std.specs.Prelude.{slice_get}
use Rattle.std.proofs.lemmas.Bool.{eq-eqb}
use Rattle.std.proofs.lemmas.Option.{slice_get_within}
use Rattle.codec_payload_base.specs.declared.wire.Ticks.{Ticks}
use Rattle.codec_payload_buffer.proofs.MemberLemmas.{IsIn, contains_in, in_contains, in_right}
use Rattle.codec_payload_contiguity.specs.ContiguityTable.{contiguity_for}
use Rattle.codec_payload_buffer.specs.Held.{Held, has_number}
use Rattle.codec_payload_metadata.specs.declared.meta.RtpMeta.{RtpMeta}
use Rattle.codec_payload_codec.proofs.CodecLemmas.{codec_payloads, marker_free}
use Rattle.codec_payload_codec.specs.Depacketizers.{DepacketizerKind, DepacketizerState, is_built_in_depacketizer, is_codec, kind_of_depacketizer}
use Rattle.codec_payload_codec.specs.Packetizers.{PacketizerState, Vp9Packetizing, is_video, may_split, payloads_by}
use Rattle.codec_payload_numbers.specs.NotedTimes.{AreTimesOf}
use Rattle.codec_payload_numbers.specs.Numbers.{Numbering, no_numbers}
use Rattle.codec_payload_red.specs.RedRun.{IsRecoverable}
use Rattle.codec_payload_sending_history.specs.declared.retransmission.RetransmissionStream.{RetransmissionStream}
use Rattle.codec_payload_sending_red.specs.Writers.{Writer}
use Rattle.codec_payload_buffer_runs.proofs.order.RunSettings.{empty, fresh, may_go, ready, setting, tracked}
use Rattle.codec_payload_buffer_runs.proofs.order.SafetyLemmas.{SendsAll, all_end, sends_all}
use Rattle.codec_payload_buffer_runs.proofs.order.TurnLemmas.{ArePushes, IsPush, IsReady, Setting}
use Rattle.codec_payload_buffer_runs.proofs.units.BuiltInRuns.{plainly, unused_exactly}
use Rattle.codec_payload_buffer_runs.proofs.units.StreamLemmas.{Streams, streams}
use Rattle.codec_payload_buffer_runs.proofs.units.UnitRows.{IsFaithful, held_as}
use Rattle.codec_payload_buffer_runs.specs.Exact.{AnswersAll}
use Rattle.codec_payload_buffer_runs.specs.Headline.{IsUnused, packets_before}
use Rattle.codec_payload_buffer_runs.specs.LawfulUnits.{AllLawful}
use Rattle.codec_payload_buffer_runs.specs.Log as runs
use Rattle.codec_payload_buffer_runs.specs.RedSchedule.{all_remembered}
use Rattle.codec_payload_buffer_runs.specs.ReportedIds.{next_id, read_by}
use Rattle.codec_payload_buffer_runs.specs.Schedule.{Answer, RunState}
use Rattle.codec_payload_buffer_runs.specs.SentStream.{SentUnit, packets_of, units_of_run}
use Rattle.codec_payload_buffer_runs.specs.declared.run.Step.{Step}
use Rattle.codec_payload_payloader.specs.Packets.{Packet}
use Rattle.codec_payload_payloader.specs.Sending.{Sample}
use Rattle.codec_payload_sending.specs.Senders.{Sending}
use Rattle.codec_payload_numbers.specs.SeenTimes.{is_seen, none_seen}
use Rattle.codec_payload_receiver.specs.Sessions.{Session}
use Rattle.codec_payload_datagrams.specs.declared.kinds.RedStream.{RedStream}
use Rattle.codec_payload_datagram_runs.proofs.RedHearingLemmas.{red_course}
use Rattle.codec_payload_datagram_runs.proofs.Courses.{proceeds}
use Rattle.codec_payload_datagram_runs.proofs.DeliveredLemmas.{AllIn}
use Rattle.codec_payload_datagram_runs.proofs.EventLemmas.{times_from}
use Rattle.codec_payload_datagram_runs.proofs.LogLemmas.{Chained, all_follow, none_is_lost, none_passed, stretches}
use Rattle.codec_payload_datagram_runs.proofs.NewReceivers.{IsBegun, new_is_begun}
use Rattle.codec_payload_datagram_runs.proofs.ReceivingLemmas.{AllNumbered}
use Rattle.codec_payload_datagram_runs.proofs.RedCopies.{RedProceeds, red_proceeds}
use Rattle.codec_payload_datagram_runs.proofs.RedCourses.{Course, course_in_order, fed_before}
use Rattle.codec_payload_datagram_runs.proofs.RedExactLemmas.{IsFillingUp, NearNumbers, answers_exactly, fills}
use Rattle.codec_payload_datagram_runs.proofs.RedLogLemmas.{HasRedLog, IsPlaced, red_chained, red_log}
use Rattle.codec_payload_datagram_runs.proofs.RedPushLemmas.{AreBrought, brought_in}
use Rattle.codec_payload_datagram_runs.proofs.RedReadingLemmas.{IsRedFor, entries_are, written_at}
use Rattle.codec_payload_datagram_runs.proofs.RedReceivingLemmas.{IsTuned, RedSide, Timely}
use Rattle.codec_payload_datagram_runs.proofs.RedStepLemmas.{RedComes, RedTakes, SendsAlone, only_sends, red_comes_to, same_sends, same_times, sends_alone, writes_count, written_in}
use Rattle.codec_payload_datagram_runs.proofs.ReleaseLemmas.{AllBelow, first_for, first_low, first_small, numbered_within}
use Rattle.codec_payload_datagram_runs.proofs.SendingLemmas.{SendsRun, running, same_count, sends_run, times_in}
use Rattle.codec_payload_datagram_runs.proofs.TimelyLemmas.{StayTimely, stay_timely}
use Rattle.codec_payload_receiver.proofs.BlockTimeLemmas.{new_has_no_block}
use Rattle.codec_payload_receiver.specs.RedOnce.{HasNoBlock}
use Rattle.codec_payload_datagram_runs.specs.RedHistoryReleases.{AreHeardInRed, red_plain_steps_of}
use Rattle.codec_payload_datagram_runs.specs.RedLogs.{IsBroughtBy, KeepsRedPromises, PushesAll, RedWireLog, StaysInTurn}
use Rattle.codec_payload_datagram_runs.specs.RedReleases.{AllComeInRed, IsInRedWithinWindows, IsRedDelivery, ReleasesUnitsInRed, entries_in, is_ssrc_of}
use Rattle.codec_payload_datagram_runs.specs.RedRuns.{RedWire, WritesAll, begins_in_red}
use Rattle.codec_payload_datagram_runs.specs.Releases.{AreDatagrams, ComeWithin, delivered, received_steps, sending_steps, times_sent}
use Rattle.codec_payload_datagram_runs.specs.WireRuns.{begins}
use Rattle.codec_payload_datagram_runs.specs.declared.run.DatagramStep.{DatagramStep}
use Rattle.codec_payload_datagram_runs.specs.declared.run.DatagramStep.TheVariants as steps
use Rattle.codec_payload_datagram_runs.specs.declared.run.SentSample.{SentSample}
use Rattle.codec_payload_datagram_runs.proofs.RedRepeatLemmas as repeats
use Rattle.codec_payload_datagram_runs.specs.RedHistoryRuns.{begins_in_red_with}
use Rattle.codec_payload_datagram_runs.proofs.RedReleaseLemmas.{UsesRed, stream_of_red, uses_red}
use Rattle.codec_payload_timely_runs.proofs.TimedTurns.{Answered, due_by_deliveries, none_overdue, red_answered, timed_of, units_come}
use Rattle.codec_payload_timely_runs.specs.RedTimes.{KeepsRedTimes, TimesInRed, TimesInRedWithHistory}
use Rattle.codec_payload_timely_runs.specs.TimelyRuns.{From, pop_times}

-- the numbers of datagrams that were sent
takes_below : (again : Option RetransmissionStream) (later : List DatagramStep) (written : List (List ℕ)) (s t : Session) (answers : List Answer) → RedTakes again later written s answers t → AllBelow (length written) (delivered later)
takes_below again [] written s t answers takes = tt
takes_below again (steps.Send i ∷ later) written s t answers takes = takes_below again later written s t answers takes
takes_below again (steps.Deliver k now ∷ later) written s t answers takes = (slice_get_within written k takes.0 takes.1, takes_below again later written takes.5 t answers takes.7)
takes_below again (steps.Pop now ∷ later) written s t answers takes = takes_below again later written takes.2 t takes.1 takes.6
takes_below again (steps.Finish ∷ later) written s t answers takes = takes_below again later written takes.0 t answers takes.2

-- at first no time was seen
none_is_seen : (time : ℕ) → is_seen time none_seen.places ≡ true → ⊥
none_is_seen time is = absurd (cc)

-- only codecs of video send picture ids
has_no_ids : (packetizer : PacketizerState) → is_video packetizer ≡ false → next_id packetizer ≡ None
has_no_ids (Vp9Packetizing sender) none = absurd (cc)
has_no_ids packetizer none = refl

-- a list of pushes
each_pushes : (c : Setting) (ps : List Held) → ((p : Held) → IsIn p ps → IsPush c p) → ArePushes c ps
each_pushes c [] each = tt
each_pushes c (p ∷ ps) each = (each p (inl refl), each_pushes c ps (λ q is. each q (inr is)))

-- The theorem

module _ (again : Option RetransmissionStream) (samples : List Sample) (all_steps : List DatagramStep) (sender : Sending) (writer : Writer) (receiver : Session) (t : RedWire)
    (run : RedProceeds again samples all_steps (begins_in_red sender writer receiver) t) (hears : AreHeardInRed again receiver.stream) (within : IsInRedWithinWindows samples all_steps (begins_in_red sender writer receiver) t) where
  abbrev received : List DatagramStep
  received = received_steps samples 0 all_steps t.wire.sends

  abbrev rate : ℕ
  rate = sender.stream.clock_rate

  abbrev number : ℕ
  number = sender.stream.number % 65536

  low : number < 65536
  low = omega arith

  abbrev first : ℕ
  first = first_for number (delivered received)

  abbrev forward : ℕ
  forward = within.plain.settings.forward

  abbrev backward : ℕ
  backward = within.plain.settings.backward

  comes : RedComes again samples all_steps (begins_in_red sender writer receiver) t
  comes = red_comes_to again samples all_steps (begins_in_red sender writer receiver) t run

  takes : RedTakes again received t.written receiver t.wire.pops t.wire.session
  takes = subst (λ (answers : List Answer). RedTakes again received t.written receiver answers t.wire.session) (sym comes.pops)
      (subst (λ (sends : List SentSample). RedTakes again (received_steps samples 0 all_steps sends) t.written receiver comes.answers t.wire.session) (sym comes.sends) comes.takes)

  alone : SendsAlone samples all_steps (begins sender receiver) t
  alone = sends_alone again samples all_steps (begins sender receiver) (begins_in_red sender writer receiver) t run (refl, refl, refl)

  begun : IsBegun within.plain.settings within.plain.depacketizer receiver
  begun = new_is_begun within.plain.settings within.plain.depacketizer receiver within.plain.new

  -- from a number with these low bits on
  sends_from : (start : ℕ) → start < 2 ^ 63 → sender.stream.number % 2 ^ 16 ≡ (start + 0) % 2 ^ 16
      → SendsRun receiver.packets.buffer sender.stream sender.mtu start 0 samples (only_sends all_steps) (begins sender receiver) alone.end []
  sends_from start small same =
      sends_run receiver.packets.buffer sender.stream sender.mtu start small samples None 0 (only_sends all_steps) (begins sender receiver) alone.end []
      (record { mtu = refl; built_in = within.plain.one_stream.built_in; kept = refl; number = same; reads = tt; numbered = tt; few = omega arith })
      (proceeds None samples (only_sends all_steps) (begins sender receiver) alone.end alone.runs)

  few : length t.wire.datagrams < 2 ^ 63
  few =
      let any = sends_from number (omega arith) (omega arith) in
      omega (arith, any.at.few, same_count sender.stream any.all alone.end.datagrams any.at.reads, ap length alone.datagrams)

  wrote : WritesAll writer t.wire.datagrams t.written t.writer
  wrote = written_in again samples all_steps writer (begins_in_red sender writer receiver) t run (refl, refl)

  below : AllBelow (length t.wire.datagrams) (delivered received)
  below = subst (λ (n : ℕ). AllBelow n (delivered received)) (writes_count writer t.wire.datagrams t.written t.writer wrote) (takes_below again received t.written receiver t.wire.session t.wire.pops takes)

  numbers : AllNumbered first receiver.packets.numbering (delivered received)
  numbers = subst (λ (n : Numbering). AllNumbered first n (delivered received)) (sym (ap (λ (x : Session). x.packets.numbering) begun.is))
      (numbered_within forward backward number (length t.wire.datagrams) (delivered received) begun.windows low few below within.plain.within)

  sent : SendsRun receiver.packets.buffer sender.stream sender.mtu first 0 samples (only_sends all_steps) (begins sender receiver) alone.end []
  sent = sends_from first (first_small forward backward number (delivered received) low within.plain.within) (first_low forward backward sender.stream.number (delivered received) within.plain.within)

  -- The units of the samples

  abbrev start : RunState
  start = running receiver.packets.buffer first rate sender []

  abbrev after : RunState
  after = running receiver.packets.buffer first rate alone.end.sending sent.all

  unused : IsUnused start
  unused = record {
    built_in = within.plain.one_stream.built_in;
    nothing_sent = refl;
    nothing_held = ap (λ (x : Session). x.packets.buffer.held) begun.is;
    no_cutoff = ap (λ (x : Session). x.packets.buffer.cutoff) begun.is;
    no_mark = ap (λ (x : Session). x.packets.buffer.evicted) begun.is;
    alike = ap (λ (x : Session). kind_of_depacketizer x.packets.buffer.depacketizer) begun.is ∙ within.plain.one_stream.alike;
    nothing_read = ap (λ (x : Session). read_by x.packets.buffer.depacketizer) begun.is ∙ within.plain.one_stream.nothing_read;
    nothing_kept = ap (λ (x : Session). x.packets.buffer.contiguity) begun.is ∙ sym (ap (λ (x : Session). contiguity_for (kind_of_depacketizer x.packets.buffer.depacketizer)) begun.is);
  }

  abbrev sends : List Step
  sends = sending_steps sender.mtu (only_sends all_steps)

  units_sent : Streams samples sends start after
  units_sent = streams plainly samples 0 sends start after sent.entries [] (unused_exactly samples sends start sent.entries [] after unused sent.runs)

  whole : SendsAll start after units_sent.units
  whole = sends_all samples sends start after unused units_sent

  abbrev units : List SentUnit
  units = units_sent.units

  abbrev kind : DepacketizerKind
  kind = payloads_by sender.packetizer

  abbrev splits : Bool
  splits = may_split sender.packetizer

  lawful : AllLawful kind splits units
  lawful = units_sent.lawful within.plain.readable

  abbrev Known : ℕ → Packet → RtpMeta → Type 0
  Known = IsRedDelivery receiver.stream.ids sender.stream writer t.wire.datagrams received

  faithful : IsFaithful Known rate kind
  faithful = record {
    number = λ k q m known. known.number;
    time = λ k q m known. known.time;
    tail = λ k q m known. marker_free sender.packetizer within.no_video m.header.marker q.marker q.payload;
  }

  -- the buffer's part of the run
  abbrev here : Setting
  here = setting samples sends start after units_sent unused within.plain.readable Known faithful units lawful (sym whole.whole)

  -- The datagrams in RED

  abbrev packets : List Packet
  packets = packets_of units

  reads : AreDatagrams sender.stream packets t.wire.datagrams
  reads = subst (λ (ps : List Packet). AreDatagrams sender.stream ps t.wire.datagrams) whole.whole (subst (AreDatagrams sender.stream sent.all) alone.datagrams sent.at.reads)

  entries : entries_in t.wire.datagrams ≡ all_remembered packets
  entries = entries_are sender.stream packets t.wire.datagrams reads

  abbrev red : RedStream
  red = stream_of_red within.plain.settings within.red

  uses : UsesRed within.plain.settings within.red receiver
  uses = uses_red within.plain.settings within.plain.depacketizer receiver within.red within.plain.new within.one_red.used

  is_red : IsRedFor sender.stream writer receiver.stream red
  is_red = record {
    used = uses.used;
    red_type = within.one_red.red_type;
    other_type = ap (λ (n : ℕ). eqb writer.red_type n) (ap (λ (x : Session). x.stream.payload_type) begun.is)
        ∙ (ap (λ (n : ℕ). eqb n within.plain.settings.payload_type) (sym within.one_red.red_type) ∙ uses.other_type);
    not_rtcp = within.one_red.not_rtcp;
    not_again = ap (λ (x : Session). is_ssrc_of x.stream.retransmission sender.stream.ssrc) begun.is ∙ within.one_red.not_again;
  }

  own_type : eqb (writer.red.primary_pt % 128) receiver.stream.payload_type ≡ true
  own_type =
      let small = uses.small in
      let type_is : receiver.stream.payload_type ≡ within.plain.settings.payload_type = ap (λ (x : Session). x.stream.payload_type) begun.is in
      let same : within.plain.settings.payload_type % 128 ≡ writer.red.primary_pt % 128 = within.recoverable.same_type in
      eq-eqb (writer.red.primary_pt % 128) receiver.stream.payload_type (omega (arith, same, type_is, small))

  abbrev side : RedSide
  side = record {
    c = here;
    stream = sender.stream;
    writer = writer;
    datagrams = t.wire.datagrams;
    entries = entries;
    kinds = receiver.stream;
    received = received;
    told = λ k q m known. known;
    forward = forward;
    backward = backward;
    apart = within.apart;
    some = begun.windows.some;
    red = red;
    is_red = is_red;
    given = subst (IsRecoverable writer.red red.receiver writer.budget) entries within.recoverable;
    written = t.written;
    each = λ k bytes there. written_at sender.stream packets writer t.wire.datagrams t.written t.writer k bytes within.one_red.media_type reads wrote there;
    own_type = own_type;
    again = again;
    heard = hears;
  }

  nothing_noted : AreTimesOf (times_from first packets) receiver.packets.noted
  nothing_noted = subst (λ (x : Session). AreTimesOf (times_from first packets) x.packets.noted) (sym begun.is) (tt, refl)

  tuned : IsTuned sender.stream receiver.stream forward backward (times_from first packets) receiver
  tuned = record {
    kinds_are = refl;
    named = ap (λ (x : Session). x.named) begun.is ∙ within.plain.one_stream.ssrc;
    ssrc = ap (λ (x : Session). x.ssrc) begun.is ∙ within.plain.one_stream.ssrc;
    drops_none = ap (λ (x : Session). x.gates.drops) begun.is ∙ within.plain.one_stream.drops_none;
    steady = record {
      rate = ap (λ (x : Session). x.packets.rate) begun.is ∙ within.plain.one_stream.clock_rate;
      running = ap (λ (x : Session). x.packets.is_restarting) begun.is;
      of_codec = ap (λ (x : Session). is_built_in_depacketizer x.packets.buffer.depacketizer) begun.is
          ∙ (ap is_codec within.plain.one_stream.alike ∙ codec_payloads sender.packetizer within.plain.one_stream.built_in);
      forward_is = ap (λ (x : Session). x.packets.numbering.forward) begun.is;
      backward_is = ap (λ (x : Session). x.packets.numbering.backward) begun.is;
      times = nothing_noted;
    };
  }

  times : times_in packets ≡ times_sent rate samples all_steps t.wire.sends
  times = ap times_in (sym whole.whole) ∙ (sent.times ∙ (ap (times_sent rate samples (only_sends all_steps)) (sym sent.sends_are ∙ alone.sends) ∙ same_times rate samples all_steps t.wire.sends))

  in_time : Timely side receiver (delivered received)
  in_time = (
    inl (subst HasNoBlock (sym (ap (λ (x : Session). x.seen) begun.is)) new_has_no_block),
    subst (λ (x : Session). StayTimely rate first packets x.packets.first (delivered received)) (sym begun.is)
        (stay_timely rate first packets (times_sent rate samples all_steps t.wire.sends) (delivered received) times within.plain.timely),
  )

  course : Course Known packets received receiver.packets.buffer t.wire.pops t.wire.session.packets.buffer
  course = red_course side received receiver t.wire.session t.wire.pops tuned numbers in_time (λ step is. is) takes

  -- All units

  limit_is : receiver.packets.buffer.limit ≡ within.plain.settings.limit
  limit_is = ap (λ (x : Session). x.packets.buffer.limit) begun.is

  numbering_is : receiver.packets.numbering ≡ no_numbers forward backward
  numbering_is = ap (λ (x : Session). x.packets.numbering) begun.is

  answers_all : AllComeInRed receiver.packets.buffer.limit (length t.wire.datagrams) receiver.packets.numbering writer t.wire.datagrams received → AnswersAll Known 0 units t.wire.pops
  answers_all come =
      let count : length packets ≡ length t.wire.datagrams = same_count sender.stream packets t.wire.datagrams reads in
      let few_here = come.few in
      let room = uses.room in
      let small : length packets ≤ 65536 = omega (arith, count, few_here, limit_is, room) in
      let all_fit : length sent.all ≤ receiver.packets.buffer.limit = omega (arith, ap length whole.whole, count, few_here) in
      let back_is : receiver.packets.numbering.backward ≡ backward = ap (λ (n : Numbering). n.backward) numbering_is in
      let forward_is : receiver.packets.numbering.forward ≡ forward = ap (λ (n : Numbering). n.forward) numbering_is in
      let wide = come.wide in
      let back : ℕ = receiver.packets.numbering.backward - 8 in
      let near : NearNumbers first forward back receiver.packets.numbering (delivered come.before) =
      inl (ap (λ (n : Numbering). n.greatest) numbering_is, subst (λ (f : ℕ). ComeWithin f back (delivered come.before)) forward_is come.near) in
      let filling = empty samples sends start after units_sent unused within.plain.readable Known faithful units lawful (sym whole.whole) all_fit in
      let none_seen_yet : IsFillingUp side receiver.packets.buffer small receiver.packets receiver.seen = record {
        filling = filling;
        no_media = ap (λ (x : Session). x.packets.no_media_numbers) begun.is;
        seen_held = λ time is. absurd (not_seen time is);
      } in
      let inside : (step : DatagramStep) → IsIn step (come.before ++ steps.Finish ∷ come.after) → IsIn step received = λ step is. subst (IsIn step) (sym come.whole) is in
      let all = fills side receiver.packets.buffer small back (omega (arith, wide, back_is)) come.before come.after receiver t.wire.session t.wire.pops come.no_pops tuned
      (subst (λ (ss : List DatagramStep). AllNumbered first receiver.packets.numbering (delivered ss)) come.whole numbers) near
      (subst (λ (ss : List DatagramStep). Timely side receiver (delivered ss)) come.whole in_time) none_seen_yet inside
      (subst (λ (ss : List DatagramStep). RedTakes again ss t.written receiver t.wire.pops t.wire.session) come.whole takes) in
      answers_exactly side receiver.packets.buffer small come.before come.after receiver t.wire.session t.wire.pops
      (may_go samples sends start after units_sent unused within.plain.readable Known faithful) all
      (λ step is. inside step (in_right step come.before (steps.Finish ∷ come.after) (inr is)))
      (λ j less.
      let by = come.each j (omega (arith, less, count)) in
      all.has by.0 j (in_contains by.0 (delivered come.before) by.1) less by.2)
    where
      not_seen : (time : ℕ) → is_seen time receiver.seen.places ≡ true → ⊥
      not_seen time is = none_is_seen time (subst (λ (x : Session). is_seen time x.seen.places ≡ true) begun.is is)

  abbrev releases_units : ReleasesUnitsInRed samples all_steps (begins_in_red sender writer receiver) t
  releases_units = record {
    units = units;
    canonical = units_sent.canonical ∙ ap (units_of_run sender.packetizer samples) (same_sends sender.mtu all_steps);
    datagrams = reads;
    ends = all_end kind splits units lawful;
    in_order = course_in_order here 0 received receiver.packets.buffer t.wire.session.packets.buffer t.wire.pops
        (fresh samples sends start after units_sent unused within.plain.readable Known faithful units lawful (sym whole.whole)) course;
    before_pops = fed_before Known packets received [] receiver.packets.buffer t.wire.session.packets.buffer t.wire.pops course
        (subst (λ (x : Session). AllIn [] x.packets.buffer.held) (sym begun.is) tt);
    exactly = answers_all;
  }

  -- Pop by pop

  no_ids : next_id sender.packetizer ≡ None
  no_ids = has_no_ids sender.packetizer within.no_video

  readies : IsReady here 0 receiver.packets.buffer
  readies = ready samples sends start after units_sent unused within.plain.readable Known faithful units lawful (sym whole.whole)

  abbrev Pushes : ℕ → ℕ → Ticks → DepacketizerState → List Held → Type 0
  Pushes = PushesAll samples all_steps (begins_in_red sender writer receiver) t packets

  back : receiver.packets.numbering.backward ≡ backward
  back = ap (λ (x : Session). x.packets.numbering.backward) begun.is

  are_pushes : (highest carrier : ℕ) (now : Ticks) (d : DepacketizerState) (ps : List Held) → kind_of_depacketizer d ≡ kind → Pushes highest carrier now d ps → ArePushes here ps
  are_pushes highest carrier now d ps reads pushes = each_pushes here ps (λ p is.
      let one = pushes.each p (contains_in p ps is) in
      (one.index, one.packet, one.there, one.known, one.held ∙ ap (λ (x : DepacketizerKind). held_as x p.meta one.packet.payload) reads))

  chain : (g : RedWireLog samples all_steps (begins_in_red sender writer receiver) t units) → Chained here receiver.packets.buffer g.turns g.end
  chain g = red_chained here Pushes are_pushes receiver.packets receiver.packets.ended 0 received 0 (runs.begun receiver.packets.buffer) g.turns g.end readies
      (record { sent = tt; now = refl }) g.is_log

  module _ (in_turn : StaysInTurn within.red.step backward (delivered received)) where
    abbrev jump : ℕ
    jump = in_turn.jump

    gives : (highest carrier : ℕ) (now : Ticks) (d : DepacketizerState) (ps : List Held) → AreBrought side jump in_turn.in_turn highest carrier now d ps
        → ((j : ℕ) (q : Packet) → slice_get packets j ≡ Some q → IsBroughtBy writer t.wire.datagrams backward highest carrier j → has_number q.number ps ≡ true)
        → Pushes highest carrier now d ps
    gives highest carrier now d ps brought all = record {
      each = λ p is.
          let one = brought_in side jump in_turn.in_turn highest carrier now d ps p brought (in_contains p ps is) in
          record {
            index = one.index;
            packet = one.packet;
            there = one.there;
            brought = subst (λ (b : ℕ). IsBroughtBy writer t.wire.datagrams b highest carrier one.index) (sym back) one.brought;
            known = one.known.0;
            by = one.known.1;
            received = one.received;
            held = one.held;
          };
      all = λ j q there brings. all j q there (subst (λ (b : ℕ). IsBroughtBy writer t.wire.datagrams b highest carrier j) back brings);
    }

    placed : IsPlaced side jump in_turn.in_turn receiver.packets Pushes gives 0 receiver (delivered received)
    placed = inl (
      ap (λ (x : Session). x.packets.numbering.greatest) begun.is,
      refl,
      ap (λ (x : Session). x.seen) begun.is,
      in_turn.near,
    )

    log : HasRedLog side jump in_turn.in_turn receiver.packets Pushes gives receiver.packets.ended 0 received (runs.begun receiver.packets.buffer) t.wire.pops t.wire.session.packets.buffer
    log = red_log side jump in_turn.in_turn receiver.packets Pushes gives received 0 0 receiver t.wire.session t.wire.pops tuned (record { wait_limits = refl; room = refl }) numbers placed in_time
        (ap (λ (x : Session). x.packets.no_media_numbers) begun.is) readies (λ step is. is) takes (runs.begun receiver.packets.buffer) refl

    abbrev keeps_promises : KeepsRedPromises samples all_steps (begins_in_red sender writer receiver) t
    keeps_promises = record {
      released = releases_units;
      first = first;
      numbered = whole.numbered;
      logged = record { turns = log.turns; end = log.end; is_log = log.is_log; answers = log.answers_are; left = log.left };
      order = λ g. stretches here 0 receiver.packets.buffer g.turns g.end readies (chain g);
      contiguous = λ g. all_follow here 0 None false receiver.packets.buffer g.turns g.end no_ids readies
          (tracked samples sends start after units_sent unused within.plain.readable Known faithful units lawful (sym whole.whole)) (chain g);
      no_silent_loss = λ g. none_is_lost here 0 receiver.packets.buffer g.turns g.end readies (chain g);
      none_skipped = λ g. none_passed here 0 receiver.packets.buffer g.turns g.end no_ids readies (chain g);
    }

    -- Times

    at_pops : (g : RedWireLog samples all_steps (begins_in_red sender writer receiver) t units) → Answered receiver.packets (pop_times received) g.turns
    at_pops g = red_answered Pushes receiver.packets receiver.packets.ended 0 received (runs.begun receiver.packets.buffer) g.turns g.end g.is_log

    pub keeps_times : KeepsRedTimes samples all_steps (begins_in_red sender writer receiver) t
    keeps_times = record {
      promises = keeps_promises;
      none_overdue = λ max_wait limit g.
          none_overdue here receiver.packets max_wait limit 0 receiver.packets.buffer g.turns g.end (pop_times received) readies (chain g) (at_pops g);
      in_time = λ max_wait limit g pops.
          units_come here receiver.packets max_wait limit receiver.packets.buffer g.turns g.end (pop_times received) readies (ap (λ (x : Session). x.packets.buffer.cutoff) begun.is) (chain g) (at_pops g)
          (timed_of max_wait (From 0 None) received g.turns pops);
      after_deliveries = λ max_wait limit g pops place by u at comes delivered.
          units_come here receiver.packets max_wait limit receiver.packets.buffer g.turns g.end (pop_times received) readies (ap (λ (x : Session). x.packets.buffer.cutoff) begun.is) (chain g) (at_pops g)
          (timed_of max_wait (From 0 None) received g.turns pops) place by u at comes
          (due_by_deliveries here max_wait by (first + packets_before (place + 1) units) (λ k q m is. delivered is.carrier k m.received is.delivers is.carries) 0 receiver.packets.buffer g.turns g.end
          readies (chain g));
    }

pub times_in_red : TimesInRed
times_in_red samples all_steps sender writer receiver t run within in_turn =
    keeps_times None samples all_steps sender writer receiver t (red_proceeds None samples all_steps (begins_in_red sender writer receiver) t run) tt within in_turn

-- Runs in RED with retransmissions

pub times_in_red_with_history : TimesInRedWithHistory
times_in_red_with_history samples all_steps sender writer history receiver t run answers within in_turn =
    keeps_times history.stream samples (red_plain_steps_of samples all_steps (begins_in_red_with sender writer history receiver) t) sender writer receiver t.red
    (repeats.course samples all_steps sender writer history receiver t run answers.settings answers.new) answers.heard within in_turn
