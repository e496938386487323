-- The units of a stream are its sender's: what the sender sends, what the receiver gets, and the theorem of the buffer.
use Rattle.std.proofs.Common.{◌≡◌, ◌≢◌, ◌∙◌, refl, sym, ap, subst, ℕ, ◌+◌, ◌-◌, ◌%◌, ◌<◌, List, [], ◌∷◌, false, Bool, Option, None, Some, length, arith, lit<, true, ◌^◌}
use Rattle.std.proofs.lemmas.Option.{slice_get_within}
use Rattle.codec_payload_buffer.proofs.MemberLemmas.{contains_in}
use Rattle.codec_payload_codec.specs.Depacketizers.{DepacketizerKind, DepacketizerState, is_built_in_depacketizer, is_codec, tail_in}
use Rattle.codec_payload_codec.proofs.CodecLemmas.{codec_payloads}
use Rattle.codec_payload_codec.specs.Packetizers.{payloads_by, may_split}
use Rattle.codec_payload_metadata.specs.declared.meta.RtpMeta.{RtpMeta}
use Rattle.codec_payload_buffer_runs.proofs.order.ArrivalLemmas.{AllKnown, met_in_order}
use Rattle.codec_payload_buffer_runs.proofs.order.RunSettings.{fresh, nothing, ready, setting, tracked}
use Rattle.codec_payload_buffer_runs.proofs.order.SafetyLemmas.{SendsAll as SendsPackets, all_end, sends_all}
use Rattle.codec_payload_buffer_runs.proofs.units.StreamLemmas.{Streams}
use Rattle.codec_payload_buffer_runs.proofs.order.TurnLemmas.{IsReady, Setting}
use Rattle.codec_payload_buffer_runs.proofs.units.UnitRows.{IsFaithful}
use Rattle.codec_payload_buffer_runs.specs.Arrivals.{Meets}
use Rattle.codec_payload_buffer_runs.specs.Headline.{IsUnused}
use Rattle.codec_payload_buffer_runs.specs.LawfulUnits.{AllLawful}
use Rattle.codec_payload_buffer_runs.specs.Log as runs
use Rattle.codec_payload_buffer_runs.specs.RunValues.{values_of_run}
use Rattle.codec_payload_buffer_runs.specs.SentStream.{SentUnit, packets_of}
use Rattle.codec_payload_buffer_runs.specs.declared.run.Step.{Step}
use Rattle.codec_payload_payloader.specs.Packets.{Packet}
use Rattle.codec_payload_buffer_runs.specs.Schedule.{RunState}
use Rattle.codec_payload_numbers.specs.NotedTimes.{AreTimesOf}
use Rattle.codec_payload_numbers.specs.Numbers.{Numbering}
use Rattle.codec_payload_receiver.specs.RedOnce.{HasNoBlock}
use Rattle.codec_payload_receiver.specs.Sessions.{Session as Receiver}
use Rattle.codec_payload_receiver.specs.declared.receiver.Settings.{Settings}
use Rattle.codec_payload_receiver.proofs.BlockTimeLemmas.{new_has_no_block}
use Rattle.codec_payload_rtp.specs.declared.values.ExtensionIds.{ExtensionIds}
use Rattle.codec_payload_datagram_runs.proofs.DeliveredLemmas.{AllIn, delivered_before}
use Rattle.codec_payload_datagram_runs.proofs.TimelyLemmas.{StayTimely, stay_timely, time_in}
use Rattle.codec_payload_datagram_runs.proofs.EventLemmas.{AllTimed, IsRead, delivery_of, times_from}
use Rattle.codec_payload_datagram_runs.proofs.GapLemmas.{only_past_gap}
use Rattle.codec_payload_datagram_runs.proofs.LogLemmas.{Chained, all_follow, all_in_time, none_is_lost, none_passed, stretches}
use Rattle.codec_payload_datagram_runs.proofs.NewReceivers.{IsBegun, new_is_begun}
use Rattle.codec_payload_datagram_runs.proofs.ReceivingLemmas.{AllNumbered}
use Rattle.codec_payload_datagram_runs.proofs.ReleaseLemmas.{AllBelow, SentFrom, first_for, first_low, first_small, numbered_within, starts_unused}
use Rattle.codec_payload_datagram_runs.proofs.SendingLemmas.{running, times_in}
use Rattle.codec_payload_datagram_runs.proofs.ValueLemmas.{has_values}
use Rattle.codec_payload_datagram_runs.specs.Releases.{AreDatagrams, AreOfOneStream, ComeWithin, HasValuesOf, is_sent_again_by, sending_steps, times_sent}
use Rattle.codec_payload_datagram_runs.specs.declared.run.DatagramStep.{DatagramStep}
use Rattle.codec_payload_datagram_runs.specs.declared.run.DatagramStep.TheVariants as steps
use Rattle.codec_payload_sending_history.specs.declared.retransmission.RetransmissionStream.{RetransmissionStream}
use Rattle.codec_payload_session_formats.specs.Formats.{forward_for, is_video as is_of_video, backward_for}
use Rattle.codec_payload_session_formats.specs.declared.formats.Format.{Format}
use Rattle.codec_payload_session_formats.specs.declared.formats.SessionSettings.{SessionSettings}
use Rattle.codec_payload_session_runs.specs.Lives.{ReceiverCall, RunsAlone, finishes, follows, pairs, pops, receives, reports, shown, waits, notes, EdgesRun, FollowEach}
use Rattle.codec_payload_session_units.specs.OneSender.{AreApartFrom, AreCopies, FoundMemory, IsOneSenders, answers_by, effective, sends_of, steps_by}
use Rattle.codec_payload_session_units.specs.StreamUnits.{IsGivenOf, IsLogOfStream, KeepsPromises, ReleasesUnits, StreamLog, answered}
use Rattle.codec_payload_edges.specs.OwnSenders.{Vp8SendsInOrder, Vp9SendsInOrder}
use Rattle.codec_payload_edges.specs.Senders.{FindsNothing}
use Rattle.codec_payload_receiver.specs.declared.receiver.RedSettings.{RedSettings}
use Rattle.codec_payload_session_requests.specs.Named.{rules_for}
use Rattle.codec_payload_stream_edges.specs.Brought.{type_of_red_again}
use Rattle.codec_payload_stream_edges.specs.declared.followed.Followed.{Followed}
use Rattle.codec_payload_stream_edges.specs.declared.rules.EdgeRules.{EdgeRules}
use Rattle.codec_payload_session_units.proofs.ShowLemmas.{IsFollowed, is_followed}
use Rattle.codec_payload_session_units.proofs.BeginLemmas.{IsGiven}
use Rattle.codec_payload_session_units.proofs.CallEvents.{AllTyped, HasLogOf, IsMetBy, met_calls}
use Rattle.codec_payload_session_units.proofs.CopyLemmas.{IsStream}
use Rattle.codec_payload_session_units.proofs.SentLemmas.{Sent, all_sent}
use Rattle.codec_payload_session_units.proofs.ShownLemmas.{before_shown, copies_shown, delivery_shown, memory_shown, order_answered, shown_answers}
use Rattle.codec_payload_session_units.proofs.StreamLogs as logs

-- the indices of copies are those of sent datagrams
pub copies_below : (again : Option RetransmissionStream) (ds : List (List ℕ)) (calls : List ReceiverCall) (ks : List ℕ) → AreCopies again ds calls ks → AllBelow (length ds) ks
copies_below again ds [] ks copies = subst (AllBelow (length ds)) (sym copies) tt
copies_below again ds (receives now bytes answer ∷ calls) [] copies = absurd copies
copies_below again ds (receives now bytes answer ∷ calls) (k ∷ ks) copies = (slice_get_within ds k copies.0.0 copies.0.1, copies_below again ds calls ks copies.1)
copies_below again ds (pops now answer ∷ calls) ks copies = copies_below again ds calls ks copies
copies_below again ds (finishes ∷ calls) ks copies = copies_below again ds calls ks copies
copies_below again ds (waits limits ∷ calls) ks copies = copies_below again ds calls ks copies
copies_below again ds (follows wait ∷ calls) ks copies = copies_below again ds calls ks copies
copies_below again ds (pairs r ∷ calls) ks copies = copies_below again ds calls ks copies
copies_below again ds (reports ∷ calls) ks copies = copies_below again ds calls ks copies
copies_below again ds (notes e ∷ calls) ks copies = copies_below again ds calls ks copies

small_window : (b : Bool) → backward_for b < 32768
small_window true = lit< tt
small_window false = lit< tt

all_timed : (first : ℕ) (packets : List Packet) (ks : List ℕ) → AllTimed (times_from first packets) first packets ks
all_timed first packets [] = tt
all_timed first packets (k ∷ ks) = let place : k ≡ first + k - first = omega arith in (ap (time_in packets) place, all_timed first packets ks)

module _ (settings : SessionSettings) (ssrc : ℕ) (f : Format) (own : List ReceiverCall) (o : IsOneSenders settings ssrc f (shown own)) (r t : Receiver) (given : Settings) (depacketizer : DepacketizerState)
    (is : IsGiven settings f given depacketizer r) (one_stream : AreOfOneStream o.sender given depacketizer) (typed : AllTyped f.retransmission own) (run : RunsAlone own r t)
    (finds_none : FindsNothing) (vp8 : Vp8SendsInOrder) (vp9 : Vp9SendsInOrder) (each : FollowEach None own) (edges_after : Option Followed)
    (edged : EdgesRun (rules_for f settings.dependency_descriptor) None own edges_after) where
  abbrev ks : List ℕ
  ks = o.indices

  abbrev received : List DatagramStep
  received = steps_by (effective own) ks

  abbrev given_steps : List DatagramStep
  given_steps = steps_by (shown own) ks

  abbrev rate : ℕ
  rate = o.sender.stream.clock_rate

  abbrev number : ℕ
  number = o.sender.stream.number % 65536

  low : number < 65536
  low = omega arith

  abbrev first : ℕ
  first = first_for number ks

  begun : IsBegun given depacketizer r
  begun = new_is_begun given depacketizer r is.new

  stream_is : IsStream f.retransmission o.sender.stream r
  stream_is = record {
    listening = record {
      payload_type = ap (λ (x : Receiver). x.stream.payload_type) begun.is ∙ one_stream.payload_type;
      named = ap (λ (x : Receiver). x.named) begun.is ∙ one_stream.ssrc;
      ssrc = ap (λ (x : Receiver). x.ssrc) begun.is ∙ one_stream.ssrc;
      not_again = ap (λ (x : Receiver). is_sent_again_by x.stream.retransmission o.sender.stream) begun.is ∙ one_stream.not_again;
      rate = ap (λ (x : Receiver). x.packets.rate) begun.is ∙ one_stream.clock_rate;
      running = ap (λ (x : Receiver). x.packets.is_restarting) begun.is;
      none_noted = ap (λ (x : Receiver). x.packets.no_media_numbers) begun.is;
      of_codec = ap (λ (x : Receiver). is_built_in_depacketizer x.packets.buffer.depacketizer) begun.is ∙ (ap is_codec one_stream.alike ∙ codec_payloads o.sender.packetizer one_stream.built_in);
      no_block_seen = subst HasNoBlock (sym (ap (λ (x : Receiver). x.seen) begun.is)) new_has_no_block;
      drops_none = ap (λ (x : Receiver). x.gates.drops) begun.is ∙ one_stream.drops_none;
      heard = tt;
    };
    no_red = is.no_red;
    typed = is.typed;
  }

  within : ComeWithin given.forward given.backward ks
  within = subst (λ (n : ℕ). ComeWithin n given.backward ks) (sym is.forward) (subst (λ (n : ℕ). ComeWithin (forward_for (is_of_video f.spec.codec)) n ks) (sym is.backward) o.within)

  numbers : AllNumbered first r.packets.numbering ks
  numbers = subst (λ (n : Numbering). AllNumbered first n ks) (sym (ap (λ (x : Receiver). x.packets.numbering) begun.is))
      (numbered_within given.forward given.backward number (length o.datagrams) ks begun.windows low o.few (copies_below o.again o.datagrams (shown own) ks o.copies) within)

  sender_sent : Sent o.samples o.entries o.datagrams o.sender r
  sender_sent = all_sent o.samples o.entries o.datagrams o.sender r given depacketizer is.new one_stream o.few o.sends

  sent : SentFrom r.packets.buffer o.samples (sends_of o.samples) o.sender sender_sent.wire first
  sent = sender_sent.packets_from first (first_small given.forward given.backward number ks low within) (first_low given.forward given.backward o.sender.stream.number ks within)

  reads : AreDatagrams o.sender.stream sent.all o.datagrams
  reads = subst (AreDatagrams o.sender.stream sent.all) sender_sent.datagrams_are sent.reads

  times_are : times_in sent.all ≡ times_sent rate o.samples (sends_of o.samples) o.entries
  times_are = sent.times ∙ ap (times_sent rate o.samples (sends_of o.samples)) sender_sent.entries_are

  nothing_noted : AreTimesOf (times_from first sent.all) r.packets.noted
  nothing_noted = subst (λ (x : Receiver). AreTimesOf (times_from first sent.all) x.packets.noted) (sym begun.is) (tt, refl)

  timely : StayTimely rate first sent.all r.packets.first ks
  timely = subst (λ (x : Receiver). StayTimely rate first sent.all x.packets.first ks) (sym begun.is)
      (stay_timely rate first sent.all (times_sent rate o.samples (sends_of o.samples) o.entries) ks times_are o.timely)

  other : f.retransmission ≢ Some o.sender.stream.payload_type
  other e = o.sender_for.other_type (e ∙ ap (λ (n : ℕ). Some n) (sym o.sender_for.payload_type))

  apart : AreApartFrom o.sender.stream.ssrc o.again
  apart = subst (λ (n : ℕ). AreApartFrom n o.again) (sym o.sender_for.ssrc_is) o.apart

  memory : FoundMemory (answers_by own)
  memory = memory_shown (answers_by own) (subst FoundMemory (shown_answers own) o.memory)

  few : first + length o.datagrams < 2 ^ 64
  few = omega (arith, o.few, first_small given.forward given.backward number ks low within)

  abbrev rules : EdgeRules
  rules = rules_for f settings.dependency_descriptor

  no_red_again : rules.red_again ≡ None
  no_red_again = ap (λ (x : Option RedSettings). type_of_red_again x) o.sender_for.no_red

  followed : IsFollowed finds_none rules o.again o.sender.stream first o.datagrams
  followed = is_followed finds_none vp8 vp9 rules o.again o.sender first o.samples o.entries o.datagrams o.sender_for.payload_type no_red_again apart o.undescribed one_stream.built_in o.sends f.spec.octet_align f.spec.clock_rate f.spec.codec refl o.sender_for.alike

  backward : r.packets.numbering.backward < 32768
  backward = subst (λ (n : ℕ). n < 32768) (sym (ap (λ (x : Receiver). x.packets.numbering.backward) begun.is ∙ is.backward)) (small_window (is_of_video f.spec.codec))

  come : IsMetBy o.sender.stream sent.all received r (answers_by own) t
  come = met_calls f.retransmission o.again o.sender.stream one_stream.not_rtcp other apart first sent.all o.datagrams reads sent.numbered (times_from first sent.all) few finds_none rules followed own ks r t (record {
    is = stream_is;
    numbers = numbers;
    timed = all_timed first sent.all ks;
    timely = timely;
    times = nothing_noted;
    copies = copies_shown o.again o.datagrams own ks o.copies;
    memory = memory;
    typed = typed;
    run = run;
    backward = backward;
    last = None;
    each = each;
    here = tt;
    edges = None;
    knows = tt;
    after = edges_after;
    edged = edged;
  })

  abbrev start : RunState
  start = running r.packets.buffer first rate o.sender []

  unused : IsUnused start
  unused = starts_unused given depacketizer o.sender r first is.new one_stream

  -- the units of the samples

  abbrev after : RunState
  after = running r.packets.buffer first rate sent.end sent.all

  abbrev sends : List Step
  sends = sending_steps o.sender.mtu (sends_of o.samples)

  units_sent : Streams o.samples sends start after
  units_sent = sent.stream

  whole : SendsPackets start after units_sent.units
  whole = sends_all o.samples sends start after unused units_sent

  abbrev units : List SentUnit
  units = units_sent.units

  abbrev kind : DepacketizerKind
  kind = payloads_by o.sender.packetizer

  abbrev splits : Bool
  splits = may_split o.sender.packetizer

  lawful : AllLawful kind splits units
  lawful = units_sent.lawful o.readable

  abbrev Known : ℕ → Packet → RtpMeta → Type 0
  Known = IsGivenOf o units

  faithful : IsFaithful Known rate kind
  faithful = record {
    number = λ k q m known. known.1.number;
    time = λ k q m known. known.1.time;
    tail = λ k q m known. ap (λ b. tail_in kind b q.payload) known.1.marker;
  }

  -- the buffer's part of the run
  abbrev here : Setting
  here = setting o.samples sends start after units_sent unused o.readable Known faithful units lawful (sym whole.whole)

  values : (k : ℕ) (meta : RtpMeta) → HasValuesOf r.stream.ids o.sender.stream sent.all k meta → HasValuesOf settings.extension_ids o.sender.stream (packets_of units) k meta
  values k meta has = subst (λ (i : ExtensionIds). HasValuesOf i o.sender.stream (packets_of units) k meta) is.ids (subst (λ (ps : List Packet). HasValuesOf r.stream.ids o.sender.stream ps k meta) whole.whole has)

  known : AllKnown here come.events
  known k meta at q tells = (
    contains_in (steps.Deliver k meta.received) given_steps (delivery_shown own k meta.received ks (delivery_of r.packets.ended received come.events k meta come.brings at)),
    tells,
    values k meta (come.values k meta at),
  )

  meets : Meets rate (packets_of units) come.events r.packets.buffer (answers_by own) t.packets.buffer
  meets = subst (λ (ps : List Packet). Meets rate ps come.events r.packets.buffer (answers_by own) t.packets.buffer) whole.whole come.meets

  abbrev releases_units : ReleasesUnits o (answered (answers_by own))
  releases_units = record {
    units = units;
    canonical = units_sent.canonical;
    datagrams = subst (λ (ps : List Packet). AreDatagrams o.sender.stream ps o.datagrams) whole.whole reads;
    ends = all_end kind splits units lawful;
    in_order = order_answered Known splits units 0 (answers_by own)
        (met_in_order here 0 come.events r.packets.buffer t.packets.buffer (answers_by own) known
        (fresh o.samples sends start after units_sent unused o.readable Known faithful units lawful (sym whole.whole)) meets);
    before_pops = before_shown own [] ks (delivered_before rate sent.all r.packets.ended received [] come.events r.packets.buffer t.packets.buffer (answers_by own) come.brings come.meets
        (subst (λ (x : Receiver). AllIn [] x.packets.buffer.held) (sym begun.is) tt));
    extension_values = λ video same fit place unit at. has_values settings.extension_ids o.sender.stream given_steps kind splits units (values_of_run o.sender.packetizer o.samples sends)
        (all_end kind splits units lawful) (units_sent.values video) same fit place unit at;
  }

  -- pop by pop

  readies : IsReady here 0 r.packets.buffer
  readies = ready o.samples sends start after units_sent unused o.readable Known faithful units lawful (sym whole.whole)

  log : HasLogOf (IsRead r.stream.ids o.sender.stream sent.all) sent.all r.packets.ended received (runs.begun r.packets.buffer) (answers_by own) t.packets.buffer
  log = come.logs (runs.begun r.packets.buffer) refl

  is_log : IsLogOfStream Known (packets_of units) r.packets.ended received (runs.begun r.packets.buffer) log.turns log.end
  is_log =
      logs.log_known received (IsRead r.stream.ids o.sender.stream sent.all) Known (packets_of units)
      (λ k q m at read. (contains_in (steps.Deliver k m.received) given_steps (delivery_shown own k m.received ks at), read.0, values k m read.1)) r.packets.ended received (λ step at. at)
      (runs.begun r.packets.buffer) log.turns log.end
      (subst (λ (ps : List Packet). IsLogOfStream (IsRead r.stream.ids o.sender.stream sent.all) ps r.packets.ended received (runs.begun r.packets.buffer) log.turns log.end) whole.whole log.is_log)

  abbrev Logged : Type 0
  Logged = StreamLog Known (packets_of units) own ks r t

  chain : (l : Logged) → Chained here r.packets.buffer l.turns l.end
  chain l = logs.chained here r.packets.ended received 0 (runs.begun r.packets.buffer) l.turns l.end readies (record { sent = tt; now = refl }) l.is_log

  pub keeps_all : KeepsPromises o (answered (answers_by own)) own r t
  keeps_all = record {
    released = releases_units;
    first = first;
    numbered = whole.numbered;
    each_told = refl;
    logged = record { turns = log.turns; end = log.end; is_log = is_log; answers = log.answers_are; left = log.left };
    order = λ l. stretches here 0 r.packets.buffer l.turns l.end readies (chain l);
    contiguous = λ plain l. all_follow here 0 None false r.packets.buffer l.turns l.end plain readies
        (tracked o.samples sends start after units_sent unused o.readable Known faithful units lawful (sym whole.whole)) (chain l);
    no_silent_loss = λ l. none_is_lost here 0 r.packets.buffer l.turns l.end readies (chain l);
    in_time = λ l. all_in_time here r.packets.buffer l.turns l.end readies (ap (λ (x : Receiver). x.packets.buffer.cutoff) begun.is) (chain l);
    none_skipped = λ plain l. none_passed here 0 r.packets.buffer l.turns l.end plain readies (chain l);
    skipped_past_gap = λ l. only_past_gap here r.packets.buffer l.turns l.end readies
        (nothing o.samples sends start after units_sent unused o.readable Known faithful units lawful (sym whole.whole)) (chain l);
  }
