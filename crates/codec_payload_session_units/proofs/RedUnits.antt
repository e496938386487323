-- The units of a stream in RED are its sender's.
use Rattle.std.proofs.Common.{◌≡◌, ◌∙◌, refl, sym, ap, subst, ℕ, ◌+◌, ◌%◌, ◌<◌, ◌≤◌, List, [], ◌∷◌, Bool, true, false, not, eqb, inl, inr, Option, None, Some, Result, Ok, length, arith, lit≤}
use Rattle.std.specs.Prelude.{slice_get}
use Rattle.std.proofs.lemmas.Bool.{eq-eqb}
use Rattle.codec_payload_base.specs.declared.wire.Ticks.{Ticks}
use Rattle.codec_payload_buffer.proofs.MemberLemmas.{IsIn, contains_in, in_contains}
use Rattle.codec_payload_buffer.specs.Held.{Held, has_number}
use Rattle.codec_payload_codec.proofs.CodecLemmas.{codec_payloads, marker_free}
use Rattle.codec_payload_codec.specs.Depacketizers.{DepacketizerKind, DepacketizerState, configured_depacketizer, is_built_in_depacketizer, is_codec, kind_of_depacketizer, depacketizer_state_for}
use Rattle.codec_payload_codec.specs.Packetizers.{PacketizerState, Vp9Packetizing, is_video, may_split, payloads_by, facts_of}
use Rattle.codec_payload_metadata.specs.declared.meta.RtpMeta.{RtpMeta}
use Rattle.codec_payload_buffer_runs.proofs.order.RunSettings.{fresh, ready, setting, tracked}
use Rattle.codec_payload_buffer_runs.proofs.order.SafetyLemmas.{SendsAll as SendsPackets, all_end, sends_all}
use Rattle.codec_payload_buffer_runs.proofs.order.TurnLemmas.{ArePushes, IsPush, IsReady, Setting}
use Rattle.codec_payload_buffer_runs.proofs.units.StreamLemmas.{Streams}
use Rattle.codec_payload_buffer_runs.proofs.units.UnitRows.{IsFaithful, held_as}
use Rattle.codec_payload_buffer_runs.specs.Headline.{IsUnused}
use Rattle.codec_payload_buffer_runs.specs.LawfulUnits.{AllLawful}
use Rattle.codec_payload_buffer_runs.specs.RedSchedule.{all_remembered}
use Rattle.codec_payload_buffer_runs.specs.Log as runs
use Rattle.codec_payload_buffer_runs.specs.ReportedIds.{next_id}
use Rattle.codec_payload_buffer_runs.specs.Schedule.{Answer, RunState}
use Rattle.codec_payload_buffer_runs.specs.SentStream.{SentUnit, packets_of}
use Rattle.codec_payload_buffer_runs.specs.declared.run.Step.{Step}
use Rattle.codec_payload_datagrams.specs.declared.kinds.RedStream.{RedStream}
use Rattle.codec_payload_datagrams.specs.declared.kinds.Retransmission.{Retransmission}
use Rattle.codec_payload_datagram_runs.proofs.DeliveredLemmas.{AllIn}
use Rattle.codec_payload_datagram_runs.proofs.EventLemmas.{times_from}
use Rattle.codec_payload_datagram_runs.proofs.NewReceivers.{IsBegun, new_is_begun}
use Rattle.codec_payload_datagram_runs.proofs.ReceivingLemmas.{AllNumbered}
use Rattle.codec_payload_datagram_runs.proofs.RedCourses.{Course, course_in_order, fed_before}
use Rattle.codec_payload_datagram_runs.proofs.RedReadingLemmas.{IsRedFor, entries_are, written_at}
use Rattle.codec_payload_datagram_runs.proofs.RedReceivingLemmas.{IsTuned, RedSide, Timely}
use Rattle.codec_payload_datagram_runs.proofs.RedReleaseLemmas.{UsesRed, stream_of_red, uses_red}
use Rattle.codec_payload_datagram_runs.proofs.RedStepLemmas.{writes_count}
use Rattle.codec_payload_datagram_runs.proofs.ReleaseLemmas.{AllBelow, SentFrom, first_for, first_low, first_small, numbered_within, starts_unused}
use Rattle.codec_payload_datagram_runs.proofs.SendingLemmas.{running, times_in}
use Rattle.codec_payload_datagram_runs.proofs.TimelyLemmas.{StayTimely, stay_timely}
use Rattle.codec_payload_datagram_runs.specs.RedReleases.{HasHeaderOf, IsRedDelivery, entries_in, is_ssrc_of}
use Rattle.codec_payload_datagram_runs.specs.RedLogs.{IsBroughtBy, StaysInTurn}
use Rattle.codec_payload_datagram_runs.proofs.RedPushLemmas.{AreBrought, brought_in}
use Rattle.codec_payload_datagram_runs.proofs.LogLemmas.{Chained, all_follow, none_is_lost, none_passed, stretches}
use Rattle.codec_payload_datagram_runs.specs.Releases.{AreDatagrams, AreOfOneStream, ComeWithin, is_sent_again_by, sending_steps, times_sent}
use Rattle.codec_payload_datagram_runs.specs.declared.run.DatagramStep.{DatagramStep}
use Rattle.codec_payload_keyframes.specs.UnitGates.{drops_units}
use Rattle.codec_payload_numbers.specs.NotedTimes.{AreTimesOf}
use Rattle.codec_payload_numbers.specs.Numbers.{Numbering}
use Rattle.codec_payload_payloader.specs.Packets.{Packet}
use Rattle.codec_payload_receiver.proofs.BlockTimeLemmas.{new_has_no_block}
use Rattle.codec_payload_receiver.specs.RedOnce.{HasNoBlock}
use Rattle.codec_payload_receiver.specs.Sessions.{Session as Receiver, session_by}
use Rattle.codec_payload_receiver.specs.declared.receiver.Settings.{Settings}
use Rattle.codec_payload_red.specs.RedRun.{IsRecoverable}
use Rattle.codec_payload_rtp.specs.declared.values.ExtensionIds.{ExtensionIds}
use Rattle.codec_payload_session.specs.Ports.{Session, new_session}
use Rattle.codec_payload_session_formats.specs.Formats.{backward_for, forward_for, is_video as is_of_video, retransmission_for}
use Rattle.codec_payload_session_formats.specs.declared.formats.Format.{Format}
use Rattle.codec_payload_session_formats.specs.declared.formats.SessionSettings.{SessionSettings}
use Rattle.codec_payload_session_stream.specs.Streams.{Begins}
use Rattle.codec_payload_session_stream.specs.declared.stream.StreamState.{StreamState}
use Rattle.codec_payload_session_runs.proofs.ReachedLemmas.{runs_split}
use Rattle.codec_payload_session_runs.specs.Lives.{IsAlone, ReceiverCall, RunsAlone, events_of, finishes, follows, pairs, pops, receives, reports, shown, waits, waits_for, with_shown, notes, EdgesRun, FollowEach}
use Rattle.codec_payload_session_runs.specs.SessionRuns.{Call, Runs}
use Rattle.codec_payload_session_stream.specs.Streams.{is_no_memory}
use Rattle.codec_payload_jitter.specs.declared.outcome.Outcome.{Outcome}
use Rattle.codec_payload_receiver.specs.declared.receiver.ReceiveError.{ReceiveError}
use Rattle.codec_payload_session_units.specs.OneRedSender.{FoundBlocks, IsGivenInRed, IsOneRedSenders, RedStreamsReleaseUnits, ReleasesUnitsInRed}
use Rattle.codec_payload_session_units.specs.RedStreamLogs.{KeepsRedPromises, PushesWhole, RedStreamLog, RedStreamsKeepPromises, backward_of}
use Rattle.codec_payload_session_units.specs.OneSender.{FoundMemory, answers_by, effective, sends_of, steps_by, AreUndescribed}
use Rattle.codec_payload_session_units.specs.StreamUnits.{answered, units_told}
use Rattle.codec_payload_session_units.proofs.BeginLemmas.{nothing_read}
use Rattle.codec_payload_session_units.proofs.CallEvents.{AllTyped}
use Rattle.codec_payload_base.specs.declared.wire.Codec.{Codec}
use Rattle.codec_payload_base.specs.declared.wire.Codec.TheVariants as codecs
use Rattle.codec_payload_session_requests.specs.Named.{rules_for}
use Rattle.codec_payload_stream_edges.specs.Brought.{edge_by}
use Rattle.codec_payload_stream_edges.specs.declared.followed.Followed.{Followed}
use Rattle.codec_payload_stream_edges.specs.declared.rules.EdgeRules.{EdgeRules}
use Rattle.codec_payload_session_units.proofs.PlainLemmas.{written_plain}
use Rattle.codec_payload_session_units.proofs.RedCalls.{IsGoingInRed, red_calls}
use Rattle.codec_payload_session_units.proofs.RedLogs.{HasLogInRed, IsPlaced, chained_in_red, log_calls}
use Rattle.codec_payload_session_units.proofs.SentLemmas.{Sent, all_sent}
use Rattle.codec_payload_session_units.proofs.ShownLemmas.{before_shown, copies_shown, delivery_shown, memory_shown, order_answered, shown_answers}
use Rattle.codec_payload_session_units.proofs.TellLemmas.{projects_typed, run_told, projects_follow}
use Rattle.codec_payload_session_units.proofs.UnitLemmas.{copies_below}

blocks_if : (b : Bool) (now : Ticks) (bytes : List ℕ) (answer : Result Outcome ReceiveError) (xs ys : List ReceiverCall) → (FoundBlocks xs → FoundBlocks ys)
    → FoundBlocks (with_shown b (receives now bytes answer) xs) → FoundBlocks (with_shown b (receives now bytes answer) ys)
blocks_if true now bytes answer xs ys so blocks = (blocks.0, so blocks.1)
blocks_if false now bytes answer xs ys so blocks = so blocks

blocks_shown : (own : List ReceiverCall) → FoundBlocks (shown own) → FoundBlocks (effective own)
blocks_shown [] blocks = tt
blocks_shown (receives now bytes answer ∷ cs) blocks = blocks_if (not (is_no_memory answer)) now bytes answer (shown cs) (effective cs) (blocks_shown cs) blocks
blocks_shown (pops now None ∷ cs) blocks = blocks_shown cs blocks
blocks_shown (pops now (Some told) ∷ cs) blocks = blocks_shown cs blocks
blocks_shown (finishes ∷ cs) blocks = blocks_shown cs blocks
blocks_shown (waits limits ∷ cs) blocks = blocks_shown cs blocks
blocks_shown (follows wait ∷ cs) blocks = blocks_shown cs blocks
blocks_shown (pairs r ∷ cs) blocks = blocks_shown cs blocks
blocks_shown (reports ∷ cs) blocks = blocks_shown cs blocks
blocks_shown (notes e ∷ cs) blocks = blocks_shown cs blocks

-- the windows leave room for blocks
room_for_blocks : (b : Bool) → forward_for b + backward_for b + 8 ≤ 65536
room_for_blocks true = lit≤ tt
room_for_blocks false = lit≤ tt

-- only codecs of video send picture ids
has_no_ids : (packetizer : PacketizerState) → is_video packetizer ≡ false → next_id packetizer ≡ None
has_no_ids (Vp9Packetizing sender) none = absurd (cc)
has_no_ids packetizer none = refl

-- a list of pushes
each_pushes : (c : Setting) (ps : List Held) → ((p : Held) → IsIn p ps → IsPush c p) → ArePushes c ps
each_pushes c [] each = tt
each_pushes c (p ∷ ps) each = (each p (inl refl), each_pushes c ps (λ q is. each q (inr is)))

-- packets of these codecs say nothing of pictures
silent_codec : (octet : Bool) (rate : ℕ) (c : Codec) (p : PacketizerState)
    → ((d : DepacketizerState) → depacketizer_state_for c ≡ Some d → kind_of_depacketizer (configured_depacketizer octet rate d) ≡ payloads_by p) → is_video p ≡ false
    → (marker : Bool) (bytes : List ℕ) → edge_by c marker bytes ≡ None
silent_codec octet rate codecs.Vp8 p alike none marker bytes = let video : true ≡ false = ap (λ (k : DepacketizerKind). (facts_of k).video) (alike _ refl) ∙ none in absurd (cc)
silent_codec octet rate codecs.Vp9 p alike none marker bytes = let video : true ≡ false = ap (λ (k : DepacketizerKind). (facts_of k).video) (alike _ refl) ∙ none in absurd (cc)
silent_codec octet rate codecs.Opus p alike none marker bytes = refl
silent_codec octet rate codecs.PCMU p alike none marker bytes = refl
silent_codec octet rate codecs.PCMA p alike none marker bytes = refl
silent_codec octet rate codecs.G722 p alike none marker bytes = refl
silent_codec octet rate codecs.CN p alike none marker bytes = refl
silent_codec octet rate codecs.AmrWb p alike none marker bytes = refl
silent_codec octet rate codecs.H264 p alike none marker bytes = refl
silent_codec octet rate codecs.H265 p alike none marker bytes = refl
silent_codec octet rate codecs.H266 p alike none marker bytes = refl
silent_codec octet rate codecs.Av1 p alike none marker bytes = refl
silent_codec octet rate codecs.Null p alike none marker bytes = refl
silent_codec octet rate codecs.Tele p alike none marker bytes = refl
silent_codec octet rate codecs.Rtx p alike none marker bytes = refl
silent_codec octet rate codecs.Red p alike none marker bytes = refl
silent_codec octet rate codecs.Unknown p alike none marker bytes = refl

-- ---- what a stream in RED begins with

pub record HasBegunInRed (settings : SessionSettings) (f : Format) {ssrc : ℕ} {gave : List ReceiverCall} (o : IsOneRedSenders settings ssrc f gave) (r : Receiver) : Type 0 where
  pub given : Settings
  pub depacketizer : DepacketizerState
  pub new : session_by given depacketizer ≡ Ok r
  pub one_stream : AreOfOneStream o.sender given depacketizer
  pub used : given.red ≡ Some o.red
  pub payload_type : given.payload_type ≡ f.payload_type
  pub unpaired : given.retransmission ≡ None
  pub ids : given.extension_ids ≡ settings.extension_ids
  pub forward : given.forward ≡ forward_for (is_of_video f.spec.codec)
  pub backward : given.backward ≡ backward_for (is_of_video f.spec.codec)

begun_in_red : (settings used : SessionSettings) (ssrc : ℕ) (f : Format) (gave : List ReceiverCall) (o : IsOneRedSenders settings ssrc f gave) (s : StreamState) → used ≡ record settings { pairs = used.pairs }
    → (b : Begins used ssrc f s) → HasBegunInRed settings f o s.receiver
begun_in_red settings used ssrc f gave o s same b =
    let has = b.has_settings in
    let is = o.sender_for in
    let given : Settings = b.receiver_settings in
    let unpaired : given.retransmission ≡ None = has.retransmission ∙ ap (λ (t : Option ℕ). retransmission_for ssrc t used.pairs.items) is.no_retransmissions in
    record {
      given = given;
      depacketizer = configured_depacketizer f.spec.octet_align f.spec.clock_rate b.depacketizer;
      new = b.receiver;
      one_stream = record {
        built_in = is.built_in;
        alike = is.alike b.depacketizer b.known;
        nothing_read = nothing_read f.spec.codec f.spec.octet_align f.spec.clock_rate b.depacketizer b.known;
        clock_rate = has.clock_rate ∙ is.clock_rate;
        payload_type = has.payload_type ∙ is.payload_type;
        not_rtcp = is.not_rtcp;
        ssrc = has.ssrc_is ∙ ap (λ (n : ℕ). Some n) (sym is.ssrc_is);
        not_again = ap (λ (x : Option Retransmission). is_sent_again_by x o.sender.stream) unpaired;
        drops_none = ap drops_units (has.from_keyframe ∙ ap (λ (x : SessionSettings). x.from_keyframe) same) ∙ is.drops_none;
      };
      used = has.red ∙ is.used;
      payload_type = has.payload_type;
      unpaired = unpaired;
      ids = has.extension_ids ∙ ap (λ (x : SessionSettings). x.extension_ids) same;
      forward = has.forward;
      backward = has.backward;
    }

-- ---- the theorem

module _ (settings : SessionSettings) (ssrc : ℕ) (f : Format) (own : List ReceiverCall) (o : IsOneRedSenders settings ssrc f (shown own)) (r t : Receiver)
    (b : HasBegunInRed settings f o r) (typed : AllTyped None own) (run : RunsAlone own r t) (each : FollowEach None own) (edges_after : Option Followed)
    (edged : EdgesRun (rules_for f settings.dependency_descriptor) None own edges_after) where
  abbrev ks : List ℕ
  ks = o.indices

  abbrev received : List DatagramStep
  received = steps_by (effective own) ks

  abbrev given_steps : List DatagramStep
  given_steps = steps_by (shown own) ks

  abbrev rate : ℕ
  rate = o.sender.stream.clock_rate

  abbrev number : ℕ
  number = o.sender.stream.number % 65536

  low : number < 65536
  low = omega arith

  abbrev first : ℕ
  first = first_for number ks

  abbrev forward : ℕ
  forward = b.given.forward

  abbrev backward : ℕ
  backward = b.given.backward

  begun : IsBegun b.given b.depacketizer r
  begun = new_is_begun b.given b.depacketizer r b.new

  within : ComeWithin forward backward ks
  within = subst (λ (n : ℕ). ComeWithin n backward ks) (sym b.forward) (subst (λ (n : ℕ). ComeWithin (forward_for (is_of_video f.spec.codec)) n ks) (sym b.backward) o.within)

  below : AllBelow (length o.datagrams) ks
  below = subst (λ (n : ℕ). AllBelow n ks) (writes_count o.writer o.datagrams o.written o.after o.writes) (copies_below None o.written (shown own) ks o.copies)

  numbers : AllNumbered first r.packets.numbering ks
  numbers = subst (λ (n : Numbering). AllNumbered first n ks) (sym (ap (λ (x : Receiver). x.packets.numbering) begun.is))
      (numbered_within forward backward number (length o.datagrams) ks begun.windows low o.few below within)

  sender_sent : Sent o.samples o.entries o.datagrams o.sender r
  sender_sent = all_sent o.samples o.entries o.datagrams o.sender r b.given b.depacketizer b.new b.one_stream o.few o.sends

  sent : SentFrom r.packets.buffer o.samples (sends_of o.samples) o.sender sender_sent.wire first
  sent = sender_sent.packets_from first (first_small forward backward number ks low within) (first_low forward backward o.sender.stream.number ks within)

  abbrev start : RunState
  start = running r.packets.buffer first rate o.sender []

  unused : IsUnused start
  unused = starts_unused b.given b.depacketizer o.sender r first b.new b.one_stream

  abbrev after : RunState
  after = running r.packets.buffer first rate sent.end sent.all

  abbrev sends : List Step
  sends = sending_steps o.sender.mtu (sends_of o.samples)

  units_sent : Streams o.samples sends start after
  units_sent = sent.stream

  whole : SendsPackets start after units_sent.units
  whole = sends_all o.samples sends start after unused units_sent

  abbrev units : List SentUnit
  units = units_sent.units

  abbrev packets : List Packet
  packets = packets_of units

  abbrev kind : DepacketizerKind
  kind = payloads_by o.sender.packetizer

  abbrev splits : Bool
  splits = may_split o.sender.packetizer

  lawful : AllLawful kind splits units
  lawful = units_sent.lawful o.readable

  abbrev Known : ℕ → Packet → RtpMeta → Type 0
  Known = IsGivenInRed o

  faithful : IsFaithful Known rate kind
  faithful = record {
    number = λ k q m known. known.number;
    time = λ k q m known. known.time;
    tail = λ k q m known. marker_free o.sender.packetizer o.sender_for.no_video m.header.marker q.marker q.payload;
  }

  -- the buffer's part of the run
  abbrev here : Setting
  here = setting o.samples sends start after units_sent unused o.readable Known faithful units lawful (sym whole.whole)

  reads : AreDatagrams o.sender.stream packets o.datagrams
  reads = subst (λ (ps : List Packet). AreDatagrams o.sender.stream ps o.datagrams) whole.whole (subst (AreDatagrams o.sender.stream sent.all) sender_sent.datagrams_are sent.reads)

  entries : entries_in o.datagrams ≡ all_remembered packets
  entries = entries_are o.sender.stream packets o.datagrams reads

  abbrev red : RedStream
  red = stream_of_red b.given o.red

  uses : UsesRed b.given o.red r
  uses = uses_red b.given b.depacketizer r o.red b.new b.used

  unpaired : r.stream.retransmission ≡ None
  unpaired = ap (λ (x : Receiver). x.stream.retransmission) begun.is ∙ b.unpaired

  is_red : IsRedFor o.sender.stream o.writer r.stream red
  is_red = record {
    used = uses.used;
    red_type = o.sender_for.red_type;
    other_type = ap (λ (n : ℕ). eqb o.writer.red_type n) (ap (λ (x : Receiver). x.stream.payload_type) begun.is)
        ∙ (ap (λ (n : ℕ). eqb n b.given.payload_type) (sym o.sender_for.red_type) ∙ uses.other_type);
    not_rtcp = o.sender_for.red_not_rtcp;
    not_again = ap (λ (x : Option Retransmission). is_ssrc_of x o.sender.stream.ssrc) unpaired;
  }

  recoverable : IsRecoverable o.writer.red red.receiver o.writer.budget (entries_in o.datagrams)
  recoverable = subst (λ (n : ℕ). IsRecoverable o.writer.red (record { primary_pt = n % 128; step = o.red.step }) o.writer.budget (entries_in o.datagrams)) (sym b.payload_type) o.recoverable

  own_type : eqb (o.writer.red.primary_pt % 128) r.stream.payload_type ≡ true
  own_type =
      let small = uses.small in
      let type_is : r.stream.payload_type ≡ b.given.payload_type = ap (λ (x : Receiver). x.stream.payload_type) begun.is in
      let same : b.given.payload_type % 128 ≡ o.writer.red.primary_pt % 128 = recoverable.same_type in
      eq-eqb (o.writer.red.primary_pt % 128) r.stream.payload_type (omega (arith, same, type_is, small))

  ids : r.stream.ids ≡ settings.extension_ids
  ids = ap (λ (x : Receiver). x.stream.ids) begun.is ∙ b.ids

  apart : forward + backward + 8 ≤ 65536
  apart = subst (λ (n : ℕ). n + backward + 8 ≤ 65536) (sym b.forward) (subst (λ (n : ℕ). forward_for (is_of_video f.spec.codec) + n + 8 ≤ 65536) (sym b.backward) (room_for_blocks (is_of_video f.spec.codec)))

  as_given : (k : ℕ) (q : Packet) (m : RtpMeta) → IsRedDelivery r.stream.ids o.sender.stream o.writer o.datagrams given_steps k q m → Known k q m
  as_given k q m known = record {
    carrier = known.carrier;
    delivers = known.delivers;
    carries = known.carries;
    number = known.number;
    time = known.time;
    header = subst (λ (i : ExtensionIds). HasHeaderOf (eqb k known.carrier) i o.sender.stream q m) ids known.header;
  }

  by_given : (k : ℕ) (q : Packet) (m : RtpMeta) (carrier : ℕ) (known : IsRedDelivery r.stream.ids o.sender.stream o.writer o.datagrams given_steps k q m) → known.carrier ≡ carrier
      → (as_given k q m known).carrier ≡ carrier
  unfolding as_given
  by_given k q m carrier known is = is

  abbrev side : RedSide
  side = record {
    c = here;
    stream = o.sender.stream;
    writer = o.writer;
    datagrams = o.datagrams;
    entries = entries;
    kinds = r.stream;
    received = given_steps;
    told = as_given;
    forward = forward;
    backward = backward;
    apart = apart;
    some = begun.windows.some;
    red = red;
    is_red = is_red;
    given = subst (IsRecoverable o.writer.red red.receiver o.writer.budget) entries recoverable;
    written = o.written;
    each = λ k bytes there. written_at o.sender.stream packets o.writer o.datagrams o.written o.after k bytes o.sender_for.media_type reads o.writes there;
    own_type = own_type;
    again = None;
    heard = tt;
  }

  nothing_noted : AreTimesOf (times_from first packets) r.packets.noted
  nothing_noted = subst (λ (x : Receiver). AreTimesOf (times_from first packets) x.packets.noted) (sym begun.is) (tt, refl)

  tuned : IsTuned o.sender.stream r.stream forward backward (times_from first packets) r
  tuned = record {
    kinds_are = refl;
    named = ap (λ (x : Receiver). x.named) begun.is ∙ b.one_stream.ssrc;
    ssrc = ap (λ (x : Receiver). x.ssrc) begun.is ∙ b.one_stream.ssrc;
    drops_none = ap (λ (x : Receiver). x.gates.drops) begun.is ∙ b.one_stream.drops_none;
    steady = record {
      rate = ap (λ (x : Receiver). x.packets.rate) begun.is ∙ b.one_stream.clock_rate;
      running = ap (λ (x : Receiver). x.packets.is_restarting) begun.is;
      of_codec = ap (λ (x : Receiver). is_built_in_depacketizer x.packets.buffer.depacketizer) begun.is
          ∙ (ap is_codec b.one_stream.alike ∙ codec_payloads o.sender.packetizer b.one_stream.built_in);
      forward_is = ap (λ (x : Receiver). x.packets.numbering.forward) begun.is;
      backward_is = ap (λ (x : Receiver). x.packets.numbering.backward) begun.is;
      times = nothing_noted;
    };
  }

  times : times_in packets ≡ times_sent rate o.samples (sends_of o.samples) o.entries
  times = ap times_in (sym whole.whole) ∙ (sent.times ∙ ap (times_sent rate o.samples (sends_of o.samples)) sender_sent.entries_are)

  in_time : Timely side r ks
  in_time = (
    inl (subst HasNoBlock (sym (ap (λ (x : Receiver). x.seen) begun.is)) new_has_no_block),
    subst (λ (x : Receiver). StayTimely rate first packets x.packets.first ks) (sym begun.is) (stay_timely rate first packets (times_sent rate o.samples (sends_of o.samples) o.entries) ks times o.timely),
  )

  memory : FoundMemory (answers_by own)
  memory = memory_shown (answers_by own) (subst FoundMemory (shown_answers own) o.memory)

  abbrev rules : EdgeRules
  rules = rules_for f settings.dependency_descriptor

  silent : (marker : Bool) (bytes : List ℕ) → edge_by rules.codec marker bytes ≡ None
  silent = silent_codec f.spec.octet_align f.spec.clock_rate f.spec.codec o.sender.packetizer o.sender_for.alike o.sender_for.no_video

  plain : AreUndescribed rules.descriptor o.written
  plain = written_plain settings.dependency_descriptor o.writer o.datagrams o.written o.after o.writes o.undescribed

  going : IsGoingInRed side refl unpaired rules silent plain own ks r t
  going = record {
    tuned = tuned;
    numbers = numbers;
    in_time = in_time;
    copies = copies_shown None o.written own ks o.copies;
    blocks = blocks_shown own o.blocks;
    memory = memory;
    typed = typed;
    inside = λ k at is. delivery_shown own k at ks is;
    run = run;
    edged = record { last = None; each = each; here = tt; edges = None; after = edges_after; edged = edged };
  }

  course : Course Known packets received r.packets.buffer (answers_by own) t.packets.buffer
  course = red_calls side refl unpaired rules silent plain own ks r t going

  abbrev releases_units : ReleasesUnitsInRed o (answered (answers_by own))
  releases_units = record {
    units = units;
    canonical = units_sent.canonical;
    datagrams = reads;
    ends = all_end kind splits units lawful;
    in_order = order_answered Known splits units 0 (answers_by own)
        (course_in_order here 0 received r.packets.buffer t.packets.buffer (answers_by own)
        (fresh o.samples sends start after units_sent unused o.readable Known faithful units lawful (sym whole.whole)) course);
    before_pops = before_shown own [] ks (fed_before Known packets received [] r.packets.buffer t.packets.buffer (answers_by own) course
        (subst (λ (x : Receiver). AllIn [] x.packets.buffer.held) (sym begun.is) tt));
  }

  pub releases_in_red : ReleasesUnitsInRed o (answered (answers_by own))
  releases_in_red = releases_units

  -- pop by pop

  no_ids : next_id o.sender.packetizer ≡ None
  no_ids = has_no_ids o.sender.packetizer o.sender_for.no_video

  readies : IsReady here 0 r.packets.buffer
  readies = ready o.samples sends start after units_sent unused o.readable Known faithful units lawful (sym whole.whole)

  abbrev Pushes : ℕ → ℕ → Ticks → DepacketizerState → List Held → Type 0
  Pushes = PushesWhole o packets

  are_pushes : (highest carrier : ℕ) (now : Ticks) (d : DepacketizerState) (ps : List Held) → kind_of_depacketizer d ≡ kind → Pushes highest carrier now d ps → ArePushes here ps
  are_pushes highest carrier now d ps reads_as pushes = each_pushes here ps (λ p is.
      let one = pushes.each p (contains_in p ps is) in
      (one.index, one.packet, one.there, one.known, one.held ∙ ap (λ (x : DepacketizerKind). held_as x p.meta one.packet.payload) reads_as))

  chain : (g : RedStreamLog o packets own r t) → Chained here r.packets.buffer g.turns g.end
  chain g = chained_in_red here Pushes are_pushes r.packets.ended 0 received 0 (runs.begun r.packets.buffer) g.turns g.end readies (record { sent = tt; now = refl }) g.is_log

  module _ (stays : StaysInTurn o.red.step (backward_of f) ks) where
    in_turn : StaysInTurn o.red.step backward ks
    in_turn = subst (λ (n : ℕ). StaysInTurn o.red.step n ks) (sym b.backward) stays

    abbrev jump : ℕ
    jump = in_turn.jump

    gives : (highest carrier : ℕ) (now : Ticks) (d : DepacketizerState) (ps : List Held) → AreBrought side jump in_turn.in_turn highest carrier now d ps
        → ((j : ℕ) (q : Packet) → slice_get packets j ≡ Some q → IsBroughtBy o.writer o.datagrams backward highest carrier j → has_number q.number ps ≡ true)
        → Pushes highest carrier now d ps
    gives highest carrier now d ps brought all = record {
      each = λ p is.
          let one = brought_in side jump in_turn.in_turn highest carrier now d ps p brought (in_contains p ps is) in
          record {
            index = one.index;
            packet = one.packet;
            there = one.there;
            brought = subst (λ (n : ℕ). IsBroughtBy o.writer o.datagrams n highest carrier one.index) b.backward one.brought;
            known = as_given one.index one.packet p.meta one.known.0;
            by = by_given one.index one.packet p.meta carrier one.known.0 one.known.1;
            received = one.received;
            held = one.held;
          };
      all = λ j q there brings. all j q there (subst (λ (n : ℕ). IsBroughtBy o.writer o.datagrams n highest carrier j) (sym b.backward) brings);
    }

    placed : IsPlaced side refl unpaired rules silent plain jump in_turn.in_turn Pushes gives 0 r ks
    placed = inl (
      ap (λ (x : Receiver). x.packets.numbering.greatest) begun.is,
      refl,
      ap (λ (x : Receiver). x.seen) begun.is,
      in_turn.near,
    )

    log : HasLogInRed side refl unpaired rules silent plain jump in_turn.in_turn Pushes gives r.packets.ended 0 received (runs.begun r.packets.buffer) (answers_by own) t.packets.buffer
    log = log_calls side refl unpaired rules silent plain jump in_turn.in_turn Pushes gives own ks 0 0 r t (record {
      going = going;
      placed = placed;
      none = ap (λ (x : Receiver). x.packets.no_media_numbers) begun.is;
      ready = readies;
    }) (runs.begun r.packets.buffer) refl

    pub keeps_in_red : KeepsRedPromises o (answered (answers_by own)) own r t
    keeps_in_red = record {
      released = releases_units;
      first = first;
      numbered = whole.numbered;
      each_told = refl;
      logged = record { turns = log.turns; end = log.end; is_log = log.is_log; answers = log.answers_are; left = log.left };
      order = λ g. stretches here 0 r.packets.buffer g.turns g.end readies (chain g);
      contiguous = λ g. all_follow here 0 None false r.packets.buffer g.turns g.end no_ids readies
          (tracked o.samples sends start after units_sent unused o.readable Known faithful units lawful (sym whole.whole)) (chain g);
      no_silent_loss = λ g. none_is_lost here 0 r.packets.buffer g.turns g.end readies (chain g);
      none_skipped = λ g. none_passed here 0 r.packets.buffer g.turns g.end no_ids readies (chain g);
    }

-- the events have what is told of the receiver's pops
told_is : (settings : SessionSettings) (calls : List Call) (s : Session) → Runs calls (new_session settings) s → (ssrc : ℕ) (f : Format) (announced : Bool) (r : Receiver)
    → (alone : IsAlone settings calls ssrc f announced r) → answered (answers_by alone.own) ≡ units_told (events_of ssrc f.payload_type alone.during)
told_is settings calls s run ssrc f announced r alone =
    let split = runs_split alone.before alone.during (new_session settings) s (subst (λ (cs : List Call). Runs cs (new_session settings) s) alone.whole run) in
    sym (shown_answers alone.own) ∙ (ap answers_by alone.shows ∙ run_told ssrc f.payload_type alone.during split.0 s split.2)

pub red_units : RedStreamsReleaseUnits
red_units settings calls s run ssrc f announced r alone o =
    let own : List ReceiverCall = alone.own in
    let q : Receiver = alone.fresh.receiver in
    let typed : AllTyped f.retransmission own = projects_typed ssrc f (waits_for settings ssrc f) alone.during own alone.projects in
    let each : FollowEach None own = projects_follow ssrc f (waits_for settings ssrc f) alone.during own alone.projects in
    subst (λ (answers : List Answer). ReleasesUnitsInRed o answers) (told_is settings calls s run ssrc f announced r alone)
    (subst (λ (gave : List ReceiverCall). (x : IsOneRedSenders settings ssrc f gave) → ReleasesUnitsInRed x (answered (answers_by own))) alone.shows
    (λ x. releases_in_red settings ssrc f own x q r (begun_in_red settings alone.reached.settings ssrc f (shown own) x alone.fresh alone.pairs_alone alone.begins)
    (subst (λ (t : Option ℕ). AllTyped t own) x.sender_for.no_retransmissions typed) alone.alone each alone.edges alone.edged) o)

pub red_promises : RedStreamsKeepPromises
red_promises settings calls s run ssrc f announced r alone o stays =
    let own : List ReceiverCall = alone.own in
    let q : Receiver = alone.fresh.receiver in
    let typed : AllTyped f.retransmission own = projects_typed ssrc f (waits_for settings ssrc f) alone.during own alone.projects in
    let each : FollowEach None own = projects_follow ssrc f (waits_for settings ssrc f) alone.during own alone.projects in
    subst (λ (answers : List Answer). KeepsRedPromises o answers own q r) (told_is settings calls s run ssrc f announced r alone)
    (subst (λ (gave : List ReceiverCall). (x : IsOneRedSenders settings ssrc f gave) → StaysInTurn x.red.step (backward_of f) x.indices → KeepsRedPromises x (answered (answers_by own)) own q r) alone.shows
    (λ x near. keeps_in_red settings ssrc f own x q r (begun_in_red settings alone.reached.settings ssrc f (shown own) x alone.fresh alone.pairs_alone alone.begins)
    (subst (λ (t : Option ℕ). AllTyped t own) x.sender_for.no_retransmissions typed) alone.alone each alone.edges alone.edged near) o stays)
