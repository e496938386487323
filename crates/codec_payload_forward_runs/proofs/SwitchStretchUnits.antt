-- The units that a viewer's receiver releases in a run with any number of switches, from the theorem of runs over one hop.
use Rattle.std.proofs.Common.{◌≡◌, ◌∙◌, refl, sym, ap, subst, ℕ, ◌+◌, ◌%◌, ◌^◌, ◌<◌, List, [], ◌++◌, inl, inr, append-nil, true, Some, None, length, map, arith}
use Rattle.std.specs.Prelude.{◌⊎◌}
use Rattle.codec_payload_base.specs.declared.wire.Codec.{Codec}
use Rattle.codec_payload_buffer.specs.Steps.{State}
use Rattle.codec_payload_buffer_runs.proofs.units.BuiltInRuns.{IsOfCodec, plainly, unused_exactly}
use Rattle.codec_payload_buffer_runs.proofs.units.StreamLemmas.{Streams, streams}
use Rattle.codec_payload_buffer_runs.specs.Headline.{IsUnused}
use Rattle.codec_payload_buffer_runs.specs.Schedule.{RunState, run_state}
use Rattle.codec_payload_buffer_runs.specs.SentStream.{AreReadable, SentUnit, units_of_run}
use Rattle.codec_payload_buffer_runs.specs.declared.run.Step.{Step}
use Rattle.codec_payload_codec.specs.Depacketizers.{is_codec}
use Rattle.codec_payload_codec.specs.Packetizers.{PacketizerState, Vp8Packetizing, is_built_in}
use Rattle.codec_payload_codec.proofs.CodecLemmas.{codec_payloads}
use Rattle.codec_payload_payloader.specs.Packets.{AreNumbered, Packet}
use Rattle.codec_payload_payloader.specs.Sending.{Sample}
use Rattle.codec_payload_receiver.specs.Sessions.{Session}
use Rattle.codec_payload_sending.specs.Senders.{Sending}
use Rattle.codec_payload_sending_forward.specs.Forwarding.{Forward}
use Rattle.codec_payload_sending_forward.specs.declared.forwarder.ForwardSettings.{ForwardSettings}
use Rattle.codec_payload_datagram_runs.proofs.Courses.{Proceeds, proceeds}
use Rattle.codec_payload_datagram_runs.proofs.ReleaseLemmas.{SendsFrom, keeps_all, starts_unused, takes_of}
use Rattle.codec_payload_datagram_runs.proofs.SendingLemmas.{SendsRun, running, sends_run}
use Rattle.codec_payload_datagram_runs.proofs.StepLemmas.{Takes}
use Rattle.codec_payload_datagram_runs.specs.Releases.{AreOfOneStream, ComeTimely, ComeWithin, IsWithinWindows, delivered, received_steps, sending_steps, times_sent}
use Rattle.codec_payload_datagram_runs.specs.WireLogs.{KeepsPromises}
use Rattle.codec_payload_datagram_runs.specs.WireRuns.{Runs, Wire, begins}
use Rattle.codec_payload_datagram_runs.specs.declared.run.DatagramStep.{DatagramStep}
use Rattle.codec_payload_datagram_runs.specs.declared.run.SentSample.{SentSample}
use Rattle.codec_payload_forward_runs.proofs.LeaveLemmas.{are_kept}
use Rattle.codec_payload_forward_runs.proofs.SenderLemmas.{IsView, View, moved_view, unknown, unknown_view}
use Rattle.codec_payload_forward_runs.proofs.SwitchEvents.{viewer_of}
use Rattle.codec_payload_forward_runs.proofs.SwitchIds.{HasId, id_stays, sent_other, units_with_ids}
use Rattle.codec_payload_forward_runs.proofs.SwitchLemmas.{happened}
use Rattle.codec_payload_forward_runs.proofs.SwitchSamples.{AreSeen, moved_none, received_sent, seen_readable, sending_append, times_joined, units_sent}
use Rattle.codec_payload_forward_runs.proofs.SwitchSenders.{AreAtIndex, at_index, runs_append}
use Rattle.codec_payload_forward_runs.proofs.SwitchSent.{Stays, own_good, total}
use Rattle.codec_payload_forward_runs.proofs.SwitchStretchIds.{PartsOn, parts_on, raw_count}
use Rattle.codec_payload_forward_runs.proofs.SwitchStretchSent.{AllSend, IsReady, RunsOn, all_readable, all_send, count_all, runs_on, seen_all, total_all, units_all}
use Rattle.codec_payload_forward_runs.proofs.SwitchStretchViews.{Views, received_all, sends_none, times_none, viewed, views_all}
use Rattle.codec_payload_forward_runs.proofs.SwitchStretchWalks.{write_stretches}
use Rattle.codec_payload_forward_runs.proofs.SwitchUnitLemmas.{again_by}
use Rattle.codec_payload_forward_runs.specs.ForwardReleases.{keeps_packetizer, keeps_payloads, moved_packetizer, viewer_packetizer}
use Rattle.codec_payload_forward_runs.specs.SwitchReleases.{events_of}
use Rattle.codec_payload_forward_runs.specs.SwitchRuns.{SwitchRuns, Switched, begins_switching}
use Rattle.codec_payload_forward_runs.specs.SwitchStretches.{AreBetweenFrames, AreStretchesWithinWindows, ReleaseAllStretches, ReleasesStretches, Stretch, StretchesOf, ViewedStretch, all_sent, count_in, datagrams_viewed, no_stretch, samples_viewed, sender_of, sender_viewed, sent_in_all, steps_viewed_of, stretches_in, units_in_all, wire_before}
use Rattle.codec_payload_forward_runs.specs.SwitchUnits.{SendNoIds, SendPictureIds, Sent, entries_in, send_each, units_of_sent}
use Rattle.codec_payload_forward_runs.specs.declared.switch_run.Source.{Source}
use Rattle.codec_payload_forward_runs.specs.declared.switch_run.Source.TheVariants as sources
use Rattle.codec_payload_forward_runs.specs.declared.switch_run.SwitchStep.{SwitchStep}

module _ (samples : List Sample) (all_steps : List SwitchStep) (first second : Sending) (forwarder : Forward) (receiver : Session) (t : Switched)
    (run : SwitchRuns samples all_steps (begins_switching first second forwarder receiver) t)
    (within : AreStretchesWithinWindows samples all_steps (begins_switching first second forwarder receiver) t) where
  abbrev s : Switched
  s = begins_switching first second forwarder receiver

  abbrev own : PacketizerState
  own = first.packetizer

  abbrev rate : ℕ
  rate = first.stream.clock_rate

  -- The stream

  stream : StretchesOf samples all_steps (begins_switching first second forwarder receiver) t
  stream = write_stretches samples all_steps first second forwarder receiver t run within.two within.near

  abbrev number : ℕ
  number = stream.number

  abbrev vs : List ViewedStretch
  vs = stream.viewed

  abbrev xs : List Sent
  xs = sent_in_all samples all_steps t (stretches_in stream.viewed)

  abbrev entries : List SentSample
  entries = entries_in xs

  abbrev all : List Sample
  all = samples_viewed samples all_steps rate t stream.viewed

  abbrev steps_seen : List DatagramStep
  steps_seen = steps_viewed_of samples all_steps t

  abbrev steps : List DatagramStep
  steps = send_each 0 xs ++ steps_seen

  abbrev datagrams : List (List ℕ)
  datagrams = datagrams_viewed t.hops.wire.datagrams t.datagrams stream.viewed

  abbrev sender : Sending
  sender = sender_viewed stream.number s

  abbrev wire_of : List Sent → Wire
  wire_of ys = record t.hops.wire { sending = sender; datagrams = datagrams; sends = entries_in ys }

  same_sent : sent_in_all samples all_steps t (stretches_in stream.viewed) ≡ all_sent samples all_steps t
  same_sent = ap (sent_in_all samples all_steps t) stream.are

  few : length (datagrams_viewed t.hops.wire.datagrams t.datagrams stream.viewed) < 2 ^ 63
  few =
      let count : count_in (stretches_in vs) < 2 ^ 63 = subst (λ (gs : List Stretch). count_in gs < 2 ^ 63) (sym stream.are) within.few in
      omega (arith, count, count_all samples all_steps first second forwarder receiver t run within.alike within.widths number 0 vs stream.all)

  between : AreBetweenFrames samples all_steps t (stretches_in stream.viewed)
  between = subst (AreBetweenFrames samples all_steps t) (sym stream.are) within.between

  index_all : AreAtIndex (samples_viewed samples all_steps first.stream.clock_rate t stream.viewed) 0 (samples_viewed samples all_steps first.stream.clock_rate t stream.viewed)
  index_all = at_index all [] all [] (sym (append-nil all))

  seen : AreSeen (samples_viewed samples all_steps first.stream.clock_rate t stream.viewed) (sent_in_all samples all_steps t (stretches_in stream.viewed))
  seen = seen_all samples all_steps first second forwarder receiver t run within.alike within.widths number rate vs

  sends_both : (mtu : ℕ) → sending_steps mtu steps ≡ sending_steps mtu (send_each 0 xs)
  sends_both mtu =
      sending_append mtu (send_each 0 xs) steps_seen
      ∙ (ap (λ (ss : List Step). sending_steps mtu (send_each 0 xs) ++ ss) (sends_none mtu no_stretch (events_of samples all_steps t) []) ∙ append-nil (sending_steps mtu (send_each 0 xs)))

  -- what is released, if these samples are sent
  record ReleasesBy (ys : List Sent) : Type 0 where
    received : received_steps all 0 (send_each 0 ys ++ steps_seen) (entries_in ys) ≡ steps_seen
    promises : KeepsPromises all (send_each 0 ys ++ steps_seen) (wire_before stream.number s) (wire_of ys)
    canonical : map (λ (u : SentUnit). u.parts) promises.released.units ≡ units_in_all samples all_steps s t (stretches_in stream.viewed)

  releases_all : ReleasesBy xs → ReleasesStretches samples all_steps (begins_switching first second forwarder receiver) t
  releases_all by_these =
      let r : ReleasesBy (all_sent samples all_steps t) = subst ReleasesBy same_sent by_these in
      record { stream = stream; received = r.received; promises = r.promises; canonical = r.canonical ∙ ap (units_in_all samples all_steps s t) stream.are }

  -- What is known of the packetizers

  module _ (good : PacketizerState → Type 0) (stays : Stays good) (good_first : good first.packetizer) (good_second : good second.packetizer) where
    sends : AllSend samples all_steps first second forwarder receiver t run within.alike within.widths stream.number good stays good_first good_second stream.viewed
    sends = all_send samples all_steps first second forwarder receiver t run within.alike within.widths number good stays good_first good_second 0 vs stream.all between

    -- what the receiver gets
    received : received_steps all 0 steps entries ≡ steps_seen
    received =
        let count : total xs ≡ length datagrams =
        total_all samples all_steps first second forwarder receiver t run within.alike within.widths number good stays good_first good_second 0 vs stream.all sends
        ∙ sym (count_all samples all_steps first second forwarder receiver t run within.alike within.widths number 0 vs stream.all) in
        received_sent all all xs 0 0 steps_seen index_all seen
        ∙ (ap (λ (n : ℕ). received_steps all n steps_seen []) (omega (arith, count)) ∙ received_all all (length datagrams) datagrams t.hops.written (events_of samples all_steps t) refl stream.written)

    -- A sender of the viewer's stream, by a view of its packetizers

    module _ (view : Forward → View) (is_view : (f : Forward) → f.settings ≡ forwarder.settings → IsView f good (view f))
        (same : (f h : Forward) → f.settings ≡ forwarder.settings → h.settings ≡ forwarder.settings → (p q : PacketizerState) → good p → good q → view f p ≡ view h q) where
      abbrev seen_first : Sending
      seen_first = record sender { packetizer = view forwarder first.packetizer }

      ready : IsReady samples all_steps first second forwarder receiver t run within.alike within.widths stream.number good stays good_first good_second view is_view same all seen_first 0
      ready = record {
        packetizer = λ f p settings is. same forwarder f refl settings first.packetizer p good_first is;
        mtu = refl;
        stream = ap (λ (n : ℕ). record sender.stream { number = n % 65536 }) (omega arith);
      }

      sent_run : RunsOn samples all_steps first second forwarder receiver t run within.alike within.widths stream.number good stays good_first good_second view is_view same all 0 stream.viewed seen_first [] []
      sent_run = runs_on samples all_steps first second forwarder receiver t run within.alike within.widths number good stays good_first good_second view is_view same all 0 vs seen_first [] [] stream.all sends ready index_all few

      abbrev left : Sending
      left = sent_run.left

      -- a run in which nothing was delivered yet
      abbrev alone : Sending → List (List ℕ) → List SentSample → Wire
      alone v ds es = record { sending = v; session = receiver; datagrams = ds; sends = es; receipts = []; pops = [] }

      views_it : Views all t.hops.wire.datagrams t.datagrams left datagrams entries no_stretch (events_of samples all_steps t) [] (viewer_of s.hops) (viewer_of t.hops) []
      views_it = views_all all t.hops.wire.datagrams t.datagrams left datagrams entries (events_of samples all_steps t) (viewer_of s.hops) (viewer_of t.hops) refl stream.written
          (happened samples all_steps first second forwarder receiver t run)

      -- the run over one hop
      abbrev saw : Wire
      saw = viewed all t.hops.wire.datagrams t.datagrams left datagrams entries (viewer_of t.hops) views_it.end

      course : Runs all steps (begins seen_first receiver) saw
      course = runs_append all (send_each 0 xs) steps_seen (begins seen_first receiver) (alone left datagrams entries) saw sent_run.runs views_it.runs

      goes : Proceeds None all steps (begins seen_first receiver) saw
      goes = proceeds None all steps (begins seen_first receiver) saw course

      takes : Takes None (received_steps all 0 steps entries) datagrams receiver t.hops.wire.pops t.hops.wire.session
      takes = takes_of None all steps seen_first receiver saw goes

    -- The premises of the run over one hop, if ids of the first packetizer are not moved

    module _ (moved : viewer_packetizer forwarder first.packetizer ≡ first.packetizer) where
      one_stream : AreOfOneStream (sender_viewed stream.number (begins_switching first second forwarder receiver)) within.settings within.depacketizer
      one_stream = record {
        built_in = within.one_stream.built_in;
        alike = within.one_stream.alike;
        nothing_read = within.one_stream.nothing_read;
        clock_rate = within.one_stream.clock_rate;
        payload_type = within.one_stream.payload_type;
        not_rtcp = within.one_stream.not_rtcp;
        ssrc = within.one_stream.ssrc;
        not_again = again_by within.settings.retransmission rate _ _ forwarder.settings forwarder.settings refl ∙ within.one_stream.not_again;
        drops_none = within.one_stream.drops_none;
      }

      is_within : IsWithinWindows all steps (sender_viewed stream.number (begins_switching first second forwarder receiver)) receiver entries
      is_within = record {
        settings = within.settings;
        depacketizer = within.depacketizer;
        new = within.new;
        one_stream = one_stream;
        readable = subst (λ (p : PacketizerState). AreReadable p all) (sym moved)
            (seen_readable own all xs seen (all_readable samples all_steps first second forwarder receiver t run within.alike within.widths number own within.readable (stretches_in vs)));
        within = subst (λ (ss : List DatagramStep). ComeWithin within.settings.forward within.settings.backward (delivered ss)) (sym received) within.within;
        timely = subst (λ (ss : List DatagramStep). ComeTimely rate (times_sent rate all steps entries) (delivered ss)) (sym received)
            (subst (λ (ys : List Sent). ComeTimely rate (times_sent rate all (send_each 0 ys ++ steps_seen) (entries_in ys)) (delivered steps_seen)) (sym same_sent) (within.timely stream));
      }

      unused : (first_number : ℕ) → IsUnused (running receiver.packets.buffer first_number rate (sender_viewed stream.number (begins_switching first second forwarder receiver)) [])
      unused first_number = starts_unused within.settings within.depacketizer sender receiver first_number within.new one_stream

      released_by : Takes None (received_steps all 0 steps entries) datagrams receiver t.hops.wire.pops t.hops.wire.session → SendsFrom all steps sender receiver (wire_of xs)
          → units_of_run (viewer_packetizer forwarder first.packetizer) all (sending_steps first.mtu steps) ≡ units_in_all samples all_steps s t (stretches_in stream.viewed)
          → ReleasesStretches samples all_steps (begins_switching first second forwarder receiver) t
      released_by takes sends_from units =
          let promises : KeepsPromises all steps (begins sender receiver) (wire_of xs) = keeps_all None all steps sender receiver (wire_of xs) takes sends_from tt is_within in
          releases_all (record { received = received; promises = promises; canonical = promises.released.canonical ∙ units })

  -- The packetizers send no ids

  module _ (plain : SendNoIds forwarder.settings.codec first second) where
    none_moved : (f : Forward) → viewer_packetizer f first.packetizer ≡ first.packetizer
    none_moved f = moved_none f.settings.codec f.ids.offsets own plain.no_ids

    built : is_built_in first.packetizer ≡ true
    built = sym (ap is_built_in (none_moved forwarder)) ∙ within.one_stream.built_in

    abbrev Own : PacketizerState → Type 0
    Own p = p ≡ first.packetizer

    stays_own : Stays (λ (p : PacketizerState). p ≡ first.packetizer)
    stays_own = own_good own built plain.no_ids

    view_own : (f : Forward) → f.settings ≡ forwarder.settings → IsView f (λ (p : PacketizerState). p ≡ first.packetizer) (viewer_packetizer f)
    view_own f same =
        let kept = are_kept forwarder.settings.codec own plain.of_codec plain.no_ids in
        let codec : forwarder.settings.codec ≡ f.settings.codec = sym (ap (λ (x : ForwardSettings). x.codec) same) in
        moved_view f Own (λ p is. (
          subst (λ (c : Codec). keeps_payloads c p ≡ true) codec (subst (λ (q : PacketizerState). keeps_payloads forwarder.settings.codec q ≡ true) (sym is) kept.0),
          subst (λ (c : Codec). keeps_packetizer c p ≡ true) codec (subst (λ (q : PacketizerState). keeps_packetizer forwarder.settings.codec q ≡ true) (sym is) plain.of_codec),
        ))

    same_own : (f h : Forward) → f.settings ≡ forwarder.settings → h.settings ≡ forwarder.settings → (p q : PacketizerState) → p ≡ first.packetizer → q ≡ first.packetizer
        → viewer_packetizer f p ≡ viewer_packetizer h q
    same_own f h one_is two_is p q one two = ap (viewer_packetizer f) one ∙ (none_moved f ∙ (sym (none_moved h) ∙ ap (viewer_packetizer h) (sym two)))

    abbrev plain_left : Sending
    plain_left = left Own stays_own refl plain.packetizer viewer_packetizer view_own same_own

    abbrev plain_saw : Wire
    plain_saw = saw Own stays_own refl plain.packetizer viewer_packetizer view_own same_own

    -- from a number with the low bits of the first one on
    plain_sends : SendsFrom all steps (sender_viewed stream.number (begins_switching first second forwarder receiver)) receiver (wire_of xs)
    plain_sends first_number small same =
        let v : Sending = sender in
        let buffer : State = receiver.packets.buffer in
        let runs : SendsRun buffer v.stream v.mtu first_number 0 all steps (begins v receiver) plain_saw [] =
        sends_run buffer v.stream v.mtu first_number small all None 0 steps (begins v receiver) plain_saw []
        (record { mtu = refl; built_in = ap is_built_in (none_moved forwarder) ∙ built; kept = refl; number = same; reads = tt; numbered = tt; few = omega arith })
        (goes Own stays_own refl plain.packetizer viewer_packetizer view_own same_own) in
        let begun : RunState = running buffer first_number rate v [] in
        let ended : RunState = running buffer first_number rate plain_left runs.all in
        let sends : List Step = sending_steps v.mtu steps in
        record {
          all = runs.all;
          reads = runs.at.reads;
          numbered = runs.at.numbered;
          few = runs.at.few;
          times = runs.times ∙ ap (times_sent rate all steps) (sym runs.sends_are);
          end = plain_left;
          stream = streams plainly all 0 sends begun ended runs.entries []
              (unused_exactly all sends begun runs.entries [] ended (unused Own stays_own refl plain.packetizer (none_moved forwarder) first_number) runs.runs);
        }

    -- the units are those of the samples
    same_units : (source : Source) (ys : List Sent)
        → units_of_sent first.packetizer first.mtu ys
        ≡ units_of_sent (sender_of source (begins_switching first second forwarder receiver)).packetizer (sender_of source (begins_switching first second forwarder receiver)).mtu ys
    same_units sources.First ys = refl
    same_units sources.Second ys =
        ap (λ (p : PacketizerState). units_of_sent p first.mtu ys) (sym plain.packetizer) ∙ ap (λ (m : ℕ). units_of_sent second.packetizer m ys) (sym within.alike.mtu)

    plain_units : units_of_run (viewer_packetizer forwarder first.packetizer) all (sending_steps first.mtu steps) ≡ units_in_all samples all_steps s t (stretches_in stream.viewed)
    plain_units =
        ap (λ (p : PacketizerState). units_of_run p all (sending_steps first.mtu steps)) (none_moved forwarder)
        ∙ (units_sent own first.mtu all all xs 0 steps_seen plain.no_ids index_all seen
        ∙ (ap (λ (ss : List Step). units_of_sent own first.mtu xs ++ units_of_run own all ss) (sends_none first.mtu no_stretch (events_of samples all_steps t) [])
        ∙ (append-nil (units_of_sent own first.mtu xs)
        ∙ units_all samples all_steps first second forwarder receiver t run within.alike within.widths number own same_units (stretches_in vs))))

    pub plain_released : ReleasesStretches samples all_steps (begins_switching first second forwarder receiver) t
    plain_released =
        released_by Own stays_own refl plain.packetizer (none_moved forwarder) (takes Own stays_own refl plain.packetizer viewer_packetizer view_own same_own) plain_sends plain_units

  -- They send picture ids of VP8

  module _ (ids : SendPictureIds forwarder.settings.codec first second) where
    ids_moved : viewer_packetizer forwarder first.packetizer ≡ first.packetizer
    ids_moved = ap (λ (c : Codec). moved_packetizer c forwarder.ids.offsets first.packetizer) ids.codec_is

    has_first : HasId first.packetizer
    has_first = (ids.first_id, ids.first_is)

    has_second : HasId second.packetizer
    has_second = (ids.second_id, ids.second_is)

    abbrev vp8 : ℕ → PacketizerState
    vp8 id = Vp8Packetizing (Some id)

    own_is : viewer_packetizer forwarder first.packetizer ≡ Vp8Packetizing (Some ids.first_id)
    own_is = ids_moved ∙ ids.first_is

    of_codec : IsOfCodec receiver.packets.buffer
    of_codec =
        let u = unused HasId id_stays has_first has_second ids_moved 0 in
        ap is_codec u.alike ∙ codec_payloads (viewer_packetizer forwarder own) u.built_in

    module _ (first_number : ℕ) (small : first_number < 2 ^ 63) (same : (sender_viewed stream.number (begins_switching first second forwarder receiver)).stream.number % 2 ^ 16 ≡ (first_number + 0) % 2 ^ 16) where
      same_low : stream.number % 65536 ≡ first_number % 65536
      same_low = omega (arith, same)

      parts : PartsOn samples all_steps first second forwarder receiver t run within.alike within.widths stream.number ids.codec_is ids.room has_first has_second all receiver.packets.buffer of_codec first_number small same_low 0
          stream.viewed []
      parts =
          parts_on samples all_steps first second forwarder receiver t run within.alike within.widths number ids.codec_is ids.room has_first has_second all receiver.packets.buffer of_codec first_number small same_low 0 vs []
          [] tt tt (omega arith) stream.all (sends HasId id_stays has_first has_second) index_all
          (omega (
            arith,
            few,
            raw_count samples all_steps first second forwarder receiver t run within.alike within.widths number ids.codec_is ids.room has_first has_second all receiver.packets.buffer of_codec first_number small same_low vs,
          ))

      abbrev begun : PacketizerState → List Packet → RunState
      begun packetizer packets = run_state (record { packetizer = packetizer; clock_rate = rate }) receiver.packets.buffer (record { first = first_number; packets = packets })

      all_streams : Streams all (sending_steps first.mtu steps) (begun (viewer_packetizer forwarder first.packetizer) []) (begun (viewer_packetizer forwarder first.packetizer) parts.moved)
      all_streams =
          let sends_are : sending_steps first.mtu (send_each 0 xs) ≡ sending_steps first.mtu steps = sym (sends_both first.mtu) in
          let plainly_sent : Streams all (sending_steps first.mtu (send_each 0 xs)) (begun (vp8 ids.first_id) []) (begun (vp8 ids.first_id) parts.moved) = record {
            units = parts.units;
            canonical = parts.canonical ids.first_id;
            gained = sym parts.packets;
            lawful = λ _. parts.lawful;
            one_time = parts.one_time;
            numbered = subst (AreNumbered (first_number + 0)) (sym parts.packets) parts.numbered;
            ids = parts.ids;
            few = λ _. omega (arith, parts.few);
            first = refl;
            values = λ video. parts.values ids.first_id;
          } in
          subst (λ (ss : List Step). Streams all ss (begun (viewer_packetizer forwarder first.packetizer) []) (begun (viewer_packetizer forwarder first.packetizer) parts.moved)) sends_are
          (subst (λ (p : PacketizerState). Streams all (sending_steps first.mtu (send_each 0 xs)) (begun p []) (begun p parts.moved)) (sym own_is) plainly_sent)

      all_times : times_sent rate all (send_each 0 xs) entries ≡ times_sent rate all steps entries
      all_times =
          sym (append-nil (times_sent rate all (send_each 0 xs) entries))
          ∙ (ap (λ (ts : List ℕ). times_sent rate all (send_each 0 xs) entries ++ ts) (sym (times_none rate all no_stretch (events_of samples all_steps t) []))
          ∙ (sym (times_joined rate all all xs 0 steps_seen [] index_all seen) ∙ ap (times_sent rate all steps) (append-nil entries)))

    ids_sends : SendsFrom all steps (sender_viewed stream.number (begins_switching first second forwarder receiver)) receiver (wire_of xs)
    ids_sends first_number small same =
        let p = parts first_number small same in
        record {
          all = p.moved;
          reads = p.reads;
          numbered = subst (λ (n : ℕ). AreNumbered n p.moved) (omega arith) p.numbered;
          few = omega (arith, p.few);
          times = p.times ∙ all_times first_number small same;
          end = sender;
          stream = all_streams first_number small same;
        }

    same_with_ids : (source : Source) (ys : List Sent)
        → units_of_sent (Vp8Packetizing (Some ids.first_id)) first.mtu ys
        ≡ units_of_sent (sender_of source (begins_switching first second forwarder receiver)).packetizer (sender_of source (begins_switching first second forwarder receiver)).mtu ys
    same_with_ids sources.First ys = ap (λ (p : PacketizerState). units_of_sent p first.mtu ys) (sym ids.first_is)
    same_with_ids sources.Second ys =
        sent_other ids.first_id ids.second_id first.mtu ys ids.room
        ∙ (ap (λ (p : PacketizerState). units_of_sent p first.mtu ys) (sym ids.second_is) ∙ ap (λ (m : ℕ). units_of_sent second.packetizer m ys) (sym within.alike.mtu))

    ids_units : units_of_run (viewer_packetizer forwarder first.packetizer) all (sending_steps first.mtu steps) ≡ units_in_all samples all_steps s t (stretches_in stream.viewed)
    ids_units =
        ap (λ (p : PacketizerState). units_of_run p all (sending_steps first.mtu steps)) own_is
        ∙ (ap (units_of_run (vp8 ids.first_id) all) (sends_both first.mtu)
        ∙ (units_with_ids first.mtu ids.room all ids.first_id ids.first_id all xs 0 index_all seen
        ∙ units_all samples all_steps first second forwarder receiver t run within.alike within.widths number (vp8 ids.first_id) same_with_ids (stretches_in vs)))

    pub ids_released : ReleasesStretches samples all_steps (begins_switching first second forwarder receiver) t
    ids_released =
        released_by HasId id_stays has_first has_second ids_moved
        (takes HasId id_stays has_first has_second (λ f. unknown) (λ f is. unknown_view f HasId) (λ f h one_is two_is p q one two. refl)) ids_sends ids_units

  pub released : SendNoIds forwarder.settings.codec first second ⊎ SendPictureIds forwarder.settings.codec first second → ReleasesStretches samples all_steps (begins_switching first second forwarder receiver) t
  released (inl plain) = plain_released plain
  released (inr ids) = ids_released ids

pub release_all_stretches : ReleaseAllStretches
release_all_stretches samples all_steps first second forwarder receiver t run within = released samples all_steps first second forwarder receiver t run within within.alike.format
