-- The units that a viewer's receiver releases in a run with one switch, from the theorem of runs over one hop.
use Rattle.std.proofs.Common.{◌≡◌, ◌∙◌, refl, sym, ap, subst, ℕ, zero, suc, ◌+◌, ◌-◌, ◌%◌, ◌^◌, ◌<◌, ◌≤◌, List, [], ◌∷◌, ◌++◌, inl, inr, append-nil, length-append, true, false, Option, Some, None, drop, length, map, arith}
use Rattle.std.specs.Prelude.{◌⊎◌, take}
use Rattle.std.proofs.Math.Seq.{drop-length, take-append_seam}
use Rattle.std.proofs.lemmas.List.{length-drop, length-map}
use Rattle.codec_payload_base.specs.declared.wire.Codec.{Codec}
use Rattle.codec_payload_base.specs.declared.wire.Codec.TheVariants as codecs
use Rattle.codec_payload_buffer.specs.Steps.{State}
use Rattle.codec_payload_buffer_runs.proofs.units.BuiltInRuns.{IsOfCodec, plainly, unused_exactly}
use Rattle.codec_payload_buffer_runs.proofs.units.StreamLemmas.{Streams, streams}
use Rattle.codec_payload_buffer_runs.specs.Headline.{IsUnused}
use Rattle.codec_payload_buffer_runs.specs.Schedule.{RunState, run_state}
use Rattle.codec_payload_buffer_runs.specs.SentStream.{AreReadable, units_of_run}
use Rattle.codec_payload_buffer_runs.specs.declared.run.Step.{Step}
use Rattle.codec_payload_codec.specs.Depacketizers.{is_codec}
use Rattle.codec_payload_codec.specs.Packetizers.{PacketizerState, Vp8Packetizing, is_built_in, payloads_by}
use Rattle.codec_payload_codec.proofs.CodecLemmas.{codec_payloads}
use Rattle.codec_payload_payloader.specs.Packets.{AreNumbered, Packet}
use Rattle.codec_payload_datagrams.specs.declared.kinds.Retransmission.{Retransmission}
use Rattle.codec_payload_payloader.specs.Sending.{Sample}
use Rattle.codec_payload_receiver.specs.Defaults.{no_ids}
use Rattle.codec_payload_receiver.specs.Sessions.{Session}
use Rattle.codec_payload_sending.specs.Senders.{Sending}
use Rattle.codec_payload_sending.specs.declared.sender.Outgoing.{Outgoing}
use Rattle.codec_payload_sending_forward.specs.Forwarding.{Forward}
use Rattle.codec_payload_sending_forward.specs.declared.forwarder.ForwardSettings.{ForwardSettings}
use Rattle.codec_payload_datagram_runs.proofs.Courses.{Proceeds, proceeds}
use Rattle.codec_payload_datagram_runs.proofs.ReleaseLemmas.{SendsFrom, keeps_all, starts_unused, takes_of}
use Rattle.codec_payload_datagram_runs.proofs.SendingLemmas.{SendsRun, running, same_count, sends_run}
use Rattle.codec_payload_datagram_runs.proofs.StepLemmas.{Takes}
use Rattle.codec_payload_datagram_runs.specs.Releases.{AreDatagrams, AreOfOneStream, ComeTimely, ComeWithin, IsWithinWindows, delivered, is_sent_again_by, received_steps, sending_steps, times_sent}
use Rattle.codec_payload_datagram_runs.specs.WireLogs.{KeepsPromises}
use Rattle.codec_payload_datagram_runs.specs.WireRuns.{Runs, Wire, begins}
use Rattle.codec_payload_datagram_runs.specs.declared.run.DatagramStep.{DatagramStep}
use Rattle.codec_payload_datagram_runs.specs.declared.run.SentSample.{SentSample}
use Rattle.codec_payload_forward_runs.proofs.LeaveLemmas.{are_kept}
use Rattle.codec_payload_forward_runs.proofs.LeaveStreams.{datagrams_append, packet_times, times_in}
use Rattle.codec_payload_forward_runs.proofs.MovedStreams.{moved_packets}
use Rattle.codec_payload_forward_runs.proofs.SenderLemmas.{IsView, View, map_append, moved_view, same_view, seen_sender, unchanged, unknown, unknown_view, without_ids}
use Rattle.codec_payload_forward_runs.proofs.SourceLemmas.{AllOf}
use Rattle.codec_payload_forward_runs.proofs.SwitchEvents.{viewer_of}
use Rattle.codec_payload_forward_runs.proofs.SwitchIds.{HasId, Part, id_stays, joined, part, sent_other, units_with_ids}
use Rattle.codec_payload_forward_runs.proofs.SwitchLemmas.{all_became, happened}
use Rattle.codec_payload_forward_runs.proofs.SwitchSamples.{AreSeen, SentReadable, above_readable, below_readable, moved_none, readable_append, received_sent, seen_both, seen_moved, seen_readable, sending_append, sent_readable, times_joined, units_append, units_sent}
use Rattle.codec_payload_forward_runs.proofs.SwitchSenders.{Alike, AreAtIndex, SendsPart, at_index, each_append, runs_append, send_part}
use Rattle.codec_payload_forward_runs.proofs.SwitchSent.{Back, Front, HasSent, Made, SendsAll, Stays, all_count, back, front, made, own_good, state_of, total}
use Rattle.codec_payload_forward_runs.proofs.SwitchStreams.{write_one_stream}
use Rattle.codec_payload_forward_runs.proofs.SwitchViews.{Views, cut_within, join, received_all, sends_none, start_within, times_none, viewed, views_all, written_at}
use Rattle.codec_payload_forward_runs.proofs.ViewerReleases.{reads_moved, times_moved}
use Rattle.codec_payload_forward_runs.specs.ForwardReleases.{keeps_packetizer, keeps_payloads, moved_packetizer, viewer_datagram, viewer_packetizer, viewer_samples, viewer_sender, viewer_stream}
use Rattle.codec_payload_forward_runs.specs.LeaveReleases.{AreAt}
use Rattle.codec_payload_forward_runs.specs.SwitchReleases.{Writing, events_of}
use Rattle.codec_payload_forward_runs.specs.SwitchRuns.{SwitchRuns, Switched, begins_switching}
use Rattle.codec_payload_forward_runs.specs.SwitchUnits.{IsSwitchedWithinWindows, OneStreamOf, ReleaseSwitching, ReleasesSwitched, SendNoIds, SendPictureIds, Sent, cut_in, entries_in, first_sent, places_of, samples_in, second_sent, send_each, sent_after_switch, sent_before_switch, sent_in, start_in, stream_datagrams, stream_samples, stream_sends, stream_steps, stream_wire, units_of_sent, viewed_steps_of, writings_of}
use Rattle.codec_payload_forward_runs.specs.declared.switch_run.Source.TheVariants as sources
use Rattle.codec_payload_forward_runs.specs.declared.switch_run.SwitchStep.{SwitchStep}

-- whether packets are retransmissions depends on the SSRC and the payload type alone
pub again_by : (o : Option Retransmission) (rate number other_number : ℕ) (settings other : ForwardSettings) → settings ≡ other
    → is_sent_again_by o (record { ssrc = settings.ssrc; payload_type = settings.payload_type; clock_rate = rate; ids = no_ids; number = number })
    ≡ is_sent_again_by o (record { ssrc = other.ssrc; payload_type = other.payload_type; clock_rate = rate; ids = no_ids; number = other_number })
again_by None rate number other_number settings other same = refl
again_by (Some r) rate number other_number settings other same =
    ap (λ (x : ForwardSettings). is_sent_again_by (Some r) (record { ssrc = x.ssrc; payload_type = x.payload_type; clock_rate = rate; ids = no_ids; number = number })) same

-- the stream of a source, as the viewer gets it
pub same_stream : (settings other : ForwardSettings) (rate other_rate number other_number : ℕ) → settings ≡ other → rate ≡ other_rate → number ≡ other_number
    → ◌≡◌ {A = Outgoing} (record { ssrc = settings.ssrc; payload_type = settings.payload_type; clock_rate = rate; ids = no_ids; number = number })
    (record { ssrc = other.ssrc; payload_type = other.payload_type; clock_rate = other_rate; ids = no_ids; number = other_number })
same_stream settings other rate other_rate number other_number one two three =
    ap (λ (x : ForwardSettings). record { ssrc = x.ssrc; payload_type = x.payload_type; clock_rate = rate; ids = no_ids; number = number }) one
    ∙ (ap (λ (r : ℕ). record { ssrc = other.ssrc; payload_type = other.payload_type; clock_rate = r; ids = no_ids; number = number }) two
    ∙ ap (λ (n : ℕ). record { ssrc = other.ssrc; payload_type = other.payload_type; clock_rate = other_rate; ids = no_ids; number = n }) three)

all_left : (ssrc : ℕ) (codec : Codec) (xs ys : List (List ℕ)) → AllOf false ssrc codec (xs ++ ys) → AllOf false ssrc codec xs
all_left ssrc codec [] ys of = tt
all_left ssrc codec (x ∷ xs) ys of = (of.0, all_left ssrc codec xs ys of.1)

pub all_right : (ssrc : ℕ) (codec : Codec) (n : ℕ) (xs : List (List ℕ)) → AllOf false ssrc codec xs → AllOf false ssrc codec (drop n xs)
all_right ssrc codec zero xs of = of
all_right ssrc codec (suc n) [] of = tt
all_right ssrc codec (suc n) (x ∷ xs) of = all_right ssrc codec n xs of.1

pub total_append : (xs ys : List Sent) → total (xs ++ ys) ≡ total xs + total ys
total_append [] ys = omega arith
total_append (x ∷ xs) ys = omega (arith, total_append xs ys)

module _ (samples : List Sample) (all_steps : List SwitchStep) (first second : Sending) (forwarder : Forward) (receiver : Session) (t : Switched)
    (run : SwitchRuns samples all_steps (begins_switching first second forwarder receiver) t)
    (within : IsSwitchedWithinWindows samples all_steps (begins_switching first second forwarder receiver) t) where
  abbrev s : Switched
  s = begins_switching first second forwarder receiver

  abbrev own : PacketizerState
  own = first.packetizer

  abbrev rate : ℕ
  rate = first.stream.clock_rate

  abbrev ws : List Writing
  ws = writings_of samples all_steps t

  abbrev cut : ℕ
  cut = cut_in samples all_steps t

  abbrev start : ℕ
  start = start_in samples all_steps t

  abbrev firsts : List Sent
  firsts = sent_before_switch samples all_steps t

  abbrev seconds : List Sent
  seconds = sent_after_switch samples all_steps t

  abbrev steps : List DatagramStep
  steps = stream_steps samples all_steps t

  abbrev entries : List SentSample
  entries = stream_sends samples all_steps t

  -- The stream

  stream : OneStreamOf samples all_steps (begins_switching first second forwarder receiver) t
  stream = write_one_stream samples all_steps first second forwarder receiver t run within.two within.once

  abbrev before : Forward
  before = stream.before

  abbrev after : Forward
  after = stream.after

  low : cut_in samples all_steps t ≤ length t.hops.wire.datagrams
  low = cut_within t.hops.wire.datagrams t.datagrams before after stream.number cut start ws t.hops.written stream.in_place

  from : start_in samples all_steps t ≤ length t.datagrams
  from = start_within t.hops.wire.datagrams t.datagrams before after stream.number cut start ws t.hops.written stream.in_place

  abbrev datagrams : List (List ℕ)
  datagrams = stream_datagrams cut start before after t.hops.wire.datagrams t.datagrams

  written : AreAt (stream_datagrams (cut_in samples all_steps t) (start_in samples all_steps t) stream.before stream.after t.hops.wire.datagrams t.datagrams) t.hops.written
      (places_of (cut_in samples all_steps t) (start_in samples all_steps t) (writings_of samples all_steps t))
  written = written_at t.hops.wire.datagrams t.datagrams before after stream.number cut start ws t.hops.written low stream.in_place

  joins : (first.stream.number + cut_in samples all_steps t + stream.before.numbers.offset) % 65536 ≡ (second.stream.number + start_in samples all_steps t + stream.after.numbers.offset) % 65536
  joins =
      let became = all_became samples all_steps first second forwarder receiver t run in
      join t.hops.wire.datagrams t.datagrams before after stream.number cut start first.stream.number second.stream.number became.sources_are.first_from.numbers became.sources_are.second_from.numbers
      ws t.hops.written stream.in_place within.once.begun

  -- The settings of the forwarder stay

  fits_type : (f : Forward) → f.settings ≡ forwarder.settings → f.settings.payload_type < 128
  fits_type f same = subst (λ (x : ForwardSettings). x.payload_type < 128) (sym same) within.widths.payload_type

  fits_ssrc : (f : Forward) → f.settings ≡ forwarder.settings → f.settings.ssrc < 2 ^ 32
  fits_ssrc f same = subst (λ (x : ForwardSettings). x.ssrc < 2 ^ 32) (sym same) within.widths.ssrc

  -- What the sources send

  first_all : SendsAll (first_sent samples all_steps t) first [] t.hops.wire.sending t.hops.wire.datagrams
  first_all =
      let m : Made samples sources.First all_steps (state_of sources.First s) (state_of sources.First t) = made samples sources.First all_steps s t run in
      subst (λ (es : List SentSample). SendsAll (sent_in sources.First samples all_steps es) first [] t.hops.wire.sending t.hops.wire.datagrams) (sym m.sends) m.all

  second_all : SendsAll (second_sent samples all_steps t) second [] t.second t.datagrams
  second_all =
      let m : Made samples sources.Second all_steps (state_of sources.Second s) (state_of sources.Second t) = made samples sources.Second all_steps s t run in
      subst (λ (es : List SentSample). SendsAll (sent_in sources.Second samples all_steps es) second [] t.second t.datagrams) (sym m.sends) m.all

  abbrev all : List Sample
  all = stream_samples samples all_steps rate before after t

  abbrev both : List Sent
  both = firsts ++ seconds

  index_first : AreAtIndex (stream_samples samples all_steps rate stream.before stream.after t) 0 (viewer_samples stream.before rate (samples_in (sent_before_switch samples all_steps t)))
  index_first = at_index all [] (viewer_samples before rate (samples_in firsts)) (viewer_samples after rate (samples_in seconds)) refl

  index_second : AreAtIndex (stream_samples samples all_steps rate stream.before stream.after t) (length (sent_before_switch samples all_steps t)) (viewer_samples stream.after rate (samples_in (sent_after_switch samples all_steps t)))
  index_second =
      let xs : List Sample = viewer_samples before rate (samples_in firsts) in
      let ys : List Sample = viewer_samples after rate (samples_in seconds) in
      let long : length xs ≡ length firsts = length-map (samples_in firsts) _ ∙ length-map firsts _ in
      subst (λ (n : ℕ). AreAtIndex all n ys) long (at_index all xs ys [] (ap (λ (zs : List Sample). xs ++ zs) (sym (append-nil ys))))

  index_all : AreAtIndex (stream_samples samples all_steps rate stream.before stream.after t) 0 (stream_samples samples all_steps rate stream.before stream.after t)
  index_all = at_index all [] all [] (sym (append-nil all))

  seen : AreSeen (stream_samples samples all_steps rate stream.before stream.after t) (sent_before_switch samples all_steps t ++ sent_after_switch samples all_steps t)
  seen = seen_both before after rate firsts seconds

  -- The steps of the run over one hop

  parts : send_each 0 both ≡ send_each 0 (sent_before_switch samples all_steps t) ++ send_each (length (sent_before_switch samples all_steps t)) (sent_after_switch samples all_steps t)
  parts = each_append 0 firsts seconds ∙ ap (λ (n : ℕ). send_each 0 firsts ++ send_each n seconds) (omega arith)

  sends_both : (mtu : ℕ) → sending_steps mtu steps ≡ sending_steps mtu (send_each 0 both)
  sends_both mtu =
      sending_append mtu (send_each 0 both) (viewed_steps_of samples all_steps t)
      ∙ (ap (λ (ss : List Step). sending_steps mtu (send_each 0 both) ++ ss) (sends_none mtu cut start (events_of samples all_steps t) []) ∙ append-nil (sending_steps mtu (send_each 0 both)))

  -- What is known of the packetizers

  module _ (good : PacketizerState → Type 0) (stays : Stays good) (good_first : good first.packetizer) (good_second : good second.packetizer) where
    ahead : Front good stays first (cut_in samples all_steps t) (sent_before_switch samples all_steps t) first [] t.hops.wire.datagrams
    ahead =
        let has : HasSent good stays first first [] = record { packetizer = good_first; mtu = refl; stream = refl; number = omega arith } in
        front good stays first cut 0 (first_sent samples all_steps t) first t.hops.wire.sending [] t.hops.wire.datagrams refl (omega arith) low within.between.first has first_all

    behind : Back good stays second (start_in samples all_steps t) (sent_after_switch samples all_steps t) t.second t.datagrams
    behind =
        let has : HasSent good stays second second [] = record { packetizer = good_second; mtu = refl; stream = refl; number = omega arith } in
        back good stays second start 0 (second_sent samples all_steps t) second t.second [] t.datagrams refl (omega arith) from within.between.second has second_all

    taken : take (cut_in samples all_steps t) t.hops.wire.datagrams ≡ ahead.more
    taken = ap (take cut) ahead.rest.1 ∙ (ap (λ (n : ℕ). take n (ahead.more ++ ahead.rest.0)) (sym ahead.size) ∙ take-append_seam ahead.more ahead.rest.0)

    none_yet : drop (start_in samples all_steps t) behind.more ≡ []
    none_yet = ap (λ (n : ℕ). drop n behind.more) (sym behind.size) ∙ drop-length behind.more

    size : length datagrams ≡ cut_in samples all_steps t + (length t.datagrams - start_in samples all_steps t)
    size =
        let one : length (map (viewer_datagram before) (take cut t.hops.wire.datagrams)) ≡ cut = ap (λ (ds : List (List ℕ)). length (map (viewer_datagram before) ds)) taken ∙ (length-map ahead.more (viewer_datagram before) ∙ ahead.size) in
        let two : length (map (viewer_datagram after) (drop start t.datagrams)) ≡ length t.datagrams - start = length-map (drop start t.datagrams) (viewer_datagram after) ∙ length-drop start t.datagrams in
        length-append (map (viewer_datagram before) (take cut t.hops.wire.datagrams)) (map (viewer_datagram after) (drop start t.datagrams)) ∙ omega (arith, one, two)

    count : total both ≡ length datagrams
    count = total_append firsts seconds ∙ omega (arith, size, all_count firsts first ahead.mid [] ahead.more ahead.sends, ahead.size, all_count seconds behind.mid t.second behind.more t.datagrams behind.sends, behind.size, from)

    abbrev front_shown : List (List ℕ)
    front_shown = map (viewer_datagram before) ahead.more

    whole_shown : (map (viewer_datagram stream.before) ahead.more ++ map (viewer_datagram stream.after) (drop (start_in samples all_steps t) t.datagrams)) ≡ datagrams
    whole_shown = ap (λ (ds : List (List ℕ)). map (viewer_datagram before) ds ++ map (viewer_datagram after) (drop start t.datagrams)) (sym taken)

    -- what the receiver gets
    received : received_steps all 0 steps entries ≡ viewed_steps_of samples all_steps t
    received =
        received_sent all all both 0 0 (viewed_steps_of samples all_steps t) index_all seen
        ∙ (ap (λ (n : ℕ). received_steps all n (viewed_steps_of samples all_steps t) []) (omega (arith, count))
        ∙ received_all all cut start (length datagrams) datagrams t.hops.written (events_of samples all_steps t) refl written)

    -- The numbers of the second source go on from those of the first
    number_on : (ahead.mid.stream.number + stream.before.numbers.offset) % 65536 ≡ (behind.mid.stream.number + stream.after.numbers.offset) % 65536
    number_on = omega (arith, joins, ahead.has.number, ahead.size, behind.has.number, behind.size)

    -- A sender of the viewer's stream, by a view of its packetizers

    module _ (view : Forward → View) (is_view : (f : Forward) → f.settings ≡ forwarder.settings → IsView f good (view f))
        (same : (p q : PacketizerState) → good p → good q → view stream.before p ≡ view stream.after q) where
      abbrev seen_first : Sending
      seen_first = seen_sender (view before) before first

      part_one : SendsPart before (fits_type before stream.before_settings) (fits_ssrc before stream.before_settings) rate within.widths.clock_rate good stays (view before) (is_view before stream.before_settings) first refl [] 0
          receiver all firsts 0 seen_first ahead.mid [] ahead.more []
      part_one =
          let has : HasSent good stays first first [] = record { packetizer = good_first; mtu = refl; stream = refl; number = omega arith } in
          send_part before (fits_type before stream.before_settings) (fits_ssrc before stream.before_settings) rate within.widths.clock_rate good stays (view before) (is_view before stream.before_settings) first refl [] 0
          receiver all firsts 0 seen_first first ahead.mid [] ahead.more [] index_first has (omega arith) (record { packetizer = refl; mtu = refl; stream = refl }) ahead.sends
          (omega (arith, length-map ahead.more (viewer_datagram before), ahead.size, within.few))

      -- it goes on as the sender of the second source
      goes_over : Alike part_one.left (seen_sender (view stream.after) stream.after behind.mid)
      goes_over = record {
        packetizer = part_one.alike.packetizer ∙ same ahead.mid.packetizer behind.mid.packetizer ahead.has.packetizer behind.has.packetizer;
        mtu = part_one.alike.mtu ∙ (ahead.has.mtu ∙ (sym within.alike.mtu ∙ sym behind.has.mtu));
        stream = part_one.alike.stream
            ∙ same_stream before.settings after.settings ahead.mid.stream.clock_rate behind.mid.stream.clock_rate _ _ (stream.before_settings ∙ sym stream.after_settings)
            (ap (λ (o : Outgoing). o.clock_rate) ahead.has.stream ∙ (sym within.alike.clock_rate ∙ sym (ap (λ (o : Outgoing). o.clock_rate) behind.has.stream))) number_on;
      }

      part_two : SendsPart after (fits_type after stream.after_settings) (fits_ssrc after stream.after_settings) rate within.widths.clock_rate good stays (view after) (is_view after stream.after_settings) second
          within.alike.clock_rate front_shown start receiver all seconds (length firsts) part_one.left t.second behind.more t.datagrams (entries_in firsts)
      part_two =
          send_part after (fits_type after stream.after_settings) (fits_ssrc after stream.after_settings) rate within.widths.clock_rate good stays (view after) (is_view after stream.after_settings) second
          within.alike.clock_rate front_shown start receiver all seconds (length firsts) part_one.left behind.mid t.second behind.more t.datagrams (entries_in firsts)
          index_second behind.has (omega (arith, behind.size)) goes_over behind.sends (omega (arith, ap length whole_shown, size, within.few))

      abbrev left : Sending
      left = part_two.left

      -- a run in which nothing was delivered yet
      abbrev alone : Sending → List (List ℕ) → List SentSample → Wire
      alone v ds es = record { sending = v; session = receiver; datagrams = ds; sends = es; receipts = []; pops = [] }

      sent_all : Runs all (send_each 0 both) (begins seen_first receiver) (alone left datagrams entries)
      sent_all =
          let seam : front_shown ++ map (viewer_datagram after) (drop start behind.more) ≡ front_shown =
          ap (λ (ds : List (List ℕ)). front_shown ++ map (viewer_datagram after) ds) none_yet ∙ append-nil front_shown in
          let two : Runs all (send_each (length firsts) seconds) (alone part_one.left front_shown (entries_in firsts)) (alone left datagrams entries) =
          subst (λ (ds : List (List ℕ)). Runs all (send_each (length firsts) seconds) (alone part_one.left ds (entries_in firsts)) (alone left datagrams entries)) seam
          (subst (λ (ds : List (List ℕ)). Runs all (send_each (length firsts) seconds) (alone part_one.left (front_shown ++ map (viewer_datagram after) (drop start behind.more)) (entries_in firsts)) (alone left ds entries)) whole_shown
          (subst (λ (es : List SentSample).
          Runs all (send_each (length firsts) seconds) (alone part_one.left (front_shown ++ map (viewer_datagram after) (drop start behind.more)) (entries_in firsts))
          (alone left (front_shown ++ map (viewer_datagram after) (drop start t.datagrams)) es))
          (sym (map_append (λ (x : Sent). x.entry) firsts seconds)) part_two.runs)) in
          subst (λ (ss : List DatagramStep). Runs all ss (begins seen_first receiver) (alone left datagrams entries)) (sym parts)
          (runs_append all (send_each 0 firsts) (send_each (length firsts) seconds) (begins seen_first receiver) (alone part_one.left front_shown (entries_in firsts)) (alone left datagrams entries) part_one.runs two)

      views_it : Views all t.hops.wire.datagrams t.datagrams cut start left datagrams entries (events_of samples all_steps t) [] (viewer_of s.hops) (viewer_of t.hops) []
      views_it = views_all all t.hops.wire.datagrams t.datagrams cut start left datagrams entries (events_of samples all_steps t) (viewer_of s.hops) (viewer_of t.hops) refl written
          (happened samples all_steps first second forwarder receiver t run)

      -- the run over one hop
      abbrev saw : Wire
      saw = viewed all t.hops.wire.datagrams t.datagrams cut start left datagrams entries (viewer_of t.hops) views_it.end

      course : Runs all steps (begins seen_first receiver) saw
      course = runs_append all (send_each 0 both) (viewed_steps_of samples all_steps t) (begins seen_first receiver) (alone left datagrams entries) saw sent_all views_it.runs

      goes : Proceeds None all steps (begins seen_first receiver) saw
      goes = proceeds None all steps (begins seen_first receiver) saw course

      takes : Takes None (received_steps all 0 steps entries) datagrams receiver t.hops.wire.pops t.hops.wire.session
      takes = takes_of None all steps seen_first receiver saw goes

    -- The premises of the run over one hop, if ids of the first packetizer are not moved

    module _ (moved : (f : Forward) → f.settings ≡ forwarder.settings → viewer_packetizer f first.packetizer ≡ first.packetizer) where
      abbrev sender : Sending
      sender = viewer_sender before first

      abbrev whole_run : Wire
      whole_run = stream_wire samples all_steps before after t

      one_stream : AreOfOneStream (viewer_sender stream.before first) within.settings within.depacketizer
      one_stream =
          let same : before.settings ≡ forwarder.settings = stream.before_settings in
          let packetizer : viewer_packetizer forwarder own ≡ viewer_packetizer before own = moved forwarder refl ∙ sym (moved before same) in
          record {
            built_in = sym (ap is_built_in packetizer) ∙ within.one_stream.built_in;
            alike = within.one_stream.alike ∙ ap payloads_by packetizer;
            nothing_read = within.one_stream.nothing_read;
            clock_rate = within.one_stream.clock_rate;
            payload_type = within.one_stream.payload_type ∙ sym (ap (λ (x : ForwardSettings). x.payload_type) same);
            not_rtcp = subst (λ (x : ForwardSettings). (x.payload_type < 64) ⊎ (95 < x.payload_type)) (sym same) within.one_stream.not_rtcp;
            ssrc = within.one_stream.ssrc ∙ sym (ap (λ (x : ForwardSettings). Some x.ssrc) same);
            not_again = again_by within.settings.retransmission rate _ _ before.settings forwarder.settings same ∙ within.one_stream.not_again;
            drops_none = within.one_stream.drops_none;
          }

      is_within : IsWithinWindows all steps (viewer_sender stream.before first) receiver entries
      is_within =
          let readable : SentReadable own both = readable_append own firsts seconds
          (below_readable own cut 0 (first_sent samples all_steps t) (sent_readable own samples within.readable sources.First all_steps t.hops.wire.sends))
          (above_readable own start 0 (second_sent samples all_steps t) (sent_readable own samples within.readable sources.Second all_steps t.sends)) in
          record {
            settings = within.settings;
            depacketizer = within.depacketizer;
            new = within.new;
            one_stream = one_stream;
            readable = subst (λ (p : PacketizerState). AreReadable p all) (sym (moved before stream.before_settings)) (seen_readable own all both seen readable);
            within = subst (λ (ss : List DatagramStep). ComeWithin within.settings.forward within.settings.backward (delivered ss)) (sym received) within.within;
            timely = subst (λ (ss : List DatagramStep). ComeTimely rate (times_sent rate all steps entries) (delivered ss)) (sym received) (within.timely stream);
          }

      unused : (first_number : ℕ) → IsUnused (running receiver.packets.buffer first_number rate (viewer_sender stream.before first) [])
      unused first_number = starts_unused within.settings within.depacketizer sender receiver first_number within.new one_stream

      released_by : Takes None (received_steps all 0 steps entries) datagrams receiver t.hops.wire.pops t.hops.wire.session
          → SendsFrom all steps (viewer_sender stream.before first) receiver (stream_wire samples all_steps stream.before stream.after t)
          → units_of_run (viewer_packetizer stream.before first.packetizer) all (sending_steps first.mtu steps)
          ≡ units_of_sent first.packetizer first.mtu (sent_before_switch samples all_steps t) ++ units_of_sent second.packetizer second.mtu (sent_after_switch samples all_steps t)
          → ReleasesSwitched samples all_steps (begins_switching first second forwarder receiver) t
      released_by takes sends_from units =
          let promises : KeepsPromises all steps (begins sender receiver) whole_run = keeps_all None all steps sender receiver whole_run takes sends_from tt is_within in
          record { stream = stream; written = written; received = received; promises = promises; canonical = promises.released.canonical ∙ units }

  -- The packetizers send no ids

  module _ (plain : SendNoIds forwarder.settings.codec first second) where
    none_moved : (f : Forward) → viewer_packetizer f first.packetizer ≡ first.packetizer
    none_moved f = moved_none f.settings.codec f.ids.offsets own plain.no_ids

    built : is_built_in first.packetizer ≡ true
    built = sym (ap is_built_in (none_moved forwarder)) ∙ within.one_stream.built_in

    abbrev Own : PacketizerState → Type 0
    Own p = p ≡ first.packetizer

    stays_own : Stays (λ (p : PacketizerState). p ≡ first.packetizer)
    stays_own = own_good own built plain.no_ids

    view_own : (f : Forward) → f.settings ≡ forwarder.settings → IsView f (λ (p : PacketizerState). p ≡ first.packetizer) (viewer_packetizer f)
    view_own f same =
        let kept = are_kept forwarder.settings.codec own plain.of_codec plain.no_ids in
        let codec : forwarder.settings.codec ≡ f.settings.codec = sym (ap (λ (x : ForwardSettings). x.codec) same) in
        moved_view f Own (λ p is. (
          subst (λ (c : Codec). keeps_payloads c p ≡ true) codec (subst (λ (q : PacketizerState). keeps_payloads forwarder.settings.codec q ≡ true) (sym is) kept.0),
          subst (λ (c : Codec). keeps_packetizer c p ≡ true) codec (subst (λ (q : PacketizerState). keeps_packetizer forwarder.settings.codec q ≡ true) (sym is) plain.of_codec),
        ))

    same_own : (p q : PacketizerState) → p ≡ first.packetizer → q ≡ first.packetizer → viewer_packetizer stream.before p ≡ viewer_packetizer stream.after q
    same_own p q one two = ap (viewer_packetizer before) one ∙ (none_moved before ∙ (sym (none_moved after) ∙ ap (viewer_packetizer after) (sym two)))

    abbrev plain_left : Sending
    plain_left = left Own stays_own refl plain.packetizer viewer_packetizer view_own same_own

    abbrev plain_saw : Wire
    plain_saw = saw Own stays_own refl plain.packetizer viewer_packetizer view_own same_own

    -- from a number with the low bits of the first one on
    plain_sends : SendsFrom all steps (viewer_sender stream.before first) receiver (stream_wire samples all_steps stream.before stream.after t)
    plain_sends first_number small same =
        let v : Sending = viewer_sender before first in
        let buffer : State = receiver.packets.buffer in
        let none : (f : Forward) → f.settings ≡ forwarder.settings → viewer_packetizer f first.packetizer ≡ first.packetizer = λ f is. none_moved f in
        let runs : SendsRun buffer v.stream v.mtu first_number 0 all steps (begins v receiver) plain_saw [] =
        sends_run buffer v.stream v.mtu first_number small all None 0 steps (begins v receiver) plain_saw []
        (record { mtu = refl; built_in = ap is_built_in (none_moved before) ∙ built; kept = refl; number = same; reads = tt; numbered = tt; few = omega arith })
        (goes Own stays_own refl plain.packetizer viewer_packetizer view_own same_own) in
        let begun : RunState = running buffer first_number rate v [] in
        let ended : RunState = running buffer first_number rate plain_left runs.all in
        let sends : List Step = sending_steps v.mtu steps in
        record {
          all = runs.all;
          reads = runs.at.reads;
          numbered = runs.at.numbered;
          few = runs.at.few;
          times = runs.times ∙ ap (times_sent rate all steps) (sym runs.sends_are);
          end = plain_left;
          stream = streams plainly all 0 sends begun ended runs.entries [] (unused_exactly all sends begun runs.entries [] ended (unused Own stays_own refl plain.packetizer none first_number) runs.runs);
        }

    -- the units are those of the samples
    plain_units : units_of_run (viewer_packetizer stream.before first.packetizer) all (sending_steps first.mtu steps)
        ≡ units_of_sent first.packetizer first.mtu (sent_before_switch samples all_steps t) ++ units_of_sent second.packetizer second.mtu (sent_after_switch samples all_steps t)
    plain_units =
        ap (λ (p : PacketizerState). units_of_run p all (sending_steps first.mtu steps)) (none_moved before)
        ∙ (units_sent own first.mtu all all both 0 (viewed_steps_of samples all_steps t) plain.no_ids index_all seen
        ∙ (ap (λ (ss : List Step). units_of_sent own first.mtu both ++ units_of_run own all ss) (sends_none first.mtu cut start (events_of samples all_steps t) [])
        ∙ (append-nil (units_of_sent own first.mtu both)
        ∙ (units_append own first.mtu firsts seconds
        ∙ (ap (λ (p : PacketizerState). units_of_sent own first.mtu firsts ++ units_of_sent p first.mtu seconds) (sym plain.packetizer)
        ∙ ap (λ (m : ℕ). units_of_sent own first.mtu firsts ++ units_of_sent second.packetizer m seconds) (sym within.alike.mtu))))))

    pub plain_released : ReleasesSwitched samples all_steps (begins_switching first second forwarder receiver) t
    plain_released =
        released_by Own stays_own refl plain.packetizer (λ f is. none_moved f) (takes Own stays_own refl plain.packetizer viewer_packetizer view_own same_own) plain_sends plain_units

  -- They send picture ids of VP8

  module _ (ids : SendPictureIds forwarder.settings.codec first second) where
    codec_at : (f : Forward) → f.settings ≡ forwarder.settings → f.settings.codec ≡ codecs.Vp8
    codec_at f same = ap (λ (x : ForwardSettings). x.codec) same ∙ ids.codec_is

    ids_moved : (f : Forward) → f.settings ≡ forwarder.settings → viewer_packetizer f first.packetizer ≡ first.packetizer
    ids_moved f same = ap (λ (c : Codec). moved_packetizer c f.ids.offsets first.packetizer) (codec_at f same)

    abbrev x : Forward
    x = without_ids before

    abbrev y : Forward
    y = without_ids after

    has_first : HasId first.packetizer
    has_first = (ids.first_id, ids.first_is)

    has_second : HasId second.packetizer
    has_second = (ids.second_id, ids.second_is)

    abbrev one : Front HasId id_stays first (cut_in samples all_steps t) (sent_before_switch samples all_steps t) first [] t.hops.wire.datagrams
    one = ahead HasId id_stays has_first has_second

    abbrev two : Back HasId id_stays second (start_in samples all_steps t) (sent_after_switch samples all_steps t) t.second t.datagrams
    two = behind HasId id_stays has_first has_second

    -- what the sources send, with their own ids
    abbrev first_shown : List (List ℕ)
    first_shown = map (viewer_datagram x) one.more

    abbrev second_shown : List (List ℕ)
    second_shown = map (viewer_datagram y) (drop start t.datagrams)

    abbrev v : Sending
    v = seen_sender unchanged x first

    abbrev w : Sending
    w = seen_sender unchanged y two.mid

    first_part : SendsPart x (fits_type before stream.before_settings) (fits_ssrc before stream.before_settings) rate within.widths.clock_rate HasId id_stays unchanged (same_view before HasId) first refl [] 0
        receiver all firsts 0 v one.mid [] one.more []
    first_part =
        send_part x (fits_type before stream.before_settings) (fits_ssrc before stream.before_settings) rate within.widths.clock_rate HasId id_stays unchanged (same_view before HasId) first refl [] 0
        receiver all firsts 0 v first one.mid [] one.more [] index_first (record { packetizer = has_first; mtu = refl; stream = refl; number = omega arith }) (omega arith)
        (record { packetizer = refl; mtu = refl; stream = refl }) one.sends (omega (arith, length-map one.more (viewer_datagram x), one.size, within.few))

    both_few : length (first_shown ++ second_shown) < 2 ^ 63
    both_few = omega (arith, length-append first_shown second_shown, length-map one.more (viewer_datagram x), one.size, length-map (drop start t.datagrams) (viewer_datagram y), length-drop start t.datagrams, within.few)

    second_part : SendsPart y (fits_type after stream.after_settings) (fits_ssrc after stream.after_settings) rate within.widths.clock_rate HasId id_stays unchanged (same_view after HasId) second
        within.alike.clock_rate first_shown start receiver all seconds (length firsts) w t.second two.more t.datagrams (entries_in firsts)
    second_part =
        send_part y (fits_type after stream.after_settings) (fits_ssrc after stream.after_settings) rate within.widths.clock_rate HasId id_stays unchanged (same_view after HasId) second
        within.alike.clock_rate first_shown start receiver all seconds (length firsts) w two.mid t.second two.more t.datagrams (entries_in firsts) index_second two.has (omega (arith, two.size))
        (record { packetizer = refl; mtu = refl; stream = refl }) two.sends both_few

    abbrev out : Outgoing
    out = viewer_stream before first.stream

    of_codec : IsOfCodec receiver.packets.buffer
    of_codec =
        let u = unused HasId id_stays has_first has_second ids_moved 0 in
        ap is_codec u.alike ∙ codec_payloads (viewer_packetizer before own) u.built_in

    module _ (first_number : ℕ) (small : first_number < 2 ^ 63) (same : (viewer_sender stream.before first).stream.number % 2 ^ 16 ≡ (first_number + 0) % 2 ^ 16) where
      front_part : Part before.ids.offsets all first.mtu receiver.packets.buffer of_codec out first_number small receiver firsts 0 ids.first_id [] first_shown
      front_part =
          part before.ids.offsets all first.mtu receiver.packets.buffer of_codec out first_number small receiver firsts 0 ids.first_id v first_part.left [] [] first_shown [] ids.first_is
          (record { mtu = refl; built_in = ap is_built_in ids.first_is; kept = refl; number = same; reads = tt; numbered = tt; few = omega arith }) first_part.runs

      sent_count : length front_part.more ≡ cut_in samples all_steps t
      sent_count = same_count out front_part.more first_shown front_part.reads ∙ (length-map one.more (viewer_datagram x) ∙ one.size)

      back_part : Part after.ids.offsets all first.mtu receiver.packets.buffer of_codec out first_number small receiver seconds (length firsts) two.has.packetizer.0 front_part.more second_shown
      back_part =
          let seam : first_shown ++ map (viewer_datagram y) (drop start two.more) ≡ first_shown =
          ap (λ (ds : List (List ℕ)). first_shown ++ map (viewer_datagram y) ds) (none_yet HasId id_stays has_first has_second) ∙ append-nil first_shown in
          part after.ids.offsets all first.mtu receiver.packets.buffer of_codec out first_number small receiver seconds (length firsts) two.has.packetizer.0 w second_part.left front_part.more first_shown second_shown
          (entries_in firsts) two.has.packetizer.1
          (record {
            mtu = two.has.mtu ∙ within.alike.mtu;
            built_in = ap is_built_in two.has.packetizer.1;
            kept = same_stream after.settings before.settings two.mid.stream.clock_rate rate _ _ (stream.after_settings ∙ sym stream.before_settings)
                (ap (λ (o : Outgoing). o.clock_rate) two.has.stream ∙ within.alike.clock_rate) refl;
            number = omega (arith, number_on HasId id_stays has_first has_second, same, one.has.number, one.size, sent_count);
            reads = front_part.reads;
            numbered = front_part.in_order;
            few = omega (arith, front_part.few);
          })
          (subst (λ (ds : List (List ℕ)).
          Runs all (send_each (length firsts) seconds) (record { sending = w; session = receiver; datagrams = ds; sends = entries_in firsts; receipts = []; pops = [] })
          (record { sending = second_part.left; session = receiver; datagrams = first_shown ++ second_shown; sends = entries_in firsts ++ entries_in seconds; receipts = []; pops = [] })) seam second_part.runs)

      abbrev moved_first : List Packet
      moved_first = moved_packets before.ids.offsets front_part.more

      abbrev moved_second : List Packet
      moved_second = moved_packets after.ids.offsets back_part.more

      abbrev begun : PacketizerState → List Packet → RunState
      begun packetizer packets = run_state (record { packetizer = packetizer; clock_rate = rate }) receiver.packets.buffer (record { first = first_number; packets = packets })

      both_streams : Streams all (sending_steps first.mtu (send_each 0 firsts ++ send_each (length firsts) seconds)) (begun (Vp8Packetizing (Some ids.first_id)) []) (begun (Vp8Packetizing (Some two.has.packetizer.0)) (moved_first ++ moved_second))
      both_streams =
          joined all first.mtu ids.room receiver.packets.buffer of_codec out first_number small receiver before.ids.offsets after.ids.offsets firsts seconds 0 (length firsts) ids.first_id two.has.packetizer.0
          first_shown second_shown front_part back_part

      all_streams : Streams all (sending_steps first.mtu steps) (begun (viewer_packetizer stream.before first.packetizer) []) (begun two.mid.packetizer (moved_first ++ moved_second))
      all_streams =
          let steps_are : sending_steps first.mtu (send_each 0 firsts ++ send_each (length firsts) seconds) ≡ sending_steps first.mtu steps = ap (sending_steps first.mtu) (sym parts) ∙ sym (sends_both first.mtu) in
          let own_is : Vp8Packetizing (Some ids.first_id) ≡ viewer_packetizer before own = sym ids.first_is ∙ sym (ids_moved before stream.before_settings) in
          subst (λ (p : PacketizerState). Streams all (sending_steps first.mtu steps) (begun p []) (begun two.mid.packetizer (moved_first ++ moved_second))) own_is
          (subst (λ (p : PacketizerState). Streams all (sending_steps first.mtu steps) (begun (Vp8Packetizing (Some ids.first_id)) []) (begun p (moved_first ++ moved_second))) (sym two.has.packetizer.1)
          (subst (λ (ss : List Step). Streams all ss (begun (Vp8Packetizing (Some ids.first_id)) []) (begun (Vp8Packetizing (Some two.has.packetizer.0)) (moved_first ++ moved_second))) steps_are both_streams))

      all_read : AreDatagrams out (moved_first ++ moved_second) datagrams
      all_read =
          let became = all_became samples all_steps first second forwarder receiver t run in
          let codec : Codec = forwarder.settings.codec in
          let of_first : AllOf false first.stream.ssrc codec one.more = all_left first.stream.ssrc codec one.more one.rest.0 (subst (AllOf false first.stream.ssrc codec) one.rest.1 became.sources_are.first.all) in
          let of_second : AllOf false second.stream.ssrc codec (drop start t.datagrams) = all_right second.stream.ssrc codec start t.datagrams became.sources_are.second.all in
          subst (AreDatagrams out (moved_first ++ moved_second)) (whole_shown HasId id_stays has_first has_second)
          (datagrams_append out moved_first (map (viewer_datagram before) one.more) moved_second (map (viewer_datagram after) (drop start t.datagrams))
          (reads_moved before (fits_type before stream.before_settings) (fits_ssrc before stream.before_settings) false first.stream.ssrc codec (codec_at before stream.before_settings) out front_part.more one.more of_first front_part.reads)
          (reads_moved after (fits_type after stream.after_settings) (fits_ssrc after stream.after_settings) false second.stream.ssrc codec (codec_at after stream.after_settings) out back_part.more (drop start t.datagrams) of_second back_part.reads))

      all_times : times_in (moved_first ++ moved_second) ≡ times_sent rate all steps entries
      all_times =
          let seconds_sent : List DatagramStep = send_each (length firsts) seconds in
          packet_times moved_first moved_second
          ∙ (ap (λ (ts : List ℕ). ts ++ times_in moved_second) (times_moved before.ids.offsets front_part.more ∙ front_part.times)
          ∙ (ap (λ (ts : List ℕ). times_sent rate all (send_each 0 firsts) (entries_in firsts) ++ ts) (times_moved after.ids.offsets back_part.more ∙ back_part.times)
          ∙ (sym (times_joined rate all (viewer_samples before rate (samples_in firsts)) firsts 0 seconds_sent (entries_in seconds) index_first (seen_moved before rate firsts))
          ∙ (ap (λ (es : List SentSample). times_sent rate all (send_each 0 firsts ++ seconds_sent) es) (sym (map_append (λ (z : Sent). z.entry) firsts seconds))
          ∙ (ap (λ (ss : List DatagramStep). times_sent rate all ss entries) (sym parts)
          ∙ (sym (append-nil (times_sent rate all (send_each 0 both) entries))
          ∙ (ap (λ (ts : List ℕ). times_sent rate all (send_each 0 both) entries ++ ts) (sym (times_none rate all cut start (events_of samples all_steps t) []))
          ∙ (sym (times_joined rate all all both 0 (viewed_steps_of samples all_steps t) [] index_all seen)
          ∙ ap (times_sent rate all steps) (append-nil entries)))))))))

    ids_sends : SendsFrom all steps (viewer_sender stream.before first) receiver (stream_wire samples all_steps stream.before stream.after t)
    ids_sends first_number small same =
        let stream_is = all_streams first_number small same in
        let gained = stream_is.gained in
        record {
          all = moved_first first_number small same ++ moved_second first_number small same;
          reads = all_read first_number small same;
          numbered = subst (λ (n : ℕ). AreNumbered n (moved_first first_number small same ++ moved_second first_number small same)) (omega arith)
              (subst (AreNumbered (first_number + 0)) (sym gained) stream_is.numbered);
          few = stream_is.few (omega arith);
          times = all_times first_number small same;
          end = w;
          stream = stream_is;
        }

    ids_units : units_of_run (viewer_packetizer stream.before first.packetizer) all (sending_steps first.mtu steps)
        ≡ units_of_sent first.packetizer first.mtu (sent_before_switch samples all_steps t) ++ units_of_sent second.packetizer second.mtu (sent_after_switch samples all_steps t)
    ids_units =
        let a : PacketizerState = Vp8Packetizing (Some ids.first_id) in
        let b : PacketizerState = Vp8Packetizing (Some ids.second_id) in
        ap (λ (p : PacketizerState). units_of_run p all (sending_steps first.mtu steps)) (ids_moved before stream.before_settings ∙ ids.first_is)
        ∙ (ap (units_of_run a all) (sends_both first.mtu)
        ∙ (units_with_ids first.mtu ids.room all ids.first_id ids.first_id all both 0 index_all seen
        ∙ (units_append a first.mtu firsts seconds
        ∙ (ap (λ (us : List (List (List ℕ))). units_of_sent a first.mtu firsts ++ us) (sent_other ids.first_id ids.second_id first.mtu seconds ids.room)
        ∙ (ap (λ (p : PacketizerState). units_of_sent p first.mtu firsts ++ units_of_sent b first.mtu seconds) (sym ids.first_is)
        ∙ (ap (λ (p : PacketizerState). units_of_sent own first.mtu firsts ++ units_of_sent p first.mtu seconds) (sym ids.second_is)
        ∙ ap (λ (m : ℕ). units_of_sent own first.mtu firsts ++ units_of_sent second.packetizer m seconds) (sym within.alike.mtu)))))))

    pub ids_released : ReleasesSwitched samples all_steps (begins_switching first second forwarder receiver) t
    ids_released =
        released_by HasId id_stays has_first has_second ids_moved (takes HasId id_stays has_first has_second (λ f. unknown) (λ f is. unknown_view f HasId) (λ p q one two. refl)) ids_sends ids_units

  pub released : SendNoIds forwarder.settings.codec first second ⊎ SendPictureIds forwarder.settings.codec first second → ReleasesSwitched samples all_steps (begins_switching first second forwarder receiver) t
  released (inl plain) = plain_released plain
  released (inr ids) = ids_released ids

pub release_switching : ReleaseSwitching
release_switching samples all_steps first second forwarder receiver t run within = released samples all_steps first second forwarder receiver t run within within.alike.format
