-- The units that a viewer's receiver releases behind a forwarder that leaves whole frames out, from the theorem of runs over one hop.
use Rattle.std.proofs.Common.{◌≡◌, ◌∙◌, refl, sym, ap, subst, ℕ, ◌^◌, ◌<◌, map, List, [], Bool, true, false, length, Option, Some, None, Ok, arith}
use Rattle.std.specs.Prelude.{slice_get, slice_index_or}
use Rattle.codec_payload_base.specs.declared.wire.Codec.{Codec}
use Rattle.codec_payload_base.specs.declared.wire.Codec.TheVariants as codecs
use Rattle.codec_payload_buffer.specs.Steps.{State}
use Rattle.codec_payload_buffer_runs.proofs.units.BuiltInRuns.{plainly, unused_exactly}
use Rattle.codec_payload_buffer_runs.specs.Schedule.{Runs as PlainRuns}
use Rattle.codec_payload_buffer_runs.proofs.units.StreamLemmas.{Streams, streams}
use Rattle.codec_payload_buffer_runs.specs.Headline.{IsUnused}
use Rattle.codec_payload_buffer_runs.specs.Schedule.{RunState}
use Rattle.codec_payload_buffer_runs.specs.declared.run.Step.{Step}
use Rattle.codec_payload_codec.specs.Depacketizers.{DepacketizerState}
use Rattle.codec_payload_codec.specs.Packetizers.{BoxedPacketizing, PacketizerState, PacketizerStep, Vp8Packetizing, is_built_in}
use Rattle.codec_payload_payloader.specs.Sending.{Sample}
use Rattle.codec_payload_receiver.specs.Sessions.{Session}
use Rattle.codec_payload_datagrams.specs.declared.kinds.Retransmission.{Retransmission}
use Rattle.codec_payload_receiver.specs.declared.receiver.Settings.{Settings}
use Rattle.codec_payload_rtp.specs.RtpPackets.{Packet}
use Rattle.codec_payload_rtp.specs.RtpReading.{rtp_at}
use Rattle.codec_payload_sending.specs.Senders.{Sending}
use Rattle.codec_payload_sending.specs.declared.sender.Outgoing.{Outgoing}
use Rattle.codec_payload_sending_forward.specs.Forwarding.{Forward, closing_id, payload_for}
use Rattle.codec_payload_sending_forward.specs.Numbers.{Falls, is_in}
use Rattle.codec_payload_sending_forward.specs.declared.ids.IdOffsets.{IdOffsets}
use Rattle.codec_payload_sending_forward.specs.declared.forwarder.Forwarded.{Forwarded}
use Rattle.codec_payload_sending_forward.specs.declared.forwarder.ForwardSettings.{ForwardSettings}
use Rattle.codec_payload_datagram_runs.proofs.Courses.{Proceeds, proceeds}
use Rattle.codec_payload_datagram_runs.proofs.ReleaseLemmas.{SendsFrom, keeps_all, starts_unused, takes_of}
use Rattle.codec_payload_datagram_runs.proofs.SendingLemmas.{SendsRun, running, sends_run}
use Rattle.codec_payload_datagram_runs.proofs.StepLemmas.{Takes}
use Rattle.codec_payload_datagram_runs.specs.Releases.{AreOfOneStream, IsWithinWindows, is_sent_again_by, received_steps, sending_steps, times_sent}
use Rattle.codec_payload_datagram_runs.specs.WireLogs.{KeepsPromises}
use Rattle.codec_payload_datagram_runs.specs.WireRuns.{Wire, begins}
use Rattle.codec_payload_datagram_runs.specs.declared.run.DatagramStep.{DatagramStep}
use Rattle.codec_payload_datagram_runs.specs.declared.run.SentSample.{SentSample}
use Rattle.codec_payload_forward_runs.proofs.ForwardLemmas.{moved_within, same_units}
use Rattle.codec_payload_forward_runs.proofs.KeptPayloads.{IsKept, is_vp8, is_vp9, kept_each}
use Rattle.codec_payload_forward_runs.proofs.LeaveCourses.{Leads, all_at, seen_by}
use Rattle.codec_payload_forward_runs.proofs.LeaveEvents.{Became, Happens, became}
use Rattle.codec_payload_forward_runs.proofs.LeaveIds.{Tracks, is_moved, offsets_since}
use Rattle.codec_payload_forward_runs.proofs.LeaveNumbers.{Agrees, Holds, Stage, Wrote, off, on}
use Rattle.codec_payload_forward_runs.proofs.LeavePictures.{Known, id_at, id_known, known, pictures_are, starts_in}
use Rattle.codec_payload_forward_runs.proofs.LeaveStreams.{Comes, comes}
use Rattle.codec_payload_forward_runs.proofs.LeaveWalks.{IsBase, IsFinal, Walks, stays_same, walks}
use Rattle.codec_payload_forward_runs.proofs.SenderLemmas.{without_ids}
use Rattle.codec_payload_forward_runs.proofs.SourceLemmas.{IsSource}
use Rattle.codec_payload_forward_runs.specs.ForwardReleases.{keeps_packetizer, keeps_payloads, viewer_samples, viewer_sender}
use Rattle.codec_payload_forward_runs.specs.ForwardRuns.{Hops, begins_forwarding}
use Rattle.codec_payload_forward_runs.specs.LeaveReleases.{AreAt, Event, ForwardLeavingOut, IsLeftOutWithinWindows, LeavesWhole, Offsets, ReleaseLeavingOut, ReleasesKept, WritesKept, closed, closed_sender, closed_wire, events, events_of, firsts_of, gone_of, kept_forwarded_of, kept_sends_of, kept_steps_of, place_of, sends_no_ids}
use Rattle.codec_payload_forward_runs.specs.LeaveRuns.{LeaveRuns}
use Rattle.codec_payload_forward_runs.specs.declared.leave_run.LeaveStep.{LeaveStep}

-- Packetizers

vp8_with : (packetizer : PacketizerState) (id : Option ℕ) → packetizer ≡ Vp8Packetizing id → sends_no_ids packetizer ≡ false → (n : ℕ) × (packetizer ≡ Vp8Packetizing (Some n))
vp8_with packetizer None is moves = absurd (let none : sends_no_ids packetizer ≡ true = ap sends_no_ids is in cc)
vp8_with packetizer (Some n) is moves = (n, is)

plain_vp8 : (packetizer : PacketizerState) (id : Option ℕ) → packetizer ≡ Vp8Packetizing id → sends_no_ids packetizer ≡ true → (keeps_payloads codecs.Vp8 packetizer ≡ true) × (is_moved codecs.Vp8 ≡ false)
plain_vp8 packetizer None is none = (ap (keeps_payloads codecs.Vp8) is, refl)
plain_vp8 packetizer (Some id) is none = absurd (let sent : sends_no_ids packetizer ≡ false = ap sends_no_ids is in cc)

-- a packetizer without ids sends payloads that the forwarder keeps
pub are_kept : (codec : Codec) (packetizer : PacketizerState) → keeps_packetizer codec packetizer ≡ true → sends_no_ids packetizer ≡ true → (keeps_payloads codec packetizer ≡ true) × (is_moved codec ≡ false)
are_kept codecs.Vp8 packetizer of none = plain_vp8 packetizer (is_vp8 packetizer of).0 (is_vp8 packetizer of).1 none
are_kept codecs.Vp9 packetizer of none = absurd (let sent : sends_no_ids packetizer ≡ false = ap sends_no_ids (is_vp9 packetizer of).1 in cc)
are_kept codecs.Opus packetizer of none = (refl, refl)
are_kept codecs.PCMU packetizer of none = (refl, refl)
are_kept codecs.PCMA packetizer of none = (refl, refl)
are_kept codecs.G722 packetizer of none = (refl, refl)
are_kept codecs.CN packetizer of none = (refl, refl)
are_kept codecs.AmrWb packetizer of none = (refl, refl)
are_kept codecs.H264 packetizer of none = (refl, refl)
are_kept codecs.H265 packetizer of none = (refl, refl)
are_kept codecs.H266 packetizer of none = (refl, refl)
are_kept codecs.Av1 packetizer of none = (refl, refl)
are_kept codecs.Null packetizer of none = (refl, refl)
are_kept codecs.Tele packetizer of none = (refl, refl)
are_kept codecs.Rtx packetizer of none = (refl, refl)
are_kept codecs.Red packetizer of none = (refl, refl)
are_kept codecs.Unknown packetizer of none = (refl, refl)

-- whether packets are retransmissions does not depend on the next number
again_same : (o : Option Retransmission) (stream : Outgoing) (n m : ℕ) → is_sent_again_by o (record stream { number = n }) ≡ is_sent_again_by o (record stream { number = m })
again_same None stream n m = refl
again_same (Some r) stream n m = refl

-- After the run

-- the offsets of the viewer's stream
pub record Ended (steady : Bool) (id_of : ℕ → ℕ) (st : Stage) (f : Forward) (gone : List ℕ) : Type 0 where
  pub offsets : Offsets
  pub agrees : Agrees offsets f gone st f gone
  pub falls : Falls gone
  pub pictures : steady ≡ false → Falls offsets.pictures
  pub among : steady ≡ false → (k : ℕ) → is_in k offsets.pictures ≡ true → is_in k gone ≡ true
  pub highs : List ℕ
  pub tracks : steady ≡ false → Tracks id_of gone highs offsets.pictures

ended : (ssrc low : ℕ) (steady : Bool) (id_of : ℕ → ℕ) (st : Stage) (f : Forward) (gone : List ℕ) → Holds ssrc low steady id_of st f gone → Ended steady id_of st f gone
ended ssrc low steady id_of off f gone holds = record {
  offsets = record { number = 0; ids = record { picture = 0; tl0 = 0 }; pictures = [] };
  agrees = tt;
  falls = subst Falls (sym holds.1) tt;
  pictures = λ moves. tt;
  among = λ moves k there. absurd (cc);
  highs = [];
  tracks = λ moves. subst (λ (xs : List ℕ). Tracks id_of xs [] []) (sym holds.1) refl;
}
ended ssrc low steady id_of (on since high) f gone holds = record {
  offsets = offsets_since since;
  agrees = (refl, refl, refl, refl, λ k within. (refl, refl, refl));
  falls = holds.falls;
  pictures = λ moves. (holds.ids moves).falls;
  among = λ moves. (holds.ids moves).among;
  highs = since.highs;
  tracks = holds.tracks;
}

-- The theorem

module _ (samples : List Sample) (all_steps : List LeaveStep) (sender : Sending) (forwarder : Forward) (receiver : Session) (t : Hops)
    (run : LeaveRuns samples all_steps (begins_forwarding sender forwarder receiver) t) (whole : LeavesWhole samples all_steps (begins_forwarding sender forwarder receiver) t) where
  abbrev s : Hops
  s = begins_forwarding sender forwarder receiver

  abbrev e : Forward
  e = t.forwarder

  abbrev ssrc : ℕ
  ssrc = sender.stream.ssrc

  abbrev rate : ℕ
  rate = sender.stream.clock_rate

  abbrev low : ℕ
  low = sender.stream.number

  abbrev codec : Codec
  codec = forwarder.settings.codec

  -- whether the packetizer sends no ids
  abbrev steady : Bool
  steady = sends_no_ids sender.packetizer

  abbrev happened : List Event
  happened = events_of samples all_steps t

  abbrev gone : List ℕ
  gone = gone_of samples all_steps t

  abbrev steps : List DatagramStep
  steps = kept_steps_of samples all_steps t

  abbrev entries : List SentSample
  entries = kept_sends_of samples all_steps t

  fixed_by : (b : Bool) → sends_no_ids sender.packetizer ≡ b → is_moved forwarder.settings.codec ≡ false
  fixed_by true none = (are_kept forwarder.settings.codec sender.packetizer whole.of_codec none).1
  fixed_by false moves = ap is_moved (whole.ids moves).0

  fixed : is_moved forwarder.settings.codec ≡ false
  fixed = fixed_by (sends_no_ids sender.packetizer) refl

  source : IsSource sender.stream.ssrc sender.stream.clock_rate forwarder.settings.codec true (sends_no_ids sender.packetizer) sender []
  source = record {
    source = refl;
    clock = refl;
    keeps = λ none. (are_kept forwarder.settings.codec sender.packetizer whole.of_codec none).0;
    of_codec = λ _. whole.of_codec;
    all = tt;
  }

  happens : Happens samples (events_of samples all_steps t) (begins_forwarding sender forwarder receiver) t
  happens =
      let b : Became ssrc rate codec true steady samples all_steps s t = became ssrc rate codec true steady samples all_steps s t source run in
      subst (λ (rs : List Forwarded). Happens samples (events samples 0 all_steps t.wire.sends rs) s t) (sym b.answers_are)
      (subst (λ (es : List SentSample). Happens samples (events samples 0 all_steps es b.more) s t) (sym b.sends_are) b.happens)

  -- The ids of datagrams of VP8

  -- the packetizer's first id, if it has one
  own_first : (b : Bool) → sends_no_ids sender.packetizer ≡ b → (n : ℕ) × (b ≡ false → sender.packetizer ≡ Vp8Packetizing (Some n))
  own_first true none = (0, λ moves. absurd (cc))
  own_first false moves =
      let of : keeps_packetizer codecs.Vp8 sender.packetizer ≡ true = subst (λ (c : Codec). keeps_packetizer c sender.packetizer ≡ true) (whole.ids moves).0 whole.of_codec in
      let vp8 = is_vp8 sender.packetizer of in
      let one = vp8_with sender.packetizer vp8.0 vp8.1 moves in
      (one.0, λ again. one.1)

  abbrev first_id : ℕ
  first_id = (own_first (sends_no_ids sender.packetizer) refl).0

  abbrev ids_of : ℕ → ℕ
  ids_of = id_at first_id (starts_in 0 [] (events_of samples all_steps t))

  all_known : sends_no_ids sender.packetizer ≡ false → Known first_id (events_of samples all_steps t) (begins_forwarding sender forwarder receiver) t [] []
  all_known moves =
      known samples first_id (events_of samples all_steps t) (begins_forwarding sender forwarder receiver) t [] []
      (record {
        falls = tt;
        within = tt;
        some = λ k l. absurd (omega (arith, l));
        have = tt;
        id = first_id;
        own = (own_first (sends_no_ids sender.packetizer) refl).1 moves;
        id_is = omega arith;
      }) happens

  ids_known : sends_no_ids sender.packetizer ≡ false → (k : ℕ) (d : List ℕ) (p : Packet) → slice_get t.wire.datagrams k ≡ Some d → rtp_at d ≡ Ok p → closing_id forwarder.settings.codec p.payload ≡ Some (ids_of k)
  ids_known moves k d p there is =
      let all = all_known moves in
      ap (λ (c : Codec). closing_id c p.payload) (whole.ids moves).0
      ∙ (id_known first_id (starts_in 0 [] (events_of samples all_steps t)) 0 t.wire.datagrams k d p all.frames.have there is ∙ ap (λ (n : ℕ). Some (ids_of n)) (omega arith))

  -- With the packetizer of the run, or without what it does

  module _ (packetizer : PacketizerState) (own : is_built_in packetizer ≡ true → sender.packetizer ≡ packetizer) (no_ids : is_built_in packetizer ≡ true → sends_no_ids packetizer ≡ true) where
    base : IsBase ssrc rate low codec fixed steady ids_of packetizer no_ids samples s
    base = record { source = source; own = own; next = omega arith; numbers = tt; few = omega arith; codec_is = refl }

    walk : Walks ssrc rate low codec fixed steady ids_of packetizer no_ids samples happened s t off [] []
    walk = walks ssrc rate low codec fixed steady ids_of packetizer no_ids samples happened s t off [] [] base (whole.other, refl) (refl, refl) whole.near whole.none_filled ids_known happens

    end : Ended steady ids_of walk.end e gone
    end = ended ssrc low steady ids_of walk.end e gone walk.holds

    settings : e.settings ≡ forwarder.settings
    settings = walk.settings

    plain : is_built_in packetizer ≡ true → (mtu : ℕ) (frame : List ℕ) (payloads : List (List ℕ)) → PacketizerStep packetizer mtu frame (Ok payloads) packetizer
        → (i : ℕ) → i < length payloads → (x : IdOffsets) → payload_for e.settings.codec x (slice_index_or payloads i []) ≡ slice_index_or payloads i []
    plain built mtu frame payloads step i l x =
        let of : keeps_packetizer codec packetizer ≡ true = sym (ap (keeps_packetizer codec) (own built)) ∙ whole.of_codec in
        let kept : IsKept codec (slice_index_or payloads i []) = kept_each codec packetizer packetizer mtu frame payloads (are_kept codec packetizer of (no_ids built)).0 (λ _. step) i l in
        subst (λ (c : ForwardSettings). payload_for c.codec x (slice_index_or payloads i []) ≡ slice_index_or payloads i []) (sym settings) (stays_same codec x (slice_index_or payloads i []) fixed kept)

    final : IsFinal ssrc rate low codec fixed steady ids_of packetizer no_ids samples end.offsets e gone
    final = record {
      fits_type = subst (λ (x : ForwardSettings). x.payload_type < 128) (sym settings) whole.widths.payload_type;
      fits_ssrc = subst (λ (x : ForwardSettings). x.ssrc < 2 ^ 32) (sym settings) whole.widths.ssrc;
      some = whole.widths.clock_rate;
      falls = end.falls;
      plain = plain;
    }

    -- the sender whose datagrams the viewer gets, and the same without what its packetizer does
    abbrev first : Sending
    first = closed_sender e end.offsets.number sender

    abbrev unknown : Sending
    unknown = record first { packetizer = packetizer }

    abbrev all_samples : List Sample
    all_samples = viewer_samples e rate samples

    led : Leads e final.fits_type final.fits_ssrc rate final.some end.offsets packetizer no_ids final.plain gone final.falls samples steps entries s t unknown []
    led = (walk.course end.offsets e gone final end.agrees whole.whole).1 unknown [] (record { packetizer_is = refl; mtu = refl; stream = refl; next = omega arith })

    -- what the viewer's receiver sees
    abbrev saw : Wire
    saw = seen_by e final.fits_type final.fits_ssrc rate final.some end.offsets packetizer no_ids final.plain gone final.falls samples t led.end entries

    course : Proceeds None all_samples steps (begins unknown receiver) saw
    course = proceeds None all_samples steps (begins unknown receiver) saw led.runs

    -- the run over one hop
    abbrev whole_run : Wire
    whole_run = closed_wire e end.offsets gone entries t.wire

    -- what was written
    written_by : (st : Stage) (outs : List ℕ) → Agrees end.offsets e gone st e gone → Wrote st e gone t.wire.datagrams t.written outs → AreAt (closed e end.offsets gone 0 end.offsets.number t.wire.datagrams) t.written (map (place_of gone) outs)
    written_by off outs agrees wrote =
        subst (λ (js : List ℕ). AreAt (closed e end.offsets gone 0 end.offsets.number t.wire.datagrams) t.written (map (place_of gone) js)) (sym wrote.1)
        (subst (λ (bs : List (List ℕ)). AreAt (closed e end.offsets gone 0 end.offsets.number t.wire.datagrams) bs []) (sym wrote.0) tt)
    written_by (on since high) outs agrees wrote =
        all_at e final.fits_type final.fits_ssrc rate final.some end.offsets packetizer no_ids final.plain gone final.falls samples since high e gone t.wire.datagrams t.written outs agrees wrote

    written : AreAt (closed e end.offsets gone 0 end.offsets.number t.wire.datagrams) t.written (kept_forwarded_of samples all_steps t)
    written = subst (AreAt (closed e end.offsets gone 0 end.offsets.number t.wire.datagrams) t.written) (walk.outs_are gone) (written_by walk.end walk.outs end.agrees walk.wrote)

    pictures : sends_no_ids sender.packetizer ≡ false → end.offsets.pictures ≡ firsts_of samples all_steps t
    pictures moves =
        let all = all_known moves in
        pictures_are first_id gone end.highs end.offsets.pictures happened t.wire.sending.packetizer t.wire.datagrams all.frames all.total whole.whole end.falls (all.under tt) (end.tracks moves)

    writes : WritesKept samples all_steps s t end.offsets
    writes = record { written = written; pictures = pictures }

    -- The receiver is within its windows

    module _ (within : IsLeftOutWithinWindows samples all_steps (begins_forwarding sender forwarder receiver) t) where
      viewer_one_stream : AreOfOneStream (viewer_sender (without_ids t.forwarder) sender) within.settings within.depacketizer
      viewer_one_stream = record {
        built_in = within.one_stream.built_in;
        alike = within.one_stream.alike;
        nothing_read = within.one_stream.nothing_read;
        clock_rate = within.one_stream.clock_rate;
        payload_type = within.one_stream.payload_type;
        not_rtcp = within.one_stream.not_rtcp;
        ssrc = within.one_stream.ssrc;
        not_again = again_same within.settings.retransmission (viewer_sender (without_ids e) sender).stream (viewer_sender (without_ids e) sender).stream.number 0 ∙ within.one_stream.not_again;
        drops_none = within.one_stream.drops_none;
      }

      first_one_stream : (settings : Settings) (depacketizer : DepacketizerState) → AreOfOneStream (viewer_sender (without_ids e) sender) settings depacketizer → AreOfOneStream first settings depacketizer
      first_one_stream settings depacketizer is = record {
        built_in = is.built_in;
        alike = is.alike;
        nothing_read = is.nothing_read;
        clock_rate = is.clock_rate;
        payload_type = is.payload_type;
        not_rtcp = is.not_rtcp;
        ssrc = is.ssrc;
        not_again = again_same settings.retransmission first.stream first.stream.number (viewer_sender (without_ids e) sender).stream.number ∙ is.not_again;
        drops_none = is.drops_none;
      }

      is_within : IsWithinWindows all_samples steps first receiver entries
      is_within =
          let w = moved_within (without_ids e) samples steps sender receiver entries within.settings within.depacketizer whole.widths.clock_rate within.new viewer_one_stream within.readable within.within within.timely in
          record {
            settings = w.settings;
            depacketizer = w.depacketizer;
            new = w.new;
            one_stream = first_one_stream w.settings w.depacketizer w.one_stream;
            readable = w.readable;
            within = w.within;
            timely = w.timely;
          }

      takes : Takes None (received_steps all_samples 0 steps entries) whole_run.datagrams receiver whole_run.pops whole_run.session
      takes = takes_of None all_samples steps unknown receiver saw course

      kept_all : SendsFrom all_samples steps first receiver whole_run → ReleasesKept samples all_steps s t
      kept_all sends_from =
          let promises : KeepsPromises all_samples steps (begins first receiver) whole_run = keeps_all None all_samples steps first receiver whole_run takes sends_from tt is_within in
          record {
            offsets = end.offsets;
            writes = writes;
            promises = promises;
            canonical = promises.released.canonical ∙ same_units (without_ids e) rate sender.packetizer samples (sending_steps sender.mtu steps);
          }

      -- A packetizer without ids

      plain_sends : packetizer ≡ sender.packetizer → SendsFrom all_samples steps first receiver whole_run
      plain_sends is start small same =
          let buffer : State = receiver.packets.buffer in
          let built : is_built_in packetizer ≡ true = ap is_built_in is ∙ within.one_stream.built_in in
          let runs : SendsRun buffer first.stream first.mtu start 0 all_samples steps (begins unknown receiver) saw [] =
          sends_run buffer first.stream first.mtu start small all_samples None 0 steps (begins unknown receiver) saw []
          (record { mtu = refl; built_in = built; kept = refl; number = same; reads = tt; numbered = tt; few = omega arith }) course in
          let before : RunState = running buffer start rate first [] in
          let after : RunState = running buffer start rate led.end runs.all in
          let sends : List Step = sending_steps first.mtu steps in
          let unused : IsUnused before = starts_unused is_within.settings is_within.depacketizer first receiver start is_within.new is_within.one_stream in
          let exact : PlainRuns all_samples 0 sends before runs.entries [] after =
          subst (λ (p : PacketizerState). PlainRuns all_samples 0 sends (running buffer start rate (record first { packetizer = p }) []) runs.entries [] after) is runs.runs in
          record {
            all = runs.all;
            reads = runs.at.reads;
            numbered = runs.at.numbered;
            few = runs.at.few;
            times = runs.times ∙ ap (times_sent rate all_samples steps) (sym runs.sends_are);
            end = led.end;
            stream = streams plainly all_samples 0 sends before after runs.entries [] (unused_exactly all_samples sends before runs.entries [] after unused exact);
          }

      -- One that sends ids of VP8

      ids_sends : sends_no_ids sender.packetizer ≡ false → SendsFrom all_samples steps first receiver whole_run
      ids_sends moves start small same =
          let allowed = whole.ids moves in
          let buffer : State = receiver.packets.buffer in
          let of : keeps_packetizer codecs.Vp8 sender.packetizer ≡ true = subst (λ (c : Codec). keeps_packetizer c sender.packetizer ≡ true) allowed.0 whole.of_codec in
          let vp8 = is_vp8 sender.packetizer of in
          let ids = vp8_with sender.packetizer vp8.0 vp8.1 moves in
          let codec_is : e.settings.codec ≡ codecs.Vp8 = ap (λ (x : ForwardSettings). x.codec) settings ∙ allowed.0 in
          let o : Offsets = end.offsets in
          let c : Comes e final.fits_type final.fits_ssrc rate final.some o codec_is gone (end.pictures moves) (end.among moves) samples sender.mtu allowed.1 buffer start small (omega (arith, same)) steps entries t ids.0 [] =
          comes e final.fits_type final.fits_ssrc rate final.some o codec_is gone (end.pictures moves) (end.among moves) samples sender.mtu allowed.1 buffer start small (omega (arith, same)) happened s t [] ids.0 []
          (record { id = ids.0; own = ids.1; mtu_is = refl; clock = refl; reads = tt; numbers = tt; few = omega arith }) whole.whole happens in
          record {
            all = c.all;
            reads = c.reads;
            numbered = c.numbers;
            few = c.few;
            times = c.times;
            end = record first { packetizer = Vp8Packetizing (Some c.last) };
            stream = subst (λ (p : PacketizerState). Streams all_samples (sending_steps sender.mtu steps) (running buffer start rate (record first { packetizer = p }) []) (running buffer start rate (record first { packetizer = Vp8Packetizing (Some c.last) }) c.all))
                (sym ids.1) c.streams;
          }

  writes_by : (b : Bool) → sends_no_ids sender.packetizer ≡ b → (offsets : Offsets) × WritesKept samples all_steps (begins_forwarding sender forwarder receiver) t offsets
  writes_by true none = (_, writes sender.packetizer (λ _. refl) (λ _. none))
  writes_by false moves = (_, writes BoxedPacketizing (λ built. absurd (cc)) (λ built. absurd (cc)))

  by_ids : (within : IsLeftOutWithinWindows samples all_steps (begins_forwarding sender forwarder receiver) t) (b : Bool) → sends_no_ids sender.packetizer ≡ b
      → ReleasesKept samples all_steps (begins_forwarding sender forwarder receiver) t
  by_ids within true none =
      kept_all sender.packetizer (λ _. refl) (λ _. none) within (plain_sends sender.packetizer (λ _. refl) (λ _. none) within refl)
  by_ids within false moves =
      kept_all BoxedPacketizing (λ built. absurd (cc)) (λ built. absurd (cc)) within (ids_sends BoxedPacketizing (λ built. absurd (cc)) (λ built. absurd (cc)) within moves)

pub forward_leaving_out : ForwardLeavingOut
forward_leaving_out samples all_steps sender forwarder receiver t run whole = writes_by samples all_steps sender forwarder receiver t run whole (sends_no_ids sender.packetizer) refl

pub release_leaving_out : ReleaseLeavingOut
release_leaving_out samples all_steps sender forwarder receiver t run within =
    by_ids samples all_steps sender forwarder receiver t run within.leaves within (sends_no_ids sender.packetizer) refl
