-- The units that a viewer's receiver releases, if the viewer gets the datagrams of one sender. The payloads are those of a packetizer, or
-- payloads of VP8 whose picture ids are moved.
use Rattle.std.proofs.Common.{◌≡◌, ◌∙◌, refl, sym, ap, subst, ℕ, ◌%◌, ◌^◌, ◌<◌, List, [], ◌∷◌, Bool, true, false, Option, Some, None, Result, Ok, map, arith}
use Rattle.std.proofs.lemmas.List.{length-map}
use Rattle.codec_payload_base.specs.declared.wire.Codec.{Codec}
use Rattle.codec_payload_base.specs.declared.wire.Codec.TheVariants as codecs
use Rattle.codec_payload_buffer.specs.Steps.{State}
use Rattle.codec_payload_buffer_runs.proofs.units.BuiltInRuns.{Runs as PlainRuns, plainly, unused_exactly}
use Rattle.codec_payload_buffer_runs.proofs.units.StreamLemmas.{Streams}
use Rattle.codec_payload_buffer_runs.specs.Headline.{IsUnused}
use Rattle.codec_payload_buffer_runs.specs.Schedule.{RunState, run_state}
use Rattle.codec_payload_buffer_runs.specs.declared.run.Step.{Step}
use Rattle.codec_payload_codec.specs.Packetizers.{PacketizerState, Vp8Packetizing, is_built_in}
use Rattle.codec_payload_payloader.specs.Packets.{Packet}
use Rattle.codec_payload_payloader.specs.Sending.{Sample}
use Rattle.codec_payload_receiver.specs.Sessions.{Session}
use Rattle.codec_payload_rtp.specs.RtpPackets as rtp
use Rattle.codec_payload_rtp.specs.RtpReading.{rtp_at}
use Rattle.codec_payload_rtp.specs.declared.rtp.RtpError.{RtpError}
use Rattle.codec_payload_sending.specs.Datagrams.{header_with}
use Rattle.codec_payload_sending.specs.Senders.{Sending}
use Rattle.codec_payload_sending.specs.declared.sender.Outgoing.{Outgoing}
use Rattle.codec_payload_sending_forward.specs.Forwarding.{Forward, payload_for}
use Rattle.codec_payload_sending_forward.specs.Vp8Numbers.{payload_as}
use Rattle.codec_payload_sending_forward.specs.declared.ids.IdOffsets.{IdOffsets}
use Rattle.codec_payload_sending_history.specs.declared.retransmission.RetransmissionStream.{RetransmissionStream}
use Rattle.codec_payload_datagram_runs.proofs.Courses.{Proceeds, proceeds}
use Rattle.codec_payload_datagram_runs.proofs.RedStepLemmas.{only_sends, same_sends, same_times}
use Rattle.codec_payload_datagram_runs.proofs.ReleaseLemmas.{SendsFrom, keeps_all, keeps_promises, releases_all, releases_each, starts_unused, takes_of}
use Rattle.codec_payload_datagram_runs.proofs.SendingLemmas.{SendsRun, sends_run, times_in}
use Rattle.codec_payload_datagram_runs.proofs.StepLemmas.{Takes}
use Rattle.codec_payload_datagram_runs.specs.HistoryReleases.{AreHeard}
use Rattle.codec_payload_datagram_runs.specs.Releases.{AreDatagrams, IsWithinWindows, ReadsAs, ReleasesUnits, received_steps, sending_steps, times_sent}
use Rattle.codec_payload_datagram_runs.specs.WireLogs.{KeepsPromises}
use Rattle.codec_payload_datagram_runs.specs.WireRuns.{Runs, Wire, begins}
use Rattle.codec_payload_datagram_runs.specs.declared.run.DatagramStep.{DatagramStep}
use Rattle.codec_payload_forward_runs.proofs.KeptPayloads.{is_vp8}
use Rattle.codec_payload_forward_runs.proofs.MovedStreams.{moved_packet, moved_packets, moved_streams, numbered_moved}
use Rattle.codec_payload_forward_runs.proofs.SenderLemmas.{View, moved_view, reads, same_view, seen_sender, seen_wire, unchanged, unknown, unknown_view, without_ids}
use Rattle.codec_payload_forward_runs.proofs.SourceLemmas.{AllOf, IsDatagramOf}
use Rattle.codec_payload_forward_runs.proofs.ViewerRuns.{Fit, Good, alone_from}
use Rattle.codec_payload_forward_runs.specs.ForwardReleases.{keeps_packetizer, keeps_payloads, moved_packetizer, viewer_datagram, viewer_packet, viewer_packetizer, viewer_samples, viewer_sender, viewer_stream, viewer_wire}

-- A packetizer that sends ids which close up

pub record HasIds (codec : Codec) (packetizer : PacketizerState) : Type 0 where
  pub codec_is : codec ≡ codecs.Vp8
  pub id : ℕ
  pub is : packetizer ≡ Vp8Packetizing (Some id)

vp8_has_ids : (packetizer : PacketizerState) (id : Option ℕ) → packetizer ≡ Vp8Packetizing id → keeps_payloads codecs.Vp8 packetizer ≡ false → HasIds codecs.Vp8 packetizer
vp8_has_ids packetizer (Some id) is moves = record { codec_is = refl; id = id; is = is }
vp8_has_ids packetizer None is moves = let keeps : keeps_payloads codecs.Vp8 packetizer ≡ true = ap (keeps_payloads codecs.Vp8) is in absurd (cc)

has_ids : (codec : Codec) (packetizer : PacketizerState) → keeps_payloads codec packetizer ≡ false → keeps_packetizer codec packetizer ≡ true → HasIds codec packetizer
has_ids codecs.Vp8 packetizer moves of = let is = is_vp8 packetizer of in vp8_has_ids packetizer is.0 is.1 moves
has_ids codecs.Vp9 packetizer moves of = absurd (cc)
has_ids codecs.Opus packetizer moves of = absurd (cc)
has_ids codecs.PCMU packetizer moves of = absurd (cc)
has_ids codecs.PCMA packetizer moves of = absurd (cc)
has_ids codecs.G722 packetizer moves of = absurd (cc)
has_ids codecs.CN packetizer moves of = absurd (cc)
has_ids codecs.AmrWb packetizer moves of = absurd (cc)
has_ids codecs.H264 packetizer moves of = absurd (cc)
has_ids codecs.H265 packetizer moves of = absurd (cc)
has_ids codecs.H266 packetizer moves of = absurd (cc)
has_ids codecs.Av1 packetizer moves of = absurd (cc)
has_ids codecs.Null packetizer moves of = absurd (cc)
has_ids codecs.Tele packetizer moves of = absurd (cc)
has_ids codecs.Rtx packetizer moves of = absurd (cc)
has_ids codecs.Red packetizer moves of = absurd (cc)
has_ids codecs.Unknown packetizer moves of = absurd (cc)

pub times_moved : (o : IdOffsets) (qs : List Packet) → times_in (moved_packets o qs) ≡ times_in qs
times_moved o [] = refl
times_moved o (q ∷ qs) = ap (λ (ts : List ℕ). q.rtp_time ∷ ts) (times_moved o qs)

-- the ids of a packetizer of VP8 stay in the packetizer
same_packetizer : (codec : Codec) (o : IdOffsets) (packetizer : PacketizerState) → codec ≡ codecs.Vp8 → moved_packetizer codec o packetizer ≡ packetizer
same_packetizer codec o packetizer is = ap (λ (c : Codec). moved_packetizer c o packetizer) is

same_packet : (p q : rtp.Packet) → ◌≡◌ {A = Result rtp.Packet RtpError} (Ok p) (Ok q) → p ≡ q
same_packet p q same = cc

module _ (e : Forward) (fits_type : e.settings.payload_type < 128) (fits_ssrc : e.settings.ssrc < 2 ^ 32) (steady : Bool) (ssrc : ℕ) (codec : Codec) (codec_is : e.settings.codec ≡ codecs.Vp8)
    (stream : Outgoing) where
  abbrev o : IdOffsets
  o = e.ids.offsets

  abbrev x : Forward
  x = without_ids e

  -- a payload with its ids moved
  abbrev moves : rtp.Packet → rtp.Packet
  moves p = record p { payload = payload_as o p.payload }

  moved_is : (p : rtp.Packet) → viewer_packet e p ≡ moves (viewer_packet x p)
  moved_is p = ap (λ (c : Codec). record (viewer_packet x p) { payload = payload_for c o p.payload }) codec_is

  reads_one : (q : Packet) (d : List ℕ) → IsDatagramOf steady ssrc codec d → ReadsAs stream q (viewer_datagram x d) → ReadsAs stream (moved_packet o q) (viewer_datagram e d)
  reads_one q d of is =
      let p : rtp.Packet = of.0 in
      let here : rtp_at (viewer_datagram x d) ≡ Ok (viewer_packet x p) = reads x fits_type fits_ssrc d p of.1 (omega (arith, of.2.padding)) in
      let sent : rtp.Packet = record { header = header_with stream (record { marker = q.marker; number = q.number % 2 ^ 16; time = q.rtp_time }) q.ext_vals; payload = q.payload; padding = 0 } in
      let same : viewer_packet x p ≡ sent = same_packet (viewer_packet x p) sent (sym here ∙ is) in
      reads e fits_type fits_ssrc d p of.1 (omega (arith, of.2.padding)) ∙ (ap (λ (z : rtp.Packet). Ok z) (moved_is p) ∙ ap (λ (z : rtp.Packet). Ok (moves z)) same)

  pub reads_moved : (qs : List Packet) (ds : List (List ℕ)) → AllOf steady ssrc codec ds → AreDatagrams stream qs (map (viewer_datagram x) ds)
      → AreDatagrams stream (moved_packets o qs) (map (viewer_datagram e) ds)
  reads_moved [] [] of are = tt
  reads_moved [] (d ∷ ds) of are = absurd are
  reads_moved (q ∷ qs) [] of are = absurd are
  reads_moved (q ∷ qs) (d ∷ ds) of are = (reads_one q d of.0 are.0, reads_moved qs ds of.1 are.1)

-- A run

module _ (again : Option RetransmissionStream) (codec : Codec) (samples : List Sample) (seen : List DatagramStep) (e : Forward) (sender : Sending) (receiver : Session) (t : Wire) where
  abbrev rate : ℕ
  rate = sender.stream.clock_rate

  abbrev ssrc : ℕ
  ssrc = sender.stream.ssrc

  abbrev kind : Bool
  kind = keeps_packetizer codec sender.packetizer

  abbrev steady : Bool
  steady = keeps_payloads codec sender.packetizer

  abbrev Fits : Forward → View → Type 0
  Fits = Fit ssrc rate codec kind steady samples

  abbrev all_samples : List Sample
  all_samples = viewer_samples e rate samples

  -- The run, for any view of its packetizers. Its datagrams are packets of the sender
  pub record IsSeen : Type 0 where
    pub course : (view : View) → Fits e view → Proceeds again all_samples seen (seen_wire view e (begins sender receiver)) (seen_wire view e t)
    pub alone : (x : Forward) (view : View) (other : Session) → Fits x view
        → Runs (viewer_samples x rate samples) (only_sends seen) (alone_from other view x (begins sender receiver)) (alone_from other view x t)
    pub of : AllOf steady ssrc codec t.datagrams
    pub codec_is : e.settings.codec ≡ codec
    pub of_codec : kind ≡ true
    pub some : 0 < rate
    pub fits_type : e.settings.payload_type < 128
    pub fits_ssrc : e.settings.ssrc < 2 ^ 32
    pub hears : AreHeard again receiver.stream.retransmission
    pub within : IsWithinWindows all_samples seen (viewer_sender e sender) receiver t.sends

  module _ (is : IsSeen) where
    -- the payloads are those of the viewer's packetizer
    kept_fit : steady ≡ true → Fits e (viewer_packetizer e)
    kept_fit plain = (
      is.some,
      is.fits_type,
      is.fits_ssrc,
      moved_view e (Good ssrc rate codec kind steady samples) (λ packetizer good. (
        subst (λ (c : Codec). keeps_payloads c packetizer ≡ true) (sym is.codec_is) (good.0 plain),
        subst (λ (c : Codec). keeps_packetizer c packetizer ≡ true) (sym is.codec_is) (good.1 is.of_codec),
      )),
    )

    -- or they have ids of VP8
    module _ (moves : steady ≡ false) where
      ids : HasIds codec sender.packetizer
      ids = has_ids codec sender.packetizer moves is.of_codec

      is_vp8_codec : e.settings.codec ≡ codecs.Vp8
      is_vp8_codec = is.codec_is ∙ ids.codec_is

      any_fit : Fits e unknown
      any_fit = (is.some, is.fits_type, is.fits_ssrc, unknown_view e (Good ssrc rate codec kind steady samples))

      plain_fit : Fits (without_ids e) unchanged
      plain_fit = (is.some, is.fits_type, is.fits_ssrc, same_view e (Good ssrc rate codec kind steady samples))

      takes : Takes again (received_steps all_samples 0 seen t.sends) (map (viewer_datagram e) t.datagrams) receiver t.pops t.session
      takes = takes_of again all_samples seen (seen_sender unknown e sender) receiver (seen_wire unknown e t) (is.course unknown any_fit)

      abbrev buffer : State
      buffer = receiver.packets.buffer

      abbrev before : ℕ → PacketizerState → RunState
      before start packetizer = run_state (record { packetizer = packetizer; clock_rate = rate }) buffer (record { first = start; packets = [] })

      own_packetizer : viewer_packetizer e sender.packetizer ≡ sender.packetizer
      own_packetizer = same_packetizer e.settings.codec e.ids.offsets sender.packetizer is_vp8_codec

      sends_from : SendsFrom all_samples seen (viewer_sender e sender) receiver (viewer_wire e t)
      sends_from start small same =
          let x : Forward = without_ids e in
          let stream : Outgoing = viewer_stream e sender.stream in
          let end : Wire = alone_from receiver unchanged x t in
          let mid : SendsRun buffer stream sender.mtu start 0 all_samples (only_sends seen) (begins (seen_sender unchanged x sender) receiver) end [] =
          sends_run buffer stream sender.mtu start small all_samples None 0 (only_sends seen) (begins (seen_sender unchanged x sender) receiver) end []
          (record { mtu = refl; built_in = ap is_built_in ids.is; kept = refl; number = same; reads = tt; numbered = tt; few = omega arith })
          (proceeds None all_samples (only_sends seen) (begins (seen_sender unchanged x sender) receiver) end (is.alone x unchanged receiver plain_fit)) in
          let sends : List Step = sending_steps sender.mtu (only_sends seen) in
          let after : RunState = run_state (record { packetizer = t.sending.packetizer; clock_rate = rate }) buffer (record { first = start; packets = mid.all }) in
          let unused : IsUnused (before start sender.packetizer) = subst (λ (p : PacketizerState). IsUnused (before start p)) own_packetizer
          (starts_unused is.within.settings is.within.depacketizer (viewer_sender e sender) receiver start is.within.new is.within.one_stream) in
          let exact : PlainRuns plainly all_samples 0 sends (before start sender.packetizer) mid.entries [] after =
          unused_exactly all_samples sends (before start sender.packetizer) mid.entries [] after unused mid.runs in
          let moved : List Packet = moved_packets e.ids.offsets mid.all in
          let ended : RunState = run_state (record { packetizer = t.sending.packetizer; clock_rate = rate }) buffer (record { first = start; packets = moved }) in
          let streams : Streams all_samples sends (before start sender.packetizer) ended =
          moved_streams e.ids.offsets all_samples sender.mtu 0 ids.id (only_sends seen) (before start sender.packetizer) after mid.entries [] ids.is exact in
          record {
            all = moved;
            reads = reads_moved e is.fits_type is.fits_ssrc steady ssrc codec is_vp8_codec stream mid.all t.datagrams is.of mid.at.reads;
            numbered = numbered_moved e.ids.offsets start mid.all mid.at.numbered;
            few = omega (arith, length-map mid.all (moved_packet e.ids.offsets), mid.at.few);
            times = times_moved e.ids.offsets mid.all ∙ (mid.times ∙ (ap (times_sent rate all_samples (only_sends seen)) (sym mid.sends_are) ∙ same_times rate all_samples seen t.sends));
            end = end.sending;
            stream = subst (λ (p : PacketizerState). Streams all_samples (sending_steps sender.mtu seen) (before start p) ended) (sym own_packetizer)
                (subst (λ (ss : List Step). Streams all_samples ss (before start sender.packetizer) ended) (same_sends sender.mtu seen) streams);
          }

    releases_by : (b : Bool) → steady ≡ b → ReleasesUnits all_samples seen (begins (viewer_sender e sender) receiver) (viewer_wire e t)
    releases_by true plain = releases_all again all_samples seen (viewer_sender e sender) receiver (viewer_wire e t) (is.course (viewer_packetizer e) (kept_fit plain)) is.hears is.within
    releases_by false moves = releases_each again all_samples seen (viewer_sender e sender) receiver (viewer_wire e t) (takes moves) (sends_from moves) is.hears is.within

    keeps_by : (b : Bool) → steady ≡ b → KeepsPromises all_samples seen (begins (viewer_sender e sender) receiver) (viewer_wire e t)
    keeps_by true plain = keeps_promises again all_samples seen (viewer_sender e sender) receiver (viewer_wire e t) (is.course (viewer_packetizer e) (kept_fit plain)) is.hears is.within
    keeps_by false moves = keeps_all again all_samples seen (viewer_sender e sender) receiver (viewer_wire e t) (takes moves) (sends_from moves) is.hears is.within

    pub viewer_releases : ReleasesUnits all_samples seen (begins (viewer_sender e sender) receiver) (viewer_wire e t)
    viewer_releases = releases_by steady refl

    pub viewer_keeps : KeepsPromises all_samples seen (begins (viewer_sender e sender) receiver) (viewer_wire e t)
    viewer_keeps = keeps_by steady refl
