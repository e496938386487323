-- The units that a viewer's receiver releases behind a forwarder that writes packets again, from the theorem of runs over one hop.
use Rattle.std.proofs.Common.{◌≡◌, ◌∙◌, refl, sym, ap, subst, ℕ, ◌^◌, ◌<◌, List, [], Bool}
use Rattle.codec_payload_base.specs.declared.wire.Codec.{Codec}
use Rattle.codec_payload_payloader.specs.Sending.{Sample}
use Rattle.codec_payload_receiver.specs.Sessions.{Session}
use Rattle.codec_payload_sending.specs.Senders.{Sending}
use Rattle.codec_payload_sending_forward.specs.Forwarding.{Forward}
use Rattle.codec_payload_sending_forward.specs.declared.forwarder.Forwarded.{Forwarded}
use Rattle.codec_payload_sending_history.specs.Packets.{Past}
use Rattle.codec_payload_datagram_runs.proofs.Courses.{Proceeds}
use Rattle.codec_payload_datagram_runs.proofs.RedStepLemmas.{only_sends}
use Rattle.codec_payload_datagram_runs.specs.HistoryReleases.{AreHeard}
use Rattle.codec_payload_datagram_runs.specs.Releases.{IsWithinWindows, ReleasesUnits, sending_steps}
use Rattle.codec_payload_datagram_runs.specs.WireLogs.{KeepsPromises}
use Rattle.codec_payload_datagram_runs.specs.WireRuns.{Runs, begins}
use Rattle.codec_payload_datagram_runs.specs.declared.run.DatagramStep.{DatagramStep}
use Rattle.codec_payload_datagram_runs.specs.declared.run.SentSample.{SentSample}
use Rattle.codec_payload_forward_runs.proofs.ForwardLemmas.{moved_within, same_units}
use Rattle.codec_payload_forward_runs.proofs.SenderLemmas.{View, seen_wire}
use Rattle.codec_payload_forward_runs.proofs.StoreLemmas.{AllIn, none_in}
use Rattle.codec_payload_forward_runs.proofs.StoreViewerRuns.{StoreComes, store_at_end, store_comes, store_ends_on}
use Rattle.codec_payload_forward_runs.proofs.ViewerLemmas.{GoesOn}
use Rattle.codec_payload_forward_runs.proofs.ViewerReleases.{IsSeen, viewer_keeps, viewer_releases}
use Rattle.codec_payload_forward_runs.proofs.ViewerRuns.{Fit, IsAt, alone_from}
use Rattle.codec_payload_forward_runs.specs.ForwardReleases.{ForwardsStream, viewer_samples, viewer_sender, keeps_packetizer, keeps_payloads, viewer_wire}
use Rattle.codec_payload_forward_runs.specs.StoreReleases.{AreAgain, IsStoredWithinWindows, ReleaseWithStore, store_steps, store_steps_of}
use Rattle.codec_payload_forward_runs.specs.StoreRuns.{StoreRuns, Stored, begins_with_store}
use Rattle.codec_payload_forward_runs.specs.declared.store_run.StoreStep.{StoreStep}

module _ (samples : List Sample) (all_steps : List StoreStep) (sender : Sending) (forwarder : Forward) (receiver : Session) (store : Past) (t : Stored) (empty : store.packets ≡ [])
    (run : StoreRuns samples all_steps (begins_with_store sender forwarder receiver store) t) (forwards : ForwardsStream sender forwarder) where
  abbrev e : Forward
  e = t.hops.forwarder

  abbrev rate : ℕ
  rate = sender.stream.clock_rate

  abbrev codec : Codec
  codec = forwarder.settings.codec

  -- whether the packetizer is of the codec
  abbrev kind : Bool
  kind = keeps_packetizer codec sender.packetizer

  -- whether the payloads have no ids that close up
  abbrev steady : Bool
  steady = keeps_payloads codec sender.packetizer

  abbrev before : Stored
  before = begins_with_store sender forwarder receiver store

  pub begun : IsAt sender.stream.ssrc rate codec kind steady before.hops
  begun = record {
    source = record { source = refl; clock = refl; keeps = λ on. on; of_codec = λ on. on; all = tt };
    codec_is = refl;
    none = λ on. (forwards.none_left_out on, λ moves. forwards.none_closed moves on);
  }

  pub nothing_kept : AllIn [] store.packets
  nothing_kept = subst (AllIn []) (sym empty) (none_in [])

  pub came : StoreComes sender.stream.ssrc rate codec kind steady samples e all_steps before t [] []
  came = store_comes sender.stream.ssrc rate codec kind steady samples all_steps before t [] [] begun nothing_kept tt tt run

  pub on : GoesOn sender.stream.ssrc forwarder e
  on = store_ends_on sender.stream.ssrc rate codec kind steady samples all_steps before t begun nothing_kept run

  at_end : IsAt sender.stream.ssrc rate codec kind steady t.hops
  at_end = store_at_end sender.stream.ssrc rate codec kind steady samples all_steps before t begun nothing_kept run

  abbrev repeats : List ℕ
  repeats = came.left

  abbrev seen : List DatagramStep
  seen = store_steps_of samples all_steps t repeats

  module _ (within : IsStoredWithinWindows samples all_steps before t repeats) where
    hears : AreHeard e.settings.retransmissions receiver.stream.retransmission
    hears = subst (λ (s : _). AreHeard s.retransmissions receiver.stream.retransmission) (sym on.settings) within.heard

    is_within : IsWithinWindows (viewer_samples e rate samples) seen (viewer_sender e sender) receiver t.hops.wire.sends
    is_within = moved_within e samples seen sender receiver t.hops.wire.sends within.settings within.depacketizer within.widths.clock_rate within.new within.one_stream within.readable within.within within.timely

    course : (view : View) → Fit sender.stream.ssrc rate codec kind steady samples e view
        → Proceeds e.settings.retransmissions (viewer_samples e rate samples) seen (seen_wire view e (begins sender receiver)) (seen_wire view e t.hops.wire)
    course view fit =
        subst (λ (fs : List Bool). Proceeds e.settings.retransmissions (viewer_samples e rate samples) (store_steps samples 0 [] [] all_steps t.hops.wire.sends t.hops.answers fs repeats) (seen_wire view e (begins sender receiver)) (seen_wire view e t.hops.wire)) (sym came.founds)
        (subst (λ (rs : List Forwarded). Proceeds e.settings.retransmissions (viewer_samples e rate samples) (store_steps samples 0 [] [] all_steps t.hops.wire.sends rs came.found repeats) (seen_wire view e (begins sender receiver)) (seen_wire view e t.hops.wire)) (sym came.results)
        (subst (λ (es : List SentSample). Proceeds e.settings.retransmissions (viewer_samples e rate samples) (store_steps samples 0 [] [] all_steps es came.more came.found repeats) (seen_wire view e (begins sender receiver)) (seen_wire view e t.hops.wire)) (sym came.sends)
        (came.course view fit)))

    alone : (x : Forward) (view : View) (other : Session) → Fit sender.stream.ssrc rate codec kind steady samples x view
        → Runs (viewer_samples x rate samples) (only_sends seen) (alone_from other view x (begins sender receiver)) (alone_from other view x t.hops.wire)
    alone x view other fit =
        subst (λ (fs : List Bool). Runs (viewer_samples x rate samples) (only_sends (store_steps samples 0 [] [] all_steps t.hops.wire.sends t.hops.answers fs repeats)) (alone_from other view x (begins sender receiver)) (alone_from other view x t.hops.wire)) (sym came.founds)
        (subst (λ (rs : List Forwarded). Runs (viewer_samples x rate samples) (only_sends (store_steps samples 0 [] [] all_steps t.hops.wire.sends rs came.found repeats)) (alone_from other view x (begins sender receiver)) (alone_from other view x t.hops.wire)) (sym came.results)
        (subst (λ (es : List SentSample). Runs (viewer_samples x rate samples) (only_sends (store_steps samples 0 [] [] all_steps es came.more came.found repeats)) (alone_from other view x (begins sender receiver)) (alone_from other view x t.hops.wire)) (sym came.sends)
        (came.alone x view other fit)))

    is_seen : IsSeen e.settings.retransmissions codec samples seen e sender receiver t.hops.wire
    is_seen = record {
      course = course;
      alone = alone;
      of = at_end.source.all;
      codec_is = ap (λ (s : _). s.codec) on.settings;
      of_codec = within.of_codec;
      some = within.widths.clock_rate;
      fits_type = subst (λ (s : _). s.payload_type < 128) (sym on.settings) within.widths.payload_type;
      fits_ssrc = subst (λ (s : _). s.ssrc < 2 ^ 32) (sym on.settings) within.widths.ssrc;
      hears = hears;
      within = is_within;
    }

    pub releases : ReleasesUnits (viewer_samples e rate samples) seen (begins (viewer_sender e sender) receiver) (viewer_wire e t.hops.wire)
    releases = viewer_releases e.settings.retransmissions codec samples seen e sender receiver t.hops.wire is_seen

    pub keeps : KeepsPromises (viewer_samples e rate samples) seen (begins (viewer_sender e sender) receiver) (viewer_wire e t.hops.wire)
    keeps = viewer_keeps e.settings.retransmissions codec samples seen e sender receiver t.hops.wire is_seen

  pub again : AreAgain e t.hops.wire.datagrams t.again repeats
  again = came.again

pub release_with_store : ReleaseWithStore
release_with_store samples all_steps sender forwarder receiver store t run empty forwards = record {
  repeats = repeats samples all_steps sender forwarder receiver store t empty run forwards;
  are = again samples all_steps sender forwarder receiver store t empty run forwards;
  released = λ within. releases samples all_steps sender forwarder receiver store t empty run forwards within;
  canonical = λ within.
      (releases samples all_steps sender forwarder receiver store t empty run forwards within).canonical
      ∙ same_units t.hops.forwarder sender.stream.clock_rate sender.packetizer samples
      (sending_steps sender.mtu (store_steps_of samples all_steps t (repeats samples all_steps sender forwarder receiver store t empty run forwards)));
  promises = λ within. keeps samples all_steps sender forwarder receiver store t empty run forwards within;
}
