-- The units that a viewer's receiver releases behind a forwarder, from the theorem of runs over one hop.
use Rattle.std.proofs.Common.{◌≡◌, ◌∙◌, refl, sym, ap, subst, ℕ, zero, suc, ◌+◌, ◌^◌, ◌<◌, List, [], ◌∷◌, ◌++◌, Bool, true, false, cond, ltb, Option, Some, Ok, None, length, map, replicate, arith}
use Rattle.std.specs.Prelude.{slice_get, slice_index_or}
use Rattle.std.specs.Option.{option_map}
use Rattle.std.proofs.lemmas.Bool.{ltb-true}
use Rattle.std.proofs.lemmas.List.{length-append, length-replicate}
use Rattle.std.proofs.lemmas.Option.{slice_get-map}
use Rattle.codec_payload_base.specs.declared.wire.Codec.{Codec}
use Rattle.codec_payload_buffer_runs.specs.SentStream.{AreReadable, packetizer_after_sample, units_of_run, units_of_sample}
use Rattle.codec_payload_buffer_runs.specs.Units.{canonical_units, is_readable}
use Rattle.codec_payload_buffer_runs.specs.declared.run.Step.{Step}
use Rattle.codec_payload_buffer_runs.specs.declared.run.Step.TheVariants as run_steps
use Rattle.codec_payload_codec.specs.Packetizers.{PacketizerState}
use Rattle.codec_payload_payloader.specs.Sending.{Sample, rtp_time_at}
use Rattle.codec_payload_receiver.specs.Sessions.{Session, session_by}
use Rattle.codec_payload_receiver.specs.declared.receiver.Settings.{Settings}
use Rattle.codec_payload_codec.specs.Depacketizers.{DepacketizerState}
use Rattle.codec_payload_sending.specs.Senders.{Sending}
use Rattle.codec_payload_sending_forward.specs.Forwarding.{Forward}
use Rattle.codec_payload_sending_forward.specs.Times.{time_as}
use Rattle.codec_payload_sending_forward.specs.declared.forwarder.Forwarded.{Forwarded}
use Rattle.codec_payload_datagram_runs.proofs.Courses.{proceeds}
use Rattle.codec_payload_datagram_runs.proofs.RedStepLemmas.{only_sends}
use Rattle.codec_payload_datagram_runs.specs.Releases.{AreOfOneStream, AreTimely, ComeTimely, ComeWithin, IsTimely, IsWithinWindows, delivered, received_steps, sending_steps, sends_after, sent_after, times_of, times_sent}
use Rattle.codec_payload_datagram_runs.specs.WireRuns.{Runs, begins}
use Rattle.codec_payload_datagram_runs.specs.declared.run.DatagramStep.{DatagramStep}
use Rattle.codec_payload_datagram_runs.specs.declared.run.DatagramStep.TheVariants as plain
use Rattle.codec_payload_datagram_runs.specs.declared.run.SentSample.{SentSample}
use Rattle.codec_payload_forward_runs.proofs.MovedPayloads.{after_moves, same_fact}
use Rattle.codec_payload_forward_runs.proofs.SenderLemmas.{View, map_append, seen_wire, viewer_time}
use Rattle.codec_payload_forward_runs.proofs.ViewerLemmas.{GoesOn}
use Rattle.codec_payload_forward_runs.proofs.ViewerReleases.{IsSeen, viewer_keeps, viewer_releases}
use Rattle.codec_payload_forward_runs.proofs.ViewerRuns.{Comes, Fit, IsAt, alone_from, comes, ends_on, is_at_end}
use Rattle.codec_payload_forward_runs.specs.ForwardReleases.{AreForwarded, ForwardsStream, IsForwardedWithinWindows, PacketsForwarded, PromisesForwarded, ReleaseForwarded, forwarded_in, forwarded_of, viewer_sample, viewer_packetizer, viewer_samples, viewer_sender, viewer_steps, viewer_steps_of, keeps_packetizer, keeps_payloads}
use Rattle.codec_payload_forward_runs.specs.ForwardRuns.{ForwardRuns, Hops, begins_forwarding}
use Rattle.codec_payload_forward_runs.specs.declared.run.ForwardStep.{ForwardStep}

-- What does not depend on the times of samples

module _ (v : Sample → Sample) where
  sent_same : (sent : ℕ) (o : Option Sample) (sends : List SentSample) → sent_after sent (option_map v o) sends ≡ sent_after sent o sends
  sent_same sent None sends = refl
  sent_same sent (Some sample) [] = refl
  sent_same sent (Some sample) (entry ∷ sends) = refl

  sends_same : (o : Option Sample) (sends : List SentSample) → sends_after (option_map v o) sends ≡ sends_after o sends
  sends_same None sends = refl
  sends_same (Some sample) [] = refl
  sends_same (Some sample) (entry ∷ sends) = refl

  sent_at : (samples : List Sample) (i sent : ℕ) (sends : List SentSample) → sent_after sent (slice_get (map v samples) i) sends ≡ sent_after sent (slice_get samples i) sends
  sent_at samples i sent sends = ap (λ (o : Option Sample). sent_after sent o sends) (slice_get-map v samples i) ∙ sent_same sent (slice_get samples i) sends

  sends_at : (samples : List Sample) (i : ℕ) (sends : List SentSample) → sends_after (slice_get (map v samples) i) sends ≡ sends_after (slice_get samples i) sends
  sends_at samples i sends = ap (λ (o : Option Sample). sends_after o sends) (slice_get-map v samples i) ∙ sends_same (slice_get samples i) sends

  pub received_same : (samples : List Sample) (sent : ℕ) (all_steps : List DatagramStep) (sends : List SentSample)
      → received_steps (map v samples) sent all_steps sends ≡ received_steps samples sent all_steps sends
  received_same samples sent [] sends = refl
  received_same samples sent (plain.Send i ∷ later) sends =
      ap (λ (n : ℕ). received_steps (map v samples) n later (sends_after (slice_get (map v samples) i) sends)) (sent_at samples i sent sends)
      ∙ (ap (received_steps (map v samples) (sent_after sent (slice_get samples i) sends) later) (sends_at samples i sends)
      ∙ received_same samples (sent_after sent (slice_get samples i) sends) later (sends_after (slice_get samples i) sends))
  received_same samples sent (plain.Deliver k now ∷ later) sends =
      ap (λ (rest : List DatagramStep). cond (ltb k sent) (plain.Deliver k now ∷ rest) rest) (received_same samples sent later sends)
  received_same samples sent (plain.Pop now ∷ later) sends = ap (λ (rest : List DatagramStep). plain.Pop now ∷ rest) (received_same samples sent later sends)
  received_same samples sent (plain.Finish ∷ later) sends = ap (λ (rest : List DatagramStep). plain.Finish ∷ rest) (received_same samples sent later sends)

-- the units are those of the bytes
module _ (f : Forward) (rate : ℕ) where
  abbrev moved : List Sample → List Sample
  moved = viewer_samples f rate

  units_same : (packetizer : PacketizerState) (mtu : ℕ) (o : Option Sample) → units_of_sample packetizer mtu (option_map (viewer_sample f rate) o) ≡ units_of_sample packetizer mtu o
  units_same packetizer mtu None = refl
  units_same packetizer mtu (Some sample) = refl

  after_same : (packetizer : PacketizerState) (mtu : ℕ) (o : Option Sample) → packetizer_after_sample packetizer mtu (option_map (viewer_sample f rate) o) ≡ packetizer_after_sample packetizer mtu o
  after_same packetizer mtu None = refl
  after_same packetizer mtu (Some sample) = refl

  units_at : (packetizer : PacketizerState) (mtu i : ℕ) (samples : List Sample) → units_of_sample packetizer mtu (slice_get (moved samples) i) ≡ units_of_sample packetizer mtu (slice_get samples i)
  units_at packetizer mtu i samples = ap (units_of_sample packetizer mtu) (slice_get-map (viewer_sample f rate) samples i) ∙ units_same packetizer mtu (slice_get samples i)

  after_at : (packetizer : PacketizerState) (mtu i : ℕ) (samples : List Sample)
      → packetizer_after_sample packetizer mtu (slice_get (moved samples) i) ≡ packetizer_after_sample packetizer mtu (slice_get samples i)
  after_at packetizer mtu i samples = ap (packetizer_after_sample packetizer mtu) (slice_get-map (viewer_sample f rate) samples i) ∙ after_same packetizer mtu (slice_get samples i)

  -- and they do not depend on moved ids
  abbrev moves : PacketizerState → PacketizerState
  moves = viewer_packetizer f

  units_move : (packetizer : PacketizerState) (mtu : ℕ) (o : Option Sample) → units_of_sample (moves packetizer) mtu o ≡ units_of_sample packetizer mtu o
  units_move packetizer mtu None = refl
  units_move packetizer mtu (Some sample) = same_fact (λ (p : PacketizerState). canonical_units p mtu sample.bytes) f.settings.codec f.ids.offsets packetizer (λ s. refl)

  after_move : (packetizer : PacketizerState) (mtu : ℕ) (o : Option Sample) → packetizer_after_sample (moves packetizer) mtu o ≡ moves (packetizer_after_sample packetizer mtu o)
  after_move packetizer mtu None = refl
  after_move packetizer mtu (Some sample) = after_moves f.settings.codec f.ids.offsets packetizer mtu sample.bytes

  pub same_units : (packetizer : PacketizerState) (samples : List Sample) (all_steps : List Step) → units_of_run (moves packetizer) (moved samples) all_steps ≡ units_of_run packetizer samples all_steps
  same_units packetizer samples [] = refl
  same_units packetizer samples (run_steps.Send i mtu ∷ later) =
      let o : Option Sample = slice_get samples i in
      ap (λ (us : List (List (List ℕ))). us ++ units_of_run (packetizer_after_sample (moves packetizer) mtu (slice_get (moved samples) i)) (moved samples) later)
      (units_at (moves packetizer) mtu i samples ∙ units_move packetizer mtu o)
      ∙ (ap (λ (p : PacketizerState). units_of_sample packetizer mtu o ++ units_of_run p (moved samples) later) (after_at (moves packetizer) mtu i samples ∙ after_move packetizer mtu o)
      ∙ ap (λ (us : List (List (List ℕ))). units_of_sample packetizer mtu o ++ us) (same_units (packetizer_after_sample packetizer mtu o) samples later))
  same_units packetizer samples (run_steps.Push k ∷ later) = same_units packetizer samples later
  same_units packetizer samples (run_steps.Pop ∷ later) = same_units packetizer samples later

  same_readable : (packetizer : PacketizerState) (samples : List Sample) → AreReadable packetizer samples → AreReadable (moves packetizer) (moved samples)
  same_readable packetizer [] readable = tt
  same_readable packetizer (sample ∷ samples) readable =
      (same_fact (λ (p : PacketizerState). is_readable p sample.bytes) f.settings.codec f.ids.offsets packetizer (λ s. refl) ∙ readable.0, same_readable packetizer samples readable.1)

-- Times

-- all of these numbers are below a bound
abbrev AllUnder : ℕ → List ℕ → Type 0
AllUnder bound [] = Unit {0}
AllUnder bound (n ∷ ns) = (n < bound) × AllUnder bound ns

under_append : (bound : ℕ) (ns ms : List ℕ) → AllUnder bound ns → AllUnder bound ms → AllUnder bound (ns ++ ms)
under_append bound [] ms here more = more
under_append bound (n ∷ ns) ms here more = (here.0, under_append bound ns ms here.1 more)

under_at : (bound : ℕ) (ns : List ℕ) (k : ℕ) → 0 < bound → AllUnder bound ns → slice_index_or ns k 0 < bound
under_at bound [] k some all = some
under_at bound (n ∷ ns) zero some all = all.0
under_at bound (n ∷ ns) (suc k) some all = under_at bound ns k some all.1

under_replicate : (bound n time : ℕ) → time < bound → AllUnder bound (replicate n time)
under_replicate bound zero time small = tt
under_replicate bound (suc n) time small = (small, under_replicate bound n time small)

module _ (rate : ℕ) (samples : List Sample) where
  -- RTP times have 32 bits
  small_of : (o : Option Sample) (sends : List SentSample) → AllUnder (2 ^ 32) (times_of rate o sends)
  small_of None sends = tt
  small_of (Some sample) [] = tt
  small_of (Some sample) (entry ∷ sends) = under_replicate (2 ^ 32) entry.count (rtp_time_at rate sample.rtp_time) (omega arith)

  small : (all_steps : List DatagramStep) (sends : List SentSample) → AllUnder (2 ^ 32) (times_sent rate samples all_steps sends)
  small [] sends = tt
  small (plain.Send i ∷ later) sends =
      under_append (2 ^ 32) (times_of rate (slice_get samples i) sends) _ (small_of (slice_get samples i) sends) (small later (sends_after (slice_get samples i) sends))
  small (plain.Deliver k now ∷ later) sends = small later sends
  small (plain.Pop now ∷ later) sends = small later sends
  small (plain.Finish ∷ later) sends = small later sends

  -- each delivered datagram was sent
  count_of : (sent : ℕ) (o : Option Sample) (sends : List SentSample) → sent_after sent o sends ≡ sent + length (times_of rate o sends)
  count_of sent None sends = omega arith
  count_of sent (Some sample) [] = omega arith
  count_of sent (Some sample) (entry ∷ sends) = omega (arith, length-replicate {A = ℕ} entry.count (rtp_time_at rate sample.rtp_time))

  come_under : (sent : ℕ) (all_steps : List DatagramStep) (sends : List SentSample)
      → AllUnder (sent + length (times_sent rate samples all_steps sends)) (delivered (received_steps samples sent all_steps sends))
  come_under sent [] sends = tt
  come_under sent (plain.Send i ∷ later) sends =
      let o : Option Sample = slice_get samples i in
      let rest : List ℕ = times_sent rate samples later (sends_after o sends) in
      let count : sent_after sent o sends + length rest ≡ sent + length (times_of rate o sends ++ rest) = omega (arith, count_of sent o sends, length-append (times_of rate o sends) rest) in
      subst (λ (n : ℕ). AllUnder n (delivered (received_steps samples (sent_after sent o sends) later (sends_after o sends)))) count (come_under (sent_after sent o sends) later (sends_after o sends))
  come_under sent (plain.Deliver k now ∷ later) sends = by (ltb k sent) refl (come_under sent later sends)
    where
      by : (b : Bool) → ltb k sent ≡ b → AllUnder (sent + length (times_sent rate samples later sends)) (delivered (received_steps samples sent later sends))
          → AllUnder (sent + length (times_sent rate samples later sends)) (delivered (cond b (plain.Deliver k now ∷ received_steps samples sent later sends) (received_steps samples sent later sends)))
      by true e rest = (omega (arith, ltb-true k sent e), rest)
      by false e rest = rest
  come_under sent (plain.Pop now ∷ later) sends = come_under sent later sends
  come_under sent (plain.Finish ∷ later) sends = come_under sent later sends

-- a list of moved times
index_moves : (move : ℕ → ℕ) (ns : List ℕ) (k : ℕ) → k < length ns → slice_index_or (map move ns) k 0 ≡ move (slice_index_or ns k 0)
index_moves move [] k l = absurd (omega (arith, l))
index_moves move (n ∷ ns) zero l = refl
index_moves move (n ∷ ns) (suc k) l = index_moves move ns k (omega (arith, l))

replicate_moves : (move : ℕ → ℕ) (n time : ℕ) → replicate n (move time) ≡ map move (replicate n time)
replicate_moves move zero time = refl
replicate_moves move (suc n) time = ap (λ (ts : List ℕ). move time ∷ ts) (replicate_moves move n time)

module _ (f : Forward) (rate : ℕ) (some : 0 < rate) where
  abbrev move : ℕ → ℕ
  move = time_as f.times

  moved_of : (o : Option Sample) (sends : List SentSample) → times_of rate (option_map (viewer_sample f rate) o) sends ≡ map move (times_of rate o sends)
  moved_of None sends = refl
  moved_of (Some sample) [] = refl
  moved_of (Some sample) (entry ∷ sends) =
      ap (replicate entry.count) (viewer_time rate (move (rtp_time_at rate sample.rtp_time)) some (omega arith)) ∙ replicate_moves move entry.count (rtp_time_at rate sample.rtp_time)

  times_move : (samples : List Sample) (all_steps : List DatagramStep) (sends : List SentSample)
      → times_sent rate (viewer_samples f rate samples) all_steps sends ≡ map move (times_sent rate samples all_steps sends)
  times_move samples [] sends = refl
  times_move samples (plain.Send i ∷ later) sends =
      let v : Sample → Sample = viewer_sample f rate in
      let o : Option Sample = slice_get samples i in
      let first : times_of rate (slice_get (map v samples) i) sends ≡ map move (times_of rate o sends) = ap (λ (x : Option Sample). times_of rate x sends) (slice_get-map v samples i) ∙ moved_of o sends in
      ap (λ (ts : List ℕ). ts ++ times_sent rate (map v samples) later (sends_after (slice_get (map v samples) i) sends)) first
      ∙ (ap (λ (es : List SentSample). map move (times_of rate o sends) ++ times_sent rate (map v samples) later es) (sends_at v samples i sends)
      ∙ (ap (λ (ts : List ℕ). map move (times_of rate o sends) ++ ts) (times_move samples later (sends_after o sends))
      ∙ sym (map_append move (times_of rate o sends) (times_sent rate samples later (sends_after o sends)))))
  times_move samples (plain.Deliver k now ∷ later) sends = times_move samples later sends
  times_move samples (plain.Pop now ∷ later) sends = times_move samples later sends
  times_move samples (plain.Finish ∷ later) sends = times_move samples later sends

  -- distances stay
  timely_moves : (first time : ℕ) → first < 2 ^ 32 → time < 2 ^ 32 → IsTimely rate first time → IsTimely rate (move first) (move time)
  timely_moves first time low small timely = omega (arith, low, small, timely)

  each_timely : (times : List ℕ) (first : ℕ) (ks : List ℕ) → AllUnder (2 ^ 32) times → first < length times → AllUnder (length times) ks → AreTimely rate times first ks
      → AreTimely rate (map move times) first ks
  each_timely times first [] small low under timely = tt
  each_timely times first (k ∷ ks) small low under timely = (
    λ before.
        let here = timely_moves (slice_index_or times first 0) (slice_index_or times k 0) (under_at (2 ^ 32) times first (omega arith) small) (under_at (2 ^ 32) times k (omega arith) small) (timely.0 before) in
        subst (λ (n : ℕ). IsTimely rate n (slice_index_or (map move times) k 0)) (sym (index_moves move times first low))
        (subst (IsTimely rate (move (slice_index_or times first 0))) (sym (index_moves move times k under.0)) here),
    each_timely times first ks small low under.1 timely.1,
  )

  come_timely : (times : List ℕ) (ks : List ℕ) → AllUnder (2 ^ 32) times → AllUnder (length times) ks → ComeTimely rate times ks → ComeTimely rate (map move times) ks
  come_timely times [] small under timely = tt
  come_timely times (k ∷ ks) small under timely = each_timely times k ks small under.0 under.1 timely

-- The premises of a run of the sender are those of a run of the viewer's sender

pub moved_within : (e : Forward) (samples : List Sample) (seen : List DatagramStep) (sender : Sending) (receiver : Session) (sends : List SentSample) (settings : Settings) (depacketizer : DepacketizerState)
    → 0 < sender.stream.clock_rate → session_by settings depacketizer ≡ Ok receiver → AreOfOneStream (viewer_sender e sender) settings depacketizer → AreReadable sender.packetizer samples
    → ComeWithin settings.forward settings.backward (delivered (received_steps samples 0 seen sends))
    → ComeTimely sender.stream.clock_rate (times_sent sender.stream.clock_rate samples seen sends) (delivered (received_steps samples 0 seen sends))
    → IsWithinWindows (viewer_samples e sender.stream.clock_rate samples) seen (viewer_sender e sender) receiver sends
moved_within e samples seen sender receiver sends settings depacketizer some new one_stream readable within timely =
    let rate : ℕ = sender.stream.clock_rate in
    let same : received_steps (viewer_samples e rate samples) 0 seen sends ≡ received_steps samples 0 seen sends = received_same (viewer_sample e rate) samples 0 seen sends in
    record {
      settings = settings;
      depacketizer = depacketizer;
      new = new;
      one_stream = one_stream;
      readable = same_readable e rate sender.packetizer samples readable;
      within = subst (λ (ds : List DatagramStep). ComeWithin settings.forward settings.backward (delivered ds)) (sym same) within;
      timely = subst (λ (ds : List DatagramStep). ComeTimely rate (times_sent rate (viewer_samples e rate samples) seen sends) (delivered ds)) (sym same)
          (subst (λ (ts : List ℕ). ComeTimely rate ts (delivered (received_steps samples 0 seen sends))) (sym (times_move e rate some samples seen sends))
          (come_timely e rate some (times_sent rate samples seen sends) (delivered (received_steps samples 0 seen sends))
          (small rate samples seen sends)
          (subst (λ (n : ℕ). AllUnder n (delivered (received_steps samples 0 seen sends))) (omega arith) (come_under rate samples 0 seen sends)) timely));
    }

-- The theorem

module _ (samples : List Sample) (all_steps : List ForwardStep) (sender : Sending) (forwarder : Forward) (receiver : Session) (t : Hops)
    (run : ForwardRuns samples all_steps (begins_forwarding sender forwarder receiver) t) (forwards : ForwardsStream sender forwarder) where
  abbrev e : Forward
  e = t.forwarder

  abbrev rate : ℕ
  rate = sender.stream.clock_rate

  abbrev codec : Codec
  codec = forwarder.settings.codec

  -- whether the packetizer is of the codec
  abbrev kind : Bool
  kind = keeps_packetizer codec sender.packetizer

  -- whether the payloads have no ids that close up
  abbrev steady : Bool
  steady = keeps_payloads codec sender.packetizer

  abbrev seen : List DatagramStep
  seen = viewer_steps_of samples all_steps t

  begun : IsAt sender.stream.ssrc rate codec kind steady (begins_forwarding sender forwarder receiver)
  begun = record {
    source = record { source = refl; clock = refl; keeps = λ on. on; of_codec = λ on. on; all = tt };
    codec_is = refl;
    none = λ on. (forwards.none_left_out on, λ moves. forwards.none_closed moves on);
  }

  came : Comes sender.stream.ssrc rate codec kind steady samples all_steps (begins_forwarding sender forwarder receiver) t []
  came = comes sender.stream.ssrc rate codec kind steady samples all_steps (begins_forwarding sender forwarder receiver) t [] begun tt run

  on : GoesOn sender.stream.ssrc forwarder e
  on = ends_on sender.stream.ssrc rate codec kind steady samples all_steps (begins_forwarding sender forwarder receiver) t begun run

  at_end : IsAt sender.stream.ssrc rate codec kind steady t
  at_end = is_at_end sender.stream.ssrc rate codec kind steady samples all_steps (begins_forwarding sender forwarder receiver) t begun run

  pub written : AreForwarded e t.wire.datagrams t.written (forwarded_of samples all_steps t)
  written = subst (λ (rs : List Forwarded). AreForwarded e t.wire.datagrams t.written (forwarded_in samples 0 [] all_steps t.wire.sends rs)) (sym came.results)
      (subst (λ (es : List SentSample). AreForwarded e t.wire.datagrams t.written (forwarded_in samples 0 [] all_steps es came.more)) (sym came.sends) came.written)

  module _ (within : IsForwardedWithinWindows samples all_steps (begins_forwarding sender forwarder receiver) t) where
    is_within : IsWithinWindows (viewer_samples e rate samples) seen (viewer_sender e sender) receiver t.wire.sends
    is_within = moved_within e samples seen sender receiver t.wire.sends within.settings within.depacketizer within.widths.clock_rate within.new within.one_stream within.readable within.within within.timely

    course : (view : View) → Fit sender.stream.ssrc rate codec kind steady samples e view → Runs (viewer_samples e rate samples) seen (seen_wire view e (begins sender receiver)) (seen_wire view e t.wire)
    course view fit =
        subst (λ (rs : List Forwarded). Runs (viewer_samples e rate samples) (viewer_steps samples 0 [] all_steps t.wire.sends rs) (seen_wire view e (begins sender receiver)) (seen_wire view e t.wire)) (sym came.results)
        (subst (λ (es : List SentSample). Runs (viewer_samples e rate samples) (viewer_steps samples 0 [] all_steps es came.more) (seen_wire view e (begins sender receiver)) (seen_wire view e t.wire)) (sym came.sends) (came.course view fit))

    alone : (x : Forward) (view : View) (other : Session) → Fit sender.stream.ssrc rate codec kind steady samples x view
        → Runs (viewer_samples x rate samples) (only_sends seen) (alone_from other view x (begins sender receiver)) (alone_from other view x t.wire)
    alone x view other fit =
        subst (λ (rs : List Forwarded). Runs (viewer_samples x rate samples) (only_sends (viewer_steps samples 0 [] all_steps t.wire.sends rs)) (alone_from other view x (begins sender receiver)) (alone_from other view x t.wire)) (sym came.results)
        (subst (λ (es : List SentSample). Runs (viewer_samples x rate samples) (only_sends (viewer_steps samples 0 [] all_steps es came.more)) (alone_from other view x (begins sender receiver)) (alone_from other view x t.wire)) (sym came.sends)
        (came.alone x view other fit))

    pub is_seen : IsSeen None codec samples seen e sender receiver t.wire
    is_seen = record {
      course = λ view fit. proceeds None (viewer_samples e rate samples) seen (seen_wire view e (begins sender receiver)) (seen_wire view e t.wire) (course view fit);
      alone = alone;
      of = at_end.source.all;
      codec_is = ap (λ (s : _). s.codec) on.settings;
      of_codec = within.of_codec;
      some = within.widths.clock_rate;
      fits_type = subst (λ (s : _). s.payload_type < 128) (sym on.settings) within.widths.payload_type;
      fits_ssrc = subst (λ (s : _). s.ssrc < 2 ^ 32) (sym on.settings) within.widths.ssrc;
      hears = tt;
      within = is_within;
    }

pub packets_forwarded : PacketsForwarded
packets_forwarded samples all_steps sender forwarder receiver t run forwards = written samples all_steps sender forwarder receiver t run forwards

pub release_forwarded : ReleaseForwarded
release_forwarded samples all_steps sender forwarder receiver t run within =
    let seen : List DatagramStep = viewer_steps_of samples all_steps t in
    let units = viewer_releases None forwarder.settings.codec samples seen t.forwarder sender receiver t.wire (is_seen samples all_steps sender forwarder receiver t run within.forwards within) in
    record {
      released = units;
      canonical = units.canonical ∙ same_units t.forwarder sender.stream.clock_rate sender.packetizer samples (sending_steps sender.mtu seen);
    }

pub promises_forwarded : PromisesForwarded
promises_forwarded samples all_steps sender forwarder receiver t run within =
    viewer_keeps None forwarder.settings.codec samples (viewer_steps_of samples all_steps t) t.forwarder sender receiver t.wire (is_seen samples all_steps sender forwarder receiver t run within.forwards within)
