-- What the sources send in the stretches of the viewer's stream, and the run over one hop that sends it.
use Rattle.std.proofs.Common.{◌≡◌, ◌∙◌, refl, sym, ap, subst, ℕ, ◌+◌, ◌-◌, ◌%◌, ◌^◌, ◌<◌, ◌≤◌, List, [], ◌∷◌, ◌++◌, inl, inr, append-nil, append_assoc, length-append, Bool, true, false, ltb, drop, length, map, arith}
use Rattle.std.specs.Prelude.{◌⊎◌, take}
use Rattle.std.proofs.Math.Seq.{drop-length, take-append_seam}
use Rattle.std.proofs.lemmas.Bool.{ltb-false, ltb-true}
use Rattle.std.proofs.lemmas.List.{length-drop, length-map}
use Rattle.codec_payload_buffer_runs.specs.SentStream.{AreReadable}
use Rattle.codec_payload_codec.specs.Packetizers.{PacketizerState}
use Rattle.codec_payload_payloader.specs.Sending.{Sample}
use Rattle.codec_payload_receiver.specs.Defaults.{no_ids}
use Rattle.codec_payload_receiver.specs.Sessions.{Session}
use Rattle.codec_payload_sending.specs.Senders.{Sending}
use Rattle.codec_payload_sending.specs.declared.sender.Outgoing.{Outgoing}
use Rattle.codec_payload_sending_forward.specs.Forwarding.{Forward}
use Rattle.codec_payload_sending_forward.specs.declared.forwarder.ForwardSettings.{ForwardSettings}
use Rattle.codec_payload_datagram_runs.specs.WireRuns.{Runs, Wire}
use Rattle.codec_payload_datagram_runs.specs.declared.run.DatagramStep.{DatagramStep}
use Rattle.codec_payload_datagram_runs.specs.declared.run.SentSample.{SentSample}
use Rattle.codec_payload_forward_runs.proofs.SenderLemmas.{IsView, View, map_append, seen_sender}
use Rattle.codec_payload_forward_runs.proofs.SwitchSamples.{AreSeen, SentReadable, above_readable, below_readable, readable_append, seen_append, seen_moved, sent_readable, units_append}
use Rattle.codec_payload_forward_runs.proofs.SwitchSenders.{Alike, AreAtIndex, SendsPart, each_append, runs_append, send_part}
use Rattle.codec_payload_forward_runs.proofs.SwitchSent.{Back, Front, HasSent, Made, SendsAll, Stays, all_count, back, front, made, state_of, total}
use Rattle.codec_payload_forward_runs.proofs.SwitchUnitLemmas.{same_stream, total_append}
use Rattle.codec_payload_forward_runs.proofs.SwitchViews.{take_count}
use Rattle.codec_payload_forward_runs.specs.ForwardReleases.{HaveWidths, viewer_datagram, viewer_samples}
use Rattle.codec_payload_forward_runs.specs.SwitchReleases.{datagrams_of}
use Rattle.codec_payload_forward_runs.specs.SwitchRuns.{SwitchRuns, Switched, begins_switching}
use Rattle.codec_payload_forward_runs.specs.SwitchStretches.{AreBetweenFrames, AreViewed, IsViewed, Stretch, ViewedStretch, count_in, datagrams_in, datagrams_viewed, number_in, samples_viewed, sender_of, sent_by, sent_in_all, sent_in_stretch, stretches_in, units_in_all}
use Rattle.codec_payload_forward_runs.specs.SwitchUnits.{NoneAcross, SendAlike, Sent, all_below, entries_in, none_below, samples_in, send_each, sent_in, units_of_sent}
use Rattle.codec_payload_forward_runs.specs.declared.switch_run.Source.{Source}
use Rattle.codec_payload_forward_runs.specs.declared.switch_run.Source.TheVariants as sources
use Rattle.codec_payload_forward_runs.specs.declared.switch_run.SwitchStep.{SwitchStep}

all_from : (index k : ℕ) (xs : List Sent) → index ≤ k → none_below index k xs ≡ xs
all_from index k [] from = refl
all_from index k (x ∷ xs) from = by (ltb k index) refl (all_from index (k + x.entry.count) xs (omega (arith, from)))
  where
    by : (b : Bool) → ltb k index ≡ b → none_below index (k + x.entry.count) xs ≡ xs → none_below index k (x ∷ xs) ≡ x ∷ xs
    by true is rest = absurd (omega (arith, ltb-true k index is, from))
    by false is rest = rw is (ap (λ (ys : List Sent). x ∷ ys) rest)

-- the samples behind one index: none of them has datagrams on both sides of another one
across_rest : (index past k : ℕ) (xs : List Sent) → k ≤ index → NoneAcross index k xs → NoneAcross past k xs → NoneAcross past index (none_below index k xs)
across_rest index past k [] low across rest = tt
across_rest index past k (x ∷ xs) low across rest = by (ltb k index) refl (λ on. across_rest index past (k + x.entry.count) xs on across.1 rest.1)
  where
    in_front : (k + x.entry.count ≤ index) ⊎ (index ≤ k) → k < index → k + x.entry.count ≤ index
    in_front (inl below) up = below
    in_front (inr from) up = absurd (omega (arith, from, up))

    by : (b : Bool) → ltb k index ≡ b → (k + x.entry.count ≤ index → NoneAcross past index (none_below index (k + x.entry.count) xs)) → NoneAcross past index (none_below index k (x ∷ xs))
    by true is later = rw is (later (in_front across.0 (ltb-true k index is)))
    by false is later =
        let here : index ≤ k = ltb-false k index is in
        let same : k ≡ index = omega (arith, here, low) in
        subst (NoneAcross past index) (sym (all_from index k (x ∷ xs) here)) (subst (λ (n : ℕ). NoneAcross past n (x ∷ xs)) same rest)

-- parts of a list of samples
index_left : (all : List Sample) (i : ℕ) (xs ys : List Sample) → AreAtIndex all i (xs ++ ys) → AreAtIndex all i xs
index_left all i [] ys at = tt
index_left all i (x ∷ xs) ys at = (at.0, index_left all (i + 1) xs ys at.1)

index_right : (all : List Sample) (i : ℕ) (xs ys : List Sample) → AreAtIndex all i (xs ++ ys) → AreAtIndex all (i + length xs) ys
index_right all i [] ys at = subst (λ (n : ℕ). AreAtIndex all n ys) (omega arith) at
index_right all i (x ∷ xs) ys at = subst (λ (n : ℕ). AreAtIndex all n ys) (omega arith) (index_right all (i + 1) xs ys at.1)

pub moved_index : (all : List Sample) (i rate : ℕ) (f : Forward) (xs : List Sent) (ys : List Sample) → AreAtIndex all i (viewer_samples f rate (samples_in xs) ++ ys)
    → AreAtIndex all i (viewer_samples f rate (samples_in xs)) × AreAtIndex all (i + length xs) ys
moved_index all i rate f xs ys at =
    let moved : List Sample = viewer_samples f rate (samples_in xs) in
    let long : length moved ≡ length xs = length-map (samples_in xs) _ ∙ length-map xs _ in
    (index_left all i moved ys at, subst (λ (n : ℕ). AreAtIndex all (i + n) ys) long (index_right all i moved ys at))

pub size_in : (first second : List (List ℕ)) (g : Stretch) → g.past ≤ length (datagrams_of g.source first second) → length (datagrams_in first second g) ≡ g.past - g.first
size_in first second g sent =
    length-drop g.first (take g.past (datagrams_of g.source first second)) ∙ ap (λ (n : ℕ). n - g.first) (take_count g.past (datagrams_of g.source first second) sent)

module _ (samples : List Sample) (all_steps : List SwitchStep) (first second : Sending) (forwarder : Forward) (receiver : Session) (t : Switched)
    (run : SwitchRuns samples all_steps (begins_switching first second forwarder receiver) t) (alike : SendAlike forwarder.settings.codec first second) (widths : HaveWidths first forwarder) (number : ℕ) where
  abbrev s : Switched
  s = begins_switching first second forwarder receiver

  abbrev rate : ℕ
  rate = first.stream.clock_rate

  -- the datagrams of a source
  abbrev all_of : Source → List (List ℕ)
  all_of source = datagrams_of source t.hops.wire.datagrams t.datagrams

  abbrev pub shown_of : List ViewedStretch → List (List ℕ)
  shown_of vs = datagrams_viewed t.hops.wire.datagrams t.datagrams vs

  abbrev pub sent_of : List ViewedStretch → List Sent
  sent_of vs = sent_in_all samples all_steps t (stretches_in vs)

  abbrev pub Viewed : (place : ℕ) → List ViewedStretch → Type 0
  Viewed place vs = AreViewed t.hops.wire.datagrams t.datagrams first.stream.number second.stream.number number forwarder place vs

  abbrev pub IsOneViewed : (place : ℕ) → ViewedStretch → Type 0
  IsOneViewed place v = IsViewed t.hops.wire.datagrams t.datagrams first.stream.number second.stream.number number forwarder place v

  -- Both sources

  source_sends : (source : Source) → SendsAll (sent_by source samples all_steps t) (sender_of source (begins_switching first second forwarder receiver)) [] (sender_of source t) (datagrams_of source t.hops.wire.datagrams t.datagrams)
  source_sends sources.First =
      let m : Made samples sources.First all_steps (state_of sources.First s) (state_of sources.First t) = made samples sources.First all_steps s t run in
      subst (λ (es : List SentSample). SendsAll (sent_in sources.First samples all_steps es) first [] t.hops.wire.sending t.hops.wire.datagrams) (sym m.sends) m.all
  source_sends sources.Second =
      let m : Made samples sources.Second all_steps (state_of sources.Second s) (state_of sources.Second t) = made samples sources.Second all_steps s t run in
      subst (λ (es : List SentSample). SendsAll (sent_in sources.Second samples all_steps es) second [] t.second t.datagrams) (sym m.sends) m.all

  pub mtu_of : (source : Source) → (sender_of source (begins_switching first second forwarder receiver)).mtu ≡ first.mtu
  mtu_of sources.First = refl
  mtu_of sources.Second = alike.mtu

  pub clock_of : (source : Source) → (sender_of source (begins_switching first second forwarder receiver)).stream.clock_rate ≡ first.stream.clock_rate
  clock_of sources.First = refl
  clock_of sources.Second = alike.clock_rate

  pub number_of : (source : Source) → (sender_of source (begins_switching first second forwarder receiver)).stream.number ≡ number_in source first.stream.number second.stream.number
  number_of sources.First = refl
  number_of sources.Second = refl

  pub fits_type : (f : Forward) → f.settings ≡ forwarder.settings → f.settings.payload_type < 128
  fits_type f same = subst (λ (x : ForwardSettings). x.payload_type < 128) (sym same) widths.payload_type

  pub fits_ssrc : (f : Forward) → f.settings ≡ forwarder.settings → f.settings.ssrc < 2 ^ 32
  fits_ssrc f same = subst (λ (x : ForwardSettings). x.ssrc < 2 ^ 32) (sym same) widths.ssrc

  -- the samples of a source can be read again
  source_readable : (packetizer : PacketizerState) → AreReadable packetizer samples → (source : Source) → SentReadable packetizer (sent_by source samples all_steps t)
  source_readable packetizer readable sources.First = sent_readable packetizer samples readable sources.First all_steps t.hops.wire.sends
  source_readable packetizer readable sources.Second = sent_readable packetizer samples readable sources.Second all_steps t.sends

  pub all_readable : (packetizer : PacketizerState) → AreReadable packetizer samples → (gs : List Stretch) → SentReadable packetizer (sent_in_all samples all_steps t gs)
  all_readable packetizer readable [] = tt
  all_readable packetizer readable (g ∷ gs) =
      readable_append packetizer (sent_in_stretch samples all_steps t g) (sent_in_all samples all_steps t gs)
      (below_readable packetizer g.past g.first (none_below g.first 0 (sent_by g.source samples all_steps t))
      (above_readable packetizer g.first 0 (sent_by g.source samples all_steps t) (source_readable packetizer readable g.source)))
      (all_readable packetizer readable gs)

  -- the units of all stretches
  pub units_all : (packetizer : PacketizerState)
      → ((source : Source) (xs : List Sent)
      → units_of_sent packetizer first.mtu xs
      ≡ units_of_sent (sender_of source (begins_switching first second forwarder receiver)).packetizer (sender_of source (begins_switching first second forwarder receiver)).mtu xs)
      → (gs : List Stretch) → units_of_sent packetizer first.mtu (sent_in_all samples all_steps t gs) ≡ units_in_all samples all_steps (begins_switching first second forwarder receiver) t gs
  units_all packetizer same [] = refl
  units_all packetizer same (g ∷ gs) =
      let xs : List Sent = sent_in_stretch samples all_steps t g in
      units_append packetizer first.mtu xs (sent_in_all samples all_steps t gs)
      ∙ (ap (λ (us : List (List (List ℕ))). us ++ units_of_sent packetizer first.mtu (sent_in_all samples all_steps t gs)) (same g.source xs)
      ∙ ap (λ (us : List (List (List ℕ))). units_of_sent (sender_of g.source s).packetizer (sender_of g.source s).mtu xs ++ us) (units_all packetizer same gs))

  pub seen_all : (clock : ℕ) (vs : List ViewedStretch) → AreSeen (samples_viewed samples all_steps clock t vs) (sent_in_all samples all_steps t (stretches_in vs))
  seen_all clock [] = tt
  seen_all clock (v ∷ vs) =
      let xs : List Sent = sent_in_stretch samples all_steps t v.stretch in
      seen_append (viewer_samples v.forwarder clock (samples_in xs)) (samples_viewed samples all_steps clock t vs) xs (sent_of vs) (seen_moved v.forwarder clock xs) (seen_all clock vs)

  -- how many datagrams there are
  pub count_all : (place : ℕ) (vs : List ViewedStretch) → Viewed place vs → length (datagrams_viewed t.hops.wire.datagrams t.datagrams vs) ≡ count_in (stretches_in vs)
  count_all place [] viewed = refl
  count_all place (v ∷ vs) viewed =
      let leg : List (List ℕ) = datagrams_in t.hops.wire.datagrams t.datagrams v.stretch in
      length-append (map (viewer_datagram v.forwarder) leg) (shown_of vs)
      ∙ omega (arith, length-map leg (viewer_datagram v.forwarder), size_in t.hops.wire.datagrams t.datagrams v.stretch viewed.0.sent, count_all (place + (v.stretch.past - v.stretch.first)) vs viewed.1)

  -- What is known of the packetizers

  module _ (good : PacketizerState → Type 0) (stays : Stays good) (good_first : good first.packetizer) (good_second : good second.packetizer) where
    good_of : (source : Source) → good (sender_of source (begins_switching first second forwarder receiver)).packetizer
    good_of sources.First = good_first
    good_of sources.Second = good_second

    -- what is sent in a stretch
    pub record SendsStretch (g : Stretch) : Type 0 where
      pub start : Sending
      pub before : List (List ℕ)
      pub end : Sending
      pub after : List (List ℕ)
      pub sends : SendsAll (sent_in_stretch samples all_steps t g) start before end after
      pub has : HasSent good stays (sender_of g.source (begins_switching first second forwarder receiver)) start before
      pub ended : HasSent good stays (sender_of g.source (begins_switching first second forwarder receiver)) end after
      pub at_first : length before ≡ g.first
      pub at_past : length after ≡ g.past
      pub taken : take g.past (datagrams_of g.source t.hops.wire.datagrams t.datagrams) ≡ after

    sends_stretch : (g : Stretch) → g.first < g.past → g.past ≤ length (datagrams_of g.source t.hops.wire.datagrams t.datagrams) → NoneAcross g.first 0 (sent_by g.source samples all_steps t)
        → NoneAcross g.past 0 (sent_by g.source samples all_steps t) → SendsStretch g
    sends_stretch g some sent at_first at_past =
        let source : Sending = sender_of g.source s in
        let xs : List Sent = sent_by g.source samples all_steps t in
        let later : List Sent = none_below g.first 0 xs in
        let has : HasSent good stays source source [] = record { packetizer = good_of g.source; mtu = refl; stream = refl; number = omega arith } in
        let b : Back good stays source g.first later (sender_of g.source t) (all_of g.source) =
        back good stays source g.first 0 xs source (sender_of g.source t) [] (all_of g.source) refl (omega arith) (omega (arith, some, sent)) at_first has (source_sends g.source) in
        let f : Front good stays source g.past (all_below g.past g.first later) b.mid b.more (all_of g.source) =
        front good stays source g.past g.first later b.mid (sender_of g.source t) b.more (all_of g.source) b.size (omega (arith, some)) sent (across_rest g.first g.past 0 xs (omega arith) at_first at_past) b.has b.sends in
        record {
          start = b.mid;
          before = b.more;
          end = f.mid;
          after = f.more;
          sends = f.sends;
          has = b.has;
          ended = f.has;
          at_first = b.size;
          at_past = f.size;
          taken = ap (take g.past) f.rest.1 ∙ (ap (λ (n : ℕ). take n (f.more ++ f.rest.0)) (sym f.size) ∙ take-append_seam f.more f.rest.0);
        }

    abbrev pub AllSend : List ViewedStretch → Type 0
    AllSend [] = Unit {0}
    AllSend (v ∷ vs) = SendsStretch v.stretch × AllSend vs

    pub all_send : (place : ℕ) (vs : List ViewedStretch) → Viewed place vs → AreBetweenFrames samples all_steps t (stretches_in vs) → AllSend vs
    all_send place [] viewed between = tt
    all_send place (v ∷ vs) viewed between =
        (sends_stretch v.stretch viewed.0.some viewed.0.sent between.0 between.1, all_send (place + (v.stretch.past - v.stretch.first)) vs viewed.1 between.2)

    -- the datagrams of a stretch are those that are sent in it
    pub sent_behind : (g : Stretch) (k : SendsStretch g) → drop g.first k.after ≡ datagrams_in t.hops.wire.datagrams t.datagrams g
    sent_behind g k = ap (drop g.first) (sym k.taken)

    pub none_yet : (g : Stretch) (k : SendsStretch g) → drop g.first k.before ≡ []
    none_yet g k = ap (λ (n : ℕ). drop n k.before) (sym k.at_first) ∙ drop-length k.before

    pub total_all : (place : ℕ) (vs : List ViewedStretch) → Viewed place vs → AllSend vs → total (sent_in_all samples all_steps t (stretches_in vs)) ≡ count_in (stretches_in vs)
    total_all place [] viewed sends = refl
    total_all place (v ∷ vs) viewed sends =
        let k : SendsStretch v.stretch = sends.0 in
        let xs : List Sent = sent_in_stretch samples all_steps t v.stretch in
        total_append xs (sent_of vs)
        ∙ omega (arith, all_count xs k.start k.end k.before k.after k.sends, k.at_first, k.at_past, total_all (place + (v.stretch.past - v.stretch.first)) vs viewed.1 sends.1)

    -- The sender of the viewer's stream, by a view of its packetizers

    module _ (view : Forward → View) (is_view : (f : Forward) → f.settings ≡ forwarder.settings → IsView f good (view f))
        (same : (f h : Forward) → f.settings ≡ forwarder.settings → h.settings ≡ forwarder.settings → (p q : PacketizerState) → good p → good q → view f p ≡ view h q) (all : List Sample) where
      -- the sender when this many datagrams were sent
      pub record IsReady (v : Sending) (place : ℕ) : Type 0 where
        pub packetizer : (f : Forward) (p : PacketizerState) → f.settings ≡ forwarder.settings → good p → v.packetizer ≡ view f p
        pub mtu : v.mtu ≡ first.mtu
        pub stream : v.stream
            ≡ record { ssrc = forwarder.settings.ssrc; payload_type = forwarder.settings.payload_type; clock_rate = first.stream.clock_rate; ids = no_ids; number = (number + place) % 65536 }

      ready_for : (v : Sending) (place : ℕ) (x : ViewedStretch) (k : SendsStretch x.stretch) → IsReady v place → IsOneViewed place x → Alike v (seen_sender (view x.forwarder) x.forwarder k.start)
      ready_for v place x k ready viewed = record {
        packetizer = ready.packetizer x.forwarder k.start.packetizer viewed.settings k.has.packetizer;
        mtu = ready.mtu ∙ sym (k.has.mtu ∙ mtu_of x.stretch.source);
        stream = ready.stream
            ∙ same_stream forwarder.settings x.forwarder.settings rate k.start.stream.clock_rate _ _ (sym viewed.settings) (sym (ap (λ (o : Outgoing). o.clock_rate) k.has.stream ∙ clock_of x.stretch.source))
            (omega (arith, viewed.number_is, k.has.number, k.at_first, number_of x.stretch.source));
      }

      ready_after : (v : Sending) (place : ℕ) (x : ViewedStretch) (k : SendsStretch x.stretch) → Alike v (seen_sender (view x.forwarder) x.forwarder k.end) → IsOneViewed place x
          → IsReady v (place + (x.stretch.past - x.stretch.first))
      ready_after v place x k alike_is viewed = record {
        packetizer = λ f p settings is. alike_is.packetizer ∙ same x.forwarder f viewed.settings settings k.end.packetizer p k.ended.packetizer is;
        mtu = alike_is.mtu ∙ (k.ended.mtu ∙ mtu_of x.stretch.source);
        stream = alike_is.stream
            ∙ same_stream x.forwarder.settings forwarder.settings k.end.stream.clock_rate rate _ _ viewed.settings (ap (λ (o : Outgoing). o.clock_rate) k.ended.stream ∙ clock_of x.stretch.source)
            (omega (arith, viewed.number_is, viewed.some, k.ended.number, k.at_past, number_of x.stretch.source));
      }

      -- a run in which nothing was delivered yet
      abbrev pub alone : Sending → List (List ℕ) → List SentSample → Wire
      alone v ds es = record { sending = v; session = receiver; datagrams = ds; sends = es; receipts = []; pops = [] }

      pub record RunsOn (i : ℕ) (vs : List ViewedStretch) (v : Sending) (front : List (List ℕ)) (entries : List SentSample) : Type 0 where
        pub left : Sending
        pub runs : Runs all (send_each i (sent_of vs)) (alone v front entries) (alone left (front ++ shown_of vs) (entries ++ entries_in (sent_of vs)))

      -- one stretch, behind other datagrams
      record RunsOne (i : ℕ) (x : ViewedStretch) (k : SendsStretch x.stretch) (v : Sending) (front : List (List ℕ)) (entries : List SentSample) : Type 0 where
        left : Sending
        alike_is : Alike left (seen_sender (view x.forwarder) x.forwarder k.end)
        runs : Runs all (send_each i (sent_in_stretch samples all_steps t x.stretch)) (alone v front entries)
            (alone left (front ++ map (viewer_datagram x.forwarder) (datagrams_in t.hops.wire.datagrams t.datagrams x.stretch)) (entries ++ entries_in (sent_in_stretch samples all_steps t x.stretch)))

      runs_one : (i : ℕ) (x : ViewedStretch) (k : SendsStretch x.stretch) (v : Sending) (front : List (List ℕ)) (entries : List SentSample) → IsReady v (length front) → IsOneViewed (length front) x
          → AreAtIndex all i (viewer_samples x.forwarder first.stream.clock_rate (samples_in (sent_in_stretch samples all_steps t x.stretch)))
          → length (front ++ map (viewer_datagram x.forwarder) (datagrams_in t.hops.wire.datagrams t.datagrams x.stretch)) < 2 ^ 63 → RunsOne i x k v front entries
      runs_one i x k v front entries ready viewed at few =
          let e : Forward = x.forwarder in
          let g : Stretch = x.stretch in
          let xs : List Sent = sent_in_stretch samples all_steps t g in
          let whole : drop g.first k.after ≡ datagrams_in t.hops.wire.datagrams t.datagrams g = sent_behind g k in
          let part : SendsPart e (fits_type e viewed.settings) (fits_ssrc e viewed.settings) rate widths.clock_rate good stays (view e) (is_view e viewed.settings) (sender_of g.source s) (clock_of g.source) front g.first
          receiver all xs i v k.end k.before k.after entries =
          send_part e (fits_type e viewed.settings) (fits_ssrc e viewed.settings) rate widths.clock_rate good stays (view e) (is_view e viewed.settings) (sender_of g.source s) (clock_of g.source) front g.first receiver all xs i v
          k.start k.end k.before k.after entries at k.has (omega (arith, k.at_first)) (ready_for v (length front) x k ready viewed) k.sends
          (subst (λ (ds : List (List ℕ)). length (front ++ map (viewer_datagram e) ds) < 2 ^ 63) (sym whole) few) in
          let seam : front ++ map (viewer_datagram e) (drop g.first k.before) ≡ front = ap (λ (ds : List (List ℕ)). front ++ map (viewer_datagram e) ds) (none_yet g k) ∙ append-nil front in
          record {
            left = part.left;
            alike_is = part.alike;
            runs = subst (λ (ds : List (List ℕ)).
                Runs all (send_each i xs) (alone v ds entries) (alone part.left (front ++ map (viewer_datagram e) (datagrams_in t.hops.wire.datagrams t.datagrams g)) (entries ++ entries_in xs))) seam
                (subst (λ (ds : List (List ℕ)).
                Runs all (send_each i xs) (alone v (front ++ map (viewer_datagram e) (drop g.first k.before)) entries) (alone part.left (front ++ map (viewer_datagram e) ds) (entries ++ entries_in xs))) whole part.runs);
          }

      -- all of them
      pub runs_on : (i : ℕ) (vs : List ViewedStretch) (v : Sending) (front : List (List ℕ)) (entries : List SentSample) → Viewed (length front) vs → AllSend vs → IsReady v (length front)
          → AreAtIndex all i (samples_viewed samples all_steps first.stream.clock_rate t vs) → length (front ++ datagrams_viewed t.hops.wire.datagrams t.datagrams vs) < 2 ^ 63 → RunsOn i vs v front entries
      runs_on i [] v front entries viewed sends ready at few =
          record { left = v; runs = ap (λ (ds : List (List ℕ)). alone v ds (entries ++ [])) (append-nil front) ∙ ap (alone v front) (append-nil entries) }
      runs_on i (x ∷ vs) v front entries viewed sends ready at few =
          let g : Stretch = x.stretch in
          let xs : List Sent = sent_in_stretch samples all_steps t g in
          let ys : List Sent = sent_of vs in
          let leg : List (List ℕ) = map (viewer_datagram x.forwarder) (datagrams_in t.hops.wire.datagrams t.datagrams g) in
          let long : length leg ≡ g.past - g.first =
          length-map (datagrams_in t.hops.wire.datagrams t.datagrams g) (viewer_datagram x.forwarder) ∙ size_in t.hops.wire.datagrams t.datagrams g viewed.0.sent in
          let next : List (List ℕ) = front ++ leg in
          let place : length front + (g.past - g.first) ≡ length next = omega (arith, length-append front leg, long) in
          let index = moved_index all i rate x.forwarder xs (samples_viewed samples all_steps rate t vs) at in
          let less : length next < 2 ^ 63 = omega (arith, few, length-append front leg, length-append leg (shown_of vs), length-append front (leg ++ shown_of vs)) in
          let one : RunsOne i x sends.0 v front entries = runs_one i x sends.0 v front entries ready viewed.0 index.0 less in
          let rest : RunsOn (i + length xs) vs one.left next (entries ++ entries_in xs) =
          runs_on (i + length xs) vs one.left next (entries ++ entries_in xs) (subst (λ (n : ℕ). Viewed n vs) place viewed.1) sends.1
          (subst (IsReady one.left) place (ready_after one.left (length front) x sends.0 one.alike_is viewed.0)) index.1
          (subst (λ (ds : List (List ℕ)). length ds < 2 ^ 63) (sym (append_assoc front leg (shown_of vs))) few) in
          let end_is : (entries ++ entries_in xs) ++ entries_in ys ≡ entries ++ entries_in (xs ++ ys) =
          append_assoc entries (entries_in xs) (entries_in ys) ∙ ap (λ (es : List SentSample). entries ++ es) (sym (map_append (λ (z : Sent). z.entry) xs ys)) in
          record {
            left = rest.left;
            runs = subst (λ (ss : List DatagramStep). Runs all ss (alone v front entries) (alone rest.left (front ++ (leg ++ shown_of vs)) (entries ++ entries_in (xs ++ ys)))) (sym (each_append i xs ys))
                (subst (λ (ds : List (List ℕ)).
                Runs all (send_each i xs ++ send_each (i + length xs) ys) (alone v front entries) (alone rest.left ds (entries ++ entries_in (xs ++ ys)))) (append_assoc front leg (shown_of vs))
                (subst (λ (es : List SentSample). Runs all (send_each i xs ++ send_each (i + length xs) ys) (alone v front entries) (alone rest.left (next ++ shown_of vs) es)) end_is
                (runs_append all (send_each i xs) (send_each (i + length xs) ys) (alone v front entries) (alone one.left next (entries ++ entries_in xs))
                (alone rest.left (next ++ shown_of vs) ((entries ++ entries_in xs) ++ entries_in ys)) one.runs rest.runs)));
          }
