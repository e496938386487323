-- Packets of VP8 with picture ids in the stretches of the viewer's stream: moved by the offsets of each stretch, they are the stream of the
-- units of their frames.
use Rattle.std.proofs.Common.{◌≡◌, ◌∙◌, refl, sym, ap, subst, ℕ, ◌+◌, ◌-◌, ◌%◌, ◌^◌, ◌<◌, List, [], ◌∷◌, ◌++◌, zero, suc, append-nil, append_assoc, length-append, false, None, drop, length, map, arith}
use Rattle.std.specs.Prelude.{take}
use Rattle.std.proofs.lemmas.List.{length-map, map-append}
use Rattle.codec_payload_base.specs.declared.wire.Codec.{Codec}
use Rattle.codec_payload_base.specs.declared.wire.Codec.TheVariants as codecs
use Rattle.codec_payload_base.specs.declared.wire.extension.ExtensionValues.{ExtensionValues}
use Rattle.codec_payload_buffer.specs.Steps.{State}
use Rattle.codec_payload_buffer_runs.proofs.units.BuiltInRuns.{IsOfCodec}
use Rattle.codec_payload_buffer_runs.proofs.units.SendsUnits.{CarryIds, carry_on}
use Rattle.codec_payload_buffer_runs.proofs.units.UnitTimes.{AllOneTime, times_append}
use Rattle.codec_payload_buffer_runs.proofs.units.UnitValues.{AllCarry, carry_append}
use Rattle.codec_payload_buffer_runs.specs.LawfulUnits.{AllLawful}
use Rattle.codec_payload_buffer_runs.specs.RunValues.{values_of_run}
use Rattle.codec_payload_buffer_runs.specs.SentStream.{SentUnit, packets_of, units_of_run}
use Rattle.codec_payload_codec.specs.Depacketizers.{Vp8Payloads}
use Rattle.codec_payload_codec.specs.Packetizers.{is_built_in}
use Rattle.codec_payload_payloader.specs.Packets.{AreNumbered, Packet}
use Rattle.codec_payload_payloader.specs.Sending.{Sample}
use Rattle.codec_payload_receiver.specs.Defaults.{no_ids}
use Rattle.codec_payload_receiver.specs.Sessions.{Session}
use Rattle.codec_payload_sending.specs.Senders.{Sending}
use Rattle.codec_payload_sending.specs.declared.sender.Outgoing.{Outgoing}
use Rattle.codec_payload_sending_forward.specs.Forwarding.{Forward}
use Rattle.codec_payload_sending_forward.specs.declared.ids.IdOffsets.{IdOffsets}
use Rattle.codec_payload_datagram_runs.proofs.SendingLemmas.{same_count}
use Rattle.codec_payload_datagram_runs.specs.Releases.{AreDatagrams, sending_steps, times_sent}
use Rattle.codec_payload_datagram_runs.specs.WireRuns.{Runs, Wire}
use Rattle.codec_payload_datagram_runs.specs.declared.run.DatagramStep.{DatagramStep}
use Rattle.codec_payload_datagram_runs.specs.declared.run.SentSample.{SentSample}
use Rattle.codec_payload_forward_runs.proofs.LeaveStreams.{datagrams_append, packet_times, times_in}
use Rattle.codec_payload_forward_runs.proofs.MovedStreams.{lawful_append, moved_packet, moved_packets, numbered_append, packets_append}
use Rattle.codec_payload_forward_runs.proofs.SenderLemmas.{map_append, same_view, seen_sender, unchanged, without_ids}
use Rattle.codec_payload_forward_runs.proofs.SourceLemmas.{AllOf}
use Rattle.codec_payload_forward_runs.proofs.SwitchIds.{HasId, Part, id_stays, part, units_join, values_join, vp8}
use Rattle.codec_payload_forward_runs.proofs.SwitchLemmas.{all_became}
use Rattle.codec_payload_forward_runs.proofs.SwitchSamples.{seen_moved, times_joined}
use Rattle.codec_payload_forward_runs.proofs.SwitchSenders.{AreAtIndex, SendsPart, each_append, send_part}
use Rattle.codec_payload_forward_runs.proofs.SwitchStretchSent.{AllSend, IsOneViewed, SendsStretch, Viewed, clock_of, fits_ssrc, fits_type, moved_index, mtu_of, none_yet, number_of, sent_behind, size_in}
use Rattle.codec_payload_forward_runs.proofs.SwitchUnitLemmas.{all_right, same_stream}
use Rattle.codec_payload_forward_runs.proofs.ViewerReleases.{reads_moved, times_moved}
use Rattle.codec_payload_forward_runs.specs.ForwardReleases.{HaveWidths, viewer_datagram, viewer_samples}
use Rattle.codec_payload_forward_runs.specs.SwitchReleases.{datagrams_of}
use Rattle.codec_payload_forward_runs.specs.SwitchRuns.{SwitchRuns, Switched, begins_switching}
use Rattle.codec_payload_forward_runs.specs.SwitchStretches.{Stretch, ViewedStretch, datagrams_in, datagrams_viewed, samples_viewed, sender_of, sent_in_all, sent_in_stretch, stretches_in}
use Rattle.codec_payload_forward_runs.specs.SwitchUnits.{SendAlike, Sent, entries_in, samples_in, send_each}
use Rattle.codec_payload_forward_runs.specs.declared.switch_run.Source.{Source}
use Rattle.codec_payload_forward_runs.specs.declared.switch_run.Source.TheVariants as sources
use Rattle.codec_payload_forward_runs.specs.declared.switch_run.SwitchStep.{SwitchStep}

all_taken : (ssrc : ℕ) (codec : Codec) (n : ℕ) (xs : List (List ℕ)) → AllOf false ssrc codec xs → AllOf false ssrc codec (take n xs)
all_taken ssrc codec zero xs of = tt
all_taken ssrc codec (suc n) [] of = tt
all_taken ssrc codec (suc n) (x ∷ xs) of = (of.0, all_taken ssrc codec n xs of.1)

-- Units and values do not depend on the ids

module _ (mtu : ℕ) (roomy : 4 < mtu) (all : List Sample) (a b : ℕ) where
  units_other : (xs : List DatagramStep) → units_of_run (vp8 mtu roomy all b) all (sending_steps mtu xs) ≡ units_of_run (vp8 mtu roomy all a) all (sending_steps mtu xs)
  units_other xs = sym (units_join mtu roomy all a b [] xs)

  values_other : (xs : List DatagramStep) → values_of_run (vp8 mtu roomy all b) all (sending_steps mtu xs) ≡ values_of_run (vp8 mtu roomy all a) all (sending_steps mtu xs)
  values_other xs = sym (values_join mtu roomy all a b [] xs)

module _ (samples : List Sample) (all_steps : List SwitchStep) (first second : Sending) (forwarder : Forward) (receiver : Session) (t : Switched)
    (run : SwitchRuns samples all_steps (begins_switching first second forwarder receiver) t) (alike : SendAlike forwarder.settings.codec first second) (widths : HaveWidths first forwarder) (number : ℕ)
    (codec_is : forwarder.settings.codec ≡ codecs.Vp8) (roomy : 4 < first.mtu) (good_first : HasId first.packetizer) (good_second : HasId second.packetizer) (all : List Sample) (buffer : State) (of_codec : IsOfCodec buffer)
    (start : ℕ) (small : start < 2 ^ 63) (same : number % 65536 ≡ start % 65536) where
  abbrev s : Switched
  s = begins_switching first second forwarder receiver

  abbrev rate : ℕ
  rate = first.stream.clock_rate

  abbrev codec : Codec
  codec = forwarder.settings.codec

  -- the viewer's stream
  abbrev pub out : Outgoing
  out = record { ssrc = forwarder.settings.ssrc; payload_type = forwarder.settings.payload_type; clock_rate = first.stream.clock_rate; ids = no_ids; number = number % 65536 }

  abbrev shown : List ViewedStretch → List (List ℕ)
  shown vs = datagrams_viewed t.hops.wire.datagrams t.datagrams vs

  abbrev sent : List ViewedStretch → List Sent
  sent vs = sent_in_all samples all_steps t (stretches_in vs)

  abbrev Goes : ℕ → List ViewedStretch → Type 0
  Goes place vs = Viewed samples all_steps first second forwarder receiver t run alike widths number place vs

  abbrev GoesOne : ℕ → ViewedStretch → Type 0
  GoesOne place x = IsOneViewed samples all_steps first second forwarder receiver t run alike widths number place x

  abbrev Sends : List ViewedStretch → Type 0
  Sends vs = AllSend samples all_steps first second forwarder receiver t run alike widths number HasId id_stays good_first good_second vs

  abbrev SendsOne : Stretch → Type 0
  SendsOne g = SendsStretch samples all_steps first second forwarder receiver t run alike widths number HasId id_stays good_first good_second g

  abbrev leg_of : ViewedStretch → List (List ℕ)
  leg_of x = datagrams_in t.hops.wire.datagrams t.datagrams x.stretch

  -- what the sources send, with their own ids
  abbrev raw_of : List ViewedStretch → List (List ℕ)
  raw_of [] = []
  raw_of (x ∷ vs) = map (viewer_datagram (without_ids x.forwarder)) (datagrams_in t.hops.wire.datagrams t.datagrams x.stretch) ++ raw_of vs

  -- the datagrams of a stretch are of its source
  abbrev ssrc_in : Source → ℕ
  ssrc_in sources.First = first.stream.ssrc
  ssrc_in sources.Second = second.stream.ssrc

  of_source : (source : Source) → AllOf false (ssrc_in source) forwarder.settings.codec (datagrams_of source t.hops.wire.datagrams t.datagrams)
  of_source sources.First = (all_became samples all_steps first second forwarder receiver t run).sources_are.first.all
  of_source sources.Second = (all_became samples all_steps first second forwarder receiver t run).sources_are.second.all

  of_stretch : (g : Stretch) → AllOf false (ssrc_in g.source) forwarder.settings.codec (datagrams_in t.hops.wire.datagrams t.datagrams g)
  of_stretch g =
      all_right (ssrc_in g.source) codec g.first (take g.past (datagrams_of g.source t.hops.wire.datagrams t.datagrams))
      (all_taken (ssrc_in g.source) codec g.past (datagrams_of g.source t.hops.wire.datagrams t.datagrams) (of_source g.source))

  -- the packets of these stretches, behind the packets `ps`
  pub record PartsOn (i : ℕ) (vs : List ViewedStretch) (ps : List Packet) : Type 0 where
    pub moved : List Packet
    pub reads : AreDatagrams out moved (datagrams_viewed t.hops.wire.datagrams t.datagrams vs)
    pub few : length ps + length moved < 2 ^ 63
    pub numbered : AreNumbered (start + length ps) moved
    pub times : times_in moved ≡ times_sent first.stream.clock_rate all (send_each i (sent_in_all samples all_steps t (stretches_in vs))) (entries_in (sent_in_all samples all_steps t (stretches_in vs)))
    pub units : List SentUnit
    pub packets : packets_of units ≡ moved
    pub canonical : (a : ℕ) → map (λ (u : SentUnit). u.parts) units ≡ units_of_run (vp8 first.mtu roomy all a) all (sending_steps first.mtu (send_each i (sent_in_all samples all_steps t (stretches_in vs))))
    pub lawful : AllLawful Vp8Payloads false units
    pub one_time : AllOneTime units
    pub ids : CarryIds None 0 units
    pub values : (a : ℕ) → AllCarry (values_of_run (vp8 first.mtu roomy all a) all (sending_steps first.mtu (send_each i (sent_in_all samples all_steps t (stretches_in vs))))) units

  -- one stretch, with its own ids
  record OnePart (i : ℕ) (x : ViewedStretch) (ps : List Packet) : Type 0 where
    id : ℕ
    made : Part x.forwarder.ids.offsets all first.mtu buffer of_codec out start small receiver (sent_in_stretch samples all_steps t x.stretch) i id ps
        (map (viewer_datagram (without_ids x.forwarder)) (datagrams_in t.hops.wire.datagrams t.datagrams x.stretch))

  one_part : (i : ℕ) (x : ViewedStretch) (k : SendsOne x.stretch) (ps : List Packet) (raw : List (List ℕ)) → AreDatagrams out ps raw → AreNumbered start ps → length ps < 2 ^ 63 → GoesOne (length raw) x
      → AreAtIndex all i (viewer_samples x.forwarder first.stream.clock_rate (samples_in (sent_in_stretch samples all_steps t x.stretch)))
      → length (raw ++ map (viewer_datagram (without_ids x.forwarder)) (datagrams_in t.hops.wire.datagrams t.datagrams x.stretch)) < 2 ^ 63 → OnePart i x ps
  one_part i x k ps raw reads numbered few viewed at room =
      let e : Forward = without_ids x.forwarder in
      let g : Stretch = x.stretch in
      let xs : List Sent = sent_in_stretch samples all_steps t g in
      let source : Sending = sender_of g.source s in
      let clock : source.stream.clock_rate ≡ rate = clock_of samples all_steps first second forwarder receiver t run alike widths number g.source in
      let fits : x.forwarder.settings.payload_type < 128 = fits_type samples all_steps first second forwarder receiver t run alike widths number x.forwarder viewed.settings in
      let small_ssrc : x.forwarder.settings.ssrc < 2 ^ 32 = fits_ssrc samples all_steps first second forwarder receiver t run alike widths number x.forwarder viewed.settings in
      let whole : drop g.first k.after ≡ leg_of x = sent_behind samples all_steps first second forwarder receiver t run alike widths number HasId id_stays good_first good_second g k in
      let nothing : drop g.first k.before ≡ [] = none_yet samples all_steps first second forwarder receiver t run alike widths number HasId id_stays good_first good_second g k in
      let v : Sending = seen_sender unchanged e k.start in
      let sp : SendsPart e fits small_ssrc rate widths.clock_rate HasId id_stays unchanged (same_view x.forwarder HasId) source clock raw g.first receiver all xs i v k.end k.before k.after [] =
      send_part e fits small_ssrc rate widths.clock_rate HasId id_stays unchanged (same_view x.forwarder HasId) source clock raw g.first receiver all xs i v k.start k.end k.before k.after [] at k.has (omega (arith, k.at_first))
      (record { packetizer = refl; mtu = refl; stream = refl }) k.sends (subst (λ (ds : List (List ℕ)). length (raw ++ map (viewer_datagram e) ds) < 2 ^ 63) (sym whole) room) in
      let alone : Sending → List (List ℕ) → List SentSample → Wire = λ y ds es. record { sending = y; session = receiver; datagrams = ds; sends = es; receipts = []; pops = [] } in
      let seam : raw ++ map (viewer_datagram e) (drop g.first k.before) ≡ raw = ap (λ (ds : List (List ℕ)). raw ++ map (viewer_datagram e) ds) nothing ∙ append-nil raw in
      let count : length ps ≡ length raw = same_count out ps raw reads in
      record {
        id = k.has.packetizer.0;
        made = part x.forwarder.ids.offsets all first.mtu buffer of_codec out start small receiver xs i k.has.packetizer.0 v sp.left ps raw (map (viewer_datagram e) (leg_of x)) [] k.has.packetizer.1
            (record {
              mtu = k.has.mtu ∙ mtu_of samples all_steps first second forwarder receiver t run alike widths number g.source;
              built_in = ap is_built_in k.has.packetizer.1;
              kept = same_stream x.forwarder.settings forwarder.settings k.start.stream.clock_rate rate _ _ viewed.settings (ap (λ (o : Outgoing). o.clock_rate) k.has.stream ∙ clock) refl;
              number = omega (arith, viewed.number_is, k.has.number, k.at_first, number_of samples all_steps first second forwarder receiver t run alike widths number g.source, same, count);
              reads = reads;
              numbered = numbered;
              few = few;
            })
            (subst (λ (ds : List (List ℕ)). Runs all (send_each i xs) (alone v ds []) (alone sp.left (raw ++ map (viewer_datagram e) (leg_of x)) (entries_in xs))) seam
            (subst (λ (ds : List (List ℕ)).
            Runs all (send_each i xs) (alone v (raw ++ map (viewer_datagram e) (drop g.first k.before)) []) (alone sp.left (raw ++ map (viewer_datagram e) ds) (entries_in xs))) whole sp.runs));
      }

  -- a stretch in front of others
  parts_join : (i : ℕ) (x : ViewedStretch) (vs : List ViewedStretch) (ps : List Packet) (place : ℕ) → GoesOne place x
      → AreAtIndex all i (viewer_samples x.forwarder first.stream.clock_rate (samples_in (sent_in_stretch samples all_steps t x.stretch))) → (one : OnePart i x ps)
      → PartsOn (i + length (sent_in_stretch samples all_steps t x.stretch)) vs (ps ++ one.made.more) → PartsOn i (x ∷ vs) ps
  parts_join i x vs ps place viewed at one rest =
      let o : IdOffsets = x.forwarder.ids.offsets in
      let xs : List Sent = sent_in_stretch samples all_steps t x.stretch in
      let ys : List Sent = sent vs in
      let j : ℕ = i + length xs in
      let m = one.made in
      let here : List Packet = moved_packets o m.more in
      let size : length here ≡ length m.more = length-map m.more (moved_packet o) in
      let before : length (ps ++ m.more) ≡ length ps + length m.more = length-append ps m.more in
      let units : List SentUnit = m.units ++ rest.units in
      let each : send_each i (xs ++ ys) ≡ send_each i xs ++ send_each j ys = each_append i xs ys in
      let codec_at : x.forwarder.settings.codec ≡ codecs.Vp8 = ap (λ (z : _). z.codec) viewed.settings ∙ codec_is in
      record {
        moved = here ++ rest.moved;
        reads = datagrams_append out here (map (viewer_datagram x.forwarder) (leg_of x)) rest.moved (shown vs)
            (reads_moved x.forwarder (fits_type samples all_steps first second forwarder receiver t run alike widths number x.forwarder viewed.settings)
            (fits_ssrc samples all_steps first second forwarder receiver t run alike widths number x.forwarder viewed.settings) false (ssrc_in x.stretch.source) codec codec_at out m.more (leg_of x) (of_stretch x.stretch) m.reads)
            rest.reads;
        few = omega (arith, rest.few, before, size, length-append here rest.moved);
        numbered = numbered_append (start + length ps) here rest.moved m.numbered (subst (λ (n : ℕ). AreNumbered n rest.moved) (omega (arith, before, size)) rest.numbered);
        times = packet_times here rest.moved
            ∙ (ap (λ (ts : List ℕ). ts ++ times_in rest.moved) (times_moved o m.more ∙ m.times)
            ∙ (ap (λ (ts : List ℕ). times_sent rate all (send_each i xs) (entries_in xs) ++ ts) rest.times
            ∙ (sym (times_joined rate all (viewer_samples x.forwarder rate (samples_in xs)) xs i (send_each j ys) (entries_in ys) at (seen_moved x.forwarder rate xs))
            ∙ (ap (λ (es : List SentSample). times_sent rate all (send_each i xs ++ send_each j ys) es) (sym (map_append (λ (z : Sent). z.entry) xs ys))
            ∙ ap (λ (ss : List DatagramStep). times_sent rate all ss (entries_in (xs ++ ys))) (sym each)))));
        units = units;
        packets = packets_append m.units rest.units ∙ (ap (λ (qs : List Packet). qs ++ packets_of rest.units) m.packets ∙ ap (λ (qs : List Packet). here ++ qs) rest.packets);
        canonical = λ a.
            map-append (λ (u : SentUnit). u.parts) m.units rest.units
            ∙ (ap (λ (us : List (List (List ℕ))). us ++ map (λ (u : SentUnit). u.parts) rest.units) (m.canonical ∙ units_other first.mtu roomy all a one.id (send_each i xs))
            ∙ (ap (λ (us : List (List (List ℕ))). units_of_run (vp8 first.mtu roomy all a) all (sending_steps first.mtu (send_each i xs)) ++ us) (rest.canonical a)
            ∙ (sym (units_join first.mtu roomy all a a (send_each i xs) (send_each j ys))
            ∙ ap (λ (ss : List DatagramStep). units_of_run (vp8 first.mtu roomy all a) all (sending_steps first.mtu ss)) (sym each))));
        lawful = lawful_append Vp8Payloads false m.units rest.units m.lawful rest.lawful;
        one_time = times_append m.units rest.units m.one_time rest.one_time;
        ids = carry_on None None m.units rest.units m.ids (λ n. refl) rest.ids;
        values = λ a.
            subst (λ (ss : List DatagramStep). AllCarry (values_of_run (vp8 first.mtu roomy all a) all (sending_steps first.mtu ss)) units) (sym each)
            (subst (λ (vals : List ExtensionValues). AllCarry vals units) (sym (values_join first.mtu roomy all a a (send_each i xs) (send_each j ys)))
            (carry_append (values_of_run (vp8 first.mtu roomy all a) all (sending_steps first.mtu (send_each i xs))) (values_of_run (vp8 first.mtu roomy all a) all (sending_steps first.mtu (send_each j ys))) m.units rest.units
            (subst (λ (vals : List ExtensionValues). AllCarry vals m.units) (values_other first.mtu roomy all a one.id (send_each i xs)) m.values) (rest.values a)));
      }

  pub parts_on : (i : ℕ) (vs : List ViewedStretch) (ps : List Packet) (raw : List (List ℕ)) → AreDatagrams out ps raw → AreNumbered start ps → length ps < 2 ^ 63 → Goes (length raw) vs → Sends vs
      → AreAtIndex all i (samples_viewed samples all_steps first.stream.clock_rate t vs) → length (raw ++ raw_of vs) < 2 ^ 63 → PartsOn i vs ps
  parts_on i [] ps raw reads numbered few viewed sends at room = record {
    moved = [];
    reads = tt;
    few = omega (arith, few);
    numbered = tt;
    times = refl;
    units = [];
    packets = refl;
    canonical = λ a. refl;
    lawful = tt;
    one_time = tt;
    ids = tt;
    values = λ a. tt;
  }
  parts_on i (x ∷ vs) ps raw reads numbered few viewed sends at room =
      let g : Stretch = x.stretch in
      let xs : List Sent = sent_in_stretch samples all_steps t g in
      let leg : List (List ℕ) = map (viewer_datagram (without_ids x.forwarder)) (leg_of x) in
      let long : length leg ≡ g.past - g.first = length-map (leg_of x) (viewer_datagram (without_ids x.forwarder)) ∙ size_in t.hops.wire.datagrams t.datagrams g viewed.0.sent in
      let place : length raw + (g.past - g.first) ≡ length (raw ++ leg) = omega (arith, length-append raw leg, long) in
      let index = moved_index all i rate x.forwarder xs (samples_viewed samples all_steps rate t vs) at in
      let less : length (raw ++ leg) < 2 ^ 63 = omega (arith, room, length-append raw leg, length-append leg (raw_of vs), length-append raw (leg ++ raw_of vs)) in
      let one : OnePart i x ps = one_part i x sends.0 ps raw reads numbered few viewed.0 index.0 less in
      parts_join i x vs ps (length raw) viewed.0 index.0 one
      (parts_on (i + length xs) vs (ps ++ one.made.more) (raw ++ leg) (datagrams_append out ps raw one.made.more leg reads one.made.reads) one.made.in_order (omega (arith, one.made.few, length-append ps one.made.more))
      (subst (λ (n : ℕ). Goes n vs) place viewed.1) sends.1 index.1 (subst (λ (ds : List (List ℕ)). length ds < 2 ^ 63) (sym (append_assoc raw leg (raw_of vs))) room))

  pub raw_count : (vs : List ViewedStretch) → length (raw_of vs) ≡ length (datagrams_viewed t.hops.wire.datagrams t.datagrams vs)
  raw_count [] = refl
  raw_count (x ∷ vs) = omega (
    arith,
    length-append (map (viewer_datagram (without_ids x.forwarder)) (leg_of x)) (raw_of vs),
    length-append (map (viewer_datagram x.forwarder) (leg_of x)) (shown vs),
    length-map (leg_of x) (viewer_datagram (without_ids x.forwarder)),
    length-map (leg_of x) (viewer_datagram x.forwarder),
    raw_count vs,
  )
