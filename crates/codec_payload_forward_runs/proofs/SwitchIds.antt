-- Packets of VP8 with picture ids, of two sources: moved by the offsets of each source, they are the stream of the units of their frames.
use Rattle.std.proofs.Common.{◌≡◌, ◌∙◌, refl, sym, ap, subst, ℕ, ◌+◌, ◌^◌, ◌<◌, List, [], ◌∷◌, ◌++◌, append_assoc, length-append, false, Option, Some, None, Ok, length, map, arith}
use Rattle.std.specs.Prelude.{not, slice_get}
use Rattle.std.proofs.lemmas.List.{append_cancel_left, length-map, map-append}
use Rattle.codec_payload_base.specs.declared.wire.extension.ExtensionValues.{ExtensionValues}
use Rattle.codec_payload_buffer.specs.Steps.{State}
use Rattle.codec_payload_buffer_runs.proofs.units.BuiltInRuns.{IsOfCodec, Runs as PlainRuns, plainly, runs_exactly}
use Rattle.codec_payload_buffer_runs.proofs.units.SendsUnits.{CarryIds, carry_on}
use Rattle.codec_payload_buffer_runs.proofs.units.StreamLemmas.{Streams, streams}
use Rattle.codec_payload_buffer_runs.proofs.units.UnitTimes.{AllOneTime, times_append}
use Rattle.codec_payload_buffer_runs.proofs.units.UnitValues.{AllCarry, carry_append}
use Rattle.codec_payload_buffer_runs.specs.LawfulUnits.{AllLawful}
use Rattle.codec_payload_buffer_runs.specs.RunValues.{values_of_run, values_of_sample}
use Rattle.codec_payload_buffer_runs.specs.Schedule.{RunState, run_state}
use Rattle.codec_payload_buffer_runs.specs.SentStream.{SentUnit, packetizer_after_sample, packets_of, units_of_run, units_of_sample}
use Rattle.codec_payload_buffer_runs.specs.Units.{canonical_units, is_skipped}
use Rattle.codec_payload_buffer_runs.specs.declared.run.Step.{Step}
use Rattle.codec_payload_codec.specs.Depacketizers.{Vp8Payloads}
use Rattle.codec_payload_codec.specs.Packetizers.{PacketizerState, PacketizerStep, Vp8Packetizing, is_built_in}
use Rattle.codec_payload_payloader.specs.Packets.{AreNumbered, Packet}
use Rattle.codec_payload_payloader.specs.Sending.{Sample}
use Rattle.codec_payload_receiver.specs.Sessions.{Session}
use Rattle.codec_payload_sending.specs.Senders.{Sending, Sends}
use Rattle.codec_payload_sending.specs.declared.sender.Outgoing.{Outgoing}
use Rattle.codec_payload_sending_forward.specs.declared.ids.IdOffsets.{IdOffsets}
use Rattle.codec_payload_datagram_runs.proofs.Courses.{proceeds}
use Rattle.codec_payload_datagram_runs.proofs.SendingLemmas.{IsAt, SendsRun, running, sends_run}
use Rattle.codec_payload_datagram_runs.specs.Releases.{AreDatagrams, sending_steps, times_sent}
use Rattle.codec_payload_datagram_runs.specs.WireRuns.{Runs, Wire, sent_sample}
use Rattle.codec_payload_datagram_runs.specs.declared.run.DatagramStep.{DatagramStep}
use Rattle.codec_payload_datagram_runs.specs.declared.run.DatagramStep.TheVariants as seen
use Rattle.codec_payload_datagram_runs.specs.declared.run.SentSample.{SentSample}
use Rattle.codec_payload_forward_runs.proofs.LeavePictures.{must_send}
use Rattle.codec_payload_forward_runs.proofs.LeaveStreams.{next_is, packet_times, same_canonical, times_in}
use Rattle.codec_payload_forward_runs.proofs.MovedStreams.{lawful_append, moved_packet, moved_packets, moved_run, moved_streams, numbered_append, packets_append, readable}
use Rattle.codec_payload_forward_runs.proofs.MovedVp8.{SendsMoved, sends_moved}
use Rattle.codec_payload_forward_runs.proofs.SenderLemmas.{map_append}
use Rattle.codec_payload_forward_runs.proofs.SwitchSamples.{AreSeen}
use Rattle.codec_payload_forward_runs.proofs.SwitchSenders.{AreAtIndex}
use Rattle.codec_payload_forward_runs.proofs.SwitchSent.{Stays}
use Rattle.codec_payload_forward_runs.specs.SwitchUnits.{Sent, entries_in, send_each, units_of_sent}

-- A packetizer of VP8 that sends picture ids keeps sending them

abbrev pub HasId : PacketizerState → Type 0
HasId packetizer = (id : ℕ) × (packetizer ≡ Vp8Packetizing (Some id))

pub id_stays : Stays HasId
id_stays sample s t fault has sends =
    let made : Sends s (sent_sample sample) t = must_send sample s t fault has.0 has.1 sends in
    let step : PacketizerStep (Vp8Packetizing (Some has.0)) s.mtu sample.bytes (Ok made.payloads) t.packetizer =
    subst (λ (p : PacketizerState). PacketizerStep p s.mtu sample.bytes (Ok made.payloads) t.packetizer) has.1 (made.packetized (ap is_built_in has.1)) in
    let one : SendsMoved (record { picture = 0; tl0 = 0 }) has.0 s.mtu sample 0 0 (Ok made.payloads) t.packetizer =
    sends_moved (record { picture = 0; tl0 = 0 }) has.0 s.mtu sample 0 0 (Ok made.payloads) t.packetizer step (λ fault. cc) in
    (one.next, one.left)

-- Units and values do not depend on ids, if payloads have room for any id

module _ (mtu : ℕ) (roomy : 4 < mtu) (all : List Sample) where
  abbrev pub vp8 : ℕ → PacketizerState
  vp8 id = Vp8Packetizing (Some id)

  units_same : (a b : ℕ) (o : Option Sample) → units_of_sample (vp8 a) mtu o ≡ units_of_sample (vp8 b) mtu o
  units_same a b None = refl
  units_same a b (Some sample) = same_canonical a b mtu sample.bytes roomy

  values_same : (a b : ℕ) (o : Option Sample) → values_of_sample (vp8 a) mtu o ≡ values_of_sample (vp8 b) mtu o
  values_same a b None = refl
  values_same a b (Some sample) = ap (map (λ (unit : List (List ℕ)). sample.ext_vals)) (same_canonical a b mtu sample.bytes roomy)

  after_is : (a : ℕ) (o : Option Sample) → (next : ℕ) × (packetizer_after_sample (vp8 a) mtu o ≡ vp8 next)
  after_is a None = (a, refl)
  after_is a (Some sample) = let next = next_is (not (is_skipped (vp8 a) mtu sample.bytes)) a in (next.0, ap Vp8Packetizing next.1)

  pub units_join : (a b : ℕ) (ds rest : List DatagramStep) → units_of_run (vp8 a) all (sending_steps mtu (ds ++ rest)) ≡ units_of_run (vp8 a) all (sending_steps mtu ds) ++ units_of_run (vp8 b) all (sending_steps mtu rest)
  units_join a b [] [] = refl
  units_join a b [] (seen.Deliver k now ∷ rest) = units_join a b [] rest
  units_join a b [] (seen.Pop now ∷ rest) = units_join a b [] rest
  units_join a b [] (seen.Finish ∷ rest) = units_join a b [] rest
  units_join a b [] (seen.Send i ∷ rest) =
      let o : Option Sample = slice_get all i in
      let here : units_of_sample (vp8 a) mtu o ≡ units_of_sample (vp8 b) mtu o = units_same a b o in
      let one = after_is a o in
      let two = after_is b o in
      ap (λ (us : List (List (List ℕ))). us ++ units_of_run (packetizer_after_sample (vp8 a) mtu o) all (sending_steps mtu rest)) here
      ∙ ap (λ (us : List (List (List ℕ))). units_of_sample (vp8 b) mtu o ++ us)
      (ap (λ (p : PacketizerState). units_of_run p all (sending_steps mtu rest)) one.1 ∙ (units_join one.0 two.0 [] rest ∙ ap (λ (p : PacketizerState). units_of_run p all (sending_steps mtu rest)) (sym two.1)))
  units_join a b (seen.Deliver k now ∷ ds) rest = units_join a b ds rest
  units_join a b (seen.Pop now ∷ ds) rest = units_join a b ds rest
  units_join a b (seen.Finish ∷ ds) rest = units_join a b ds rest
  units_join a b (seen.Send i ∷ ds) rest =
      let o : Option Sample = slice_get all i in
      let one = after_is a o in
      let later : List (List (List ℕ)) = units_of_run (vp8 b) all (sending_steps mtu rest) in
      ap (λ (us : List (List (List ℕ))). units_of_sample (vp8 a) mtu o ++ us)
      (ap (λ (p : PacketizerState). units_of_run p all (sending_steps mtu (ds ++ rest))) one.1
      ∙ (units_join one.0 b ds rest ∙ ap (λ (p : PacketizerState). units_of_run p all (sending_steps mtu ds) ++ later) (sym one.1)))
      ∙ sym (append_assoc (units_of_sample (vp8 a) mtu o) (units_of_run (packetizer_after_sample (vp8 a) mtu o) all (sending_steps mtu ds)) later)

  pub values_join : (a b : ℕ) (ds rest : List DatagramStep) → values_of_run (vp8 a) all (sending_steps mtu (ds ++ rest)) ≡ values_of_run (vp8 a) all (sending_steps mtu ds) ++ values_of_run (vp8 b) all (sending_steps mtu rest)
  values_join a b [] [] = refl
  values_join a b [] (seen.Deliver k now ∷ rest) = values_join a b [] rest
  values_join a b [] (seen.Pop now ∷ rest) = values_join a b [] rest
  values_join a b [] (seen.Finish ∷ rest) = values_join a b [] rest
  values_join a b [] (seen.Send i ∷ rest) =
      let o : Option Sample = slice_get all i in
      let one = after_is a o in
      let two = after_is b o in
      ap (λ (vs : List ExtensionValues). vs ++ values_of_run (packetizer_after_sample (vp8 a) mtu o) all (sending_steps mtu rest)) (values_same a b o)
      ∙ ap (λ (vs : List ExtensionValues). values_of_sample (vp8 b) mtu o ++ vs)
      (ap (λ (p : PacketizerState). values_of_run p all (sending_steps mtu rest)) one.1 ∙ (values_join one.0 two.0 [] rest ∙ ap (λ (p : PacketizerState). values_of_run p all (sending_steps mtu rest)) (sym two.1)))
  values_join a b (seen.Deliver k now ∷ ds) rest = values_join a b ds rest
  values_join a b (seen.Pop now ∷ ds) rest = values_join a b ds rest
  values_join a b (seen.Finish ∷ ds) rest = values_join a b ds rest
  values_join a b (seen.Send i ∷ ds) rest =
      let o : Option Sample = slice_get all i in
      let one = after_is a o in
      let later : List ExtensionValues = values_of_run (vp8 b) all (sending_steps mtu rest) in
      ap (λ (vs : List ExtensionValues). values_of_sample (vp8 a) mtu o ++ vs)
      (ap (λ (p : PacketizerState). values_of_run p all (sending_steps mtu (ds ++ rest))) one.1
      ∙ (values_join one.0 b ds rest ∙ ap (λ (p : PacketizerState). values_of_run p all (sending_steps mtu ds) ++ later) (sym one.1)))
      ∙ sym (append_assoc (values_of_sample (vp8 a) mtu o) (values_of_run (packetizer_after_sample (vp8 a) mtu o) all (sending_steps mtu ds)) later)

  -- the units of samples
  pub units_with_ids : (a b : ℕ) (ys : List Sample) (xs : List Sent) (i : ℕ) → AreAtIndex all i ys → AreSeen ys xs → units_of_run (vp8 a) all (sending_steps mtu (send_each i xs)) ≡ units_of_sent (vp8 b) mtu xs
  units_with_ids a b [] [] i at same = refl
  units_with_ids a b [] (x ∷ xs) i at same = absurd same
  units_with_ids a b (y ∷ ys) [] i at same = absurd same
  units_with_ids a b (y ∷ ys) (x ∷ xs) i at same =
      let one = after_is a (Some y) in
      ap (λ (o : Option Sample). units_of_sample (vp8 a) mtu o ++ units_of_run (packetizer_after_sample (vp8 a) mtu o) all (sending_steps mtu (send_each (i + 1) xs))) at.0
      ∙ (ap (λ (us : List (List (List ℕ))). us ++ units_of_run (packetizer_after_sample (vp8 a) mtu (Some y)) all (sending_steps mtu (send_each (i + 1) xs)))
      (same_canonical a b mtu y.bytes roomy ∙ ap (canonical_units (vp8 b) mtu) same.0)
      ∙ ap (λ (us : List (List (List ℕ))). canonical_units (vp8 b) mtu x.sample.bytes ++ us)
      (ap (λ (p : PacketizerState). units_of_run p all (sending_steps mtu (send_each (i + 1) xs))) one.1 ∙ units_with_ids one.0 b ys xs (i + 1) at.1 same.1))

-- other ids of the samples alone
pub sent_other : (a b mtu : ℕ) (xs : List Sent) → 4 < mtu → units_of_sent (Vp8Packetizing (Some a)) mtu xs ≡ units_of_sent (Vp8Packetizing (Some b)) mtu xs
sent_other a b mtu [] roomy = refl
sent_other a b mtu (x ∷ xs) roomy =
    ap (λ (us : List (List (List ℕ))). us ++ units_of_sent (Vp8Packetizing (Some a)) mtu xs) (same_canonical a b mtu x.sample.bytes roomy)
    ∙ ap (λ (us : List (List (List ℕ))). canonical_units (Vp8Packetizing (Some b)) mtu x.sample.bytes ++ us) (sent_other a b mtu xs roomy)

-- The packets of one source

-- datagrams after those of other packets
datagrams_right : (stream : Outgoing) (ps qs : List Packet) (ds es : List (List ℕ)) → AreDatagrams stream ps ds → AreDatagrams stream (ps ++ qs) (ds ++ es) → AreDatagrams stream qs es
datagrams_right stream [] qs [] es here whole = whole
datagrams_right stream [] qs (d ∷ ds) es here whole = absurd here
datagrams_right stream (p ∷ ps) qs [] es here whole = absurd here
datagrams_right stream (p ∷ ps) qs (d ∷ ds) es here whole = datagrams_right stream ps qs ds es here.1 whole.1

module _ (o : IdOffsets) (all : List Sample) (mtu : ℕ) (buffer : State) (of_codec : IsOfCodec buffer) (stream : Outgoing) (start : ℕ) (small : start < 2 ^ 63) (receiver : Session) where
  abbrev rate : ℕ
  rate = stream.clock_rate

  -- these samples were sent with these datagrams, after the packets `ps`
  pub record Part (xs : List Sent) (i id : ℕ) (ps : List Packet) (new : List (List ℕ)) : Type 0 where
    pub more : List Packet
    pub reads : AreDatagrams stream more new
    pub in_order : AreNumbered start (ps ++ more)
    pub numbered : AreNumbered (start + length ps) (moved_packets o more)
    pub few : length ps + length more < 2 ^ 63
    pub times : times_in more ≡ times_sent rate all (send_each i xs) (entries_in xs)
    pub units : List SentUnit
    pub packets : packets_of units ≡ moved_packets o more
    pub canonical : map (λ (u : SentUnit). u.parts) units ≡ units_of_run (Vp8Packetizing (Some id)) all (sending_steps mtu (send_each i xs))
    pub lawful : AllLawful Vp8Payloads false units
    pub one_time : AllOneTime units
    pub ids : CarryIds None 0 units
    pub values : AllCarry (values_of_run (Vp8Packetizing (Some id)) all (sending_steps mtu (send_each i xs))) units

  -- a run in which nothing was delivered yet
  abbrev alone : Sending → List (List ℕ) → List SentSample → Wire
  alone v ds es = record { sending = v; session = receiver; datagrams = ds; sends = es; receipts = []; pops = [] }

  pub part : (xs : List Sent) (i id : ℕ) (v left : Sending) (ps : List Packet) (ds new : List (List ℕ)) (es : List SentSample) → v.packetizer ≡ Vp8Packetizing (Some id) → IsAt stream mtu start v ds ps
      → Runs all (send_each i xs) (alone v ds es) (alone left (ds ++ new) (es ++ entries_in xs)) → Part xs i id ps new
  part xs i id v left ps ds new es own at run =
      let steps : List DatagramStep = send_each i xs in
      let sends : List Step = sending_steps mtu steps in
      let runs : SendsRun buffer stream mtu start 0 all steps (alone v ds es) (alone left (ds ++ new) (es ++ entries_in xs)) ps =
      sends_run buffer stream mtu start small all None 0 steps (alone v ds es) (alone left (ds ++ new) (es ++ entries_in xs)) ps at
      (proceeds None all steps (alone v ds es) (alone left (ds ++ new) (es ++ entries_in xs)) run) in
      let begun : RunState = running buffer start rate v ps in
      let ended : RunState = running buffer start rate left runs.all in
      let exact : PlainRuns plainly all 0 sends begun runs.entries [] ended = runs_exactly all 0 sends begun runs.entries [] ended (ap is_built_in own) of_codec runs.runs in
      let plain : Streams all sends begun ended = streams plainly all 0 sends begun ended runs.entries [] exact in
      let moved : Streams all sends (run_state (record { packetizer = Vp8Packetizing (Some id); clock_rate = rate }) buffer (record { first = start; packets = moved_packets o ps })) (moved_run o all mtu ended) =
      subst (λ (p : PacketizerState). Streams all sends (run_state (record { packetizer = p; clock_rate = rate }) buffer (record { first = start; packets = moved_packets o ps })) (moved_run o all mtu ended)) own
      (moved_streams o all mtu 0 id steps begun ended runs.entries [] own exact) in
      let more : List Packet = packets_of plain.units in
      let later : runs.later ≡ entries_in xs = sym (append_cancel_left es (entries_in xs) runs.later runs.sends_are) in
      let packets : packets_of moved.units ≡ moved_packets o more =
      sym (append_cancel_left (moved_packets o ps) (moved_packets o more) (packets_of moved.units) (sym (map_append (moved_packet o) ps more) ∙ (ap (moved_packets o) (sym plain.gained) ∙ moved.gained))) in
      record {
        more = more;
        reads = datagrams_right stream ps more ds new at.reads (subst (λ (qs : List Packet). AreDatagrams stream qs (ds ++ new)) plain.gained runs.at.reads);
        in_order = subst (AreNumbered start) plain.gained runs.at.numbered;
        numbered = subst (λ (n : ℕ). AreNumbered (start + n) (moved_packets o more)) (length-map ps (moved_packet o)) (subst (AreNumbered (start + length (moved_packets o ps))) packets moved.numbered);
        few = omega (arith, runs.at.few, ap length plain.gained, length-append ps more);
        times = append_cancel_left (times_in ps) (times_in more) (times_sent rate all steps (entries_in xs))
            (sym (packet_times ps more) ∙ (ap times_in (sym plain.gained) ∙ (runs.times ∙ ap (λ (ls : List SentSample). times_in ps ++ times_sent rate all steps ls) later)));
        units = moved.units;
        packets = packets;
        canonical = moved.canonical;
        lawful = moved.lawful (readable (Some id) all);
        one_time = moved.one_time;
        ids = moved.ids;
        values = moved.values refl;
      }

-- Both parts

module _ (all : List Sample) (mtu : ℕ) (roomy : 4 < mtu) (buffer : State) (of_codec : IsOfCodec buffer) (stream : Outgoing) (start : ℕ) (small : start < 2 ^ 63) (receiver : Session) where
  abbrev before : ℕ → List Packet → RunState
  before id packets = run_state (record { packetizer = Vp8Packetizing (Some id); clock_rate = stream.clock_rate }) buffer (record { first = start; packets = packets })

  pub joined : (o p : IdOffsets) (xs ys : List Sent) (i j a b : ℕ) (new other : List (List ℕ)) (one : Part o all mtu buffer of_codec stream start small receiver xs i a [] new)
      → (two : Part p all mtu buffer of_codec stream start small receiver ys j b one.more other)
      → Streams all (sending_steps mtu (send_each i xs ++ send_each j ys)) (before a []) (before b (moved_packets o one.more ++ moved_packets p two.more))
  joined o p xs ys i j a b new other one two =
      let units : List SentUnit = one.units ++ two.units in
      let all_are : packets_of units ≡ moved_packets o one.more ++ moved_packets p two.more =
      packets_append one.units two.units
      ∙ (ap (λ (qs : List Packet). qs ++ packets_of two.units) one.packets ∙ ap (λ (qs : List Packet). moved_packets o one.more ++ qs) two.packets) in
      let size : length (moved_packets o one.more) ≡ length one.more = length-map one.more (moved_packet o) in
      let numbers : AreNumbered (start + 0 + length (moved_packets o one.more)) (moved_packets p two.more) = subst (λ (n : ℕ). AreNumbered n (moved_packets p two.more)) (omega (arith, size)) two.numbered in
      record {
        units = units;
        canonical = map-append (λ (u : SentUnit). u.parts) one.units two.units
            ∙ (ap (λ (us : List (List (List ℕ))). us ++ map (λ (u : SentUnit). u.parts) two.units) one.canonical
            ∙ (ap (λ (us : List (List (List ℕ))). units_of_run (Vp8Packetizing (Some a)) all (sending_steps mtu (send_each i xs)) ++ us) two.canonical
            ∙ sym (units_join mtu roomy all a b (send_each i xs) (send_each j ys))));
        gained = sym all_are;
        lawful = λ _. lawful_append Vp8Payloads false one.units two.units one.lawful two.lawful;
        one_time = times_append one.units two.units one.one_time two.one_time;
        numbered = subst (AreNumbered (start + 0)) (sym all_are) (numbered_append (start + 0) (moved_packets o one.more) (moved_packets p two.more) one.numbered numbers);
        ids = carry_on None None one.units two.units one.ids (λ m. refl) two.ids;
        few = λ _. omega (arith, two.few, size, length-map two.more (moved_packet p), length-append (moved_packets o one.more) (moved_packets p two.more));
        first = refl;
        values = λ video. subst (λ (vs : List ExtensionValues). AllCarry vs units) (sym (values_join mtu roomy all a b (send_each i xs) (send_each j ys)))
            (carry_append (values_of_run (Vp8Packetizing (Some a)) all (sending_steps mtu (send_each i xs))) (values_of_run (Vp8Packetizing (Some b)) all (sending_steps mtu (send_each j ys))) one.units two.units one.values two.values);
      }
