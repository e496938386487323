-- The packets of VP8 that a run sends, with their picture ids moved, are the stream of the units of the run.
use Rattle.std.proofs.Common.{◌≡◌, ◌∙◌, refl, sym, ap, subst, ℕ, ◌+◌, ◌%◌, ◌^◌, ◌<◌, List, [], ◌∷◌, ◌++◌, Bool, Option, Some, None, MatchOption, length, map, arith, append_assoc, append-nil, length-append}
use Rattle.std.specs.Prelude.{slice_get}
use Rattle.std.proofs.lemmas.List.{length-map, map-append}
use Rattle.codec_payload_base.specs.StrippedValues.{stripped}
use Rattle.codec_payload_base.specs.declared.wire.extension.ExtensionValues.{ExtensionValues}
use Rattle.codec_payload_buffer_runs.proofs.units.BuiltInRuns.{Runs, SendsIt, plainly}
use Rattle.codec_payload_buffer_runs.proofs.units.SendsUnits.{CarryIds, SendsUnits, carry_on}
use Rattle.codec_payload_buffer_runs.proofs.units.StreamLemmas.{Streams}
use Rattle.codec_payload_buffer_runs.proofs.units.UnitTimes.{times_append, times_of_sample}
use Rattle.codec_payload_buffer_runs.proofs.units.UnitValues.{AllCarry, carried_by_sample, carry_append}
use Rattle.codec_payload_buffer_runs.specs.LawfulUnits.{AllLawful}
use Rattle.codec_payload_buffer_runs.specs.ReportedIds.{next_id}
use Rattle.codec_payload_buffer_runs.specs.RunValues.{values_of_run, values_of_sample}
use Rattle.codec_payload_buffer_runs.specs.Schedule.{Answer, RunState, packets_sent, payloads_of}
use Rattle.codec_payload_buffer_runs.specs.SentStream.{AreReadable, SentUnit, packetizer_after_sample, packets_of, units_of_run, units_of_sample}
use Rattle.codec_payload_buffer_runs.specs.Units.{canonical_units, packetizer_after}
use Rattle.codec_payload_buffer_runs.specs.declared.run.Sent.{Sent}
use Rattle.codec_payload_buffer_runs.specs.declared.run.Step.{Step}
use Rattle.codec_payload_buffer_runs.specs.declared.run.Step.TheVariants as run_steps
use Rattle.codec_payload_codec.specs.Depacketizers.{DepacketizerKind}
use Rattle.codec_payload_codec.specs.Packetizers.{PacketizerState, PacketizerStep, Vp8Packetizing, is_video, may_split, payloads_by}
use Rattle.codec_payload_datagram_runs.specs.Releases.{sending_steps}
use Rattle.codec_payload_datagram_runs.specs.declared.run.DatagramStep.{DatagramStep}
use Rattle.codec_payload_datagram_runs.specs.declared.run.DatagramStep.TheVariants as steps
use Rattle.codec_payload_payloader.specs.Packets.{AreNumbered, Packet}
use Rattle.codec_payload_payloader.specs.Sending.{Sample, is_last, packet_for, packets_for, packets_from, rtp_time_at}
use Rattle.codec_payload_sending_forward.specs.Vp8Numbers.{payload_as}
use Rattle.codec_payload_sending_forward.specs.declared.ids.IdOffsets.{IdOffsets}
use Rattle.codec_payload_forward_runs.proofs.MovedVp8.{SendsMoved, sends_moved}
use Rattle.codec_payload_forward_runs.proofs.SenderLemmas.{map_append}

-- Lists

pub packets_append : (us vs : List SentUnit) → packets_of (us ++ vs) ≡ packets_of us ++ packets_of vs
packets_append [] vs = refl
packets_append (u ∷ us) vs = ap (λ (zs : List Packet). u.packets ++ zs) (packets_append us vs) ∙ sym (append_assoc u.packets (packets_of us) (packets_of vs))

pub lawful_append : (kind : DepacketizerKind) (splits : Bool) (us vs : List SentUnit) → AllLawful kind splits us → AllLawful kind splits vs → AllLawful kind splits (us ++ vs)
lawful_append kind splits [] vs a b = b
lawful_append kind splits (u ∷ us) vs a b = (a.0, lawful_append kind splits us vs a.1 b)

pub numbered_append : (n : ℕ) (ps qs : List Packet) → AreNumbered n ps → AreNumbered (n + length ps) qs → AreNumbered n (ps ++ qs)
numbered_append n [] qs a b = subst (λ (m : ℕ). AreNumbered m qs) (omega arith) b
numbered_append n (p ∷ ps) qs a b = (a.0, numbered_append (n + 1) ps qs a.1 (subst (λ (m : ℕ). AreNumbered m qs) (omega arith) b))

pub readable : (id : Option ℕ) (samples : List Sample) → AreReadable (Vp8Packetizing id) samples
readable id [] = tt
readable id (sample ∷ samples) = (refl, readable id samples)

-- Packets

abbrev pub moved_packet : IdOffsets → Packet → Packet
moved_packet o q = record q { payload = payload_as o q.payload }

abbrev pub moved_packets : IdOffsets → List Packet → List Packet
moved_packets o = map (moved_packet o)

pub numbered_moved : (o : IdOffsets) (n : ℕ) (qs : List Packet) → AreNumbered n qs → AreNumbered n (moved_packets o qs)
numbered_moved o n [] are = tt
numbered_moved o n (q ∷ qs) are = (are.0, numbered_moved o (n + 1) qs are.1)

last_same : (o : IdOffsets) (payloads : List (List ℕ)) → is_last (map (payload_as o) payloads) ≡ is_last payloads
last_same o [] = refl
last_same o (payload ∷ payloads) = refl

from_moved : (o : IdOffsets) (packetizer : PacketizerState) (sample : Sample) (rtp_time number place : ℕ) (payloads : List (List ℕ))
    → moved_packets o (packets_from packetizer sample rtp_time number place payloads) ≡ packets_from packetizer sample rtp_time number place (map (payload_as o) payloads)
from_moved o packetizer sample rtp_time number place [] = refl
from_moved o packetizer sample rtp_time number place (payload ∷ payloads) =
    let count : place + 1 + length payloads ≡ place + 1 + length (map (payload_as o) payloads) = omega (arith, length-map payloads (payload_as o)) in
    ap (λ (n : ℕ). packet_for packetizer sample rtp_time number (stripped sample.ext_vals place n) (is_last payloads) (payload_as o payload)
    ∷ moved_packets o (packets_from packetizer sample rtp_time ((number + 1) % 2 ^ 64) (place + 1) payloads)) count
    ∙ (ap (λ (b : Bool). packet_for packetizer sample rtp_time number (stripped sample.ext_vals place (place + 1 + length (map (payload_as o) payloads))) b (payload_as o payload)
    ∷ moved_packets o (packets_from packetizer sample rtp_time ((number + 1) % 2 ^ 64) (place + 1) payloads)) (sym (last_same o payloads))
    ∙ ap (λ (qs : List Packet). packet_for packetizer sample rtp_time number (stripped sample.ext_vals place (place + 1 + length (map (payload_as o) payloads))) (is_last (map (payload_as o) payloads)) (payload_as o payload)
    ∷ qs) (from_moved o packetizer sample rtp_time ((number + 1) % 2 ^ 64) (place + 1) payloads))

-- Runs

module _ (o : IdOffsets) (samples : List Sample) (mtu : ℕ) where
  -- the packets of a run with their ids moved
  abbrev pub moved_run : RunState → RunState
  moved_run s = record s { sink = record s.sink { packets = moved_packets o s.sink.packets } }

  abbrev Goes : List DatagramStep → RunState → RunState → Type 0
  Goes all_steps s t = Streams samples (sending_steps mtu all_steps) (moved_run s) (moved_run t)

  nothing : (s t : RunState) → t ≡ s → Goes [] s t
  nothing s t same = record {
    units = [];
    canonical = refl;
    gained = ap (λ (x : RunState). moved_packets o x.sink.packets) same ∙ sym (append-nil (moved_packets o s.sink.packets));
    lawful = λ _. tt;
    one_time = tt;
    numbered = tt;
    ids = tt;
    few = λ few. subst (λ (x : RunState). length (moved_packets o x.sink.packets) < 2 ^ 63) (sym same) few;
    first = ap (λ (x : RunState). x.sink.first) same;
    values = λ video. tt;
  }

  -- there is no such sample
  none_sent : (later : List DatagramStep) (i : ℕ) (s mid t : RunState) → slice_get samples i ≡ None → mid ≡ s → Goes later mid t → Goes (steps.Send i ∷ later) s t
  none_sent later i s mid t none same goes =
      let rest : Goes later s t = subst (λ (x : RunState). Goes later x t) same goes in
      let p : PacketizerState = s.payloading.packetizer in
      let more : List Step = sending_steps mtu later in
      record {
        units = rest.units;
        canonical = rest.canonical ∙ sym (ap (λ (x : Option Sample). units_of_sample p mtu x ++ units_of_run (packetizer_after_sample p mtu x) samples more) none);
        gained = rest.gained;
        lawful = rest.lawful;
        one_time = rest.one_time;
        numbered = rest.numbered;
        ids = rest.ids;
        few = rest.few;
        first = rest.first;
        values = λ video. subst (λ (vs : List ExtensionValues). AllCarry vs rest.units)
            (sym (ap (λ (x : Option Sample). values_of_sample p mtu x ++ values_of_run (packetizer_after_sample p mtu x) samples more) none)) (rest.values video);
      }

  -- the packets of a sample, moved
  gained_by : (s : RunState) (packetizer : PacketizerState) (sample : Sample) (payloads : List (List ℕ))
      → moved_packets o (packets_sent s packetizer sample payloads) ≡ packets_sent (moved_run s) packetizer sample (map (payload_as o) payloads)
  gained_by s packetizer sample payloads =
      let time : ℕ = rtp_time_at s.payloading.clock_rate sample.rtp_time in
      ap (λ (n : ℕ). moved_packets o (packets_for packetizer sample time (s.sink.first + n) payloads)) (sym (length-map s.sink.packets (moved_packet o)))
      ∙ from_moved o packetizer sample time (s.sink.first + length (moved_packets o s.sink.packets)) 0 payloads

  one_sent : (later : List DatagramStep) (i place id : ℕ) (sample : Sample) (entry : Sent) (s mid t : RunState) → slice_get samples i ≡ Some sample
      → s.payloading.packetizer ≡ Vp8Packetizing (Some id) → (sent : SendsIt place mtu sample s entry mid)
      → (one : SendsMoved o id mtu sample (rtp_time_at s.payloading.clock_rate sample.rtp_time) (s.sink.first + length (moved_packets o s.sink.packets)) sent.answer sent.packetizer)
      → Goes later mid t → Goes (steps.Send i ∷ later) s t
  one_sent later i place id sample entry s mid t there is sent one rest =
      let p : PacketizerState = s.payloading.packetizer in
      let more : List Step = sending_steps mtu later in
      let time : ℕ = rtp_time_at s.payloading.clock_rate sample.rtp_time in
      let number : ℕ = s.sink.first + length (moved_packets o s.sink.packets) in
      let payloads : List (List ℕ) = map (payload_as o) (payloads_of sent.answer) in
      let here : SendsUnits p mtu sample time number payloads sent.packetizer = subst (λ (x : PacketizerState). SendsUnits x mtu sample time number payloads sent.packetizer) (sym is) one.units in
      let packets : List Packet = packets_sent (moved_run s) sent.packetizer sample payloads in
      let mid_is : mid.payloading.packetizer ≡ sent.packetizer = ap (λ (x : RunState). x.payloading.packetizer) sent.left in
      let of_vp8 : mid.payloading.packetizer ≡ Vp8Packetizing (Some one.next) = mid_is ∙ one.left in
      let packetizer : mid.payloading.packetizer ≡ packetizer_after p mtu sample.bytes = mid_is ∙ here.goes_on in
      let sink : moved_packets o mid.sink.packets ≡ moved_packets o s.sink.packets ++ packets = ap (λ (x : RunState). moved_packets o x.sink.packets) sent.left
      ∙ (map_append (moved_packet o) s.sink.packets (packets_sent s sent.packetizer sample (payloads_of sent.answer))
      ∙ ap (λ (qs : List Packet). moved_packets o s.sink.packets ++ qs) (gained_by s sent.packetizer sample (payloads_of sent.answer))) in
      let first : mid.sink.first ≡ s.sink.first = ap (λ (x : RunState). x.sink.first) sent.left in
      let kind : payloads_by mid.payloading.packetizer ≡ payloads_by p = ap payloads_by of_vp8 ∙ sym (ap payloads_by is) in
      let splits : may_split mid.payloading.packetizer ≡ may_split p = ap may_split of_vp8 ∙ sym (ap may_split is) in
      let whole : units_of_run p samples (run_steps.Send i mtu ∷ more) ≡ canonical_units p mtu sample.bytes ++ units_of_run (packetizer_after p mtu sample.bytes) samples more =
      ap (λ (x : Option Sample). units_of_sample p mtu x ++ units_of_run (packetizer_after_sample p mtu x) samples more) there in
      let told : values_of_run p samples (run_steps.Send i mtu ∷ more) ≡ values_of_sample p mtu (Some sample) ++ values_of_run (packetizer_after p mtu sample.bytes) samples more =
      ap (λ (x : Option Sample). values_of_sample p mtu x ++ values_of_run (packetizer_after_sample p mtu x) samples more) there in
      let numbered : AreNumbered number packets =
      subst (AreNumbered number) (gained_by s sent.packetizer sample (payloads_of sent.answer))
      (subst (λ (n : ℕ). AreNumbered (s.sink.first + n) (moved_packets o (packets_sent s sent.packetizer sample (payloads_of sent.answer)))) (sym (length-map s.sink.packets (moved_packet o)))
      (numbered_moved o (s.sink.first + length s.sink.packets) (packets_sent s sent.packetizer sample (payloads_of sent.answer)) sent.numbered)) in
      let next : mid.sink.first + length (moved_packets o mid.sink.packets) ≡ number + length packets =
      omega (arith, first, ap length sink, length-append (moved_packets o s.sink.packets) packets) in
      record {
        units = here.units ++ rest.units;
        canonical = map-append (λ (u : SentUnit). u.parts) here.units rest.units
            ∙ (ap (λ (us : List (List (List ℕ))). us ++ map (λ (u : SentUnit). u.parts) rest.units) here.canonical
            ∙ (ap (λ (us : List (List (List ℕ))). canonical_units p mtu sample.bytes ++ us) (rest.canonical ∙ ap (λ (x : PacketizerState). units_of_run x samples more) packetizer)
            ∙ sym whole));
        gained = rest.gained ∙ (ap (λ (ps : List Packet). ps ++ packets_of rest.units) (sink ∙ ap (λ (ps : List Packet). moved_packets o s.sink.packets ++ ps) (sym here.packets))
            ∙ (append_assoc (moved_packets o s.sink.packets) (packets_of here.units) (packets_of rest.units)
            ∙ ap (λ (ps : List Packet). moved_packets o s.sink.packets ++ ps) (sym (packets_append here.units rest.units))));
        lawful = λ _. lawful_append (payloads_by p) (may_split p) here.units rest.units
            (here.lawful (subst (λ (x : PacketizerState). AreReadable x (sample ∷ [])) (sym is) (readable (Some id) (sample ∷ []))).0)
            (subst (λ (b : Bool). AllLawful (payloads_by p) b rest.units) splits
            (subst (λ (k : DepacketizerKind). AllLawful k (may_split mid.payloading.packetizer) rest.units) kind
            (rest.lawful (subst (λ (x : PacketizerState). AreReadable x samples) (sym of_vp8) (readable (Some one.next) samples)))));
        one_time = times_append here.units rest.units (times_of_sample sent.packetizer sample time number payloads here.units here.packets) rest.one_time;
        numbered = rw (packets_append here.units rest.units, here.packets)
            (numbered_append number packets (packets_of rest.units) numbered (subst (λ (n : ℕ). AreNumbered n (packets_of rest.units)) next rest.numbered));
        ids = carry_on (next_id p) (next_id sent.packetizer) here.units rest.units here.ids here.ids_go_on
            (subst (λ (x : PacketizerState). CarryIds (next_id x) 0 rest.units) mid_is rest.ids);
        few = λ _. rest.few (omega (arith, length-map mid.sink.packets (moved_packet o), sent.few));
        first = rest.first ∙ first;
        values = λ video. subst (λ (vs : List ExtensionValues). AllCarry vs (here.units ++ rest.units)) (sym told)
            (carry_append (values_of_sample p mtu (Some sample)) (values_of_run (packetizer_after p mtu sample.bytes) samples more) here.units rest.units
            (carried_by_sample p sent.packetizer mtu sample time number payloads here.units video here.canonical here.packets)
            (subst (λ (x : PacketizerState). AllCarry (values_of_run x samples more) rest.units) packetizer (rest.values (ap is_video of_vp8))));
      }

  pub moved_streams : (place id : ℕ) (all_steps : List DatagramStep) (s t : RunState) (sends : List Sent) (pops : List Answer) → s.payloading.packetizer ≡ Vp8Packetizing (Some id)
      → Runs plainly samples place (sending_steps mtu all_steps) s sends pops t → Goes all_steps s t
  moved_streams place id [] s t sends pops is run = nothing s t run.2
  moved_streams place id (steps.Deliver k now ∷ later) s t sends pops is run = moved_streams place id later s t sends pops is run
  moved_streams place id (steps.Pop now ∷ later) s t sends pops is run = moved_streams place id later s t sends pops is run
  moved_streams place id (steps.Finish ∷ later) s t sends pops is run = moved_streams place id later s t sends pops is run
  moved_streams place id (steps.Send i ∷ later) s t sends pops is run = by (slice_get samples i) refl run.7.1 (λ next of. moved_streams (place + 1) next later run.4 t run.1 run.3 of run.8)
    where
      by : (x : Option Sample) → slice_get samples i ≡ x → MatchOption x ((run.0 ≡ []) × (run.4 ≡ s)) (λ sample. (entry : Sent) × (run.0 ≡ entry ∷ []) × SendsIt place mtu sample s entry run.4)
          → ((next : ℕ) → run.4.payloading.packetizer ≡ Vp8Packetizing (Some next) → Goes later run.4 t) → Goes (steps.Send i ∷ later) s t
      by None none step rest = none_sent later i s run.4 t none step.1 (rest id (ap (λ (x : RunState). x.payloading.packetizer) step.1 ∙ is))
      by (Some sample) there step rest =
          let sent : SendsIt place mtu sample s step.0 run.4 = step.2 in
          let packetized : PacketizerStep (Vp8Packetizing (Some id)) mtu sample.bytes sent.answer sent.packetizer =
          subst (λ (x : PacketizerState). PacketizerStep x mtu sample.bytes sent.answer sent.packetizer) is sent.packetized in
          let one = sends_moved o id mtu sample (rtp_time_at s.payloading.clock_rate sample.rtp_time) (s.sink.first + length (moved_packets o s.sink.packets)) sent.answer sent.packetizer packetized sent.not_memory in
          one_sent later i place id sample step.0 s run.4 t there is sent one (rest one.next (ap (λ (x : RunState). x.payloading.packetizer) sent.left ∙ one.left))
