-- How a run from unused parts meets the lemmas on its turns.
use Rattle.std.proofs.Common.{◌≡◌, ◌∙◌, refl, sym, ap, subst, List, [], Option, None, Bool, false, ℕ, suc, ◌∷◌, ◌≤◌, ◌<◌, ◌^◌, arith, length}
use Rattle.codec_payload_codec.proofs.CodecLemmas.{codec_payloads}
use Rattle.codec_payload_buffer_runs.proofs.order.ChainLemmas.{Filling}
use Rattle.codec_payload_buffer_runs.proofs.order.ContiguousLemmas.{IsTracked}
use Rattle.codec_payload_buffer_runs.proofs.order.ExactLemmas.{MayGo, begins, may_go_all, no_more_units}
use Rattle.codec_payload_buffer_runs.proofs.order.SafetyLemmas.{fresh_beyond, sends_all}
use Rattle.codec_payload_buffer_runs.proofs.units.SameUnits.{not_nothing, same_front}
use Rattle.codec_payload_buffer_runs.proofs.units.StreamLemmas.{Streams}
use Rattle.codec_payload_buffer_runs.proofs.order.TakenLemmas.{Follows, nothing_taken}
use Rattle.codec_payload_buffer_runs.proofs.order.TurnLemmas.{Setting, Beyond, IsReady}
use Rattle.codec_payload_buffer_runs.proofs.units.UnitIds.{TellId, TellInTurn, tell_in_turn}
use Rattle.codec_payload_buffer_runs.proofs.units.UnitRows.{IsFaithful}
use Rattle.codec_payload_buffer_runs.proofs.units.UnitTimes.{AllOneTime, HasTime}
use Rattle.codec_payload_contiguity.specs.ContiguityTable.{contiguity_for}
use Rattle.codec_payload_codec.specs.Depacketizers.{DepacketizerKind}
use Rattle.codec_payload_buffer.specs.Held.{Held}
use Rattle.codec_payload_metadata.specs.declared.meta.RtpMeta.{RtpMeta}
use Rattle.codec_payload_buffer_runs.specs.Headline.{IsUnused}
use Rattle.codec_payload_buffer_runs.specs.LawfulUnits.{AllLawful}
use Rattle.codec_payload_payloader.specs.Packets.{Packet, AreNumbered}
use Rattle.codec_payload_buffer_runs.specs.Schedule.{RunState}
use Rattle.codec_payload_payloader.specs.Sending.{Sample}
use Rattle.codec_payload_buffer_runs.specs.SentStream.{AreReadable, SentUnit, packets_of}
use Rattle.codec_payload_buffer_runs.specs.ReportedIds.{id_later, next_id, read_by}
use Rattle.codec_payload_codec.specs.Packetizers.{payloads_by, may_split}
use Rattle.codec_payload_buffer_runs.specs.declared.run.Step.{Step}

-- so lawful units with these packets are one list, and have the times of each other
times_of : (kind : DepacketizerKind) (splits : Bool) (us vs : List SentUnit) → AllLawful kind splits us → AllLawful kind splits vs → packets_of us ≡ packets_of vs → AllOneTime vs → AllOneTime us
times_of kind splits [] vs a b e times = tt
times_of kind splits (u ∷ us) [] a b e times = absurd (not_nothing kind u.packets (packets_of us) a.0.ends e)
times_of kind splits (u ∷ us) (v ∷ vs) a b e times =
    let same = same_front kind u.packets v.packets (packets_of us) (packets_of vs) a.0.ends b.0.ends e in
    ((times.0.0, subst (HasTime times.0.0) (sym same.0) times.0.1), times_of kind splits us vs a.1 b.1 same.1 times.1)

-- and report each other's ids
ids_of : (kind : DepacketizerKind) (splits : Bool) (first : Option ℕ) (n : ℕ) (us vs : List SentUnit) → AllLawful kind splits us → AllLawful kind splits vs
    → packets_of us ≡ packets_of vs → TellInTurn kind first n vs → TellInTurn kind first n us
ids_of kind splits first n [] vs a b e told = tt
ids_of kind splits first n (u ∷ us) [] a b e told = absurd (not_nothing kind u.packets (packets_of us) a.0.ends e)
ids_of kind splits first n (u ∷ us) (v ∷ vs) a b e told =
    let same = same_front kind u.packets v.packets (packets_of us) (packets_of vs) a.0.ends b.0.ends e in
    (subst (TellId kind (id_later first n)) (sym same.0) told.0, ids_of kind splits first (suc n) us vs a.1 b.1 same.1 told.1)

module _ (samples : List Sample) (all_steps : List Step) (s t : RunState) (stream : Streams samples all_steps s t) (unused : IsUnused s) (readable : AreReadable s.payloading.packetizer samples)
    (known : ℕ → Packet → RtpMeta → Type 0) (faithful : IsFaithful known s.payloading.clock_rate (payloads_by s.payloading.packetizer)) where
  -- the units of the stream may be released one after another
  pub may_go : MayGo stream.units s.buffer.depacketizer s.buffer.contiguity
  may_go =
      let kind = payloads_by s.payloading.packetizer in
      let splits = may_split s.payloading.packetizer in
      let lawful = stream.lawful readable in
      let sent = sends_all samples all_steps s t unused stream in
      let few = stream.few (omega (arith, ap length unused.nothing_sent)) in
      may_go_all kind splits (next_id s.payloading.packetizer) 0 stream.units s.buffer.depacketizer s.buffer.contiguity lawful stream.ids
      (omega (arith, ap length sent.whole, few, no_more_units kind splits stream.units lawful)) unused.alike
      (begins s.payloading.packetizer (read_by s.buffer.depacketizer) s.buffer.contiguity unused.nothing_read (unused.nothing_kept ∙ ap contiguity_for unused.alike))

  module _ (units : List SentUnit) (lawful : AllLawful (payloads_by s.payloading.packetizer) (may_split s.payloading.packetizer) units) (packets : packets_of units ≡ t.sink.packets) where
    pub numbered : AreNumbered s.sink.first (packets_of units)
    numbered =
        let sent = sends_all samples all_steps s t unused stream in
        subst (AreNumbered s.sink.first) (sym (packets ∙ sent.whole)) sent.numbered

    pub one_time : AllOneTime units
    one_time =
        let sent = sends_all samples all_steps s t unused stream in
        times_of (payloads_by s.payloading.packetizer) (may_split s.payloading.packetizer) units stream.units lawful (stream.lawful readable) (packets ∙ sent.whole) stream.one_time

    pub told : TellInTurn (payloads_by s.payloading.packetizer) (next_id s.payloading.packetizer) 0 units
    told =
        let sent = sends_all samples all_steps s t unused stream in
        let others = stream.lawful readable in
        ids_of (payloads_by s.payloading.packetizer) (may_split s.payloading.packetizer) (next_id s.payloading.packetizer) 0 units stream.units lawful others (packets ∙ sent.whole)
        (tell_in_turn (payloads_by s.payloading.packetizer) (may_split s.payloading.packetizer) (next_id s.payloading.packetizer) 0 stream.units others stream.ids)

    pub short : length units < 2 ^ 63
    short =
        let few = stream.few (omega (arith, ap length unused.nothing_sent)) in
        omega (arith, few, ap length packets, no_more_units (payloads_by s.payloading.packetizer) (may_split s.payloading.packetizer) units lawful)

    abbrev pub setting : Setting
    setting = record {
      known = known;
      clock_rate = s.payloading.clock_rate;
      first = s.sink.first;
      kind = payloads_by s.payloading.packetizer;
      faithful = faithful;
      codec = codec_payloads s.payloading.packetizer unused.built_in;
      splits = may_split s.payloading.packetizer;
      units = units;
      lawful = lawful;
      numbered = numbered;
      one_time = one_time;
      start = next_id s.payloading.packetizer;
      told = told;
      short = short;
    }

    pub fresh : Beyond setting 0 s.buffer
    fresh = fresh_beyond known s.payloading.clock_rate s.sink.first (payloads_by s.payloading.packetizer) faithful
        (may_split s.payloading.packetizer) units lawful numbered s.buffer unused.nothing_held unused.no_cutoff unused.alike

    pub ready : IsReady setting 0 s.buffer
    ready = record { beyond = fresh; few = subst (λ (hs : List Held). length hs ≤ s.buffer.limit) (sym unused.nothing_held) (omega arith) }

    pub nothing : Follows setting 0 s.buffer.depacketizer s.buffer.contiguity
    nothing = nothing_taken setting s.buffer.depacketizer s.buffer.contiguity
        (begins s.payloading.packetizer (read_by s.buffer.depacketizer) s.buffer.contiguity unused.nothing_read (unused.nothing_kept ∙ ap contiguity_for unused.alike))

    pub tracked : IsTracked None false s.buffer
    tracked = (unused.no_mark, λ clear. unused.no_cutoff)

    pub empty : length t.sink.packets ≤ s.buffer.limit → Filling setting s.buffer s.buffer
    empty room = record { beyond = fresh; no_cutoff = unused.no_cutoff; room = omega (arith, room, ap length packets); depacketizer = refl; contiguity = refl }
