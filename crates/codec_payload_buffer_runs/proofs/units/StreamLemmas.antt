-- The packets that a run sends are the stream of its canonical units, each lawful.
use Rattle.std.proofs.Common.{◌≡◌, ◌≢◌, ◌∙◌, sym, ap, refl, subst, ℕ, zero, suc, ◌+◌, ◌<◌, ◌%◌, ◌^◌, inl, inr, List}
use Rattle.std.proofs.Common.{[], ◌∷◌, ◌++◌, length, map, arith, length-append, append_assoc, Bool, true, false, Option, Some, None, Result, Ok, Err}
use Rattle.std.specs.Prelude.{MatchResult, MatchOption, slice_get}
use Rattle.std.proofs.lemmas.List.{append-nil, map-append}
use Rattle.codec_payload_audio.specs.Payloads.{Appends}
use Rattle.codec_payload_base.specs.Answers.{AnswersBy}
use Rattle.codec_payload_base.specs.Pieces.{AnswersPieces, ArePieces, pieces_are_skipped, pieces_of}
use Rattle.std.specs.Int.{div_ceil}
use Rattle.codec_payload_buffer_runs.proofs.units.Av1Units.{av1_sends}
use Rattle.codec_payload_buffer_runs.proofs.units.OnePacketUnits.{IsCarried, OneOrNone, all_sent, amr_wb_units, by_answer, lawful_one, noise_units, none_skipped, one_packet, tele_units}
use Rattle.codec_payload_buffer_runs.proofs.units.SendsUnits.{CarryIds, SendsUnits, carry_on, no_units}
use Rattle.codec_payload_buffer_runs.proofs.units.Vp8Units.{vp8_sends}
use Rattle.codec_payload_buffer_runs.proofs.units.Vp9Units.{vp9_sends}
use Rattle.codec_payload_base.specs.declared.error.PacketError.{PacketError}
use Rattle.codec_payload_base.specs.declared.error.PacketError.TheVariants as faults
use Rattle.codec_payload_base.specs.declared.interface.CodecExtra.{CodecExtra}
use Rattle.codec_payload_base.proofs.PieceLemmas.{one_list}
use Rattle.codec_payload_buffer_runs.proofs.units.UnitTimes.{AllOneTime, times_of_sample, times_append}
use Rattle.codec_payload_buffer_runs.proofs.units.UnitValues.{AllCarry, carried_by_sample, carry_append, same_video}
use Rattle.codec_payload_base.specs.declared.wire.extension.ExtensionValues.{ExtensionValues}
use Rattle.codec_payload_buffer_runs.specs.RunValues.{values_of_run, values_of_sample}
use Rattle.codec_payload_codec.specs.Depacketizers.{DepacketizerState, G711Depacketizing, OpusDepacketizing, NullDepacketizing, DepacketizerKind}
use Rattle.codec_payload_codec.specs.Depacketizers.{Vp8Payloads, Vp9Payloads, Av1Payloads, BoxedPayloads, kind_of_depacketizer, DepacketizerStep, head_in, tail_in}
use Rattle.codec_payload_codec.specs.Packetizers.{PacketizerState, G711Packetizing, G722Packetizing, OpusPacketizing, ComfortNoisePacketizing, TelePacketizing, NullPacketizing}
use Rattle.codec_payload_codec.specs.Packetizers.{Vp8Packetizing, Vp9Packetizing, Av1Packetizing, AmrWbPacketizing, PacketizerStep, BoxedPacketizing, is_built_in}
use Rattle.codec_payload_codec.specs.Packetizers.{is_plain, is_quiet, is_video, may_split, payloads_by}
use Rattle.codec_payload_payloader.specs.Packets.{Packet, SentPackets, AreNumbered}
use Rattle.codec_payload_buffer_runs.specs.ReportedIds.{next_id}
use Rattle.codec_payload_payloader.specs.Sending.{Sample, packets_for, packets_from, rtp_time_at}
use Rattle.codec_payload_buffer_runs.proofs.units.BuiltInRuns.{Pushing, Runs, SendsIt}
use Rattle.codec_payload_buffer_runs.specs.Schedule.{payloads_of, RunState, Answer, packets_sent}
use Rattle.codec_payload_buffer_runs.specs.LawfulUnits.{AllLawful}
use Rattle.codec_payload_buffer_runs.specs.SentStream.{SentUnit, packets_of, AreReadable, units_of_run, units_of_sample, packetizer_after_sample}
use Rattle.codec_payload_buffer_runs.specs.declared.run.Sent.{Sent}
use Rattle.codec_payload_buffer_runs.specs.declared.run.Step.{Step}
use Rattle.codec_payload_buffer_runs.specs.declared.run.Step.TheVariants as steps
use Rattle.codec_payload_buffer_runs.specs.Units.{canonical_units, is_readable, packetizer_after, each_whole, units_by}

-- payloads that are whole units without headers
plain_head : (kind : DepacketizerKind) → is_plain kind ≡ true → (payload : List ℕ) → head_in kind payload ≡ true
plain_head Vp8Payloads plain payload = absurd (cc)
plain_head Vp9Payloads plain payload = absurd (cc)
plain_head Av1Payloads plain payload = absurd (cc)
plain_head BoxedPayloads plain payload = absurd (cc)
plain_head kind plain payload = refl

plain_quiet : (kind : DepacketizerKind) → is_plain kind ≡ true → is_quiet kind ≡ true
plain_quiet Vp8Payloads plain = absurd (cc)
plain_quiet Vp9Payloads plain = absurd (cc)
plain_quiet BoxedPayloads plain = absurd (cc)
plain_quiet kind plain = refl

plain_tail : (kind : DepacketizerKind) → is_plain kind ≡ true → (marker : Bool) (payload : List ℕ) → tail_in kind marker payload ≡ true
plain_tail Vp8Payloads plain marker payload = absurd (cc)
plain_tail Vp9Payloads plain marker payload = absurd (cc)
plain_tail Av1Payloads plain marker payload = absurd (cc)
plain_tail BoxedPayloads plain marker payload = absurd (cc)
plain_tail kind plain marker payload = refl

-- a depacketizer of such payloads appends them and stays as it is
appends : (d : DepacketizerState) → is_plain (kind_of_depacketizer d) ≡ true
    → (payload out : List ℕ) (extra : CodecExtra) (answer : Result (Unit {0}) PacketError) (e : DepacketizerState) (out' : List ℕ) (extra' : CodecExtra)
    → DepacketizerStep d payload out extra answer e out' extra' → Appends payload out extra answer out' extra' × (e ≡ d)
appends G711Depacketizing plain payload out extra answer e out' extra' step = step
appends OpusDepacketizing plain payload out extra answer e out' extra' step = step
appends NullDepacketizing plain payload out extra answer e out' extra' step = step
appends d plain payload out extra answer e out' extra' step = absurd (cc)

-- and so each is carried whole
plain_carried : (kind : DepacketizerKind) → is_plain kind ≡ true → (payload : List ℕ) → IsCarried kind payload payload
plain_carried kind plain payload = record {
  head = plain_head kind plain payload;
  tail = λ marker. plain_tail kind plain marker payload;
  quiet = plain_quiet kind plain;
  gives = λ d extra one e out' extra' is step.
      let given = appends d (ap is_plain is ∙ plain) payload [] extra one e out' extra' step in
      (ap kind_of_depacketizer given.1 ∙ is, answered one out' extra' extra given.0);
}
  where
    answered : (one : Result (Unit {0}) PacketError) (out' : List ℕ) (extra' extra : CodecExtra) → Appends payload [] extra one out' extra'
        → MatchResult one (λ _. out' ≡ payload) (λ fault. fault ≡ faults.OutOfMemory)
    answered (Ok _) out' extra' extra given = given.0
    answered (Err fault) out' extra' extra given = given.0

-- a unit of one packet that carries itself
abbrev pub alone : Packet → SentUnit
alone q = one_packet q.payload q

pub all_alone : (kind : DepacketizerKind) → is_plain kind ≡ true → (ps : List Packet) → AllLawful kind false (map alone ps)
all_alone kind plain [] = tt
all_alone kind plain (p ∷ ps) = (lawful_one kind p.payload p (plain_carried kind plain p.payload), all_alone kind plain ps)

-- these carry no ids
ids_alone : (n : ℕ) (ps : List Packet) → CarryIds None n (map alone ps)
ids_alone n [] = tt
ids_alone n (p ∷ ps) = (refl, ids_alone (suc n) ps)

pub packets_alone : (ps : List Packet) → packets_of (map alone ps) ≡ ps
packets_alone [] = refl
packets_alone (p ∷ ps) = ap (λ (qs : List Packet). p ∷ qs) (packets_alone ps)

pub parts_alone : (packetizer : PacketizerState) (sample : Sample) (rtp_time number place : ℕ) (payloads : List (List ℕ))
    → map (λ (u : SentUnit). u.parts) (map alone (packets_from packetizer sample rtp_time number place payloads)) ≡ each_whole payloads
parts_alone packetizer sample rtp_time number place [] = refl
parts_alone packetizer sample rtp_time number place (payload ∷ payloads) = ap (λ (us : List (List (List ℕ))). (payload ∷ []) ∷ us)
    (parts_alone packetizer sample rtp_time ((number + 1) % 2 ^ 64) (place + 1) payloads)

-- the result of a packetizer of pieces
some_size : (mtu : ℕ) (frame : List ℕ) → pieces_are_skipped mtu frame ≡ false → 0 < mtu
some_size zero [] some = absurd (cc)
some_size zero (b ∷ bs) some = absurd (cc)
some_size (suc n) frame some = omega arith

pieces_skipped : (mtu : ℕ) (frame : List ℕ) (payloads : List (List ℕ)) → AnswersPieces mtu frame (Ok payloads)
    → each_whole payloads ≡ units_by (pieces_are_skipped mtu frame) None (each_whole (pieces_of mtu frame))
pieces_skipped mtu frame payloads answer =
    let units = each_whole (pieces_of mtu frame) in
    by_answer (pieces_are_skipped mtu frame) None (λ packets. ArePieces mtu frame packets × (length packets ≡ div_ceil (length frame) mtu)) (Ok payloads) answer (λ e. cc)
    (λ packets. each_whole packets ≡ units_by (pieces_are_skipped mtu frame) None units)
    (λ skips. sym (none_skipped (pieces_are_skipped mtu frame) None units skips))
    (λ fault sent refused. absurd (cc))
    (λ packets sent taken are. ap each_whole (one_list mtu frame packets (some_size mtu frame sent) are.0) ∙ sym (all_sent (pieces_are_skipped mtu frame) None units sent refl))

plain_sends : (packetizer after : PacketizerState) (mtu : ℕ) (sample : Sample) (rtp_time number : ℕ) (payloads : List (List ℕ)) → is_plain (payloads_by packetizer) ≡ true → may_split packetizer ≡ false
    → next_id packetizer ≡ None → next_id after ≡ None
    → after ≡ packetizer_after packetizer mtu sample.bytes → each_whole payloads ≡ canonical_units packetizer mtu sample.bytes
    → SendsUnits packetizer mtu sample rtp_time number payloads after
plain_sends packetizer after mtu sample rtp_time number payloads plain whole no_id none_after goes_on canonical = record {
  units = map alone (packets_for after sample rtp_time number payloads);
  canonical = parts_alone after sample rtp_time number 0 payloads ∙ canonical;
  packets = packets_alone (packets_for after sample rtp_time number payloads);
  lawful = λ _. rw whole (all_alone (payloads_by packetizer) plain (packets_for after sample rtp_time number payloads));
  ids = rw no_id (ids_alone 0 (packets_for after sample rtp_time number payloads));
  ids_go_on = λ m. rw (no_id, none_after) refl;
  goes_on = goes_on;
}

-- a codec whose frames are each one packet and one unit
one_sends : (packetizer after : PacketizerState) (mtu : ℕ) (sample : Sample) (rtp_time number : ℕ) (payloads : List (List ℕ)) → may_split packetizer ≡ false → next_id packetizer ≡ None
    → next_id after ≡ None → after ≡ packetizer_after packetizer mtu sample.bytes → OneOrNone packetizer mtu sample.bytes payloads
    → SendsUnits packetizer mtu sample rtp_time number payloads after
one_sends packetizer after mtu sample rtp_time number payloads whole no_id none_after goes_on (inl none) =
    subst (SendsUnits packetizer mtu sample rtp_time number payloads) (sym goes_on)
    (no_units packetizer mtu sample rtp_time number payloads none.0 none.1 (ap next_id (sym goes_on) ∙ (none_after ∙ sym no_id)))
one_sends packetizer after mtu sample rtp_time number payloads whole no_id none_after goes_on (inr (payload, bytes, is, canonical, carried)) = record {
  units = map (one_packet bytes) (packets_for after sample rtp_time number (payload ∷ []));
  canonical = sym canonical;
  packets = ap (packets_for after sample rtp_time number) (sym is);
  lawful = λ readable. rw whole (lawful_one (payloads_by packetizer) bytes _ (carried readable), tt);
  ids = rw no_id (refl, tt);
  ids_go_on = λ m. rw (no_id, none_after) refl;
  goes_on = goes_on;
}

-- a packetizer of pieces fails only if memory runs out
pieces_fault : (mtu : ℕ) (frame : List ℕ) (fault : PacketError) → AnswersPieces mtu frame (Err fault) → ◌≡◌ {A = Result (List (List ℕ)) PacketError} (Err fault) (Err faults.OutOfMemory)
pieces_fault mtu frame fault answer = by_skip (pieces_are_skipped mtu frame) answer
  where
    by_skip : (skips : Bool) → AnswersBy skips None (λ packets. ArePieces mtu frame packets × (length packets ≡ div_ceil (length frame) mtu)) (Err fault)
        → ◌≡◌ {A = Result (List (List ℕ)) PacketError} (Err fault) (Err faults.OutOfMemory)
    by_skip true answer = absurd (cc)
    by_skip false answer = ap Err answer

-- every supported codec meets its condition
pub sends_units : (packetizer after : PacketizerState) (mtu : ℕ) (sample : Sample) (rtp_time number : ℕ) (answer : Result (List (List ℕ)) PacketError)
    → is_built_in packetizer ≡ true → PacketizerStep packetizer mtu sample.bytes answer after → answer ≢ Err faults.OutOfMemory
    → SendsUnits packetizer mtu sample rtp_time number (payloads_of answer) after
sends_units G711Packetizing after mtu sample rtp_time number (Ok payloads) built_in step found = plain_sends G711Packetizing after mtu sample rtp_time number payloads refl refl
    refl (ap next_id step.1) step.1 (pieces_skipped mtu sample.bytes payloads step.0)
sends_units G722Packetizing after mtu sample rtp_time number (Ok payloads) built_in step found = plain_sends G722Packetizing after mtu sample rtp_time number payloads refl refl
    refl (ap next_id step.1) step.1 (pieces_skipped mtu sample.bytes payloads step.0)
sends_units OpusPacketizing after mtu sample rtp_time number (Ok payloads) built_in step found = plain_sends OpusPacketizing after mtu sample rtp_time number payloads refl refl
    refl (ap next_id step.1) step.1 (pieces_skipped mtu sample.bytes payloads step.0)
sends_units NullPacketizing after mtu sample rtp_time number (Ok payloads) built_in step found = plain_sends NullPacketizing after mtu sample rtp_time number payloads refl refl
    refl (ap next_id step.1) step.1 (ap each_whole step.0)
sends_units ComfortNoisePacketizing after mtu sample rtp_time number answer built_in step found = one_sends ComfortNoisePacketizing after mtu sample rtp_time number
    (payloads_of answer) refl refl (ap next_id step.1) step.1 (noise_units mtu sample.bytes answer step.0 found)
sends_units TelePacketizing after mtu sample rtp_time number answer built_in step found = one_sends TelePacketizing after mtu sample rtp_time number (payloads_of answer) refl refl
    (ap next_id step.1) step.1 (tele_units mtu sample.bytes answer step.0 found)
sends_units (AmrWbPacketizing octet) after mtu sample rtp_time number answer built_in step found = one_sends (AmrWbPacketizing octet) after mtu sample rtp_time number
    (payloads_of answer) refl refl (ap next_id step.1) step.1 (amr_wb_units octet mtu sample.bytes answer step.0 found)
sends_units Av1Packetizing after mtu sample rtp_time number answer built_in step found =
    subst (SendsUnits Av1Packetizing mtu sample rtp_time number (payloads_of answer)) (sym step.1) (av1_sends mtu sample rtp_time number answer step.0 found)
sends_units G711Packetizing after mtu sample rtp_time number (Err fault) built_in step found = absurd (found (pieces_fault mtu sample.bytes fault step.0))
sends_units G722Packetizing after mtu sample rtp_time number (Err fault) built_in step found = absurd (found (pieces_fault mtu sample.bytes fault step.0))
sends_units OpusPacketizing after mtu sample rtp_time number (Err fault) built_in step found = absurd (found (pieces_fault mtu sample.bytes fault step.0))
sends_units NullPacketizing after mtu sample rtp_time number (Err fault) built_in step found = absurd (found (ap Err step.0))
sends_units (Vp8Packetizing id) after mtu sample rtp_time number (Ok payloads) built_in step found =
    subst (SendsUnits (Vp8Packetizing id) mtu sample rtp_time number payloads) (sym step.3) (vp8_sends id step.1 mtu sample rtp_time number payloads step.0 step.2.0 step.2.1)
sends_units (Vp8Packetizing id) after mtu sample rtp_time number (Err fault) built_in step found = absurd (found (ap Err step.2.0.0))
sends_units (Vp9Packetizing sender) after mtu sample rtp_time number (Ok payloads) built_in step found =
    subst (SendsUnits (Vp9Packetizing sender) mtu sample rtp_time number payloads) (sym step.3) (vp9_sends sender step.1 mtu sample rtp_time number payloads step.0 step.2.0 step.2.1)
sends_units (Vp9Packetizing sender) after mtu sample rtp_time number (Err fault) built_in step found = absurd (found (ap Err step.2.0.0))
sends_units BoxedPacketizing after mtu sample rtp_time number answer built_in step found = absurd (cc)

packets_append : (us vs : List SentUnit) → packets_of (us ++ vs) ≡ packets_of us ++ packets_of vs
packets_append [] vs = refl
packets_append (u ∷ us) vs = ap (λ (zs : List Packet). u.packets ++ zs) (packets_append us vs) ∙ sym (append_assoc u.packets (packets_of us) (packets_of vs))

lawful_append : (kind : DepacketizerKind) (splits : Bool) (us vs : List SentUnit) → AllLawful kind splits us → AllLawful kind splits vs → AllLawful kind splits (us ++ vs)
lawful_append kind splits [] vs a b = b
lawful_append kind splits (u ∷ us) vs a b = (a.0, lawful_append kind splits us vs a.1 b)

numbered_append : (n : ℕ) (ps qs : List Packet) → AreNumbered n ps → AreNumbered (n + length ps) qs → AreNumbered n (ps ++ qs)
numbered_append n [] qs a b = let e : n + 0 ≡ n = omega arith in subst (λ (m : ℕ). AreNumbered m qs) e b
numbered_append n (p ∷ ps) qs a b = let e : n + length (p ∷ ps) ≡ (n + 1) + length ps = omega arith in (a.0, numbered_append (n + 1) ps qs a.1 (subst (λ (m : ℕ). AreNumbered m qs) e b))

-- a packetizer keeps the type of its payloads
same_payloads : (packetizer : PacketizerState) (mtu : ℕ) (frame : List ℕ) → payloads_by (packetizer_after packetizer mtu frame) ≡ payloads_by packetizer
same_payloads OpusPacketizing mtu frame = refl
same_payloads packetizer mtu frame = refl

same_splits : (packetizer : PacketizerState) (mtu : ℕ) (frame : List ℕ) → may_split (packetizer_after packetizer mtu frame) ≡ may_split packetizer
same_splits OpusPacketizing mtu frame = refl
same_splits packetizer mtu frame = refl

same_readable : (packetizer : PacketizerState) (mtu : ℕ) (frame other : List ℕ) → is_readable (packetizer_after packetizer mtu frame) other ≡ is_readable packetizer other
same_readable OpusPacketizing mtu frame other = refl
same_readable packetizer mtu frame other = refl

readable_after : (packetizer : PacketizerState) (mtu : ℕ) (frame : List ℕ) (samples : List Sample) → AreReadable packetizer samples → AreReadable (packetizer_after packetizer mtu frame) samples
readable_after packetizer mtu frame [] readable = tt
readable_after packetizer mtu frame (sample ∷ samples) readable = (same_readable packetizer mtu frame sample.bytes ∙ readable.0, readable_after packetizer mtu frame samples readable.1)

readable_at : (packetizer : PacketizerState) (samples : List Sample) (i : ℕ) (sample : Sample) → AreReadable packetizer samples → slice_get samples i ≡ Some sample
    → is_readable packetizer sample.bytes ≡ true
readable_at packetizer [] i sample readable there = absurd (cc)
readable_at packetizer (s ∷ samples) zero sample readable there = let same : s ≡ sample = cc in ap (λ (x : Sample). is_readable packetizer x.bytes) (sym same) ∙ readable.0
readable_at packetizer (s ∷ samples) (suc i) sample readable there = readable_at packetizer samples i sample readable.1 there

-- the packets that the steps of a run send from some state on
pub record Streams (samples : List Sample) (later : List Step) (s t : RunState) : Type 0 where
  pub units : List SentUnit
  pub canonical : map (λ (u : SentUnit). u.parts) units ≡ units_of_run s.payloading.packetizer samples later
  pub gained : t.sink.packets ≡ s.sink.packets ++ packets_of units
  pub lawful : AreReadable s.payloading.packetizer samples → AllLawful (payloads_by s.payloading.packetizer) (may_split s.payloading.packetizer) units
  pub one_time : AllOneTime units
  pub numbered : AreNumbered (s.sink.first + length s.sink.packets) (packets_of units)
  pub ids : CarryIds (next_id s.payloading.packetizer) 0 units
  pub few : length s.sink.packets < 2 ^ 63 → length t.sink.packets < 2 ^ 63
  pub first : t.sink.first ≡ s.sink.first
  pub values : is_video s.payloading.packetizer ≡ true → AllCarry (values_of_run s.payloading.packetizer samples later) units

-- nothing is sent by no steps
no_stream : (samples : List Sample) (s t : RunState) → t ≡ s → Streams samples [] s t
no_stream samples s t same = record {
  units = [];
  canonical = refl;
  gained = ap (λ (x : RunState). x.sink.packets) same ∙ sym (append-nil s.sink.packets);
  lawful = λ _. tt;
  one_time = tt;
  numbered = tt;
  ids = tt;
  few = λ few. subst (λ (x : RunState). length x.sink.packets < 2 ^ 63) (sym same) few;
  first = ap (λ (x : RunState). x.sink.first) same;
  values = λ video. tt;
}

-- a step that does not send, and those after it
keeps_stream : (samples : List Sample) (later all : List Step) (s mid t : RunState) → mid.payloading.packetizer ≡ s.payloading.packetizer → mid.sink ≡ s.sink
    → units_of_run s.payloading.packetizer samples all ≡ units_of_run s.payloading.packetizer samples later
    → values_of_run s.payloading.packetizer samples all ≡ values_of_run s.payloading.packetizer samples later
    → Streams samples later mid t → Streams samples all s t
keeps_stream samples later all s mid t packetizer sink units values rest = record {
  units = rest.units;
  canonical = rest.canonical ∙ (ap (λ (p : PacketizerState). units_of_run p samples later) packetizer ∙ sym units);
  gained = rest.gained ∙ ap (λ (x : SentPackets). x.packets ++ packets_of rest.units) sink;
  lawful = λ readable. subst (λ (p : PacketizerState). AllLawful (payloads_by p) (may_split p) rest.units) packetizer
      (rest.lawful (subst (λ (p : PacketizerState). AreReadable p samples) (sym packetizer) readable));
  one_time = rest.one_time;
  numbered = subst (λ (x : SentPackets). AreNumbered (x.first + length x.packets) (packets_of rest.units)) sink rest.numbered;
  ids = subst (λ (p : PacketizerState). CarryIds (next_id p) 0 rest.units) packetizer rest.ids;
  few = λ few. rest.few (subst (λ (x : SentPackets). length x.packets < 2 ^ 63) (sym sink) few);
  first = rest.first ∙ ap (λ (x : SentPackets). x.first) sink;
  values = λ video. subst (λ (vs : List ExtensionValues). AllCarry vs rest.units) (ap (λ (p : PacketizerState). values_of_run p samples later) packetizer
      ∙ sym values) (rest.values (ap is_video packetizer ∙ video));
}

-- a step that sends a sample, and those after it
sends_stream : (samples : List Sample) (later : List Step) (i mtu place : ℕ) (sample : Sample) (entry : Sent) (s mid t : RunState) → slice_get samples i ≡ Some sample
    → SendsIt place mtu sample s entry mid → Streams samples later mid t → Streams samples (steps.Send i mtu ∷ later) s t
sends_stream samples later i mtu place sample entry s mid t there sent rest =
    let time = rtp_time_at s.payloading.clock_rate sample.rtp_time in
    let here = sends_units s.payloading.packetizer sent.packetizer mtu sample time (s.sink.first + length s.sink.packets) sent.answer sent.built_in sent.packetized sent.not_memory in
    let packets = packets_sent s sent.packetizer sample (payloads_of sent.answer) in
    let packetizer : mid.payloading.packetizer ≡ packetizer_after s.payloading.packetizer mtu sample.bytes = ap (λ (x : RunState). x.payloading.packetizer) sent.left ∙ here.goes_on in
    let sink : mid.sink.packets ≡ s.sink.packets ++ packets = ap (λ (x : RunState). x.sink.packets) sent.left in
    let first : mid.sink.first ≡ s.sink.first = ap (λ (x : RunState). x.sink.first) sent.left in
    let kind = ap payloads_by packetizer ∙ same_payloads s.payloading.packetizer mtu sample.bytes in
    let splits = ap may_split packetizer ∙ same_splits s.payloading.packetizer mtu sample.bytes in
    let whole : units_of_run s.payloading.packetizer samples (steps.Send i mtu ∷ later) ≡ canonical_units s.payloading.packetizer mtu sample.bytes
    ++ units_of_run (packetizer_after s.payloading.packetizer mtu sample.bytes) samples later =
    ap (λ (o : Option Sample). units_of_sample s.payloading.packetizer mtu o ++ units_of_run (packetizer_after_sample s.payloading.packetizer mtu o) samples later) there in
    let told : values_of_run s.payloading.packetizer samples (steps.Send i mtu ∷ later) ≡ values_of_sample s.payloading.packetizer mtu (Some sample)
    ++ values_of_run (packetizer_after s.payloading.packetizer mtu sample.bytes) samples later =
    ap (λ (o : Option Sample). values_of_sample s.payloading.packetizer mtu o ++ values_of_run (packetizer_after_sample s.payloading.packetizer mtu o) samples later) there in
    let next : mid.sink.first + length mid.sink.packets ≡ (s.sink.first + length s.sink.packets) + length packets =
    omega (arith, first, ap length sink, length-append s.sink.packets packets) in
    record {
      units = here.units ++ rest.units;
      canonical = map-append (λ (u : SentUnit). u.parts) here.units rest.units
          ∙ (ap (λ (us : List (List (List ℕ))). us ++ map (λ (u : SentUnit). u.parts) rest.units) here.canonical
          ∙ (ap (λ (us : List (List (List ℕ))). canonical_units s.payloading.packetizer mtu sample.bytes ++ us)
          (rest.canonical ∙ ap (λ (p : PacketizerState). units_of_run p samples later) packetizer) ∙ sym whole));
      gained = rest.gained ∙ (ap (λ (ps : List Packet). ps ++ packets_of rest.units) (sink ∙ ap (λ (ps : List Packet). s.sink.packets ++ ps) (sym here.packets))
          ∙ (append_assoc s.sink.packets (packets_of here.units) (packets_of rest.units) ∙ ap (λ (ps : List Packet). s.sink.packets ++ ps) (sym (packets_append here.units rest.units))));
      lawful = λ readable. lawful_append (payloads_by s.payloading.packetizer) (may_split s.payloading.packetizer) here.units rest.units
          (here.lawful (readable_at s.payloading.packetizer samples i sample readable there))
          (subst (λ (b : Bool). AllLawful (payloads_by s.payloading.packetizer) b rest.units) splits
          (subst (λ (k : DepacketizerKind). AllLawful k (may_split mid.payloading.packetizer) rest.units) kind
          (rest.lawful (subst (λ (p : PacketizerState). AreReadable p samples) (sym packetizer) (readable_after s.payloading.packetizer mtu sample.bytes samples readable)))));
      one_time = times_append here.units rest.units (times_of_sample sent.packetizer sample time (s.sink.first + length s.sink.packets)
          (payloads_of sent.answer) here.units here.packets) rest.one_time;
      numbered = rw (packets_append here.units rest.units, here.packets)
          (numbered_append (s.sink.first + length s.sink.packets) packets (packets_of rest.units) sent.numbered (subst (λ (n : ℕ). AreNumbered n (packets_of rest.units)) next rest.numbered));
      ids = carry_on (next_id s.payloading.packetizer) (next_id sent.packetizer) here.units rest.units here.ids here.ids_go_on
          (subst (λ (p : PacketizerState). CarryIds (next_id p) 0 rest.units) (ap (λ (x : RunState). x.payloading.packetizer) sent.left) rest.ids);
      few = λ _. rest.few sent.few;
      first = rest.first ∙ first;
      values = λ video. subst (λ (vs : List ExtensionValues). AllCarry vs (here.units ++ rest.units)) (sym told)
          (carry_append (values_of_sample s.payloading.packetizer mtu (Some sample)) (values_of_run (packetizer_after s.payloading.packetizer mtu sample.bytes) samples later) here.units rest.units
          (carried_by_sample s.payloading.packetizer sent.packetizer mtu sample time (s.sink.first + length s.sink.packets) (payloads_of sent.answer) here.units video here.canonical here.packets)
          (subst (λ (p : PacketizerState). AllCarry (values_of_run p samples later) rest.units) packetizer
          (rest.values (ap is_video packetizer ∙ (same_video s.payloading.packetizer mtu sample.bytes ∙ video)))));
    }

pub streams : (pushing : Pushing) (samples : List Sample) (place : ℕ) (later : List Step) (s t : RunState) (sends : List Sent) (pops : List Answer)
    → Runs pushing samples place later s sends pops t → Streams samples later s t
streams pushing samples place [] s t sends pops run = no_stream samples s t run.2
streams pushing samples place (steps.Push k ∷ later) s t sends pops run =
    let mid = run.4 in
    let rest = streams pushing samples (place + 1) later mid t run.1 run.3 run.8 in
    keeps_stream samples later (steps.Push k ∷ later) s mid t (ap (λ (x : RunState). x.payloading.packetizer) run.7.2) (ap (λ (x : RunState). x.sink) run.7.2) refl refl rest
streams pushing samples place (steps.Pop ∷ later) s t sends pops run =
    let mid = run.4 in
    let rest = streams pushing samples (place + 1) later mid t run.1 run.3 run.8 in
    keeps_stream samples later (steps.Pop ∷ later) s mid t (ap (λ (x : RunState). x.payloading.packetizer) run.7.6) (ap (λ (x : RunState). x.sink) run.7.6) refl refl rest
streams pushing samples place (steps.Send i mtu ∷ later) s t sends pops run =
    let rest = streams pushing samples (place + 1) later run.4 t run.1 run.3 run.8 in
    by_sample (slice_get samples i) refl run.7.1 rest
  where
    by_sample : (o : Option Sample) → slice_get samples i ≡ o
        → MatchOption o ((run.0 ≡ []) × (run.4 ≡ s)) (λ sample. (entry : Sent) × (run.0 ≡ entry ∷ []) × SendsIt place mtu sample s entry run.4)
        → Streams samples later run.4 t → Streams samples (steps.Send i mtu ∷ later) s t
    by_sample None none step rest =
        keeps_stream samples later (steps.Send i mtu ∷ later) s run.4 t (ap (λ (x : RunState). x.payloading.packetizer) step.1) (ap (λ (x : RunState). x.sink) step.1)
        (ap (λ (o : Option Sample). units_of_sample s.payloading.packetizer mtu o ++ units_of_run (packetizer_after_sample s.payloading.packetizer mtu o) samples later) none)
        (ap (λ (o : Option Sample). values_of_sample s.payloading.packetizer mtu o ++ values_of_run (packetizer_after_sample s.payloading.packetizer mtu o) samples later) none) rest
    by_sample (Some sample) there step rest = sends_stream samples later i mtu place sample step.0 s run.4 t there step.2 rest
