-- A fresh stream: its payloader and its buffer have the same type, and are unused.
use Rattle.std.proofs.Common.{◌≡◌, ◌∙◌, refl, sym, ap, subst, ℕ, Bool, true, false, List, [], Option, Some, None, option_map}
use Rattle.codec_payload_base.specs.declared.interface.Vp9PacketizerMode.{Vp9PacketizerMode}
use Rattle.codec_payload_base.specs.declared.wire.Codec.{Codec}
use Rattle.codec_payload_base.specs.declared.wire.ToPayload.{ToPayload}
use Rattle.codec_payload_base.specs.declared.wire.Codec.TheVariants as codecs
use Rattle.codec_payload_codec.specs.Depacketizers.{DepacketizerState, depacketizer_state_for, configured_depacketizer, kind_of_depacketizer}
use Rattle.codec_payload_codec.specs.Packetizers.{PacketizerState, packetizer_state_for, configured, is_built_in, payloads_by}
use Rattle.codec_payload_buffer_runs.specs.Headline.{IsUnused}
use Rattle.codec_payload_payloader.specs.Packets.{SentPackets}
use Rattle.codec_payload_buffer_runs.specs.RunPromises.{Ran, KeepsPromises, KeepsPromisesIf, ran}
use Rattle.codec_payload_buffer_runs.specs.RunStream.{fresh, RunsStream}
use Rattle.codec_payload_buffer_runs.specs.Schedule.{RunState, run_state}
use Rattle.codec_payload_payloader.specs.Sending.{Payloading}
use Rattle.codec_payload_buffer.specs.Steps.{State, empty_buffer}
use Rattle.codec_payload_buffer_runs.specs.ReportedIds.{read_by}
use Rattle.codec_payload_buffer_runs.specs.declared.run.Run.{Run}
use Rattle.codec_payload_buffer_runs.specs.declared.run.Step.{Step}
use Rattle.codec_payload_buffer_runs.specs.declared.run.Stream.{Stream}

-- both exist, have the same type, and have read nothing; or neither exists
Ends : Bool → ℕ → Option PacketizerState → Option DepacketizerState → Type 0
Ends octet rate (Some p) (Some d) =
    (kind_of_depacketizer (configured_depacketizer octet rate d) ≡ payloads_by (configured octet p)) × (read_by (configured_depacketizer octet rate d) ≡ None)
    × (is_built_in (configured octet p) ≡ true)
Ends octet rate None None = Unit {0}
Ends octet rate (Some p) None = ⊥
Ends octet rate None (Some d) = ⊥

ends_of : (octet : Bool) (rate : ℕ) (mode : Vp9PacketizerMode) (id : ℕ) (codec : Codec) → Ends octet rate (packetizer_state_for mode id codec) (depacketizer_state_for codec)
unfolding Ends
ends_of octet rate mode id codecs.H264 = tt
ends_of octet rate mode id codecs.H265 = tt
ends_of octet rate mode id codecs.H266 = tt
ends_of octet rate mode id codecs.Rtx = tt
ends_of octet rate mode id codecs.Red = tt
ends_of octet rate mode id codecs.Unknown = tt
ends_of octet rate mode id codec = (refl, refl, refl)

no_receiver : (octet : Bool) (rate : ℕ) (op : Option PacketizerState) (od : Option DepacketizerState) → Ends octet rate op od → od ≡ None → op ≡ None
unfolding Ends
no_receiver octet rate None od ends h = refl
no_receiver octet rate (Some p) None ends h = absurd ends
no_receiver octet rate (Some p) (Some d) ends h = absurd (cc)

joined_ends : (octet : Bool) (rate : ℕ) (p : PacketizerState) (d : DepacketizerState) (op : Option PacketizerState) (od : Option DepacketizerState) → Ends octet rate op od → op ≡ Some p → od ≡ Some d
    → (kind_of_depacketizer (configured_depacketizer octet rate d) ≡ payloads_by (configured octet p)) × (read_by (configured_depacketizer octet rate d) ≡ None)
    × (is_built_in (configured octet p) ≡ true)
unfolding Ends
joined_ends octet rate p d op od ends sends receives = subst (λ (o : Option DepacketizerState). Ends octet rate (Some p) o) receives
    (subst (λ (o : Option PacketizerState). Ends octet rate o od) sends ends)

-- a codec without a depacketizer has no packetizer
pub no_packetizer : (mode : Vp9PacketizerMode) (id : ℕ) (codec : Codec) → depacketizer_state_for codec ≡ None → packetizer_state_for mode id codec ≡ None
no_packetizer mode id codec h = no_receiver false 0 _ _ (ends_of false 0 mode id codec) h

-- the start of a stream is unused
pub starts_unused : (stream : Stream) (p : PacketizerState) (d : DepacketizerState)
    → packetizer_state_for stream.mode stream.first_id stream.spec.codec ≡ Some p → depacketizer_state_for stream.spec.codec ≡ Some d
    → IsUnused (fresh stream (configured stream.spec.octet_align p) (configured_depacketizer stream.spec.octet_align stream.spec.clock_rate d))
starts_unused stream p d sends receives =
    let ends = joined_ends _ _ p d (packetizer_state_for stream.mode stream.first_id stream.spec.codec) (depacketizer_state_for stream.spec.codec) (ends_of _ _ _ _ _) sends receives in
    record { built_in = ends.2; nothing_sent = refl; nothing_held = refl; no_cutoff = refl; no_mark = refl; alike = ends.0; nothing_read = ends.1; nothing_kept = refl }

some_of_map : {A B : Type 0} (f : A → B) (o : Option A) (y : B) → option_map f o ≡ Some y → (x : A) × (o ≡ Some x) × (f x ≡ y)
some_of_map f None y h = absurd (cc)
some_of_map f (Some x) y h = (x, refl, cc)

-- the payloader of the specification, if the codec has a packetizer
abbrev pub payloading_for : Stream → Option Payloading
payloading_for stream = option_map (λ packetizer. record { packetizer = configured stream.spec.octet_align packetizer; clock_rate = stream.spec.clock_rate })
    (packetizer_state_for stream.mode stream.first_id stream.spec.codec)

-- a guarantee under a premise is kept under a stronger premise
kept_if : {P Q : Type 0} (r : Ran) → (Q → P) → KeepsPromisesIf P r → KeepsPromisesIf Q r
kept_if r so kept = record {
  run_as_steps = kept.run_as_steps;
  counted = kept.counted;
  safety_half = λ q. kept.safety_half (so q);
  exact_half = λ q. kept.exact_half (so q);
  logged = λ q. kept.logged (so q);
  order = λ q. kept.order (so q);
  contiguous = λ q. kept.contiguous (so q);
  no_silent_loss = λ q. kept.no_silent_loss (so q);
  none_skipped = λ q. kept.none_skipped (so q);
  skipped_past_gap = λ q. kept.skipped_past_gap (so q);
  beginning = λ q. kept.beginning (so q);
  extension_values = λ q. kept.extension_values (so q);
}

from_start : (stream : Stream) (samples : List ToPayload) (steps : List Step) (run : Run) (after : RunState) (p : PacketizerState) (d : DepacketizerState)
    → packetizer_state_for stream.mode stream.first_id stream.spec.codec ≡ Some p → depacketizer_state_for stream.spec.codec ≡ Some d
    → KeepsPromises (ran samples steps (fresh stream (configured stream.spec.octet_align p) (configured_depacketizer stream.spec.octet_align stream.spec.clock_rate d)) run after)
    → RunsStream stream samples steps run
from_start stream samples steps run after p d sends receives kept = record {
  packetizer = configured stream.spec.octet_align p;
  sender = ap (λ o. option_map (configured stream.spec.octet_align) o) sends;
  depacketizer = configured_depacketizer stream.spec.octet_align stream.spec.clock_rate d;
  receiver = ap (λ o. option_map (configured_depacketizer stream.spec.octet_align stream.spec.clock_rate) o) receives;
  after = after;
  promises = kept_if (ran samples steps (fresh stream (configured stream.spec.octet_align p) (configured_depacketizer stream.spec.octet_align stream.spec.clock_rate d))
      run after) (λ readable. (starts_unused stream p d sends receives, readable)) kept;
}

-- a run of the payloader, buffer and sink of the stream
pub runs_stream : (stream : Stream) (samples : List ToPayload) (steps : List Step) (run : Run) (payloading : Payloading) (buffer : State) (sink : SentPackets)
    (after : RunState) (d : DepacketizerState)
    → payloading_for stream ≡ Some payloading → depacketizer_state_for stream.spec.codec ≡ Some d
    → buffer ≡ empty_buffer stream.hold_back stream.limit (configured_depacketizer stream.spec.octet_align stream.spec.clock_rate d)
    → sink ≡ record { first = stream.first_number; packets = [] }
    → KeepsPromises (ran samples steps (run_state payloading buffer sink) run after) → RunsStream stream samples steps run
runs_stream stream samples steps run payloading buffer sink after d sends receives empty unused kept =
    let found = some_of_map _ _ payloading sends in
    let starts : run_state payloading buffer sink ≡ fresh stream (configured stream.spec.octet_align found.0) (configured_depacketizer stream.spec.octet_align stream.spec.clock_rate d) =
    ap (λ (b : State). run_state payloading b sink) empty ∙ (ap
    (λ (k : SentPackets). run_state payloading (empty_buffer stream.hold_back stream.limit (configured_depacketizer stream.spec.octet_align stream.spec.clock_rate d)) k) unused
    ∙ ap (λ (p : Payloading). run_state p (empty_buffer stream.hold_back stream.limit (configured_depacketizer stream.spec.octet_align stream.spec.clock_rate d))
    (record { first = stream.first_number; packets = [] })) (sym found.2)) in
    from_start stream samples steps run after found.0 d found.1 receives (subst (λ (s : RunState). KeepsPromises (ran samples steps s run after)) starts kept)
