-- The datagrams of the sender: packets of one source.
use Rattle.std.proofs.Common.{◌≡◌, refl, ◌∙◌, sym, ap, subst, ℕ, zero, suc, ◌<◌, List, [], ◌∷◌, ◌++◌, Bool, true, Option, Some, None, MatchOption, Ok, length, arith}
use Rattle.std.specs.Prelude.{slice_get, slice_index_or}
use Rattle.std.proofs.lemmas.Option.{same_Some}
use Rattle.codec_payload_base.specs.declared.wire.Codec.{Codec}
use Rattle.codec_payload_base.specs.declared.error.PacketError.{PacketError}
use Rattle.codec_payload_payloader.specs.Sending.{Sample}
use Rattle.codec_payload_rtp.specs.RtpPackets.{Packet}
use Rattle.codec_payload_rtp.specs.RtpReading.{rtp_at}
use Rattle.codec_payload_sending.specs.Senders.{Refuses, Sending, Sends}
use Rattle.codec_payload_datagram_runs.specs.WireRuns.{DoesStep, SendsIt, SendsOrRefuses, Wire, sent_sample}
use Rattle.codec_payload_datagram_runs.specs.declared.run.DatagramStep.TheVariants as plain
use Rattle.codec_payload_datagram_runs.specs.declared.run.SentSample.{SentSample}
use Rattle.codec_payload_forward_runs.specs.ForwardReleases.{keeps_packetizer, keeps_payloads}
use Rattle.codec_payload_forward_runs.proofs.KeptPayloads.{kept_each, refused_kept, refused_still, still_keeps, still_kept}
use Rattle.codec_payload_forward_runs.proofs.ViewerLemmas.{IsOf}

abbrev pub IsDatagramOf : Bool → ℕ → Codec → List ℕ → Type 0
IsDatagramOf steady ssrc codec d = (p : Packet) × (rtp_at d ≡ Ok p) × IsOf steady ssrc codec p

abbrev pub AllOf : Bool → ℕ → Codec → List (List ℕ) → Type 0
AllOf steady ssrc codec [] = Unit {0}
AllOf steady ssrc codec (d ∷ ds) = IsDatagramOf steady ssrc codec d × AllOf steady ssrc codec ds

of_append : (steady : Bool) (ssrc : ℕ) (codec : Codec) (ds es : List (List ℕ)) → AllOf steady ssrc codec ds → AllOf steady ssrc codec es → AllOf steady ssrc codec (ds ++ es)
of_append steady ssrc codec [] es here more = more
of_append steady ssrc codec (d ∷ ds) es here more = (here.0, of_append steady ssrc codec ds es here.1 more)

pub of_at : (steady : Bool) (ssrc : ℕ) (codec : Codec) (ds : List (List ℕ)) (k : ℕ) (d : List ℕ) → AllOf steady ssrc codec ds → slice_get ds k ≡ Some d → IsDatagramOf steady ssrc codec d
of_at steady ssrc codec [] k d all there = absurd (cc)
of_at steady ssrc codec (e ∷ ds) zero d all there = subst (IsDatagramOf steady ssrc codec) (same_Some e d there) all.0
of_at steady ssrc codec (e ∷ ds) (suc k) d all there = of_at steady ssrc codec ds k d all.1 there

of_each : (steady : Bool) (ssrc : ℕ) (codec : Codec) (ds : List (List ℕ)) → ((i : ℕ) → i < length ds → IsDatagramOf steady ssrc codec (slice_index_or ds i [])) → AllOf steady ssrc codec ds
of_each steady ssrc codec [] each = tt
of_each steady ssrc codec (d ∷ ds) each = (each 0 (omega arith), of_each steady ssrc codec ds (λ i l. each (suc i) (omega (arith, l))))

-- A sender of this source, and the datagrams so far. `kind` says whether its packetizer is of the codec, and `steady` whether its payloads
-- have no ids that close up
pub record IsSource (ssrc rate : ℕ) (codec : Codec) (kind steady : Bool) (s : Sending) (datagrams : List (List ℕ)) : Type 0 where
  pub source : s.stream.ssrc ≡ ssrc
  pub clock : s.stream.clock_rate ≡ rate
  pub keeps : steady ≡ true → keeps_payloads codec s.packetizer ≡ true
  pub of_codec : kind ≡ true → keeps_packetizer codec s.packetizer ≡ true
  pub all : AllOf steady ssrc codec datagrams

-- the datagrams of a sample
sent_of : (ssrc rate : ℕ) (codec : Codec) (kind steady : Bool) (sample : Sample) (s t : Sending) (datagrams : List (List ℕ)) → IsSource ssrc rate codec kind steady s datagrams → Sends s (sent_sample sample) t → AllOf steady ssrc codec t.datagrams
sent_of ssrc rate codec kind steady sample s t datagrams is sends =
    of_each steady ssrc codec t.datagrams (λ i l.
    let within : i < length sends.payloads = omega (arith, sends.sent.0, l) in
    let at = sends.sent.1 i within in (
      _,
      at.reads,
      record {
        source = is.source;
        number = omega arith;
        time = omega arith;
        padding = refl;
        kept = λ on. kept_each codec s.packetizer t.packetizer s.mtu sample.bytes sends.payloads (is.keeps on) sends.packetized i within;
      },
    ))

-- a refused sample leaves a packetizer whose payloads are kept
refused_keeps : (ssrc rate : ℕ) (codec : Codec) (kind steady : Bool) (sample : Sample) (fault : PacketError) (s t : Sending) (datagrams : List (List ℕ)) → IsSource ssrc rate codec kind steady s datagrams
    → Refuses s (sent_sample sample) fault t → (steady ≡ true → keeps_payloads codec t.packetizer ≡ true) × (kind ≡ true → keeps_packetizer codec t.packetizer ≡ true)
refused_keeps ssrc rate codec kind steady sample fault s t datagrams is refuses = (
  λ on. refused_kept codec s.packetizer t.packetizer s.mtu sample.bytes fault (is.keeps on) refuses.packetized,
  λ on. refused_still codec s.packetizer t.packetizer s.mtu sample.bytes fault (is.of_codec on) refuses.packetized,
)

source_sends : (ssrc rate : ℕ) (codec : Codec) (kind steady : Bool) (sample : Sample) (fault : Option PacketError) (s t : Sending) (datagrams : List (List ℕ)) → IsSource ssrc rate codec kind steady s datagrams
    → SendsOrRefuses (sent_sample sample) s fault t → IsSource ssrc rate codec kind steady t (datagrams ++ t.datagrams)
source_sends ssrc rate codec kind steady sample None s t datagrams is sends = record {
  source = ap (λ (x : Sending). x.stream.ssrc) sends.left ∙ is.source;
  clock = ap (λ (x : Sending). x.stream.clock_rate) sends.left ∙ is.clock;
  keeps = λ on. still_kept codec s.packetizer t.packetizer s.mtu sample.bytes (Ok sends.payloads) (is.keeps on) sends.packetized;
  of_codec = λ on. still_keeps codec s.packetizer t.packetizer s.mtu sample.bytes (Ok sends.payloads) (is.of_codec on) sends.packetized;
  all = of_append steady ssrc codec datagrams t.datagrams is.all (sent_of ssrc rate codec kind steady sample s t datagrams is sends);
}
source_sends ssrc rate codec kind steady sample (Some fault) s t datagrams is refuses =
    let nothing : t.datagrams ≡ [] = ap (λ (x : Sending). x.datagrams) refuses.1.left in
    record {
      source = ap (λ (x : Sending). x.stream.ssrc) refuses.1.left ∙ is.source;
      clock = ap (λ (x : Sending). x.stream.clock_rate) refuses.1.left ∙ is.clock;
      keeps = (refused_keeps ssrc rate codec kind steady sample fault s t datagrams is refuses.1).0;
      of_codec = (refused_keeps ssrc rate codec kind steady sample fault s t datagrams is refuses.1).1;
      all = of_append steady ssrc codec datagrams t.datagrams is.all (subst (AllOf steady ssrc codec) (sym nothing) tt);
    }

source_step : (ssrc rate : ℕ) (codec : Codec) (kind steady : Bool) (o : Option Sample) (s t : Wire) → IsSource ssrc rate codec kind steady s.sending s.datagrams
    → MatchOption o (t ≡ s) (λ sample. (entry : SentSample) × SendsIt sample s.sending s.datagrams entry t.sending t.datagrams
    × (t ≡ record s { sending = t.sending; datagrams = t.datagrams; sends = s.sends ++ entry ∷ [] }))
    → IsSource ssrc rate codec kind steady t.sending t.datagrams
source_step ssrc rate codec kind steady None s t is same = subst (λ (x : Wire). IsSource ssrc rate codec kind steady x.sending x.datagrams) (sym same) is
source_step ssrc rate codec kind steady (Some sample) s t is done =
    subst (IsSource ssrc rate codec kind steady t.sending) (sym done.1.gained) (source_sends ssrc rate codec kind steady sample done.0.fault s.sending t.sending s.datagrams is done.1.sends)

-- after a step that sends
pub source_after : (ssrc rate : ℕ) (codec : Codec) (kind steady : Bool) (samples : List Sample) (i : ℕ) (s t : Wire) → IsSource ssrc rate codec kind steady s.sending s.datagrams → DoesStep samples (plain.Send i) s t
    → IsSource ssrc rate codec kind steady t.sending t.datagrams
source_after ssrc rate codec kind steady samples i s t is does = source_step ssrc rate codec kind steady (slice_get samples i) s t is does
