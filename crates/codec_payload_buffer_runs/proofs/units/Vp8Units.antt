-- A VP8 frame is one lawful unit: all of its packets, from the one with the S bit to the one with the marker.
use Rattle.std.proofs.Common.{◌≡◌, ◌∙◌, ap, refl, ℕ, ◌<◌, ◌^◌, ◌||◌, ◌&&◌, List, ◌∷◌, ◌++◌, length, Bool, true, false, Option, None, Ok, Err}
use Rattle.std.specs.Prelude.{IfSome}
use Rattle.codec_payload_base.specs.Described.{AnswersDescribed}
use Rattle.codec_payload_base.specs.declared.interface.CodecExtra.{CodecExtra}
use Rattle.codec_payload_codec.specs.Depacketizers.{Vp8Depacketizing, Vp8Payloads, kind_of_depacketizer}
use Rattle.codec_payload_codec.specs.Packetizers.{Vp8Packetizing}
use Rattle.codec_payload_buffer_runs.proofs.units.DescribedUnits.{all_silent, described_sends}
use Rattle.codec_payload_buffer_runs.proofs.units.PieceUnits.{IsPiece}
use Rattle.codec_payload_buffer_runs.proofs.units.SendsUnits.{SendsUnits}
use Rattle.codec_payload_buffer_runs.proofs.order.ReportLemmas.{IsSilent}
use Rattle.codec_payload_payloader.specs.Sending.{Sample}
use Rattle.codec_payload_codec.specs.BaseLayers.{lacks_base}
use Rattle.codec_payload_vp8.proofs.SentIsTakenLemmas.{first_starts, sent_is_taken, sent_tells}
use Rattle.codec_payload_vp8.specs.Vp8Sent.{advanced, gives_packets, header, header_size}

-- nothing is required of the bytes and the codec-specific data between two packets
abbrev Anything : List ℕ → CodecExtra → Type 0
Anything out extra = Unit {0}

is_piece : (id : Option ℕ) → IfSome id (λ n. n < 2 ^ 15) → (first last : Bool) (piece : List ℕ) → 0 < length piece → IsPiece Vp8Payloads Anything (header id first last ++ piece) piece
is_piece id small first last piece some (Vp8Depacketizing d) out extra (Ok x) e out' extra' is keeps step =
    (ap kind_of_depacketizer step.2, (sent_is_taken id first last piece small some d out extra (Ok x) step.0 out' extra' step.1, tt))
is_piece id small first last piece some (Vp8Depacketizing d) out extra (Err fault) e out' extra' is keeps step =
    (ap kind_of_depacketizer step.2, sent_is_taken id first last piece small some d out extra (Err fault) step.0 out' extra' step.1)
is_piece id small first last piece some d out extra one e out' extra' is keeps step = absurd (cc)

-- the id of a base layer is never sent
is_silent : (id : Option ℕ) → IfSome id (λ n. n < 2 ^ 15) → (first last : Bool) (piece : List ℕ) → IsSilent Vp8Payloads (header id first last ++ piece)
is_silent id small first last piece (Vp8Depacketizing d) out extra x e out' extra' is lacks step =
    let told = sent_tells id first last piece small d out extra x step.0 out' extra' step.1 in
    (ap kind_of_depacketizer step.2, ap lacks_base told.0 ∙ rw told.1 refl)
is_silent id small first last piece d out extra x e out' extra' is lacks step = absurd (cc)

marks : (id : Option ℕ) (sample : Sample) (last : Bool) → last || (false && sample.start_of_talk_spurt) ≡ last
marks id sample true = refl
marks id sample false = refl

pub vp8_sends : (id next : Option ℕ) (mtu : ℕ) (sample : Sample) (rtp_time number : ℕ) (payloads : List (List ℕ)) → IfSome id (λ n. n < 2 ^ 15)
    → AnswersDescribed (header id) (header_size id) mtu sample.bytes (Ok payloads)
    → next ≡ advanced (gives_packets (Ok payloads)) id → SendsUnits (Vp8Packetizing id) mtu sample rtp_time number payloads (Vp8Packetizing next)
vp8_sends id next mtu sample rtp_time number payloads small answer goes_on =
    described_sends Vp8Payloads Anything (header id) (Vp8Packetizing next) sample rtp_time (first_starts id) (λ number last payload. marks id sample last) (is_piece id small)
    (Vp8Packetizing id) None mtu (header_size id) number payloads tt
    (λ piece pieces. all_silent Vp8Payloads (header id) (is_silent id small) (Vp8Packetizing next) sample rtp_time true number 0 (piece ∷ pieces))
    refl refl refl refl refl refl refl
    (λ skip none. (ap Vp8Packetizing (goes_on ∙ rw (none, skip) refl), refl))
    (λ roomy first others some. (ap Vp8Packetizing (goes_on ∙ rw (some, roomy) refl), λ m. refl))
    answer
