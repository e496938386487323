-- A stream of an SSRC ends.
use Rattle.std.proofs.Common.{ℕ, Bool, ap, sym}
use Rattle.codec_payload_session.specs.Arrivals.{includes, left_if}
use Rattle.codec_payload_session_stream.specs.Streams.{left_when}
use Rattle.codec_payload_session_stream.specs.declared.stream.Ending.{Ending}
use Rattle.codec_payload_session.specs.declared.streams.Who.TheVariants as whos
use Rattle.codec_payload_session_stream.proofs.PlaceLemmas.{ChangesSsrc, other_number}

pub changes_stage : (ssrc : ℕ) (why : Ending) (at : ℕ) → ChangesSsrc ssrc (left_if (includes (whos.Of ssrc)) why at)
changes_stage ssrc why at = record { others = λ s other. ap (λ (b : Bool). left_when b why at s) (other_number ssrc s.ssrc (λ same. other (sym same))) }
