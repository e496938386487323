use Rattle.std.proofs.Common.{ℕ, List, ap}
use Rattle.codec_payload_session_requests.proofs.probes.Probes.begin.Goals as goal

pub returns : goal.returns
returns c = ap (λ (came : List ℕ). record { came = came; late = 0; duplicates = 0 }) c.in_ok-no_numbers.ensures
