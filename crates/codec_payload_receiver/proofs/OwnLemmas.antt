-- A custom depacketizer behind a receiver stays custom.
use Rattle.std.proofs.Common.{◌≡◌, ◌∙◌, refl, ap, ℕ, List, Bool, Result, Ok, Err}
use Rattle.codec_payload_codec.specs.Depacketizers.{is_built_in_depacketizer}
use Rattle.codec_payload_base.specs.declared.wire.Ticks.{Ticks}
use Rattle.codec_payload_jitter.proofs.OwnLemmas.{pops_with_stays, settled_stays}
use Rattle.codec_payload_jitter.specs.Receiving.{settled, waiting_at}
use Rattle.codec_payload_receiver.specs.Pops.{DropsUnits, Answer, PopsOnce, none_dropped, one_more}
use Rattle.codec_payload_receiver.specs.Sessions.{Keeps, Session}
use Rattle.codec_payload_datagrams.specs.declared.choice.Origin.{Origin}
use Rattle.codec_payload_receiver.specs.declared.receiver.ReceiveError.{ReceiveError}
use Rattle.codec_payload_jitter.specs.declared.outcome.Outcome.{Outcome}

abbrev pub is_built_in_session : Session → Bool
is_built_in_session s = is_built_in_depacketizer s.packets.buffer.depacketizer

pub pops_once_stays : (now : ℕ) (s t : Session) (answer : Answer) → PopsOnce now s answer t → is_built_in_session t ≡ is_built_in_session s
pops_once_stays now s t answer pops =
    ap is_built_in_session pops.left ∙ pops_with_stays (waiting_at (settled s.packets) now) (settled s.packets) pops.packets answer pops.pops ∙ ap is_built_in_depacketizer (settled_stays s.packets)

pub drops_stays : (now : ℕ) (s t : Session) → DropsUnits now s t → is_built_in_session t ≡ is_built_in_session s
drops_stays now s t none_dropped = refl
drops_stays now s t (one_more {mid = mid} unit before passes) = pops_once_stays now mid t _ passes.0 ∙ drops_stays now s mid before

-- a datagram that waits leaves the jitter buffer
pub keeps_packets : (now : Ticks) (o : Origin) (bytes : List ℕ) (s t : Session) (answer : Result Outcome ReceiveError) → Keeps now o bytes s answer t → t.packets ≡ s.packets
keeps_packets now o bytes s t (Ok outcome) keeps = ap (λ (x : Session). x.packets) keeps.1.left
keeps_packets now o bytes s t (Err fault) keeps = ap (λ (x : Session). x.packets) keeps.1
