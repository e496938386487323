use Rattle.std.proofs.Common.{subst, sym}
use Rattle.codec_payload_codec.specs.Depacketizers.{depacketizer_state_of}
use Rattle.codec_payload_session_requests.specs.Named.{IsNamed}
use Rattle.codec_payload_session_requests.proofs.NamedLemmas.{begins_named}
use Rattle.codec_payload_session_requests.proofs.named.NamedReceiver.begin.Goals as goal

pub invariant_of-result : goal.invariant_of-result
invariant_of-result c =
    subst IsNamed (sym c.in_ok-new-in-Ok.ensures.ok) (begins_named c.args.settings (depacketizer_state_of c.args.depacketizer) c.in-Ok.receiver c.requires (sym c.in-Ok.ensures))
