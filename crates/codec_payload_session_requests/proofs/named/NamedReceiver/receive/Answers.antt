use Rattle.std.proofs.Common.{subst}
use Rattle.codec_payload_receiver.specs.Sessions.{ReceivesBytes, Session as Receiver}
use Rattle.codec_payload_session_requests.proofs.NamedLemmas.{receives_named}
use Rattle.codec_payload_session_requests.proofs.named.NamedReceiver.receive.Goals as goal

pub invariant_of-self : goal.invariant_of-self
invariant_of-self c =
    receives_named c.args.now c.args.datagram.now c.self.inside.receiver.value c.receive_parsed.new.self c.receive_parsed.result c.self.invariant
    (subst (λ (s : Receiver). ReceivesBytes c.args.now c.args.datagram.now s c.receive_parsed.result c.receive_parsed.new.self) c.deref_mut.ensures.value c.receive_parsed.ensures.received)
