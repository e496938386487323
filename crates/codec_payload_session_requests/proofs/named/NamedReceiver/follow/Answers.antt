use Rattle.std.proofs.Common.{◌∙◌, subst}
use Rattle.codec_payload_receiver.specs.Sessions.{Session as Receiver}
use Rattle.codec_payload_session_requests.specs.Named.{FollowsEdges}
use Rattle.codec_payload_session_requests.proofs.named.NamedReceiver.follow.Goals as goal

pub returns : goal.returns
returns c =
    subst (λ (r : Receiver). FollowsEdges c.args.rules.now c.args.datagram.now c.args.answer.now c.args.edges.now r c.follow.new.self c.follow.new.receiver)
    (c.deref_mut.ensures.value ∙ c.self.view_is) (record { told = c.follow.result; follows = c.follow.ensures.follows; beside = c.follow.ensures.beside })
