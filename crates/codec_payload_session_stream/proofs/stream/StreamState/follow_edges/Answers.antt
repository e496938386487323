use Rattle.std.proofs.Common.{◌≡◌, ◌∙◌, ap, refl, subst, sym}
use Rattle.codec_payload_session_requests.specs.Named.{FollowsEdges}
use Rattle.codec_payload_session_stream.specs.Streams.{FollowsDatagram, StreamState}
use Rattle.codec_payload_session_stream.proofs.SkipLemmas.{seen}
use Rattle.codec_payload_stream_edges.specs.declared.rules.EdgeRules.{EdgeRules}
use Rattle.codec_payload_session_stream.proofs.stream.StreamState.follow_edges.Goals as goal

pub returns : goal.returns
returns c =
    let s : StreamState = seen c.self.inside in
    subst (λ (x : StreamState). FollowsDatagram c.args.datagram.now c.args.answer.now x (record s { receiver = c.follow.new.self; edges = record s.edges { followed = c.follow.new.edges } })) c.self.view_is
    (subst (λ (k : EdgeRules). FollowsEdges k c.args.datagram.now c.args.answer.now s.edges.followed s.receiver c.follow.new.edges c.follow.new.self) c.edge_rules-rules.ensures c.follow.ensures, refl)
