use Rattle.std.proofs.Common.{◌≡◌, ◌∙◌, ℕ, List, Bool, Option, is_ok, ap, subst}
use Rattle.codec_payload_rtp.specs.RtpReading.{rtp_at}
use Rattle.codec_payload_receiver.specs.Sessions.{Session as Receiver}
use Rattle.codec_payload_session_requests.specs.Probes.{Probes}
use Rattle.codec_payload_stream_edges.specs.declared.followed.Followed.{Followed}
use Rattle.codec_payload_session_stream.specs.Streams.{StreamState, Takes, heard_unless, is_accepted, is_no_memory, late_followed, payload_size, probed, received, with_edges}
use Rattle.codec_payload_session_stream.proofs.SkipLemmas.{seen}
use Rattle.codec_payload_session_stream.proofs.stream.StreamState.take.Goals as goal

pub returns : goal.returns
returns c =
    let s : StreamState = seen c.self.inside in
    let t : StreamState = c.follow_edges.new.self in
    let r : Receiver = t.receiver in
    let followed : Option Followed = t.edges.followed in
    subst (λ (x : StreamState). Takes c.args.now c.args.probation c.args.datagram.now x c.receive-answer.result c.note_answer.new.self) c.self.view_is (
      r,
      followed,
      record { mid = c.receive-answer.new.self; receives = c.receive-answer.ensures.received; follows = c.follow_edges.ensures.0 },
      c.note_answer.ensures
          ∙ ap (λ (x : StreamState). heard_unless (is_no_memory c.receive-answer.result) c.args.now.0 c.args.probation (is_accepted c.receive-answer.result) (payload_size (rtp_at c.args.datagram.now)) x)
          (c.follow_if.ensures ∙ ap (λ (b : Bool). late_followed b c.args.now.0 c.args.datagram.now c.hear_if.new.self) c.is_ok.ensures.value
          ∙ ap (λ (x : StreamState). late_followed (is_ok c.receive-answer.result) c.args.now.0 c.args.datagram.now x)
          (c.hear_if.ensures ∙ ap (λ (x : StreamState). received c.args.now.0 c.args.datagram.now c.is_accepted-accepted.result r x) c.follow_edges.ensures.1
          ∙ ap (λ (p : Option Probes). received c.args.now.0 c.args.datagram.now c.is_accepted-accepted.result r (with_edges r followed (record s { probes = p }))) c.note_probe.ensures
          ∙ ap (λ (b : Bool). received c.args.now.0 c.args.datagram.now b r (with_edges r followed (probed c.args.datagram.now c.receive-answer.result s))) c.is_accepted-accepted.ensures)),
    )
