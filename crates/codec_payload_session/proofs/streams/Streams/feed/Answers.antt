use Rattle.std.proofs.Common.{◌≡◌, ◌∙◌, ◌<◌, List, length, subst, sym, true}
use Rattle.codec_payload_session.specs.Arrivals.{Port}
use Rattle.codec_payload_session_stream.specs.Waking.{IsBound}
use Rattle.codec_payload_session_stream.specs.declared.stream.StreamState.{StreamState}
use Rattle.codec_payload_session.proofs.SsrcLemmas.{same_set, takes_ssrc}
use Rattle.codec_payload_session_stream.proofs.WakingLemmas.{bound_set}
use Rattle.codec_payload_session.proofs.streams.Streams.feed.Goals as goal

pub invariant_of-self : goal.invariant_of-self
invariant_of-self c = record {
  bound = bound_set c.except.new.self c.args.place c.self.inside.list.items c.feed_one.new.stream c.except.ensures.place
      (subst (λ (l : List StreamState). IsBound c.except.new.self l) c.deref.ensures.value c.except.ensures.bound);
  listed =
      let within : c.args.place < length c.self.inside.list.items = subst (λ (p : Port). c.args.place < length p.streams) (sym c.self.view_is) c.requires in
      c.self.invariant.listed
      ∙ sym (same_set c.self.inside.list.items c.args.place c.index_mut-stream.result.now c.feed_one.new.stream within c.index_mut-stream.ensures.value
      (takes_ssrc c.args.now c.args.probation c.args.datagram.now c.index_mut-stream.result.now c.feed_one.ensures.told c.feed_one.new.stream c.feed_one.ensures.takes));
}
