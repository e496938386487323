use Rattle.std.proofs.Common.{◌≡◌, ◌&&◌, List, Option, Some, ap, is_ok, subst, sym}
use Rattle.codec_payload_session.specs.Arrivals.{BeginsOrFeeds, Feeds, Port}
use Rattle.codec_payload_session.specs.Waking.{IsOnlyOf}
use Rattle.codec_payload_session_stream.specs.Changes.{continues}
use Rattle.codec_payload_session_stream.specs.Streams.{StreamState}
use Rattle.std.specs.Prelude.{ℕ}
use Rattle.codec_payload_session.proofs.ChangeLemmas.{none_left}
use Rattle.codec_payload_session.proofs.OnlyLemmas.{left_none}
use Rattle.codec_payload_session.proofs.streams.Streams.take_media.Goals as goal

pub feed-requires : goal.feed-requires
feed-requires c = c.in-Some.ensures.within

pub returns-in-Some : goal.returns-in-Some
returns-in-Some c =
    let place = c.in-Some.place in
    let f = c.args.format.now in
    let received = c.feed.new.self in
    let only : IsOnlyOf c.args.ssrc f.payload_type place c.args.self.now.streams = subst (λ (p : Port). IsOnlyOf c.args.ssrc f.payload_type place p.streams) c.self.view_is c.in-Some.ensures in
    let feeds : Feeds c.args.settings.now.probation place c.args.now c.args.datagram.now c.args.self.now c.feed.result received =
    subst (λ (p : Port). Feeds c.args.settings.now.probation place c.args.now c.args.datagram.now p c.feed.result received) c.self.view_is c.feed.ensures in
    let left = left_none c.args.settings.now.bye_wait c.args.ssrc place c.args.settings.now.probation f c.args.now c.args.datagram.now c.args.self.now c.feed.result received only feeds in
    record {
      received = received;
      takes = subst (λ (o : Option ℕ). BeginsOrFeeds o c.args.settings.now c.args.ssrc f c.args.now c.args.datagram.now c.args.self.now c.feed.result received) only.found feeds;
      left = ap (λ (l : List StreamState). record received { streams = l })
          (sym (none_left (is_ok c.feed.result && continues c.args.ssrc f received.streams) c.args.now.0 c.args.settings.now.bye_wait c.args.ssrc f received.streams left));
    }
