use Rattle.std.proofs.Common.{rules}
use Rattle.codec_payload_session.proofs.streams.Streams.take_other_media.Goals as goal

pub returns-else-is_ok : goal.returns-else-is_ok
returns-else-is_ok c = record {
  received = c.feed_or_begin-answer.new.self;
  takes = c.feed_or_begin-answer.ensures;
  left = search rules;
}
