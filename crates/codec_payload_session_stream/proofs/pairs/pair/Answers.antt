use Rattle.codec_payload_session_stream.specs.Pairs.{paired_if}
use Rattle.codec_payload_session_stream.proofs.QuietLemmas.{preserved}
use Rattle.codec_payload_session_stream.proofs.pairs.pair.Goals as goal

pub loop-place-preserved : goal.loop-place-preserved
loop-place-preserved c =
    preserved (paired_if c.args.ssrc c.args.pairs.now) c.args.streams.now c.loop-place.streams c.loop-place.place c.index-streams-place.result c.pair_if.new.self
    c.loop-place-test.true c.loop-place.invariant c.pair_if.ensures
