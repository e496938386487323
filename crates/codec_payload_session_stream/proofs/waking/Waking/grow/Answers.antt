use Rattle.std.proofs.Common.{arith, refl}
use Rattle.codec_payload_session_stream.proofs.WakingLemmas.{grows}
use Rattle.codec_payload_session_stream.proofs.waking.Waking.grow.Goals as goal

pub returns-then-streams-len : goal.returns-then-streams-len
returns-then-streams-len c =
    grows c.args.self.now (record { times = c.set.new.self; until = 0; fed = c.args.self.now.fed; idle_timeout = c.args.self.now.idle_timeout; known = c.args.self.now.known }) c.args.streams.now
    (c.requires.timed c.if-self.true) (omega (arith, c.if-streams-len.true, c.len.ensures)) c.set.ensures refl refl refl
