use Rattle.std.proofs.Common.{arith, refl}
use Rattle.codec_payload_session_stream.proofs.WakingLemmas.{note_times, others_length}
use Rattle.codec_payload_session_stream.proofs.waking.Waking.note.Goals as goal

pub set-requires : goal.set-requires
set-requires c = omega (arith, c.requires.within, others_length c.args.self.now.idle_timeout c.args.self.now.fed c.args.self.now.times c.args.streams.now c.requires.within c.requires.others)

pub returns : goal.returns
returns c =
    note_times c.args.self.now (record { times = c.set.new.self; until = c.args.self.now.until; fed = c.args.self.now.fed; idle_timeout = c.args.self.now.idle_timeout; known = c.args.self.now.known })
    c.wakes_at-time.result c.index-streams-self.result c.args.streams.now c.requires c.index-streams-self.is c.wakes_at-time.ensures c.set.ensures refl refl
