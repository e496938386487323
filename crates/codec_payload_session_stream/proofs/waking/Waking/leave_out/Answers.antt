use Rattle.std.proofs.Common.{◌-◌, ◌^◌, arith, refl, true}
use Rattle.codec_payload_session_stream.proofs.WakingLemmas.{all_length, left_out}
use Rattle.codec_payload_session_stream.proofs.waking.Waking.leave_out.Goals as goal

pub set-requires : goal.set-requires
set-requires c = omega (arith, c.requires.within, all_length c.args.self.now.idle_timeout c.args.self.now.times c.args.streams.now c.requires.timed.all)

pub returns-clause-bound : goal.returns-clause-bound
returns-clause-bound c =
    left_out c.args.self.now (record { times = c.set.new.self; until = c.least-self.result; fed = c.args.place; idle_timeout = c.args.self.now.idle_timeout; known = true }) c.args.place (2 ^ 64 - 1) c.args.streams.now
    c.requires.timed c.requires.within c.set.ensures refl refl c.least-self.ensures refl
