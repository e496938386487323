use Rattle.std.proofs.Common.{refl, true}
use Rattle.codec_payload_session_stream.proofs.WakingLemmas.{asked_again}
use Rattle.codec_payload_session_stream.proofs.waking.Waking.ask_again.Goals as goal

pub returns : goal.returns
returns c =
    asked_again c.args.self.now (record { times = c.args.self.now.times; until = 0; fed = c.args.self.now.fed; idle_timeout = c.args.self.now.idle_timeout; known = true }) c.args.streams.now c.requires refl refl refl refl
