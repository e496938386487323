use Rattle.std.proofs.Common.{length}
use Rattle.codec_payload_buffer_runs.proofs.red.+push_all_recovered.Given as goal

abbrev pub decreases-push_all_recovered : goal.decreases-push_all_recovered
decreases-push_all_recovered g l = length l.recovered.now
