use Rattle.codec_payload_answered_runs.proofs.AnswerHops.{answers_serve, lost_packets_come_back}
use Rattle.codec_payload_answered_runs.proofs.theorems.lost_packets_come_back.Goals as goal

pub returns : goal.returns
returns c = record {
  whole = lost_packets_come_back c.nack_schedules_keep_their_settings.ensures.exact c.nack_schedules_keep_their_settings.ensures.on_time;
  hops = answers_serve;
}
