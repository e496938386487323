use Rattle.codec_payload_answered_runs.proofs.AnsweredCourses.{answers_fill_gaps}
use Rattle.codec_payload_answered_runs.proofs.RunParts.{requests_fill_gaps}
use Rattle.codec_payload_answered_runs.proofs.theorems.requests_fill_gaps.Goals as goal

pub returns : goal.returns
returns c = record {
  plain = requests_fill_gaps c.nack_schedules_keep_their_settings.ensures.exact c.nack_schedules_keep_their_settings.ensures.on_time;
  with_history = answers_fill_gaps c.nack_schedules_keep_their_settings.ensures.exact c.nack_schedules_keep_their_settings.ensures.on_time;
}
