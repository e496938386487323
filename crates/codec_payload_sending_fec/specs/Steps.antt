-- Steps as they lie in memory.
use Rattle.std.specs.Prelude.{List, map}
use Rattle.codec_payload_sending_fec.specs.StreamNumbers.{Step}
use Rattle.codec_payload_sending_fec.specs.declared.stream_numbers.FecStep.{FecStep}

abbrev pub step_of : FecStep → Step
step_of x = record { behind = x.behind; count = x.count }

abbrev pub steps_of : List FecStep → List Step
steps_of steps = map step_of steps
