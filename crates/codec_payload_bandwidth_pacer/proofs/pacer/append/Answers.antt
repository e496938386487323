use Rattle.std.proofs.Common.{◌∙◌, ap}
use Rattle.codec_payload_bandwidth_pacer.specs.Pacing.{bytes_of}
use Rattle.codec_payload_bandwidth_pacer.proofs.BytesLemmas.{bytes_more}
use Rattle.codec_payload_bandwidth_pacer.proofs.pacer.append.Goals as goal

pub returns-in-Ok-clause-bytes : goal.returns-in-Ok-clause-bytes
returns-in-Ok-clause-bytes c = ap bytes_of c.in-Ok.ensures.items ∙ bytes_more c.args.queue.now.items c.args.waiting
