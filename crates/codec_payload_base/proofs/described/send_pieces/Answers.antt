use Rattle.codec_payload_base.specs.Answers.{packets_of}
use Rattle.codec_payload_base.proofs.DescribedLemmas.{plain_answers}
use Rattle.codec_payload_base.proofs.described.send_pieces.Goals as goal

pub returns : goal.returns
returns c = plain_answers c.args.mtu c.args.frame.now (packets_of c.send_described.result) c.send_described.ensures
