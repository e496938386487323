use Rattle.std.proofs.Common.{map}
use Rattle.codec_payload_red.specs.RedBlocks.{redundant_of}
use Rattle.codec_payload_red.proofs.EncodeDecodeLemmas.{encoded_is_red, encoded_is_read}
use Rattle.codec_payload_red.proofs.red.blocks.RedEncoder.encode.Goals as goal

pub returns-clause-payload : goal.returns-clause-payload
returns-clause-payload c = encoded_is_red _ c.args.primary_pt c.args.primary.now (map redundant_of c.args.redundant.now) c.in_ok-encoded_bytes.ensures

pub returns-clause-comes_back : goal.returns-clause-comes_back
returns-clause-comes_back c = encoded_is_read _ c.args.primary_pt c.args.primary.now (map redundant_of c.args.redundant.now) c.in_ok-encoded_bytes.ensures
