use Rattle.std.proofs.Common.{arith}
use Rattle.codec_payload_red.specs.RedBlocks.{blocks_of}
use Rattle.codec_payload_red.proofs.EncodeDecodeLemmas.{decoded_is_red, refused_is_none}
use Rattle.codec_payload_red.proofs.red.blocks.RedDecoder.decode.Goals as goal

pub returns-clause-payload : goal.returns-clause-payload
returns-clause-payload c = decoded_is_red (λ v. blocks_of v.items) c.args.payload.now c.decoded.result c.decoded.ensures (λ i. omega (arith, c.type_inv.payload i))

pub returns-clause-refused : goal.returns-clause-refused
returns-clause-refused c = refused_is_none (λ v. blocks_of v.items) c.args.payload.now c.decoded.result c.decoded.ensures
