use Rattle.std.proofs.Common.{rules}
use Rattle.codec_payload_base.specs.StrippedValues.{stripped}
use Rattle.codec_payload_base.proofs.wire.extension.ExtensionValues.for_packet.Goals as goal

pub returns : goal.returns
unfolding stripped
returns c = search rules
