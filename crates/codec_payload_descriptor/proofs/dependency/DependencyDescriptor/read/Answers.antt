use Rattle.std.specs.Option.{option_map}
use Rattle.codec_payload_descriptor.specs.Descriptors.{descriptor_in}
use Rattle.codec_payload_descriptor.proofs.ResultLemmas.{is_spelled, is_accepted}
use Rattle.codec_payload_descriptor.proofs.dependency.DependencyDescriptor.read.Goals as goal

pub returns-clause-spelled : goal.returns-clause-spelled
returns-clause-spelled c = is_spelled (descriptor_in c.args.bytes.now (option_map (λ s. s.now) c.args.structure)) c.args.bytes.now c.read_bytes.result c.read_bytes.ensures.exact

pub returns-clause-accepted : goal.returns-clause-accepted
returns-clause-accepted c = is_accepted (descriptor_in c.args.bytes.now (option_map (λ s. s.now) c.args.structure)) c.args.bytes.now c.read_bytes.result c.read_bytes.ensures.exact
