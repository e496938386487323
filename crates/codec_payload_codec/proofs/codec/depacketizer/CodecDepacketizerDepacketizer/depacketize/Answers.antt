use Rattle.std.proofs.Common.{refl}
use Rattle.codec_payload_codec.specs.Depacketizers.{Vp8Depacketizing, Vp9Depacketizing, Av1Depacketizing}
use Rattle.codec_payload_vp9.specs.Vp9Fields.{fields_of}
use Rattle.codec_payload_codec.proofs.codec.depacketizer.CodecDepacketizerDepacketizer.depacketize.Goals as goal

pub returns-in-Vp8-clause-step : goal.returns-in-Vp8-clause-step
returns-in-Vp8-clause-step g c = rw c.in-Vp8.is (Vp8Depacketizing c.depacketize-in-Vp8.new.self, (c.depacketize-in-Vp8.new.self, c.depacketize-in-Vp8.ensures.fields, refl), refl)

pub returns-in-Vp9-clause-step : goal.returns-in-Vp9-clause-step
returns-in-Vp9-clause-step g c = rw c.in-Vp9.is (Vp9Depacketizing (fields_of c.depacketize-in-Vp9.new.self), (fields_of c.depacketize-in-Vp9.new.self, c.depacketize-in-Vp9.ensures.fields, refl), refl)

pub returns-in-Av1-clause-step : goal.returns-in-Av1-clause-step
returns-in-Av1-clause-step g c = rw c.in-Av1.is (Av1Depacketizing c.depacketize-in-Av1.new.self, (c.depacketize-in-Av1.new.self, c.depacketize-in-Av1.ensures, refl), refl)
