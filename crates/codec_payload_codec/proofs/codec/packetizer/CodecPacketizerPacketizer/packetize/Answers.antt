use Rattle.std.proofs.Common.{refl}
use Rattle.codec_payload_codec.specs.Packetizers.{Vp8Packetizing, Vp9Packetizing}
use Rattle.codec_payload_codec.proofs.codec.packetizer.CodecPacketizerPacketizer.packetize.Goals as goal

pub returns-in-Vp8-clause-step : goal.returns-in-Vp8-clause-step
returns-in-Vp8-clause-step g c = rw c.in-Vp8.is (
  Vp8Packetizing c.packetize-in-Vp8.new.self,
  (c.packetize-in-Vp8.ensures.small, c.packetize-in-Vp8.new.self, c.packetize-in-Vp8.ensures.sends, refl),
  refl,
)

pub returns-in-Vp9-clause-step : goal.returns-in-Vp9-clause-step
returns-in-Vp9-clause-step g c = rw c.in-Vp9.is (
  Vp9Packetizing c.packetize-in-Vp9.new.self,
  (c.packetize-in-Vp9.ensures.small, c.packetize-in-Vp9.new.self, c.packetize-in-Vp9.ensures.sends, refl),
  refl,
)
