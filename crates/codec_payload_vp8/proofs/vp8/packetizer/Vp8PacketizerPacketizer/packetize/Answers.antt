use Rattle.codec_payload_vp8.proofs.SentIsTakenLemmas.{all_fit, all_heads, all_come_back}
use Rattle.std.proofs.Common.{refl}
use Rattle.codec_payload_base.specs.Answers.{packets_of}
use Rattle.codec_payload_vp8.proofs.vp8.packetizer.Vp8PacketizerPacketizer.packetize.Goals as goal

pub returns-clause-step : goal.returns-clause-step
returns-clause-step c = (c.send.new.self, c.send.ensures.sends, refl)

pub returns-clause-fit : goal.returns-clause-fit
returns-clause-fit c = all_fit c.args.self.now c.args.mtu c.args.b.now (packets_of c.send.result) c.send.ensures.sends.0

pub returns-clause-heads : goal.returns-clause-heads
returns-clause-heads c = all_heads c.args.self.now c.args.mtu c.args.b.now (packets_of c.send.result) c.send.ensures.sends.0

pub returns-clause-comes_back : goal.returns-clause-comes_back
returns-clause-comes_back c = all_come_back c.args.self.now c.args.mtu c.args.b.now (packets_of c.send.result) c.send.ensures.small c.send.ensures.sends.0
