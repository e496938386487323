use Rattle.codec_payload_base.specs.Answers.{packets_of}
use Rattle.codec_payload_audio.specs.AmrWb.{frame_from}
use Rattle.codec_payload_audio.proofs.AmrWbRoundTripLemmas.{stored_carries}
use Rattle.codec_payload_audio.proofs.amr_wb.send.AmrWbPacketizerPacketizer.packetize.Goals as goal

pub returns-in-Some-clause-comes_back : goal.returns-in-Some-clause-comes_back
returns-in-Some-clause-comes_back c =
    let f = c.in-Some.frame in
    let is = rw c.in-Some.is at c.in_ok-frame.ensures.sent in
    stored_carries c.args.self.now.octet_align c.args.mtu c.args.b.now (frame_from f.toc f.count f.speech.now) is.1 (packets_of c.send_frame.result) c.send_frame.ensures
