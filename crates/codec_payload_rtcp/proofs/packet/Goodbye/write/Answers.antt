use Rattle.codec_payload_rtcp.proofs.packet.Goodbye.write.Goals as goal

pub returns-in-Some-clause-packet : goal.returns-in-Some-clause-packet
returns-in-Some-clause-packet c = rw c.in-Some.is c.write_leaving_for.ensures.packet

pub returns-in-Some-clause-exact : goal.returns-in-Some-clause-exact
returns-in-Some-clause-exact c = rw c.in-Some.is c.write_leaving_for.ensures.exact
