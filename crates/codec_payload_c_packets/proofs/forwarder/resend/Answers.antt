use Rattle.std.proofs.Common.{refl, rules, subst, Bool, inl, inr}
use Rattle.codec_payload_rtp.specs.RtpValues.{packet_of}
use Rattle.codec_payload_sending_forward.specs.Forwarding.{Repeats}
use Rattle.codec_payload_c_packets.proofs.forwarder.resend.Goals as goal

pub returns-in-Ok-true-clause-resends : goal.returns-in-Ok-true-clause-resends
returns-in-Ok-true-clause-resends c =
    let told = subst (λ (b : Bool). Repeats (packet_of c.in-Some.packet) c.args.viewer.now.forwarder b c.write_again.new.out.items c.write_again.new.self) c.in-Ok-true.field-0-test c.in-Ok-true.ensures.ok in
    inl (refl, refl, (packet_of c.in-Some.packet, c.in-Some.ensures.some, record { datagram = c.write_again.new.out.items; repeats = told; fits = search rules; bytes = search rules; size = search rules; counts = search rules }))

pub returns-in-Ok-false-clause-resends : goal.returns-in-Ok-false-clause-resends
returns-in-Ok-false-clause-resends c =
    let told = subst (λ (b : Bool). Repeats (packet_of c.in-Some.packet) c.args.viewer.now.forwarder b c.write_again.new.out.items c.write_again.new.self) c.in-Ok-false.field-0-test c.in-Ok-false.ensures.ok in
    inr (inl (refl, refl, inr (packet_of c.in-Some.packet, c.in-Some.ensures.some, (refl, refl, told.2)), refl, refl, told.1, refl))
