use Rattle.std.proofs.Common.{Option, Ok}
use Rattle.codec_payload_rtp.specs.RtpValues.{packet_of}
use Rattle.codec_payload_sending_forward.specs.declared.ids.PayloadIds.{PayloadIds}
use Rattle.codec_payload_sending_forward.proofs.SizeLemmas.{on_written}
use Rattle.codec_payload_sending_forward.proofs.forwarder.Forwarder.write_again_as.Goals as goal

pub returns-clause-size : goal.returns-clause-size
returns-clause-size c =
    on_written {T = Option PayloadIds} (Ok c.in_ok-write_as.field-0) c.args.self.now.settings c.offsets_of.result c.place_at-place.result.number c.place_at-place.result.time (packet_of c.args.packet.now) c.write_as.new.out.items c.in_ok-write_as.ensures.ok
