use Rattle.std.proofs.Common.{sym}
use Rattle.codec_payload_session.proofs.CheckLemmas.{packet_begins}
use Rattle.codec_payload_session.proofs.streams.Streams.take_packet.Goals as goal

pub take_media-requires : goal.take_media-requires
take_media-requires c = packet_begins c.args.settings.now c.args.header.now.ssrc c.args.header.now.payload_type c.in-Media.ssrc c.in-Media.format c.requires (sym c.in-Media.ensures)
