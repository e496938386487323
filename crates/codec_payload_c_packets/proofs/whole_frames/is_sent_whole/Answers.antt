use Rattle.std.proofs.Common.{◌∙◌, sym}
use Rattle.codec_payload_core.specs.Packetizers.{packetizer_state_of}
use Rattle.codec_payload_c_packets.proofs.WholeLemmas.{is_some_length, pieces_built_in, sent_whole}
use Rattle.codec_payload_c_packets.proofs.whole_frames.is_sent_whole.Goals as goal

pub returns-clause-step : goal.returns-clause-step
returns-clause-step c =
    λ is_true. sent_whole (packetizer_state_of c.args.packetizer.now) c.args.mtu c.args.frame.now (sym c.sends_pieces.ensures ∙ is_true)
    (is_some_length c.args.frame.now (sym c.is_empty.ensures ∙ c.if-is_empty.false)) c.if-frame-mtu.false

pub returns-clause-built_in : goal.returns-clause-built_in
returns-clause-built_in c = λ is_true. pieces_built_in (packetizer_state_of c.args.packetizer.now) (sym c.sends_pieces.ensures ∙ is_true)
