use Rattle.std.proofs.Common.{◌<◌, ℕ, List, length, ◌∙◌, sym, ap, subst}
use Rattle.codec_payload_rtp.specs.RtpValues.{packet_of}
use Rattle.codec_payload_sending_fec.specs.Senders.{Sender, protected_bytes}
use Rattle.codec_payload_sending_fec.proofs.FrameLemmas.{short_hold}
use Rattle.codec_payload_sending_fec.proofs.fec_sender.FecSender.hold_if.Goals as goal

pub invariant_of-self : goal.invariant_of-self
invariant_of-self c =
    let Short : List ℕ → Type 0 = λ (bs : List ℕ). length bs < 65548 in
    let is = c.in_ok-bytes.ensures ∙ ap (λ (s : Sender). protected_bytes s.settings (packet_of c.args.packet.now)) c.self.view_is in
    let few : length c.in_ok-bytes.bytes.items < 65548 = subst Short (sym is) c.requires.short in
    (c.self.invariant.0, c.self.invariant.1, short_hold c.hold.result c.self.inside.frame.items c.hold.new.frame.items c.in_ok-bytes.bytes c.self.invariant.2 few c.hold.ensures.ok c.hold.ensures.err)
