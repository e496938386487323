use Rattle.std.proofs.Common.{◌∙◌, ap, refl, ℕ, ◌+◌, ◌-◌, length, List, take, drop}
use Rattle.codec_payload_rtp.specs.RtpValues.{packet_of}
use Rattle.codec_payload_c_packets.proofs.RtpPlaces.{payload_found, whole}
use Rattle.codec_payload_c_packets.proofs.rtp.info_of.Goals as goal

pub returns : goal.returns
returns c =
    let d : List ℕ = c.args.datagram.now in let p = packet_of c.args.packet.now in
    record {
      payload_len = refl;
      payload = ap (λ (n : ℕ). take (length p.payload) (drop (length d - n - length p.payload) d)) c.from.ensures ∙ payload_found d p c.requires;
      padding = refl;
      whole = ap (λ (n : ℕ). length d - n - length p.payload + length p.payload + p.padding) c.from.ensures ∙ whole d p c.requires;
      timestamp = refl;
      ssrc = refl;
      sequence_number = refl;
      payload_type = refl;
      csrc_count = c.csrc_count.ensures;
      marker = refl;
      extension = c.place_of-extension.ensures;
    }
