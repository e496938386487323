use Rattle.std.proofs.Common.{ℕ, ◌+◌, ◌-◌, ◌/◌, length, refl, arith, rules, ap, take, drop, replicate}
use Rattle.std.proofs.lemmas.List.{length-replicate, length-take}
use Rattle.codec_payload_rtcp.proofs.ExactWriting.{long_enough, padded_exact}
use Rattle.codec_payload_rtcp.proofs.PaddedWriting.{padded_written}
use Rattle.codec_payload_rtcp.proofs.writing.write_padded.Goals as goal

pub returns-clause-packet : goal.returns-clause-packet
returns-clause-packet c =
    let packet = c.args.packet.now in
    let k = c.from-zeros.result - 1 in
    padded_written c.write_parts.result c.args.padding ((length packet + c.from.result) / 4 - 1) packet (take (length packet - 4) (drop 4 packet)) (take {A = ℕ} k (replicate 255 0)) c.args.out.now.items c.extend_from_slice.new.self.items c.write_parts.new.out.items
    c.requires (omega arith) (omega (arith, c.from.ensures)) refl (omega (arith, c.from-zeros.ensures, c.ranges.padding, length-take {A = ℕ} k (replicate 255 0), length-replicate {A = ℕ} 255 0)) (search rules) c.write_parts.ensures

pub returns-clause-exact : goal.returns-clause-exact
returns-clause-exact c =
    let packet = c.args.packet.now in
    let k = c.from-zeros.result - 1 in
    padded_exact c.write_parts.result c.args.padding ((length packet + c.from.result) / 4 - 1) packet (take (length packet - 4) (drop 4 packet)) (take {A = ℕ} k (replicate 255 0)) c.args.out.now.items c.extend_from_slice.new.self.items c.write_parts.new.out.items
    (long_enough c.args.padding packet c.requires) (omega arith) (omega (arith, c.from.ensures)) refl (ap (λ (z : ℕ). take {A = ℕ} (z - 1) (replicate 255 0)) c.from-zeros.ensures) (search rules) c.write_parts.ensures
