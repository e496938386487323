use Rattle.std.proofs.Common.{arith, ◌≡◌, ◌+◌, ◌*◌}
use Rattle.codec_payload_base.proofs.BitLemmas.{reads_two}
use Rattle.codec_payload_base.proofs.bits.BitReaderBitRead.get_u16.Goals as goal

pub returns : goal.returns
returns c =
    let sum : c.from_be_bytes.result ≡ c.in_ok-high.high * 256 + c.in_ok-low.low = omega (arith, c.from_be_bytes.ensures) in
    reads_two _ c.get_u8.new.self _ _ _ _ sum c.in_ok-high.ensures c.in_ok-low.ensures
