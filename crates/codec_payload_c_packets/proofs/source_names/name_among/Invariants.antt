use Rattle.std.proofs.Common.{◌≡◌}
use Rattle.codec_payload_rtcp.specs.SdesReading.{chunks_left}
use Rattle.codec_payload_c_packets.specs.SourceNames.{name_among}
use Rattle.codec_payload_c_packets.proofs.source_names.name_among.Given as goal

abbrev pub invariant-loop-chunk : goal.invariant-loop-chunk
invariant-loop-chunk l = name_among l.ssrc (chunks_left l.chunk-iterator) ≡ name_among l.ssrc (chunks_left l.fn.chunks)
