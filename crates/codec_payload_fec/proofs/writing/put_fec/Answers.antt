use Rattle.codec_payload_fec.specs.Fec.{fec_bytes}
use Rattle.codec_payload_fec.specs.FecReading.{fec_of}
use Rattle.codec_payload_fec.proofs.PutLemmas.{put_is}
use Rattle.codec_payload_fec.proofs.writing.put_fec.Goals as goal

pub returns-clause-ok : goal.returns-clause-ok
returns-clause-ok c =
    put_is c.end.result c.args.out.now c.begin.new.self c.put.new.self c.end.new.self c.as_slice.result.now c.write.new.out.items c.new-bytes.result.items (fec_bytes (fec_of c.args.fec.now))
    c.in_ok-begin.ensures.ok c.in_ok-put.ensures.ok c.end.ensures.ok c.as_slice.ensures.value c.in_ok-write.ensures.ok c.new-bytes.ensures.items
