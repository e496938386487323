use Rattle.codec_payload_rtcp.proofs.SdesWriting.{one_more_chunk, chunks_come_back}
use Rattle.codec_payload_rtcp.proofs.sdes.written_chunks_are_read.Goals as goal

pub returns-clause-one_more : goal.returns-clause-one_more
returns-clause-one_more c = one_more_chunk

pub returns-clause-come_back : goal.returns-clause-come_back
returns-clause-come_back c = chunks_come_back
