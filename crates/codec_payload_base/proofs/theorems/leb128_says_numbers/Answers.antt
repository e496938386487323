use Rattle.codec_payload_base.proofs.LebLaws.{writes_leb, writes_shortest, takes_nine, finds_leb}
use Rattle.codec_payload_base.proofs.LebReads.{reads_leb_at_front}
use Rattle.codec_payload_base.proofs.theorems.leb128_says_numbers.Goals as goal

pub returns : goal.returns
returns c = record { says = writes_leb; shortest = writes_shortest; nine = takes_nine; found = finds_leb; read = reads_leb_at_front }
