-- A bit string in memory.
use Rattle.codec_payload_fec.specs.Strings.{BitString}
use Rattle.codec_payload_fec.specs.declared.strings.Sum.{Sum}

abbrev pub sum_of : Sum → BitString
sum_of s = record { first = s.first; second = s.second; time = s.time; size = s.size; bytes = s.bytes.items }
