use Rattle.codec_payload_av1.proofs.Av1ObuGrammar.{sequence_good}
use Rattle.codec_payload_av1.proofs.Av1RoundTrip.{last_packets_come}
use Rattle.codec_payload_av1.proofs.av1.theorems.last_packets_give_last_obus.Goals as goal

pub returns : goal.returns
returns c = λ bytes os fits short seq mtu starts front packet packets small sent head pending.
    last_packets_come mtu starts os sent.0 front packet packets pending small (sequence_good os bytes fits short seq) sent.2 sent.1 head
