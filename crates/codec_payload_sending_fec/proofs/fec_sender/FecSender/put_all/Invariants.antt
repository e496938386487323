use Rattle.std.proofs.Common.{◌≡◌, take}
use Rattle.codec_payload_base.specs.PayloadLists.{rooms_of}
use Rattle.codec_payload_sending_fec.specs.Senders.{fec_packets}
use Rattle.codec_payload_sending_fec.specs.StreamNumbers.{next_number}
use Rattle.codec_payload_sending_fec.proofs.FecLemmas.{number_after}
use Rattle.codec_payload_sending_fec.proofs.fec_sender.FecSender.put_all.Given as goal

-- the first packets of FEC were appended
abbrev pub invariant-loop-place : goal.invariant-loop-place
invariant-loop-place l =
    (l.out.payloads ≡ fec_packets l.fn.self (next_number l.fn.self.numbers) (take l.place l.fec.payloads))
    × (l.number ≡ number_after (next_number l.fn.self.numbers) l.place)
    × (l.self ≡ l.fn.self)
    × (rooms_of l.out ≡ rooms_of l.fn.out)
