use Rattle.std.proofs.Common.{◌≡◌, ◌+◌, ◌%◌, ◌^◌, drop}
use Rattle.codec_payload_sending.specs.Datagrams.{octets_in}
use Rattle.codec_payload_sending.proofs.sender.octets_in.Given as goal

abbrev pub invariant-loop-place : goal.invariant-loop-place
invariant-loop-place l = (l.octets + octets_in (drop l.place l.out.payloads)) % 2 ^ 32 ≡ octets_in l.out.payloads % 2 ^ 32
