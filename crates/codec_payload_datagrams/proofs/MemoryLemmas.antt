-- Datagrams of which kinds take memory.
use Rattle.std.proofs.Common.{◌≡◌, refl, true, Option, Some, None}
use Rattle.std.specs.Prelude.{is_some}
use Rattle.codec_payload_red.specs.RedPayload.{Red}
use Rattle.codec_payload_red.specs.RedRecovery.{Receiver}
use Rattle.codec_payload_rtp.specs.RtpPackets.{Header}
use Rattle.codec_payload_datagrams.specs.Kinds.{red_again_read, red_read, takes_memory}

-- valid RED does
pub red_takes : (receiver : Receiver) (h : Header) (o : Option Red) → is_some o ≡ true → takes_memory (red_read receiver h o) ≡ true
red_takes receiver h None is = cc
red_takes receiver h (Some r) is = refl

pub red_again_takes : (receiver : Receiver) (h : Header) (o : Option Red) → is_some o ≡ true → takes_memory (red_again_read receiver h o) ≡ true
red_again_takes receiver h None is = cc
red_again_takes receiver h (Some r) is = refl
