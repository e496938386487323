-- What a resend does, by its answer.
use Rattle.std.proofs.Common.{◌≡◌, subst, ℕ, List}
use Rattle.codec_payload_base.specs.declared.wire.Ticks.{Ticks}
use Rattle.codec_payload_sending_history.specs.Histories.{ResendsWithin}
use Rattle.codec_payload_sending_history.specs.Packets.{Past}
use Rattle.codec_payload_sending_history.specs.declared.retransmission.Resent.{Resent}

pub resends_as : (most : ℕ) (at : Ticks) (number : ℕ) (h : Past) (before : List ℕ) (resent known : Resent) (bytes : List ℕ) (t : Past)
    → resent ≡ known → ResendsWithin most at number h before resent bytes t → ResendsWithin most at number h before known bytes t
resends_as most at number h before resent known bytes t e r = subst (λ (x : Resent). ResendsWithin most at number h before x bytes t) e r
