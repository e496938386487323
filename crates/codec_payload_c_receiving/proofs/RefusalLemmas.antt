-- The numbers of faults of refused frames.
use Rattle.std.proofs.Common.{◌≡◌, false, arith}
use Rattle.std.specs.Prelude.{◌≢◌}
use Rattle.codec_payload_core.specs.Faults.{fault_number}
use Rattle.codec_payload_core.specs.declared.error.PacketError.{PacketError}
use Rattle.codec_payload_core.specs.declared.error.PacketError.TheVariants as faults
use Rattle.codec_payload_receiver.specs.Pops.{is_memory}

-- each is above 0, and none is out of memory
pub some_number : (fault : PacketError) → is_memory fault ≡ false → fault_number fault ≢ 0
some_number faults.ErrShortPacket refused = λ is. absurd (omega (arith, is))
some_number faults.ErrPayloadTooLarge refused = λ is. absurd (omega (arith, is))
some_number faults.ErrTooManySpatialLayers refused = λ is. absurd (omega (arith, is))
some_number faults.ErrTooManyPDiff refused = λ is. absurd (omega (arith, is))
some_number faults.ErrH265CorruptedPacket refused = λ is. absurd (omega (arith, is))
some_number faults.ErrH266CorruptedPacket refused = λ is. absurd (omega (arith, is))
some_number faults.ErrInvalidH265PacketType refused = λ is. absurd (omega (arith, is))
some_number faults.ErrH265PACIPHESTooLong refused = λ is. absurd (omega (arith, is))
some_number (faults.StapASizeLargerThanBuffer a b) refused = λ is. absurd (omega (arith, is))
some_number (faults.NaluTypeIsNotHandled a) refused = λ is. absurd (omega (arith, is))
some_number faults.ErrVP8CorruptedPacket refused = λ is. absurd (omega (arith, is))
some_number faults.ErrVP9CorruptedPacket refused = λ is. absurd (omega (arith, is))
some_number faults.ErrAv1CorruptedPacket refused = λ is. absurd (omega (arith, is))
some_number faults.ErrRedCorruptedPacket refused = λ is. absurd (omega (arith, is))
some_number (faults.InvalidTelephoneEvent a) refused = λ is. absurd (omega (arith, is))
some_number faults.ErrAmrWbCorruptedPacket refused = λ is. absurd (omega (arith, is))
some_number faults.OutOfMemory refused = absurd (cc)

pub other_number : (fault : PacketError) → is_memory fault ≡ false → fault_number fault ≢ 17
other_number faults.ErrShortPacket refused = λ is. absurd (omega (arith, is))
other_number faults.ErrPayloadTooLarge refused = λ is. absurd (omega (arith, is))
other_number faults.ErrTooManySpatialLayers refused = λ is. absurd (omega (arith, is))
other_number faults.ErrTooManyPDiff refused = λ is. absurd (omega (arith, is))
other_number faults.ErrH265CorruptedPacket refused = λ is. absurd (omega (arith, is))
other_number faults.ErrH266CorruptedPacket refused = λ is. absurd (omega (arith, is))
other_number faults.ErrInvalidH265PacketType refused = λ is. absurd (omega (arith, is))
other_number faults.ErrH265PACIPHESTooLong refused = λ is. absurd (omega (arith, is))
other_number (faults.StapASizeLargerThanBuffer a b) refused = λ is. absurd (omega (arith, is))
other_number (faults.NaluTypeIsNotHandled a) refused = λ is. absurd (omega (arith, is))
other_number faults.ErrVP8CorruptedPacket refused = λ is. absurd (omega (arith, is))
other_number faults.ErrVP9CorruptedPacket refused = λ is. absurd (omega (arith, is))
other_number faults.ErrAv1CorruptedPacket refused = λ is. absurd (omega (arith, is))
other_number faults.ErrRedCorruptedPacket refused = λ is. absurd (omega (arith, is))
other_number (faults.InvalidTelephoneEvent a) refused = λ is. absurd (omega (arith, is))
other_number faults.ErrAmrWbCorruptedPacket refused = λ is. absurd (omega (arith, is))
other_number faults.OutOfMemory refused = absurd (cc)

-- nor is it the number of a unit that is too large
pub no_size : (fault : PacketError) → fault_number fault ≢ 76
no_size faults.ErrShortPacket = λ is. absurd (omega (arith, is))
no_size faults.ErrPayloadTooLarge = λ is. absurd (omega (arith, is))
no_size faults.ErrTooManySpatialLayers = λ is. absurd (omega (arith, is))
no_size faults.ErrTooManyPDiff = λ is. absurd (omega (arith, is))
no_size faults.ErrH265CorruptedPacket = λ is. absurd (omega (arith, is))
no_size faults.ErrH266CorruptedPacket = λ is. absurd (omega (arith, is))
no_size faults.ErrInvalidH265PacketType = λ is. absurd (omega (arith, is))
no_size faults.ErrH265PACIPHESTooLong = λ is. absurd (omega (arith, is))
no_size (faults.StapASizeLargerThanBuffer a b) = λ is. absurd (omega (arith, is))
no_size (faults.NaluTypeIsNotHandled a) = λ is. absurd (omega (arith, is))
no_size faults.ErrVP8CorruptedPacket = λ is. absurd (omega (arith, is))
no_size faults.ErrVP9CorruptedPacket = λ is. absurd (omega (arith, is))
no_size faults.ErrAv1CorruptedPacket = λ is. absurd (omega (arith, is))
no_size faults.ErrRedCorruptedPacket = λ is. absurd (omega (arith, is))
no_size (faults.InvalidTelephoneEvent a) = λ is. absurd (omega (arith, is))
no_size faults.ErrAmrWbCorruptedPacket = λ is. absurd (omega (arith, is))
no_size faults.OutOfMemory = λ is. absurd (omega (arith, is))
