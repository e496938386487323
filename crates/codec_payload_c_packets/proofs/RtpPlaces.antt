-- The place of a packet's payload in its bytes.
use Rattle.std.proofs.Common.{◌≡◌, ◌∙◌, ℕ, zero, suc, ◌+◌, ◌-◌, ◌/◌, ◌%◌, ◌≤◌, List, [], ◌∷◌, ◌++◌, length, take, drop, ap, refl, arith, length-append}
use Rattle.std.proofs.lemmas.List.{take_at, drop_at}
use Rattle.codec_payload_rtp.specs.RtpPackets.{Packet, IsRtp, IsPadding, header_bytes, is_padded}

-- the length of the padding
padding_long : (n : ℕ) (tail : List ℕ) → IsPadding n tail → length tail ≡ n
padding_long zero tail is = ap length is
padding_long (suc n) tail (filler, long, few, is) = ap length is ∙ length-append filler (suc n ∷ []) ∙ omega (arith, long)

module _ (bytes : List ℕ) (p : Packet) (is : IsRtp bytes p) where
  abbrev pub front : List ℕ
  front = header_bytes (is_padded p) p.header

  pub long : length front + length p.payload + p.padding ≡ length bytes
  long = omega (arith, ap length is.is, length-append front (p.payload ++ is.tail), length-append p.payload is.tail, padding_long p.padding is.tail is.padding)

  pub padding_fits : p.padding ≤ length bytes
  padding_fits = omega (arith, long)

  pub payload_fits : length p.payload ≤ length bytes - p.padding
  payload_fits = omega (arith, long)

  abbrev pub place : ℕ
  place = length bytes - p.padding - length p.payload

  pub whole : place + length p.payload + p.padding ≡ length bytes
  whole = omega (arith, long)

  front_long : length front ≡ place
  front_long = omega (arith, long)

  pub payload_found : take (length p.payload) (drop place bytes) ≡ p.payload
  payload_found =
      ap (λ (bs : List ℕ). take (length p.payload) (drop place bs)) is.is
      ∙ ap (take (length p.payload)) (drop_at front (p.payload ++ is.tail) place front_long)
      ∙ take_at p.payload is.tail (length p.payload) refl

  pub count_kept : (length p.header.csrcs / 4) % 256 ≡ length p.header.csrcs / 4
  count_kept = omega (arith, is.fits.csrcs.few)
