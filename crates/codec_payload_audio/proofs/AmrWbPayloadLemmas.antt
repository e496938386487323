-- Lemmas on the two layouts.
use Rattle.std.proofs.Common.{◌≡◌, ℕ, ◌+◌, ◌*◌, ◌/◌, ◌%◌, ◌^◌, ◌<◌, ◌≤◌, List, [], ◌∷◌, ◌++◌, length, take, replicate, refl, sym, ◌∙◌, ap, arith, append_assoc, length-append, true, false, Bool, Some, eq-eqb, cond, Ok, Err}
use Rattle.std.specs.Int.{div_ceil}
use Rattle.std.specs.Int.Bits.{bit_and}
use Rattle.codec_payload_base.proofs.ByteTables.{and_124}
use Rattle.codec_payload_base.specs.declared.error.PacketError.TheVariants as faults
use Rattle.std.proofs.lemmas.Bool.{lt-ltb, le-ltb}
use Rattle.std.proofs.lemmas.Nat.{and_mask}
use Rattle.std.proofs.lemmas.List.{take-append-le, length-replicate, length-take-le}
use Rattle.std.proofs.Math.Seq.{take-append-add}
use Rattle.codec_payload_base.specs.Bits.{bits, bits_of}
use Rattle.codec_payload_base.proofs.BitLemmas.{bits-same, bits-cat, bits-split, length-bits, length-bits_of}
use Rattle.codec_payload_audio.specs.AmrWb.{Frame, entry, gap, payload, padded, frame_from, speech_size, stored, AnswersFrame}

-- the six bits of an entry
pub entry_is : (toc n : ℕ) (rest : List ℕ) → toc < 128 → bits 6 (toc / 4) ≡ entry (frame_from toc n rest)
entry_is toc n rest small =
    let none : toc / 4 / 2 / 16 % 2 ^ 1 ≡ 0 % 2 ^ 1 = omega arith in
    let kind : toc / 4 / 2 % 2 ^ 4 ≡ toc / 8 % 16 % 2 ^ 4 = omega arith in
    let quality : toc / 4 % 2 ^ 1 ≡ toc / 4 % 2 % 2 ^ 1 = omega arith in
    bits-split 1 5 (toc / 4)
    ∙ ap (λ t. t ++ bits 1 (toc / 4)) (bits-split 4 1 (toc / 4 / 2) ∙ ap (λ t. t ++ bits 4 (toc / 4 / 2)) (bits-same 1 (toc / 4 / 2 / 16) 0 none))
    ∙ ap (λ t. bits 1 0 ++ t ++ bits 1 (toc / 4)) (bits-same 4 (toc / 4 / 2) (toc / 8 % 16) kind)
    ∙ ap (λ t. bits 1 0 ++ bits 4 (toc / 8 % 16) ++ t) (bits-same 1 (toc / 4) (toc / 4 % 2) quality)

-- the front of a head and the bits after it
take_head : (head xs : List ℕ) (h n : ℕ) → length head ≡ h → take (h + n) (head ++ xs) ≡ head ++ take n xs
take_head head xs h n e = ap (λ t. take (t + n) (head ++ xs)) (sym e) ∙ take-append-add head xs n

pub shifted_payload : (toc n : ℕ) (rest : List ℕ) → toc < 128 → n ≤ 8 * length rest
    → padded (take (10 + n) (bits 4 15 ++ bits 6 (toc / 4) ++ bits_of rest ++ bits 6 0)) ≡ payload false (frame_from toc n rest)
shifted_payload toc n rest small within =
    let head : List ℕ = bits 4 15 ++ bits 6 (toc / 4) in
    let size : length head ≡ 10 = omega (arith, length-append (bits 4 15) (bits 6 (toc / 4)), length-bits 4 15, length-bits 6 (toc / 4)) in
    let short : n ≤ length (bits_of rest) = omega (arith, length-bits_of rest) in
    ap padded
    (ap (take (10 + n)) (append_assoc head (bits_of rest) (bits 6 0))
    ∙ take_head head (bits_of rest ++ bits 6 0) 10 n size
    ∙ ap (λ t. head ++ t) (take-append-le n (bits_of rest) (bits 6 0) short)
    ∙ ap (λ t. bits 4 15 ++ t ++ take n (bits_of rest)) (entry_is toc n rest small))

pub aligned_payload : (toc n : ℕ) (rest : List ℕ) → toc < 128 → toc % 4 ≡ 0 → padded (take (16 + n) (bits_of (240 ∷ toc ∷ rest))) ≡ payload true (frame_from toc n rest)
aligned_payload toc n rest small clear =
    let head : List ℕ = bits 8 240 ++ bits 8 toc in
    let size : length head ≡ 16 = omega (arith, length-append (bits 8 240) (bits 8 toc), length-bits 8 240, length-bits 8 toc) in
    let gap : toc % 2 ^ 2 ≡ 0 % 2 ^ 2 = clear in
    let second : bits 8 toc ≡ entry (frame_from toc n rest) ++ bits 2 0 =
    bits-split 2 6 toc ∙ ap (λ t. t ++ bits 2 toc) (entry_is toc n rest small) ∙ ap (λ t. entry (frame_from toc n rest) ++ t) (bits-same 2 toc 0 gap) in
    ap padded
    (ap (take (16 + n)) (sym (append_assoc (bits 8 240) (bits 8 toc) (bits_of rest)))
    ∙ take_head head (bits_of rest) 16 n size
    ∙ ap (λ t. t ++ take n (bits_of rest))
    (ap (λ t. bits 8 240 ++ t) second ∙ sym (append_assoc (bits 8 240) (entry (frame_from toc n rest)) (bits 2 0))
    ∙ ap (λ t. t ++ entry (frame_from toc n rest) ++ bits 2 0) (bits-cat 4 4 15 0 (omega arith))))

pub shifted_length : (toc : ℕ) (items rest : List ℕ) → bits_of items ≡ bits 4 15 ++ bits 6 (toc / 4) ++ bits_of rest ++ bits 6 0 → length items ≡ length rest + 2
shifted_length toc items rest e =
    let total : length (bits 4 15 ++ bits 6 (toc / 4) ++ bits_of rest ++ bits 6 0) ≡ 16 + 8 * length rest =
    omega (
      arith,
      length-append (bits 4 15 ++ bits 6 (toc / 4) ++ bits_of rest) (bits 6 0),
      length-append (bits 4 15 ++ bits 6 (toc / 4)) (bits_of rest),
      length-append (bits 4 15) (bits 6 (toc / 4)),
      length-bits 4 15,
      length-bits 6 (toc / 4),
      length-bits 6 0,
      length-bits_of rest,
    ) in
    omega (arith, length-bits_of items, ap length e, total)

-- the code's reading of a first byte
pub toc_frame : (first n : ℕ) (rest : List ℕ) → first < 256 → frame_from (bit_and first 124) n rest ≡ frame_from first n rest
toc_frame first n rest small =
    let kind : first / 4 % 32 * 4 / 8 % 16 ≡ first / 8 % 16 = omega arith in
    let quality : first / 4 % 32 * 4 / 4 % 2 ≡ first / 4 % 2 = omega arith in
    rw (and_124 first small, kind, quality) refl

pub stored_is : (bytes rest : List ℕ) (first n : ℕ) → bytes ≡ first ∷ rest → speech_size (bit_and (first / 8) 15) ≡ Some n → length rest ≡ div_ceil n 8 → stored bytes ≡ Some (frame_from first n rest)
stored_is bytes rest first n e size whole =
    let kind : bit_and (first / 8) 15 ≡ first / 8 % 16 = and_mask (first / 8) 4 in
    rw (e, rw kind at size, eq-eqb (length rest) (div_ceil n 8) whole) refl

padded-length : (bs : List ℕ) → length (padded bs) ≡ length bs + gap (length bs)
padded-length bs = length-append bs (replicate (gap (length bs)) 0) ∙ ap (λ t. length bs + t) (length-replicate {A = ℕ} (gap (length bs)) 0)

speech-length : (n : ℕ) (rest : List ℕ) → n ≤ 8 * length rest → length (take n (bits_of rest)) ≡ n
speech-length n rest within = length-take-le n (bits_of rest) (omega (arith, length-bits_of rest))

entry-length : (f : Frame) → length (entry f) ≡ 6
entry-length f = omega (arith, length-append (bits 1 0 ++ bits 4 f.kind) (bits 1 f.quality), length-append (bits 1 0) (bits 4 f.kind), length-bits 1 0, length-bits 4 f.kind, length-bits 1 f.quality)

-- the length of a payload, in bits
pub payload-length : (octet : Bool) (first n : ℕ) (rest : List ℕ) → n ≤ 8 * length rest → length (payload octet (frame_from first n rest)) ≡ cond octet 16 10 + n + gap (cond octet 16 10 + n)
payload-length false first n rest within =
    let f : Frame = frame_from first n rest in
    let all : List ℕ = bits 4 15 ++ entry f ++ f.speech in
    let size : length all ≡ 10 + n = omega (arith, length-append (bits 4 15 ++ entry f) f.speech, length-append (bits 4 15) (entry f), length-bits 4 15, entry-length f, speech-length n rest within) in
    padded-length all ∙ ap (λ t. t + gap t) size
payload-length true first n rest within =
    let f : Frame = frame_from first n rest in
    let all : List ℕ = bits 4 15 ++ bits 4 0 ++ entry f ++ bits 2 0 ++ f.speech in
    let size : length all ≡ 16 + n = omega (
      arith,
      length-append (bits 4 15 ++ bits 4 0 ++ entry f ++ bits 2 0) f.speech,
      length-append (bits 4 15 ++ bits 4 0 ++ entry f) (bits 2 0),
      length-append (bits 4 15 ++ bits 4 0) (entry f),
      length-append (bits 4 15) (bits 4 0),
      length-bits 4 15,
      length-bits 4 0,
      length-bits 2 0,
      entry-length f,
      speech-length n rest within,
    ) in
    padded-length all ∙ ap (λ t. t + gap t) size

-- the results for one frame, by the length of its payload in bytes
module _ (octet : Bool) (mtu first n size : ℕ) (rest : List ℕ) (within : n ≤ 8 * length rest) (least : cond octet 16 10 + n ≤ 8 * size) (most : 8 * size < cond octet 16 10 + n + 8) where
  total : length (payload octet (frame_from first n rest)) ≡ 8 * size
  total = omega (arith, payload-length octet first n rest within)

  pub frame_too_large : mtu < size → AnswersFrame octet mtu (frame_from first n rest) (Err faults.ErrPayloadTooLarge)
  frame_too_large long = let over : 8 * mtu < length (payload octet (frame_from first n rest)) = omega (arith, total) in rw
      (lt-ltb (8 * mtu) (length (payload octet (frame_from first n rest))) over) refl

  fits : size ≤ mtu → length (payload octet (frame_from first n rest)) ≤ 8 * mtu
  fits short = omega (arith, total)

  pub frame_for_memory : size ≤ mtu → AnswersFrame octet mtu (frame_from first n rest) (Err faults.OutOfMemory)
  frame_for_memory short = rw (le-ltb (8 * mtu) (length (payload octet (frame_from first n rest))) (fits short)) refl

  pub frame_sent : size ≤ mtu → (p : List ℕ) → bits_of p ≡ payload octet (frame_from first n rest) → AnswersFrame octet mtu (frame_from first n rest) (Ok (p ∷ []))
  frame_sent short p same = rw (le-ltb (8 * mtu) (length (payload octet (frame_from first n rest))) (fits short)) (p, refl, same, omega (arith, length-bits_of p, ap length same, total))
