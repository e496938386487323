-- Lemmas on the read of one frame.
use Rattle.std.proofs.Common.{◌≡◌, ℕ, ◌+◌, ◌*◌, ◌/◌, ◌%◌, ◌^◌, ◌<◌, ◌≤◌, List, [], ◌∷◌, ◌++◌, length, take, drop, replicate, refl, sym, ◌∙◌, ap, arith, append_assoc, length-append, length-drop, Option, Some, None, Ok, Err, Bool, true, false, cond}
use Rattle.std.proofs.lemmas.Bool.{le-ltb, lt-ltb}
use Rattle.std.proofs.Math.Nat.{add-zero}
use Rattle.std.proofs.lemmas.List.{drop-drop}
use Rattle.codec_payload_base.specs.Bits.{Reader, bits, bits_of, left, moved, ReadsBits}
use Rattle.codec_payload_base.proofs.BitLemmas.{bits-same, bits-split, length-bits}
use Rattle.codec_payload_audio.specs.AmrWb.{Frame, bit_of, gap, padded, entry, canonical, speech_size}
use Rattle.codec_payload_audio.specs.declared.amr_wb.toc.TocEntry.{TocEntry}
use Rattle.codec_payload_audio.specs.AmrWbReceived.{frame_at, Gains}
use Rattle.codec_payload_audio.specs.AmrWbEntries.{entry_of}
use Rattle.codec_payload_base.specs.declared.error.PacketError.TheVariants as faults
use Rattle.codec_payload_audio.proofs.AmrWbCopyLemmas.{bits_of-push}
use Rattle.codec_payload_audio.proofs.AmrWbPayloadLemmas.{entry_is}

eight : (m n : ℕ) → m ≡ 8 → gap (m + n) ≡ gap n
eight m n h = omega arith

-- a whole byte before the bits that are padded
padded-byte : (xs ys : List ℕ) → length xs ≡ 8 → padded (xs ++ ys) ≡ xs ++ padded ys
padded-byte xs ys size =
    let same : gap (length (xs ++ ys)) ≡ gap (length ys) = ap gap (length-append xs ys) ∙ eight (length xs) (length ys) size in
    ap (λ t. (xs ++ ys) ++ replicate t 0) same ∙ append_assoc xs ys (replicate (gap (length ys)) 0)

header_bits : (k q : ℕ) (speech : List ℕ) → k < 16 → q < 2 → bits 8 (8 * k + 4 * q) ≡ entry (record { kind = k; quality = q; speech = speech }) ++ bits 2 0
header_bits k q speech four one =
    let toc : ℕ = 8 * k + 4 * q in
    let clear : toc % 2 ^ 2 ≡ 0 % 2 ^ 2 = omega arith in
    let kind : toc / 8 % 16 ≡ k = omega arith in
    let quality : toc / 4 % 2 ≡ q = omega arith in
    bits-split 2 6 toc
    ∙ ap (λ t. t ++ bits 2 toc) (entry_is toc 0 [] (omega arith))
    ∙ ap (λ t. (bits 1 0 ++ bits 4 (toc / 8 % 16) ++ bits 1 (toc / 4 % 2)) ++ t) (bits-same 2 toc 0 clear)
    ∙ ap (λ k. (bits 1 0 ++ bits 4 k ++ bits 1 (toc / 4 % 2)) ++ bits 2 0) kind
    ∙ ap (λ q. (bits 1 0 ++ bits 4 k ++ bits 1 q) ++ bits 2 0) quality

bit_small : (b : Bool) → bit_of b < 2
bit_small true = omega arith
bit_small false = omega arith

pub frame_gains : (octet : Bool) (e : TocEntry) (n : ℕ) (bs rest out mid new : List ℕ) → e.frame_type < 16 → mid ≡ out ++ (8 * e.frame_type + 4 * bit_of e.quality)
    ∷ [] → bits_of new ≡ bits_of mid ++ padded (take n bs) → n ≤ length bs
    → rest ≡ drop (cond octet (n + gap n) n) bs → Gains out new rest (frame_at octet (entry_of e) bs (Some n))
frame_gains octet e n bs rest out mid new small pushed copied within skipped =
    let speech : List ℕ = take n bs in
    let q : ℕ = bit_of e.quality in
    let f : Frame = record { kind = e.frame_type; quality = q; speech = speech } in
    let header = header_bits e.frame_type q speech small (bit_small e.quality) in
    let size : length (entry f ++ bits 2 0) ≡ 8 = sym (ap length header) ∙ length-bits 8 (8 * e.frame_type + 4 * q) in
    rw (le-ltb (length bs) n within) (
      copied
          ∙ ap (λ t. t ++ padded speech) (ap bits_of pushed ∙ bits_of-push out (8 * e.frame_type + 4 * q) ∙ ap (λ t. bits_of out ++ t) header)
          ∙ append_assoc (bits_of out) (entry f ++ bits 2 0) (padded speech)
          ∙ ap (λ t. bits_of out ++ t) (sym (padded-byte (entry f ++ bits 2 0) speech size)),
      skipped,
    )

left_moved : (r : Reader) (n : ℕ) → left (moved r n) ≡ drop n (left r)
left_moved r n = sym (drop-drop n r.place (bits_of r.bytes))

pub plain_rest : (old new : Reader) (n : ℕ) → new ≡ moved old n → left new ≡ drop n (left old)
plain_rest old new n e = ap left e ∙ left_moved old n

gap_moved : (g : ℕ) (now new : Reader) (o : Option ℕ) → ReadsBits g now new o → g ≤ length (left now) → new ≡ moved now g
gap_moved g now new None r h = absurd (omega (arith, r.0))
gap_moved g now new (Some v) r h = r.2

enough : (octet : Bool) (n g size : ℕ) → (octet ≡ true → (size + n) % 8 ≡ 0) → g ≡ cond octet (gap n) 0 → g ≤ size
enough true n g size whole e = let all = whole refl in omega arith
enough false n g size whole e = omega arith

-- the bits that fill up a byte are present, and skipped
pub gap_skipped : (octet : Bool) (old new : Reader) (n g : ℕ) (o : Option ℕ) → (octet ≡ true → (length (left old) + n) % 8 ≡ 0) → g ≡ cond octet (gap n) 0
    → ReadsBits g old new o → left new ≡ drop (cond octet (gap n) 0) (left old)
gap_skipped octet old new n g o whole e r =
    plain_rest old new g (gap_moved g old new o r (enough octet n g (length (left old)) whole e)) ∙ ap (λ t. drop t (left old)) e

rest_sum : (octet : Bool) (n : ℕ) → n + cond octet (gap n) 0 ≡ cond octet (n + gap n) n
rest_sum true n = refl
rest_sum false n = add-zero n

-- the bits after the speech and the fill of its last byte
pub frame_rest : (octet : Bool) (old now new : Reader) (n : ℕ) → now ≡ moved old n → left new ≡ drop (cond octet (gap n) 0) (left now) → left new ≡ drop (cond octet (n + gap n) n) (left old)
frame_rest octet old now new n e skipped =
    skipped
    ∙ ap (drop (cond octet (gap n) 0)) (plain_rest old now n e)
    ∙ drop-drop (cond octet (gap n) 0) n (left old)
    ∙ ap (λ t. drop t (left old)) (rest_sum octet n)

-- if frames begin with bytes, the rest begins with a byte
pub whole_now : (old now : Reader) (n : ℕ) → now ≡ moved old n → n ≤ length (left old) → length (left old) % 8 ≡ 0 → (length (left now) + n) % 8 ≡ 0
whole_now old now n e within whole = omega (arith, ap length (plain_rest old now n e), length-drop n (left old))

pub whole_after : (n : ℕ) (now new : List ℕ) → (length now + n) % 8 ≡ 0 → new ≡ drop (gap n) now → length new % 8 ≡ 0
whole_after n now new whole e = omega (arith, ap length e, length-drop (gap n) now)

-- speech that is complete, and speech that is cut off
pub frame_there : (octet : Bool) (e : TocEntry) (n : ℕ) (bs rest : List ℕ) → speech_size e.frame_type ≡ Some n → n ≤ length bs
    → rest ≡ drop (cond octet (n + gap n) n) bs → (frame : List ℕ) × (frame_at octet (entry_of e) bs (speech_size e.frame_type) ≡ Ok (frame, rest))
frame_there octet e n bs rest size within skipped =
    (canonical (record { kind = e.frame_type; quality = bit_of e.quality; speech = take n bs }), rw (size, le-ltb (length bs) n within, skipped) refl)

pub frame_short : (octet : Bool) (e : TocEntry) (n : ℕ) (bs : List ℕ) → speech_size e.frame_type ≡ Some n → length bs < n
    → frame_at octet (entry_of e) bs (speech_size e.frame_type) ≡ Err faults.ErrShortPacket
frame_short octet e n bs size short = rw (size, lt-ltb (length bs) n short) refl

pub frame_reserved : (octet : Bool) (e : TocEntry) (bs : List ℕ) → speech_size e.frame_type ≡ None → frame_at octet (entry_of e) bs (speech_size e.frame_type) ≡ Err faults.ErrAmrWbCorruptedPacket
frame_reserved octet e bs none = rw none refl
