-- Frames of AMR-WB: spelled bytes are read, and bytes that are read are spelled so.
use Rattle.std.proofs.Common.{◌≡◌, ℕ, ◌+◌, ◌*◌, ◌/◌, ◌%◌, ◌<◌, List, [], ◌∷◌, ◌++◌, length, take, drop, Bool, true, false, ltb, eqb, Option, Some, None, Ok, refl, sym, ap, ◌∙◌, subst, arith, length-append}
use Rattle.std.proofs.lemmas.Bool.{eq-eqb, ne_eqb, le-ltb, ltb-false}
use Rattle.std.proofs.lemmas.List.{take_at, drop_at, take-append-drop, length-take-le}
use Rattle.codec_payload_base.specs.Flags.{AreBytes}
use Rattle.codec_payload_vpx.specs.declared.error.MediaError.TheVariants as errors
use Rattle.codec_payload_vpx.specs.BitFields.{bit_if}
use Rattle.codec_payload_media.specs.AmrWbFrames.{Frame, IsAmrWbFrame, frame_at, speech_length, with_speech}
use Rattle.codec_payload_media.specs.Items.{AreSpelled, all_ok, items_at}
use Rattle.codec_payload_media.proofs.AmrWbLemmas.{frame_shorter}
use Rattle.codec_payload_vpx.proofs.ReadingLemmas.{bit_is, drop_bytes, guard_ok, ok_is}
use Rattle.codec_payload_media.proofs.SpellingLemmas.{all_again, all_spelled}

abbrev header : ℕ → ℕ → Bool → ℕ → ℕ
header first kind quality last = 128 * first + 8 * kind + bit_if quality 4 + last

abbrev HasFields : ℕ → ℕ → Bool → Type 0
HasFields n kind quality = (n / 8 % 16 ≡ kind) × (eqb (n / 4 % 2) 1 ≡ quality)

fields_of : (first kind : ℕ) (quality : Bool) (last n : ℕ) → n ≡ header first kind quality last → kind < 16 → last < 4 → HasFields n kind quality
fields_of first kind false last n is small few = (omega (arith, is, small, few), ne_eqb (n / 4 % 2) 1 (λ h. omega (arith, h, is, few)))
fields_of first kind true last n is small few = (omega (arith, is, small, few), eq-eqb (n / 4 % 2) 1 (omega (arith, is, few)))

frame_same : (f : Frame) (kind : ℕ) (quality : Bool) (speech : List ℕ) → kind ≡ f.frame_type → quality ≡ f.quality → speech ≡ f.speech → record { frame_type = kind; quality = quality; speech = speech } ≡ f
frame_same f kind quality speech e1 e2 e3 = rw (e1, e2, e3) refl

speech_again : (f : Frame) (n : ℕ) (rest : List ℕ) → HasFields n f.frame_type f.quality → with_speech n (Some (length f.speech)) (f.speech ++ rest) ≡ Ok (f, rest)
speech_again f n rest (kind, quality) =
    rw (le-ltb (length (f.speech ++ rest)) (length f.speech) (omega (arith, length-append f.speech rest)), drop_at f.speech rest (length f.speech) refl)
    (ap (λ (x : Frame). Ok (x, rest)) (frame_same f (n / 8 % 16) (eqb (n / 4 % 2) 1) (take (length f.speech) (f.speech ++ rest)) kind quality (take_at f.speech rest (length f.speech) refl)))

frame_again : (bytes : List ℕ) (f : Frame) (rest : List ℕ) → IsAmrWbFrame bytes f rest → frame_at bytes ≡ Ok (f, rest)
frame_again bytes f rest is =
    let n : ℕ = header is.first f.frame_type f.quality is.last in
    let has = fields_of is.first f.frame_type f.quality is.last n refl is.kind is.last_bits in
    ap frame_at is.is
    ∙ ap (λ (k : ℕ). with_speech n (speech_length k) (f.speech ++ rest)) has.0
    ∙ ap (λ (o : Option ℕ). with_speech n o (f.speech ++ rest)) is.speech
    ∙ speech_again f n rest has

header_is : (n : ℕ) → header (n / 128) (n / 8 % 16) (eqb (n / 4 % 2) 1) (n % 4) ≡ n
header_is n = omega (arith, bit_is (n / 4 % 2) 4 (omega arith))

abbrev Taken : List ℕ → Frame × List ℕ → Type 0
Taken bytes x = IsAmrWbFrame bytes x.0 x.1 × AreBytes x.1

speech_taken : (n : ℕ) (bytes : List ℕ) (o : Option ℕ) (x : Frame × List ℕ) → AreBytes (n ∷ bytes) → speech_length (n / 8 % 16) ≡ o → with_speech n o bytes ≡ Ok x → Taken (n ∷ bytes) x
speech_taken n bytes None x are is e = cc
speech_taken n bytes (Some count) x are is e =
    let f : Frame = record { frame_type = n / 8 % 16; quality = eqb (n / 4 % 2) 1; speech = take count bytes } in
    let g = guard_ok (ltb (length bytes) count) errors.MissingBytes (Ok (f, drop count bytes)) x e in
    let long : length (take count bytes) ≡ count = length-take-le count bytes (ltb-false _ _ g.0) in
    let first : n < 256 = are 0 in
    let spelled : n ∷ bytes ≡ header (n / 128) (n / 8 % 16) (eqb (n / 4 % 2) 1) (n % 4) ∷ (take count bytes ++ drop count bytes) =
    ap (λ (k : ℕ). k ∷ bytes) (sym (header_is n)) ∙ ap (λ (t : List ℕ). header (n / 128) (n / 8 % 16) (eqb (n / 4 % 2) 1) (n % 4) ∷ t) (sym (take-append-drop count bytes)) in
    subst (Taken (n ∷ bytes)) (ok_is (f, drop count bytes) x g.1) (
      record {
        kind = omega arith;
        first = n / 128;
        first_bit = omega (arith, first);
        last = n % 4;
        last_bits = omega arith;
        is = spelled;
        speech = is ∙ ap (λ (k : ℕ). Some k) (sym long);
      },
      drop_bytes count bytes (drop_bytes 1 (n ∷ bytes) are),
    )

frame_taken : (bytes : List ℕ) (f : Frame) (rest : List ℕ) → AreBytes bytes → frame_at bytes ≡ Ok (f, rest) → IsAmrWbFrame bytes f rest × AreBytes rest
frame_taken [] f rest are e = absurd cc
frame_taken (n ∷ bytes) f rest are e = speech_taken n bytes (speech_length (n / 8 % 16)) (f, rest) are refl e

pub frames_again : (bytes : List ℕ) (frames : List Frame) → AreSpelled IsAmrWbFrame bytes frames → items_at frame_at bytes ≡ all_ok frames
frames_again bytes frames = all_again frame_at frame_shorter IsAmrWbFrame frame_again frames bytes

pub frames_spelled : (bytes : List ℕ) (frames : List Frame) → AreBytes bytes → items_at frame_at bytes ≡ all_ok frames → AreSpelled IsAmrWbFrame bytes frames
frames_spelled bytes frames = all_spelled frame_at frame_shorter IsAmrWbFrame frame_taken frames bytes
