-- Frames of AMR-WB have a byte or more.
use Rattle.std.proofs.Common.{◌≡◌, ℕ, ◌/◌, ◌%◌, ◌<◌, ◌≤◌, List, [], ◌∷◌, length, take, drop, ltb, eqb, Option, Some, None, Ok, subst, arith}
use Rattle.std.proofs.lemmas.List.{length-drop}
use Rattle.codec_payload_vpx.specs.declared.error.MediaError.TheVariants as errors
use Rattle.codec_payload_media.specs.AmrWbFrames.{Frame, frame_at, speech_length, with_speech}
use Rattle.codec_payload_vpx.proofs.ReadingLemmas.{guard_ok, ok_is}

speech_shorter : (byte : ℕ) (n : Option ℕ) (bytes : List ℕ) (x : Frame × List ℕ) → with_speech byte n bytes ≡ Ok x → length x.1 ≤ length bytes
speech_shorter byte None bytes x e = cc
speech_shorter byte (Some n) bytes x e =
    let f : Frame = record { frame_type = byte / 8 % 16; quality = eqb (byte / 4 % 2) 1; speech = take n bytes } in
    let g = guard_ok (ltb (length bytes) n) errors.MissingBytes (Ok (f, drop n bytes)) x e in
    subst (λ (y : Frame × List ℕ). length y.1 ≤ length bytes) (ok_is (f, drop n bytes) x g.1) (omega (arith, length-drop n bytes))

pub frame_shorter : (bytes : List ℕ) (x : Frame × List ℕ) → frame_at bytes ≡ Ok x → length x.1 < length bytes
frame_shorter [] x e = cc
frame_shorter (byte ∷ rest) x e = omega (arith, speech_shorter byte (speech_length (byte / 8 % 16)) rest x e)
