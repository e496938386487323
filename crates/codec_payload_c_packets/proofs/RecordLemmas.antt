-- The av1C record in the output buffer.
use Rattle.std.proofs.Common.{◌≡◌, ℕ, ◌+◌, ◌<◌, ◌≤◌, List, ◌++◌, length, drop, leb, Bool, false, true, cond, Ok, refl, sym, ap, ◌∙◌, arith, append_assoc, length-append}
use Rattle.std.proofs.lemmas.Bool.{le-leb, lt-leb}
use Rattle.std.proofs.lemmas.List.{drop-drop}
use Rattle.codec_payload_media.specs.Av1Records.{av1c_bytes, av1c_front}
use Rattle.codec_payload_media.specs.declared.av1.sequence_header.Av1SequenceHeader.{Av1SequenceHeader}
use Rattle.codec_payload_handle.specs.Bytes.{filled}
use Rattle.codec_payload_c_packets.specs.Media.{WritesRecord}

module _ (h : Av1SequenceHeader) (obu bytes : List ℕ) where
  front_long : length (av1c_front h) ≡ 4
  unfolding av1c_front
  front_long = refl

  pub record_long : length (av1c_bytes h obu) ≡ 4 + length obu
  record_long = omega (arith, length-append (av1c_front h) obu, front_long)

  pub too_few : length bytes < 4 + length obu → leb (length (av1c_bytes h obu)) (length bytes) ≡ false
  too_few few = lt-leb (length (av1c_bytes h obu)) (length bytes) (omega (arith, record_long, few))

  pub stays : length bytes < 4 + length obu → bytes ≡ filled (av1c_bytes h obu) bytes
  stays few = rw (too_few few) refl

  pub is_enough : 4 + length obu ≤ length bytes → leb (length (av1c_bytes h obu)) (length bytes) ≡ true
  is_enough enough = le-leb (length (av1c_bytes h obu)) (length bytes) (omega (arith, record_long, enough))

  pub written : 4 + length obu ≤ length bytes → av1c_front h ++ (obu ++ drop (length obu) (drop 4 bytes)) ≡ filled (av1c_bytes h obu) bytes
  written enough =
      rw (is_enough enough, record_long) (
      sym (append_assoc (av1c_front h) obu (drop (length obu) (drop 4 bytes)))
      ∙ ap (λ (t : List ℕ). (av1c_front h ++ obu) ++ t) (drop-drop (length obu) 4 bytes)
      )

  pub record_written : (fits : Bool) (after : List ℕ) (size_before size : ℕ) → fits ≡ leb (length (av1c_bytes h obu)) (length bytes)
      → after ≡ filled (av1c_bytes h obu) bytes → size ≡ 4 + length obu → WritesRecord obu (Ok h) (cond fits 0 33) bytes after size_before size
  record_written fits after size_before size is filling long = (ap (λ (b : Bool). cond b 0 33) is, filling, long ∙ sym record_long)
