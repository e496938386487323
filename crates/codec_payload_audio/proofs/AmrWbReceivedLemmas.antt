-- Lemmas on a whole payload.
use Rattle.std.proofs.Common.{◌≡◌, ℕ, ◌-◌, ◌*◌, ◌%◌, ◌<◌, ◌≤◌, min, List, [], ◌∷◌, ◌++◌, length, drop, refl, sym, ◌∙◌, ap, arith, Ok, Err, Result, Bool, true, false, cond, inl, inr}
use Rattle.std.specs.Prelude.{OnOk, IfErr}
use Rattle.std.proofs.lemmas.Bool.{lt-ltb, le-ltb, cases_lt}
use Rattle.codec_payload_base.proofs.FaultLemmas.{only_memory}
use Rattle.codec_payload_base.specs.Bits.{Reader, bits, bits_of, left}
use Rattle.codec_payload_base.proofs.BitLemmas.{length_left}
use Rattle.codec_payload_base.specs.declared.error.PacketError.{PacketError}
use Rattle.codec_payload_base.specs.declared.error.PacketError.TheVariants as faults
use Rattle.codec_payload_audio.specs.AmrWbReceived.{Entry, entries_at, frames_of, received, whole, behind_entries, Gains, FailsAs}

pub received_none : (octet : Bool) (packet : List ℕ) → length packet ≡ 0 → received octet (bits_of packet) ≡ Ok []
unfolding received
received_none octet [] h = refl
received_none octet (b ∷ bs) h = absurd (omega arith)

-- the place after the mode request exists
pub at_head : (octet : Bool) (size : ℕ) → 0 < size → min (cond octet 8 4) (8 * size) ≡ cond octet 8 4
at_head true size some = omega arith
at_head false size some = omega arith

module _ (octet : Bool) (packet : List ℕ) (reader : Reader) (some : 0 < length packet) (place : reader ≡ record { bytes = packet; place = cond octet 8 4 }) where
  received_some : (p : List ℕ) → 0 < length p → received octet (bits_of p) ≡ behind_entries octet (entries_at octet (drop (cond octet 8 4) (bits_of p)))
  unfolding received bits
  received_some [] h = absurd (omega arith)
  received_some (b ∷ bs) h = refl

  opened : left reader ≡ drop (cond octet 8 4) (bits_of packet)
  opened = ap left place

  received_is : received octet (bits_of packet) ≡ behind_entries octet (entries_at octet (left reader))
  received_is = received_some packet some ∙ ap (λ t. behind_entries octet (entries_at octet t)) (sym opened)

  pub whole_bytes : octet ≡ true → length (left reader) % 8 ≡ 0
  whole_bytes o =
      let size : length (left reader) ≡ 8 * length packet - cond octet 8 4 = ap length opened ∙ length_left packet (cond octet 8 4) in
      let eight : ◌≡◌ {A = ℕ} (cond octet 8 4) 8 = ap (λ (b : Bool). cond b 8 4) o in
      omega (arith, size, eight)

  pub entries_fail : (e : PacketError) → entries_at octet (left reader) ≡ Err e → received octet (bits_of packet) ≡ Err e
  entries_fail e r = received_is ∙ ap (behind_entries octet) r

  module _ (es : List Entry) (now : List ℕ) (read : entries_at octet (left reader) ≡ Ok (es, now)) where
    behind : (r : Result (List Entry × List ℕ) PacketError) → r ≡ Ok (es, now) → behind_entries octet r ≡ whole (frames_of octet r now)
    behind r e = ap (behind_entries octet) e ∙ ap (λ t. whole (frames_of octet t now)) (sym e)

    received_at : received octet (bits_of packet) ≡ whole (frames_of octet (entries_at octet (left reader)) now)
    received_at = received_is ∙ behind (entries_at octet (left reader)) read

    pub frames_fail_so : (e : PacketError) → frames_of octet (entries_at octet (left reader)) now ≡ Err e → received octet (bits_of packet) ≡ Err e
    frames_fail_so e r = received_at ∙ ap whole r

    pub received_long : (frames rest : List ℕ) → frames_of octet (entries_at octet (left reader)) now ≡ Ok (frames, rest) → 8 ≤ length rest
        → received octet (bits_of packet) ≡ Err faults.ErrAmrWbCorruptedPacket
    received_long frames rest r h = received_at ∙ ap whole r ∙ rw (le-ltb (length rest) 8 h) refl

    pub received_all : (frames rest : List ℕ) → frames_of octet (entries_at octet (left reader)) now ≡ Ok (frames, rest) → length rest < 8 → received octet (bits_of packet) ≡ Ok frames
    received_all frames rest r h = received_at ∙ ap whole r ∙ rw (lt-ltb (length rest) 8 h) refl

    whole_same : (frames : List ℕ) (x : List ℕ × List ℕ) → whole (Ok x) ≡ Ok frames → x.0 ≡ frames
    whole_same frames x h = elim (cases_lt (length x.1) 8) [
      | inl lt ↦ let e = rw (lt-ltb (length x.1) 8 lt) at h in cc
      | inr le ↦ let e = rw (le-ltb (length x.1) 8 le) at h in cc
    ]

    gains_same : (frames out0 out rest : List ℕ) (r : Result (List ℕ × List ℕ) PacketError) → whole r ≡ Ok frames → Gains out0 out rest r → bits_of out ≡ bits_of out0 ++ frames
    gains_same frames out0 out rest (Ok x) h g = g.0 ∙ ap (λ t. bits_of out0 ++ t) (whole_same frames x h)
    gains_same frames out0 out rest (Err e) h g = absurd g

    pub gains_all : (frames out0 out rest : List ℕ) → received octet (bits_of packet) ≡ Ok frames
        → Gains out0 out rest (frames_of octet (entries_at octet (left reader)) now) → bits_of out ≡ bits_of out0 ++ frames
    gains_all frames out0 out rest is g = gains_same frames out0 out rest (frames_of octet (entries_at octet (left reader)) now) (sym received_at ∙ is) g

    ok_or_err : (frames : List ℕ) (e : PacketError) → ◌≡◌ {A = Result (List ℕ) PacketError} (Ok frames) (Err e) → ⊥
    ok_or_err frames e h = cc

    pub fails_for_memory : (frames : List ℕ) (e : PacketError) → received octet (bits_of packet) ≡ Ok frames → FailsAs e (frames_of octet (entries_at octet (left reader)) now) → e ≡ faults.OutOfMemory
    fails_for_memory frames e is fails = only_memory e (λ other. ok_or_err frames e (sym is ∙ frames_fail_so e (fails other)))

    pub appended_ok : (frames out0 out rest : List ℕ) (r : Result (Unit {0}) PacketError) → received octet (bits_of packet) ≡ Ok frames
        → OnOk r (Gains out0 out rest (frames_of octet (entries_at octet (left reader)) now))
        → OnOk r ((fs : List ℕ) × (received octet (bits_of packet) ≡ Ok fs) × (bits_of out ≡ bits_of out0 ++ fs))
    appended_ok frames out0 out rest (Ok x) is g = (frames, is, gains_all frames out0 out rest is g)
    appended_ok frames out0 out rest (Err e) is g = tt

    pub appended_err : (frames : List ℕ) (r : Result (Unit {0}) PacketError) → received octet (bits_of packet) ≡ Ok frames
        → IfErr r (λ e. FailsAs e (frames_of octet (entries_at octet (left reader)) now)) → IfErr r (λ e. (e ≡ faults.OutOfMemory) × (0 < length packet))
    appended_err frames (Ok x) is fails = tt
    appended_err frames (Err e) is fails = (fails_for_memory frames e is fails, some)
