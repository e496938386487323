-- A frame of one packet: its place, and what the depacketizer gives for its payload.
use Rattle.std.proofs.Common.{◌≡◌, ◌∙◌, ℕ, ◌+◌, ◌-◌, ◌≤◌, refl, ap, sym, arith, [], ◌∷◌, List, length, take, drop, map, get_or, Result, Ok, Err}
use Rattle.std.proofs.lemmas.List.{drop_more}
use Rattle.std.specs.Prelude.{slice_range, ⊤}
use Rattle.codec_payload_base.specs.declared.error.PacketError.{PacketError}
use Rattle.codec_payload_base.specs.declared.interface.CodecExtra.{CodecExtra}
use Rattle.codec_payload_codec.specs.Depacketizers.{DepacketizerState, DepacketizerStep}
use Rattle.codec_payload_buffer.specs.Held.{Held, held_of}
use Rattle.codec_payload_buffer.specs.Steps.{Unpacked, Unpacks, OwnUnpacks, answer_of}
use Rattle.codec_payload_buffer.specs.declared.buffer.held_packet.HeldPacket.{HeldPacket}

-- the only packet between two places
pub one_held : (xs : List HeldPacket) (from to : ℕ) (q : HeldPacket) → to - from ≡ 1 → to ≤ length xs → q ≡ get_or xs from q → map held_of (slice_range xs from to) ≡ held_of q ∷ []
one_held xs from to q one within is =
    let front : drop from xs ≡ get_or xs from q ∷ drop (from + 1) xs = drop_more xs from q (omega (arith, one, within)) in
    ap (λ (n : ℕ). map held_of (take n (drop from xs))) one
    ∙ (ap (λ (ys : List HeldPacket). map held_of (take 1 ys)) front ∙ ap (λ (p : HeldPacket). held_of p ∷ []) (sym is))

-- one payload takes one step
pub one_unpacked : (d : DepacketizerState) (p : Held) (u v : Unpacked) (answer : Result ⊤ PacketError) (e : DepacketizerState)
    → DepacketizerStep d p.bytes u.bytes u.extra answer e v.bytes v.extra → Unpacks d (p ∷ []) u (answer_of answer v) e
one_unpacked d p u v (Ok x) e step = (Ok x, e, v, step, (refl, refl))
one_unpacked d p u v (Err fault) e step = (Err fault, e, v, step, (refl, refl))

-- the same for a custom depacketizer
pub one_own : {B : Type 0} (state : B → List ℕ) (step : B → List ℕ → List ℕ → CodecExtra → Result ⊤ PacketError → List ℕ → List ℕ → CodecExtra → Type 0)
    (b : B) (p : Held) (u v : Unpacked) (answer : Result ⊤ PacketError) (b' : B)
    → step b p.bytes u.bytes u.extra answer (state b') v.bytes v.extra → OwnUnpacks state step b (p ∷ []) u (answer_of answer v) b'
one_own state step b p u v (Ok x) b' made = (Ok x, b', v, made, (refl, refl))
one_own state step b p u v (Err fault) b' made = (Err fault, b', v, made, (refl, refl))
