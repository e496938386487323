-- A packet of RTCP that is written.
use Rattle.std.proofs.Common.{◌≡◌, ◌⊎◌, inl, inr, ℕ, ◌+◌, ◌*◌, ◌/◌, ◌%◌, ◌<◌, ◌≤◌, List, [], ◌∷◌, ◌++◌, length, false, refl, sym, ap, ◌∙◌, arith, append_assoc}
use Rattle.std.specs.Int.{w32, to_be_bytes}
use Rattle.std.proofs.lemmas.List.{append-nil}
use Rattle.codec_payload_rtcp.specs.RtcpPackets.{header_bytes, kind_of}
use Rattle.codec_payload_rtcp.specs.declared.packet.PacketKind.TheVariants as kinds
use Rattle.codec_payload_rtcp.specs.RtcpWriting.{Appends, feedback_head}
use Rattle.codec_payload_feedback_congestion.specs.Packet.{feedback_of}

unread : (t : ℕ) → (t ≡ 205) ⊎ (t ≡ 206) → kind_of t 15 ≡ kinds.Other
unread t (inl is) = rw is refl
unread t (inr is) = rw is refl

small : (t : ℕ) → (t ≡ 205) ⊎ (t ≡ 206) → t < 256
small t (inl is) = omega (arith, is)
small t (inr is) = omega (arith, is)

pub packet_written : (old mid new head fci : List ℕ) (t sender media words : ℕ) → (t ≡ 205) ⊎ (t ≡ 206) → length fci % 4 ≡ 0 → length fci ≤ 262132 → words ≡ 2 + length fci / 4 → head ≡ feedback_head 15 t words sender media → mid ≡ old ++ head → new ≡ mid ++ fci
    → Appends old new (feedback_of t sender media fci)
packet_written old mid new head fci t sender media words kind whole short count is first second =
    let body : List ℕ = to_be_bytes w32 sender ++ to_be_bytes w32 media ++ fci in
    let long : length (body ++ []) ≡ 8 + length fci = ap length (append-nil body) ∙ eight fci in
    let same : length (body ++ []) / 4 ≡ words = omega (arith, long, count) in (
      head ++ fci,
      record {
        fits = record { packet_type = omega (arith, small t kind); count = omega arith; kind = unread t kind };
        body = body;
        tail = [];
        is_body = refl;
        is_padding = refl;
        whole = omega (arith, long, whole);
        few = omega (arith, long, short);
        is = ap (λ (h : List ℕ). h ++ fci) is ∙ ap (λ (xs : List ℕ). feedback_head 15 t words sender media ++ xs) (sym (append-nil fci))
            ∙ ap (λ (n : ℕ). header_bytes false 15 t n ++ (body ++ [])) (sym same);
      },
      second ∙ ap (λ (xs : List ℕ). xs ++ fci) first ∙ append_assoc old head fci,
    )
  where
    eight : (xs : List ℕ) → length (to_be_bytes w32 sender ++ to_be_bytes w32 media ++ xs) ≡ 8 + length xs
    eight xs = omega arith
