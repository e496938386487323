-- Extended reports beside the reports of a peer.
use Rattle.std.proofs.Common.{◌≡◌, ◌∙◌, ◌||◌, ℕ, Bool, true, false, List, [], ◌∷◌, ◌++◌, Option, Some, Result, Ok, Err, OnOk, ap, refl, subst, sym, append_assoc}
use Rattle.std.proofs.lemmas.List.{append-nil}
use Rattle.std.specs.declared.alloc.AllocError.{AllocError}
use Rattle.codec_payload_rtcp.specs.RtcpPackets.{Packet}
use Rattle.codec_payload_rtcp.specs.RtcpWriting.{Appends}
use Rattle.codec_payload_feedback_xr.specs.Exchange.{AppendsEach, answer_packets, answer_to, exchange_packets}
use Rattle.codec_payload_feedback_xr.specs.RoundTrip.{middle_bits}
use Rattle.codec_payload_feedback_xr.specs.Xr.{dlrr_block, reference_time_block, xr_packet}
use Rattle.codec_payload_feedback_xr.specs.declared.exchange.PeerTime.{PeerTime}
use Rattle.codec_payload_feedback_xr.specs.declared.exchange.TimeExchange.{TimeExchange}
use Rattle.codec_payload_feedback_xr.specs.declared.report.Dlrr.{Dlrr}

-- ---- packets that came

pub or_more : (a b c : Bool) → ((a || b) || c) ≡ (a || (b || c))
or_more true b c = refl
or_more false b c = refl

pub or_none : (b : Bool) → b ≡ (b || false)
or_none true = refl
or_none false = refl

-- ---- packets that leave

two_appended : (r : Result (Unit {0}) AllocError) (old mid new : List ℕ) (p q : Packet) → Appends old mid p → OnOk r (Appends mid new q) → OnOk r (AppendsEach (p ∷ q ∷ []) old new)
two_appended (Ok u) old mid new p q a b = (
  a.0 ++ b.0,
  (a.0, b.0, a.1, (b.0, [], b.1, refl, sym (append-nil b.0)), refl),
  b.2 ∙ ap (λ (l : List ℕ). l ++ b.0) a.2 ∙ append_assoc old a.0 b.0,
)
two_appended (Err e) old mid new p q a b = b

-- the reference time, and the answer to the peer
pub both_appended : (r : Result (Unit {0}) AllocError) (old mid new : List ℕ) (ssrc time at : ℕ) (x : TimeExchange) (peer : PeerTime) (d : Dlrr) → x.peer ≡ Some peer → at ≡ middle_bits time → d ≡ answer_to at peer
    → Appends old mid (xr_packet (record { ssrc = ssrc; blocks = reference_time_block time ∷ [] }))
    → OnOk r (Appends mid new (xr_packet (record { ssrc = ssrc; blocks = dlrr_block (d ∷ []) ∷ [] })))
    → OnOk r (AppendsEach (exchange_packets ssrc time x) old new)
both_appended r old mid new ssrc time at x peer d some moment is a b =
    let first : Packet = xr_packet (record { ssrc = ssrc; blocks = reference_time_block time ∷ [] }) in
    let second = λ (e : Dlrr). xr_packet (record { ssrc = ssrc; blocks = dlrr_block (e ∷ []) ∷ [] }) in
    let exact : d ≡ answer_to (middle_bits time) peer = is ∙ ap (λ (n : ℕ). answer_to n peer) moment in
    subst (λ (o : Option PeerTime). OnOk r (AppendsEach (first ∷ answer_packets ssrc (middle_bits time) o) old new)) (sym some)
    (subst (λ (e : Dlrr). OnOk r (AppendsEach (first ∷ second e ∷ []) old new)) exact (two_appended r old mid new first (second d) a b))
