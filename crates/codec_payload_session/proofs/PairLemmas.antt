-- Streams that take the retransmissions of a pair.
use Rattle.std.proofs.Common.{◌≡◌, ℕ, suc, ◌==◌, List, [], ◌∷◌, length, Bool, true, false, ap, refl, arith}
use Rattle.codec_payload_session.specs.Arrivals.{Port}
use Rattle.codec_payload_session_stream.specs.Pairs.{paired_if, paired_when, paired_where}
use Rattle.codec_payload_session.specs.Ports.{IsPort, taken_in}
use Rattle.codec_payload_session_formats.specs.declared.formats.SessionSettings.{SessionSettings}
use Rattle.codec_payload_session_formats.specs.declared.formats.SsrcPair.{SsrcPair}
use Rattle.codec_payload_session.specs.declared.session.ArrivalCounts.{ArrivalCounts}
use Rattle.codec_payload_session_stream.specs.declared.stream.StreamState.{StreamState}

-- a stream that gets its retransmissions takes nothing
taken_paired_if : (ssrc : ℕ) (pairs : List SsrcPair) (s : StreamState) → (paired_if ssrc pairs s).taken ≡ s.taken
taken_paired_if ssrc pairs s = by_test (s.ssrc == ssrc)
  where
    by_test : (b : Bool) → (paired_when b pairs s).taken ≡ s.taken
    by_test true = refl
    by_test false = refl

taken_paired : (ssrc : ℕ) (pairs : List SsrcPair) (ss : List StreamState) → taken_in (paired_where ssrc pairs ss) ≡ taken_in ss
taken_paired ssrc pairs [] = refl
taken_paired ssrc pairs (x ∷ xs) = omega (arith, taken_paired_if ssrc pairs x, taken_paired ssrc pairs xs)

length_paired : (ssrc : ℕ) (pairs : List SsrcPair) (ss : List StreamState) → length (paired_where ssrc pairs ss) ≡ length ss
length_paired ssrc pairs [] = refl
length_paired ssrc pairs (x ∷ xs) = ap suc (length_paired ssrc pairs xs)

-- the settings may have other pairs then, and the number of streams stays
pub paired_keeps : (settings changed : SessionSettings) (c : ArrivalCounts) (ssrc : ℕ) (pairs : List SsrcPair) (p : Port) → changed.max_streams ≡ settings.max_streams
    → IsPort settings p c → IsPort changed (record p { streams = paired_where ssrc pairs p.streams }) c
paired_keeps settings changed c ssrc pairs p same kept = record {
  accounted = omega (arith, kept.accounted, taken_paired ssrc pairs p.streams);
  bounded = omega (arith, same, kept.bounded, length_paired ssrc pairs p.streams);
}
