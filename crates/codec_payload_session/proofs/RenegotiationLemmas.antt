-- What stays the same of streams whose formats change.
use Rattle.std.proofs.Common.{◌≡◌, inl, inr, ℕ, suc, List, [], ◌∷◌, length, ap, refl, ◌∙◌, arith}
use Rattle.codec_payload_session_stream.specs.Renegotiation.{StaysOrEnds, StayOrEnd}
use Rattle.codec_payload_session.specs.Renegotiation.{with_formats}
use Rattle.std.specs.Global.{Vec}
use Rattle.codec_payload_session.specs.Arrivals.{Port}
use Rattle.codec_payload_session.specs.Ports.{IsPort, taken_in}
use Rattle.codec_payload_session_stream.specs.Waking.{ssrcs_of}
use Rattle.codec_payload_session_formats.specs.declared.formats.Format.{Format}
use Rattle.codec_payload_session_formats.specs.declared.formats.SessionSettings.{SessionSettings}
use Rattle.codec_payload_session.specs.declared.session.ArrivalCounts.{ArrivalCounts}
use Rattle.codec_payload_session_stream.specs.declared.stream.StreamState.{StreamState}

-- ---- what stays the same

same_taken : (fs : List Format) (at : ℕ) (s t : StreamState) → StaysOrEnds fs at s t → t.taken ≡ s.taken
same_taken fs at s t (inl h) = ap (λ (x : StreamState). x.taken) h.1
same_taken fs at s t (inr h) = ap (λ (x : StreamState). x.taken) h.1

same_ssrc : (fs : List Format) (at : ℕ) (s t : StreamState) → StaysOrEnds fs at s t → t.ssrc ≡ s.ssrc
same_ssrc fs at s t (inl h) = ap (λ (x : StreamState). x.ssrc) h.1
same_ssrc fs at s t (inr h) = ap (λ (x : StreamState). x.ssrc) h.1

taken_stays : (fs : List Format) (at : ℕ) (ss ts : List StreamState) → StayOrEnd fs at ss ts → taken_in ts ≡ taken_in ss
taken_stays fs at [] [] h = refl
taken_stays fs at (s ∷ ss) (t ∷ ts) h = omega (arith, same_taken fs at s t h.0, taken_stays fs at ss ts h.1)
taken_stays fs at [] (t ∷ ts) h = absurd h
taken_stays fs at (s ∷ ss) [] h = absurd h

pub length_stays : (fs : List Format) (at : ℕ) (ss ts : List StreamState) → StayOrEnd fs at ss ts → length ts ≡ length ss
length_stays fs at [] [] h = refl
length_stays fs at (s ∷ ss) (t ∷ ts) h = ap suc (length_stays fs at ss ts h.1)
length_stays fs at [] (t ∷ ts) h = absurd h
length_stays fs at (s ∷ ss) [] h = absurd h

-- the SSRCs of the streams
pub ssrcs_stay : (fs : List Format) (at : ℕ) (ss ts : List StreamState) → StayOrEnd fs at ss ts → ssrcs_of ts ≡ ssrcs_of ss
ssrcs_stay fs at [] [] h = refl
ssrcs_stay fs at (s ∷ ss) (t ∷ ts) h = ap (λ (n : ℕ). n ∷ ssrcs_of ts) (same_ssrc fs at s t h.0) ∙ ap (λ (l : List ℕ). s.ssrc ∷ l) (ssrcs_stay fs at ss ts h.1)
ssrcs_stay fs at [] (t ∷ ts) h = absurd h
ssrcs_stay fs at (s ∷ ss) [] h = absurd h

-- the port of a session, with these formats
pub formats_keep : (settings : SessionSettings) (formats : Vec Format) (c : ArrivalCounts) (at : ℕ) (p : Port) (ts : List StreamState) → StayOrEnd formats.items at p.streams ts → IsPort settings p c
    → IsPort (with_formats formats settings) (record p { streams = ts }) c
formats_keep settings formats c at p ts each kept = record {
  accounted = omega (arith, kept.accounted, taken_stays formats.items at p.streams ts each);
  bounded = omega (arith, kept.bounded, length_stays formats.items at p.streams ts each);
}
