-- Pairs of SSRCs, and the retransmissions that streams take by them.
use Rattle.std.specs.Prelude.{ℕ, ◌==◌, ◌&&◌, not, Bool, true, false, List, [], ◌∷◌, ◌++◌, filter, map}
use Rattle.codec_payload_session_formats.specs.Formats.{retransmission_for}
use Rattle.codec_payload_session_formats.specs.declared.formats.SsrcPair.{SsrcPair}
use Rattle.codec_payload_session_stream.specs.declared.stream.StreamState.{StreamState}

-- ---- lists of pairs

-- the other pair is of another stream, and of other retransmissions
abbrev pub is_apart : SsrcPair → SsrcPair → Bool
is_apart pair other = not (other.ssrc == pair.ssrc) && not (other.retransmission == pair.retransmission)

-- a later pair replaces the pairs with the same stream, and the pairs with the same retransmissions
abbrev pub with_pair : SsrcPair → List SsrcPair → List SsrcPair
with_pair pair pairs = filter (is_apart pair) pairs ++ pair ∷ []

-- the pairs of other streams
abbrev pub without_pair : ℕ → List SsrcPair → List SsrcPair
without_pair ssrc pairs = filter (λ (pair : SsrcPair). not (pair.ssrc == ssrc)) pairs

-- ---- streams

-- the stream takes the retransmissions that its SSRC has by these pairs
abbrev pub paired : List SsrcPair → StreamState → StreamState
paired pairs s = record s {
  receiver = record s.receiver { stream = record s.receiver.stream { retransmission = retransmission_for s.ssrc s.format.retransmission pairs } };
}

abbrev pub paired_when : Bool → List SsrcPair → StreamState → StreamState
paired_when true pairs s = paired pairs s
paired_when false pairs s = s

-- a stream of another SSRC does not change
abbrev pub paired_if : ℕ → List SsrcPair → StreamState → StreamState
paired_if ssrc pairs s = paired_when (s.ssrc == ssrc) pairs s

abbrev pub paired_where : ℕ → List SsrcPair → List StreamState → List StreamState
paired_where ssrc pairs ss = map (paired_if ssrc pairs) ss
