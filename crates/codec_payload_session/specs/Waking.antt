-- The times of the streams of a port, and a step of the port.
use Rattle.std.specs.Prelude.{◌≡◌, ◌≢◌, ◌<◌, ℕ, List, Option, Some, length, slice_index_or}
use Rattle.std.specs.List.{position}
use Rattle.codec_payload_base.specs.declared.wire.Ticks.{Ticks}
use Rattle.codec_payload_session.specs.Arrivals.{Port}
use Rattle.codec_payload_session_stream.specs.Streams.{StreamState, is_of}
use Rattle.codec_payload_session_stream.specs.Turns.{StepsFirst}
use Rattle.codec_payload_session_stream.specs.Units.{Turn}
use Rattle.codec_payload_session_stream.specs.declared.waking.Waking.{Waking}
use Rattle.codec_payload_session_stream.specs.Waking.{IsBound, ssrcs_of}

-- the times are those of the streams, and the list has their SSRCs
pub record IsIndexed (w : Waking) (ssrcs : List ℕ) (ss : List StreamState) : Type 0 where
  pub bound : IsBound w ss
  pub listed : ssrcs ≡ ssrcs_of ss

-- the stream at a place has the SSRC and the payload type, and no other stream has the SSRC
pub record IsOnlyOf (ssrc payload_type place : ℕ) (ss : List StreamState) : Type 0 where
  pub within : place < length ss
  pub found : Some place ≡ position (is_of ssrc payload_type) ss
  pub type_is : (d : StreamState) → (slice_index_or ss place d).format.payload_type ≡ payload_type
  pub others : (i : ℕ) (d : StreamState) → i < length ss → i ≢ place → (slice_index_or ss i d).ssrc ≢ ssrc

-- the first stream with an event makes its step, and only streams change
pub record StepsPort (now : Ticks) (idle : ℕ) (p : Port) (turn : Option Turn) (q : Port) : Type 0 where
  pub streams : List StreamState
  pub first : StepsFirst now idle p.streams turn streams
  pub left : q ≡ record p { streams = streams }
