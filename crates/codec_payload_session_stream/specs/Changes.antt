-- A sender that continues in another format: its earlier stream leaves.
use Rattle.std.specs.Prelude.{ℕ, ◌-◌, ◌==◌, ◌&&◌, ◌||◌, not, nat_le, Bool, true, false, List, [], ◌∷◌, map}
use Rattle.std.specs.List.{position}
use Rattle.std.specs.Option.{is_some}
use Rattle.codec_payload_base.specs.declared.wire.Codec.{Codec}
use Rattle.codec_payload_base.specs.declared.wire.Codec.TheVariants as codecs
use Rattle.codec_payload_session_formats.specs.Formats.{is_video}
use Rattle.codec_payload_session_stream.specs.Streams.{is_of, left_when}
use Rattle.codec_payload_session_formats.specs.declared.formats.Format.{Format}
use Rattle.codec_payload_session_stream.specs.declared.stream.Ending.TheVariants as endings
use Rattle.codec_payload_session_stream.specs.declared.stream.Stage.{Stage}
use Rattle.codec_payload_session_stream.specs.declared.stream.Stage.TheVariants as stages
use Rattle.codec_payload_session_stream.specs.declared.stream.StreamState.{StreamState}

-- telephone events and comfort noise are sent in turn with audio, which goes on
abbrev pub takes_turns : Codec → Bool
takes_turns codecs.CN = true
takes_turns codecs.Tele = true
takes_turns codecs.Opus = false
takes_turns codecs.PCMU = false
takes_turns codecs.PCMA = false
takes_turns codecs.G722 = false
takes_turns codecs.AmrWb = false
takes_turns codecs.Vp8 = false
takes_turns codecs.Vp9 = false
takes_turns codecs.Av1 = false
takes_turns codecs.H264 = false
takes_turns codecs.H265 = false
takes_turns codecs.H266 = false
takes_turns codecs.Null = false
takes_turns codecs.Rtx = false
takes_turns codecs.Red = false
takes_turns codecs.Unknown = false

-- both codecs are of audio, or both of video
abbrev pub are_alike : Bool → Bool → Bool
are_alike true other = other
are_alike false other = not other

-- the stream is announced, and does not end
abbrev pub is_playing : Stage → Bool
is_playing stages.Probation = false
is_playing stages.Playing = true
is_playing (stages.Leaving why at) = false
is_playing (stages.Draining why) = false

abbrev pub plays : ℕ → ℕ → StreamState → Bool
plays ssrc payload_type s = is_of ssrc payload_type s && is_playing s.stage

-- the sender goes on in this format: its stream is announced
abbrev pub continues : ℕ → Format → List StreamState → Bool
continues ssrc f ss = not (takes_turns f.spec.codec) && is_some (position (plays ssrc f.payload_type) ss)

-- the stream is of the same SSRC and kind and of another format, and took no datagram for `wait` ticks
abbrev pub is_left_behind : ℕ → ℕ → ℕ → Format → StreamState → Bool
is_left_behind now wait ssrc f s =
    (s.ssrc == ssrc) && not (s.format.payload_type == f.payload_type) && not (takes_turns s.format.spec.codec)
    && are_alike (is_video s.format.spec.codec) (is_video f.spec.codec) && is_playing s.stage && nat_le wait (now - s.last)

-- the sender left one of the streams for this format
abbrev pub any_left_behind : ℕ → ℕ → ℕ → Format → List StreamState → Bool
any_left_behind now wait ssrc f [] = false
any_left_behind now wait ssrc f (s ∷ ss) = is_left_behind now wait ssrc f s || any_left_behind now wait ssrc f ss

abbrev pub left_behind : ℕ → ℕ → ℕ → Format → StreamState → StreamState
left_behind now wait ssrc f s = left_when (is_left_behind now wait ssrc f s) endings.Changed now s

abbrev pub continued : Bool → ℕ → ℕ → ℕ → Format → List StreamState → List StreamState
continued true now wait ssrc f ss = map (left_behind now wait ssrc f) ss
continued false now wait ssrc f ss = ss
