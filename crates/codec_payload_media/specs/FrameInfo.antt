-- The facts in a frame of any format.
use Rattle.std.specs.Prelude.{ℕ, ◌*◌, List, length, Some, None, is_some, option_map, Result, Ok}
use Rattle.codec_payload_base.specs.declared.wire.Codec.{Codec}
use Rattle.codec_payload_base.specs.declared.wire.Codec.TheVariants as codecs
use Rattle.codec_payload_media.specs.declared.av1.sequence_header.Av1SequenceHeader.{Av1SequenceHeader}
use Rattle.codec_payload_media.specs.declared.av1.temporal_unit.Av1TemporalUnit.{Av1TemporalUnit}
use Rattle.codec_payload_vpx.specs.declared.error.MediaError.{MediaError}
use Rattle.codec_payload_media.specs.declared.frame_info.FrameInfo.{FrameInfo}
use Rattle.codec_payload_media.specs.declared.frame_info.PictureSize.{PictureSize}
use Rattle.codec_payload_media.specs.declared.opus.OpusPacket.{OpusPacket}
use Rattle.codec_payload_vpx.specs.declared.vp8.Vp8FrameHeader.{Vp8FrameHeader}
use Rattle.codec_payload_vpx.specs.declared.vp8.Vp8Keyframe.{Vp8Keyframe}
use Rattle.codec_payload_vpx.specs.declared.vp9.Vp9FrameHeader.{Vp9FrameHeader}
use Rattle.codec_payload_vpx.specs.declared.vp9.Vp9Picture.{Vp9Picture}
use Rattle.codec_payload_base.specs.Bits.{bits_of}
use Rattle.codec_payload_vpx.specs.Reading.{told}
use Rattle.codec_payload_vpx.specs.Syntax.{value_of}
use Rattle.codec_payload_vpx.specs.Vp9Frames.{frame_header}
use Rattle.codec_payload_media.specs.AmrWbFrames.{unit_ticks}
use Rattle.codec_payload_media.specs.Av1TemporalUnits.{is_shown_keyframe, unit_at}
use Rattle.codec_payload_media.specs.OpusPackets.{opus_at}
use Rattle.codec_payload_vpx.specs.Vp8Frames.{vp8_frame_at}

-- no facts
abbrev pub nothing : FrameInfo
nothing = record { keyframe = None; size = None; duration = None }

abbrev pub lasts : ℕ → FrameInfo
lasts ticks = record { keyframe = None; size = None; duration = Some ticks }

abbrev pub size_of : Vp8Keyframe → PictureSize
size_of k = record { width = k.width; height = k.height }

abbrev pub vp8_info : Vp8FrameHeader → FrameInfo
vp8_info h = record { keyframe = Some (is_some h.keyframe); size = option_map size_of h.keyframe; duration = None }

abbrev pub picture_size : Vp9Picture → PictureSize
picture_size p = record { width = p.width; height = p.height }

abbrev pub vp9_info : Vp9FrameHeader → FrameInfo
vp9_info h = record { keyframe = Some h.keyframe; size = option_map picture_size h.picture; duration = None }

-- the largest size of a frame
abbrev pub largest_size_of : Av1SequenceHeader → PictureSize
largest_size_of h = record { width = h.max_width; height = h.max_height }

abbrev pub av1_info : Av1TemporalUnit → FrameInfo
av1_info u = record { keyframe = option_map is_shown_keyframe u.frame; size = option_map largest_size_of u.sequence_header; duration = None }

abbrev pub opus_info : OpusPacket → FrameInfo
opus_info p = lasts (p.frames * p.frame_ticks)

-- the facts in a frame of the codec, or why it is malformed; G.711 and G.722 have a tick for each byte
abbrev pub info_of : Codec → List ℕ → Result FrameInfo MediaError
info_of codecs.Vp8 bytes = told vp8_info (vp8_frame_at bytes)
info_of codecs.Vp9 bytes = told vp9_info (value_of frame_header (bits_of bytes))
info_of codecs.Av1 bytes = told av1_info (unit_at bytes)
info_of codecs.Opus bytes = told opus_info (opus_at bytes)
info_of codecs.AmrWb bytes = told lasts (unit_ticks bytes)
info_of codecs.PCMU bytes = Ok (lasts (length bytes))
info_of codecs.PCMA bytes = Ok (lasts (length bytes))
info_of codecs.G722 bytes = Ok (lasts (length bytes))
info_of codec bytes = Ok nothing
