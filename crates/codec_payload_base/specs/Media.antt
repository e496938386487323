-- Types of media.
use Rattle.std.specs.Prelude.{ℕ, List, Option, Some, None, codes}
use Rattle.codec_payload_base.specs.declared.wire.media.MediaKind.{MediaKind}
use Rattle.codec_payload_base.specs.declared.wire.media.MediaKind.TheVariants as kinds
use Rattle.codec_payload_base.specs.declared.wire.media.MediaType.{MediaType}
use Rattle.codec_payload_base.specs.declared.wire.media.MediaType.TheVariants as types

-- the media kind of a media type, if it is audio or video
abbrev pub kind_of : MediaType → Option MediaKind
kind_of types.Audio = Some kinds.Audio
kind_of types.Video = Some kinds.Video
kind_of types.Application = None
kind_of types.Unknown = None

-- its printed name
abbrev pub name_of : MediaKind → List ℕ
name_of kinds.Audio = codes "audio"
name_of kinds.Video = codes "video"
