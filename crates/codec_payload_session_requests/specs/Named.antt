-- Receivers whose settings name the SSRC, and the edges of their pictures.
use Rattle.std.specs.Prelude.{◌≡◌, ⊤, ℕ, false, List, Option, Some, None, Result, Ok, Err}
use Rattle.std.specs.declared.alloc.AllocError.{AllocError}
use Rattle.codec_payload_jitter.specs.declared.outcome.Outcome.{Outcome}
use Rattle.codec_payload_metadata.specs.Release.{Release}
use Rattle.codec_payload_receiver.specs.declared.pops.Popped.{Popped}
use Rattle.codec_payload_receiver.specs.declared.pops.Popped.TheVariants as popped
use Rattle.codec_payload_receiver.specs.Sessions.{Session as Receiver, is_none_of}
use Rattle.codec_payload_receiver.specs.declared.receiver.ReceiveError.{ReceiveError}
use Rattle.codec_payload_session_formats.specs.declared.formats.Format.{Format}
use Rattle.codec_payload_stream_edges.specs.Brought.{rules_with}
use Rattle.codec_payload_stream_edges.specs.Following.{Follows}
use Rattle.codec_payload_stream_edges.specs.declared.followed.Followed.{Followed}
use Rattle.codec_payload_stream_edges.specs.declared.rules.EdgeRules.{EdgeRules}

-- the SSRC is named, so it is known
pub record IsNamed (r : Receiver) : Type 0 where
  pub named : is_none_of r.named ≡ false
  pub known : is_none_of r.ssrc ≡ false

abbrev pub result_with : Result (Popped ⊤) AllocError → Release → Result (Popped Release) AllocError
result_with (Ok (popped.Unit done)) unit = Ok (popped.Unit unit)
result_with (Ok (popped.TooLarge done)) unit = Ok (popped.TooLarge unit)
result_with (Ok (popped.Refused fault)) unit = Ok (popped.Refused fault)
result_with (Err e) unit = Err e

abbrev pub popped_with : Option (Result (Popped ⊤) AllocError) → Release → Option (Result (Popped Release) AllocError)
popped_with None unit = None
popped_with (Some result) unit = Some (result_with result unit)

-- ---- the edges of its pictures

-- how packets of a stream of this format say where pictures begin and end
abbrev pub rules_for : Format → (descriptor : Option ℕ) → EdgeRules
rules_for f descriptor = rules_with f.spec.codec descriptor f.payload_type f.red f.retransmission

-- the edges follow a datagram that the receiver answered so; the receiver changes in nothing but the numbers that carry no media
pub record FollowsEdges (k : EdgeRules) (bytes : List ℕ) (received : Result Outcome ReceiveError) (f : Option Followed) (r : Receiver) (g : Option Followed) (t : Receiver) : Type 0 where
  pub told : Result Unit AllocError
  pub follows : Follows k bytes received f r told g t
  pub beside : t ≡ record r { packets = record r.packets { no_media_numbers = t.packets.no_media_numbers } }
