-- The packets that leave the buffer in a pop and are not released in a unit, counted by the reason.
use Rattle.std.specs.Prelude.{◌≡◌, ℕ, ◌+◌, ◌-◌, List, [], ◌∷◌, Option, Some, None, Result, Ok, Err, length}
use Rattle.std.proofs.Common.{inl, inr}
use Rattle.codec_payload_base.specs.declared.error.PacketError.{PacketError}
use Rattle.codec_payload_buffer.specs.Blanks.{released_packets}
use Rattle.codec_payload_buffer.specs.Held.{Held, between}
use Rattle.codec_payload_metadata.specs.Release.{Release}
use Rattle.codec_payload_buffer.specs.Steps.{State, Pops, TakesFrame}
use Rattle.codec_payload_buffer.specs.declared.buffer.frames.CompleteFrame.{CompleteFrame}
use Rattle.codec_payload_buffer.specs.declared.buffer.leaving.Left.{Left}

-- how many of these packets lie in one of these frames
abbrev pub packets_in : List CompleteFrame → List Held → ℕ
packets_in [] held = 0
packets_in (f ∷ fs) held = length (between f.first f.last held) + packets_in fs held

-- the frame that the depacketizer refused, if it refused one
abbrev pub refused_by : (s : State) (answer : Result Release PacketError) (t : State) → TakesFrame s answer t → List CompleteFrame
refused_by s (Ok r) t takes = []
refused_by s (Err fault) t (inl stalls) = []
refused_by s (Err fault) t (inr refuses) = refuses.frame ∷ []

-- the same for a pop
abbrev pub refused_in : (s : State) (answer : Option (Result Release PacketError)) (t : State) → Pops s answer t → List CompleteFrame
refused_in s None t pops = []
refused_in s (Some answer) t pops = refused_by pops.1.0 answer t pops.1.2

-- of the packets that were held before a pop: those of the skipped frames; those of a refused frame; and all others that are
-- neither held any more nor released, which lie in no complete frame and below one that the pop took
abbrev pub left_of : (s : State) (answer : Option (Result Release PacketError)) (t : State) → Pops s answer t → Left
left_of s answer t pops = record {
  incomplete = length s.held - (length t.held + released_packets answer + packets_in pops.0 s.held + packets_in (refused_in s answer t pops) s.held);
  skipped = packets_in pops.0 s.held;
  refused = packets_in (refused_in s answer t pops) s.held;
}

-- a pop, and what left in it without being released
abbrev pub PopsLeaving : State → Option (Result Release PacketError) → Left → State → Type 0
PopsLeaving s answer left t = (pops : Pops s answer t) × (left ≡ left_of s answer t pops)

-- each packet that was held before a pop is held, was released in a unit, or left for one of the reasons
abbrev pub IsWhole : State → Option (Result Release PacketError) → Left → State → Type 0
IsWhole s answer left t = length t.held + released_packets answer + left.incomplete + left.skipped + left.refused ≡ length s.held
