-- A complete frame, as a part of the list of packets.
use Rattle.std.specs.Prelude.{◌≡◌, ℕ, ◌+◌, true, false, List, [], ◌∷◌, ◌++◌}
use Rattle.codec_payload_base.specs.Time.{Time}
use Rattle.codec_payload_buffer.specs.Held.{Held, number_of}
use Rattle.codec_payload_buffer.specs.declared.buffer.frames.CompleteFrame.{CompleteFrame}

-- packets with the numbers from first to last, one by one, of one time, with the last as the only tail
abbrev pub IsRun : ℕ → ℕ → Time → List Held → Type 0
IsRun first last time [] = ⊥
IsRun first last time (p ∷ []) = (number_of p ≡ first) × (number_of p ≡ last) × (p.meta.time ≡ time) × (p.tail ≡ true)
IsRun first last time (p ∷ q ∷ ps) = (number_of p ≡ first) × (p.meta.time ≡ time) × (p.tail ≡ false) × IsRun (first + 1) last time (q ∷ ps)

-- the first of them begins a unit
abbrev pub BeginsWithHead : List Held → Type 0
BeginsWithHead [] = ⊥
BeginsWithHead (p ∷ ps) = p.head ≡ true

-- the packets of a frame stand together in the list
pub record IsPart (held : List Held) (frame : CompleteFrame) (packets after : List Held) : Type 0 where
  pub before : List Held
  pub whole : held ≡ before ++ (packets ++ after)
  pub time : Time
  pub run : IsRun frame.first frame.last time packets
  pub begins : BeginsWithHead packets
