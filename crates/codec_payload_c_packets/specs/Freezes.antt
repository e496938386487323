-- The calls on a counter of freezes.
use Rattle.std.specs.Prelude.{◌≡◌, ℕ, List, [], ◌∷◌}
use Rattle.codec_payload_feedback_freezes.specs.Freezes.{Watched, after_frame, watched}
use Rattle.codec_payload_feedback_freezes.specs.declared.freezes.FreezeCounts.{FreezeCounts}
use Rattle.codec_payload_handle.specs.declared.object.Object.{Object}
use Rattle.codec_payload_handle.specs.declared.object.Object.TheVariants as objects
use Rattle.codec_payload_c_packets.specs.declared.freezes.FreezeCountsInfo.{FreezeCountsInfo}

-- no frame was shown
abbrev pub IsFreezesOf : ℕ → Object → Type 0
IsFreezesOf tick_rate (objects.Freezes r) = r.value ≡ watched tick_rate []
IsFreezesOf tick_rate _ = ⊥

-- a frame is shown at this time: after frames at any times, the state is what the rule says of all of them, the latest first
pub record NotesFrame (time : ℕ) (r : Watched) (status : ℕ) (s : Watched) : Type 0 where
  pub answers : status ≡ 0
  pub state : s ≡ after_frame time r
  pub follows : (rate : ℕ) (times : List ℕ) → r ≡ watched rate times → s ≡ watched rate (time ∷ times)

abbrev pub freezes_told : FreezeCounts → FreezeCountsInfo
freezes_told c = record { freezes = c.freezes; frozen = c.frozen }

-- the counts; nothing changes
abbrev pub TellsFreezes : Watched → ℕ → FreezeCountsInfo → Watched → Type 0
TellsFreezes r status counts s = (status ≡ 0) × (counts ≡ freezes_told r.counts) × (s ≡ r)
