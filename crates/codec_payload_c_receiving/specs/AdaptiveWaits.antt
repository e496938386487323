-- The calls on a limit of waiting that follows how late missing packets arrive.
use Rattle.std.specs.Prelude.{◌≡◌, ℕ, List, [], ◌∷◌}
use Rattle.codec_payload_feedback_wait.specs.Waits.{Wait, after_arrival, after_missing, limit_of, new_wait}
use Rattle.codec_payload_feedback_wait.specs.declared.adaptive_wait.AdaptiveWaitSettings.{AdaptiveWaitSettings as Settings}
use Rattle.codec_payload_handle.specs.declared.object.Object.{Object}
use Rattle.codec_payload_handle.specs.declared.object.Object.TheVariants as objects
use Rattle.codec_payload_c_receiving.specs.declared.adaptive_wait.AdaptiveWaitSettings.{AdaptiveWaitSettings}

-- the settings, from C
abbrev pub settings_given : AdaptiveWaitSettings → Settings
settings_given s = record { shortest = s.shortest; longest = s.longest; first = s.first; lost_after = s.lost_after }

-- the limit of a new stream with these settings
abbrev pub IsAdaptiveWaitOf : AdaptiveWaitSettings → Object → Type 0
IsAdaptiveWaitOf s (objects.AdaptiveWait r) = r.value ≡ new_wait (settings_given s)
IsAdaptiveWaitOf s _ = ⊥

-- a packet with these 16 bits of its number arrived
abbrev pub NotesArrival : (now number : ℕ) → Wait → ℕ → Wait → Type 0
NotesArrival now number r status s = (status ≡ 0) × (s ≡ after_arrival now number r)

-- the packets with these numbers are missing, one after another
abbrev pub after_all_missing : ℕ → List ℕ → Wait → Wait
after_all_missing now [] r = r
after_all_missing now (number ∷ numbers) r = after_all_missing now numbers (after_missing now number r)

abbrev pub NotesMissing : ℕ → List ℕ → Wait → ℕ → Wait → Type 0
NotesMissing now numbers r status s = (status ≡ 0) × (s ≡ after_all_missing now numbers r)

-- the limit in ticks; nothing changes
abbrev pub TellsLimit : Wait → ℕ → ℕ → Wait → Type 0
TellsLimit r status limit s = (status ≡ 0) × (limit ≡ limit_of r) × (s ≡ r)
