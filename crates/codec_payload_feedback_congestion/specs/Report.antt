-- Feedback about the arrivals of a transport.
use Rattle.std.specs.Prelude.{ℕ, ◌+◌, ◌-◌, ◌*◌, ◌/◌, min, List, [], ◌∷◌, take, Option, Some, None}
use Rattle.codec_payload_feedback_congestion.specs.Arrivals.{Log, first_unreported, unreported}
use Rattle.codec_payload_feedback_congestion.specs.Feedback.{Reported, fitting}

-- how many numbers a feedback may report, so that its control information has at most so many bytes
abbrev pub most_reported : ℕ → ℕ
most_reported size = (7 * min size 65535 - 89) / 16

-- the first time, down to a multiple of 64 ms
abbrev pub reference_of : List (Option ℕ) → ℕ
reference_of [] = 0
reference_of (None ∷ ss) = reference_of ss
reference_of (Some t ∷ ss) = 256 * (t / 256)

-- how many numbers the next feedback reports: up to `most`, and up to the first whose delta does not fit
abbrev pub count_reported : ℕ → Log → ℕ
count_reported most l = fitting most (reference_of (unreported l)) (unreported l)

-- each number from the first that was not reported on, exactly once: when it arrived, or that it did not
abbrev pub report : ℕ → ℕ → Log → Reported
report most counter l = record { base = first_unreported l; reference = reference_of (unreported l); counter = counter; statuses = take (count_reported most l) (unreported l) }
