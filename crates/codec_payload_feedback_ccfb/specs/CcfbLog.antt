-- What a log of the sequence numbers of a stream reports.
use Rattle.std.specs.Prelude.{ℕ, ◌+◌, ◌-◌, ◌*◌, ◌/◌, ◌%◌, nat_le, nat_lt, min, if◌then◌else◌, List, [], ◌∷◌, length, take, Option, Some, None}
use Rattle.codec_payload_feedback_congestion.specs.Arrivals.{Log, first_unreported, unreported}
use Rattle.codec_payload_feedback_ccfb.specs.Ccfb.{Report}
use Rattle.codec_payload_feedback_ccfb.specs.declared.feedback.PacketMetric.{PacketMetric}

-- how long before the report a packet arrived, in quarters of a millisecond, modulo 2^32
abbrev pub age_of : ℕ → ℕ → ℕ
age_of now time = (now + 4294967296 - time) % 4294967296

-- 1,024 units are 4,000 quarters of a millisecond: 0x1FFF after the report, 0x1FFE above 8,189 units
abbrev pub offset_for : ℕ → ℕ → ℕ
offset_for now time =
    if nat_le 2147483648 (age_of now time) then 8191
    else if nat_lt 8189 (age_of now time * 32 / 125) then 8190
    else age_of now time * 32 / 125

abbrev pub metric_for : ℕ → Option ℕ → Option PacketMetric
metric_for now None = None
metric_for now (Some time) = Some (record { ecn = 0; offset = offset_for now time })

abbrev pub metrics_for : ℕ → List (Option ℕ) → List (Option PacketMetric)
metrics_for now [] = []
metrics_for now (time ∷ times) = metric_for now time ∷ metrics_for now times

-- each number from the first one that was not reported on, up to `most` of them
abbrev pub report_from : (ssrc now most : ℕ) → Log → Report
report_from ssrc now most l = record { ssrc = ssrc; first = first_unreported l; metrics = metrics_for now (take (min (min (length (unreported l)) most) 16384) (unreported l)) }
