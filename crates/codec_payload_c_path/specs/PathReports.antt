-- The path to a viewer: which packets a feedback reports lost, packets that are taken back, and what the path knows.
use Rattle.std.specs.Prelude.{◌≡◌, ◌⊎◌, ℕ, if◌then◌else◌, List, Option, Some, None, Result, Ok, Err}
use Rattle.std.specs.Option.{is_some}
use Rattle.codec_payload_bandwidth_estimate.specs.declared.rate.Trial.{Trial}
use Rattle.codec_payload_bandwidth_path.specs.Departures.{is_latest, lost_of, taken_back}
use Rattle.codec_payload_bandwidth_path.specs.Paths.{Path, statistics_of}
use Rattle.codec_payload_bandwidth_path.specs.declared.path.PathStatistics.{PathStatistics}
use Rattle.codec_payload_feedback_congestion.specs.Feedback.{Reported, feedback_at}
use Rattle.codec_payload_feedback_congestion.specs.declared.transport.TransportFault.{TransportFault}
use Rattle.codec_payload_c_path.specs.Paths.{fault_status}
use Rattle.codec_payload_c_path.specs.Writing.{IsUnwritten, PutsPacket, Writing}
use Rattle.codec_payload_c_path.specs.declared.path_report.PathEstimateInfo.{PathEstimateInfo}

-- ---- what the path knows

abbrev pub trial_rate_of : Option Trial → ℕ
trial_rate_of None = 0
trial_rate_of (Some trial) = trial.to

abbrev pub estimate_told : PathStatistics → PathEstimateInfo
estimate_told s = record {
  estimate = s.estimate;
  carries = s.carries;
  standing = s.standing;
  usual_losses = s.usual_losses;
  trial_rate = trial_rate_of s.trial;
  has_trial = is_some s.trial;
  is_draining = s.is_draining;
}

-- nothing changes
abbrev pub TellsEstimate : Path → ℕ → PathEstimateInfo → Path → Type 0
TellsEstimate r status info s = (status ≡ 0) × (info ≡ estimate_told (statistics_of r)) × (s ≡ r)

-- ---- a packet that is taken back

-- Status 0: the next packet gets its number. Status 32: it is not the latest packet, or feedback counted of it, and nothing changes
abbrev pub TakesBack : (number : ℕ) → Path → ℕ → Path → Type 0
TakesBack number r status s =
    (status ≡ (if is_latest number r.departures then 0 else 32)) × (s ≡ record r { departures = taken_back number r.departures })

-- ---- packets that are lost

-- the numbers of the packets, or the status of the first fault
abbrev pub FindsReported : Result Reported TransportFault → Path → Result (List ℕ) ℕ → Type 0
FindsReported (Ok f) r (Ok lost) = lost ≡ lost_of f.base f.statuses r.departures
FindsReported (Ok f) r (Err status) = status ≡ 17
FindsReported (Err fault) r (Ok lost) = ⊥
FindsReported (Err fault) r (Err status) = (status ≡ fault_status fault) ⊎ (status ≡ 17)

abbrev pub FindsLost : List ℕ → Path → Result (List ℕ) ℕ → Type 0
FindsLost control r result = FindsReported (feedback_at control) r result

-- Status 0: the numbers are written. Status 33: the output buffer is too small, and their count alone is written. Otherwise the status of
-- the first fault, and nothing is written
abbrev pub NamesReported : Result Reported TransportFault → Path → ℕ → Writing → Type 0
NamesReported (Ok f) r status w = PutsPacket (lost_of f.base f.statuses r.departures) status w
NamesReported (Err fault) r status w = (status ≡ fault_status fault) × IsUnwritten w

-- Status 17: memory ran out, and nothing is written
abbrev pub NamesLost : List ℕ → Path → ℕ → Writing → Type 0
NamesLost control r status w = NamesReported (feedback_at control) r status w ⊎ ((status ≡ 17) × IsUnwritten w)
