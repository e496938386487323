-- A run with an announced restart that meets the premises: two frames of Opus, whose datagrams are swapped, and then a frame of
-- another sender, with another SSRC and other numbers.
use Rattle.std.specs.Global.{Vec}
use Rattle.std.specs.Prelude.{◌≡◌, ℕ, List, [], ◌∷◌, Some, None, length}
use Rattle.codec_payload_sending.specs.Senders.{Sending}
use Rattle.codec_payload_datagram_runs.specs.Releases.{AllComeFirst}
use Rattle.codec_payload_datagram_runs.specs.RestartReleases.{AreWithinWindows, received_in}
use Rattle.codec_payload_datagram_runs.specs.WireRunExample.{at, frames_sent, one_sent, opus_receiver, opus_sender}
use Rattle.codec_payload_datagram_runs.specs.declared.restart_run.Part.{Part}
use Rattle.codec_payload_datagram_runs.specs.declared.run.DatagramRun.{DatagramRun}
use Rattle.codec_payload_datagram_runs.specs.declared.run.DatagramStep.{DatagramStep}
use Rattle.codec_payload_datagram_runs.specs.declared.run.DatagramStep.TheVariants as steps
use Rattle.codec_payload_datagram_runs.specs.declared.run.SentSample.{SentSample}

-- its SSRC is 9, and the number of its packet 30,000; the numbers of the first sender are 65,535 and 0
abbrev pub next_sender : Sending
next_sender = record opus_sender { stream = record opus_sender.stream { ssrc = 9; number = 30000 } }

abbrev pub first_steps : List DatagramStep
first_steps = steps.Send 0 ∷ steps.Send 1 ∷ steps.Deliver 1 (at 25) ∷ steps.Deliver 0 (at 27) ∷ steps.Finish ∷ steps.Pop (at 30) ∷ steps.Pop (at 30) ∷ []

abbrev pub next_steps : List DatagramStep
next_steps = steps.Send 2 ∷ steps.Deliver 0 (at 60) ∷ steps.Finish ∷ steps.Pop (at 61) ∷ []

abbrev pub two_sent : List SentSample
two_sent = record { count = 1; fault = None } ∷ record { count = 1; fault = None } ∷ []

-- the parts, and what their sends return
pub record AreExampleParts (one two : Part) : Type 0 where
  pub first : one.steps.items ≡ first_steps
  pub ssrc : two.ssrc ≡ Some 9
  pub second : two.steps.items ≡ next_steps

pub record AreExampleRuns (one two : DatagramRun) : Type 0 where
  pub first : one.sends.items ≡ two_sent
  pub second : two.sends.items ≡ one_sent
  pub first_count : length one.datagrams.items ≡ 2
  pub second_count : length two.datagrams.items ≡ 1

-- the premises of a run with a restart can be met, and those of the promise that all units of a part are popped
pub record RestartCanBeMet : Type 0 where
  pub within : (no_media : Vec ℕ) (p q : Part) (one two : DatagramRun) → AreExampleParts p q → AreExampleRuns one two
      → AreWithinWindows frames_sent (p ∷ q ∷ []) (opus_sender ∷ next_sender ∷ []) (opus_receiver no_media) (one ∷ two ∷ [])
  pub first_comes : (p q : Part) (one two : DatagramRun) → AreExampleParts p q → AreExampleRuns one two → AllComeFirst 4096 (length one.datagrams.items) (received_in frames_sent p one)
  pub second_comes : (p q : Part) (one two : DatagramRun) → AreExampleParts p q → AreExampleRuns one two → AllComeFirst 4096 (length two.datagrams.items) (received_in frames_sent q two)
