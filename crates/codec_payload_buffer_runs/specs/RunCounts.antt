-- The numbers of entries, results and packets of a run, for any codec.
use Rattle.std.specs.Prelude.{◌≡◌, ℕ, ◌+◌, List, [], ◌∷◌, ◌++◌, Option, Some, None, length, slice_get, nat_lt, if◌then◌else◌, refl}
use Rattle.codec_payload_payloader.specs.Packets.{Packet}
use Rattle.codec_payload_buffer_runs.specs.Schedule.{Answer, RunState}
use Rattle.codec_payload_payloader.specs.Sending.{Sample}
use Rattle.codec_payload_buffer_runs.specs.declared.run.Sent.{Sent}
use Rattle.codec_payload_buffer_runs.specs.declared.run.Step.{Step}
use Rattle.codec_payload_buffer_runs.specs.declared.run.Step.TheVariants as steps

-- 1 if there is a sample
abbrev pub one_of : Option Sample → ℕ
one_of None = 0
one_of (Some sample) = 1

-- how many of the steps are a `Send` that names a sample
abbrev pub sends_in : List Sample → List Step → ℕ
sends_in samples [] = 0
sends_in samples (steps.Send i mtu ∷ later) = one_of (slice_get samples i) + sends_in samples later
sends_in samples (step ∷ later) = sends_in samples later

-- how many of the steps are a `Pop`
abbrev pub pops_in : List Step → ℕ
pops_in [] = 0
pops_in (steps.Pop ∷ later) = 1 + pops_in later
pops_in (step ∷ later) = pops_in later

-- how many packets the entries count
abbrev pub packets_counted : List Sent → ℕ
packets_counted [] = 0
packets_counted (entry ∷ sends) = entry.count + packets_counted sends

-- the number of packets sent before step `place`, by the entries
abbrev pub sent_before : ℕ → List Sent → ℕ
sent_before place [] = 0
sent_before place (entry ∷ sends) = (if nat_lt entry.step place then entry.count else 0) + sent_before place sends

-- one entry for each `Send` that names a sample and one result for each `Pop`; and the sink gained the packets that the entries
-- count, after its old ones
pub record IsCounted (samples : List Sample) (all_steps : List Step) (s : RunState) (sends : List Sent) (pops : List Answer) (t : RunState) : Type 0 where
  pub entries : length sends ≡ sends_in samples all_steps
  pub answers : length pops ≡ pops_in all_steps
  pub gained : List Packet
  pub sink : t.sink.packets ≡ s.sink.packets ++ gained
  pub packets : length gained ≡ packets_counted sends

-- the first and the last of these steps name nothing
pub sends_in-none : sends_in [] (steps.Send 0 9 ∷ steps.Push 0 ∷ steps.Pop ∷ steps.Send 7 9 ∷ []) ≡ 0
sends_in-none = refl

pub pops_in-one : pops_in (steps.Send 0 9 ∷ steps.Push 0 ∷ steps.Pop ∷ steps.Send 7 9 ∷ []) ≡ 1
pops_in-one = refl

-- an entry of the first step counts at each later one
pub sent_before-first : sent_before 1 (record { step = 0; first = 0; count = 3; fault = None } ∷ record { step = 4; first = 3; count = 2; fault = None } ∷ []) ≡ 3
sent_before-first = refl

pub sent_before-both : sent_before 5 (record { step = 0; first = 0; count = 3; fault = None } ∷ record { step = 4; first = 3; count = 2; fault = None } ∷ []) ≡ 5
sent_before-both = refl
