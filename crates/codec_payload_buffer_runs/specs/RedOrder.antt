-- Only the set of packets pushed before each pop matters in runs with RED: two runs that push the same packets.
use Rattle.std.specs.Prelude.{◌≡◌, false, List, map}
use Rattle.codec_payload_base.specs.Extensions.{no_values}
use Rattle.codec_payload_metadata.specs.declared.meta.RtpMeta.{RtpMeta}
use Rattle.codec_payload_buffer_runs.specs.RedPromises.{RedRan, IsRedFresh, RedLog, RunsAsRedSteps, sent_in}
use Rattle.codec_payload_buffer_runs.specs.RedSchedule.{Protection, RedState}
use Rattle.codec_payload_buffer_runs.specs.RunOrder.{PushTheSame, answer_with}
use Rattle.codec_payload_buffer_runs.specs.Schedule.{Answer}
use Rattle.codec_payload_payloader.specs.Sending.{Sample}
use Rattle.codec_payload_buffer_runs.specs.declared.run.Sent.{Sent}
use Rattle.codec_payload_buffer_runs.specs.declared.run.Step.{Step}

-- all except the receive time, and except marker and values, which are not known of a recovered packet
abbrev pub bare_block : RtpMeta → RtpMeta
bare_block m = record m { received = record { 0 = 0 }; header = record m.header { marker = false; ext_vals = no_values } }

-- two runs from the same beginning
abbrev pub ran_from : Protection → List Sample → RedState → List Step → List Sent → List Answer → RedState → RedRan
ran_from with samples before steps sends pops after = record { with = with; samples = samples; steps = steps; before = before; sends = sends; pops = pops; after = after }

-- two runs that sent the same packets, and push the same ones before each pop, either as themselves or recovered from others, get
-- the same results, except for the receive time, the marker and the values of each packet
abbrev pub OnlySetsCountInRed : Type 0
OnlySetsCountInRed = (with : Protection) (samples : List Sample) (before : RedState) (all_steps other_steps : List Step) (sends other_sends : List Sent)
    (pops other_pops : List Answer) (after other_after : RedState)
    → let r = ran_from with samples before all_steps sends pops after in
    let q = ran_from with samples before other_steps other_sends other_pops other_after in
    RunsAsRedSteps r → RunsAsRedSteps q → IsRedFresh r → IsRedFresh q → sent_in r ≡ sent_in q
    → (log : RedLog r) (other : RedLog q) → PushTheSame log.turns other.turns
    → map (answer_with bare_block) pops ≡ map (answer_with bare_block) other_pops
