-- A run of a stream: samples sent by a fresh payloader of a specification, and received by a fresh buffer of the same.
use Rattle.std.specs.Prelude.{◌≡◌, List, [], Some, option_map, map}
use Rattle.codec_payload_base.specs.declared.wire.ToPayload.{ToPayload}
use Rattle.codec_payload_codec.specs.Depacketizers.{DepacketizerState, depacketizer_state_for, configured_depacketizer}
use Rattle.codec_payload_codec.specs.Packetizers.{PacketizerState, packetizer_state_for, configured}
use Rattle.codec_payload_buffer_runs.specs.RunPromises.{KeepsPromisesIf, ran}
use Rattle.codec_payload_buffer_runs.specs.Schedule.{RunState, run_state}
use Rattle.codec_payload_payloader.specs.Sending.{sample_of}
use Rattle.codec_payload_buffer_runs.specs.SentStream.{AreReadable}
use Rattle.codec_payload_buffer.specs.Steps.{empty_buffer}
use Rattle.codec_payload_buffer_runs.specs.declared.run.Run.{Run}
use Rattle.codec_payload_buffer_runs.specs.declared.run.Step.{Step}
use Rattle.codec_payload_buffer_runs.specs.declared.run.Stream.{Stream}

-- the payloader, the buffer and the sink of a stream before anything is sent
abbrev pub fresh : Stream → PacketizerState → DepacketizerState → RunState
fresh stream packetizer depacketizer = run_state
    (record { packetizer = packetizer; clock_rate = stream.spec.clock_rate })
    (empty_buffer stream.hold_back stream.limit depacketizer)
    (record { first = stream.first_number; packets = [] })

-- packetizer and depacketizer belong to the codec, both configured by the specification; and every guarantee of a run is kept if
-- the samples can be read back, the only remaining premise
pub record RunsStream (stream : Stream) (samples : List ToPayload) (steps : List Step) (run : Run) : Type 0 where
  pub packetizer : PacketizerState
  pub sender : option_map (configured stream.spec.octet_align) (packetizer_state_for stream.mode stream.first_id stream.spec.codec) ≡ Some packetizer
  pub depacketizer : DepacketizerState
  pub receiver : option_map (configured_depacketizer stream.spec.octet_align stream.spec.clock_rate) (depacketizer_state_for stream.spec.codec) ≡ Some depacketizer
  pub after : RunState
  pub promises : KeepsPromisesIf (AreReadable packetizer (map sample_of samples)) (ran samples steps (fresh stream packetizer depacketizer) run after)
