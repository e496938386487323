use Rattle.std.proofs.Common.{◌≡◌, List, ◌++◌, map, drop, length}
use Rattle.codec_payload_payloader.specs.Packets.{Packet}
use Rattle.codec_payload_buffer_runs.specs.RedPromises.{protection_of}
use Rattle.codec_payload_buffer_runs.specs.RedSchedule.{RedState, red_state, RunsInRed, StopsInRed}
use Rattle.codec_payload_buffer_runs.specs.Schedule.{Answer}
use Rattle.codec_payload_payloader.specs.Sending.{sample_of}
use Rattle.codec_payload_buffer_runs.specs.declared.run.Sent.{Sent}
use Rattle.codec_payload_buffer_runs.proofs.red.run_in_red.Given as goal

-- for some packets before wrapping, any result of the remaining steps completes the result of all steps
abbrev pub invariant-loop-place : goal.invariant-loop-place
invariant-loop-place g l =
    let samples = map sample_of l.samples in
    let with = protection_of l.fn.red in
    let before = red_state l.fn.payloader l.fn.buffer l.fn.sink l.fn.sink.packets l.fn.red.sender.now in
    record {
      now : List Packet;
      long : length now ≡ length l.sink.packets;
      completes : (sends : List Sent) (pops : List Answer) (after : RedState)
          → RunsInRed with samples l.place (drop l.place l.steps) (red_state l.payloader l.buffer l.sink now l.red.sender.now) sends pops after
          → RunsInRed with samples 0 l.steps before (l.run.sends.items ++ sends) (l.run.pops.items ++ pops) after;
      limit : l.buffer.limit ≡ l.fn.buffer.limit;
      stops : (after : RedState) → StopsInRed with samples l.place (drop l.place l.steps) (red_state l.payloader l.buffer l.sink now l.red.sender.now) after
          → StopsInRed with samples 0 l.steps before after;
      loan : l.red.sender.ghost_name ≡ l.fn.red.sender.ghost_name;
      protection : protection_of l.red ≡ with;
    }
