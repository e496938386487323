-- A run that meets the premises: of three frames of Opus the second is lost. The third waits for it, and is popped when its wait ends.
use Rattle.std.specs.Global.{Vec}
use Rattle.std.specs.Prelude.{◌≡◌, ℕ, ◌-◌, ◌^◌, List, [], ◌∷◌, Option, Some, None, Ok, true, false, map}
use Rattle.codec_payload_base.specs.Extensions.{no_values}
use Rattle.codec_payload_base.specs.declared.interface.CodecExtra.TheVariants as extras
use Rattle.codec_payload_base.specs.declared.wire.Ticks.{Ticks}
use Rattle.codec_payload_buffer.specs.Held.{Held}
use Rattle.codec_payload_buffer.specs.Steps.{State, arrived, empty_buffer}
use Rattle.codec_payload_codec.specs.Depacketizers.{OpusDepacketizing}
use Rattle.codec_payload_metadata.specs.Release.{Release}
use Rattle.codec_payload_metadata.specs.declared.meta.RtpMeta.{RtpMeta}
use Rattle.codec_payload_payloader.specs.Packets.{Packet}
use Rattle.codec_payload_buffer_runs.specs.Log.{Stretch, Turn, begun}
use Rattle.codec_payload_buffer_runs.specs.SentStream.{SentUnit, packets_of}
use Rattle.codec_payload_receiver.specs.Defaults.{no_ids}
use Rattle.codec_payload_datagram_runs.specs.Releases.{IsDelivery, IsWithinWindows, received_steps}
use Rattle.codec_payload_datagram_runs.specs.WireLogs.{IsLogOf}
use Rattle.codec_payload_datagram_runs.specs.WireRunExample.{at, frames_sent, one_each, opus_receiver, opus_sender}
use Rattle.codec_payload_datagram_runs.specs.declared.run.DatagramStep.{DatagramStep}
use Rattle.codec_payload_datagram_runs.specs.declared.run.DatagramStep.TheVariants as steps
use Rattle.codec_payload_timely_runs.specs.TimelyRuns.{AllDueBy, ComesBy, PopsInTimeFrom0, pop_times}

-- The second datagram is lost. Frames wait for at most 100 ms, so the third one is due 100 ms after it arrived
abbrev pub waiting_steps : List DatagramStep
waiting_steps =
    steps.Send 0 ∷ steps.Deliver 0 (at 25) ∷ steps.Pop (at 25) ∷ steps.Send 1 ∷ steps.Send 2 ∷ steps.Deliver 2 (at 65) ∷ steps.Pop (at 65) ∷ steps.Pop (at 65)
    ∷ steps.Pop (at 165) ∷ steps.Pop (at 165) ∷ []

abbrev pub received_then : List DatagramStep
received_then = received_steps frames_sent 0 waiting_steps one_each

-- The packets, and what the receiver knows of those that arrive

abbrev pub packet_at : (number ticks : ℕ) → List ℕ → Packet
packet_at number ticks payload = record { pt = 111; number = number; rtp_time = ticks; wallclock = 0; marker = false; nackable = true; ext_vals = no_values; payload = payload }

abbrev pub unit_at : (number ticks : ℕ) → List ℕ → SentUnit
unit_at number ticks payload = record { parts = payload ∷ []; packets = packet_at number ticks payload ∷ []; id = None }

abbrev pub units_then : List SentUnit
units_then = unit_at 131071 960 (1 ∷ 2 ∷ []) ∷ unit_at 131072 1920 (3 ∷ 4 ∷ []) ∷ unit_at 131073 2880 (5 ∷ []) ∷ []

abbrev pub meta_at : (number low ticks : ℕ) → Ticks → RtpMeta
meta_at number low ticks received = record {
  received = received;
  time = record { numer = ticks; rate = 48000 };
  seq_no = record { 0 = number };
  header = record { payload_type = 111; sequence_number = low; timestamp = ticks; ssrc = 7; marker = false; ext_vals = no_values };
  last_sender_info = None;
}

abbrev pub first_meta : RtpMeta
first_meta = meta_at 131071 65535 960 (at 25)

abbrev pub third_meta : RtpMeta
third_meta = meta_at 131073 1 2880 (at 65)

abbrev pub first_held : Held
first_held = arrived OpusDepacketizing first_meta (1 ∷ 2 ∷ [])

abbrev pub third_held : Held
third_held = arrived OpusDepacketizing third_meta (5 ∷ [])

-- The buffer

abbrev pub buffer_with : List Held → Option ℕ → (hold_back : ℕ) → State
buffer_with held cutoff hold_back = record (empty_buffer hold_back 4096 OpusDepacketizing) { held = held; cutoff = cutoff }

abbrev pub unbounded : ℕ
unbounded = 2 ^ 64 - 1

-- The turns

abbrev pub first_unit : Release
first_unit = record { time = record { numer = 960; rate = 48000 }; contiguous = true; bytes = 1 ∷ 2 ∷ []; codec_extra = extras.None; metas = first_meta ∷ [] }

abbrev pub third_unit : Release
third_unit = record { time = record { numer = 2880; rate = 48000 }; contiguous = false; bytes = 5 ∷ []; codec_extra = extras.None; metas = third_meta ∷ [] }

-- the stream starts: the first frame waits for one more
abbrev pub starting_turn : Turn
starting_turn = record {
  stretch = record { left = buffer_with [] None unbounded; pushes = first_held ∷ []; now = buffer_with (first_held ∷ []) None unbounded };
  passed = [];
  answer = None;
  after = buffer_with (first_held ∷ []) None unbounded;
}

-- the third one comes, and the first is popped
abbrev pub first_turn : Turn
first_turn = record {
  stretch = record {
    left = buffer_with (first_held ∷ []) None unbounded;
    pushes = third_held ∷ [];
    now = buffer_with (first_held ∷ third_held ∷ []) None unbounded;
  };
  passed = [];
  answer = Some (Ok first_unit);
  after = buffer_with (third_held ∷ []) (Some 131071) unbounded;
}

-- the third one waits for the second
abbrev pub waiting_turn : Turn
waiting_turn = record {
  stretch = begun (buffer_with (third_held ∷ []) (Some 131071) unbounded);
  passed = [];
  answer = None;
  after = buffer_with (third_held ∷ []) (Some 131071) unbounded;
}

-- its wait ends
abbrev pub due_turn : Turn
due_turn = record {
  stretch = begun (buffer_with (third_held ∷ []) (Some 131071) unbounded);
  passed = [];
  answer = Some (Ok third_unit);
  after = buffer_with [] (Some 131073) 0;
}

abbrev pub last_turn : Turn
last_turn = record { stretch = begun (buffer_with [] (Some 131073) 0); passed = []; answer = None; after = buffer_with [] (Some 131073) unbounded }

abbrev pub turns_then : List Turn
turns_then = starting_turn ∷ first_turn ∷ waiting_turn ∷ due_turn ∷ last_turn ∷ []

abbrev pub end_then : Stretch
end_then = begun (buffer_with [] (Some 131073) unbounded)

-- the premises can be met, also those for the third unit, by a run whose log this is
pub record TimesCanBeMet : Type 0 where
  pub within : (no_media : Vec ℕ) → IsWithinWindows frames_sent waiting_steps opus_sender (opus_receiver no_media) one_each
  pub limit : (no_media : Vec ℕ) → let receiver = opus_receiver no_media in receiver.packets.wait_limits.max_wait ≡ Some 100
  pub is_log : (no_media : Vec ℕ) → let receiver = opus_receiver no_media in
      IsLogOf (IsDelivery no_ids opus_sender.stream (packets_of units_then) received_then) (packets_of units_then) receiver.packets false received_then
      (begun receiver.packets.buffer) turns_then end_then
  pub pops : PopsInTimeFrom0 100 received_then turns_then
  pub comes : ComesBy 165 131073 131074 [] (pop_times received_then) turns_then
  pub due : AllDueBy 100 165 131074 turns_then
  -- the times of its pops, and their answers
  pub times : pop_times received_then ≡ 25 ∷ 65 ∷ 65 ∷ 165 ∷ 165 ∷ []
  pub answers : map (λ (turn : Turn). turn.answer) turns_then ≡ None ∷ Some (Ok first_unit) ∷ None ∷ Some (Ok third_unit) ∷ None ∷ []
