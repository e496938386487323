-- The premises of a run with RED can be met: three packets are sent, the first is lost, and the second repeats it.
use Rattle.std.proofs.Common.{◌≢◌, refl, ℕ, zero, suc, ◌<◌, List, [], ◌∷◌, Some, None, false, inl, inr, arith}
use Rattle.std.specs.Prelude.{slice_get}
use Rattle.codec_payload_base.specs.Extensions.{no_values}
use Rattle.codec_payload_codec.specs.Depacketizers.{OpusDepacketizing}
use Rattle.codec_payload_codec.specs.Packetizers.{OpusPacketizing}
use Rattle.codec_payload_buffer_runs.specs.Exact.{IsPushedFirst}
use Rattle.codec_payload_payloader.specs.Packets.{Packet}
use Rattle.codec_payload_buffer_runs.specs.RedPromises.{RedRan, IsRedFresh, IsIn, IsAllThere}
use Rattle.codec_payload_buffer_runs.specs.RedSchedule.{RedState, all_in_red}
use Rattle.codec_payload_buffer.specs.Steps.{empty_buffer}
use Rattle.codec_payload_buffer_runs.specs.Schedule.{run_state}
use Rattle.codec_payload_buffer_runs.specs.declared.run.Sent.{Sent}
use Rattle.codec_payload_buffer_runs.specs.declared.run.Step.{Step}
use Rattle.codec_payload_buffer_runs.specs.declared.run.Step.TheVariants as steps
use Rattle.codec_payload_red.specs.RedLevels.{Sender, levels, within}
use Rattle.codec_payload_red.specs.RedRun.{sender_after}

abbrev sender : Sender
sender = record { red_pt = 63; primary_pt = 96; distances = 1 ∷ []; history = [] }

abbrev packet : ℕ → ℕ → List ℕ → Packet
packet number time payload = record { pt = 96; number = number; rtp_time = time; wallclock = 0; marker = false; nackable = false; ext_vals = no_values; payload = payload }

abbrev packets : List Packet
packets = packet 10 960 (1 ∷ 2 ∷ []) ∷ packet 11 1920 (3 ∷ 4 ∷ []) ∷ packet 12 2880 (5 ∷ []) ∷ []

abbrev all_steps : List Step
all_steps = steps.Send 0 1199 ∷ steps.Send 1 1199 ∷ steps.Send 2 1199 ∷ steps.Push 1 ∷ steps.Push 2 ∷ steps.Pop ∷ []

abbrev state_with : List Packet → RedState
state_with sent = record {
  plain = run_state (record { packetizer = OpusPacketizing; clock_rate = 48000 }) (empty_buffer 0 4096 OpusDepacketizing) (record { first = 10; packets = sent });
  images = all_in_red sender 1200 sent;
  sender = sender_after sender [];
}

abbrev entry_of : ℕ → Sent
entry_of place = record { step = place; first = place; count = 1; fault = None }

abbrev run : RedRan
run = record {
  with = record { budget = 1200; receiver = record { primary_pt = 96; step = 960 } };
  samples = [];
  steps = all_steps;
  before = state_with [];
  sends = entry_of 0 ∷ entry_of 1 ∷ entry_of 2 ∷ [];
  pops = [];
  after = state_with packets;
}

pub is_fresh : IsRedFresh run
is_fresh = record {
  unused = record { built_in = refl; nothing_sent = refl; nothing_held = refl; no_cutoff = refl; no_mark = refl; alike = refl; nothing_read = refl; nothing_kept = refl };
  none_in_sink = refl;
  readable = tt;
  no_video = refl;
  recoverable = record {
    fresh = refl;
    accepted = refl;
    same_type = refl;
    some_step = omega arith;
    low_step = omega arith;
    first_time = 960;
    low_time = omega arith;
    apart = (refl, (refl, (refl, tt)));
    each_fits = (omega arith, (omega arith, (omega arith, tt)));
  };
}

-- the second packet contains the first payload
in_second : IsIn run 0 1
unfolding levels within
in_second = inr (record {
  distance = 1;
  of_sender = (0, omega arith, refl);
  back = refl;
  block = record { pt = 96; offset = 960; bytes = 1 ∷ 2 ∷ [] };
  entry = record { bytes = 3 ∷ 4 ∷ []; time = 1920 };
  there = refl;
  is_level = refl;
  is_kept = (0, omega arith, refl);
})

no_pop_before : (other : ℕ) → other < 5 → slice_get all_steps other ≢ Some steps.Pop
no_pop_before zero l e = cc
no_pop_before (suc zero) l e = cc
no_pop_before (suc (suc zero)) l e = cc
no_pop_before (suc (suc (suc zero))) l e = cc
no_pop_before (suc (suc (suc (suc zero)))) l e = cc
no_pop_before (suc (suc (suc (suc (suc n))))) l e = omega (arith, l)

second : IsPushedFirst all_steps run.sends 1
second = record {
  place = 3;
  pushes = refl;
  before_pops = λ other m. no_pop_before other (omega (arith, m));
  entry = entry_of 1;
  noted =
      (1, omega arith, refl);
  sent_before = omega arith;
  reaches = omega arith;
}

third : IsPushedFirst all_steps run.sends 2
third = record {
  place = 4;
  pushes = refl;
  before_pops = λ other m. no_pop_before other (omega (arith, m));
  entry = entry_of 2;
  noted =
      (2, omega arith, refl);
  sent_before = omega arith;
  reaches = omega arith;
}

there : (k : ℕ) → k < 3 → (carrier : ℕ) × IsPushedFirst all_steps run.sends carrier × IsIn run k carrier
there zero l = (1, second, in_second)
there (suc zero) l = (1, second, inl refl)
there (suc (suc zero)) l = (2, third, inl refl)
there (suc (suc (suc k))) l = absurd (omega (arith, l))

pub all_there : IsAllThere run
all_there = record { few = omega arith; there = there }
