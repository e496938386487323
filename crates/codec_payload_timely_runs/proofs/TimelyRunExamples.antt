-- The premises of the theorem on times can be met.
use Rattle.std.specs.Global.{Vec}
use Rattle.std.proofs.Common.{◌≡◌, refl, sym, subst, ℕ, ◌+◌, ◌<◌, ◌≤◌, inl, inr, List, [], ◌∷◌, Some, None, Ok, true, false, zero, suc, arith, lit<, lit≤}
use Rattle.codec_payload_base.specs.Time.{Time}
use Rattle.codec_payload_base.specs.declared.interface.CodecExtra.TheVariants as extras
use Rattle.codec_payload_base.specs.declared.wire.Ticks.{Ticks}
use Rattle.codec_payload_buffer.proofs.MemberLemmas.{IsIn, in_contains}
use Rattle.codec_payload_buffer.specs.Blanks.{received_of}
use Rattle.codec_payload_buffer.specs.Frames.{frames}
use Rattle.codec_payload_buffer.specs.Held.{Held, has_number}
use Rattle.codec_payload_buffer.specs.Steps.{AllOfTime, Releases, State, none}
use Rattle.codec_payload_buffer.specs.declared.buffer.frames.CompleteFrame.{CompleteFrame}
use Rattle.codec_payload_codec.specs.Depacketizers.{OpusDepacketizing}
use Rattle.codec_payload_buffer_runs.specs.Log.{begun}
use Rattle.codec_payload_buffer_runs.specs.SentStream.{packets_of}
use Rattle.codec_payload_receiver.specs.Defaults.{no_ids}
use Rattle.codec_payload_datagram_runs.specs.Releases.{IsDelivery, IsWithinWindows}
use Rattle.codec_payload_datagram_runs.specs.WireLogs.{IsLogOf}
use Rattle.codec_payload_datagram_runs.specs.WireRunExample.{at, frames_sent, one_each, opus_receiver, opus_sender, opus_settings}
use Rattle.codec_payload_timely_runs.specs.TimelyRunExample.{TimesCanBeMet, buffer_with, end_then, first_held, first_meta, first_turn, first_unit, last_turn, packet_at, received_then, starting_turn, third_held, third_meta, third_unit, turns_then, unbounded, units_then, waiting_steps, due_turn, waiting_turn}
use Rattle.codec_payload_timely_runs.specs.TimelyRuns.{AllDueBy, AreDueBy, ComesBy, PopsInTimeFrom0, pop_times}

is_within : (no_media : Vec ℕ) → IsWithinWindows frames_sent waiting_steps opus_sender (opus_receiver no_media) one_each
is_within no_media = record {
  settings = opus_settings no_media;
  depacketizer = OpusDepacketizing;
  new = refl;
  one_stream = record {
    built_in = refl;
    alike = refl;
    nothing_read = refl;
    clock_rate = refl;
    payload_type = refl;
    not_rtcp = inr (lit< tt);
    ssrc = refl;
    not_again = refl;
    drops_none = refl;
  };
  readable = (refl, (refl, (refl, tt)));
  within = (lit< tt, (lit< tt, lit≤ tt, tt));
  timely = (λ l. absurd (omega (arith, l)), tt);
}

-- Pops

abbrev frame_of : ℕ → CompleteFrame
frame_of number = record { first = number; last = number }

one_time : (time : Time) (p : Held) → p.meta.time ≡ time → AllOfTime time (p ∷ [])
one_time time p is zero d l = is
one_time time p is (suc k) d l = absurd (omega (arith, l))

first_released : Releases (buffer_with (first_held ∷ third_held ∷ []) None unbounded) first_unit (buffer_with (third_held ∷ []) (Some 131071) unbounded)
first_released = record {
  frame = frame_of 131071;
  is_due = refl;
  depacketizer = OpusDepacketizing;
  gives = (Ok tt, OpusDepacketizing, record { bytes = 1 ∷ 2 ∷ []; extra = extras.None }, ((refl, refl), refl), (refl, refl));
  may = refl;
  time = one_time first_unit.time first_held refl;
  metas = refl;
  contiguous = refl;
  left = refl;
}

third_released : Releases (buffer_with (third_held ∷ []) (Some 131071) 0) third_unit (buffer_with [] (Some 131073) 0)
third_released = record {
  frame = frame_of 131073;
  is_due = refl;
  depacketizer = OpusDepacketizing;
  gives = (Ok tt, OpusDepacketizing, record { bytes = 5 ∷ []; extra = extras.None }, ((refl, refl), refl), (refl, refl));
  may = refl;
  time = one_time third_unit.time third_held refl;
  metas = refl;
  contiguous = refl;
  left = refl;
}

is_log : (no_media : Vec ℕ) → let receiver = opus_receiver no_media in
    IsLogOf (IsDelivery no_ids opus_sender.stream (packets_of units_then) received_then) (packets_of units_then) receiver.packets false received_then
    (begun receiver.packets.buffer) turns_then end_then
is_log no_media = (
  packet_at 131071 960 (1 ∷ 2 ∷ []),
  first_meta,
  refl,
  ((0, omega arith, refl), record { number = refl; time = refl; marker = refl }, (packet_at 131071 960 (1 ∷ 2 ∷ []), refl, refl)),
  refl,
  (
    refl,
    (refl, refl, refl),
    (
      packet_at 131073 2880 (5 ∷ []),
      third_meta,
      refl,
      ((2, omega arith, refl), record { number = refl; time = refl; marker = refl }, (packet_at 131073 2880 (5 ∷ []), refl, refl)),
      refl,
      (
        refl,
        (λ e. absurd (cc), (buffer_with (first_held ∷ third_held ∷ []) None unbounded, none, first_released)),
        (
          refl,
          (λ e. absurd (cc), (none, refl)),
          (refl, (λ e. absurd (cc), (buffer_with (third_held ∷ []) (Some 131071) 0, none, third_released)), (refl, (λ e. absurd (cc), (none, refl)), refl)),
        ),
      ),
    ),
  ),
)

-- Times

-- each of these frames is due by then
abbrev AllDue : (by : ℕ) → State → List CompleteFrame → Type 0
AllDue by s [] = Unit {0}
AllDue by s (f ∷ fs) = ((since : Ticks) × (received_of f.last s.held ≡ Some since) × (since.0 + 100 ≤ by)) × AllDue by s fs

due_in : (by : ℕ) (s : State) (fs : List CompleteFrame) (f : CompleteFrame) (since : Ticks) → AllDue by s fs → IsIn f fs → received_of f.last s.held ≡ Some since → since.0 + 100 ≤ by
due_in by s [] f since all is at = absurd is
due_in by s (g ∷ gs) f since all (inl same) at =
    let here : received_of f.last s.held ≡ Some all.0.0 = subst (λ (x : CompleteFrame). received_of x.last s.held ≡ Some all.0.0) (sym same) all.0.1 in
    let e : all.0.0 ≡ since = cc in
    subst (λ (x : Ticks). x.0 + 100 ≤ by) e all.0.2
due_in by s (g ∷ gs) f since all (inr later) at = due_in by s gs f since all.1 later at

are_due : (by high : ℕ) (s : State) → AllDue by s (frames s.held) → AreDueBy 100 by high s
are_due by high s all f since is below at = due_in by s (frames s.held) f since all (in_contains f (frames s.held) is) at

all_due : AllDueBy 100 165 131074 turns_then
all_due = (
  are_due 165 131074 starting_turn.stretch.now ((at 25, refl, lit≤ tt), tt),
  are_due 165 131074 starting_turn.after ((at 25, refl, lit≤ tt), tt),
  (
    are_due 165 131074 first_turn.stretch.now ((at 25, refl, lit≤ tt), ((at 65, refl, lit≤ tt), tt)),
    are_due 165 131074 first_turn.after ((at 65, refl, lit≤ tt), tt),
    (
      are_due 165 131074 waiting_turn.stretch.now ((at 65, refl, lit≤ tt), tt),
      are_due 165 131074 waiting_turn.after ((at 65, refl, lit≤ tt), tt),
      (
        are_due 165 131074 due_turn.stretch.now ((at 65, refl, lit≤ tt), tt),
        are_due 165 131074 due_turn.after tt,
        (are_due 165 131074 last_turn.stretch.now tt, are_due 165 131074 last_turn.after tt, tt),
      ),
    ),
  ),
)

pops_in_time : PopsInTimeFrom0 100 received_then turns_then
pops_in_time = (lit≤ tt, (refl, ((lit≤ tt, lit≤ tt), (refl, (refl, ((lit≤ tt, lit≤ tt), (refl, tt)))))))

number_is : (n : ℕ) → 131073 ≤ n → n < 131074 → n ≡ 131073
number_is n low high = omega (arith, low, high)

third_comes : ComesBy 165 131073 131074 [] (pop_times received_then) turns_then
third_comes = inr (tt, inl (lit≤ tt, λ n low high. subst (λ (k : ℕ). has_number k (first_held ∷ third_held ∷ []) ≡ true) (sym (number_is n low high)) refl))

pub times_can_be_met : TimesCanBeMet
times_can_be_met = record {
  within = is_within;
  limit = λ no_media. refl;
  is_log = is_log;
  pops = pops_in_time;
  comes = third_comes;
  due = all_due;
  times = refl;
  answers = refl;
}
