-- The premises of a run in RED can be met.
use Rattle.std.specs.Global.{Vec}
use Rattle.std.proofs.Common.{◌≡◌, refl, sym, subst, ℕ, zero, suc, ◌+◌, ◌*◌, ◌<◌, ◌≤◌, List, [], ◌∷◌, inl, inr, length, arith, lit<, lit≤}
use Rattle.std.specs.Prelude.{Contains}
use Rattle.std.proofs.Math.Nat.{mul-le-mul_left}
use Rattle.codec_payload_codec.specs.Depacketizers.{OpusDepacketizing}
use Rattle.codec_payload_numbers.specs.Numbers.{no_numbers}
use Rattle.codec_payload_red.specs.RedLevels.{Entry, levels, within}
use Rattle.codec_payload_red.specs.RedRun.{IsKeptIn, IsRecoverable}
use Rattle.codec_payload_receiver.specs.declared.receiver.Settings.{Settings}
use Rattle.codec_payload_datagram_runs.proofs.RedReleaseLemmas.{release_in_red}
use Rattle.codec_payload_datagram_runs.specs.RedLogs.{StaysInTurn}
use Rattle.codec_payload_datagram_runs.specs.RedReleases.{AllComeInRed, AreOfOneRed, Carries, IsInRedWithinWindows, entries_in, red_receiver}
use Rattle.codec_payload_datagram_runs.specs.RedRunExample.{PopsAllInRed, RedCanBeMet, frame_entries, lossy_steps, red_begins, red_session, red_settings, red_used, red_writer}
use Rattle.codec_payload_datagram_runs.specs.RedRuns.{RedRuns, RedWire}
use Rattle.codec_payload_datagram_runs.specs.Releases.{ComeWithin, IsWithinWindows, delivered, received_steps}
use Rattle.codec_payload_datagram_runs.specs.WireRunExample.{at, frames_sent, one_each, opus_sender}
use Rattle.codec_payload_datagram_runs.specs.declared.run.DatagramStep.{DatagramStep}
use Rattle.codec_payload_datagram_runs.specs.declared.run.DatagramStep.TheVariants as steps
use Rattle.codec_payload_datagram_runs.specs.declared.run.SentSample.{SentSample}

plain_within : (no_media : Vec ℕ) → IsWithinWindows frames_sent lossy_steps opus_sender (red_session no_media) one_each
plain_within no_media = record {
  settings = red_settings no_media;
  depacketizer = OpusDepacketizing;
  new = refl;
  one_stream = record {
    built_in = refl;
    alike = refl;
    nothing_read = refl;
    clock_rate = refl;
    payload_type = refl;
    not_rtcp = inr (lit< tt);
    ssrc = refl;
    not_again = refl;
    drops_none = refl;
  };
  readable = (refl, (refl, (refl, tt)));
  within = (lit< tt, (lit< tt, lit≤ tt, tt));
  timely = (λ l. absurd (omega (arith, l)), tt);
}

pub recoverable : (no_media : Vec ℕ) → IsRecoverable red_writer.red (red_receiver (red_settings no_media) red_used) red_writer.budget frame_entries
recoverable no_media = record {
  fresh = refl;
  accepted = refl;
  same_type = refl;
  some_step = lit< tt;
  low_step = lit≤ tt;
  first_time = 960;
  low_time = lit< tt;
  apart = (refl, (refl, (refl, tt)));
  each_fits = (lit< tt, (lit< tt, (lit< tt, tt)));
}

one_red : (no_media : Vec ℕ) → AreOfOneRed opus_sender red_writer (red_settings no_media) red_used
one_red no_media = record { used = refl; red_type = refl; media_type = refl; not_rtcp = inl (lit< tt); not_again = refl }

-- for results of the run with these sends and datagrams
within_by : (no_media : Vec ℕ) (t : RedWire) → t.wire.sends ≡ one_each → entries_in t.wire.datagrams ≡ frame_entries → IsInRedWithinWindows frames_sent lossy_steps (red_begins no_media) t
unfolding plain_within
within_by no_media t sends entries =
    let at : (es : List SentSample) → es ≡ one_each → (plain : IsWithinWindows frames_sent lossy_steps opus_sender (red_session no_media) es) × (plain.settings ≡ red_settings no_media) =
    λ es same. subst (λ (xs : List SentSample). (plain : IsWithinWindows frames_sent lossy_steps opus_sender (red_session no_media) xs) × (plain.settings ≡ red_settings no_media)) (sym same) (plain_within no_media, refl) in
    let plain = at t.wire.sends sends in
    record {
      plain = plain.0;
      no_video = refl;
      red = red_used;
      one_red = subst (λ (x : Settings). AreOfOneRed opus_sender red_writer x red_used) (sym plain.1) (one_red no_media);
      apart = subst (λ (x : Settings). x.forward + x.backward + 8 ≤ 65536) (sym plain.1) (lit≤ tt);
      recoverable = subst (λ (x : Settings). IsRecoverable red_writer.red (red_receiver x red_used) red_writer.budget (entries_in t.wire.datagrams)) (sym plain.1)
          (subst (IsRecoverable red_writer.red (red_receiver (red_settings no_media) red_used) red_writer.budget) (sym entries) (recoverable no_media));
    }

-- the second payload is in the third datagram
kept_in_third : IsKeptIn red_writer.red red_writer.budget frame_entries 1 2
unfolding levels within
kept_in_third = record {
  distance = 1;
  of_sender = (0, lit< tt, refl);
  back = refl;
  block = record { pt = 111; offset = 960; bytes = 3 ∷ 4 ∷ [] };
  entry = record { bytes = 5 ∷ []; time = 2880 };
  there = refl;
  is_level = refl;
  is_kept = (0, lit< tt, refl);
}

abbrev before_end : List DatagramStep
before_end = steps.Deliver 0 (at 25) ∷ steps.Deliver 2 (at 65) ∷ []

each_comes : (sent : List (List ℕ)) → entries_in sent ≡ frame_entries → (k : ℕ) → k < 3 → (carrier : ℕ) × Contains (delivered before_end) carrier × Carries red_writer sent carrier k
each_comes sent entries zero l = (0, (0, omega arith, refl), inl refl)
each_comes sent entries (suc zero) l = (2, (1, omega arith, refl), inr (subst (λ (es : List Entry). IsKeptIn red_writer.red red_writer.budget es 1 2) (sym entries) kept_in_third))
each_comes sent entries (suc (suc zero)) l = (2, (1, omega arith, refl), inl refl)
each_comes sent entries (suc (suc (suc k))) l = absurd (omega (arith, l))

pub all_come : (sent : List (List ℕ)) → entries_in sent ≡ frame_entries → AllComeInRed 4096 3 (no_numbers 3000 1000) red_writer sent (received_steps frames_sent 0 lossy_steps one_each)
all_come sent entries = record {
  few = lit≤ tt;
  before = before_end;
  after = steps.Pop (at 66) ∷ steps.Pop (at 66) ∷ steps.Pop (at 66) ∷ [];
  whole = refl;
  no_pops = tt;
  each = each_comes sent entries;
  wide = lit≤ tt;
  near = (lit< tt, (lit< tt, lit≤ tt, tt));
}

pops_all : (no_media : Vec ℕ) (t : RedWire) → RedRuns frames_sent lossy_steps (red_begins no_media) t → t.wire.sends ≡ one_each → length t.wire.datagrams ≡ 3
    → entries_in t.wire.datagrams ≡ frame_entries → PopsAllInRed (red_begins no_media) t
pops_all no_media t run sends count entries =
    let r = release_in_red frames_sent lossy_steps opus_sender red_writer (red_session no_media) t run (within_by no_media t sends entries) in
    let all : AllComeInRed 4096 (length t.wire.datagrams) (no_numbers 3000 1000) red_writer t.wire.datagrams (received_steps frames_sent 0 lossy_steps t.wire.sends) =
    subst (λ (n : ℕ). AllComeInRed 4096 n (no_numbers 3000 1000) red_writer t.wire.datagrams (received_steps frames_sent 0 lossy_steps t.wire.sends)) (sym count)
    (subst (λ (es : List SentSample). AllComeInRed 4096 3 (no_numbers 3000 1000) red_writer t.wire.datagrams (received_steps frames_sent 0 lossy_steps es)) (sym sends) (all_come t.wire.datagrams entries)) in
    (r, r.exactly all)

-- deliveries within a turn of the clock

by_step : (forward backward step : ℕ) (ks : List ℕ) → forward ≤ 32768 → backward < forward → step ≤ 2016 → ComeWithin forward backward ks → StaysInTurn step backward ks
by_step forward backward step ks few order small near =
    let most : (64 * forward + backward + 9) * step ≤ (64 * forward + backward + 9) * 2016 = mul-le-mul_left (64 * forward + backward + 9) small in
    record { jump = forward; near = near; in_turn = omega (arith, most, few, order) }

by_window : (forward backward step : ℕ) (ks : List ℕ) → forward ≤ 4000 → backward < forward → step ≤ 16383 → ComeWithin forward backward ks → StaysInTurn step backward ks
by_window forward backward step ks few order small near =
    let most : (64 * forward + backward + 9) * step ≤ (64 * forward + backward + 9) * 16383 = mul-le-mul_left (64 * forward + backward + 9) small in
    record { jump = forward; near = near; in_turn = omega (arith, most, few, order) }

pub red_can_be_met : RedCanBeMet
red_can_be_met = record {
  within = within_by;
  all_come = all_come;
  in_turn = record { jump = 3000; near = (lit< tt, (lit< tt, lit≤ tt, tt)); in_turn = lit≤ tt };
  by_step = by_step;
  by_window = by_window;
  are_delivered = refl;
  all_popped = pops_all;
}
