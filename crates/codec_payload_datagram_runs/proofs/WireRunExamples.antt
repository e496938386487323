-- The premises of a run over datagrams can be met.
use Rattle.std.specs.Global.{Vec}
use Rattle.std.proofs.Common.{refl, ℕ, zero, suc, ◌<◌, List, [], ◌∷◌, inr, arith, lit<, lit≤}
use Rattle.std.specs.Prelude.{Contains}
use Rattle.codec_payload_codec.specs.Depacketizers.{Av1Depacketizing, OpusDepacketizing}
use Rattle.codec_payload_datagram_runs.specs.Releases.{IsWithinWindows, delivered}
use Rattle.codec_payload_datagram_runs.specs.WireRunExample.{CanBeMet, at, frames_sent, one_each, one_sent, opus_receiver, opus_sender, opus_settings, oriented, swapped_steps}
use Rattle.codec_payload_datagram_runs.specs.WireRunExample.{video_receiver, video_sender, video_settings, video_steps}
use Rattle.codec_payload_datagram_runs.specs.declared.run.DatagramStep.{DatagramStep}
use Rattle.codec_payload_datagram_runs.specs.declared.run.DatagramStep.TheVariants as steps

is_within : (no_media : Vec ℕ) → IsWithinWindows frames_sent swapped_steps opus_sender (opus_receiver no_media) one_each
is_within no_media = record {
  settings = opus_settings no_media;
  depacketizer = OpusDepacketizing;
  new = refl;
  one_stream = record {
    built_in = refl;
    alike = refl;
    nothing_read = refl;
    clock_rate = refl;
    payload_type = refl;
    not_rtcp = inr (lit< tt);
    ssrc = refl;
    not_again = refl;
    drops_none = refl;
  };
  readable = (refl, (refl, (refl, tt)));
  within = (lit< tt, (lit< tt, lit≤ tt, (lit< tt, lit≤ tt, (lit< tt, lit≤ tt, tt))));
  timely = (λ l. lit≤ tt, (λ l. absurd (omega (arith, l)), (λ l. absurd (omega (arith, l)), tt)));
}

video_is_within : (no_media : Vec ℕ) → IsWithinWindows (oriented ∷ []) video_steps video_sender (video_receiver no_media) one_sent
video_is_within no_media = record {
  settings = video_settings no_media;
  depacketizer = Av1Depacketizing [];
  new = refl;
  one_stream = record {
    built_in = refl;
    alike = refl;
    nothing_read = refl;
    clock_rate = refl;
    payload_type = refl;
    not_rtcp = inr (lit< tt);
    ssrc = refl;
    not_again = refl;
    drops_none = refl;
  };
  readable = (refl, tt);
  within = (lit< tt, tt);
  timely = tt;
}

abbrev before_end : List DatagramStep
before_end = steps.Deliver 1 (at 25) ∷ steps.Deliver 0 (at 27) ∷ steps.Deliver 2 (at 40) ∷ steps.Deliver 1 (at 41) ∷ []

each_comes : (k : ℕ) → k < 3 → Contains (delivered before_end) k
each_comes zero l = (1, omega arith, refl)
each_comes (suc zero) l = (0, omega arith, refl)
each_comes (suc (suc zero)) l = (2, omega arith, refl)
each_comes (suc (suc (suc k))) l = absurd (omega (arith, l))

pub can_be_met : CanBeMet
can_be_met = record {
  within = is_within;
  all_come = record {
    few = lit≤ tt;
    before = before_end;
    after = steps.Pop (at 42) ∷ steps.Pop (at 42) ∷ steps.Pop (at 42) ∷ [];
    whole = refl;
    no_pops = tt;
    each = each_comes;
  };
  video = refl;
  video_within = video_is_within;
  ids = λ no_media. record { same = refl; fit = refl };
  values = record { capture = tt; timing = tt; layers = tt };
  are_delivered = refl;
}
