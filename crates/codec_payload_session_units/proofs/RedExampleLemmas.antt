-- The premises of the theorem in RED can be met.
use Rattle.std.proofs.Common.{◌≡◌, refl, sym, ap, subst, ◌%◌, [], ◌∷◌, inl, inr, false, arith, lit<, lit≤}
use Rattle.std.proofs.lemmas.Option.{same_Some}
use Rattle.codec_payload_codec.specs.Depacketizers.{DepacketizerState, OpusDepacketizing, configured_depacketizer, kind_of_depacketizer}
use Rattle.codec_payload_datagram_runs.specs.RedRunExample.{frame_entries, red_used, red_writer}
use Rattle.codec_payload_datagram_runs.specs.WireRunExample.{frames_sent, one_each, opus_sender}
use Rattle.codec_payload_keyframes.specs.UnitGates.{drops_units}
use Rattle.codec_payload_keyframes.specs.declared.unit_gate.FromKeyframe.TheVariants as modes
use Rattle.codec_payload_red.specs.RedRun.{IsRecoverable}
use Rattle.codec_payload_session_formats.specs.declared.formats.SessionSettings.{SessionSettings}
use Rattle.codec_payload_session_units.specs.OneRedSender.{IsRedSenderFor}
use Rattle.codec_payload_session_units.specs.RedExample.{RedStreamCanBeMet, red_format}
use Rattle.codec_payload_session_units.proofs.PlainLemmas.{sends_plain}

red_sender_for : (settings : SessionSettings) → settings.from_keyframe ≡ modes.Mark → IsRedSenderFor settings 7 red_format opus_sender red_writer red_used
red_sender_for settings mode = record {
  built_in = refl;
  alike = λ d is. ap (λ (x : DepacketizerState). kind_of_depacketizer (configured_depacketizer false 48000 x)) (sym (same_Some OpusDepacketizing d is));
  clock_rate = refl;
  payload_type = refl;
  not_rtcp = inr (lit< tt);
  ssrc_is = refl;
  drops_none = ap drops_units mode;
  used = refl;
  red_type = refl;
  media_type = refl;
  red_not_rtcp = inl (lit< tt);
  no_retransmissions = refl;
  no_video = refl;
}

recoverable : IsRecoverable red_writer.red (record { primary_pt = 111 % 128; step = 960 }) red_writer.budget frame_entries
recoverable = record {
  fresh = refl;
  accepted = refl;
  same_type = refl;
  some_step = lit< tt;
  low_step = lit≤ tt;
  first_time = 960;
  low_time = lit< tt;
  apart = (refl, (refl, (refl, tt)));
  each_fits = (lit< tt, (lit< tt, (lit< tt, tt)));
}

pub red_can_be_met : RedStreamCanBeMet
red_can_be_met settings mode sent are r1 r2 r3 = record {
  one = record {
    samples = frames_sent;
    sender = opus_sender;
    writer = red_writer;
    red = red_used;
    entries = one_each;
    datagrams = sent.first ∷ sent.second ∷ sent.third ∷ [];
    written = sent.written_first.items ∷ sent.written_second.items ∷ sent.written_third.items ∷ [];
    after = sent.after;
    sends = are.sends;
    writes = are.writes;
    few = lit< tt;
    undescribed = sends_plain settings.dependency_descriptor frames_sent opus_sender one_each (sent.first ∷ sent.second ∷ sent.third ∷ []) (λ values. refl) are.sends;
    sender_for = red_sender_for settings mode;
    readable = (refl, (refl, (refl, tt)));
    recoverable = subst (IsRecoverable red_writer.red (record { primary_pt = 111 % 128; step = 960 }) red_writer.budget) (sym are.entries) recoverable;
    indices = 0 ∷ 2 ∷ [];
    copies = ((sent.written_first.items, refl, inl refl), ((sent.written_third.items, refl, inl refl), refl));
    blocks = (λ e. absurd (cc), (λ e. absurd (cc), tt));
    memory = (λ e. absurd (cc), (λ e. absurd (cc), (λ e. absurd (cc), tt)));
    within = (lit< tt, (lit< tt, lit≤ tt, tt));
    timely = (λ l. absurd (omega (arith, l)), tt);
  };
  indices_are = refl;
  units_are = refl;
  in_turn = record { jump = 3000; near = (lit< tt, (lit< tt, lit≤ tt, tt)); in_turn = lit≤ tt };
}
