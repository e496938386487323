-- The premises of the theorem can be met.
use Rattle.std.proofs.Common.{◌≡◌, refl, sym, ap, [], ◌∷◌, inl, inr, Some, None, false, arith, lit<, lit≤}
use Rattle.std.proofs.lemmas.Option.{same_Some}
use Rattle.codec_payload_codec.specs.Depacketizers.{DepacketizerState, OpusDepacketizing, configured_depacketizer, kind_of_depacketizer}
use Rattle.codec_payload_datagram_runs.specs.WireRunExample.{frames_sent, one_each, opus_sender}
use Rattle.codec_payload_keyframes.specs.UnitGates.{drops_units}
use Rattle.codec_payload_keyframes.specs.declared.unit_gate.FromKeyframe.TheVariants as modes
use Rattle.codec_payload_metadata.specs.Release.{Release}
use Rattle.codec_payload_session_formats.specs.declared.formats.SessionSettings.{SessionSettings}
use Rattle.codec_payload_session_units.specs.Example.{AreSent, IsSendersAt, Sent, StreamsCanBeMet, again_stream, calls_made, opus_format, other_sender}
use Rattle.codec_payload_session_units.specs.OneSender.{IsSenderFor}
use Rattle.codec_payload_session_units.proofs.PlainLemmas.{sends_plain}

for_first : (settings : SessionSettings) → settings.from_keyframe ≡ modes.Mark → IsSenderFor settings 7 opus_format opus_sender
for_first settings mode = record {
  built_in = refl;
  alike = λ d is. ap (λ (x : DepacketizerState). kind_of_depacketizer (configured_depacketizer false 48000 x)) (sym (same_Some OpusDepacketizing d is));
  clock_rate = refl;
  payload_type = refl;
  not_rtcp = inr (lit< tt);
  ssrc_is = refl;
  no_red = refl;
  other_type = λ e. let same : 112 ≡ 111 = same_Some 112 111 e in absurd (omega (arith, same));
  drops_none = ap drops_units mode;
}

for_other : (settings : SessionSettings) → settings.from_keyframe ≡ modes.Mark → IsSenderFor settings 9 opus_format other_sender
for_other settings mode = record {
  built_in = refl;
  alike = λ d is. ap (λ (x : DepacketizerState). kind_of_depacketizer (configured_depacketizer false 48000 x)) (sym (same_Some OpusDepacketizing d is));
  clock_rate = refl;
  payload_type = refl;
  not_rtcp = inr (lit< tt);
  ssrc_is = refl;
  no_red = refl;
  other_type = λ e. let same : 112 ≡ 111 = same_Some 112 111 e in absurd (omega (arith, same));
  drops_none = ap drops_units mode;
}

first_met : (settings : SessionSettings) → settings.from_keyframe ≡ modes.Mark → (sent : Sent) → AreSent sent → (r1 r2 r3 q1 : Release)
    → IsSendersAt settings 7 (calls_made sent r1 r2 r3 q1) opus_sender (0 ∷ 2 ∷ 1 ∷ []) 3
first_met settings mode sent are r1 r2 r3 q1 = record {
  one = record {
    samples = frames_sent;
    sender = opus_sender;
    again = Some again_stream;
    entries = one_each;
    datagrams = sent.first.items ∷ sent.second.items ∷ sent.third.items ∷ [];
    sends = are.sends;
    few = lit< tt;
    undescribed = sends_plain settings.dependency_descriptor frames_sent opus_sender one_each (sent.first.items ∷ sent.second.items ∷ sent.third.items ∷ []) (λ values. refl) are.sends;
    sender_for = for_first settings mode;
    apart = (λ e. let same : 8 ≡ 7 = e in absurd (omega (arith, same)), inr (lit< tt));
    readable = (refl, (refl, (refl, tt)));
    indices = 0 ∷ 2 ∷ 1 ∷ [];
    copies = ((sent.first.items, refl, inl refl), ((sent.third.items, refl, inl refl), ((sent.second.items, refl, inr (500, are.repeats, refl)), refl)));
    memory = (λ e. absurd (cc), (λ e. absurd (cc), (λ e. absurd (cc), tt)));
    within = (lit< tt, (lit< tt, lit≤ tt, (lit< tt, lit≤ tt, tt)));
    timely = (λ l. absurd (omega (arith, l)), (λ l. absurd (omega (arith, l)), tt));
  };
  sender_is = refl;
  indices_are = refl;
  units_are = refl;
}

other_met : (settings : SessionSettings) → settings.from_keyframe ≡ modes.Mark → (sent : Sent) → AreSent sent → (r1 r2 r3 q1 : Release)
    → IsSendersAt settings 9 (calls_made sent r1 r2 r3 q1) other_sender (0 ∷ 2 ∷ []) 1
other_met settings mode sent are r1 r2 r3 q1 = record {
  one = record {
    samples = frames_sent;
    sender = other_sender;
    again = None;
    entries = one_each;
    datagrams = sent.other_first.items ∷ sent.other_second.items ∷ sent.other_third.items ∷ [];
    sends = are.other_sends;
    few = lit< tt;
    undescribed = sends_plain settings.dependency_descriptor frames_sent other_sender one_each (sent.other_first.items ∷ sent.other_second.items ∷ sent.other_third.items ∷ []) (λ values. refl) are.other_sends;
    sender_for = for_other settings mode;
    apart = tt;
    readable = (refl, (refl, (refl, tt)));
    indices = 0 ∷ 2 ∷ [];
    copies = ((sent.other_first.items, refl, inl refl), ((sent.other_third.items, refl, inl refl), refl));
    memory = (λ e. absurd (cc), tt);
    within = (lit< tt, (lit< tt, lit≤ tt, tt));
    timely = (λ l. absurd (omega (arith, l)), tt);
  };
  sender_is = refl;
  indices_are = refl;
  units_are = refl;
}

pub can_be_met : StreamsCanBeMet
can_be_met = record { first = first_met; other = other_met }
