use Rattle.std.proofs.Common.{◌∙◌, ap, refl, rules, sym, subst, Option, Result, IsOk}
use Rattle.codec_payload_codec.specs.Depacketizers.{DepacketizerState, depacketizer_state_for, depacketizer_state_of}
use Rattle.codec_payload_jitter.specs.declared.waiting.WaitLimits.{WaitLimits}
use Rattle.codec_payload_receiver.specs.Sessions.{Session as Receiver, session_by}
use Rattle.codec_payload_receiver.specs.declared.receiver.SettingsError.{SettingsError}
use Rattle.codec_payload_stream_edges.specs.declared.followed.Followed.{Followed}
use Rattle.codec_payload_session_stream.proofs.CheckLemmas.{fits, known_by, receiver_made, some_mapped}
use Rattle.codec_payload_session_requests.specs.Requests.{feedback_by}
use Rattle.codec_payload_session_stream.proofs.stream.StreamState.begin.Goals as goal

pub unwrap-depacketizer-requires : goal.unwrap-depacketizer-requires
unwrap-depacketizer-requires c =
    some_mapped depacketizer_state_of c.from_codec.result (depacketizer_state_for c.args.format.now.spec.codec) c.from_codec.ensures
    (fits c.args.settings.now c.args.format.now c.requires).codec

pub unwrap-receiver-requires : goal.unwrap-receiver-requires
unwrap-receiver-requires c =
    subst (λ (o : Result Receiver SettingsError). IsOk o) (sym c.in_ok-begun.ensures)
    (receiver_made c.args.settings.now c.args.ssrc c.args.format.now c.in_ok-settings.settings _ c.requires c.in_ok-settings.ensures)

pub returns : goal.returns
returns c = record {
  ssrc_is = refl;
  format = refl;
  edges = ap (λ (e : Option Followed). record { descriptor = c.args.settings.now.dependency_descriptor; followed = e }) c.new.ensures;
  stage = refl;
  announced = refl;
  taken = refl;
  accepted = refl;
  bytes = refl;
  last = refl;
  feedback =
      c.in_ok-feedback.ensures
      ∙ ap (λ (l : WaitLimits). feedback_by c.args.settings.now.feedback c.args.ssrc c.args.format.now l.max_wait) c.limits-max_wait.ensures;
  probes = c.in_ok-probes.ensures;
  late = c.in_ok-late.ensures;
  sender_clock = refl;
  was_reported = refl;
  name_ids = refl;
  names = search rules;
  depacketizer = depacketizer_state_of c.unwrap-depacketizer.result;
  known =
      known_by depacketizer_state_of c.from_codec.result c.unwrap-depacketizer.result (depacketizer_state_for c.args.format.now.spec.codec) c.from_codec.ensures
      c.unwrap-depacketizer.ensures;
  receiver_settings = c.in_ok-settings.settings;
  has_settings = c.in_ok-settings.ensures;
  receiver = ap (λ (d : DepacketizerState). session_by c.in_ok-settings.settings d) (sym c.configure_for.ensures) ∙ (sym c.in_ok-begun.ensures ∙ c.unwrap-receiver.ensures);
}
