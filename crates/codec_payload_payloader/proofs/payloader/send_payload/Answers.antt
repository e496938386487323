use Rattle.std.proofs.Common.{rules, ◌≡◌, ◌||◌, ◌&&◌, Bool, true, ap, ◌∙◌}
use Rattle.codec_payload_codec.proofs.AnswerLemmas.{on_ok, if_err}
use Rattle.codec_payload_payloader.proofs.SendLemmas.{as_for}
use Rattle.codec_payload_payloader.proofs.OwnSendLemmas.{still_own_packetizer, both_ways}
use Rattle.codec_payload_codec.specs.Packetizers.{BoxedPacketizing, packetizer_state_of, is_built_in, marker_of, talk_spurt_of, nackable_of}
use Rattle.codec_payload_payloader.specs.Sending.{sample_of}
use Rattle.codec_payload_payloader.proofs.payloader.send_payload.Goals as goal

pub returns-clause-ok : goal.returns-clause-ok
returns-clause-ok g c =
    let marker : is_built_in (packetizer_state_of c.args.packetizer.now) ≡ true
    → c.if-is_marker.marker ≡ (marker_of (packetizer_state_of c.args.packetizer.now) c.args.fields.last ||
    (talk_spurt_of (packetizer_state_of c.args.packetizer.now) && c.args.sample.now.start_of_talk_spurt)) = λ built_in. search rules in
    let nackable : is_built_in (packetizer_state_of c.args.packetizer.now) ≡ true → c.nackable.result ≡ nackable_of (packetizer_state_of c.args.packetizer.now) = λ built_in. search rules in
    let told = as_for (packetizer_state_of c.args.packetizer.now) (sample_of c.args.sample.now) c.args.fields.rtp_time _ _ c.args.fields.ext_vals c.args.fields.last _ _ c.args.payload.items
    c.next_seq_no-seq_no.ensures.number marker nackable in
    on_ok c.send.result (λ sent. (_, told, sent.0, sent.1, sent.2, sent.3)) (rw c.next_seq_no-seq_no.ensures.same at c.send.ensures.ok)

pub returns-clause-err : goal.returns-clause-err
returns-clause-err g c =
    let marker : is_built_in (packetizer_state_of c.args.packetizer.now) ≡ true
    → c.if-is_marker.marker ≡ (marker_of (packetizer_state_of c.args.packetizer.now) c.args.fields.last ||
    (talk_spurt_of (packetizer_state_of c.args.packetizer.now) && c.args.sample.now.start_of_talk_spurt)) = λ built_in. search rules in
    let nackable : is_built_in (packetizer_state_of c.args.packetizer.now) ≡ true → c.nackable.result ≡ nackable_of (packetizer_state_of c.args.packetizer.now) = λ built_in. search rules in
    let told = as_for (packetizer_state_of c.args.packetizer.now) (sample_of c.args.sample.now) c.args.fields.rtp_time _ _ c.args.fields.ext_vals c.args.fields.last _ _ c.args.payload.items
    c.next_seq_no-seq_no.ensures.number marker nackable in
    if_err c.send.result (λ fault sent. (_, told, sent.0, sent.1, sent.2)) (rw c.next_seq_no-seq_no.ensures.same at c.send.ensures.err)

pub returns-clause-own : goal.returns-clause-own
returns-clause-own g c = λ before is.
    let asked = still_own_packetizer c.args.packetizer.now c.is_marker.new.self before is c.is_marker.ensures.same in
    let step = rw (is, asked.1, c.deref.ensures.value, c.last_packet.ensures) at c.is_marker.ensures.step in
    let talk = rw is at c.marks_talkspurt.ensures.step in
    let asks = rw asked.1 at c.nackable.ensures.step in
    let marks : c.if-is_marker.marker ≡ (c.is_marker.result || (c.marks_talkspurt.result && c.args.sample.now.start_of_talk_spurt)) = search rules in
    let told = as_for BoxedPacketizing (sample_of c.args.sample.now) c.args.fields.rtp_time _ _ c.args.fields.ext_vals c.args.fields.last c.if-is_marker.marker c.nackable.result
    c.args.payload.items c.next_seq_no-seq_no.ensures.number (λ built_in. absurd (cc)) (λ built_in. absurd (cc)) in (
      asked.0,
      asked.1,
      record {
        packet = _;
        told = told;
        asked = record {
          answer = c.is_marker.result;
          asked = step;
          marker_is = marks ∙ ap (λ (spurts : Bool). c.is_marker.result || (spurts && c.args.sample.now.start_of_talk_spurt)) talk;
          nackable_is = asks;
        };
        came = both_ways c.send.result (λ sent. (sent.0, sent.1)) (λ fault sent. sent.0) (rw c.next_seq_no-seq_no.ensures.same at c.send.ensures.ok)
            (rw c.next_seq_no-seq_no.ensures.same at c.send.ensures.err);
      },
    )
