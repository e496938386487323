use Rattle.std.proofs.Common.{◌∙◌, ap}
use Rattle.codec_payload_buffer.specs.Steps.{State}
use Rattle.codec_payload_jitter.specs.Receiving.{Receiving}
use Rattle.codec_payload_jitter.proofs.OwnLemmas.{stores_none, stores_then}
use Rattle.codec_payload_jitter.proofs.jitter.JitterBuffer.note_as.Goals as goal
use Rattle.codec_payload_jitter.proofs.jitter.JitterBuffer.note_as.Goals.{in-Number+in_ok-note-in-Number, in-Restarted+in_ok-restart_without_media_after_former-in-Restarted, in-Suspect+in-Some-1, in-Suspect+in-None-1, in-Spent}

pub returns-clause-own : goal.returns-clause-own
returns-clause-own g c = λ other.
    let before : State = c.args.self.now.buffer in
    let after : State = c.match-answer.self.buffer in
    elim c.match-answer.branch [
      | in-Number+in_ok-note-in-Number w ↦ stores_none _ _ before after (ap (λ (x : Receiving). x.buffer) (w.self-is ∙ w.in_ok-note-in-Number.ensures.ok))
      | in-Restarted+in_ok-restart_without_media_after_former-in-Restarted w ↦
          let first = w.in_ok-restart_without_media_after_former-in-Restarted.ensures.own other in
          stores_then _ _ before w.restart_without_media_after_former.new.self.buffer after first
          (stores_none _ _ w.restart_without_media_after_former.new.self.buffer after (ap (λ (x : Receiving). x.buffer) w.self-is))
      | in-Suspect+in-Some-1 w ↦
          stores_none _ _ before after (ap (λ (x : Receiving). x.buffer) w.self-is ∙ ap (λ (x : Receiving). x.buffer) (w.self.view_is ∙ w.count_no_media.ensures))
      | in-Suspect+in-None-1 w ↦
          stores_none _ _ before after (ap (λ (x : Receiving). x.buffer) w.self-is ∙ ap (λ (x : Receiving). x.buffer) (w.self.view_is ∙ w.count_no_media.ensures))
      | in-Spent w ↦ stores_none _ _ before after (ap (λ (x : Receiving). x.buffer) (w.self-is ∙ w.count_no_media-in-Spent.ensures))
    ]
