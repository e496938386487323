use Rattle.std.proofs.Common.{List, ◌∙◌, ap}
use Rattle.std.specs.List.{position}
use Rattle.codec_payload_fec_receiver.specs.States.{State, first_due}
use Rattle.codec_payload_fec_receiver.specs.declared.fec_receiver.OpenFec.{OpenFec as LentFec}
use Rattle.codec_payload_fec_receiver.proofs.HeldLemmas.{position_map}
use Rattle.codec_payload_fec_receiver.proofs.fec_receiver.FecReceiver.due.Goals as goal

pub returns-clause-value : goal.returns-clause-value
returns-clause-value c =
    c.first_due.ensures.value ∙ ap (λ (fecs : List LentFec). position (λ (o : LentFec). o.is_due) fecs) c.as_slice.ensures.value ∙ position_map c.self.inside.fecs.items
    ∙ ap (λ (s : State). first_due s.fecs) c.self.view_is
