use Rattle.std.proofs.Common.{rules, ◌≡◌, ◌∷◌, ◌∙◌, ap}
use Rattle.codec_payload_red.specs.declared.red.sender.SentPayload.{SentPayload}
use Rattle.codec_payload_red.specs.RedLevels.{deepest}
use Rattle.codec_payload_red.proofs.SenderHistoryLemmas.{recorded_is}
use Rattle.codec_payload_red.proofs.red.sender.RedSender.record.Goals as goal

pub returns-clause-ok : goal.returns-clause-ok
returns-clause-ok c =
    let sent : SentPayload = record { bytes = c.args.payload; time = c.args.time } in
    let pushed : c.push_front.new.self.items ≡ sent ∷ c.self.inside.history.items = search rules in
    let depth : c.depth_of.result ≡ deepest c.self.inside.distances = c.depth_of.ensures ∙ ap deepest c.as_slice.ensures in
    rw (← c.self.view_is) (ap (λ h. record {
      red_pt = c.self.inside.red_pt;
      primary_pt = c.self.inside.primary_pt;
      distances = c.self.inside.distances;
      history = h;
    }) (recorded_is c.self.inside.distances c.self.inside.history.items c.push_front.new.self.items c.truncate.new.self.items sent c.depth_of.result depth pushed
    c.truncate.ensures.items))
