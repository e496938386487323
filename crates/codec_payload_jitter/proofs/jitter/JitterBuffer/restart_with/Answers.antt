use Rattle.std.proofs.Common.{◌≡◌, ◌∙◌, ap, sym, Option, None}
use Rattle.std.specs.Option.{option_map}
use Rattle.codec_payload_jitter.specs.Receiving.{Receiving, arrival_of}
use Rattle.codec_payload_jitter.specs.declared.jitter.KeptPacket.{KeptPacket}
use Rattle.codec_payload_jitter.proofs.RestartingLemmas.{restarts_alone}
use Rattle.codec_payload_jitter.proofs.jitter.JitterBuffer.restart_with.Goals as goal

pub returns-in_ok-store_and_note-in-None-clause-ok : goal.returns-in_ok-store_and_note-in-None-clause-ok
returns-in_ok-store_and_note-in-None-clause-ok g c =
    let r : Receiving = c.args.self.now in
    let kept : None ≡ r.kept = ap (λ (k : Option KeptPacket). option_map arrival_of k) (sym c.in-None.is) ∙ c.in_ok-kept.ensures in
    restarts_alone c.args.number (arrival_of c.args.packet) r c.store_and_note.new.self c.count_restart.new.self c.in_ok-store_and_note-in-None.field-0 kept c.in_ok-store_and_note-in-None.ensures.ok c.count_restart.ensures
