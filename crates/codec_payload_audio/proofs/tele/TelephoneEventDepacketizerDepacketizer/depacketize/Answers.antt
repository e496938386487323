use Rattle.std.proofs.Common.{◌≡◌, sym, refl, false}
use Rattle.codec_payload_base.specs.TelephoneReport.{are_reports}
use Rattle.codec_payload_base.proofs.TelephoneLemmas.{first_is_there}
use Rattle.codec_payload_audio.proofs.tele.TelephoneEventDepacketizerDepacketizer.depacketize.Goals as goal

pub returns-in_default : goal.returns-in_default
returns-in_default c =
    let no : are_reports c.args.packet.now ≡ false = first_is_there c.args.packet.now c.self.inside.rate (sym c.in_default.ensures) in
    record { step = ((refl, refl, λ all. cc, λ _. refl), refl); same = refl }
