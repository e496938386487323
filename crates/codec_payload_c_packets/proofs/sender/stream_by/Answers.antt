use Rattle.std.proofs.Common.{subst, sym, ℕ}
use Rattle.codec_payload_handle.specs.Refusals.{RefusesSettings}
use Rattle.codec_payload_c_packets.specs.StreamSenders.{is_in_range}
use Rattle.codec_payload_c_packets.proofs.SenderRange.{refused}
use Rattle.codec_payload_c_packets.proofs.sender.stream_by.Goals as goal

pub returns-in-Err-clause-err : goal.returns-in-Err-clause-err
returns-in-Err-clause-err c =
    subst (λ (status : ℕ). RefusesSettings (is_in_range c.args.settings.now) status) (sym c.status_for.ensures)
    (refused _ c.args.settings.now c.settings_of.result c.in-Err.error c.settings_of.ensures c.in-Err.ensures.refused c.in-Err.ensures.made)
