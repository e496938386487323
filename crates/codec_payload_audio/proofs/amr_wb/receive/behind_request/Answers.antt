use Rattle.std.proofs.Common.{◌≡◌, ◌*◌, ◌∙◌, ap, cond, length, min}
use Rattle.codec_payload_audio.proofs.AmrWbReceivedLemmas.{whole_bytes, at_head}
use Rattle.codec_payload_audio.proofs.amr_wb.receive.behind_request.Goals as goal
use Rattle.codec_payload_audio.proofs.amr_wb.receive.behind_request.Goals.{After-at, then-octet_align, else-octet_align}

place_is : (c : After-at) → c.if-octet_align.at ≡ cond c.args.octet_align 8 4
place_is c = elim c.if-octet_align.branch [
  | then-octet_align w ↦ rw w.if-octet_align.true w.at-is
  | else-octet_align w ↦ rw w.if-octet_align.false w.at-is
]

pub returns-clause-place : goal.returns-clause-place
returns-clause-place c =
    c.at.ensures
    ∙ ap (λ h. record { bytes = c.args.packet.now; place = min h (8 * length c.args.packet.now) }) (place_is c)
    ∙ ap (λ h. record { bytes = c.args.packet.now; place = h }) (at_head c.args.octet_align (length c.args.packet.now) c.requires)

pub returns-clause-whole : goal.returns-clause-whole
returns-clause-whole c = whole_bytes c.args.octet_align c.args.packet.now c.at.result c.requires (returns-clause-place c)
