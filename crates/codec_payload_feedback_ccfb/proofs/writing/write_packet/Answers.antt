use Rattle.std.proofs.Common.{◌≡◌, ◌∙◌, ◌+◌, ap, arith, length, map}
use Rattle.codec_payload_feedback_ccfb.specs.Ccfb.{Congestion, report_of, reports_bytes}
use Rattle.codec_payload_feedback_ccfb.proofs.CcfbLemmas.{length_body, length_reports}
use Rattle.codec_payload_feedback_ccfb.proofs.writing.write_packet.Goals as goal

pub put_packet-requires-clause-whole : goal.put_packet-requires-clause-whole
put_packet-requires-clause-whole c =
    let f : Congestion = record { sender = c.args.sender_ssrc; reports = map report_of c.args.reports.now; timestamp = c.args.timestamp } in
    let long : length c.deref.result.now ≡ 8 + length (reports_bytes f.reports) = ap length (c.deref.ensures.value ∙ c.in_ok-write_body.ensures) ∙ length_body f in
    omega (arith, long, (length_reports 262132 f.reports c.requires).1)

pub put_packet-requires-clause-short : goal.put_packet-requires-clause-short
put_packet-requires-clause-short c =
    let f : Congestion = record { sender = c.args.sender_ssrc; reports = map report_of c.args.reports.now; timestamp = c.args.timestamp } in
    let long : length c.deref.result.now ≡ 8 + length (reports_bytes f.reports) = ap length (c.deref.ensures.value ∙ c.in_ok-write_body.ensures) ∙ length_body f in
    omega (arith, long, (length_reports 262132 f.reports c.requires).0)
