use Rattle.codec_payload_feedback_xr.proofs.ExchangeLemmas.{both_appended}
use Rattle.codec_payload_feedback_xr.proofs.exchange.TimeExchange.write.Goals as goal

pub returns-else-is_err-clause-packets : goal.returns-else-is_err-clause-packets
returns-else-is_err-clause-packets c =
    both_appended c.write_dlrr-answer.result c.args.out.now.items c.write_reference_time.new.out.items c.write_dlrr-answer.new.out.items c.args.ssrc c.args.time c.middle_bits.result c.args.self.now c.in-Some.peer
    c.answer_to.result c.in-Some.is c.middle_bits.ensures c.answer_to.ensures c.in_ok-write_reference_time.ensures.ok c.write_dlrr-answer.ensures.ok
