use Rattle.std.proofs.Common.{arith, rules}
use Rattle.codec_payload_feedback_congestion.proofs.ReadingLemmas.{digits_more, digits_none}
use Rattle.codec_payload_feedback_congestion.proofs.chunks.+push_digits.Goals as goal

pub returns-then-count-eq0 : goal.returns-then-count-eq0
returns-then-count-eq0 t c = digits_none c.args.base c.args.count c.args.word c.args.out.now.items (omega arith)

pub returns : goal.returns
returns t c = digits_more c.args.base c.args.count c.args.word c.args.out.now.items c.push_digits.new.out.items c.push.new.self.items (omega arith) c.in_ok-push_digits.ensures (search rules)
