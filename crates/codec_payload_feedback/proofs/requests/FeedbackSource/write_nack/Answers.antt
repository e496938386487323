use Rattle.std.proofs.Common.{◌≡◌, [], rules, sym}
use Rattle.codec_payload_feedback.proofs.FeedbackLemmas.{nack_none, pairs_some}
use Rattle.codec_payload_feedback.proofs.requests.FeedbackSource.write_nack.Goals as goal

pub returns-then-is_empty : goal.returns-then-is_empty
returns-then-is_empty c = nack_none c.args.self.now.ssrc c.args.media_ssrc c.args.numbers.now c.args.out.now.items (sym c.if-is_empty.ensures)

pub write-requires-clause-some : goal.write-requires-clause-some
write-requires-clause-some c =
    let none : c.new-pairs.result.items ≡ [] = search rules in
    let same : c.deref.result.now ≡ c.pack_numbers.new.out.items = search rules in
    pairs_some c.args.numbers.now c.new-pairs.result.items c.pack_numbers.new.out.items c.deref.result.now none same (sym c.if-is_empty.ensures) c.in_ok-pack_numbers.ensures
