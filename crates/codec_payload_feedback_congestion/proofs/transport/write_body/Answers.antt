use Rattle.std.proofs.Common.{◌≡◌, ◌++◌, [], ap, ◌∙◌, List, ℕ, arith, rules}
use Rattle.codec_payload_feedback_congestion.specs.Feedback.{symbols_of}
use Rattle.codec_payload_feedback_congestion.proofs.FeedbackLemmas.{below_written, body_written}
use Rattle.codec_payload_feedback_congestion.proofs.transport.write_body.Goals as goal

pub write_chunks-requires : goal.write_chunks-requires
write_chunks-requires c =
    let none : c.reserve.new.self.items ≡ [] = search rules in
    let same : c.deref.result.now ≡ c.put_symbols.new.symbols.items = search rules in
    below_written c.args.reference c.args.statuses.now c.deref.result.now c.put_symbols.new.symbols.items c.reserve.new.self.items none same c.in_ok-put_symbols.ensures c.requires

pub returns : goal.returns
returns c =
    let none : c.reserve.new.self.items ≡ [] = search rules in
    let same : c.deref.result.now ≡ c.put_symbols.new.symbols.items = search rules in
    let are : c.deref.result.now ≡ symbols_of c.args.reference c.args.statuses.now = same ∙ c.in_ok-put_symbols.ensures ∙ ap (λ (t : List ℕ). t ++ symbols_of c.args.reference c.args.statuses.now) none in
    body_written c.args.body.now.items c.write_chunks.new.out.items c.put_deltas.new.out.items c.fill.new.out.items c.deref.result.now c.args.reference c.args.statuses.now (omega arith) c.requires are
    c.in_ok-write_chunks.ensures c.in_ok-put_deltas.ensures c.in_ok-fill.ensures
