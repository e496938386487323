use Rattle.std.proofs.Common.{◌≡◌, ◌∙◌, ◌*◌, ◌/◌, ap, sym, subst, List, ℕ, Ok, arith, rules}
use Rattle.codec_payload_feedback_congestion.specs.Chunks.{symbols_at}
use Rattle.codec_payload_feedback_congestion.specs.Feedback.{Fails, only_statuses, statuses_at}
use Rattle.codec_payload_feedback_congestion.proofs.ReadingLemmas.{fails_first, fails_second, gives_both}
use Rattle.codec_payload_feedback_congestion.proofs.transport.read_body.Goals as goal

pub returns-in-Err : goal.returns-in-Err
returns-in-Err c =
    let number : c.from.result ≡ c.args.count = omega arith in
    fails_first c.args.base c.args.count c.args.word c.args.bytes.now c.in-Err.error (subst (λ (n : ℕ). Fails c.in-Err.error (symbols_at n c.args.bytes.now)) number c.in-Err.ensures)

pub returns-in-Err-read_statuses : goal.returns-in-Err-read_statuses
returns-in-Err-read_statuses c =
    let number : c.from.result ≡ c.args.count = omega arith in
    let same : c.deref.result.now ≡ c.read_symbols.new.symbols.items = search rules in
    let first : symbols_at c.args.count c.args.bytes.now ≡ Ok (c.read_symbols.new.symbols.items, c.in-Ok.rest.now) = ap (λ (n : ℕ). symbols_at n c.args.bytes.now) (sym number) ∙ c.in-Ok.ensures in
    fails_second c.args.base c.args.count c.args.word c.args.bytes.now c.read_symbols.new.symbols.items c.in-Ok.rest.now c.in-Err-read_statuses.error first
    (subst (λ (l : List ℕ). Fails c.in-Err-read_statuses.error (only_statuses (statuses_at (256 * (c.args.word / 256)) l c.in-Ok.rest.now))) same c.in-Err-read_statuses.ensures)

pub returns : goal.returns
returns c =
    let number : c.from.result ≡ c.args.count = omega arith in
    let same : c.deref.result.now ≡ c.read_symbols.new.symbols.items = search rules in
    let first : symbols_at c.args.count c.args.bytes.now ≡ Ok (c.read_symbols.new.symbols.items, c.in-Ok.rest.now) = ap (λ (n : ℕ). symbols_at n c.args.bytes.now) (sym number) ∙ c.in-Ok.ensures in
    gives_both c.args.base c.args.count c.args.word c.args.bytes.now c.read_symbols.new.symbols.items c.in-Ok.rest.now c.read_statuses.new.statuses.items first
    (ap (λ (l : List ℕ). only_statuses (statuses_at (256 * (c.args.word / 256)) l c.in-Ok.rest.now)) (sym same) ∙ c.in_default.ensures)
