use Rattle.std.proofs.Common.{◌≡◌, ◌∙◌, ℕ, ◌+◌, ◌-◌, List, [], ◌∷◌, ◌++◌, ap, arith, drop, length, sym}
use Rattle.codec_payload_feedback_transport.proofs.sent.push_time.Goals as goal

pub returns-then-len-limit-clause-ok : goal.returns-then-len-limit-clause-ok
returns-then-len-limit-clause-ok c =
    let times : List ℕ = c.args.times.now.items in
    let one : length times + 1 - c.args.limit ≡ 1 = omega (arith, c.if-len-limit.true, c.len.ensures, c.push_back.ensures.len, c.in_ok-push_back.ensures.len, c.args.times.now.ok.0, c.requires.within, c.requires.some) in
    c.pop_front.ensures.rest ∙ ap (λ (xs : List ℕ). drop 1 xs) c.in_ok-push_back.ensures.items ∙ ap (λ (n : ℕ). drop n (times ++ c.args.time ∷ [])) (sym one)
