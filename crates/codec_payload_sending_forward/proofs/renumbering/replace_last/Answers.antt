use Rattle.std.proofs.Common.{rules, ◌≡◌, ◌∙◌, ◌-◌, ap, take, get_or, ◌∷◌, ℕ, arith}
use Rattle.std.specs.VecDeque.{deque_len}
use Rattle.codec_payload_sending_forward.proofs.NumberLemmas.{all_below_at}
use Rattle.codec_payload_sending_forward.proofs.renumbering.replace_last.Goals as goal

pub returns-clause-low : goal.returns-clause-low
returns-clause-low c =
    let last : c.unwrap-last.result ≡ get_or c.args.numbers.now.items 4095 0 = search rules in
    omega (arith, last, all_below_at c.args.number 4095 c.args.numbers.now.items (omega (arith, c.requires.full)) c.requires.falls)

pub returns-clause-items : goal.returns-clause-items
returns-clause-items c =
    let count : deque_len c.args.numbers.now - 1 ≡ 4095 = omega (arith, c.requires.full, c.args.numbers.now.ok.0) in
    c.push_front_reserved.ensures.items ∙ ap (λ xs. c.args.number ∷ xs) (c.pop_back.ensures.rest ∙ ap (λ (n : ℕ). take n c.args.numbers.now.items) count)
