use Rattle.std.proofs.Common.{rules, arith}
use Rattle.codec_payload_sending_forward.proofs.SearchLemmas.{above_front}
use Rattle.codec_payload_sending_forward.proofs.renumbering.is_above_all.Goals as goal

pub returns-else-highest-number : goal.returns-else-highest-number
returns-else-highest-number c =
    let none = above_front c.args.number c.in-Some.highest.now c.args.numbers.now.items (search rules) c.requires (search rules) (omega (arith, c.if-highest-number.false)) in
    λ t. none
