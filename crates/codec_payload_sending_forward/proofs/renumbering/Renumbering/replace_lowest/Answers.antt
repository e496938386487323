use Rattle.std.proofs.Common.{◌≡◌, ◌<◌, suc, sym, subst, length, arith}
use Rattle.codec_payload_sending_forward.specs.Numbers.{Numbers}
use Rattle.codec_payload_sending_forward.proofs.NumberLemmas.{all_below_less}
use Rattle.codec_payload_sending_forward.proofs.MapLemmas.{replaced}
use Rattle.codec_payload_sending_forward.proofs.renumbering.Renumbering.replace_lowest.Goals as goal

pub replace_last-lowest-requires-clause-falls : goal.replace_last-lowest-requires-clause-falls
replace_last-lowest-requires-clause-falls c =
    let s = c.self.inside in
    let higher : s.highest < c.args.number = subst (λ (x : Numbers). x.highest < c.args.number) (sym c.self.view_is) c.requires.higher in
    all_below_less (suc s.highest) c.args.number s.left_out.items (omega (arith, higher)) c.self.invariant.2

pub invariant_of-self : goal.invariant_of-self
invariant_of-self c =
    let s = c.self.inside in
    let higher : s.highest < c.args.number = subst (λ (x : Numbers). x.highest < c.args.number) (sym c.self.view_is) c.requires.higher in
    let full : length s.left_out.items ≡ 4096 = subst (λ (x : Numbers). length x.left_out ≡ 4096) (sym c.self.view_is) c.requires.full in
    replaced s.first s.highest c.args.number c.replace_last-lowest.result s.left_out.items c.replace_last-lowest.new.numbers.items c.replace_last-lowest.ensures.items higher
    c.replace_last-lowest.ensures.low full c.self.invariant
