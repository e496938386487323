use Rattle.std.proofs.Common.{rules, ◌≡◌, ◌∙◌, false, true, refl, suc, sym, subst, arith}
use Rattle.codec_payload_sending_forward.specs.Numbers.{Numbers, is_in, is_too_old}
use Rattle.codec_payload_sending_forward.proofs.NumberLemmas.{all_below_less, not_in}
use Rattle.codec_payload_sending_forward.proofs.MapLemmas.{placed_sent}
use Rattle.codec_payload_sending_forward.proofs.renumbering.Renumbering.placed.Goals as goal

pub returns : goal.returns
returns c =
    let s = c.self.inside in
    let kept : is_in c.args.number s.left_out.items ≡ false =
    not_in c.args.number s.left_out.items (all_below_less (suc s.highest) c.args.number s.left_out.items (omega arith) c.self.invariant.2) in
    let young : is_too_old c.args.self.now c.args.number ≡ false = sym c.is_too_old.ensures ∙ search rules in
    let out : is_in c.args.number c.args.self.now.left_out ≡ false = subst (λ (x : Numbers). is_in c.args.number x.left_out ≡ false) c.self.view_is kept in
    placed_sent c.args.self.now c.args.number c.sent_as.result true young out refl (c.sent_as.ensures out)
