use Rattle.std.proofs.Common.{◌≡◌, true, sym, subst}
use Rattle.codec_payload_sending_forward.specs.Ids.{Ids, is_ahead}
use Rattle.codec_payload_sending_forward.proofs.IdLemmas.{ahead_below, picture_put}
use Rattle.codec_payload_sending_forward.proofs.ids.ForwardedIds.replace_lowest.Goals as goal

pub replace_last-requires-clause-falls : goal.replace_last-requires-clause-falls
replace_last-requires-clause-falls c =
    let s = c.self.inside in
    let ahead : is_ahead c.args.number s.left_out.items ≡ true = subst (λ (m : Ids). is_ahead c.args.number m.left_out ≡ true) (sym c.self.view_is) c.requires.ahead in
    ahead_below c.args.number s.left_out.items c.self.invariant.0 ahead

pub invariant_of-self : goal.invariant_of-self
invariant_of-self c =
    let s = c.self.inside in
    let ahead : is_ahead c.args.number s.left_out.items ≡ true = subst (λ (m : Ids). is_ahead c.args.number m.left_out ≡ true) (sym c.self.view_is) c.requires.ahead in
    picture_put c.args.number s.left_out.items c.replace_last.new.numbers.items c.replace_last.ensures.items ahead c.self.invariant.0
