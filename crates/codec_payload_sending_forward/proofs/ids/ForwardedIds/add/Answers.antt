use Rattle.std.proofs.Common.{rules, ◌≡◌, ◌<◌, ◌∷◌, true, sym, subst, length}
use Rattle.codec_payload_sending_forward.specs.Ids.{Ids, is_ahead}
use Rattle.codec_payload_sending_forward.proofs.IdLemmas.{picture_added}
use Rattle.codec_payload_sending_forward.proofs.ids.ForwardedIds.add.Goals as goal

pub invariant_of-self-2 : goal.invariant_of-self-2
invariant_of-self-2 c =
    let s = c.self.inside in
    let items : c.add_picture.new.left_out.items ≡ c.args.number ∷ s.left_out.items = search rules in
    let ahead : is_ahead c.args.number s.left_out.items ≡ true = subst (λ (m : Ids). is_ahead c.args.number m.left_out ≡ true) (sym c.self.view_is) c.requires.ahead in
    let room : length s.left_out.items < 4096 = subst (λ (m : Ids). length m.left_out < 4096) (sym c.self.view_is) c.requires.room in
    picture_added c.args.number s.left_out.items c.add_picture.new.left_out.items items ahead room c.self.invariant.0
