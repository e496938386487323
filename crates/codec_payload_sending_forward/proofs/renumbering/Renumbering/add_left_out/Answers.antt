use Rattle.std.proofs.Common.{rules, ◌≡◌, ◌<◌, ◌∷◌, sym, subst, length}
use Rattle.codec_payload_sending_forward.specs.Numbers.{Numbers}
use Rattle.codec_payload_sending_forward.proofs.MapLemmas.{added}
use Rattle.codec_payload_sending_forward.proofs.renumbering.Renumbering.add_left_out.Goals as goal

pub invariant_of-self-2 : goal.invariant_of-self-2
invariant_of-self-2 c =
    let s = c.self.inside in
    let items : c.push_front.new.self.items ≡ c.args.number ∷ s.left_out.items = search rules in
    let higher : s.highest < c.args.number = subst (λ (x : Numbers). x.highest < c.args.number) (sym c.self.view_is) c.requires.higher in
    let room : length s.left_out.items < 4096 = subst (λ (x : Numbers). length x.left_out < 4096) (sym c.self.view_is) c.requires.room in
    added s.first s.highest c.args.number s.left_out.items c.push_front.new.self.items items higher room c.self.invariant
