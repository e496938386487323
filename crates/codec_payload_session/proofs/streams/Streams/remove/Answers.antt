use Rattle.std.proofs.Common.{◌≡◌, ◌∙◌, ◌<◌, ℕ, List, length, ap, arith, subst, sym}
use Rattle.std.specs.List.{remove}
use Rattle.codec_payload_session.specs.Arrivals.{Port}
use Rattle.codec_payload_session_stream.specs.Waking.{ssrcs_of}
use Rattle.codec_payload_session_stream.proofs.WakingLemmas.{says_bound}
use Rattle.codec_payload_session_stream.proofs.SsrcLemmas.{count_of}
use Rattle.codec_payload_session.proofs.SsrcLemmas.{of_removed}
use Rattle.codec_payload_session.proofs.streams.Streams.remove.Goals as goal

pub remove-requires : goal.remove-requires
remove-requires c =
    let ss = c.self.inside.list.items in
    let within : c.args.place < length ss = subst (λ (p : Port). c.args.place < length p.streams) (sym c.self.view_is) c.requires in
    let long : length c.self.inside.ssrcs ≡ length ss = ap (λ (l : List ℕ). length l) c.self.invariant.listed ∙ count_of ss in
    omega (arith, within, long)

pub invariant_of-self : goal.invariant_of-self
invariant_of-self c =
    let ss = c.self.inside.list.items in
    record {
      bound = says_bound c.forget.new.self c.remove-gone.new.self.items c.forget.ensures;
      listed = c.remove.ensures ∙ ap (λ (l : List ℕ). remove l c.args.place) c.self.invariant.listed ∙ sym (of_removed ss c.args.place) ∙ sym (ap ssrcs_of c.remove-gone.ensures.items);
    }
