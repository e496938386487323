use Rattle.std.proofs.Common.{◌≡◌, ◌<◌, ℕ, ◌^◌, ◌∙◌, List, length, get_or, map, arith, subst, sym, ap}
use Rattle.std.specs.List.{remove}
use Rattle.codec_payload_index.specs.Ssrcs.{lowered}
use Rattle.codec_payload_index.specs.declared.ssrcs.Entry.{Entry}
use Rattle.codec_payload_index.proofs.EntryLemmas.{IsPoint, dropped, entry_at, point_of, same_there}
use Rattle.codec_payload_index.proofs.ssrcs.Ssrcs.remove.Goals as goal

pub remove-requires : goal.remove-requires
remove-requires c =
    let ss = c.self.inside.list.items in
    let es = c.self.inside.entries.items in
    let within : c.args.place < length ss = subst (λ (l : List ℕ). c.args.place < length l) (sym c.self.view_is) c.requires in
    let few : length ss < 2 ^ 64 = omega (arith, c.self.inside.list.ok.0) in
    let has : get_or ss c.args.place 0 ≡ c.remove-ssrc.result = same_there ss c.args.place 0 c.remove-ssrc.result within ∙ sym c.remove-ssrc.ensures.value in
    let point : IsPoint c.remove-ssrc.result c.args.place c.search-at.result es =
    subst (λ (l : List Entry). IsPoint c.remove-ssrc.result c.args.place c.search-at.result l) c.deref.ensures.value (point_of c.remove-ssrc.result c.args.place c.search-at.result c.deref.result.now c.search-at.ensures.point) in
    let it = entry_at ss es c.args.place c.remove-ssrc.result c.search-at.result (record { ssrc = 0; place = 0 }) few c.self.invariant within has point in
    omega (arith, it.within, c.self.inside.entries.ok.0)

pub invariant_of-self : goal.invariant_of-self
invariant_of-self c =
    let ss = c.self.inside.list.items in
    let es = c.self.inside.entries.items in
    let within : c.args.place < length ss = subst (λ (l : List ℕ). c.args.place < length l) (sym c.self.view_is) c.requires in
    let few : length ss < 2 ^ 64 = omega (arith, c.self.inside.list.ok.0) in
    let has : get_or ss c.args.place 0 ≡ c.remove-ssrc.result = same_there ss c.args.place 0 c.remove-ssrc.result within ∙ sym c.remove-ssrc.ensures.value in
    let point : IsPoint c.remove-ssrc.result c.args.place c.search-at.result es =
    subst (λ (l : List Entry). IsPoint c.remove-ssrc.result c.args.place c.search-at.result l) c.deref.ensures.value (point_of c.remove-ssrc.result c.args.place c.search-at.result c.deref.result.now c.search-at.ensures.point) in
    let it = entry_at ss es c.args.place c.remove-ssrc.result c.search-at.result (record { ssrc = 0; place = 0 }) few c.self.invariant within has point in
    let list : c.remove-ssrc.new.self.items ≡ remove ss c.args.place = c.remove-ssrc.ensures.items in
    let entries : c.lower.new.entries.items ≡ map (lowered c.args.place) (remove es c.search-at.result) = c.lower.ensures ∙ ap (map (lowered c.args.place)) c.remove.ensures.items in
    rw (list, entries) (dropped ss es c.args.place c.search-at.result few c.self.invariant within it)
