use Rattle.std.proofs.Common.{◌≡◌, ◌<◌, ◌≤◌, ◌++◌, ◌∷◌, [], ℕ, ◌^◌, ◌∙◌, List, length, arith, subst, ap, refl}
use Rattle.std.specs.List.{insert}
use Rattle.codec_payload_index.specs.declared.ssrcs.Entry.{Entry}
use Rattle.codec_payload_index.proofs.EntryLemmas.{IsPoint, added, point_of}
use Rattle.codec_payload_index.proofs.ssrcs.Ssrcs.push.Goals as goal

pub invariant_of-self-2 : goal.invariant_of-self-2
invariant_of-self-2 c =
    let ss = c.self.inside.list.items in
    let es = c.self.inside.entries.items in
    let at = c.search-at.result in
    let e : Entry = record { ssrc = c.args.ssrc; place = c.len-place.result } in
    let few : length ss < 2 ^ 64 = omega (arith, c.self.inside.list.ok.0) in
    let there : c.len-place.result ≡ length ss = omega (arith, c.len-place.ensures, c.in_ok-reserve.ensures.len, c.self.inside.list.ok.0) in
    let same : c.deref.result.now ≡ es = c.deref.ensures.value ∙ c.in_ok-reserve-2.ensures.items in
    let point : IsPoint c.args.ssrc (length ss) at es = subst (λ (n : ℕ). IsPoint c.args.ssrc n at es) there
    (subst (λ (l : List Entry). IsPoint c.args.ssrc c.len-place.result at l) same (point_of c.args.ssrc c.len-place.result at c.deref.result.now c.search-at.ensures.point)) in
    let le : at ≤ length es = omega (arith, c.search-at.ensures.bound, ap (λ (l : List Entry). length l) same) in
    let entries : c.insert.new.self.items ≡ insert es at e = (rw c.unwrap.ensures at c.insert.ensures.items) ∙ ap (λ (l : List Entry). insert l at e) c.in_ok-reserve-2.ensures.items in
    let list : c.push.new.self.items ≡ ss ++ c.args.ssrc ∷ [] = (rw c.unwrap-2.ensures at c.push.ensures.items) ∙ ap (λ (l : List ℕ). l ++ c.args.ssrc ∷ []) c.in_ok-reserve.ensures.items in
    rw (entries, list) (added ss es c.args.ssrc at e few c.self.invariant point le refl there)
