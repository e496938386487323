use Rattle.std.proofs.Common.{◌≡◌, ◌∷◌, ◌∙◌, ◌*◌, ◌<◌, ◌+◌, ◌-◌, ◌/◌, ◌%◌, ℕ, List, ap, arith, drop, false, length, subst, sym, take, true, Option, Some, None}
use Rattle.std.specs.Prelude.{slice_get}
use Rattle.std.specs.Global.{Vec}
use Rattle.codec_payload_index.specs.Times.{AreLevels, bottom, first_come_from, halved, has_come, place_below}
use Rattle.codec_payload_index.proofs.FromLemmas.{found_at, found_within_from, from_above, has_above, is_top, levels_split, none_at_top}
use Rattle.codec_payload_index.proofs.times.+first_from.Goals as goal

pub returns-then-has_come : goal.returns-then-has_come
returns-then-has_come t c =
    let x : Vec ℕ = c.level-item.result in
    let come : has_come (slice_get x.items c.args.from) c.args.now ≡ true =
    ap (λ (ts : List ℕ). has_come (slice_get ts c.args.from) c.args.now) (sym c.deref.ensures.value) ∙ sym c.has_come.ensures ∙ c.if-has_come.true in
    found_at c.args.from c.args.now x.items come
    ∙ ap (λ (ls : List (Vec ℕ)). first_come_from c.args.from c.args.now (bottom ls)) (sym (levels_split c.args.levels.now x c.in-len1-up.len_at_least c.level-item.is))

pub returns-then-above-eq0 : goal.returns-then-above-eq0
returns-then-above-eq0 t c =
    let x : Vec ℕ = c.level-item.result in
    let rest : List (Vec ℕ) = take (length c.args.levels.now - 1) (drop 1 c.args.levels.now) in
    let split : c.args.levels.now ≡ x ∷ rest = levels_split c.args.levels.now x c.in-len1-up.len_at_least c.level-item.is in
    let levels : AreLevels (x ∷ rest) = subst (λ (ls : List (Vec ℕ)). AreLevels ls) split c.requires in
    let not_come : has_come (slice_get x.items c.args.from) c.args.now ≡ false =
    ap (λ (ts : List ℕ). has_come (slice_get ts c.args.from) c.args.now) (sym c.deref.ensures.value) ∙ sym c.has_come.ensures ∙ c.if-has_come.false in
    none_at_top c.args.from c.args.now x.items not_come (is_top x rest levels c.if-above-eq0.true)
    ∙ ap (λ (ls : List (Vec ℕ)). first_come_from c.args.from c.args.now (bottom ls)) (sym split)

pub place_in-requires : goal.place_in-requires
place_in-requires t c =
    let x : Vec ℕ = c.level-item.result in
    let rest : List (Vec ℕ) = take (length c.args.levels.now - 1) (drop 1 c.args.levels.now) in
    let split : c.args.levels.now ≡ x ∷ rest = levels_split c.args.levels.now x c.in-len1-up.len_at_least c.level-item.is in
    let levels : AreLevels (x ∷ rest) = subst (λ (ls : List (Vec ℕ)). AreLevels ls) split c.requires in
    let some : 0 < length rest = omega (arith, c.if-above-eq0.false) in
    let above : bottom rest ≡ halved x.items = (has_above x rest levels some).0 in
    let found : Some c.in-Some.pair ≡ first_come_from (c.args.from / 2 + c.args.from % 2) c.args.now (halved x.items) =
    sym c.in-Some.is ∙ c.first_from.ensures ∙ ap (λ (ts : List ℕ). first_come_from (c.args.from / 2 + c.args.from % 2) c.args.now ts) above in
    subst (λ (ts : List ℕ). 2 * c.in-Some.pair < length ts) (sym c.deref-in-Some.ensures.value) (found_within_from (c.args.from / 2 + c.args.from % 2) c.args.now x.items c.in-Some.pair found)

pub returns-in-Some : goal.returns-in-Some
returns-in-Some t c =
    let x : Vec ℕ = c.level-item.result in
    let rest : List (Vec ℕ) = take (length c.args.levels.now - 1) (drop 1 c.args.levels.now) in
    let half : ℕ = c.args.from / 2 + c.args.from % 2 in
    let split : c.args.levels.now ≡ x ∷ rest = levels_split c.args.levels.now x c.in-len1-up.len_at_least c.level-item.is in
    let levels : AreLevels (x ∷ rest) = subst (λ (ls : List (Vec ℕ)). AreLevels ls) split c.requires in
    let some : 0 < length rest = omega (arith, c.if-above-eq0.false) in
    let above : bottom rest ≡ halved x.items = (has_above x rest levels some).0 in
    let not_come : has_come (slice_get x.items c.args.from) c.args.now ≡ false =
    ap (λ (ts : List ℕ). has_come (slice_get ts c.args.from) c.args.now) (sym c.deref.ensures.value) ∙ sym c.has_come.ensures ∙ c.if-has_come.false in
    let found : first_come_from half c.args.now (halved x.items) ≡ Some c.in-Some.pair =
    ap (λ (ts : List ℕ). first_come_from half c.args.now ts) (sym above) ∙ sym c.first_from.ensures ∙ c.in-Some.is in
    c.place_in.ensures ∙ ap (λ (ts : List ℕ). place_below c.args.now ts (Some c.in-Some.pair)) c.deref-in-Some.ensures.value
    ∙ ap (λ (o : Option ℕ). place_below c.args.now x.items o) (sym found) ∙ sym (from_above c.args.from c.args.now x.items not_come)
    ∙ ap (λ (ls : List (Vec ℕ)). first_come_from c.args.from c.args.now (bottom ls)) (sym split)

pub returns-in-None : goal.returns-in-None
returns-in-None t c =
    let x : Vec ℕ = c.level-item.result in
    let rest : List (Vec ℕ) = take (length c.args.levels.now - 1) (drop 1 c.args.levels.now) in
    let half : ℕ = c.args.from / 2 + c.args.from % 2 in
    let split : c.args.levels.now ≡ x ∷ rest = levels_split c.args.levels.now x c.in-len1-up.len_at_least c.level-item.is in
    let levels : AreLevels (x ∷ rest) = subst (λ (ls : List (Vec ℕ)). AreLevels ls) split c.requires in
    let some : 0 < length rest = omega (arith, c.if-above-eq0.false) in
    let above : bottom rest ≡ halved x.items = (has_above x rest levels some).0 in
    let not_come : has_come (slice_get x.items c.args.from) c.args.now ≡ false =
    ap (λ (ts : List ℕ). has_come (slice_get ts c.args.from) c.args.now) (sym c.deref.ensures.value) ∙ sym c.has_come.ensures ∙ c.if-has_come.false in
    let found : first_come_from half c.args.now (halved x.items) ≡ None =
    ap (λ (ts : List ℕ). first_come_from half c.args.now ts) (sym above) ∙ sym c.first_from.ensures ∙ c.in-None.is in
    ap (λ (o : Option ℕ). place_below c.args.now x.items o) (sym found) ∙ sym (from_above c.args.from c.args.now x.items not_come)
    ∙ ap (λ (ls : List (Vec ℕ)). first_come_from c.args.from c.args.now (bottom ls)) (sym split)
