use Rattle.std.proofs.Common.{option_map, ◌≡◌, ◌+◌, ◌<◌, ◌-◌, ◌++◌, ◌∙◌, sym, length, get_or, arith, length-append}
use Rattle.std.proofs.lemmas.List.{get_or_append_left}
use Rattle.codec_payload_queue.specs.Tiers.{in_tiers, tiers_of}
use Rattle.codec_payload_queue.proofs.SearchLemmas.{all_below, none_below, front_rises, back_rises, front_point, back_point}
use Rattle.codec_payload_queue.proofs.TierLemmas.{length_most}
use Rattle.codec_payload_queue.proofs.tiers.TieredQueue.search.Given.{Over}
use Rattle.codec_payload_queue.proofs.tiers.TieredQueue.search.Goals.{Else-number}
use Rattle.codec_payload_queue.proofs.tiers.TieredQueue.search.Goals as goal

pub search_in-requires-then-number : goal.search_in-requires-then-number
search_in-requires-then-number g c =
    front_rises g.T.Numbered.number_of c.self.inside.first.items (in_tiers (tiers_of (option_map (λ b. b.value) c.self.inside.above))) (rw (← c.self.view_is) at c.requires)

pub search_above-requires-clause-rises : goal.search_above-requires-clause-rises
search_above-requires-clause-rises g c =
    back_rises g.T.Numbered.number_of c.self.inside.first.items (in_tiers (tiers_of (option_map (λ b. b.value) c.self.inside.above))) (rw (← c.self.view_is) at c.requires)

-- the queue's length is that of all tiers
total : (g : Over) (c : Else-number g) → c.len.result ≡ length c.self.inside.first.items + length (in_tiers (tiers_of (option_map (λ b. b.value) c.self.inside.above)))
total g c =
    let xs = c.self.inside.first.items in
    let ys = in_tiers (tiers_of (option_map (λ b. b.value) c.self.inside.above)) in
    let is : c.len.result ≡ length (xs ++ ys) = rw (← c.self.view_is) at c.len.ensures in
    omega (arith, is, length-append xs ys)

pub search_above-requires-clause-limit : goal.search_above-requires-clause-limit
search_above-requires-clause-limit g c = omega (arith, total g c)

pub overflow_add-result : goal.overflow_add-result
overflow_add-result g c =
    let xs = c.self.inside.first.items in
    let ys = in_tiers (tiers_of (option_map (λ b. b.value) c.self.inside.above)) in
    let is : c.len.result ≡ length (xs ++ ys) = rw (← c.self.view_is) at c.len.ensures in
    omega (arith, is, length-append xs ys, c.len-len.ensures, c.self.inside.first.ok.0, c.search_above.ensures.bound)

pub returns-then-number-clause-point : goal.returns-then-number-clause-point
returns-then-number-clause-point g c =
    let n = g.T.Numbered.number_of in
    let xs = c.self.inside.first.items in
    let ys = in_tiers (tiers_of (option_map (λ b. b.value) c.self.inside.above)) in
    let x = c.index.result.now in
    let rises = rw (← c.self.view_is) at c.requires in
    let most = length_most 1 (tiers_of (option_map (λ b. b.value) c.self.inside.above)) c.self.invariant.fit.tiers in
    let is : c.len.result ≡ length (xs ++ ys) = rw (← c.self.view_is) at c.len.ensures in
    let tiers : 0 < length (tiers_of (option_map (λ b. b.value) c.self.inside.above)) = omega (arith, most, is, length-append xs ys, c.len-len.ensures, c.self.inside.first.ok.0, c.if-len.false) in
    let some : 0 < length xs = omega (arith, c.self.invariant.fit.some tiers, c.self.inside.first.ok.0) in
    let l : c.len-len.result - 1 < length xs = omega (arith, some, c.len-len.ensures, c.self.inside.first.ok.0) in
    let there : x ≡ get_or (xs ++ ys) (c.len-len.result - 1) x = c.index.ensures ∙ sym (get_or_append_left xs ys x (c.len-len.result - 1) l) in
    let high = none_below n (xs ++ ys) c.args.number (c.len-len.result - 1) x rises (omega (arith, l, length-append xs ys)) there (omega (arith, c.number.ensures, c.if-number.true)) in
    rw (← c.self.view_is) (front_point n c.args.number c.search_in-then-number.result xs ys (omega (arith, c.search_in-then-number.ensures.bound, c.self.inside.first.ok.0))
    (λ i d from w. high i d (omega (arith, from, l)) w) c.search_in-then-number.ensures.point)

pub returns-else-number-clause-point : goal.returns-else-number-clause-point
returns-else-number-clause-point g c =
    let n = g.T.Numbered.number_of in
    let xs = c.self.inside.first.items in
    let ys = in_tiers (tiers_of (option_map (λ b. b.value) c.self.inside.above)) in
    let x = c.index.result.now in
    let rises = rw (← c.self.view_is) at c.requires in
    let most = length_most 1 (tiers_of (option_map (λ b. b.value) c.self.inside.above)) c.self.invariant.fit.tiers in
    let is : c.len.result ≡ length (xs ++ ys) = rw (← c.self.view_is) at c.len.ensures in
    let tiers : 0 < length (tiers_of (option_map (λ b. b.value) c.self.inside.above)) = omega (arith, most, is, length-append xs ys, c.len-len.ensures, c.self.inside.first.ok.0, c.if-len.false) in
    let some : 0 < length xs = omega (arith, c.self.invariant.fit.some tiers, c.self.inside.first.ok.0) in
    let same : c.len-len.result ≡ length xs = omega (arith, c.len-len.ensures, c.self.inside.first.ok.0) in
    let l : c.len-len.result - 1 < length xs = omega (arith, some, same) in
    let there : x ≡ get_or (xs ++ ys) (c.len-len.result - 1) x = c.index.ensures ∙ sym (get_or_append_left xs ys x (c.len-len.result - 1) l) in
    let low = all_below n (xs ++ ys) c.args.number (c.len-len.result - 1) x rises (omega (arith, l, length-append xs ys)) there (omega (arith, c.number.ensures, c.if-number.false)) in
    rw (← c.self.view_is) (back_point n c.args.number c.len-len.result c.search_above.result xs ys same (λ i d from w. low i d from (omega (arith, w, some, same))) c.search_above.ensures.point)
