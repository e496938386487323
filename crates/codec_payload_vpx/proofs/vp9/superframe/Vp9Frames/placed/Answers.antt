use Rattle.std.proofs.Common.{◌≡◌, ℕ, ◌*◌, option_map, take, drop, Some, sym, ap, ◌∙◌, arith}
use Rattle.codec_payload_vpx.specs.Vp9Superframes.{Left, frames_left, next_size, placed_in, size_sum}
use Rattle.codec_payload_vpx.proofs.SuperframeLemmas.{none_behind, placed_among, placed_behind, placed_behind_one}
use Rattle.codec_payload_vpx.proofs.vp9.superframe.Vp9Frames.placed.Goals as goal

pub returns-else-number-eq0 : goal.returns-else-number-eq0
returns-else-number-eq0 c =
    let s : Left = record { alone = option_map (λ f. f.now) c.self.inside.alone; count = c.self.inside.count; width = c.self.inside.width; sizes = c.self.inside.sizes.now; bytes = c.self.inside.bytes.now } in
    let some : s.alone ≡ Some c.in-Some.frame.now = cc in
    let empty : s.count ≡ 0 = none_behind c.self.inside.alone c.in-Some.frame c.self.inside.count c.in-Some.is c.self.invariant.2 in
    let none = placed_behind_one c.args.number s c.in-Some.frame.now some empty (omega (arith, c.if-number-eq0.false)) in
    sym (ap (λ (t : Left). placed_in c.args.number (frames_left t)) (sym c.self.view_is) ∙ none)

pub returns-then-self-number : goal.returns-then-self-number
returns-then-self-number c =
    let s : Left = record { alone = option_map (λ f. f.now) c.self.inside.alone; count = c.self.inside.count; width = c.self.inside.width; sizes = c.self.inside.sizes.now; bytes = c.self.inside.bytes.now } in
    let none = placed_behind c.args.number s (ap (option_map (λ f. f.now)) c.in_default.is) c.if-self-number.true in
    sym (ap (λ (t : Left). placed_in c.args.number (frames_left t)) (sym c.self.view_is) ∙ none)

pub returns : goal.returns
returns c =
    let s : Left = record { alone = option_map (λ f. f.now) c.self.inside.alone; count = c.self.inside.count; width = c.self.inside.width; sizes = c.self.inside.sizes.now; bytes = c.self.inside.bytes.now } in
    let n : ℕ = c.args.number in
    let there = placed_among n s (ap (option_map (λ f. f.now)) c.in_default.is) (omega (arith, c.if-self-number.false)) in
    let sum : c.size_sum-before.result ≡ size_sum n s.width s.sizes = c.size_sum-before.ensures in
    let size : c.front_size-size.result.0 ≡ next_size s.width (drop (n * s.width) s.sizes) = c.front_size-size.ensures.size ∙ ap (next_size s.width) c.cut_front-2.ensures.rest in
    let front : c.cut_front.result.0.now ≡ take (size_sum n s.width s.sizes) s.bytes = c.cut_front.ensures.front ∙ ap (λ (k : ℕ). take k s.bytes) sum in
    let behind : c.cut_front.result.1.now ≡ drop (size_sum n s.width s.sizes) s.bytes = c.cut_front.ensures.rest ∙ ap (λ (k : ℕ). drop k s.bytes) sum in
    let frame : c.cut_front-3.result.0.now ≡ take (next_size s.width (drop (n * s.width) s.sizes)) (drop (size_sum n s.width s.sizes) s.bytes) = c.cut_front-3.ensures.front ∙ ap (λ (k : ℕ). take k c.cut_front.result.1.now) size ∙ ap (take (next_size s.width (drop (n * s.width) s.sizes))) behind in
    let found = ap (λ (t : Left). placed_in n (frames_left t)) (sym c.self.view_is) ∙ there in
    rw (front, frame) (sym found)
