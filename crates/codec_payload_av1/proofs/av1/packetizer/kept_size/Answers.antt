use Rattle.std.proofs.Common.{◌≡◌, ℕ, ◌<◌, ◌+◌, sym, subst, length, arith}
use Rattle.std.proofs.lemmas.Grind.{common_steps}
use Rattle.std.specs.Option.{option_map}
use Rattle.codec_payload_av1.specs.Av1Obu.{frame_kept, view}
use Rattle.codec_payload_av1.specs.Av1Size.{bytes_sent}
use Rattle.codec_payload_av1.proofs.Av1ReadingObus.{count_starts, count_goes_on, count_fails, count_ends, sent_and_rest, shorter}
use Rattle.codec_payload_av1.proofs.av1.packetizer.kept_size.Goals as goal

pub loop-rest-init : goal.loop-rest-init
loop-rest-init c = record { so_far = count_starts c.args.frame.now; few = omega arith }

pub returns-in_default : goal.returns-in_default
returns-in_default c =
    let some : 0 < length c.loop-rest.rest.now = grind (arith, common_steps) in
    count_fails c.loop-rest.size c.loop-rest.rest.now _ some c.in_default.ensures c.loop-rest.invariant.so_far

pub loop-rest-smaller : goal.loop-rest-smaller
loop-rest-smaller c = shorter c.loop-rest.rest.now c.in-Some.after.now (view c.in-Some.obu) c.in-Some.ensures

pub overflow_add-size : goal.overflow_add-size
overflow_add-size c = omega (arith, c.size_where_kept-size.ensures, sent_and_rest c.loop-rest.rest.now c.in-Some.after.now (view c.in-Some.obu) c.in-Some.ensures)

pub loop-rest-preserved : goal.loop-rest-preserved
loop-rest-preserved c =
    let some : 0 < length c.loop-rest.rest.now = grind (arith, common_steps) in
    record {
      so_far = subst (λ (m : ℕ). option_map (λ os. c.loop-rest.size + m + bytes_sent os) (frame_kept c.in-Some.after.now) ≡ option_map bytes_sent
          (frame_kept c.args.frame.now)) (sym c.size_where_kept-size.ensures)
          (count_goes_on c.loop-rest.size c.loop-rest.rest.now c.in-Some.after.now (view c.in-Some.obu) _ some c.in-Some.ensures c.loop-rest.invariant.so_far);
      few = omega (arith, c.size_where_kept-size.ensures, sent_and_rest c.loop-rest.rest.now c.in-Some.after.now (view c.in-Some.obu) c.in-Some.ensures);
    }

pub returns : goal.returns
returns c =
    let none : length c.loop-rest.rest.now ≡ 0 = grind (arith, common_steps) in
    count_ends c.loop-rest.size c.loop-rest.rest.now _ none c.loop-rest.invariant.so_far
