use Rattle.std.proofs.Common.{◌≡◌, ◌≤◌, ◌+◌, ◌-◌, arith, [], ◌∷◌, ◌∙◌, refl, sym, length, Some, None, Ok, Err}
use Rattle.codec_payload_metadata.specs.Release.{Release}
use Rattle.codec_payload_buffer.specs.Steps.{PassesOver, Pops, TakesFrame, due_of, none, one_more, packets_of_frame, released_into}
use Rattle.codec_payload_buffer.proofs.BlankLemmas.{takes_away_from}
use Rattle.codec_payload_buffer.proofs.LeavingLemmas.{left_is, more_in, passed_fits, refused_counts}
use Rattle.codec_payload_buffer.proofs.OwnLemmas.{passes_stays}
use Rattle.codec_payload_buffer.proofs.PopLemmas.{passes_shorter, release_shorter, refusal_shorter, nothing_passed}
use Rattle.codec_payload_buffer.proofs.buffer.DepacketizingBuffer.pop_counted_into.Goals as goal

pub loop-frame-init : goal.loop-frame-init
loop-frame-init g c = record { over = []; passes = none; counted = refl; fewer = omega arith; limit = refl }

pub loop-frame-smaller : goal.loop-frame-smaller
loop-frame-smaller g c = passes_shorter c.loop-frame.self c.take_frame.new.self c.due.ensures.rises (rw c.in-Ok-None.field-0-is at c.in-Ok-None.ensures.takes)

pub loop-frame-preserved : goal.loop-frame-preserved
loop-frame-preserved g c =
    let passed : PassesOver c.loop-frame.self c.take_frame.new.self = rw c.in-Ok-None.field-0-is at c.in-Ok-None.ensures.takes in
    let due : due_of c.loop-frame.self ≡ Some c.in-Some.frame = sym c.due.ensures.due ∙ c.in-Some.is in
    let size : c.len-skipped.result ≡ length (packets_of_frame c.loop-frame.self c.in-Some.frame) = omega (arith, c.len-skipped.ensures, c.take_frame.new.metas.ok.0, c.in-Ok-None.ensures.size (λ e. cc)) in
    let fits : c.len-skipped.result + length c.take_frame.new.self.held ≤ length c.loop-frame.self.held = passed_fits c.loop-frame.self c.take_frame.new.self passed c.in-Some.frame c.len-skipped.result due size in
    record {
      over = passed.frame ∷ c.loop-frame.invariant.over;
      passes = one_more c.loop-frame.invariant.passes passed;
      counted = more_in c.args.self.now c.loop-frame.self c.take_frame.new.self c.loop-frame.invariant.over passed c.in-Some.frame c.len-skipped.result c.loop-frame.skipped
          c.loop-frame.invariant.passes c.held-before.ensures.sound due size c.loop-frame.invariant.counted;
      fewer = omega (arith, c.loop-frame.invariant.fewer, fits);
      limit = c.take_frame.ensures.limit ∙ c.loop-frame.invariant.limit;
    }

pub overflow_add-skipped : goal.overflow_add-skipped
overflow_add-skipped g c =
    let passed : PassesOver c.loop-frame.self c.take_frame.new.self = rw c.in-Ok-None.field-0-is at c.in-Ok-None.ensures.takes in
    let due : due_of c.loop-frame.self ≡ Some c.in-Some.frame = sym c.due.ensures.due ∙ c.in-Some.is in
    let size : c.len-skipped.result ≡ length (packets_of_frame c.loop-frame.self c.in-Some.frame) = omega (arith, c.len-skipped.ensures, c.take_frame.new.metas.ok.0, c.in-Ok-None.ensures.size (λ e. cc)) in
    let fits : c.len-skipped.result + length c.take_frame.new.self.held ≤ length c.loop-frame.self.held = passed_fits c.loop-frame.self c.take_frame.new.self passed c.in-Some.frame c.len-skipped.result due size in
    omega (arith, c.loop-frame.invariant.fewer, fits, c.held-before.ensures.count, c.held-before.type_inv)

pub returns-in-Ok-Some-clause-waits : goal.returns-in-Ok-Some-clause-waits
returns-in-Ok-Some-clause-waits g c = λ waits. absurd (nothing_passed c.args.self.now c.loop-frame.self c.loop-frame.invariant.over c.in-Some.frame waits
    c.loop-frame.invariant.passes (sym c.due.ensures.due ∙ c.in-Some.is))

pub returns-in-Err-clause-waits : goal.returns-in-Err-clause-waits
returns-in-Err-clause-waits g c = λ waits. absurd (nothing_passed c.args.self.now c.loop-frame.self c.loop-frame.invariant.over c.in-Some.frame waits
    c.loop-frame.invariant.passes (sym c.due.ensures.due ∙ c.in-Some.is))

pub returns-in-Ok-Some-clause-fewer : goal.returns-in-Ok-Some-clause-fewer
returns-in-Ok-Some-clause-fewer g c = omega (
  arith,
  c.loop-frame.invariant.fewer,
  release_shorter c.loop-frame.self c.take_frame.new.self (released_into c.in-Ok-Some.info c.take_frame.new.bytes.items c.take_frame.new.metas.items)
      c.due.ensures.rises (rw c.in-Ok-Some.field-0-is at c.in-Ok-Some.ensures.takes),
)

pub returns-in-Err-clause-fewer : goal.returns-in-Err-clause-fewer
returns-in-Err-clause-fewer g c = λ other. omega (
  arith,
  c.loop-frame.invariant.fewer,
  refusal_shorter c.loop-frame.self c.take_frame.new.self c.in-Err.fault c.due.ensures.rises c.in-Err.ensures.takes other,
)

pub returns-in-Ok-Some-clause-own : goal.returns-in-Ok-Some-clause-own
returns-in-Ok-Some-clause-own g c = λ other.
    let own = c.take_frame.ensures.own (passes_stays c.args.self.now c.loop-frame.self c.loop-frame.invariant.over c.loop-frame.invariant.passes ∙ other) in (
      c.loop-frame.invariant.over,
      c.loop-frame.self,
      c.in-Some.frame,
      c.loop-frame.invariant.passes,
      sym c.due.ensures.due
          ∙ c.in-Some.is,
      own.0,
      own.1,
      rw (c.in-Ok-Some.is, c.in-Ok-Some.field-0-is) at own.2,
    )

pub returns-in-Err-clause-own : goal.returns-in-Err-clause-own
returns-in-Err-clause-own g c = λ other.
    let own = c.take_frame.ensures.own (passes_stays c.args.self.now c.loop-frame.self c.loop-frame.invariant.over c.loop-frame.invariant.passes ∙ other) in
    (c.loop-frame.invariant.over, c.loop-frame.self, c.in-Some.frame, c.loop-frame.invariant.passes, sym c.due.ensures.due ∙ c.in-Some.is, own.0, own.1, rw c.in-Err.is at own.2)

pub overflow_sub-before : goal.overflow_sub-before
overflow_sub-before g c =
    let unit : Release = released_into c.in-Ok-Some.info c.take_frame.new.bytes.items c.take_frame.new.metas.items in
    let takes : TakesFrame c.loop-frame.self (Ok unit) c.take_frame.new.self = rw c.in-Ok-Some.field-0-is at c.in-Ok-Some.ensures.takes in
    let took : length c.take_frame.new.metas.items + length c.take_frame.new.self.held ≤ length c.loop-frame.self.held = takes_away_from c.loop-frame.self c.take_frame.new.self (Ok unit) takes in
    omega (arith, took, c.loop-frame.invariant.fewer, c.held.ensures.count, c.held-before.ensures.count)

pub left_by-left-requires : goal.left_by-left-requires
left_by-left-requires g c =
    let unit : Release = released_into c.in-Ok-Some.info c.take_frame.new.bytes.items c.take_frame.new.metas.items in
    let takes : TakesFrame c.loop-frame.self (Ok unit) c.take_frame.new.self = rw c.in-Ok-Some.field-0-is at c.in-Ok-Some.ensures.takes in
    let took : length c.take_frame.new.metas.items + length c.take_frame.new.self.held ≤ length c.loop-frame.self.held = takes_away_from c.loop-frame.self c.take_frame.new.self (Ok unit) takes in
    omega (arith, took, c.loop-frame.invariant.fewer, c.held.ensures.count, c.held-before.ensures.count, c.len.ensures, c.take_frame.new.metas.ok.0)

pub returns-in-Ok-Some-clause-pops : goal.returns-in-Ok-Some-clause-pops
returns-in-Ok-Some-clause-pops g c =
    let unit : Release = released_into c.in-Ok-Some.info c.take_frame.new.bytes.items c.take_frame.new.metas.items in
    let takes : TakesFrame c.loop-frame.self (Ok unit) c.take_frame.new.self = rw c.in-Ok-Some.field-0-is at c.in-Ok-Some.ensures.takes in
    let took : length c.take_frame.new.metas.items + length c.take_frame.new.self.held ≤ length c.loop-frame.self.held = takes_away_from c.loop-frame.self c.take_frame.new.self (Ok unit) takes in
    let pops : Pops c.args.self.now (Some (Ok unit)) c.take_frame.new.self = (c.loop-frame.invariant.over, (c.loop-frame.self, c.loop-frame.invariant.passes, takes)) in
    let released : c.len.result ≡ length c.take_frame.new.metas.items = omega (arith, c.len.ensures, c.take_frame.new.metas.ok.0) in (
      pops,
      left_is c.args.self.now (Some (Ok unit)) c.take_frame.new.self pops c.left_by-left.result (c.held-before.result - c.held.result) c.len.result c.loop-frame.skipped 0
          c.left_by-left.ensures.incomplete c.left_by-left.ensures.skipped c.left_by-left.ensures.refused (omega (arith, c.held.ensures.count, c.held-before.ensures.count)) released
          c.loop-frame.invariant.counted refl,
    )

pub overflow_sub-before-in-Err : goal.overflow_sub-before-in-Err
overflow_sub-before-in-Err g c =
    let takes : TakesFrame c.loop-frame.self (Err c.in-Err.fault) c.take_frame.new.self = c.in-Err.ensures.takes in
    let due : due_of c.loop-frame.self ≡ Some c.in-Some.frame = sym c.due.ensures.due ∙ c.in-Some.is in
    let refused = refused_counts c.args.self.now c.loop-frame.self c.take_frame.new.self c.loop-frame.invariant.over c.in-Some.frame c.in-Err.fault c.len-in-Err.result c.refused_by-refused.result takes
    c.loop-frame.invariant.passes c.held-before.ensures.sound due c.refused_by-refused.ensures.stays c.refused_by-refused.ensures.leaves
    (λ other. omega (arith, c.len-in-Err.ensures, c.take_frame.new.metas.ok.0, c.in-Err.ensures.size (λ e. other (cc)))) in
    let fits : c.refused_by-refused.result + length c.take_frame.new.self.held ≤ length c.loop-frame.self.held = refused.fits in
    omega (arith, fits, c.loop-frame.invariant.fewer, c.held-in-Err.ensures.count, c.held-before.ensures.count)

pub left_by-left-requires-in-Err : goal.left_by-left-requires-in-Err
left_by-left-requires-in-Err g c =
    let takes : TakesFrame c.loop-frame.self (Err c.in-Err.fault) c.take_frame.new.self = c.in-Err.ensures.takes in
    let due : due_of c.loop-frame.self ≡ Some c.in-Some.frame = sym c.due.ensures.due ∙ c.in-Some.is in
    let refused = refused_counts c.args.self.now c.loop-frame.self c.take_frame.new.self c.loop-frame.invariant.over c.in-Some.frame c.in-Err.fault c.len-in-Err.result c.refused_by-refused.result takes
    c.loop-frame.invariant.passes c.held-before.ensures.sound due c.refused_by-refused.ensures.stays c.refused_by-refused.ensures.leaves
    (λ other. omega (arith, c.len-in-Err.ensures, c.take_frame.new.metas.ok.0, c.in-Err.ensures.size (λ e. other (cc)))) in
    let fits : c.refused_by-refused.result + length c.take_frame.new.self.held ≤ length c.loop-frame.self.held = refused.fits in
    omega (arith, fits, c.loop-frame.invariant.fewer, c.held-in-Err.ensures.count, c.held-before.ensures.count)

pub returns-in-Err-clause-pops : goal.returns-in-Err-clause-pops
returns-in-Err-clause-pops g c =
    let takes : TakesFrame c.loop-frame.self (Err c.in-Err.fault) c.take_frame.new.self = c.in-Err.ensures.takes in
    let due : due_of c.loop-frame.self ≡ Some c.in-Some.frame = sym c.due.ensures.due ∙ c.in-Some.is in
    let refused = refused_counts c.args.self.now c.loop-frame.self c.take_frame.new.self c.loop-frame.invariant.over c.in-Some.frame c.in-Err.fault c.len-in-Err.result c.refused_by-refused.result takes
    c.loop-frame.invariant.passes c.held-before.ensures.sound due c.refused_by-refused.ensures.stays c.refused_by-refused.ensures.leaves
    (λ other. omega (arith, c.len-in-Err.ensures, c.take_frame.new.metas.ok.0, c.in-Err.ensures.size (λ e. other (cc)))) in
    let fits : c.refused_by-refused.result + length c.take_frame.new.self.held ≤ length c.loop-frame.self.held = refused.fits in
    let pops : Pops c.args.self.now (Some (Err c.in-Err.fault)) c.take_frame.new.self = (c.loop-frame.invariant.over, (c.loop-frame.self, c.loop-frame.invariant.passes, takes)) in (
      pops,
      left_is c.args.self.now (Some (Err c.in-Err.fault)) c.take_frame.new.self pops c.left_by-left-in-Err.result (c.held-before.result - c.held-in-Err.result) 0 c.loop-frame.skipped
          c.refused_by-refused.result
          c.left_by-left-in-Err.ensures.incomplete c.left_by-left-in-Err.ensures.skipped c.left_by-left-in-Err.ensures.refused
          (omega (arith, c.held-in-Err.ensures.count, c.held-before.ensures.count)) refl c.loop-frame.invariant.counted refused.counted,
    )

pub returns-clause-pops : goal.returns-clause-pops
returns-clause-pops g c =
    let pops : Pops c.args.self.now None c.loop-frame.self = (c.loop-frame.invariant.over, (c.loop-frame.invariant.passes, sym c.due.ensures.due ∙ c.in_default.is)) in (
      pops,
      left_is c.args.self.now None c.loop-frame.self pops c.left_by.result (c.held-before.result - c.held-2.result) 0 c.loop-frame.skipped 0 c.left_by.ensures.incomplete c.left_by.ensures.skipped
          c.left_by.ensures.refused (omega (arith, c.held-2.ensures.count, c.held-before.ensures.count)) refl c.loop-frame.invariant.counted refl,
    )
