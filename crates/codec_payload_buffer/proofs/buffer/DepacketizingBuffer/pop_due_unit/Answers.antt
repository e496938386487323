use Rattle.std.proofs.Common.{◌≡◌, ◌≤◌, ◌+◌, ◌-◌, arith, [], ◌∷◌, ◌∙◌, refl, sym, length, Some, None, Ok, Err}
use Rattle.codec_payload_metadata.specs.Release.{Release}
use Rattle.codec_payload_buffer.specs.Steps.{PassesOver, Pops, TakesFrame, due_of, none, one_more, packets_of_frame}
use Rattle.codec_payload_buffer.proofs.BlankLemmas.{takes_away_from}
use Rattle.codec_payload_buffer.proofs.LeavingLemmas.{left_is, more_in, passed_fits, refused_counts}
use Rattle.codec_payload_buffer.proofs.OwnLemmas.{passes_stays}
use Rattle.codec_payload_buffer.proofs.PopLemmas.{passes_shorter, release_shorter, refusal_shorter}
use Rattle.codec_payload_buffer.proofs.buffer.DepacketizingBuffer.pop_due_unit.Goals as goal

pub loop-due-init : goal.loop-due-init
loop-due-init g c = record { over = []; passes = none; counted = refl; fewer = omega arith; limit = refl; due = sym c.requires; rises = c.held-before.ensures.sound.rises }

pub loop-due-smaller : goal.loop-due-smaller
loop-due-smaller g c = passes_shorter c.loop-due.self c.take_unit.new.self c.loop-due.invariant.rises (rw c.in-Ok-Skipped.field-0-is at c.in-Ok-Skipped.ensures.takes)

pub loop-due-preserved : goal.loop-due-preserved
loop-due-preserved g c =
    let passed : PassesOver c.loop-due.self c.take_unit.new.self = rw c.in-Ok-Skipped.field-0-is at c.in-Ok-Skipped.ensures.takes in
    let due : due_of c.loop-due.self ≡ Some c.in-Some.frame = sym c.loop-due.invariant.due ∙ c.in-Some.is in
    let size : c.packets-skipped.result ≡ length (packets_of_frame c.loop-due.self c.in-Some.frame) = omega (arith, c.packets-skipped.ensures, c.in-Ok-Skipped.ensures.size (λ e. cc)) in
    let fits : c.packets-skipped.result + length c.take_unit.new.self.held ≤ length c.loop-due.self.held = passed_fits c.loop-due.self c.take_unit.new.self passed c.in-Some.frame c.packets-skipped.result due size in
    record {
      over = passed.frame ∷ c.loop-due.invariant.over;
      passes = one_more c.loop-due.invariant.passes passed;
      counted = more_in c.args.self.now c.loop-due.self c.take_unit.new.self c.loop-due.invariant.over passed c.in-Some.frame c.packets-skipped.result c.loop-due.skipped
          c.loop-due.invariant.passes c.held-before.ensures.sound due size c.loop-due.invariant.counted;
      fewer = omega (arith, c.loop-due.invariant.fewer, fits);
      limit = c.take_unit.ensures.limit ∙ c.loop-due.invariant.limit;
      due = c.due-due.ensures.due;
      rises = c.due-due.ensures.rises;
    }

pub overflow_add-skipped : goal.overflow_add-skipped
overflow_add-skipped g c =
    let passed : PassesOver c.loop-due.self c.take_unit.new.self = rw c.in-Ok-Skipped.field-0-is at c.in-Ok-Skipped.ensures.takes in
    let due : due_of c.loop-due.self ≡ Some c.in-Some.frame = sym c.loop-due.invariant.due ∙ c.in-Some.is in
    let size : c.packets-skipped.result ≡ length (packets_of_frame c.loop-due.self c.in-Some.frame) = omega (arith, c.packets-skipped.ensures, c.in-Ok-Skipped.ensures.size (λ e. cc)) in
    let fits : c.packets-skipped.result + length c.take_unit.new.self.held ≤ length c.loop-due.self.held = passed_fits c.loop-due.self c.take_unit.new.self passed c.in-Some.frame c.packets-skipped.result due size in
    omega (arith, c.loop-due.invariant.fewer, fits, c.held-before.ensures.count, c.held-before.type_inv)

pub returns-in-Ok-Released-clause-fewer : goal.returns-in-Ok-Released-clause-fewer
returns-in-Ok-Released-clause-fewer g c = omega (
  arith,
  c.loop-due.invariant.fewer,
  release_shorter c.loop-due.self c.take_unit.new.self (c.take_unit.new.unit)
      c.loop-due.invariant.rises (rw c.in-Ok-Released.field-0-is at c.in-Ok-Released.ensures.takes),
)

pub returns-in-Err-clause-fewer : goal.returns-in-Err-clause-fewer
returns-in-Err-clause-fewer g c = λ other. omega (
  arith,
  c.loop-due.invariant.fewer,
  refusal_shorter c.loop-due.self c.take_unit.new.self c.in-Err.fault c.loop-due.invariant.rises c.in-Err.ensures.takes other,
)

pub returns-in-Ok-Released-clause-own : goal.returns-in-Ok-Released-clause-own
returns-in-Ok-Released-clause-own g c = λ other.
    let own = c.take_unit.ensures.own (passes_stays c.args.self.now c.loop-due.self c.loop-due.invariant.over c.loop-due.invariant.passes ∙ other) in (
      c.loop-due.invariant.over,
      c.loop-due.self,
      c.in-Some.frame,
      c.loop-due.invariant.passes,
      sym c.loop-due.invariant.due
          ∙ c.in-Some.is,
      own.0,
      own.1,
      rw (c.in-Ok-Released.is, c.in-Ok-Released.field-0-is) at own.2,
    )

pub returns-in-Err-clause-own : goal.returns-in-Err-clause-own
returns-in-Err-clause-own g c = λ other.
    let own = c.take_unit.ensures.own (passes_stays c.args.self.now c.loop-due.self c.loop-due.invariant.over c.loop-due.invariant.passes ∙ other) in
    (c.loop-due.invariant.over, c.loop-due.self, c.in-Some.frame, c.loop-due.invariant.passes, sym c.loop-due.invariant.due ∙ c.in-Some.is, own.0, own.1, rw c.in-Err.is at own.2)

pub overflow_sub-before : goal.overflow_sub-before
overflow_sub-before g c =
    let unit : Release = c.take_unit.new.unit in
    let takes : TakesFrame c.loop-due.self (Ok unit) c.take_unit.new.self = rw c.in-Ok-Released.field-0-is at c.in-Ok-Released.ensures.takes in
    let took : length c.take_unit.new.unit.metas + length c.take_unit.new.self.held ≤ length c.loop-due.self.held = takes_away_from c.loop-due.self c.take_unit.new.self (Ok unit) takes in
    omega (arith, took, c.loop-due.invariant.fewer, c.held.ensures.count, c.held-before.ensures.count)

pub left_by-left-requires : goal.left_by-left-requires
left_by-left-requires g c =
    let unit : Release = c.take_unit.new.unit in
    let takes : TakesFrame c.loop-due.self (Ok unit) c.take_unit.new.self = rw c.in-Ok-Released.field-0-is at c.in-Ok-Released.ensures.takes in
    let took : length c.take_unit.new.unit.metas + length c.take_unit.new.self.held ≤ length c.loop-due.self.held = takes_away_from c.loop-due.self c.take_unit.new.self (Ok unit) takes in
    omega (arith, took, c.loop-due.invariant.fewer, c.held.ensures.count, c.held-before.ensures.count, c.packets.ensures)

pub returns-in-Ok-Released-clause-pops : goal.returns-in-Ok-Released-clause-pops
returns-in-Ok-Released-clause-pops g c =
    let unit : Release = c.take_unit.new.unit in
    let takes : TakesFrame c.loop-due.self (Ok unit) c.take_unit.new.self = rw c.in-Ok-Released.field-0-is at c.in-Ok-Released.ensures.takes in
    let took : length c.take_unit.new.unit.metas + length c.take_unit.new.self.held ≤ length c.loop-due.self.held = takes_away_from c.loop-due.self c.take_unit.new.self (Ok unit) takes in
    let pops : Pops c.args.self.now (Some (Ok unit)) c.take_unit.new.self = (c.loop-due.invariant.over, (c.loop-due.self, c.loop-due.invariant.passes, takes)) in
    let released : c.packets.result ≡ length c.take_unit.new.unit.metas = omega (arith, c.packets.ensures) in (
      pops,
      left_is c.args.self.now (Some (Ok unit)) c.take_unit.new.self pops c.left_by-left.result (c.held-before.result - c.held.result) c.packets.result c.loop-due.skipped 0
          c.left_by-left.ensures.incomplete c.left_by-left.ensures.skipped c.left_by-left.ensures.refused (omega (arith, c.held.ensures.count, c.held-before.ensures.count)) released
          c.loop-due.invariant.counted refl,
    )

pub overflow_sub-before-in-Err : goal.overflow_sub-before-in-Err
overflow_sub-before-in-Err g c =
    let takes : TakesFrame c.loop-due.self (Err c.in-Err.fault) c.take_unit.new.self = c.in-Err.ensures.takes in
    let due : due_of c.loop-due.self ≡ Some c.in-Some.frame = sym c.loop-due.invariant.due ∙ c.in-Some.is in
    let refused = refused_counts c.args.self.now c.loop-due.self c.take_unit.new.self c.loop-due.invariant.over c.in-Some.frame c.in-Err.fault c.packets-in-Err.result c.refused_by-refused.result takes
    c.loop-due.invariant.passes c.held-before.ensures.sound due c.refused_by-refused.ensures.stays c.refused_by-refused.ensures.leaves
    (λ other. omega (arith, c.packets-in-Err.ensures, c.in-Err.ensures.size (λ e. other (cc)))) in
    let fits : c.refused_by-refused.result + length c.take_unit.new.self.held ≤ length c.loop-due.self.held = refused.fits in
    omega (arith, fits, c.loop-due.invariant.fewer, c.held-in-Err.ensures.count, c.held-before.ensures.count)

pub left_by-left-requires-in-Err : goal.left_by-left-requires-in-Err
left_by-left-requires-in-Err g c =
    let takes : TakesFrame c.loop-due.self (Err c.in-Err.fault) c.take_unit.new.self = c.in-Err.ensures.takes in
    let due : due_of c.loop-due.self ≡ Some c.in-Some.frame = sym c.loop-due.invariant.due ∙ c.in-Some.is in
    let refused = refused_counts c.args.self.now c.loop-due.self c.take_unit.new.self c.loop-due.invariant.over c.in-Some.frame c.in-Err.fault c.packets-in-Err.result c.refused_by-refused.result takes
    c.loop-due.invariant.passes c.held-before.ensures.sound due c.refused_by-refused.ensures.stays c.refused_by-refused.ensures.leaves
    (λ other. omega (arith, c.packets-in-Err.ensures, c.in-Err.ensures.size (λ e. other (cc)))) in
    let fits : c.refused_by-refused.result + length c.take_unit.new.self.held ≤ length c.loop-due.self.held = refused.fits in
    omega (arith, fits, c.loop-due.invariant.fewer, c.held-in-Err.ensures.count, c.held-before.ensures.count)

pub returns-in-Err-clause-pops : goal.returns-in-Err-clause-pops
returns-in-Err-clause-pops g c =
    let takes : TakesFrame c.loop-due.self (Err c.in-Err.fault) c.take_unit.new.self = c.in-Err.ensures.takes in
    let due : due_of c.loop-due.self ≡ Some c.in-Some.frame = sym c.loop-due.invariant.due ∙ c.in-Some.is in
    let refused = refused_counts c.args.self.now c.loop-due.self c.take_unit.new.self c.loop-due.invariant.over c.in-Some.frame c.in-Err.fault c.packets-in-Err.result c.refused_by-refused.result takes
    c.loop-due.invariant.passes c.held-before.ensures.sound due c.refused_by-refused.ensures.stays c.refused_by-refused.ensures.leaves
    (λ other. omega (arith, c.packets-in-Err.ensures, c.in-Err.ensures.size (λ e. other (cc)))) in
    let fits : c.refused_by-refused.result + length c.take_unit.new.self.held ≤ length c.loop-due.self.held = refused.fits in
    let pops : Pops c.args.self.now (Some (Err c.in-Err.fault)) c.take_unit.new.self = (c.loop-due.invariant.over, (c.loop-due.self, c.loop-due.invariant.passes, takes)) in (
      pops,
      left_is c.args.self.now (Some (Err c.in-Err.fault)) c.take_unit.new.self pops c.left_by-left-in-Err.result (c.held-before.result - c.held-in-Err.result) 0 c.loop-due.skipped
          c.refused_by-refused.result
          c.left_by-left-in-Err.ensures.incomplete c.left_by-left-in-Err.ensures.skipped c.left_by-left-in-Err.ensures.refused
          (omega (arith, c.held-in-Err.ensures.count, c.held-before.ensures.count)) refl c.loop-due.invariant.counted refused.counted,
    )

pub returns-clause-pops : goal.returns-clause-pops
returns-clause-pops g c =
    let pops : Pops c.args.self.now None c.loop-due.self = (c.loop-due.invariant.over, (c.loop-due.invariant.passes, sym c.loop-due.invariant.due ∙ c.in_default.is)) in (
      pops,
      left_is c.args.self.now None c.loop-due.self pops c.left_by.result (c.held-before.result - c.held-2.result) 0 c.loop-due.skipped 0 c.left_by.ensures.incomplete c.left_by.ensures.skipped
          c.left_by.ensures.refused (omega (arith, c.held-2.ensures.count, c.held-before.ensures.count)) refl c.loop-due.invariant.counted refl,
    )
