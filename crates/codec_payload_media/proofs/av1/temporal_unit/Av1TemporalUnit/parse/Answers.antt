use Rattle.std.proofs.Common.{ℕ, List, sym, ◌∙◌, arith}
use Rattle.std.proofs.lemmas.Result.{err_from_is_err_and}
use Rattle.codec_payload_media.specs.Av1Units.{Obu, obu_of}
use Rattle.codec_payload_media.proofs.Av1Lemmas.{obu_shorter}
use Rattle.codec_payload_media.proofs.ItemLemmas.{no_bytes, some_bytes}
use Rattle.codec_payload_media.proofs.TemporalUnitLemmas.{unit_malformed, unit_ends, unit_refused, unit_shown, unit_more}
use Rattle.codec_payload_media.proofs.av1.temporal_unit.Av1TemporalUnit.parse.Goals as goal

pub returns-in_err-obu : goal.returns-in_err-obu
returns-in_err-obu c =
    let p = err_from_is_err_and c.from_residual.result c.from_residual.ensures.1 in
    let fault = unit_malformed c.loop-rest.rest.now c.loop-rest.told c.in_err-obu.field-0.0 (some_bytes c.loop-rest.rest.now c.loop-rest-test.ensures) (sym c.in_err-obu.ensures) in
    rw (p.1, p.2) (sym fault ∙ c.loop-rest.invariant.same)

pub returns-in_err-told : goal.returns-in_err-told
returns-in_err-told c =
    let p = err_from_is_err_and c.from_residual-in_err-told.result c.from_residual-in_err-told.ensures.1 in
    let x : Obu × List ℕ = (obu_of c.in_ok-obu.obu, c.in_ok-obu.behind.now) in
    let fault = unit_refused c.loop-rest.rest.now c.loop-rest.told x c.in_err-told.field-0.0 (some_bytes c.loop-rest.rest.now c.loop-rest-test.ensures) (sym c.in_ok-obu.ensures) (sym c.in_err-told.ensures) in
    rw (p.1, p.2) (sym fault ∙ c.loop-rest.invariant.same)

pub returns-then-is_some : goal.returns-then-is_some
returns-then-is_some c =
    let x : Obu × List ℕ = (obu_of c.in_ok-obu.obu, c.in_ok-obu.behind.now) in
    sym (unit_shown c.loop-rest.rest.now c.loop-rest.told x c.in_ok-told.told (some_bytes c.loop-rest.rest.now c.loop-rest-test.ensures) (sym c.in_ok-obu.ensures) (sym c.in_ok-told.ensures) (sym c.if-is_some.ensures)) ∙ c.loop-rest.invariant.same

pub loop-rest-smaller : goal.loop-rest-smaller
loop-rest-smaller c =
    let x : Obu × List ℕ = (obu_of c.in_ok-obu.obu, c.in_ok-obu.behind.now) in
    obu_shorter c.loop-rest.rest.now x (sym c.in_ok-obu.ensures)

pub loop-rest-preserved : goal.loop-rest-preserved
loop-rest-preserved c =
    let x : Obu × List ℕ = (obu_of c.in_ok-obu.obu, c.in_ok-obu.behind.now) in
    let s = obu_shorter c.loop-rest.rest.now x (sym c.in_ok-obu.ensures) in
    record {
      within = omega (arith, s, c.loop-rest.invariant.within);
      same = sym (unit_more c.loop-rest.rest.now c.loop-rest.told x c.in_ok-told.told (some_bytes c.loop-rest.rest.now c.loop-rest-test.ensures) (sym c.in_ok-obu.ensures) (sym c.in_ok-told.ensures) (sym c.if-is_some.ensures)) ∙ c.loop-rest.invariant.same;
    }

pub returns : goal.returns
returns c = sym (unit_ends c.loop-rest.rest.now c.loop-rest.told (no_bytes c.loop-rest.rest.now c.loop-rest-test.ensures)) ∙ c.loop-rest.invariant.same
