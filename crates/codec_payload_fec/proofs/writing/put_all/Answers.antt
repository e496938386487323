use Rattle.std.proofs.Common.{ℕ, List, ◌++◌, ◌∙◌, length, take, map, sym, ap, subst, arith, length-drop}
use Rattle.std.specs.Borrow.{Bor}
use Rattle.codec_payload_fec.specs.Fec.{fec_bytes}
use Rattle.codec_payload_fec.specs.Writing.{AreShort, group_fecs, group_size, lists_of}
use Rattle.codec_payload_fec.proofs.PutLemmas.{all_done, all_more, rest_is, short_part}
use Rattle.codec_payload_fec.proofs.writing.put_all.Goals as goal

pub put_group-requires-clause-short : goal.put_group-requires-clause-short
put_group-requires-clause-short c =
    subst (λ (r : List (Bor (List ℕ))). AreShort (lists_of (take c.group_size-size.result r))) (sym (rest_is c.args.packets.now c.loop-start.start))
    (short_part c.args.packets.now c.loop-start.start c.group_size-size.result c.requires)

pub loop-start-preserved : goal.loop-start-preserved
loop-start-preserved c =
    let packets : List (Bor (List ℕ)) = c.args.packets.now in
    let start : ℕ = c.loop-start.start in
    let size : ℕ = c.group_size-size.result in
    let rest = rest_is packets start in
    let long = ap length rest in (
      all_more c.args.protection packets start size c.loop-start.out.payloads c.put_group.new.out.payloads c.loop-start-test.true
          (c.group_size-size.ensures.value ∙ ap (λ (r : List (Bor (List ℕ))). group_size (lists_of r)) rest)
          (c.in_ok-put_group.ensures.ok ∙ ap (λ (r : List (Bor (List ℕ))). c.loop-start.out.payloads ++ map fec_bytes (group_fecs c.args.protection (lists_of (take size r)))) rest)
          ∙ c.loop-start.invariant.0,
      omega (arith, c.group_size-size.ensures.within, long, length-drop start packets),
      c.in_ok-put_group.ensures.rooms ∙ c.loop-start.invariant.2,
    )

pub returns-clause-ok : goal.returns-clause-ok
returns-clause-ok c = all_done c.args.protection c.args.packets.now c.loop-start.start c.loop-start.out.payloads _ c.loop-start-test.false c.loop-start.invariant.0
