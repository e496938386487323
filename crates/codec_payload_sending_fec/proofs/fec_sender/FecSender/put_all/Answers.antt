use Rattle.std.proofs.Common.{rules, ◌∙◌}
use Rattle.codec_payload_sending_fec.specs.StreamNumbers.{next_number}
use Rattle.codec_payload_sending_fec.proofs.FecLemmas.{all_more, number_more}
use Rattle.codec_payload_sending_fec.proofs.fec_sender.FecSender.put_all.Goals as goal

pub loop-place-preserved : goal.loop-place-preserved
loop-place-preserved c =
    let n = next_number c.args.self.now.numbers in (
      all_more c.args.self.now c.loop-place.self n c.loop-place.number c.loop-place.place c.args.fec.now.payloads c.loop-place.out.payloads c.put_fec.new.out.payloads c.get.result.now (search rules) c.loop-place.invariant.0 c.loop-place.invariant.1
          c.loop-place.invariant.2 c.get.ensures c.in_ok-put_fec.ensures.ok,
      number_more n c.loop-place.number c.following-next.result c.loop-place.place c.loop-place.invariant.1 c.following-next.ensures,
      c.in_ok-put_fec.ensures.same ∙ c.loop-place.invariant.2,
      c.in_ok-put_fec.ensures.rooms ∙ c.loop-place.invariant.3,
    )
