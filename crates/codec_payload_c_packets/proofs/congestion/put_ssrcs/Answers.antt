use Rattle.std.proofs.Common.{◌∙◌, ap, sym, ℕ, List}
use Rattle.codec_payload_c_packets.specs.Congestion.{ssrcs_in}
use Rattle.codec_payload_c_packets.proofs.ArrivalPlaces.{no_ssrcs}
use Rattle.codec_payload_c_packets.proofs.AskedNumbers.{put_all, put_from}
use Rattle.codec_payload_c_packets.proofs.congestion.put_ssrcs.Goals as goal

pub returns-clause-ssrcs : goal.returns-clause-ssrcs
returns-clause-ssrcs c =
    sym (ap (λ (xs : List ℕ). put_from c.loop-rest.count c.loop-rest.ssrcs xs) (no_ssrcs c.loop-rest.rest.now c.in_default.len_below))
    ∙ c.loop-rest.invariant.put ∙ put_all c.args.ssrcs.now (ssrcs_in c.args.bytes.now)
