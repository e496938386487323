use Rattle.std.proofs.Common.{◌≡◌, ◌∙◌, arith, rules, ap, length, List, ℕ}
use Rattle.codec_payload_session.specs.Reporting.{blocks_of, bytes_of}
use Rattle.codec_payload_session.proofs.PacketLemmas.{blocks_length, whole_blocks}
use Rattle.codec_payload_session.proofs.ReporterLemmas.{few_blocks}
use Rattle.codec_payload_session.proofs.SsrcLemmas.{forgotten, same_reported}
use Rattle.codec_payload_session_stream.specs.Waking.{ssrcs_of}
use Rattle.codec_payload_session.proofs.streams.Streams.report_all.Goals as goal

pub write_report-requires-whole : goal.write_report-requires-whole
write_report-requires-whole c = λ l.
    let is_new = c.next_round-round.result.is_new in
    let room = c.next_round-round.result.room in
    let blocks = blocks_of is_new room c.args.tick_rate c.args.now.0 c.deref-2.result.now in
    let is : c.deref-3.result.now ≡ bytes_of blocks = search rules in (
      whole_blocks blocks c.deref-3.result.now is,
      omega (arith, ap (λ (bytes : List ℕ). length bytes) is, blocks_length blocks, few_blocks is_new room c.args.tick_rate c.args.now.0 c.deref-2.result.now, c.next_round-round.ensures.room, c.most_blocks.ensures),
    )

pub invariant_of-self : goal.invariant_of-self
invariant_of-self c =
    let round = c.next_round-round.result in
    let same = ap ssrcs_of c.start_fractions.ensures ∙ same_reported round.is_new round.room c.deref_mut.result.now ∙ ap ssrcs_of c.deref_mut.ensures.value in
    forgotten c.forget.new.self c.self.inside.ssrcs c.self.inside.list c.start_fractions.new.streams c.forget.ensures c.self.invariant.listed same
