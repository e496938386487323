use Rattle.std.proofs.Common.{◌∙◌, ◌||◌, List, Some, ap, sym}
use Rattle.codec_payload_session.specs.Arrivals.{includes, left_if, left_where, named_in}
use Rattle.codec_payload_session_stream.specs.Waking.{ssrcs_of}
use Rattle.codec_payload_session_stream.specs.declared.stream.Ending.TheVariants as endings
use Rattle.codec_payload_session_stream.specs.declared.stream.StreamState.{StreamState}
use Rattle.codec_payload_session.specs.declared.streams.Who.TheVariants as whos
use Rattle.codec_payload_session.proofs.GoodbyeLemmas.{left_either, left_nobody, left_same}
use Rattle.codec_payload_session.proofs.SourceLemmas.{named_nowhere, names_more, sources_fewer}
use Rattle.codec_payload_session.proofs.SsrcLemmas.{left_ssrc, same_mapped}
use Rattle.codec_payload_session.proofs.goodbyes.leave_each.Goals as goal

pub loop-ssrc-smaller : goal.loop-ssrc-smaller
loop-ssrc-smaller c = sources_fewer c.loop-ssrc.rest.now (c.in-Some.ssrc, c.in-Some.others.now) c.in-Some.ensures

pub loop-ssrc-preserved : goal.loop-ssrc-preserved
loop-ssrc-preserved c = record {
  left =
      ap (λ (ss : List StreamState). left_where (named_in c.in-Some.others.now) endings.Bye c.args.at ss) c.leave_of-left.ensures.left
      ∙ left_either (includes (whos.Of c.in-Some.ssrc)) (named_in c.in-Some.others.now) endings.Bye c.args.at c.loop-ssrc.streams
      ∙ sym (left_same (named_in c.loop-ssrc.rest.now) (λ ssrc. includes (whos.Of c.in-Some.ssrc) ssrc || named_in c.in-Some.others.now ssrc) endings.Bye c.args.at c.loop-ssrc.streams
      (λ ssrc. names_more ssrc c.loop-ssrc.rest.now (Some (c.in-Some.ssrc, c.in-Some.others.now)) c.in-Some.ensures))
      ∙ c.loop-ssrc.invariant.left;
  listed = c.loop-ssrc.invariant.listed
      ∙ sym (ap ssrcs_of c.leave_of-left.ensures.left ∙ same_mapped (left_if (includes (whos.Of c.in-Some.ssrc)) endings.Bye c.args.at) c.loop-ssrc.streams (λ s. left_ssrc (includes (whos.Of c.in-Some.ssrc) s.ssrc) endings.Bye c.args.at s));
  stays = λ is.
      let both = c.either-ends.ensures is in
      c.leave_of-left.ensures.stays both.1 ∙ c.loop-ssrc.invariant.stays both.0;
}

pub returns-clause-left : goal.returns-clause-left
returns-clause-left c =
    sym (left_nobody (named_in c.loop-ssrc.rest.now) endings.Bye c.args.at c.loop-ssrc.streams (λ ssrc. named_nowhere ssrc c.loop-ssrc.rest.now c.in_default.ensures))
    ∙ c.loop-ssrc.invariant.left
