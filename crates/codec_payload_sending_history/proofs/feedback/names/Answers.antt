use Rattle.std.proofs.Common.{◌∙◌, sym}
use Rattle.codec_payload_sending_history.proofs.RequestLemmas.{entries_fewer, named_here, named_later, named_nowhere}
use Rattle.codec_payload_sending_history.proofs.feedback.names.Goals as goal

pub returns-then-named-ssrc : goal.returns-then-named-ssrc
returns-then-named-ssrc c = sym (named_here c.args.ssrc c.loop-named.rest.now (c.in-Some.named, c.in-Some.others.now) c.in-Some.ensures c.if-named-ssrc.true) ∙ c.loop-named.invariant

pub loop-named-smaller : goal.loop-named-smaller
loop-named-smaller c = entries_fewer c.loop-named.rest.now (c.in-Some.named, c.in-Some.others.now) c.in-Some.ensures

pub loop-named-preserved : goal.loop-named-preserved
loop-named-preserved c = sym (named_later c.args.ssrc c.loop-named.rest.now (c.in-Some.named, c.in-Some.others.now) c.in-Some.ensures c.if-named-ssrc.false) ∙ c.loop-named.invariant

pub returns : goal.returns
returns c = sym (named_nowhere c.args.ssrc c.loop-named.rest.now c.in_default.ensures) ∙ c.loop-named.invariant
