use Rattle.std.proofs.Common.{◌≡◌, false, length}
use Rattle.codec_payload_session.specs.Arrivals.{left_where, named_in}
use Rattle.codec_payload_session_stream.specs.Waking.{ssrcs_of}
use Rattle.codec_payload_session_stream.specs.declared.stream.Ending.TheVariants as endings
use Rattle.codec_payload_session.proofs.goodbyes.leave_each.Given as goal

-- the SSRCs so far, and then the others; no stream has another SSRC, and without an end none has changed
abbrev pub invariant-loop-ssrc : goal.invariant-loop-ssrc
invariant-loop-ssrc l = record {
  left : left_where (named_in l.rest) endings.Bye l.at l.streams ≡ left_where (named_in l.named) endings.Bye l.at l.initial.streams;
  listed : l.ssrcs ≡ ssrcs_of l.streams;
  stays : l.ends ≡ false → l.streams ≡ l.initial.streams;
}

abbrev pub decreases-loop-ssrc : goal.decreases-loop-ssrc
decreases-loop-ssrc l = length l.rest
