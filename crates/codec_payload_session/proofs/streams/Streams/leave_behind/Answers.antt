use Rattle.std.proofs.Common.{◌≡◌, ◌∙◌, List, ap, false, sym, true}
use Rattle.codec_payload_session_stream.specs.Changes.{any_left_behind, continues}
use Rattle.codec_payload_session_stream.specs.declared.stream.StreamState.{StreamState}
use Rattle.codec_payload_session_stream.specs.Waking.{ssrcs_of}
use Rattle.codec_payload_session.proofs.ChangeLemmas.{none_left}
use Rattle.codec_payload_session.proofs.SsrcLemmas.{forgotten, same_continued}
use Rattle.codec_payload_session.proofs.streams.Streams.leave_behind.Goals as goal

pub returns-then-not-has_left_behind : goal.returns-then-not-has_left_behind
returns-then-not-has_left_behind c =
    let none : any_left_behind c.args.now c.args.wait c.args.ssrc c.args.format.now c.args.self.now.streams ≡ false = sym c.has_left_behind.ensures ∙ c.if-not-has_left_behind.true in
    ap (λ (l : List StreamState). record c.args.self.now { streams = l })
    (sym (none_left (continues c.args.ssrc c.args.format.now c.args.self.now.streams) c.args.now c.args.wait c.args.ssrc c.args.format.now c.args.self.now.streams none))

pub invariant_of-self : goal.invariant_of-self
invariant_of-self c =
    let same = ap ssrcs_of c.leave_behind.ensures ∙ same_continued true c.args.now c.args.wait c.args.ssrc c.args.format.now c.deref_mut.result.now ∙ ap ssrcs_of c.deref_mut.ensures.value in
    forgotten c.forget.new.self c.self.inside.ssrcs c.self.inside.list c.leave_behind.new.streams c.forget.ensures c.self.invariant.listed same
