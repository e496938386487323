use Rattle.std.proofs.Common.{◌≡◌, ◌∙◌, List, ap, refl}
use Rattle.codec_payload_session_stream.specs.Pairs.{paired_where, with_pair}
use Rattle.codec_payload_session_formats.specs.declared.formats.SsrcPair.{SsrcPair}
use Rattle.codec_payload_session.proofs.association.add_pair.Goals as goal

pub returns-clause-ok : goal.returns-clause-ok
returns-clause-ok c =
    let has : c.in_ok-pairs.pairs.items ≡ with_pair c.args.pair c.args.settings.now.pairs.items =
    c.in_ok-pairs.ensures ∙ ap (λ (l : List SsrcPair). with_pair c.args.pair l) c.deref.ensures.value in
    let are : c.deref-2.result.now ≡ with_pair c.args.pair c.args.settings.now.pairs.items = c.deref-2.ensures.value ∙ has in
    record {
      named = c.in_ok-pairs.pairs;
      has = has;
      settings = refl;
      streams = c.pair.ensures ∙ ap (λ (l : List SsrcPair). record c.args.streams.now { streams = paired_where c.args.pair.ssrc l c.args.streams.now.streams }) are;
    }
