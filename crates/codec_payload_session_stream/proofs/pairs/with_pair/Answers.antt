use Rattle.std.proofs.Common.{◌≡◌, filter, rules}
use Rattle.std.proofs.lemmas.Fn.{filter_same}
use Rattle.codec_payload_session_stream.specs.Pairs.{is_apart}
use Rattle.codec_payload_session_stream.proofs.pairs.with_pair.Goals as goal

pub returns : goal.returns
returns c =
    let kept : c.retain.new.self.items ≡ filter (is_apart c.args.pair) c.in_ok-named.named.items = filter_same _ _ _ (λ x b f' k. search rules) _ _ c.retain.ensures.filtered in
    search (rules, kept)
