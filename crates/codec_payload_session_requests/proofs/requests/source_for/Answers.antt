use Rattle.std.proofs.Common.{◌≡◌, rules, take}
use Rattle.std.proofs.lemmas.List.{take_min}
use Rattle.codec_payload_session_requests.proofs.requests.source_for.Goals as goal

pub returns : goal.returns
returns c =
    let kept : c.in_ok-cname.cname.items ≡ take 255 c.args.settings.now.cname.items = search (rules, take_min 255 c.args.settings.now.cname.items) in
    search (rules, kept)
