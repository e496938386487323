use Rattle.std.proofs.Common.{◌≡◌, ◌∙◌, arith, sym}
use Rattle.codec_payload_session_stream.specs.Dues.{key_of}
use Rattle.codec_payload_session_stream.specs.Streams.{due_in}
use Rattle.codec_payload_session_stream.proofs.DeadlineLemmas.{key_least, none_late, some_early}
use Rattle.codec_payload_session_stream.proofs.dues.due_by.Goals as goal

pub returns-then-key-lt-LAST_KEY : goal.returns-then-key-lt-LAST_KEY
returns-then-key-lt-LAST_KEY c =
    let key : c.args.key ≡ key_of (due_in c.args.idle_timeout c.args.streams.now) = c.requires ∙ sym (key_least c.args.idle_timeout c.args.streams.now) in
    some_early (due_in c.args.idle_timeout c.args.streams.now) c.args.key key (omega (arith, c.if-key-lt-LAST_KEY.true))

pub returns-else-key-eq-LAST_KEY : goal.returns-else-key-eq-LAST_KEY
returns-else-key-eq-LAST_KEY c =
    let key : c.args.key ≡ key_of (due_in c.args.idle_timeout c.args.streams.now) = c.requires ∙ sym (key_least c.args.idle_timeout c.args.streams.now) in
    none_late (due_in c.args.idle_timeout c.args.streams.now) c.args.key key (omega (arith, c.if-key-lt-LAST_KEY.false, c.if-key-eq-LAST_KEY.false))
