use Rattle.std.proofs.Common.{rules, ◌<◌, length}
use Rattle.payload_lines.proofs.Limits.{all_were_given}
use Rattle.payload_lines.proofs.streams.read_below.Goals as goal

pub returns-clause-all : goal.returns-clause-all
returns-clause-all g c =
    let fewer : length c.read_to_end.new.buf.items < c.args.limit = search rules in
    all_were_given c.args.limit (g.R.Read.remaining c.args.input.now) _ fewer (rw (c.take.ensures.limit, c.take.ensures.inner, c.new-bytes.ensures.items) at c.in_ok-read_to_end.ensures.bytes)
