use Rattle.std.proofs.Common.{◌≡◌, ◌++◌, List, ℕ, drop}
use Rattle.codec_payload_sending_red.specs.Writers.{Writer}
use Rattle.codec_payload_datagram_runs.specs.RedRuns.{WritesAll, WritesSome}
use Rattle.codec_payload_datagram_runs.specs.WireRuns.{bytes_in}
use Rattle.codec_payload_datagram_runs.proofs.red_run.write_all.Given as goal

-- what the remaining datagrams lead to, all datagrams lead to; `done` was written so far
abbrev pub invariant-loop-datagram : goal.invariant-loop-datagram
invariant-loop-datagram l = record {
  done : List (List ℕ);
  written : bytes_in l.written.items ≡ bytes_in l.fn.written.items ++ done;
  writes : (outs : List (List ℕ)) (t : Writer) → WritesAll l.writer (drop l.datagram-index (bytes_in l.datagrams)) outs t → WritesAll l.fn.writer (bytes_in l.datagrams) (done ++ outs) t;
  stops : (t : Writer) → WritesSome l.writer (drop l.datagram-index (bytes_in l.datagrams)) t → WritesSome l.fn.writer (bytes_in l.datagrams) t;
}
