use Rattle.std.proofs.Common.{drop}
use Rattle.codec_payload_sending_history.specs.Packets.{Past}
use Rattle.codec_payload_datagram_runs.specs.HistoryRuns.{KeepsAll, KeepsSome}
use Rattle.codec_payload_datagram_runs.specs.WireRuns.{bytes_in}
use Rattle.codec_payload_datagram_runs.proofs.history_run.keep_all.Given as goal

-- what the remaining datagrams lead to, all datagrams lead to
abbrev pub invariant-loop-datagram : goal.invariant-loop-datagram
invariant-loop-datagram l = record {
  keeps : (t : Past) → KeepsAll l.history (drop l.datagram-index (bytes_in l.datagrams)) t → KeepsAll l.fn.history (bytes_in l.datagrams) t;
  stops : (t : Past) → KeepsSome l.history (drop l.datagram-index (bytes_in l.datagrams)) t → KeepsSome l.fn.history (bytes_in l.datagrams) t;
}
