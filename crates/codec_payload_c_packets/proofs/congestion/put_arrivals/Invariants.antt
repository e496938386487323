use Rattle.std.proofs.Common.{◌≡◌, ◌++◌, drop, length, take}
use Rattle.codec_payload_c_packets.specs.Congestion.{arrivals_from}
use Rattle.codec_payload_c_packets.proofs.congestion.put_arrivals.Given as goal

-- the arrivals so far, and those of the statuses that are left, are all arrivals; the elements after them are as they were
abbrev pub invariant-loop-status : goal.invariant-loop-status
invariant-loop-status l = record {
  place : l.place ≡ l.status-index;
  len : length l.packets ≡ length l.fn.packets;
  put : take l.place l.packets ++ arrivals_from l.number (drop l.status-index l.statuses) ≡ arrivals_from l.base l.statuses;
  rest : drop l.place l.packets ≡ drop l.place l.fn.packets;
}
