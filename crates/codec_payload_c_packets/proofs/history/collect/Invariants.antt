use Rattle.std.proofs.Common.{◌≡◌, ℕ, ◌+◌, ◌-◌, ◌^◌, ◌||◌, length}
use Rattle.std.specs.Prelude.{min}
use Rattle.codec_payload_sending_history.specs.Requests.{requests_left}
use Rattle.codec_payload_c_packets.specs.Histories.{asks_keyframe, numbers_asked}
use Rattle.codec_payload_c_packets.proofs.AskedNumbers.{put_from}
use Rattle.codec_payload_c_packets.proofs.history.collect.Given as goal

-- n numbers were put, and the rest is put after them
abbrev pub invariant-loop-request : goal.invariant-loop-request
invariant-loop-request l =
    (n : ℕ)
    × (l.count ≡ min n (2 ^ 64 - 1))
    × (n + length (numbers_asked (requests_left l.request-iterator)) ≡ length (numbers_asked (requests_left l.fn.requests)))
    × (put_from n l.numbers (numbers_asked (requests_left l.request-iterator)) ≡ put_from 0 l.fn.numbers (numbers_asked (requests_left l.fn.requests)))
    × ((l.wants_keyframe || asks_keyframe (requests_left l.request-iterator)) ≡ asks_keyframe (requests_left l.fn.requests))
