use Rattle.std.proofs.Common.{◌<◌, ap, arith, length, length-drop}
use Rattle.std.specs.VecDeque.{deque_len, deque_capacity}
use Rattle.codec_payload_numbers.proofs.noted_times.push.Goals as goal
use Rattle.codec_payload_numbers.proofs.noted_times.push.Goals.{then-len-most, else-len-most}

-- a place is free, since the first time has left if all were taken
pub unwrap-requires : goal.unwrap-requires
unwrap-requires c =
    let room : deque_len c.if-len-most.times < deque_capacity c.if-len-most.times = elim c.if-len-most.branch [
      | then-len-most w ↦ rw w.times-is (omega (
        arith,
        w.if-len-most.true,
        w.pop_front.ensures.capacity,
        simp length-drop at (ap length w.pop_front.ensures.rest),
        w.pop_front.new.self.ok.0,
        c.args.times.now.ok.0,
        c.args.times.now.small.1,
        c.len.ensures,
        c.requires.some,
      ))
      | else-len-most w ↦ rw w.times-is (omega (arith, w.if-len-most.false, c.len.ensures, c.args.times.now.ok.0, c.requires.room))
    ] in
    c.push_back.ensures.succeeds room
