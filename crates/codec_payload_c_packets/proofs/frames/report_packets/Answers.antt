use Rattle.std.proofs.Common.{◌∙◌, ◌<◌, ap, arith, length}
use Rattle.codec_payload_core.specs.Packetizers.{is_built_in, nackable_of, packetizer_state_of}
use Rattle.codec_payload_c_packets.proofs.FrameLemmas.{behind_more, placed_is, size_left, size_more, size_split, told_more}
use Rattle.codec_payload_c_packets.specs.Frames.{placed_at, rooms_in}
use Rattle.codec_payload_c_packets.proofs.frames.report_packets.Goals as goal

pub overflow_add-packets : goal.overflow_add-packets
overflow_add-packets c =
    let ps = c.args.frame.now.payloads in let i = c.loop-place.place in
    omega (
      arith,
      c.requires.size,
      c.loop-place.invariant.at,
      size_split (rooms_in c.args.cut.now) ps i,
      size_left (rooms_in c.args.cut.now) ps i (omega (arith, c.loop-place-test.true, c.len-place-end.ensures.payloads)),
    )

pub overflow_add-at-in-loop-place-2 : goal.overflow_add-at-in-loop-place-2
overflow_add-at-in-loop-place-2 c =
    let ps = c.args.frame.now.payloads in let i = c.loop-place.place in
    omega (
      arith,
      c.requires.size,
      c.loop-place.invariant.at,
      size_split (rooms_in c.args.cut.now) ps i,
      ap length c.get-bytes.ensures,
      size_left (rooms_in c.args.cut.now) ps i (omega (arith, c.loop-place-test.true, c.len-place-end.ensures.payloads)),
    )

pub loop-place-preserved : goal.loop-place-preserved
loop-place-preserved c =
    let cut = c.args.cut.now in let ps = c.args.frame.now.payloads in let i = c.loop-place.place in
    let below : i < length ps = omega (arith, c.loop-place-test.true, c.len-place-end.ensures.payloads) in
    let more = size_more (rooms_in cut) ps i below in
    let bytes = ap length c.get-bytes.ensures in
    let packetizer = packetizer_state_of c.args.packetizer.now in
    let built = c.requires.built_in in
    record {
      at = omega (arith, c.loop-place.invariant.at, more, bytes);
      same = c.is_marked.ensures.same ∙ c.loop-place.invariant.same;
      behind = behind_more c.loop-place.packets c.args.packets.now i _ c.loop-place.invariant.behind;
      so_far = told_more (placed_at packetizer cut ps) c.loop-place.packets i _ (omega (arith, below, c.requires.room, c.loop-place.auto.packets))
          (placed_is packetizer (packetizer_state_of c.loop-place.packetizer) cut ps i _ _ _ _ c.loop-place.invariant.same c.loop-place.invariant.at bytes
          (c.is_marked.ensures.marker (ap is_built_in c.loop-place.invariant.same ∙ built))
          (c.nackable.ensures.built_in (ap is_built_in (c.is_marked.ensures.same ∙ c.loop-place.invariant.same) ∙ built) ∙ ap nackable_of c.is_marked.ensures.same))
          c.loop-place.invariant.so_far;
    }
