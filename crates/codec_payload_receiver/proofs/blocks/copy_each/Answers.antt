use Rattle.std.proofs.Common.{◌∙◌, List, Option, map, sym, ap}
use Rattle.std.proofs.lemmas.List.{map_push}
use Rattle.std.specs.List.{filter_map}
use Rattle.std.specs.Option.{option_map}
use Rattle.codec_payload_red.specs.RedBlocks.{Block, blocks_of}
use Rattle.codec_payload_jitter.specs.Receiving.{Arrival}
use Rattle.codec_payload_datagrams.specs.Kinds.{carrier_of}
use Rattle.codec_payload_receiver.specs.Sessions.{carried, copied}
use Rattle.codec_payload_receiver.proofs.BlockLemmas.{one_more, none_more, none_left}
use Rattle.codec_payload_receiver.proofs.blocks.copy_each.Goals as goal
use Rattle.codec_payload_receiver.proofs.blocks.copy_each.Goals.{in-Some+in_ok-push_back-in-Some, in-None}

pub loop-block-preserved : goal.loop-block-preserved
loop-block-preserved c = λ now.
    let f : Block → Option Arrival = carried c.args.stream.now now (carrier_of c.args.red.now) in
    let out : List Arrival = map (copied now) c.loop-block.copies.items in
    let whole : List Arrival = filter_map f (blocks_of c.args.blocks.now) in
    elim c.match-branch-2.branch [
      | in-Some+in_ok-push_back-in-Some w ↦
          rw (w.copies-is, w.in_ok-push_back-in-Some.ensures.items, map_push (copied now) c.loop-block.copies.items w.in-Some.copy)
          (one_more f out whole c.args.blocks.now c.loop-block.block-index _ (copied now w.in-Some.copy) c.loop-block-test.true
          (sym (c.in_ok-copy.ensures now) ∙ ap (option_map (copied now)) w.in-Some.is) (c.loop-block.invariant now))
      | in-None w ↦
          rw w.copies-is (none_more f out whole c.args.blocks.now c.loop-block.block-index _ c.loop-block-test.true
          (sym (c.in_ok-copy.ensures now) ∙ ap (option_map (copied now)) w.in-None.is) (c.loop-block.invariant now))
    ]

pub returns : goal.returns
returns c = λ now.
    let f : Block → Option Arrival = carried c.args.stream.now now (carrier_of c.args.red.now) in
    none_left f (map (copied now) c.loop-block.copies.items) (filter_map f (blocks_of c.args.blocks.now)) c.args.blocks.now c.loop-block.block-index c.loop-block-test.false (c.loop-block.invariant now)
