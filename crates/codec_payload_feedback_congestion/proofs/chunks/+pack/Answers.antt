use Rattle.std.proofs.Common.{◌≡◌, ◌<◌, ◌+◌, ◌-◌, ◌*◌, get_or, arith}
use Rattle.codec_payload_feedback_congestion.proofs.ChunkLemmas.{below_first, below_none, below_others, least_step, most_step, pack_none, pack_some, pack_zero, room_fits, room_step}
use Rattle.codec_payload_feedback_congestion.proofs.chunks.+pack.Goals as goal

pub returns-then-count-eq0-clause-digits : goal.returns-then-count-eq0-clause-digits
returns-then-count-eq0-clause-digits t c = pack_none c.args.base c.args.count c.args.word c.args.rest.now (omega arith)

pub overflow_mul-word : goal.overflow_mul-word
overflow_mul-word t c = omega (arith, room_fits c.args.base c.args.count c.args.word 0 c.requires.positive (omega arith) (omega arith) c.requires.room)

pub pack-requires : goal.pack-requires
pack-requires t c = (
  omega arith,
  (c.requires.positive, (below_none c.args.base (c.args.count - 1) c.args.rest.now (omega arith), omega (arith, room_step c.args.base c.args.count c.args.word 0 (omega arith) (omega arith) c.requires.room))),
)

pub overflow_mul-word-in-len1-up : goal.overflow_mul-word-in-len1-up
overflow_mul-word-in-len1-up t c = omega (arith, room_fits c.args.base c.args.count c.args.word 0 c.requires.positive (omega arith) (omega arith) c.requires.room)

pub overflow_add-word : goal.overflow_add-word
overflow_add-word t c =
    let small : c.from.result < c.args.base = omega (arith, below_first c.args.base c.args.count c.args.rest.now (omega arith) (omega arith) c.requires.below) in
    omega (arith, room_fits c.args.base c.args.count c.args.word c.from.result c.requires.positive small (omega arith) c.requires.room)

pub pack-requires-in-len1-up : goal.pack-requires-in-len1-up
pack-requires-in-len1-up t c =
    let small : c.from.result < c.args.base = omega (arith, below_first c.args.base c.args.count c.args.rest.now (omega arith) (omega arith) c.requires.below) in (
      omega arith,
      (c.requires.positive, (below_others c.args.base c.args.count c.args.rest.now (omega arith) (omega arith) c.requires.below, room_step c.args.base c.args.count c.args.word c.from.result small (omega arith) c.requires.room)),
    )

pub returns-in-empty-clause-digits : goal.returns-in-empty-clause-digits
returns-in-empty-clause-digits t c =
    pack_zero c.args.base c.args.count c.args.word (c.args.word * c.args.base) c.pack.result c.args.rest.now c.requires.positive (omega arith) (omega arith) (omega arith) c.pack.ensures.digits

pub returns-in-empty-clause-least : goal.returns-in-empty-clause-least
returns-in-empty-clause-least t c = least_step c.args.base c.args.count c.args.word 0 c.pack.result (omega arith) (omega (arith, c.pack.ensures.least))

pub returns-in-empty-clause-most : goal.returns-in-empty-clause-most
returns-in-empty-clause-most t c = most_step c.args.base c.args.count c.args.word 0 c.pack.result (omega arith) (omega arith) (omega (arith, c.pack.ensures.most))

pub returns-in-len1-up-clause-digits : goal.returns-in-len1-up-clause-digits
returns-in-len1-up-clause-digits t c =
    let small : get_or c.args.rest.now 0 0 < c.args.base = below_first c.args.base c.args.count c.args.rest.now (omega arith) (omega arith) c.requires.below in
    pack_some c.args.base c.args.count c.args.word (c.args.word * c.args.base + c.from.result) c.pack-in-len1-up.result c.args.rest.now (omega arith) (omega arith) small (omega arith) c.pack-in-len1-up.ensures.digits

pub returns-in-len1-up-clause-least : goal.returns-in-len1-up-clause-least
returns-in-len1-up-clause-least t c = least_step c.args.base c.args.count c.args.word c.from.result c.pack-in-len1-up.result (omega arith) c.pack-in-len1-up.ensures.least

pub returns-in-len1-up-clause-most : goal.returns-in-len1-up-clause-most
returns-in-len1-up-clause-most t c =
    let small : c.from.result < c.args.base = omega (arith, below_first c.args.base c.args.count c.args.rest.now (omega arith) (omega arith) c.requires.below) in
    most_step c.args.base c.args.count c.args.word c.from.result c.pack-in-len1-up.result small (omega arith) c.pack-in-len1-up.ensures.most
