use Rattle.std.proofs.Common.{◌≡◌, ◌++◌, arith, rules}
use Rattle.codec_payload_feedback_congestion.specs.Chunks.{chunk_symbols}
use Rattle.codec_payload_feedback_congestion.proofs.ReadingLemmas.{length_cut, read_done, read_short, read_step}
use Rattle.codec_payload_feedback_congestion.proofs.chunks.read_symbols.Goals as goal

pub returns-in_default : goal.returns-in_default
returns-in_default c = read_short c.args.count c.loop-rest.rest.now c.loop-rest.symbols.items _ (omega arith) (omega arith) c.loop-rest.invariant.same

pub loop-rest-preserved : goal.loop-rest-preserved
loop-rest-preserved c =
    let whole : c.push_symbols.new.symbols.items ≡ c.loop-rest.symbols.items ++ chunk_symbols c.from_be_bytes.result = search rules in
    record {
      few = length_cut c.args.count c.push_symbols.new.symbols.items c.truncate.new.self.items c.truncate.ensures.items;
      same = read_step c.args.count c.from_be_bytes.result c.loop-rest.rest.now c.loop-rest.symbols.items c.push_symbols.new.symbols.items c.truncate.new.self.items _ (omega arith) (omega arith) (search rules) whole c.truncate.ensures.items c.loop-rest.invariant.same;
    }

pub returns : goal.returns
returns c = read_done c.args.count c.loop-rest.rest.now c.loop-rest.symbols.items _ (omega arith) c.loop-rest.invariant.same
