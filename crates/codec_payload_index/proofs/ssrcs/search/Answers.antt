use Rattle.std.proofs.Common.{rules, ltb-true, ltb-false}
use Rattle.std.specs.Prelude.{nat_lt}
use Rattle.std.proofs.lemmas.Bool.{ltb-true, ltb-false}
use Rattle.std.proofs.lemmas.List.Sorted.{IsPartitionPoint-from_clause, IsPartitionedBy-ltb}
use Rattle.codec_payload_index.specs.Ssrcs.{key, key_of}
use Rattle.codec_payload_index.specs.declared.ssrcs.Entry.{Entry}
use Rattle.codec_payload_index.proofs.EntryLemmas.{never_falls}
use Rattle.codec_payload_index.proofs.ssrcs.search.Goals as goal

pub returns-clause-point : goal.returns-clause-point
returns-clause-point c =
    let es = c.args.entries.now in
    let t = key c.args.ssrc c.args.from in
    let parted = IsPartitionedBy-ltb key_of es t (never_falls es c.requires) in
    let point = IsPartitionPoint-from_clause (λ (e : Entry). nat_lt (key_of e) t) es c.partition_point.result c.partition_point.ensures.partitioned parted (λ a r q k. search rules) in
    (λ k d from l. ltb-true _ _ (point.0 k d from l), λ k d from l. ltb-false _ _ (point.1 k d from l))
