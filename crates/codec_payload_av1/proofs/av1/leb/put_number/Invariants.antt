use Rattle.std.proofs.Common.{◌≡◌, ◌++◌, ◌<◌, ◌-◌, length, take}
use Rattle.codec_payload_base.specs.Leb.{leb, leb_within}
use Rattle.codec_payload_base.proofs.LebLemmas.{limit}
use Rattle.codec_payload_av1.proofs.av1.leb.put_number.Given as goal

abbrev pub invariant-loop : goal.invariant-loop
invariant-loop l = record {
  written : l.out.items ++ leb_within (9 - l.counter) l.rest ≡ l.fn.out.items ++ leb l.number;
  kept : take (length l.fn.out.items) l.out.items ≡ l.fn.out.items;
  small : l.rest < limit (9 - l.counter);
}
