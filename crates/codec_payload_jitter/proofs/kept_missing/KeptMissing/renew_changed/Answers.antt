use Rattle.std.proofs.Common.{◌≡◌, ◌∙◌, ◌++◌, ap, arith, max, min, refl, subst, sym}
use Rattle.std.proofs.lemmas.List.{append_assoc}
use Rattle.codec_payload_jitter.specs.KeptMissing.{Keeps, Kept, within}
use Rattle.codec_payload_jitter.specs.KeptRenewing.{changed_from}
use Rattle.codec_payload_jitter.specs.Missing.{absent_between}
use Rattle.codec_payload_jitter.proofs.KeptLemmas.{exact_keeps, renewed}
use Rattle.codec_payload_jitter.proofs.kept_missing.KeptMissing.renew_changed.Goals as goal

pub returns-clause-ok : goal.returns-clause-ok
returns-clause-ok g c =
    let r = c.args.packets.now in
    let next = c.args.next in
    let from = c.changed_from-from.result in
    let to = c.min-to.result in
    let high = c.min-high.result in
    let kept = c.self.inside.numbers.items in
    let keeps = subst (λ (k : Kept). Keeps k r.buffer r.no_media_numbers) (sym c.self.view_is) c.requires.keeps in
    let is_high : high ≡ min (max c.self.inside.high next) c.args.end = c.min-high.ensures ∙ ap (λ n. min n c.args.end) c.max.ensures in
    let is_to : to ≡ min (max (max c.self.inside.to c.self.inside.low) from) high =
    c.min-to.ensures ∙ ap (λ n. min n high) (c.max-3.ensures ∙ ap (λ n. max n from) c.max-2.ensures) in
    let front : c.copy_within.new.out.items ≡ within next from kept =
    c.in_ok-copy_within.ensures ∙ (ap (λ xs. xs ++ within next from c.deref.result.now) c.clear.ensures.items ∙ ap (within next from) c.deref.ensures.value) in
    let middle : c.search.new.out.items ≡ within next from kept ++ absent_between r from to = c.in_ok-search.ensures ∙ ap (λ xs. xs ++ absent_between r from to) front in
    let all : c.copy_within-2.new.out.items ≡ within next from kept ++ (absent_between r from to ++ within to high kept) =
    c.in_ok-copy_within-2.ensures ∙ (ap (λ xs. xs ++ within to high c.deref-2.result.now) middle
    ∙ (ap (λ xs. (within next from kept ++ absent_between r from to) ++ within to high xs) c.deref-2.ensures.value ∙ append_assoc (within next from kept) (absent_between r from to) (within to high kept))) in
    record {
      low = refl;
      high = omega (arith, is_high);
      numbers = ap (λ v. v.items) c.swap.ensures.x_after ∙ (all
          ∙ renewed _ r.buffer r.no_media_numbers next c.args.end high from to keeps c.requires.order c.requires.over is_high (c.changed_from-from.ensures ∙ ap (changed_from next high) (sym c.self.view_is)) is_to);
    }

pub returns-clause-keeps : goal.returns-clause-keeps
returns-clause-keeps g c = exact_keeps _ c.args.packets.now.buffer c.args.packets.now.no_media_numbers (returns-clause-ok g c).numbers
