use Rattle.std.proofs.Common.{◌≡◌, ◌∙◌, ap, arith, subst, sym, take, ℕ}
use Rattle.codec_payload_jitter.specs.KeptMissing.{Kept, free_between}
use Rattle.codec_payload_jitter.specs.KeptRenewing.{Extends, IsExact}
use Rattle.codec_payload_jitter.proofs.KeptLemmas.{exact_extended, exact_keeps, first_most}
use Rattle.codec_payload_jitter.proofs.kept_missing.KeptMissing.extend.Goals as goal

pub returns-in-Ok-clause-keeps : goal.returns-in-Ok-clause-keeps
returns-in-Ok-clause-keeps g c =
    let r = c.args.packets.now in
    let exact = subst (λ (k : Kept). IsExact r c.args.next c.args.end k) (sym c.self.view_is) c.requires.exact in
    let more = subst (λ (n : ℕ). Extends r n c.args.end c.args.most c.self.inside.numbers.items c.in-Ok.high c.append_absent.new.out.items) c.max-from.ensures c.in-Ok.ensures.ok in
    let whole = exact_extended r.buffer.held r.no_media_numbers c.self.inside.numbers.items c.append_absent.new.out.items c.args.next c.self.inside.high c.in-Ok.high exact.numbers more.numbers more.above in
    exact_keeps _ r.buffer r.no_media_numbers (whole ∙ ap (λ n. free_between r.buffer.held r.no_media_numbers n c.in-Ok.high) (sym exact.low))

pub returns-in-Ok-clause-ok : goal.returns-in-Ok-clause-ok
returns-in-Ok-clause-ok g c =
    let r = c.args.packets.now in
    let exact = subst (λ (k : Kept). IsExact r c.args.next c.args.end k) (sym c.self.view_is) c.requires.exact in
    let more = subst (λ (n : ℕ). Extends r n c.args.end c.args.most c.self.inside.numbers.items c.in-Ok.high c.append_absent.new.out.items) c.max-from.ensures c.in-Ok.ensures.ok in
    let whole = exact_extended r.buffer.held r.no_media_numbers c.self.inside.numbers.items c.append_absent.new.out.items c.args.next c.self.inside.high c.in-Ok.high exact.numbers more.numbers more.above in
    first_most r.buffer.held r.no_media_numbers c.append_absent.new.out.items c.args.next c.in-Ok.high c.args.end c.args.most whole (omega (arith, more.above)) more.below more.done

pub returns-in-Err-clause-keeps : goal.returns-in-Err-clause-keeps
returns-in-Err-clause-keeps g c =
    let r = c.args.packets.now in
    let exact = subst (λ (k : Kept). IsExact r c.args.next c.args.end k) (sym c.self.view_is) c.requires.exact in
    let same : c.truncate.new.self.items ≡ c.self.inside.numbers.items =
    c.truncate.ensures.items ∙ (ap (λ n. take n c.append_absent.new.out.items) (c.len-len.ensures ∙ c.self.inside.numbers.ok.0) ∙ c.append_absent.ensures.kept) in
    exact_keeps _ r.buffer r.no_media_numbers (same ∙ (exact.numbers ∙ ap (λ n. free_between r.buffer.held r.no_media_numbers n c.self.inside.high) (sym exact.low)))
