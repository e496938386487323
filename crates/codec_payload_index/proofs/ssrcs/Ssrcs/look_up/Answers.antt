use Rattle.std.proofs.Common.{◌<◌, ◌≤◌, ℕ, ◌^◌, List, Some, None, length, arith, subst}
use Rattle.codec_payload_index.specs.Ssrcs.{IsFirstFrom}
use Rattle.codec_payload_index.specs.declared.ssrcs.Entry.{Entry}
use Rattle.codec_payload_index.proofs.EntryLemmas.{IsPoint, found, not_found, past_end, point_of}
use Rattle.codec_payload_index.proofs.ssrcs.Ssrcs.look_up.Goals as goal

pub returns-then-at-len : goal.returns-then-at-len
returns-then-at-len c =
    let ss = c.self.inside.list.items in
    let es = c.self.inside.entries.items in
    let point : IsPoint c.args.ssrc c.args.from c.search_near-at.result es =
    subst (λ (l : List Entry). IsPoint c.args.ssrc c.args.from c.search_near-at.result l) c.deref.ensures.value (point_of c.args.ssrc c.args.from c.search_near-at.result c.deref.result.now c.search_near-at.ensures.point) in
    let past : length es ≤ c.search_near-at.result = omega (arith, c.if-at-len.true, c.len.ensures, c.self.inside.entries.ok.0) in
    subst (λ (l : List ℕ). IsFirstFrom c.args.from c.args.ssrc l None) c.self.view_is (past_end ss es c.args.ssrc c.args.from c.search_near-at.result c.self.invariant point past)

pub returns-then-entry-ssrc : goal.returns-then-entry-ssrc
returns-then-entry-ssrc c =
    let ss = c.self.inside.list.items in
    let es = c.self.inside.entries.items in
    let point : IsPoint c.args.ssrc c.args.from c.search_near-at.result es =
    subst (λ (l : List Entry). IsPoint c.args.ssrc c.args.from c.search_near-at.result l) c.deref.ensures.value (point_of c.args.ssrc c.args.from c.search_near-at.result c.deref.result.now c.search_near-at.ensures.point) in
    let within : c.search_near-at.result < length es = omega (arith, c.if-at-len.false, c.len.ensures, c.self.inside.entries.ok.0) in
    let few : length ss < 2 ^ 64 = omega (arith, c.self.inside.list.ok.0) in
    subst (λ (l : List ℕ). IsFirstFrom c.args.from c.args.ssrc l (Some c.index-entry.result.now.place)) c.self.view_is
    (found ss es c.args.ssrc c.args.from c.search_near-at.result c.index-entry.result.now few c.self.invariant point within c.index-entry.ensures c.if-entry-ssrc.true)

pub returns-else-entry-ssrc : goal.returns-else-entry-ssrc
returns-else-entry-ssrc c =
    let ss = c.self.inside.list.items in
    let es = c.self.inside.entries.items in
    let point : IsPoint c.args.ssrc c.args.from c.search_near-at.result es =
    subst (λ (l : List Entry). IsPoint c.args.ssrc c.args.from c.search_near-at.result l) c.deref.ensures.value (point_of c.args.ssrc c.args.from c.search_near-at.result c.deref.result.now c.search_near-at.ensures.point) in
    let within : c.search_near-at.result < length es = omega (arith, c.if-at-len.false, c.len.ensures, c.self.inside.entries.ok.0) in
    let few : length ss < 2 ^ 64 = omega (arith, c.self.inside.list.ok.0) in
    subst (λ (l : List ℕ). IsFirstFrom c.args.from c.args.ssrc l None) c.self.view_is
    (not_found ss es c.args.ssrc c.args.from c.search_near-at.result c.index-entry.result.now few c.self.invariant point within c.index-entry.ensures c.if-entry-ssrc.false)
