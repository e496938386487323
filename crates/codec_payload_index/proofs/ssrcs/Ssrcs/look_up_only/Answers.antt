use Rattle.std.proofs.Common.{◌<◌, ◌≤◌, ◌+◌, ℕ, ◌^◌, List, Some, None, length, arith, subst}
use Rattle.codec_payload_index.specs.Ssrcs.{IsFirstFrom, IsOnly}
use Rattle.codec_payload_index.specs.declared.ssrcs.Entry.{Entry}
use Rattle.codec_payload_index.proofs.EntryLemmas.{IsPoint, found, next_point, not_found, nowhere, past_end, point_of, several}
use Rattle.codec_payload_index.proofs.ssrcs.Ssrcs.look_up_only.Goals as goal

pub returns-then-at-len : goal.returns-then-at-len
returns-then-at-len c =
    let ss = c.self.inside.list.items in
    let es = c.self.inside.entries.items in
    let at = c.search_near-at.result in
    let point : IsPoint c.args.ssrc 0 at es = subst (λ (l : List Entry). IsPoint c.args.ssrc 0 at l) c.deref.ensures.value (point_of c.args.ssrc 0 at c.deref.result.now c.search_near-at.ensures.point) in
    let past : length es ≤ at = omega (arith, c.if-at-len.true, c.len.ensures, c.self.inside.entries.ok.0) in
    subst (λ (l : List ℕ). IsOnly c.args.ssrc l None) c.self.view_is (nowhere c.args.ssrc ss (past_end ss es c.args.ssrc 0 at c.self.invariant point past))

pub returns-then-entry-ssrc : goal.returns-then-entry-ssrc
returns-then-entry-ssrc c =
    let ss = c.self.inside.list.items in
    let es = c.self.inside.entries.items in
    let at = c.search_near-at.result in
    let point : IsPoint c.args.ssrc 0 at es = subst (λ (l : List Entry). IsPoint c.args.ssrc 0 at l) c.deref.ensures.value (point_of c.args.ssrc 0 at c.deref.result.now c.search_near-at.ensures.point) in
    let within : at < length es = omega (arith, c.if-at-len.false, c.len.ensures, c.self.inside.entries.ok.0) in
    let few : length ss < 2 ^ 64 = omega (arith, c.self.inside.list.ok.0) in
    subst (λ (l : List ℕ). IsOnly c.args.ssrc l None) c.self.view_is
    (nowhere c.args.ssrc ss (not_found ss es c.args.ssrc 0 at c.index-entry.result.now few c.self.invariant point within c.index-entry.ensures c.if-entry-ssrc.true))

pub returns-then-next-len : goal.returns-then-next-len
returns-then-next-len c =
    let ss = c.self.inside.list.items in
    let es = c.self.inside.entries.items in
    let at = c.search_near-at.result in
    let e = c.index-entry.result.now in
    let point : IsPoint c.args.ssrc 0 at es = subst (λ (l : List Entry). IsPoint c.args.ssrc 0 at l) c.deref.ensures.value (point_of c.args.ssrc 0 at c.deref.result.now c.search_near-at.ensures.point) in
    let within : at < length es = omega (arith, c.if-at-len.false, c.len.ensures, c.self.inside.entries.ok.0) in
    let few : length ss < 2 ^ 64 = omega (arith, c.self.inside.list.ok.0) in
    let next : IsPoint c.args.ssrc (e.place + 1) (at + 1) es = next_point es c.args.ssrc at e c.self.invariant.rise within c.index-entry.ensures c.if-entry-ssrc.false point in
    let past : length es ≤ at + 1 = omega (arith, c.if-next-len.true, c.len-2.ensures, c.self.inside.entries.ok.0) in
    subst (λ (l : List ℕ). IsOnly c.args.ssrc l (Some e.place)) c.self.view_is
    (found ss es c.args.ssrc 0 at e few c.self.invariant point within c.index-entry.ensures c.if-entry-ssrc.false, past_end ss es c.args.ssrc (e.place + 1) (at + 1) c.self.invariant next past)

pub returns-then-index-ssrc : goal.returns-then-index-ssrc
returns-then-index-ssrc c =
    let ss = c.self.inside.list.items in
    let es = c.self.inside.entries.items in
    let at = c.search_near-at.result in
    let e = c.index-entry.result.now in
    let point : IsPoint c.args.ssrc 0 at es = subst (λ (l : List Entry). IsPoint c.args.ssrc 0 at l) c.deref.ensures.value (point_of c.args.ssrc 0 at c.deref.result.now c.search_near-at.ensures.point) in
    let within : at < length es = omega (arith, c.if-at-len.false, c.len.ensures, c.self.inside.entries.ok.0) in
    let few : length ss < 2 ^ 64 = omega (arith, c.self.inside.list.ok.0) in
    let next : IsPoint c.args.ssrc (e.place + 1) (at + 1) es = next_point es c.args.ssrc at e c.self.invariant.rise within c.index-entry.ensures c.if-entry-ssrc.false point in
    let inside : at + 1 < length es = omega (arith, c.if-next-len.false, c.len-2.ensures, c.self.inside.entries.ok.0) in
    let other = c.index.result.now in
    subst (λ (l : List ℕ). IsOnly c.args.ssrc l None) c.self.view_is
    (several c.args.ssrc e.place other.place ss (found ss es c.args.ssrc 0 at e few c.self.invariant point within c.index-entry.ensures c.if-entry-ssrc.false)
    (found ss es c.args.ssrc (e.place + 1) (at + 1) other few c.self.invariant next inside c.index.ensures c.if-index-ssrc.true))

pub returns : goal.returns
returns c =
    let ss = c.self.inside.list.items in
    let es = c.self.inside.entries.items in
    let at = c.search_near-at.result in
    let e = c.index-entry.result.now in
    let point : IsPoint c.args.ssrc 0 at es = subst (λ (l : List Entry). IsPoint c.args.ssrc 0 at l) c.deref.ensures.value (point_of c.args.ssrc 0 at c.deref.result.now c.search_near-at.ensures.point) in
    let within : at < length es = omega (arith, c.if-at-len.false, c.len.ensures, c.self.inside.entries.ok.0) in
    let few : length ss < 2 ^ 64 = omega (arith, c.self.inside.list.ok.0) in
    let next : IsPoint c.args.ssrc (e.place + 1) (at + 1) es = next_point es c.args.ssrc at e c.self.invariant.rise within c.index-entry.ensures c.if-entry-ssrc.false point in
    let inside : at + 1 < length es = omega (arith, c.if-next-len.false, c.len-2.ensures, c.self.inside.entries.ok.0) in
    let other = c.index.result.now in
    subst (λ (l : List ℕ). IsOnly c.args.ssrc l (Some e.place)) c.self.view_is (
      found ss es c.args.ssrc 0 at e few c.self.invariant point within c.index-entry.ensures c.if-entry-ssrc.false,
      not_found ss es c.args.ssrc (e.place + 1) (at + 1) other few c.self.invariant next inside c.index.ensures c.if-index-ssrc.false,
    )
