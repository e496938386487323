use Rattle.std.proofs.Common.{◌≡◌, ◌∙◌, ℕ, List, None, true, false, arith, subst, sym}
use Rattle.codec_payload_index.specs.Ssrcs.{IsFirstFrom, IsPlaceFrom}
use Rattle.codec_payload_session.specs.Arrivals.{Port}
use Rattle.codec_payload_session_stream.specs.Changes.{any_left_behind, is_left_behind}
use Rattle.codec_payload_session_stream.specs.Streams.{StreamState}
use Rattle.codec_payload_session_stream.specs.Waking.{ssrcs_of}
use Rattle.codec_payload_session_stream.proofs.SsrcLemmas.{count_of}
use Rattle.codec_payload_session.proofs.SsrcLemmas.{found_in, none_at_all, none_before, none_left, of_left, one_left, one_more}
use Rattle.codec_payload_session.proofs.streams.Streams.has_left_behind.Goals as goal

pub index-requires : goal.index-requires
index-requires c =
    let ss = c.self.inside.list.items in
    let found : IsPlaceFrom c.loop-place.from c.args.ssrc (ssrcs_of ss) c.in-Some.place = subst (λ (l : List ℕ). IsPlaceFrom c.loop-place.from c.args.ssrc l c.in-Some.place) c.self.invariant.listed c.in-Some.ensures in
    omega (arith, found.within, count_of ss, c.self.inside.list.ok.0)

pub returns-then-is_left_behind : goal.returns-then-is_left_behind
returns-then-is_left_behind c =
    let ss = c.self.inside.list.items in
    let x : StreamState = c.index.result.now in
    let place : ℕ = c.in-Some.place in
    let it = found_in c.self.inside.ssrcs c.args.ssrc c.loop-place.from place ss x c.self.invariant.listed c.in-Some.ensures c.index.ensures in
    let left : is_left_behind c.args.now c.args.wait c.args.ssrc c.args.format.now x ≡ true = sym c.is_left_behind.ensures ∙ c.if-is_left_behind.true in
    subst (λ (p : Port). true ≡ any_left_behind c.args.now c.args.wait c.args.ssrc c.args.format.now p.streams) c.self.view_is
    (sym (one_left c.args.now c.args.wait c.args.ssrc c.args.format.now ss place x it.within c.index.ensures left))

pub overflow_add-from : goal.overflow_add-from
overflow_add-from c =
    let ss = c.self.inside.list.items in
    let found : IsPlaceFrom c.loop-place.from c.args.ssrc (ssrcs_of ss) c.in-Some.place = subst (λ (l : List ℕ). IsPlaceFrom c.loop-place.from c.args.ssrc l c.in-Some.place) c.self.invariant.listed c.in-Some.ensures in
    omega (arith, found.within, count_of ss, c.self.inside.list.ok.0)

pub loop-place-smaller : goal.loop-place-smaller
loop-place-smaller c =
    let ss = c.self.inside.list.items in
    let found : IsPlaceFrom c.loop-place.from c.args.ssrc (ssrcs_of ss) c.in-Some.place = subst (λ (l : List ℕ). IsPlaceFrom c.loop-place.from c.args.ssrc l c.in-Some.place) c.self.invariant.listed c.in-Some.ensures in
    omega (arith, found.within, found.behind, count_of ss)

pub loop-place-preserved : goal.loop-place-preserved
loop-place-preserved c =
    let ss = c.self.inside.list.items in
    let x : StreamState = c.index.result.now in
    let place : ℕ = c.in-Some.place in
    let here : IsPlaceFrom c.loop-place.from c.args.ssrc c.self.inside.ssrcs place = c.in-Some.ensures in
    let it = found_in c.self.inside.ssrcs c.args.ssrc c.loop-place.from place ss x c.self.invariant.listed here c.index.ensures in
    let found : IsPlaceFrom c.loop-place.from c.args.ssrc (ssrcs_of ss) place = subst (λ (l : List ℕ). IsPlaceFrom c.loop-place.from c.args.ssrc l place) c.self.invariant.listed here in
    let left = is_left_behind c.args.now c.args.wait c.args.ssrc c.args.format.now in
    let none = none_before left c.args.ssrc c.loop-place.from place ss (of_left c.args.now c.args.wait c.args.ssrc c.args.format.now) c.loop-place.invariant.none found in
    let stays : is_left_behind c.args.now c.args.wait c.args.ssrc c.args.format.now x ≡ false = sym c.is_left_behind.ensures ∙ c.if-is_left_behind.false in
    record {
      none = one_more left place ss x none it.within c.index.ensures stays;
      within = omega (arith, it.within);
    }

pub returns : goal.returns
returns c =
    let ss = c.self.inside.list.items in
    let missing : IsFirstFrom c.loop-place.from c.args.ssrc (ssrcs_of ss) None = subst (λ (l : List ℕ). IsFirstFrom c.loop-place.from c.args.ssrc l None) c.self.invariant.listed c.in_default.ensures in
    let none = none_at_all (is_left_behind c.args.now c.args.wait c.args.ssrc c.args.format.now) c.args.ssrc c.loop-place.from ss (of_left c.args.now c.args.wait c.args.ssrc c.args.format.now) c.loop-place.invariant.none missing in
    subst (λ (p : Port). false ≡ any_left_behind c.args.now c.args.wait c.args.ssrc c.args.format.now p.streams) c.self.view_is
    (sym (none_left c.args.now c.args.wait c.args.ssrc c.args.format.now ss none))
