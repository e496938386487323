use Rattle.std.proofs.Common.{◌≡◌, ◌≢◌, ◌∙◌, ◌<◌, ℕ, List, Some, None, length, arith, subst, sym, ap}
use Rattle.std.specs.List.{position}
use Rattle.codec_payload_index.specs.Ssrcs.{IsFirstFrom, IsPlaceFrom}
use Rattle.codec_payload_session_stream.specs.Streams.{StreamState, is_of}
use Rattle.codec_payload_session.specs.Arrivals.{Port}
use Rattle.codec_payload_session_stream.specs.Waking.{ssrcs_of}
use Rattle.codec_payload_session_stream.proofs.SsrcLemmas.{count_of}
use Rattle.codec_payload_session.proofs.SsrcLemmas.{first_at, found_in, is_not_of, is_of_it, none_at_all, none_before, nowhere, of_ssrc, one_more}
use Rattle.codec_payload_session.proofs.streams.Streams.place_of.Goals as goal

pub index-requires : goal.index-requires
index-requires c =
    let ss = c.self.inside.list.items in
    let found : IsPlaceFrom c.loop-place.from c.args.ssrc (ssrcs_of ss) c.in-Some.place = subst (λ (l : List ℕ). IsPlaceFrom c.loop-place.from c.args.ssrc l c.in-Some.place) c.self.invariant.listed c.in-Some.ensures in
    omega (arith, found.within, count_of ss, c.self.inside.list.ok.0)

pub returns-then-index-payload_type-clause-value : goal.returns-then-index-payload_type-clause-value
returns-then-index-payload_type-clause-value c =
    let ss = c.self.inside.list.items in
    let x : StreamState = c.index.result.now in
    let place : ℕ = c.in-Some.place in
    let here : IsPlaceFrom c.loop-place.from c.args.ssrc c.self.inside.ssrcs place = c.in-Some.ensures in
    let it = found_in c.self.inside.ssrcs c.args.ssrc c.loop-place.from place ss x c.self.invariant.listed here c.index.ensures in
    let found : IsPlaceFrom c.loop-place.from c.args.ssrc (ssrcs_of ss) place = subst (λ (l : List ℕ). IsPlaceFrom c.loop-place.from c.args.ssrc l place) c.self.invariant.listed here in
    let none = none_before (is_of c.args.ssrc c.args.payload_type) c.args.ssrc c.loop-place.from place ss (of_ssrc c.args.ssrc c.args.payload_type) c.loop-place.invariant.none found in
    let type_is : x.format.payload_type ≡ c.args.payload_type = ap (λ (s : StreamState). s.format.payload_type) (sym c.behind-self.view_is) ∙ c.if-index-payload_type.true in
    subst (λ (p : Port). Some place ≡ position (is_of c.args.ssrc c.args.payload_type) p.streams) c.self.view_is
    (first_at (is_of c.args.ssrc c.args.payload_type) ss place x it.within none c.index.ensures (is_of_it c.args.ssrc c.args.payload_type x it.ssrc_is type_is))

pub returns-then-index-payload_type-clause-within : goal.returns-then-index-payload_type-clause-within
returns-then-index-payload_type-clause-within c =
    let ss = c.self.inside.list.items in
    let found : IsPlaceFrom c.loop-place.from c.args.ssrc (ssrcs_of ss) c.in-Some.place = subst (λ (l : List ℕ). IsPlaceFrom c.loop-place.from c.args.ssrc l c.in-Some.place) c.self.invariant.listed c.in-Some.ensures in
    let within : c.in-Some.place < length ss = omega (arith, found.within, count_of ss) in
    subst (λ (p : Port). c.in-Some.place < length p.streams) c.self.view_is within

pub overflow_add-from : goal.overflow_add-from
overflow_add-from c =
    let ss = c.self.inside.list.items in
    let found : IsPlaceFrom c.loop-place.from c.args.ssrc (ssrcs_of ss) c.in-Some.place = subst (λ (l : List ℕ). IsPlaceFrom c.loop-place.from c.args.ssrc l c.in-Some.place) c.self.invariant.listed c.in-Some.ensures in
    omega (arith, found.within, count_of ss, c.self.inside.list.ok.0)

pub loop-place-smaller : goal.loop-place-smaller
loop-place-smaller c =
    let ss = c.self.inside.list.items in
    let found : IsPlaceFrom c.loop-place.from c.args.ssrc (ssrcs_of ss) c.in-Some.place = subst (λ (l : List ℕ). IsPlaceFrom c.loop-place.from c.args.ssrc l c.in-Some.place) c.self.invariant.listed c.in-Some.ensures in
    omega (arith, found.within, found.behind, count_of ss)

pub loop-place-preserved : goal.loop-place-preserved
loop-place-preserved c =
    let ss = c.self.inside.list.items in
    let x : StreamState = c.index.result.now in
    let place : ℕ = c.in-Some.place in
    let here : IsPlaceFrom c.loop-place.from c.args.ssrc c.self.inside.ssrcs place = c.in-Some.ensures in
    let it = found_in c.self.inside.ssrcs c.args.ssrc c.loop-place.from place ss x c.self.invariant.listed here c.index.ensures in
    let found : IsPlaceFrom c.loop-place.from c.args.ssrc (ssrcs_of ss) place = subst (λ (l : List ℕ). IsPlaceFrom c.loop-place.from c.args.ssrc l place) c.self.invariant.listed here in
    let none = none_before (is_of c.args.ssrc c.args.payload_type) c.args.ssrc c.loop-place.from place ss (of_ssrc c.args.ssrc c.args.payload_type) c.loop-place.invariant.none found in
    let type_is : x.format.payload_type ≢ c.args.payload_type = λ same. c.if-index-payload_type.false (ap (λ (s : StreamState). s.format.payload_type) c.behind-self.view_is ∙ same) in
    record {
      none = one_more (is_of c.args.ssrc c.args.payload_type) place ss x none it.within c.index.ensures (is_not_of c.args.ssrc c.args.payload_type x type_is);
      within = omega (arith, it.within);
    }

pub returns-clause-value : goal.returns-clause-value
returns-clause-value c =
    let ss = c.self.inside.list.items in
    let missing : IsFirstFrom c.loop-place.from c.args.ssrc (ssrcs_of ss) None = subst (λ (l : List ℕ). IsFirstFrom c.loop-place.from c.args.ssrc l None) c.self.invariant.listed c.in_default.ensures in
    subst (λ (p : Port). None ≡ position (is_of c.args.ssrc c.args.payload_type) p.streams) c.self.view_is
    (nowhere (is_of c.args.ssrc c.args.payload_type) ss (none_at_all (is_of c.args.ssrc c.args.payload_type) c.args.ssrc c.loop-place.from ss (of_ssrc c.args.ssrc c.args.payload_type) c.loop-place.invariant.none missing))
