use Rattle.std.proofs.Common.{◌≡◌, ◌∙◌, Some, ap, arith, subst, sym}
use Rattle.codec_payload_index.specs.Ssrcs.{IsOnly, IsPlaceFrom}
use Rattle.codec_payload_session.specs.Arrivals.{Port}
use Rattle.codec_payload_session.specs.Waking.{IsOnlyOf}
use Rattle.codec_payload_session_stream.specs.Streams.{StreamState}
use Rattle.codec_payload_session_stream.specs.Waking.{ssrcs_of}
use Rattle.codec_payload_session_stream.proofs.SsrcLemmas.{count_of}
use Rattle.codec_payload_session.proofs.OnlyLemmas.{only_of}
use Rattle.codec_payload_session.proofs.streams.Streams.only_place.Goals as goal

pub index-requires : goal.index-requires
index-requires c =
    let ss = c.self.inside.list.items in
    let only : IsOnly c.args.ssrc (ssrcs_of ss) (Some c.in-Some.place) = rw (sym c.self.invariant.listed) c.in-Some.ensures in
    omega (arith, only.0.within, count_of ss, c.self.inside.list.ok.0)

pub returns-then-index-payload_type : goal.returns-then-index-payload_type
returns-then-index-payload_type c =
    let ss = c.self.inside.list.items in
    let x : StreamState = c.index.result.now in
    let type_is : x.format.payload_type ≡ c.args.payload_type = ap (λ (s : StreamState). s.format.payload_type) (sym c.behind-self.view_is) ∙ c.if-index-payload_type.true in
    subst (λ (p : Port). IsOnlyOf c.args.ssrc c.args.payload_type c.in-Some.place p.streams) c.self.view_is
    (only_of c.args.ssrc c.args.payload_type c.in-Some.place c.self.inside.ssrcs ss x c.self.invariant.listed c.in-Some.ensures c.index.ensures type_is)
