use Rattle.std.proofs.Common.{◌≡◌, ◌∙◌, List, ap, length, subst, sym}
use Rattle.std.proofs.lemmas.List.{with_items_is}
use Rattle.std.specs.Vec.{with_items}
use Rattle.codec_payload_session.specs.Arrivals.{Port}
use Rattle.codec_payload_session_stream.specs.Renegotiation.{StayOrEnd}
use Rattle.codec_payload_session_stream.specs.declared.stream.StreamState.{StreamState}
use Rattle.codec_payload_session_stream.specs.Waking.{ssrcs_of}
use Rattle.codec_payload_session.proofs.RenegotiationLemmas.{length_stays, ssrcs_stay}
use Rattle.codec_payload_session.proofs.SsrcLemmas.{forgotten}
use Rattle.codec_payload_session.proofs.streams.Streams.leave_formats.Goals as goal

pub invariant_of-self : goal.invariant_of-self
invariant_of-self c =
    let same = ssrcs_stay c.args.formats.now c.args.at c.deref_mut.result.now c.leave_formats.new.streams c.leave_formats.ensures ∙ ap ssrcs_of c.deref_mut.ensures.value in
    forgotten c.forget.new.self c.self.inside.ssrcs c.self.inside.list c.leave_formats.new.streams c.forget.ensures c.self.invariant.listed same

pub returns : goal.returns
returns c =
    let ss : List StreamState = c.self.inside.list.items in
    let ts : List StreamState = c.leave_formats.new.streams in
    let p : Port = record { streams = ss; finished = c.self.inside.finished; ended = c.self.inside.ended; last = c.self.inside.last; exchange = c.self.inside.exchange } in
    let each : StayOrEnd c.args.formats.now c.args.at ss ts = subst (λ (l : List StreamState). StayOrEnd c.args.formats.now c.args.at l ts) c.deref_mut.ensures.value c.leave_formats.ensures in
    let long : length ts ≡ c.self.inside.list.len = length_stays c.args.formats.now c.args.at ss ts each ∙ sym c.self.inside.list.ok.0 in
    let written : List StreamState = (with_items c.self.inside.list ts).items in
    let same : written ≡ ts = with_items_is c.self.inside.list ts long in
    let after : List StreamState → Port = λ l. record p { streams = l } in
    subst (λ (q : Port). (streams : List StreamState) × StayOrEnd c.args.formats.now c.args.at q.streams streams × (after written ≡ record q { streams = streams })) c.self.view_is
    (ts, each, ap after same)
