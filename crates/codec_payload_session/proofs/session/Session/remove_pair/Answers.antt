use Rattle.std.proofs.Common.{◌≡◌, ◌∙◌, List, ap, refl, subst, sym}
use Rattle.codec_payload_session.specs.Arrivals.{Port}
use Rattle.codec_payload_session.specs.Pairs.{Pairs}
use Rattle.codec_payload_session_stream.specs.Pairs.{paired_where, without_pair}
use Rattle.codec_payload_session.specs.Ports.{IsPort, Session}
use Rattle.codec_payload_session_formats.specs.declared.formats.SessionSettings.{SessionSettings}
use Rattle.codec_payload_session_formats.specs.declared.formats.SsrcPair.{SsrcPair}
use Rattle.codec_payload_session.proofs.PairLemmas.{paired_keeps}
use Rattle.codec_payload_session.proofs.session.Session.remove_pair.Goals as goal

pub invariant_of-self : goal.invariant_of-self
invariant_of-self c =
    let changed : SessionSettings = record c.self.inside.settings { pairs = c.remove_pair.new.pairs } in
    record {
      usable = c.self.invariant.usable;
      port = subst (λ (p : Port). IsPort changed p c.self.inside.counts) (sym c.pair.ensures)
          (paired_keeps c.self.inside.settings changed c.self.inside.counts c.args.ssrc c.deref.result.now c.self.inside.streams refl c.self.invariant.port);
      few = c.self.invariant.few;
    }

pub returns : goal.returns
returns c =
    let changed : SessionSettings = record c.self.inside.settings { pairs = c.remove_pair.new.pairs } in
    let t : Session = record { settings = changed; port = c.pair.new.self; counts = c.self.inside.counts; telephone = c.self.inside.telephone; report_due = c.self.inside.report_due; transport = c.self.inside.transport } in
    let are : c.deref.result.now ≡ without_pair c.args.ssrc c.self.inside.settings.pairs.items = c.deref.ensures.value ∙ c.remove_pair.ensures in
    subst (λ (s : Session). Pairs c.args.ssrc (without_pair c.args.ssrc s.settings.pairs.items) s t) c.self.view_is
    (record {
      named = c.remove_pair.new.pairs;
      has = c.remove_pair.ensures;
      left = ap (λ (p : Port). record t { port = p })
          (c.pair.ensures ∙ ap (λ (l : List SsrcPair). record c.self.inside.streams { streams = paired_where c.args.ssrc l c.self.inside.streams.streams }) are);
    })
