use Rattle.std.proofs.Common.{◌∙◌, ℕ, Bool, true, false, refl, sym, ap}
use Rattle.std.specs.Option.{option_map}
use Rattle.std.specs.Option.{is_some}
use Rattle.codec_payload_receiver.specs.Noting.{noting_of}
use Rattle.codec_payload_datagrams.specs.Choice.{Choosing, leaving, waiting_with}
use Rattle.codec_payload_receiver.specs.Sessions.{Session, turned_away_if}
use Rattle.codec_payload_receiver.proofs.receiver.Receiver.keep.Goals as goal

pub returns-then-left : goal.returns-then-left
returns-then-left g c =
    let s : Session = record {
      stream = c.self.inside.stream;
      named = c.self.inside.named;
      ssrc = c.self.inside.ssrc;
      packets = c.self.inside.packets;
      arrived = c.self.inside.arrived;
      time = c.self.inside.times;
      reception = c.self.inside.statistics;
      choice = c.self.inside.choice;
      seen = c.self.inside.seen;
      gates = c.self.inside.gates;
      bound = c.self.inside.bound;
      notes = option_map noting_of c.self.inside.notes;
    } in
    let ok = c.in-Ok.ensures.ok in
    let ssrc : ℕ = c.args.origin.ssrc in (
      refl,
      record {
        candidate = ok.1.0;
        is = ok.1.1;
        left = c.turn_away.ensures ∙ ap (λ (k : Choosing). record s { arrived = turned_away_if true s.arrived; choice = k }) ok.1.2
            ∙ ap (λ (b : Bool). record s { arrived = turned_away_if b s.arrived; choice = record s.choice { candidates = waiting_with ok.1.0 s.choice.candidates } }) (sym c.if-left.true ∙ ok.0)
            ∙ ap (λ (y : Session). record y { arrived = turned_away_if (is_some (leaving ssrc y.choice.candidates)) y.arrived; choice = record y.choice { candidates = waiting_with ok.1.0 y.choice.candidates } }) c.self.view_is;
      },
    )

pub returns-else-left : goal.returns-else-left
returns-else-left g c =
    let s : Session = record {
      stream = c.self.inside.stream;
      named = c.self.inside.named;
      ssrc = c.self.inside.ssrc;
      packets = c.self.inside.packets;
      arrived = c.self.inside.arrived;
      time = c.self.inside.times;
      reception = c.self.inside.statistics;
      choice = c.self.inside.choice;
      seen = c.self.inside.seen;
      gates = c.self.inside.gates;
      bound = c.self.inside.bound;
      notes = option_map noting_of c.self.inside.notes;
    } in
    let ok = c.in-Ok.ensures.ok in
    let ssrc : ℕ = c.args.origin.ssrc in (
      refl,
      record {
        candidate = ok.1.0;
        is = ok.1.1;
        left = ap (λ (k : Choosing). record s { arrived = turned_away_if false s.arrived; choice = k }) ok.1.2
            ∙ ap (λ (b : Bool). record s { arrived = turned_away_if b s.arrived; choice = record s.choice { candidates = waiting_with ok.1.0 s.choice.candidates } }) (sym c.if-left.false ∙ ok.0)
            ∙ ap (λ (y : Session). record y { arrived = turned_away_if (is_some (leaving ssrc y.choice.candidates)) y.arrived; choice = record y.choice { candidates = waiting_with ok.1.0 y.choice.candidates } }) c.self.view_is;
      },
    )
