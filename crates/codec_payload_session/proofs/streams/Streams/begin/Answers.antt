use Rattle.std.proofs.Common.{◌≡◌, ◌∙◌, Bool, true, Ok, ap, ap₂, inl, subst, sym}
use Rattle.codec_payload_session.specs.Arrivals.{BeginsIf, Port, begun_in, has_place, names_of_ssrc}
use Rattle.codec_payload_session_stream.specs.declared.arrival.Arrival.{Arrival}
use Rattle.codec_payload_session_stream.specs.Streams.{Takes}
use Rattle.codec_payload_session_formats.specs.declared.names.StreamNames.{StreamNames}
use Rattle.codec_payload_session_stream.specs.declared.stream.StreamState.{StreamState}
use Rattle.codec_payload_session.proofs.streams.Streams.begin.Goals as goal

pub returns : goal.returns
returns c =
    let place : has_place c.args.settings.now.max_streams c.args.self.now ≡ true = sym c.has_place.ensures ∙ c.if-not-has_place.false in
    subst (λ (b : Bool). BeginsIf b c.args.settings.now c.args.of.0 c.args.of.1 c.args.now c.args.datagram.now c.args.self.now
    (Ok c.arrival_of.result) c.add.new.self) (sym place)
    (inl (record {
      stream = c.in_ok-stream.stream;
      after = c.take-answer.new.self;
      told = c.take-answer.result;
      begins = c.in_ok-stream.ensures;
      takes =
          subst (λ (p : Port). Takes c.args.now c.args.settings.now.probation c.args.datagram.now (begun_in c.args.of.0 p c.in_ok-stream.stream) c.take-answer.result c.take-answer.new.self) c.self.view_is
          (subst (λ (x : StreamState). Takes c.args.now c.args.settings.now.probation c.args.datagram.now x c.take-answer.result c.take-answer.new.self)
          (c.tell_names.ensures ∙ ap₂ (λ (x : StreamState) (n : StreamNames). record x { names = n }) c.tell_round_trip.ensures
          (c.names_of_ssrc.ensures ∙ ap (λ (p : Port). names_of_ssrc c.args.of.0 p.streams) (sym c.self.view_is))) c.take-answer.ensures);
      received = sym c.is_no_memory.ensures ∙ c.if-is_no_memory.false;
      answers = ap (λ (a : Arrival). Ok a) c.arrival_of.ensures;
      left = c.in_ok-add.ensures.ok;
    }))
