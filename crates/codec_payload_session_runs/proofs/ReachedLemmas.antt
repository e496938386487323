-- Sessions that runs from a new session reach.
use Rattle.std.proofs.Common.{◌≡◌, ◌∙◌, inl, inr, ◌⊎◌, refl, sym, ap, ap₂, subst, subst₂, ℕ, ◌+◌, ◌==◌, Bool, true, false, List, [], ◌∷◌, ◌++◌, Option, Some, None, Result, Ok, Err, append_assoc, append-nil, arith}
use Rattle.std.specs.List.{position}
use Rattle.std.specs.Global.{Vec}
use Rattle.std.specs.declared.alloc.AllocError.{AllocError}
use Rattle.codec_payload_base.specs.declared.wire.Ticks.{Ticks}
use Rattle.codec_payload_feedback_wait.specs.Waits.{Wait}
use Rattle.codec_payload_session.specs.Keyframes.{answer_among}
use Rattle.codec_payload_session_requests.specs.Named.{rules_for}
use Rattle.codec_payload_session_requests.specs.Requests.{Asking}
use Rattle.codec_payload_stream_edges.specs.declared.followed.Followed.{Followed}
use Rattle.codec_payload_stream_edges.specs.declared.rules.EdgeRules.{EdgeRules}
use Rattle.codec_payload_session.specs.Arrivals.{Port, has_ssrc}
use Rattle.codec_payload_session.specs.Accepting.{Accepts, noted_in, time_for}
use Rattle.codec_payload_session.specs.Associations.{AssociatesBy, pair_at}
use Rattle.codec_payload_session.specs.Pairs.{Pairs}
use Rattle.codec_payload_session_stream.specs.Pairs.{paired_where, with_pair}
use Rattle.codec_payload_session.specs.Polls.{GoesOn, PollsAfter, SendsAfter, SendsTransport, TurnsOrReports}
use Rattle.codec_payload_session_stream.specs.Events.{report_event, transport_event}
use Rattle.codec_payload_session.specs.Ports.{Receives, Session, everyone, new_session}
use Rattle.codec_payload_session.specs.Reporting.{ReportsBy, ReportsEach, Reports, all_reported, is_new_round, is_report_due, most_blocks, ReportsIf as ReportsWhen}
use Rattle.codec_payload_session_stream.specs.Streams.{Begins, is_of, Edges, edge_rules_of}
use Rattle.codec_payload_session_stream.specs.Turns.{AreQuiet}
use Rattle.codec_payload_session.specs.Turns.{TakesTurn}
use Rattle.codec_payload_session_formats.specs.declared.formats.FeedbackSettings.{FeedbackSettings}
use Rattle.codec_payload_session_formats.specs.declared.formats.Format.{Format}
use Rattle.codec_payload_session_formats.specs.declared.formats.SessionSettings.{SessionSettings}
use Rattle.codec_payload_session_formats.specs.declared.formats.SsrcPair.{SsrcPair}
use Rattle.codec_payload_session_stream.specs.declared.arrival.Arrival.{Arrival}
use Rattle.codec_payload_session_stream.specs.Units.{Event}
use Rattle.codec_payload_session_stream.specs.declared.events.Event.TheVariants as events
use Rattle.codec_payload_session_stream.specs.declared.stream.Ending.{Ending}
use Rattle.codec_payload_receiver.specs.Sessions.{Session as Receiver}
use Rattle.codec_payload_session_stream.specs.declared.stream.Stage.{Stage}
use Rattle.codec_payload_session_stream.specs.declared.stream.StreamState.{StreamState}
use Rattle.codec_payload_session_runs.proofs.AloneLemmas.{events_more, finishes_append, one_append, order_append, projects_more, projects_shown, runs_append, edges_append}
use Rattle.codec_payload_session_runs.proofs.AssociationLemmas.{IsFound, added_pair, failed_paired, found_pair, paired_evolves, removed_pair}
use Rattle.codec_payload_session_runs.proofs.CallLemmas.{end_evolves, failed_evolves, finish_evolves, pairs_evolve, quiet_evolves, receive_evolves, report_evolves, reported_evolves, tells_evolve, waits_evolve, keyframe_evolves}
use Rattle.codec_payload_session_runs.proofs.FateLemmas.{AreApart, AreFates, AreFresh, AreKnown, BeginsNow, Evolves, IsFate, apart_fates, apart_more, absent_fates, evolves_same, known_fates, known_more, of_is, order_evolves, present, same_sym}
use Rattle.codec_payload_session_runs.proofs.RunLemmas.{runs_more}
use Rattle.codec_payload_feedback_xr.specs.Exchange.{is_lost, sent}
use Rattle.codec_payload_session_runs.proofs.TripLemmas.{told_if, told_streams}
use Rattle.codec_payload_session_runs.proofs.StreamLemmas.{FinishedBy, HasPart, own_waits, same_is}
use Rattle.codec_payload_session_runs.specs.Lives.{AreInOrder, AreMadeBy, AreOfOne, EachEndedAlone, EachIsAlone, EndedAlone, FollowedWaits, IsAbsent, IsAlone, IsPart, Projects, ReceiverCall, StartsWithDatagram, TellsInOrder, ending_poll, events_in, events_of, is_announced, is_same, many_finishes, one_event, waits_for, waits_of, EdgesRun}
use Rattle.codec_payload_session_runs.specs.SessionRuns.{AddsPair, Call, Does, Runs}
use Rattle.codec_payload_session_runs.specs.declared.run.SessionStep.{SessionStep}
use Rattle.codec_payload_session_runs.specs.declared.run.SessionStep.TheVariants as calls
use Rattle.codec_payload_session_runs.specs.declared.run.StepAnswer.{StepAnswer}
use Rattle.codec_payload_session_runs.specs.declared.run.StepAnswer.TheVariants as answers

-- ---- one call

record Moves (c : Call) (s t : Session) : Type 0 where
  evolves : Evolves s.settings c s.port.streams t.port.streams
  others : t.settings ≡ record s.settings { pairs = t.settings.pairs }

abbrev with_pairs : Session → Vec SsrcPair → List StreamState → Session
with_pairs s named streams = record s { settings = record s.settings { pairs = named }; port = record s.port { streams = streams } }

abbrev call_of : SessionStep → StepAnswer → Call
call_of step answer = record { step = step; answer = answer }

-- the streams are the same, or as the report of these bytes leaves them
abbrev pub Same : Option (Result (Vec ℕ) AllocError) → List StreamState → List StreamState → Type 0
Same packet ss ts =
    (ts ≡ ss)
    ⊎ ((bytes : Vec ℕ) × (is_new : Bool) × (room : ℕ) × (lost : Bool) × (trip : Option ℕ) × (packet ≡ Some (Ok bytes)) × (ts ≡ told_if lost trip (all_reported is_new room ss)))

-- the streams of a report
report_streams : (f : FeedbackSettings) (interval tick_rate now : ℕ) (due : Option ℕ) (p : Port) (packet : Result (Vec ℕ) AllocError) (next : Option ℕ) (q : Port)
    → Reports f interval tick_rate now due p packet next q → Same (Some packet) p.streams q.streams
report_streams f interval tick_rate now due p (Ok packet) next q got =
    let is_new : Bool = is_new_round (most_blocks f) p.streams in
    let after : Port = record p { streams = all_reported is_new (most_blocks f) p.streams; exchange = sent p.exchange } in
    inr (packet, is_new, most_blocks f, is_lost p.exchange, (sent p.exchange).round_trip, refl, ap (λ (o : Port). o.streams) got.2 ∙ told_streams (is_lost p.exchange) after)
report_streams f interval tick_rate now due p (Err e) next q got = inl (ap (λ (o : Port). o.streams) got.1)

when_streams : (b : Bool) (f : FeedbackSettings) (interval tick_rate now : ℕ) (due : Option ℕ) (p : Port) (answer : Option (Result (Vec ℕ) AllocError)) (next : Option ℕ) (q : Port)
    → ReportsWhen b f interval tick_rate now due p answer next q → Same answer p.streams q.streams
when_streams false f interval tick_rate now due p answer next q got = inl (ap (λ (o : Port). o.streams) got.2)
when_streams true f interval tick_rate now due p answer next q got =
    subst (λ (o : Option (Result (Vec ℕ) AllocError)). Same o p.streams q.streams) (sym got.1) (report_streams f interval tick_rate now due p got.0 next q got.2)

each_streams : (o : Option ℕ) (f : FeedbackSettings) (tick_rate now : ℕ) (due : Option ℕ) (p : Port) (answer : Option (Result (Vec ℕ) AllocError)) (next : Option ℕ) (q : Port)
    → ReportsEach o f tick_rate now due p answer next q → Same answer p.streams q.streams
each_streams None f tick_rate now due p answer next q got = inl (ap (λ (o : Port). o.streams) got.2)
each_streams (Some interval) f tick_rate now due p answer next q got = when_streams (is_report_due now due p) f interval tick_rate now due p answer next q got

pub by_streams : (o : Option FeedbackSettings) (tick_rate now : ℕ) (due : Option ℕ) (p : Port) (answer : Option (Result (Vec ℕ) AllocError)) (next : Option ℕ) (q : Port)
    → ReportsBy o tick_rate now due p answer next q → Same answer p.streams q.streams
by_streams None tick_rate now due p answer next q got = inl (ap (λ (o : Port). o.streams) got.2)
by_streams (Some f) tick_rate now due p answer next q got = each_streams f.report_interval f tick_rate now due p answer next q got

quiet_or_reported : (packet : Option (Result (Vec ℕ) AllocError)) (given : SessionSettings) (now : Ticks) (idle : ℕ) (ss ts us : List StreamState) → AreQuiet now idle ss ts → Same packet ts us
    → Evolves given (call_of (calls.Poll now) (answers.Polled (report_event packet))) ss us
quiet_or_reported None given now idle ss ts us got (inl same) =
    subst (λ (zs : List StreamState). Evolves given (call_of (calls.Poll now) (answers.Polled None)) ss zs) (sym same) (quiet_evolves given now idle None ss ts (λ x. (refl, refl)) (λ s t. refl) got)
quiet_or_reported None given now idle ss ts us got (inr (bytes, is_new, room, lost, trip, told, same)) = absurd (cc)
quiet_or_reported (Some packet) given now idle ss ts us got (inl same) =
    subst (λ (zs : List StreamState). Evolves given (call_of (calls.Poll now) (answers.Polled (Some (events.Report packet)))) ss zs) (sym same)
    (quiet_evolves given now idle (Some (events.Report packet)) ss ts (λ x. (refl, refl)) (λ s t. refl) got)
quiet_or_reported (Some (Ok packet)) given now idle ss ts us got (inr (bytes, is_new, room, lost, trip, told, same)) =
    subst (λ (zs : List StreamState). Evolves given (call_of (calls.Poll now) (answers.Polled (Some (events.Report (Ok packet))))) ss zs) (sym same)
    (reported_evolves given now idle (Some (events.Report (Ok packet))) is_new room lost trip ss ts tt (λ x. (refl, refl)) (λ s t. refl) got)
quiet_or_reported (Some (Err e)) given now idle ss ts us got (inr (bytes, is_new, room, lost, trip, told, same)) = absurd (cc)

-- no event is the report, so the streams are the same
quiet_or_sent : (packet : Option (Result (Vec ℕ) AllocError)) (given : SessionSettings) (now : Ticks) (idle : ℕ) (ss ts us : List StreamState) → AreQuiet now idle ss ts → us ≡ ts
    → Evolves given (call_of (calls.Poll now) (answers.Polled (transport_event packet))) ss us
quiet_or_sent None given now idle ss ts us got same =
    subst (λ (zs : List StreamState). Evolves given (call_of (calls.Poll now) (answers.Polled None)) ss zs) (sym same) (quiet_evolves given now idle None ss ts (λ x. (refl, refl)) (λ s t. refl) got)
quiet_or_sent (Some packet) given now idle ss ts us got same =
    subst (λ (zs : List StreamState). Evolves given (call_of (calls.Poll now) (answers.Polled (Some (events.TransportFeedback packet)))) ss zs) (sym same)
    (quiet_evolves given now idle (Some (events.TransportFeedback packet)) ss ts (λ x. (refl, refl)) (λ s t. refl) got)

-- without a report the streams are the same
pub unreported_same : (packet : Option (Result (Vec ℕ) AllocError)) (ss ts : List StreamState) → ◌≡◌ {A = Option Event} None (report_event packet) → Same packet ss ts → ts ≡ ss
unreported_same None ss ts none (inl same) = same
unreported_same None ss ts none (inr (bytes, is_new, room, lost, trip, told, same)) = absurd (cc)
unreported_same (Some packet) ss ts none got = absurd (cc)

turn_moves : (o : Option Event) (now : Ticks) (s : Session) (port : Port) (event : Option Event) (t : Session) → AreApart s.port.streams → TakesTurn now s.settings.idle_timeout s.port o port
    → GoesOn o now.0 (record s { port = port }) event t → Moves (call_of (calls.Poll now) (answers.Polled event)) s t
turn_moves None now s port event t apart turn got =
    let streams : port.streams ≡ turn.0 = ap (λ (p : Port). p.streams) turn.2 in
    let quiet : AreQuiet now s.settings.idle_timeout s.port.streams port.streams = subst (λ (zs : List StreamState). AreQuiet now s.settings.idle_timeout s.port.streams zs) (sym streams) turn.1 in
    subst₂ (λ (e : Option Event) (z : Session). Moves (call_of (calls.Poll now) (answers.Polled e)) s z) (sym got.answers) (sym got.left)
    (record {
      evolves = quiet_or_reported got.packet s.settings now s.settings.idle_timeout s.port.streams port.streams got.port.streams quiet
          (by_streams s.settings.feedback s.settings.tick_rate now.0 s.report_due port got.packet got.due got.port got.reports);
      others = refl;
    })
turn_moves (Some e) now s port event t apart turn got =
    subst₂ (λ (o : Option Event) (z : Session). Moves (call_of (calls.Poll now) (answers.Polled o)) s z) (sym got.0) (sym got.1)
    (record { evolves = tells_evolve s.settings now s.settings.idle_timeout s.port e port apart turn; others = refl })

-- the streams and the report have no event
sent_moves : (o : Option Event) (now : Ticks) (s : Session) (port : Port) (after : Session) (event : Option Event) (t : Session) → TakesTurn now s.settings.idle_timeout s.port o port
    → GoesOn o now.0 (record s { port = port }) None after → SendsTransport now.0 after event t → Moves (call_of (calls.Poll now) (answers.Polled event)) s t
sent_moves None now s port after event t turn got sends =
    let streams : port.streams ≡ turn.0 = ap (λ (p : Port). p.streams) turn.2 in
    let quiet : AreQuiet now s.settings.idle_timeout s.port.streams port.streams = subst (λ (zs : List StreamState). AreQuiet now s.settings.idle_timeout s.port.streams zs) (sym streams) turn.1 in
    let left : t ≡ record s { port = got.port; report_due = got.due; transport = sends.transport } =
    sends.left ∙ ap (λ (z : Session). record z { transport = sends.transport }) got.left in
    subst₂ (λ (e : Option Event) (z : Session). Moves (call_of (calls.Poll now) (answers.Polled e)) s z) (sym sends.answers) (sym left)
    (record {
      evolves = quiet_or_sent sends.packet s.settings now s.settings.idle_timeout s.port.streams port.streams got.port.streams quiet
          (unreported_same got.packet port.streams got.port.streams got.answers
          (by_streams s.settings.feedback s.settings.tick_rate now.0 s.report_due port got.packet got.due got.port got.reports));
      others = refl;
    })
sent_moves (Some e) now s port after event t turn got sends = let no : None ≡ Some e = got.0 in absurd (cc)

send_moves : (o : Option Event) (now : Ticks) (s after : Session) (event : Option Event) (t : Session) → AreApart s.port.streams → TurnsOrReports now s o after → SendsAfter o now.0 after event t
    → Moves (call_of (calls.Poll now) (answers.Polled event)) s t
send_moves None now s after event t apart turn got = sent_moves turn.event now s turn.port after event t turn.turn turn.goes_on got
send_moves (Some e) now s after event t apart turn got =
    subst₂ (λ (o : Option Event) (z : Session). Moves (call_of (calls.Poll now) (answers.Polled o)) s z) (sym got.0) (sym got.1)
    (turn_moves turn.event now s turn.port (Some e) after apart turn.turn turn.goes_on)

poll_moves : (ws : List _) (now : Ticks) (s : Session) (event : Option Event) (t : Session) → AreApart s.port.streams → PollsAfter ws now s event t
    → Moves (call_of (calls.Poll now) (answers.Polled event)) s t
poll_moves [] now s event t apart got = send_moves got.event now s got.after event t apart got.turn got.sends
poll_moves (w ∷ ws) now s event t apart got =
    subst₂ (λ (o : Option Event) (z : Session). Moves (call_of (calls.Poll now) (answers.Polled o)) s z) (sym got.0) (sym got.1)
    (record { evolves = evolves_same s.settings _ s.port.streams (λ a b. refl) (λ a b. refl); others = refl })

receive_moves : (now : Ticks) (micros : Option ℕ) (datagram : Vec ℕ) (s : Session) (arrival : Result Arrival AllocError) (t : Session) → AreApart s.port.streams → AreKnown s.port.streams → Receives now datagram.items s arrival t
    → Moves (call_of (calls.Receive now micros datagram) (answers.Received arrival)) s t
receive_moves now micros datagram s arrival t apart known (inl got) =
    subst (λ (z : Session). Moves (call_of (calls.Receive now micros datagram) (answers.Received arrival)) s z) (sym got.left)
    (record { evolves = receive_evolves s.settings now micros datagram s.port arrival got.port apart known got.takes; others = refl })
receive_moves now micros datagram s arrival t apart known (inr got) =
    subst (λ (z : Session). Moves (call_of (calls.Receive now micros datagram) (answers.Received arrival)) s z) (sym got.left)
    (record { evolves = failed_evolves s.settings now micros datagram arrival s.port.streams got.fails; others = refl })

-- the session first gets a pair
paired_moves : (now : Ticks) (micros : Option ℕ) (datagram : Vec ℕ) (s : Session) (pair : SsrcPair) (named : Vec SsrcPair) (arrival : Result Arrival AllocError) (t : Session) → AreApart s.port.streams
    → IsFound s.settings datagram.items s.port.streams pair → named.items ≡ with_pair pair s.settings.pairs.items
    → Receives now datagram.items (with_pairs s named (paired_where pair.ssrc (with_pair pair s.settings.pairs.items) s.port.streams)) arrival t
    → Moves (call_of (calls.Receive now micros datagram) (answers.Received arrival)) s t
paired_moves now micros datagram s pair named arrival t apart found has (inl got) =
    subst (λ (z : Session). Moves (call_of (calls.Receive now micros datagram) (answers.Received arrival)) s z) (sym got.left)
    (record {
      evolves = paired_evolves s.settings now micros datagram pair named s.port.streams (record s.port { streams = paired_where pair.ssrc (with_pair pair s.settings.pairs.items) s.port.streams }) arrival got.port
          found has refl apart got.takes;
      others = refl;
    })
paired_moves now micros datagram s pair named arrival t apart found has (inr got) =
    subst (λ (z : Session). Moves (call_of (calls.Receive now micros datagram) (answers.Received arrival)) s z) (sym got.left)
    (record { evolves = failed_paired s.settings now micros datagram pair arrival s.port.streams found got.fails; others = refl })

associates_moves : (o : Option SsrcPair) (now : Ticks) (micros : Option ℕ) (datagram : Vec ℕ) (s : Session) (arrival : Result Arrival AllocError) (t : Session) → pair_at s.settings now.0 datagram.items s.port.streams ≡ o
    → AreApart s.port.streams → AreKnown s.port.streams → AssociatesBy o now datagram.items s arrival t → Moves (call_of (calls.Receive now micros datagram) (answers.Received arrival)) s t
associates_moves None now micros datagram s arrival t is apart known got = receive_moves now micros datagram s arrival t apart known got
associates_moves (Some pair) now micros datagram s arrival t is apart known (inl got) =
    paired_moves now micros datagram s pair got.1.named arrival t apart (found_pair s.settings now.0 datagram.items s.port.streams pair is) got.1.has
    (subst (λ (z : Session). Receives now datagram.items z arrival t) got.1.left got.2)
associates_moves (Some pair) now micros datagram s arrival t is apart known (inr got) =
    subst (λ (z : Session). Moves (call_of (calls.Receive now micros datagram) (answers.Received arrival)) s z) (sym got.1)
    (record { evolves = failed_evolves s.settings now micros datagram arrival s.port.streams got.0; others = refl })

accepts_moves : (now : Ticks) (micros : Option ℕ) (datagram : Vec ℕ) (s : Session) (arrival : Result Arrival AllocError) (t : Session) → AreApart s.port.streams → AreKnown s.port.streams
    → Accepts (time_for micros now s) now datagram.items s arrival t → Moves (call_of (calls.Receive now micros datagram) (answers.Received arrival)) s t
accepts_moves now micros datagram s arrival t apart known (inl got) =
    let noted : Session = noted_in (time_for micros now s) datagram.items s in
    let m : Moves (call_of (calls.Receive now micros datagram) (answers.Received arrival)) noted t =
    associates_moves (pair_at s.settings now.0 datagram.items s.port.streams) now micros datagram noted arrival t refl apart known got in
    record { evolves = m.evolves; others = m.others }
accepts_moves now micros datagram s arrival t apart known (inr got) =
    subst (λ (z : Session). Moves (call_of (calls.Receive now micros datagram) (answers.Received arrival)) s z) (sym got.left)
    (record { evolves = failed_evolves s.settings now micros datagram arrival s.port.streams got.fails; others = refl })

pair_moves : (step : SessionStep) (answer : StepAnswer) (ssrc : ℕ) (named : List SsrcPair) (s t : Session)
    → Evolves s.settings (call_of step answer) s.port.streams (paired_where ssrc named s.port.streams) → Pairs ssrc named s t → Moves (call_of step answer) s t
pair_moves step answer ssrc named s t evolves got =
    subst (λ (z : Session). Moves (call_of step answer) s z) (sym got.left) (record { evolves = evolves; others = refl })

added_moves : (ssrc retransmission : ℕ) (s : Session) (added : Result Unit AllocError) (t : Session) → AddsPair ssrc retransmission s added t
    → Moves (call_of (calls.AddPair ssrc retransmission) (answers.PairAdded added)) s t
added_moves ssrc retransmission s (Ok u) t got =
    pair_moves (calls.AddPair ssrc retransmission) (answers.PairAdded (Ok u)) ssrc _ s t
    (pairs_evolve s.settings (call_of (calls.AddPair ssrc retransmission) (answers.PairAdded (Ok u))) ssrc _ s.port.streams (added_pair ssrc retransmission (answers.PairAdded (Ok u)) s.settings.pairs.items) (λ a b. refl) (λ a b. refl)) got.0
added_moves ssrc retransmission s (Err e) t got =
    subst (λ (z : Session). Moves (call_of (calls.AddPair ssrc retransmission) (answers.PairAdded (Err e))) s z) (sym got.1)
    (record { evolves = evolves_same s.settings _ s.port.streams (λ a b. refl) (λ a b. refl); others = refl })

moves : (step : SessionStep) (answer : StepAnswer) (s t : Session) → AreApart s.port.streams → AreKnown s.port.streams → Does step s answer t → Moves (call_of step answer) s t
moves (calls.Receive now micros datagram) answer s t apart known got =
    subst (λ (a : StepAnswer). Moves (call_of (calls.Receive now micros datagram) a) s t) (sym got.1) (accepts_moves now micros datagram s got.0 t apart known got.2)
moves (calls.Poll now) answer s t apart known got =
    subst (λ (a : StepAnswer). Moves (call_of (calls.Poll now) a) s t) (sym got.1) (poll_moves s.telephone.waiting now s got.0 t apart got.2)
moves (calls.End now ssrc) answer s t apart known got =
    subst₂ (λ (a : StepAnswer) (z : Session). Moves (call_of (calls.End now ssrc) a) s z) (sym got.0) (sym got.1)
    (record { evolves = end_evolves s.settings now ssrc (λ own. ssrc == own) s.port.streams; others = refl })
moves (calls.Finish now) answer s t apart known got =
    subst₂ (λ (a : StepAnswer) (z : Session). Moves (call_of (calls.Finish now) a) s z) (sym got.0) (sym got.1)
    (record { evolves = finish_evolves s.settings now everyone s.port.streams; others = refl })
moves (calls.SetWaitLimits ssrc payload_type limits) answer s t apart known got =
    subst₂ (λ (a : StepAnswer) (z : Session). Moves (call_of (calls.SetWaitLimits ssrc payload_type limits) a) s z) (sym got.0) (sym got.1)
    (record { evolves = waits_evolve s.settings ssrc payload_type limits s.port.streams; others = refl })
moves (calls.Report now ssrc payload_type) answer s t apart known got =
    subst₂ (λ (a : StepAnswer) (z : Session). Moves (call_of (calls.Report now ssrc payload_type) a) s z) (sym got.1) (sym got.2.left)
    (record { evolves = report_evolves (position (is_of ssrc payload_type) s.port.streams) s.settings now ssrc payload_type s.settings.tick_rate s.port got.0 got.2.port apart refl got.2.reports; others = refl })
moves (calls.AddPair ssrc retransmission) answer s t apart known got =
    subst (λ (a : StepAnswer). Moves (call_of (calls.AddPair ssrc retransmission) a) s t) (sym got.1) (added_moves ssrc retransmission s got.0 t got.2)
moves calls.RestartTransport answer s t apart known got =
    subst₂ (λ (a : StepAnswer) (z : Session). Moves (call_of calls.RestartTransport a) s z) (sym got.0) (sym got.1)
    (record { evolves = evolves_same s.settings _ s.port.streams (λ a b. refl) (λ a b. refl); others = refl })
moves (calls.RequestKeyframe ssrc) answer s t apart known got =
    subst₂ (λ (a : StepAnswer) (z : Session). Moves (call_of (calls.RequestKeyframe ssrc) a) s z) (sym got.0) (sym got.1)
    (record {
      evolves = keyframe_evolves (position (has_ssrc ssrc) s.port.streams) s.settings ssrc (answer_among (position (has_ssrc ssrc) s.port.streams) s.port.streams) s.port apart;
      others = refl;
    })
moves (calls.RemovePair ssrc) answer s t apart known got =
    subst (λ (a : StepAnswer). Moves (call_of (calls.RemovePair ssrc) a) s t) (sym got.0)
    (pair_moves (calls.RemovePair ssrc) answers.Done ssrc _ s t
    (pairs_evolve s.settings (call_of (calls.RemovePair ssrc) answers.Done) ssrc _ s.port.streams (removed_pair ssrc answers.Done s.settings.pairs.items) (λ a b. refl) (λ a b. refl)) got.1)

-- ---- the ranges of waits

-- the ranges of the stream are those of the settings
abbrev pub IsRanged : SessionSettings → StreamState → Type 0
IsRanged settings s = own_waits s ≡ waits_for settings s.ssrc s.format

abbrev pub AreRanged : SessionSettings → List StreamState → Type 0
AreRanged settings [] = Unit {0}
AreRanged settings (s ∷ ss) = IsRanged settings s × AreRanged settings ss

-- pairs change no range
fresh_ranged : (settings own : SessionSettings) (ssrc : ℕ) (f : Format) (x : StreamState) → own ≡ record settings { pairs = own.pairs } → Begins own ssrc f x → own_waits x ≡ waits_for settings ssrc f
fresh_ranged settings own ssrc f x others begins =
    ap₂ (λ (feedback : Option Asking) (late : Option Wait). waits_of feedback late) begins.feedback begins.late
    ∙ ap (λ (s : SessionSettings). waits_for s ssrc f) others

part_ranged : (settings : SessionSettings) (c : Call) (x y : StreamState) → HasPart c x y → IsRanged settings x → IsRanged settings y
part_ranged settings c x y has ranged = has.ranges ∙ (ranged ∙ ap₂ (λ (s : ℕ) (f : Format). waits_for settings s f) (sym has.ssrc_is) (sym has.format))

fates_ranged : (settings : SessionSettings) (c : Call) (xs : List StreamState) (fs : List (Option StreamState)) → AreFates c xs fs → AreRanged settings xs → AreRanged settings (present fs)
fates_ranged settings c [] [] are ranged = tt
fates_ranged settings c [] (f ∷ fs) are ranged = absurd are
fates_ranged settings c (x ∷ xs) [] are ranged = absurd are
fates_ranged settings c (x ∷ xs) (Some y ∷ fs) are ranged = (part_ranged settings c x y are.0.has ranged.0, fates_ranged settings c xs fs are.1 ranged.1)
fates_ranged settings c (x ∷ xs) (None ∷ fs) are ranged = fates_ranged settings c xs fs are.1 ranged.1

ranged_append : (settings : SessionSettings) (xs ys : List StreamState) → AreRanged settings xs → AreRanged settings ys → AreRanged settings (xs ++ ys)
ranged_append settings [] ys a b = b
ranged_append settings (x ∷ xs) ys a b = (a.0, ranged_append settings xs ys a.1 b)

begun_ranged : (settings own : SessionSettings) (c : Call) (ss fresh : List StreamState) → own ≡ record settings { pairs = own.pairs } → AreFresh own c ss fresh → AreRanged settings fresh
begun_ranged settings own c ss [] others are = tt
begun_ranged settings own c ss (y ∷ []) others got = (got.goes.has.ranges ∙ fresh_ranged settings own y.ssrc y.format got.fresh others got.begins, tt)
begun_ranged settings own c ss (y ∷ z ∷ zs) others are = absurd are

-- ---- streams alone

pub starts_more : (ssrc payload_type : ℕ) (cs ds : List Call) → StartsWithDatagram ssrc payload_type cs → StartsWithDatagram ssrc payload_type (cs ++ ds)
starts_more ssrc payload_type [] ds starts = absurd starts
starts_more ssrc payload_type (c ∷ cs) ds starts = starts

-- a stream is alone, by these calls of its receiver, and with these edges
abbrev IsAloneAs : SessionSettings → List Call → ℕ → Format → Bool → Receiver → List ReceiverCall → Option Followed → Type 0
IsAloneAs settings cs ssrc f announced r own edges = (a : IsAlone settings cs ssrc f announced r) × (a.own ≡ own) × (a.edges ≡ edges)

-- a stream is alone, with its own edges, and its receiver was finished at most once, once the stream is drained
pub record AloneIn (settings : SessionSettings) (cs : List Call) (x : StreamState) : Type 0 where
  pub alone : IsAlone settings cs x.ssrc x.format x.announced x.receiver
  pub finished : FinishedBy x.stage (many_finishes alone.own)
  pub edges_are : alone.edges ≡ x.edges.followed
  pub descriptor : x.edges.descriptor ≡ settings.dependency_descriptor

abbrev pub AllAloneIn : SessionSettings → List Call → List StreamState → Type 0
AllAloneIn settings cs [] = Unit {0}
AllAloneIn settings cs (s ∷ ss) = AloneIn settings cs s × AllAloneIn settings cs ss

pub each_alone : (settings : SessionSettings) (cs : List Call) (ss : List StreamState) → AllAloneIn settings cs ss → EachIsAlone settings cs ss
each_alone settings cs [] all = tt
each_alone settings cs (s ∷ ss) all = (all.0.alone, each_alone settings cs ss all.1)

alone_more : (settings : SessionSettings) (cs : List Call) (c : Call) (x y : StreamState) → AloneIn settings cs x → IsRanged settings x → HasPart c x y
    → AreOfOne x.announced (events_in x.ssrc x.format.payload_type c.answer) y.announced → AloneIn settings (cs ++ c ∷ []) y
alone_more settings cs c x y in_x ranged has tells =
    let got : IsAlone settings cs x.ssrc x.format x.announced x.receiver = in_x.alone in
    let w : FollowedWaits = waits_for settings x.ssrc x.format in
    let is_part : IsPart x.ssrc x.format w c has.part = subst (λ (own : FollowedWaits). IsPart x.ssrc x.format own c has.part) ranged has.is_part in
    let projects : Projects x.ssrc x.format w (got.during ++ c ∷ []) (got.own ++ has.part) = projects_more x.ssrc x.format w got.during c got.own has.part got.projects is_part in
    let k : EdgeRules = rules_for x.format settings.dependency_descriptor in
    let edged : EdgesRun k got.edges has.part y.edges.followed =
    subst₂ (λ (d : Option ℕ) (e : Option Followed). EdgesRun (rules_for x.format d) e has.part y.edges.followed) in_x.descriptor (sym in_x.edges_are) has.edged in
    let more : IsAloneAs settings (cs ++ c ∷ []) x.ssrc x.format y.announced y.receiver (got.own ++ has.part) y.edges.followed = (
      record {
        before = got.before;
        during = got.during ++ c ∷ [];
        whole = ap (λ (zs : List Call). zs ++ c ∷ []) got.whole ∙ append_assoc got.before got.during (c ∷ []);
        starts = starts_more x.ssrc x.format.payload_type got.during (c ∷ []) got.starts;
        reached = got.reached;
        reaches = got.reaches;
        absent = got.absent;
        pairs_alone = got.pairs_alone;
        fresh = got.fresh;
        begins = got.begins;
        own = got.own ++ has.part;
        alone = runs_append got.own has.part got.fresh.receiver x.receiver y.receiver got.alone has.alone;
        edges = y.edges.followed;
        edged = edges_append k None got.own has.part got.edges y.edges.followed got.edged edged;
        projects = projects;
        shows = projects_shown x.ssrc x.format w (got.during ++ c ∷ []) (got.own ++ has.part) projects;
        tells = subst (λ (es : List Event). AreOfOne false es y.announced) (sym (events_more x.ssrc x.format.payload_type got.during c))
            (one_append (events_of x.ssrc x.format.payload_type got.during) (events_in x.ssrc x.format.payload_type c.answer) false x.announced y.announced got.tells tells);
      },
      refl,
      refl,
    ) in
    let moved : IsAloneAs settings (cs ++ c ∷ []) y.ssrc y.format y.announced y.receiver (got.own ++ has.part) y.edges.followed =
    subst₂ (λ (s : ℕ) (f : Format). IsAloneAs settings (cs ++ c ∷ []) s f y.announced y.receiver (got.own ++ has.part) y.edges.followed) (sym has.ssrc_is) (sym has.format) more in
    record {
      alone = moved.0;
      finished = subst (λ (n : ℕ). FinishedBy y.stage n) (sym (finishes_append got.own has.part) ∙ ap many_finishes (sym moved.1)) (has.finishes_it (many_finishes got.own) in_x.finished);
      edges_are = moved.2;
      descriptor = has.descriptor ∙ in_x.descriptor;
    }

nothing_more : (n : ℕ) → 0 + n ≡ n
nothing_more n = omega arith

alone_fresh : (settings : SessionSettings) (cs : List Call) (c : Call) (reached : Session) (y : StreamState) → Runs cs (new_session settings) reached
    → reached.settings ≡ record settings { pairs = reached.settings.pairs } → BeginsNow reached.settings c reached.port.streams y → AloneIn settings (cs ++ c ∷ []) y
alone_fresh settings cs c reached y run others got =
    let x : StreamState = got.fresh in
    let has : HasPart c x y = got.goes.has in
    let w : FollowedWaits = waits_for settings y.ssrc y.format in
    let ranged : own_waits x ≡ w = fresh_ranged settings reached.settings y.ssrc y.format x others got.begins in
    let is_part : IsPart y.ssrc y.format w c has.part =
    subst (λ (own : FollowedWaits). IsPart y.ssrc y.format own c has.part) ranged (subst₂ (λ (s : ℕ) (f : Format). IsPart s f (own_waits x) c has.part) (sym has.ssrc_is) (sym has.format) has.is_part) in
    let projects : Projects y.ssrc y.format w (c ∷ []) has.part = (has.part, [], sym (append-nil has.part), is_part, refl) in
    let unannounced : x.announced ≡ false = got.begins.announced in
    let descriptor : x.edges.descriptor ≡ settings.dependency_descriptor =
    ap (λ (e : Edges). e.descriptor) got.begins.edges ∙ ap (λ (g : SessionSettings). g.dependency_descriptor) others in
    let edged : EdgesRun (rules_for y.format settings.dependency_descriptor) None has.part y.edges.followed =
    subst₂ (λ (d : Option ℕ) (f : Format). EdgesRun (rules_for f d) None has.part y.edges.followed) descriptor (sym has.format)
    (subst (λ (e : Option Followed). EdgesRun (edge_rules_of x) e has.part y.edges.followed) (ap (λ (e : Edges). e.followed) got.begins.edges) has.edged) in
    let first : AreOfOne x.announced (events_in y.ssrc y.format.payload_type c.answer) y.announced =
    subst₂ (λ (s : ℕ) (f : Format). AreOfOne x.announced (events_in s f.payload_type c.answer) y.announced) (sym has.ssrc_is) (sym has.format) got.goes.tells in
    record {
      alone = record {
        before = cs;
        during = c ∷ [];
        whole = refl;
        starts = got.starts;
        reached = reached;
        reaches = run;
        absent = got.absent;
        pairs_alone = others;
        fresh = x;
        begins = got.begins;
        own = has.part;
        alone = has.alone;
        edges = y.edges.followed;
        edged = edged;
        projects = projects;
        shows = projects_shown y.ssrc y.format w (c ∷ []) has.part projects;
        tells = subst₂ (λ (b : Bool) (es : List Event). AreOfOne b es y.announced) unannounced (sym (append-nil (events_in y.ssrc y.format.payload_type c.answer))) first;
      };
      finished = subst (λ (n : ℕ). FinishedBy y.stage n) (nothing_more (many_finishes has.part)) (has.finishes_it 0 (subst (λ (stage : Stage). FinishedBy stage 0) (sym got.begins.stage) refl));
      edges_are = refl;
      descriptor = has.descriptor ∙ descriptor;
    }

alone_fates : (settings : SessionSettings) (cs : List Call) (c : Call) (ss : List StreamState) (fs : List (Option StreamState)) → AreFates c ss fs → AreRanged settings ss → AllAloneIn settings cs ss
    → AllAloneIn settings (cs ++ c ∷ []) (present fs)
alone_fates settings cs c [] [] are ranged alone = tt
alone_fates settings cs c [] (f ∷ fs) are ranged alone = absurd are
alone_fates settings cs c (x ∷ xs) [] are ranged alone = absurd are
alone_fates settings cs c (x ∷ xs) (Some y ∷ fs) are ranged alone =
    (alone_more settings cs c x y alone.0 ranged.0 are.0.has are.0.tells, alone_fates settings cs c xs fs are.1 ranged.1 alone.1)
alone_fates settings cs c (x ∷ xs) (None ∷ fs) are ranged alone = alone_fates settings cs c xs fs are.1 ranged.1 alone.1

each_append : (settings : SessionSettings) (cs : List Call) (ss ts : List StreamState) → AllAloneIn settings cs ss → AllAloneIn settings cs ts → AllAloneIn settings cs (ss ++ ts)
each_append settings cs [] ts a b = b
each_append settings cs (s ∷ ss) ts a b = (a.0, each_append settings cs ss ts a.1 b)

-- ---- whole runs

pub record Reached (settings : SessionSettings) (cs : List Call) (s : Session) : Type 0 where
  pub run : Runs cs (new_session settings) s
  pub others : s.settings ≡ record settings { pairs = s.settings.pairs }
  pub apart : AreApart s.port.streams
  pub known : AreKnown s.port.streams
  pub ranged : AreRanged settings s.port.streams
  pub ones : AllAloneIn settings cs s.port.streams
  pub alone : EachIsAlone settings cs s.port.streams
  pub order : TellsInOrder cs s.port.streams

-- streams that began are apart from the others, and not announced
fresh_keeps : (settings : SessionSettings) (cs : List Call) (c : Call) (reached : Session) (fs : List (Option StreamState)) (fresh : List StreamState) → Runs cs (new_session settings) reached
    → reached.settings ≡ record settings { pairs = reached.settings.pairs } → AreFates c reached.port.streams fs → AreFresh reached.settings c reached.port.streams fresh → AreApart (present fs) → AreKnown (present fs) → AllAloneIn settings (cs ++ c ∷ []) (present fs)
    → AreApart (present fs ++ fresh) × AreKnown (present fs ++ fresh) × AllAloneIn settings (cs ++ c ∷ []) (present fs ++ fresh)
fresh_keeps settings cs c reached fs [] run others are fresh apart known alone = (
  subst AreApart (sym (append-nil (present fs))) apart,
  subst AreKnown (sym (append-nil (present fs))) known,
  subst (λ (zs : List StreamState). AllAloneIn settings (cs ++ c ∷ []) zs) (sym (append-nil (present fs))) alone,
)
fresh_keeps settings cs c reached fs (y ∷ []) run others are fresh apart known alone = (
  apart_more (present fs) y apart (absent_fates c y.ssrc y.format.payload_type reached.port.streams fs are fresh.absent),
  known_more (present fs) y known (λ (announced : y.announced ≡ true). let unannounced : y.announced ≡ false = fresh.unannounced in absurd (cc)),
  each_append settings (cs ++ c ∷ []) (present fs) (y ∷ []) alone (alone_fresh settings cs c reached y run others fresh, tt),
)
fresh_keeps settings cs c reached fs (y ∷ z ∷ zs) run others are fresh apart known alone = absurd fresh

pub reached_more : (settings : SessionSettings) (cs : List Call) (c : Call) (s t : Session) → Reached settings cs s → Does c.step s c.answer t → Reached settings (cs ++ c ∷ []) t
reached_more settings cs c s t got does =
    let m : Moves c s t = moves c.step c.answer s t got.apart got.known does in
    let e : Evolves s.settings c s.port.streams t.port.streams = m.evolves in
    let all = fresh_keeps settings cs c s e.fates e.fresh got.run got.others e.are_fates e.are_fresh
    (apart_fates c s.port.streams e.fates e.are_fates got.apart) (known_fates c s.port.streams e.fates e.are_fates got.known) (alone_fates settings cs c s.port.streams e.fates e.are_fates got.ranged got.ones) in
    let ones : AllAloneIn settings (cs ++ c ∷ []) t.port.streams = subst (λ (zs : List StreamState). AllAloneIn settings (cs ++ c ∷ []) zs) (sym e.left) all.2 in
    record {
      run = runs_more cs (new_session settings) s t c.step c.answer got.run does;
      others = m.others ∙ ap (λ (g : SessionSettings). record g { pairs = t.settings.pairs }) got.others;
      apart = subst AreApart (sym e.left) all.0;
      known = subst AreKnown (sym e.left) all.1;
      ranged = subst (λ (zs : List StreamState). AreRanged settings zs) (sym e.left)
          (ranged_append settings (present e.fates) e.fresh (fates_ranged settings c s.port.streams e.fates e.are_fates got.ranged)
          (begun_ranged settings s.settings c s.port.streams e.fresh got.others e.are_fresh));
      ones = ones;
      alone = each_alone settings (cs ++ c ∷ []) t.port.streams ones;
      order = λ ssrc payload_type.
          subst (λ (es : List Event). AreInOrder false es (is_announced ssrc payload_type t.port.streams)) (sym (events_more ssrc payload_type cs c))
          (order_append (events_of ssrc payload_type cs) (events_in ssrc payload_type c.answer) false (is_announced ssrc payload_type s.port.streams) (is_announced ssrc payload_type t.port.streams)
          (got.order ssrc payload_type) (order_evolves s.settings c ssrc payload_type s.port.streams t.port.streams got.apart e));
    }

reached_later : (settings : SessionSettings) (later cs : List Call) (s t : Session) → Reached settings cs s → Runs later s t → Reached settings (cs ++ later) t
reached_later settings [] cs s t got run = subst₂ (λ (zs : List Call) (z : Session). Reached settings zs z) (sym (append-nil cs)) (sym run) got
reached_later settings (c ∷ later) cs s t got run =
    subst (λ (zs : List Call). Reached settings zs t) (append_assoc cs (c ∷ []) later)
    (reached_later settings later (cs ++ c ∷ []) run.0 t (reached_more settings cs c s run.0 got run.1) run.2)

pub reached_new : (settings : SessionSettings) → Reached settings [] (new_session settings)
reached_new settings = record { run = refl; others = refl; apart = tt; known = tt; ranged = tt; ones = tt; alone = tt; order = λ ssrc payload_type. refl }

pub reached : (settings : SessionSettings) (cs : List Call) (t : Session) → Runs cs (new_session settings) t → Reached settings cs t
reached settings cs t run = reached_later settings cs [] (new_session settings) t (reached_new settings) run

-- ---- streams that ended

-- a stream is alone with these edges
abbrev IsAloneWith : SessionSettings → List Call → ℕ → Format → Bool → Receiver → Option Followed → Type 0
IsAloneWith settings cs ssrc f announced r edges = (a : IsAlone settings cs ssrc f announced r) × (a.edges ≡ edges)

ended_same : (ssrc payload_type : ℕ) (x : StreamState) → is_of ssrc payload_type x ≡ true → is_same x.ssrc x.format.payload_type ssrc payload_type ≡ true
ended_same ssrc payload_type x is = same_sym x.ssrc x.format.payload_type ssrc payload_type ∙ is

ended_fate : (settings : SessionSettings) (before : List Call) (now : Ticks) (ssrc payload_type : ℕ) (why : Ending) (x : StreamState) (f : Option StreamState) → IsFate (ending_poll now ssrc payload_type why) x f
    → is_of ssrc payload_type x ≡ true → IsRanged settings x → AloneIn settings before x → EndedAlone settings before now ssrc payload_type why
ended_fate settings before now ssrc payload_type why x (Some y) fate is ranged alone =
    absurd (subst (λ (b : Bool). AreOfOne x.announced (one_event b (events.Ended ssrc payload_type why)) y.announced) (ended_same ssrc payload_type x is) fate.tells)
ended_fate settings before now ssrc payload_type why x None (inl replaced) is ranged alone =
    let none : events.Ended ssrc payload_type why ∷ [] ≡ [] =
    subst (λ (b : Bool). one_event b (events.Ended ssrc payload_type why) ≡ []) (ended_same ssrc payload_type x is) replaced.tells in absurd (cc)
ended_fate settings before now ssrc payload_type why x None (inr ends) is ranged alone =
    let ids = of_is ssrc payload_type x is in
    let was : IsAloneWith settings before ssrc x.format true x.receiver x.edges.followed =
    subst₂ (λ (s : ℕ) (b : Bool). IsAloneWith settings before s x.format b x.receiver x.edges.followed) ids.0 ends.announced (alone.alone, alone.edges_are) in
    record {
      format = x.format;
      has_type = ids.1;
      receiver = x.receiver;
      alone = was.0;
      last = ends.after.receiver;
      part = ends.has.part;
      run = ends.has.alone;
      made = subst (λ (s : ℕ). AreMadeBy s x.format (waits_for settings s x.format) (ending_poll now ssrc payload_type why) ends.has.part) ids.0
          (subst (λ (w : FollowedWaits). AreMadeBy x.ssrc x.format w (ending_poll now ssrc payload_type why) ends.has.part) ranged ends.has.is_part.made);
      one_pop = ends.has.is_part.one_pop;
      one_end = ends.has.is_part.one_end;
      one_report = ends.has.is_part.one_report;
      no_unit = ends.has.is_part.shows;
      follow_each = ends.has.is_part.follow_each;
      edges = ends.after.edges.followed;
      edged =
          subst₂ (λ (d : Option ℕ) (e : Option Followed). EdgesRun (rules_for x.format d) e ends.has.part ends.after.edges.followed) alone.descriptor (sym was.1) ends.has.edged;
    }

ended_test : (b : Bool) (settings : SessionSettings) (before : List Call) (now : Ticks) (ssrc payload_type : ℕ) (why : Ending) (x : StreamState) (f : Option StreamState) → is_of ssrc payload_type x ≡ b
    → IsFate (ending_poll now ssrc payload_type why) x f → IsRanged settings x → AloneIn settings before x
    → (is_of ssrc payload_type x ≡ false → EndedAlone settings before now ssrc payload_type why) → EndedAlone settings before now ssrc payload_type why
ended_test true settings before now ssrc payload_type why x f is fate ranged alone later = ended_fate settings before now ssrc payload_type why x f fate is ranged alone
ended_test false settings before now ssrc payload_type why x f is fate ranged alone later = later is

ended_among : (settings : SessionSettings) (before : List Call) (now : Ticks) (ssrc payload_type : ℕ) (why : Ending) (ss : List StreamState) (fs : List (Option StreamState))
    → AreFates (ending_poll now ssrc payload_type why) ss fs → AreRanged settings ss → AllAloneIn settings before ss
    → (IsAbsent ssrc payload_type ss → events_in ssrc payload_type (ending_poll now ssrc payload_type why).answer ≡ []) → EndedAlone settings before now ssrc payload_type why
ended_among settings before now ssrc payload_type why [] [] are ranged alone silent =
    let none : events.Ended ssrc payload_type why ∷ [] ≡ [] =
    subst (λ (b : Bool). one_event b (events.Ended ssrc payload_type why) ≡ []) (same_is ssrc payload_type) (silent tt) in absurd (cc)
ended_among settings before now ssrc payload_type why [] (f ∷ fs) are ranged alone silent = absurd are
ended_among settings before now ssrc payload_type why (x ∷ xs) [] are ranged alone silent = absurd are
ended_among settings before now ssrc payload_type why (x ∷ xs) (f ∷ fs) are ranged alone silent =
    ended_test (is_of ssrc payload_type x) settings before now ssrc payload_type why x f refl are.0 ranged.0 alone.0
    (λ (is : is_of ssrc payload_type x ≡ false). ended_among settings before now ssrc payload_type why xs fs are.1 ranged.1 alone.1 (λ absent. silent (is, absent)))

pub runs_split : (cs ds : List Call) (s t : Session) → Runs (cs ++ ds) s t → (mid : Session) × Runs cs s mid × Runs ds mid t
runs_split [] ds s t run = (s, refl, run)
runs_split (c ∷ cs) ds s t run =
    let later = runs_split cs ds run.0 t run.2 in
    (later.0, (run.0, run.1, later.1), later.2)

ended_in : (settings : SessionSettings) (before after : List Call) (now : Ticks) (ssrc payload_type : ℕ) (why : Ending) (t : Session)
    → Runs (before ++ ending_poll now ssrc payload_type why ∷ after) (new_session settings) t → EndedAlone settings before now ssrc payload_type why
ended_in settings before after now ssrc payload_type why t run =
    let c : Call = ending_poll now ssrc payload_type why in
    let parts = runs_split before (c ∷ after) (new_session settings) t run in
    let got : Reached settings before parts.0 = reached settings before parts.0 parts.1 in
    let m : Moves c parts.0 parts.2.0 = moves c.step c.answer parts.0 parts.2.0 got.apart got.known parts.2.1 in
    ended_among settings before now ssrc payload_type why parts.0.port.streams m.evolves.fates m.evolves.are_fates got.ranged got.ones (m.evolves.silent ssrc payload_type)

pub each_ended : (settings : SessionSettings) (cs : List Call) (t : Session) → Runs cs (new_session settings) t → EachEndedAlone settings cs
each_ended settings cs t run = λ before after now ssrc payload_type why whole.
    ended_in settings before after now ssrc payload_type why t (subst (λ (zs : List Call). Runs zs (new_session settings) t) whole run)
