-- A step of sender or receiver is a run of one step, whose results are appended.
use Rattle.std.proofs.Common.{◌≡◌, ◌∙◌, refl, sym, ap, subst, ℕ, ◌^◌, ◌<◌, List, [], ◌∷◌, ◌++◌, inl, inr, true, Option, Some, None, MatchOption, length, arith, append-nil}
use Rattle.std.specs.Global.{Vec}
use Rattle.std.specs.Prelude.{slice_get}
use Rattle.std.proofs.lemmas.List.{length-map, map-append}
use Rattle.codec_payload_buffer_runs.specs.Schedule.{Answer}
use Rattle.codec_payload_payloader.specs.Sending.{Sample}
use Rattle.codec_payload_receiver.specs.Sessions.{Session}
use Rattle.codec_payload_sending.specs.Senders.{Sending}
use Rattle.codec_payload_datagram_runs.specs.WireRuns.{DoesStep, Receipt, Runs, SendsIt, Stops, StopsAt, Wire, begins, bytes_in, wire_of}
use Rattle.codec_payload_datagram_runs.specs.declared.run.DatagramRun.{DatagramRun}
use Rattle.codec_payload_datagram_runs.specs.declared.run.DatagramStep.{DatagramStep}
use Rattle.codec_payload_datagram_runs.specs.declared.run.DatagramStep.TheVariants as plain
use Rattle.codec_payload_datagram_runs.specs.declared.run.SentSample.{SentSample}
use Rattle.codec_payload_forward_runs.specs.ForwardRuns.{StopsOrIsDone, is_plain}

-- a run of one step is that step
pub one_step : (samples : List Sample) (step : DatagramStep) (s t : Wire) → Runs samples (step ∷ []) s t → DoesStep samples step s t
one_step samples step s t run = subst (DoesStep samples step s) (sym run.2) run.1

-- the results so far, and those of a step
abbrev pub joined_with : Wire → Sending → Session → List (List ℕ) → List SentSample → List Answer → Wire
joined_with s sending session datagrams sends pops = record {
  sending = sending;
  session = session;
  datagrams = s.datagrams ++ datagrams;
  sends = s.sends ++ sends;
  receipts = s.receipts;
  pops = s.pops ++ pops;
}

abbrev pub joined : Wire → Wire → Wire
joined s w = joined_with s w.sending w.session w.datagrams w.sends w.pops

-- nothing is appended
abbrev with_lists : Wire → Sending → Session → List (List ℕ) → List SentSample → List Answer → Wire
with_lists s sending session datagrams sends pops = record { sending = sending; session = session; datagrams = datagrams; sends = sends; receipts = s.receipts; pops = pops }

no_datagrams : (s : Wire) (sending : Sending) (session : Session) (sends : List SentSample) (pops : List Answer)
    → with_lists s sending session (s.datagrams ++ []) sends pops ≡ with_lists s sending session s.datagrams sends pops
no_datagrams s sending session sends pops = ap (λ (ds : List (List ℕ)). with_lists s sending session ds sends pops) (append-nil s.datagrams)

no_sends : (s : Wire) (sending : Sending) (session : Session) (datagrams : List (List ℕ)) (pops : List Answer)
    → with_lists s sending session datagrams (s.sends ++ []) pops ≡ with_lists s sending session datagrams s.sends pops
no_sends s sending session datagrams pops = ap (λ (es : List SentSample). with_lists s sending session datagrams es pops) (append-nil s.sends)

no_pops : (s : Wire) (sending : Sending) (session : Session) (datagrams : List (List ℕ)) (sends : List SentSample)
    → with_lists s sending session datagrams sends (s.pops ++ []) ≡ with_lists s sending session datagrams sends s.pops
no_pops s sending session datagrams sends = ap (λ (ps : List Answer). with_lists s sending session datagrams sends ps) (append-nil s.pops)

-- a wire in its parts
abbrev wire_with : Sending → Session → List (List ℕ) → List SentSample → List Receipt → List Answer → Wire
wire_with sending session datagrams sends receipts pops = record { sending = sending; session = session; datagrams = datagrams; sends = sends; receipts = receipts; pops = pops }

sends_joined : (o : Option Sample) (s w : Wire) → length (s.datagrams ++ w.datagrams) < 2 ^ 63
    → MatchOption o (w ≡ begins s.sending s.session) (λ sample. (entry : SentSample) × SendsIt sample s.sending [] entry w.sending w.datagrams
    × (w ≡ record (begins s.sending s.session) { sending = w.sending; datagrams = w.datagrams; sends = [] ++ entry ∷ [] }))
    → MatchOption o (joined s w ≡ s) (λ sample. (entry : SentSample) × SendsIt sample s.sending s.datagrams entry w.sending (s.datagrams ++ w.datagrams)
    × (joined s w ≡ record s { sending = w.sending; datagrams = s.datagrams ++ w.datagrams; sends = s.sends ++ entry ∷ [] }))
sends_joined None s w few same =
    ap (joined s) same
    ∙ (no_datagrams s s.sending s.session (s.sends ++ []) (s.pops ++ [])
    ∙ (no_sends s s.sending s.session s.datagrams (s.pops ++ [])
    ∙ no_pops s s.sending s.session s.datagrams s.sends))
sends_joined (Some sample) s w few done = (
  done.0,
  record {
    sends = done.1.sends;
    gained = ap (λ (ds : List (List ℕ)). s.datagrams ++ ds) done.1.gained;
    count = done.1.count;
    few = few;
  },
  ap (λ (x : Wire). joined_with s w.sending x.session w.datagrams x.sends x.pops) done.2 ∙ no_pops s w.sending s.session (s.datagrams ++ w.datagrams) (s.sends ++ done.0 ∷ []),
)

-- the step, from the results so far on
pub does_joined : (samples : List Sample) (step : DatagramStep) (s w : Wire) → is_plain step ≡ true → length (s.datagrams ++ w.datagrams) < 2 ^ 63
    → DoesStep samples step (begins s.sending s.session) w → DoesStep samples step s (joined s w)
does_joined samples (plain.Send i) s w is few does = sends_joined (slice_get samples i) s w few does
does_joined samples (plain.Deliver k now) s w is few does = absurd (cc)
does_joined samples (plain.Pop now) s w is few does = (
  does.0,
  does.1,
  does.2,
  does.3,
  ap (joined s) does.4 ∙ (no_datagrams s s.sending does.1 (s.sends ++ []) (s.pops ++ does.0 ∷ []) ∙ no_sends s s.sending does.1 s.datagrams (s.pops ++ does.0 ∷ [])),
)
does_joined samples plain.Finish s w is few does = (
  does.0,
  does.1,
  ap (joined s) does.2
      ∙ (no_datagrams s s.sending does.0 (s.sends ++ []) (s.pops ++ [])
      ∙ (no_sends s s.sending does.0 s.datagrams (s.pops ++ [])
      ∙ no_pops s s.sending does.0 s.datagrams s.sends)),
)

-- the results of a run, with those of a step appended
abbrev bytes_of : Vec ℕ → List ℕ
bytes_of v = v.items

same_wire : (sending : Sending) (session : Session) (d d' : List (List ℕ)) (e e' : List SentSample) (receipts : List Receipt) (p p' : List Answer) → d ≡ d' → e ≡ e' → p ≡ p'
    → wire_with sending session d e receipts p ≡ wire_with sending session d' e' receipts p'
same_wire sending session d d' e e' receipts p p' datagrams sends pops =
    ap (λ (ds : List (List ℕ)). wire_with sending session ds e receipts p) datagrams
    ∙ (ap (λ (es : List SentSample). wire_with sending session d' es receipts p) sends
    ∙ ap (λ (ps : List Answer). wire_with sending session d' e' receipts ps) pops)

pub done_after : (samples : List Sample) (step : DatagramStep) (before sending : Sending) (receiver session : Session) (run one new : DatagramRun) → is_plain step ≡ true
    → Runs samples (step ∷ []) (begins before receiver) (wire_of sending session one) → new.datagrams.items ≡ run.datagrams.items ++ one.datagrams.items
    → new.sends.items ≡ run.sends.items ++ one.sends.items → new.receipts ≡ run.receipts → new.pops.items ≡ run.pops.items ++ one.pops.items → length new.datagrams.items < 2 ^ 63
    → DoesStep samples step (wire_of before receiver run) (wire_of sending session new)
done_after samples step before sending receiver session run one new is runs datagrams sends receipts pops few =
    let s : Wire = wire_of before receiver run in
    let w : Wire = wire_of sending session one in
    let all : bytes_in new.datagrams.items ≡ s.datagrams ++ w.datagrams = ap bytes_in datagrams ∙ map-append bytes_of run.datagrams.items one.datagrams.items in
    let count : length (s.datagrams ++ w.datagrams) ≡ length new.datagrams.items = ap length (sym all) ∙ length-map new.datagrams.items bytes_of in
    let same : wire_of sending session new ≡ joined s w =
    ap (λ (rs : Vec Receipt). wire_with sending session (bytes_in new.datagrams.items) new.sends.items rs.items new.pops.items) receipts
    ∙ same_wire sending session _ _ _ _ run.receipts.items _ _ all sends pops in
    subst (DoesStep samples step s) (sym same) (does_joined samples step s w is (omega (arith, count, few)) (one_step samples step (begins before receiver) w runs))

-- memory ran out in the run of one step
stops_at : (samples : List Sample) (step : DatagramStep) (s : Wire) (sending : Sending) (session : Session) → is_plain step ≡ true
    → StopsAt samples step (begins s.sending s.session) sending session → StopsAt samples step s sending session
stops_at samples (plain.Send i) s sending session is stops = stops
stops_at samples (plain.Deliver k now) s sending session is stops = absurd (cc)
stops_at samples (plain.Pop now) s sending session is stops = stops
stops_at samples plain.Finish s sending session is stops = stops

pub stops_in : (samples : List Sample) (step : DatagramStep) (s : Wire) (sending : Sending) (session : Session) → is_plain step ≡ true
    → Stops samples (step ∷ []) (begins s.sending s.session) sending session → StopsOrIsDone samples step s sending session
stops_in samples step s sending session is (inl stops) = inl (stops_at samples step s sending session is stops)
stops_in samples step s sending session is (inr done) = absurd done.2

-- memory ran out for the results
pub stops_after : (samples : List Sample) (step : DatagramStep) (s w : Wire) → DoesStep samples step (begins s.sending s.session) w
    → StopsOrIsDone samples step s w.sending w.session
stops_after samples step s w does = inr (w, does, refl, refl)
