-- What the viewer's receiver gets in a run with any number of switches: the datagrams of the viewer's stream, each at its place.
use Rattle.std.proofs.Common.{◌≡◌, ◌∙◌, refl, sym, ap, subst, ℕ, zero, suc, ◌<◌, ◌≤◌, List, [], ◌∷◌, ◌++◌, append-nil, append_assoc, length-append, Bool, true, cond, ltb, Option, Some, None, length, arith}
use Rattle.std.specs.Prelude.{slice_get}
use Rattle.std.proofs.lemmas.Bool.{lt-ltb}
use Rattle.std.proofs.lemmas.Option.{slice_get_past, slice_get_within}
use Rattle.codec_payload_base.specs.declared.wire.Ticks.{Ticks}
use Rattle.codec_payload_buffer_runs.specs.Schedule.{Answer}
use Rattle.codec_payload_payloader.specs.Sending.{Sample}
use Rattle.codec_payload_receiver.specs.Sessions.{Session}
use Rattle.codec_payload_sending.specs.Senders.{Sending}
use Rattle.codec_payload_sending_forward.specs.declared.forwarder.Forwarded.{Forwarded}
use Rattle.codec_payload_sending_forward.specs.declared.forwarder.Forwarded.TheVariants as answers
use Rattle.codec_payload_datagram_runs.proofs.StepLemmas.{get_append}
use Rattle.codec_payload_datagram_runs.specs.HistoryReleases.{delivery_of}
use Rattle.codec_payload_datagram_runs.specs.Releases.{received_steps, sending_steps, times_sent}
use Rattle.codec_payload_datagram_runs.specs.WireRuns.{Receipt, Runs, Wire}
use Rattle.codec_payload_datagram_runs.specs.declared.run.DatagramStep.{DatagramStep}
use Rattle.codec_payload_datagram_runs.specs.declared.run.DatagramStep.TheVariants as seen
use Rattle.codec_payload_datagram_runs.specs.declared.run.SentSample.{SentSample}
use Rattle.codec_payload_forward_runs.proofs.SwitchEvents.{DeliversOne, Happens, Viewer}
use Rattle.codec_payload_forward_runs.proofs.SwitchViews.{AllUnder, at_both, at_left, places_under, under_at, under_left}
use Rattle.codec_payload_forward_runs.specs.ForwardRuns.{written_by}
use Rattle.codec_payload_forward_runs.specs.LeaveReleases.{AreAt}
use Rattle.codec_payload_forward_runs.specs.SwitchReleases.{Event, Writing, delivers, ends, forwards, pops, wants, writing_of, writings}
use Rattle.codec_payload_forward_runs.specs.SwitchStretches.{Stretch, no_stretch, place_of, places_from, steps_viewed, stretch_after, stretch_in}
use Rattle.codec_payload_forward_runs.specs.declared.switch_run.Source.{Source}

-- Places

places_append : (g : Stretch) (ws vs : List Writing) → places_from g (ws ++ vs) ≡ places_from g ws ++ places_from (stretch_in g ws) vs
places_append g [] vs = refl
places_append g (w ∷ ws) vs =
    let next : Stretch = stretch_after w.begins w.source w.datagram g in
    ap (λ (ks : List ℕ). place_of next w.datagram ∷ ks) (places_append next ws vs)

one_size : (g : Stretch) (source : Source) (k : ℕ) (answer : Forwarded) (bytes : List ℕ) → length (places_from g (writing_of source k answer)) ≡ length (written_by answer bytes)
one_size g source k answers.Began bytes = refl
one_size g source k answers.Written bytes = refl
one_size g source k answers.NoKeyframe bytes = refl
one_size g source k answers.OtherSource bytes = refl
one_size g source k answers.TooOld bytes = refl
one_size g source k answers.LeftOut bytes = refl
one_size g source k answers.Filled bytes = refl

-- the places after what is written for a datagram
places_on : (g : Stretch) (source : Source) (k : ℕ) (answer : Forwarded) (ws : List Writing) (places : List ℕ)
    → places ++ places_from g (writing_of source k answer ++ ws)
    ≡ (places ++ places_from g (writing_of source k answer)) ++ places_from (stretch_in g (writing_of source k answer)) ws
places_on g source k answer ws places =
    let one : List Writing = writing_of source k answer in
    ap (λ (ks : List ℕ). places ++ ks) (places_append g one ws) ∙ sym (append_assoc places (places_from g one) (places_from (stretch_in g one) ws))

past_all : (xs : List (List ℕ)) (j : ℕ) → slice_get xs j ≡ None → length xs ≤ j
past_all [] j none = omega arith
past_all (x ∷ xs) zero none = absurd (cc)
past_all (x ∷ xs) (suc j) none = omega (arith, past_all xs j none)

-- What was written stays

abbrev IsLonger : List (List ℕ) → List (List ℕ) → Type 0
IsLonger before after = (new : List (List ℕ)) × (after ≡ before ++ new)

module _ (first second : List (List ℕ)) where
  longer_same : (before mid after : List (List ℕ)) → mid ≡ before → IsLonger mid after → IsLonger before after
  longer_same before mid after same longer = subst (λ (xs : List (List ℕ)). IsLonger xs after) same longer

  delivered_written : (o : Option (List ℕ)) (now : Ticks) (v w : Viewer) → DeliversOne o now v w → w.written ≡ v.written
  delivered_written None now v w same = ap (λ (x : Viewer). x.written) same
  delivered_written (Some bytes) now v w done = ap (λ (x : Viewer). x.written) done.3

  longer : (es : List Event) (v w : Viewer) → Happens first second es v w → IsLonger v.written w.written
  longer [] v w run = ([], ap (λ (x : Viewer). x.written) run ∙ sym (append-nil v.written))
  longer (wants ssrc ∷ later) v w run = longer_same v.written run.0.written w.written (ap (λ (x : Viewer). x.written) run.1) (longer later run.0 w run.2)
  longer (forwards source k answer ∷ later) v w run =
      let rest : IsLonger run.0.written w.written = longer later run.0 w run.2 in
      let new : List (List ℕ) = written_by answer run.1.bytes in
      (new ++ rest.0, rest.1 ∙ (ap (λ (x : Viewer). x.written ++ rest.0) run.1.is ∙ append_assoc v.written new rest.0))
  longer (delivers j now ∷ later) v w run = longer_same v.written run.0.written w.written (delivered_written (slice_get v.written j) now v run.0 run.1) (longer later run.0 w run.2)
  longer (pops now ∷ later) v w run = longer_same v.written run.0.written w.written (ap (λ (x : Viewer). x.written) run.1.4) (longer later run.0 w run.2)
  longer (ends ∷ later) v w run = longer_same v.written run.0.written w.written (ap (λ (x : Viewer). x.written) run.1.2) (longer later run.0 w run.2)

-- What the receiver does

module _ (all : List Sample) (first second : List (List ℕ)) (sending : Sending) (datagrams : List (List ℕ)) (entries : List SentSample) where
  abbrev Lasts : List Event → Viewer → Viewer → Type 0
  Lasts = Happens first second

  -- the run over one hop, after all was sent
  abbrev pub viewed : Viewer → List Receipt → Wire
  viewed v receipts = record { sending = sending; session = v.session; datagrams = datagrams; sends = entries; receipts = receipts; pops = v.pops }

  pub record Views (g : Stretch) (es : List Event) (places : List ℕ) (v w : Viewer) (receipts : List Receipt) : Type 0 where
    pub end : List Receipt
    pub runs : Runs all (steps_viewed g places es) (viewed v receipts) (viewed w end)

  -- a state of the run: `places` are the places of what was written so far
  pub record IsPlaced (g : Stretch) (es : List Event) (places : List ℕ) (v w : Viewer) : Type 0 where
    pub whole : AreAt datagrams w.written (places ++ places_from g (writings es))
    pub size : length places ≡ length v.written

  same_views : (g : Stretch) (es : List Event) (places : List ℕ) (v mid w : Viewer) (receipts : List Receipt) → mid.session ≡ v.session → mid.pops ≡ v.pops → Views g es places mid w receipts → Views g es places v w receipts
  same_views g es places v mid w receipts session pops_are rest = record {
    end = rest.end;
    runs = subst (λ (s : Session). Runs all (steps_viewed g places es) (record (viewed v receipts) { session = s }) (viewed w rest.end)) session
        (subst (λ (ps : List Answer). Runs all (steps_viewed g places es) (record (viewed mid receipts) { pops = ps }) (viewed w rest.end)) pops_are rest.runs);
  }

  one_delivery : (g : Stretch) (j : ℕ) (now : Ticks) (later : List Event) (places : List ℕ) (v mid w : Viewer) (receipts : List Receipt) (o : Option (List ℕ)) → slice_get v.written j ≡ o
      → IsPlaced g (delivers j now ∷ later) places v w → IsLonger v.written w.written → DeliversOne o now v mid → ((more : List Receipt) → Views g later places mid w more)
      → Views g (delivers j now ∷ later) places v w receipts
  one_delivery g j now later places v mid w receipts None none at longer same rest =
      let past : slice_get places j ≡ None = slice_get_past places j (omega (arith, at.size, past_all v.written j none)) in
      let r : Views g later places v w receipts = subst (λ (x : Viewer). Views g later places x w receipts) same (rest receipts) in
      record { end = r.end; runs = rw past r.runs }
  one_delivery g j now later places v mid w receipts (Some bytes) there at longer done rest =
      let l : j < length places = omega (arith, at.size, slice_get_within v.written j bytes there) in
      let whole : slice_get w.written j ≡ Some bytes = ap (λ (bs : List (List ℕ)). slice_get bs j) longer.1 ∙ get_append v.written longer.0 j bytes there in
      let copy = at_both datagrams w.written (places ++ places_from g (writings later)) j bytes at.whole whole in
      let place : slice_get places j ≡ Some copy.0 = at_left places (places_from g (writings later)) j copy.0 l copy.1 in
      let more : List Receipt = receipts ++ done.0 ∷ [] in
      let r : Views g later places (record v { session = done.1 }) w more = subst (λ (x : Viewer). Views g later places x w more) done.3 (rest more) in
      record { end = r.end; runs = rw place (viewed (record v { session = done.1 }) more, rw copy.2 (done.0, done.1, done.2, refl), r.runs) }

  views : (g : Stretch) (es : List Event) (places : List ℕ) (v w : Viewer) (receipts : List Receipt) → IsPlaced g es places v w → Lasts es v w → Views g es places v w receipts
  views g [] places v w receipts at run = record { end = receipts; runs = ap (λ (x : Viewer). viewed x receipts) run }
  views g (wants ssrc ∷ later) places v w receipts at run =
      let rest : Views g later places run.0 w receipts =
      views g later places run.0 w receipts (record { whole = at.whole; size = at.size ∙ sym (ap (λ (x : Viewer). length x.written) run.1) }) run.2 in
      let r : Views g later places v w receipts = same_views g later places v run.0 w receipts (ap (λ (x : Viewer). x.session) run.1) (ap (λ (x : Viewer). x.pops) run.1) rest in
      record { end = r.end; runs = r.runs }
  views g (forwards source k answer ∷ later) places v w receipts at run =
      let one : List Writing = writing_of source k answer in
      let next : List ℕ = places ++ places_from g one in
      let after : Stretch = stretch_in g one in
      let count : length next ≡ length run.0.written = omega (
        arith,
        length-append places (places_from g one),
        at.size,
        one_size g source k answer run.1.bytes,
        ap (λ (x : Viewer). length x.written) run.1.is,
        length-append v.written (written_by answer run.1.bytes),
      ) in
      let rest : Views after later next run.0 w receipts =
      views after later next run.0 w receipts (record { whole = subst (AreAt datagrams w.written) (places_on g source k answer (writings later) places) at.whole; size = count }) run.2 in
      let r : Views after later next v w receipts = same_views after later next v run.0 w receipts (ap (λ (x : Viewer). x.session) run.1.is) (ap (λ (x : Viewer). x.pops) run.1.is) rest in
      record { end = r.end; runs = r.runs }
  views g (delivers j now ∷ later) places v w receipts at run =
      let same : run.0.written ≡ v.written = delivered_written first second (slice_get v.written j) now v run.0 run.1 in
      one_delivery g j now later places v run.0 w receipts (slice_get v.written j) refl at (longer first second (delivers j now ∷ later) v w run) run.1
      (λ more. views g later places run.0 w more (record { whole = at.whole; size = at.size ∙ sym (ap length same) }) run.2)
  views g (pops now ∷ later) places v w receipts at run =
      let mid : Viewer = record v { session = run.1.1; pops = v.pops ++ run.1.0 ∷ [] } in
      let rest : Views g later places run.0 w receipts =
      views g later places run.0 w receipts (record { whole = at.whole; size = at.size ∙ sym (ap (λ (x : Viewer). length x.written) run.1.4) }) run.2 in
      let r : Views g later places mid w receipts = subst (λ (x : Viewer). Views g later places x w receipts) run.1.4 rest in
      record { end = r.end; runs = (viewed mid receipts, (run.1.0, run.1.1, run.1.2, run.1.3, refl), r.runs) }
  views g (ends ∷ later) places v w receipts at run =
      let mid : Viewer = record v { session = run.1.0 } in
      let rest : Views g later places run.0 w receipts =
      views g later places run.0 w receipts (record { whole = at.whole; size = at.size ∙ sym (ap (λ (x : Viewer). length x.written) run.1.2) }) run.2 in
      let r : Views g later places mid w receipts = subst (λ (x : Viewer). Views g later places x w receipts) run.1.2 rest in
      record { end = r.end; runs = (viewed mid receipts, (run.1.0, run.1.1, refl), r.runs) }

  pub views_all : (es : List Event) (v w : Viewer) → v.written ≡ [] → AreAt datagrams w.written (places_from no_stretch (writings es)) → Lasts es v w → Views no_stretch es [] v w []
  views_all es v w none whole run = views no_stretch es [] v w [] (record { whole = whole; size = sym (ap length none) }) run

-- The steps of the receiver send nothing, and name only datagrams of the stream

module _ (all : List Sample) (bound : ℕ) where
  received_delivery : (o : Option ℕ) (now : Ticks) (later : List DatagramStep) → ((k : ℕ) → o ≡ Some k → k < bound) → received_steps all bound later [] ≡ later
      → received_steps all bound (delivery_of o now ++ later) [] ≡ delivery_of o now ++ later
  received_delivery None now later low rest = rest
  received_delivery (Some k) now later low rest =
      let there : ltb k bound ≡ true = lt-ltb k bound (low k refl) in
      ap (λ (b : Bool). cond b (seen.Deliver k now ∷ received_steps all bound later []) (received_steps all bound later [])) there ∙ ap (λ (ss : List DatagramStep). seen.Deliver k now ∷ ss) rest

  received : (g : Stretch) (es : List Event) (places : List ℕ) → AllUnder bound (places ++ places_from g (writings es)) → received_steps all bound (steps_viewed g places es) [] ≡ steps_viewed g places es
  received g [] places under = refl
  received g (wants ssrc ∷ later) places under = received g later places under
  received g (forwards source k answer ∷ later) places under =
      received (stretch_in g (writing_of source k answer)) later (places ++ places_from g (writing_of source k answer))
      (subst (AllUnder bound) (places_on g source k answer (writings later) places) under)
  received g (delivers j now ∷ later) places under =
      received_delivery (slice_get places j) now (steps_viewed g places later)
      (λ k there. under_at bound places j k (under_left bound places (places_from g (writings later)) under) there) (received g later places under)
  received g (pops now ∷ later) places under = ap (λ (ss : List DatagramStep). seen.Pop now ∷ ss) (received g later places under)
  received g (ends ∷ later) places under = ap (λ (ss : List DatagramStep). seen.Finish ∷ ss) (received g later places under)

  pub received_all : (datagrams bytes : List (List ℕ)) (es : List Event) → length datagrams ≡ bound → AreAt datagrams bytes (places_from no_stretch (writings es))
      → received_steps all bound (steps_viewed no_stretch [] es) [] ≡ steps_viewed no_stretch [] es
  received_all datagrams bytes es size are =
      received no_stretch es [] (subst (λ (n : ℕ). AllUnder n (places_from no_stretch (writings es))) size (places_under datagrams bytes (places_from no_stretch (writings es)) are))

pub sends_none : (mtu : ℕ) (g : Stretch) (es : List Event) (places : List ℕ) → sending_steps mtu (steps_viewed g places es) ≡ []
sends_none mtu g [] places = refl
sends_none mtu g (wants ssrc ∷ later) places = sends_none mtu g later places
sends_none mtu g (forwards source k answer ∷ later) places = sends_none mtu (stretch_in g (writing_of source k answer)) later (places ++ places_from g (writing_of source k answer))
sends_none mtu g (delivers j now ∷ later) places = by (slice_get places j) (sends_none mtu g later places)
  where
    by : (o : Option ℕ) → sending_steps mtu (steps_viewed g places later) ≡ [] → sending_steps mtu (delivery_of o now ++ steps_viewed g places later) ≡ []
    by None rest = rest
    by (Some k) rest = rest
sends_none mtu g (pops now ∷ later) places = sends_none mtu g later places
sends_none mtu g (ends ∷ later) places = sends_none mtu g later places

pub times_none : (rate : ℕ) (all : List Sample) (g : Stretch) (es : List Event) (places : List ℕ) → times_sent rate all (steps_viewed g places es) [] ≡ []
times_none rate all g [] places = refl
times_none rate all g (wants ssrc ∷ later) places = times_none rate all g later places
times_none rate all g (forwards source k answer ∷ later) places = times_none rate all (stretch_in g (writing_of source k answer)) later (places ++ places_from g (writing_of source k answer))
times_none rate all g (delivers j now ∷ later) places = by (slice_get places j) (times_none rate all g later places)
  where
    by : (o : Option ℕ) → times_sent rate all (steps_viewed g places later) [] ≡ [] → times_sent rate all (delivery_of o now ++ steps_viewed g places later) [] ≡ []
    by None rest = rest
    by (Some k) rest = rest
times_none rate all g (pops now ∷ later) places = times_none rate all g later places
times_none rate all g (ends ∷ later) places = times_none rate all g later places
