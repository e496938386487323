-- A run with two sources, as what happened to the forwarder and the viewer.
use Rattle.std.proofs.Common.{◌≡◌, ◌≢◌, ◌∙◌, refl, sym, ap, subst, ℕ, List, [], ◌∷◌, ◌++◌, true, false, ltb, Option, Some, None, MatchOption, Err, Ok, length, length-append, append_assoc, append-nil, ◌+◌, ◌%◌, arith}
use Rattle.std.specs.Prelude.{slice_get}
use Rattle.std.proofs.lemmas.Bool.{le-ltb, lt-ltb}
use Rattle.std.proofs.lemmas.Option.{slice_get_within}
use Rattle.codec_payload_base.specs.declared.error.PacketError.TheVariants as faults
use Rattle.codec_payload_base.specs.declared.wire.Codec.{Codec}
use Rattle.codec_payload_base.specs.declared.wire.Ticks.{Ticks}
use Rattle.codec_payload_buffer_runs.specs.Schedule.{Answer}
use Rattle.codec_payload_payloader.specs.Sending.{Sample}
use Rattle.codec_payload_receiver.specs.Sessions.{Ends, Session}
use Rattle.codec_payload_rtp.specs.RtpPackets.{Packet}
use Rattle.codec_payload_rtp.specs.RtpReading.{rtp_at}
use Rattle.codec_payload_sending.specs.Senders.{Sending}
use Rattle.codec_payload_sending_forward.specs.Forwarding.{Forward, Forwards}
use Rattle.codec_payload_sending_forward.specs.declared.forwarder.Forwarded.{Forwarded}
use Rattle.codec_payload_datagram_runs.proofs.RepeatLemmas.{Follows, From, Grows, follows, from_append, from_same, grows}
use Rattle.codec_payload_datagram_runs.proofs.StepLemmas.{get_append, past_end}
use Rattle.codec_payload_datagram_runs.specs.HistoryReleases.{sends_by}
use Rattle.codec_payload_datagram_runs.specs.WireRuns.{Delivers, DoesStep, PopsUnit, Receipt, SendsIt, Wire}
use Rattle.codec_payload_datagram_runs.specs.declared.run.DatagramStep.TheVariants as seen
use Rattle.codec_payload_datagram_runs.specs.declared.run.SentSample.{SentSample}
use Rattle.codec_payload_forward_runs.proofs.SourceLemmas.{IsDatagramOf, IsSource, of_at, source_after}
use Rattle.codec_payload_forward_runs.proofs.ViewerRuns.{IsMore}
use Rattle.codec_payload_forward_runs.specs.ForwardRuns.{DoesForwardStep, DoesPlain, Hops, packet_in, packet_read, written_by}
use Rattle.codec_payload_forward_runs.specs.SwitchReleases.{Ahead, Event, datagrams_of, delivers, ends, events, forwards, pops, wants}
use Rattle.codec_payload_forward_runs.specs.SwitchRuns.{SwitchRuns, Switched, swapped}
use Rattle.codec_payload_forward_runs.specs.declared.run.ForwardStep.{ForwardStep}
use Rattle.codec_payload_forward_runs.specs.declared.run.ForwardStep.TheVariants as plain
use Rattle.codec_payload_forward_runs.specs.declared.switch_run.Source.{Source}
use Rattle.codec_payload_forward_runs.specs.declared.switch_run.Source.TheVariants as sources
use Rattle.codec_payload_forward_runs.specs.declared.switch_run.SwitchStep.{SwitchStep}
use Rattle.codec_payload_forward_runs.specs.declared.switch_run.SwitchStep.TheVariants as steps

-- What an event does

-- the forwarder, the viewer's receiver, the written datagrams and the answers of pops
pub record Viewer : Type 0 where
  pub forwarder : Forward
  pub session : Session
  pub written : List (List ℕ)
  pub pops : List Answer

abbrev pub viewer_of : Hops → Viewer
viewer_of s = record { forwarder = s.forwarder; session = s.wire.session; written = s.written; pops = s.wire.pops }

-- a datagram comes to the forwarder
pub record ComesOne (datagrams : List (List ℕ)) (k : ℕ) (answer : Forwarded) (v w : Viewer) : Type 0 where
  pub datagram : List ℕ
  pub packet : Packet
  pub there : slice_get datagrams k ≡ Some datagram
  pub reads : rtp_at datagram ≡ Ok packet
  pub now : ℕ
  pub bytes : List ℕ
  pub forwarder : Forward
  pub does : Forwards now packet v.forwarder answer bytes forwarder
  pub is : w ≡ record v { forwarder = forwarder; written = v.written ++ written_by answer bytes }

abbrev pub DeliversOne : Option (List ℕ) → Ticks → Viewer → Viewer → Type 0
DeliversOne o now v w =
    MatchOption o (w ≡ v) (λ bytes. (receipt : Receipt) × (session : Session) × Delivers now bytes v.session receipt session × (w ≡ record v { session = session }))

abbrev pub DoesEvent : (first second : List (List ℕ)) → Event → Viewer → Viewer → Type 0
DoesEvent first second (wants ssrc) v w = w ≡ record v { forwarder = record v.forwarder { wanted = Some ssrc } }
DoesEvent first second (forwards source k answer) v w = ComesOne (datagrams_of source first second) k answer v w
DoesEvent first second (delivers j now) v w = DeliversOne (slice_get v.written j) now v w
DoesEvent first second (pops now) v w =
    (answer : Answer) × (session : Session) × (answer ≢ Some (Err faults.OutOfMemory)) × PopsUnit now v.session answer session × (w ≡ record v { session = session; pops = v.pops ++ answer ∷ [] })
DoesEvent first second ends v w = (session : Session) × Ends v.session session × (w ≡ record v { session = session })

abbrev pub Happens : (first second : List (List ℕ)) → List Event → Viewer → Viewer → Type 0
Happens first second [] v w = w ≡ v
Happens first second (event ∷ later) v w = (mid : Viewer) × DoesEvent first second event v mid × Happens first second later mid w

happens_append : (first second : List (List ℕ)) (es fs : List Event) (v mid w : Viewer) → Happens first second es v mid → Happens first second fs mid w → Happens first second (es ++ fs) v w
happens_append first second [] fs v mid w here more = subst (λ (x : Viewer). Happens first second fs x w) here more
happens_append first second (e ∷ es) fs v mid w here more = (here.0, here.1, happens_append first second es fs here.0 mid w here.2 more)

-- Numbers of datagrams

-- the datagrams of a sender have consecutive numbers from n on, and the next one follows
pub record IsFrom (n : ℕ) (s : Sending) (datagrams : List (List ℕ)) : Type 0 where
  pub numbers : From n datagrams
  pub next : s.stream.number % 65536 ≡ (n + length datagrams) % 65536

from_grown : (n : ℕ) (s t : Wire) → Grows s t → IsFrom n s.sending s.datagrams → IsFrom n t.sending t.datagrams
from_grown n s t g is = record {
  numbers = subst (From n) (sym g.whole) (from_append n s.datagrams g.new is.numbers (from_same s.sending.stream.number (n + length s.datagrams) g.new is.next g.numbers));
  next = g.next ∙ omega (arith, is.next, ap length g.whole, length-append s.datagrams g.new);
}

-- One step with a source

more_none : (datagrams : List (List ℕ)) → IsMore datagrams datagrams
more_none datagrams = ([], sym (append-nil datagrams))

more_further : (a b c : List (List ℕ)) → IsMore a b → IsMore b c → IsMore a c
more_further a b c one two = (one.0 ++ two.0, two.1 ∙ (ap (λ (ds : List (List ℕ)). ds ++ two.0) one.1 ∙ append_assoc a one.0 two.0))

more_at : (a b : List (List ℕ)) (k : ℕ) (d : List ℕ) → IsMore a b → slice_get a k ≡ Some d → slice_get b k ≡ Some d
more_at a b k d more there = subst (λ (ds : List (List ℕ)). slice_get ds k ≡ Some d) (sym more.1) (get_append a more.0 k d there)

abbrev ahead : Hops → List SentSample → Ahead
ahead s entries = record { sent = length s.wire.datagrams; entries = entries }

-- how the events of these steps begin
abbrev EventsBegin : Source → List Sample → ForwardStep → Hops → Hops → List Event → (List SentSample → List SentSample) → (List Forwarded → List Forwarded) → Type 0
EventsBegin sources.First samples step s t made sends results =
    (other : Ahead) (later : List SwitchStep) (after : List SentSample) (rest : List Forwarded)
    → events samples (ahead s (sends after)) other (steps.Of sources.First step ∷ later) (results rest) ≡ made ++ events samples (ahead t after) other later rest
EventsBegin sources.Second samples step s t made sends results =
    (other : Ahead) (later : List SwitchStep) (after : List SentSample) (rest : List Forwarded)
    → events samples other (ahead s (sends after)) (steps.Of sources.Second step ∷ later) (results rest) ≡ made ++ events samples other (ahead t after) later rest

record Did (source : Source) (ssrc rate : ℕ) (codec : Codec) (samples : List Sample) (step : ForwardStep) (s t : Hops) : Type 0 where
  sends : List SentSample → List SentSample
  sends_are : (after : List SentSample) → t.wire.sends ++ after ≡ s.wire.sends ++ sends after
  results : List Forwarded → List Forwarded
  results_are : (rest : List Forwarded) → t.answers ++ rest ≡ s.answers ++ results rest
  more : IsMore s.wire.datagrams t.wire.datagrams
  source_is : IsSource ssrc rate codec false false t.wire.sending t.wire.datagrams
  from : (n : ℕ) → IsFrom n s.wire.sending s.wire.datagrams → IsFrom n t.wire.sending t.wire.datagrams
  made : List Event
  begin : EventsBegin source samples step s t made sends results
  happens : (first second : List (List ℕ)) → IsMore t.wire.datagrams (datagrams_of source first second) → Happens first second made (viewer_of s) (viewer_of t)

module _ (source : Source) (ssrc rate : ℕ) (codec : Codec) (samples : List Sample) where
  abbrev IsSourceAt : Hops → Type 0
  IsSourceAt s = IsSource ssrc rate codec false false s.wire.sending s.wire.datagrams

  -- a step that sends
  sends_nothing_else : (o : Option Sample) (s t : Wire)
      → MatchOption o (t ≡ s) (λ sample. (entry : SentSample) × SendsIt sample s.sending s.datagrams entry t.sending t.datagrams
      × (t ≡ record s { sending = t.sending; datagrams = t.datagrams; sends = s.sends ++ entry ∷ [] }))
      → (t.session ≡ s.session) × (t.pops ≡ s.pops)
  sends_nothing_else None s t same = (ap (λ (x : Wire). x.session) same, ap (λ (x : Wire). x.pops) same)
  sends_nothing_else (Some sample) s t done = (ap (λ (x : Wire). x.session) done.2, ap (λ (x : Wire). x.pops) done.2)

  same_viewer : (s : Hops) (wire : Wire) → wire.session ≡ s.wire.session → wire.pops ≡ s.wire.pops → viewer_of (record s { wire = wire }) ≡ viewer_of s
  same_viewer s wire session pops_are =
      ap (λ (x : Session). record (viewer_of s) { session = x; pops = wire.pops }) session
      ∙ ap (λ (xs : List Answer). record (viewer_of s) { pops = xs }) pops_are

  begins_sent : (x : Source) (i : ℕ) (s t : Hops) (f : (after : List SentSample) → Follows samples (seen.Send i) s.wire t.wire after)
      → EventsBegin x samples (plain.Send i) s t [] (λ after. (f after).later) (λ rest. rest)
  begins_sent sources.First i s t f = λ other later after rest.
      ap (λ (n : ℕ). events samples (record { sent = n; entries = sends_by samples (seen.Send i) (f after).later }) other later rest) (f after).sent
      ∙ ap (λ (es : List SentSample). events samples (ahead t es) other later rest) (f after).left
  begins_sent sources.Second i s t f = λ other later after rest.
      ap (λ (n : ℕ). events samples other (record { sent = n; entries = sends_by samples (seen.Send i) (f after).later }) later rest) (f after).sent
      ∙ ap (λ (es : List SentSample). events samples other (ahead t es) later rest) (f after).left

  sent : (i : ℕ) (s t : Hops) → IsSourceAt s → DoesPlain samples (seen.Send i) s t → Did source ssrc rate codec samples (plain.Send i) s t
  sent i s t is does =
      let wire : t.wire ≡ does.0 = ap (λ (x : Hops). x.wire) does.2 in
      let stepped : DoesStep samples (seen.Send i) s.wire t.wire = subst (DoesStep samples (seen.Send i) s.wire) (sym wire) does.1 in
      let g : Grows s.wire t.wire = grows samples (seen.Send i) s.wire t.wire stepped in
      let f : (after : List SentSample) → Follows samples (seen.Send i) s.wire t.wire after = λ after. follows samples (seen.Send i) s.wire t.wire after stepped in
      let else_same = sends_nothing_else (slice_get samples i) s.wire does.0 does.1 in
      record {
        sends = λ after. (f after).later;
        sends_are = λ after. (f after).sends;
        results = λ rest. rest;
        results_are = λ rest. ap (λ (x : Hops). x.answers ++ rest) does.2;
        more = (g.new, g.whole);
        source_is = source_after ssrc rate codec false false samples i s.wire t.wire is stepped;
        from = λ n before. from_grown n s.wire t.wire g before;
        made = [];
        begin = begins_sent source i s t f;
        happens = λ first second more. ap viewer_of does.2 ∙ same_viewer s does.0 else_same.0 else_same.1;
      }

  -- a step that names no datagram
  begins_same : (x : Source) (step : ForwardStep) (s t : Hops) → t ≡ s
      → ((a b : Ahead) (later : List SwitchStep) (rest : List Forwarded) → a.sent ≡ length s.wire.datagrams → events samples a b (steps.Of sources.First step ∷ later) rest ≡ events samples a b later rest)
      → ((a b : Ahead) (later : List SwitchStep) (rest : List Forwarded) → b.sent ≡ length s.wire.datagrams → events samples a b (steps.Of sources.Second step ∷ later) rest ≡ events samples a b later rest)
      → EventsBegin x samples step s t [] (λ after. after) (λ rest. rest)
  begins_same sources.First step s t same first second = λ other later after rest.
      first (ahead s after) other later rest refl ∙ ap (λ (h : Hops). events samples (ahead h after) other later rest) (sym same)
  begins_same sources.Second step s t same first second = λ other later after rest.
      second other (ahead s after) later rest refl ∙ ap (λ (h : Hops). events samples other (ahead h after) later rest) (sym same)

  skipped : (k now : ℕ) (s t : Hops) → IsSourceAt s → slice_get s.wire.datagrams k ≡ None → t ≡ s → Did source ssrc rate codec samples (plain.Forward k now) s t
  skipped k now s t is none same =
      let past : ltb k (length s.wire.datagrams) ≡ false = le-ltb k (length s.wire.datagrams) (past_end s.wire.datagrams k none) in
      record {
        sends = λ after. after;
        sends_are = λ after. ap (λ (x : Hops). x.wire.sends ++ after) same;
        results = λ rest. rest;
        results_are = λ rest. ap (λ (x : Hops). x.answers ++ rest) same;
        more = subst (λ (x : Hops). IsMore s.wire.datagrams x.wire.datagrams) (sym same) (more_none s.wire.datagrams);
        source_is = subst IsSourceAt (sym same) is;
        from = λ n before. subst (λ (x : Hops). IsFrom n x.wire.sending x.wire.datagrams) (sym same) before;
        made = [];
        begin = begins_same source (plain.Forward k now) s t same (λ a b later rest at. rw (at, past) refl) (λ a b later rest at. rw (at, past) refl);
        happens = λ first second more. ap viewer_of same;
      }

  -- a datagram that comes to the forwarder
  begins_answered : (x : Source) (k now : ℕ) (answer : Forwarded) (s t : Hops) → t.wire ≡ s.wire → ltb k (length s.wire.datagrams) ≡ true
      → EventsBegin x samples (plain.Forward k now) s t (forwards x k answer ∷ []) (λ after. after) (λ rest. answer ∷ rest)
  begins_answered sources.First k now answer s t wire there = λ other later after rest.
      rw there refl ∙ ap (λ (w : Wire). forwards sources.First k answer ∷ events samples (record { sent = length w.datagrams; entries = after }) other later rest) (sym wire)
  begins_answered sources.Second k now answer s t wire there = λ other later after rest.
      rw there refl ∙ ap (λ (w : Wire). forwards sources.Second k answer ∷ events samples other (record { sent = length w.datagrams; entries = after }) later rest) (sym wire)

  answered : (k now : ℕ) (s t : Hops) (d : List ℕ) (p : Packet) (answer : Forwarded) (bytes : List ℕ) (forwarder : Forward) → IsSourceAt s → slice_get s.wire.datagrams k ≡ Some d → rtp_at d ≡ Ok p
      → Forwards now p s.forwarder answer bytes forwarder → t ≡ record s { forwarder = forwarder; written = s.written ++ written_by answer bytes; answers = s.answers ++ answer ∷ [] }
      → Did source ssrc rate codec samples (plain.Forward k now) s t
  answered k now s t d p answer bytes forwarder is there reads does same =
      let wire : t.wire ≡ s.wire = ap (λ (x : Hops). x.wire) same in
      record {
        sends = λ after. after;
        sends_are = λ after. ap (λ (w : Wire). w.sends ++ after) wire;
        results = λ rest. answer ∷ rest;
        results_are = λ rest. ap (λ (x : Hops). x.answers ++ rest) same ∙ append_assoc s.answers (answer ∷ []) rest;
        more = subst (λ (w : Wire). IsMore s.wire.datagrams w.datagrams) (sym wire) (more_none s.wire.datagrams);
        source_is = subst (λ (w : Wire). IsSource ssrc rate codec false false w.sending w.datagrams) (sym wire) is;
        from = λ n before. subst (λ (w : Wire). IsFrom n w.sending w.datagrams) (sym wire) before;
        made = forwards source k answer ∷ [];
        begin = begins_answered source k now answer s t wire (lt-ltb k (length s.wire.datagrams) (slice_get_within s.wire.datagrams k d there));
        happens = λ first second more. (
          viewer_of t,
          record {
            datagram = d;
            packet = p;
            there = more_at s.wire.datagrams (datagrams_of source first second) k d (subst (λ (w : Wire). IsMore w.datagrams (datagrams_of source first second)) wire more) there;
            reads = reads;
            now = now;
            bytes = bytes;
            forwarder = forwarder;
            does = does;
            is = ap viewer_of same;
          },
          refl,
        );
      }

  forwarded : (k now : ℕ) (s t : Hops) → IsSourceAt s → DoesForwardStep samples (plain.Forward k now) s t → Did source ssrc rate codec samples (plain.Forward k now) s t
  forwarded k now s t is does = by (slice_get s.wire.datagrams k) refl
    where
      by : (o : Option (List ℕ)) → slice_get s.wire.datagrams k ≡ o → Did source ssrc rate codec samples (plain.Forward k now) s t
      by None none = skipped k now s t is none (rw none at does)
      by (Some d) there =
          let of : IsDatagramOf false ssrc codec d = of_at false ssrc codec s.wire.datagrams k d is.all there in
          let packet : packet_in (slice_get s.wire.datagrams k) ≡ Some of.0 = ap packet_in there ∙ ap packet_read of.1 in
          let done = rw packet at does in
          answered k now s t d of.0 done.0 done.1 done.2 is there of.1 done.3 done.4

  -- a step of the viewer
  begins_quiet : (x : Source) (step : ForwardStep) (event : Event) (s t : Hops) → t.wire.datagrams ≡ s.wire.datagrams
      → ((y : Source) (a b : Ahead) (later : List SwitchStep) (rest : List Forwarded) → events samples a b (steps.Of y step ∷ later) rest ≡ event ∷ events samples a b later rest)
      → EventsBegin x samples step s t (event ∷ []) (λ after. after) (λ rest. rest)
  begins_quiet sources.First step event s t same one = λ other later after rest.
      one sources.First (ahead s after) other later rest ∙ ap (λ (ds : List (List ℕ)). event ∷ events samples (record { sent = length ds; entries = after }) other later rest) (sym same)
  begins_quiet sources.Second step event s t same one = λ other later after rest.
      one sources.Second other (ahead s after) later rest ∙ ap (λ (ds : List (List ℕ)). event ∷ events samples other (record { sent = length ds; entries = after }) later rest) (sym same)

  quiet : (step : ForwardStep) (event : Event) (s t : Hops) → IsSourceAt s → t.wire.sending ≡ s.wire.sending → t.wire.datagrams ≡ s.wire.datagrams → t.wire.sends ≡ s.wire.sends → t.answers ≡ s.answers
      → ((y : Source) (a b : Ahead) (later : List SwitchStep) (rest : List Forwarded) → events samples a b (steps.Of y step ∷ later) rest ≡ event ∷ events samples a b later rest)
      → ((first second : List (List ℕ)) → DoesEvent first second event (viewer_of s) (viewer_of t))
      → Did source ssrc rate codec samples step s t
  quiet step event s t is sending datagrams sends answers one does = record {
    sends = λ after. after;
    sends_are = λ after. ap (λ (es : List SentSample). es ++ after) sends;
    results = λ rest. rest;
    results_are = λ rest. ap (λ (xs : List Forwarded). xs ++ rest) answers;
    more = subst (IsMore s.wire.datagrams) (sym datagrams) (more_none s.wire.datagrams);
    source_is = subst (λ (ds : List (List ℕ)). IsSource ssrc rate codec false false t.wire.sending ds) (sym datagrams)
        (subst (λ (x : _). IsSource ssrc rate codec false false x s.wire.datagrams) (sym sending) is);
    from = λ n before. subst (λ (ds : List (List ℕ)). IsFrom n t.wire.sending ds) (sym datagrams) (subst (λ (x : Sending). IsFrom n x s.wire.datagrams) (sym sending) before);
    made = event ∷ [];
    begin = begins_quiet source step event s t datagrams one;
    happens = λ first second more. (viewer_of t, does first second, refl);
  }

  one_deliver : (j : ℕ) (now : Ticks) (y : Source) (a b : Ahead) (later : List SwitchStep) (rest : List Forwarded)
      → events samples a b (steps.Of y (plain.Deliver j now) ∷ later) rest ≡ delivers j now ∷ events samples a b later rest
  one_deliver j now sources.First a b later rest = refl
  one_deliver j now sources.Second a b later rest = refl

  one_pop : (now : Ticks) (y : Source) (a b : Ahead) (later : List SwitchStep) (rest : List Forwarded)
      → events samples a b (steps.Of y (plain.Pop now) ∷ later) rest ≡ pops now ∷ events samples a b later rest
  one_pop now sources.First a b later rest = refl
  one_pop now sources.Second a b later rest = refl

  one_end : (y : Source) (a b : Ahead) (later : List SwitchStep) (rest : List Forwarded) → events samples a b (steps.Of y plain.Finish ∷ later) rest ≡ ends ∷ events samples a b later rest
  one_end sources.First a b later rest = refl
  one_end sources.Second a b later rest = refl

  delivered_one : (j : ℕ) (now : Ticks) (s t : Hops) (o : Option (List ℕ)) → slice_get s.written j ≡ o → IsSourceAt s
      → MatchOption o (t ≡ s) (λ bytes. (receipt : Receipt) × (session : Session) × Delivers now bytes s.wire.session receipt session
      × (t ≡ record s { wire = record s.wire { session = session; receipts = s.wire.receipts ++ receipt ∷ [] } }))
      → Did source ssrc rate codec samples (plain.Deliver j now) s t
  delivered_one j now s t None none is same =
      quiet (plain.Deliver j now) (delivers j now) s t is (ap (λ (x : Hops). x.wire.sending) same) (ap (λ (x : Hops). x.wire.datagrams) same) (ap (λ (x : Hops). x.wire.sends) same)
      (ap (λ (x : Hops). x.answers) same) (one_deliver j now) (λ first second. subst (λ (o : Option (List ℕ)). DeliversOne o now (viewer_of s) (viewer_of t)) (sym none) (ap viewer_of same))
  delivered_one j now s t (Some bytes) there is done =
      quiet (plain.Deliver j now) (delivers j now) s t is (ap (λ (x : Hops). x.wire.sending) done.3) (ap (λ (x : Hops). x.wire.datagrams) done.3) (ap (λ (x : Hops). x.wire.sends) done.3)
      (ap (λ (x : Hops). x.answers) done.3) (one_deliver j now)
      (λ first second. subst (λ (o : Option (List ℕ)). DeliversOne o now (viewer_of s) (viewer_of t)) (sym there) (done.0, done.1, done.2, ap viewer_of done.3))

  did : (step : ForwardStep) (s t : Hops) → IsSourceAt s → DoesForwardStep samples step s t → Did source ssrc rate codec samples step s t
  did (plain.Send i) s t is does = sent i s t is does
  did (plain.Forward k now) s t is does = forwarded k now s t is does
  did (plain.Deliver j now) s t is does = delivered_one j now s t (slice_get s.written j) refl is does
  did (plain.Pop now) s t is does =
      let wire : t.wire ≡ _ = ap (λ (x : Hops). x.wire) does.2 ∙ does.1.4 in
      quiet (plain.Pop now) (pops now) s t is (ap (λ (w : Wire). w.sending) wire) (ap (λ (w : Wire). w.datagrams) wire) (ap (λ (w : Wire). w.sends) wire) (ap (λ (x : Hops). x.answers) does.2) (one_pop now)
      (λ first second. (does.1.0, does.1.1, does.1.2, does.1.3, ap viewer_of does.2 ∙ ap (λ (w : Wire). viewer_of (record s { wire = w })) does.1.4))
  did plain.Finish s t is does =
      let wire : t.wire ≡ _ = ap (λ (x : Hops). x.wire) does.2 ∙ does.1.2 in
      quiet plain.Finish ends s t is (ap (λ (w : Wire). w.sending) wire) (ap (λ (w : Wire). w.datagrams) wire) (ap (λ (w : Wire). w.sends) wire) (ap (λ (x : Hops). x.answers) does.2) one_end
      (λ first second. (does.1.0, does.1.1, ap viewer_of does.2 ∙ ap (λ (w : Wire). viewer_of (record s { wire = w })) does.1.2))

-- Whole runs

module _ (first_ssrc second_ssrc first_rate second_rate first_number second_number : ℕ) (codec : Codec) (samples : List Sample) where
  pub record AreSources (s : Switched) : Type 0 where
    pub first : IsSource first_ssrc first_rate codec false false s.hops.wire.sending s.hops.wire.datagrams
    pub second : IsSource second_ssrc second_rate codec false false s.second s.datagrams
    pub first_from : IsFrom first_number s.hops.wire.sending s.hops.wire.datagrams
    pub second_from : IsFrom second_number s.second s.datagrams

  -- a run is what happened
  pub record Became (all_steps : List SwitchStep) (s t : Switched) : Type 0 where
    pub first_later : List SentSample
    pub first_are : t.hops.wire.sends ≡ s.hops.wire.sends ++ first_later
    pub second_later : List SentSample
    pub second_are : t.sends ≡ s.sends ++ second_later
    pub results : List Forwarded
    pub results_are : t.hops.answers ≡ s.hops.answers ++ results
    pub first_more : IsMore s.hops.wire.datagrams t.hops.wire.datagrams
    pub second_more : IsMore s.datagrams t.datagrams
    pub sources_are : AreSources t
    pub happens : Happens t.hops.wire.datagrams t.datagrams
        (events samples (ahead s.hops first_later) (record { sent = length s.datagrams; entries = second_later }) all_steps results) (viewer_of s.hops) (viewer_of t.hops)

  same_became : (step : SwitchStep) (later : List SwitchStep) (ssrc : ℕ) (s mid t : Switched) → mid ≡ record s { hops = record s.hops { forwarder = record s.hops.forwarder { wanted = Some ssrc } } }
      → Became later mid t → Became (steps.Want ssrc ∷ later) s t
  same_became step later ssrc s mid t same rest = record {
    first_later = rest.first_later;
    first_are = rest.first_are ∙ ap (λ (x : Switched). x.hops.wire.sends ++ rest.first_later) same;
    second_later = rest.second_later;
    second_are = rest.second_are ∙ ap (λ (x : Switched). x.sends ++ rest.second_later) same;
    results = rest.results;
    results_are = rest.results_are ∙ ap (λ (x : Switched). x.hops.answers ++ rest.results) same;
    first_more = subst (λ (x : Switched). IsMore x.hops.wire.datagrams t.hops.wire.datagrams) same rest.first_more;
    second_more = subst (λ (x : Switched). IsMore x.datagrams t.datagrams) same rest.second_more;
    sources_are = rest.sources_are;
    happens = (
      viewer_of mid.hops,
      ap (λ (x : Switched). viewer_of x.hops) same,
      subst (λ (x : Switched). Happens t.hops.wire.datagrams t.datagrams
          (events samples (ahead x.hops rest.first_later) (record { sent = length x.datagrams; entries = rest.second_later }) later rest.results) (viewer_of mid.hops) (viewer_of t.hops)) same rest.happens,
    );
  }

  first_became : (step : ForwardStep) (later : List SwitchStep) (s mid t : Switched) (hops : Hops) → Did sources.First first_ssrc first_rate codec samples step s.hops hops → mid ≡ record s { hops = hops }
      → Became later mid t → Became (steps.Of sources.First step ∷ later) s t
  first_became step later s mid t hops one same rest =
      let grown : IsMore hops.wire.datagrams t.hops.wire.datagrams = subst (λ (x : Switched). IsMore x.hops.wire.datagrams t.hops.wire.datagrams) same rest.first_more in
      let other : Ahead = record { sent = length s.datagrams; entries = rest.second_later } in
      record {
        first_later = one.sends rest.first_later;
        first_are = rest.first_are ∙ (ap (λ (x : Switched). x.hops.wire.sends ++ rest.first_later) same ∙ one.sends_are rest.first_later);
        second_later = rest.second_later;
        second_are = rest.second_are ∙ ap (λ (x : Switched). x.sends ++ rest.second_later) same;
        results = one.results rest.results;
        results_are = rest.results_are ∙ (ap (λ (x : Switched). x.hops.answers ++ rest.results) same ∙ one.results_are rest.results);
        first_more = more_further s.hops.wire.datagrams hops.wire.datagrams t.hops.wire.datagrams one.more grown;
        second_more = subst (λ (x : Switched). IsMore x.datagrams t.datagrams) same rest.second_more;
        sources_are = rest.sources_are;
        happens = subst (λ (es : List Event). Happens t.hops.wire.datagrams t.datagrams es (viewer_of s.hops) (viewer_of t.hops)) (sym (one.begin other later rest.first_later rest.results))
            (happens_append t.hops.wire.datagrams t.datagrams one.made _ (viewer_of s.hops) (viewer_of hops) (viewer_of t.hops) (one.happens t.hops.wire.datagrams t.datagrams grown)
            (subst (λ (x : Switched). Happens t.hops.wire.datagrams t.datagrams
            (events samples (ahead x.hops rest.first_later) (record { sent = length x.datagrams; entries = rest.second_later }) later rest.results) (viewer_of x.hops) (viewer_of t.hops)) same rest.happens));
      }

  second_became : (step : ForwardStep) (later : List SwitchStep) (s mid t : Switched) (hops : Hops) → Did sources.Second second_ssrc second_rate codec samples step (swapped s).hops hops
      → mid ≡ swapped (record (swapped s) { hops = hops }) → Became later mid t → Became (steps.Of sources.Second step ∷ later) s t
  second_became step later s mid t hops one same rest =
      let grown : IsMore hops.wire.datagrams t.datagrams = subst (λ (x : Switched). IsMore x.datagrams t.datagrams) same rest.second_more in
      let other : Ahead = ahead s.hops rest.first_later in
      record {
        first_later = rest.first_later;
        first_are = rest.first_are ∙ ap (λ (x : Switched). x.hops.wire.sends ++ rest.first_later) same;
        second_later = one.sends rest.second_later;
        second_are = rest.second_are ∙ (ap (λ (x : Switched). x.sends ++ rest.second_later) same ∙ one.sends_are rest.second_later);
        results = one.results rest.results;
        results_are = rest.results_are ∙ (ap (λ (x : Switched). x.hops.answers ++ rest.results) same ∙ one.results_are rest.results);
        first_more = subst (λ (x : Switched). IsMore x.hops.wire.datagrams t.hops.wire.datagrams) same rest.first_more;
        second_more = more_further s.datagrams hops.wire.datagrams t.datagrams one.more grown;
        sources_are = rest.sources_are;
        happens = subst (λ (es : List Event). Happens t.hops.wire.datagrams t.datagrams es (viewer_of s.hops) (viewer_of t.hops)) (sym (one.begin other later rest.second_later rest.results))
            (happens_append t.hops.wire.datagrams t.datagrams one.made _ (viewer_of s.hops) (viewer_of hops) (viewer_of t.hops) (one.happens t.hops.wire.datagrams t.datagrams grown)
            (subst (λ (x : Switched). Happens t.hops.wire.datagrams t.datagrams
            (events samples (ahead x.hops rest.first_later) (record { sent = length x.datagrams; entries = rest.second_later }) later rest.results) (viewer_of x.hops) (viewer_of t.hops)) same rest.happens));
      }

  pub became : (all_steps : List SwitchStep) (s t : Switched) → AreSources s → SwitchRuns samples all_steps s t → Became all_steps s t
  became [] s t are run = record {
    first_later = [];
    first_are = ap (λ (x : Switched). x.hops.wire.sends) run ∙ sym (append-nil s.hops.wire.sends);
    second_later = [];
    second_are = ap (λ (x : Switched). x.sends) run ∙ sym (append-nil s.sends);
    results = [];
    results_are = ap (λ (x : Switched). x.hops.answers) run ∙ sym (append-nil s.hops.answers);
    first_more = subst (λ (x : Switched). IsMore s.hops.wire.datagrams x.hops.wire.datagrams) (sym run) (more_none s.hops.wire.datagrams);
    second_more = subst (λ (x : Switched). IsMore s.datagrams x.datagrams) (sym run) (more_none s.datagrams);
    sources_are = subst AreSources (sym run) are;
    happens = ap (λ (x : Switched). viewer_of x.hops) run;
  }
  became (steps.Want ssrc ∷ later) s t are run =
      same_became (steps.Want ssrc) later ssrc s run.0 t run.1 (became later run.0 t (subst AreSources (sym run.1) (record { first = are.first; second = are.second; first_from = are.first_from; second_from = are.second_from })) run.2)
  became (steps.Of sources.First step ∷ later) s t are run =
      let hops : Hops = run.1.0 in
      let one = did sources.First first_ssrc first_rate codec samples step s.hops hops are.first run.1.1 in
      first_became step later s run.0 t hops one run.1.2 (became later run.0 t (subst AreSources (sym run.1.2) (record { first = one.source_is; second = are.second; first_from = one.from first_number are.first_from; second_from = are.second_from })) run.2)
  became (steps.Of sources.Second step ∷ later) s t are run =
      let hops : Hops = run.1.0 in
      let one = did sources.Second second_ssrc second_rate codec samples step (swapped s).hops hops are.second run.1.1 in
      second_became step later s run.0 t hops one run.1.2 (became later run.0 t (subst AreSources (sym run.1.2) (record { first = are.first; second = one.source_is; first_from = are.first_from; second_from = one.from second_number are.second_from })) run.2)
