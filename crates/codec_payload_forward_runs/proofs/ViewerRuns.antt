-- A run with a forwarder is, for the viewer's receiver, a run over one hop from the sender whose datagrams the viewer gets.
use Rattle.std.proofs.Common.{◌≡◌, ◌∙◌, refl, sym, ap, subst, ℕ, zero, suc, ◌^◌, ◌<◌, List, [], ◌∷◌, ◌++◌, Bool, true, false, ltb, Option, Some, None, MatchOption, Result, Ok, length, map, append_assoc, append-nil}
use Rattle.std.specs.Prelude.{slice_get}
use Rattle.std.specs.Option.{option_map}
use Rattle.std.proofs.lemmas.Bool.{le-ltb, lt-ltb}
use Rattle.std.proofs.lemmas.Option.{same_Some, slice_get-map, slice_get_within}
use Rattle.codec_payload_base.specs.declared.wire.Codec.{Codec}
use Rattle.codec_payload_base.specs.declared.wire.Ticks.{Ticks}
use Rattle.codec_payload_payloader.specs.Sending.{Sample}
use Rattle.codec_payload_receiver.specs.Sessions.{Session}
use Rattle.codec_payload_rtp.specs.RtpPackets.{Packet, packet_bytes}
use Rattle.codec_payload_rtp.specs.RtpReading.{rtp_at}
use Rattle.codec_payload_rtp.specs.declared.rtp.RtpError.{RtpError}
use Rattle.codec_payload_sending_forward.specs.Forwarding.{Forward}
use Rattle.codec_payload_sending_forward.specs.declared.forwarder.Forwarded.{Forwarded}
use Rattle.codec_payload_sending_forward.specs.declared.forwarder.Forwarded.TheVariants as answers
use Rattle.codec_payload_codec.specs.Packetizers.{PacketizerState}
use Rattle.codec_payload_datagram_runs.proofs.RedStepLemmas.{only_sends}
use Rattle.codec_payload_datagram_runs.proofs.RepeatLemmas.{follows, grows, Grows}
use Rattle.codec_payload_datagram_runs.proofs.StepLemmas.{get_append, past_end}
use Rattle.codec_payload_datagram_runs.specs.HistoryReleases.{sends_by}
use Rattle.codec_payload_datagram_runs.specs.WireRuns.{Delivers, DoesStep, Receipt, Runs, SendsIt, Wire}
use Rattle.codec_payload_datagram_runs.specs.declared.run.DatagramStep.{DatagramStep}
use Rattle.codec_payload_datagram_runs.specs.declared.run.DatagramStep.TheVariants as plain
use Rattle.codec_payload_datagram_runs.specs.declared.run.SentSample.{SentSample}
use Rattle.codec_payload_forward_runs.proofs.SenderLemmas.{IsView, View, seen_wire, sends_step}
use Rattle.codec_payload_forward_runs.proofs.SourceLemmas.{IsDatagramOf, IsSource, of_at, source_after}
use Rattle.codec_payload_forward_runs.proofs.ViewerLemmas.{DoesOne, GoesOn, HasNone, IsOf, does_one, goes_further, goes_nowhere, same_viewer}
use Rattle.codec_payload_forward_runs.specs.ForwardReleases.{AreForwarded, forwarded_by, forwarded_in, keeps_packetizer, keeps_payloads, viewer_bytes, viewer_datagram, viewer_packet, viewer_samples, viewer_steps}
use Rattle.codec_payload_forward_runs.specs.ForwardRuns.{DoesForwardStep, DoesPlain, ForwardRuns, Hops, packet_in, packet_read, written_by}
use Rattle.codec_payload_forward_runs.specs.StoreReleases.{store_steps}
use Rattle.codec_payload_forward_runs.specs.declared.run.ForwardStep.{ForwardStep}
use Rattle.codec_payload_forward_runs.specs.declared.run.ForwardStep.TheVariants as steps
use Rattle.codec_payload_forward_runs.specs.declared.store_run.StoreStep.{StoreStep}
use Rattle.codec_payload_forward_runs.specs.declared.store_run.StoreStep.TheVariants as store

-- What was written

pub forwarded_append : (f : Forward) (datagrams bs : List (List ℕ)) (ks : List ℕ) (cs : List (List ℕ)) (js : List ℕ) → AreForwarded f datagrams bs ks → AreForwarded f datagrams cs js
    → AreForwarded f datagrams (bs ++ cs) (ks ++ js)
forwarded_append f datagrams [] [] cs js here more = more
forwarded_append f datagrams [] (k ∷ ks) cs js here more = absurd here
forwarded_append f datagrams (b ∷ bs) [] cs js here more = absurd here
forwarded_append f datagrams (b ∷ bs) (k ∷ ks) cs js here more = (here.0, forwarded_append f datagrams bs ks cs js here.1 more)

forwarded_more : (f : Forward) (datagrams new bs : List (List ℕ)) (ks : List ℕ) → AreForwarded f datagrams bs ks → AreForwarded f (datagrams ++ new) bs ks
forwarded_more f datagrams new [] [] here = tt
forwarded_more f datagrams new [] (k ∷ ks) here = absurd here
forwarded_more f datagrams new (b ∷ bs) [] here = absurd here
forwarded_more f datagrams new (b ∷ bs) (k ∷ ks) here =
    ((here.0.0, here.0.1, get_append datagrams new k here.0.0 here.0.2, here.0.3, here.0.4, here.0.5), forwarded_more f datagrams new bs ks here.1)

forwarded_at : (f : Forward) (datagrams bs : List (List ℕ)) (ks : List ℕ) (j : ℕ) (b : List ℕ) → AreForwarded f datagrams bs ks → slice_get bs j ≡ Some b
    → (k : ℕ) × (slice_get ks j ≡ Some k) × (slice_get (map (viewer_datagram f) datagrams) k ≡ Some b)
forwarded_at f datagrams [] ks j b are there = absurd (cc)
forwarded_at f datagrams (c ∷ bs) [] j b are there = absurd are
forwarded_at f datagrams (c ∷ bs) (k ∷ ks) zero b are there =
    let is = are.0 in
    let same : c ≡ b = same_Some c b there in
    let bytes : viewer_datagram f is.0 ≡ b = ap (λ (r : Result Packet RtpError). viewer_bytes f (packet_read r)) is.3 ∙ (sym is.4 ∙ same) in
    (k, refl, slice_get-map (viewer_datagram f) datagrams k ∙ (ap (option_map (viewer_datagram f)) is.2 ∙ ap Some bytes))
forwarded_at f datagrams (c ∷ bs) (k ∷ ks) (suc j) b are there = forwarded_at f datagrams bs ks j b are.1 there

none_at : (f : Forward) (datagrams bs : List (List ℕ)) (ks : List ℕ) (j : ℕ) → AreForwarded f datagrams bs ks → slice_get bs j ≡ None → slice_get ks j ≡ None
none_at f datagrams [] [] j are none = refl
none_at f datagrams [] (k ∷ ks) j are none = absurd are
none_at f datagrams (b ∷ bs) [] j are none = absurd are
none_at f datagrams (b ∷ bs) (k ∷ ks) zero are none = absurd (cc)
none_at f datagrams (b ∷ bs) (k ∷ ks) (suc j) are none = none_at f datagrams bs ks j are.1 none

-- the datagrams after a step have those before it in front
abbrev pub IsMore : List (List ℕ) → List (List ℕ) → Type 0
IsMore before after = (new : List (List ℕ)) × (after ≡ before ++ new)

forwarded_later : (f : Forward) (before after bs : List (List ℕ)) (ks : List ℕ) → IsMore before after → AreForwarded f before bs ks → AreForwarded f after bs ks
forwarded_later f before after bs ks more are =
    subst (λ (ds : List (List ℕ)). AreForwarded f ds bs ks) (sym more.1) (forwarded_more f before more.0 bs ks are)

-- Whole runs

-- what is sent, without what the receiver does
abbrev only_sender : Session → Wire → Wire
only_sender receiver s = record s { session = receiver; receipts = []; pops = [] }

abbrev pub alone_from : Session → View → Forward → Wire → Wire
alone_from receiver view f s = only_sender receiver (seen_wire view f s)

-- a state of a run whose forwarder gets one source
pub record IsAt (ssrc rate : ℕ) (codec : Codec) (kind steady : Bool) (s : Hops) : Type 0 where
  pub source : IsSource ssrc rate codec kind steady s.wire.sending s.wire.datagrams
  pub codec_is : s.forwarder.settings.codec ≡ codec
  pub none : HasNone steady ssrc s.forwarder

module _ (ssrc rate : ℕ) (codec : Codec) (kind steady : Bool) (samples : List Sample) where
  -- a step of the forwarder
  pub record Answers (k now : ℕ) (s mid : Hops) : Type 0 where
    pub packet : Packet
    pub datagram : List ℕ
    pub there : slice_get s.wire.datagrams k ≡ Some datagram
    pub reads : rtp_at datagram ≡ Ok packet
    pub answer : Forwarded
    pub bytes : List ℕ
    pub forwarder : Forward
    pub one : DoesOne ssrc packet s.forwarder answer bytes forwarder
    pub is : mid ≡ record s { forwarder = forwarder; written = s.written ++ written_by answer bytes; answers = s.answers ++ answer ∷ [] }

  -- or there is no such datagram
  abbrev Skips : ℕ → Hops → Hops → Type 0
  Skips k s mid = (slice_get s.wire.datagrams k ≡ None) × (mid ≡ s)

  pub data Turns (k now : ℕ) (s mid : Hops) : Type 0 where
    skips : Skips k s mid → Turns k now s mid
    answers_one : Answers k now s mid → Turns k now s mid

  turns : (k now : ℕ) (s mid : Hops) → IsAt ssrc rate codec kind steady s → DoesForwardStep samples (steps.Forward k now) s mid → Turns k now s mid
  turns k now s mid at does = by (slice_get s.wire.datagrams k) refl
    where
      by : (o : Option (List ℕ)) → slice_get s.wire.datagrams k ≡ o → Turns k now s mid
      by None e = skips (e, rw e at does)
      by (Some d) e =
          let of : IsDatagramOf steady ssrc codec d = of_at steady ssrc codec s.wire.datagrams k d at.source.all e in
          let is : packet_in (slice_get s.wire.datagrams k) ≡ Some of.0 = ap packet_in e ∙ ap packet_read of.1 in
          let done = rw is at does in
          let of_codec : IsOf steady ssrc s.forwarder.settings.codec of.0 = subst (λ (c : Codec). IsOf steady ssrc c of.0) (sym at.codec_is) of.2 in
          answers_one (record {
            packet = of.0;
            datagram = d;
            there = e;
            reads = of.1;
            answer = done.0;
            bytes = done.1;
            forwarder = done.2;
            one = does_one steady ssrc now of.0 s.forwarder done.0 done.1 done.2 of_codec at.none done.3;
            is = done.4;
          })

  -- The state after a step

  pub record Stays (s mid : Hops) : Type 0 where
    pub at : IsAt ssrc rate codec kind steady mid
    pub on : GoesOn ssrc s.forwarder mid.forwarder
    pub more : IsMore s.wire.datagrams mid.wire.datagrams

  -- a step of sender or receiver leaves the forwarder
  plain_stays : (s mid : Hops) (wire : Wire) → mid ≡ record s { wire = wire } → IsAt ssrc rate codec kind steady s → IsSource ssrc rate codec kind steady wire.sending wire.datagrams → IsMore s.wire.datagrams wire.datagrams
      → Stays s mid
  plain_stays s mid wire is at source more =
      let next : IsAt ssrc rate codec kind steady (record s { wire = wire }) = record { source = source; codec_is = at.codec_is; none = at.none } in
      record {
        at = subst (IsAt ssrc rate codec kind steady) (sym is) next;
        on = goes_nowhere ssrc s.forwarder mid.forwarder (ap (λ (x : Hops). x.forwarder) is);
        more = subst (λ (x : Hops). IsMore s.wire.datagrams x.wire.datagrams) (sym is) more;
      }

  none_more : (datagrams : List (List ℕ)) → IsMore datagrams datagrams
  none_more datagrams = ([], sym (append-nil datagrams))

  -- the receiver's steps send nothing
  quiet_stays : (s mid : Hops) (wire : Wire) → mid ≡ record s { wire = wire } → IsAt ssrc rate codec kind steady s → wire.sending ≡ s.wire.sending → wire.datagrams ≡ s.wire.datagrams → Stays s mid
  quiet_stays s mid wire is at sending datagrams =
      plain_stays s mid wire is at
      (subst (λ (x : _). IsSource ssrc rate codec kind steady x wire.datagrams) (sym sending) (subst (IsSource ssrc rate codec kind steady s.wire.sending) (sym datagrams) at.source))
      (subst (IsMore s.wire.datagrams) (sym datagrams) (none_more s.wire.datagrams))

  same_stays : (s mid : Hops) → mid ≡ s → IsAt ssrc rate codec kind steady s → Stays s mid
  same_stays s mid is at = record {
    at = subst (IsAt ssrc rate codec kind steady) (sym is) at;
    on = goes_nowhere ssrc s.forwarder mid.forwarder (ap (λ (x : Hops). x.forwarder) is);
    more = subst (λ (x : Hops). IsMore s.wire.datagrams x.wire.datagrams) (sym is) (none_more s.wire.datagrams);
  }

  turn_stays : (k now : ℕ) (s mid : Hops) → IsAt ssrc rate codec kind steady s → Turns k now s mid → Stays s mid
  turn_stays k now s mid at (skips none) = same_stays s mid none.1 at
  turn_stays k now s mid at (answers_one a) =
      let next : IsAt ssrc rate codec kind steady (record s { forwarder = a.forwarder; written = s.written ++ written_by a.answer a.bytes; answers = s.answers ++ a.answer ∷ [] }) = record {
        source = at.source;
        codec_is = ap (λ (x : _). x.codec) a.one.on.settings ∙ at.codec_is;
        none = a.one.on.none steady at.none;
      } in
      record {
        at = subst (IsAt ssrc rate codec kind steady) (sym a.is) next;
        on = subst (λ (x : Hops). GoesOn ssrc s.forwarder x.forwarder) (sym a.is) a.one.on;
        more = subst (λ (x : Hops). IsMore s.wire.datagrams x.wire.datagrams) (sym a.is) (none_more s.wire.datagrams);
      }

  deliver_stays : (o : Option (List ℕ)) (now : Ticks) (s mid : Hops) → IsAt ssrc rate codec kind steady s
      → MatchOption o (mid ≡ s) (λ bytes. (receipt : Receipt) × (session : Session) × Delivers now bytes s.wire.session receipt session
      × (mid ≡ record s { wire = record s.wire { session = session; receipts = s.wire.receipts ++ receipt ∷ [] } }))
      → Stays s mid
  deliver_stays None now s mid at same = same_stays s mid same at
  deliver_stays (Some bytes) now s mid at done = quiet_stays s mid _ done.3 at refl refl

  send_stays : (i : ℕ) (s mid : Hops) → IsAt ssrc rate codec kind steady s → DoesPlain samples (plain.Send i) s mid → Stays s mid
  send_stays i s mid at does =
      let g : Grows s.wire does.0 = grows samples (plain.Send i) s.wire does.0 does.1 in
      plain_stays s mid does.0 does.2 at (source_after ssrc rate codec kind steady samples i s.wire does.0 at.source does.1) (g.new, g.whole)

  pub stays : (step : ForwardStep) (s mid : Hops) → IsAt ssrc rate codec kind steady s → DoesForwardStep samples step s mid → Stays s mid
  stays (steps.Send i) s mid at does = send_stays i s mid at does
  stays (steps.Forward k now) s mid at does = turn_stays k now s mid at (turns k now s mid at does)
  stays (steps.Deliver j now) s mid at does = deliver_stays (slice_get s.written j) now s mid at does
  stays (steps.Pop now) s mid at does = quiet_stays s mid does.0 does.2 at (ap (λ (x : Wire). x.sending) does.1.4) (ap (λ (x : Wire). x.datagrams) does.1.4)
  stays steps.Finish s mid at does = quiet_stays s mid does.0 does.2 at (ap (λ (x : Wire). x.sending) does.1.2) (ap (λ (x : Wire). x.datagrams) does.1.2)

  -- the forwarder at the end of a run
  pub ends_on : (all_steps : List ForwardStep) (s t : Hops) → IsAt ssrc rate codec kind steady s → ForwardRuns samples all_steps s t → GoesOn ssrc s.forwarder t.forwarder
  ends_on [] s t at run = goes_nowhere ssrc s.forwarder t.forwarder (ap (λ (x : Hops). x.forwarder) run)
  ends_on (step ∷ later) s t at run =
      let one = stays step s run.0 at run.1 in
      goes_further ssrc s.forwarder run.0.forwarder t.forwarder one.on (ends_on later run.0 t one.at run.2)

  pub is_at_end : (all_steps : List ForwardStep) (s t : Hops) → IsAt ssrc rate codec kind steady s → ForwardRuns samples all_steps s t → IsAt ssrc rate codec kind steady t
  is_at_end [] s t at run = subst (IsAt ssrc rate codec kind steady) (sym run) at
  is_at_end (step ∷ later) s t at run = is_at_end later run.0 t (stays step s run.0 at run.1).at run.2

  -- The run over one hop

  -- what is known of the sender's packetizers
  abbrev pub Good : PacketizerState → Type 0
  Good packetizer = (steady ≡ true → keeps_payloads codec packetizer ≡ true) × (kind ≡ true → keeps_packetizer codec packetizer ≡ true)

  -- the numbers of the viewer's stream have their widths, and the packetizers are seen so
  abbrev pub Fit : Forward → View → Type 0
  Fit e view = (0 < rate) × (e.settings.payload_type < 128) × (e.settings.ssrc < 2 ^ 32) × IsView e Good view

  -- One step, as the viewer's receiver sees it under the offsets of a later forwarder. `after` and `rest` are the results of later steps
  pub record One (e : Forward) (step : ForwardStep) (s mid : Hops) (forwarded : List ℕ) : Type 0 where
    pub sends : List SentSample → List SentSample
    pub sends_are : (after : List SentSample) → mid.wire.sends ++ after ≡ s.wire.sends ++ sends after
    pub results : List Forwarded → List Forwarded
    pub results_are : (rest : List Forwarded) → mid.answers ++ rest ≡ s.answers ++ results rest
    pub next : List ℕ
    pub written : AreForwarded e mid.wire.datagrams mid.written next
    pub seen : List DatagramStep
    pub course : (view : View) → Fit e view → Runs (viewer_samples e rate samples) seen (seen_wire view e s.wire) (seen_wire view e mid.wire)
    pub alone : (x : Forward) (view : View) (receiver : Session) → Fit x view → Runs (viewer_samples x rate samples) (only_sends seen) (alone_from receiver view x s.wire) (alone_from receiver view x mid.wire)
    pub steps_are : (after : List SentSample) (rest : List Forwarded) (later : List ForwardStep)
        → viewer_steps samples (length s.wire.datagrams) forwarded (step ∷ later) (sends after) (results rest)
        ≡ seen ++ viewer_steps samples (length mid.wire.datagrams) next later after rest
    pub next_are : (after : List SentSample) (rest : List Forwarded) (later : List ForwardStep)
        → forwarded_in samples (length s.wire.datagrams) forwarded (step ∷ later) (sends after) (results rest)
        ≡ forwarded_in samples (length mid.wire.datagrams) next later after rest
    pub with_store : (after : List SentSample) (rest : List Forwarded) (later : List StoreStep) (repeated : List ℕ) (found : List Bool) (left : List ℕ)
        → store_steps samples (length s.wire.datagrams) forwarded repeated (store.Plain step ∷ later) (sends after) (results rest) found left
        ≡ seen ++ store_steps samples (length mid.wire.datagrams) next repeated later after rest found left

  -- a step is made
  one_run : (e : Forward) (step : DatagramStep) (s t : Wire) → DoesStep (viewer_samples e rate samples) step s t → Runs (viewer_samples e rate samples) (step ∷ []) s t
  one_run e step s t does = (t, does, refl)

  -- a step that sends does not depend on the receiver
  sends_alone : (o : Option Sample) (receiver : Session) (s t : Wire)
      → MatchOption o (t ≡ s) (λ sample. (entry : SentSample) × SendsIt sample s.sending s.datagrams entry t.sending t.datagrams
      × (t ≡ record s { sending = t.sending; datagrams = t.datagrams; sends = s.sends ++ entry ∷ [] }))
      → MatchOption o (only_sender receiver t ≡ only_sender receiver s) (λ sample. (entry : SentSample) × SendsIt sample s.sending s.datagrams entry t.sending t.datagrams
      × (only_sender receiver t ≡ record (only_sender receiver s) { sending = t.sending; datagrams = t.datagrams; sends = s.sends ++ entry ∷ [] }))
  sends_alone None receiver s t is = ap (only_sender receiver) is
  sends_alone (Some sample) receiver s t done = (done.0, done.1, ap (only_sender receiver) done.2)

  sends_it : (x : Forward) (view : View) (i : ℕ) (s mid : Wire) → Fit x view → IsSource ssrc rate codec kind steady s.sending s.datagrams → DoesStep samples (plain.Send i) s mid
      → DoesStep (viewer_samples x rate samples) (plain.Send i) (seen_wire view x s) (seen_wire view x mid)
  sends_it x view i s mid fit source stepped = sends_step x fit.1 fit.2 Good view fit.3 rate samples i s mid source.clock fit.0 (source.keeps, source.of_codec) stepped

  send_one : (e : Forward) (i : ℕ) (s mid : Hops) (forwarded : List ℕ) → IsAt ssrc rate codec kind steady s → DoesPlain samples (plain.Send i) s mid
      → AreForwarded e mid.wire.datagrams mid.written forwarded → One e (steps.Send i) s mid forwarded
  send_one e i s mid forwarded at does written =
      let wire : mid.wire ≡ does.0 = ap (λ (x : Hops). x.wire) does.2 in
      let stepped : DoesStep samples (plain.Send i) s.wire mid.wire = subst (DoesStep samples (plain.Send i) s.wire) (sym wire) does.1 in
      record {
        sends = λ after. (follows samples (plain.Send i) s.wire mid.wire after stepped).later;
        sends_are = λ after. (follows samples (plain.Send i) s.wire mid.wire after stepped).sends;
        results = λ rest. rest;
        results_are = λ rest. ap (λ (x : Hops). x.answers ++ rest) does.2;
        next = forwarded;
        written = written;
        seen = plain.Send i ∷ [];
        course = λ view fit. one_run e (plain.Send i) (seen_wire view e s.wire) (seen_wire view e mid.wire) (sends_it e view i s.wire mid.wire fit at.source stepped);
        alone = λ x view receiver fit.
            one_run x (plain.Send i) (alone_from receiver view x s.wire) (alone_from receiver view x mid.wire)
            (sends_alone (slice_get (viewer_samples x rate samples) i) receiver (seen_wire view x s.wire) (seen_wire view x mid.wire) (sends_it x view i s.wire mid.wire fit at.source stepped));
        steps_are = λ after rest later.
            let f = follows samples (plain.Send i) s.wire mid.wire after stepped in
            ap (λ (n : ℕ). plain.Send i ∷ viewer_steps samples n forwarded later (sends_by samples (plain.Send i) f.later) rest) f.sent
            ∙ ap (λ (es : List SentSample). plain.Send i ∷ viewer_steps samples (length mid.wire.datagrams) forwarded later es rest) f.left;
        next_are = λ after rest later.
            let f = follows samples (plain.Send i) s.wire mid.wire after stepped in
            ap (λ (n : ℕ). forwarded_in samples n forwarded later (sends_by samples (plain.Send i) f.later) rest) f.sent
            ∙ ap (λ (es : List SentSample). forwarded_in samples (length mid.wire.datagrams) forwarded later es rest) f.left;
        with_store = λ after rest later repeated found left.
            let f = follows samples (plain.Send i) s.wire mid.wire after stepped in
            ap (λ (n : ℕ). plain.Send i ∷ store_steps samples n forwarded repeated later (sends_by samples (plain.Send i) f.later) rest found left) f.sent
            ∙ ap (λ (es : List SentSample). plain.Send i ∷ store_steps samples (length mid.wire.datagrams) forwarded repeated later es rest found left) f.left;
      }

  -- the packet that a step wrote
  one_written : (e : Forward) (s : Hops) (k now : ℕ) (mid : Hops) → (a : Answers k now s mid) → GoesOn ssrc a.forwarder e
      → AreForwarded e s.wire.datagrams (written_by a.answer a.bytes) (forwarded_by a.answer k)
  one_written e s k now mid a goes = by a.answer refl
    where
      wrote : (b : List ℕ) → written_by a.answer a.bytes ≡ b ∷ []
          → (datagram : List ℕ) × (p : Packet) × (slice_get s.wire.datagrams k ≡ Some datagram) × (rtp_at datagram ≡ Ok p) × (b ≡ packet_bytes (viewer_packet e p)) × (rtp_at b ≡ Ok (viewer_packet e p))
      wrote b is =
          let w = a.one.writes b is in
          let same : viewer_packet e a.packet ≡ viewer_packet a.forwarder a.packet = same_viewer a.forwarder e a.packet goes.settings (goes.numbers w.0) (goes.times w.0) (goes.ids w.0) in
          (a.datagram, a.packet, a.there, a.reads, w.1 ∙ ap packet_bytes (sym same), w.2 ∙ ap (λ (p : Packet). Ok p) (sym same))

      by : (answer : Forwarded) → a.answer ≡ answer → AreForwarded e s.wire.datagrams (written_by a.answer a.bytes) (forwarded_by a.answer k)
      by answers.Began is = rw is (wrote a.bytes (rw is refl), tt)
      by answers.Written is = rw is (wrote a.bytes (rw is refl), tt)
      by answers.NoKeyframe is = rw is tt
      by answers.OtherSource is = rw is tt
      by answers.TooOld is = rw is tt
      by answers.LeftOut is = rw is tt
      by answers.Filled is = rw is tt

  turn_one : (e : Forward) (k now : ℕ) (s mid : Hops) (forwarded : List ℕ) → Turns k now s mid → GoesOn ssrc mid.forwarder e
      → AreForwarded e s.wire.datagrams s.written forwarded → One e (steps.Forward k now) s mid forwarded
  turn_one e k now s mid forwarded (skips none) goes written =
      let past : ltb k (length s.wire.datagrams) ≡ false = le-ltb k (length s.wire.datagrams) (past_end s.wire.datagrams k none.0) in
      subst (λ (x : Hops). One e (steps.Forward k now) s x forwarded) (sym none.1)
      (record {
        sends = λ after. after;
        sends_are = λ after. refl;
        results = λ rest. rest;
        results_are = λ rest. refl;
        next = forwarded;
        written = written;
        seen = [];
        course = λ view fit. refl;
        alone = λ x view receiver fit. refl;
        steps_are = λ after rest later. rw past refl;
        next_are = λ after rest later. rw past refl;
        with_store = λ after rest later repeated found left. rw past refl;
      })
  turn_one e k now s mid forwarded (answers_one a) goes written =
      let within : ltb k (length s.wire.datagrams) ≡ true = lt-ltb k (length s.wire.datagrams) (slice_get_within s.wire.datagrams k a.datagram a.there) in
      let after_it : Hops = record s { forwarder = a.forwarder; written = s.written ++ written_by a.answer a.bytes; answers = s.answers ++ a.answer ∷ [] } in
      let one = one_written e s k now mid a (subst (λ (x : Hops). GoesOn ssrc x.forwarder e) a.is goes) in
      subst (λ (x : Hops). One e (steps.Forward k now) s x forwarded) (sym a.is)
      (record {
        sends = λ after. after;
        sends_are = λ after. refl;
        results = λ rest. a.answer ∷ rest;
        results_are = λ rest. append_assoc s.answers (a.answer ∷ []) rest;
        next = forwarded ++ forwarded_by a.answer k;
        written = forwarded_append e s.wire.datagrams s.written forwarded (written_by a.answer a.bytes) (forwarded_by a.answer k) written one;
        seen = [];
        course = λ view fit. refl;
        alone = λ x view receiver fit. refl;
        steps_are = λ after rest later. rw within refl;
        next_are = λ after rest later. rw within refl;
        with_store = λ after rest later repeated found left. rw within refl;
      })

  deliver_one : (e : Forward) (o : Option (List ℕ)) (j : ℕ) (now : Ticks) (s mid : Hops) (forwarded : List ℕ) → slice_get s.written j ≡ o
      → MatchOption o (mid ≡ s) (λ bytes. (receipt : Receipt) × (session : Session) × Delivers now bytes s.wire.session receipt session
      × (mid ≡ record s { wire = record s.wire { session = session; receipts = s.wire.receipts ++ receipt ∷ [] } }))
      → AreForwarded e s.wire.datagrams s.written forwarded → One e (steps.Deliver j now) s mid forwarded
  deliver_one e None j now s mid forwarded is same written =
      let none : slice_get forwarded j ≡ None = none_at e s.wire.datagrams s.written forwarded j written is in
      subst (λ (x : Hops). One e (steps.Deliver j now) s x forwarded) (sym same)
      (record {
        sends = λ after. after;
        sends_are = λ after. refl;
        results = λ rest. rest;
        results_are = λ rest. refl;
        next = forwarded;
        written = written;
        seen = [];
        course = λ view fit. refl;
        alone = λ x view receiver fit. refl;
        steps_are = λ after rest later. rw none refl;
        next_are = λ after rest later. refl;
        with_store = λ after rest later repeated found left. rw none refl;
      })
  deliver_one e (Some bytes) j now s mid forwarded is done written =
      let next : Hops = record s { wire = record s.wire { session = done.1; receipts = s.wire.receipts ++ done.0 ∷ [] } } in
      let copy = forwarded_at e s.wire.datagrams s.written forwarded j bytes written is in
      subst (λ (x : Hops). One e (steps.Deliver j now) s x forwarded) (sym done.3)
      (record {
        sends = λ after. after;
        sends_are = λ after. refl;
        results = λ rest. rest;
        results_are = λ rest. refl;
        next = forwarded;
        written = written;
        seen = plain.Deliver copy.0 now ∷ [];
        course = λ view fit. one_run e (plain.Deliver copy.0 now) (seen_wire view e s.wire) (seen_wire view e next.wire) (rw copy.2 (done.0, done.1, done.2, refl));
        alone = λ x view receiver fit. refl;
        steps_are = λ after rest later. rw copy.1 refl;
        next_are = λ after rest later. refl;
        with_store = λ after rest later repeated found left. rw copy.1 refl;
      })

  -- a step of the receiver
  pop_one : (e : Forward) (now : Ticks) (s mid : Hops) (forwarded : List ℕ) → DoesPlain samples (plain.Pop now) s mid
      → AreForwarded e s.wire.datagrams s.written forwarded → One e (steps.Pop now) s mid forwarded
  pop_one e now s mid forwarded does written =
      let wire : Wire = record s.wire { session = does.1.1; pops = s.wire.pops ++ does.1.0 ∷ [] } in
      let is : mid ≡ record s { wire = wire } = does.2 ∙ ap (λ (w : Wire). record s { wire = w }) does.1.4 in
      subst (λ (x : Hops). One e (steps.Pop now) s x forwarded) (sym is)
      (record {
        sends = λ after. after;
        sends_are = λ after. refl;
        results = λ rest. rest;
        results_are = λ rest. refl;
        next = forwarded;
        written = written;
        seen = plain.Pop now ∷ [];
        course = λ view fit. one_run e (plain.Pop now) (seen_wire view e s.wire) (seen_wire view e wire) (does.1.0, does.1.1, does.1.2, does.1.3, refl);
        alone = λ x view receiver fit. refl;
        steps_are = λ after rest later. refl;
        next_are = λ after rest later. refl;
        with_store = λ after rest later repeated found left. refl;
      })

  finish_one : (e : Forward) (s mid : Hops) (forwarded : List ℕ) → DoesPlain samples plain.Finish s mid
      → AreForwarded e s.wire.datagrams s.written forwarded → One e steps.Finish s mid forwarded
  finish_one e s mid forwarded does written =
      let wire : Wire = record s.wire { session = does.1.0 } in
      let is : mid ≡ record s { wire = wire } = does.2 ∙ ap (λ (w : Wire). record s { wire = w }) does.1.2 in
      subst (λ (x : Hops). One e steps.Finish s x forwarded) (sym is)
      (record {
        sends = λ after. after;
        sends_are = λ after. refl;
        results = λ rest. rest;
        results_are = λ rest. refl;
        next = forwarded;
        written = written;
        seen = plain.Finish ∷ [];
        course = λ view fit. one_run e plain.Finish (seen_wire view e s.wire) (seen_wire view e wire) (does.1.0, does.1.1, refl);
        alone = λ x view receiver fit. refl;
        steps_are = λ after rest later. refl;
        next_are = λ after rest later. refl;
        with_store = λ after rest later repeated found left. refl;
      })

  -- what was written before a step is there after a step of the sender
  written_after : (s mid : Hops) (f : Forward) (forwarded : List ℕ) → mid.written ≡ s.written → IsMore s.wire.datagrams mid.wire.datagrams → AreForwarded f s.wire.datagrams s.written forwarded
      → AreForwarded f mid.wire.datagrams mid.written forwarded
  written_after s mid f forwarded same more written =
      subst (λ (bs : List (List ℕ)). AreForwarded f mid.wire.datagrams bs forwarded) (sym same) (forwarded_later f s.wire.datagrams mid.wire.datagrams s.written forwarded more written)

  -- any step
  pub one_step : (e : Forward) (step : ForwardStep) (s mid : Hops) (forwarded : List ℕ) → IsAt ssrc rate codec kind steady s
      → DoesForwardStep samples step s mid → GoesOn ssrc mid.forwarder e → AreForwarded e s.wire.datagrams s.written forwarded → One e step s mid forwarded
  one_step e (steps.Send i) s mid forwarded at does goes written =
      let one = stays (steps.Send i) s mid at does in
      send_one e i s mid forwarded at does (written_after s mid e forwarded (ap (λ (x : Hops). x.written) does.2) one.more written)
  one_step e (steps.Forward k now) s mid forwarded at does goes written = turn_one e k now s mid forwarded (turns k now s mid at does) goes written
  one_step e (steps.Deliver j now) s mid forwarded at does goes written = deliver_one e (slice_get s.written j) j now s mid forwarded refl does written
  one_step e (steps.Pop now) s mid forwarded at does goes written = pop_one e now s mid forwarded does written
  one_step e steps.Finish s mid forwarded at does goes written = finish_one e s mid forwarded does written

  -- All steps

  pub runs_append : (all_samples : List Sample) (first later : List DatagramStep) (s mid t : Wire) → Runs all_samples first s mid → Runs all_samples later mid t → Runs all_samples (first ++ later) s t
  runs_append all_samples [] later s mid t one rest = subst (λ (x : Wire). Runs all_samples later x t) one rest
  runs_append all_samples (step ∷ first) later s mid t one rest = (one.0, one.1, runs_append all_samples first later one.0 mid t one.2 rest)

  -- the steps that send
  sends_append : (first later : List DatagramStep) → only_sends (first ++ later) ≡ only_sends first ++ only_sends later
  sends_append [] later = refl
  sends_append (plain.Send i ∷ first) later = ap (λ (ds : List DatagramStep). plain.Send i ∷ ds) (sends_append first later)
  sends_append (plain.Deliver k now ∷ first) later = sends_append first later
  sends_append (plain.Pop now ∷ first) later = sends_append first later
  sends_append (plain.Finish ∷ first) later = sends_append first later

  pub alone_append : (all_samples : List Sample) (first later : List DatagramStep) (s mid t : Wire) → Runs all_samples (only_sends first) s mid → Runs all_samples (only_sends later) mid t
      → Runs all_samples (only_sends (first ++ later)) s t
  alone_append all_samples first later s mid t one rest =
      subst (λ (ds : List DatagramStep). Runs all_samples ds s t) (sym (sends_append first later)) (runs_append all_samples (only_sends first) (only_sends later) s mid t one rest)

  pub record Comes (all_steps : List ForwardStep) (s t : Hops) (forwarded : List ℕ) : Type 0 where
    pub later : List SentSample
    pub sends : t.wire.sends ≡ s.wire.sends ++ later
    pub more : List Forwarded
    pub results : t.answers ≡ s.answers ++ more
    pub course : (view : View) → Fit t.forwarder view
        → Runs (viewer_samples t.forwarder rate samples) (viewer_steps samples (length s.wire.datagrams) forwarded all_steps later more) (seen_wire view t.forwarder s.wire) (seen_wire view t.forwarder t.wire)
    pub alone : (x : Forward) (view : View) (receiver : Session) → Fit x view
        → Runs (viewer_samples x rate samples) (only_sends (viewer_steps samples (length s.wire.datagrams) forwarded all_steps later more)) (alone_from receiver view x s.wire) (alone_from receiver view x t.wire)
    pub written : AreForwarded t.forwarder t.wire.datagrams t.written (forwarded_in samples (length s.wire.datagrams) forwarded all_steps later more)

  pub comes : (all_steps : List ForwardStep) (s t : Hops) (forwarded : List ℕ) → IsAt ssrc rate codec kind steady s → AreForwarded t.forwarder s.wire.datagrams s.written forwarded → ForwardRuns samples all_steps s t
      → Comes all_steps s t forwarded
  comes [] s t forwarded at written run = record {
    later = [];
    sends = ap (λ (x : Hops). x.wire.sends) run ∙ sym (append-nil s.wire.sends);
    more = [];
    results = ap (λ (x : Hops). x.answers) run ∙ sym (append-nil s.answers);
    course = λ view fit. ap (λ (x : Hops). seen_wire view t.forwarder x.wire) run;
    alone = λ x view receiver fit. ap (λ (h : Hops). alone_from receiver view x h.wire) run;
    written = subst (λ (x : Hops). AreForwarded t.forwarder x.wire.datagrams x.written forwarded) (sym run) written;
  }
  comes (step ∷ later) s t forwarded at written run =
      let next = stays step s run.0 at run.1 in
      let o : One t.forwarder step s run.0 forwarded = one_step t.forwarder step s run.0 forwarded at run.1 (ends_on later run.0 t next.at run.2) written in
      let c : Comes later run.0 t o.next = comes later run.0 t o.next next.at o.written run.2 in
      record {
        later = o.sends c.later;
        sends = c.sends ∙ o.sends_are c.later;
        more = o.results c.more;
        results = c.results ∙ o.results_are c.more;
        course = λ view fit.
            subst (λ (ds : List DatagramStep). Runs (viewer_samples t.forwarder rate samples) ds (seen_wire view t.forwarder s.wire) (seen_wire view t.forwarder t.wire)) (sym (o.steps_are c.later c.more later))
            (runs_append (viewer_samples t.forwarder rate samples) o.seen _ (seen_wire view t.forwarder s.wire) (seen_wire view t.forwarder run.0.wire) (seen_wire view t.forwarder t.wire) (o.course view fit) (c.course view fit));
        alone = λ x view receiver fit.
            subst (λ (ds : List DatagramStep). Runs (viewer_samples x rate samples) (only_sends ds) (alone_from receiver view x s.wire) (alone_from receiver view x t.wire)) (sym (o.steps_are c.later c.more later))
            (alone_append (viewer_samples x rate samples) o.seen _ (alone_from receiver view x s.wire) (alone_from receiver view x run.0.wire) (alone_from receiver view x t.wire) (o.alone x view receiver fit) (c.alone x view receiver fit));
        written = subst (AreForwarded t.forwarder t.wire.datagrams t.written) (sym (o.next_are c.later c.more later)) c.written;
      }
