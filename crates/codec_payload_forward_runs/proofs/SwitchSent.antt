-- What the sources of a run with a switch send, one sample after another.
use Rattle.std.proofs.Common.{◌≡◌, ◌∙◌, refl, sym, ap, subst, ℕ, ◌+◌, ◌%◌, ◌^◌, ◌<◌, ◌≤◌, List, [], ◌∷◌, ◌++◌, inl, inr, append-nil, append_assoc, length-append, Bool, true, false, ltb, Option, Some, None, MatchOption, length, arith}
use Rattle.std.specs.Prelude.{◌⊎◌, slice_get}
use Rattle.std.proofs.lemmas.Bool.{ltb-false, ltb-true}
use Rattle.codec_payload_base.specs.declared.error.PacketError.{PacketError}
use Rattle.codec_payload_codec.specs.Packetizers.{PacketizerState, is_built_in}
use Rattle.codec_payload_payloader.specs.Sending.{Sample}
use Rattle.codec_payload_receiver.specs.Sessions.{Session}
use Rattle.codec_payload_rtp.specs.RtpPackets.{Packet}
use Rattle.codec_payload_sending.specs.Senders.{Sending}
use Rattle.codec_payload_sending.specs.declared.sender.Outgoing.{Outgoing}
use Rattle.codec_payload_datagram_runs.specs.Releases.{sends_after}
use Rattle.codec_payload_datagram_runs.specs.WireRuns.{Delivers, Receipt, SendsIt, SendsOrRefuses, Wire, sent_sample}
use Rattle.codec_payload_datagram_runs.specs.declared.run.DatagramStep.TheVariants as seen
use Rattle.codec_payload_datagram_runs.specs.declared.run.SentSample.{SentSample}
use Rattle.codec_payload_forward_runs.proofs.LeaveSenders.{own_stays}
use Rattle.codec_payload_forward_runs.proofs.ViewerRuns.{IsMore}
use Rattle.codec_payload_forward_runs.specs.ForwardRuns.{Comes, DoesForwardStep, DoesPlain, Hops, packet_in}
use Rattle.codec_payload_forward_runs.specs.LeaveReleases.{sends_no_ids}
use Rattle.codec_payload_forward_runs.specs.SwitchRuns.{SwitchRuns, Switched, swapped}
use Rattle.codec_payload_forward_runs.specs.SwitchUnits.{NoneAcross, Sent, all_below, none_below, sent_in, with_first}
use Rattle.codec_payload_forward_runs.specs.declared.run.ForwardStep.{ForwardStep}
use Rattle.codec_payload_forward_runs.specs.declared.run.ForwardStep.TheVariants as plain
use Rattle.codec_payload_forward_runs.specs.declared.switch_run.Source.{Source}
use Rattle.codec_payload_forward_runs.specs.declared.switch_run.Source.TheVariants as sources
use Rattle.codec_payload_forward_runs.specs.declared.switch_run.SwitchStep.{SwitchStep}
use Rattle.codec_payload_forward_runs.specs.declared.switch_run.SwitchStep.TheVariants as steps

-- these samples are sent, one after another: the sender and its datagrams before and after
abbrev pub SendsAll : List Sent → Sending → List (List ℕ) → Sending → List (List ℕ) → Type 0
SendsAll [] s before t after = (t ≡ s) × (after ≡ before)
SendsAll (x ∷ xs) s before t after = (mid : Sending) × (more : List (List ℕ)) × SendsIt x.sample s before x.entry mid more × SendsAll xs mid more t after

-- A source in a run

pub record SourceState : Type 0 where
  pub sending : Sending
  pub datagrams : List (List ℕ)
  pub sends : List SentSample

abbrev wire_state : Wire → SourceState
wire_state w = record { sending = w.sending; datagrams = w.datagrams; sends = w.sends }

abbrev pub state_of : Source → Switched → SourceState
state_of sources.First s = wire_state s.hops.wire
state_of sources.Second s = record { sending = s.second; datagrams = s.datagrams; sends = s.sends }

-- a sample is sent, if there is one
abbrev SendsOne : Option Sample → SourceState → SourceState → Type 0
SendsOne o s t = MatchOption o (t ≡ s) (λ sample. (entry : SentSample) × SendsIt sample s.sending s.datagrams entry t.sending t.datagrams × (t.sends ≡ s.sends ++ entry ∷ []))

module _ (samples : List Sample) where
  -- One step

  sent_one : (o : Option Sample) (h k : Hops) (wire : Wire) → k ≡ record h { wire = wire }
      → MatchOption o (wire ≡ h.wire) (λ sample. (entry : SentSample) × SendsIt sample h.wire.sending h.wire.datagrams entry wire.sending wire.datagrams
      × (wire ≡ record h.wire { sending = wire.sending; datagrams = wire.datagrams; sends = h.wire.sends ++ entry ∷ [] }))
      → SendsOne o (wire_state h.wire) (wire_state k.wire)
  sent_one None h k wire is same = ap (λ (x : Hops). wire_state x.wire) is ∙ ap wire_state same
  sent_one (Some sample) h k wire is done = (
    done.0,
    subst (λ (x : Hops). SendsIt sample h.wire.sending h.wire.datagrams done.0 x.wire.sending x.wire.datagrams) (sym is) done.1,
    ap (λ (x : Hops). x.wire.sends) is ∙ ap (λ (w : Wire). w.sends) done.2,
  )

  came_same : (o : Option Packet) (now : ℕ) (h k : Hops) → Comes o now h k → wire_state k.wire ≡ wire_state h.wire
  came_same None now h k same = ap (λ (x : Hops). wire_state x.wire) same
  came_same (Some p) now h k done = ap (λ (x : Hops). wire_state x.wire) done.4

  delivered_same : (o : Option (List ℕ)) (now : _) (h k : Hops)
      → MatchOption o (k ≡ h) (λ bytes. (receipt : Receipt) × (session : Session) × Delivers now bytes h.wire.session receipt session
      × (k ≡ record h { wire = record h.wire { session = session; receipts = h.wire.receipts ++ receipt ∷ [] } }))
      → wire_state k.wire ≡ wire_state h.wire
  delivered_same None now h k same = ap (λ (x : Hops). wire_state x.wire) same
  delivered_same (Some bytes) now h k done = ap (λ (x : Hops). wire_state x.wire) done.3

  pop_same : (now : _) (h k : Hops) → DoesPlain samples (seen.Pop now) h k → wire_state k.wire ≡ wire_state h.wire
  pop_same now h k does = ap (λ (x : Hops). wire_state x.wire) does.2 ∙ ap wire_state does.1.4

  end_same : (h k : Hops) → DoesPlain samples seen.Finish h k → wire_state k.wire ≡ wire_state h.wire
  end_same h k does = ap (λ (x : Hops). wire_state x.wire) does.2 ∙ ap wire_state does.1.2

  -- What a source sends in these steps

  pub record Made (source : Source) (all_steps : List SwitchStep) (s t : SourceState) : Type 0 where
    pub later : List SentSample
    pub sends : t.sends ≡ s.sends ++ later
    pub all : SendsAll (sent_in source samples all_steps later) s.sending s.datagrams t.sending t.datagrams

  same_made : (source : Source) (step : SwitchStep) (later : List SwitchStep) (s mid t : SourceState) → mid ≡ s
      → ((entries : List SentSample) → sent_in source samples (step ∷ later) entries ≡ sent_in source samples later entries) → Made source later mid t → Made source (step ∷ later) s t
  same_made source step later s mid t same none rest =
      let r : Made source later s t = subst (λ (x : SourceState). Made source later x t) same rest in
      record {
        later = r.later;
        sends = r.sends;
        all = subst (λ (xs : List Sent). SendsAll xs s.sending s.datagrams t.sending t.datagrams) (sym (none r.later)) r.all;
      }

  sent_made : (source : Source) (step : SwitchStep) (i : ℕ) (later : List SwitchStep) (s mid t : SourceState) (o : Option Sample) → slice_get samples i ≡ o → SendsOne o s mid
      → ((entries : List SentSample) → sent_in source samples (step ∷ later) entries ≡ with_first (slice_get samples i) entries ++ sent_in source samples later (sends_after (slice_get samples i) entries))
      → Made source later mid t → Made source (step ∷ later) s t
  sent_made source step i later s mid t None none same one rest =
      same_made source step later s mid t same
      (λ entries. one entries ∙ ap (λ (o : Option Sample). with_first o entries ++ sent_in source samples later (sends_after o entries)) none) rest
  sent_made source step i later s mid t (Some sample) there done one rest =
      let entries : List SentSample = done.0 ∷ rest.later in
      record {
        later = entries;
        sends = rest.sends ∙ (ap (λ (es : List SentSample). es ++ rest.later) done.2 ∙ append_assoc s.sends (done.0 ∷ []) rest.later);
        all = subst (λ (xs : List Sent). SendsAll xs s.sending s.datagrams t.sending t.datagrams)
            (sym (one entries ∙ ap (λ (o : Option Sample). with_first o entries ++ sent_in source samples later (sends_after o entries)) there))
            (mid.sending, mid.datagrams, done.1, rest.all);
      }

  first_made : (step : ForwardStep) (later : List SwitchStep) (s : SourceState) (h k : Hops) (t : SourceState) → wire_state h.wire ≡ s → DoesForwardStep samples step h k
      → Made sources.First later (wire_state k.wire) t → Made sources.First (steps.Of sources.First step ∷ later) s t
  first_made (plain.Send i) later s h k t at does rest =
      subst (λ (x : SourceState). Made sources.First (steps.Of sources.First (plain.Send i) ∷ later) x t) at
      (sent_made sources.First (steps.Of sources.First (plain.Send i)) i later (wire_state h.wire) (wire_state k.wire) t (slice_get samples i) refl (sent_one (slice_get samples i) h k does.0 does.2 does.1) (λ entries. refl) rest)
  first_made (plain.Forward n now) later s h k t at does rest =
      same_made sources.First (steps.Of sources.First (plain.Forward n now)) later s (wire_state k.wire) t (came_same (packet_in (slice_get h.wire.datagrams n)) now h k does ∙ at) (λ entries. refl) rest
  first_made (plain.Deliver j now) later s h k t at does rest =
      same_made sources.First (steps.Of sources.First (plain.Deliver j now)) later s (wire_state k.wire) t (delivered_same (slice_get h.written j) now h k does ∙ at) (λ entries. refl) rest
  first_made (plain.Pop now) later s h k t at does rest =
      same_made sources.First (steps.Of sources.First (plain.Pop now)) later s (wire_state k.wire) t (pop_same now h k does ∙ at) (λ entries. refl) rest
  first_made plain.Finish later s h k t at does rest =
      same_made sources.First (steps.Of sources.First plain.Finish) later s (wire_state k.wire) t (end_same h k does ∙ at) (λ entries. refl) rest

  second_made : (step : ForwardStep) (later : List SwitchStep) (s : SourceState) (h k : Hops) (t : SourceState) → wire_state h.wire ≡ s → DoesForwardStep samples step h k
      → Made sources.Second later (wire_state k.wire) t → Made sources.Second (steps.Of sources.Second step ∷ later) s t
  second_made (plain.Send i) later s h k t at does rest =
      subst (λ (x : SourceState). Made sources.Second (steps.Of sources.Second (plain.Send i) ∷ later) x t) at
      (sent_made sources.Second (steps.Of sources.Second (plain.Send i)) i later (wire_state h.wire) (wire_state k.wire) t (slice_get samples i) refl (sent_one (slice_get samples i) h k does.0 does.2 does.1) (λ entries. refl) rest)
  second_made (plain.Forward n now) later s h k t at does rest =
      same_made sources.Second (steps.Of sources.Second (plain.Forward n now)) later s (wire_state k.wire) t (came_same (packet_in (slice_get h.wire.datagrams n)) now h k does ∙ at) (λ entries. refl) rest
  second_made (plain.Deliver j now) later s h k t at does rest =
      same_made sources.Second (steps.Of sources.Second (plain.Deliver j now)) later s (wire_state k.wire) t (delivered_same (slice_get h.written j) now h k does ∙ at) (λ entries. refl) rest
  second_made (plain.Pop now) later s h k t at does rest =
      same_made sources.Second (steps.Of sources.Second (plain.Pop now)) later s (wire_state k.wire) t (pop_same now h k does ∙ at) (λ entries. refl) rest
  second_made plain.Finish later s h k t at does rest =
      same_made sources.Second (steps.Of sources.Second plain.Finish) later s (wire_state k.wire) t (end_same h k does ∙ at) (λ entries. refl) rest

  -- a step with the other source, or of the forwarder alone
  pub made : (source : Source) (all_steps : List SwitchStep) (s t : Switched) → SwitchRuns samples all_steps s t → Made source all_steps (state_of source s) (state_of source t)
  made source [] s t run = record {
    later = [];
    sends = ap (λ (x : Switched). (state_of source x).sends) run ∙ sym (append-nil (state_of source s).sends);
    all = (ap (λ (x : Switched). (state_of source x).sending) run, ap (λ (x : Switched). (state_of source x).datagrams) run);
  }
  made sources.First (steps.Want ssrc ∷ later) s t run =
      same_made sources.First (steps.Want ssrc) later (state_of sources.First s) (state_of sources.First run.0) (state_of sources.First t) (ap (state_of sources.First) run.1) (λ entries. refl)
      (made sources.First later run.0 t run.2)
  made sources.Second (steps.Want ssrc ∷ later) s t run =
      same_made sources.Second (steps.Want ssrc) later (state_of sources.Second s) (state_of sources.Second run.0) (state_of sources.Second t) (ap (state_of sources.Second) run.1) (λ entries. refl)
      (made sources.Second later run.0 t run.2)
  made sources.First (steps.Of sources.First step ∷ later) s t run =
      first_made step later (state_of sources.First s) s.hops run.1.0 (state_of sources.First t) refl run.1.1
      (subst (λ (x : SourceState). Made sources.First later x (state_of sources.First t)) (ap (state_of sources.First) run.1.2) (made sources.First later run.0 t run.2))
  made sources.Second (steps.Of sources.Second step ∷ later) s t run =
      second_made step later (state_of sources.Second s) (swapped s).hops run.1.0 (state_of sources.Second t) refl run.1.1
      (subst (λ (x : SourceState). Made sources.Second later x (state_of sources.Second t)) (ap (state_of sources.Second) run.1.2) (made sources.Second later run.0 t run.2))
  made sources.First (steps.Of sources.Second step ∷ later) s t run =
      same_made sources.First (steps.Of sources.Second step) later (state_of sources.First s) (state_of sources.First run.0) (state_of sources.First t) (ap (state_of sources.First) run.1.2) (λ entries. refl)
      (made sources.First later run.0 t run.2)
  made sources.Second (steps.Of sources.First step ∷ later) s t run =
      same_made sources.Second (steps.Of sources.First step) later (state_of sources.Second s) (state_of sources.Second run.0) (state_of sources.Second t) (ap (state_of sources.Second) run.1.2) (λ entries. refl)
      (made sources.Second later run.0 t run.2)

-- How many datagrams are sent

abbrev pub total : List Sent → ℕ
total [] = 0
total (x ∷ xs) = x.entry.count + total xs

pub one_count : (x : Sent) (s mid : Sending) (before more : List (List ℕ)) → SendsIt x.sample s before x.entry mid more → length more ≡ length before + x.entry.count
one_count x s mid before more sends = ap length sends.gained ∙ (length-append before mid.datagrams ∙ ap (λ (n : ℕ). length before + n) (sym sends.count))

pub all_count : (xs : List Sent) (s t : Sending) (before after : List (List ℕ)) → SendsAll xs s before t after → length after ≡ length before + total xs
all_count [] s t before after all = ap length all.1 ∙ omega arith
all_count (x ∷ xs) s t before after all = omega (arith, all_count xs all.0 t all.1 after all.3, one_count x s all.0 before all.1 all.2)

pub all_more : (xs : List Sent) (s t : Sending) (before after : List (List ℕ)) → SendsAll xs s before t after → IsMore before after
all_more [] s t before after all = ([], all.1 ∙ sym (append-nil before))
all_more (x ∷ xs) s t before after all =
    let rest : IsMore all.1 after = all_more xs all.0 t all.1 after all.3 in
    (all.0.datagrams ++ rest.0, rest.1 ∙ (ap (λ (ds : List (List ℕ)). ds ++ rest.0) all.2.gained ∙ append_assoc before all.0.datagrams rest.0))

-- What stays

-- what is known of the packetizers of a source stays known
abbrev pub Stays : (PacketizerState → Type 0) → Type 0
Stays good = (sample : Sample) (s t : Sending) (fault : Option PacketError) → good s.packetizer → SendsOrRefuses (sent_sample sample) s fault t → good t.packetizer

-- a packetizer without ids
pub own_good : (own : PacketizerState) → is_built_in own ≡ true → sends_no_ids own ≡ true → Stays (λ (p : PacketizerState). p ≡ own)
own_good own built none sample s t fault is sends = own_stays own built none sample s t fault is sends

module _ (good : PacketizerState → Type 0) (stays : Stays good) (first : Sending) where
  -- a sender that was `first` and has sent these datagrams since
  pub record HasSent (s : Sending) (datagrams : List (List ℕ)) : Type 0 where
    pub packetizer : good s.packetizer
    pub mtu : s.mtu ≡ first.mtu
    pub stream : s.stream ≡ record first.stream { number = s.stream.number }
    pub number : s.stream.number % 65536 ≡ (first.stream.number + length datagrams) % 65536

  sent_then : (fault : Option PacketError) (x : Sent) (s mid : Sending) (before more : List (List ℕ)) → HasSent s before → SendsOrRefuses (sent_sample x.sample) s fault mid → more ≡ before ++ mid.datagrams → HasSent mid more
  sent_then None x s mid before more has sends gained =
      let number : mid.stream.number ≡ (s.stream.number + length sends.payloads) % 2 ^ 16 = ap (λ (y : Sending). y.stream.number) sends.left in
      record {
        packetizer = stays x.sample s mid None has.packetizer sends;
        mtu = ap (λ (y : Sending). y.mtu) sends.left ∙ has.mtu;
        stream = ap (λ (y : Sending). y.stream) sends.left
            ∙ (ap (λ (o : Outgoing). record o { number = (s.stream.number + length sends.payloads) % 2 ^ 16 }) has.stream
            ∙ ap (λ (n : ℕ). record first.stream { number = n }) (sym number));
        number = omega (arith, number, has.number, ap length gained, length-append before mid.datagrams, sends.sent.0);
      }
  sent_then (Some fault) x s mid before more has refuses gained =
      let nothing : mid.datagrams ≡ [] = ap (λ (y : Sending). y.datagrams) refuses.1.left in
      let number : mid.stream.number ≡ s.stream.number = ap (λ (y : Sending). y.stream.number) refuses.1.left in
      record {
        packetizer = stays x.sample s mid (Some fault) has.packetizer refuses;
        mtu = ap (λ (y : Sending). y.mtu) refuses.1.left ∙ has.mtu;
        stream = ap (λ (y : Sending). y.stream) refuses.1.left ∙ (has.stream ∙ ap (λ (n : ℕ). record first.stream { number = n }) (sym number));
        number = omega (arith, number, has.number, ap length gained, length-append before mid.datagrams, ap length nothing);
      }

  pub sent_on : (x : Sent) (s mid : Sending) (before more : List (List ℕ)) → HasSent s before → SendsIt x.sample s before x.entry mid more → HasSent mid more
  sent_on x s mid before more has sends = sent_then x.entry.fault x s mid before more has sends.sends sends.gained

  -- Which samples are in front of an index

  none_past : (index k : ℕ) (xs : List Sent) → index < k → all_below index k xs ≡ []
  none_past index k [] past = refl
  none_past index k (x ∷ xs) past = by (ltb index (k + x.entry.count)) refl (none_past index (k + x.entry.count) xs (omega (arith, past)))
    where
      by : (b : Bool) → ltb index (k + x.entry.count) ≡ b → all_below index (k + x.entry.count) xs ≡ [] → all_below index k (x ∷ xs) ≡ []
      by true is rest = rw is rest
      by false is rest = absurd (omega (arith, ltb-false index (k + x.entry.count) is, past))

  all_from : (index k : ℕ) (xs : List Sent) → index ≤ k → none_below index k xs ≡ xs
  all_from index k [] from = refl
  all_from index k (x ∷ xs) from = by (ltb k index) refl (all_from index (k + x.entry.count) xs (omega (arith, from)))
    where
      by : (b : Bool) → ltb k index ≡ b → none_below index (k + x.entry.count) xs ≡ xs → none_below index k (x ∷ xs) ≡ x ∷ xs
      by true is rest = absurd (omega (arith, ltb-true k index is, from))
      by false is rest = rw is (ap (λ (ys : List Sent). x ∷ ys) rest)

  -- the samples up to an index are sent first
  pub record Front (index : ℕ) (xs : List Sent) (s : Sending) (before after : List (List ℕ)) : Type 0 where
    pub mid : Sending
    pub more : List (List ℕ)
    pub sends : SendsAll xs s before mid more
    pub size : length more ≡ index
    pub rest : IsMore more after
    pub has : HasSent mid more

  pub front : (index k : ℕ) (xs : List Sent) (s t : Sending) (before after : List (List ℕ)) → length before ≡ k → k ≤ index → index ≤ length after → NoneAcross index k xs → HasSent s before → SendsAll xs s before t after
      → Front index (all_below index k xs) s before after
  front index k [] s t before after at low high across has all =
      record { mid = s; more = before; sends = (refl, refl); size = omega (arith, at, low, high, ap length all.1); rest = ([], all.1 ∙ sym (append-nil before)); has = has }
  front index k (x ∷ xs) s t before after at low high across has all =
      let size : length all.1 ≡ k + x.entry.count = omega (arith, one_count x s all.0 before all.1 all.2, at) in
      by (ltb index (k + x.entry.count)) refl
      (λ up. front index (k + x.entry.count) xs all.0 t all.1 after size up high across.1 (sent_on x s all.0 before all.1 has all.2) all.3)
    where
      at_seam : (k + x.entry.count ≤ index) ⊎ (index ≤ k) → index < k + x.entry.count → index ≡ k
      at_seam (inl below) up = absurd (omega (arith, below, up))
      at_seam (inr from) up = omega (arith, from, low)

      by : (b : Bool) → ltb index (k + x.entry.count) ≡ b → (k + x.entry.count ≤ index → Front index (all_below index (k + x.entry.count) xs) all.0 all.1 after)
          → Front index (all_below index k (x ∷ xs)) s before after
      by true is later =
          let up : index < k + x.entry.count = ltb-true index (k + x.entry.count) is in
          let here : index ≡ k = at_seam across.0 up in
          let nothing : all_below index k (x ∷ xs) ≡ [] = rw is (none_past index (k + x.entry.count) xs up) in
          subst (λ (ys : List Sent). Front index ys s before after) (sym nothing)
          (record { mid = s; more = before; sends = (refl, refl); size = omega (arith, at, here); rest = all_more (x ∷ xs) s t before after all; has = has })
      by false is later =
          let rest : Front index (all_below index (k + x.entry.count) xs) all.0 all.1 after = later (ltb-false index (k + x.entry.count) is) in
          rw is (record { mid = rest.mid; more = rest.more; sends = (all.0, all.1, all.2, rest.sends); size = rest.size; rest = rest.rest; has = rest.has })

  -- the samples from an index on are sent last
  pub record Back (index : ℕ) (xs : List Sent) (t : Sending) (after : List (List ℕ)) : Type 0 where
    pub mid : Sending
    pub more : List (List ℕ)
    pub sends : SendsAll xs mid more t after
    pub size : length more ≡ index
    pub has : HasSent mid more

  pub back : (index k : ℕ) (xs : List Sent) (s t : Sending) (before after : List (List ℕ)) → length before ≡ k → k ≤ index → index ≤ length after → NoneAcross index k xs → HasSent s before → SendsAll xs s before t after
      → Back index (none_below index k xs) t after
  back index k [] s t before after at low high across has all =
      record { mid = s; more = before; sends = all; size = omega (arith, at, low, high, ap length all.1); has = has }
  back index k (x ∷ xs) s t before after at low high across has all =
      let size : length all.1 ≡ k + x.entry.count = omega (arith, one_count x s all.0 before all.1 all.2, at) in
      by (ltb k index) refl (λ on. back index (k + x.entry.count) xs all.0 t all.1 after size on high across.1 (sent_on x s all.0 before all.1 has all.2) all.3)
    where
      in_front : (k + x.entry.count ≤ index) ⊎ (index ≤ k) → k < index → k + x.entry.count ≤ index
      in_front (inl below) up = below
      in_front (inr from) up = absurd (omega (arith, from, up))

      by : (b : Bool) → ltb k index ≡ b → (k + x.entry.count ≤ index → Back index (none_below index (k + x.entry.count) xs) t after) → Back index (none_below index k (x ∷ xs)) t after
      by true is later = rw is (later (in_front across.0 (ltb-true k index is)))
      by false is later =
          let here : index ≤ k = ltb-false k index is in
          subst (λ (ys : List Sent). Back index ys t after) (sym (all_from index k (x ∷ xs) here))
          (record { mid = s; more = before; sends = all; size = omega (arith, at, here, low); has = has })
