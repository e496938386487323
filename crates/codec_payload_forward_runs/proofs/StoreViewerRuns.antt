-- A run with a forwarder and a store is, for the viewer's receiver, a run over one hop in which copies of datagrams are delivered.
use Rattle.std.proofs.Common.{◌≡◌, ◌∙◌, refl, sym, ap, subst, ℕ, zero, suc, ◌+◌, ◌%◌, ◌^◌, ◌<◌, List, [], ◌∷◌, ◌++◌, inl, inr, Bool, true, false, Option, Some, None, MatchOption, Result, Ok, length, map, drop, arith, append_assoc, append-nil}
use Rattle.std.specs.Prelude.{slice_get}
use Rattle.std.specs.Option.{option_map}
use Rattle.std.proofs.lemmas.Option.{same_Some, slice_get-map}
use Rattle.codec_payload_base.specs.declared.wire.Codec.{Codec}
use Rattle.codec_payload_base.specs.declared.wire.Ticks.{Ticks}
use Rattle.codec_payload_payloader.specs.Sending.{Sample}
use Rattle.codec_payload_receiver.specs.Sessions.{Session}
use Rattle.codec_payload_rtp.specs.RtpPackets.{Packet, packet_bytes}
use Rattle.codec_payload_rtp.specs.RtpReading.{rtp_at}
use Rattle.codec_payload_rtp.specs.declared.rtp.RtpError.{RtpError}
use Rattle.codec_payload_sending_forward.specs.Forwarding.{Forward, IsRequested, IsResentBy, Repeats, is_source, next_packet, wrapped}
use Rattle.codec_payload_sending_forward.specs.declared.forwarder.Forwarded.{Forwarded}
use Rattle.codec_payload_sending_history.specs.Packets.{Past}
use Rattle.codec_payload_sending_history.specs.declared.retransmission.RetransmissionStream.{RetransmissionStream}
use Rattle.codec_payload_datagram_runs.proofs.Courses.{DeliversCopy, IsCopy, Proceeds, makes}
use Rattle.codec_payload_datagram_runs.proofs.RedStepLemmas.{only_sends}
use Rattle.codec_payload_datagram_runs.proofs.StepLemmas.{get_append}
use Rattle.codec_payload_datagram_runs.specs.WireRuns.{Delivers, Receipt, Runs, Wire}
use Rattle.codec_payload_datagram_runs.specs.declared.run.DatagramStep.{DatagramStep}
use Rattle.codec_payload_datagram_runs.specs.declared.run.SentSample.{SentSample}
use Rattle.codec_payload_forward_runs.proofs.SenderLemmas.{View, reads, seen_wire}
use Rattle.codec_payload_forward_runs.proofs.SourceLemmas.{IsDatagramOf, of_at}
use Rattle.codec_payload_forward_runs.proofs.StoreLemmas.{AllIn, in_more, is_sent, kept_in, packet_in_store}
use Rattle.codec_payload_forward_runs.proofs.ViewerLemmas.{GoesOn, IsOf, goes_further, goes_nowhere, same_viewer, written_packet}
use Rattle.codec_payload_forward_runs.proofs.ViewerRuns.{Fit, IsAt, IsMore, One, Stays, alone_append, alone_from, one_step, stays}
use Rattle.codec_payload_forward_runs.specs.ForwardReleases.{AreForwarded, viewer_bytes, viewer_datagram, viewer_packet, viewer_samples}
use Rattle.codec_payload_forward_runs.specs.ForwardRuns.{DoesForwardStep, Hops, packet_read}
use Rattle.codec_payload_forward_runs.specs.StoreReleases.{AreAgain, IsAgain, left_after, repeated_by, store_steps}
use Rattle.codec_payload_forward_runs.specs.StoreRuns.{DoesStoreStep, Requests, StoreRuns, Stored, again_by}
use Rattle.codec_payload_forward_runs.specs.declared.run.ForwardStep.{ForwardStep}
use Rattle.codec_payload_forward_runs.specs.declared.store_run.StoreStep.{StoreStep}
use Rattle.codec_payload_forward_runs.specs.declared.store_run.StoreStep.TheVariants as steps

-- Packets that were written again

again_append : (f : Forward) (datagrams bs : List (List ℕ)) (ks : List ℕ) (cs : List (List ℕ)) (js : List ℕ) → AreAgain f datagrams bs ks → AreAgain f datagrams cs js
    → AreAgain f datagrams (bs ++ cs) (ks ++ js)
again_append f datagrams [] [] cs js here more = more
again_append f datagrams [] (k ∷ ks) cs js here more = absurd here
again_append f datagrams (b ∷ bs) [] cs js here more = absurd here
again_append f datagrams (b ∷ bs) (k ∷ ks) cs js here more = (here.0, again_append f datagrams bs ks cs js here.1 more)

again_more : (f : Forward) (datagrams new bs : List (List ℕ)) (ks : List ℕ) → AreAgain f datagrams bs ks → AreAgain f (datagrams ++ new) bs ks
again_more f datagrams new [] [] here = tt
again_more f datagrams new [] (k ∷ ks) here = absurd here
again_more f datagrams new (b ∷ bs) [] here = absurd here
again_more f datagrams new (b ∷ bs) (k ∷ ks) here =
    ((here.0.0, here.0.1, get_append datagrams new k here.0.0 here.0.2, here.0.3, here.0.4), again_more f datagrams new bs ks here.1)

no_again : (f : Forward) (datagrams bs : List (List ℕ)) (ks : List ℕ) (j : ℕ) → AreAgain f datagrams bs ks → slice_get bs j ≡ None → slice_get ks j ≡ None
no_again f datagrams [] [] j are none = refl
no_again f datagrams [] (k ∷ ks) j are none = absurd are
no_again f datagrams (b ∷ bs) [] j are none = absurd are
no_again f datagrams (b ∷ bs) (k ∷ ks) zero are none = absurd (cc)
no_again f datagrams (b ∷ bs) (k ∷ ks) (suc j) are none = no_again f datagrams bs ks j are.1 none

-- the packet written again at a place
abbrev Repeated : Forward → List (List ℕ) → ℕ → List ℕ → Type 0
Repeated f datagrams k bytes =
    (datagram : List ℕ) × (p : Packet) × (slice_get datagrams k ≡ Some datagram) × (rtp_at datagram ≡ Ok p) × IsAgain f.settings.retransmissions (viewer_packet f p) bytes

again_at : (f : Forward) (datagrams bs : List (List ℕ)) (ks : List ℕ) (j : ℕ) (b : List ℕ) → AreAgain f datagrams bs ks → slice_get bs j ≡ Some b
    → (k : ℕ) × (slice_get ks j ≡ Some k) × Repeated f datagrams k b
again_at f datagrams [] ks j b are there = absurd (cc)
again_at f datagrams (c ∷ bs) [] j b are there = absurd are
again_at f datagrams (c ∷ bs) (k ∷ ks) zero b are there =
    let same : c ≡ b = same_Some c b there in
    let is = subst (Repeated f datagrams k) same are.0 in
    (k, refl, is)
again_at f datagrams (c ∷ bs) (k ∷ ks) (suc j) b are there = again_at f datagrams bs ks j b are.1 there

-- it is a copy of the datagram that the viewer gets
is_copy : (f : Forward) → f.settings.payload_type < 128 → f.settings.ssrc < 2 ^ 32 → (again : Option RetransmissionStream) (d bytes : List ℕ) (p : Packet) → rtp_at d ≡ Ok p → p.padding < 256
    → IsAgain again (viewer_packet f p) bytes → IsCopy again (viewer_datagram f d) bytes
is_copy f fits_type fits_ssrc None d bytes p is few same = inl (same ∙ ap (λ (r : Result Packet RtpError). viewer_bytes f (packet_read r)) (sym is))
is_copy f fits_type fits_ssrc (Some stream) d bytes p is few wrapped_is =
    inr (wrapped_is.0, record { original = viewer_packet f p; was = reads f fits_type fits_ssrc d p is few; reads = wrapped_is.1 })

module _ (ssrc rate : ℕ) (codec : Codec) (kind steady : Bool) (samples : List Sample) where
  pub record StoreComes (e : Forward) (all_steps : List StoreStep) (s t : Stored) (forwarded repeated : List ℕ) : Type 0 where
    pub later : List SentSample
    pub sends : t.hops.wire.sends ≡ s.hops.wire.sends ++ later
    pub more : List Forwarded
    pub results : t.hops.answers ≡ s.hops.answers ++ more
    pub found : List Bool
    pub founds : t.found ≡ s.found ++ found
    pub left : List ℕ
    pub course : (view : View) → Fit ssrc rate codec kind steady samples e view
        → Proceeds e.settings.retransmissions (viewer_samples e rate samples) (store_steps samples (length s.hops.wire.datagrams) forwarded repeated all_steps later more found left)
        (seen_wire view e s.hops.wire) (seen_wire view e t.hops.wire)
    pub alone : (x : Forward) (view : View) (receiver : Session) → Fit ssrc rate codec kind steady samples x view
        → Runs (viewer_samples x rate samples) (only_sends (store_steps samples (length s.hops.wire.datagrams) forwarded repeated all_steps later more found left))
        (alone_from receiver view x s.hops.wire) (alone_from receiver view x t.hops.wire)
    pub again : AreAgain e t.hops.wire.datagrams t.again (repeated ++ left)

  proceeds_after : (again : Option RetransmissionStream) (all_samples : List Sample) (first later : List DatagramStep) (s mid t : Wire) → Runs all_samples first s mid
      → Proceeds again all_samples later mid t → Proceeds again all_samples (first ++ later) s t
  proceeds_after again all_samples [] later s mid t one rest = subst (λ (x : Wire). Proceeds again all_samples later x t) one rest
  proceeds_after again all_samples (step ∷ first) later s mid t one rest =
      (one.0, makes again all_samples step s one.0 one.1, proceeds_after again all_samples first later one.0 mid t one.2 rest)

  -- A request

  same_on : (f t : Forward) (next : ℕ) → t ≡ record f { next = next } → GoesOn ssrc f t
  same_on f t next is = subst (GoesOn ssrc f) (sym is) (record { settings = refl; source = λ on. on; numbers = λ on. refl; times = λ on. refl; ids = λ on. refl; none = λ steady none. none })

  resent_on : (again : Option RetransmissionStream) (p : Packet) (f t : Forward) (bytes : List ℕ) → IsResentBy again p f bytes t → GoesOn ssrc f t
  resent_on None p f t bytes is = goes_nowhere ssrc f t is.1
  resent_on (Some stream) p f t bytes is = same_on f t ((f.next + 1) % 65536) is.1

  repeats_on : (found : Bool) (p : Packet) (f t : Forward) (bytes : List ℕ) → Repeats p f found bytes t → GoesOn ssrc f t
  repeats_on true p f t bytes repeats = resent_on f.settings.retransmissions (next_packet f repeats.2.0 p) f t bytes repeats.2.2
  repeats_on false p f t bytes repeats = goes_nowhere ssrc f t repeats.1

  request_on : (number : ℕ) (found : Bool) (f t : Forward) (store : Past) (bytes : List ℕ) → Requests number f store found bytes t → GoesOn ssrc f t
  request_on number found f t store bytes (inl none) = goes_nowhere ssrc f t none.3
  request_on number found f t store bytes (inr some) = repeats_on found some.0 f t bytes some.2

  -- what is written again
  resent_is : (again : Option RetransmissionStream) (p q : Packet) (f t : Forward) (bytes : List ℕ) → p ≡ q → IsResentBy again p f bytes t → IsAgain again q bytes
  resent_is None p q f t bytes same is = is.0.0 ∙ ap packet_bytes same
  resent_is (Some stream) p q f t bytes same is = (f.next, is.0 ∙ ap (λ (x : Packet). Ok (wrapped stream f.next x)) same)

  same_read : (d : List ℕ) (p q : Packet) → rtp_at d ≡ Ok p → rtp_at d ≡ Ok q → p ≡ q
  same_read d p q one two = let same : Ok p ≡ Ok q = sym one ∙ two in cc

  repeats_datagram : (e : Forward) (number : ℕ) (s : Stored) (p : Packet) (t : Forward) (bytes : List ℕ) → IsAt ssrc rate codec kind steady s.hops → AllIn s.hops.wire.datagrams s.store.packets
      → IsRequested s.hops.forwarder s.store number p → Repeats p s.hops.forwarder true bytes t → GoesOn ssrc t e → (k : ℕ) × Repeated e s.hops.wire.datagrams k bytes
  repeats_datagram e number s p t bytes at kept asked repeats goes =
      let f : Forward = s.hops.forwarder in
      let datagrams : List (List ℕ) = s.hops.wire.datagrams in
      let datagram : List ℕ = asked.1.3.0 in
      let there = is_sent datagrams s.store asked.1.1 datagram kept asked.1.3.1 in
      let of : IsDatagramOf steady ssrc codec datagram = of_at steady ssrc codec datagrams there.0 datagram at.source.all there.1 in
      let same : of.0 ≡ p = same_read datagram of.0 p of.1 asked.1.3.2 in
      let own : IsOf steady ssrc codec p = subst (IsOf steady ssrc codec) same of.2 in
      let own_here : IsOf steady ssrc f.settings.codec p = subst (λ (c : Codec). IsOf steady ssrc c p) (sym at.codec_is) own in
      let on : is_source f.source ssrc ≡ true = subst (λ (n : ℕ). is_source f.source n ≡ true) own.source repeats.0 in
      let onward : GoesOn ssrc f e = goes_further ssrc f t e (repeats_on true p f t bytes repeats) goes in
      let is : next_packet f repeats.2.0 p ≡ viewer_packet e p =
      written_packet steady ssrc repeats.2.0 p f own_here (at.none on) repeats.2.1 ∙ sym (same_viewer f e p onward.settings (onward.numbers on) (onward.times on) (onward.ids on)) in
      let again = resent_is f.settings.retransmissions (next_packet f repeats.2.0 p) (viewer_packet e p) f t bytes is repeats.2.2 in
      (there.0, (datagram, p, there.1, asked.1.3.2, subst (λ (x : _). IsAgain x.retransmissions (viewer_packet e p) bytes) (sym onward.settings) again))

  -- Steps

  record Later (s mid : Stored) : Type 0 where
    at : IsAt ssrc rate codec kind steady mid.hops
    kept : AllIn mid.hops.wire.datagrams mid.store.packets
    on : GoesOn ssrc s.hops.forwarder mid.hops.forwarder
    more : IsMore s.hops.wire.datagrams mid.hops.wire.datagrams

  grown_in : (before after : List (List ℕ)) (h : Past) → IsMore before after → AllIn before h.packets → AllIn after h.packets
  grown_in before after h more all = subst (λ (ds : List (List ℕ)). AllIn ds h.packets) (sym more.1) (in_more before more.0 h.packets all)

  grown_again : (f : Forward) (before after bs : List (List ℕ)) (ks : List ℕ) → IsMore before after → AreAgain f before bs ks → AreAgain f after bs ks
  grown_again f before after bs ks more are = subst (λ (ds : List (List ℕ)). AreAgain f ds bs ks) (sym more.1) (again_more f before more.0 bs ks are)

  with_forwarder : (s : Hops) (f : Forward) → IsAt ssrc rate codec kind steady s → GoesOn ssrc s.forwarder f → IsAt ssrc rate codec kind steady (record s { forwarder = f })
  with_forwarder s f at on = record { source = at.source; codec_is = ap (λ (x : _). x.codec) on.settings ∙ at.codec_is; none = on.none steady at.none }

  with_session : (s : Hops) (session : Session) (receipts : List Receipt) → IsAt ssrc rate codec kind steady s
      → IsAt ssrc rate codec kind steady (record s { wire = record s.wire { session = session; receipts = receipts } })
  with_session s session receipts at = record { source = at.source; codec_is = at.codec_is; none = at.none }

  no_more : (datagrams : List (List ℕ)) → IsMore datagrams datagrams
  no_more datagrams = ([], sym (append-nil datagrams))

  later_again : (o : Option (List ℕ)) (now : Ticks) (s mid : Stored) → IsAt ssrc rate codec kind steady s.hops → AllIn s.hops.wire.datagrams s.store.packets
      → MatchOption o (mid ≡ s) (λ bytes. (receipt : Receipt) × (session : Session) × Delivers now bytes s.hops.wire.session receipt session
      × (mid ≡ record s { hops = record s.hops { wire = record s.hops.wire { session = session; receipts = s.hops.wire.receipts ++ receipt ∷ [] } } }))
      → Later s mid
  later_again None now s mid at kept same =
      subst (Later s) (sym same) (record { at = at; kept = kept; on = goes_nowhere ssrc s.hops.forwarder s.hops.forwarder refl; more = no_more s.hops.wire.datagrams })
  later_again (Some bytes) now s mid at kept done =
      subst (Later s) (sym done.3)
      (record {
        at = with_session s.hops done.1 (s.hops.wire.receipts ++ done.0 ∷ []) at;
        kept = kept;
        on = goes_nowhere ssrc s.hops.forwarder s.hops.forwarder refl;
        more = no_more s.hops.wire.datagrams;
      })

  later : (step : StoreStep) (s mid : Stored) → IsAt ssrc rate codec kind steady s.hops → AllIn s.hops.wire.datagrams s.store.packets → DoesStoreStep samples step s mid → Later s mid
  later (steps.Plain step) s mid at kept does =
      let one : Stays ssrc rate codec kind steady samples s.hops does.1 = stays ssrc rate codec kind steady samples step s.hops does.1 at does.3 in
      subst (Later s) (sym does.4)
      (record {
        at = one.at;
        kept = grown_in s.hops.wire.datagrams does.1.wire.datagrams does.0 one.more (kept_in s.hops.wire.datagrams step s.store does.0 kept does.2);
        on = one.on;
        more = one.more;
      })
  later (steps.Keep k) s mid at kept does =
      subst (Later s) (sym does.2)
      (record {
        at = at;
        kept = packet_in_store s.hops.wire.datagrams k (slice_get s.hops.wire.datagrams k) s.store does.0 refl kept does.1;
        on = goes_nowhere ssrc s.hops.forwarder s.hops.forwarder refl;
        more = no_more s.hops.wire.datagrams;
      })
  later (steps.Request number) s mid at kept does =
      let on : GoesOn ssrc s.hops.forwarder does.2 = request_on number does.0 s.hops.forwarder does.2 s.store does.1 does.3 in
      subst (Later s) (sym does.4) (record { at = with_forwarder s.hops does.2 at on; kept = kept; on = on; more = no_more s.hops.wire.datagrams })
  later (steps.DeliverAgain j now) s mid at kept does = later_again (slice_get s.again j) now s mid at kept does

  pub store_ends_on : (all_steps : List StoreStep) (s t : Stored) → IsAt ssrc rate codec kind steady s.hops → AllIn s.hops.wire.datagrams s.store.packets → StoreRuns samples all_steps s t
      → GoesOn ssrc s.hops.forwarder t.hops.forwarder
  store_ends_on [] s t at kept run = goes_nowhere ssrc s.hops.forwarder t.hops.forwarder (ap (λ (x : Stored). x.hops.forwarder) run)
  store_ends_on (step ∷ rest) s t at kept run =
      let one = later step s run.0 at kept run.1 in
      goes_further ssrc s.hops.forwarder run.0.hops.forwarder t.hops.forwarder one.on (store_ends_on rest run.0 t one.at one.kept run.2)

  pub store_at_end : (all_steps : List StoreStep) (s t : Stored) → IsAt ssrc rate codec kind steady s.hops → AllIn s.hops.wire.datagrams s.store.packets → StoreRuns samples all_steps s t
      → IsAt ssrc rate codec kind steady t.hops
  store_at_end [] s t at kept run = subst (λ (x : Stored). IsAt ssrc rate codec kind steady x.hops) (sym run) at
  store_at_end (step ∷ rest) s t at kept run =
      let one = later step s run.0 at kept run.1 in
      store_at_end rest run.0 t one.at one.kept run.2

  -- Whole runs

  plain_comes : (e : Forward) (step : ForwardStep) (rest : List StoreStep) (s mid t : Stored) (forwarded repeated : List ℕ) (o : One ssrc rate codec kind steady samples e step s.hops mid.hops forwarded)
      → mid.found ≡ s.found → StoreComes e rest mid t o.next repeated → StoreComes e (steps.Plain step ∷ rest) s t forwarded repeated
  plain_comes e step rest s mid t forwarded repeated o same c = record {
    later = o.sends c.later;
    sends = c.sends ∙ o.sends_are c.later;
    more = o.results c.more;
    results = c.results ∙ o.results_are c.more;
    found = c.found;
    founds = c.founds ∙ ap (λ (fs : List Bool). fs ++ c.found) same;
    left = c.left;
    course = λ view fit.
        subst (λ (ds : List DatagramStep). Proceeds e.settings.retransmissions (viewer_samples e rate samples) ds (seen_wire view e s.hops.wire) (seen_wire view e t.hops.wire))
        (sym (o.with_store c.later c.more rest repeated c.found c.left))
        (proceeds_after e.settings.retransmissions (viewer_samples e rate samples) o.seen _ (seen_wire view e s.hops.wire) (seen_wire view e mid.hops.wire) (seen_wire view e t.hops.wire) (o.course view fit) (c.course view fit));
    alone = λ x view receiver fit.
        subst (λ (ds : List DatagramStep). Runs (viewer_samples x rate samples) (only_sends ds) (alone_from receiver view x s.hops.wire) (alone_from receiver view x t.hops.wire))
        (sym (o.with_store c.later c.more rest repeated c.found c.left))
        (alone_append ssrc rate codec kind steady samples (viewer_samples x rate samples) o.seen _ (alone_from receiver view x s.hops.wire) (alone_from receiver view x mid.hops.wire) (alone_from receiver view x t.hops.wire)
        (o.alone x view receiver fit) (c.alone x view receiver fit));
    again = c.again;
  }

  -- the store alone keeps a datagram
  kept_comes : (e : Forward) (k : ℕ) (rest : List StoreStep) (s mid t : Stored) (store : Past) (forwarded repeated : List ℕ) → mid ≡ record s { store = store }
      → StoreComes e rest mid t forwarded repeated → StoreComes e (steps.Keep k ∷ rest) s t forwarded repeated
  kept_comes e k rest s mid t store forwarded repeated is comes =
      let c : StoreComes e rest (record s { store = store }) t forwarded repeated = subst (λ (x : Stored). StoreComes e rest x t forwarded repeated) is comes in
      record {
        later = c.later;
        sends = c.sends;
        more = c.more;
        results = c.results;
        found = c.found;
        founds = c.founds;
        left = c.left;
        course = c.course;
        alone = c.alone;
        again = c.again;
      }

  -- a request that was answered, or not
  asked_comes : (e : Forward) (found : Bool) (number : ℕ) (bytes : List ℕ) (rest : List StoreStep) (s mid t : Stored) (forwarded repeated : List ℕ) (more : List ℕ) → mid.hops.wire ≡ s.hops.wire
      → mid.hops.answers ≡ s.hops.answers → mid.found ≡ s.found ++ found ∷ []
      → ((left : List ℕ) → (repeated_by (found ∷ []) (more ++ left) ≡ more) × (left_after (found ∷ []) (more ++ left) ≡ left))
      → StoreComes e rest mid t forwarded (repeated ++ more) → StoreComes e (steps.Request number ∷ rest) s t forwarded repeated
  asked_comes e found number bytes rest s mid t forwarded repeated more wire same founds is c =
      let n : ℕ = length s.hops.wire.datagrams in
      let one = is c.left in
      record {
        later = c.later;
        sends = c.sends ∙ ap (λ (x : Wire). x.sends ++ c.later) wire;
        more = c.more;
        results = c.results ∙ ap (λ (as' : List Forwarded). as' ++ c.more) same;
        found = found ∷ c.found;
        founds = c.founds ∙ (ap (λ (fs : List Bool). fs ++ c.found) founds ∙ append_assoc s.found (found ∷ []) c.found);
        left = more ++ c.left;
        course = λ view fit.
            subst (λ (ds : List DatagramStep). Proceeds e.settings.retransmissions (viewer_samples e rate samples) ds (seen_wire view e s.hops.wire) (seen_wire view e t.hops.wire))
            (sym (asked_steps found n forwarded repeated rest c.later c.more c.found more c.left one.0 one.1))
            (subst (λ (x : Wire). Proceeds e.settings.retransmissions (viewer_samples e rate samples) (store_steps samples (length x.datagrams) forwarded (repeated ++ more) rest c.later c.more c.found c.left) (seen_wire view e x) (seen_wire view e t.hops.wire)) wire (c.course view fit));
        alone = λ x view receiver fit.
            subst (λ (ds : List DatagramStep). Runs (viewer_samples x rate samples) (only_sends ds) (alone_from receiver view x s.hops.wire) (alone_from receiver view x t.hops.wire))
            (sym (asked_steps found n forwarded repeated rest c.later c.more c.found more c.left one.0 one.1))
            (subst (λ (w : Wire). Runs (viewer_samples x rate samples) (only_sends (store_steps samples (length w.datagrams) forwarded (repeated ++ more) rest c.later c.more c.found c.left)) (alone_from receiver view x w) (alone_from receiver view x t.hops.wire)) wire
            (c.alone x view receiver fit));
        again = subst (AreAgain e t.hops.wire.datagrams t.again) (append_assoc repeated more c.left) c.again;
      }
    where
      asked_steps : (found : Bool) (n : ℕ) (forwarded repeated : List ℕ) (rest : List StoreStep) (sends : List SentSample) (results : List Forwarded) (founds : List Bool) (more left : List ℕ)
          → repeated_by (found ∷ []) (more ++ left) ≡ more → left_after (found ∷ []) (more ++ left) ≡ left
          → store_steps samples n forwarded repeated (steps.Request number ∷ rest) sends results (found ∷ founds) (more ++ left)
          ≡ store_steps samples n forwarded (repeated ++ more) rest sends results founds left
      asked_steps true n forwarded repeated rest sends results founds more left e1 e2 =
          ap (λ (ks : List ℕ). store_steps samples n forwarded (repeated ++ ks) rest sends results founds (drop 1 (more ++ left))) e1
          ∙ ap (λ (ks : List ℕ). store_steps samples n forwarded (repeated ++ more) rest sends results founds ks) e2
      asked_steps false n forwarded repeated rest sends results founds more left e1 e2 =
          ap (λ (ks : List ℕ). store_steps samples n forwarded (repeated ++ ks) rest sends results founds (more ++ left)) e1
          ∙ ap (λ (ks : List ℕ). store_steps samples n forwarded (repeated ++ more) rest sends results founds ks) e2

  -- the datagram that a request repeats, if a packet was written again
  asked : (e : Forward) (number : ℕ) (s : Stored) (found : Bool) (bytes : List ℕ) (t : Forward) → IsAt ssrc rate codec kind steady s.hops → AllIn s.hops.wire.datagrams s.store.packets
      → Requests number s.hops.forwarder s.store found bytes t → GoesOn ssrc t e
      → (more : List ℕ) × AreAgain e s.hops.wire.datagrams (again_by found bytes) more
      × ((left : List ℕ) → (repeated_by (found ∷ []) (more ++ left) ≡ more) × (left_after (found ∷ []) (more ++ left) ≡ left))
  asked e number s false bytes t at kept does goes = ([], tt, λ left. (refl, refl))
  asked e number s true bytes t at kept (inl none) goes = absurd (let wrong : true ≡ false = none.0 in cc)
  asked e number s true bytes t at kept (inr some) goes =
      let is = repeats_datagram e number s some.0 t bytes at kept some.1 some.2 goes in
      (is.0 ∷ [], (is.1, tt), λ left. (refl, refl))

  again_comes : (e : Forward) (o : Option (List ℕ)) (j : ℕ) (now : Ticks) (rest : List StoreStep) (s mid t : Stored) (forwarded repeated : List ℕ) → slice_get s.again j ≡ o
      → IsAt ssrc rate codec kind steady s.hops → AreAgain e s.hops.wire.datagrams s.again repeated
      → MatchOption o (mid ≡ s) (λ bytes. (receipt : Receipt) × (session : Session) × Delivers now bytes s.hops.wire.session receipt session
      × (mid ≡ record s { hops = record s.hops { wire = record s.hops.wire { session = session; receipts = s.hops.wire.receipts ++ receipt ∷ [] } } }))
      → StoreComes e rest mid t forwarded repeated → StoreComes e (steps.DeliverAgain j now ∷ rest) s t forwarded repeated
  again_comes e None j now rest s mid t forwarded repeated is at again same comes =
      let c : StoreComes e rest s t forwarded repeated = subst (λ (x : Stored). StoreComes e rest x t forwarded repeated) same comes in
      let none : slice_get repeated j ≡ None = no_again e s.hops.wire.datagrams s.again repeated j again is in
      record {
        later = c.later;
        sends = c.sends;
        more = c.more;
        results = c.results;
        found = c.found;
        founds = c.founds;
        left = c.left;
        course = rw none c.course;
        alone = rw none c.alone;
        again = c.again;
      }
  again_comes e (Some bytes) j now rest s mid t forwarded repeated is at again done comes =
      let wire : Wire = record s.hops.wire { session = done.1; receipts = s.hops.wire.receipts ++ done.0 ∷ [] } in
      let next : Stored = record s { hops = record s.hops { wire = wire } } in
      let c : StoreComes e rest next t forwarded repeated = subst (λ (x : Stored). StoreComes e rest x t forwarded repeated) done.3 comes in
      let copy = again_at e s.hops.wire.datagrams s.again repeated j bytes again is in
      let datagram : List ℕ = copy.2.0 in
      let p : Packet = copy.2.1 in
      let of : IsDatagramOf steady ssrc codec datagram = of_at steady ssrc codec s.hops.wire.datagrams copy.0 datagram at.source.all copy.2.2 in
      let same : of.0 ≡ p = same_read datagram of.0 p of.1 copy.2.3 in
      let own : IsOf steady ssrc codec p = subst (IsOf steady ssrc codec) same of.2 in
      let there : slice_get (map (viewer_datagram e) s.hops.wire.datagrams) copy.0 ≡ Some (viewer_datagram e datagram) =
      slice_get-map (viewer_datagram e) s.hops.wire.datagrams copy.0 ∙ ap (option_map (viewer_datagram e)) copy.2.2 in
      record {
        later = c.later;
        sends = c.sends;
        more = c.more;
        results = c.results;
        found = c.found;
        founds = c.founds;
        left = c.left;
        course = λ view fit.
            let is_one : IsCopy e.settings.retransmissions (viewer_datagram e datagram) bytes =
            is_copy e fit.1 fit.2 e.settings.retransmissions datagram bytes p copy.2.3 (omega (arith, own.padding)) copy.2.4 in
            let delivers : DeliversCopy e.settings.retransmissions (slice_get (map (viewer_datagram e) s.hops.wire.datagrams) copy.0) now (seen_wire view e s.hops.wire) (seen_wire view e wire) =
            rw there (bytes, is_one, done.0, done.1, done.2, refl) in
            rw copy.1 (seen_wire view e wire, delivers, c.course view fit);
        alone = λ x view receiver fit. rw copy.1 (c.alone x view receiver fit);
        again = c.again;
      }

  -- a delivery writes nothing
  delivered_after : (e : Forward) (o : Option (List ℕ)) (now : Ticks) (s mid : Stored) (forwarded repeated : List ℕ)
      → MatchOption o (mid ≡ s) (λ bytes. (receipt : Receipt) × (session : Session) × Delivers now bytes s.hops.wire.session receipt session
      × (mid ≡ record s { hops = record s.hops { wire = record s.hops.wire { session = session; receipts = s.hops.wire.receipts ++ receipt ∷ [] } } }))
      → AreForwarded e s.hops.wire.datagrams s.hops.written forwarded → AreAgain e s.hops.wire.datagrams s.again repeated
      → AreForwarded e mid.hops.wire.datagrams mid.hops.written forwarded × AreAgain e mid.hops.wire.datagrams mid.again repeated
  delivered_after e None now s mid forwarded repeated same written again =
      subst (λ (x : Stored). AreForwarded e x.hops.wire.datagrams x.hops.written forwarded × AreAgain e x.hops.wire.datagrams x.again repeated) (sym same) (written, again)
  delivered_after e (Some bytes) now s mid forwarded repeated done written again =
      subst (λ (x : Stored). AreForwarded e x.hops.wire.datagrams x.hops.written forwarded × AreAgain e x.hops.wire.datagrams x.again repeated) (sym done.3) (written, again)

  pub store_comes : (all_steps : List StoreStep) (s t : Stored) (forwarded repeated : List ℕ) → IsAt ssrc rate codec kind steady s.hops → AllIn s.hops.wire.datagrams s.store.packets
      → AreForwarded t.hops.forwarder s.hops.wire.datagrams s.hops.written forwarded → AreAgain t.hops.forwarder s.hops.wire.datagrams s.again repeated → StoreRuns samples all_steps s t
      → StoreComes t.hops.forwarder all_steps s t forwarded repeated
  store_comes [] s t forwarded repeated at kept written again run = record {
    later = [];
    sends = ap (λ (x : Stored). x.hops.wire.sends) run ∙ sym (append-nil s.hops.wire.sends);
    more = [];
    results = ap (λ (x : Stored). x.hops.answers) run ∙ sym (append-nil s.hops.answers);
    found = [];
    founds = ap (λ (x : Stored). x.found) run ∙ sym (append-nil s.found);
    left = [];
    course = λ view fit. ap (λ (x : Stored). seen_wire view t.hops.forwarder x.hops.wire) run;
    alone = λ x view receiver fit. ap (λ (h : Stored). alone_from receiver view x h.hops.wire) run;
    again = subst (AreAgain t.hops.forwarder t.hops.wire.datagrams t.again) (sym (append-nil repeated)) (subst (λ (x : Stored). AreAgain t.hops.forwarder x.hops.wire.datagrams x.again repeated) (sym run) again);
  }
  store_comes (steps.Plain step ∷ rest) s t forwarded repeated at kept written again run =
      let e : Forward = t.hops.forwarder in
      let mid : Stored = run.0 in
      let does = run.1 in
      let next = later (steps.Plain step) s mid at kept does in
      let goes : GoesOn ssrc mid.hops.forwarder e = store_ends_on rest mid t next.at next.kept run.2 in
      let hops : mid.hops ≡ does.1 = ap (λ (x : Stored). x.hops) does.4 in
      let o : One ssrc rate codec kind steady samples e step s.hops mid.hops forwarded =
      one_step ssrc rate codec kind steady samples e step s.hops mid.hops forwarded at (subst (λ (x : Hops). DoesForwardStep samples step s.hops x) (sym hops) does.3) goes written in
      let same : mid.again ≡ s.again = ap (λ (x : Stored). x.again) does.4 in
      let grown : AreAgain e mid.hops.wire.datagrams mid.again repeated =
      subst (λ (bs : List (List ℕ)). AreAgain e mid.hops.wire.datagrams bs repeated) (sym same) (grown_again e s.hops.wire.datagrams mid.hops.wire.datagrams s.again repeated next.more again) in
      plain_comes e step rest s mid t forwarded repeated o (ap (λ (x : Stored). x.found) does.4) (store_comes rest mid t o.next repeated next.at next.kept o.written grown run.2)
  store_comes (steps.Keep k ∷ rest) s t forwarded repeated at kept written again run =
      let e : Forward = t.hops.forwarder in
      let does = run.1 in
      let next = later (steps.Keep k) s run.0 at kept does in
      kept_comes e k rest s run.0 t does.0 forwarded repeated does.2
      (store_comes rest run.0 t forwarded repeated next.at next.kept (subst (λ (x : Stored). AreForwarded e x.hops.wire.datagrams x.hops.written forwarded) (sym does.2) written)
      (subst (λ (x : Stored). AreAgain e x.hops.wire.datagrams x.again repeated) (sym does.2) again) run.2)
  store_comes (steps.Request number ∷ rest) s t forwarded repeated at kept written again run =
      let e : Forward = t.hops.forwarder in
      let mid : Stored = run.0 in
      let does = run.1 in
      let next = later (steps.Request number) s mid at kept does in
      let goes : GoesOn ssrc mid.hops.forwarder e = store_ends_on rest mid t next.at next.kept run.2 in
      let is = asked e number s does.0 does.1 does.2 at kept does.3 (subst (λ (x : Stored). GoesOn ssrc x.hops.forwarder e) does.4 goes) in
      let grown : AreAgain e mid.hops.wire.datagrams mid.again (repeated ++ is.0) =
      subst (λ (x : Stored). AreAgain e x.hops.wire.datagrams x.again (repeated ++ is.0)) (sym does.4)
      (again_append e s.hops.wire.datagrams s.again repeated (again_by does.0 does.1) is.0 again is.1) in
      let kept_written : AreForwarded e mid.hops.wire.datagrams mid.hops.written forwarded = subst (λ (x : Stored). AreForwarded e x.hops.wire.datagrams x.hops.written forwarded) (sym does.4) written in
      asked_comes e does.0 number does.1 rest s mid t forwarded repeated is.0 (ap (λ (x : Stored). x.hops.wire) does.4) (ap (λ (x : Stored). x.hops.answers) does.4) (ap (λ (x : Stored). x.found) does.4) is.2
      (store_comes rest mid t forwarded (repeated ++ is.0) next.at next.kept kept_written grown run.2)
  store_comes (steps.DeliverAgain j now ∷ rest) s t forwarded repeated at kept written again run =
      let e : Forward = t.hops.forwarder in
      let mid : Stored = run.0 in
      let next = later (steps.DeliverAgain j now) s mid at kept run.1 in
      let after = delivered_after e (slice_get s.again j) now s mid forwarded repeated run.1 written again in
      again_comes e (slice_get s.again j) j now rest s mid t forwarded repeated refl at again run.1
      (store_comes rest mid t forwarded repeated next.at next.kept after.0 after.1 run.2)
