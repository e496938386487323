-- A buffer that holds packets of several parts releases their units in order: those of earlier parts first.
use Rattle.std.proofs.Common.{◌≡◌, ◌≢◌, ◌∙◌, refl, sym, ap, subst, ℕ, ◌+◌, ◌<◌, ◌≤◌, not, cond, List, [], ◌∷◌, ◌++◌, Bool, true, false, Option, Some, None, Ok, Err, arith, length, ltb, inl, inr}
use Rattle.std.proofs.lemmas.Option.{slice_get_within}
use Rattle.codec_payload_base.specs.declared.error.PacketError.{PacketError}
use Rattle.codec_payload_base.specs.declared.error.PacketError.TheVariants as faults
use Rattle.codec_payload_buffer.proofs.PopLemmas.{order_due}
use Rattle.codec_payload_contiguity.specs.ContiguityTable.{checked}
use Rattle.codec_payload_buffer.specs.Frames.{frames}
use Rattle.codec_payload_buffer.specs.Held.{AllAbove, Held, IsAboveCutoff, Rises, above, between, has_number, placed}
use Rattle.codec_payload_metadata.specs.Release.{Release}
use Rattle.codec_payload_buffer.specs.Steps.{AllOfTime, Passes, PassesOver, PopsOver, Refuses, Releases, State, Unpacked, Unpacks, arrived, due_among, due_of, follows, is_dropped, kept_to_limit, metas_of, none, nothing_unpacked, one_more, packets_of_frame, pushed, without, without_lowest}
use Rattle.codec_payload_buffer.specs.declared.buffer.frames.CompleteFrame.{CompleteFrame}
use Rattle.codec_payload_metadata.specs.declared.meta.RtpMeta.{RtpMeta}
use Rattle.codec_payload_codec.proofs.CaseLemmas.{by_test}
use Rattle.codec_payload_codec.specs.Depacketizers.{DepacketizerKind, kind_of_depacketizer}
use Rattle.codec_payload_buffer_runs.proofs.order.ArrivalLemmas.{AllKnown}
use Rattle.codec_payload_buffer_runs.proofs.order.SafetyLemmas.{beyond_placed, beyond_without, given, next_after, not_refused, number_of_sent, released}
use Rattle.codec_payload_buffer_runs.proofs.order.TurnLemmas.{ArePushes, Beyond, FrameOf, IsPush, Setting, frame_due, passed_beyond}
use Rattle.codec_payload_buffer_runs.proofs.units.UnitRows.{exact_metas, held_as}
use Rattle.codec_payload_buffer_runs.specs.Arrivals.{Arrives, Asked, Event, Meets, PopsWaiting}
use Rattle.codec_payload_buffer_runs.specs.Headline.{ArePushesBy, InOrder, IsUnitAt, packets_before}
use Rattle.codec_payload_buffer_runs.specs.Schedule.{Answer}
use Rattle.codec_payload_buffer_runs.specs.SentStream.{SentUnit, packets_of}
use Rattle.codec_payload_payloader.specs.Packets.{Packet}
use Rattle.codec_payload_datagram_runs.specs.Deliveries.{IsCutoffBelow}
use Rattle.codec_payload_datagram_runs.proofs.JoinedFrames.{AllUnder, IsDueIn, above_earlier, above_later, between_earlier, between_later, due_in, due_under, earlier_in, has_later, in_earlier, in_later, later_in, placed_later}

-- the packets of a part alone, with a mark if the numbers do not follow; and after the release of a frame of a part
abbrev pub view_of : List Held → State → CompleteFrame → State
view_of new s f = record (later_in new s) { evicted = not (follows s f) }

abbrev pub left_of : List Held → State → CompleteFrame → State
left_of new t f = record t { held = above f.last new; hold_back = 0 }

pub not_not : (b : Bool) → not (not b) ≡ b
not_not true = refl
not_not false = refl

pub due_marked : (v : State) (b : Bool) (fs : List CompleteFrame) → due_among (record v { evicted = b }) fs ≡ due_among v fs
due_marked v b [] = refl
due_marked v b (f ∷ fs) = refl

-- a buffer of this format that holds packets below a bound, and is done with the units before `from`
pub record IsLow (kind : DepacketizerKind) (bound count from : ℕ) (s : State) : Type 0 where
  pub few : from ≤ count
  pub under : AllUnder bound s.held
  pub rises : Rises s.held
  pub cutoff : IsCutoffBelow bound s.cutoff
  pub reads : kind_of_depacketizer s.depacketizer ≡ kind

-- what is known of the buffers that hold packets of some parts: they release the first `count` of all units in order, and none of
-- them fails. `from` is the place of the next unit
pub record Order (known : ℕ → Packet → RtpMeta → Type 0) (splits : Bool) (units : List SentUnit) (kind : DepacketizerKind) (bound count : ℕ) : Type 1 where
  pub Is : ℕ → State → Type 0
  pub sound : (from : ℕ) (s : State) → Is from s → IsLow kind bound count from s
  pub waits : (from h : ℕ) (s : State) → Is from s → Is from (record s { hold_back = h })
  pub lowest : (from : ℕ) (s : State) → Is from s → Is from (without_lowest s s.held)
  pub over : (from : ℕ) (s t : State) → Is from s → PassesOver s t → Is from t
  pub releases : (from : ℕ) (s t : State) (r : Release) → Is from s → Releases s r t → (place : ℕ) × (from ≤ place) × IsUnitAt known splits units place r × Is (place + 1) t
  pub refuses : (from : ℕ) (s t : State) (fault : PacketError) → Is from s → Refuses s fault t → ⊥

-- Pops

module _ (known : ℕ → Packet → RtpMeta → Type 0) (splits : Bool) (units : List SentUnit) (kind : DepacketizerKind) (bound count : ℕ) (o : Order known splits units kind bound count) where
  passes_on : (from : ℕ) (s t : State) (over : List CompleteFrame) → o.Is from s → Passes s over t → o.Is from t
  passes_on from s t over is none = is
  passes_on from s u over is (one_more {t = t} passes p) = o.over from t u (passes_on from s t _ is passes) p

  pop_on : (from : ℕ) (s t : State) (over : List CompleteFrame) (a : Answer) (more : List Answer) → o.Is from s → a ≢ Some (Err faults.OutOfMemory) → PopsOver s over a t
      → ((n : ℕ) → o.Is n t → InOrder known splits units n more) → InOrder known splits units from (a ∷ more)
  pop_on from s t over None more is found pop later = later from (passes_on from s t over is pop.0)
  pop_on from s t over (Some (Ok r)) more is found pop later =
      let out = o.releases from pop.0 t r (passes_on from s pop.0 over is pop.1) pop.2 in
      (out.0, out.1, out.2, later (out.0 + 1) out.3)
  pop_on from s t over (Some (Err fault)) more is found pop later = elim pop.2 [
    | inl memory ↦ absurd (found (ap (λ f. Some (Err f)) memory.0))
    | inr refusal ↦ absurd (o.refuses from pop.0 t fault (passes_on from s pop.0 over is pop.1) refusal)
  ]

  -- a pop of a receiver
  pub waiting_on : (from : ℕ) (wait : Option ℕ) (s t : State) (a : Answer) (more : List Answer) → o.Is from s → PopsWaiting wait s a t
      → ((n : ℕ) → o.Is n t → InOrder known splits units n more) → InOrder known splits units from (a ∷ more)
  waiting_on from None s t a more is pops later =
      subst (λ (x : Answer). InOrder known splits units from (x ∷ more)) (sym pops.0) (later from (subst (o.Is from) (sym pops.1) is))
  waiting_on from (Some h) s t a more is pops later = pop_on from (record s { hold_back = h }) t pops.1.0 a more (o.waits from h s is) pops.0 pops.1.1 later

  -- the buffer after a pop
  pop_to : (from : ℕ) (s t : State) (over : List CompleteFrame) (a : Answer) → o.Is from s → a ≢ Some (Err faults.OutOfMemory) → PopsOver s over a t → (n : ℕ) × o.Is n t
  pop_to from s t over None is found pop = (from, passes_on from s t over is pop.0)
  pop_to from s t over (Some (Ok r)) is found pop =
      let out = o.releases from pop.0 t r (passes_on from s pop.0 over is pop.1) pop.2 in
      (out.0 + 1, out.3)
  pop_to from s t over (Some (Err fault)) is found pop = elim pop.2 [
    | inl memory ↦ absurd (found (ap (λ f. Some (Err f)) memory.0))
    | inr refusal ↦ absurd (o.refuses from pop.0 t fault (passes_on from s pop.0 over is pop.1) refusal)
  ]

  pub waiting_to : (from : ℕ) (wait : Option ℕ) (s t : State) (a : Answer) → o.Is from s → PopsWaiting wait s a t → (n : ℕ) × o.Is n t
  waiting_to from None s t a is pops = (from, subst (o.Is from) (sym pops.1) is)
  waiting_to from (Some h) s t a is pops = pop_to from (record s { hold_back = h }) t pops.1.0 a (o.waits from h s is) pops.0 pops.1.1

-- No part

pub nothing_due : (s : State) (f : CompleteFrame) → s.held ≡ [] → due_of s ≡ Some f → ⊥
nothing_due s f empty due =
    let here : None ≡ Some f = sym (ap (λ (hs : List Held). due_among s (frames hs)) empty) ∙ due in
    cc

-- an unused buffer
pub record IsEmpty (kind : DepacketizerKind) (from : ℕ) (s : State) : Type 0 where
  pub nothing_done : from ≡ 0
  pub nothing_held : s.held ≡ []
  pub no_cutoff : s.cutoff ≡ None
  pub reads : kind_of_depacketizer s.depacketizer ≡ kind

abbrev pub no_parts : (known : ℕ → Packet → RtpMeta → Type 0) (splits : Bool) (units : List SentUnit) (kind : DepacketizerKind) → Order known splits units kind 0 0
no_parts known splits units kind = record {
  Is = IsEmpty kind;
  sound = λ from s is. record {
    few = omega (arith, is.nothing_done);
    under = subst (AllUnder 0) (sym is.nothing_held) tt;
    rises = subst Rises (sym is.nothing_held) tt;
    cutoff = subst (IsCutoffBelow 0) (sym is.no_cutoff) tt;
    reads = is.reads;
  };
  waits = λ from h s is. record { nothing_done = is.nothing_done; nothing_held = is.nothing_held; no_cutoff = is.no_cutoff; reads = is.reads };
  lowest = λ from s is. subst (λ (hs : List Held). IsEmpty kind from (without_lowest s hs)) (sym is.nothing_held) is;
  over = λ from s t is p. absurd (nothing_due s p.frame is.nothing_held p.is_due);
  releases = λ from s t r is out. absurd (nothing_due s out.frame is.nothing_held out.is_due);
  refuses = λ from s t fault is refusal. nothing_due s refusal.frame is.nothing_held refusal.is_due;
}

-- One more part

module _ (known : ℕ → Packet → RtpMeta → Type 0) (splits : Bool) (units : List SentUnit) (kind : DepacketizerKind) (bound count : ℕ) (o : Order known splits units kind bound count)
    (c : Setting) (same_kind : c.kind ≡ kind) (gap : bound < c.first) (next : ℕ) (grows : bound ≤ next)
    (within : (k : ℕ) (q : Packet) (m : RtpMeta) → c.known k q m → c.first + k < next)
    (embeds : (j : ℕ) (r : Release) → IsUnitAt c.known c.splits c.units j r → IsUnitAt known splits units (count + j) r) where
  -- the buffer holds packets of earlier parts and of this part, and released no unit of this part; or it is done with the earlier
  -- parts
  pub data IsLayered (from : ℕ) (s : State) : Type 0 where
    before : (old new : List Held) → s.held ≡ old ++ new → o.Is from (earlier_in old s) → Beyond c 0 (later_in new s) → IsLayered from s
    beyond : (j : ℕ) → from ≤ count + j → j ≤ length c.units → IsCutoffBelow next s.cutoff → Beyond c j s → IsLayered from s

  pub number_is : (p : Held) (i : IsPush c p) → p.meta.seq_no.0 ≡ c.first + i.0
  number_is p i = number_of_sent c.known c.clock_rate c.first c.kind c.faithful c.splits c.units c.lawful c.numbered p i

  pub number_low : (p : Held) → IsPush c p → p.meta.seq_no.0 < next
  number_low p i = let number = number_is p i in let low = within i.0 i.1 p.meta i.3 in omega (arith, number, low)

  pub number_high : (p : Held) → IsPush c p → bound < p.meta.seq_no.0
  number_high p i = let number = number_is p i in omega (arith, number, gap)

  pub all_low : (hs : List Held) → ArePushes c hs → AllUnder next hs
  all_low [] sent = tt
  all_low (p ∷ ps) sent = (number_low p sent.0, all_low ps sent.1)

  pub all_high : (hs : List Held) → ArePushes c hs → AllAbove bound hs
  all_high [] sent = tt
  all_high (p ∷ ps) sent = (number_high p sent.0, all_high ps sent.1)

  pub same_beyond : (j : ℕ) (x y : State) → y.held ≡ x.held → y.cutoff ≡ x.cutoff → kind_of_depacketizer y.depacketizer ≡ c.kind → Beyond c j x → Beyond c j y
  same_beyond j x y held cutoff reads is = record {
    rises = subst Rises (sym held) is.rises;
    beyond = subst (λ (hs : List Held). IsAboveCutoff y.cutoff hs) (sym held) (subst (λ (m : Option ℕ). IsAboveCutoff m x.held) (sym cutoff) is.beyond);
    sent = subst (ArePushes c) (sym held) is.sent;
    floor = subst (λ (m : Option ℕ). c.first + packets_before j c.units ≤ next_after c.first m) (sym cutoff) is.floor;
    reads = reads;
  }

  -- what is known of both lists
  pub low_in : (from : ℕ) (old : List Held) (s : State) → o.Is from (earlier_in old s) → IsLow kind bound count from (earlier_in old s)
  low_in from old s is = o.sound from (earlier_in old s) is

  under_joined : (old new : List Held) → AllUnder bound old → AllUnder next new → AllUnder next (old ++ new)
  under_joined [] new low high = high
  under_joined (p ∷ old) new low high = (omega (arith, low.0, grows), under_joined old new low.1 high)

  above_joined : (n : ℕ) (old new : List Held) → AllAbove n old → n < bound → AllAbove bound new → AllAbove n (old ++ new)
  above_joined n [] [] rises low high = tt
  above_joined n [] (p ∷ new) rises low high = (omega (arith, low, high.0), above_joined n [] new tt low high.1)
  above_joined n (p ∷ old) new rises low high = (rises.0, above_joined n old new rises.1 low high)

  rises_joined : (old new : List Held) → Rises old → Rises new → AllUnder bound old → AllAbove bound new → Rises (old ++ new)
  rises_joined [] new ro rn low high = rn
  rises_joined (p ∷ old) new ro rn low high = (above_joined p.meta.seq_no.0 old new ro.0 low.0 high, rises_joined old new ro.1 rn low.1 high)

  pub layered_low : (from : ℕ) (s : State) → IsLayered from s → IsLow kind next (count + length c.units) from s
  layered_low from s (before old new held is new_is) =
      let low = low_in from old s is in
      record {
        few = omega (arith, low.few);
        under = subst (AllUnder next) (sym held) (under_joined old new low.under (all_low new new_is.sent));
        rises = subst Rises (sym held) (rises_joined old new low.rises new_is.rises low.under (all_high new new_is.sent));
        cutoff = lower s.cutoff low.cutoff;
        reads = low.reads;
      }
    where
      lower : (m : Option ℕ) → IsCutoffBelow bound m → IsCutoffBelow next m
      lower None under = tt
      lower (Some n) under = omega (arith, under, grows)
  layered_low from s (beyond j few place cutoff is) =
      record { few = omega (arith, few, place); under = all_low s.held is.sent; rises = is.rises; cutoff = cutoff; reads = is.reads ∙ same_kind }

  pub layered_waits : (from h : ℕ) (s : State) → IsLayered from s → IsLayered from (record s { hold_back = h })
  layered_waits from h s (before old new held is new_is) = before old new held is new_is
  layered_waits from h s (beyond j few place cutoff is) = beyond j few place cutoff (same_beyond j s (record s { hold_back = h }) refl refl is.reads is)

  -- the lowest packet is evicted
  beyond_lowest : (j : ℕ) (s : State) (p : Held) (ps : List Held) → s.held ≡ p ∷ ps → Beyond c j s → Beyond c j (without_lowest s (p ∷ ps))
  beyond_lowest j s p ps held is =
      let rises : Rises (p ∷ ps) = subst Rises held is.rises in
      let sent : ArePushes c (p ∷ ps) = subst (ArePushes c) held is.sent in
      let over : next_after c.first s.cutoff ≤ p.meta.seq_no.0 = next_le s.cutoff (subst (IsAboveCutoff s.cutoff) held is.beyond) sent.0.0 (number_is p sent.0) in
      record { rises = rises.1; beyond = rises.0; sent = sent.1; floor = omega (arith, is.floor, over); reads = is.reads }
    where
      next_le : (cutoff : Option ℕ) → IsAboveCutoff cutoff (p ∷ ps) → (n : ℕ) → p.meta.seq_no.0 ≡ c.first + n → next_after c.first cutoff ≤ p.meta.seq_no.0
      next_le None a n number = omega (arith, number)
      next_le (Some m) a n number = omega (arith, a.0)

  pub layered_lowest : (from : ℕ) (s : State) → IsLayered from s → IsLayered from (without_lowest s s.held)
  layered_lowest from s (before (q ∷ old) new held is new_is) =
      let t : State = record s { held = old ++ new; cutoff = Some q.meta.seq_no.0; evicted = true } in
      let left : IsLayered from t = before old new refl (o.lowest from (earlier_in (q ∷ old) s) is) (same_beyond 0 (later_in new s) (later_in new t) refl refl new_is.reads new_is) in
      subst (λ (hs : List Held). IsLayered from (without_lowest s hs)) (sym held) left
  layered_lowest from s (before [] [] held is new_is) = subst (λ (hs : List Held). IsLayered from (without_lowest s hs)) (sym held) (before [] [] held is new_is)
  layered_lowest from s (before [] (p ∷ new) held is new_is) =
      let t : State = without_lowest s (p ∷ new) in
      let low = low_in from [] s is in
      let sent : ArePushes c (p ∷ new) = new_is.sent in
      let after : Beyond c 0 (without_lowest (later_in (p ∷ new) s) (p ∷ new)) = beyond_lowest 0 (later_in (p ∷ new) s) p new refl new_is in
      let left : IsLayered from t = beyond 0 (omega (arith, low.few)) (omega arith) (number_low p sent.0) (same_beyond 0 (without_lowest (later_in (p ∷ new) s) (p ∷ new)) t refl refl new_is.reads after) in
      subst (λ (hs : List Held). IsLayered from (without_lowest s hs)) (sym held) left
  layered_lowest from s (beyond j few place cutoff is) = by_held s.held refl
    where
      by_held : (hs : List Held) → s.held ≡ hs → IsLayered from (without_lowest s hs)
      by_held [] held = beyond j few place cutoff is
      by_held (p ∷ ps) held =
          let sent : ArePushes c (p ∷ ps) = subst (ArePushes c) held is.sent in
          beyond j few place (number_low p sent.0) (beyond_lowest j s p ps held is)

  -- a push
  layered_kept : (from : ℕ) (s : State) → IsLayered from s → IsLayered from (kept_to_limit s)
  layered_kept from s is =
      by_test (ltb s.limit (length s.held)) (λ b. IsLayered from (cond b (without_lowest s s.held) s)) (λ e. layered_lowest from s is) (λ e. is)

  layered_placed : (from : ℕ) (s : State) (p : Held) → IsPush c p → is_dropped s p.meta.seq_no.0 ≡ false → IsLayered from s → IsLayered from (record s { held = placed p s.held })
  layered_placed from s p push fresh (before old new held is new_is) =
      let t : State = record s { held = placed p s.held } in
      let low = low_in from old s is in
      let high = number_high p push in
      let absent : has_number p.meta.seq_no.0 s.held ≡ false = grind (arith, fresh) in
      let new_to : has_number p.meta.seq_no.0 new ≡ false =
      sym (has_later bound p.meta.seq_no.0 old new high low.under) ∙ (ap (has_number p.meta.seq_no.0) (sym held) ∙ absent) in
      let there : Beyond c 0 (record (later_in new s) { held = placed p new }) =
      beyond_placed c.known c.clock_rate c.first c.kind c.faithful c.splits c.units c.lawful c.numbered 0 (later_in new s) p push refl new_to new_is in
      before old (placed p new) (ap (placed p) held ∙ placed_later bound p old new high low.under) is there
  layered_placed from s p push fresh (beyond j few place cutoff is) =
      beyond j few place cutoff (beyond_placed c.known c.clock_rate c.first c.kind c.faithful c.splits c.units c.lawful c.numbered j s p push (grind (arith, fresh)) (grind (arith, fresh)) is)

  pub layered_pushed : (from : ℕ) (s : State) (p : Held) → IsPush c p → IsLayered from s → IsLayered from (pushed s p)
  layered_pushed from s p push is =
      by_test (is_dropped s p.meta.seq_no.0) (λ b. IsLayered from (cond b s (kept_to_limit (record s { held = placed p s.held })))) (λ e. is)
      (λ e. layered_kept from (record s { held = placed p s.held }) (layered_placed from s p push e is))

  -- A frame of an earlier part that is due

  -- its packets, and what remains
  pub record IsEarlierFrame (old new : List Held) (s : State) (f : CompleteFrame) : Type 0 where
    pub packets : packets_of_frame s f ≡ packets_of_frame (earlier_in old s) f
    pub left : above f.last s.held ≡ above f.last old ++ new

  pub earlier_frame : (from : ℕ) (old new : List Held) (s : State) (f : CompleteFrame) → s.held ≡ old ++ new → o.Is from (earlier_in old s) → Beyond c 0 (later_in new s)
      → due_of (earlier_in old s) ≡ Some f → IsEarlierFrame old new s f
  earlier_frame from old new s f held is new_is due =
      let low = low_in from old s is in
      let last : f.last < bound = due_under bound (earlier_in old s) f low.under due in
      let high = all_high new new_is.sent in
      record {
        packets = ap (between f.first f.last) held ∙ between_earlier bound f.first f.last old new last high;
        left = ap (above f.last) held ∙ above_earlier bound f.last old new last high;
      }

  -- A frame of this part that is due

  pub record IsLaterFrame (old new : List Held) (s : State) (f : CompleteFrame) : Type 0 where
    pub packets : packets_of_frame s f ≡ packets_of_frame (later_in new s) f
    pub left : above f.last s.held ≡ above f.last new
    pub low : f.last < next

  pub later_frame : (from : ℕ) (old new : List Held) (s : State) (f : CompleteFrame) → s.held ≡ old ++ new → o.Is from (earlier_in old s) → (new_is : Beyond c 0 (later_in new s))
      → due_of (later_in new s) ≡ Some f → IsLaterFrame old new s f
  later_frame from old new s f held is new_is due =
      let low = low_in from old s is in
      let frame : FrameOf c 0 (later_in new s) f = frame_due c 0 (later_in new s) f new_is due in
      let first : bound ≤ f.first = omega (arith, frame.start, gap) in
      let last : bound ≤ f.last = let order = order_due (later_in new s) f due in omega (arith, first, order) in
      record {
        packets = ap (between f.first f.last) held ∙ between_later bound f.first f.last old new first low.under;
        left = ap (above f.last) held ∙ above_later bound f.last old new last low.under;
        low = due_under next (later_in new s) f (all_low new new_is.sent) due;
      }

  -- the buffer after it has left
  after_later : (from n : ℕ) (old new : List Held) (s t : State) (f : CompleteFrame) (held : s.held ≡ old ++ new) (is : o.Is from (earlier_in old s)) (new_is : Beyond c 0 (later_in new s))
      (due : due_of (later_in new s) ≡ Some f) → c.first + packets_before n c.units ≤ f.last + 1 → t.held ≡ above f.last s.held → t.cutoff ≡ Some f.last
      → kind_of_depacketizer t.depacketizer ≡ c.kind → Beyond c n t
  after_later from n old new s t f held is new_is due floor left cutoff reads =
      let later = later_frame from old new s f held is new_is due in
      let there : Beyond c n (without (later_in new s) f t.depacketizer s.contiguity s.evicted) =
      beyond_without c.known c.clock_rate c.first c.kind c.faithful c.splits c.units c.lawful c.numbered 0 (later_in new s) f new_is due n floor t.depacketizer reads s.contiguity s.evicted in
      same_beyond n (without (later_in new s) f t.depacketizer s.contiguity s.evicted) t (left ∙ later.left) cutoff reads there

  cutoff_at : (n : ℕ) (m : Option ℕ) → m ≡ Some n → n < next → IsCutoffBelow next m
  cutoff_at n m is low = subst (IsCutoffBelow next) (sym is) low

  -- the buffer after a frame of an earlier part has left
  pub record HasLeft (from : ℕ) (old new : List Held) (s t : State) (f : CompleteFrame) : Type 0 where
    pub held : t.held ≡ above f.last old ++ new
    pub earlier : o.Is from (earlier_in (above f.last old) t)

  -- the skip, as one of the earlier packets alone
  abbrev pub earlier_skip : (from : ℕ) (old new : List Held) (s t : State) (p : PassesOver s t) → s.held ≡ old ++ new → o.Is from (earlier_in old s) → Beyond c 0 (later_in new s)
      → due_of (earlier_in old s) ≡ Some p.frame → PassesOver (earlier_in old s) (earlier_in (above p.frame.last old) t)
  earlier_skip from old new s t p held is new_is due =
      let f : CompleteFrame = p.frame in
      let frame = earlier_frame from old new s f held is new_is due in
      record {
        frame = f;
        is_due = due;
        unpacked = p.unpacked;
        depacketizer = p.depacketizer;
        gives = subst (λ (ps : List Held). Unpacks s.depacketizer ps nothing_unpacked (Ok p.unpacked) p.depacketizer) frame.packets p.gives;
        may_not = p.may_not;
        left = ap (earlier_in (above f.last old)) p.left;
      }

  pub earlier_over : (from : ℕ) (old new : List Held) (s t : State) (p : PassesOver s t) → s.held ≡ old ++ new → o.Is from (earlier_in old s) → Beyond c 0 (later_in new s)
      → due_of (earlier_in old s) ≡ Some p.frame → HasLeft from old new s t p.frame
  earlier_over from old new s t p held is new_is due =
      let frame = earlier_frame from old new s p.frame held is new_is due in
      record {
        held = ap (λ (x : State). x.held) p.left ∙ frame.left;
        earlier = o.over from (earlier_in old s) (earlier_in (above p.frame.last old) t) is (earlier_skip from old new s t p held is new_is due);
      }

  pub record HasReleased (from : ℕ) (old new : List Held) (s t : State) (r : Release) (f : CompleteFrame) : Type 0 where
    pub place : ℕ
    pub not_before : from ≤ place
    pub unit : IsUnitAt known splits units place r
    pub left : HasLeft (place + 1) old new s t f

  -- the release, as one of the earlier packets alone
  abbrev pub earlier_one : (from : ℕ) (old new : List Held) (s t : State) (r : Release) (out : Releases s r t) → s.held ≡ old ++ new → o.Is from (earlier_in old s) → Beyond c 0 (later_in new s)
      → due_of (earlier_in old s) ≡ Some out.frame → Releases (earlier_in old s) r (earlier_in (above out.frame.last old) t)
  earlier_one from old new s t r out held is new_is due =
      let f : CompleteFrame = out.frame in
      let frame = earlier_frame from old new s f held is new_is due in
      record {
        frame = f;
        is_due = due;
        depacketizer = out.depacketizer;
        gives = subst (λ (ps : List Held). Unpacks s.depacketizer ps nothing_unpacked (Ok (record { bytes = r.bytes; extra = r.codec_extra })) out.depacketizer) frame.packets out.gives;
        may = out.may;
        time = subst (AllOfTime r.time) frame.packets out.time;
        metas = out.metas ∙ ap metas_of frame.packets;
        contiguous = out.contiguous;
        left = ap (earlier_in (above f.last old)) out.left;
      }

  pub earlier_releases : (from : ℕ) (old new : List Held) (s t : State) (r : Release) (out : Releases s r t) → s.held ≡ old ++ new → o.Is from (earlier_in old s) → Beyond c 0 (later_in new s)
      → due_of (earlier_in old s) ≡ Some out.frame → HasReleased from old new s t r out.frame
  earlier_releases from old new s t r out held is new_is due =
      let frame = earlier_frame from old new s out.frame held is new_is due in
      let after = o.releases from (earlier_in old s) (earlier_in (above out.frame.last old) t) r is (earlier_one from old new s t r out held is new_is due) in
      record {
        place = after.0;
        not_before = after.1;
        unit = after.2;
        left = record { held = ap (λ (x : State). x.held) out.left ∙ frame.left; earlier = after.3 };
      }

  -- the release, as one of the packets of this part alone
  abbrev pub later_one : (from : ℕ) (old new : List Held) (s t : State) (r : Release) (out : Releases s r t) → s.held ≡ old ++ new → o.Is from (earlier_in old s) → Beyond c 0 (later_in new s)
      → due_of (later_in new s) ≡ Some out.frame → Releases (view_of new s out.frame) r (left_of new t out.frame)
  later_one from old new s t r out held is new_is due =
      let f : CompleteFrame = out.frame in
      let later = later_frame from old new s f held is new_is due in
      let same : follows (view_of new s f) f ≡ follows s f = not_not (follows s f) in
      record {
        frame = f;
        is_due = due_marked (later_in new s) (not (follows s f)) (frames new) ∙ due;
        depacketizer = out.depacketizer;
        gives = subst (λ (ps : List Held). Unpacks s.depacketizer ps nothing_unpacked (Ok (record { bytes = r.bytes; extra = r.codec_extra })) out.depacketizer) later.packets out.gives;
        may = ap (λ (b : Bool). (checked s.contiguity r.codec_extra b).0) same ∙ out.may;
        time = subst (AllOfTime r.time) later.packets out.time;
        metas = out.metas ∙ ap metas_of later.packets;
        contiguous = out.contiguous ∙ ap (λ (b : Bool). (checked s.contiguity r.codec_extra b).1) (sym same);
        left = ap (λ (x : State). record x { held = above f.last new; hold_back = 0 }) out.left
            ∙ ap (λ (b : Bool). without (view_of new s f) f out.depacketizer (checked s.contiguity r.codec_extra b).2 false) (sym same);
      }

  -- packets of this part stay
  pub new_stays : (from : ℕ) (old new : List Held) (s t : State) → o.Is from (earlier_in old t) → Beyond c 0 (later_in new s) → Beyond c 0 (later_in new t)
  new_stays from old new s t is new_is =
      let reads = (low_in from old t is).reads in
      same_beyond 0 (later_in new s) (later_in new t) refl refl (reads ∙ sym same_kind) new_is

  -- Frames that are skipped

  pub layered_over : (from : ℕ) (s t : State) → IsLayered from s → PassesOver s t → IsLayered from t
  layered_over from s t (beyond j few place cutoff is) p =
      beyond j few place (cutoff_at p.frame.last t.cutoff (ap (λ (x : State). x.cutoff) p.left) (due_under next s p.frame (all_low s.held is.sent) p.is_due)) (passed_beyond c j s t (p.frame ∷ []) is (one_more none p))
  layered_over from s t (before old new held is new_is) p =
      by_part (due_in bound old new s p.frame held (low_in from old s is).under (all_high new new_is.sent) p.is_due)
    where
      by_part : IsDueIn old new s p.frame → IsLayered from t
      by_part (in_earlier due) =
          let left = earlier_over from old new s t p held is new_is due in
          before (above p.frame.last old) new left.held left.earlier (new_stays from (above p.frame.last old) new s t left.earlier new_is)
      by_part (in_later no_frames due) =
          let f : CompleteFrame = p.frame in
          let later = later_frame from old new s f held is new_is due in
          let frame : FrameOf c 0 (later_in new s) f = frame_due c 0 (later_in new s) f new_is due in
          let order = order_due (later_in new s) f due in
          let gives = subst (λ (ps : List Held). Unpacks s.depacketizer ps nothing_unpacked (Ok p.unpacked) p.depacketizer) later.packets p.gives in
          let reads = (given c.known c.clock_rate c.first c.kind c.faithful c.splits c.units c.lawful c.numbered 0 (later_in new s) f new_is due (Ok p.unpacked) p.depacketizer gives).0 in
          let low = low_in from old s is in
          beyond 0 (omega (arith, low.few)) (omega arith) (cutoff_at f.last t.cutoff (ap (λ (x : State). x.cutoff) p.left) later.low)
          (after_later from 0 old new s t f held is new_is due (omega (arith, frame.start, order)) (ap (λ (x : State). x.held) p.left) (ap (λ (x : State). x.cutoff) p.left)
          (ap (λ (x : State). kind_of_depacketizer x.depacketizer) p.left ∙ reads))

  -- Units

  pub layered_releases : (from : ℕ) (s t : State) (r : Release) → IsLayered from s → Releases s r t → (place : ℕ) × (from ≤ place) × IsUnitAt known splits units place r × IsLayered (place + 1) t
  layered_releases from s t r (beyond j few place cutoff is) out =
      let unit = released c.known c.clock_rate c.first c.kind c.faithful c.splits c.units c.lawful c.numbered j s t r is out in
      let there = slice_get_within c.units unit.0 unit.2.sent unit.2.at_place in (
        count + unit.0,
        omega (arith, few, unit.1),
        embeds unit.0 r unit.2,
        beyond (unit.0 + 1) (omega arith) (omega (arith, there))
            (cutoff_at out.frame.last t.cutoff (ap (λ (x : State). x.cutoff) out.left) (due_under next s out.frame (all_low s.held is.sent) out.is_due)) unit.3,
      )
  layered_releases from s t r (before old new held is new_is) out =
      by_part (due_in bound old new s out.frame held (low_in from old s is).under (all_high new new_is.sent) out.is_due)
    where
      by_part : IsDueIn old new s out.frame → (place : ℕ) × (from ≤ place) × IsUnitAt known splits units place r × IsLayered (place + 1) t
      by_part (in_earlier due) =
          let gone = earlier_releases from old new s t r out held is new_is due in
          let rest : List Held = above out.frame.last old in
          (gone.place, gone.not_before, gone.unit, before rest new gone.left.held gone.left.earlier (new_stays (gone.place + 1) rest new s t gone.left.earlier new_is))
      by_part (in_later no_frames due) =
          let f : CompleteFrame = out.frame in
          let later = later_frame from old new s f held is new_is due in
          let frame : FrameOf c 0 (later_in new s) f = frame_due c 0 (later_in new s) f new_is due in
          let unpacked : Unpacked = record { bytes = r.bytes; extra = r.codec_extra } in
          let gives = subst (λ (ps : List Held). Unpacks s.depacketizer ps nothing_unpacked (Ok unpacked) out.depacketizer) later.packets out.gives in
          let answer = given c.known c.clock_rate c.first c.kind c.faithful c.splits c.units c.lawful c.numbered 0 (later_in new s) f new_is due (Ok unpacked) out.depacketizer gives in
          let metas : r.metas ≡ metas_of frame.packets = out.metas ∙ (ap metas_of later.packets ∙ ap metas_of frame.are) in
          let low = low_in from old s is in
          let there = slice_get_within c.units frame.place frame.sent frame.at_place in
          let unit : IsUnitAt c.known c.splits c.units frame.place r = record {
            sent = frame.sent;
            at_place = frame.at_place;
            missing = frame.missing;
            rest = frame.rest;
            whole = frame.whole;
            bytes = answer.1;
            metas = subst (ArePushesBy c.known (packets_before frame.place c.units + length frame.missing) frame.rest) (sym metas)
                (exact_metas c.known c.clock_rate c.kind c.faithful (packets_before frame.place c.units + length frame.missing) frame.rest frame.packets frame.exact);
          } in (
            count + frame.place,
            omega (arith, low.few),
            embeds frame.place r unit,
            beyond (frame.place + 1) (omega arith) (omega (arith, there)) (cutoff_at f.last t.cutoff (ap (λ (x : State). x.cutoff) out.left) later.low)
                (after_later from (frame.place + 1) old new s t f held is new_is due (omega (arith, frame.stop)) (ap (λ (x : State). x.held) out.left) (ap (λ (x : State). x.cutoff) out.left)
                (ap (λ (x : State). kind_of_depacketizer x.depacketizer) out.left ∙ answer.0)),
          )

  -- Refusals

  pub layered_refuses : (from : ℕ) (s t : State) (fault : PacketError) → IsLayered from s → Refuses s fault t → ⊥
  layered_refuses from s t fault (beyond j few place cutoff is) refusal = not_refused c.known c.clock_rate c.first c.kind c.faithful c.splits c.units c.lawful c.numbered j s t fault is refusal
  layered_refuses from s t fault (before old new held is new_is) refusal =
      by_part (due_in bound old new s refusal.frame held (low_in from old s is).under (all_high new new_is.sent) refusal.is_due)
    where
      by_part : IsDueIn old new s refusal.frame → ⊥
      by_part (in_earlier due) =
          let f : CompleteFrame = refusal.frame in
          let frame = earlier_frame from old new s f held is new_is due in
          let rest : List Held = above f.last old in
          o.refuses from (earlier_in old s) (earlier_in rest t) fault is (record {
            frame = f;
            is_due = due;
            depacketizer = refusal.depacketizer;
            not_memory = refusal.not_memory;
            gives = subst (λ (ps : List Held). Unpacks s.depacketizer ps nothing_unpacked (Err fault) refusal.depacketizer) frame.packets refusal.gives;
            left = ap (earlier_in rest) refusal.left;
          })
      by_part (in_later no_frames due) =
          let f : CompleteFrame = refusal.frame in
          let later = later_frame from old new s f held is new_is due in
          let gives = subst (λ (ps : List Held). Unpacks s.depacketizer ps nothing_unpacked (Err fault) refusal.depacketizer) later.packets refusal.gives in
          refusal.not_memory (given c.known c.clock_rate c.first c.kind c.faithful c.splits c.units c.lawful c.numbered 0 (later_in new s) f new_is due (Err fault) refusal.depacketizer gives).1

  abbrev pub one_more_part : Order known splits units kind next (count + length c.units)
  one_more_part = record {
    Is = IsLayered;
    sound = layered_low;
    waits = layered_waits;
    lowest = layered_lowest;
    over = layered_over;
    releases = layered_releases;
    refuses = layered_refuses;
  }

  -- the restart: nothing of this part is there yet
  pub begins_part : (from : ℕ) (s : State) → o.Is from s → IsLayered from s
  begins_part from s is =
      let low = o.sound from s is in
      let there : Beyond c 0 (later_in [] s) = record { rises = tt; beyond = tt; sent = tt; floor = omega arith; reads = low.reads ∙ sym same_kind } in
      before s.held [] (sym (append_nil s.held)) (o.waits from 0 s is) there
    where
      append_nil : (hs : List Held) → hs ++ [] ≡ hs
      append_nil [] = refl
      append_nil (h ∷ hs) = ap (λ (ps : List Held). h ∷ ps) (append_nil hs)

  -- the events of the part
  pub events_in_order : (from : ℕ) (events : List Event) (s t : State) (answers more : List Answer) → AllKnown c events → IsLayered from s → Meets c.clock_rate (packets_of c.units) events s answers t
      → ((n : ℕ) → IsLayered n t → InOrder known splits units n more) → InOrder known splits units from (answers ++ more)
  events_in_order from [] s t answers more all is meets later =
      subst (λ (as' : List Answer). InOrder known splits units from (as' ++ more)) (sym meets.0) (later from (subst (IsLayered from) (sym meets.1) is))
  events_in_order from (Arrives k meta ∷ events) s t answers more all is meets later =
      let q : Packet = meets.0 in
      let p : Held = arrived s.depacketizer meta q.payload in
      let reads : kind_of_depacketizer s.depacketizer ≡ c.kind = (layered_low from s is).reads ∙ sym same_kind in
      let push : IsPush c p = (k, q, meets.1, all k meta (inl refl) q meets.2, ap (λ (x : DepacketizerKind). held_as x meta q.payload) reads) in
      events_in_order from events (pushed s p) t answers more (λ j m there. all j m (inr there)) (layered_pushed from s p push is) meets.3 later
  events_in_order from (Asked wait ∷ events) s t answers more all is meets later =
      subst (λ (as' : List Answer). InOrder known splits units from (as' ++ more)) (sym meets.3)
      (waiting_on known splits units kind next (count + length c.units) one_more_part from wait s meets.2 meets.0 (meets.1 ++ more) is meets.4
      (λ n there. events_in_order n events meets.2 t meets.1 more (λ j m at. all j m (inr at)) there meets.5 later))

  -- the buffer after them
  pub events_to : (from : ℕ) (events : List Event) (s t : State) (answers : List Answer) → AllKnown c events → IsLayered from s → Meets c.clock_rate (packets_of c.units) events s answers t
      → (n : ℕ) × IsLayered n t
  events_to from [] s t answers all is meets = (from, subst (IsLayered from) (sym meets.1) is)
  events_to from (Arrives k meta ∷ events) s t answers all is meets =
      let q : Packet = meets.0 in
      let p : Held = arrived s.depacketizer meta q.payload in
      let reads : kind_of_depacketizer s.depacketizer ≡ c.kind = (layered_low from s is).reads ∙ sym same_kind in
      let push : IsPush c p = (k, q, meets.1, all k meta (inl refl) q meets.2, ap (λ (x : DepacketizerKind). held_as x meta q.payload) reads) in
      events_to from events (pushed s p) t answers (λ j m there. all j m (inr there)) (layered_pushed from s p push is) meets.3
  events_to from (Asked wait ∷ events) s t answers all is meets =
      let after = waiting_to known splits units kind next (count + length c.units) one_more_part from wait s meets.2 meets.0 is meets.4 in
      events_to after.0 events meets.2 t meets.1 (λ j m at. all j m (inr at)) after.1 meets.5

-- The limit stays

lowest_limit : (s : State) (hs : List Held) → (without_lowest s hs).limit ≡ s.limit
lowest_limit s [] = refl
lowest_limit s (p ∷ ps) = refl

pushed_limit : (s : State) (p : Held) → (pushed s p).limit ≡ s.limit
pushed_limit s p =
    let more : State = record s { held = placed p s.held } in
    by_test (is_dropped s p.meta.seq_no.0) (λ b. (cond b s (kept_to_limit more)).limit ≡ s.limit) (λ e. refl)
    (λ e. by_test (ltb s.limit (length more.held)) (λ b. (cond b (without_lowest more more.held) more).limit ≡ s.limit) (λ f. lowest_limit more more.held) (λ f. refl))

passes_limit : (s t : State) (over : List CompleteFrame) → Passes s over t → t.limit ≡ s.limit
passes_limit s t over none = refl
passes_limit s u over (one_more {t = t} passes p) = ap (λ (x : State). x.limit) p.left ∙ passes_limit s t _ passes

pops_limit : (s t : State) (over : List CompleteFrame) (a : Answer) → PopsOver s over a t → t.limit ≡ s.limit
pops_limit s t over None pop = passes_limit s t over pop.0
pops_limit s t over (Some (Ok r)) pop = ap (λ (x : State). x.limit) pop.2.left ∙ passes_limit s pop.0 over pop.1
pops_limit s t over (Some (Err fault)) pop = elim pop.2 [
  | inl memory ↦ ap (λ (x : State). x.limit) memory.1.left ∙ passes_limit s pop.0 over pop.1
  | inr refusal ↦ ap (λ (x : State). x.limit) refusal.left ∙ passes_limit s pop.0 over pop.1
]

waiting_limit : (wait : Option ℕ) (s t : State) (a : Answer) → PopsWaiting wait s a t → t.limit ≡ s.limit
waiting_limit None s t a pops = ap (λ (x : State). x.limit) pops.1
waiting_limit (Some h) s t a pops = pops_limit (record s { hold_back = h }) t pops.1.0 a pops.1.1

pub meets_limit : (rate : ℕ) (packets : List Packet) (events : List Event) (s t : State) (answers : List Answer) → Meets rate packets events s answers t → t.limit ≡ s.limit
meets_limit rate packets [] s t answers meets = ap (λ (x : State). x.limit) meets.1
meets_limit rate packets (Arrives k meta ∷ events) s t answers meets =
    let p : Held = arrived s.depacketizer meta meets.0.payload in
    meets_limit rate packets events (pushed s p) t answers meets.3 ∙ pushed_limit s p
meets_limit rate packets (Asked wait ∷ events) s t answers meets =
    meets_limit rate packets events meets.2 t meets.1 meets.5 ∙ waiting_limit wait s meets.2 meets.0 meets.4
