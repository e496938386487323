-- The turns of a part: what a buffer with packets of earlier parts and of this part does at each pop.
use Rattle.std.proofs.Common.{◌≡◌, ◌≢◌, ◌∙◌, refl, sym, ap, subst, ℕ, suc, ◌+◌, ◌-◌, ◌<◌, ◌≤◌, ◌⊎◌, ◌||◌, inl, inr, List, [], ◌∷◌, ◌++◌, Bool, true, false, Option, Some, None, Ok, Err, arith, eqb, length}
use Rattle.std.specs.Prelude.{Contains, slice_get}
use Rattle.std.proofs.lemmas.Bool.Decides.{nat_tests}
use Rattle.codec_payload_base.specs.Time.{Time}
use Rattle.codec_payload_base.specs.declared.error.PacketError.TheVariants as faults
use Rattle.codec_payload_buffer.proofs.FrameParts.{BeginsWithHead, IsRun}
use Rattle.codec_payload_buffer.proofs.FrontLemmas.{ends_here, goes_on, walk}
use Rattle.codec_payload_buffer.specs.Frames.{ended_at, frame_at, frames, frames_after, lowest_head, row_before}
use Rattle.codec_payload_buffer.specs.Held.{AllAbove, Held, above, has_number, number_of}
use Rattle.codec_payload_metadata.specs.Release.{Release}
use Rattle.codec_payload_buffer.specs.Scan.{first_of}
use Rattle.codec_payload_buffer.specs.Steps.{Passes, PassesOver, PopsOver, Releases, State, Unpacked, Unpacks, arrived, due_of, none, nothing_unpacked, one_more, packets_of_frame, pushed}
use Rattle.codec_payload_buffer.specs.Stretches.{after_pushes}
use Rattle.codec_payload_buffer.specs.declared.buffer.frames.CompleteFrame.{CompleteFrame}
use Rattle.codec_payload_metadata.specs.declared.meta.RtpMeta.{RtpMeta}
use Rattle.codec_payload_codec.proofs.CaseLemmas.{by_option}
use Rattle.codec_payload_codec.specs.BaseLayers.{lacks_base}
use Rattle.codec_payload_codec.specs.Depacketizers.{DepacketizerKind, DepacketizerState, kind_of_depacketizer}
use Rattle.codec_payload_jitter.specs.Receiving.{Receiving}
use Rattle.codec_payload_buffer_runs.proofs.order.LossLemmas.{due_whole, whole_release}
use Rattle.codec_payload_buffer_runs.proofs.order.SafetyLemmas.{before_next, lawful_at}
use Rattle.codec_payload_buffer_runs.proofs.order.TurnLemmas.{Beyond, FrameOf, IsPush, Setting, frame_due, or_cases}
use Rattle.codec_payload_buffer_runs.proofs.order.WholeLemmas.{IsUnitIn, has_above, some_packets, unit_in}
use Rattle.codec_payload_buffer_runs.proofs.units.UnitIds.{told_at}
use Rattle.codec_payload_buffer_runs.proofs.units.UnitRows.{exact_payloads, held_as}
use Rattle.codec_payload_buffer_runs.specs.Arrivals.{PopsWaiting}
use Rattle.codec_payload_buffer_runs.specs.Headline.{IsUnitAt, packets_before}
use Rattle.codec_payload_buffer_runs.specs.Log.{Stretch, Turn, begun, with_pushes}
use Rattle.codec_payload_buffer_runs.specs.ReportedIds.{Tells, id_later, read_by}
use Rattle.codec_payload_buffer_runs.specs.RunUnits.{IsHeldWhole, ReleasesWhole}
use Rattle.codec_payload_buffer_runs.specs.Schedule.{Answer}
use Rattle.codec_payload_buffer_runs.specs.SentStream.{SentUnit, packets_of}
use Rattle.codec_payload_payloader.specs.Packets.{Packet}
use Rattle.codec_payload_datagram_runs.proofs.JoinedFrames.{AllUnder, IsDueIn, due_in, due_under, earlier_in, has_later, in_earlier, in_later, joined, later_in}
use Rattle.codec_payload_datagram_runs.proofs.LayerLemmas.{Order, before, beyond, earlier_frame, earlier_one, earlier_over, earlier_releases, earlier_skip, later_frame, later_one, left_of, low_in, nothing_due, same_beyond, view_of}
use Rattle.codec_payload_datagram_runs.proofs.LayerLemmas as layers
use Rattle.codec_payload_datagram_runs.proofs.HeldLemmas.{all_joined}
use Rattle.codec_payload_datagram_runs.proofs.StretchChains.{AllTurns, HasAll, HasFrame, IsFit, IsFrame, IsMade, IsSpanOf, IsTaken, Linked, fit_made, fit_span, releases, waits}
use Rattle.codec_payload_datagram_runs.proofs.TrackedLemmas.{IsPlainAt}
use Rattle.codec_payload_datagram_runs.specs.Deliveries.{IsCutoffBelow}
use Rattle.codec_payload_datagram_runs.specs.Releases.{delivered}
use Rattle.codec_payload_datagram_runs.specs.RestartLogs.{IsDeliveredWhole}
use Rattle.codec_payload_datagram_runs.specs.WireLogs.{AnswersTurn, IsLogOf, wait_of}
use Rattle.codec_payload_datagram_runs.specs.declared.run.DatagramStep.{DatagramStep}
use Rattle.codec_payload_datagram_runs.specs.declared.run.DatagramStep.TheVariants as steps

-- Packets that stand together have a frame

-- a range that reaches a first packet has a lowest one
lowest_there : (p : Held) (earlier : List Held) → p.head ≡ true → (n : ℕ) × (lowest_head (p ∷ row_before p earlier) ≡ Some n)
lowest_there p earlier head =
    by_option (lowest_head (row_before p earlier)) (λ o. lowest_head (row_before p earlier) ≡ o → (n : ℕ) × (lowest_head (p ∷ row_before p earlier) ≡ Some n))
    (λ none is. (number_of p, rw (is, head) refl))
    (λ n some is. (n, rw is refl))
    refl

row_has_frame : (ps rest earlier : List Held) (first last : ℕ) (time : Time) → IsRun first last time ps → BeginsWithHead ps
    → (n : ℕ) × (first_of (frames_after earlier (ps ++ rest)) ≡ Some (record { first = n; last = last }))
row_has_frame [] rest earlier first last time run begins = absurd run
row_has_frame (p ∷ []) rest earlier first last time run begins =
    let low = lowest_there p earlier begins in (
      low.0,
      ends_here p.tail (lowest_head (p ∷ row_before p earlier)) p (frames_after (p ∷ earlier) rest) low.0 run.3 low.1
          ∙ ap (λ (k : ℕ). Some (record { first = low.0; last = k })) run.1,
    )
row_has_frame (p ∷ q ∷ ps) rest earlier first last time run begins =
    let low = lowest_there p earlier begins in
    let next : IsRun (number_of p + 1) last time (q ∷ ps) = subst (λ (k : ℕ). IsRun (k + 1) last time (q ∷ ps)) (sym run.0) run.3 in (
      low.0,
      goes_on p.tail (ended_at p (lowest_head (p ∷ row_before p earlier))) (frames_after (p ∷ earlier) (q ∷ ps ++ rest)) run.2
          ∙ walk earlier p (q ∷ ps) rest low.0 last time low.1 run.2 run.1 next,
    )

back_empty : (fs gs : List CompleteFrame) → fs ++ gs ≡ [] → gs ≡ []
back_empty [] gs e = e
back_empty (f ∷ fs) gs e = absurd (cc)

front_empty : (fs gs : List CompleteFrame) → fs ++ gs ≡ [] → fs ≡ []
front_empty [] gs e = refl
front_empty (f ∷ fs) gs e = absurd (cc)

-- a list without frames has none behind its beginning
none_behind : (earlier below hs : List Held) → frames_after earlier (below ++ hs) ≡ [] → (more : List Held) × (frames_after more hs ≡ [])
none_behind earlier [] hs e = (earlier, e)
none_behind earlier (p ∷ below) hs e = none_behind (p ∷ earlier) below hs (back_empty (frame_at p earlier) (frames_after (p ∷ earlier) (below ++ hs)) e)

no_frame : (fs : List CompleteFrame) (f : CompleteFrame) → fs ≡ [] → first_of fs ≡ Some f → ⊥
no_frame [] f nothing some = cc
no_frame (g ∷ fs) f nothing some = cc

-- Numbers of two parts

front_has : (n : ℕ) (old new : List Held) → has_number n old ≡ true → has_number n (old ++ new) ≡ true
front_has n [] new h = absurd (cc)
front_has n (p ∷ old) new h = elim (or_cases (eqb (number_of p) n) (has_number n old) h) [
  | inl here ↦ grind (arith, nat_tests, here)
  | inr later ↦ let rest = front_has n old new later in grind (arith, nat_tests, rest)
]

none_high : (bound n : ℕ) (new : List Held) → AllAbove bound new → n ≤ bound → has_number n new ≡ false
none_high bound n [] high le = refl
none_high bound n (p ∷ new) high le = let rest = none_high bound n new high.1 le in let over = high.0 in grind (arith, nat_tests, rest, over, le)

front_only : (bound n : ℕ) (old new : List Held) → AllAbove bound new → n ≤ bound → has_number n (old ++ new) ≡ has_number n old
front_only bound n [] new high le = none_high bound n new high le
front_only bound n (p ∷ old) new high le = ap (λ (b : Bool). eqb (number_of p) n || b) (front_only bound n old new high le)

-- a number below the bound is not among packets above it
none_there : (bound n : ℕ) (hs : List Held) → AllAbove bound hs → n ≤ bound → has_number n hs ≡ true → ⊥
none_there bound n hs high le h = let no = none_high bound n hs high le in cc

-- Units of the parts

-- packets with the numbers from low up to high are a unit of the parts, which lies below the bound. If they are held, each frame that
-- is due is another frame below them, or their frame
pub record Watches {known : ℕ → Packet → RtpMeta → Type 0} {splits : Bool} {units : List SentUnit} {kind : DepacketizerKind} {bound count : ℕ} (o : Order known splits units kind bound count)
    (low high : ℕ) (Out : Answer → Type 0) : Type 0 where
  pub some : low < high
  pub under : high ≤ bound
  pub over : (from : ℕ) (s t : State) → o.Is from s → HasAll low high s.held → (p : PassesOver s t) → IsFrame low high p.frame ⊎ HasAll low high t.held
  pub out : (from : ℕ) (s t : State) (r : Release) → o.Is from s → HasAll low high s.held → Releases s r t → Out (Some (Ok r)) ⊎ HasAll low high t.held
  pub due : (from : ℕ) (s : State) → o.Is from s → HasAll low high s.held → frames s.held ≡ [] → ⊥

-- no frame that is due reports a base layer
abbrev pub NoIds : {known : ℕ → Packet → RtpMeta → Type 0} {splits : Bool} {units : List SentUnit} {kind : DepacketizerKind} {bound count : ℕ} → Order known splits units kind bound count → Type 0
NoIds o = (from : ℕ) (s : State) → o.Is from s → IsPlainAt s

pub no_ids_yet : (known : ℕ → Packet → RtpMeta → Type 0) (splits : Bool) (units : List SentUnit) (kind : DepacketizerKind) → NoIds (layers.no_parts known splits units kind)
no_ids_yet known splits units kind from s is f unpacked e due gives = absurd (nothing_due s f is.nothing_held due)

-- what a log says of a pop is a pop of the receiver
waiting_of : (wait : Option ℕ) (s t : State) (passed : List CompleteFrame) (a : Answer) → AnswersTurn wait s passed a t → PopsWaiting wait s a t
waiting_of None s t passed a is = (is.1, is.2)
waiting_of (Some h) s t passed a is = (is.0, (passed, is.1))

after_one : (s : State) (ps : List Held) (p : Held) → after_pushes s (ps ++ p ∷ []) ≡ pushed (after_pushes s ps) p
after_one s [] p = refl
after_one s (q ∷ ps) p = after_one (pushed s q) ps p

span_more : (P : Held → Type 0) (w : Stretch) (p : Held) → P p → IsSpanOf P w → IsSpanOf P (with_pushes w (p ∷ []))
span_more P w p is span = record {
  sent = all_joined P w.pushes (p ∷ []) span.sent (is, tt);
  now = ap (λ (s : State). pushed s p) span.now ∙ sym (after_one w.left w.pushes p);
}

-- The turns of an order

module _ {known : ℕ → Packet → RtpMeta → Type 0} {splits : Bool} {units : List SentUnit} {kind : DepacketizerKind} {bound count : ℕ} (o : Order known splits units kind bound count) where
  passed_on : (from : ℕ) (s t : State) (over : List CompleteFrame) → o.Is from s → Passes s over t → o.Is from t
  passed_on from s t over is none = is
  passed_on from s u over is (one_more {t = t} passes p) = o.over from t u (passed_on from s t _ is passes) p

  taken_of : (from : ℕ) (s t : State) (over : List CompleteFrame) (a : Answer) → o.Is from s → a ≢ Some (Err faults.OutOfMemory) → PopsOver s over a t → IsTaken s t over a
  taken_of from s t over None is found pop = waits pop.0 pop.1
  taken_of from s t over (Some (Ok r)) is found pop = releases pop.0 pop.1 pop.2
  taken_of from s t over (Some (Err fault)) is found pop = elim pop.2 [
    | inl memory ↦ absurd (found (ap (λ f. Some (Err f)) memory.0))
    | inr refusal ↦ absurd (o.refuses from pop.0 t fault (passed_on from s pop.0 over is pop.1) refusal)
  ]

  -- no pop is refused
  pub made_of : (from : ℕ) (wait : Option ℕ) (s t : State) (passed : List CompleteFrame) (a : Answer) → o.Is from s → AnswersTurn wait s passed a t → IsMade s t passed a
  made_of from None s t passed a is turn = inl turn
  made_of from (Some h) s t passed a is turn = inr (h, taken_of from (record s { hold_back = h }) t passed a (o.waits from h s is) turn.0 turn.1)

  -- A unit at a pop

  frame_more : (low high : ℕ) (f : CompleteFrame) (over : List CompleteFrame) → HasFrame low high over → HasFrame low high (f ∷ over)
  frame_more low high f over is = (is.0, (suc is.1.0, omega (arith, is.1.1), is.1.2), is.2, is.3)

  watch_passes : (low high : ℕ) (Out : Answer → Type 0) (watch : Watches o low high Out) (from : ℕ) (s t : State) (over : List CompleteFrame) → o.Is from s → HasAll low high s.held → Passes s over t
      → HasFrame low high over ⊎ HasAll low high t.held
  watch_passes low high Out watch from s t over is has none = inr has
  watch_passes low high Out watch from s u over is has (one_more {t = t} passes p) = elim (watch_passes low high Out watch from s t _ is has passes) [
    | inl done ↦ inl (frame_more low high p.frame _ done)
    | inr still ↦ elim (watch.over from t u (passed_on from s t _ is passes) still p) [
      | inl here ↦ inl (p.frame, (0, omega arith, refl), here.0, here.1)
      | inr after ↦ inr after
    ]
  ]

  watch_taken : (low high : ℕ) (Out : Answer → Type 0) (watch : Watches o low high Out) (from : ℕ) (s t : State) (over : List CompleteFrame) (a : Answer) → o.Is from s → IsTaken s t over a
      → HasAll low high s.held → Out a ⊎ (HasFrame low high over ⊎ HasAll low high t.held)
  watch_taken low high Out watch from s t over None is (waits passes nothing) has = inr (watch_passes low high Out watch from s t over is has passes)
  watch_taken low high Out watch from s t over (Some (Ok r)) is (releases mid passes out) has = elim (watch_passes low high Out watch from s mid over is has passes) [
    | inl done ↦ inr (inl done)
    | inr still ↦ elim (watch.out from mid t r (passed_on from s mid over is passes) still out) [ inl done ↦ inl done | inr after ↦ inr (inr after) ]
  ]
  watch_taken low high Out watch from s t over (Some (Err fault)) is taken has = elim taken [ ]

  pub watch_made : (low high : ℕ) (Out : Answer → Type 0) (watch : Watches o low high Out) (from : ℕ) (s t : State) (passed : List CompleteFrame) (a : Answer) → o.Is from s → IsMade s t passed a
      → HasAll low high s.held → Out a ⊎ (HasFrame low high passed ⊎ HasAll low high t.held)
  watch_made low high Out watch from s t passed a is (inl not_made) has = inr (inr (subst (λ (x : State). HasAll low high x.held) (sym not_made.2) has))
  watch_made low high Out watch from s t passed a is (inr made) has = watch_taken low high Out watch from (record s { hold_back = made.0 }) t passed a (o.waits from made.0 s is) made.1 has

-- One more part

module _ (known : ℕ → Packet → RtpMeta → Type 0) (splits : Bool) (units : List SentUnit) (kind : DepacketizerKind) (bound count : ℕ) (o : Order known splits units kind bound count)
    (c : Setting) (same_kind : c.kind ≡ kind) (gap : bound < c.first) (next : ℕ) (grows : bound ≤ next)
    (within : (k : ℕ) (q : Packet) (m : RtpMeta) → c.known k q m → c.first + k < next)
    (embeds : (j : ℕ) (r : Release) → IsUnitAt c.known c.splits c.units j r → IsUnitAt known splits units (count + j) r) where
  abbrev Here : Order known splits units kind next (count + length c.units)
  Here = layers.one_more_part known splits units kind bound count o c same_kind gap next grows within embeds

  abbrev Is : ℕ → State → Type 0
  Is = layers.IsLayered known splits units kind bound count o c same_kind gap next grows within embeds

  high_new : (s : State) (new : List Held) → Beyond c 0 (later_in new s) → AllAbove bound new
  high_new s new is = layers.all_high known splits units kind bound count o c same_kind gap next grows within embeds new is.sent

  due_part : (from : ℕ) (old new : List Held) (s : State) (f : CompleteFrame) → s.held ≡ old ++ new → o.Is from (earlier_in old s) → Beyond c 0 (later_in new s) → due_of s ≡ Some f → IsDueIn old new s f
  due_part from old new s f held is new_is due =
      due_in bound old new s f held (low_in known splits units kind bound count o c same_kind gap next grows within embeds from old s is).under (high_new s new new_is) due

  -- Picture ids

  new_lacks : (j : ℕ) (v : State) (f : CompleteFrame) (unpacked : Unpacked) (e : DepacketizerState) → c.start ≡ None → Beyond c j v → due_of v ≡ Some f
      → Unpacks v.depacketizer (packets_of_frame v f) nothing_unpacked (Ok unpacked) e → lacks_base unpacked.extra ≡ true
  new_lacks j v f unpacked e no_ids is due gives =
      let frame : FrameOf c j v f = frame_due c j v f is due in
      let told_it : Tells (id_later c.start frame.place) (read_by v.depacketizer) unpacked.extra (read_by e) =
      told_at c.kind c.start frame.place c.units frame.sent c.told frame.at_place frame.missing frame.rest frame.whole frame.starts frame.packets
      (exact_payloads c.known c.clock_rate c.kind c.faithful (packets_before frame.place c.units + length frame.missing) frame.rest frame.packets frame.exact)
      v.depacketizer unpacked e is.reads (subst (λ (ps : List Held). Unpacks v.depacketizer ps nothing_unpacked (Ok unpacked) e) frame.are gives) in
      subst (λ (x : Option ℕ). Tells (id_later x frame.place) (read_by v.depacketizer) unpacked.extra (read_by e)) no_ids told_it

  pub no_more_ids : NoIds o → c.start ≡ None → NoIds Here
  no_more_ids earlier no_ids from s (beyond j few place cutoff is) f unpacked e due gives = new_lacks j s f unpacked e no_ids is due gives
  no_more_ids earlier no_ids from s (before old new held is new_is) f unpacked e due gives = by_part (due_part from old new s f held is new_is due)
    where
      by_part : IsDueIn old new s f → lacks_base unpacked.extra ≡ true
      by_part (in_earlier due_old) =
          let frame = earlier_frame known splits units kind bound count o c same_kind gap next grows within embeds from old new s f held is new_is due_old in
          earlier from (earlier_in old s) is f unpacked e due_old (subst (λ (ps : List Held). Unpacks s.depacketizer ps nothing_unpacked (Ok unpacked) e) frame.packets gives)
      by_part (in_later no_frames due_new) =
          let later = later_frame known splits units kind bound count o c same_kind gap next grows within embeds from old new s f held is new_is due_new in
          new_lacks 0 (later_in new s) f unpacked e no_ids new_is due_new (subst (λ (ps : List Held). Unpacks s.depacketizer ps nothing_unpacked (Ok unpacked) e) later.packets gives)

  -- Units of earlier parts

  old_has : (low high : ℕ) (s : State) (old new : List Held) → s.held ≡ old ++ new → Beyond c 0 (later_in new s) → high ≤ bound → HasAll low high s.held → HasAll low high old
  old_has low high s old new held new_is under has n a b =
      sym (front_only bound n old new (high_new s new new_is) (omega (arith, under, b))) ∙ (sym (ap (has_number n) held) ∙ has n a b)

  back_has : (low high : ℕ) (t : State) (rest new : List Held) → t.held ≡ rest ++ new → HasAll low high rest → HasAll low high t.held
  back_has low high t rest new left has n a b = ap (has_number n) left ∙ front_has n rest new (has n a b)

  none_old : (low high j : ℕ) (s : State) → Beyond c j s → low < high → high ≤ bound → HasAll low high s.held → ⊥
  none_old low high j s is some under has =
      none_there bound low s.held (layers.all_high known splits units kind bound count o c same_kind gap next grows within embeds s.held is.sent) (omega (arith, some, under)) (has low (omega arith) some)

  module _ (low high : ℕ) (Out : Answer → Type 0) (watch : Watches o low high Out) where
    watch_over : (from : ℕ) (s t : State) → Is from s → HasAll low high s.held → (p : PassesOver s t) → IsFrame low high p.frame ⊎ HasAll low high t.held
    watch_over from s t (beyond j few place cutoff is) has p = absurd (none_old low high j s is watch.some watch.under has)
    watch_over from s t (before old new held is new_is) has p = by_part (due_part from old new s p.frame held is new_is p.is_due)
      where
        has_old : HasAll low high old
        has_old = old_has low high s old new held new_is watch.under has

        by_part : IsDueIn old new s p.frame → IsFrame low high p.frame ⊎ HasAll low high t.held
        by_part (in_later no_frames due) = absurd (watch.due from (earlier_in old s) is has_old no_frames)
        by_part (in_earlier due) =
            let left = earlier_over known splits units kind bound count o c same_kind gap next grows within embeds from old new s t p held is new_is due in
            elim (watch.over from (earlier_in old s) (earlier_in (above p.frame.last old) t) is has_old
            (earlier_skip known splits units kind bound count o c same_kind gap next grows within embeds from old new s t p held is new_is due)) [
              | inl here ↦ inl here
              | inr still ↦ inr (back_has low high t (above p.frame.last old) new left.held still)
            ]

    watch_out : (from : ℕ) (s t : State) (r : Release) → Is from s → HasAll low high s.held → Releases s r t → Out (Some (Ok r)) ⊎ HasAll low high t.held
    watch_out from s t r (beyond j few place cutoff is) has out = absurd (none_old low high j s is watch.some watch.under has)
    watch_out from s t r (before old new held is new_is) has out = by_part (due_part from old new s out.frame held is new_is out.is_due)
      where
        has_old : HasAll low high old
        has_old = old_has low high s old new held new_is watch.under has

        by_part : IsDueIn old new s out.frame → Out (Some (Ok r)) ⊎ HasAll low high t.held
        by_part (in_later no_frames due) = absurd (watch.due from (earlier_in old s) is has_old no_frames)
        by_part (in_earlier due) =
            let gone = earlier_releases known splits units kind bound count o c same_kind gap next grows within embeds from old new s t r out held is new_is due in
            elim (watch.out from (earlier_in old s) (earlier_in (above out.frame.last old) t) r is has_old
            (earlier_one known splits units kind bound count o c same_kind gap next grows within embeds from old new s t r out held is new_is due)) [
              | inl done ↦ inl done
              | inr still ↦ inr (back_has low high t (above out.frame.last old) new gone.left.held still)
            ]

    watch_due : (from : ℕ) (s : State) → Is from s → HasAll low high s.held → frames s.held ≡ [] → ⊥
    watch_due from s (beyond j few place cutoff is) has nothing = none_old low high j s is watch.some watch.under has
    watch_due from s (before old new held is new_is) has nothing =
        let under = (low_in known splits units kind bound count o c same_kind gap next grows within embeds from old s is).under in
        watch.due from (earlier_in old s) is (old_has low high s old new held new_is watch.under has)
        (front_empty (frames old) (frames new) (sym (joined bound old new under (high_new s new new_is)) ∙ (sym (ap frames held) ∙ nothing)))

    -- a unit of an earlier part, with the packets of this part
    pub watch_on : Watches Here low high Out
    watch_on = record { some = watch.some; under = let u = watch.under in omega (arith, u, grows); over = watch_over; out = watch_out; due = watch_due }

  -- Units of this part

  module _ (place : ℕ) (u : SentUnit) (at : slice_get c.units place ≡ Some u) where
    abbrev low : ℕ
    low = c.first + packets_before place c.units

    abbrev high : ℕ
    high = c.first + packets_before (place + 1) c.units

    some_numbers : low < high
    some_numbers = let size = before_next c.units place u at in let some = some_packets c u.packets (lawful_at c.kind c.splits c.units place u c.lawful at).ends in omega (arith, size, some)

    whole_in : (v : State) → HasAll low high v.held → IsHeldWhole c.first c.units place v
    whole_in v has n is = has n is.from is.to

    -- the packets of this part, if all are held
    new_has : (s : State) (old new : List Held) → s.held ≡ old ++ new → AllUnder bound old → HasAll low high s.held → HasAll low high new
    new_has s old new held under has n a b = sym (has_later bound n old new (omega (arith, gap, a)) under) ∙ (sym (ap (has_number n) held) ∙ has n a b)

    stays_above : (s t : State) (f : CompleteFrame) → t.held ≡ above f.last s.held → f.last < low → HasAll low high s.held → HasAll low high t.held
    stays_above s t f left early has n a b = ap (has_number n) left ∙ has_above n f.last s.held (omega (arith, early, a)) (has n a b)

    own_frame : (j : ℕ) (v : State) (f : CompleteFrame) → Beyond c j v → HasAll low high v.held → due_of v ≡ Some f → (f.last < low) ⊎ IsFrame low high f
    own_frame j v f is has due =
        let frame = frame_due c j v f is due in
        elim (due_whole c j v f place u is at (whole_in v has) due) [
          | inl early ↦ inl early
          | inr here ↦ inr (omega (arith, frame.start, ap (λ (q : ℕ). packets_before q c.units) here.0, ap length here.1), here.3)
        ]

    own_over : (from : ℕ) (s t : State) → Is from s → HasAll low high s.held → (p : PassesOver s t) → IsFrame low high p.frame ⊎ HasAll low high t.held
    own_over from s t (beyond j few before_it cutoff is) has p = elim (own_frame j s p.frame is has p.is_due) [
      | inl early ↦ inr (stays_above s t p.frame (ap (λ (x : State). x.held) p.left) early has)
      | inr here ↦ inl here
    ]
    own_over from s t (before old new held is new_is) has p = by_part (due_part from old new s p.frame held is new_is p.is_due)
      where
        under : AllUnder bound old
        under = (low_in known splits units kind bound count o c same_kind gap next grows within embeds from old s is).under

        by_part : IsDueIn old new s p.frame → IsFrame low high p.frame ⊎ HasAll low high t.held
        by_part (in_earlier due) =
            let last : p.frame.last < bound = due_under bound (earlier_in old s) p.frame under due in
            inr (stays_above s t p.frame (ap (λ (x : State). x.held) p.left) (omega (arith, last, gap)) has)
        by_part (in_later no_frames due) = elim (own_frame 0 (later_in new s) p.frame new_is (new_has s old new held under has) due) [
          | inl early ↦ inr (stays_above s t p.frame (ap (λ (x : State). x.held) p.left) early has)
          | inr here ↦ inl here
        ]

    own_release : (j : ℕ) (v w : State) (r : Release) → Beyond c j v → HasAll low high v.held → (out : Releases v r w) → (out.frame.last < low) ⊎ ReleasesWhole c.known c.splits c.units place (Some (Ok r))
    own_release j v w r is has out = elim (due_whole c j v out.frame place u is at (whole_in v has) out.is_due) [
      | inl early ↦ inl early
      | inr here ↦ inr (whole_release c j v w r place is out here.0 here.1).whole
    ]

    own_out : (from : ℕ) (s t : State) (r : Release) → Is from s → HasAll low high s.held → Releases s r t → ReleasesWhole c.known c.splits c.units place (Some (Ok r)) ⊎ HasAll low high t.held
    own_out from s t r (beyond j few before_it cutoff is) has out = elim (own_release j s t r is has out) [
      | inl early ↦ inr (stays_above s t out.frame (ap (λ (x : State). x.held) out.left) early has)
      | inr done ↦ inl done
    ]
    own_out from s t r (before old new held is new_is) has out = by_part (due_part from old new s out.frame held is new_is out.is_due)
      where
        under : AllUnder bound old
        under = (low_in known splits units kind bound count o c same_kind gap next grows within embeds from old s is).under

        by_part : IsDueIn old new s out.frame → ReleasesWhole c.known c.splits c.units place (Some (Ok r)) ⊎ HasAll low high t.held
        by_part (in_earlier due) =
            let last : out.frame.last < bound = due_under bound (earlier_in old s) out.frame under due in
            inr (stays_above s t out.frame (ap (λ (x : State). x.held) out.left) (omega (arith, last, gap)) has)
        by_part (in_later no_frames due) =
            let view : State = view_of new s out.frame in
            let view_is : Beyond c 0 view = same_beyond known splits units kind bound count o c same_kind gap next grows within embeds 0 (later_in new s) view refl refl new_is.reads new_is in
            elim (own_release 0 view (left_of new t out.frame) r view_is (new_has s old new held under has)
            (later_one known splits units kind bound count o c same_kind gap next grows within embeds from old new s t r out held is new_is due)) [
              | inl early ↦ inr (stays_above s t out.frame (ap (λ (x : State). x.held) out.left) early has)
              | inr done ↦ inl done
            ]

    own_frames : (j : ℕ) (v : State) → Beyond c j v → HasAll low high v.held → frames v.held ≡ [] → ⊥
    own_frames j v is has nothing =
        let some = some_numbers in
        let row : IsUnitIn c place u v.held (high - 1) = unit_in c place u v (high - 1) at is.rises is.sent (whole_in v has) (omega (arith, some)) in
        let behind = none_behind [] row.below (row.row ++ row.rest) (subst (λ (hs : List Held). frames hs ≡ []) {y = row.below ++ (row.row ++ row.rest)} row.whole nothing) in
        let found = row_has_frame row.row row.rest behind.0 low (high - 1) row.time row.run row.begins in
        no_frame (frames_after behind.0 (row.row ++ row.rest)) (record { first = found.0; last = high - 1 }) behind.1 found.1

    own_due : (from : ℕ) (s : State) → Is from s → HasAll low high s.held → frames s.held ≡ [] → ⊥
    own_due from s (beyond j few before_it cutoff is) has nothing = own_frames j s is has nothing
    own_due from s (before old new held is new_is) has nothing =
        let under : AllUnder bound old = (low_in known splits units kind bound count o c same_kind gap next grows within embeds from old s is).under in
        own_frames 0 (later_in new s) new_is (new_has s old new held under has)
        (back_empty (frames old) (frames new) (sym (joined bound old new under (high_new s new new_is)) ∙ (sym (ap frames held) ∙ nothing)))

    -- if each packet of the unit was delivered, it lies below the bound
    pub high_within : (received : List DatagramStep) → IsDeliveredWhole received c.units place → ((k : ℕ) → Contains (delivered received) k → c.first + k < next) → high ≤ next
    high_within received came below =
        let some = some_numbers in
        let k : ℕ = packets_before (place + 1) c.units - 1 in
        let l = below k (came k (omega (arith, some)) (omega (arith, some))) in
        omega (arith, l, some)

    -- a unit of this part whose packets all lie below the bound
    pub watch_own : high ≤ next → Watches Here low high (ReleasesWhole c.known c.splits c.units place)
    watch_own below = record { some = some_numbers; under = below; over = own_over; out = own_out; due = own_due }

  -- The log of the part

  -- the turns of a part are linked, and T holds for each
  pub record IsWalked (P : Held → Type 0) (T : Turn → Type 0) (w : Stretch) (turns : List Turn) (end : Stretch) : Type 0 where
    pub linked : Linked P w.left turns end
    pub each : AllTurns T turns
    pub from : ℕ
    pub is : Is from end.now
    pub cutoff : IsCutoffBelow next end.left.cutoff

  module _ (P : Held → Type 0) (fits : (p : Held) → IsPush c p → P p) (T : Turn → Type 0)
      (holds : (from : ℕ) (turn : Turn) → Is from turn.stretch.now → IsMade turn.stretch.now turn.after turn.passed turn.answer → T turn) where
    pub walked : (r : Receiving) (at_end : Bool) (later : List DatagramStep) (from : ℕ) (w : Stretch) (turns : List Turn) (end : Stretch) → Is from w.now → IsFit P w.left → IsSpanOf P w
        → IsCutoffBelow next w.left.cutoff → IsLogOf c.known (packets_of c.units) r at_end later w turns end → IsWalked P T w turns end
    walked r at_end [] from w [] end is fit span cutoff log = record {
      linked = subst (λ (x : Stretch). (x.left ≡ w.left) × IsFit P x.left × IsSpanOf P x) (sym log) (refl, fit, span);
      each = tt;
      from = from;
      is = subst (λ (x : Stretch). Is from x.now) (sym log) is;
      cutoff = subst (λ (x : Stretch). IsCutoffBelow next x.left.cutoff) (sym log) cutoff;
    }
    walked r at_end [] from w (turn ∷ turns) end is fit span cutoff log = absurd log
    walked r at_end (steps.Send i ∷ later) from w turns end is fit span cutoff log = walked r at_end later from w turns end is fit span cutoff log
    walked r at_end (steps.Finish ∷ later) from w turns end is fit span cutoff log = walked r true later from w turns end is fit span cutoff log
    walked r at_end (steps.Deliver k now ∷ later) from w turns end is fit span cutoff log =
        let q : Packet = log.0 in
        let p : Held = arrived w.now.depacketizer log.1 q.payload in
        let reads : kind_of_depacketizer w.now.depacketizer ≡ c.kind =
        (layers.layered_low known splits units kind bound count o c same_kind gap next grows within embeds from w.now is).reads ∙ sym same_kind in
        let push : IsPush c p = (k, q, log.2, log.3, ap (λ (x : DepacketizerKind). held_as x log.1 q.payload) reads) in
        let rest = walked r at_end later from (with_pushes w (p ∷ [])) turns end
        (layers.layered_pushed known splits units kind bound count o c same_kind gap next grows within embeds from w.now p push is) fit (span_more P w p (fits p push) span) cutoff log.5 in
        record { linked = rest.linked; each = rest.each; from = rest.from; is = rest.is; cutoff = rest.cutoff }
    walked r at_end (steps.Pop now ∷ later) from w [] end is fit span cutoff log = absurd log
    walked r at_end (steps.Pop now ∷ later) from w (turn ∷ turns) end is fit span cutoff log =
        let wait : Option ℕ = wait_of r at_end w.now now.0 in
        let made : IsMade w.now turn.after turn.passed turn.answer = made_of Here from wait w.now turn.after turn.passed turn.answer is log.1 in
        let after = layers.waiting_to known splits units kind next (count + length c.units) Here from wait w.now turn.after turn.answer is (waiting_of wait w.now turn.after turn.passed turn.answer log.1) in
        let fit_then : IsFit P turn.after = fit_made P w.now turn.after turn.passed turn.answer (fit_span P w fit span) made in
        let low = layers.layered_low known splits units kind bound count o c same_kind gap next grows within embeds after.0 turn.after after.1 in
        let rest = walked r at_end later after.0 (begun turn.after) turns end after.1 fit_then (record { sent = tt; now = refl }) low.cutoff log.2 in
        let same : w ≡ turn.stretch = sym log.0 in
        let made_here : IsMade turn.stretch.now turn.after turn.passed turn.answer = subst (λ (x : Stretch). IsMade x.now turn.after turn.passed turn.answer) same made in
        record {
          linked = (
            ap (λ (x : Stretch). x.left) log.0,
            subst (λ (x : Stretch). IsFit P x.left) same fit,
            subst (IsSpanOf P) same span,
            made_here,
            rest.linked,
          );
          each = (holds from turn (subst (λ (x : Stretch). Is from x.now) same is) made_here, rest.each);
          from = rest.from;
          is = rest.is;
          cutoff = rest.cutoff;
        }
