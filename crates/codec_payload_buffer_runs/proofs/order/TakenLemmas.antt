-- How contiguity judges the units that a run sends, if they are accepted in order.
use Rattle.std.proofs.Common.{◌≡◌, refl, ap, ℕ, suc, subst, arith, List, [], length, Option, Some, None, Ok, Err, Bool, true, false, ◌+◌, ◌^◌, ◌∷◌, ◌<◌, ◌⊎◌}
use Rattle.std.proofs.lemmas.Option.{slice_get_within}
use Rattle.codec_payload_buffer_runs.proofs.order.FollowsLemmas as law
use Rattle.codec_payload_buffer_runs.proofs.order.FollowsLemmas.{checked_lacks}
use Rattle.codec_payload_buffer_runs.proofs.order.TurnLemmas.{Setting, Beyond, frame_due, IsPop, waits, releases, Chain, IsReady, passed_beyond, span_ready, ready_pops, left_ready}
use Rattle.codec_payload_buffer_runs.proofs.units.UnitIds.{told_at}
use Rattle.codec_payload_buffer_runs.proofs.units.UnitRows.{exact_payloads}
use Rattle.codec_payload_contiguity.specs.ContiguityTable.{checked}
use Rattle.codec_payload_codec.specs.Depacketizers.{DepacketizerState}
use Rattle.codec_payload_buffer_runs.specs.Headline.{packets_before}
use Rattle.codec_payload_buffer.specs.Held.{Held}
use Rattle.codec_payload_buffer_runs.specs.Log.{Stretch, Turn}
use Rattle.codec_payload_buffer_runs.specs.RunUnits.{NonePassedOver}
use Rattle.codec_payload_buffer_runs.specs.Schedule.{Answer}
use Rattle.codec_payload_buffer.specs.Steps.{State, due_of, follows, Unpacked, Unpacks, nothing_unpacked, Gives, Passes, none, one_more, PassesOver}
use Rattle.codec_payload_buffer_runs.specs.ReportedIds.{Tells, id_later, read_by}
use Rattle.codec_payload_buffer.specs.declared.buffer.frames.CompleteFrame.{CompleteFrame}
use Rattle.codec_payload_contiguity.specs.declared.contiguity.Contiguity.{Contiguity}

-- the facts about a depacketizer and the stored ids, if the latest accepted unit is the one before place n
pub Follows : Setting → ℕ → DepacketizerState → Contiguity → Type 0
Follows c n d k = law.Follows c.start n (read_by d) k

-- no unit was taken so far, or the unit at place m lies less than half the circle of picture ids further on
abbrev pub IsNear : ℕ → ℕ → Type 0
IsNear n m = (n ≡ 0) ⊎ (m < n + 16384)

-- the units carry no picture ids
abbrev pub IsPlain : Setting → Type 0
IsPlain c = c.start ≡ None

module _ (c : Setting) where
  -- before anything was taken
  pub nothing_taken : (d : DepacketizerState) (k : Contiguity) → law.Follows c.start 0 (read_by d) k → Follows c 0 d k
  unfolding Follows
  nothing_taken d k begins = begins

  -- the ids that the frame that is due reports
  tells_due : (n : ℕ) (s : State) (f : CompleteFrame) (beyond : Beyond c n s) (due : due_of s ≡ Some f) (unpacked : Unpacked) (e : DepacketizerState) → Gives s f (Ok unpacked) e
      → Tells (id_later c.start (frame_due c n s f beyond due).place) (read_by s.depacketizer) unpacked.extra (read_by e)
  tells_due n s f beyond due unpacked e gives =
      let frame = frame_due c n s f beyond due in
      let told = told_at c.kind c.start frame.place c.units frame.sent c.told frame.at_place in
      told frame.missing frame.rest frame.whole frame.starts frame.packets
      (exact_payloads c.known c.clock_rate c.kind c.faithful (packets_before frame.place c.units + length frame.missing) frame.rest frame.packets frame.exact)
      s.depacketizer unpacked e beyond.reads (subst (λ (ps : List Held). Unpacks s.depacketizer ps nothing_unpacked (Ok unpacked) e) frame.are gives)

  -- the unit whose frame is due may be released, if it is near
  pub goes_on : (n : ℕ) (s : State) (f : CompleteFrame) (beyond : Beyond c n s) (due : due_of s ≡ Some f) → let frame = frame_due c n s f beyond due in
      IsNear n frame.place → Follows c n s.depacketizer s.contiguity → (unpacked : Unpacked) (e : DepacketizerState) → Gives s f (Ok unpacked) e → (seq : Bool)
      → ((checked s.contiguity unpacked.extra seq).0 ≡ true) × Follows c (frame.place + 1) e (checked s.contiguity unpacked.extra seq).2
  unfolding Follows
  goes_on n s f beyond due near before unpacked e gives seq =
      let frame = frame_due c n s f beyond due in
      let small : frame.place < 2 ^ 63 = omega (arith, c.short, slice_get_within c.units frame.place frame.sent frame.at_place) in
      let on = law.goes_on c.start n frame.place (read_by s.depacketizer) (read_by e) s.contiguity unpacked.extra seq before frame.not_before near small
      (tells_due n s f beyond due unpacked e gives) in
      let next : suc frame.place ≡ frame.place + 1 = omega arith in
      (on.may, subst (λ (m : ℕ). law.Follows c.start m (read_by e) (checked s.contiguity unpacked.extra seq).2) next on.follows)

  -- and if packets carry no ids, at any place, and it is contiguous if its numbers are
  plain_goes : (n : ℕ) (s : State) (f : CompleteFrame) (beyond : Beyond c n s) (due : due_of s ≡ Some f) → IsPlain c → (unpacked : Unpacked) (e : DepacketizerState)
      → Gives s f (Ok unpacked) e → (seq : Bool) → checked s.contiguity unpacked.extra seq ≡ (true, seq, s.contiguity)
  plain_goes n s f beyond due plain unpacked e gives seq =
      let told = tells_due n s f beyond due unpacked e gives in
      checked_lacks s.contiguity unpacked.extra seq
      (subst (λ (o : Option ℕ). Tells (id_later o (frame_due c n s f beyond due).place) (read_by s.depacketizer) unpacked.extra (read_by e)) plain told)

  not_passed : (may : Bool) → may ≡ true → may ≡ false → ⊥
  not_passed may go stay = cc

  -- a frame that may be released is not skipped
  pub stays_near : (n : ℕ) (s t : State) (over : List CompleteFrame) → (beyond : Beyond c n s) → Follows c n s.depacketizer s.contiguity
      → ((f : CompleteFrame) (due : due_of s ≡ Some f) → IsNear n (frame_due c n s f beyond due).place) → Passes s over t → (t ≡ s) × (over ≡ [])
  stays_near n s t over beyond before near none = (refl, refl)
  stays_near n s u over beyond before near (one_more {t = t} passes passed) =
      let p : PassesOver s u = subst (λ (x : State). PassesOver x u) (stays_near n s t _ beyond before near passes).0 passed in
      let yes = goes_on n s p.frame beyond p.is_due (near p.frame p.is_due) before p.unpacked p.depacketizer p.gives (follows s p.frame) in
      absurd (not_passed _ yes.0 p.may_not)

  -- nor is any, if packets carry no ids
  pub stays_plain : (n : ℕ) (s t : State) (over : List CompleteFrame) → Beyond c n s → IsPlain c → Passes s over t → (t ≡ s) × (over ≡ [])
  stays_plain n s t over beyond plain none = (refl, refl)
  stays_plain n s u over beyond plain (one_more {t = t} passes p) =
      let mid = passed_beyond c n s t _ beyond passes in
      absurd (not_passed _ (ap (λ z. z.0) (plain_goes n t p.frame mid p.is_due plain p.unpacked p.depacketizer p.gives (follows t p.frame))) p.may_not)

  pub follows_plainly : (n : ℕ) (s : State) (f : CompleteFrame) → Beyond c n s → due_of s ≡ Some f → IsPlain c → (unpacked : Unpacked) (e : DepacketizerState)
      → Gives s f (Ok unpacked) e → (seq : Bool) → (checked s.contiguity unpacked.extra seq).1 ≡ seq
  follows_plainly n s f beyond due plain unpacked e gives seq = ap (λ z. z.1) (plain_goes n s f beyond due plain unpacked e gives seq)

  passed_none : (n : ℕ) (s t : State) (over : List CompleteFrame) (a : Answer) → Beyond c n s → IsPlain c → IsPop c s t over a → over ≡ []
  passed_none n s t over None beyond plain (waits passes nothing) = (stays_plain n s t over beyond plain passes).1
  passed_none n s t over (Some (Ok r)) beyond plain (releases mid passes out) = (stays_plain n s mid over beyond plain passes).1
  passed_none n s t over (Some (Err fault)) beyond plain pop = elim pop [ ]

  pub none_is_passed : (n : ℕ) (s : State) (turns : List Turn) (end : Stretch) → IsPlain c → IsReady c n s → Chain c s turns end → NonePassedOver turns
  none_is_passed n s [] end plain ready chain = tt
  none_is_passed n s (turn ∷ turns) end plain ready chain =
      let now = span_ready c n turn.stretch (left_ready c n s turn.stretch chain.0 ready) chain.1 in
      let next = ready_pops c n turn.stretch.now turn.after turn.passed turn.answer now chain.2 in
      (passed_none n turn.stretch.now turn.after turn.passed turn.answer now.beyond plain chain.2, none_is_passed next.0 turn.after turns end plain next.1 chain.3)
