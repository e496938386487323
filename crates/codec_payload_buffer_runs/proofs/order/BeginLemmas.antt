-- If the first unit comes first and whole, nothing is evicted and no pop is too early, the released units are a beginning of the
-- sent ones.
use Rattle.std.proofs.Common.{◌≡◌, ◌∙◌, refl, sym, ap, ℕ, zero, suc, subst, List, [], Option, Some, None, Ok, Err}
use Rattle.std.proofs.Common.{true, false, cond, ◌++◌, ◌+◌, ◌∷◌, ◌<◌, ◌≤◌, ◌⊎◌, ◌||◌, arith, length, map, inl, inr, ltb}
use Rattle.std.specs.Prelude.{slice_get}
use Rattle.std.proofs.lemmas.Bool.{cases_lt}
use Rattle.std.proofs.lemmas.Bool.Decides.{nat_tests}
use Rattle.codec_payload_codec.proofs.CaseLemmas.{by_test}
use Rattle.codec_payload_buffer_runs.proofs.order.ContiguousLemmas.{due_higher, numbers_of}
use Rattle.codec_payload_buffer_runs.proofs.order.LossLemmas.{no_length, Whole, due_whole, whole_release}
use Rattle.codec_payload_buffer.proofs.PopLemmas.{order_due}
use Rattle.codec_payload_buffer_runs.proofs.order.SafetyLemmas.{number_at, before_later, lawful_at}
use Rattle.codec_payload_buffer_runs.proofs.order.TakenLemmas.{Follows, IsNear, goes_on, stays_near}
use Rattle.codec_payload_buffer_runs.proofs.order.TurnLemmas.{Setting, Beyond, frame_due, count, IsSpan, IsPop, waits, releases, Chain, IsReady, span_left, span_ready, few_released, left_ready}
use Rattle.codec_payload_buffer_runs.proofs.order.WholeLemmas.{some_packets}
use Rattle.codec_payload_contiguity.specs.ContiguityTable.{checked}
use Rattle.codec_payload_codec.specs.Depacketizers.{DepacketizerState}
use Rattle.codec_payload_buffer.specs.Frames.{frames}
use Rattle.codec_payload_buffer_runs.specs.Headline.{packets_before, ArePushesBy}
use Rattle.codec_payload_buffer_runs.specs.Log.{Stretch, Turn}
use Rattle.codec_payload_payloader.specs.Packets.{Packet}
use Rattle.codec_payload_metadata.specs.Release.{Release}
use Rattle.codec_payload_buffer_runs.specs.RunOrder.{evicted_in, first_number}
use Rattle.codec_payload_buffer_runs.specs.RunUnits.{IsWholeAt, IsNext, AreNext, FirstIsWhole, NoneEvicted, IsPatient, count_after}
use Rattle.codec_payload_buffer_runs.specs.Schedule.{Answer}
use Rattle.codec_payload_buffer_runs.specs.SentStream.{SentUnit, packets_of}
use Rattle.codec_payload_buffer.specs.Steps.{State, Releases, due_of, due_among, starts_right_after, follows}
use Rattle.codec_payload_buffer.specs.Stretches.{last_or}
use Rattle.codec_payload_buffer.specs.declared.buffer.frames.CompleteFrame.{CompleteFrame}
use Rattle.codec_payload_metadata.specs.declared.meta.RtpMeta.{RtpMeta}

slice_some : {X : Type 0} (xs : List X) (n p : ℕ) (x : X) → n ≤ p → slice_get xs p ≡ Some x → (y : X) × (slice_get xs n ≡ Some y)
slice_some [] n p x l h = absurd (cc)
slice_some (y ∷ ys) zero p x l h = (y, refl)
slice_some (y ∷ ys) (suc n) zero x l h = absurd (omega (arith, l))
slice_some (y ∷ ys) (suc n) (suc p) x l h = slice_some ys n p x (omega (arith, l)) h

-- if there are no more frames than are held back, the frame that is due starts right after the cutoff
due_starts : (s : State) (fs : List CompleteFrame) (f : CompleteFrame) → due_among s fs ≡ Some f → length fs ≤ s.hold_back → starts_right_after s.cutoff f.first ≡ true
due_starts s [] f h few = absurd (cc)
due_starts s (g ∷ gs) f h few =
    let full : ltb s.hold_back (length (g ∷ gs)) ≡ false = grind (arith, nat_tests, few) in
    by_test (starts_right_after s.cutoff g.first) (λ b. starts_right_after s.cutoff g.first ≡ b
    → cond (b || ltb s.hold_back (length (g ∷ gs))) (Some g) None ≡ Some f → starts_right_after s.cutoff f.first ≡ true)
    (λ e is h. let same : g ≡ f = cc in subst (λ (x : CompleteFrame). starts_right_after s.cutoff x.first ≡ true) same is)
    (λ e is h. let nothing : cond (false || ltb s.hold_back (length (g ∷ gs))) (Some g) None ≡ None = rw full refl in absurd (cc))
    refl h

starts_at : (c n : ℕ) (cutoff : Option ℕ) → cutoff ≡ Some c → starts_right_after cutoff n ≡ true → n ≡ c + 1
starts_at c n None e h = absurd (cc)
starts_at c n (Some d) e h = let same : d ≡ c = cc in grind (arith, nat_tests, h, same)

module _ (c : Setting) where
  -- the first number of pushes
  first_pushed : (k : ℕ) (p : Packet) (ps : List Packet) (ms : List RtpMeta) → slice_get (packets_of c.units) k ≡ Some p → ArePushesBy c.known k (p ∷ ps) ms → first_number ms ≡ c.first + k
  first_pushed k p ps [] at are = absurd are
  first_pushed k p ps (m ∷ ms) at are = c.faithful.number k p m are.0 ∙ number_at (packets_of c.units) c.first k p c.numbered at

  -- the latest released unit is the one before place n
  abbrev IsAt : ℕ → State → Type 0
  IsAt n s = (m : ℕ) × (s.cutoff ≡ Some m) × (m + 1 ≡ c.first + packets_before n c.units)

  -- a frame that starts where a unit starts is the frame of that unit, whole
  at_start : (from : ℕ) (s : State) (f : CompleteFrame) (n : ℕ) → (beyond : Beyond c from s) (due : due_of s ≡ Some f) → (n ≤ from) → f.first ≡ c.first + packets_before n c.units
      → let frame = frame_due c from s f beyond due in (frame.place ≡ n) × (frame.missing ≡ [])
  at_start from s f n beyond due le begins =
      let frame = frame_due c from s f beyond due in
      let here = slice_some c.units n frame.place frame.sent (omega (arith, le, frame.not_before)) frame.at_place in
      let some = some_packets c here.0.packets (lawful_at c.kind c.splits c.units n here.0 c.lawful here.1).ends in
      let same : frame.place ≡ n = elim (cases_lt n frame.place) [
        | inl over ↦ absurd (omega (arith, before_later c.units n frame.place here.0 here.1 over, frame.start, begins, some))
        | inr at_most ↦ omega (arith, le, frame.not_before, at_most)
      ] in
      let size : packets_before frame.place c.units ≡ packets_before n c.units = ap (λ (p : ℕ). packets_before p c.units) same in
      (same, no_length frame.missing (omega (arith, frame.start, begins, size)))

  abbrev Patient : ℕ → State → Type 0
  Patient n s = Whole c n s ⊎ (length (frames s.held) ≤ s.hold_back)

  -- if the pop is not too early, the frame that is due is the frame of the next unit
  next_due : (n : ℕ) (s : State) (f : CompleteFrame) → (beyond : Beyond c n s) → IsAt n s → Patient n s → (due : due_of s ≡ Some f)
      → let frame = frame_due c n s f beyond due in (frame.place ≡ n) × (frame.missing ≡ [])
  next_due n s f beyond at patient due =
      let frame = frame_due c n s f beyond due in
      let higher : at.0 < f.first = due_higher s f beyond.beyond due at.0 at.1 in
      elim patient [
        | inl whole ↦
            let here = slice_some c.units n frame.place frame.sent frame.not_before frame.at_place in
            elim (due_whole c n s f n here.0 beyond here.1 whole due) [
              | inl early ↦ absurd (omega (arith, early, higher, at.2, order_due s f due))
              | inr is ↦ (is.0, is.1)
            ]
        | inr few ↦
            let begins = starts_at at.0 f.first s.cutoff at.1 (due_starts s (frames s.held) f due few) in
            at_start n s f n beyond due (omega arith) (begins ∙ at.2)
      ]

  -- the latest unit that was taken is the one before place n
  abbrev Taken : ℕ → State → Type 0
  Taken n s = Follows c n s.depacketizer s.contiguity

  record IsReleased (n : ℕ) (t : State) (r : Release) : Type 0 where
    whole : IsWholeAt c.known c.splits c.units n r
    ready : IsReady c (n + 1) t
    at : IsAt (n + 1) t
    taken : Taken (n + 1) t

  after_release : (from n : ℕ) (s t : State) (r : Release) → (ready : IsReady c from s) → Taken from s → (out : Releases s r t)
      → (let frame = frame_due c from s out.frame ready.beyond out.is_due in IsNear from frame.place × (frame.place ≡ n) × (frame.missing ≡ [])) → IsReleased n t r
  after_release from n s t r ready taken out is =
      let frame = frame_due c from s out.frame ready.beyond out.is_due in
      let whole = whole_release c from s t r n ready.beyond out is.1 is.2 in
      let kept = (checked s.contiguity r.codec_extra (follows s out.frame)).2 in
      let next : Follows c (frame.place + 1) out.depacketizer kept =
      (goes_on c from s out.frame ready.beyond out.is_due is.0 taken (record { bytes = r.bytes; extra = r.codec_extra }) out.depacketizer out.gives (follows s out.frame)).1 in
      record {
        whole = whole.whole;
        ready = record { beyond = whole.next; few = few_released c s t r ready.few out };
        at = (out.frame.last, ap (λ (x : State). x.cutoff) out.left, whole.end);
        taken = subst (λ (x : State). Taken (n + 1) x) (sym out.left) (subst (λ (p : ℕ). Follows c (p + 1) out.depacketizer kept) is.1 next);
      }

  abbrev NextIs : ℕ → Answer → Type 0
  NextIs n a = IsNext c.known c.splits c.units n a

  record IsStep (n : ℕ) (a : Answer) (t : State) : Type 0 where
    next : NextIs n a
    ready : IsReady c (count_after n a) t
    at : IsAt (count_after n a) t
    taken : Taken (count_after n a) t

  near_next : (n : ℕ) (s : State) → (beyond : Beyond c n s) → IsAt n s → Patient n s → (f : CompleteFrame) (due : due_of s ≡ Some f) → IsNear n (frame_due c n s f beyond due).place
  near_next n s beyond at patient f due = inr (omega (arith, (next_due n s f beyond at patient due).0))

  -- one pop after the first release
  next_at : (n : ℕ) (s t : State) (over : List CompleteFrame) (a : Answer) → IsReady c n s → IsAt n s → Taken n s → Patient n s → IsPop c s t over a → IsStep n a t
  next_at n s t over None ready at taken patient (waits passes nothing) =
      let same = (stays_near c n s t over ready.beyond taken (near_next n s ready.beyond at patient) passes).0 in
      record { next = tt; ready = subst (IsReady c n) (sym same) ready; at = subst (IsAt n) (sym same) at; taken = subst (Taken n) (sym same) taken }
  next_at n s t over (Some (Ok r)) ready at taken patient (releases mid passes out) =
      let here : Releases s r t = subst (λ (x : State). Releases x r t) (stays_near c n s mid over ready.beyond taken (near_next n s ready.beyond at patient) passes).0 out in
      let is = next_due n s here.frame ready.beyond at patient here.is_due in
      let after = after_release n n s t r ready taken here (near_next n s ready.beyond at patient here.frame here.is_due, is.0, is.1) in
      record { next = after.whole; ready = after.ready; at = after.at; taken = after.taken }
  next_at n s t over (Some (Err fault)) ready at taken patient pop = elim pop [ ]

  abbrev StartsWhole : List Answer → Type 0
  StartsWhole answers = FirstIsWhole c.known c.splits c.units answers

  -- if the first release is the first unit, whole, its frame starts with the first packet
  first_starts : (s t : State) (r : Release) → Beyond c 0 s → (out : Releases s r t) → IsWholeAt c.known c.splits c.units 0 r → out.frame.first ≡ c.first + packets_before 0 c.units
  first_starts s t r beyond out whole =
      let is = whole.0 in
      let rest : is.rest ≡ is.sent.packets = subst (λ (ms : List Packet). ms ++ is.rest ≡ is.sent.packets) whole.1 is.whole in
      let some = some_packets c is.sent.packets (lawful_at c.kind c.splits c.units 0 is.sent c.lawful is.at_place).ends in
      sym (numbers_of s t r beyond.rises beyond.beyond out).first ∙ first_of is.sent.packets c.units is.at_place refl refl some
      (subst (λ (ps : List Packet). ArePushesBy c.known 0 ps r.metas) rest (subst (λ (ms : List Packet). ArePushesBy c.known (packets_before 0 c.units + length ms) is.rest r.metas) whole.1 is.metas))
    where
      first_of : (ps : List Packet) (units : List SentUnit) → slice_get units 0 ≡ Some whole.0.sent → units ≡ c.units → ps ≡ whole.0.sent.packets → 0 < length ps
          → ArePushesBy c.known 0 ps r.metas → first_number r.metas ≡ c.first + 0
      first_of [] units at is same some are = absurd (omega (arith, some))
      first_of (p ∷ ps) [] at is same some are = absurd (cc)
      first_of (p ∷ ps) (u ∷ us) at is same some are =
          let head : u ≡ whole.0.sent = cc in
          let there : slice_get (packets_of (u ∷ us)) 0 ≡ Some p = ap (λ (qs : List Packet). slice_get (qs ++ packets_of us) 0) (ap (λ (x : SentUnit). x.packets) head ∙ sym same) in
          first_pushed 0 p ps r.metas (subst (λ (vs : List SentUnit). slice_get (packets_of vs) 0 ≡ Some p) is there) are

  -- before anything was taken each unit is near
  near_first : (s : State) → (beyond : Beyond c 0 s) → (f : CompleteFrame) (due : due_of s ≡ Some f) → IsNear 0 (frame_due c 0 s f beyond due).place
  near_first s beyond f due = inl refl

  -- one pop before the first release
  record IsFirst (a : Answer) (answers : List Answer) (t : State) : Type 0 where
    next : NextIs 0 a
    then_ : ((count_after 0 a ≡ 0) × IsReady c 0 t × Taken 0 t × StartsWhole answers) ⊎ ((count_after 0 a ≡ 1) × IsReady c 1 t × IsAt 1 t × Taken 1 t)

  first_at : (s t : State) (over : List CompleteFrame) (a : Answer) (answers : List Answer) → IsReady c 0 s → Taken 0 s → StartsWhole (a ∷ answers) → IsPop c s t over a → IsFirst a answers t
  first_at s t over None answers ready taken whole (waits passes nothing) =
      let same = (stays_near c 0 s t over ready.beyond taken (near_first s ready.beyond) passes).0 in
      record { next = tt; then_ = inl (refl, subst (IsReady c 0) (sym same) ready, subst (Taken 0) (sym same) taken, whole) }
  first_at s t over (Some (Ok r)) answers ready taken whole (releases mid passes out) =
      let here : Releases s r t = subst (λ (x : State). Releases x r t) (stays_near c 0 s mid over ready.beyond taken (near_first s ready.beyond) passes).0 out in
      let is = at_start 0 s here.frame 0 ready.beyond here.is_due (omega arith) (first_starts s t r ready.beyond here whole) in
      let after = after_release 0 0 s t r ready taken here (inl refl, is.0, is.1) in
      record { next = whole; then_ = inr (refl, after.ready, after.at, after.taken) }
  first_at s t over (Some (Err fault)) answers ready taken whole pop = elim pop [ ]

  same_cutoff : (from : ℕ) (w : Stretch) → IsReady c from w.left → IsSpan c w → evicted_in c.first (count c) w ≡ [] → w.now.cutoff ≡ w.left.cutoff
  same_cutoff from w ready is nothing = (span_left c from w ready is).cutoff ∙ ap (λ (ns : List ℕ). last_or ns w.left.cutoff) nothing

  -- pushes take nothing
  span_taken : (n : ℕ) (s : State) (w : Stretch) → w.left ≡ s → IsReady c n w.left → IsSpan c w → Taken n s → Taken n w.now
  span_taken n s w at ready is taken =
      let left = span_left c n w ready is in
      subst (λ (d : DepacketizerState). Follows c n d w.now.contiguity) (sym left.depacketizer) (subst (Follows c n w.left.depacketizer) (sym left.contiguity) (subst (Taken n) (sym at) taken))

  abbrev answers_of : List Turn → List Answer
  answers_of turns = map (λ (turn : Turn). turn.answer) turns

  abbrev NextAre : ℕ → List Turn → Type 0
  NextAre n turns = AreNext c.known c.splits c.units n (answers_of turns)

  next_from : (n : ℕ) (s : State) (turns : List Turn) (end : Stretch) → IsReady c n s → IsAt n s → Taken n s → Chain c s turns end
      → NoneEvicted c.first (count c) turns → IsPatient c.first c.units n turns → NextAre n turns
  next_from n s [] end ready at taken chain nothing patient = tt
  next_from n s (turn ∷ turns) end ready at taken chain nothing patient =
      let w = turn.stretch in
      let left = left_ready c n s w chain.0 ready in
      let now = span_ready c n w left chain.1 in
      let here : IsAt n w.now = (at.0, same_cutoff n w left chain.1 nothing.0 ∙ ap (λ (x : State). x.cutoff) chain.0 ∙ at.1, at.2) in
      let step = next_at n w.now turn.after turn.passed turn.answer now here (span_taken n s w chain.0 left chain.1 taken) patient.0 chain.2 in
      (step.next, next_from (count_after n turn.answer) turn.after turns end step.ready step.at step.taken chain.3 nothing.1 patient.1)

  pub begins_from : (s : State) (turns : List Turn) (end : Stretch) → IsReady c 0 s → Taken 0 s → Chain c s turns end → StartsWhole (answers_of turns)
      → NoneEvicted c.first (count c) turns → IsPatient c.first c.units 0 turns → NextAre 0 turns
  begins_from s [] end ready taken chain whole nothing patient = tt
  begins_from s (turn ∷ turns) end ready taken chain whole nothing patient =
      let w = turn.stretch in
      let left = left_ready c 0 s w chain.0 ready in
      let now = span_ready c 0 w left chain.1 in
      let step = first_at w.now turn.after turn.passed turn.answer (answers_of turns) now (span_taken 0 s w chain.0 left chain.1 taken) whole chain.2 in
      elim step.then_ [
        | inl before ↦ (
          step.next,
          subst (λ (n : ℕ). NextAre n turns) (sym before.0)
              (begins_from turn.after turns end before.1 before.2 chain.3 before.3 nothing.1 (subst (λ (n : ℕ). IsPatient c.first c.units n turns) before.0 patient.1)),
        )
        | inr after ↦ (
          step.next,
          subst (λ (n : ℕ). NextAre n turns) (sym after.0)
              (next_from 1 turn.after turns end after.1 after.2 after.3 chain.3 nothing.1 (subst (λ (n : ℕ). IsPatient c.first c.units n turns) after.0 patient.1)),
        )
      ]
