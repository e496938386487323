-- A pop that answers None and leaves a unit that is held whole: the first complete frame is not due yet.
use Rattle.std.proofs.Common.{◌≡◌, ◌∙◌, refl, sym, ap, subst, ℕ, ◌+◌, ◌-◌, ◌<◌, ◌≤◌, ◌||◌, Bool, true, false, List, [], ◌∷◌, Option, Some, None, arith, cond, eqb, leb, ltb, length}
use Rattle.std.specs.Prelude.{Contains, slice_get}
use Rattle.std.proofs.lemmas.Bool.{leb-false}
use Rattle.codec_payload_codec.proofs.CaseLemmas.{by_test}
use Rattle.codec_payload_buffer.proofs.BlankLemmas.{leaves_few}
use Rattle.codec_payload_buffer.specs.Blanks.{ready_since_among, ready_since_of}
use Rattle.codec_payload_buffer.specs.Frames.{frames}
use Rattle.codec_payload_buffer.specs.Held.{Held, above, has_number, number_of}
use Rattle.codec_payload_buffer.specs.Steps.{Passes, State, none, one_more}
use Rattle.codec_payload_buffer.specs.declared.buffer.frames.CompleteFrame.{CompleteFrame}
use Rattle.codec_payload_buffer_runs.proofs.order.LossLemmas.{no_length}
use Rattle.codec_payload_buffer_runs.proofs.order.TurnLemmas.{IsReady, Setting}
use Rattle.codec_payload_buffer_runs.specs.Headline.{packets_before}
use Rattle.codec_payload_buffer_runs.specs.RunUnits.{IsHeldWhole}
use Rattle.codec_payload_buffer_runs.specs.SentStream.{SentUnit}
use Rattle.codec_payload_jitter.specs.Receiving.{Receiving, has_little_room, is_overdue, is_pressed, is_starting}
use Rattle.codec_payload_jitter.specs.Waiting.{most_held_back}
use Rattle.codec_payload_datagram_runs.specs.WireLogs.{AnswersTurn, wait_of}
use Rattle.codec_payload_timely_runs.proofs.FirstFrames.{IsFirst, first_frame, has_later}
use Rattle.codec_payload_timely_runs.specs.TimelyRuns.{SomeWaits, due_at}

-- What a pop leaves was held

above_has : (n last : ℕ) (hs : List Held) → has_number n (above last hs) ≡ true → has_number n hs ≡ true
above_has n last [] h = h
above_has n last (p ∷ ps) h =
    by_test (ltb last (number_of p)) (λ b. has_number n (cond b (p ∷ above last ps) (above last ps)) ≡ true → has_number n (p ∷ ps) ≡ true)
    (λ e. by_test (eqb (number_of p) n) (λ b. (b || has_number n (above last ps)) ≡ true → (b || has_number n ps) ≡ true) (λ same h. refl) (λ other h. above_has n last ps h))
    (λ e h. has_later n p ps (above_has n last ps h)) h

passes_has : (n : ℕ) (s t : State) (over : List CompleteFrame) → Passes s over t → has_number n t.held ≡ true → has_number n s.held ≡ true
passes_has n s t over none h = h
passes_has n s u over (one_more {t = t} passes p) h =
    passes_has n s t _ passes (above_has n p.frame.last t.held (sym (ap (λ (x : State). has_number n x.held) p.left) ∙ h))

none_has : (n : ℕ) (wait : Option ℕ) (s t : State) (passed : List CompleteFrame) → AnswersTurn wait s passed None t → has_number n t.held ≡ true → has_number n s.held ≡ true
none_has n None s t passed is h = sym (ap (λ (x : State). has_number n x.held) is.2) ∙ h
none_has n (Some hold_back) s t passed is h = passes_has n (record s { hold_back = hold_back }) t passed is.1.0 h

-- A pop that waits for nothing

none_left : (s t : State) (passed : List CompleteFrame) → AnswersTurn (Some 0) s passed None t → frames t.held ≡ []
none_left s t passed is =
    let few : length (frames t.held) ≤ 0 = leaves_few (record s { hold_back = 0 }) t (passed, is.1) in
    no_length (frames t.held) (omega (arith, few))

no_frame : (f : CompleteFrame) (fs : List CompleteFrame) → f ∷ fs ≡ [] → ⊥
no_frame f fs h = absurd (cc)

abbrev pub wait_by : Bool → Bool → ℕ → Option ℕ
wait_by pressed starting most = cond pressed (Some 0) (cond starting None (Some most))

-- the first complete frame is not due
pub is_before : (max_wait now since : ℕ) → leb max_wait (now - since) ≡ false → now < since + max_wait
is_before max_wait now since h = let l = leb-false max_wait (now - since) h in omega (arith, l)

pub not_overdue : (ended overdue little : Bool) → (ended || (overdue || little)) ≡ false → overdue ≡ false
not_overdue false false little h = refl
not_overdue false true little h = absurd (cc)
not_overdue true overdue little h = absurd (cc)

-- the receiver at a pop
abbrev asked : Receiving → Bool → State → Receiving
asked r at_end s = record r { buffer = s; ended = at_end }

module _ (c : Setting) where
  -- the deadline after a pop that leaves a unit that is held whole
  pub due_after : (max_wait place : ℕ) (u : SentUnit) (from : ℕ) (t : State) → IsReady c from t → slice_get c.units place ≡ Some u → IsHeldWhole c.first c.units place t
      → (first : IsFirst (c.first + packets_before (place + 1) c.units) t) × (due_at max_wait (ready_since_of t) ≡ Some (first.since.0 + max_wait))
  due_after max_wait place u from t ready at whole =
      let first = first_frame c place u t at ready.beyond.rises ready.beyond.sent whole in
      (first, ap (λ (fs : List CompleteFrame). due_at max_wait (ready_since_among t.held fs)) first.are ∙ ap (due_at max_wait) first.at)

  pub some_waits : (r : Receiving) (at_end : Bool) (max_wait now place : ℕ) (u : SentUnit) (from next : ℕ) (s t : State) (passed : List CompleteFrame)
      → r.wait_limits.max_wait ≡ Some max_wait → slice_get c.units place ≡ Some u → IsReady c from s → IsReady c next t
      → AnswersTurn (wait_of r at_end s now) s passed None t → IsHeldWhole c.first c.units place t
      → SomeWaits max_wait (c.first + packets_before (place + 1) c.units) now s
  some_waits r at_end max_wait now place u from next s t passed limit at ready after is whole = by_pressed (is_pressed (asked r at_end s) now) refl
    where
      by_pressed : (b : Bool) → is_pressed (asked r at_end s) now ≡ b → SomeWaits max_wait (c.first + packets_before (place + 1) c.units) now s
      by_pressed true e =
          let first = first_frame c place u t at after.beyond.rises after.beyond.sent whole in
          let nothing = none_left s t passed (subst (λ (b : Bool). AnswersTurn (wait_by b (is_starting (asked r at_end s)) (most_held_back r.wait_limits.hold_back)) s passed None t) e is) in
          absurd (no_frame first.frame first.later (sym first.are ∙ nothing))
      by_pressed false e =
          let before : IsHeldWhole c.first c.units place s = λ n is_in. none_has n (wait_of r at_end s now) s t passed is (whole n is_in) in
          let first = first_frame c place u s at ready.beyond.rises ready.beyond.sent before in
          let since : ready_since_of s ≡ Some first.since = ap (ready_since_among s.held) first.are ∙ first.at in
          let waits : is_overdue r.wait_limits.max_wait now (ready_since_of s) ≡ false =
          not_overdue at_end (is_overdue r.wait_limits.max_wait now (ready_since_of s)) (has_little_room (asked r at_end s)) e in
          let not_due : leb max_wait (now - first.since.0) ≡ false =
          sym (ap (λ (w : Option ℕ). is_overdue w now (Some first.since)) limit) ∙ (sym (ap (is_overdue r.wait_limits.max_wait now) since) ∙ waits) in (
            first.frame,
            first.since,
            subst (λ (fs : List CompleteFrame). Contains fs first.frame) (sym first.are) (0, omega arith, refl),
            first.below,
            first.at,
            is_before max_wait now first.since.0 not_due,
          )
