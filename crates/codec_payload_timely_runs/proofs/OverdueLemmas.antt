-- A pop that answers None leaves no frame that is due.
use Rattle.std.proofs.Common.{◌≡◌, ◌∙◌, refl, sym, ap, subst, ℕ, ◌-◌, ◌≤◌, Bool, true, false, List, [], ◌∷◌, Option, Some, None, arith, leb, length}
use Rattle.codec_payload_buffer.proofs.BlankLemmas.{leaves_few}
use Rattle.codec_payload_buffer.proofs.PopLemmas.{nothing_passed}
use Rattle.codec_payload_buffer.specs.Blanks.{ready_since_among, ready_since_of}
use Rattle.codec_payload_buffer.specs.Frames.{frames}
use Rattle.codec_payload_buffer.specs.Steps.{Passes, State, due_among, due_of, none, one_more}
use Rattle.codec_payload_buffer.specs.declared.buffer.frames.CompleteFrame.{CompleteFrame}
use Rattle.codec_payload_buffer_runs.proofs.order.LossLemmas.{no_length}
use Rattle.codec_payload_jitter.specs.Receiving.{PopsWith, Receiving, has_little_room, is_overdue, is_pressed, is_starting, settled, waiting_at}
use Rattle.codec_payload_jitter.specs.Waiting.{most_held_back}
use Rattle.codec_payload_timely_runs.proofs.FirstFrames.{last_received}
use Rattle.codec_payload_timely_runs.proofs.WaitLemmas.{is_before, not_overdue, wait_by}
use Rattle.codec_payload_timely_runs.specs.Overdue.{FirstWaits, PopsLeaveNoneOverdue}

-- if no frame is complete, none is skipped
none_due : (s : State) → frames s.held ≡ [] → due_of s ≡ None
none_due s empty = ap (due_among s) empty

passes_nothing : (s t : State) (over : List CompleteFrame) → due_of s ≡ None → Passes s over t → t ≡ s
passes_nothing s t over free none = refl
passes_nothing s u over free (one_more {t = t} passes p) = absurd (nothing_passed s t _ p.frame free passes p.is_due)

-- if none is complete before a pop that answers None, none is after it
stays_empty : (wait : Option ℕ) (r t : Receiving) → PopsWith wait r None t → frames r.buffer.held ≡ [] → frames t.buffer.held ≡ []
stays_empty None r t is empty = ap (λ (x : Receiving). frames x.buffer.held) is.1 ∙ empty
stays_empty (Some hold_back) r t is empty =
    let from : State = record r.buffer { hold_back = hold_back } in
    let same : is.0 ≡ from = passes_nothing from is.0 is.1.0 (none_due from empty) is.1.1.0 in
    ap (λ (x : Receiving). frames x.buffer.held) is.2 ∙ (ap (λ (x : State). frames x.held) same ∙ empty)

-- nor after one that waits for nothing
none_after : (r t : Receiving) → PopsWith (Some 0) r None t → frames t.buffer.held ≡ []
none_after r t is =
    let few : length (frames is.0.held) ≤ 0 = leaves_few (record r.buffer { hold_back = 0 }) is.0 is.1 in
    ap (λ (x : Receiving). frames x.buffer.held) is.2 ∙ no_length (frames is.0.held) (omega (arith, few))

first_waits : (r t : Receiving) (max_wait now : ℕ) → r.wait_limits.max_wait ≡ Some max_wait → PopsWith (waiting_at r now) r None t → (frames t.buffer.held ≡ [] → ⊥)
    → FirstWaits max_wait now r.buffer
first_waits r t max_wait now limit is some = by_pressed (is_pressed r now) refl
  where
    by_frames : is_overdue r.wait_limits.max_wait now (ready_since_of r.buffer) ≡ false → (fs : List CompleteFrame) → frames r.buffer.held ≡ fs → FirstWaits max_wait now r.buffer
    by_frames waits [] e = absurd (some (stays_empty (waiting_at r now) r t is e))
    by_frames waits (f ∷ fs) e =
        let came = last_received r.buffer.held f fs e in
        let since : ready_since_of r.buffer ≡ Some came.0 = ap (ready_since_among r.buffer.held) e ∙ came.1 in
        let not_due : leb max_wait (now - came.0.0) ≡ false =
        sym (ap (λ (w : Option ℕ). is_overdue w now (Some came.0)) limit) ∙ (sym (ap (is_overdue r.wait_limits.max_wait now) since) ∙ waits) in
        record { frame = f; later = fs; first = e; since = came.0; arrived = came.1; not_due = is_before max_wait now came.0.0 not_due }

    by_pressed : (b : Bool) → is_pressed r now ≡ b → FirstWaits max_wait now r.buffer
    by_pressed true e = absurd (some (none_after r t (subst (λ (b : Bool). PopsWith (wait_by b (is_starting r) (most_held_back r.wait_limits.hold_back)) r None t) e is)))
    by_pressed false e =
        by_frames (not_overdue r.ended (is_overdue r.wait_limits.max_wait now (ready_since_of r.buffer)) (has_little_room r) e) (frames r.buffer.held) refl

pub leave_none_overdue : PopsLeaveNoneOverdue
leave_none_overdue r t max_wait now limit is some = first_waits (settled r) t max_wait now limit is some
