-- A unit that is held whole before a pop is released, or held whole in the end, or a push evicted one of its packets, or a pop
-- skipped it.
use Rattle.std.proofs.Common.{◌≡◌, ◌∙◌, refl, sym, ap, ℕ, zero, suc, subst, List, [], Some, None, Ok, Err, Bool, true}
use Rattle.std.proofs.Common.{false, ◌+◌, ◌-◌, ◌∷◌, ◌<◌, ◌≤◌, ◌⊎◌, ◌||◌, ◌&&◌, not, arith, length, take, drop, inl, inr}
use Rattle.std.specs.Prelude.{slice_get, Contains}
use Rattle.std.proofs.lemmas.Bool.{cases_lt}
use Rattle.std.proofs.lemmas.List.{take-append-drop}
use Rattle.codec_payload_buffer.proofs.MemberLemmas.{IsIn, contains_in, in_append}
use Rattle.codec_payload_buffer.proofs.PopLemmas.{due_first}
use Rattle.codec_payload_buffer_runs.proofs.order.SafetyLemmas.{before_later, before_next, lawful_at, released_at}
use Rattle.codec_payload_buffer.proofs.StretchLemmas.{in_number, range_in}
use Rattle.codec_payload_buffer_runs.proofs.order.TurnLemmas.{Setting, Beyond, frame_due, count, IsSpan, IsPop, waits, releases}
use Rattle.codec_payload_buffer_runs.proofs.order.TurnLemmas.{Chain, IsReady, span_within, span_left, span_ready, ready_pops, left_ready, passed_beyond}
use Rattle.codec_payload_buffer_runs.proofs.order.WholeLemmas.{has_above, lowest_frame, unit_in, some_packets}
use Rattle.codec_payload_buffer.specs.Frames.{frames}
use Rattle.codec_payload_buffer_runs.specs.Headline.{packets_before}
use Rattle.codec_payload_buffer.specs.Held.{Held, has_number, Rises, above}
use Rattle.codec_payload_buffer_runs.specs.Log.{Stretch, Turn}
use Rattle.codec_payload_metadata.specs.Release.{Release}
use Rattle.codec_payload_buffer_runs.specs.RunOrder.{numbers_in, evicted_in}
use Rattle.codec_payload_buffer_runs.specs.RunUnits.{IsNumberIn, IsHeldWhole, IsWholeAt, ReleasesWhole, IsAmong, Fate, released, skipped_over, held, evicted, NoneIsLost}
use Rattle.codec_payload_buffer.specs.Scan.{first_of}
use Rattle.codec_payload_buffer_runs.specs.Schedule.{Answer}
use Rattle.codec_payload_buffer_runs.specs.SentStream.{SentUnit}
use Rattle.codec_payload_buffer.specs.Steps.{State, due_of, Passes, none, one_more, Releases, is_at_most}
use Rattle.codec_payload_buffer.specs.Stretches.{counts}
use Rattle.codec_payload_buffer.specs.declared.buffer.frames.CompleteFrame.{CompleteFrame}

-- some number of a range has P, or each has Q
all_or_some : (P Q : ℕ → Type 0) (a n : ℕ) → ((k : ℕ) → a ≤ k → k < n → P k ⊎ Q k) → ((k : ℕ) → a ≤ k → k < n → Q k) ⊎ ((k : ℕ) × (a ≤ k) × (k < n) × P k)
all_or_some P Q a zero each = inl (λ k low high. absurd (omega (arith, high)))
all_or_some P Q a (suc n) each = elim (all_or_some P Q a n (λ k low high. each k low (omega (arith, high)))) [
  | inr some ↦ inr (some.0, some.1, omega (arith, some.2), some.3)
  | inl below ↦ elim (cases_lt n a) [
    | inl before ↦ inl (λ k low high. absurd (omega (arith, before, low, high)))
    | inr here ↦ elim (each n here (omega arith)) [
      | inl p ↦ inr (n, here, omega arith, p)
      | inr q ↦ inl (λ k low high. elim (cases_lt k n) [ inl less ↦ below k low less | inr ge ↦ let e : n ≡ k = omega (arith, ge, high) in subst Q e q ])
    ]
  ]
]

or_left : (a b : Bool) → a ≡ true → (a || b) ≡ true
or_left true b h = refl
or_left false b h = absurd (cc)

pub no_length : {X : Type 0} (xs : List X) → length xs ≡ 0 → xs ≡ []
no_length [] h = refl
no_length (x ∷ xs) h = absurd (omega (arith, h))

module _ (c : Setting) where
  abbrev pub Whole : ℕ → State → Type 0
  Whole place s = IsHeldWhole c.first c.units place s

  -- two units that end at one number are one
  same_end : (p q : ℕ) (u v : SentUnit) → slice_get c.units p ≡ Some u → slice_get c.units q ≡ Some v → packets_before (p + 1) c.units ≡ packets_before (q + 1) c.units → p ≡ q
  same_end p q u v at_p at_q e =
      let some_u = some_packets c u.packets (lawful_at c.kind c.splits c.units p u c.lawful at_p).ends in
      let some_v = some_packets c v.packets (lawful_at c.kind c.splits c.units q v c.lawful at_q).ends in
      let next_p = before_next c.units p u at_p in
      let next_q = before_next c.units q v at_q in
      elim (cases_lt p q) [
        | inl less ↦ absurd (omega (arith, before_later c.units p q u at_p less, next_p, next_q, some_v, e))
        | inr ge ↦ elim (cases_lt q p) [
          | inl more ↦ absurd (omega (arith, before_later c.units q p v at_q more, next_p, next_q, some_u, e))
          | inr le ↦ omega (arith, ge, le)
        ]
      ]

  -- the frame that is due, if a unit is held whole: it is below the unit, or it is the unit's frame, whole
  pub due_whole : (from : ℕ) (s : State) (f : CompleteFrame) (place : ℕ) (u : SentUnit) (beyond : Beyond c from s) → slice_get c.units place ≡ Some u → Whole place s → (due : due_of s ≡ Some f)
      → (f.last < c.first + packets_before place c.units) ⊎ (let frame = frame_due c from s f beyond due in (frame.place ≡ place) × (frame.missing ≡ [])
      × (f.first ≤ c.first + packets_before place c.units) × (f.last + 1 ≡ c.first + packets_before (place + 1) c.units))
  due_whole from s f place u beyond at whole due =
      let law = lawful_at c.kind c.splits c.units place u c.lawful at in
      let size = before_next c.units place u at in
      let some = some_packets c u.packets law.ends in
      let last = c.first + packets_before (place + 1) c.units - 1 in
      let l : last + 1 ≡ c.first + packets_before (place + 1) c.units = omega (arith, size, some) in
      let row = unit_in c place u s last at beyond.rises beyond.sent whole l in
      let frame = frame_due c from s f beyond due in
      elim (lowest_frame row.below row.row row.rest (c.first + packets_before place c.units) last row.time f (subst Rises row.whole beyond.rises) row.run row.begins
      (ap (λ (hs : List Held). first_of (frames hs)) (sym row.whole) ∙ due_first s (frames s.held) f due)) [
        | inl early ↦ inl early
        | inr here ↦
            let stop : f.last + 1 ≡ c.first + packets_before (place + 1) c.units = omega (arith, here.0, l) in
            let same : frame.place ≡ place = same_end frame.place place frame.sent u frame.at_place at (omega (arith, frame.stop, stop)) in
            let start : f.first ≡ c.first + (packets_before place c.units + length frame.missing) = subst
            (λ (p : ℕ). f.first ≡ c.first + (packets_before p c.units + length frame.missing)) same frame.start in
            inr (same, no_length frame.missing (omega (arith, start, here.1)), here.1, stop)
      ]

  -- a release of a unit, whole
  pub record IsWholeRelease (place : ℕ) (t : State) (r : Release) (last : ℕ) : Type 0 where
    pub whole : IsWholeAt c.known c.splits c.units place r
    pub next : Beyond c (place + 1) t
    pub end : last + 1 ≡ c.first + packets_before (place + 1) c.units

  pub whole_release : (from : ℕ) (s t : State) (r : Release) (place : ℕ) (beyond : Beyond c from s) (out : Releases s r t) → let frame = frame_due c from s out.frame beyond out.is_due in
      frame.place ≡ place → frame.missing ≡ [] → IsWholeRelease place t r out.frame.last
  whole_release from s t r place beyond out same nothing =
      let frame = frame_due c from s out.frame beyond out.is_due in
      let is = released_at c.known c.clock_rate c.first c.kind c.faithful c.splits c.units c.lawful c.numbered from s t r beyond out in
      subst (λ (p : ℕ). IsWholeRelease p t r out.frame.last) same (record { whole = (is.0, is.1 ∙ nothing); next = is.2; end = frame.stop })

  -- the frame and all below it have left: a unit above stays
  stays : (place : ℕ) (s : State) (f : CompleteFrame) → f.last < c.first + packets_before place c.units → Whole place s → (n : ℕ) → IsNumberIn c.first c.units place n
      → has_number n (above f.last s.held) ≡ true
  stays place s f early whole n is = has_above n f.last s.held (omega (arith, early, is.from)) (whole n is)

  left_whole : (place : ℕ) (s t : State) (f : CompleteFrame) → t.held ≡ above f.last s.held → f.last < c.first + packets_before place c.units → Whole place s → Whole place t
  left_whole place s t f left early whole n is = ap (has_number n) left ∙ stays place s f early whole n is

  passed_more : (place : ℕ) (f : CompleteFrame) (over : List CompleteFrame) → IsAmong c.first c.units place over → IsAmong c.first c.units place (f ∷ over)
  passed_more place f over is = (is.0, (suc is.1.0, omega (arith, is.1.1), is.1.2), is.2, is.3)

  -- frames are skipped
  pass_keeps : (from : ℕ) (s t : State) (over : List CompleteFrame) (place : ℕ) (u : SentUnit) → Beyond c from s → Passes s over t → slice_get c.units place ≡ Some u → Whole place s
      → IsAmong c.first c.units place over ⊎ Whole place t
  pass_keeps from s t over place u beyond none at whole = inr whole
  pass_keeps from s v over place u beyond (one_more {t = t} passes p) at whole = elim (pass_keeps from s t _ place u beyond passes at whole) [
    | inl done ↦ inl (passed_more place p.frame _ done)
    | inr still ↦
        let mid = passed_beyond c from s t _ beyond passes in
        let frame = frame_due c from t p.frame mid p.is_due in
        elim (due_whole from t p.frame place u mid at still p.is_due) [
          | inl early ↦ inr (left_whole place t v p.frame (ap (λ (x : State). x.held) p.left) early still)
          | inr here ↦
              let begins : p.frame.first ≡ c.first + packets_before place c.units = omega (arith, frame.start, ap (λ (q : ℕ). packets_before q c.units) here.0, ap length here.1) in
              inl (p.frame, (0, omega arith, refl), begins, here.3)
        ]
  ]

  -- a pop
  pub at_pop : (from : ℕ) (s t : State) (over : List CompleteFrame) (a : Answer) (place : ℕ) (u : SentUnit) → Beyond c from s → IsPop c s t over a → slice_get c.units place ≡ Some u → Whole place s
      → ReleasesWhole c.known c.splits c.units place a ⊎ (IsAmong c.first c.units place over ⊎ Whole place t)
  at_pop from s t over None place u beyond (waits passes nothing) at whole = inr (pass_keeps from s t over place u beyond passes at whole)
  at_pop from s t over (Some (Err fault)) place u beyond pop at whole = elim pop [ ]
  at_pop from s t over (Some (Ok r)) place u beyond (releases mid passes out) at whole = elim (pass_keeps from s mid over place u beyond passes at whole) [
    | inl done ↦ inr (inl done)
    | inr still ↦
        let there = passed_beyond c from s mid over beyond passes in
        elim (due_whole from mid out.frame place u there at still out.is_due) [
          | inl early ↦ inr (inr (left_whole place mid t out.frame (ap (λ (x : State). x.held) out.left) early still))
          | inr here ↦ inl (whole_release from mid t r place there out here.0 here.1).whole
        ]
  ]

  -- pushes
  number_kept : (from : ℕ) (w : Stretch) (n : ℕ) → IsReady c from w.left → IsSpan c w → has_number n w.left.held ≡ true → Contains (evicted_in c.first (count c) w) n ⊎ (has_number n w.now.held ≡ true)
  number_kept from w n ready is has =
      let all = numbers_in c.first (count c) w in
      let m = length all - w.left.limit in
      let counts_it : counts w.left w.pushes n ≡ true = or_left (has_number n w.left.held) (not (is_at_most w.left.cutoff n) && has_number n w.pushes) has in
      let within = span_within c from w ready is n counts_it in
      let there : IsIn n all = range_in (counts w.left w.pushes) n c.first (count c) within.0 within.1 counts_it in
      elim (in_append n (take m all) (drop m all) (subst (IsIn n) (sym (take-append-drop m all)) there)) [
        | inl gone ↦ inl (contains_in n (take m all) gone)
        | inr still ↦ inr (in_number n w.now.held (subst (IsIn n) (sym (span_left c from w ready is).held) still))
      ]

  pub at_span : (from : ℕ) (w : Stretch) (place : ℕ) → IsReady c from w.left → IsSpan c w → Whole place w.left
      → Whole place w.now ⊎ ((n : ℕ) × IsNumberIn c.first c.units place n × Contains (evicted_in c.first (count c) w) n)
  at_span from w place ready is whole =
      elim (all_or_some (λ n. Contains (evicted_in c.first (count c) w) n) (λ n. has_number n w.now.held ≡ true) (c.first + packets_before place c.units) (c.first + packets_before (place + 1) c.units)
      (λ n low high. number_kept from w n ready is (whole n (record { from = low; to = high })))) [
        | inl still ↦ inl (λ n is. still n is.from is.to)
        | inr out ↦ inr (out.0, record { from = out.1; to = out.2 }, out.3)
      ]

  -- the fate of a unit that is held whole after a pop
  abbrev FateIn : ℕ → List Turn → List Turn → Stretch → Type 0
  FateIn place turns later end = Fate c.known c.first c.splits c.units place turns later end

  pub more : (place : ℕ) (turn : Turn) (turns : List Turn) (end : Stretch) → FateIn place turns turns end → FateIn place (turn ∷ turns) turns end
  more place turn turns end (released is) = released (inr is)
  more place turn turns end (skipped_over is) = skipped_over (inr is)
  more place turn turns end (held is) = held is
  more place turn turns end (evicted is) = evicted is

  pub later_too : (place : ℕ) (turn : Turn) (turns : List Turn) (end : Stretch) → FateIn place (turn ∷ turns) turns end → FateIn place (turn ∷ turns) (turn ∷ turns) end
  later_too place turn turns end (released is) = released is
  later_too place turn turns end (skipped_over is) = skipped_over is
  later_too place turn turns end (held is) = held is
  later_too place turn turns end (evicted is) = evicted (is.0, is.1, inr is.2)

  fate : (from : ℕ) (s : State) (turns : List Turn) (end : Stretch) (place : ℕ) (u : SentUnit) → IsReady c from s → Chain c s turns end
      → slice_get c.units place ≡ Some u → Whole place s → FateIn place turns turns end
  fate from s [] end place u ready chain at whole =
      elim (at_span from end place (left_ready c from s end chain.0 ready) chain.1 (subst (Whole place) (sym chain.0) whole)) [
        | inl still ↦ held still
        | inr out ↦ evicted out
      ]
  fate from s (turn ∷ turns) end place u ready chain at whole =
      let left = left_ready c from s turn.stretch chain.0 ready in
      let now = span_ready c from turn.stretch left chain.1 in
      let next = ready_pops c from turn.stretch.now turn.after turn.passed turn.answer now chain.2 in
      elim (at_span from turn.stretch place left chain.1 (subst (Whole place) (sym chain.0) whole)) [
        | inr out ↦ evicted (out.0, out.1, inl out.2)
        | inl still ↦ later_too place turn turns end (elim (at_pop from turn.stretch.now turn.after turn.passed turn.answer place u now.beyond chain.2 at still) [
          | inl done ↦ released (inl done)
          | inr left_over ↦ elim left_over [
            | inl over ↦ skipped_over (inl over)
            | inr after ↦ more place turn turns end (fate next.0 turn.after turns end place u next.1 chain.3 at after)
          ]
        ])
      ]

  pub none_is_lost : (from : ℕ) (s : State) (turns : List Turn) (end : Stretch) → IsReady c from s → Chain c s turns end → NoneIsLost c.known c.first c.splits c.units turns end
  none_is_lost from s [] end ready chain = tt
  none_is_lost from s (turn ∷ turns) end ready chain =
      let left = left_ready c from s turn.stretch chain.0 ready in
      let now = span_ready c from turn.stretch left chain.1 in
      let next = ready_pops c from turn.stretch.now turn.after turn.passed turn.answer now chain.2 in (
        λ place u at whole. elim (at_pop from turn.stretch.now turn.after turn.passed turn.answer place u now.beyond chain.2 at whole) [
          | inl done ↦ released (inl done)
          | inr left_over ↦ elim left_over [
            | inl over ↦ skipped_over (inl over)
            | inr after ↦ more place turn turns end (fate next.0 turn.after turns end place u next.1 chain.3 at after)
          ]
        ],
        none_is_lost next.0 turn.after turns end next.1 chain.3,
      )
