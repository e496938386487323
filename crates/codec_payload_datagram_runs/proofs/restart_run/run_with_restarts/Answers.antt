use Rattle.std.proofs.Common.{◌≡◌, ◌∙◌, ◌++◌, ◌∷◌, ◌+◌, ◌*◌, ◌<◌, ◌≤◌, ◌⊎◌, [], List, ap, append-nil, append_assoc, arith, drop, false, get_or, inl, inr, length, ltb, map, min, refl, rules, set, sym, subst, take, true, Bool, ℕ}
use Rattle.std.proofs.lemmas.Bool.{cases_lt, lt-ltb}
use Rattle.std.proofs.lemmas.List.{drop-set-lt, drop_all, drop_more, length-drop, take-append-drop, take_more_set}
use Rattle.std.proofs.lemmas.Nat.{mul-le}
use Rattle.codec_payload_codec.proofs.AnswerLemmas.{on_err}
use Rattle.codec_payload_payloader.specs.Sending.{Sample, sample_of}
use Rattle.codec_payload_sending.specs.Senders.{Sending}
use Rattle.codec_payload_receiver.specs.Sessions.{Session}
use Rattle.codec_payload_datagram_runs.proofs.RestartLemmas.{promises_with_restarts, release_with_restarts}
use Rattle.codec_payload_datagram_runs.specs.OwnRuns.{AsksForEnds, AsksForUnit, AsksInRun, AsksPacketizer}
use Rattle.codec_payload_datagram_runs.specs.RestartRuns.{RunsParts, RunsPartsBy, StopsParts, told_if}
use Rattle.codec_payload_datagram_runs.specs.WireRuns.{Runs, Stops, Wire, begins, wire_of}
use Rattle.codec_payload_datagram_runs.specs.declared.restart_run.Part.{Part}
use Rattle.codec_payload_datagram_runs.specs.declared.run.DatagramRun.{DatagramRun}
use Rattle.codec_payload_datagram_runs.specs.declared.run.DatagramStep.{DatagramStep}
use Rattle.codec_payload_datagram_runs.proofs.restart_run.run_with_restarts.Goals as goal

-- the next part and its sender, of the lists from a place on
next_of : {X : Type 0} (xs : List X) (i : ℕ) (x : X) → i < length xs → x ≡ get_or xs i x → drop i xs ≡ x ∷ drop (i + 1) xs
next_of xs i x within is = drop_more xs i x within ∙ ap (λ y. y ∷ drop (i + 1) xs) (sym is)

-- one part, and those after it
one_part : (R : List DatagramStep → Wire → Wire → Type 0) (parts : List Part) (senders : List Sending) (i : ℕ) (part : Part) (sender sent : Sending) (s r mid t : Session) (run : DatagramRun)
    (all : List DatagramStep) (more : List DatagramRun) (rest : List Sending) → drop i parts ≡ part ∷ drop (i + 1) parts → drop i senders ≡ sender ∷ drop (i + 1) senders
    → all ≡ part.steps.items → r ≡ told_if (ltb 0 i) part.ssrc s → R all (begins sender r) (wire_of sent mid run)
    → RunsPartsBy R (ltb 0 (i + 1)) (drop (i + 1) parts) (drop (i + 1) (set senders i sent)) mid more rest t
    → RunsPartsBy R (ltb 0 i) (drop i parts) (drop i senders) s (run ∷ more) (sent ∷ rest) t
one_part R parts senders i part sender sent s r mid t run all more rest parts_are senders_are all_are told_is does later =
    let still : drop (i + 1) (set senders i sent) ≡ drop (i + 1) senders = drop-set-lt (i + 1) senders i sent (omega arith) in
    let next : ltb 0 (i + 1) ≡ true = lt-ltb 0 (i + 1) (omega arith) in
    let here : R part.steps.items (begins sender (told_if (ltb 0 i) part.ssrc s)) (wire_of sent mid run) =
    subst (λ (x : Session). R part.steps.items (begins sender x) (wire_of sent mid run)) told_is (subst (λ (xs : List DatagramStep). R xs (begins sender r) (wire_of sent mid run)) all_are does) in
    let others : RunsPartsBy R true (drop (i + 1) parts) (drop (i + 1) senders) mid more rest t =
    subst (λ (b : Bool). RunsPartsBy R b (drop (i + 1) parts) (drop (i + 1) senders) mid more rest t) next
    (subst (λ (xs : List Sending). RunsPartsBy R (ltb 0 (i + 1)) (drop (i + 1) parts) xs mid more rest t) still later) in
    subst (λ (ps : List Part). RunsPartsBy R (ltb 0 i) ps (drop i senders) s (run ∷ more) (sent ∷ rest) t) (sym parts_are)
    (subst (λ (xs : List Sending). RunsPartsBy R (ltb 0 i) (part ∷ drop (i + 1) parts) xs s (run ∷ more) (sent ∷ rest) t) (sym senders_are) (mid, here, others))

-- the same if memory runs out in a later part
stops_later : (samples : List Sample) (parts : List Part) (senders : List Sending) (i : ℕ) (part : Part) (sender sent : Sending) (s r mid t : Session) (run : DatagramRun)
    (all : List DatagramStep) (rest : List Sending) → drop i parts ≡ part ∷ drop (i + 1) parts → drop i senders ≡ sender ∷ drop (i + 1) senders
    → all ≡ part.steps.items → r ≡ told_if (ltb 0 i) part.ssrc s → Runs samples all (begins sender r) (wire_of sent mid run)
    → StopsParts samples (ltb 0 (i + 1)) (drop (i + 1) parts) (drop (i + 1) (set senders i sent)) mid rest t
    → StopsParts samples (ltb 0 i) (drop i parts) (drop i senders) s (sent ∷ rest) t
stops_later samples parts senders i part sender sent s r mid t run all rest parts_are senders_are all_are told_is does later =
    let still : drop (i + 1) (set senders i sent) ≡ drop (i + 1) senders = drop-set-lt (i + 1) senders i sent (omega arith) in
    let next : ltb 0 (i + 1) ≡ true = lt-ltb 0 (i + 1) (omega arith) in
    let here : Runs samples part.steps.items (begins sender (told_if (ltb 0 i) part.ssrc s)) (wire_of sent mid run) =
    subst (λ (x : Session). Runs samples part.steps.items (begins sender x) (wire_of sent mid run)) told_is (subst (λ (xs : List DatagramStep). Runs samples xs (begins sender r) (wire_of sent mid run)) all_are does) in
    let others : StopsParts samples true (drop (i + 1) parts) (drop (i + 1) senders) mid rest t =
    subst (λ (b : Bool). StopsParts samples b (drop (i + 1) parts) (drop (i + 1) senders) mid rest t) next
    (subst (λ (xs : List Sending). StopsParts samples (ltb 0 (i + 1)) (drop (i + 1) parts) xs mid rest t) still later) in
    subst (λ (ps : List Part). StopsParts samples (ltb 0 i) ps (drop i senders) s (sent ∷ rest) t) (sym parts_are)
    (subst (λ (xs : List Sending). StopsParts samples (ltb 0 i) (part ∷ drop (i + 1) parts) xs s (sent ∷ rest) t) (sym senders_are) (inr (inr (sent, mid, run, rest, refl, here, others))))

-- the same if it runs out in this part
stops_here : (samples : List Sample) (parts : List Part) (senders : List Sending) (i : ℕ) (part : Part) (sender sent : Sending) (s r t : Session) (all : List DatagramStep)
    → drop i parts ≡ part ∷ drop (i + 1) parts → drop i senders ≡ sender ∷ drop (i + 1) senders → all ≡ part.steps.items → r ≡ told_if (ltb 0 i) part.ssrc s
    → Stops samples all (begins sender r) sent t → StopsParts samples (ltb 0 i) (drop i parts) (drop i senders) s (sent ∷ drop (i + 1) senders) t
stops_here samples parts senders i part sender sent s r t all parts_are senders_are all_are told_is stops =
    let here : Stops samples part.steps.items (begins sender (told_if (ltb 0 i) part.ssrc s)) sent t =
    subst (λ (x : Session). Stops samples part.steps.items (begins sender x) sent t) told_is (subst (λ (xs : List DatagramStep). Stops samples xs (begins sender r) sent t) all_are stops) in
    subst (λ (ps : List Part). StopsParts samples (ltb 0 i) ps (drop i senders) s (sent ∷ drop (i + 1) senders) t) (sym parts_are)
    (subst (λ (xs : List Sending). StopsParts samples (ltb 0 i) (part ∷ drop (i + 1) parts) xs s (sent ∷ drop (i + 1) senders) t) (sym senders_are) (inr (inl (sent, refl, here))))

-- or before it
stops_before : (samples : List Sample) (later : Bool) (parts : List Part) (senders : List Sending) (s : Session) → 0 < length parts → 0 < length senders → StopsParts samples later parts senders s senders s
stops_before samples later [] senders s some some_senders = absurd (omega (arith, some))
stops_before samples later (part ∷ parts) [] s some some_senders = absurd (omega (arith, some_senders))
stops_before samples later (part ∷ parts) (sender ∷ senders) s some some_senders = inl (refl, refl)

-- at the end no part is left, or no sender
none_left : (R : List DatagramStep → Wire → Wire → Type 0) (later : Bool) (parts : List Part) (senders : List Sending) (s : Session) → (parts ≡ []) ⊎ (senders ≡ [])
    → RunsPartsBy R later parts senders s [] senders s
none_left R later parts senders s (inl none) = subst (λ (ps : List Part). RunsPartsBy R later ps senders s [] senders s) (sym none) (refl, refl, refl)
none_left R later [] senders s (inr none) = (refl, refl, refl)
none_left R later (part ∷ parts) senders s (inr none) = subst (λ (xs : List Sending). RunsPartsBy R later (part ∷ parts) xs s [] xs s) (sym none) (refl, refl, refl)

-- no place is left
ended_at : (parts : List Part) (senders : List Sending) (i : ℕ) → min (length parts) (length senders) ≤ i → (drop i parts ≡ []) ⊎ (drop i senders ≡ [])
ended_at parts senders i over = elim (cases_lt i (length parts)) [
  | inl within ↦ inr (drop_all i senders (omega (arith, over, within)))
  | inr past ↦ inl (drop_all i parts past)
]

joined_runs : (xs ys : List DatagramRun) (x : DatagramRun) (more : List DatagramRun) → ys ≡ xs ++ x ∷ [] → xs ++ x ∷ more ≡ ys ++ more
joined_runs xs ys x more is = sym (ap (λ (zs : List DatagramRun). zs ++ more) is ∙ append_assoc xs (x ∷ []) more)

joined_senders : (senders : List Sending) (i : ℕ) (sent : Sending) (rest : List Sending) → i < length senders → take i senders ++ sent ∷ rest ≡ take (i + 1) (set senders i sent) ++ rest
joined_senders senders i sent rest within =
    sym (ap (λ (zs : List Sending). zs ++ rest) (take_more_set senders i sent within) ∙ append_assoc (take i senders) (sent ∷ []) rest)

whole_senders : (senders : List Sending) (i : ℕ) (sent : Sending) → i < length senders → take i senders ++ sent ∷ drop (i + 1) senders ≡ set senders i sent
whole_senders senders i sent within =
    joined_senders senders i sent (drop (i + 1) senders) within
    ∙ (ap (λ (xs : List Sending). take (i + 1) (set senders i sent) ++ xs) (sym (drop-set-lt (i + 1) senders i sent (omega arith))) ∙ take-append-drop (i + 1) (set senders i sent))

-- The goals

-- the offset of an element is below the size of all
offset_below : (place len size : ℕ) → place < len → len * size < 9223372036854775808 → place * size < 18446744073709551616
offset_below place len size within few = let le : place * size ≤ len * size = mul-le place size len size (omega (arith, within)) (omega arith) in omega (arith, le, few)

pub offset_bounds-senders-place : goal.offset_bounds-senders-place
offset_bounds-senders-place g c =
    let within : c.loop-place.place < length c.args.senders.now = omega (arith, c.loop-place-test.true, c.min-place-end.ensures) in
    let below = offset_below c.loop-place.place (length c.args.senders.now) _ within c.well_formed.1.0.1 in
    omega (arith, below)

pub loop-place-preserved : goal.loop-place-preserved
loop-place-preserved g c =
    let samples : List Sample = map sample_of c.args.samples.now in
    let parts : List Part = c.args.parts.now in
    let i : ℕ = c.loop-place.place in
    let senders : List Sending = c.loop-place.senders in
    let sent : Sending = c.run_datagrams.new.sender in
    let mid : Session = c.run_datagrams.new.receiver in
    let run : DatagramRun = c.in_ok-run.run' in
    let within : i < length senders = omega (arith, c.loop-place-test.true, c.min-place-end.ensures, c.loop-place.auto.senders) in
    let parts_are = next_of parts i c.index-parts-place.result (omega (arith, c.loop-place-test.true, c.min-place-end.ensures)) c.index-parts-place.is in
    let sender : Sending = get_or senders i c.index-senders-place.result in
    let senders_are = drop_more senders i c.index-senders-place.result within in
    let gained : c.push.new.self.items ≡ c.loop-place.runs.items ++ run ∷ [] = search rules in
    let Asks : List DatagramStep → Wire → Wire → Type 0 = AsksInRun (AsksPacketizer g.P.Packetizer.state g.P.Packetizer.packetize_step g.P.Packetizer.marker_step g.P.Packetizer.marks_spurts)
    (AsksForEnds g.D.Depacketizer.is_head g.D.Depacketizer.is_tail) (AsksForUnit g.D.Depacketizer.state g.D.Depacketizer.depacketize_step) samples in
    record {
      runs = λ more rest t later.
          subst (λ (rs : List DatagramRun). RunsParts samples false parts c.args.senders.now c.args.receiver.now rs (take (i + 1) (set senders i sent) ++ rest) t)
          (joined_runs c.loop-place.runs.items c.push.new.self.items run more gained)
          (subst (λ (xs : List Sending). RunsParts samples false parts c.args.senders.now c.args.receiver.now (c.loop-place.runs.items ++ run ∷ more) xs t) (joined_senders senders i sent rest within)
          (c.loop-place.invariant.runs (run ∷ more) (sent ∷ rest) t
          (one_part (Runs samples) parts senders i c.index-parts-place.result sender sent c.loop-place.receiver c.tell_if.new.receiver mid t run c.deref.result.now more rest
          parts_are senders_are c.deref.ensures.value c.tell_if.ensures c.in_ok-run.ensures.runs later)));
      stops = λ rest t later.
          subst (λ (xs : List Sending). StopsParts samples false parts c.args.senders.now c.args.receiver.now xs t) (joined_senders senders i sent rest within)
          (c.loop-place.invariant.stops (sent ∷ rest) t
          (stops_later samples parts senders i c.index-parts-place.result sender sent c.loop-place.receiver c.tell_if.new.receiver mid t run c.deref.result.now rest
          parts_are senders_are c.deref.ensures.value c.tell_if.ensures c.in_ok-run.ensures.runs later));
      own = λ more rest t later.
          subst (λ (rs : List DatagramRun). RunsPartsBy Asks false parts c.args.senders.now c.args.receiver.now rs (take (i + 1) (set senders i sent) ++ rest) t)
          (joined_runs c.loop-place.runs.items c.push.new.self.items run more gained)
          (subst (λ (xs : List Sending). RunsPartsBy Asks false parts c.args.senders.now c.args.receiver.now (c.loop-place.runs.items ++ run ∷ more) xs t) (joined_senders senders i sent rest within)
          (c.loop-place.invariant.own (run ∷ more) (sent ∷ rest) t
          (one_part Asks parts senders i c.index-parts-place.result sender sent c.loop-place.receiver c.tell_if.new.receiver mid t run c.deref.result.now more rest
          parts_are senders_are c.deref.ensures.value c.tell_if.ensures c.in_ok-run.ensures.own later)));
    }

pub returns-in_err-reserve-clause-stops : goal.returns-in_err-reserve-clause-stops
returns-in_err-reserve-clause-stops g c =
    let samples : List Sample = map sample_of c.args.samples.now in
    let parts : List Part = c.args.parts.now in
    let i : ℕ = c.loop-place.place in
    let senders : List Sending = c.loop-place.senders in
    let some : 0 < length (drop i parts) = omega (arith, length-drop i parts, c.loop-place-test.true, c.min-place-end.ensures) in
    let some_senders : 0 < length (drop i senders) = omega (arith, length-drop i senders, c.loop-place-test.true, c.min-place-end.ensures, c.loop-place.auto.senders) in
    on_err c.from_residual.result
    (subst (λ (xs : List Sending). StopsParts samples false parts c.args.senders.now c.args.receiver.now xs c.loop-place.receiver) (take-append-drop i senders)
    (c.loop-place.invariant.stops (drop i senders) c.loop-place.receiver (stops_before samples (ltb 0 i) (drop i parts) (drop i senders) c.loop-place.receiver some some_senders)))

pub returns-in_err-run-clause-stops : goal.returns-in_err-run-clause-stops
returns-in_err-run-clause-stops g c =
    let samples : List Sample = map sample_of c.args.samples.now in
    let parts : List Part = c.args.parts.now in
    let i : ℕ = c.loop-place.place in
    let senders : List Sending = c.loop-place.senders in
    let sent : Sending = c.run_datagrams.new.sender in
    let within : i < length senders = omega (arith, c.loop-place-test.true, c.min-place-end.ensures, c.loop-place.auto.senders) in
    let parts_are = next_of parts i c.index-parts-place.result (omega (arith, c.loop-place-test.true, c.min-place-end.ensures)) c.index-parts-place.is in
    let sender : Sending = get_or senders i c.index-senders-place.result in
    let senders_are = drop_more senders i c.index-senders-place.result within in
    on_err c.from_residual-in_err-run.result
    (subst (λ (xs : List Sending). StopsParts samples false parts c.args.senders.now c.args.receiver.now xs c.run_datagrams.new.receiver) (whole_senders senders i sent within)
    (c.loop-place.invariant.stops (sent ∷ drop (i + 1) senders) c.run_datagrams.new.receiver
    (stops_here samples parts senders i c.index-parts-place.result sender sent c.loop-place.receiver c.tell_if.new.receiver c.run_datagrams.new.receiver c.deref.result.now
    parts_are senders_are c.deref.ensures.value c.tell_if.ensures c.in_err-run.ensures.stops)))

-- all parts were executed
whole_run : (R : List DatagramStep → Wire → Wire → Type 0) (all_parts : List Part) (all_senders : List Sending) (first now : Session) (parts : List Part) (senders : List Sending) (i : ℕ) (runs : List DatagramRun)
    → ((more : List DatagramRun) (rest : List Sending) (t : Session) → RunsPartsBy R (ltb 0 i) (drop i parts) (drop i senders) now more rest t
    → RunsPartsBy R false all_parts all_senders first (runs ++ more) (take i senders ++ rest) t)
    → min (length parts) (length senders) ≤ i → RunsPartsBy R false all_parts all_senders first runs senders now
whole_run R all_parts all_senders first now parts senders i runs goes over =
    subst (λ (rs : List DatagramRun). RunsPartsBy R false all_parts all_senders first rs senders now) (append-nil runs)
    (subst (λ (xs : List Sending). RunsPartsBy R false all_parts all_senders first (runs ++ []) xs now) (take-append-drop i senders)
    (goes [] (drop i senders) now (none_left R (ltb 0 i) (drop i parts) (drop i senders) now (ended_at parts senders i over))))

pub returns-clause-runs : goal.returns-clause-runs
returns-clause-runs g c =
    let samples : List Sample = map sample_of c.args.samples.now in
    let over : min (length c.args.parts.now) (length c.loop-place.senders) ≤ c.loop-place.place = omega (arith, c.loop-place-test.false, c.min-place-end.ensures, c.loop-place.auto.senders) in
    whole_run (Runs samples) c.args.parts.now c.args.senders.now c.args.receiver.now c.loop-place.receiver c.args.parts.now c.loop-place.senders c.loop-place.place c.loop-place.runs.items
    c.loop-place.invariant.runs over

pub returns-clause-units : goal.returns-clause-units
returns-clause-units g c =
    let samples : List Sample = map sample_of c.args.samples.now in
    let over : min (length c.args.parts.now) (length c.loop-place.senders) ≤ c.loop-place.place = omega (arith, c.loop-place-test.false, c.min-place-end.ensures, c.loop-place.auto.senders) in
    release_with_restarts samples c.args.parts.now c.args.senders.now c.args.receiver.now c.loop-place.runs.items c.loop-place.senders c.loop-place.receiver
    (whole_run (Runs samples) c.args.parts.now c.args.senders.now c.args.receiver.now c.loop-place.receiver c.args.parts.now c.loop-place.senders c.loop-place.place c.loop-place.runs.items
    c.loop-place.invariant.runs over)

pub returns-clause-promises : goal.returns-clause-promises
returns-clause-promises g c =
    let samples : List Sample = map sample_of c.args.samples.now in
    let over : min (length c.args.parts.now) (length c.loop-place.senders) ≤ c.loop-place.place = omega (arith, c.loop-place-test.false, c.min-place-end.ensures, c.loop-place.auto.senders) in
    promises_with_restarts samples c.args.parts.now c.args.senders.now c.args.receiver.now c.loop-place.runs.items c.loop-place.senders c.loop-place.receiver
    (whole_run (Runs samples) c.args.parts.now c.args.senders.now c.args.receiver.now c.loop-place.receiver c.args.parts.now c.loop-place.senders c.loop-place.place c.loop-place.runs.items
    c.loop-place.invariant.runs over)

pub returns-clause-own : goal.returns-clause-own
returns-clause-own g c =
    let samples : List Sample = map sample_of c.args.samples.now in
    let over : min (length c.args.parts.now) (length c.loop-place.senders) ≤ c.loop-place.place = omega (arith, c.loop-place-test.false, c.min-place-end.ensures, c.loop-place.auto.senders) in
    whole_run (AsksInRun (AsksPacketizer g.P.Packetizer.state g.P.Packetizer.packetize_step g.P.Packetizer.marker_step g.P.Packetizer.marks_spurts)
    (AsksForEnds g.D.Depacketizer.is_head g.D.Depacketizer.is_tail) (AsksForUnit g.D.Depacketizer.state g.D.Depacketizer.depacketize_step) samples)
    c.args.parts.now c.args.senders.now c.args.receiver.now c.loop-place.receiver c.args.parts.now c.loop-place.senders c.loop-place.place c.loop-place.runs.items c.loop-place.invariant.own over
