-- Whatever is lost, repeated and reordered, units are released in order, each at most once.
use Rattle.std.proofs.Common.{◌≡◌, ℕ, zero, suc, ◌<◌, ◌≤◌, ◌+◌, [], ◌∷◌, ◌++◌, List, length, take, drop, refl, ap, sym}
use Rattle.std.proofs.Common.{◌∙◌, subst, arith, Bool, false, cond, Option, Some, None, Result, Ok, Err, add-one, inl, inr, ltb}
use Rattle.std.specs.Prelude.{slice_get, MatchResult, MatchOption}
use Rattle.std.proofs.lemmas.Bool.{cases_lt}
use Rattle.std.proofs.lemmas.List.{length-append}
use Rattle.codec_payload_base.specs.Time.{Time}
use Rattle.codec_payload_base.specs.declared.error.PacketError.{PacketError}
use Rattle.codec_payload_base.specs.declared.error.PacketError.TheVariants as faults
use Rattle.codec_payload_codec.proofs.CaseLemmas.{by_test}
use Rattle.codec_payload_buffer.proofs.FrameParts.{IsRun}
use Rattle.codec_payload_buffer.proofs.PlaceLemmas.{placed_rises, placed_above_cutoff}
use Rattle.codec_payload_buffer.proofs.PopLemmas.{part_due, above_rises, above_is_above}
use Rattle.codec_payload_buffer.proofs.RowLemmas.{above_all, first_above, part_between, first_le_last, run_first, run_length}
use Rattle.codec_payload_buffer_runs.proofs.units.StreamLemmas.{Streams}
use Rattle.codec_payload_buffer_runs.proofs.units.UnitRows.{IsFaithful, held_as, drop_at, RowOf, Exact, unit_of_row, exact_length, exact_payloads, exact_metas, exact_starts}
use Rattle.codec_payload_codec.specs.Depacketizers.{DepacketizerState, DepacketizerKind, kind_of_depacketizer}
use Rattle.codec_payload_buffer_runs.specs.Headline.{ArePushesBy, packets_before, IsUnitAt, IsUnused}
use Rattle.codec_payload_buffer.specs.Held.{Held, Rises, IsAboveCutoff, placed, above, between, has_number}
use Rattle.codec_payload_payloader.specs.Packets.{Packet, AreNumbered}
use Rattle.codec_payload_metadata.specs.Release.{Release}
use Rattle.codec_payload_buffer_runs.proofs.units.BuiltInRuns.{DoesStep, SendsIt, plainly}
use Rattle.codec_payload_buffer_runs.specs.Schedule.{Answer, RunState}
use Rattle.codec_payload_payloader.specs.Sending.{Sample}
use Rattle.codec_payload_buffer_runs.specs.LawfulUnits.{StartsWithHead, IsLawful, AllLawful}
use Rattle.codec_payload_buffer_runs.specs.SentStream.{SentUnit, packets_of, AllEndWithTail, IsReleaseOf}
use Rattle.codec_payload_buffer.specs.Steps.{State, pushed, kept_to_limit, without_lowest, is_dropped, is_at_most, without, metas_of, due_of, packets_of_frame}
use Rattle.codec_payload_buffer.specs.Steps.{Unpacked, Unpacks, nothing_unpacked, Gives, Passes, none, one_more, PassesOver, Releases, Refuses}
use Rattle.codec_payload_buffer.specs.declared.buffer.frames.CompleteFrame.{CompleteFrame}
use Rattle.codec_payload_metadata.specs.declared.meta.RtpMeta.{RtpMeta}
use Rattle.codec_payload_contiguity.specs.declared.contiguity.Contiguity.{Contiguity}
use Rattle.codec_payload_buffer_runs.specs.declared.run.Sent.{Sent}
use Rattle.codec_payload_buffer_runs.specs.declared.run.Step.{Step}
use Rattle.codec_payload_buffer_runs.specs.declared.run.Step.TheVariants as steps

-- the least number that a frame may start with
abbrev pub next_after : ℕ → Option ℕ → ℕ
next_after first None = first
next_after first (Some c) = c + 1

pub before_next : (units : List SentUnit) (place : ℕ) (u : SentUnit) → slice_get units place ≡ Some u → packets_before (place + 1) units ≡ packets_before place units + length u.packets
before_next [] place u h = absurd (cc)
before_next (v ∷ us) zero u h = let e : v ≡ u = cc in rw (← e) (omega (arith, length-append v.packets []))
before_next (v ∷ us) (suc place) u h = rw add-one (omega (
  arith,
  rw add-one at (before_next us place u h),
  length-append v.packets (packets_of (take (suc place) us)),
  length-append v.packets (packets_of (take place us)),
))

pub before_later : (units : List SentUnit) (place n : ℕ) (u : SentUnit) → slice_get units place ≡ Some u → place < n → packets_before place units + length u.packets ≤ packets_before n units
before_later [] place n u h l = absurd (cc)
before_later (v ∷ us) place zero u h l = absurd (omega arith)
before_later (v ∷ us) zero (suc n) u h l = let e : v ≡ u = cc in rw (← e) (omega (arith, length-append v.packets (packets_of (take n us))))
before_later (v ∷ us) (suc place) (suc n) u h l = omega (
  arith,
  before_later us place n u h (omega arith),
  length-append v.packets (packets_of (take place us)),
  length-append v.packets (packets_of (take n us)),
)

pub lawful_at : (kind : DepacketizerKind) (splits : Bool) (units : List SentUnit) (place : ℕ) (u : SentUnit) → AllLawful kind splits units → slice_get units place ≡ Some u → IsLawful kind splits u
lawful_at kind splits [] place u l h = absurd (cc)
lawful_at kind splits (v ∷ us) zero u l h = let e : v ≡ u = cc in rw (← e) l.0
lawful_at kind splits (v ∷ us) (suc place) u l h = lawful_at kind splits us place u l.1 h

pub number_at : (ps : List Packet) (n k : ℕ) (q : Packet) → AreNumbered n ps → slice_get ps k ≡ Some q → q.number ≡ n + k
number_at [] n k q a h = absurd (cc)
number_at (p ∷ ps) n zero q a h = let e : p ≡ q = cc in omega (arith, a.0, ap (λ (x : Packet). x.number) e)
number_at (p ∷ ps) n (suc k) q a h = omega (arith, number_at ps (n + 1) k q a.1 h)

-- a step that sends leaves the buffer and the clock as they were
pub send_keeps : (samples : List Sample) (place i mtu : ℕ) (s mid : RunState) (sends : List Sent) (pops : List Answer) → DoesStep plainly samples place (steps.Send i mtu) s sends pops mid
    → (mid.buffer ≡ s.buffer) × (mid.payloading.clock_rate ≡ s.payloading.clock_rate)
send_keeps samples place i mtu s mid sends pops step = at (slice_get samples i) step.1
  where
    at : (o : Option Sample) → MatchOption o ((sends ≡ []) × (mid ≡ s)) (λ sample. (entry : Sent) × (sends ≡ entry ∷ []) × SendsIt place mtu sample s entry mid)
        → (mid.buffer ≡ s.buffer) × (mid.payloading.clock_rate ≡ s.payloading.clock_rate)
    at None step = (ap (λ (x : RunState). x.buffer) step.1, ap (λ (x : RunState). x.payloading.clock_rate) step.1)
    at (Some sample) step = (ap (λ (x : RunState). x.buffer) step.2.left, ap (λ (x : RunState). x.payloading.clock_rate) step.2.left)

module _ (known : ℕ → Packet → RtpMeta → Type 0) (clock_rate first : ℕ) (kind : DepacketizerKind) (faithful : IsFaithful known clock_rate kind) (splits : Bool)
    (all : List SentUnit) (lawful : AllLawful kind splits all) (numbered : AreNumbered first (packets_of all)) where
  -- a push of a packet that was sent
  abbrev pub IsSent : Held → Type 0
  IsSent p = (k : ℕ) × (q : Packet) × (slice_get (packets_of all) k ≡ Some q) × known k q p.meta × (p ≡ held_as kind p.meta q.payload)

  abbrev pub AllSent : List Held → Type 0
  AllSent [] = Unit {0}
  AllSent (p ∷ ps) = IsSent p × AllSent ps

  -- the facts about the buffer between the steps: it holds only pushes of sent packets, and the units before `from` are finished
  pub record IsBeyond (from : ℕ) (s : State) : Type 0 where
    pub rises : Rises s.held
    pub beyond : IsAboveCutoff s.cutoff s.held
    pub sent : AllSent s.held
    pub floor : first + packets_before from all ≤ next_after first s.cutoff
    pub reads : kind_of_depacketizer s.depacketizer ≡ kind

  sent_append : (xs ys : List Held) → AllSent (xs ++ ys) → AllSent ys
  sent_append [] ys a = a
  sent_append (x ∷ xs) ys a = sent_append xs ys a.1

  sent_front : (xs ys : List Held) → AllSent (xs ++ ys) → AllSent xs
  sent_front [] ys a = tt
  sent_front (x ∷ xs) ys a = (a.0, sent_front xs ys a.1)

  sent_placed : (p : Held) (hs : List Held) → IsSent p → AllSent hs → AllSent (placed p hs)
  sent_placed p [] i a = (i, tt)
  sent_placed p (q ∷ qs) i a = by_test (ltb q.meta.seq_no.0 p.meta.seq_no.0) (λ b. AllSent (cond b (q ∷ placed p qs) (p ∷ q ∷ qs))) (λ e. (a.0, sent_placed p qs i a.1)) (λ e. (i, a))

  pub number_of_sent : (p : Held) (s : IsSent p) → p.meta.seq_no.0 ≡ first + s.0
  number_of_sent p s = faithful.number s.0 s.1 p.meta s.3 ∙ number_at (packets_of all) first s.0 s.1 numbered s.2

  -- a run of sent packets is a range of them
  row_of_run : (k last : ℕ) (time : Time) (ps : List Held) → IsRun (first + k) last time ps → AllSent ps → RowOf known clock_rate kind faithful k (drop k (packets_of all)) ps
  row_of_run k last time [] run sent = absurd run
  row_of_run k last time (p ∷ []) run sent =
      let i = sent.0 in
      let same : i.0 ≡ k = omega (arith, number_of_sent p i, run.0) in
      rw (← same, drop_at (packets_of all) i.0 i.1 i.2) (i.3, i.4, tt)
  row_of_run k last time (p ∷ r ∷ rs) run sent =
      let i = sent.0 in
      let same : i.0 ≡ k = omega (arith, number_of_sent p i, run.0) in
      let next : first + k + 1 ≡ first + (k + 1) = omega arith in
      let rest = row_of_run (k + 1) last time (r ∷ rs) (rw next at run.3) sent.1 in
      rw (drop_at (packets_of all) k i.1 (rw same at i.2)) (rw same at i.3, i.4, rest)

  -- the facts about the packets of the frame that is due
  pub record IsFrameOf (from : ℕ) (s : State) (f : CompleteFrame) : Type 0 where
    pub packets : List Held
    pub after : List Held
    pub are : packets_of_frame s f ≡ packets
    pub left : above f.last s.held ≡ after
    pub sent_after : AllSent after
    pub place : ℕ
    pub sent : SentUnit
    pub at_place : slice_get all place ≡ Some sent
    pub not_before : from ≤ place
    pub missing : List Packet
    pub rest : List Packet
    pub whole : missing ++ rest ≡ sent.packets
    pub exact : Exact known clock_rate kind faithful (packets_before place all + length missing) rest packets
    pub starts : StartsWithHead kind rest
    pub start : f.first ≡ first + (packets_before place all + length missing)
    pub stop : f.last + 1 ≡ first + packets_before (place + 1) all
    pub higher : next_after first s.cutoff ≤ f.last + 1

  first_sent : (f last : ℕ) (time : Time) (ps : List Held) → IsRun f last time ps → AllSent ps → (k : ℕ) × (f ≡ first + k)
  first_sent f last time [] run sent = absurd run
  first_sent f last time (p ∷ ps) run sent = (sent.0.0, sym (run_first p ps f last time run) ∙ number_of_sent p sent.0)

  above_next : (cutoff : Option ℕ) (before packets after : List Held) (k f last : ℕ) (time : Time) → f ≡ first + k → IsRun f last time packets
      → IsAboveCutoff cutoff (before ++ (packets ++ after)) → next_after first cutoff ≤ f
  above_next None before packets after k f last time is run a = omega arith
  above_next (Some c) before packets after k f last time is run a = omega (arith, first_above c packets after f last time run (above_all c before (packets ++ after) a))

  pub frame_of : (from : ℕ) (s : State) (f : CompleteFrame) → IsBeyond from s → due_of s ≡ Some f → IsFrameOf from s f
  frame_of from s f sound due =
      let found = part_due s f due in
      let packets = found.0 in
      let after = found.1 in
      let part = found.2 in
      let split = part_between part.before packets after f.first f.last part.time part.run (rw part.whole at sound.rises) in
      let sent = sent_append part.before (packets ++ after) (rw part.whole at sound.sent) in
      let begin = first_sent f.first f.last part.time packets part.run (sent_front packets after sent) in
      let k = begin.0 in
      let run : IsRun (first + k) f.last part.time packets = subst (λ (n : ℕ). IsRun n f.last part.time packets) begin.1 part.run in
      let zero : 0 + k ≡ k = omega arith in
      let row : RowOf known clock_rate kind faithful k (drop k (packets_of all)) packets = row_of_run k f.last part.time packets run (sent_front packets after sent) in
      let end = unit_of_row known clock_rate kind faithful splits all k 0 (first + k) f.last part.time packets lawful run
      (subst (λ (n : ℕ). RowOf known clock_rate kind faithful n (drop k (packets_of all)) packets) (sym zero) row) in
      let exact : Exact known clock_rate kind faithful (packets_before end.place all + length end.missing) end.rest packets = subst
      (λ (n : ℕ). Exact known clock_rate kind faithful n end.rest packets) (zero ∙ end.index) end.exact in
      let low = above_next s.cutoff part.before packets after k f.first f.last part.time begin.1 part.run (rw part.whole at sound.beyond) in
      let long = run_length packets f.first f.last part.time part.run in
      let full = exact_length known clock_rate kind faithful (packets_before end.place all + length end.missing) end.rest packets exact in
      let sizes : length end.sent.packets ≡ length end.missing + length end.rest = ap length (sym end.whole) ∙ length-append end.missing end.rest in
      let some = first_le_last packets f.first f.last part.time part.run in
      let ordered : from ≤ end.place = elim (cases_lt end.place from) [
        | inl early ↦ absurd (omega (arith, before_later all end.place from end.sent end.at_place early, sound.floor, low, begin.1, end.index, sizes, long, full, some))
        | inr le ↦ le
      ] in
      record {
        packets = packets;
        after = after;
        are = ap (between f.first f.last) part.whole ∙ split.inside;
        left = ap (above f.last) part.whole ∙ split.beyond;
        sent_after = sent_append packets after sent;
        place = end.place;
        sent = end.sent;
        at_place = end.at_place;
        not_before = ordered;
        missing = end.missing;
        rest = end.rest;
        whole = end.whole;
        exact = exact;
        starts = exact_starts known clock_rate kind faithful (packets_before end.place all + length end.missing) end.rest packets exact part.begins;
        start = omega (arith, begin.1, end.index);
        stop = omega (arith, before_next all end.place end.sent end.at_place, begin.1, end.index, sizes, long, full);
        higher = omega (arith, low, some);
      }

  -- the lowest is evicted
  beyond_lowest : (from : ℕ) (s : State) (hs : List Held) → hs ≡ s.held → IsBeyond from s → IsBeyond from (without_lowest s hs)
  beyond_lowest from s [] is sound = sound
  beyond_lowest from s (p ∷ ps) is sound =
      let rises : Rises (p ∷ ps) = subst Rises (sym is) sound.rises in
      let sent : AllSent (p ∷ ps) = subst AllSent (sym is) sound.sent in
      let over : next_after first s.cutoff ≤ p.meta.seq_no.0 = next_le s.cutoff (subst (IsAboveCutoff s.cutoff) (sym is) sound.beyond) sent.0 in
      record { rises = rises.1; beyond = rises.0; sent = sent.1; floor = omega (arith, sound.floor, over); reads = sound.reads }
    where
      next_le : (cutoff : Option ℕ) → IsAboveCutoff cutoff (p ∷ ps) → IsSent p → next_after first cutoff ≤ p.meta.seq_no.0
      next_le None a i = omega (arith, number_of_sent p i)
      next_le (Some c) a i = omega (arith, a.0)

  beyond_kept : (from : ℕ) (s : State) → IsBeyond from s → IsBeyond from (kept_to_limit s)
  beyond_kept from s sound =
      by_test (ltb s.limit (length s.held)) (λ b. IsBeyond from (cond b (without_lowest s s.held) s)) (λ e. beyond_lowest from s s.held refl sound) (λ e. sound)

  pub beyond_placed : (from : ℕ) (s : State) (p : Held) → IsSent p → is_at_most s.cutoff p.meta.seq_no.0 ≡ false → has_number p.meta.seq_no.0 s.held ≡ false
      → IsBeyond from s → IsBeyond from (record s { held = placed p s.held })
  beyond_placed from s p i low fresh sound = record {
    rises = placed_rises p s.held sound.rises fresh;
    beyond = placed_above_cutoff s.cutoff p s.held low sound.beyond;
    sent = sent_placed p s.held i sound.sent;
    floor = sound.floor;
    reads = sound.reads;
  }

  pub beyond_pushed : (from : ℕ) (s : State) (p : Held) → IsSent p → IsBeyond from s → IsBeyond from (pushed s p)
  beyond_pushed from s p i sound =
      by_test (is_dropped s p.meta.seq_no.0) (λ b. IsBeyond from (cond b s (kept_to_limit (record s { held = placed p s.held }))))
      (λ e. sound)
      (λ e. beyond_kept from (record s { held = placed p s.held }) (beyond_placed from s p i (grind (arith, e)) (grind (arith, e)) sound))

  -- the frame that was due has left: the held packets are beyond its unit
  pub beyond_without : (from : ℕ) (s : State) (f : CompleteFrame) (sound : IsBeyond from s) (due : due_of s ≡ Some f) (n : ℕ) → first + packets_before n all ≤ f.last + 1
      → (d : DepacketizerState) → kind_of_depacketizer d ≡ kind → (c : Contiguity) (mark : Bool) → IsBeyond n (without s f d c mark)
  beyond_without from s f sound due n floor d reads c mark =
      let frame = frame_of from s f sound due in
      record { rises = above_rises f.last s.held sound.rises; beyond = above_is_above f.last s.held; sent = subst AllSent (sym frame.left) frame.sent_after; floor = floor; reads = reads }

  -- the result of the depacketizer for the frame that is due
  pub given : (from : ℕ) (s : State) (f : CompleteFrame) (sound : IsBeyond from s) (due : due_of s ≡ Some f) (answer : Result Unpacked PacketError) (e : DepacketizerState) → Gives s f answer e
      → let frame = frame_of from s f sound due in (kind_of_depacketizer e ≡ kind)
      × MatchResult answer (λ unpacked. IsReleaseOf splits frame.sent frame.missing unpacked.bytes) (λ fault. fault ≡ faults.OutOfMemory)
  given from s f sound due answer e gives =
      let frame = frame_of from s f sound due in
      let law = lawful_at kind splits all frame.place frame.sent lawful frame.at_place in
      law.gives frame.missing frame.rest frame.whole frame.starts frame.packets
      (exact_payloads known clock_rate kind faithful (packets_before frame.place all + length frame.missing) frame.rest frame.packets frame.exact)
      s.depacketizer answer e sound.reads (subst (λ (ps : List Held). Unpacks s.depacketizer ps nothing_unpacked answer e) frame.are gives)

  beyond_over : (from : ℕ) (s t : State) → IsBeyond from s → PassesOver s t → IsBeyond from t
  beyond_over from s t sound over =
      let frame = frame_of from s over.frame sound over.is_due in
      let reads = (given from s over.frame sound over.is_due (Ok over.unpacked) over.depacketizer over.gives).0 in
      subst (IsBeyond from) (sym over.left) (beyond_without from s over.frame sound over.is_due from (omega (arith, sound.floor, frame.higher)) over.depacketizer reads _ s.evicted)

  pub beyond_passes : (from : ℕ) (s t : State) (over : List CompleteFrame) → IsBeyond from s → Passes s over t → IsBeyond from t
  beyond_passes from s t over sound none = sound
  beyond_passes from s u over sound (one_more passes passed) = beyond_over from _ u (beyond_passes from s _ _ sound passes) passed

  -- a release is the unit whose frame is due
  pub released_at : (from : ℕ) (s t : State) (r : Release) (sound : IsBeyond from s) (out : Releases s r t) → let frame = frame_of from s out.frame sound out.is_due in
      (is : IsUnitAt known splits all frame.place r) × (is.missing ≡ frame.missing) × IsBeyond (frame.place + 1) t
  released_at from s t r sound out =
      let frame = frame_of from s out.frame sound out.is_due in
      let answer = given from s out.frame sound out.is_due (Ok (record { bytes = r.bytes; extra = r.codec_extra })) out.depacketizer out.gives in
      let metas : r.metas ≡ metas_of frame.packets = out.metas ∙ ap metas_of frame.are in (
        record {
          sent = frame.sent;
          at_place = frame.at_place;
          missing = frame.missing;
          rest = frame.rest;
          whole = frame.whole;
          bytes = answer.1;
          metas = subst (ArePushesBy known (packets_before frame.place all + length frame.missing) frame.rest) (sym metas)
              (exact_metas known clock_rate kind faithful (packets_before frame.place all + length frame.missing) frame.rest frame.packets frame.exact);
        },
        refl,
        subst (IsBeyond (frame.place + 1)) (sym out.left) (beyond_without from s out.frame sound out.is_due (frame.place + 1) (omega (arith, frame.stop)) out.depacketizer answer.0 _ false),
      )

  -- which lies further on
  pub released : (from : ℕ) (s t : State) (r : Release) → IsBeyond from s → Releases s r t → (place : ℕ) × (from ≤ place) × IsUnitAt known splits all place r × IsBeyond (place + 1) t
  released from s t r sound out =
      let frame = frame_of from s out.frame sound out.is_due in
      let is = released_at from s t r sound out in
      (frame.place, frame.not_before, is.0, is.2)

  -- and the only fault is out of memory
  pub not_refused : (from : ℕ) (s t : State) (fault : PacketError) → IsBeyond from s → Refuses s fault t → ⊥
  not_refused from s t fault sound refusal =
      refusal.not_memory (given from s refusal.frame sound refusal.is_due (Err fault) refusal.depacketizer refusal.gives).1

  -- an unused buffer holds nothing and is done with nothing
  pub fresh_beyond : (s : State) → s.held ≡ [] → s.cutoff ≡ None → kind_of_depacketizer s.depacketizer ≡ kind → IsBeyond 0 s
  fresh_beyond s nothing_held no_cutoff reads = record {
    rises = subst Rises (sym nothing_held) tt;
    beyond = subst (λ (o : Option ℕ). IsAboveCutoff o s.held) (sym no_cutoff) tt;
    sent = subst AllSent (sym nothing_held) tt;
    floor = rw no_cutoff (omega arith);
    reads = reads;
  }

-- the contents of an unused sink after the run
pub record SendsAll (s t : RunState) (units : List SentUnit) : Type 0 where
  pub whole : t.sink.packets ≡ packets_of units
  pub numbered : AreNumbered s.sink.first (packets_of units)

pub sends_all : (samples : List Sample) (all_steps : List Step) (s t : RunState) → IsUnused s → (stream : Streams samples all_steps s t) → SendsAll s t stream.units
sends_all samples all_steps s t unused stream =
    let none : s.sink.first + length s.sink.packets ≡ s.sink.first = omega (arith, ap length unused.nothing_sent) in
    record {
      whole = stream.gained ∙ ap (λ (ps : List Packet). ps ++ packets_of stream.units) unused.nothing_sent;
      numbered = subst (λ (n : ℕ). AreNumbered n (packets_of stream.units)) none stream.numbered;
    }

pub all_end : (kind : DepacketizerKind) (splits : Bool) (units : List SentUnit) → AllLawful kind splits units → AllEndWithTail kind units
all_end kind splits [] lawful = tt
all_end kind splits (u ∷ us) lawful = (lawful.0.ends, all_end kind splits us lawful.1)
