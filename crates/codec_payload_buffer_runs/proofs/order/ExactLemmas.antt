-- If everything was pushed before the first pop, the pops return each unit in order, whole, and then always None.
use Rattle.std.proofs.Common.{◌≡◌, ◌≢◌, ◌∙◌, refl, sym, ap, ℕ, suc, ◌^◌, subst, List, [], Option, Some, None, Result, Ok, Err, Bool, true, false, ◌+◌, ◌∷◌, ◌<◌, ◌≤◌, inl, inr, arith, length, ◌||◌}
use Rattle.std.specs.Prelude.{MatchResult}
use Rattle.std.proofs.lemmas.Bool.{cases_lt}
use Rattle.std.proofs.lemmas.Bool.Decides.{nat_tests}
use Rattle.std.proofs.lemmas.List.{length-append}
use Rattle.codec_payload_base.specs.Pieces.{joined}
use Rattle.codec_payload_base.specs.declared.error.PacketError.{PacketError}
use Rattle.codec_payload_base.specs.declared.error.PacketError.TheVariants as faults
use Rattle.codec_payload_buffer.proofs.FrameParts.{IsRun}
use Rattle.codec_payload_buffer_runs.proofs.order.FollowsLemmas.{Follows, goes_on}
use Rattle.codec_payload_buffer_runs.proofs.order.FullLemmas.{none_passed, numbered_front, numbered_back, exact_split, held_time, run_of_exact, next_due, pop_releases}
use Rattle.codec_payload_buffer.proofs.PopLemmas.{above_rises}
use Rattle.codec_payload_buffer.proofs.RowLemmas.{part_between}
use Rattle.codec_payload_buffer_runs.proofs.order.SafetyLemmas.{next_after}
use Rattle.codec_payload_buffer_runs.proofs.units.SendsUnits.{CarryIds}
use Rattle.codec_payload_buffer_runs.proofs.units.UnitRows.{IsFaithful, Exact, exact_payloads, exact_metas}
use Rattle.codec_payload_buffer_runs.proofs.units.UnitTimes.{AllOneTime}
use Rattle.codec_payload_contiguity.specs.ContiguityTable.{checked, contiguity_for}
use Rattle.codec_payload_codec.specs.Depacketizers.{DepacketizerState, DepacketizerKind, Vp9Payloads, kind_of_depacketizer}
use Rattle.codec_payload_buffer_runs.specs.Exact.{IsWhole, AnswersAll}
use Rattle.codec_payload_buffer.specs.Frames.{frames}
use Rattle.codec_payload_buffer_runs.specs.Headline.{ArePushesBy}
use Rattle.codec_payload_buffer.specs.Held.{Held, Rises, has_number, between, above}
use Rattle.codec_payload_codec.specs.Packetizers.{PacketizerState, Vp9Packetizing, payloads_by}
use Rattle.codec_payload_payloader.specs.Packets.{Packet, AreNumbered}
use Rattle.codec_payload_base.specs.declared.interface.Vp9PacketizerMode.{Vp9PacketizerMode}
use Rattle.codec_payload_base.specs.declared.interface.Vp9PacketizerMode.TheVariants.{Flexible, NonFlexible}
use Rattle.codec_payload_buffer_runs.specs.ReportedIds.{ReadId, Tells, id_in, id_later, next_id, read_by}
use Rattle.codec_payload_metadata.specs.Release.{Release}
use Rattle.codec_payload_buffer_runs.specs.Schedule.{Answer}
use Rattle.codec_payload_buffer_runs.specs.LawfulUnits.{payloads_held, payloads_sent, AllLawful}
use Rattle.codec_payload_buffer_runs.specs.SentStream.{SentUnit, packets_of, EndsWithTail, IsReleaseOf}
use Rattle.codec_payload_buffer.specs.Steps.{State, is_dropped, is_at_most, due_of, due_among, follows, metas_of, packets_of_frame}
use Rattle.codec_payload_buffer.specs.Steps.{Unpacked, Unpacks, nothing_unpacked, Gives, Pops, PassesOver, Refuses}
use Rattle.codec_payload_buffer.specs.declared.buffer.frames.CompleteFrame.{CompleteFrame}
use Rattle.codec_payload_metadata.specs.declared.meta.RtpMeta.{RtpMeta}
use Rattle.codec_payload_contiguity.specs.declared.contiguity.Contiguity.{Contiguity}

-- accepted whole and in order from there, each unit may be released
abbrev pub MayGo : List SentUnit → DepacketizerState → Contiguity → Type 0
MayGo [] d c = Unit {0}
MayGo (u ∷ us) d c =
    (ps : List Held) → payloads_held ps ≡ payloads_sent u.packets → (unpacked : Unpacked) (e : DepacketizerState) → Unpacks d ps nothing_unpacked (Ok unpacked) e
    → (seq : Bool) → ((checked c unpacked.extra seq).0 ≡ true) × MayGo us e (checked c unpacked.extra seq).2

-- by the theorem of contiguity: all units from place n on, after the previous one
pub may_go_all : (kind : DepacketizerKind) (splits : Bool) (first : Option ℕ) (n : ℕ) (units : List SentUnit) (d : DepacketizerState) (c : Contiguity) → AllLawful kind splits units
    → CarryIds first n units → n + length units < 2 ^ 63
    → kind_of_depacketizer d ≡ kind → Follows first n (read_by d) c → MayGo units d c
may_go_all kind splits first n [] d c lawful carry few reads here = tt
may_go_all kind splits first n (u ∷ us) d c lawful carry few reads here = λ ps same unpacked e gives seq.
    let law = lawful.0 in
    let told : Tells (id_later first n) (read_by d) unpacked.extra (read_by e) =
    subst (λ (id : Option ℕ). Tells id (read_by d) unpacked.extra (read_by e)) carry.0 (law.tells [] u.packets refl law.starts ps same d unpacked e reads gives) in
    let on = goes_on first n n (read_by d) (read_by e) c unpacked.extra seq here (omega arith) (inr (omega arith)) (omega (arith, few)) told in
    let reads_on = (law.gives [] u.packets refl law.starts ps same d (Ok unpacked) e reads gives).0 in
    (on.may, may_go_all kind splits first (suc n) us e (checked c unpacked.extra seq).2 lawful.1 carry.1 (omega (arith, few)) reads_on on.follows)

begins_in : (mode : Vp9PacketizerMode) (id : ℕ) (read : Option ReadId) (c : Contiguity) → read ≡ None → c ≡ contiguity_for Vp9Payloads → Follows (id_in mode id) 0 read c
begins_in NonFlexible id read c none kept = (none, kept)
begins_in Flexible id read c none kept = tt

-- an unused buffer is before the first unit
pub begins : (packetizer : PacketizerState) (read : Option ReadId) (c : Contiguity) → read ≡ None → c ≡ contiguity_for (payloads_by packetizer) → Follows (next_id packetizer) 0 read c
begins (Vp9Packetizing sender) read c none kept = begins_in sender.mode sender.picture_id read c none kept
begins packetizer read c none kept = tt

-- each unit has a packet
pub no_more_units : (kind : DepacketizerKind) (splits : Bool) (units : List SentUnit) → AllLawful kind splits units → length units ≤ length (packets_of units)
no_more_units kind splits [] lawful = omega arith
no_more_units kind splits (u ∷ us) lawful = omega (arith, no_more_units kind splits us lawful.1, length-append u.packets (packets_of us), has_packet u.packets lawful.0.ends)
  where
    has_packet : (ps : List Packet) → EndsWithTail kind ps → 0 < length ps
    has_packet [] ends = absurd ends
    has_packet (p ∷ ps) ends = omega arith

-- with no packet missing, a release of a unit is the unit
whole_of : (splits : Bool) (u : SentUnit) (bytes : List ℕ) → IsReleaseOf splits u [] bytes → bytes ≡ joined u.parts
whole_of splits u bytes is = elim is [ inl whole ↦ whole.1 | inr lost ↦ absurd (omega (arith, lost.1)) ]

or_true : (b : Bool) → (b || true) ≡ true
or_true true = refl
or_true false = refl

module _ (known : ℕ → Packet → RtpMeta → Type 0) (clock_rate first : ℕ) (kind : DepacketizerKind) (faithful : IsFaithful known clock_rate kind) (splits : Bool) (all : List SentUnit) where
  -- the facts from the first pop on: exactly the packets of `rest` are held, which have the indices from k on
  pub record IsExactly (k : ℕ) (rest : List SentUnit) (s : State) : Type 0 where
    pub row : Exact known clock_rate kind faithful k (packets_of rest) s.held
    pub rises : Rises s.held
    pub next : next_after first s.cutoff ≡ first + k
    pub count : k + length (packets_of rest) ≡ length (packets_of all)
    pub lawful : AllLawful kind splits rest
    pub numbered : AreNumbered (first + k) (packets_of rest)
    pub one_time : AllOneTime rest
    pub reads : kind_of_depacketizer s.depacketizer ≡ kind
    pub may_go : MayGo rest s.depacketizer s.contiguity

  below_cutoff : (cutoff : Option ℕ) (n k : ℕ) → next_after first cutoff ≡ first + k → n < k → is_at_most cutoff (first + n) ≡ true
  below_cutoff None n k e l = absurd (omega (arith, e, l))
  below_cutoff (Some c) n k e l = grind (arith, nat_tests, e, l)

  -- each number of the range is held
  row_has : (k j : ℕ) (rest : List Packet) (ps : List Held) → AreNumbered (first + k) rest → Exact known clock_rate kind faithful k rest ps → k ≤ j
      → j < k + length rest → has_number (first + j) ps ≡ true
  row_has k j [] [] numbers row le l = absurd (omega (arith, le, l))
  row_has k j [] (p ∷ ps) numbers row le l = absurd row
  row_has k j (q ∷ qs) [] numbers row le l = absurd row
  row_has k j (q ∷ qs) (p ∷ ps) numbers row le l = elim (cases_lt k j) [
    | inl lt ↦
        let n : first + k + 1 ≡ first + (k + 1) = omega arith in
        let rest = row_has (k + 1) j qs ps (subst (λ (m : ℕ). AreNumbered m qs) n numbers.1) row.2 (omega (arith, lt)) (omega (arith, l)) in
        grind (arith, nat_tests, rest)
    | inr ge ↦
        let number : p.meta.seq_no.0 ≡ first + k = faithful.number k q p.meta row.0 ∙ numbers.0 in
        grind (arith, nat_tests, number, ge, le)
  ]

  -- so each further push is dropped
  pub dropped : (k j : ℕ) (rest : List SentUnit) (s : State) → IsExactly k rest s → j < length (packets_of all) → is_dropped s (first + j) ≡ true
  dropped k j rest s exactly l = elim (cases_lt j k) [
    | inl gone ↦ let e = below_cutoff s.cutoff j k exactly.next gone in rw e refl
    | inr le ↦ let e = row_has k j (packets_of rest) s.held exactly.numbered exactly.row le (omega (arith, l, exactly.count)) in rw e (or_true (is_at_most s.cutoff (first + j)))
  ]

  nothing_held : (k : ℕ) (hs : List Held) → Exact known clock_rate kind faithful k [] hs → hs ≡ []
  nothing_held k [] row = refl
  nothing_held k (p ∷ ps) row = absurd row

  -- once all units are released, a pop returns None and changes nothing
  pop_none : (k : ℕ) (s t : State) (a : Answer) → IsExactly k [] s → Pops s a t → (a ≡ None) × (t ≡ s)
  pop_none k s t a exactly pop = at a pop
    where
      none_due : due_of s ≡ None
      none_due = ap (λ (hs : List Held). due_among s (frames hs)) (nothing_held k s.held exactly.row)

      not_due : (f : CompleteFrame) (r : State) → r ≡ s → due_of r ≡ Some f → ⊥
      not_due f r same due = let here : due_of s ≡ Some f = subst (λ (x : State). due_of x ≡ Some f) same due in cc (none_due)

      never : (r : State) → PassesOver s r → ⊥
      never r over = not_due over.frame s refl over.is_due

      at : (a : Answer) → Pops s a t → (a ≡ None) × (t ≡ s)
      at None pop = (refl, none_passed s t pop.0 never pop.1.0)
      at (Some (Ok r)) pop = absurd (not_due pop.1.2.frame pop.1.0 (none_passed s pop.1.0 pop.0 never pop.1.1) pop.1.2.is_due)
      at (Some (Err fault)) pop = elim pop.1.2 [
        | inl stall ↦ absurd (not_due stall.1.frame pop.1.0 (none_passed s pop.1.0 pop.0 never pop.1.1) stall.1.is_due)
        | inr refusal ↦ absurd (not_due refusal.frame pop.1.0 (none_passed s pop.1.0 pop.0 never pop.1.1) refusal.is_due)
      ]

  -- the next unit is first in the range
  pub record IsFront (k : ℕ) (u : SentUnit) (us : List SentUnit) (s : State) : Type 0 where
    pub frame : CompleteFrame
    pub is_due : due_of s ≡ Some frame
    pub end : frame.last + 1 ≡ first + k + length u.packets
    pub packets : List Held
    pub after : List Held
    pub taken : packets_of_frame s frame ≡ packets
    pub left : above frame.last s.held ≡ after
    pub of_unit : Exact known clock_rate kind faithful k u.packets packets
    pub of_rest : Exact known clock_rate kind faithful (k + length u.packets) (packets_of us) after

  front : (k : ℕ) (u : SentUnit) (us : List SentUnit) (s : State) → IsExactly k (u ∷ us) s → IsFront k u us s
  front k u us s exactly =
      let law = exactly.lawful.0 in
      let time = exactly.one_time.0.0 in
      let times = exactly.one_time.0.1 in
      let numbers = numbered_front (first + k) u.packets (packets_of us) exactly.numbered in
      let next = next_due known clock_rate kind faithful s first k time u (packets_of us) law.ends law.starts times numbers exactly.row exactly.next in
      let f = next.0 in
      let split = exact_split known clock_rate kind faithful k u.packets (packets_of us) s.held exactly.row in
      let at = held_time known clock_rate kind faithful time in
      let run : IsRun f.first f.last at split.front =
      subst (λ (n : ℕ). IsRun n f.last at split.front) (sym next.2)
      (run_of_exact known clock_rate kind faithful k (first + k) time u.packets split.front law.ends times numbers split.of_front f.last next.3) in
      let parts = part_between [] split.front split.back f.first f.last at run (subst Rises split.whole exactly.rises) in
      record {
        frame = f;
        is_due = next.1;
        end = next.3;
        packets = split.front;
        after = split.back;
        taken = ap (between f.first f.last) split.whole ∙ parts.inside;
        left = ap (above f.last) split.whole ∙ parts.beyond;
        of_unit = split.of_front;
        of_rest = split.of_back;
      }

  -- the next unit is released, whole
  pub record IsNext (k : ℕ) (u : SentUnit) (us : List SentUnit) (a : Answer) (t : State) : Type 0 where
    pub release : Release
    pub is : a ≡ Some (Ok release)
    pub whole : IsWhole known k u release
    pub left : IsExactly (k + length u.packets) us t

  pop_next : (k : ℕ) (u : SentUnit) (us : List SentUnit) (s t : State) (a : Answer) → IsExactly k (u ∷ us) s → a ≢ Some (Err faults.OutOfMemory) → Pops s a t → IsNext k u us a t
  pop_next k u us s t a exactly memory pop =
      let out = pop_releases s t a unit.frame unit.is_due never sound memory pop in
      let r = out.0 in
      let releases = out.2 in
      let unpacked : Unpacked = record { bytes = r.bytes; extra = r.codec_extra } in
      let gives = gives_unit releases.frame releases.is_due (Ok unpacked) releases.depacketizer releases.gives in
      let answer = given (Ok unpacked) releases.depacketizer gives in
      let same = same_frame releases.frame releases.is_due in
      let end : releases.frame.last ≡ unit.frame.last = ap (λ (x : CompleteFrame). x.last) same in
      let after : above releases.frame.last s.held ≡ unit.after = ap (λ (n : ℕ). above n s.held) end ∙ unit.left in
      let number : first + k + length u.packets ≡ first + (k + length u.packets) = omega arith in
      record {
        release = r;
        is = out.1;
        whole = record {
          bytes = whole_of splits u r.bytes answer.1;
          metas = subst (ArePushesBy known k u.packets) (sym (releases.metas ∙ ap metas_of (taken releases.frame releases.is_due)))
              (exact_metas known clock_rate kind faithful k u.packets unit.packets unit.of_unit);
        };
        left = subst (IsExactly (k + length u.packets) us) (sym releases.left) (record {
          row = subst (Exact known clock_rate kind faithful (k + length u.packets) (packets_of us)) (sym after) unit.of_rest;
          rises = above_rises releases.frame.last s.held exactly.rises;
          next = omega (arith, end, unit.end);
          count = omega (arith, exactly.count, length-append u.packets (packets_of us));
          lawful = exactly.lawful.1;
          numbered = subst (λ (n : ℕ). AreNumbered n (packets_of us)) number (numbered_back (first + k) u.packets (packets_of us) exactly.numbered);
          one_time = exactly.one_time.1;
          reads = answer.0;
          may_go = (exactly.may_go unit.packets same_payloads unpacked releases.depacketizer gives (follows s releases.frame)).1;
        });
      }
    where
      unit : IsFront k u us s
      unit = front k u us s exactly

      same_payloads : payloads_held unit.packets ≡ payloads_sent u.packets
      same_payloads = exact_payloads known clock_rate kind faithful k u.packets unit.packets unit.of_unit

      same_frame : (f : CompleteFrame) → due_of s ≡ Some f → f ≡ unit.frame
      same_frame f due = let is = unit.is_due in cc

      taken : (f : CompleteFrame) → due_of s ≡ Some f → packets_of_frame s f ≡ unit.packets
      taken f due = ap (λ (x : CompleteFrame). packets_of_frame s x) (same_frame f due) ∙ unit.taken

      gives_unit : (f : CompleteFrame) → due_of s ≡ Some f → (answer : Result Unpacked PacketError) (e : DepacketizerState) → Gives s f answer e
          → Unpacks s.depacketizer unit.packets nothing_unpacked answer e
      gives_unit f due answer e gives = subst (λ (ps : List Held). Unpacks s.depacketizer ps nothing_unpacked answer e) (taken f due) gives

      given : (answer : Result Unpacked PacketError) (e : DepacketizerState) → Unpacks s.depacketizer unit.packets nothing_unpacked answer e
          → (kind_of_depacketizer e ≡ kind) × MatchResult answer (λ unpacked. IsReleaseOf splits u [] unpacked.bytes) (λ fault. fault ≡ faults.OutOfMemory)
      given answer e gives = exactly.lawful.0.gives [] u.packets refl exactly.lawful.0.starts unit.packets same_payloads s.depacketizer answer e exactly.reads gives

      never : (r : State) → PassesOver s r → ⊥
      never r over =
          let may = exactly.may_go unit.packets same_payloads over.unpacked over.depacketizer
          (gives_unit over.frame over.is_due (Ok over.unpacked) over.depacketizer over.gives) (follows s over.frame) in
          let yes : (checked s.contiguity over.unpacked.extra (follows s over.frame)).0 ≡ true = may.0 in
          let wrong : true ≡ false = sym yes ∙ over.may_not in
          cc

      sound : (fault : PacketError) (r : State) → Refuses s fault r → ⊥
      sound fault r refusal = refusal.not_memory (given (Err fault) refusal.depacketizer (gives_unit refusal.frame refusal.is_due (Err fault) refusal.depacketizer refusal.gives)).1

  -- the result of a pop, and the results of the later ones
  pub pop_answers : (k : ℕ) (rest : List SentUnit) (s t : State) (a : Answer) (answers : List Answer) → IsExactly k rest s → a ≢ Some (Err faults.OutOfMemory) → Pops s a t
      → ((n : ℕ) (left : List SentUnit) → IsExactly n left t → AnswersAll known n left answers) → AnswersAll known k rest (a ∷ answers)
  pop_answers k [] s t a answers exactly memory pop later =
      let out = pop_none k s t a exactly pop in
      (out.0, later k [] (subst (IsExactly k []) (sym out.1) exactly))
  pop_answers k (u ∷ us) s t a answers exactly memory pop later =
      let out = pop_next k u us s t a exactly memory pop in
      (out.release, out.is, out.whole, later (k + length u.packets) us out.left)
