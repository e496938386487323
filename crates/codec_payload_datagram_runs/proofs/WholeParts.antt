-- If all datagrams of a part arrive before its first pop, its pops return the units of earlier parts that are still held, and then
-- all units of the part.
use Rattle.std.proofs.Common.{◌≡◌, ◌≢◌, ◌∙◌, refl, sym, ap, subst, ℕ, suc, ◌+◌, ◌<◌, ◌≤◌, ◌||◌, cond, List, [], ◌∷◌, ◌++◌, Bool, true, false, Option, Some, None, Ok, Err, arith, length, ltb, eqb, append-nil, inl, inr}
use Rattle.std.specs.Prelude.{slice_get}
use Rattle.std.proofs.lemmas.Bool.Decides.{nat_tests}
use Rattle.std.proofs.lemmas.Option.{slice_get_within}
use Rattle.codec_payload_base.specs.declared.error.PacketError.TheVariants as faults
use Rattle.codec_payload_buffer.proofs.MemberLemmas.{IsIn}
use Rattle.codec_payload_buffer.proofs.PlaceLemmas.{length_placed}
use Rattle.codec_payload_buffer.proofs.StretchLemmas.{has_placed}
use Rattle.codec_payload_contiguity.specs.ContiguityTable.{checked}
use Rattle.codec_payload_buffer.specs.Frames.{frames}
use Rattle.codec_payload_buffer.specs.Held.{Held, Rises, above, has_number, placed}
use Rattle.codec_payload_metadata.specs.Release.{Release}
use Rattle.codec_payload_buffer.specs.Steps.{Passes, PassesOver, PopsOver, Releases, State, Unpacked, Unpacks, arrived, due_among, due_of, follows, is_at_most, is_dropped, kept_to_limit, none, nothing_unpacked, one_more, packets_of_frame, pushed, without_lowest}
use Rattle.codec_payload_buffer.specs.declared.buffer.frames.CompleteFrame.{CompleteFrame}
use Rattle.codec_payload_metadata.specs.declared.meta.RtpMeta.{RtpMeta}
use Rattle.codec_payload_contiguity.specs.declared.contiguity.Contiguity.{Contiguity}
use Rattle.codec_payload_codec.proofs.CaseLemmas.{by_test}
use Rattle.codec_payload_codec.specs.BaseLayers.{lacks_base}
use Rattle.codec_payload_codec.specs.Depacketizers.{DepacketizerKind, DepacketizerState, kind_of_depacketizer}
use Rattle.codec_payload_buffer_runs.proofs.order.ArrivalLemmas.{AllKnown}
use Rattle.codec_payload_buffer_runs.proofs.order.ChainLemmas.{Exactly, Filling}
use Rattle.codec_payload_buffer_runs.proofs.order.ExactLemmas.{MayGo, dropped, pop_answers}
use Rattle.codec_payload_buffer_runs.proofs.order.FillLemmas.{IsFilled, filled, full_row}
use Rattle.codec_payload_buffer_runs.proofs.order.FollowsLemmas.{checked_lacks}
use Rattle.codec_payload_buffer_runs.proofs.order.SafetyLemmas.{next_after}
use Rattle.codec_payload_buffer_runs.proofs.order.TurnLemmas.{Beyond, FrameOf, IsPush, Setting, count, frame_due}
use Rattle.codec_payload_buffer_runs.proofs.units.UnitIds.{TellInTurn, told_at}
use Rattle.codec_payload_buffer_runs.proofs.units.UnitRows.{Exact, exact_payloads, held_as}
use Rattle.codec_payload_buffer_runs.specs.Arrivals.{Arrives, Asked, Event, HasArrival, Meets, OnlyArrive, PopsWaiting}
use Rattle.codec_payload_buffer_runs.specs.Exact.{AnswersAll}
use Rattle.codec_payload_buffer_runs.specs.Headline.{IsUnitAt, packets_before}
use Rattle.codec_payload_buffer_runs.specs.LawfulUnits.{AllLawful}
use Rattle.codec_payload_buffer_runs.specs.ReportedIds.{Tells, id_later, read_by}
use Rattle.codec_payload_buffer_runs.specs.Schedule.{Answer}
use Rattle.codec_payload_buffer_runs.specs.SentStream.{SentUnit, packets_of}
use Rattle.codec_payload_payloader.specs.Packets.{AreNumbered, Packet}
use Rattle.codec_payload_datagram_runs.proofs.EventLemmas.{AllAtOnce}
use Rattle.codec_payload_datagram_runs.proofs.JoinedFrames.{IsDueIn, due_at_once, due_in, earlier_in, has_later, in_earlier, in_later, joined, later_in, placed_later}
use Rattle.codec_payload_datagram_runs.proofs.LayerLemmas.{IsLow, Order, all_high, before, earlier_over, earlier_releases, later_frame, later_one, layered_refuses, left_of, low_in, new_stays, number_high, number_is, same_beyond, view_of}
use Rattle.codec_payload_datagram_runs.specs.Deliveries.{IsCutoffBelow}
use Rattle.codec_payload_datagram_runs.specs.RestartReleases.{EndsWithAll}

or_true : (b : Bool) → (b || true) ≡ true
or_true true = refl
or_true false = refl

-- a skipped frame leaves the limit on waiting as it was
passes_hold : (s t : State) (over : List CompleteFrame) → Passes s over t → t.hold_back ≡ s.hold_back
passes_hold s t over none = refl
passes_hold s u over (one_more {t = t} passes p) = ap (λ (x : State). x.hold_back) p.left ∙ passes_hold s t _ passes

-- without ids each unit may go
may_go_any : (kind : DepacketizerKind) (splits : Bool) (start : Option ℕ) (n : ℕ) (us : List SentUnit) (d : DepacketizerState) (ids : Contiguity) → start ≡ None → AllLawful kind splits us
    → TellInTurn kind start n us → kind_of_depacketizer d ≡ kind → MayGo us d ids
may_go_any kind splits start n [] d ids no_ids lawful told reads = tt
may_go_any kind splits start n (u ∷ us) d ids no_ids lawful told reads = λ ps same unpacked e gives seq.
    let law = lawful.0 in
    let told_it : Tells (id_later start n) (read_by d) unpacked.extra (read_by e) = told.0 [] u.packets refl law.starts ps same d unpacked e reads gives in
    let lacks : lacks_base unpacked.extra ≡ true = subst (λ (o : Option ℕ). Tells (id_later o n) (read_by d) unpacked.extra (read_by e)) no_ids told_it in
    let reads_on = (law.gives [] u.packets refl law.starts ps same d (Ok unpacked) e reads gives).0 in
    (ap (λ (a : Bool × Bool × Contiguity). a.0) (checked_lacks ids unpacked.extra seq lacks), may_go_any kind splits start (suc n) us e (checked ids unpacked.extra seq).2 no_ids lawful.1 told.1 reads_on)

module _ (known : ℕ → Packet → RtpMeta → Type 0) (splits : Bool) (units : List SentUnit) (kind : DepacketizerKind) (bound done : ℕ) (o : Order known splits units kind bound done)
    (c : Setting) (same_kind : c.kind ≡ kind) (gap : bound < c.first) (next : ℕ) (grows : bound ≤ next)
    (within : (k : ℕ) (q : Packet) (m : RtpMeta) → c.known k q m → c.first + k < next)
    (embeds : (j : ℕ) (r : Release) → IsUnitAt c.known c.splits c.units j r → IsUnitAt known splits units (done + j) r) (no_ids : c.start ≡ None) where
  low_at : (from : ℕ) (old : List Held) (s : State) → o.Is from (earlier_in old s) → IsLow kind bound done from (earlier_in old s)
  low_at from old s is = low_in known splits units kind bound done o c same_kind gap next grows within embeds from old s is

  -- Filling

  -- packets of this part, `new`, are pushed into the buffer, which has room for all of them
  record IsPartly (from : ℕ) (start : State) (new : List Held) (s : State) : Type 0 where
    old : List Held
    held : s.held ≡ old ++ new
    earlier : o.Is from (earlier_in old s)
    filling : Filling c start (later_in new s)

  -- more of them are held
  record HasMore (from : ℕ) (start : State) (n : ℕ) (before_it : List Held) (t : State) : Type 0 where
    new : List Held
    partly : IsPartly from start new t
    has : has_number n new ≡ true
    still : (m : ℕ) → has_number m before_it ≡ true → has_number m new ≡ true

  not_at_most : (n : ℕ) (m : Option ℕ) → IsCutoffBelow bound m → bound < n → is_at_most m n ≡ false
  not_at_most n None under high = refl
  not_at_most n (Some k) under high = grind (arith, nat_tests, under, high)

  -- a packet of this part is dropped exactly if it is there
  dropped_as : (from : ℕ) (old new : List Held) (s : State) (n : ℕ) → s.held ≡ old ++ new → o.Is from (earlier_in old s) → bound < n → is_dropped s n ≡ has_number n new
  dropped_as from old new s n held is high =
      let low = low_at from old s is in
      ap (λ (b : Bool). b || has_number n s.held) (not_at_most n s.cutoff low.cutoff high) ∙ (ap (has_number n) held ∙ has_later bound n old new high low.under)

  same_filling : (start x y : State) → y.held ≡ x.held → y.cutoff ≡ None → y.limit ≡ x.limit → y.depacketizer ≡ x.depacketizer → y.contiguity ≡ x.contiguity → Filling c start x → Filling c start y
  same_filling start x y held cutoff limit depacketizer contiguity filling = record {
    beyond = same_beyond known splits units kind bound done o c same_kind gap next grows within embeds 0 x y held (cutoff ∙ sym filling.no_cutoff)
        (ap kind_of_depacketizer depacketizer ∙ filling.beyond.reads) filling.beyond;
    no_cutoff = cutoff;
    room = subst (λ (n : ℕ). count c ≤ n) (sym limit) filling.room;
    depacketizer = depacketizer ∙ filling.depacketizer;
    contiguity = contiguity ∙ filling.contiguity;
  }

  -- a buffer with room evicts nothing
  none_evicted : (start x : State) (hs : List Held) → 0 < length hs → x.cutoff ≡ None → Filling c start (cond (ltb x.limit (length hs)) (without_lowest x hs) x) → ltb x.limit (length hs) ≡ false
  none_evicted start x [] some no_cutoff filling = absurd (omega (arith, some))
  none_evicted start x (h ∷ hs) some no_cutoff filling = by_case (ltb x.limit (length (h ∷ hs))) filling
    where
      by_case : (b : Bool) → Filling c start (cond b (without_lowest x (h ∷ hs)) x) → b ≡ false
      by_case true evicts = let no = evicts.no_cutoff in absurd (cc)
      by_case false stays = refl

  -- the buffer with one more packet
  abbrev with_placed : Held → State → State
  with_placed p s = record s { held = placed p s.held }

  partly_pushed : (from : ℕ) (start : State) (new : List Held) (s : State) (p : Held) → IsPush c p → IsPartly from start new s → HasMore from start p.meta.seq_no.0 new (pushed s p)
  partly_pushed from start new s p push is = by_case (has_number p.meta.seq_no.0 new) refl
    where
      high : bound < p.meta.seq_no.0
      high = number_high known splits units kind bound done o c same_kind gap next grows within embeds p push

      drops : is_dropped s p.meta.seq_no.0 ≡ has_number p.meta.seq_no.0 new
      drops = dropped_as from is.old new s p.meta.seq_no.0 is.held is.earlier high

      fills : IsFilled c.known c.clock_rate c.first c.kind c.faithful c.splits c.units c.lawful c.numbered start (later_in new s) p.meta.seq_no.0 (pushed (later_in new s) p)
      fills = filled c.known c.clock_rate c.first c.kind c.faithful c.splits c.units c.lawful c.numbered start (later_in new s) p push is.filling

      more : (with_placed p s).held ≡ is.old ++ placed p new
      more = ap (placed p) is.held ∙ placed_later bound p is.old new high (low_at from is.old s is.earlier).under

      there : has_number p.meta.seq_no.0 (placed p new) ≡ true
      there = has_placed p.meta.seq_no.0 p new ∙ grind (arith, nat_tests)

      stays : (m : ℕ) → has_number m new ≡ true → has_number m (placed p new) ≡ true
      stays m h = has_placed m p new ∙ (ap (λ (b : Bool). eqb p.meta.seq_no.0 m || b) h ∙ or_true (eqb p.meta.seq_no.0 m))

      -- the lowest packet of the earlier parts is evicted, or none is
      kept : Filling c start (record (later_in new s) { held = placed p new }) → ltb s.limit (length (placed p new)) ≡ false → IsPartly from start (placed p new) (kept_to_limit (with_placed p s))
      kept filling fits =
          by_test (ltb s.limit (length (with_placed p s).held)) (λ b. IsPartly from start (placed p new) (cond b (without_lowest (with_placed p s) (with_placed p s).held) (with_placed p s)))
          (λ over. subst (λ (hs : List Held). IsPartly from start (placed p new) (without_lowest (with_placed p s) hs)) (sym more) (evicts is.old is.earlier (sym (ap (λ (hs : List Held). ltb s.limit (length hs)) more) ∙ over)))
          (λ room. record { old = is.old; held = more; earlier = is.earlier; filling = filling })
        where
          evicts : (old : List Held) → o.Is from (earlier_in old s) → ltb s.limit (length (old ++ placed p new)) ≡ true → IsPartly from start (placed p new) (without_lowest (with_placed p s) (old ++ placed p new))
          evicts [] earlier over = absurd (cc)
          evicts (q ∷ old) earlier over = record {
            old = old;
            held = refl;
            earlier = o.lowest from (earlier_in (q ∷ old) s) earlier;
            filling = same_filling start (record (later_in new s) { held = placed p new }) (later_in (placed p new) (without_lowest (with_placed p s) (q ∷ old ++ placed p new))) refl refl refl refl refl filling;
          }

      by_case : (b : Bool) → has_number p.meta.seq_no.0 new ≡ b → HasMore from start p.meta.seq_no.0 new (pushed s p)
      by_case true e =
          let same : pushed s p ≡ s = ap (λ (b : Bool). cond b s (kept_to_limit (with_placed p s))) (drops ∙ e) in
          record { new = new; partly = subst (IsPartly from start new) (sym same) is; has = e; still = λ m h. h }
      by_case false e =
          let goes : pushed s p ≡ kept_to_limit (with_placed p s) = ap (λ (b : Bool). cond b s (kept_to_limit (with_placed p s))) (drops ∙ e) in
          let view_goes : pushed (later_in new s) p ≡ kept_to_limit (record (later_in new s) { held = placed p new }) = ap (λ (b : Bool). cond b (later_in new s) (kept_to_limit (record (later_in new s) { held = placed p new }))) e in
          let filling = subst (Filling c start) view_goes fills.filling in
          let fits = none_evicted start (record (later_in new s) { held = placed p new }) (placed p new) (omega (arith, length_placed p new)) refl filling in
          let stayed : kept_to_limit (record (later_in new s) { held = placed p new }) ≡ record (later_in new s) { held = placed p new } =
          ap (λ (b : Bool). cond b (without_lowest (record (later_in new s) { held = placed p new }) (placed p new)) (record (later_in new s) { held = placed p new })) fits in
          record {
            new = placed p new;
            partly = subst (IsPartly from start (placed p new)) (sym goes) (kept (subst (Filling c start) stayed filling) fits);
            has = there;
            still = stays;
          }

  reads_here : (from : ℕ) (old : List Held) (s : State) → o.Is from (earlier_in old s) → kind_of_depacketizer s.depacketizer ≡ c.kind
  reads_here from old s is = (low_at from old s is).reads ∙ sym same_kind

  abbrev push_of : (s : State) (k : ℕ) (meta : RtpMeta) (q : Packet) → slice_get (packets_of c.units) k ≡ Some q → c.known k q meta → kind_of_depacketizer s.depacketizer ≡ c.kind
      → IsPush c (arrived s.depacketizer meta q.payload)
  push_of s k meta q at told reads = (k, q, at, told, ap (λ (x : DepacketizerKind). held_as x meta q.payload) reads)

  -- all packets of the part have arrived
  record IsReached (from : ℕ) (start : State) (new : List Held) (first after : List Event) (answers : List Answer) (t : State) : Type 0 where
    mid : State
    now : List Held
    partly : IsPartly from start now mid
    has : (k : ℕ) → HasArrival k first → has_number (c.first + k) now ≡ true
    still : (m : ℕ) → has_number m new ≡ true → has_number m now ≡ true
    meets : Meets c.clock_rate (packets_of c.units) after mid answers t

  all_pushed : (from : ℕ) (start : State) (new : List Held) (s : State) (first after : List Event) (answers : List Answer) (t : State) → AllKnown c first → OnlyArrive first → IsPartly from start new s
      → Meets c.clock_rate (packets_of c.units) (first ++ after) s answers t → IsReached from start new first after answers t
  all_pushed from start new s [] after answers t all only is meets = record { mid = s; now = new; partly = is; has = λ k h. absurd h; still = λ m h. h; meets = meets }
  all_pushed from start new s (Asked wait ∷ first) after answers t all only is meets = absurd only
  all_pushed from start new s (Arrives k meta ∷ first) after answers t all only is meets =
      let q : Packet = meets.0 in
      let p : Held = arrived s.depacketizer meta q.payload in
      let push = push_of s k meta q meets.1 (all k meta (inl refl) q meets.2) (reads_here from is.old s is.earlier) in
      let number : p.meta.seq_no.0 ≡ c.first + k = number_is known splits units kind bound done o c same_kind gap next grows within embeds p push in
      let one = partly_pushed from start new s p push is in
      let rest = all_pushed from start one.new (pushed s p) first after answers t (λ j m at. all j m (inr at)) only one.partly meets.3 in
      record {
        mid = rest.mid;
        now = rest.now;
        partly = rest.partly;
        has = λ j h. elim h [
          | inl same ↦ rest.still (c.first + j) (subst (λ (m : ℕ). has_number (c.first + m) one.new ≡ true) same (subst (λ (m : ℕ). has_number m one.new ≡ true) number one.has))
          | inr later ↦ rest.has j later
        ];
        still = λ m h. rest.still m (one.still m h);
        meets = rest.meets;
      }

  -- Full

  -- of packets that are not of earlier parts, exactly those of this part are held
  record IsFullIn (from : ℕ) (s : State) : Type 0 where
    old : List Held
    new : List Held
    held : s.held ≡ old ++ new
    earlier : o.Is from (earlier_in old s)
    row : Exact c.known c.clock_rate c.kind c.faithful 0 (packets_of c.units) new
    there : Beyond c 0 (later_in new s)

  -- alone they would be released one after another
  exactly_at : (v : State) → Exact c.known c.clock_rate c.kind c.faithful 0 (packets_of c.units) v.held → Rises v.held → v.cutoff ≡ None → kind_of_depacketizer v.depacketizer ≡ c.kind
      → Exactly c 0 c.units v
  exactly_at v row rises no_cutoff reads = record {
    row = row;
    rises = rises;
    next = ap (next_after c.first) no_cutoff ∙ first_is;
    count = omega arith;
    lawful = c.lawful;
    numbered = subst (λ (n : ℕ). AreNumbered n (packets_of c.units)) first_is c.numbered;
    one_time = c.one_time;
    reads = reads;
    may_go = may_go_any c.kind c.splits c.start 0 c.units v.depacketizer v.contiguity no_ids c.lawful c.told reads;
  }
    where
      first_is : c.first ≡ c.first + 0
      first_is = omega arith

  -- a unit of this part reports no base layer
  lacks : (new : List Held) (s : State) (f : CompleteFrame) (unpacked : Unpacked) (e : DepacketizerState) → Beyond c 0 (later_in new s) → due_of (later_in new s) ≡ Some f
      → Unpacks s.depacketizer (packets_of_frame (later_in new s) f) nothing_unpacked (Ok unpacked) e → lacks_base unpacked.extra ≡ true
  lacks new s f unpacked e is due gives =
      let frame : FrameOf c 0 (later_in new s) f = frame_due c 0 (later_in new s) f is due in
      let told_it : Tells (id_later c.start frame.place) (read_by s.depacketizer) unpacked.extra (read_by e) =
      told_at c.kind c.start frame.place c.units frame.sent c.told frame.at_place frame.missing frame.rest frame.whole frame.starts frame.packets
      (exact_payloads c.known c.clock_rate c.kind c.faithful (packets_before frame.place c.units + length frame.missing) frame.rest frame.packets frame.exact)
      s.depacketizer unpacked e is.reads (subst (λ (ps : List Held). Unpacks s.depacketizer ps nothing_unpacked (Ok unpacked) e) frame.are gives) in
      subst (λ (x : Option ℕ). Tells (id_later x frame.place) (read_by s.depacketizer) unpacked.extra (read_by e)) no_ids told_it

  due_here : (from : ℕ) (s : State) (f : CompleteFrame) (is : IsFullIn from s) → due_of s ≡ Some f → IsDueIn is.old is.new s f
  due_here from s f is due =
      due_in bound is.old is.new s f is.held (low_at from is.old s is.earlier).under (all_high known splits units kind bound done o c same_kind gap next grows within embeds is.new is.there.sent) due

  -- so none of its frames is skipped
  full_over : (from : ℕ) (s t : State) → IsFullIn from s → PassesOver s t → IsFullIn from t
  full_over from s t is p = by_part (due_here from s p.frame is p.is_due)
    where
      by_part : IsDueIn is.old is.new s p.frame → IsFullIn from t
      by_part (in_earlier due) =
          let left = earlier_over known splits units kind bound done o c same_kind gap next grows within embeds from is.old is.new s t p is.held is.earlier is.there due in
          record {
            old = above p.frame.last is.old;
            new = is.new;
            held = left.held;
            earlier = left.earlier;
            row = is.row;
            there = new_stays known splits units kind bound done o c same_kind gap next grows within embeds from (above p.frame.last is.old) is.new s t left.earlier is.there;
          }
      by_part (in_later no_frames due) =
          let later = later_frame known splits units kind bound done o c same_kind gap next grows within embeds from is.old is.new s p.frame is.held is.earlier is.there due in
          let gives = subst (λ (ps : List Held). Unpacks s.depacketizer ps nothing_unpacked (Ok p.unpacked) p.depacketizer) later.packets p.gives in
          let may = checked_lacks s.contiguity p.unpacked.extra (follows s p.frame) (lacks is.new s p.frame p.unpacked p.depacketizer is.there due gives) in
          let wrong : true ≡ false = sym (ap (λ (a : Bool × Bool × Contiguity). a.0) may) ∙ p.may_not in
          absurd (cc)

  full_passes : (from : ℕ) (s t : State) (over : List CompleteFrame) → IsFullIn from s → Passes s over t → IsFullIn from t
  full_passes from s t over is none = is
  full_passes from s u over is (one_more {t = t} passes p) = full_over from t u (full_passes from s t _ is passes) p

  -- and one is due, if nothing waits
  some_due : (from : ℕ) (s : State) → IsFullIn from s → 0 < length c.units → s.hold_back ≡ 0 → due_of s ≡ None → ⊥
  some_due from s is some at_once due =
      let frames_are = joined bound is.old is.new (low_at from is.old s is.earlier).under (all_high known splits units kind bound done o c same_kind gap next grows within embeds is.new is.there.sent) in
      let none_at : frames is.new ≡ [] = back_empty (frames is.old) (frames is.new) (sym frames_are ∙ (ap frames (sym is.held) ∙ none_left (frames s.held) due)) in
      let view : State = later_in is.new s in
      let none_due : due_of view ≡ None = ap (due_among view) none_at in
      let exactly = exactly_at view is.row is.there.rises refl is.there.reads in
      nothing c.units some
      (pop_answers c.known c.clock_rate c.first c.kind c.faithful c.splits c.units 0 c.units view view None [] exactly (λ e. cc) ([], (none, none_due)) (λ n left ex. tt))
    where
      none_left : (fs : List CompleteFrame) → due_among s fs ≡ None → fs ≡ []
      none_left [] e = refl
      none_left (f ∷ fs) e = let is_due = due_at_once s f fs at_once in absurd (cc)

      back_empty : (fs gs : List CompleteFrame) → fs ++ gs ≡ [] → gs ≡ []
      back_empty [] gs e = e
      back_empty (f ∷ fs) gs e = absurd (cc)

      nothing : (us : List SentUnit) → 0 < length us → AnswersAll c.known 0 us (None ∷ []) → ⊥
      nothing [] l answers = omega (arith, l)
      nothing (u ∷ us) l answers = let is_some = answers.1 in cc

  -- Pops

  exactly_with : (k h : ℕ) (rest : List SentUnit) (s : State) → Exactly c k rest s → Exactly c k rest (record s { hold_back = h })
  exactly_with k h rest s e = record {
    row = e.row;
    rises = e.rises;
    next = e.next;
    count = e.count;
    lawful = e.lawful;
    numbered = e.numbered;
    one_time = e.one_time;
    reads = e.reads;
    may_go = e.may_go;
  }

  -- once only packets of this part are left
  answers_after : (k : ℕ) (rest : List SentUnit) (events : List Event) (s t : State) (answers : List Answer) → AllKnown c events → AllAtOnce events → Exactly c k rest s
      → Meets c.clock_rate (packets_of c.units) events s answers t → AnswersAll c.known k rest answers
  answers_after k rest [] s t answers all once exactly meets = subst (AnswersAll c.known k rest) (sym meets.0) tt
  answers_after k rest (Arrives j meta ∷ events) s t answers all once exactly meets =
      let q : Packet = meets.0 in
      let p : Held = arrived s.depacketizer meta q.payload in
      let push = push_of s j meta q meets.1 (all j meta (inl refl) q meets.2) exactly.reads in
      let number : p.meta.seq_no.0 ≡ c.first + j = number_is known splits units kind bound done o c same_kind gap next grows within embeds p push in
      let drop : is_dropped s p.meta.seq_no.0 ≡ true =
      subst (λ (n : ℕ). is_dropped s n ≡ true) (sym number) (dropped c.known c.clock_rate c.first c.kind c.faithful c.splits c.units k j rest s exactly
      (slice_get_within (packets_of c.units) j q meets.1)) in
      let same : pushed s p ≡ s = rw drop refl in
      answers_after k rest events s t answers (λ i m at. all i m (inr at)) once exactly (subst (λ (x : State). Meets c.clock_rate (packets_of c.units) events x answers t) same meets.3)
  answers_after k rest (Asked wait ∷ events) s t answers all once exactly meets =
      let pops = subst (λ (w : Option ℕ). PopsWaiting w s meets.0 meets.2) once.0 meets.4 in
      subst (AnswersAll c.known k rest) (sym meets.3)
      (pop_answers c.known c.clock_rate c.first c.kind c.faithful c.splits c.units k rest (record s { hold_back = 0 }) meets.2 meets.0 meets.1 (exactly_with k 0 rest s exactly) pops.0 pops.1
      (λ n left there. answers_after n left events meets.2 t meets.1 (λ i m at. all i m (inr at)) once.1 there meets.5))

  -- the others are left
  exactly_left : (from : ℕ) (s t : State) (r : Release) (is : IsFullIn from s) (out : Releases s r t) → due_of (later_in is.new s) ≡ Some out.frame → (n : ℕ) (left : List SentUnit)
      → Exactly c n left (left_of is.new t out.frame) → Exactly c n left t
  exactly_left from s t r is out due n left e =
      let later = later_frame known splits units kind bound done o c same_kind gap next grows within embeds from is.old is.new s out.frame is.held is.earlier is.there due in
      let held : t.held ≡ above out.frame.last is.new = ap (λ (x : State). x.held) out.left ∙ later.left in
      record {
        row = subst (Exact c.known c.clock_rate c.kind c.faithful n (packets_of left)) (sym held) e.row;
        rises = subst Rises (sym held) e.rises;
        next = e.next;
        count = e.count;
        lawful = e.lawful;
        numbered = e.numbered;
        one_time = e.one_time;
        reads = e.reads;
        may_go = e.may_go;
      }

  first_unit : (from : ℕ) (s t fin : State) (r : Release) (events : List Event) (more : List Answer) (is : IsFullIn from s) (out : Releases s r t) → due_of (later_in is.new s) ≡ Some out.frame
      → AllKnown c events → AllAtOnce events → Meets c.clock_rate (packets_of c.units) events t more fin → AnswersAll c.known 0 c.units (Some (Ok r) ∷ more)
  first_unit from s t fin r events more is out due all once meets =
      let view : State = view_of is.new s out.frame in
      let after : State = left_of is.new t out.frame in
      pop_answers c.known c.clock_rate c.first c.kind c.faithful c.splits c.units 0 c.units view after (Some (Ok r)) more (exactly_at view is.row is.there.rises refl is.there.reads) (λ e. cc)
      ([], (view, none, later_one known splits units kind bound done o c same_kind gap next grows within embeds from is.old is.new s t r out is.held is.earlier is.there due)) (λ n left there. answers_after n left events t fin more all once (exactly_left from s t r is out due n left there) meets)

  -- one more unit of an earlier part
  one_older : (r : Release) (place : ℕ) (more : List Answer) → place < done → IsUnitAt known splits units place r → EndsWithAll known splits units done c.known c.units more
      → EndsWithAll known splits units done c.known c.units (Some (Ok r) ∷ more)
  one_older r place more low unit rest = record {
    older = Some (Ok r) ∷ rest.older;
    rest = rest.rest;
    whole = ap (λ (as' : List Answer). Some (Ok r) ∷ as') rest.whole;
    earlier = ((place, low, unit), rest.earlier);
    all = rest.all;
  }

  -- a pop: `later` are the answers of the later pops
  after_release : (from : ℕ) (s t : State) (r : Release) (more : List Answer) (is : IsFullIn from s) (out : Releases s r t) → IsDueIn is.old is.new s out.frame
      → ((n : ℕ) → IsFullIn n t → EndsWithAll known splits units done c.known c.units more)
      → (due_of (later_in is.new s) ≡ Some out.frame → AnswersAll c.known 0 c.units (Some (Ok r) ∷ more)) → EndsWithAll known splits units done c.known c.units (Some (Ok r) ∷ more)
  after_release from s t r more is out (in_earlier due) later unit =
      let gone = earlier_releases known splits units kind bound done o c same_kind gap next grows within embeds from is.old is.new s t r out is.held is.earlier is.there due in
      let rest : List Held = above out.frame.last is.old in
      let low = low_at (gone.place + 1) rest t gone.left.earlier in
      one_older r gone.place more (omega (arith, low.few)) gone.unit (later (gone.place + 1) (record {
        old = rest;
        new = is.new;
        held = gone.left.held;
        earlier = gone.left.earlier;
        row = is.row;
        there = new_stays known splits units kind bound done o c same_kind gap next grows within embeds (gone.place + 1) rest is.new s t gone.left.earlier is.there;
      }))
  after_release from s t r more is out (in_later no_frames due) later unit = record { older = []; rest = Some (Ok r) ∷ more; whole = refl; earlier = tt; all = unit due }

  popped : (from : ℕ) (s t : State) (over : List CompleteFrame) (a : Answer) (more : List Answer) → IsFullIn from s → s.hold_back ≡ 0 → 0 < length c.units → a ≢ Some (Err faults.OutOfMemory)
      → PopsOver s over a t → ((n : ℕ) → IsFullIn n t → EndsWithAll known splits units done c.known c.units more)
      → ((mid : State) (r : Release) (is : IsFullIn from mid) (out : Releases mid r t) → due_of (later_in is.new mid) ≡ Some out.frame → AnswersAll c.known 0 c.units (Some (Ok r) ∷ more))
      → EndsWithAll known splits units done c.known c.units (a ∷ more)
  popped from s t over None more is at_once some found pop later unit =
      absurd (some_due from t (full_passes from s t over is pop.0) some (passes_hold s t over pop.0 ∙ at_once) pop.1)
  popped from s t over (Some (Ok r)) more is at_once some found pop later unit =
      let now = full_passes from s pop.0 over is pop.1 in
      after_release from pop.0 t r more now pop.2 (due_here from pop.0 pop.2.frame now pop.2.is_due) later (unit pop.0 r now pop.2)
  popped from s t over (Some (Err fault)) more is at_once some found pop later unit = elim pop.2 [
    | inl memory ↦ absurd (found (ap (λ e. Some (Err e)) memory.0))
    | inr refusal ↦
        let now = full_passes from s pop.0 over is pop.1 in
        absurd (layered_refuses known splits units kind bound done o c same_kind gap next grows within embeds from pop.0 t fault (before now.old now.new now.held now.earlier now.there) refusal)
  ]

  full_pops : (from : ℕ) (events : List Event) (s t : State) (answers : List Answer) → AllKnown c events → AllAtOnce events → IsFullIn from s → 0 < length c.units
      → Meets c.clock_rate (packets_of c.units) events s answers t → EndsWithAll known splits units done c.known c.units answers
  full_pops from [] s t answers all once is some meets = record { older = []; rest = []; whole = meets.0; earlier = tt; all = tt }
  full_pops from (Arrives k meta ∷ events) s t answers all once is some meets =
      let q : Packet = meets.0 in
      let p : Held = arrived s.depacketizer meta q.payload in
      let push = push_of s k meta q meets.1 (all k meta (inl refl) q meets.2) (reads_here from is.old s is.earlier) in
      let number : p.meta.seq_no.0 ≡ c.first + k = number_is known splits units kind bound done o c same_kind gap next grows within embeds p push in
      let high = number_high known splits units kind bound done o c same_kind gap next grows within embeds p push in
      let exactly = exactly_at (later_in is.new s) is.row is.there.rises refl is.there.reads in
      let there : has_number p.meta.seq_no.0 is.new ≡ true =
      subst (λ (n : ℕ). has_number n is.new ≡ true) (sym number) (dropped c.known c.clock_rate c.first c.kind c.faithful c.splits c.units 0 k c.units (later_in is.new s) exactly
      (slice_get_within (packets_of c.units) k q meets.1)) in
      let drop : is_dropped s p.meta.seq_no.0 ≡ true = dropped_as from is.old is.new s p.meta.seq_no.0 is.held is.earlier high ∙ there in
      let same : pushed s p ≡ s = rw drop refl in
      full_pops from events s t answers (λ i m at. all i m (inr at)) once is some (subst (λ (x : State). Meets c.clock_rate (packets_of c.units) events x answers t) same meets.3)
  full_pops from (Asked wait ∷ events) s t answers all once is some meets =
      let full : IsFullIn from (record s { hold_back = 0 }) = record { old = is.old; new = is.new; held = is.held; earlier = is.earlier; row = is.row; there = is.there } in
      let pops = subst (λ (w : Option ℕ). PopsWaiting w s meets.0 meets.2) once.0 meets.4 in
      let all_later : AllKnown c events = λ i m at. all i m (inr at) in
      subst (EndsWithAll known splits units done c.known c.units) (sym meets.3)
      (popped from (record s { hold_back = 0 }) meets.2 pops.1.0 meets.0 meets.1 full refl some pops.0 pops.1.1
      (λ n there. full_pops n events meets.2 t meets.1 all_later once.1 there some meets.5)
      (λ mid r now out due. first_unit from mid meets.2 t r events meets.1 now out due all_later once.1 meets.5))

  -- all datagrams arrive before the first pop
  pub part_whole : (from : ℕ) (first after : List Event) (s t : State) (answers : List Answer) → AllKnown c (first ++ after) → OnlyArrive first → AllAtOnce after
      → ((k : ℕ) → k < count c → HasArrival k first) → count c ≤ s.limit → o.Is from s → 0 < length c.units → Meets c.clock_rate (packets_of c.units) (first ++ after) s answers t
      → EndsWithAll known splits units done c.known c.units answers
  part_whole from first after s t answers all only once each room is some meets =
      let earlier : o.Is from (earlier_in s.held s) = o.waits from 0 s is in
      let start : IsPartly from s [] s = record {
        old = s.held;
        held = sym (append-nil s.held);
        earlier = earlier;
        filling = record {
          beyond = record { rises = tt; beyond = tt; sent = tt; floor = omega arith; reads = reads_here from s.held s earlier };
          no_cutoff = refl;
          room = room;
          depacketizer = refl;
          contiguity = refl;
        };
      } in
      let reached = all_pushed from s [] s first after answers t (λ k m at. all k m (left_in first k m at)) only start meets in
      let partly = reached.partly in
      full_pops from after reached.mid t answers (λ k m at. all k m (right_in first k m at)) once (record {
        old = partly.old;
        new = reached.now;
        held = partly.held;
        earlier = partly.earlier;
        row = full_row c.known c.clock_rate c.first c.kind c.faithful c.splits c.units c.lawful c.numbered s (later_in reached.now reached.mid) partly.filling (λ k l. reached.has k (each k l));
        there = partly.filling.beyond;
      }) some reached.meets
    where
      left_in : (es : List Event) (k : ℕ) (m : RtpMeta) → IsIn (Arrives k m) es → IsIn (Arrives k m) (es ++ after)
      left_in [] k m at = absurd at
      left_in (e ∷ es) k m (inl here) = inl here
      left_in (e ∷ es) k m (inr later) = inr (left_in es k m later)

      right_in : (es : List Event) (k : ℕ) (m : RtpMeta) → IsIn (Arrives k m) after → IsIn (Arrives k m) (es ++ after)
      right_in [] k m at = at
      right_in (e ∷ es) k m at = inr (right_in es k m at)
