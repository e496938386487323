-- Each number that is noted in a run lies between two pictures.
use Rattle.std.proofs.Common.{◌≡◌, ◌∙◌, refl, ap, sym, subst, ℕ, zero, suc, ◌+◌, ◌<◌, ◌⊎◌, List, [], ◌∷◌, Bool, true, false, eqb, arith, ◌&&◌, Option, Some, None, Result, Ok, Err, inl, inr}
use Rattle.std.specs.Prelude.{IfSome}
use Rattle.std.specs.Option.{option_map}
use Rattle.std.specs.declared.alloc.AllocError.{AllocError}
use Rattle.std.proofs.lemmas.Bool.{and_parts, eqb-true}
use Rattle.std.proofs.lemmas.Bool.Decides.{nat_tests}
use Rattle.codec_payload_codec.proofs.CaseLemmas.{not_both}
use Rattle.codec_payload_buffer.specs.Held.{has_number}
use Rattle.codec_payload_buffer.specs.Steps.{State, is_at_most}
use Rattle.codec_payload_edges.specs.Pictures.{Pictures, checked, distrusted, heard, with_noted}
use Rattle.codec_payload_edges.specs.Senders.{AreBetweenPictures, AreOf, CarriesNone, CarryNoMedia, IsAmong, IsBetween, IsOf, Sender, SendsInOrder, Stored, after_calls, stored_in as heard_in_calls}
use Rattle.codec_payload_edges.specs.Senders.Call.{Checks, Distrusts, Hears, Notes}
use Rattle.codec_payload_edges.specs.Senders.{Call as EdgeCall}
use Rattle.codec_payload_edges.specs.declared.edge.Edge.{Edge}
use Rattle.codec_payload_edges.specs.declared.pictures.Between.{Between}
use Rattle.codec_payload_edges.specs.declared.pictures.Gaps.{Gaps}
use Rattle.codec_payload_jitter.specs.NoMediaNumbers.{is_in}
use Rattle.codec_payload_jitter.specs.Receiving.{Receiving}
use Rattle.codec_payload_receiver.specs.Sessions.{Session}
use Rattle.codec_payload_stream_edges.specs.Brought.{MediaPacket, at_edge, brought_at, can_say, edge_of}
use Rattle.codec_payload_stream_edges.specs.Following.{Follows, FollowsEdge, FollowsFor, FollowsIf, FollowsPacket, HearsEdge, HearsFor, NotesGap, NotesLater, begun, checked_for, edge_if, gap_if, has_come, is_of_sender, is_stored, number_in, of_sender_in, sender_in, settled}
use Rattle.codec_payload_stream_edges.specs.Runs.{Call, HasNext, IsNoted, NoteBetweenPictures, NoteNoMedia, Reaches, Step, is_by, packets_of, stored_by, stored_if, stored_in, stored_with, with_packet}
use Rattle.codec_payload_stream_edges.specs.Runs.Call.{Follow, Forget}
use Rattle.codec_payload_stream_edges.specs.declared.followed.Followed.{Followed}
use Rattle.codec_payload_stream_edges.specs.declared.followed.SenderMark.{SenderMark}
use Rattle.codec_payload_stream_edges.proofs.RangeLemmas.{IsFresh, in_range, range_buffer}

-- ---- what is known of a sender's pictures came in its packets

-- the packets of one list are among those of another one
abbrev AreAmong : List Stored → List Stored → Type 0
AreAmong xs ys = (x : Stored) → IsAmong x xs → IsAmong x ys

record Traced (f : Followed) (xs : List Stored) : Type 0 where
  calls : List EdgeCall
  is : f.pictures ≡ after_calls calls
  among : AreAmong (heard_in_calls calls) xs

new_traced : (sender : SenderMark) (xs : List Stored) → Traced (begun sender) xs
new_traced sender xs = record { calls = []; is = refl; among = λ x none. absurd none }

-- the edges of the right sender, after a check
record Ready (sender : SenderMark) (f : Followed) (xs : List Stored) : Type 0 where
  sender_is : f.sender ≡ sender
  traced : Traced f xs

same_sender : (sender : SenderMark) (f : Followed) → is_of_sender sender f ≡ true → f.sender ≡ sender
same_sender sender f is =
    let both = and_parts (eqb f.sender.ssrc sender.ssrc) (eqb f.sender.restarts sender.restarts) is in
    ap (λ (n : ℕ). record { ssrc = n; restarts = f.sender.restarts }) (eqb-true f.sender.ssrc sender.ssrc both.0)
    ∙ ap (λ (n : ℕ). record { ssrc = sender.ssrc; restarts = n }) (eqb-true f.sender.restarts sender.restarts both.1)

-- the edges of each sender that is followed are traced to its packets
abbrev Known : (SenderMark → List Stored) → Option Followed → Type 0
Known packets f = IfSome f (λ f. Traced f (packets f.sender))

ready : (sender : SenderMark) (n : ℕ) (packets : SenderMark → List Stored) (f : Option Followed) → Known packets f → Ready sender (of_sender_in sender (option_map (checked_for sender n) f)) (packets sender)
ready sender n packets None known = record { sender_is = refl; traced = new_traced sender (packets sender) }
ready sender n packets (Some f) known = by (is_of_sender sender f) refl
  where
    by : (same : Bool) → is_of_sender sender f ≡ same → Ready sender (of_sender_in sender (option_map (checked_for sender n) (Some f))) (packets sender)
    by true e = rw (e, e) (record {
      sender_is = same_sender sender f e;
      traced = record {
        calls = Checks n ∷ known.calls;
        is = ap (checked n) known.is;
        among = subst (λ (s : SenderMark). AreAmong (heard_in_calls known.calls) (packets s)) (same_sender sender f e) known.among;
      };
    })
    by false e = rw (e, e) (record { sender_is = refl; traced = new_traced sender (packets sender) })

checked_known : (sender : SenderMark) (n : ℕ) (packets : SenderMark → List Stored) (f : Option Followed) → Known packets f → Known packets (option_map (checked_for sender n) f)
checked_known sender n packets None known = tt
checked_known sender n packets (Some f) known = by (is_of_sender sender f) refl
  where
    by : (same : Bool) → is_of_sender sender f ≡ same → Known packets (Some (checked_for sender n f))
    by true e = rw e (record { calls = Checks n ∷ known.calls; is = ap (checked n) known.is; among = known.among })
    by false e = rw e known

-- more packets
more_known : (before after : SenderMark → List Stored) → ((s : SenderMark) → AreAmong (before s) (after s)) → (f : Option Followed) → Known before f → Known after f
more_known before after more None known = tt
more_known before after more (Some f) known = record { calls = known.calls; is = known.is; among = λ x is. more f.sender x (known.among x is) }

-- ---- one gap

settled_traced : (f : Followed) (xs : List Stored) (range : Between) (noted : Option ℕ) → Traced f xs → Traced (record f { pictures = settled range noted f.pictures }) xs
settled_traced f xs range None t = record { calls = Distrusts ∷ t.calls; is = ap distrusted t.is; among = t.among }
settled_traced f xs range (Some zero) t = record { calls = t.calls; is = t.is; among = t.among }
settled_traced f xs range (Some (suc more)) t = record { calls = Notes range ∷ t.calls; is = ap (with_noted range) t.is; among = t.among }

-- what a gap leaves
record Leaves (gap : Option Between) (f : Followed) (xs : List Stored) (r : Receiving) (g : Followed) (t : Receiving) : Type 0 where
  traced : Traced g xs
  sender_is : g.sender ≡ f.sender
  buffer : t.buffer ≡ r.buffer
  fresh : (n : ℕ) → is_in n t.no_media_numbers ≡ true → IfSome r.buffer.cutoff (λ c. c + 1 < 18446744073709551616)
      → (is_in n r.no_media_numbers ≡ true) ⊎ ((range : Between) × (gap ≡ Some range) × IsFresh (range.after + 1) range.before n r)

same_left : (gap : Option Between) (f : Followed) (xs : List Stored) (r : Receiving) (g : Followed) (t : Receiving) → Traced f xs → g ≡ f → t ≡ r → Leaves gap f xs r g t
same_left gap f xs r g t traced e1 e2 = record {
  traced = subst (λ (x : Followed). Traced x xs) (sym e1) traced;
  sender_is = ap (λ (x : Followed). x.sender) e1;
  buffer = ap (λ (x : Receiving). x.buffer) e2;
  fresh = λ n is next. inl (subst (λ (x : Receiving). is_in n x.no_media_numbers ≡ true) e2 is);
}

gap_leaves : (gap : Option Between) (f : Followed) (xs : List Stored) (r : Receiving) (answer : Result Unit AllocError) (g : Followed) (t : Receiving) → Traced f xs → NotesGap gap f r answer g t → Leaves gap f xs r g t
gap_leaves None f xs r answer g t traced notes = same_left None f xs r g t traced notes.1 notes.2
gap_leaves (Some range) f xs r (Err e) g t traced notes = same_left (Some range) f xs r g t traced notes.0 notes.1
gap_leaves (Some range) f xs r (Ok done) g t traced notes = record {
  traced = subst (λ (x : Followed). Traced x xs) (sym notes.2) (settled_traced f xs range notes.0 traced);
  sender_is = ap (λ (x : Followed). x.sender) notes.2;
  buffer = range_buffer (range.after + 1) range.before r notes.0 t notes.1;
  fresh = λ n is next. elim (in_range n (range.after + 1) range.before r notes.0 t next notes.1 is) [ inl old ↦ inl old | inr new ↦ inr (range, refl, new) ];
}

later_leaves : (gap : Option Between) (first : Result Unit AllocError) (f : Followed) (xs : List Stored) (r : Receiving) (answer : Result Unit AllocError) (g : Followed) (t : Receiving) → Traced f xs
    → NotesLater gap first f r answer g t → Leaves gap f xs r g t
later_leaves gap (Err e) f xs r answer g t traced notes = same_left gap f xs r g t traced notes.1 notes.2
later_leaves gap (Ok done) f xs r answer g t traced notes = by f.pictures.is_trusted refl
  where
    by : (trusted : Bool) → f.pictures.is_trusted ≡ trusted → Leaves gap f xs r g t
    by true e = gap_leaves gap f xs r answer g t traced (subst (λ (b : Bool). NotesGap (gap_if b gap) f r answer g t) e notes)
    by false e = let none : NotesGap None f r answer g t = subst (λ (b : Bool). NotesGap (gap_if b gap) f r answer g t) e notes in same_left gap f xs r g t traced none.1 none.2

-- ---- a packet is heard

more_between : (xs ys : List Stored) (range : Between) → AreAmong xs ys → IsBetween xs range → IsBetween ys range
more_between xs ys range more is = record {
  last = is.last;
  first = is.first;
  last_came = more (record { number = range.after; edge = is.last }) is.last_came;
  first_came = more (record { number = range.before; edge = is.first }) is.first_came;
  ends = is.ends;
  begins = is.begins;
  same_width = is.same_width;
  follows = is.follows;
  some = is.some;
  few = is.few;
}

-- ---- senders that send in order

of_among : (s : Sender) (xs : List Stored) (x : Stored) → AreOf s xs → IsAmong x xs → IsOf s x
of_among s [] x are none = absurd none
of_among s (y ∷ ys) x are is = elim is [ inl same ↦ subst (λ (z : Stored). IsOf s z) (sym same) are.0 | inr there ↦ of_among s ys x are.1 there ]

are_of_fewer : (s : Sender) (xs ys : List Stored) → AreOf s ys → AreAmong xs ys → AreOf s xs
are_of_fewer s [] ys are among = tt
are_of_fewer s (x ∷ xs) ys are among = (of_among s ys x are (among x (inl refl)), are_of_fewer s xs ys are (λ y is. among y (inr is)))

-- the range lies between two of the packets, and carries no media, if they are those of a sender that sends in order
record IsShown (xs : List Stored) (range : Between) : Type 0 where
  between : IsBetween xs range
  carries : (s : Sender) → SendsInOrder s → AreOf s xs → CarriesNone s range

more_shown : (xs ys : List Stored) (range : Between) → AreAmong xs ys → IsShown xs range → IsShown ys range
more_shown xs ys range more is = record { between = more_between xs ys range more is.between; carries = λ s order are. is.carries s order (are_of_fewer s xs ys are more) }

shown : (xs : List Stored) (gap : Option Between) → IfSome gap (IsBetween xs) → ((s : Sender) → SendsInOrder s → AreOf s xs → IfSome gap (CarriesNone s)) → IfSome gap (IsShown xs)
shown xs None is carries = tt
shown xs (Some range) is carries = record { between = is; carries = carries }

-- what is heard: the state is traced, and each number that is noted is of a range between two of the packets
record IsHeard (sender : SenderMark) (xs : List Stored) (r : Receiving) (g : Followed) (t : Receiving) : Type 0 where
  traced : Traced g xs
  sender_is : g.sender ≡ sender
  fresh : (n : ℕ) → is_in n t.no_media_numbers ≡ true → IfSome r.buffer.cutoff (λ c. c + 1 < 18446744073709551616)
      → (is_in n r.no_media_numbers ≡ true) ⊎ ((range : Between) × IsShown xs range × IsFresh (range.after + 1) range.before n r)

some_more : (xs ys : List Stored) (gap : Option Between) → AreAmong xs ys → IfSome gap (IsShown xs) → IfSome gap (IsShown ys)
some_more xs ys None more is = tt
some_more xs ys (Some range) more is = more_shown xs ys range more is

at_gap : (xs : List Stored) (gap : Option Between) (range : Between) → IfSome gap (IsShown xs) → gap ≡ Some range → IsShown xs range
at_gap xs gap range is same = subst (λ (o : Option Between). IfSome o (IsShown xs)) same is

moved : (first end n : ℕ) (r t : Receiving) → t.buffer ≡ r.buffer → IsFresh first end n t → IsFresh first end n r
moved first end n r t same fresh = record {
  above = fresh.above;
  below = fresh.below;
  unheld = subst (λ (b : State). has_number n b.held ≡ false) same fresh.unheld;
  unreleased = subst (λ (b : State). is_at_most b.cutoff n ≡ false) same fresh.unreleased;
}

module _ (between : AreBetweenPictures) (carry : CarryNoMedia) where
  is_heard : (sender : SenderMark) (x : Stored) (xs : List Stored) (base : Followed) → base.sender ≡ sender → Traced base xs
      → (r : Receiving) (answer : Result Unit AllocError) (g : Followed) (t : Receiving) → HearsEdge x.number x.edge base r answer g t → IsHeard sender (x ∷ xs) r g t
  is_heard sender x xs base base_is traced r answer g t h = record {
    traced = second.traced;
    sender_is = second.sender_is ∙ (first.sender_is ∙ base_is);
    fresh = fresh;
  }
    where
      came : List Stored
      came = heard_in_calls traced.calls

      gaps : Gaps
      gaps = (heard x.number x.edge base.pictures).1

      after : Followed
      after = record base { pictures = (heard x.number x.edge base.pictures).0 }

      more : AreAmong (x ∷ came) (x ∷ xs)
      more y is = elim is [ inl here ↦ inl here | inr there ↦ inr (traced.among y there) ]

      traced_after : Traced after (x ∷ xs)
      traced_after = record { calls = Hears x ∷ traced.calls; is = ap (λ (p : Pictures). (heard x.number x.edge p).0) traced.is; among = more }

      found : IfSome gaps.before (IsShown (x ∷ came)) × IfSome gaps.after (IsShown (x ∷ came))
      found = subst (λ (p : Pictures). IfSome ((heard x.number x.edge p).1).before (IsShown (x ∷ came)) × IfSome ((heard x.number x.edge p).1).after (IsShown (x ∷ came))) (sym traced.is) (
        shown (x ∷ came) ((heard x.number x.edge (after_calls traced.calls)).1).before (between traced.calls x).0 (λ s order are. (carry s traced.calls x order are).0),
        shown (x ∷ came) ((heard x.number x.edge (after_calls traced.calls)).1).after (between traced.calls x).1 (λ s order are. (carry s traced.calls x order are).1),
      )

      first : Leaves gaps.before after (x ∷ xs) r h.mid h.packets
      first = gap_leaves gaps.before after (x ∷ xs) r h.first h.mid h.packets traced_after h.before

      second : Leaves gaps.after h.mid (x ∷ xs) h.packets g t
      second = later_leaves gaps.after h.first h.mid (x ∷ xs) h.packets answer g t first.traced h.after

      fresh : (n : ℕ) → is_in n t.no_media_numbers ≡ true → IfSome r.buffer.cutoff (λ c. c + 1 < 18446744073709551616)
          → (is_in n r.no_media_numbers ≡ true) ⊎ ((range : Between) × IsShown (x ∷ xs) range × IsFresh (range.after + 1) range.before n r)
      fresh n is next =
          let next_mid : IfSome h.packets.buffer.cutoff (λ c. c + 1 < 18446744073709551616) = subst (λ (b : State). IfSome b.cutoff (λ c. c + 1 < 18446744073709551616)) (sym first.buffer) next in
          elim (second.fresh n is next_mid) [
            | inl old ↦ elim (first.fresh n old next) [
              | inl older ↦ inl older
              | inr new ↦ inr (new.0, at_gap (x ∷ xs) gaps.before new.0 (some_more (x ∷ came) (x ∷ xs) gaps.before more found.0) new.1, new.2)
            ]
            | inr new ↦ inr (new.0, at_gap (x ∷ xs) gaps.after new.0 (some_more (x ∷ came) (x ∷ xs) gaps.after more found.1) new.1, moved (new.0.after + 1) new.0.before n r h.packets first.buffer new.2)
          ]

-- ---- a step

abbrev packets_in : List Call → SenderMark → List Stored
packets_in calls sender = packets_of sender calls

with_more : (by : Bool) (x : Option Stored) (xs : List Stored) → AreAmong xs (with_packet by x xs)
with_more false x xs y is = is
with_more true None xs y is = is
with_more true (Some x) xs y is = inr is

step_more : (step : Step) (calls : List Call) (f : Option Followed) → Known (packets_in calls) f → Known (packets_in (Follow step ∷ calls)) f
step_more step calls f known =
    more_known (packets_in calls) (packets_in (Follow step ∷ calls)) (λ s. with_more (is_by s step) (stored_in s.ssrc step) (packets_of s calls)) f known

not_noted : (n : ℕ) (step : Step) → step.after.packets ≡ step.before.packets → IsNoted n step → ⊥
not_noted n step same noted = not_both (is_in n step.before.packets.no_media_numbers) (subst (λ (x : Receiving). is_in n x.no_media_numbers ≡ true) same noted.after) noted.before

-- what a number that a step notes is
record IsNew (n : ℕ) (step : Step) (calls : List Call) : Type 0 where
  ssrc : ℕ
  has_ssrc : step.before.ssrc ≡ Some ssrc
  range : Between
  shown : IsShown (packets_of (sender_in ssrc step.before) (Follow step ∷ calls)) range
  fresh : IsFresh (range.after + 1) range.before n step.before.packets

-- what a step leaves: what is known, and where the numbers that it notes lie
record IsSound (step : Step) (calls : List Call) (f : Option Followed) : Type 0 where
  known : Known (packets_in (Follow step ∷ calls)) f
  notes : HasNext step.before → (n : ℕ) → IsNoted n step → IsNew n step calls

nothing_noted : (step : Step) (calls : List Call) (f g : Option Followed) → Known (packets_in calls) f → g ≡ f → step.after.packets ≡ step.before.packets → IsSound step calls g
nothing_noted step calls f g known same packets = record {
  known = subst (λ (x : Option Followed). Known (packets_in (Follow step ∷ calls)) x) (sym same) (step_more step calls f known);
  notes = λ next n noted. absurd (not_noted n step packets noted);
}

same_number : (n : ℕ) → eqb n n ≡ true
same_number n = grind (arith, nat_tests)

-- the list with the packet of a step
packet_first : (step : Step) (calls : List Call) (ssrc : ℕ) (m : MediaPacket) (e : Edge) → step.before.ssrc ≡ Some ssrc → (can_say step.rules && is_stored step.received) ≡ true
    → brought_at step.rules ssrc step.bytes ≡ Some m → at_edge (edge_of step.rules m) ≡ Some e
    → packets_of (sender_in ssrc step.before) (Follow step ∷ calls) ≡ record { number = number_in step.before m.number; edge = e } ∷ packets_of (sender_in ssrc step.before) calls
packet_first step calls ssrc m e ssrc_is says brings edge_is =
    ap (λ (b : Bool). with_packet b (stored_in ssrc step) xs) by_it ∙ ap (λ (o : Option Stored). with_packet true o xs) stored
  where
    xs : List Stored
    xs = packets_of (sender_in ssrc step.before) calls

    by_it : is_by (sender_in ssrc step.before) step ≡ true
    by_it = rw (ssrc_is, same_number ssrc, same_number step.before.packets.counters.restarts) refl

    stored : stored_in ssrc step ≡ Some (record { number = number_in step.before m.number; edge = e })
    stored =
        ap (λ (b : Bool). stored_if b step.rules step.bytes ssrc step.before) says
        ∙ (ap (λ (o : Option MediaPacket). stored_by step.rules step.before o) brings ∙ ap (λ (o : Option Edge). stored_with (number_in step.before m.number) o) edge_is)

module _ (between : AreBetweenPictures) (carry : CarryNoMedia) (step : Step) (calls : List Call) where
  heard_step : (ssrc : ℕ) (m : MediaPacket) (e : Edge) (mid f : Option Followed) → Known (packets_in calls) mid → step.before.ssrc ≡ Some ssrc
      → (can_say step.rules && is_stored step.received) ≡ true → brought_at step.rules ssrc step.bytes ≡ Some m → at_edge (edge_of step.rules m) ≡ Some e
      → HearsFor (sender_in ssrc step.before) (number_in step.before m.number) e (option_map (checked_for (sender_in ssrc step.before) (number_in step.before m.number)) mid) step.before.packets step.answer f step.after.packets
      → IsSound step calls f
  heard_step ssrc m e mid None known ssrc_is says brings edge_is h = record { known = tt; notes = λ next n noted. absurd (not_noted n step h.1 noted) }
  heard_step ssrc m e mid (Some g) known ssrc_is says brings edge_is h = record {
    known = subst (λ (s : SenderMark). Traced g (packets_of s (Follow step ∷ calls))) (sym heard.sender_is) (subst (λ (ys : List Stored). Traced g ys) (sym list) heard.traced);
    notes = notes;
  }
    where
      sender : SenderMark
      sender = sender_in ssrc step.before

      x : Stored
      x = record { number = number_in step.before m.number; edge = e }

      xs : List Stored
      xs = packets_of sender calls

      list : packets_of sender (Follow step ∷ calls) ≡ x ∷ xs
      list = packet_first step calls ssrc m e ssrc_is says brings edge_is

      base : Ready sender (of_sender_in sender (option_map (checked_for sender x.number) mid)) xs
      base = ready sender x.number (packets_in calls) mid known

      heard : IsHeard sender (x ∷ xs) step.before.packets g step.after.packets
      heard = is_heard between carry sender x xs (of_sender_in sender (option_map (checked_for sender x.number) mid)) base.sender_is base.traced step.before.packets step.answer g step.after.packets h

      notes : HasNext step.before → (n : ℕ) → IsNoted n step → IsNew n step calls
      notes next n noted = elim (heard.fresh n noted.after next) [
        | inl old ↦ absurd (not_both (is_in n step.before.packets.no_media_numbers) old noted.before)
        | inr new ↦ record {
          ssrc = ssrc;
          has_ssrc = ssrc_is;
          range = new.0;
          shown = subst (λ (ys : List Stored). IsShown ys new.0) (sym list) new.1;
          fresh = new.2;
        }
      ]

  edge_step : (ssrc : ℕ) (m : MediaPacket) (stored : Bool) (edge : Option Edge) (mid f : Option Followed) → Known (packets_in calls) mid → step.before.ssrc ≡ Some ssrc
      → (stored ≡ true → (can_say step.rules && is_stored step.received) ≡ true) → brought_at step.rules ssrc step.bytes ≡ Some m → at_edge (edge_of step.rules m) ≡ edge
      → FollowsEdge (sender_in ssrc step.before) (number_in step.before m.number) (edge_if stored edge) (option_map (checked_for (sender_in ssrc step.before) (number_in step.before m.number)) mid) step.before.packets step.answer f step.after.packets
      → IsSound step calls f
  edge_step ssrc m false edge mid f known ssrc_is says brings edge_is h =
      nothing_noted step calls (option_map (checked_for (sender_in ssrc step.before) (number_in step.before m.number)) mid) f (checked_known (sender_in ssrc step.before) (number_in step.before m.number) (packets_in calls) mid known) h.1 h.2
  edge_step ssrc m true None mid f known ssrc_is says brings edge_is h =
      nothing_noted step calls (option_map (checked_for (sender_in ssrc step.before) (number_in step.before m.number)) mid) f (checked_known (sender_in ssrc step.before) (number_in step.before m.number) (packets_in calls) mid known) h.1 h.2
  edge_step ssrc m true (Some e) mid f known ssrc_is says brings edge_is h = heard_step ssrc m e mid f known ssrc_is (says refl) brings edge_is h

  packet_step : (ssrc : ℕ) (stored : Bool) (brought : Option MediaPacket) (mid f : Option Followed) → Known (packets_in calls) mid → step.before.ssrc ≡ Some ssrc
      → (stored ≡ true → (can_say step.rules && is_stored step.received) ≡ true) → brought_at step.rules ssrc step.bytes ≡ brought
      → FollowsPacket step.rules brought stored ssrc mid step.before step.answer f step.after.packets
      → IsSound step calls f
  packet_step ssrc stored None mid f known ssrc_is says brings h = nothing_noted step calls mid f known h.1 h.2
  packet_step ssrc stored (Some m) mid f known ssrc_is says brings h = edge_step ssrc m stored (at_edge (edge_of step.rules m)) mid f known ssrc_is says brings refl h

  ssrc_step : (stored : Bool) (ssrc : Option ℕ) (mid f : Option Followed) → Known (packets_in calls) mid → step.before.ssrc ≡ ssrc
      → (stored ≡ true → (can_say step.rules && is_stored step.received) ≡ true)
      → FollowsFor step.rules step.bytes stored ssrc mid step.before step.answer f step.after.packets
      → IsSound step calls f
  ssrc_step stored None mid f known ssrc_is says h = nothing_noted step calls mid f known h.1 h.2
  ssrc_step stored (Some ssrc) mid f known ssrc_is says h = packet_step ssrc stored (brought_at step.rules ssrc step.bytes) mid f known ssrc_is says refl h

  sound_step : (mid f : Option Followed) → Known (packets_in calls) mid → Follows step.rules step.bytes step.received mid step.before step.answer f step.after → IsSound step calls f
  sound_step mid f known h = by (can_say step.rules && has_come step.received) refl h
    where
      by : (follows : Bool) → (can_say step.rules && has_come step.received) ≡ follows → FollowsIf follows step.rules step.bytes (is_stored step.received) mid step.before step.answer f step.after → IsSound step calls f
      by false e h = nothing_noted step calls mid f known h.1 (ap (λ (s : Session). s.packets) h.2)
      by true e h =
          let says = and_parts (can_say step.rules) (has_come step.received) e in
          ssrc_step (is_stored step.received) step.before.ssrc mid f known refl (λ stored. rw (says.0, stored) refl) h

-- ---- runs

module _ (between : AreBetweenPictures) (carry : CarryNoMedia) where
  known_after : (calls : List Call) (f : Option Followed) → Reaches calls f → Known (packets_in calls) f
  known_after [] f is = subst (λ (x : Option Followed). Known (packets_in []) x) (sym is) tt
  known_after (Forget ∷ calls) f is = subst (λ (x : Option Followed). Known (packets_in (Forget ∷ calls)) x) (sym is) tt
  known_after (Follow step ∷ calls) f is = (sound_step between carry step calls is.0 f (known_after calls is.0 is.1) is.2).known

  new_in : (calls : List Call) (step : Step) (f : Option Followed) → Reaches (Follow step ∷ calls) f → HasNext step.before → (n : ℕ) → IsNoted n step → IsNew n step calls
  new_in calls step f is next n noted = (sound_step between carry step calls is.0 f (known_after calls is.0 is.1) is.2).notes next n noted

  pub note_between_pictures : NoteBetweenPictures
  note_between_pictures calls step f is next n noted =
      let new = new_in calls step f is next n noted in
      let above : new.range.after < n = omega (arith, new.fresh.above) in
      record {
        ssrc = new.ssrc;
        known = new.has_ssrc;
        between = record { range = new.range; is = new.shown.between; above = above; below = new.fresh.below };
        unstored = record { unheld = new.fresh.unheld; unreleased = new.fresh.unreleased };
      }

  pub note_no_media : NoteNoMedia
  note_no_media calls step f is next s order are n noted =
      let new = new_in calls step f is next n noted in
      let above : new.range.after < n = omega (arith, new.fresh.above) in
      new.shown.carries s order (are new.ssrc new.has_ssrc) n above new.fresh.below
