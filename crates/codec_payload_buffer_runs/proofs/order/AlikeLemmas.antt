-- Two runs that push the same packets before each pop are answered the same.
use Rattle.std.proofs.Common.{◌≡◌, ◌∙◌, refl, sym, ap, ℕ, subst, List, [], Some, None, Ok, Err, Bool, ◌∷◌, ◌||◌, arith, map}
use Rattle.std.specs.Prelude.{slice_get, filter}
use Rattle.codec_payload_buffer_runs.proofs.units.BuiltInRuns.{IsOfCodec, passed_stays}
use Rattle.codec_payload_buffer_runs.proofs.order.BareLemmas.{strip, bare, bare_state, due_bare, bare_releases, releases_same, bare_passes, passes_same, one_way, bare_has}
use Rattle.codec_payload_buffer.proofs.PopLemmas.{above_rises}
use Rattle.codec_payload_buffer_runs.proofs.order.SafetyLemmas.{number_of_sent}
use Rattle.codec_payload_buffer_runs.proofs.order.TurnLemmas.{Setting, IsPush, ArePushes, count, IsSpan, IsPop, waits, releases, Chain, IsReady, span_left, span_ready, ready_pops, left_ready}
use Rattle.codec_payload_buffer_runs.proofs.units.UnitRows.{IsFaithful, held_as}
use Rattle.codec_payload_codec.specs.Depacketizers.{is_codec, head_in, tail_in}
use Rattle.codec_payload_buffer.specs.Held.{Held, number_of, has_number, Rises, AllAbove}
use Rattle.codec_payload_buffer_runs.specs.Log.{Stretch, Turn}
use Rattle.codec_payload_payloader.specs.Packets.{Packet}
use Rattle.codec_payload_metadata.specs.Release.{Release}
use Rattle.codec_payload_buffer_runs.specs.RunOrder.{numbers_in, release_with, answer_with, PushTheSame}
use Rattle.codec_payload_buffer_runs.specs.Schedule.{Answer}
use Rattle.codec_payload_buffer_runs.specs.SentStream.{packets_of}
use Rattle.codec_payload_buffer.specs.Steps.{State, Releases, Passes, PassesOver, none, one_more, due_of}
use Rattle.codec_payload_buffer.specs.Stretches.{counts, numbers_from, last_or, is_some_of, left_out, kept}
use Rattle.codec_payload_buffer.specs.declared.buffer.frames.CompleteFrame.{CompleteFrame}
use Rattle.codec_payload_metadata.specs.declared.meta.RtpMeta.{RtpMeta}

filter_same : (p q : ℕ → Bool) (xs : List ℕ) → ((n : ℕ) → p n ≡ q n) → filter p xs ≡ filter q xs
filter_same p q [] same = refl
filter_same p q (x ∷ xs) same = rw (same x, filter_same p q xs same) refl

packet_same : (p q : Packet) → Some p ≡ Some q → p ≡ q
packet_same p q e = cc

complete_frame_same : (f : CompleteFrame) → None ≡ Some f → ⊥
complete_frame_same f e = cc

-- the steps of a pop, frame after frame
data Goes : State → Answer → State → Type 0 where
  stays : {s : State} → due_of s ≡ None → Goes s None s
  gives : {s t : State} {r : Release} → Releases s r t → Goes s (Some (Ok r)) t
  over : {s m t : State} {a : Answer} → PassesOver s m → Goes m a t → Goes s a t

goes_after : (s m t : State) (passed : List CompleteFrame) (a : Answer) → Passes s passed m → Goes m a t → Goes s a t
goes_after s m t passed a none g = g
goes_after s u t passed a (one_more {t = m} passes p) g = goes_after s m t _ a passes (over p g)

passed_rises : (s t : State) → Rises s.held → PassesOver s t → Rises t.held
passed_rises s t r p = subst (λ (x : State). Rises x.held) (sym p.left) (above_rises p.frame.last s.held r)

module _ (plain : Bool) where
  -- two states with the same fields
  states_same : (s u : State) → map (bare plain) s.held ≡ map (bare plain) u.held → s.cutoff ≡ u.cutoff → s.evicted ≡ u.evicted → s.contiguity ≡ u.contiguity
      → s.depacketizer ≡ u.depacketizer → s.hold_back ≡ u.hold_back → s.limit ≡ u.limit → bare_state plain s ≡ bare_state plain u
  states_same s u held cutoff mark contiguity depacketizer hold_back limit = rw (held, cutoff, mark, contiguity, depacketizer, hold_back, limit) refl

  due_same : (s u : State) → bare_state plain s ≡ bare_state plain u → due_of s ≡ due_of u
  due_same s u e = sym (due_bare plain s) ∙ ap due_of e ∙ due_bare plain u

  bare_rises : (hs : List Held) → Rises hs → Rises (map (bare plain) hs)
  bare_rises [] r = tt
  bare_rises (p ∷ ps) r = (higher ps r.0, bare_rises ps r.1)
    where
      higher : (qs : List Held) → AllAbove (number_of p) qs → AllAbove (number_of p) (map (bare plain) qs)
      higher [] a = tt
      higher (q ∷ qs) a = (a.0, higher qs a.1)

  -- and two states equal except for the receive times give equal results in this way
  goes_same : (s u t v : State) (a b : Answer) → IsOfCodec s → IsOfCodec u → Rises s.held → Rises u.held → bare_state plain s ≡ bare_state plain u → Goes s a t
      → Goes u b v → (answer_with (strip plain) a ≡ answer_with (strip plain) b) × (bare_state plain t ≡ bare_state plain v)
  goes_same s u t v a b of_s of_u rise_s rise_u e (stays x) (stays y) = (refl, e)
  goes_same s u t v a b of_s of_u rise_s rise_u e (stays x) (gives y) = absurd (complete_frame_same y.frame (sym x ∙ due_same s u e ∙ y.is_due))
  goes_same s u t v a b of_s of_u rise_s rise_u e (stays x) (over p g) = absurd (complete_frame_same p.frame (sym x ∙ due_same s u e ∙ p.is_due))
  goes_same s u t v a b of_s of_u rise_s rise_u e (gives x) (stays y) = absurd (complete_frame_same x.frame (sym y ∙ sym (due_same s u e) ∙ x.is_due))
  goes_same s u t v a b of_s of_u rise_s rise_u e (over p g) (stays y) = absurd (complete_frame_same p.frame (sym y ∙ sym (due_same s u e) ∙ p.is_due))
  goes_same s u t v a b of_s of_u rise_s rise_u e (gives {r = r} x) (gives {r = o} y) =
      let left : Releases (bare_state plain u) (release_with (strip plain) r) (bare_state plain t) = subst
      (λ (z : State). Releases z (release_with (strip plain) r) (bare_state plain t)) e (bare_releases plain s t r x) in
      let same = releases_same (bare_state plain u) (bare_state plain t) (bare_state plain v) (release_with (strip plain) r) (release_with (strip plain) o) of_u
      (bare_rises u.held rise_u) left (bare_releases plain u v o y) in
      (ap (λ (z : Release). Some (Ok z)) same.0, same.1)
  goes_same s u t v a b of_s of_u rise_s rise_u e (gives {r = r} x) (over {m = m} p g) =
      let left : Releases (bare_state plain u) (release_with (strip plain) r) (bare_state plain t) = subst
      (λ (z : State). Releases z (release_with (strip plain) r) (bare_state plain t)) e (bare_releases plain s t r x) in
      absurd (one_way (bare_state plain u) (bare_state plain t) (bare_state plain m) (release_with (strip plain) r) of_u left (bare_passes plain u m p))
  goes_same s u t v a b of_s of_u rise_s rise_u e (over {m = m} p g) (gives {r = o} y) =
      let right : Releases (bare_state plain s) (release_with (strip plain) o) (bare_state plain v) = subst
      (λ (z : State). Releases z (release_with (strip plain) o) (bare_state plain v)) (sym e) (bare_releases plain u v o y) in
      absurd (one_way (bare_state plain s) (bare_state plain v) (bare_state plain m) (release_with (strip plain) o) of_s right (bare_passes plain s m p))
  goes_same s u t v a b of_s of_u rise_s rise_u e (over {m = m} p g) (over {m = n} q h) =
      let left : PassesOver (bare_state plain u) (bare_state plain m) = subst (λ (z : State). PassesOver z (bare_state plain m)) e (bare_passes plain s m p) in
      goes_same m n t v a b (passed_stays s m p ∙ of_s) (passed_stays u n q ∙ of_u) (passed_rises s m rise_s p) (passed_rises u n rise_u q)
      (passes_same (bare_state plain u) (bare_state plain m) (bare_state plain n) of_u left (bare_passes plain u n q)) g h

goes_of : (c : Setting) (s t : State) (passed : List CompleteFrame) (a : Answer) → IsPop c s t passed a → Goes s a t
goes_of c s t passed None (waits passes nothing) = goes_after s t t passed None passes (stays nothing)
goes_of c s t passed (Some (Ok r)) (releases mid passes out) = goes_after s mid t passed (Some (Ok r)) passes (gives out)
goes_of c s t passed (Some (Err fault)) pop = elim pop [ ]

-- all else that is known of a push follows from the packet
abbrev pub TellsAs : Bool → (ℕ → Packet → RtpMeta → Type 0) → (Packet → RtpMeta) → Type 0
TellsAs plain known told_as = (k : ℕ) (q : Packet) (m : RtpMeta) → known k q m → strip plain m ≡ told_as q

module _ (plain : Bool) (c : Setting) (known : ℕ → Packet → RtpMeta → Type 0) (faithful : IsFaithful known c.clock_rate c.kind) (told_as : Packet → RtpMeta)
    (told : TellsAs plain c.known told_as) (told_too : TellsAs plain known told_as) where
  -- the same packets, pushed by others
  abbrev other : Setting
  other = record c { known = known; faithful = faithful }

  abbrev held_with : RtpMeta → Bool → Packet → Held
  held_with m tail q = record { meta = m; bytes = q.payload; head = head_in c.kind q.payload; tail = tail }

  bare_as : (by : ℕ → Packet → RtpMeta → Type 0) → IsFaithful by c.clock_rate c.kind → TellsAs plain by told_as → (p : Held) (k : ℕ) (q : Packet) → by k q p.meta → p ≡ held_as c.kind p.meta q.payload
      → bare plain p ≡ held_with (told_as q) (tail_in c.kind q.marker q.payload) q
  bare_as by is_faithful tells p k q push is =
      ap (bare plain) is ∙ (ap (λ (m : RtpMeta). held_with m (tail_in c.kind p.meta.header.marker q.payload) q) (tells k q p.meta push)
      ∙ ap (λ (b : Bool). held_with (told_as q) b q) (is_faithful.tail k q p.meta push))

  bare_one : (p q : Held) → IsPush c p → IsPush other q → number_of p ≡ number_of q → bare plain p ≡ bare plain q
  bare_one p q i j e =
      let k : i.0 ≡ j.0 = omega (
        arith,
        e,
        number_of_sent c.known c.clock_rate c.first c.kind c.faithful c.splits c.units c.lawful c.numbered p i,
        number_of_sent other.known c.clock_rate c.first c.kind other.faithful c.splits c.units c.lawful c.numbered q j,
      ) in
      let at : slice_get (packets_of c.units) j.0 ≡ Some i.1 = subst (λ (n : ℕ). slice_get (packets_of c.units) n ≡ Some i.1) k i.2 in
      let x : i.1 ≡ j.1 = packet_same i.1 j.1 (sym at ∙ j.2) in
      bare_as c.known c.faithful told p i.0 i.1 i.3 i.4 ∙ ap (λ (z : Packet). held_with (told_as z) (tail_in c.kind z.marker z.payload) z) x ∙ sym (bare_as known faithful told_too q j.0 j.1 j.3 j.4)

  same_bare : (g h : List Held) → ArePushes c g → ArePushes other h → map number_of g ≡ map number_of h → map (bare plain) g ≡ map (bare plain) h
  same_bare [] [] a b e = refl
  same_bare [] (q ∷ qs) a b e = absurd (cc)
  same_bare (p ∷ ps) [] a b e = absurd (cc)
  same_bare (p ∷ ps) (q ∷ qs) a b e =
      let here : number_of p ≡ number_of q = cc in
      let rest : map number_of ps ≡ map number_of qs = cc in
      ap (λ (z : Held). z ∷ map (bare plain) ps) (bare_one p q a.0 b.0 here) ∙ ap (λ (zs : List Held). bare plain q ∷ zs) (same_bare ps qs a.1 b.1 rest)

  abbrev PushSame : Stretch → Stretch → Type 0
  PushSame w v = (n : ℕ) → has_number n w.pushes ≡ has_number n v.pushes

  span_same : (from to : ℕ) (w v : Stretch) → IsReady c from w.left → IsReady other to v.left → IsSpan c w → IsSpan other v
      → bare_state plain w.left ≡ bare_state plain v.left → PushSame w v → bare_state plain w.now ≡ bare_state plain v.now
  span_same from to w v ready_w ready_v is_w is_v e pushes =
      let all = numbers_in c.first (count c) w in
      let many = numbers_in c.first (count c) v in
      let left = span_left c from w ready_w is_w in
      let right = span_left other to v ready_v is_v in
      let cutoff : w.left.cutoff ≡ v.left.cutoff = ap (λ (s : State). s.cutoff) e in
      let mark : w.left.evicted ≡ v.left.evicted = ap (λ (s : State). s.evicted) e in
      let limit : w.left.limit ≡ v.left.limit = ap (λ (s : State). s.limit) e in
      let has : (n : ℕ) → has_number n w.left.held ≡ has_number n v.left.held = λ n. sym (bare_has plain n w.left.held) ∙ ap (λ (s : State). has_number n s.held) e ∙ bare_has plain n v.left.held in
      let numbers : all ≡ many = filter_same (counts w.left w.pushes) (counts v.left v.pushes) (numbers_from c.first (count c)) (λ n. rw (has n, cutoff, pushes n) refl) in
      let kept_same : kept w.left all ≡ kept v.left many = rw (numbers, limit) refl in
      let out_same : left_out w.left all ≡ left_out v.left many = rw (numbers, limit) refl in
      let held = same_bare w.now.held v.now.held (span_ready c from w ready_w is_w).beyond.sent (span_ready other to v ready_v is_v).beyond.sent (left.held ∙ kept_same ∙ sym right.held) in
      states_same plain w.now v.now held
      (left.cutoff ∙ ap (λ (ns : List ℕ). last_or ns w.left.cutoff) out_same ∙ ap (last_or (left_out v.left many)) cutoff ∙ sym right.cutoff)
      (left.evicted ∙ ap (λ (ns : List ℕ). is_some_of ns || w.left.evicted) out_same ∙ ap (λ b. is_some_of (left_out v.left many) || b) mark ∙ sym right.evicted)
      (left.contiguity ∙ ap (λ (s : State). s.contiguity) e ∙ sym right.contiguity)
      (left.depacketizer ∙ ap (λ (s : State). s.depacketizer) e ∙ sym right.depacketizer)
      (left.hold_back ∙ ap (λ (s : State). s.hold_back) e ∙ sym right.hold_back)
      (left.limit ∙ limit ∙ sym right.limit)

  abbrev bare_answers : List Turn → List Answer
  bare_answers turns = map (answer_with (strip plain)) (map (λ (turn : Turn). turn.answer) turns)

  pub chains_same : (from to : ℕ) (s u : State) (turns more : List Turn) (end rest : Stretch) → IsReady c from s → IsReady other to u → bare_state plain s ≡ bare_state plain u
      → Chain c s turns end → Chain other u more rest → PushTheSame turns more → bare_answers turns ≡ bare_answers more
  chains_same from to s u [] [] end rest ready_s ready_u e chain_s chain_u same = refl
  chains_same from to s u [] (w ∷ more) end rest ready_s ready_u e chain_s chain_u same = absurd same
  chains_same from to s u (t ∷ turns) [] end rest ready_s ready_u e chain_s chain_u same = absurd same
  chains_same from to s u (t ∷ turns) (w ∷ more) end rest ready_s ready_u e chain_s chain_u same =
      let left = left_ready c from s t.stretch chain_s.0 ready_s in
      let right = left_ready other to u w.stretch chain_u.0 ready_u in
      let begin : bare_state plain t.stretch.left ≡ bare_state plain w.stretch.left = ap (bare_state plain) chain_s.0 ∙ e ∙ sym (ap (bare_state plain) chain_u.0) in
      let now = span_same from to t.stretch w.stretch left right chain_s.1 chain_u.1 begin same.0 in
      let ready_t = span_ready c from t.stretch left chain_s.1 in
      let ready_w = span_ready other to w.stretch right chain_u.1 in
      let step = goes_same plain t.stretch.now w.stretch.now t.after w.after t.answer w.answer (ap is_codec ready_t.beyond.reads ∙ c.codec)
      (ap is_codec ready_w.beyond.reads ∙ c.codec) ready_t.beyond.rises ready_w.beyond.rises now (goes_of c t.stretch.now t.after t.passed t.answer chain_s.2)
      (goes_of other w.stretch.now w.after w.passed w.answer chain_u.2) in
      let next_t = ready_pops c from t.stretch.now t.after t.passed t.answer ready_t chain_s.2 in
      let next_w = ready_pops other to w.stretch.now w.after w.passed w.answer ready_w chain_u.2 in
      let later = chains_same next_t.0 next_w.0 t.after w.after turns more end rest next_t.1 next_w.1 step.1 chain_s.3 chain_u.3 same.1 in
      ap (λ (z : Answer). z ∷ bare_answers turns) step.0 ∙ ap (λ (zs : List Answer). answer_with (strip plain) w.answer ∷ zs) later
