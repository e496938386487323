-- What a port hands out of a stream was sent.
use Rattle.std.proofs.Common.{◌≡◌, ℕ, zero, suc, ◌+◌, ◌<◌, ◌≤◌, Bool, true, false, cond, eqb, nat_lt, List, [], ◌∷◌, ◌++◌, length, Option, Some, None, Result, Ok, Err, refl, sym, ap, subst, ◌∙◌, arith}
use Rattle.std.specs.Prelude.{IfSome, is_some}
use Rattle.std.specs.List.{position, remove}
use Rattle.std.proofs.lemmas.Bool.{eqb-true}
use Rattle.codec_payload_rtp.specs.RtpPackets.{Packet, is_rtcp}
use Rattle.codec_payload_rtp.specs.RtpReading.{rtp_at}
use Rattle.codec_payload_rtp.specs.declared.rtp.RtpError.{RtpError}
use Rattle.codec_payload_fec.specs.Fec.{Fec}
use Rattle.codec_payload_fec.specs.FecReading.{fec_at}
use Rattle.codec_payload_fec.specs.Rebuilding.{to_list}
use Rattle.codec_payload_fec.specs.declared.packet.FecFault.{FecFault}
use Rattle.codec_payload_fec_receiver.specs.Contents.{Content, Nothing, Media, content_of, in_red, of_stream}
use Rattle.codec_payload_fec_receiver.specs.Contents.{Fec as FecIn}
use Rattle.codec_payload_fec_receiver.specs.Runs.{IsFecIf, IsNear, IsSender, raised}
use Rattle.codec_payload_fec_receiver.specs.Runs.{IsOfSender as IsOfOne, WereSent as WereSentOne}
use Rattle.codec_payload_fec_receiver.specs.States.{State, after_tries, forgotten, new_state, next_of, received}
use Rattle.codec_payload_fec_receiver.specs.declared.content.FecSettings.{FecSettings}
use Rattle.codec_payload_fec_receiver.proofs.SoundLemmas.{Stands, after_stands, next_sent, next_stands, none_found, none_new, nothing_stands, received_stands, settings_stand}
use Rattle.codec_payload_fec_port.specs.Plain.{kind_at, kind_in, kind_of, read_packet}
use Rattle.codec_payload_fec_port.specs.Ports.{Held, Port, added, began, began_in, begins, changed, cleared_of, ended, fetched, fetched_if, fetched_latest, fetched_of, found, handed, new_port, port_ended, port_received, port_restarted, rebuilt_if, rebuilt_of, received_as, taken_in, took_if, took_kind, took_known, tried, tried_latest, with_waiting, without_waiting, is_waiting}
use Rattle.codec_payload_fec_port.specs.Runs.{AreOfSender, IsClose, IsOfSender, IsSentFec, PortCall, PortHandsOutWhatWasSent, WereSent, content_at, handed_of, handed_out}
use Rattle.codec_payload_fec_port.specs.Runs.PortCall.{Ends, LacksAfter, LacksBefore, Receives, Restarts, Takes}
use Rattle.codec_payload_fec_port.specs.Settings.{fec_settings}
use Rattle.codec_payload_fec_port.specs.Streams.{begun, fed, is_of, may_go, rebuilt_in, restarted, tried_in}
use Rattle.codec_payload_fec_port.specs.declared.fec_stream.FecStream.{FecStream}
use Rattle.codec_payload_fec_port.specs.declared.plain.Kind.{Kind}
use Rattle.codec_payload_fec_port.specs.declared.plain.Kind.TheVariants as kinds
use Rattle.codec_payload_fec_port.specs.declared.port_settings.FecPortSettings.{FecPortSettings}

same : (n : ℕ) → eqb n n ≡ true
same n = grind (arith)

-- ---- numbers

-- the highest number that a receiver saw is close to the highest one of the stream
abbrev Below : Option ℕ → Option ℕ → Type 0
Below None top = Unit {0}
Below (Some own) None = ⊥
Below (Some own) (Some top) = (own ≤ top) × (top < own + 8192)

abbrev Early : Option ℕ → Type 0
Early top = IfSome top (λ n. 73728 ≤ n)

is_near : (own before : Option ℕ) (n : ℕ) → Early before → Below own before → IsClose before n → IsNear own n
is_near None None n early below close = omega (arith, close)
is_near None (Some top) n early below close = omega (arith, early, close)
is_near (Some own) None n early below close = absurd below
is_near (Some own) (Some top) n early below close = (omega (arith, below, close), omega (arith, below, close))

is_below : (own before : Option ℕ) (n : ℕ) → Below own before → IsClose before n → Below (raised own n) (raised before n)
is_below None None n below close = (omega arith, omega arith)
is_below None (Some top) n below close = (omega arith, omega (arith, close))
is_below (Some own) None n below close = absurd below
is_below (Some own) (Some top) n below close = (omega (arith, below), omega (arith, below, close))

is_early : (before : Option ℕ) (n : ℕ) → Early before → IsClose before n → Early (raised before n)
is_early None n early close = close
is_early (Some top) n early close = omega (arith, early)

module _ (x : ℕ) (sent : ℕ → Option (List ℕ)) (settings : FecPortSettings) where
  -- ---- a receiver

  -- what the receiver of the stream holds was sent
  record Good (top : Option ℕ) (s : State) : Type 0 where
    own : Option ℕ
    below : Below own top
    stands : Stands sent (fec_settings settings x) own s

  -- a datagram, for a receiver that saw less
  record Steps (c : Content) (own after : Option ℕ) : Type 0 where
    own' : Option ℕ
    is : IsOfOne (fec_settings settings x) sent c own own'
    below : Below own' after

  fec_steps : (bytes : List ℕ) (r : Result Fec FecFault) (own before after : Option ℕ) → fec_at bytes ≡ r → Early before → Below own before → IsSentFec sent r before after → Steps (FecIn bytes) own after
  fec_steps bytes (Err fault) own before after e early below is =
      let As : Result Fec FecFault → Type 0 = λ r. IsFecIf sent r own own in
      record { own' = own; is = subst As (sym e) refl; below = let B : Option ℕ → Type 0 = Below own in subst B (sym is) below }
  fec_steps bytes (Ok f) own before after e early below is =
      let As : Result Fec FecFault → Type 0 = λ r. IsFecIf sent r own (raised own is.number) in
      record {
        own' = raised own is.number;
        is = subst As (sym e) (record { number = is.number; near = is_near own before is.number early below is.close; is_made = is.is; raises = refl });
        below = let B : Option ℕ → Type 0 = Below (raised own is.number) in subst B (sym is.raises) (is_below own before is.number below is.close);
      }

  steps : (c : Content) (own before after : Option ℕ) → Early before → Below own before → IsOfSender settings.late_ids sent c before after → Steps c own after
  steps Nothing own before after early below is = record { own' = own; is = refl; below = let B : Option ℕ → Type 0 = Below own in subst B (sym is) below }
  steps (Media p) own before after early below is = record {
    own' = raised own is.number;
    is = record { number = is.number; near = is_near own before is.number early below is.close; numbered = is.is.0; was_sent = is.is.1; raises = refl };
    below = let B : Option ℕ → Type 0 = Below (raised own is.number) in subst B (sym is.raises) (is_below own before is.number below is.close);
  }
  steps (FecIn bytes) own before after early below is = fec_steps bytes (fec_at bytes) own before after refl early below is

  fec_early : (r : Result Fec FecFault) (before after : Option ℕ) → Early before → IsSentFec sent r before after → Early after
  fec_early (Err fault) before after early is = subst Early (sym is) early
  fec_early (Ok f) before after early is = subst Early (sym is.raises) (is_early before is.number early is.close)

  early_after : (c : Content) (before after : Option ℕ) → Early before → IsOfSender settings.late_ids sent c before after → Early after
  early_after Nothing before after early is = subst Early (sym is) early
  early_after (Media p) before after early is = subst Early (sym is.raises) (is_early before is.number early is.close)
  early_after (FecIn bytes) before after early is = fec_early (fec_at bytes) before after early is

  -- a datagram is taken
  received_good : (c : Content) (datagram : List ℕ) (before after : Option ℕ) (s : State) → c ≡ content_of (fec_settings settings x) (rtp_at datagram) → Early before → IsOfSender settings.late_ids sent c before after
      → Good before s → Good after (received datagram s)
  received_good c datagram before after s e early is h =
      let m = steps c h.own before after early h.below is in
      let As : Content → Type 0 = λ c. IsOfOne (fec_settings settings x) sent c h.own m.own' in
      record { own = m.own'; below = m.below; stands = received_stands sent (fec_settings settings x) datagram h.own m.own' s (subst As e m.is) h.stands }

  new_good : (top : Option ℕ) → Good top (new_state (fec_settings settings x))
  new_good top = record { own = None; below = tt; stands = nothing_stands sent (new_state (fec_settings settings x)) (record { none_kept = none_new; no_fecs = refl; is_number = tt }) }

  forgotten_good : (top : Option ℕ) (s : State) → Good top s → Good top (forgotten s)
  forgotten_good top s h =
      let At : FecSettings → Type 0 = λ ss. Stands sent ss None (forgotten s) in
      record { own = None; below = tt; stands = subst At (settings_stand sent (fec_settings settings x) h.own s h.stands) (nothing_stands sent (forgotten s) (record { none_kept = none_found; no_fecs = refl; is_number = tt })) }

  next_good : (top : Option ℕ) (s : State) → IsSender x sent → Good top s → Good top (next_of s).state
  next_good top s is h = record { own = h.own; below = h.below; stands = next_stands sent (fec_settings settings x) h.own s is h.stands }

  tried_good : (top : Option ℕ) (s : State) → Good top s → Good top (after_tries s)
  tried_good top s h = record { own = h.own; below = h.below; stands = after_stands sent (fec_settings settings x) h.own s h.stands }

  -- ---- streams

  abbrev Split : Bool → Type 0 → Type 0 → Type 0
  Split true A B = A
  Split false A B = B

  -- the stream x is good, and there is no second one
  abbrev GoodAll : Option ℕ → List FecStream → Type 0
  GoodAll top [] = Unit {0}
  GoodAll top (t ∷ ts) = Split (is_of x t) (Good top t.receiver × (found x ts ≡ None)) (GoodAll top ts)

  absent_at : (b : Bool) (top : Option ℕ) (t : FecStream) (ts : List FecStream) → cond b (Some t) (found x ts) ≡ None → (found x ts ≡ None → GoodAll top ts) → Split b (Good top t.receiver × (found x ts ≡ None)) (GoodAll top ts)
  absent_at true top t ts e later = absurd cc
  absent_at false top t ts e later = later e

  -- without the stream all is good
  absent_good : (top : Option ℕ) (ts : List FecStream) → found x ts ≡ None → GoodAll top ts
  absent_good top [] e = tt
  absent_good top (t ∷ ts) e = absent_at (is_of x t) top t ts e (absent_good top ts)

  found_at : (b : Bool) (top : Option ℕ) (t : FecStream) (ts : List FecStream) → Split b (Good top t.receiver × (found x ts ≡ None)) (GoodAll top ts) → (GoodAll top ts → IfSome (found x ts) (λ u. Good top u.receiver))
      → IfSome (cond b (Some t) (found x ts)) (λ (u : FecStream). Good top u.receiver)
  found_at true top t ts h later = h.0
  found_at false top t ts h later = later h

  found_good : (top : Option ℕ) (ts : List FecStream) → GoodAll top ts → IfSome (found x ts) (λ (t : FecStream). Good top t.receiver)
  found_good top [] h = tt
  found_good top (t ∷ ts) h = found_at (is_of x t) top t ts h (found_good top ts)

  -- ---- a stream is changed

  module _ (y : ℕ) (f : FecStream → FecStream) (keeps : (t : FecStream) → (f t).ssrc ≡ t.ssrc) where
    same_of : (t : FecStream) → is_of x (f t) ≡ is_of x t
    same_of t = ap (λ (n : ℕ). eqb n x) (keeps t)

    still_absent_at : (b c : Bool) (t : FecStream) (ts : List FecStream) → is_of x t ≡ b → cond b (Some t) (found x ts) ≡ None → (found x ts ≡ None → found x (changed y f ts) ≡ None)
        → found x (cond c (f t ∷ ts) (t ∷ changed y f ts)) ≡ None
    still_absent_at true c t ts is e later = absurd cc
    still_absent_at false true t ts is e later = ap (λ (b : Bool). cond b (Some (f t)) (found x ts)) (same_of t ∙ is) ∙ e
    still_absent_at false false t ts is e later = ap (λ (b : Bool). cond b (Some t) (found x (changed y f ts))) is ∙ later e

    still_absent : (ts : List FecStream) → found x ts ≡ None → found x (changed y f ts) ≡ None
    still_absent [] e = refl
    still_absent (t ∷ ts) e = still_absent_at (is_of x t) (is_of y t) t ts refl e (still_absent ts)

    module _ (before after : Option ℕ) (step : (t : FecStream) → is_of x t ≡ true → is_of y t ≡ true → Good before t.receiver → Good after (f t).receiver)
        (stay : (t : FecStream) → is_of x t ≡ true → is_of y t ≡ false → Good before t.receiver → Good after t.receiver) where
      split_is : (b c : Bool) (A B : Type 0) → c ≡ b → Split b A B → Split c A B
      split_is b c A B e h = let P : Bool → Type 0 = λ d. Split d A B in subst P (sym e) h

      changed_at : (b c : Bool) (t : FecStream) (ts : List FecStream) → is_of x t ≡ b → is_of y t ≡ c → Split b (Good before t.receiver × (found x ts ≡ None)) (GoodAll before ts)
          → (GoodAll before ts → GoodAll after (changed y f ts)) → (b ≡ false → c ≡ true → GoodAll before ts → GoodAll after ts) → GoodAll after (cond c (f t ∷ ts) (t ∷ changed y f ts))
      changed_at true true t ts is of h later same = split_is true (is_of x (f t)) (Good after (f t).receiver × (found x ts ≡ None)) (GoodAll after ts) (same_of t ∙ is) (step t is of h.0, h.1)
      changed_at true false t ts is of h later same = split_is true (is_of x t) (Good after t.receiver × (found x (changed y f ts) ≡ None)) (GoodAll after (changed y f ts)) is (stay t is of h.0, still_absent ts h.1)
      changed_at false true t ts is of h later same = split_is false (is_of x (f t)) (Good after (f t).receiver × (found x ts ≡ None)) (GoodAll after ts) (same_of t ∙ is) (same refl refl h)
      changed_at false false t ts is of h later same = split_is false (is_of x t) (Good after t.receiver × (found x (changed y f ts) ≡ None)) (GoodAll after (changed y f ts)) is (later h)

      changed_good : ((t : FecStream) (ts : List FecStream) → is_of x t ≡ false → is_of y t ≡ true → GoodAll before ts → GoodAll after ts) → (ts : List FecStream) → GoodAll before ts → GoodAll after (changed y f ts)
      changed_good same [] h = tt
      changed_good same (t ∷ ts) h = changed_at (is_of x t) (is_of y t) t ts refl refl h (changed_good same ts) (λ is of hs. same t ts is of hs)

  -- the stream with another SSRC is another one
  both : (y : ℕ) (t : FecStream) → is_of x t ≡ true → is_of y t ≡ true → y ≡ x
  both y t is of = sym (eqb-true t.ssrc y of) ∙ eqb-true t.ssrc x is

  -- another stream is changed, or the stream x without a packet of its own
  kept_good : (y : ℕ) (f : FecStream → FecStream) (top : Option ℕ) → ((t : FecStream) → (f t).ssrc ≡ t.ssrc) → ((t : FecStream) → Good top t.receiver → Good top (f t).receiver) → (ts : List FecStream) → GoodAll top ts
      → GoodAll top (changed y f ts)
  kept_good y f top keeps step ts h = changed_good y f keeps top top (λ t is of g. step t g) (λ t is of g. g) (λ t ts is of hs. hs) ts h

  other_good : (y : ℕ) (f : FecStream → FecStream) (top : Option ℕ) → ((t : FecStream) → (f t).ssrc ≡ t.ssrc) → eqb y x ≡ false → (ts : List FecStream) → GoodAll top ts → GoodAll top (changed y f ts)
  other_good y f top keeps other ts h =
      changed_good y f keeps top top (λ t is of g. let same : y ≡ x = both y t is of in absurd (grind (arith, same, other))) (λ t is of g. g) (λ t ts is of hs. hs) ts h

  -- the stream x takes a packet
  own_good : (f : FecStream → FecStream) (before after : Option ℕ) → ((t : FecStream) → (f t).ssrc ≡ t.ssrc) → ((t : FecStream) → Good before t.receiver → Good after (f t).receiver) → (ts : List FecStream) → GoodAll before ts
      → GoodAll after (changed x f ts)
  own_good f before after keeps step ts h = changed_good x f keeps before after (λ t is of g. step t g) (λ t is of g. absurd (clash t is of)) (λ t ts is of hs. absurd (clash t of is)) ts h
    where
      clash : (t : FecStream) → is_of x t ≡ true → is_of x t ≡ false → ⊥
      clash t is of = grind (arith, is, of)

  -- ---- a stream leaves

  removed_absent : (ts : List FecStream) (i : ℕ) → found x ts ≡ None → found x (remove ts i) ≡ None
  removed_absent [] zero e = refl
  removed_absent [] (suc i) e = refl
  removed_absent (t ∷ ts) zero e = by (is_of x t) e
    where
      by : (b : Bool) → cond b (Some t) (found x ts) ≡ None → found x ts ≡ None
      by true e = absurd cc
      by false e = e
  removed_absent (t ∷ ts) (suc i) e = by (is_of x t) e (removed_absent ts i)
    where
      by : (b : Bool) → cond b (Some t) (found x ts) ≡ None → (found x ts ≡ None → found x (remove ts i) ≡ None) → cond b (Some t) (found x (remove ts i)) ≡ None
      by true e later = absurd cc
      by false e later = later e

  removed_at : (b : Bool) (top : Option ℕ) (t : FecStream) (ts : List FecStream) → Split b (Good top t.receiver × (found x ts ≡ None)) (GoodAll top ts) → GoodAll top ts
  removed_at true top t ts h = absent_good top ts h.1
  removed_at false top t ts h = h

  removed_good : (top : Option ℕ) (ts : List FecStream) (i : ℕ) → GoodAll top ts → GoodAll top (remove ts i)
  removed_good top [] zero h = tt
  removed_good top [] (suc i) h = tt
  removed_good top (t ∷ ts) zero h = removed_at (is_of x t) top t ts h
  removed_good top (t ∷ ts) (suc i) h = by (is_of x t) h (removed_good top ts i)
    where
      by : (b : Bool) → Split b (Good top t.receiver × (found x ts ≡ None)) (GoodAll top ts) → (GoodAll top ts → GoodAll top (remove ts i)) → Split b (Good top t.receiver × (found x (remove ts i) ≡ None)) (GoodAll top (remove ts i))
      by true h later = (h.0, removed_absent ts i h.1)
      by false h later = later h

  ended_absent : (y : ℕ) (ts : List FecStream) → found x ts ≡ None → found x (ended y ts) ≡ None
  ended_absent y [] e = refl
  ended_absent y (t ∷ ts) e = by (is_of x t) (is_of y t) refl e (ended_absent y ts)
    where
      by : (b c : Bool) → is_of x t ≡ b → cond b (Some t) (found x ts) ≡ None → (found x ts ≡ None → found x (ended y ts) ≡ None) → found x (cond c ts (t ∷ ended y ts)) ≡ None
      by true c is e later = absurd cc
      by false true is e later = e
      by false false is e later = ap (λ (b : Bool). cond b (Some t) (found x (ended y ts))) is ∙ later e

  ended_good : (top : Option ℕ) (y : ℕ) (ts : List FecStream) → GoodAll top ts → GoodAll top (ended y ts)
  ended_good top y [] h = tt
  ended_good top y (t ∷ ts) h = by (is_of x t) (is_of y t) refl h (ended_good top y ts)
    where
      at : (b : Bool) → is_of x t ≡ b → Split b (Good top t.receiver × (found x (ended y ts) ≡ None)) (GoodAll top (ended y ts)) → GoodAll top (t ∷ ended y ts)
      at b is g = let P : Bool → Type 0 = λ d. Split d (Good top t.receiver × (found x (ended y ts) ≡ None)) (GoodAll top (ended y ts)) in subst P (sym is) g

      by : (b c : Bool) → is_of x t ≡ b → Split b (Good top t.receiver × (found x ts ≡ None)) (GoodAll top ts) → (GoodAll top ts → GoodAll top (ended y ts)) → GoodAll top (cond c ts (t ∷ ended y ts))
      by true true is h later = removed_at true top t ts h
      by false true is h later = removed_at false top t ts h
      by true false is h later = at true is (h.0, ended_absent y ts h.1)
      by false false is h later = at false is (later h)

  -- ---- a stream begins

  one_absent : (n : FecStream) → is_of x n ≡ false → found x (n ∷ []) ≡ None
  one_absent n is = ap (λ (b : Bool). cond b (Some n) None) is

  added_absent : (n : FecStream) (ts : List FecStream) → is_of x n ≡ false → found x ts ≡ None → found x (ts ++ n ∷ []) ≡ None
  added_absent n [] is e = one_absent n is
  added_absent n (t ∷ ts) is e = by (is_of x t) e (added_absent n ts is)
    where
      by : (b : Bool) → cond b (Some t) (found x ts) ≡ None → (found x ts ≡ None → found x (ts ++ n ∷ []) ≡ None) → cond b (Some t) (found x (ts ++ n ∷ [])) ≡ None
      by true e later = absurd cc
      by false e later = later e

  added_good : (top : Option ℕ) (n : FecStream) (ts : List FecStream) → is_of x n ≡ false → GoodAll top ts → GoodAll top (ts ++ n ∷ [])
  added_good top n [] is h = absent_good top (n ∷ []) (one_absent n is)
  added_good top n (t ∷ ts) is h = by (is_of x t) h (added_good top n ts is)
    where
      by : (b : Bool) → Split b (Good top t.receiver × (found x ts ≡ None)) (GoodAll top ts) → (GoodAll top ts → GoodAll top (ts ++ n ∷ [])) → Split b (Good top t.receiver × (found x (ts ++ n ∷ []) ≡ None)) (GoodAll top (ts ++ n ∷ []))
      by true h later = (h.0, added_absent n ts is h.1)
      by false h later = later h

  begun_good : (top : Option ℕ) (n : FecStream) (ts : List FecStream) → is_of x n ≡ true → Good top n.receiver → found x ts ≡ None → GoodAll top (ts ++ n ∷ [])
  begun_good top n [] is g e = let P : Bool → Type 0 = λ d. Split d (Good top n.receiver × (found x [] ≡ None)) (Unit {0}) in subst P (sym is) (g, refl)
  begun_good top n (t ∷ ts) is g e = by (is_of x t) e (begun_good top n ts is g)
    where
      by : (b : Bool) → cond b (Some t) (found x ts) ≡ None → (found x ts ≡ None → GoodAll top (ts ++ n ∷ [])) → Split b (Good top t.receiver × (found x (ts ++ n ∷ []) ≡ None)) (GoodAll top (ts ++ n ∷ []))
      by true e later = absurd cc
      by false e later = later e

  -- ---- the port

  abbrev IsSent : List ℕ → Type 0
  IsSent p = (n : ℕ) × (sent n ≡ Some p)

  record Sound (top : Option ℕ) (s : Port) : Type 0 where
    same : s.settings ≡ settings
    early : Early top
    streams : GoodAll top s.streams
    waiting : IfSome s.waiting (λ h. h.ssrc ≡ x → IsSent h.packet)

  -- the stream x takes a packet
  took_own : (kind : Kind) (c : Content) (datagram : List ℕ) (before after : Option ℕ) (s : Port) → c ≡ content_of (fec_settings settings x) (rtp_at datagram) → IsOfSender settings.late_ids sent c before after → Sound before s
      → Sound after (took_known kind x datagram s)
  took_own kind c datagram before after s e is h = record {
    same = h.same;
    early = early_after c before after h.early is;
    streams = own_good (fed kind s.taken datagram) before after (λ t. refl) (λ t g. received_good c datagram before after t.receiver e h.early is g) s.streams h.streams;
    waiting = h.waiting;
  }

  took_other : (y : ℕ) (kind : Kind) (datagram : List ℕ) (top : Option ℕ) (s : Port) → eqb y x ≡ false → Sound top s → Sound top (took_known kind y datagram s)
  took_other y kind datagram top s other h = record { same = h.same; early = h.early; streams = other_good y (fed kind s.taken datagram) top (λ t. refl) other s.streams h.streams; waiting = h.waiting }

  -- the stream x begins
  added_own : (kind : Kind) (c : Content) (datagram : List ℕ) (before after : Option ℕ) (ts : List FecStream) (s : Port) → c ≡ content_of (fec_settings settings x) (rtp_at datagram) → IsOfSender settings.late_ids sent c before after
      → found x ts ≡ None → Sound before s → Sound after (added kind x datagram ts s)
  added_own kind c datagram before after ts s e is none h =
      let n : FecStream = fed kind s.taken datagram (begun s.settings x) in
      let P : FecPortSettings → Type 0 = λ ss. Good after (received datagram (new_state (fec_settings ss x))) in
      let g : P s.settings = subst P (sym h.same) (received_good c datagram before after (new_state (fec_settings settings x)) e h.early is (new_good before)) in
      record { same = h.same; early = early_after c before after h.early is; streams = begun_good after n ts (same x) g none; waiting = h.waiting }

  added_other : (y : ℕ) (kind : Kind) (datagram : List ℕ) (top : Option ℕ) (ts : List FecStream) (s : Port) → eqb y x ≡ false → GoodAll top ts → Sound top s → Sound top (added kind y datagram ts s)
  added_other y kind datagram top ts s other g h = record { same = h.same; early = h.early; streams = added_good top (fed kind s.taken datagram (begun s.settings y)) ts other g; waiting = h.waiting }

  -- it has no place
  unplaced : (c : Content) (before after : Option ℕ) (s : Port) → IsOfSender settings.late_ids sent c before after → found x s.streams ≡ None → Sound before s → Sound after s
  unplaced c before after s is none h = record { same = h.same; early = early_after c before after h.early is; streams = absent_good after s.streams none; waiting = h.waiting }

  began_own : (kind : Kind) (c : Content) (datagram : List ℕ) (before after : Option ℕ) (s : Port) → c ≡ content_of (fec_settings settings x) (rtp_at datagram) → IsOfSender settings.late_ids sent c before after
      → found x s.streams ≡ None → Sound before s → Sound after (began kind x datagram s)
  began_own kind c datagram before after s e is none h = by (nat_lt (length s.streams) s.settings.max_streams)
    where
      in_place : (o : Option ℕ) → Sound after (began_in o kind x datagram s)
      in_place None = unplaced c before after s is none h
      in_place (Some place) = added_own kind c datagram before after (remove s.streams place) s e is (removed_absent s.streams place none) h

      by : (b : Bool) → Sound after (cond b (added kind x datagram s.streams s) (began_in (position (may_go s.taken) s.streams) kind x datagram s))
      by true = added_own kind c datagram before after s.streams s e is none h
      by false = in_place (position (may_go s.taken) s.streams)

  began_other : (y : ℕ) (kind : Kind) (datagram : List ℕ) (top : Option ℕ) (s : Port) → eqb y x ≡ false → Sound top s → Sound top (began kind y datagram s)
  began_other y kind datagram top s other h = by (nat_lt (length s.streams) s.settings.max_streams)
    where
      in_place : (o : Option ℕ) → Sound top (began_in o kind y datagram s)
      in_place None = h
      in_place (Some place) = added_other y kind datagram top (remove s.streams place) s other (removed_good top s.streams place h.streams) h

      by : (b : Bool) → Sound top (cond b (added kind y datagram s.streams s) (began_in (position (may_go s.taken) s.streams) kind y datagram s))
      by true = added_other y kind datagram top s.streams s other h.streams h
      by false = in_place (position (may_go s.taken) s.streams)

  -- ---- a datagram

  took_is : (kind : Kind) (c : Content) (p : Packet) (datagram : List ℕ) (before after : Option ℕ) (s : Port) → p.header.ssrc ≡ x → c ≡ content_of (fec_settings settings x) (rtp_at datagram)
      → IsOfSender settings.late_ids sent c before after → Sound before s → Sound after (took_kind kind p datagram s)
  took_is kind c p datagram before after s own e is h = let P : ℕ → Type 0 = λ y. Sound after (by_ssrc y) in subst P (sym own) (by_known (found x s.streams) refl)
    where
      by_ssrc : ℕ → Port
      by_ssrc y = cond (is_some (found y s.streams)) (took_known kind y datagram s) (cond (begins s.settings p.header.payload_type) (began kind y datagram s) s)

      by_begins : (b : Bool) → found x s.streams ≡ None → Sound after (cond b (began kind x datagram s) s)
      by_begins true none = began_own kind c datagram before after s e is none h
      by_begins false none = unplaced c before after s is none h

      by_known : (o : Option FecStream) → found x s.streams ≡ o → Sound after (cond (is_some o) (took_known kind x datagram s) (cond (begins s.settings p.header.payload_type) (began kind x datagram s) s))
      by_known None none = by_begins (begins s.settings p.header.payload_type) none
      by_known (Some t) known = took_own kind c datagram before after s e is h

  took_not : (kind : Kind) (p : Packet) (datagram : List ℕ) (top : Option ℕ) (s : Port) → eqb p.header.ssrc x ≡ false → Sound top s → Sound top (took_kind kind p datagram s)
  took_not kind p datagram top s other h = by_known (is_some (found p.header.ssrc s.streams))
    where
      by_begins : (b : Bool) → Sound top (cond b (began kind p.header.ssrc datagram s) s)
      by_begins true = began_other p.header.ssrc kind datagram top s other h
      by_begins false = h

      by_known : (b : Bool) → Sound top (cond b (took_known kind p.header.ssrc datagram s) (cond (begins s.settings p.header.payload_type) (began kind p.header.ssrc datagram s) s))
      by_known true = took_other p.header.ssrc kind datagram top s other h
      by_known false = by_begins (begins s.settings p.header.payload_type)

  took_if_not : (kind : Kind) (p : Packet) (datagram : List ℕ) (top : Option ℕ) (s : Port) → eqb p.header.ssrc x ≡ false → Sound top s → Sound top (took_if kind p datagram s)
  took_if_not kinds.Neither p datagram top s other h = h
  took_if_not kinds.Media p datagram top s other h = took_not kinds.Media p datagram top s other h
  took_if_not kinds.Fec p datagram top s other h = took_not kinds.Fec p datagram top s other h

  -- a packet that is neither media nor FEC is nothing for a receiver
  neither_block : (h : Packet) (payload : List ℕ) → kind_in settings payload ≡ kinds.Neither → in_red (fec_settings settings x) h payload ≡ Nothing
  neither_block h [] e = refl
  neither_block h (kind ∷ contents) e = by (nat_lt 127 kind) (eqb kind settings.red_type) (eqb kind settings.fec_type) e
    where
      by : (a b c : Bool) → kind_at settings (cond a None (cond b None (Some (kind, contents)))) ≡ kinds.Neither
          → cond a Nothing (cond b Nothing (cond c (FecIn contents) (Media (record { header = record h.header { payload_type = kind }; payload = contents; padding = 0 })))) ≡ Nothing
      by true b c e = refl
      by false true c e = refl
      by false false c e = absurd (block_kind (eqb kind settings.fec_type) e)
        where
          block_kind : (d : Bool) → cond d kinds.Fec kinds.Media ≡ kinds.Neither → ⊥
          block_kind true e = cc
          block_kind false e = cc

  neither_is : (p : Packet) → kind_of settings p ≡ kinds.Neither → of_stream (fec_settings settings x) p ≡ Nothing
  neither_is p e = by (eqb p.header.payload_type settings.red_type) (eqb p.header.payload_type settings.fec_type) e
    where
      by : (a b : Bool) → cond a (kind_in settings p.payload) (cond b kinds.Fec kinds.Media) ≡ kinds.Neither
          → cond a (in_red (fec_settings settings x) p p.payload) (cond b (FecIn p.payload) (Media p)) ≡ Nothing
      by true b e = neither_block p p.payload e
      by false true e = absurd (no_kind e)
        where
          no_kind : kinds.Fec ≡ kinds.Neither → ⊥
          no_kind e = cc
      by false false e = absurd (no_kind e)
        where
          no_kind : kinds.Media ≡ kinds.Neither → ⊥
          no_kind e = cc

  nothing_same : (c : Content) (before after : Option ℕ) → c ≡ Nothing → IsOfSender settings.late_ids sent c before after → after ≡ before
  nothing_same c before after e is = let P : Content → Type 0 = λ c. IsOfSender settings.late_ids sent c before after in subst P e is

  stays : (before after : Option ℕ) (s : Port) → after ≡ before → Sound before s → Sound after s
  stays before after s e h = let P : Option ℕ → Type 0 = λ o. Sound o s in subst P (sym e) h

  took_if_own : (kind : Kind) (p : Packet) (datagram : List ℕ) (before after : Option ℕ) (s : Port) → kind_of settings p ≡ kind → p.header.ssrc ≡ x → of_stream (fec_settings settings x) p ≡ content_of (fec_settings settings x) (rtp_at datagram)
      → IsOfSender settings.late_ids sent (of_stream (fec_settings settings x) p) before after → Sound before s → Sound after (took_if kind p datagram s)
  took_if_own kinds.Neither p datagram before after s k own e is h = stays before after s (nothing_same (of_stream (fec_settings settings x) p) before after (neither_is p k) is) h
  took_if_own kinds.Media p datagram before after s k own e is h = took_is kinds.Media (of_stream (fec_settings settings x) p) p datagram before after s own e is h
  took_if_own kinds.Fec p datagram before after s k own e is h = took_is kinds.Fec (of_stream (fec_settings settings x) p) p datagram before after s own e is h

  taken_sound : (p : Packet) (datagram : List ℕ) (before after : Option ℕ) (s : Port) → rtp_at datagram ≡ Ok p → IsOfSender settings.late_ids sent (content_of (fec_settings settings x) (Ok p)) before after → Sound before s
      → Sound after (taken_in p datagram s)
  taken_sound p datagram before after s read is h =
      let P : FecPortSettings → Type 0 = λ ss. Sound after (took_if (kind_of ss p) p datagram s) in
      subst P (sym h.same) (by (eqb p.header.ssrc x) refl is)
    where
      by : (b : Bool) → eqb p.header.ssrc x ≡ b → IsOfSender settings.late_ids sent (cond b (of_stream (fec_settings settings x) p) Nothing) before after → Sound after (took_if (kind_of settings p) p datagram s)
      by true own is =
          let own_is : of_stream (fec_settings settings x) p ≡ content_of (fec_settings settings x) (Ok p) = ap (λ (b : Bool). cond b (of_stream (fec_settings settings x) p) Nothing) (sym own) in
          took_if_own (kind_of settings p) p datagram before after s refl (eqb-true p.header.ssrc x own) (own_is ∙ ap (content_of (fec_settings settings x)) (sym read)) is h
      by false other is = stays before after (took_if (kind_of settings p) p datagram s) is (took_if_not (kind_of settings p) p datagram before s other h)

  -- a datagram is received
  port_received_sound : (datagram : List ℕ) (before after : Option ℕ) (s : Port) → IsOfSender settings.late_ids sent (content_at x settings datagram) before after → Sound before s → Sound after (port_received datagram s)
  port_received_sound datagram before after s is h = by (is_rtcp datagram) is
    where
      by_read : (r : Result Packet RtpError) → rtp_at datagram ≡ r → IsOfSender settings.late_ids sent (content_of (fec_settings settings x) r) before after → Sound after (received_as (read_packet r) datagram s)
      by_read (Err fault) read is = stays before after s is h
      by_read (Ok p) read is = taken_sound p datagram before after s read is h

      by : (b : Bool) → IsOfSender settings.late_ids sent (cond b Nothing (content_of (fec_settings settings x) (rtp_at datagram))) before after → Sound after (received_as (cond b None (read_packet (rtp_at datagram))) datagram s)
      by true is = stays before after s is h
      by false is = by_read (rtp_at datagram) refl is

  -- ---- the next packet

  module _ (is_sender : IsSender x sent) where
    one_sent : (o : Option (List ℕ)) → WereSentOne sent (to_list o) → IfSome o IsSent
    one_sent None h = tt
    one_sent (Some p) h = h.0

    rebuilt_sent : (top : Option ℕ) (o : Option FecStream) → IfSome o (λ (t : FecStream). Good top t.receiver) → IfSome (rebuilt_if o) IsSent
    rebuilt_sent top None h = tt
    rebuilt_sent top (Some t) h = one_sent (next_of t.receiver).packet (next_sent sent (fec_settings settings x) h.own t.receiver is_sender h.stands)

    waiting_sound : (y : ℕ) (top : Option ℕ) (o : Option (List ℕ)) (s : Port) → (y ≡ x → IfSome o IsSent) → Sound top s → Sound top (with_waiting y o s)
    waiting_sound y top None s sent_if h = h
    waiting_sound y top (Some p) s sent_if h = record { same = h.same; early = h.early; streams = h.streams; waiting = sent_if }

    fetched_of_sound : (y : ℕ) (top : Option ℕ) (s : Port) → Sound top s → Sound top (fetched_of y s)
    fetched_of_sound y top s h =
        let P : ℕ → Type 0 = λ z. IfSome (rebuilt_of z s.streams) IsSent in
        let sent_if : y ≡ x → P y = λ same. subst P (sym same) (rebuilt_sent top (found x s.streams) (found_good top s.streams h.streams)) in
        waiting_sound y top (rebuilt_of y s.streams) (record s { streams = changed y (λ t. (rebuilt_in t).1) s.streams }) sent_if
        (record { same = h.same; early = h.early; streams = kept_good y (λ t. (rebuilt_in t).1) top (λ t. refl) (λ t g. next_good top t.receiver is_sender g) s.streams h.streams; waiting = h.waiting })

    fetched_sound : (top : Option ℕ) (s : Port) → Sound top s → Sound top (fetched s)
    fetched_sound top s h = by s.waiting
      where
        by_latest : (o : Option ℕ) → Sound top (fetched_latest o s)
        by_latest None = h
        by_latest (Some y) = fetched_of_sound y top s h

        by : (o : Option Held) → Sound top (fetched_if o s)
        by None = by_latest s.latest
        by (Some w) = h

    tried_sound : (top : Option ℕ) (s : Port) → Sound top s → Sound top (tried s)
    tried_sound top s h = by s.latest
      where
        by : (o : Option ℕ) → Sound top (tried_latest o s)
        by None = h
        by (Some y) = record { same = h.same; early = h.early; streams = kept_good y tried_in top (λ t. refl) (λ t g. tried_good top t.receiver g) s.streams h.streams; waiting = h.waiting }

    handed_sound : (top : Option ℕ) (s : Port) → Sound top s → Sound top (handed s)
    handed_sound top s h = let f = fetched_sound top s h in record { same = f.same; early = f.early; streams = f.streams; waiting = tt }

    handed_sent : (ss : FecPortSettings) (o : Option Held) → ss ≡ settings → IfSome o (λ h. h.ssrc ≡ x → IsSent h.packet) → WereSent settings.late_ids sent (handed_of x ss o)
    handed_sent ss None e h = tt
    handed_sent ss (Some w) e h = by (eqb w.ssrc x) refl
      where
        by : (b : Bool) → eqb w.ssrc x ≡ b → WereSent settings.late_ids sent (cond b (cleared_of ss w ∷ []) [])
        by true own = let was = h (eqb-true w.ssrc x own) in ((was.0, w.packet, was.1, ap (λ (t : FecPortSettings). cleared_of t w) e), tt)
        by false other = tt

    -- ---- restarts, and ends

    without_sound : (y : ℕ) (top : Option ℕ) (s : Port) → Sound top s → Sound top (without_waiting y s)
    without_sound y top s h = by (is_waiting y s.waiting)
      where
        by : (b : Bool) → Sound top (cond b (record s { waiting = None }) s)
        by true = record { same = h.same; early = h.early; streams = h.streams; waiting = tt }
        by false = h

    restarted_sound : (y : ℕ) (top : Option ℕ) (s : Port) → Sound top s → Sound top (port_restarted y s)
    restarted_sound y top s h =
        without_sound y top (record s { streams = changed y restarted s.streams })
        (record { same = h.same; early = h.early; streams = kept_good y restarted top (λ t. refl) (λ t g. forgotten_good top t.receiver g) s.streams h.streams; waiting = h.waiting })

    ended_sound : (y : ℕ) (top : Option ℕ) (s : Port) → Sound top s → Sound top (port_ended y s)
    ended_sound y top s h = without_sound y top (record s { streams = ended y s.streams }) (record { same = h.same; early = h.early; streams = ended_good top y s.streams h.streams; waiting = h.waiting })

    -- ---- all calls

    sent_append : (ps qs : List (List ℕ)) → WereSent settings.late_ids sent ps → WereSent settings.late_ids sent qs → WereSent settings.late_ids sent (ps ++ qs)
    sent_append [] qs h h' = h'
    sent_append (p ∷ ps) qs h h' = (h.0, sent_append ps qs h.1 h')

    all_sent : (top : Option ℕ) (calls : List PortCall) (s : Port) → Sound top s → AreOfSender x settings sent top calls → WereSent settings.late_ids sent (handed_out x calls s)
    all_sent top [] s h are = tt
    all_sent top (Receives datagram ∷ calls) s h are = all_sent are.0 calls (port_received datagram s) (port_received_sound datagram top are.0 s are.1 h) are.2
    all_sent top (Takes ∷ calls) s h are =
        let f = fetched_sound top s h in
        sent_append (handed_of x s.settings (fetched s).waiting) (handed_out x calls (handed s)) (handed_sent s.settings (fetched s).waiting h.same f.waiting) (all_sent top calls (handed s) (handed_sound top s h) are)
    all_sent top (LacksBefore ∷ calls) s h are = all_sent top calls (tried s) (tried_sound top s h) are
    all_sent top (LacksAfter ∷ calls) s h are = all_sent top calls (fetched s) (fetched_sound top s h) are
    all_sent top (Restarts y ∷ calls) s h are = all_sent top calls (port_restarted y s) (restarted_sound y top s h) are
    all_sent top (Ends y ∷ calls) s h are = all_sent top calls (port_ended y s) (ended_sound y top s h) are

pub port_hands_out_what_was_sent : PortHandsOutWhatWasSent
port_hands_out_what_was_sent x sent settings calls is are = all_sent x sent settings is None calls (new_port settings) (record { same = refl; early = tt; streams = tt; waiting = tt }) are
