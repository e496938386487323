-- What a receiver holds was sent.
use Rattle.std.proofs.Common.{◌≡◌, ℕ, zero, suc, ◌+◌, ◌-◌, ◌%◌, ◌<◌, ◌≤◌, Bool, true, false, cond, eqb, leb, ltb, max, List, [], ◌∷◌, ◌++◌, get_or, length, map, replicate, set, Option, Some, None, Result, Ok, Err, refl, sym, ap, subst, ◌∙◌, inl, inr, arith}
use Rattle.std.specs.Prelude.{IfSome}
use Rattle.std.specs.List.{remove}
use Rattle.std.proofs.lemmas.Bool.{eqb-true, ltb-true}
use Rattle.codec_payload_rtp.specs.RtpPackets.{Packet}
use Rattle.codec_payload_rtp.specs.RtpReading.{rtp_at}
use Rattle.codec_payload_fec.specs.Fec.{Fec}
use Rattle.codec_payload_fec.specs.FecReading.{fec_at}
use Rattle.codec_payload_fec.specs.Protecting.{AllCameOrLost, AreOfStream, CameOrLost, IsAmong, IsOfStream}
use Rattle.codec_payload_fec.specs.Rebuilding.{found_in, matching, rebuilt, to_list}
use Rattle.codec_payload_fec.specs.Stores.{Store, kept, no_slots}
use Rattle.codec_payload_fec.specs.Strings.{number_of}
use Rattle.codec_payload_fec.specs.declared.packet.FecFault.{FecFault}
use Rattle.codec_payload_fec.proofs.ProtectLemmas.{rebuilds_packets}
use Rattle.codec_payload_fec_receiver.specs.Contents.{Content, Nothing, Media, content_of}
use Rattle.codec_payload_fec_receiver.specs.Contents.{Fec as FecIn}
use Rattle.codec_payload_fec_receiver.specs.Late.{plain_bytes}
use Rattle.codec_payload_fec_receiver.specs.Runs.{AreOfSender, Call, HandedOutWasSent, HoldsNothing, IsFecIf, IsMadeFrom, IsMedia, IsNear, IsOfSender, IsSender, WasSentNear, WereSent, WereSentNear, handed_out, raised}
use Rattle.codec_payload_fec_receiver.specs.Runs.Call.{Passes, Takes, Lacks}
use Rattle.codec_payload_fec_receiver.specs.States.{OpenFec, State, after_tries, emptied, entered, fec_at_place, first_due, handed_at, handed_if, is_within, judged, latest, marked, next_of, rebuilt_by, received, stale, took, took_fec, tried, tried_at, verdict_on, waiting, with_fec, with_packet, with_small, without}
use Rattle.codec_payload_fec_receiver.specs.declared.content.FecSettings.{FecSettings}
use Rattle.codec_payload_fec_receiver.specs.declared.fec_receiver.Verdict.{Verdict}
use Rattle.codec_payload_fec_receiver.specs.declared.fec_receiver.Verdict.TheVariants as verdicts

-- ---- places

in_set : (P : Option (List ℕ) → Type 0) (xs : List (Option (List ℕ))) (k m : ℕ) (p : List ℕ) → P (get_or xs m None) → P (Some p) → P (get_or (set xs k (Some p)) m None)
in_set P [] k m p h hp = h
in_set P (x ∷ xs) zero zero p h hp = hp
in_set P (x ∷ xs) zero (suc m) p h hp = h
in_set P (x ∷ xs) (suc k) zero p h hp = h
in_set P (x ∷ xs) (suc k) (suc m) p h hp = in_set P xs k m p h hp

none_at : (m k : ℕ) → get_or {A = Option (List ℕ)} (replicate m None) k None ≡ None
none_at zero k = refl
none_at (suc m) zero = refl
none_at (suc m) (suc k) = none_at m k

pub none_found : (n : ℕ) → found_in no_slots n ≡ None
unfolding no_slots
none_found n = ap (matching n) (none_at 512 (n % 512))

pub none_new : (n : ℕ) → found_in (replicate 512 None) n ≡ None
none_new n = ap (matching n) (none_at 512 (n % 512))

matched_if : (n : ℕ) (p r : List ℕ) (b : Bool) → eqb (number_of p) n ≡ b → cond b (Some p) None ≡ Some r → number_of r ≡ n
matched_if n p r true same e = let is : p ≡ r = cc in ap number_of (sym is) ∙ eqb-true (number_of p) n same
matched_if n p r false same e = absurd cc

matched : (n : ℕ) (o : Option (List ℕ)) (r : List ℕ) → matching n o ≡ Some r → number_of r ≡ n
matched n None r e = absurd cc
matched n (Some p) r e = matched_if n p r (eqb (number_of p) n) refl e

-- ---- numbers

same_index : (a i j r : ℕ) → i % 65536 ≡ r → j % 65536 ≡ r → a ≤ i + 8192 → i < a + 40960 → a ≤ j + 8192 → j < a + 40960 → i ≡ j
same_index a i j r hi hj li ui lj uj = omega (arith, hi, hj, li, ui, lj, uj)

within_is : (a n h : ℕ) → a ≤ h → h < a + 32768 → n < h + 16384 → h < n + 16384 → (n % 65536 + 65536 - a % 65536) % 65536 < 32768 → (a ≤ n) × (n < a + 32768)
within_is a n h low high near near' is = (omega (arith, low, high, near, near', is), omega (arith, low, high, near, near', is))

beyond_is : (n : ℕ) → 65536 ≤ n + 16384 → (n % 65536 + 49152) % 65536 ≡ (n - 16384) % 65536
beyond_is n early = omega (arith, early)

start_is : (n first : ℕ) → first < 65536 → 65536 ≤ n → first ≡ (n - (n % 65536 + 65536 - first) % 65536) % 65536
start_is n first small early = omega (arith, small, early)

-- ---- the window stays

verdict_first : (n place : ℕ) (s : State) (v : Verdict) → ((t : State) → (tried n t).state.first ≡ t.first) → (judged (tried n) place s v).state.first ≡ s.first
verdict_first n place s verdicts.Ready later = refl
verdict_first n place s verdicts.Waits later = later (waiting place s)
verdict_first n place s verdicts.Useless later = later (without place s)

due_first : (n : ℕ) (s : State) (o : Option ℕ) → ((t : State) → (tried n t).state.first ≡ t.first) → (tried_at (tried n) o s).state.first ≡ s.first
due_first n s None later = refl
due_first n s (Some place) later = verdict_first n place s (verdict_on (found_in s.store.slots) (fec_at (fec_at_place place s).bytes)) later

tries_first : (n : ℕ) (s : State) → (tried n s).state.first ≡ s.first
unfolding tried
tries_first zero s = refl
tries_first (suc n) s = due_first n s (first_due s.fecs) (tries_first n)

fresh_first : (b : Bool) (s : State) → (cond b (tried 2 s).state s).first ≡ s.first
fresh_first true s = tries_first 2 s
fresh_first false s = refl

after_first : (s : State) → (after_tries s).first ≡ s.first
after_first s = fresh_first s.is_fresh s

kept_first : (place : ℕ) (s : State) (o : Option (List ℕ)) → (handed_at place s o).state.first ≡ s.first
kept_first place s None = refl
kept_first place s (Some p) = refl

handed_first : (o : Option ℕ) (s : State) → (handed_if o s).state.first ≡ s.first
handed_first None s = refl
handed_first (Some place) s = kept_first place s (rebuilt_by s (fec_at (fec_at_place place s).bytes))

next_first : (b : Bool) (s : State) → (cond b (handed_if (tried 2 s).ready (tried 2 s).state) (record { packet = None; state = s })).state.first ≡ s.first
next_first true s = handed_first (tried 2 s).ready (tried 2 s).state ∙ tries_first 2 s
next_first false s = refl

first_kept : (s : State) → (next_of s).state.first ≡ s.first
first_kept s = next_first s.is_fresh s

-- ---- what was sent

module _ (sent : ℕ → Option (List ℕ)) where
  -- a packet that may be held while the window begins at a
  abbrev pub IsHeld : ℕ → List ℕ → Type 0
  IsHeld a p = (n : ℕ) × (sent n ≡ Some p) × (a ≤ n + 8192) × (n < a + 40960)

  abbrev pub IsMade : ℕ → Result Fec FecFault → Type 0
  IsMade a (Ok f) = (n : ℕ) × (a ≤ n) × (n < a + 32768) × IsMadeFrom sent n f
  IsMade a (Err fault) = Unit {0}

  abbrev pub AllMade : ℕ → List OpenFec → Type 0
  AllMade a [] = Unit {0}
  AllMade a (o ∷ os) = IsMade a (fec_at o.bytes) × AllMade a os

  pub record Holds (ss : FecSettings) (a : ℕ) (s : State) : Type 0 where
    pub settings : s.settings ≡ ss
    pub held : (n : ℕ) → IfSome (found_in s.store.slots n) (IsHeld a)
    pub fecs : AllMade a s.fecs

  -- ---- packets are kept

  if_matching : (a n : ℕ) (p : List ℕ) (b : Bool) → IsHeld a p → IfSome (cond b (Some p) None) (IsHeld a)
  if_matching a n p true h = h
  if_matching a n p false h = tt

  held_kept : (a : ℕ) (p : List ℕ) (s : Store) → IsHeld a p → ((n : ℕ) → IfSome (found_in s.slots n) (IsHeld a)) → (n : ℕ) → IfSome (found_in (kept p s).slots n) (IsHeld a)
  held_kept a p s hp h n = by_size (ltb s.largest (length p))
    where
      by_size : (b : Bool) → IfSome (found_in (cond b s (record s { slots = set s.slots (number_of p % 512) (Some p) })).slots n) (IsHeld a)
      by_size true = h n
      by_size false = in_set (λ (o : Option (List ℕ)). IfSome (matching n o) (IsHeld a)) s.slots (number_of p % 512) (n % 512) p (h n) (if_matching a n p (eqb (number_of p) n) hp)

  all_marked : (a number : ℕ) (os : List OpenFec) → AllMade a os → AllMade a (map (marked number) os)
  all_marked a number [] h = tt
  all_marked a number (o ∷ os) h = (h.0, all_marked a number os h.1)

  all_set : (a : ℕ) (os : List OpenFec) (i : ℕ) (o : OpenFec) → IsMade a (fec_at o.bytes) → AllMade a os → AllMade a (set os i o)
  all_set a [] i o ho h = tt
  all_set a (x ∷ os) zero o ho h = (ho, h.1)
  all_set a (x ∷ os) (suc i) o ho h = (h.0, all_set a os i o ho h.1)

  all_removed : (a : ℕ) (os : List OpenFec) (i : ℕ) → AllMade a os → AllMade a (remove os i)
  all_removed a [] zero h = tt
  all_removed a [] (suc i) h = tt
  all_removed a (o ∷ os) zero h = h.1
  all_removed a (o ∷ os) (suc i) h = (h.0, all_removed a os i h.1)

  all_append : (a : ℕ) (xs ys : List OpenFec) → AllMade a xs → AllMade a ys → AllMade a (xs ++ ys)
  all_append a [] ys h h' = h'
  all_append a (x ∷ xs) ys h h' = (h.0, all_append a xs ys h.1 h')

  made_at : (a : ℕ) (os : List OpenFec) (i : ℕ) → AllMade a os → IsMade a (fec_at (get_or os i (record { bytes = []; is_due = false })).bytes)
  unfolding fec_at
  made_at a [] i h = tt
  made_at a (o ∷ os) zero h = h.0
  made_at a (o ∷ os) (suc i) h = made_at a os i h.1

  kept_holds : (ss : FecSettings) (a number : ℕ) (p : List ℕ) (s : State) → IsHeld a p → Holds ss a s → Holds ss a (with_packet number p s)
  kept_holds ss a number p s hp h = record { settings = h.settings; held = held_kept a p s.store hp h.held; fecs = all_marked a number s.fecs h.fecs }

  latest_made : (a : ℕ) (os : List OpenFec) (b : Bool) → AllMade a os → AllMade a (cond b (remove os 0) os)
  latest_made a os true h = all_removed a os 0 h
  latest_made a os false h = h

  fec_holds : (ss : FecSettings) (a : ℕ) (bytes : List ℕ) (s : State) → IsMade a (fec_at bytes) → Holds ss a s → Holds ss a (with_fec bytes s)
  fec_holds ss a bytes s hb h = record {
    settings = h.settings;
    held = h.held;
    fecs = all_append a (latest s.fecs) (record { bytes = bytes; is_due = true } ∷ []) (latest_made a s.fecs (leb 64 (length s.fecs)) h.fecs) (hb, tt);
  }

  -- ---- packets are rebuilt

  module _ (ssrc : ℕ) (is_sender : IsSender ssrc sent) where
    is_of : (n : ℕ) (p : List ℕ) → sent n ≡ Some p → IsOfStream ssrc p × (number_of p ≡ n % 65536)
    is_of n p e = let P : Option (List ℕ) → Type 0 = λ o. IfSome o (λ q. IsOfStream ssrc q × (number_of q ≡ n % 65536)) in subst P e (is_sender.packets n)

    are_of : (n : ℕ) (ps : List (List ℕ)) → WereSentNear sent n ps → AreOfStream ssrc ps
    are_of n [] h = tt
    are_of n (p ∷ ps) h = ((is_of h.0.0 p h.0.1).0, are_of n ps h.1)

    came_one : (a n : ℕ) (p : List ℕ) (slots : List (Option (List ℕ))) (o : Option (List ℕ)) → a ≤ n → n < a + 32768 → WasSentNear sent n p → found_in slots (number_of p) ≡ o → IfSome o (IsHeld a)
        → CameOrLost (found_in slots) p
    came_one a n p slots None low high near e h = inl e
    came_one a n p slots (Some r) low high near e h =
        let number_p : number_of p ≡ near.0 % 65536 = (is_of near.0 p near.1).1 in
        let number_r : number_of r ≡ h.0 % 65536 = (is_of h.0 r h.1).1 in
        let numbers : number_of r ≡ number_of p = matched (number_of p) (get_or slots (number_of p % 512) None) r e in
        let same : h.0 ≡ near.0 = same_index a h.0 near.0 (number_of p) (sym number_r ∙ numbers) (sym number_p) h.2 h.3 (omega (arith, low, near)) (omega (arith, high, near)) in
        let one : Some r ≡ Some p = sym h.1 ∙ ap sent same ∙ near.1 in
        inr (e ∙ one)

    all_came : (a n : ℕ) (ps : List (List ℕ)) (slots : List (Option (List ℕ))) → a ≤ n → n < a + 32768 → WereSentNear sent n ps → ((m : ℕ) → IfSome (found_in slots m) (IsHeld a)) → AllCameOrLost (found_in slots) ps
    all_came a n [] slots low high near h = tt
    all_came a n (p ∷ ps) slots low high near h = (came_one a n p slots (found_in slots (number_of p)) low high near.0 refl (h (number_of p)), all_came a n ps slots low high near.1 h)

    among_held : (a n : ℕ) (ps : List (List ℕ)) (p : List ℕ) → a ≤ n → n < a + 32768 → WereSentNear sent n ps → IsAmong p ps → IsHeld a p
    among_held a n [] p low high near h = absurd h
    among_held a n (q ∷ ps) p low high near h =
        elim h [
          | inl is ↦ (near.0.0, near.0.1 ∙ ap (λ (bs : List ℕ). Some bs) (sym is), omega (arith, low, near.0), omega (arith, high, near.0))
          | inr later ↦ among_held a n ps p low high near.1 later
        ]

    weaker : (find : ℕ → Option (List ℕ)) (a n : ℕ) (ps : List (List ℕ)) (o : Option (List ℕ)) → a ≤ n → n < a + 32768 → WereSentNear sent n ps → IfSome o (λ p. IsAmong p ps × (find (number_of p) ≡ None)) → IfSome o (IsHeld a)
    weaker find a n ps None low high near h = tt
    weaker find a n ps (Some p) low high near h = among_held a n ps p low high near h.0

    rebuilt_held : (a : ℕ) (f : Fec) (slots : List (Option (List ℕ))) → IsMade a (Ok f) → ((m : ℕ) → IfSome (found_in slots m) (IsHeld a)) → IfSome (rebuilt ssrc f (found_in slots)) (IsHeld a)
    rebuilt_held a f slots made h =
        weaker (found_in slots) a made.0 made.3.packets (rebuilt ssrc f (found_in slots)) made.1 made.2 made.3.were_sent
        (rebuilds_packets ssrc f made.3.packets (found_in slots) made.3.protects (are_of made.0 made.3.packets made.3.were_sent) (all_came a made.0 made.3.packets slots made.1 made.2 made.3.were_sent h))

  -- ---- tries

  waits_holds : (ss : FecSettings) (a place : ℕ) (s : State) → Holds ss a s → Holds ss a (waiting place s)
  waits_holds ss a place s h = record { settings = h.settings; held = h.held; fecs = all_set a s.fecs place (record (fec_at_place place s) { is_due = false }) (made_at a s.fecs place h.fecs) h.fecs }

  without_holds : (ss : FecSettings) (a place : ℕ) (s : State) → Holds ss a s → Holds ss a (without place s)
  without_holds ss a place s h = record { settings = h.settings; held = h.held; fecs = all_removed a s.fecs place h.fecs }

  stale_holds : (ss : FecSettings) (a : ℕ) (s : State) → Holds ss a s → Holds ss a (stale s)
  stale_holds ss a s h = record { settings = h.settings; held = h.held; fecs = h.fecs }

  by_verdict : (ss : FecSettings) (a n place : ℕ) (s : State) (v : Verdict) → ((t : State) → Holds ss a t → Holds ss a (tried n t).state) → Holds ss a s → Holds ss a (judged (tried n) place s v).state
  by_verdict ss a n place s verdicts.Ready later h = h
  by_verdict ss a n place s verdicts.Waits later h = later (waiting place s) (waits_holds ss a place s h)
  by_verdict ss a n place s verdicts.Useless later h = later (without place s) (without_holds ss a place s h)

  at_due : (ss : FecSettings) (a n : ℕ) (s : State) (o : Option ℕ) → ((t : State) → Holds ss a t → Holds ss a (tried n t).state) → Holds ss a s → Holds ss a (tried_at (tried n) o s).state
  at_due ss a n s None later h = h
  at_due ss a n s (Some place) later h = by_verdict ss a n place s (verdict_on (found_in s.store.slots) (fec_at (fec_at_place place s).bytes)) later h

  tried_holds : (ss : FecSettings) (a n : ℕ) (s : State) → Holds ss a s → Holds ss a (tried n s).state
  unfolding tried
  tried_holds ss a zero s h = h
  tried_holds ss a (suc n) s h = at_due ss a n s (first_due s.fecs) (λ t ht. tried_holds ss a n t ht) h

  after_holds : (ss : FecSettings) (a : ℕ) (s : State) → Holds ss a s → Holds ss a (after_tries s)
  after_holds ss a s h = by_fresh s.is_fresh
    where
      by_fresh : (b : Bool) → Holds ss a (cond b (tried 2 s).state s)
      by_fresh true = tried_holds ss a 2 s h
      by_fresh false = h

  -- ---- packets are handed out

  handed_holds : (ss : FecSettings) (a place : ℕ) (s : State) (o : Option (List ℕ)) → IfSome o (IsHeld a) → Holds ss a s → Holds ss a (handed_at place s o).state
  handed_holds ss a place s None ho h = stale_holds ss a (without place s) (without_holds ss a place s h)
  handed_holds ss a place s (Some p) ho h = stale_holds ss a (with_packet (number_of p) p (without place s)) (kept_holds ss a (number_of p) p (without place s) ho (without_holds ss a place s h))

  rebuilt_by_held : (ss : FecSettings) (a : ℕ) (s : State) (r : Result Fec FecFault) → IsSender ss.ssrc sent → IsMade a r → Holds ss a s → IfSome (rebuilt_by s r) (IsHeld a)
  rebuilt_by_held ss a s (Err fault) is made h = tt
  rebuilt_by_held ss a s (Ok f) is made h =
      let P : FecSettings → Type 0 = λ t. IsSender t.ssrc sent in rebuilt_held s.settings.ssrc (subst P (sym h.settings) is) a f s.store.slots made h.held

  record Hands (ss : FecSettings) (a : ℕ) (o : Option (List ℕ)) (t : State) : Type 0 where
    packet : IfSome o (IsHeld a)
    holds : Holds ss a t

  next_holds : (ss : FecSettings) (a : ℕ) (s : State) → IsSender ss.ssrc sent → Holds ss a s → Hands ss a (next_of s).packet (next_of s).state
  next_holds ss a s is h = by_fresh s.is_fresh
    where
      if_ready : (o : Option ℕ) (t : State) → Holds ss a t → Hands ss a (handed_if o t).packet (handed_if o t).state
      if_ready None t ht = record { packet = tt; holds = stale_holds ss a t ht }
      if_ready (Some place) t ht =
          let made = made_at a t.fecs place ht.fecs in
          let packet = rebuilt_by_held ss a t (fec_at (fec_at_place place t).bytes) is made ht in
          record { packet = packet; holds = handed_holds ss a place t (rebuilt_by t (fec_at (fec_at_place place t).bytes)) packet ht }

      by_fresh : (b : Bool) → Hands ss a (cond b (handed_if (tried 2 s).ready (tried 2 s).state) (record { packet = None; state = s })).packet (cond b (handed_if (tried 2 s).ready (tried 2 s).state) (record { packet = None; state = s })).state
      by_fresh true = if_ready (tried 2 s).ready (tried 2 s).state (tried_holds ss a 2 s h)
      by_fresh false = record { packet = tt; holds = h }

  -- ---- a datagram

  pub record Placed (ss : FecSettings) (h : ℕ) (s : State) : Type 0 where
    pub a : ℕ
    pub low : a ≤ h
    pub high : h < a + 32768
    pub early : 65536 ≤ h
    pub first : s.first ≡ Some (a % 65536)
    pub holds : Holds ss a s

  -- before the first packet it holds nothing, so any window will do
  abbrev pub Stands : FecSettings → Option ℕ → State → Type 0
  Stands ss None s = IfSome s.first (λ first. first < 65536) × ((a : ℕ) → Holds ss a s)
  Stands ss (Some h) s = Placed ss h s

  -- the window has the number
  record Enters (ss : FecSettings) (h number : ℕ) (s : State) : Type 0 where
    placed : Placed ss h s
    low : placed.a ≤ number
    high : number < placed.a + 32768

  emptied_holds : (ss : FecSettings) (a : ℕ) (first : Option ℕ) (s : State) → s.settings ≡ ss → Holds ss a (record (emptied s) { first = first })
  emptied_holds ss a first s same = record {
    settings = same;
    held = λ n. let P : Option (List ℕ) → Type 0 = λ o. IfSome o (IsHeld a) in subst P (sym (none_found n)) tt;
    fecs = tt;
  }

  -- another window begins
  begins : (ss : FecSettings) (h number : ℕ) (s : State) → s.settings ≡ ss → 65536 ≤ h → number ≤ h → h < number + 16384 → Enters ss h number (record (emptied s) { first = Some ((number % 65536 + 49152) % 65536) })
  begins ss h number s same early up near = record {
    placed = record {
      a = number - 16384;
      low = omega (arith, early, up, near);
      high = omega (arith, early, up, near);
      early = early;
      first = ap (λ (n : ℕ). Some n) (beyond_is number (omega (arith, early, near)));
      holds = emptied_holds ss (number - 16384) (Some ((number % 65536 + 49152) % 65536)) s same;
    };
    low = omega (arith, early, near);
    high = omega (arith, early, near);
  }

  -- the number is within the window, or begins another one
  enters_first : (ss : FecSettings) (number : ℕ) (s : State) (first : Option ℕ) (b : Bool) → s.first ≡ first → is_within first (number % 65536) ≡ b → 65536 ≤ number → IfSome first (λ f. f < 65536) → ((a : ℕ) → Holds ss a s)
      → Enters ss number number (cond b s (record (emptied s) { first = Some ((number % 65536 + 49152) % 65536) }))
  enters_first ss number s None true same is early small h = absurd cc
  enters_first ss number s (Some first) true same is early small h =
      let d : ℕ = (number % 65536 + 65536 - first) % 65536 in
      let near : d < 32768 = ltb-true d 32768 is in
      record {
        placed = record { a = number - d; low = omega (arith, near); high = omega (arith, near, early); early = early; first = same ∙ ap (λ (n : ℕ). Some n) (start_is number first small early); holds = h (number - d) };
        low = omega (arith, near);
        high = omega (arith, near, early);
      }
  enters_first ss number s first false same is early small h = begins ss number number s (h 0).settings early (omega arith) (omega arith)

  enters_next : (ss : FecSettings) (highest number : ℕ) (s : State) (b : Bool) → is_within s.first (number % 65536) ≡ b → number < highest + 16384 → highest < number + 16384 → Placed ss highest s
      → Enters ss (max highest number) number (cond b s (record (emptied s) { first = Some ((number % 65536 + 49152) % 65536) }))
  enters_next ss highest number s true is near near' h =
      let d : ℕ → ℕ = λ f. (number % 65536 + 65536 - f) % 65536 in
      let close : d (h.a % 65536) < 32768 = ltb-true (d (h.a % 65536)) 32768 (ap (λ (f : Option ℕ). is_within f (number % 65536)) (sym h.first) ∙ is) in
      let within = within_is h.a number highest h.low h.high near near' close in
      record {
        placed = record { a = h.a; low = omega (arith, h.low, within); high = omega (arith, h.high, within); early = omega (arith, h.early); first = h.first; holds = h.holds };
        low = within.0;
        high = within.1;
      }
  enters_next ss highest number s false is near near' h = begins ss (max highest number) number s h.holds.settings (omega (arith, h.early)) (omega arith) (omega (arith, near'))

  -- a number is entered
  record Entered (ss : FecSettings) (top : Option ℕ) (number : ℕ) (s : State) : Type 0 where
    highest : ℕ
    is : top ≡ Some highest
    enters : Enters ss highest number s

  entered_is : (ss : FecSettings) (before : Option ℕ) (number : ℕ) (s : State) → IsNear before number → Stands ss before s → Entered ss (raised before number) number (entered (number % 65536) s)
  entered_is ss None number s near h = record { highest = number; is = refl; enters = enters_first ss number s s.first (is_within s.first (number % 65536)) refl refl near h.0 h.1 }
  entered_is ss (Some highest) number s near h =
      record { highest = max highest number; is = refl; enters = enters_next ss highest number s (is_within s.first (number % 65536)) refl near.0 near.1 h }

  stands_at : (ss : FecSettings) (highest : ℕ) (top : Option ℕ) (s : State) → top ≡ Some highest → Placed ss highest s → Stands ss top s
  stands_at ss highest top s is h = let P : Option ℕ → Type 0 = λ o. Stands ss o s in subst P (sym is) h

  -- what is taken
  fresh_stands : (ss : FecSettings) (top : Option ℕ) (s : State) → Stands ss top s → Stands ss top (record s { is_fresh = true })
  fresh_stands ss None s h = (h.0, λ a. record { settings = (h.1 a).settings; held = (h.1 a).held; fecs = (h.1 a).fecs })
  fresh_stands ss (Some highest) s h = record { a = h.a; low = h.low; high = h.high; early = h.early; first = h.first; holds = record { settings = h.holds.settings; held = h.holds.held; fecs = h.holds.fecs } }

  media_stands : (ss : FecSettings) (p : Packet) (before after : Option ℕ) (s : State) → s.settings ≡ ss → IsMedia ss sent p before after → Stands ss before s → Stands ss after (took (Media p) s)
  media_stands ss p before after s same m h =
      let e = entered_is ss before m.number s m.near h in
      let placed = e.enters.placed in
      let packet : List ℕ = plain_bytes ss.late_ids p in
      let held : IsHeld placed.a packet = (m.number, m.was_sent, omega (arith, e.enters.low), omega (arith, e.enters.high)) in
      let t : State = entered (m.number % 65536) s in
      let kept : Placed ss e.highest (with_packet (m.number % 65536) packet t) =
      record { a = placed.a; low = placed.low; high = placed.high; early = placed.early; first = placed.first; holds = kept_holds ss placed.a (m.number % 65536) packet t held placed.holds } in
      let By : ℕ → FecSettings → Type 0 = λ n settings. Placed ss e.highest (with_packet n (plain_bytes settings.late_ids p) (entered n s)) in
      let at : By p.header.sequence_number s.settings = subst (λ (n : ℕ). By n s.settings) (sym m.numbered) (subst (By (m.number % 65536)) (sym same) kept) in
      stands_at ss e.highest after (took (Media p) s) (m.raises ∙ e.is) at

  small_holds : (ss : FecSettings) (h : ℕ) (bytes : List ℕ) (s : State) (b : Bool) → (placed : Placed ss h s) → IsMade placed.a (fec_at bytes) → Placed ss h (with_small b bytes s)
  small_holds ss h bytes s true placed made =
      record { a = placed.a; low = placed.low; high = placed.high; early = placed.early; first = placed.first; holds = fec_holds ss placed.a bytes s made placed.holds }
  small_holds ss h bytes s false placed made = placed

  fec_stands : (ss : FecSettings) (bytes : List ℕ) (r : Result Fec FecFault) (before after : Option ℕ) (s : State) → fec_at bytes ≡ r → IsFecIf sent r before after → Stands ss before s → Stands ss after (took_fec bytes r s)
  fec_stands ss bytes (Err fault) before after s e is h = let P : Option ℕ → Type 0 = λ o. Stands ss o s in subst P (sym is) h
  fec_stands ss bytes (Ok f) before after s e is h =
      let en = entered_is ss before is.number s is.near h in
      let placed = en.enters.placed in
      let t : State = entered (is.number % 65536) s in
      let Made : Result Fec FecFault → Type 0 = IsMade placed.a in
      let made : IsMade placed.a (fec_at bytes) = subst Made (sym e) (is.number, en.enters.low, en.enters.high, is.is_made) in
      let kept : Placed ss en.highest (with_small (leb (length bytes - 6) s.store.largest) bytes t) = small_holds ss en.highest bytes t (leb (length bytes - 6) s.store.largest) placed made in
      let By : ℕ → Type 0 = λ n. Placed ss en.highest (with_small (leb (length bytes - 6) s.store.largest) bytes (entered n s)) in
      stands_at ss en.highest after (took_fec bytes (Ok f) s) (is.raises ∙ en.is) (subst By (sym is.is_made.base) kept)

  pub settings_stand : (ss : FecSettings) (top : Option ℕ) (s : State) → Stands ss top s → s.settings ≡ ss
  settings_stand ss None s h = (h.1 0).settings
  settings_stand ss (Some highest) s h = h.holds.settings

  took_stands : (ss : FecSettings) (content : Content) (before after : Option ℕ) (s : State) → IsOfSender ss sent content before after → Stands ss before s → Stands ss after (took content s)
  took_stands ss Nothing before after s is h = let P : Option ℕ → Type 0 = λ o. Stands ss o s in subst P (sym is) h
  took_stands ss (Media p) before after s is h = media_stands ss p before after s (settings_stand ss before s h) is h
  took_stands ss (FecIn bytes) before after s is h = fec_stands ss bytes (fec_at bytes) before after s refl is h

  pub received_stands : (ss : FecSettings) (datagram : List ℕ) (before after : Option ℕ) (s : State) → IsOfSender ss sent (content_of ss (rtp_at datagram)) before after → Stands ss before s → Stands ss after (received datagram s)
  received_stands ss datagram before after s is h =
      let By : FecSettings → Type 0 = λ settings. Stands ss after (took (content_of settings (rtp_at datagram)) s) in
      fresh_stands ss after (took (content_of s.settings (rtp_at datagram)) s) (subst By (sym (settings_stand ss before s h)) (took_stands ss (content_of ss (rtp_at datagram)) before after s is h))

  -- ---- calls

  pub next_stands : (ss : FecSettings) (top : Option ℕ) (s : State) → IsSender ss.ssrc sent → Stands ss top s → Stands ss top (next_of s).state
  next_stands ss None s is h = (let P : Option ℕ → Type 0 = λ o. IfSome o (λ n. n < 65536) in subst P (sym (first_kept s)) h.0, λ a. (next_holds ss a s is (h.1 a)).holds)
  next_stands ss (Some highest) s is h =
      record { a = h.a; low = h.low; high = h.high; early = h.early; first = first_kept s ∙ h.first; holds = (next_holds ss h.a s is h.holds).holds }

  pub after_stands : (ss : FecSettings) (top : Option ℕ) (s : State) → Stands ss top s → Stands ss top (after_tries s)
  after_stands ss None s h = (let P : Option ℕ → Type 0 = λ o. IfSome o (λ n. n < 65536) in subst P (sym (after_first s)) h.0, λ a. after_holds ss a s (h.1 a))
  after_stands ss (Some highest) s h = record { a = h.a; low = h.low; high = h.high; early = h.early; first = after_first s ∙ h.first; holds = after_holds ss h.a s h.holds }

  packet_sent : (a : ℕ) (o : Option (List ℕ)) → IfSome o (IsHeld a) → WereSent sent (to_list o)
  packet_sent a None h = tt
  packet_sent a (Some p) h = ((h.0, h.1), tt)

  pub next_sent : (ss : FecSettings) (top : Option ℕ) (s : State) → IsSender ss.ssrc sent → Stands ss top s → WereSent sent (to_list (next_of s).packet)
  next_sent ss None s is h = packet_sent 0 (next_of s).packet (next_holds ss 0 s is (h.1 0)).packet
  next_sent ss (Some highest) s is h = packet_sent h.a (next_of s).packet (next_holds ss h.a s is h.holds).packet

  sent_append : (ps qs : List (List ℕ)) → WereSent sent ps → WereSent sent qs → WereSent sent (ps ++ qs)
  sent_append [] qs h h' = h'
  sent_append (p ∷ ps) qs h h' = (h.0, sent_append ps qs h.1 h')

  all_sent : (ss : FecSettings) (top : Option ℕ) (calls : List Call) (s : State) → IsSender ss.ssrc sent → Stands ss top s → AreOfSender ss sent top calls → WereSent sent (handed_out calls s)
  all_sent ss top [] s is h are = tt
  all_sent ss top (Passes datagram ∷ calls) s is h are = all_sent ss are.0 calls (received datagram s) is (received_stands ss datagram top are.0 s are.1 h) are.2
  all_sent ss top (Takes ∷ calls) s is h are =
      sent_append (to_list (next_of s).packet) (handed_out calls (next_of s).state) (next_sent ss top s is h) (all_sent ss top calls (next_of s).state is (next_stands ss top s is h) are)
  all_sent ss top (Lacks ∷ calls) s is h are = all_sent ss top calls (after_tries s) is (after_stands ss top s h) are

nothing_holds : (sent : ℕ → Option (List ℕ)) (a : ℕ) (s : State) → HoldsNothing s → Holds sent s.settings a s
nothing_holds sent a s h = record {
  settings = refl;
  held = λ n. let P : Option (List ℕ) → Type 0 = λ o. IfSome o (IsHeld sent a) in subst P (sym (h.none_kept n)) tt;
  fecs = let P : List OpenFec → Type 0 = λ os. AllMade sent a os in subst P (sym h.no_fecs) tt;
}

pub nothing_stands : (sent : ℕ → Option (List ℕ)) (s : State) → HoldsNothing s → Stands sent s.settings None s
nothing_stands sent s h = (h.is_number, λ a. nothing_holds sent a s h)

pub handed_out_was_sent : HandedOutWasSent
handed_out_was_sent sent s calls is h are = all_sent sent s.settings None calls s is (h.is_number, λ a. nothing_holds sent a s h) are

-- ---- more is sent

module _ (sent sent' : ℕ → Option (List ℕ)) (more : (n : ℕ) (p : List ℕ) → sent n ≡ Some p → sent' n ≡ Some p) where
  if_more : (a : ℕ) (o : Option (List ℕ)) → IfSome o (IsHeld sent a) → IfSome o (IsHeld sent' a)
  if_more a None h = tt
  if_more a (Some p) h = (h.0, more h.0 p h.1, h.2, h.3)

  near_more : (n : ℕ) (ps : List (List ℕ)) → WereSentNear sent n ps → WereSentNear sent' n ps
  near_more n [] h = tt
  near_more n (p ∷ ps) h = ((h.0.0, more h.0.0 p h.0.1, h.0.2, h.0.3), near_more n ps h.1)

  made_more : (a : ℕ) (r : Result Fec FecFault) → IsMade sent a r → IsMade sent' a r
  made_more a (Err fault) h = tt
  made_more a (Ok f) h = (h.0, h.1, h.2, record { base = h.3.base; packets = h.3.packets; protects = h.3.protects; were_sent = near_more h.0 h.3.packets h.3.were_sent })

  all_more : (a : ℕ) (os : List OpenFec) → AllMade sent a os → AllMade sent' a os
  all_more a [] h = tt
  all_more a (o ∷ os) h = (made_more a (fec_at o.bytes) h.0, all_more a os h.1)

  holds_more : (ss : FecSettings) (a : ℕ) (s : State) → Holds sent ss a s → Holds sent' ss a s
  holds_more ss a s h = record { settings = h.settings; held = λ n. if_more a (found_in s.store.slots n) (h.held n); fecs = all_more a s.fecs h.fecs }

  pub stands_more : (ss : FecSettings) (top : Option ℕ) (s : State) → Stands sent ss top s → Stands sent' ss top s
  stands_more ss None s h = (h.0, λ a. holds_more ss a s (h.1 a))
  stands_more ss (Some highest) s h = record { a = h.a; low = h.low; high = h.high; early = h.early; first = h.first; holds = holds_more ss h.a s h.holds }
