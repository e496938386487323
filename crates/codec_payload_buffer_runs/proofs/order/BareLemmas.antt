-- The receive time of a packet changes only the metadata about it.
use Rattle.std.proofs.Common.{◌≡◌, ◌∙◌, refl, sym, ap, ℕ, zero, suc, subst, List, [], Option, Some, None, Result, Ok, Err, Bool, true, false, cond, ◌++◌, ◌∷◌, ◌<◌, ◌||◌, arith, length, map, eqb, ltb}
use Rattle.std.specs.Prelude.{MatchResult, if◌then◌else◌}
use Rattle.codec_payload_base.specs.Extensions.{no_values}
use Rattle.codec_payload_base.specs.Time.{Time}
use Rattle.codec_payload_base.specs.declared.error.PacketError.{PacketError}
use Rattle.codec_payload_base.specs.declared.interface.CodecExtra.{CodecExtra}
use Rattle.codec_payload_codec.proofs.CaseLemmas.{by_test}
use Rattle.codec_payload_buffer.proofs.DepacketizerLemmas.{unpacks_same}
use Rattle.codec_payload_buffer.proofs.PopLemmas.{due_packets}
use Rattle.codec_payload_contiguity.specs.ContiguityTable.{checked}
use Rattle.codec_payload_codec.specs.Depacketizers.{DepacketizerState, is_built_in_depacketizer}
use Rattle.codec_payload_buffer.specs.Frames.{frames, frames_after, frame_at, ended_at, lowest_head, row_before, leads_to, start_or_here}
use Rattle.codec_payload_buffer.specs.Held.{Held, number_of, has_number, between, above, Rises}
use Rattle.codec_payload_metadata.specs.Release.{Release}
use Rattle.codec_payload_buffer_runs.specs.RunOrder.{release_with}
use Rattle.codec_payload_buffer.specs.Steps.{State, Releases, PassesOver, due_of, due_among, Unpacked, Unpacks, nothing_unpacked, Gives, AllOfTime, metas_of, packets_of_frame, without, follows}
use Rattle.codec_payload_buffer.specs.declared.buffer.frames.CompleteFrame.{CompleteFrame}
use Rattle.codec_payload_metadata.specs.declared.meta.RtpMeta.{RtpMeta}

-- the metadata of a packet without its receive time and, if it is not plain, without its marker and its values
abbrev pub strip : Bool → RtpMeta → RtpMeta
strip plain m = record m { received = record { 0 = 0 }; header = if plain then m.header else record m.header { marker = false; ext_vals = no_values } }

match_map : {A B : Type 0} (P Q : A → Type 0) (R : B → Type 0) (r : Result A B) → ((a : A) → P a → Q a) → MatchResult r P R → MatchResult r Q R
match_map P Q R (Ok a) f h = f a h
match_map P Q R (Err e) f h = h

one_time : (ps : List Held) (a b : Time) → 0 < length ps → AllOfTime a ps → AllOfTime b ps → a ≡ b
one_time [] a b some x y = absurd (omega (arith, some))
one_time (p ∷ ps) a b some x y = sym (x 0 p (omega arith)) ∙ y 0 p (omega arith)

abbrev release_of : Time → Bool → Unpacked → List RtpMeta → Release
release_of time contiguous unpacked metas = record { time = time; contiguous = contiguous; bytes = unpacked.bytes; codec_extra = unpacked.extra; metas = metas }

-- a release is fixed by the state
pub releases_same : (s t u : State) (r q : Release) → is_built_in_depacketizer s.depacketizer ≡ true → Rises s.held → Releases s r t → Releases s q u → (r ≡ q) × (t ≡ u)
releases_same s t u r q built_in rises x y =
    let f : x.frame ≡ y.frame = some_is x.frame y.frame (sym x.is_due ∙ y.is_due) in
    let one : Unpacked = record { bytes = r.bytes; extra = r.codec_extra } in
    let two : Unpacked = record { bytes = q.bytes; extra = q.codec_extra } in
    let gives : Gives s x.frame (Ok two) y.depacketizer = subst (λ (z : CompleteFrame). Gives s z (Ok two) y.depacketizer) (sym f) y.gives in
    let out = unpacks_same s.depacketizer (packets_of_frame s x.frame) nothing_unpacked one two x.depacketizer y.depacketizer built_in x.gives gives in
    let seq : follows s x.frame ≡ follows s y.frame = ap (follows s) f in
    let extra : r.codec_extra ≡ q.codec_extra = ap (λ (z : Unpacked). z.extra) out.0 in
    let metas : r.metas ≡ q.metas = x.metas ∙ ap (λ (z : CompleteFrame). metas_of (packets_of_frame s z)) f ∙ sym y.metas in
    let both : checked s.contiguity r.codec_extra (follows s x.frame) ≡ checked s.contiguity q.codec_extra (follows s y.frame) = ap
    (λ (e : CodecExtra). checked s.contiguity e (follows s x.frame)) extra ∙ ap (checked s.contiguity q.codec_extra) seq in
    let cont : r.contiguous ≡ q.contiguous = x.contiguous ∙ ap (λ z. z.1) both ∙ sym y.contiguous in
    let time : r.time ≡ q.time = one_time (packets_of_frame s x.frame) r.time q.time (due_packets s x.frame rises x.is_due).2 x.time
    (subst (λ (z : CompleteFrame). AllOfTime q.time (packets_of_frame s z)) (sym f) y.time) in
    let left : t ≡ u = x.left ∙ ap (λ (z : CompleteFrame). without s z x.depacketizer (checked s.contiguity r.codec_extra (follows s x.frame)).2 false) f
    ∙ ap (λ z. without s y.frame x.depacketizer z.2 false) both
    ∙ ap (λ (d : DepacketizerState). without s y.frame d (checked s.contiguity q.codec_extra (follows s y.frame)).2 false) out.1 ∙ sym y.left in (
      ap (λ (z : Time). release_of z r.contiguous one r.metas) time ∙ ap (λ (z : Bool). release_of q.time z one r.metas) cont
          ∙ ap (λ (z : Unpacked). release_of q.time q.contiguous z r.metas) out.0 ∙ ap (release_of q.time q.contiguous two) metas,
      left,
    )
  where
    some_is : (x y : CompleteFrame) → Some x ≡ Some y → x ≡ y
    some_is x y e = cc

complete_frame_is : (x y : CompleteFrame) → Some x ≡ Some y → x ≡ y
complete_frame_is x y e = cc

pub passes_same : (s t u : State) → is_built_in_depacketizer s.depacketizer ≡ true → PassesOver s t → PassesOver s u → t ≡ u
passes_same s t u built_in x y =
    let f : x.frame ≡ y.frame = complete_frame_is x.frame y.frame (sym x.is_due ∙ y.is_due) in
    let gives : Gives s x.frame (Ok y.unpacked) y.depacketizer = subst (λ (z : CompleteFrame). Gives s z (Ok y.unpacked) y.depacketizer) (sym f) y.gives in
    let out = unpacks_same s.depacketizer (packets_of_frame s x.frame) nothing_unpacked x.unpacked y.unpacked x.depacketizer y.depacketizer built_in x.gives gives in
    x.left ∙ ap (λ (z : CompleteFrame). without s z x.depacketizer (checked s.contiguity x.unpacked.extra (follows s z)).2 s.evicted) f
    ∙ ap (λ (z : Unpacked). without s y.frame x.depacketizer (checked s.contiguity z.extra (follows s y.frame)).2 s.evicted) out.0
    ∙ ap (λ (d : DepacketizerState). without s y.frame d (checked s.contiguity y.unpacked.extra (follows s y.frame)).2 s.evicted) out.1 ∙ sym y.left

-- no frame is both released and skipped
pub one_way : (s t u : State) (r : Release) → is_built_in_depacketizer s.depacketizer ≡ true → Releases s r t → PassesOver s u → ⊥
one_way s t u r built_in x y =
    let f : x.frame ≡ y.frame = complete_frame_is x.frame y.frame (sym x.is_due ∙ y.is_due) in
    let one : Unpacked = record { bytes = r.bytes; extra = r.codec_extra } in
    let gives : Gives s x.frame (Ok y.unpacked) y.depacketizer = subst (λ (z : CompleteFrame). Gives s z (Ok y.unpacked) y.depacketizer) (sym f) y.gives in
    let out = unpacks_same s.depacketizer (packets_of_frame s x.frame) nothing_unpacked one y.unpacked x.depacketizer y.depacketizer built_in x.gives gives in
    clash (sym x.may ∙ ap (λ (z : Unpacked). (checked s.contiguity z.extra (follows s x.frame)).0) out.0
    ∙ ap (λ (z : CompleteFrame). (checked s.contiguity y.unpacked.extra (follows s z)).0) f ∙ y.may_not)
  where
    clash : true ≡ false → ⊥
    clash e = cc

module _ (plain : Bool) where
  abbrev pub bare : Held → Held
  bare p = record p { meta = strip plain p.meta }

  abbrev pub bare_state : State → State
  bare_state s = record s { held = map bare s.held }

  bare_row : (p : Held) (qs : List Held) → row_before (bare p) (map bare qs) ≡ map bare (row_before p qs)
  bare_row p [] = refl
  bare_row p (q ∷ qs) = by_test (leads_to q p) (λ b. cond b (bare q ∷ row_before (bare q) (map bare qs)) [] ≡ map bare (cond b (q ∷ row_before q qs) []))
      (λ e. ap (λ (zs : List Held). bare q ∷ zs) (bare_row q qs)) (λ e. refl)

  bare_lowest : (ps : List Held) → lowest_head (map bare ps) ≡ lowest_head ps
  bare_lowest [] = refl
  bare_lowest (p ∷ ps) = ap (λ o. start_or_here o (bare p)) (bare_lowest ps) ∙ same (lowest_head ps)
    where
      same : (o : Option ℕ) → start_or_here o (bare p) ≡ start_or_here o p
      same None = refl
      same (Some n) = refl

  bare_ended : (p : Held) (o : Option ℕ) → ended_at (bare p) o ≡ ended_at p o
  bare_ended p None = refl
  bare_ended p (Some n) = refl

  bare_frame : (p : Held) (earlier : List Held) → frame_at (bare p) (map bare earlier) ≡ frame_at p earlier
  bare_frame p earlier = ap (λ (fs : List CompleteFrame). cond p.tail fs [])
      (ap (ended_at (bare p)) (ap (λ (zs : List Held). lowest_head (bare p ∷ zs)) (bare_row p earlier) ∙ bare_lowest (p ∷ row_before p earlier))
      ∙ bare_ended p (lowest_head (p ∷ row_before p earlier)))

  bare_frames : (earlier later : List Held) → frames_after (map bare earlier) (map bare later) ≡ frames_after earlier later
  bare_frames earlier [] = refl
  bare_frames earlier (p ∷ later) = ap (λ (fs : List CompleteFrame). fs ++ frames_after (map bare (p ∷ earlier)) (map bare later)) (bare_frame p earlier)
      ∙ ap (λ (fs : List CompleteFrame). frame_at p earlier ++ fs) (bare_frames (p ∷ earlier) later)

  among_bare : (s : State) (fs : List CompleteFrame) → due_among (bare_state s) fs ≡ due_among s fs
  among_bare s [] = refl
  among_bare s (f ∷ fs) = refl

  pub due_bare : (s : State) → due_of (bare_state s) ≡ due_of s
  due_bare s = ap (due_among (bare_state s)) (bare_frames [] s.held) ∙ among_bare s (frames s.held)

  bare_between : (first last : ℕ) (hs : List Held) → between first last (map bare hs) ≡ map bare (between first last hs)
  bare_between first last [] = refl
  bare_between first last (p ∷ ps) =
      by_test (ltb (number_of p) first) (λ b. cond b (between first last (map bare ps))
      (cond (ltb last (number_of p)) (between first last (map bare ps)) (bare p ∷ between first last (map bare ps))) ≡ map bare
      (cond b (between first last ps) (cond (ltb last (number_of p)) (between first last ps) (p ∷ between first last ps))))
      (λ e. bare_between first last ps)
      (λ e. by_test (ltb last (number_of p)) (λ b. cond b (between first last (map bare ps)) (bare p ∷ between first last (map bare ps)) ≡ map bare
      (cond b (between first last ps) (p ∷ between first last ps)))
      (λ e. bare_between first last ps) (λ e. ap (λ (zs : List Held). bare p ∷ zs) (bare_between first last ps)))

  bare_above : (last : ℕ) (hs : List Held) → above last (map bare hs) ≡ map bare (above last hs)
  bare_above last [] = refl
  bare_above last (p ∷ ps) =
      by_test (ltb last (number_of p)) (λ b. cond b (bare p ∷ above last (map bare ps)) (above last (map bare ps)) ≡ map bare (cond b (p ∷ above last ps) (above last ps)))
      (λ e. ap (λ (zs : List Held). bare p ∷ zs) (bare_above last ps)) (λ e. bare_above last ps)

  bare_metas : (ps : List Held) → map (strip plain) (metas_of ps) ≡ metas_of (map bare ps)
  bare_metas [] = refl
  bare_metas (p ∷ ps) = ap (λ (zs : List RtpMeta). strip plain p.meta ∷ zs) (bare_metas ps)

  bare_times : (time : Time) (ps : List Held) → AllOfTime time ps → AllOfTime time (map bare ps)
  bare_times time [] all k d l = absurd (omega (arith, l))
  bare_times time (p ∷ ps) all zero d l = all 0 p (omega arith)
  bare_times time (p ∷ ps) all (suc k) d l = bare_times time ps (λ j e m. all (suc j) e (omega (arith, m))) k d (omega (arith, l))

  bare_unpacks : (d : DepacketizerState) (ps : List Held) (u : Unpacked) (answer : Result Unpacked PacketError) (e : DepacketizerState) → Unpacks d ps u answer e → Unpacks d (map bare ps) u answer e
  bare_unpacks d [] u answer e h = h
  bare_unpacks d (p ∷ ps) u answer e h = (
    h.0,
    h.1,
    h.2,
    h.3,
    match_map (λ _. Unpacks h.1 ps h.2 answer e) (λ _. Unpacks h.1 (map bare ps) h.2 answer e) (λ fault. (answer ≡ Err fault) × (e ≡ h.1)) h.0
        (λ _ rest. bare_unpacks h.1 ps h.2 answer e rest) h.4,
  )

  pub bare_releases : (s t : State) (r : Release) → Releases s r t → Releases (bare_state s) (release_with (strip plain) r) (bare_state t)
  bare_releases s t r out =
      let f = out.frame in
      let packets : packets_of_frame (bare_state s) f ≡ map bare (packets_of_frame s f) = bare_between f.first f.last s.held in
      let unpacked : Unpacked = record { bytes = r.bytes; extra = r.codec_extra } in
      record {
        frame = f;
        is_due = due_bare s ∙ out.is_due;
        depacketizer = out.depacketizer;
        gives = subst (λ (ps : List Held). Unpacks s.depacketizer ps nothing_unpacked (Ok unpacked) out.depacketizer) (sym packets)
            (bare_unpacks s.depacketizer (packets_of_frame s f) nothing_unpacked (Ok unpacked) out.depacketizer out.gives);
        may = out.may;
        time = subst (AllOfTime r.time) (sym packets) (bare_times r.time (packets_of_frame s f) out.time);
        metas = ap (map (strip plain)) out.metas ∙ bare_metas (packets_of_frame s f) ∙ ap metas_of (sym packets);
        contiguous = out.contiguous;
        left = ap bare_state out.left ∙ ap (λ (hs : List Held). record s {
          held = hs;
          cutoff = Some f.last;
          depacketizer = out.depacketizer;
          contiguity =
              (checked s.contiguity r.codec_extra (follows s f)).2;
          evicted = false;
        }) (sym (bare_above f.last s.held));
      }

  -- a skipped frame
  pub bare_passes : (s t : State) → PassesOver s t → PassesOver (bare_state s) (bare_state t)
  bare_passes s t over =
      let f = over.frame in
      let packets : packets_of_frame (bare_state s) f ≡ map bare (packets_of_frame s f) = bare_between f.first f.last s.held in
      record {
        frame = f;
        is_due = due_bare s ∙ over.is_due;
        unpacked = over.unpacked;
        depacketizer = over.depacketizer;
        gives = subst (λ (ps : List Held). Unpacks s.depacketizer ps nothing_unpacked (Ok over.unpacked) over.depacketizer) (sym packets)
            (bare_unpacks s.depacketizer (packets_of_frame s f) nothing_unpacked (Ok over.unpacked) over.depacketizer over.gives);
        may_not = over.may_not;
        left = ap bare_state over.left ∙ ap (λ (hs : List Held). record s {
          held = hs;
          cutoff = Some f.last;
          depacketizer = over.depacketizer;
          contiguity =
              (checked s.contiguity over.unpacked.extra (follows s f)).2;
        }) (sym (bare_above f.last s.held));
      }

  pub bare_has : (n : ℕ) (hs : List Held) → has_number n (map bare hs) ≡ has_number n hs
  bare_has n [] = refl
  bare_has n (p ∷ ps) = ap (λ b. eqb (number_of p) n || b) (bare_has n ps)
