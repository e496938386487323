-- The first packets after a restart: with the suspect packet, or without one.
use Rattle.std.proofs.Common.{◌≡◌, ◌∙◌, refl, ap, sym, subst, ℕ, List, [], ◌∷◌, length, true, false, Option, Some, None}
use Rattle.std.proofs.Common.{cond}
use Rattle.std.specs.Prelude.{nat_lt, ◌||◌}
use Rattle.codec_payload_codec.specs.Depacketizers.{DepacketizerState}
use Rattle.codec_payload_codec.proofs.CaseLemmas.{by_test}
use Rattle.codec_payload_buffer.specs.Held.{Held, has_number, number_of, placed}
use Rattle.codec_payload_buffer.specs.Pairs.{StoresTwo}
use Rattle.codec_payload_buffer.specs.Steps.{IsArrived, State, is_at_most, kept_to_limit, placed_at, pushed, without_lowest}
use Rattle.codec_payload_buffer.specs.declared.buffer.pair.Incoming.{Incoming}
use Rattle.codec_payload_buffer.specs.declared.buffer.placed.Placed.{Placed}
use Rattle.codec_payload_metadata.specs.declared.meta.RtpMeta.{RtpMeta}
use Rattle.codec_payload_jitter.proofs.ReceivingLemmas.{placed_outcome}
use Rattle.codec_payload_jitter.specs.NoMediaNumbers.{noted_no_media}
use Rattle.codec_payload_numbers.specs.NotedTimes.{Noted, noted_with}
use Rattle.codec_payload_jitter.specs.Receiving.{Receiving, Arrival, Confirms, GoesInAgain, GoesOn, NotesRestart, Restarts, RestartsWith, TakesIn, TakesInBoth}
use Rattle.codec_payload_jitter.specs.Receiving.{counted, counted_again, counted_restart, meta_for, outcome_at, outcome_of, restarted, with_noted}
use Rattle.codec_payload_numbers.specs.Numbers.{kept_number}
use Rattle.codec_payload_jitter.specs.declared.outcome.Outcome.{Outcome}
use Rattle.codec_payload_jitter.specs.declared.outcome.Outcome.TheVariants as outcomes
use Rattle.codec_payload_jitter.specs.declared.outcome.PacketCounters.{PacketCounters}

-- a packet that is stored leaves the suspect packet alone
goes_on_kept : (n : ℕ) (a : Arrival) (r t : Receiving) (o : Outcome) → GoesOn n a r o t → t.kept ≡ r.kept
goes_on_kept n a r t o goes = ap (λ (x : Receiving). x.kept) goes.2 ∙ ap (λ (x : Receiving). x.kept) goes.1.3

pub restarts_both : (n : ℕ) (a b : Arrival) (r t : Receiving) → Some b ≡ r.kept → RestartsWith n a b r t → Restarts n a r (outcomes.Restarted true) t
restarts_both n a b r t kept goes =
    let mid : Receiving = goes.1 in
    let same : Some b ≡ mid.kept = kept ∙ sym (goes_on_kept n a r mid goes.0 goes.2) in
    (goes.0, mid, true, goes.2, subst (λ (k : Option Arrival). Confirms n k (restarted mid) true t) same (refl, goes.3), refl)

pub restarts_alone : (n : ℕ) (a : Arrival) (r mid t : Receiving) (o : Outcome) → None ≡ r.kept → GoesOn n a r o mid → t ≡ restarted mid → Restarts n a r (outcomes.Restarted false) t
restarts_alone n a r mid t o kept goes is =
    let same : None ≡ mid.kept = kept ∙ sym (goes_on_kept n a r mid o goes) in
    (o, mid, false, goes, subst (λ (k : Option Arrival). Confirms n k (restarted mid) false t) same (refl, is), refl)

-- the same of a number without media
abbrev pub noted : ℕ → Receiving → Receiving
noted n r = record r { no_media_numbers = noted_no_media n r.no_media_numbers; counters = counted r.counters outcomes.NoMedia }

pub notes_both : (n : ℕ) (b : Arrival) (r t : Receiving) → Some b ≡ r.kept → GoesInAgain b (kept_number n b.header.sequence_number) (restarted (noted n r)) t → NotesRestart n r t
notes_both n b r t kept goes = (true, subst (λ (k : Option Arrival). Confirms n k (restarted (noted n r)) true t) kept (refl, goes))

pub notes_alone : (n : ℕ) (r t : Receiving) → None ≡ r.kept → t ≡ restarted (noted n r) → NotesRestart n r t
notes_alone n r t kept is = (false, subst (λ (k : Option Arrival). Confirms n k (restarted (noted n r)) false t) kept (refl, is))

-- from what the code has done

pub went_on : (n : ℕ) (a : Arrival) (r seen t : Receiving) (buffer : State) (o : Outcome) (times : Noted) (k : PacketCounters) → r ≡ seen → TakesIn r.rate a n r.buffer buffer
    → o ≡ outcome_at r.buffer n → times ≡ noted_with r.noted (record { number = n; time = a.header.timestamp }) → k ≡ counted r.counters o
    → t ≡ record r { buffer = buffer; noted = times; counters = k } → GoesOn n a seen o t
went_on n a r seen t buffer o times k same takes outcome_is noted_is counted_is is =
    let mid : Receiving = record r { buffer = buffer; counters = counted r.counters o } in
    subst (λ (x : Receiving). GoesOn n a x o t) same (
      mid,
      (buffer, takes, outcome_is, refl),
      is ∙ (ap (λ (ns : Noted). record r { buffer = buffer; noted = ns; counters = k }) noted_is
          ∙ ap (λ (x : PacketCounters). record (with_noted n a mid) { counters = x }) counted_is),
    )

pub stored_both : (n : ℕ) (a b : Arrival) (r seen t : Receiving) (buffer : State) (outcomes : Outcome × Outcome) (times : Noted) (k : PacketCounters) → r ≡ seen
    → TakesInBoth r.rate a n b (kept_number n b.header.sequence_number) r.buffer outcomes buffer
    → times ≡ noted_with r.noted (record { number = n; time = a.header.timestamp }) → k ≡ counted_again (counted_restart (counted r.counters outcomes.0)) outcomes.1
    → t ≡ record r { buffer = buffer; noted = times; kept = None; counters = k } → RestartsWith n a b seen t
stored_both n a b r seen t buffer outcomes times k same takes noted_is counted_is is =
    let taken : Receiving = record r { buffer = takes.0; counters = counted r.counters outcomes.0 } in
    let mid : Receiving = with_noted n a taken in
    subst (λ (x : Receiving). RestartsWith n a b x t) same (
      outcomes.0,
      mid,
      (taken, (takes.0, takes.1, takes.3, refl), refl),
      (
        buffer,
        takes.2,
        is ∙ (ap (λ (ns : Noted). record r { buffer = buffer; noted = ns; kept = None; counters = k }) noted_is
            ∙ (ap (λ (x : PacketCounters). record (restarted mid) { buffer = buffer; counters = x }) counted_is
            ∙ ap (λ (o : Outcome). record (restarted mid) { buffer = buffer; counters = counted_again (restarted mid).counters o }) takes.4)),
      ),
    )

pub noted_both : (n : ℕ) (b : Arrival) (r seen t : Receiving) (buffer : State) (o : Outcome) (ns : List ℕ) (k : PacketCounters) → r ≡ seen
    → TakesIn r.rate b (kept_number n b.header.sequence_number) r.buffer buffer → o ≡ outcome_at r.buffer (kept_number n b.header.sequence_number)
    → ns ≡ noted_no_media n r.no_media_numbers → k ≡ counted_again (counted_restart (counted r.counters outcomes.NoMedia)) o
    → t ≡ record r { buffer = buffer; no_media_numbers = ns; kept = None; counters = k }
    → GoesInAgain b (kept_number n b.header.sequence_number) (restarted (noted n seen)) t
noted_both n b r seen t buffer o ns k same takes outcome_is noted_is counted_is is =
    let m : ℕ = kept_number n b.header.sequence_number in
    let s : Receiving = restarted (noted n r) in
    subst (λ (x : Receiving). GoesInAgain b m (restarted (noted n x)) t) same (
      buffer,
      takes,
      is ∙ (ap (λ (xs : List ℕ). record r { buffer = buffer; no_media_numbers = xs; kept = None; counters = k }) noted_is
          ∙ (ap (λ (x : PacketCounters). record s { buffer = buffer; counters = x }) counted_is
          ∙ ap (λ (y : Outcome). record s { buffer = buffer; counters = counted_again s.counters y }) outcome_is)),
    )

-- What the buffer says of both

lowest_stays : (s : State) (ps : List Held) → (without_lowest s ps).depacketizer ≡ s.depacketizer
lowest_stays s [] = refl
lowest_stays s (p ∷ ps) = refl

-- a push leaves the depacketizer
pushed_stays : (s : State) (p : Held) → (pushed s p).depacketizer ≡ s.depacketizer
pushed_stays s p =
    by_test (is_at_most s.cutoff (number_of p) || has_number (number_of p) s.held) (λ b. (cond b s (kept_to_limit (record s { held = placed p s.held }))).depacketizer ≡ s.depacketizer)
    (λ e. refl)
    (λ e. by_test (nat_lt s.limit (length (placed p s.held)))
    (λ b. (cond b (without_lowest (record s { held = placed p s.held }) (placed p s.held)) (record s { held = placed p s.held })).depacketizer ≡ s.depacketizer)
    (λ over. lowest_stays (record s { held = placed p s.held }) (placed p s.held))
    (λ within. refl))

arrived_as : (d e : DepacketizerState) (m n : RtpMeta) (bs cs : List ℕ) (p : Held) → d ≡ e → m ≡ n → bs ≡ cs → IsArrived d m bs p → IsArrived e n cs p
arrived_as d e m n bs cs p one two three is =
    subst (λ (x : DepacketizerState). IsArrived x n cs p) one (subst (λ (x : RtpMeta). IsArrived d x cs p) two (subst (λ (x : List ℕ). IsArrived d m x p) three is))

pub taken_both : (rate : ℕ) (a : Arrival) (n : ℕ) (b : Arrival) (m : ℕ) (s t : State) (first second : Incoming) (places : Placed × Placed)
    → first.meta ≡ meta_for a.now rate a.header n → first.payload.items ≡ a.bytes → second.meta ≡ meta_for b.now rate b.header m → second.payload.items ≡ b.bytes
    → StoresTwo s first second places t → TakesInBoth rate a n b m s (outcome_of places.0, outcome_of places.1) t
taken_both rate a n b m s t first second places one bytes_one two bytes_two stores =
    let p : Held = stores.0 in
    let q : Held = stores.1 in
    let mid : State = pushed s p in (
      mid,
      (p, arrived_as s.depacketizer s.depacketizer first.meta (meta_for a.now rate a.header n) first.payload.items a.bytes p refl one bytes_one stores.2, refl),
      (
        q,
        arrived_as s.depacketizer mid.depacketizer second.meta (meta_for b.now rate b.header m) second.payload.items b.bytes q (sym (pushed_stays s p)) two bytes_two stores.3,
        stores.6,
      ),
      ap outcome_of stores.4 ∙ (ap (λ (x : RtpMeta). outcome_of (placed_at s x.seq_no.0)) one ∙ placed_outcome s n),
      ap outcome_of stores.5 ∙ (ap (λ (x : RtpMeta). outcome_of (placed_at mid x.seq_no.0)) two ∙ placed_outcome mid m),
    )
