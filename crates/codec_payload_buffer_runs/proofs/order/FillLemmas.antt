-- If everything is pushed into an unused buffer with room for it, exactly the sent packets are held.
use Rattle.std.proofs.Common.{◌≡◌, ◌∙◌, refl, ap, ℕ, subst, List, [], Option, Some, None, Bool, true, false, cond, ◌+◌, ◌-◌, ◌∷◌, ◌<◌, ◌≤◌, inl, inr, arith, length, drop, ltb, ◌||◌}
use Rattle.std.specs.Prelude.{slice_get}
use Rattle.std.proofs.lemmas.Bool.{cases_lt}
use Rattle.std.proofs.lemmas.Bool.Decides.{nat_tests}
use Rattle.std.proofs.lemmas.List.{length-drop}
use Rattle.std.proofs.lemmas.Option.{slice_get_within}
use Rattle.codec_payload_codec.proofs.CaseLemmas.{by_test}
use Rattle.codec_payload_buffer.proofs.PlaceLemmas.{above_lower, not_below}
use Rattle.codec_payload_buffer_runs.proofs.order.SafetyLemmas.{IsSent, AllSent, IsBeyond, number_of_sent, beyond_placed}
use Rattle.codec_payload_buffer.proofs.StretchLemmas.{has_placed}
use Rattle.codec_payload_buffer_runs.proofs.units.UnitRows.{IsFaithful, held_as, drop_next, Exact}
use Rattle.codec_payload_codec.specs.Depacketizers.{DepacketizerKind}
use Rattle.codec_payload_buffer.specs.Held.{Held, Rises, AllAbove, placed, has_number}
use Rattle.codec_payload_payloader.specs.Packets.{Packet, AreNumbered}
use Rattle.codec_payload_buffer_runs.specs.LawfulUnits.{AllLawful}
use Rattle.codec_payload_buffer_runs.specs.SentStream.{SentUnit, packets_of}
use Rattle.codec_payload_buffer.specs.Steps.{State, pushed, kept_to_limit, is_dropped, is_at_most}
use Rattle.codec_payload_metadata.specs.declared.meta.RtpMeta.{RtpMeta}

-- all numbers are at least n
abbrev pub AllFrom : ℕ → List Held → Type 0
AllFrom n [] = Unit {0}
AllFrom n (p ∷ ps) = (n ≤ p.meta.seq_no.0) × AllFrom n ps

from_above : (n m : ℕ) (hs : List Held) → m ≡ n + 1 → AllAbove n hs → AllFrom m hs
from_above n m [] e a = tt
from_above n m (p ∷ ps) e a = (omega (arith, a.0, e), from_above n m ps e a.1)

-- the number of an accepted packet is held from then on
has_here : (p : Held) (hs : List Held) → has_number p.meta.seq_no.0 (placed p hs) ≡ true
has_here p hs = has_placed p.meta.seq_no.0 p hs ∙ grind (arith, nat_tests)

-- and each other stays
has_still : (n : ℕ) (p : Held) (hs : List Held) → has_number n hs ≡ true → has_number n (placed p hs) ≡ true
has_still n p hs h = has_placed n p hs ∙ grind (arith, nat_tests, h)

-- the first of them has the least number
first_is : (n : ℕ) (p : Held) (ps : List Held) → n ≤ p.meta.seq_no.0 → AllAbove p.meta.seq_no.0 ps → has_number n (p ∷ ps) ≡ true → p.meta.seq_no.0 ≡ n
first_is n p ps le a has = elim (cases_lt n p.meta.seq_no.0) [
  | inl lt ↦ let none : has_number n ps ≡ false = not_below n ps (above_lower n p.meta.seq_no.0 ps (omega (arith, lt)) a) in absurd (grind (arith, nat_tests, has, none, lt))
  | inr ge ↦ omega (arith, le, ge)
]

still_there : (n : ℕ) (p : Held) (ps : List Held) → p.meta.seq_no.0 < n → has_number n (p ∷ ps) ≡ true → has_number n ps ≡ true
still_there n p ps l has = grind (arith, nat_tests, has, l)

dropped_has : (cutoff : Option ℕ) (n : ℕ) (b : Bool) → cutoff ≡ None → (is_at_most cutoff n || b) ≡ true → b ≡ true
dropped_has None n b none h = h
dropped_has (Some c) n b none h = absurd (cc)

module _ (known : ℕ → Packet → RtpMeta → Type 0) (clock_rate first : ℕ) (kind : DepacketizerKind) (faithful : IsFaithful known clock_rate kind) (splits : Bool)
    (all : List SentUnit) (lawful : AllLawful kind splits all) (numbered : AreNumbered first (packets_of all)) where
  abbrev IsPush : Held → Type 0
  IsPush = IsSent known clock_rate first kind faithful splits all lawful numbered

  abbrev AllPushes : List Held → Type 0
  AllPushes = AllSent known clock_rate first kind faithful splits all lawful numbered

  number_of_push : (p : Held) (i : IsPush p) → p.meta.seq_no.0 ≡ first + i.0
  number_of_push p i = number_of_sent known clock_rate first kind faithful splits all lawful numbered p i

  within_sent : (p : Held) (i : IsPush p) → i.0 < length (packets_of all)
  within_sent p i = slice_get_within (packets_of all) i.0 i.1 i.2

  from_sent : (hs : List Held) → AllPushes hs → AllFrom first hs
  from_sent [] sent = tt
  from_sent (p ∷ ps) sent = (omega (arith, number_of_push p sent.0), from_sent ps sent.1)

  -- rising packets that were sent are no more than there are numbers for them
  few_sent : (low : ℕ) (hs : List Held) → AllFrom low hs → Rises hs → AllPushes hs → length hs ≤ first + length (packets_of all) - low
  few_sent low [] over rises sent = omega arith
  few_sent low (p ∷ ps) over rises sent =
      let number = number_of_push p sent.0 in
      let within = within_sent p sent.0 in
      let rest = few_sent (p.meta.seq_no.0 + 1) ps (from_above p.meta.seq_no.0 (p.meta.seq_no.0 + 1) ps refl rises.0) rises.1 sent.1 in
      omega (arith, number, within, rest, over.0)

  -- with each number there, they are the packets that were sent
  row_of_all : (k : ℕ) (rest : List Packet) (hs : List Held) → drop k (packets_of all) ≡ rest → AllFrom (first + k) hs → Rises hs → AllPushes hs
      → ((j : ℕ) → k ≤ j → j < length (packets_of all) → has_number (first + j) hs ≡ true) → Exact known clock_rate kind faithful k rest hs
  row_of_all k [] [] is over rises sent there = tt
  row_of_all k [] (p ∷ ps) is over rises sent there =
      let number = number_of_push p sent.0 in
      let within = within_sent p sent.0 in
      absurd (omega (arith, number, within, over.0, ap length is, length-drop k (packets_of all)))
  row_of_all k (q ∷ qs) [] is over rises sent there =
      let wrong : false ≡ true = there k (omega arith) (omega (arith, ap length is, length-drop k (packets_of all))) in
      absurd (cc)
  row_of_all k (q ∷ qs) (p ∷ ps) is over rises sent there =
      let i = sent.0 in
      let number = number_of_push p i in
      let next = drop_next (packets_of all) k q qs is in
      let has : has_number (first + k) (p ∷ ps) ≡ true = there k (omega arith) (slice_get_within (packets_of all) k q next.0) in
      let at : p.meta.seq_no.0 ≡ first + k = first_is (first + k) p ps over.0 rises.0 has in
      let same : i.0 ≡ k = omega (arith, number, at) in
      let found : slice_get (packets_of all) k ≡ Some i.1 = subst (λ (n : ℕ). slice_get (packets_of all) n ≡ Some i.1) same i.2 in
      let here : slice_get (packets_of all) k ≡ Some q = next.0 in
      let packet : i.1 ≡ q = cc in
      let push : known k q p.meta = subst (λ (z : Packet). known k z p.meta) packet (subst (λ (n : ℕ). known n i.1 p.meta) same i.3) in
      let held : p ≡ held_as kind p.meta q.payload = i.4 ∙ ap (λ (z : Packet). held_as kind p.meta z.payload) packet in (
        push,
        held,
        row_of_all (k + 1) qs ps next.1 (from_above p.meta.seq_no.0 (first + (k + 1)) ps (omega (arith, at)) rises.0) rises.1 sent.1
            (λ j le l. still_there (first + j) p ps (omega (arith, at, le)) (there j (omega (arith, le)) l)),
      )

  -- the facts while an unused buffer, `start`, is filled
  pub record IsFilling (start s : State) : Type 0 where
    pub beyond : IsBeyond known clock_rate first kind faithful splits all lawful numbered 0 s
    pub no_cutoff : s.cutoff ≡ None
    pub room : length (packets_of all) ≤ s.limit
    pub depacketizer : s.depacketizer ≡ start.depacketizer
    pub contiguity : s.contiguity ≡ start.contiguity

  -- a push while it is filled
  pub record IsFilled (start s : State) (n : ℕ) (t : State) : Type 0 where
    pub filling : IsFilling start t
    pub has : has_number n t.held ≡ true
    pub still : (m : ℕ) → has_number m s.held ≡ true → has_number m t.held ≡ true

  -- nothing is evicted
  pub filled : (start s : State) (p : Held) → IsPush p → IsFilling start s → IsFilled start s p.meta.seq_no.0 (pushed s p)
  filled start s p i filling =
      by_test (is_dropped s p.meta.seq_no.0) (λ b. IsFilled start s p.meta.seq_no.0 (cond b s (kept_to_limit (record s { held = placed p s.held }))))
      (λ e. record { filling = filling; has = dropped_has s.cutoff p.meta.seq_no.0 (has_number p.meta.seq_no.0 s.held) filling.no_cutoff e; still = λ m h. h })
      (λ e.
      let t : State = record s { held = placed p s.held } in
      let beyond : IsBeyond known clock_rate first kind faithful splits all lawful numbered 0 t =
      beyond_placed known clock_rate first kind faithful splits all lawful numbered 0 s p i (grind (arith, e)) (grind (arith, e)) filling.beyond in
      let few = few_sent first t.held (from_sent t.held beyond.sent) beyond.rises beyond.sent in
      let fits : ltb s.limit (length (placed p s.held)) ≡ false = grind (arith, nat_tests, few, filling.room) in
      rw fits (record {
        filling = record { beyond = beyond; no_cutoff = filling.no_cutoff; room = filling.room; depacketizer = filling.depacketizer; contiguity = filling.contiguity };
        has = has_here p s.held;
        still = λ m h. has_still m p s.held h;
      }))

  -- with all of them there, exactly the packets that were sent are held
  pub full_row : (start s : State) → IsFilling start s → ((k : ℕ) → k < length (packets_of all) → has_number (first + k) s.held ≡ true) → Exact known clock_rate kind faithful 0 (packets_of all) s.held
  full_row start s filling there =
      let z : first ≡ first + 0 = omega arith in
      row_of_all 0 (packets_of all) s.held refl (subst (λ (n : ℕ). AllFrom n s.held) z (from_sent s.held filling.beyond.sent)) filling.beyond.rises filling.beyond.sent (λ j le l. there j l)
