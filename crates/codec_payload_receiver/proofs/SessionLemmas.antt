-- Every datagram is accounted for.
use Rattle.std.proofs.Common.{◌≡◌, ◌⊎◌, ◌∙◌, refl, ap, sym, subst, inl, inr, cond, ℕ, ◌+◌, ◌%◌, ◌^◌, List, [], ◌∷◌, Bool, true, false, Option, Some, None, Result, Ok, Err, arith, ◌&&◌, ◌==◌, not}
use Rattle.std.proofs.lemmas.Bool.Decides.{nat_tests}
use Rattle.codec_payload_base.specs.declared.wire.Ticks.{Ticks}
use Rattle.codec_payload_jitter.specs.Receiving.{Receiving, Arrival, Confirms, GoesOn, ReceivesAs, ReceivesAgainAs, RecoversAs, RecoversIf, NotesAs, would_store}
use Rattle.codec_payload_jitter.specs.Receiving.{Accepts, counted, counted_again, counted_in_again, is_stored, may_recover, next, number_again_for}
use Rattle.codec_payload_numbers.specs.declared.numbers.Extended.{Extended}
use Rattle.codec_payload_numbers.specs.declared.numbers.Extended.TheVariants as extended
use Rattle.codec_payload_jitter.specs.declared.outcome.Outcome.{Outcome}
use Rattle.codec_payload_jitter.specs.declared.outcome.Outcome.TheVariants as outcomes
use Rattle.codec_payload_jitter.specs.declared.outcome.PacketCounters.{PacketCounters}
use Rattle.codec_payload_datagrams.specs.Choice.{latest_after, origin_of}
use Rattle.codec_payload_datagrams.specs.Kinds.{Kinds, Carrier, Datagram, RtcpPacket, Malformed, OfOthers, WithoutMedia, WithMedia, InRed, Again, AgainInRed, AgainEmpty, takes_memory}
use Rattle.codec_payload_receiver.specs.Noting.{notes_after}
use Rattle.codec_payload_numbers.specs.SeenTimes.{Seen, is_seen}
use Rattle.codec_payload_receiver.specs.Sessions.{Holding, NotesAgain, Session, TakesAgain, TakesDatagram, TakesMedia, TakesPrimaryAgain, TakesPrimaryIf, RecoversOne, RecoversUnseen, RecoversAll, RecoversUnless, AnswersFor}
use Rattle.codec_payload_receiver.specs.Sessions.{Heard, IsSorted, all_carried, arrived_with, has_restarted, ssrc_after, is_own_media, is_repeat, is_suspect, error_of, reception_after, told_of_red}
use Rattle.codec_payload_datagrams.specs.declared.kinds.Malformation.{Malformation}
use Rattle.codec_payload_datagrams.specs.declared.kinds.Malformation.TheVariants as malformations
use Rattle.codec_payload_receiver.specs.declared.receiver.Arrived.{Arrived}
use Rattle.codec_payload_receiver.specs.declared.receiver.ReceiveError.{ReceiveError}
use Rattle.codec_payload_receiver.specs.declared.receiver.ReceiveError.TheVariants as errors

-- how many packets were pushed, and how many of them recovered
pub record Balance : Type 0 where
  pub pushed : ℕ
  pub recovered : ℕ

abbrev pub balance : PacketCounters → Balance
balance c = record { pushed = c.pushed; recovered = c.recovered }

abbrev pub balance_of : Receiving → Balance
balance_of r = balance r.counters

-- one more was pushed
abbrev pub one_pushed : Balance → Balance
one_pushed b = record { pushed = next b.pushed; recovered = b.recovered }

-- one more was recovered
abbrev pub one_recovered : Balance → Balance
one_recovered b = record { pushed = next b.pushed; recovered = next b.recovered }

again_balance : (c : PacketCounters) (o : Outcome) → balance (counted_again c o) ≡ balance c
again_balance c outcomes.Held = refl
again_balance c outcomes.HeldAndEvicted = refl
again_balance c outcomes.Duplicate = refl
again_balance c outcomes.Late = refl
again_balance c outcomes.Suspect = refl
again_balance c (outcomes.Restarted with_kept) = refl
again_balance c outcomes.NoMedia = refl
again_balance c outcomes.OtherStream = refl
again_balance c outcomes.Undecided = refl
again_balance c outcomes.Rtcp = refl

confirms_balance : (n : ℕ) (k : Option Arrival) (r t : Receiving) (with_kept : Bool) → Confirms n k r with_kept t → balance_of t ≡ balance_of r
confirms_balance n None r t with_kept got = ap balance_of got.1
confirms_balance n (Some a) r t with_kept got = ap balance_of got.1.2 ∙ again_balance r.counters _

counted_balance : (c : PacketCounters) (o : Outcome) → balance (counted c o) ≡ one_pushed (balance c)
counted_balance c outcomes.Held = refl
counted_balance c outcomes.HeldAndEvicted = refl
counted_balance c outcomes.Duplicate = refl
counted_balance c outcomes.Late = refl
counted_balance c outcomes.Suspect = refl
counted_balance c (outcomes.Restarted with_kept) = refl
counted_balance c outcomes.NoMedia = refl
counted_balance c outcomes.OtherStream = refl
counted_balance c outcomes.Undecided = refl
counted_balance c outcomes.Rtcp = refl

pub accepts_balance : (a : Arrival) (n : ℕ) (r t : Receiving) (o : Outcome) → Accepts a n r o t → balance_of t ≡ one_pushed (balance_of r)
accepts_balance a n r t o got = ap balance_of got.3 ∙ counted_balance r.counters o

-- no restart is counted
count_restarts : (c : PacketCounters) (o : Outcome) → (counted c o).restarts ≡ c.restarts
count_restarts c outcomes.Held = refl
count_restarts c outcomes.HeldAndEvicted = refl
count_restarts c outcomes.Duplicate = refl
count_restarts c outcomes.Late = refl
count_restarts c outcomes.Suspect = refl
count_restarts c (outcomes.Restarted with_kept) = refl
count_restarts c outcomes.NoMedia = refl
count_restarts c outcomes.OtherStream = refl
count_restarts c outcomes.Undecided = refl
count_restarts c outcomes.Rtcp = refl

pub accepts_restarts : (a : Arrival) (n : ℕ) (r t : Receiving) (o : Outcome) → Accepts a n r o t → t.counters.restarts ≡ r.counters.restarts
accepts_restarts a n r t o got = ap (λ (x : Receiving). x.counters.restarts) got.3 ∙ count_restarts r.counters o

goes_on_balance : (n : ℕ) (a : Arrival) (r t : Receiving) (o : Outcome) → GoesOn n a r o t → balance_of t ≡ one_pushed (balance_of r)
goes_on_balance n a r t o got = ap balance_of got.2 ∙ accepts_balance a n r got.0 o got.1

receives_as_balance : (answer : Extended) (a : Arrival) (r t : Receiving) (o : Outcome) → ReceivesAs answer a r o t → balance_of t ≡ one_pushed (balance_of r)
receives_as_balance (extended.Number n) a r t o got = goes_on_balance n a r t o got
receives_as_balance (extended.Restarted n) a r t o got =
    ap balance_of got.2 ∙ (confirms_balance n got.1.1.kept _ got.0 got.1.2 got.1.4 ∙ goes_on_balance n a r got.1.1 got.1.0 got.1.3)
receives_as_balance extended.Suspect a r t o got = ap balance_of got.1
receives_as_balance extended.Spent a r t o got = ap balance_of got.1

notes_as_balance : (answer : Extended) (r t : Receiving) → NotesAs answer r t → balance_of t ≡ one_pushed (balance_of r)
notes_as_balance (extended.Number n) r t got = ap balance_of got
notes_as_balance (extended.Restarted n) r t got = ap balance_of got.2 ∙ confirms_balance n r.kept _ got.0 got.1.0 got.1.1
notes_as_balance extended.Suspect r t got = ap balance_of got
notes_as_balance extended.Spent r t got = ap balance_of got

in_again_balance : (c : PacketCounters) (o : Outcome) → balance (counted_in_again c o) ≡ balance c
in_again_balance c o = by_test (is_stored o)
  where
    by_test : (b : Bool) → balance (cond b (record c { retransmitted = next c.retransmitted }) c) ≡ balance c
    by_test true = refl
    by_test false = refl

receives_again_balance : (number : Option ℕ) (a : Arrival) (r t : Receiving) (o : Outcome) → ReceivesAgainAs number a r o t → balance_of t ≡ one_pushed (balance_of r)
receives_again_balance None a r t o got = ap balance_of got.1
receives_again_balance (Some n) a r t o got =
    ap balance_of got.2 ∙ in_again_balance got.0.counters o ∙ goes_on_balance n a r got.0 o got.1

-- a packet from a redundant block was stored or not
abbrev pub Recovered : Receiving → Receiving → Type 0
Recovered r t = (balance_of t ≡ balance_of r) ⊎ (balance_of t ≡ one_recovered (balance_of r))

recovers_if_balance : (b : Bool) (n : ℕ) (a : Arrival) (r t : Receiving) (went_in : Bool) → RecoversIf b n a r went_in t → Recovered r t
recovers_if_balance false n a r t went_in got = inl (ap balance_of got.1)
recovers_if_balance true n a r t went_in got =
    let in_mid : balance_of got.1 ≡ one_pushed (balance_of r) = accepts_balance a n r got.1 got.0 got.2 in
    inr (ap balance_of got.4 ∙ ap (λ (b : Balance). record { pushed = b.pushed; recovered = next b.recovered }) in_mid)

recovers_as_balance : (number : Option ℕ) (a : Arrival) (r t : Receiving) (went_in : Bool) → RecoversAs number a r went_in t → Recovered r t
recovers_as_balance None a r t went_in got = inl (ap balance_of got.1)
recovers_as_balance (Some n) a r t went_in got = recovers_if_balance (may_recover r n) n a r t went_in got

unseen_balance : (b : Bool) (a : Arrival) (r t : Holding) → RecoversUnseen b a r t → Recovered r.packets t.packets
unseen_balance true a r t got = inl (ap (λ (x : Holding). balance_of x.packets) got)
unseen_balance false a r t got = recovers_as_balance (number_again_for r.packets a.header.sequence_number a.header.timestamp) a r.packets t.packets got.0 got.1

one_balance : (a : Arrival) (r t : Holding) → RecoversOne a r t → Recovered r.packets t.packets
one_balance a r t got = unseen_balance (is_seen a.header.timestamp r.seen.places) a r t got

pub media_balance : (b : Bool) (a : Arrival) (r t : Receiving) (o : Outcome) → TakesMedia b a r o t → balance_of t ≡ one_pushed (balance_of r)
media_balance false a r t o got = ap balance_of got.2 ∙ receives_as_balance _ _ r got.0 o got.1
media_balance true a r t o got = ap balance_of got.1.2 ∙ notes_as_balance _ r got.1.0 got.1.1

pub sent_again_balance : (b : Bool) (a : Arrival) (r t : Receiving) (o : Outcome) → TakesAgain b a r o t → balance_of t ≡ one_pushed (balance_of r)
sent_again_balance false a r t o got = receives_again_balance _ _ r t o got
sent_again_balance true a r t o got = ap balance_of got.1.2 ∙ notes_as_balance _ r got.1.0 got.1.1

notes_again_balance : (b : Bool) (low : ℕ) (r t : Receiving) (o : Outcome) → NotesAgain b low r o t → balance_of t ≡ one_pushed (balance_of r)
notes_again_balance true low r t o got = ap balance_of got.1.2 ∙ notes_as_balance _ r got.1.0 got.1.1
notes_again_balance false low r t o got = ap balance_of got.1

pub primary_again_balance : (b : Bool) (s : Kinds) (now : Ticks) (c : Carrier) (seen : Seen) (r t : Receiving) (o : Outcome) → TakesPrimaryAgain b s now c seen r o t
    → balance_of t ≡ one_pushed (balance_of r)
primary_again_balance true s now c seen r t o got = sent_again_balance (is_repeat s seen r c.header.timestamp c.header.sequence_number) _ r t o got
primary_again_balance false s now c seen r t o got = notes_again_balance (would_store r c.header.sequence_number) c.header.sequence_number r t o got

-- Every datagram is accounted for

-- the same, by the balance
abbrev pub IsBalanced : Arrived → Balance → Type 0
IsBalanced a b = (a.received + b.recovered) % 2 ^ 64 ≡ (b.pushed + a.rtcp + a.malformed + a.other_streams) % 2 ^ 64

recovered_balanced : (a : Arrived) (r t : Receiving) → Recovered r t → IsBalanced a (balance_of r) → IsBalanced a (balance_of t)
recovered_balanced a r t (inl same) kept = subst (λ (b : Balance). IsBalanced a b) (sym same) kept
recovered_balanced a r t (inr one) kept =
    let after : IsBalanced a (one_recovered (balance_of r)) = omega (arith, kept) in
    subst (λ (b : Balance). IsBalanced a b) (sym one) after

all_balanced : (a : Arrived) (whole : Bool) (all : List Arrival) (r t : Holding) → RecoversAll whole all r t → IsBalanced a (balance_of r.packets) → IsBalanced a (balance_of t.packets)
all_balanced a true [] r t got kept = subst (λ (x : Holding). IsBalanced a (balance_of x.packets)) (sym got) kept
all_balanced a true (one ∷ more) r t got kept = all_balanced a true more got.0 t got.2 (recovered_balanced a r.packets got.0.packets (one_balance one r got.0 got.1) kept)
all_balanced a false [] r t got kept = absurd got
all_balanced a false (one ∷ more) r t (inl same) kept = subst (λ (x : Holding). IsBalanced a (balance_of x.packets)) (sym same) kept
all_balanced a false (one ∷ more) r t (inr got) kept = all_balanced a false more got.0 t got.2 (recovered_balanced a r.packets got.0.packets (one_balance one r got.0 got.1) kept)

unless_balanced : (a : Arrived) (suspect whole : Bool) (all : List Arrival) (r t : Holding) → RecoversUnless suspect whole all r t → IsBalanced a (balance_of r.packets) → IsBalanced a (balance_of t.packets)
unless_balanced a true whole all r t got kept = subst (λ (x : Holding). IsBalanced a (balance_of x.packets)) (sym got.1) kept
unless_balanced a false whole all r t got kept = all_balanced a whole all r t got kept

pub primary_balance : (b : Bool) (s : Kinds) (now : Ticks) (c : Carrier) (r t : Receiving) (o : Outcome) → TakesPrimaryIf b s now c r o t → balance_of t ≡ one_pushed (balance_of r)
primary_balance true s now c r t o got = ap balance_of got.2 ∙ receives_as_balance _ _ r got.0 o got.1
primary_balance false s now c r t o got = ap balance_of got.1.2 ∙ notes_as_balance _ r got.1.0 got.1.1

-- one more was received, and pushed
pushed_balanced : (a : Arrived) (r t : Receiving) → balance_of t ≡ one_pushed (balance_of r) → IsBalanced a (balance_of r) → IsBalanced (record a { received = next a.received }) (balance_of t)
pushed_balanced a r t one kept =
    let after : IsBalanced (record a { received = next a.received }) (one_pushed (balance_of r)) = omega (arith, kept) in
    subst (λ (b : Balance). IsBalanced (record a { received = next a.received }) b) (sym one) after

-- one more was received, and not pushed
apart_balanced : (a a' : Arrived) (r t : Receiving) → t ≡ r → IsBalanced a' (balance_of r) → IsBalanced a' (balance_of t)
apart_balanced a a' r t same kept = subst (λ (x : Receiving). IsBalanced a' (balance_of x)) (sym same) kept

pub takes_balanced : (s : Kinds) (now : Ticks) (a : Arrived) (d : Datagram) (r t : Holding) (o : Outcome) (whole : Bool) → TakesDatagram s now d r o whole t → IsSorted a r.packets.counters
    → IsSorted (arrived_with a d) t.packets.counters
takes_balanced s now a RtcpPacket r t o whole got kept = apart_balanced a (arrived_with a RtcpPacket) r.packets t.packets (ap (λ (x : Holding). x.packets) got.1) (omega (arith, kept))
takes_balanced s now a (Malformed e) r t o whole got kept = apart_balanced a (arrived_with a (Malformed e)) r.packets t.packets (ap (λ (x : Holding). x.packets) got) (omega (arith, kept))
takes_balanced s now a OfOthers r t o whole got kept = apart_balanced a (arrived_with a OfOthers) r.packets t.packets (ap (λ (x : Holding). x.packets) got.1) (omega (arith, kept))
takes_balanced s now a (WithoutMedia h) r t o whole got kept = pushed_balanced a r.packets t.packets (ap balance_of got.1.2 ∙ notes_as_balance _ r.packets got.1.0 got.1.1) kept
takes_balanced s now a (WithMedia p) r t o whole got kept =
    pushed_balanced a r.packets t.packets (media_balance (is_repeat s r.seen r.packets p.header.timestamp p.header.sequence_number) _ r.packets t.packets o got.0) kept
takes_balanced s now a (InRed c) r t o whole got kept =
    unless_balanced (record a { received = next a.received }) (is_suspect o) whole (all_carried s now c) _ t got.2
    (pushed_balanced a r.packets got.0
    (primary_balance (is_own_media s c && not (is_repeat s r.seen r.packets c.header.timestamp c.header.sequence_number)) s now c r.packets got.0 o got.1) kept)
takes_balanced s now a (Again it) r t o whole got kept =
    pushed_balanced a r.packets t.packets (sent_again_balance (is_repeat s r.seen r.packets it.header.timestamp it.number) _ r.packets t.packets o got.0) kept
takes_balanced s now a (AgainInRed c) r t o whole got kept =
    all_balanced (record a { received = next a.received }) whole (all_carried s now c) _ t got.2
    (pushed_balanced a r.packets got.0 (primary_again_balance (is_own_media s c) s now c r.seen r.packets got.0 o got.1) kept)
takes_balanced s now a AgainEmpty r t o whole got kept = pushed_balanced a r.packets t.packets (ap (λ (x : Holding). balance_of x.packets) got.1) kept

-- Restarts

different : (n : ℕ) → not (n == n) ≡ true → ⊥
different n is = grind (arith, nat_tests)

none_restarts : (r t : Receiving) → t ≡ r → has_restarted r t ≡ true → ⊥
none_restarts r t same restarts = different (r.counters.restarts) (subst (λ (x : Receiving). has_restarted r x ≡ true) same restarts)

-- a datagram that confirms a restart is of a kind that takes memory
pub restarts_with_memory : (s : Kinds) (now : Ticks) (d : Datagram) (r : Holding) (o : Outcome) (whole : Bool) (t : Holding) → TakesDatagram s now d r o whole t
    → has_restarted r.packets t.packets ≡ true → takes_memory d ≡ true
restarts_with_memory s now RtcpPacket r o whole t got restarts = absurd (none_restarts r.packets t.packets (ap (λ (x : Holding). x.packets) got.1) restarts)
restarts_with_memory s now (Malformed e) r o whole t got restarts = absurd (none_restarts r.packets t.packets (ap (λ (x : Holding). x.packets) got) restarts)
restarts_with_memory s now OfOthers r o whole t got restarts = absurd (none_restarts r.packets t.packets (ap (λ (x : Holding). x.packets) got.1) restarts)
restarts_with_memory s now (WithoutMedia h) r o whole t got restarts = refl
restarts_with_memory s now (WithMedia p) r o whole t got restarts = refl
restarts_with_memory s now (InRed c) r o whole t got restarts = refl
restarts_with_memory s now (Again it) r o whole t got restarts = refl
restarts_with_memory s now (AgainInRed c) r o whole t got restarts = refl
restarts_with_memory s now AgainEmpty r o whole t got restarts =
    absurd (different r.packets.counters.restarts (subst (λ (x : Holding). has_restarted r.packets x.packets ≡ true) got.1 restarts))

-- Answers

not_memory_of : (e : Malformation) → error_of e ≡ errors.OutOfMemory → ⊥
not_memory_of (malformations.Rtp e) is = cc
not_memory_of malformations.Red is = cc
not_memory_of malformations.Retransmission is = cc

not_memory_in_red : (whole : Bool) (o : Outcome) → told_of_red whole o ≡ Err errors.OutOfMemory → ⊥
not_memory_in_red true o is = cc
not_memory_in_red false o is = cc

not_memory : (d : Datagram) (o : Outcome) (whole : Bool) → AnswersFor d o whole (Err errors.OutOfMemory) → ⊥
not_memory RtcpPacket o whole is = cc
not_memory (Malformed e) o whole is = not_memory_of e (cc)
not_memory OfOthers o whole is = cc
not_memory (WithoutMedia h) o whole is = cc
not_memory (WithMedia p) o whole is = cc
not_memory (InRed c) o whole is = not_memory_in_red whole o (sym is)
not_memory (Again it) o whole is = cc
not_memory (AgainInRed c) o whole is = not_memory_in_red whole o (sym is)
not_memory AgainEmpty o whole is = cc

pub heard : (now : Ticks) (d : Datagram) (s t : Session) (o : Outcome) (whole : Bool) (packets : Receiving) (seen : Seen) (answer : Result Outcome ReceiveError)
    → TakesDatagram s.stream now d (record { packets = s.packets; seen = s.seen }) o whole (record { packets = packets; seen = seen }) → AnswersFor d o whole answer
    → t ≡ record s {
      ssrc = ssrc_after s.ssrc d;
      packets = packets;
      arrived = arrived_with s.arrived d;
      reception = reception_after o s.packets packets s.reception now.0 d;
      choice = record s.choice { latest = latest_after s.choice.latest now.0 (origin_of d) };
      seen = seen;
      notes = notes_after s.notes s.stream d o s.packets packets;
    }
    → Heard now d s answer t
heard now d s t o whole packets seen (Ok told) takes answers left = record { outcome = o; whole = whole; packets = packets; seen = seen; takes = takes; answers = answers; left = left }
heard now d s t o whole packets seen (Err (errors.Rtp e)) takes answers left = record { outcome = o; whole = whole; packets = packets; seen = seen; takes = takes; answers = answers; left = left }
heard now d s t o whole packets seen (Err errors.Red) takes answers left = record { outcome = o; whole = whole; packets = packets; seen = seen; takes = takes; answers = answers; left = left }
heard now d s t o whole packets seen (Err errors.Retransmission) takes answers left = record { outcome = o; whole = whole; packets = packets; seen = seen; takes = takes; answers = answers; left = left }
heard now d s t o whole packets seen (Err errors.BlocksOutOfMemory) takes answers left = record { outcome = o; whole = whole; packets = packets; seen = seen; takes = takes; answers = answers; left = left }
heard now d s t o whole packets seen (Err errors.OutOfMemory) takes answers left = absurd (not_memory d o whole answers)
