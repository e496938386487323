-- A receiver of RED stores packets and blocks by the rule of RedOnce, and remembers their times.
use Rattle.std.proofs.Common.{◌≡◌, ◌⊎◌, ◌∙◌, refl, sym, ap, subst, cond, inl, inr, ℕ, ◌+◌, ◌%◌, ◌^◌, ◌==◌, ◌&&◌, ◌||◌, not, Bool, true, false, List, [], ◌∷◌, length, Option, Some, None, arith}
use Rattle.std.specs.Prelude.{map, nat_lt}
use Rattle.std.specs.Option.{is_some}
use Rattle.codec_payload_base.specs.declared.wire.RtpHeader.{RtpHeader}
use Rattle.codec_payload_base.specs.declared.wire.Ticks.{Ticks}
use Rattle.codec_payload_numbers.specs.Numbers.{Numbering, answer_above, answer_by, answer_for, answer_anew, is_restarting, number_within, without_restart}
use Rattle.codec_payload_jitter.specs.Receiving.{Receiving, Arrival, ReceivesAs, ReceivesAgainAs, RecoversAs, RecoversIf, answer_by_time, answer_in, answer_to, answer_to_contradiction, follows_kept, is_contradicted, is_of_former_sender, is_stored, may_recover, next, number_again, number_again_for, would_store, would_store_at}
use Rattle.codec_payload_numbers.specs.declared.numbers.Extended.{Extended}
use Rattle.codec_payload_numbers.specs.declared.numbers.Extended.TheVariants as extended
use Rattle.codec_payload_jitter.specs.declared.outcome.Outcome.{Outcome}
use Rattle.codec_payload_datagrams.specs.Kinds.{Kinds, Carrier, RtcpPacket, Malformed, OfOthers, WithoutMedia, WithMedia, InRed, Again, AgainInRed, AgainEmpty, header_for, original_header}
use Rattle.codec_payload_receiver.specs.RedOnce.{AreListed, AreStoredByRule, HasNoBlock, IsForgotten, ReceivesByRule, block_at, packet_with, repeats, seen_after, seen_since, times_since}
use Rattle.codec_payload_numbers.specs.SeenTimes.{Seen, has_block, is_seen, none_seen, seen_past}
use Rattle.codec_payload_receiver.specs.Sessions.{Holding, NotesAgain, block_seen, has_restarted, RecoversAll, RecoversUnless, RecoversUnseen, TakesAgain, TakesDatagram, TakesMedia, TakesPrimaryAgain, TakesPrimaryIf, all_carried, is_own_media, is_repeat, is_restart, is_suspect, packet_seen, primary_seen}
use Rattle.codec_payload_receiver.proofs.BlockTimeLemmas.{new_has_no_block, packet_has_no_block, past_has_no_block}
use Rattle.codec_payload_receiver.proofs.SessionLemmas.{Balance, accepts_balance, accepts_restarts, media_balance, primary_again_balance, primary_balance, sent_again_balance}

-- Truth values

not_both : true ≡ false → ⊥
not_both same = cc

second_of : (a b : Bool) → a ≡ true → (a && b) ≡ false → b ≡ false
second_of true b is none = none
second_of false b is none = absurd (not_both (sym is))

first_of : (a b : Bool) → b ≡ true → (a && b) ≡ false → a ≡ false
first_of true true is none = none
first_of true false is none = absurd (not_both (sym is))
first_of false b is none = refl

-- A packet that is stored would be stored

without_is : (e : Extended) (b : Bool) (n : ℕ) → cond b (without_restart e) e ≡ extended.Number n → e ≡ extended.Number n
without_is (extended.Number x) true n is = is
without_is (extended.Restarted x) true n is = absurd (cc)
without_is extended.Suspect true n is = absurd (cc)
without_is extended.Spent true n is = absurd (cc)
without_is e false n is = is

-- a number above all others is within the windows only if it is the first
above_is : (s : Numbering) (g : Option ℕ) (low n : ℕ) → answer_above g low ≡ extended.Number n → answer_by s g low ≡ extended.Number n
above_is s None low n is = is
above_is s (Some g) low n is = by_test (nat_lt (is_restarting g low) (2 ^ 64)) is
  where
    by_test : (b : Bool) → cond b (extended.Restarted (is_restarting g low)) extended.Spent ≡ extended.Number n → answer_by s (Some g) low ≡ extended.Number n
    by_test true same = absurd (cc)
    by_test false same = absurd (cc)

contradiction_is : (r : Receiving) (header : RtpHeader) (n : ℕ) → answer_to_contradiction r header ≡ extended.Number n
    → answer_for r.numbering header.sequence_number ≡ extended.Number n
contradiction_is r header n is = by_test (follows_kept r.rate r.kept header) is
  where
    by_test : (b : Bool) → cond b (answer_anew r.numbering header.sequence_number) extended.Suspect ≡ extended.Number n
        → answer_for r.numbering header.sequence_number ≡ extended.Number n
    by_test true same = above_is r.numbering r.numbering.greatest header.sequence_number n same
    by_test false same = absurd (cc)

by_time_is : (r : Receiving) (header : RtpHeader) (e : Extended) (n : ℕ) → answer_by_time r header e ≡ extended.Number n
    → (e ≡ extended.Number n) ⊎ (answer_for r.numbering header.sequence_number ≡ extended.Number n)
by_time_is r header (extended.Number m) n is = by_test (is_contradicted r m header.timestamp) is
  where
    by_test : (b : Bool) → cond b (answer_to_contradiction r header) (extended.Number m) ≡ extended.Number n
        → (extended.Number m ≡ extended.Number n) ⊎ (answer_for r.numbering header.sequence_number ≡ extended.Number n)
    by_test true same = inr (contradiction_is r header n same)
    by_test false same = inl same
by_time_is r header (extended.Restarted m) n is = inl is
by_time_is r header extended.Suspect n is = inl is
by_time_is r header extended.Spent n is = inl is

-- a packet that has a number is not of the former sender
unless_former : (b : Bool) (e : Extended) (n : ℕ) → cond b extended.Spent e ≡ extended.Number n → e ≡ extended.Number n
unless_former true e n is = absurd (cc)
unless_former false e n is = is

-- a number within the windows is the number of a retransmission
again_is : (r : Receiving) (header : RtpHeader) (n : ℕ) → r.is_restarting ≡ false → answer_to r header ≡ extended.Number n → number_again r header.sequence_number ≡ Some n
again_is r header n running is =
    again (number (by_time_is r header (answer_in r header.sequence_number) n
    (unless_former (is_of_former_sender r header.sequence_number header.timestamp) (answer_by_time r header (answer_in r header.sequence_number)) n is)))
  where
    again : answer_for r.numbering header.sequence_number ≡ extended.Number n → number_again r header.sequence_number ≡ Some n
    again same =
        ap (λ (b : Bool). cond b None (number_within (answer_for r.numbering header.sequence_number))) running
        ∙ ap number_within same

    number : (answer_in r header.sequence_number ≡ extended.Number n) ⊎ (answer_for r.numbering header.sequence_number ≡ extended.Number n)
        → answer_for r.numbering header.sequence_number ≡ extended.Number n
    number (inr same) = same
    number (inl same) =
        without_is (answer_for r.numbering header.sequence_number) r.ended n
        (sym (ap (λ (b : Bool). cond b (answer_anew r.numbering header.sequence_number) (cond r.ended (without_restart (answer_for r.numbering header.sequence_number)) (answer_for r.numbering header.sequence_number))) running) ∙ same)

stored_as : (e : Extended) (a : Arrival) (r mid : Receiving) (o : Outcome) (answer : Option ℕ) → ((n : ℕ) → e ≡ extended.Number n → answer ≡ Some n) → ReceivesAs e a r o mid → is_stored o ≡ true
    → would_store_at answer r ≡ true
stored_as (extended.Number n) a r mid o answer same got stored =
    ap (λ (x : Option ℕ). would_store_at x r) (same n refl) ∙ (sym (ap is_stored got.1.2) ∙ stored)
stored_as (extended.Restarted n) a r mid o answer same got stored = absurd (not_both (sym stored ∙ ap is_stored got.1.5))
stored_as extended.Suspect a r mid o answer same got stored = absurd (not_both (sym stored ∙ ap is_stored got.0))
stored_as extended.Spent a r mid o answer same got stored = absurd (not_both (sym stored ∙ ap is_stored got.0))

again_stored_as : (number : Option ℕ) (a : Arrival) (r t : Receiving) (o : Outcome) → ReceivesAgainAs number a r o t → is_stored o ≡ true → would_store_at number r ≡ true
again_stored_as None a r t o got stored = absurd (not_both (sym stored ∙ ap is_stored got.0))
again_stored_as (Some n) a r t o got stored = sym (ap is_stored got.1.1.2) ∙ stored

-- nor is a retransmission that is stored
stored_unless_former : (b : Bool) (number : Option ℕ) (r : Receiving) → would_store_at (cond b None number) r ≡ true → would_store_at number r ≡ true
stored_unless_former true number r stored = absurd (not_both (sym stored))
stored_unless_former false number r stored = stored

-- Whether a stored packet repeats a block

-- it does not, since it was not treated as a repeat
unrepeated : (s : Kinds) (seen : Seen) (r : Receiving) (time low : ℕ) → is_some s.red ≡ true → would_store r low ≡ true → is_repeat s seen r time low ≡ false
    → has_block time seen.places ≡ false
unrepeated s seen r time low red stored none =
    second_of (is_some s.red) (has_block time seen.places) red (first_of (is_some s.red && has_block time seen.places) (would_store r low) stored none)

or_false : (b : Bool) → (b || false) ≡ true → b ≡ true
or_false true is = refl
or_false false is = is

packet_rule : (o : Outcome) (time : ℕ) (seen : Seen) → (is_restart o ≡ false → is_stored o ≡ true → has_block time seen.places ≡ false) → (packet_with o time).is_stored ≡ true
    → repeats (seen_since o seen) (packet_with o time).seen ≡ false
packet_rule o time seen free stored = by_test (is_restart o) refl stored
  where
    by_test : (b : Bool) → is_restart o ≡ b → (is_stored o || b) ≡ true → has_block time (cond b none_seen seen).places ≡ false
    by_test true is either = new_has_no_block time
    by_test false is either = free is (or_false (is_stored o) either)

-- Packets

media_stored : (b : Bool) (a : Arrival) (r t : Receiving) (o : Outcome) → TakesMedia b a r o t → r.is_restarting ≡ false → is_stored o ≡ true
    → (b ≡ false) × (would_store r a.header.sequence_number ≡ true)
media_stored false a r t o got running stored =
    (refl, stored_as (answer_to r a.header) a r got.0 o (number_again r a.header.sequence_number) (λ n is. again_is r a.header n running is) got.1 stored)
media_stored true a r t o got running stored = absurd (not_both (sym stored ∙ ap is_stored got.0))

sent_again_stored : (b : Bool) (a : Arrival) (r t : Receiving) (o : Outcome) → TakesAgain b a r o t → is_stored o ≡ true → (b ≡ false) × (would_store r a.header.sequence_number ≡ true)
sent_again_stored false a r t o got stored =
    let low : ℕ = a.header.sequence_number in
    let time : ℕ = a.header.timestamp in
    (refl, stored_unless_former (is_of_former_sender r low time) (number_again r low) r (again_stored_as (number_again_for r low time) a r t o got stored))
sent_again_stored true a r t o got stored = absurd (not_both (sym stored ∙ ap is_stored got.0))

media_running : (b : Bool) (a : Arrival) (r t : Receiving) (o : Outcome) → TakesMedia b a r o t → t.is_restarting ≡ false
media_running false a r t o got = ap (λ (x : Receiving). x.is_restarting) got.2
media_running true a r t o got = ap (λ (x : Receiving). x.is_restarting) got.1.2

again_as_running : (number : Option ℕ) (a : Arrival) (r t : Receiving) (o : Outcome) → r.is_restarting ≡ false → ReceivesAgainAs number a r o t → t.is_restarting ≡ false
again_as_running None a r t o running got = ap (λ (x : Receiving). x.is_restarting) got.1 ∙ running
again_as_running (Some n) a r t o running got = ap (λ (x : Receiving). x.is_restarting) got.2

-- Blocks

going_on : (r : Holding) → r.packets.is_restarting ≡ false → IsForgotten r
going_on r running is = absurd (not_both (sym is ∙ running))

same_forgotten : (r t : Holding) → IsForgotten r → t.seen ≡ r.seen → t.packets.is_restarting ≡ r.packets.is_restarting → IsForgotten t
same_forgotten r t forgotten seen same is time = ap (λ (x : Seen). has_block time x.places) seen ∙ forgotten (sym same ∙ is) time

-- the stored blocks among them
pub record Stored (r t : Holding) : Type 0 where
  pub blocks : List ℕ
  pub by_rule : AreStoredByRule r.seen (map block_at blocks)
  pub seen : t.seen ≡ seen_after r.seen (map block_at blocks)
  pub recovered : t.packets.counters.recovered % 2 ^ 64 ≡ (r.packets.counters.recovered + length blocks) % 2 ^ 64
  pub restarts : t.packets.counters.restarts ≡ r.packets.counters.restarts
  pub running : r.packets.is_restarting ≡ false → t.packets.is_restarting ≡ false
  pub forgotten : IsForgotten r → IsForgotten t

none_stored : (r t : Holding) → t.seen ≡ r.seen → t.packets.counters.recovered ≡ r.packets.counters.recovered → t.packets.counters.restarts ≡ r.packets.counters.restarts
    → t.packets.is_restarting ≡ r.packets.is_restarting → Stored r t
none_stored r t seen recovered restarts running = record {
  blocks = [];
  by_rule = tt;
  seen = seen;
  recovered = omega (arith, recovered);
  restarts = restarts;
  running = λ is. running ∙ is;
  forgotten = λ before. same_forgotten r t before seen running;
}

nothing_stored : (r t : Holding) → t ≡ r → Stored r t
nothing_stored r t same =
    none_stored r t (ap (λ (x : Holding). x.seen) same) (ap (λ (x : Holding). x.packets.counters.recovered) same)
    (ap (λ (x : Holding). x.packets.counters.restarts) same) (ap (λ (x : Holding). x.packets.is_restarting) same)

-- the header and payload of a packet from a redundant block
abbrev pub CountsOne : Bool → Receiving → Receiving → Type 0
CountsOne true r t = (t.counters.recovered ≡ next r.counters.recovered) × (t.is_restarting ≡ false) × (t.counters.restarts ≡ r.counters.restarts)
CountsOne false r t = (t.counters.recovered ≡ r.counters.recovered) × (t.is_restarting ≡ r.is_restarting) × (t.counters.restarts ≡ r.counters.restarts)

unchanged : (r t : Receiving) (went_in : Bool) → went_in ≡ false → t ≡ r → CountsOne went_in r t
unchanged r t went_in is same = subst (λ (b : Bool). CountsOne b r t) (sym is)
    (ap (λ (x : Receiving). x.counters.recovered) same, ap (λ (x : Receiving). x.is_restarting) same, ap (λ (x : Receiving). x.counters.restarts) same)

counts_if : (b : Bool) (n : ℕ) (a : Arrival) (r t : Receiving) (went_in : Bool) → RecoversIf b n a r went_in t → CountsOne went_in r t
counts_if false n a r t went_in got = unchanged r t went_in got.0 got.1
counts_if true n a r t went_in got =
    let mid : got.1.counters.recovered ≡ r.counters.recovered = ap (λ (b : Balance). b.recovered) (accepts_balance a n r got.1 got.0 got.2) in
    let one : t.counters.recovered ≡ next r.counters.recovered = ap (λ (x : Receiving). x.counters.recovered) got.4 ∙ ap next mid in
    let restarts : t.counters.restarts ≡ r.counters.restarts = ap (λ (x : Receiving). x.counters.restarts) got.4 ∙ accepts_restarts a n r got.1 got.0 got.2 in
    subst (λ (b : Bool). CountsOne b r t) (sym got.3) (one, ap (λ (x : Receiving). x.is_restarting) got.4, restarts)

counts_as : (number : Option ℕ) (a : Arrival) (r t : Receiving) (went_in : Bool) → RecoversAs number a r went_in t → CountsOne went_in r t
counts_as None a r t went_in got = unchanged r t went_in got.0 got.1
counts_as (Some n) a r t went_in got = counts_if (may_recover r n) n a r t went_in got

-- a block, and those after it
one_more : (went_in : Bool) (time : ℕ) (r mid t : Holding) → is_seen time r.seen.places ≡ false → CountsOne went_in r.packets mid.packets → mid.seen ≡ block_seen went_in time r.seen → Stored mid t → Stored r t
one_more false time r mid t unseen counts seen rest = record {
  blocks = rest.blocks;
  by_rule = subst (λ (s : Seen). AreStoredByRule s (map block_at rest.blocks)) seen rest.by_rule;
  seen = rest.seen ∙ ap (λ (s : Seen). seen_after s (map block_at rest.blocks)) seen;
  recovered = omega (arith, rest.recovered, counts.0);
  restarts = rest.restarts ∙ counts.2;
  running = λ is. rest.running (counts.1 ∙ is);
  forgotten = λ before. rest.forgotten (same_forgotten r mid before seen counts.1);
}
one_more true time r mid t unseen counts seen rest = record {
  blocks = time ∷ rest.blocks;
  by_rule = (λ stored. unseen, subst (λ (s : Seen). AreStoredByRule s (map block_at rest.blocks)) seen rest.by_rule);
  seen = rest.seen ∙ ap (λ (s : Seen). seen_after s (map block_at rest.blocks)) seen;
  recovered = omega (arith, rest.recovered, counts.0);
  restarts = rest.restarts ∙ counts.2;
  running = λ is. rest.running counts.1;
  forgotten = λ before. rest.forgotten (going_on mid counts.1);
}

one_then : (b : Bool) (a : Arrival) (r mid t : Holding) → is_seen a.header.timestamp r.seen.places ≡ b → RecoversUnseen b a r mid → Stored mid t → Stored r t
one_then true a r mid t is got rest = subst (λ (x : Holding). Stored x t) got rest
one_then false a r mid t is got rest =
    one_more got.0 a.header.timestamp r mid t is (counts_as (number_again_for r.packets a.header.sequence_number a.header.timestamp) a r.packets mid.packets got.0 got.1) got.2 rest

all_stored : (whole : Bool) (all : List Arrival) (r t : Holding) → RecoversAll whole all r t → Stored r t
all_stored true [] r t got = nothing_stored r t got
all_stored true (a ∷ more) r t got = one_then (is_seen a.header.timestamp r.seen.places) a r got.0 t refl got.1 (all_stored true more got.0 t got.2)
all_stored false [] r t got = absurd got
all_stored false (a ∷ more) r t (inl same) = nothing_stored r t same
all_stored false (a ∷ more) r t (inr got) = one_then (is_seen a.header.timestamp r.seen.places) a r got.0 t refl got.1 (all_stored false more got.0 t got.2)

unless_stored : (suspect whole : Bool) (all : List Arrival) (r t : Holding) → RecoversUnless suspect whole all r t → Stored r t
unless_stored true whole all r t got = nothing_stored r t got.1
unless_stored false whole all r t got = all_stored whole all r t got

-- Datagrams

-- after an announced restart no block is remembered; otherwise a stored packet was not treated as a repeat
free_of : (s : Kinds) (r : Holding) (time low : ℕ) (o : Outcome) → is_some s.red ≡ true → IsForgotten r
    → (r.packets.is_restarting ≡ false → is_stored o ≡ true → (is_repeat s r.seen r.packets time low ≡ false) × (would_store r.packets low ≡ true))
    → is_restart o ≡ false → is_stored o ≡ true → has_block time r.seen.places ≡ false
free_of s r time low o red forgotten new going stored = by_test r.packets.is_restarting refl
  where
    by_test : (b : Bool) → r.packets.is_restarting ≡ b → has_block time r.seen.places ≡ false
    by_test true is = forgotten is time
    by_test false is = unrepeated s r.seen r.packets time low red (new is stored).1 (new is stored).0

-- a packet, and the blocks after it
packet_listed : (o : Outcome) (time : ℕ) (r mid t : Holding) → (is_restart o ≡ false → is_stored o ≡ true → has_block time r.seen.places ≡ false)
    → mid.seen ≡ packet_seen true o time r.seen → mid.packets.counters.recovered ≡ r.packets.counters.recovered → Stored mid t → AreListed true o time r t
packet_listed o time r mid t free seen recovered rest = record {
  blocks = rest.blocks;
  by_rule = (packet_rule o time r.seen free, subst (λ (s : Seen). AreStoredByRule s (map block_at rest.blocks)) seen rest.by_rule);
  seen = rest.seen ∙ ap (λ (s : Seen). seen_after s (map block_at rest.blocks)) seen;
  recovered = omega (arith, rest.recovered, recovered);
}

same_holding : (t : Holding) → Stored t t
same_holding t = nothing_stored t t refl

media_listed : (s : Kinds) (low : ℕ) (a : Arrival) (r t : Holding) (o : Outcome) → is_some s.red ≡ true → IsForgotten r → low ≡ a.header.sequence_number
    → TakesMedia (is_repeat s r.seen r.packets a.header.timestamp low) a r.packets o t.packets → t.seen ≡ packet_seen (is_some s.red) o a.header.timestamp r.seen
    → IsForgotten t × AreListed true o a.header.timestamp r t
media_listed s low a r t o red forgotten at got seen =
    let repeat : Bool = is_repeat s r.seen r.packets a.header.timestamp low in (
      going_on t (media_running repeat a r.packets t.packets o got),
      packet_listed o a.header.timestamp r t t
          (free_of s r a.header.timestamp low o red forgotten (λ running stored. subst (λ (n : ℕ). (repeat ≡ false) × (would_store r.packets n ≡ true)) (sym at) (media_stored repeat a r.packets t.packets o got running stored)))
          (seen ∙ ap (λ (b : Bool). packet_seen b o a.header.timestamp r.seen) red)
          (ap (λ (b : Balance). b.recovered) (media_balance repeat a r.packets t.packets o got)) (same_holding t),
    )

again_forgotten : (b : Bool) (a : Arrival) (r t : Holding) (o : Outcome) → IsForgotten r → TakesAgain b a r.packets o t.packets → (r.packets.is_restarting ≡ true → HasNoBlock t.seen) → IsForgotten t
again_forgotten b a r t o forgotten got left = by_test r.packets.is_restarting refl b got
  where
    running_then : (b : Bool) → TakesAgain b a r.packets o t.packets → r.packets.is_restarting ≡ false → t.packets.is_restarting ≡ false
    running_then false got running = again_as_running (number_again_for r.packets a.header.sequence_number a.header.timestamp) a r.packets t.packets o running got
    running_then true got running = ap (λ (x : Receiving). x.is_restarting) got.1.2

    by_test : (restarting : Bool) → r.packets.is_restarting ≡ restarting → (b : Bool) → TakesAgain b a r.packets o t.packets → IsForgotten t
    by_test true is b got = λ still. left is
    by_test false is b got = going_on t (running_then b got is)

again_listed : (s : Kinds) (low : ℕ) (a : Arrival) (r t : Holding) (o : Outcome) → is_some s.red ≡ true → IsForgotten r → low ≡ a.header.sequence_number
    → TakesAgain (is_repeat s r.seen r.packets a.header.timestamp low) a r.packets o t.packets → t.seen ≡ packet_seen (is_some s.red) o a.header.timestamp r.seen
    → IsForgotten t × AreListed true o a.header.timestamp r t
again_listed s low a r t o red forgotten at got seen =
    let repeat : Bool = is_repeat s r.seen r.packets a.header.timestamp low in (
      again_forgotten repeat a r t o forgotten got (λ is. subst HasNoBlock (sym seen) (packet_has_no_block (is_some s.red) o a.header.timestamp r.seen (forgotten is))),
      packet_listed o a.header.timestamp r t t
          (free_of s r a.header.timestamp low o red forgotten (λ running stored. subst (λ (n : ℕ). (repeat ≡ false) × (would_store r.packets n ≡ true)) (sym at) (sent_again_stored repeat a r.packets t.packets o got stored)))
          (seen ∙ ap (λ (b : Bool). packet_seen b o a.header.timestamp r.seen) red)
          (ap (λ (b : Balance). b.recovered) (sent_again_balance repeat a r.packets t.packets o got)) (same_holding t),
    )

-- the primary block of a RED packet

-- the blocks beside it confirm no restart
past_is : (r : Holding) (mid : Receiving) (t : Holding) → t.packets.counters.restarts ≡ mid.counters.restarts → seen_past (has_restarted r.packets t.packets) r.seen ≡ seen_past (has_restarted r.packets mid) r.seen
past_is r mid t same = ap (λ (n : ℕ). seen_past (not (n == r.packets.counters.restarts)) r.seen) same

primary_running : (b : Bool) (s : Kinds) (now : Ticks) (c : Carrier) (r t : Receiving) (o : Outcome) → TakesPrimaryIf b s now c r o t → t.is_restarting ≡ false
primary_running true s now c r t o got = ap (λ (x : Receiving). x.is_restarting) got.2
primary_running false s now c r t o got = ap (λ (x : Receiving). x.is_restarting) got.1.2

primary_stored : (repeat : Bool) (s : Kinds) (now : Ticks) (c : Carrier) (r t : Receiving) (o : Outcome) → TakesPrimaryIf (not repeat) s now c r o t → r.is_restarting ≡ false
    → is_stored o ≡ true → (repeat ≡ false) × (would_store r c.header.sequence_number ≡ true)
primary_stored false s now c r t o got running stored = (
  refl,
  stored_as (answer_to r (header_for s c.header)) (record { now = now; header = header_for s c.header; bytes = c.primary.payload }) r got.0 o (number_again r c.header.sequence_number)
      (λ n is. again_is r (header_for s c.header) n running is) got.1 stored,
)
primary_stored true s now c r t o got running stored = absurd (not_both (sym stored ∙ ap is_stored got.0))

red_listed : (s : Kinds) (now : Ticks) (c : Carrier) (r t : Holding) (o : Outcome) (whole : Bool) → is_some s.red ≡ true → IsForgotten r → TakesDatagram s now (InRed c) r o whole t
    → IsForgotten t × AreListed (is_own_media s c) o c.header.timestamp r t
red_listed s now c r t o whole red forgotten got = by_media (is_own_media s c) got.1 got.2
  where
    by_media : (own : Bool) → TakesPrimaryIf (own && not (is_repeat s r.seen r.packets c.header.timestamp c.header.sequence_number)) s now c r.packets o got.0
        → RecoversUnless (is_suspect o) whole (all_carried s now c) (record { packets = got.0; seen = primary_seen own o c.header.timestamp (has_restarted r.packets got.0) r.seen }) t
        → IsForgotten t × AreListed own o c.header.timestamp r t
    by_media true primary blocks =
        let mid : Holding = record { packets = got.0; seen = packet_seen true o c.header.timestamp r.seen } in
        let repeated : Bool = is_repeat s r.seen r.packets c.header.timestamp c.header.sequence_number in
        let rest : Stored mid t = unless_stored (is_suspect o) whole (all_carried s now c) mid t blocks in (
          going_on t (rest.running (primary_running (not repeated) s now c r.packets got.0 o primary)),
          packet_listed o c.header.timestamp r mid t
              (free_of s r c.header.timestamp c.header.sequence_number o red forgotten (primary_stored repeated s now c r.packets got.0 o primary)) refl
              (ap (λ (b : Balance). b.recovered) (primary_balance (not repeated) s now c r.packets got.0 o primary)) rest,
        )
    by_media false primary blocks =
        let mid : Holding = record { packets = got.0; seen = seen_past (has_restarted r.packets got.0) r.seen } in
        let rest : Stored mid t = unless_stored (is_suspect o) whole (all_carried s now c) mid t blocks in
        let since : times_since false o r t ≡ mid.seen = past_is r got.0 t rest.restarts in
        let same : got.0.counters.recovered ≡ r.packets.counters.recovered = ap (λ (b : Balance). b.recovered) (primary_balance false s now c r.packets got.0 o primary) in (
          going_on t (rest.running (primary_running false s now c r.packets got.0 o primary)),
          record {
            blocks = rest.blocks;
            by_rule = subst (λ (x : Seen). AreStoredByRule x (map block_at rest.blocks)) (sym since) rest.by_rule;
            seen = rest.seen ∙ ap (λ (x : Seen). seen_after x (map block_at rest.blocks)) (sym since);
            recovered = omega (arith, rest.recovered, same);
          },
        )

-- a retransmitted RED packet

notes_again_running : (b : Bool) (low : ℕ) (r t : Receiving) (o : Outcome) → NotesAgain b low r o t → r.is_restarting ≡ false → t.is_restarting ≡ false
notes_again_running true low r t o got running = ap (λ (x : Receiving). x.is_restarting) got.1.2
notes_again_running false low r t o got running = ap (λ (x : Receiving). x.is_restarting) got.1 ∙ running

-- without media no time is noted
notes_again_forgotten : (b : Bool) (low : ℕ) (r t : Holding) (o : Outcome) → IsForgotten r → NotesAgain b low r.packets o t.packets → (HasNoBlock r.seen → HasNoBlock t.seen) → IsForgotten t
notes_again_forgotten b low r t o forgotten got none = by_test r.packets.is_restarting refl
  where
    by_test : (restarting : Bool) → r.packets.is_restarting ≡ restarting → IsForgotten t
    by_test true is = λ still. none (forgotten is)
    by_test false is = going_on t (notes_again_running b low r.packets t.packets o got is)

red_again_listed : (s : Kinds) (now : Ticks) (c : Carrier) (r t : Holding) (o : Outcome) (whole : Bool) → is_some s.red ≡ true → IsForgotten r → TakesDatagram s now (AgainInRed c) r o whole t
    → IsForgotten t × AreListed (is_own_media s c) o c.header.timestamp r t
red_again_listed s now c r t o whole red forgotten got = by_media (is_own_media s c) got.1 got.2
  where
    by_media : (own : Bool) → TakesPrimaryAgain own s now c r.seen r.packets o got.0
        → RecoversAll whole (all_carried s now c) (record { packets = got.0; seen = primary_seen own o c.header.timestamp (has_restarted r.packets got.0) r.seen }) t
        → IsForgotten t × AreListed own o c.header.timestamp r t
    by_media true primary blocks =
        let a : Arrival = record { now = now; header = header_for s c.header; bytes = c.primary.payload } in
        let mid : Holding = record { packets = got.0; seen = packet_seen true o c.header.timestamp r.seen } in
        let repeated : Bool = is_repeat s r.seen r.packets c.header.timestamp c.header.sequence_number in
        let rest : Stored mid t = all_stored whole (all_carried s now c) mid t blocks in
        let kept : IsForgotten mid =
        again_forgotten repeated a r mid o forgotten primary (λ is. packet_has_no_block true o c.header.timestamp r.seen (forgotten is)) in (
          rest.forgotten kept,
          packet_listed o c.header.timestamp r mid t
              (free_of s r c.header.timestamp c.header.sequence_number o red forgotten (λ running stored. sent_again_stored repeated a r.packets got.0 o primary stored)) refl
              (ap (λ (b : Balance). b.recovered) (sent_again_balance repeated a r.packets got.0 o primary)) rest,
        )
    by_media false primary blocks =
        let mid : Holding = record { packets = got.0; seen = seen_past (has_restarted r.packets got.0) r.seen } in
        let rest : Stored mid t = all_stored whole (all_carried s now c) mid t blocks in
        let would : Bool = would_store r.packets c.header.sequence_number in
        let since : times_since false o r t ≡ mid.seen = past_is r got.0 t rest.restarts in
        let same : got.0.counters.recovered ≡ r.packets.counters.recovered = ap (λ (b : Balance). b.recovered) (primary_again_balance false s now c r.seen r.packets got.0 o primary) in (
          rest.forgotten (notes_again_forgotten would c.header.sequence_number r mid o forgotten primary (past_has_no_block (has_restarted r.packets got.0) r.seen)),
          record {
            blocks = rest.blocks;
            by_rule = subst (λ (x : Seen). AreStoredByRule x (map block_at rest.blocks)) (sym since) rest.by_rule;
            seen = rest.seen ∙ ap (λ (x : Seen). seen_after x (map block_at rest.blocks)) (sym since);
            recovered = omega (arith, rest.recovered, same);
          },
        )

unchanged_by : (r t : Holding) → IsForgotten r → t ≡ r → IsForgotten t × (t.seen ≡ r.seen)
unchanged_by r t forgotten same = (subst IsForgotten (sym same) forgotten, ap (λ (x : Holding). x.seen) same)

pub stored_by_rule : ReceivesByRule
stored_by_rule s now RtcpPacket r t o whole red forgotten got = unchanged_by r t forgotten got.1
stored_by_rule s now (Malformed e) r t o whole red forgotten got = unchanged_by r t forgotten got
stored_by_rule s now OfOthers r t o whole red forgotten got = unchanged_by r t forgotten got.1
stored_by_rule s now (WithoutMedia h) r t o whole red forgotten got = (going_on t (ap (λ (x : Receiving). x.is_restarting) got.1.2), got.2)
stored_by_rule s now (WithMedia p) r t o whole red forgotten got =
    media_listed s p.header.sequence_number (record { now = now; header = header_for s p.header; bytes = p.payload }) r t o red forgotten refl got.0 got.1
stored_by_rule s now (InRed c) r t o whole red forgotten got = red_listed s now c r t o whole red forgotten got
stored_by_rule s now (Again it) r t o whole red forgotten got =
    again_listed s it.number (record { now = now; header = original_header s it; bytes = it.bytes }) r t o red forgotten refl got.0 got.1
stored_by_rule s now (AgainInRed c) r t o whole red forgotten got = red_again_listed s now c r t o whole red forgotten got
stored_by_rule s now AgainEmpty r t o whole red forgotten got =
    let seen : t.seen ≡ r.seen = ap (λ (x : Holding). x.seen) got.1 in
    (same_forgotten r t forgotten seen (ap (λ (x : Holding). x.packets.is_restarting) got.1), seen)
