-- Every datagram of a run is counted.
use Rattle.std.proofs.Common.{◌≡◌, ◌∙◌, inl, inr, refl, sym, ap, subst, subst₂, append-nil, append_assoc, ℕ, ◌+◌, ◌%◌, ◌^◌, Bool, false, List, [], ◌∷◌, ◌++◌, Option, Some, None, Result, Ok, Err, arith}
use Rattle.std.specs.Prelude.{IsErr}
use Rattle.std.specs.Global.{Vec}
use Rattle.std.specs.declared.alloc.AllocError.{AllocError}
use Rattle.codec_payload_base.specs.declared.wire.Ticks.{Ticks}
use Rattle.codec_payload_jitter.specs.Receiving.{next}
use Rattle.std.specs.List.{position}
use Rattle.codec_payload_session_requests.specs.declared.requests.KeyframeAnswer.{KeyframeAnswer}
use Rattle.codec_payload_session.specs.Keyframes.{answer_among}
use Rattle.codec_payload_session.specs.Arrivals.{Port, has_ssrc}
use Rattle.codec_payload_session.specs.Accepting.{Accepts, noted_in, time_for}
use Rattle.codec_payload_session.specs.Associations.{AssociatesBy, pair_at}
use Rattle.codec_payload_session.specs.Polls.{GoesOn, PollsAfter, SendsAfter, TurnsOrReports}
use Rattle.codec_payload_session.specs.Ports.{IsSum, Receives, Session, counted as counted_as, counts_with, new_session}
use Rattle.codec_payload_session_formats.specs.declared.formats.SessionSettings.{SessionSettings}
use Rattle.codec_payload_session_formats.specs.declared.formats.SsrcPair.{SsrcPair}
use Rattle.codec_payload_session_stream.specs.declared.arrival.Arrival.{Arrival}
use Rattle.codec_payload_session_stream.specs.declared.arrival.Arrival.TheVariants as arrivals
use Rattle.codec_payload_session_stream.specs.Units.{Event}
use Rattle.codec_payload_session.specs.declared.session.SessionCounts.{SessionCounts}
use Rattle.codec_payload_session_runs.specs.Counting.{Counts, answered_with, is_any, is_malformed, is_refused, is_rtcp, is_taken, is_unassociated, is_unknown, many, one_if}
use Rattle.codec_payload_session_runs.specs.SessionRuns.{AddsPair, Call, Does, Runs}
use Rattle.codec_payload_session_runs.specs.declared.run.SessionStep.{SessionStep}
use Rattle.codec_payload_session_runs.specs.declared.run.SessionStep.TheVariants as calls
use Rattle.codec_payload_session_runs.specs.declared.run.StepAnswer.{StepAnswer}
use Rattle.codec_payload_session_runs.specs.declared.run.StepAnswer.TheVariants as answers

many_more : (kind : Arrival → Bool) (cs : List Call) (c : Call) → many kind (cs ++ c ∷ []) ≡ many kind cs + one_if (answered_with kind c.answer)
many_more kind [] c = omega arith
many_more kind (d ∷ cs) c = omega (arith, many_more kind cs c)

-- each counter is how often the calls answered so
pub record Tally (cs : List Call) (s : Session) : Type 0 where
  pub received : s.counts.received ≡ many is_any cs % 2 ^ 64
  pub rtcp : s.counts.rtcp ≡ many is_rtcp cs % 2 ^ 64
  pub malformed : s.counts.malformed ≡ many is_malformed cs % 2 ^ 64
  pub unknown : s.counts.unknown ≡ many is_unknown cs % 2 ^ 64
  pub refused : s.counts.refused ≡ many is_refused cs % 2 ^ 64
  pub unassociated : s.counts.unassociated ≡ many is_unassociated cs % 2 ^ 64
  pub whole : many is_any cs ≡ many is_rtcp cs + many is_malformed cs + many is_unknown cs + many is_refused cs + many is_unassociated cs + many is_taken cs

up : (m n k : ℕ) → m ≡ n % 2 ^ 64 → k ≡ n + 1 → next m ≡ k % 2 ^ 64
up m n k is more = omega arith

same : (m n k : ℕ) → m ≡ n % 2 ^ 64 → k ≡ n + 0 → m ≡ k % 2 ^ 64
same m n k is more = omega arith

abbrev receive_call : Ticks → Option ℕ → Vec ℕ → Result Arrival AllocError → Call
receive_call now micros datagram answer = record { step = calls.Receive now micros datagram; answer = answers.Received answer }

abbrev Totals : List Call → Type 0
Totals cs = many is_any cs ≡ many is_rtcp cs + many is_malformed cs + many is_unknown cs + many is_refused cs + many is_unassociated cs + many is_taken cs

-- one more datagram
arrival_tally : (a : Arrival) (now : Ticks) (micros : Option ℕ) (datagram : Vec ℕ) (cs : List Call) (s t : Session) → Tally cs s → t.counts ≡ counted_as a s.counts
    → Tally (cs ++ receive_call now micros datagram (Ok a) ∷ []) t
arrival_tally arrivals.Rtcp now micros datagram cs s t got is =
    let c : Call = receive_call now micros datagram (Ok arrivals.Rtcp) in
    record {
      received = ap (λ (x : _). x.received) is ∙ up s.counts.received (many is_any cs) (many is_any (cs ++ c ∷ [])) got.received (many_more is_any cs c);
      rtcp = ap (λ (x : _). x.rtcp) is ∙ up s.counts.rtcp (many is_rtcp cs) (many is_rtcp (cs ++ c ∷ [])) got.rtcp (many_more is_rtcp cs c);
      malformed = ap (λ (x : _). x.malformed) is ∙ same s.counts.malformed (many is_malformed cs) (many is_malformed (cs ++ c ∷ [])) got.malformed (many_more is_malformed cs c);
      unknown = ap (λ (x : _). x.unknown) is ∙ same s.counts.unknown (many is_unknown cs) (many is_unknown (cs ++ c ∷ [])) got.unknown (many_more is_unknown cs c);
      refused = ap (λ (x : _). x.refused) is ∙ same s.counts.refused (many is_refused cs) (many is_refused (cs ++ c ∷ [])) got.refused (many_more is_refused cs c);
      unassociated = ap (λ (x : _). x.unassociated) is ∙ same s.counts.unassociated (many is_unassociated cs) (many is_unassociated (cs ++ c ∷ [])) got.unassociated (many_more is_unassociated cs c);
      whole = omega (arith, got.whole, many_more is_any cs c, many_more is_rtcp cs c, many_more is_malformed cs c, many_more is_unknown cs c, many_more is_refused cs c, many_more is_unassociated cs c, many_more is_taken cs c);
    }
arrival_tally arrivals.Malformed now micros datagram cs s t got is =
    let c : Call = receive_call now micros datagram (Ok arrivals.Malformed) in
    record {
      received = ap (λ (x : _). x.received) is ∙ up s.counts.received (many is_any cs) (many is_any (cs ++ c ∷ [])) got.received (many_more is_any cs c);
      rtcp = ap (λ (x : _). x.rtcp) is ∙ same s.counts.rtcp (many is_rtcp cs) (many is_rtcp (cs ++ c ∷ [])) got.rtcp (many_more is_rtcp cs c);
      malformed = ap (λ (x : _). x.malformed) is ∙ up s.counts.malformed (many is_malformed cs) (many is_malformed (cs ++ c ∷ [])) got.malformed (many_more is_malformed cs c);
      unknown = ap (λ (x : _). x.unknown) is ∙ same s.counts.unknown (many is_unknown cs) (many is_unknown (cs ++ c ∷ [])) got.unknown (many_more is_unknown cs c);
      refused = ap (λ (x : _). x.refused) is ∙ same s.counts.refused (many is_refused cs) (many is_refused (cs ++ c ∷ [])) got.refused (many_more is_refused cs c);
      unassociated = ap (λ (x : _). x.unassociated) is ∙ same s.counts.unassociated (many is_unassociated cs) (many is_unassociated (cs ++ c ∷ [])) got.unassociated (many_more is_unassociated cs c);
      whole = omega (arith, got.whole, many_more is_any cs c, many_more is_rtcp cs c, many_more is_malformed cs c, many_more is_unknown cs c, many_more is_refused cs c, many_more is_unassociated cs c, many_more is_taken cs c);
    }
arrival_tally arrivals.Unknown now micros datagram cs s t got is =
    let c : Call = receive_call now micros datagram (Ok arrivals.Unknown) in
    record {
      received = ap (λ (x : _). x.received) is ∙ up s.counts.received (many is_any cs) (many is_any (cs ++ c ∷ [])) got.received (many_more is_any cs c);
      rtcp = ap (λ (x : _). x.rtcp) is ∙ same s.counts.rtcp (many is_rtcp cs) (many is_rtcp (cs ++ c ∷ [])) got.rtcp (many_more is_rtcp cs c);
      malformed = ap (λ (x : _). x.malformed) is ∙ same s.counts.malformed (many is_malformed cs) (many is_malformed (cs ++ c ∷ [])) got.malformed (many_more is_malformed cs c);
      unknown = ap (λ (x : _). x.unknown) is ∙ up s.counts.unknown (many is_unknown cs) (many is_unknown (cs ++ c ∷ [])) got.unknown (many_more is_unknown cs c);
      refused = ap (λ (x : _). x.refused) is ∙ same s.counts.refused (many is_refused cs) (many is_refused (cs ++ c ∷ [])) got.refused (many_more is_refused cs c);
      unassociated = ap (λ (x : _). x.unassociated) is ∙ same s.counts.unassociated (many is_unassociated cs) (many is_unassociated (cs ++ c ∷ [])) got.unassociated (many_more is_unassociated cs c);
      whole = omega (arith, got.whole, many_more is_any cs c, many_more is_rtcp cs c, many_more is_malformed cs c, many_more is_unknown cs c, many_more is_refused cs c, many_more is_unassociated cs c, many_more is_taken cs c);
    }
arrival_tally arrivals.Refused now micros datagram cs s t got is =
    let c : Call = receive_call now micros datagram (Ok arrivals.Refused) in
    record {
      received = ap (λ (x : _). x.received) is ∙ up s.counts.received (many is_any cs) (many is_any (cs ++ c ∷ [])) got.received (many_more is_any cs c);
      rtcp = ap (λ (x : _). x.rtcp) is ∙ same s.counts.rtcp (many is_rtcp cs) (many is_rtcp (cs ++ c ∷ [])) got.rtcp (many_more is_rtcp cs c);
      malformed = ap (λ (x : _). x.malformed) is ∙ same s.counts.malformed (many is_malformed cs) (many is_malformed (cs ++ c ∷ [])) got.malformed (many_more is_malformed cs c);
      unknown = ap (λ (x : _). x.unknown) is ∙ same s.counts.unknown (many is_unknown cs) (many is_unknown (cs ++ c ∷ [])) got.unknown (many_more is_unknown cs c);
      refused = ap (λ (x : _). x.refused) is ∙ up s.counts.refused (many is_refused cs) (many is_refused (cs ++ c ∷ [])) got.refused (many_more is_refused cs c);
      unassociated = ap (λ (x : _). x.unassociated) is ∙ same s.counts.unassociated (many is_unassociated cs) (many is_unassociated (cs ++ c ∷ [])) got.unassociated (many_more is_unassociated cs c);
      whole = omega (arith, got.whole, many_more is_any cs c, many_more is_rtcp cs c, many_more is_malformed cs c, many_more is_unknown cs c, many_more is_refused cs c, many_more is_unassociated cs c, many_more is_taken cs c);
    }
arrival_tally arrivals.Unassociated now micros datagram cs s t got is =
    let c : Call = receive_call now micros datagram (Ok arrivals.Unassociated) in
    record {
      received = ap (λ (x : _). x.received) is ∙ up s.counts.received (many is_any cs) (many is_any (cs ++ c ∷ [])) got.received (many_more is_any cs c);
      rtcp = ap (λ (x : _). x.rtcp) is ∙ same s.counts.rtcp (many is_rtcp cs) (many is_rtcp (cs ++ c ∷ [])) got.rtcp (many_more is_rtcp cs c);
      malformed = ap (λ (x : _). x.malformed) is ∙ same s.counts.malformed (many is_malformed cs) (many is_malformed (cs ++ c ∷ [])) got.malformed (many_more is_malformed cs c);
      unknown = ap (λ (x : _). x.unknown) is ∙ same s.counts.unknown (many is_unknown cs) (many is_unknown (cs ++ c ∷ [])) got.unknown (many_more is_unknown cs c);
      refused = ap (λ (x : _). x.refused) is ∙ same s.counts.refused (many is_refused cs) (many is_refused (cs ++ c ∷ [])) got.refused (many_more is_refused cs c);
      unassociated = ap (λ (x : _). x.unassociated) is ∙ up s.counts.unassociated (many is_unassociated cs) (many is_unassociated (cs ++ c ∷ [])) got.unassociated (many_more is_unassociated cs c);
      whole = omega (arith, got.whole, many_more is_any cs c, many_more is_rtcp cs c, many_more is_malformed cs c, many_more is_unknown cs c, many_more is_refused cs c, many_more is_unassociated cs c, many_more is_taken cs c);
    }
arrival_tally (arrivals.Stream ssrc payload_type outcome) now micros datagram cs s t got is =
    let c : Call = receive_call now micros datagram (Ok (arrivals.Stream ssrc payload_type outcome)) in
    record {
      received = ap (λ (x : _). x.received) is ∙ up s.counts.received (many is_any cs) (many is_any (cs ++ c ∷ [])) got.received (many_more is_any cs c);
      rtcp = ap (λ (x : _). x.rtcp) is ∙ same s.counts.rtcp (many is_rtcp cs) (many is_rtcp (cs ++ c ∷ [])) got.rtcp (many_more is_rtcp cs c);
      malformed = ap (λ (x : _). x.malformed) is ∙ same s.counts.malformed (many is_malformed cs) (many is_malformed (cs ++ c ∷ [])) got.malformed (many_more is_malformed cs c);
      unknown = ap (λ (x : _). x.unknown) is ∙ same s.counts.unknown (many is_unknown cs) (many is_unknown (cs ++ c ∷ [])) got.unknown (many_more is_unknown cs c);
      refused = ap (λ (x : _). x.refused) is ∙ same s.counts.refused (many is_refused cs) (many is_refused (cs ++ c ∷ [])) got.refused (many_more is_refused cs c);
      unassociated = ap (λ (x : _). x.unassociated) is ∙ same s.counts.unassociated (many is_unassociated cs) (many is_unassociated (cs ++ c ∷ [])) got.unassociated (many_more is_unassociated cs c);
      whole = omega (arith, got.whole, many_more is_any cs c, many_more is_rtcp cs c, many_more is_malformed cs c, many_more is_unknown cs c, many_more is_refused cs c, many_more is_unassociated cs c, many_more is_taken cs c);
    }
arrival_tally (arrivals.Faulty ssrc payload_type fault) now micros datagram cs s t got is =
    let c : Call = receive_call now micros datagram (Ok (arrivals.Faulty ssrc payload_type fault)) in
    record {
      received = ap (λ (x : _). x.received) is ∙ up s.counts.received (many is_any cs) (many is_any (cs ++ c ∷ [])) got.received (many_more is_any cs c);
      rtcp = ap (λ (x : _). x.rtcp) is ∙ same s.counts.rtcp (many is_rtcp cs) (many is_rtcp (cs ++ c ∷ [])) got.rtcp (many_more is_rtcp cs c);
      malformed = ap (λ (x : _). x.malformed) is ∙ same s.counts.malformed (many is_malformed cs) (many is_malformed (cs ++ c ∷ [])) got.malformed (many_more is_malformed cs c);
      unknown = ap (λ (x : _). x.unknown) is ∙ same s.counts.unknown (many is_unknown cs) (many is_unknown (cs ++ c ∷ [])) got.unknown (many_more is_unknown cs c);
      refused = ap (λ (x : _). x.refused) is ∙ same s.counts.refused (many is_refused cs) (many is_refused (cs ++ c ∷ [])) got.refused (many_more is_refused cs c);
      unassociated = ap (λ (x : _). x.unassociated) is ∙ same s.counts.unassociated (many is_unassociated cs) (many is_unassociated (cs ++ c ∷ [])) got.unassociated (many_more is_unassociated cs c);
      whole = omega (arith, got.whole, many_more is_any cs c, many_more is_rtcp cs c, many_more is_malformed cs c, many_more is_unknown cs c, many_more is_refused cs c, many_more is_unassociated cs c, many_more is_taken cs c);
    }

-- a call that counts nothing
still_tally : (cs : List Call) (c : Call) (s t : Session) → Tally cs s → t.counts ≡ s.counts → ((kind : Arrival → Bool) → answered_with kind c.answer ≡ false)
    → Tally (cs ++ c ∷ []) t
still_tally cs c s t got is none = record {
  received = ap (λ (x : _). x.received) is ∙ same s.counts.received (many is_any cs) (many is_any (cs ++ c ∷ [])) got.received (more is_any);
  rtcp = ap (λ (x : _). x.rtcp) is ∙ same s.counts.rtcp (many is_rtcp cs) (many is_rtcp (cs ++ c ∷ [])) got.rtcp (more is_rtcp);
  malformed = ap (λ (x : _). x.malformed) is ∙ same s.counts.malformed (many is_malformed cs) (many is_malformed (cs ++ c ∷ [])) got.malformed (more is_malformed);
  unknown = ap (λ (x : _). x.unknown) is ∙ same s.counts.unknown (many is_unknown cs) (many is_unknown (cs ++ c ∷ [])) got.unknown (more is_unknown);
  refused = ap (λ (x : _). x.refused) is ∙ same s.counts.refused (many is_refused cs) (many is_refused (cs ++ c ∷ [])) got.refused (more is_refused);
  unassociated = ap (λ (x : _). x.unassociated) is ∙ same s.counts.unassociated (many is_unassociated cs) (many is_unassociated (cs ++ c ∷ [])) got.unassociated (more is_unassociated);
  whole = omega (arith, got.whole, more is_any, more is_rtcp, more is_malformed, more is_unknown, more is_refused, more is_unassociated, more is_taken);
}
  where
    more : (kind : Arrival → Bool) → many kind (cs ++ c ∷ []) ≡ many kind cs + 0
    more kind = many_more kind cs c ∙ ap (λ (b : Bool). many kind cs + one_if b) (none kind)

sum_assoc : (c : SessionCounts) (held : ℕ) → IsSum c held
    → c.received % 2 ^ 64 ≡ (c.rtcp + c.malformed + c.unknown + c.refused + c.unassociated + (c.ended + held)) % 2 ^ 64
sum_assoc c held sum = omega (arith, sum)

-- if a sum and all parts but one agree modulo 2^64, so does this part
rest_is : (n n1 n2 n3 n4 n5 n6 m m1 m2 m3 m4 m5 m6 : ℕ) → m ≡ n % 2 ^ 64 → m1 ≡ n1 % 2 ^ 64 → m2 ≡ n2 % 2 ^ 64 → m3 ≡ n3 % 2 ^ 64 → m4 ≡ n4 % 2 ^ 64 → m5 ≡ n5 % 2 ^ 64
    → n ≡ n1 + n2 + n3 + n4 + n5 + n6 → m % 2 ^ 64 ≡ (m1 + m2 + m3 + m4 + m5 + m6) % 2 ^ 64 → m6 % 2 ^ 64 ≡ n6 % 2 ^ 64
rest_is n n1 n2 n3 n4 n5 n6 m m1 m2 m3 m4 m5 m6 a a1 a2 a3 a4 a5 whole sum = omega arith

never_failed : (answer : Result Arrival AllocError) (a : Arrival) → answer ≡ Ok a → IsErr answer → ⊥
never_failed (Ok b) a is fails = absurd (cc)
never_failed (Err e) a is fails = absurd (cc)

receive_tally : (cs : List Call) (now : Ticks) (micros : Option ℕ) (datagram : Vec ℕ) (arrival : Result Arrival AllocError) (s t : Session) → Tally cs s → Receives now datagram.items s arrival t
    → Tally (cs ++ receive_call now micros datagram arrival ∷ []) t
receive_tally cs now micros datagram (Ok a) s t got (inl it) = arrival_tally a now micros datagram cs s t got (ap (λ (z : Session). z.counts) it.left)
receive_tally cs now micros datagram (Err e) s t got (inl it) = still_tally cs (receive_call now micros datagram (Err e)) s t got (ap (λ (z : Session). z.counts) it.left) (λ kind. refl)
receive_tally cs now micros datagram (Ok a) s t got (inr it) = absurd (never_failed (Ok a) a refl it.fails)
receive_tally cs now micros datagram (Err e) s t got (inr it) = still_tally cs (receive_call now micros datagram (Err e)) s t got (ap (λ (z : Session). z.counts) it.left) (λ kind. refl)

-- a pair counts nothing
paired_tally : (cs : List Call) (s t : Session) → Tally cs s → t.counts ≡ s.counts → Tally cs t
paired_tally cs s t got is = record {
  received = ap (λ (x : _). x.received) is ∙ got.received;
  rtcp = ap (λ (x : _). x.rtcp) is ∙ got.rtcp;
  malformed = ap (λ (x : _). x.malformed) is ∙ got.malformed;
  unknown = ap (λ (x : _). x.unknown) is ∙ got.unknown;
  refused = ap (λ (x : _). x.refused) is ∙ got.refused;
  unassociated = ap (λ (x : _). x.unassociated) is ∙ got.unassociated;
  whole = got.whole;
}

failed_tally : (cs : List Call) (now : Ticks) (micros : Option ℕ) (datagram : Vec ℕ) (arrival : Result Arrival AllocError) (s t : Session) → Tally cs s → IsErr arrival → t ≡ s
    → Tally (cs ++ receive_call now micros datagram arrival ∷ []) t
failed_tally cs now micros datagram (Ok a) s t got fails same = absurd (never_failed (Ok a) a refl fails)
failed_tally cs now micros datagram (Err e) s t got fails same = still_tally cs (receive_call now micros datagram (Err e)) s t got (ap (λ (z : Session). z.counts) same) (λ kind. refl)

associates_tally : (o : Option SsrcPair) (cs : List Call) (now : Ticks) (micros : Option ℕ) (datagram : Vec ℕ) (arrival : Result Arrival AllocError) (s t : Session) → Tally cs s
    → AssociatesBy o now datagram.items s arrival t → Tally (cs ++ receive_call now micros datagram arrival ∷ []) t
associates_tally None cs now micros datagram arrival s t got it = receive_tally cs now micros datagram arrival s t got it
associates_tally (Some pair) cs now micros datagram arrival s t got (inl it) =
    receive_tally cs now micros datagram arrival it.0 t (paired_tally cs s it.0 got (ap (λ (z : Session). z.counts) it.1.left)) it.2
associates_tally (Some pair) cs now micros datagram arrival s t got (inr it) = failed_tally cs now micros datagram arrival s t got it.0 it.1

accepts_tally : (cs : List Call) (now : Ticks) (micros : Option ℕ) (datagram : Vec ℕ) (arrival : Result Arrival AllocError) (s t : Session) → Tally cs s → Accepts (time_for micros now s) now datagram.items s arrival t
    → Tally (cs ++ receive_call now micros datagram arrival ∷ []) t
accepts_tally cs now micros datagram arrival s t got (inl it) =
    let noted : Session = noted_in (time_for micros now s) datagram.items s in
    associates_tally (pair_at s.settings now.0 datagram.items s.port.streams) cs now micros datagram arrival noted t (paired_tally cs s noted got refl) it
accepts_tally cs now micros datagram arrival s t got (inr it) = failed_tally cs now micros datagram arrival s t got it.fails it.left

turn_same : (o : Option Event) (now : Ticks) (s : Session) (port : Port) (event : Option Event) (t : Session) → GoesOn o now.0 (record s { port = port }) event t → t.counts ≡ s.counts
turn_same None now s port event t it = ap (λ (z : Session). z.counts) it.left
turn_same (Some e) now s port event t it = ap (λ (z : Session). z.counts) it.1

send_same : (o : Option Event) (now : Ticks) (s after : Session) (event : Option Event) (t : Session) → TurnsOrReports now s o after → SendsAfter o now.0 after event t → t.counts ≡ s.counts
send_same None now s after event t turn it = ap (λ (z : Session). z.counts) it.left ∙ turn_same turn.event now s turn.port None after turn.goes_on
send_same (Some e) now s after event t turn it = ap (λ (z : Session). z.counts) it.1 ∙ turn_same turn.event now s turn.port (Some e) after turn.goes_on

poll_same : (ws : List _) (now : Ticks) (s : Session) (event : Option Event) (t : Session) → PollsAfter ws now s event t → t.counts ≡ s.counts
poll_same [] now s event t it = send_same it.event now s it.after event t it.turn it.sends
poll_same (w ∷ ws) now s event t it = ap (λ (z : Session). z.counts) it.1

added_tally : (cs : List Call) (ssrc retransmission : ℕ) (added : Result Unit AllocError) (s t : Session) → Tally cs s → AddsPair ssrc retransmission s added t
    → Tally (cs ++ record { step = calls.AddPair ssrc retransmission; answer = answers.PairAdded added } ∷ []) t
added_tally cs ssrc retransmission (Ok u) s t got it =
    still_tally cs (record { step = calls.AddPair ssrc retransmission; answer = answers.PairAdded (Ok u) }) s t got (ap (λ (z : Session). z.counts) it.0.left) (λ kind. refl)
added_tally cs ssrc retransmission (Err e) s t got it =
    still_tally cs (record { step = calls.AddPair ssrc retransmission; answer = answers.PairAdded (Err e) }) s t got (ap (λ (z : Session). z.counts) it.1) (λ kind. refl)

tally_more : (cs : List Call) (step : SessionStep) (answer : StepAnswer) (s t : Session) → Tally cs s → Does step s answer t → Tally (cs ++ record { step = step; answer = answer } ∷ []) t
tally_more cs (calls.Receive now micros datagram) answer s t got does =
    subst (λ (a : StepAnswer). Tally (cs ++ record { step = calls.Receive now micros datagram; answer = a } ∷ []) t) (sym does.1) (accepts_tally cs now micros datagram does.0 s t got does.2)
tally_more cs (calls.Poll now) answer s t got does =
    subst (λ (a : StepAnswer). Tally (cs ++ record { step = calls.Poll now; answer = a } ∷ []) t) (sym does.1)
    (still_tally cs (record { step = calls.Poll now; answer = answers.Polled does.0 }) s t got (poll_same s.telephone.waiting now s does.0 t does.2) (λ kind. refl))
tally_more cs (calls.End now ssrc) answer s t got does =
    subst (λ (a : StepAnswer). Tally (cs ++ record { step = calls.End now ssrc; answer = a } ∷ []) t) (sym does.0)
    (still_tally cs (record { step = calls.End now ssrc; answer = answers.Done }) s t got (ap (λ (z : Session). z.counts) does.1) (λ kind. refl))
tally_more cs (calls.Finish now) answer s t got does =
    subst (λ (a : StepAnswer). Tally (cs ++ record { step = calls.Finish now; answer = a } ∷ []) t) (sym does.0)
    (still_tally cs (record { step = calls.Finish now; answer = answers.Done }) s t got (ap (λ (z : Session). z.counts) does.1) (λ kind. refl))
tally_more cs (calls.SetWaitLimits ssrc payload_type limits) answer s t got does =
    subst (λ (a : StepAnswer). Tally (cs ++ record { step = calls.SetWaitLimits ssrc payload_type limits; answer = a } ∷ []) t) (sym does.0)
    (still_tally cs (record { step = calls.SetWaitLimits ssrc payload_type limits; answer = answers.Done }) s t got (ap (λ (z : Session). z.counts) does.1) (λ kind. refl))
tally_more cs (calls.Report now ssrc payload_type) answer s t got does =
    subst (λ (a : StepAnswer). Tally (cs ++ record { step = calls.Report now ssrc payload_type; answer = a } ∷ []) t) (sym does.1)
    (still_tally cs (record { step = calls.Report now ssrc payload_type; answer = answers.Reported does.0 }) s t got (ap (λ (z : Session). z.counts) does.2.left) (λ kind. refl))
tally_more cs (calls.AddPair ssrc retransmission) answer s t got does =
    subst (λ (a : StepAnswer). Tally (cs ++ record { step = calls.AddPair ssrc retransmission; answer = a } ∷ []) t) (sym does.1) (added_tally cs ssrc retransmission does.0 s t got does.2)
tally_more cs calls.RestartTransport answer s t got does =
    subst (λ (a : StepAnswer). Tally (cs ++ record { step = calls.RestartTransport; answer = a } ∷ []) t) (sym does.0)
    (still_tally cs (record { step = calls.RestartTransport; answer = answers.Done }) s t got (ap (λ (z : Session). z.counts) does.1) (λ kind. refl))
tally_more cs (calls.RequestKeyframe ssrc) answer s t got does =
    let asked : KeyframeAnswer = answer_among (position (has_ssrc ssrc) s.port.streams) s.port.streams in
    subst (λ (a : StepAnswer). Tally (cs ++ record { step = calls.RequestKeyframe ssrc; answer = a } ∷ []) t) (sym does.0)
    (still_tally cs (record { step = calls.RequestKeyframe ssrc; answer = answers.KeyframeAsked asked }) s t got (ap (λ (z : Session). z.counts) does.1) (λ kind. refl))
tally_more cs (calls.RemovePair ssrc) answer s t got does =
    subst (λ (a : StepAnswer). Tally (cs ++ record { step = calls.RemovePair ssrc; answer = a } ∷ []) t) (sym does.0)
    (still_tally cs (record { step = calls.RemovePair ssrc; answer = answers.Done }) s t got (ap (λ (z : Session). z.counts) does.1.left) (λ kind. refl))

tally_later : (later cs : List Call) (s t : Session) → Tally cs s → Runs later s t → Tally (cs ++ later) t
tally_later [] cs s t got run = subst₂ (λ (zs : List Call) (z : Session). Tally zs z) (sym (append-nil cs)) (sym run) got
tally_later (c ∷ later) cs s t got run =
    subst (λ (zs : List Call). Tally zs t) (append_assoc cs (c ∷ []) later)
    (tally_later later (cs ++ c ∷ []) run.0 t (tally_more cs c.step c.answer s run.0 got run.1) run.2)

tally_new : (settings : SessionSettings) → Tally [] (new_session settings)
tally_new settings = record { received = refl; rtcp = refl; malformed = refl; unknown = refl; refused = refl; unassociated = refl; whole = refl }

-- by what `counts` says of the session
pub counted : (settings : SessionSettings) (cs : List Call) (t : Session) (c : SessionCounts) (held : ℕ) → Runs cs (new_session settings) t → c ≡ counts_with t.counts t.port.ended t.telephone.dropped → IsSum c held
    → Counts cs c held
counted settings cs t c held run is sum =
    let got : Tally cs t = tally_later cs [] (new_session settings) t (tally_new settings) run in
    let received : c.received ≡ many is_any cs % 2 ^ 64 = ap (λ (x : SessionCounts). x.received) is ∙ got.received in
    let rtcp : c.rtcp ≡ many is_rtcp cs % 2 ^ 64 = ap (λ (x : SessionCounts). x.rtcp) is ∙ got.rtcp in
    let malformed : c.malformed ≡ many is_malformed cs % 2 ^ 64 = ap (λ (x : SessionCounts). x.malformed) is ∙ got.malformed in
    let unknown : c.unknown ≡ many is_unknown cs % 2 ^ 64 = ap (λ (x : SessionCounts). x.unknown) is ∙ got.unknown in
    let refused : c.refused ≡ many is_refused cs % 2 ^ 64 = ap (λ (x : SessionCounts). x.refused) is ∙ got.refused in
    let unassociated : c.unassociated ≡ many is_unassociated cs % 2 ^ 64 = ap (λ (x : SessionCounts). x.unassociated) is ∙ got.unassociated in
    record {
      received = received;
      rtcp = rtcp;
      malformed = malformed;
      unknown = unknown;
      refused = refused;
      unassociated = unassociated;
      taken = rest_is (many is_any cs) (many is_rtcp cs) (many is_malformed cs) (many is_unknown cs) (many is_refused cs) (many is_unassociated cs) (many is_taken cs)
          c.received c.rtcp c.malformed c.unknown c.refused c.unassociated (c.ended + held) received rtcp malformed unknown refused unassociated got.whole (sum_assoc c held sum);
      whole = got.whole;
    }
