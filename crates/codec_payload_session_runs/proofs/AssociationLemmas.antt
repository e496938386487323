-- A retransmission whose stream is found: the session gets its pair, and then receives it.
use Rattle.std.proofs.Common.{◌≡◌, ◌∙◌, refl, sym, ap, subst, subst₂, ℕ, zero, suc, ◌==◌, ◌&&◌, ◌||◌, not, if◌then◌else◌, Bool, true, false, List, [], ◌∷◌, ◌++◌, map, filter, Option, Some, None, Result, Ok, Err, slice_get, slice_set, eqb-true, arith}
use Rattle.std.specs.Prelude.{IsErr}
use Rattle.std.specs.Global.{Vec}
use Rattle.std.specs.List.{position}
use Rattle.std.specs.declared.alloc.AllocError.{AllocError}
use Rattle.std.proofs.lemmas.Bool.Decides.{nat_tests}
use Rattle.std.proofs.lemmas.List.Quantifiers.{position-Some}
use Rattle.codec_payload_base.specs.declared.wire.Ticks.{Ticks}
use Rattle.codec_payload_jitter.specs.declared.outcome.Outcome.{Outcome}
use Rattle.codec_payload_receiver.specs.declared.receiver.ReceiveError.{ReceiveError}
use Rattle.codec_payload_rtcp.specs.RtcpReading.{compound_at}
use Rattle.codec_payload_rtp.specs.RtpPackets.{Packet, is_rtcp}
use Rattle.codec_payload_rtp.specs.RtpReading.{rtp_at}
use Rattle.codec_payload_rtp.specs.declared.rtp.RtpError.{RtpError}
use Rattle.codec_payload_datagrams.specs.Kinds.{is_among}
use Rattle.codec_payload_datagrams.specs.declared.kinds.Retransmission.{Retransmission}
use Rattle.codec_payload_session_stream.specs.Arrivals.{Arrives, arrival_of}
use Rattle.codec_payload_session.specs.Arrivals.{Feeds, FeedsIf, Port, TakesIn, TakesInAs}
use Rattle.codec_payload_session.specs.Associations.{has_pair, is_on_time, may_be_of, only_ssrc, owner_of, pair_at, pair_of, pair_with, unpaired_at, unpaired_by, unpaired_rtp}
use Rattle.codec_payload_session_formats.specs.Formats.{has_type, resends, retransmission_for, retransmission_of, role_by, stream_of}
use Rattle.codec_payload_session_stream.specs.Pairs.{is_apart, paired_if, paired_when, paired_where, with_pair, without_pair}
use Rattle.codec_payload_session_requests.specs.Requests.{has_requested, original_number}
use Rattle.codec_payload_session_stream.specs.Changes.{is_playing}
use Rattle.codec_payload_session_formats.specs.Sorting.{sorted_at, sorted_by, sorted_retransmission, sorted_rtcp, sorted_rtp}
use Rattle.codec_payload_session_stream.specs.Streams.{Takes, is_no_memory, is_of}
use Rattle.codec_payload_session_formats.specs.declared.formats.Format.{Format}
use Rattle.codec_payload_session_formats.specs.declared.formats.SessionSettings.{SessionSettings}
use Rattle.codec_payload_session_formats.specs.declared.formats.SsrcPair.{SsrcPair}
use Rattle.codec_payload_session_stream.specs.declared.arrival.Arrival.{Arrival}
use Rattle.codec_payload_session_stream.specs.declared.arrival.Arrival.TheVariants as arrivals
use Rattle.codec_payload_session_stream.specs.declared.stream.StreamState.{StreamState}
use Rattle.codec_payload_session_runs.proofs.CallLemmas.{IsAboutPair, at_place, given_other, paired_goes, pairs_evolve}
use Rattle.codec_payload_session_runs.proofs.FateLemmas.{AreApart, Evolves, GoAll, absent_at, evolves_all, found_none, of_is, of_same, same_sym}
use Rattle.codec_payload_session_runs.proofs.StreamLemmas.{Goes, call_of, paired_fed_goes}
use Rattle.codec_payload_session_runs.specs.Lives.{HasSsrc, IsAbsent, IsPairOf, NamesSsrc, is_same}
use Rattle.codec_payload_session_runs.specs.SessionRuns.{Call}
use Rattle.codec_payload_session_runs.specs.declared.run.SessionStep.TheVariants as calls
use Rattle.codec_payload_session_runs.specs.declared.run.StepAnswer.{StepAnswer}
use Rattle.codec_payload_session_runs.specs.declared.run.StepAnswer.TheVariants as answers

-- ---- the retransmission

-- packets with this role are for the streams that pairs name
abbrev AreSorted : List Format → List ℕ → List ℕ → ℕ → ℕ → Type 0
AreSorted fs dropped telephone payload_type own =
    (s : SessionSettings) (ssrc : ℕ) → sorted_by (role_by fs dropped telephone payload_type) s ssrc ≡ sorted_retransmission (stream_of ssrc s.pairs.items) own

-- the datagram is an RTP packet with the SSRC of this retransmission and with a payload type for the retransmissions of its payload type
record IsUnpaired (s : SessionSettings) (bytes : List ℕ) (again payload_type : ℕ) : Type 0 where
  packet : Packet
  is_media : is_rtcp bytes ≡ false
  reads : rtp_at bytes ≡ Ok packet
  sorts : AreSorted s.formats.items s.no_media.items s.telephone_events.items packet.header.payload_type payload_type
  own : again ≡ packet.header.ssrc

-- the datagram is a retransmission for the stream of the pair, which is one of the streams
pub record IsFound (s : SessionSettings) (bytes : List ℕ) (ss : List StreamState) (pair : SsrcPair) : Type 0 where
  pub packet : Packet
  pub own_type : ℕ
  pub is_media : is_rtcp bytes ≡ false
  pub reads : rtp_at bytes ≡ Ok packet
  pub sorts : AreSorted s.formats.items s.no_media.items s.telephone_events.items packet.header.payload_type own_type
  pub own : pair.retransmission ≡ packet.header.ssrc
  pub there : IsAbsent pair.ssrc own_type ss → ⊥

-- a role without an unpaired retransmission
none_found : (b : Bool) (dropped telephone : List ℕ) (payload_type : ℕ) (stream number : Option ℕ) (p : Packet) (u : _) → (is_among payload_type dropped || is_among payload_type telephone) ≡ b
    → unpaired_by (role_by [] dropped telephone payload_type) stream number p ≡ Some u → ⊥
none_found true dropped telephone payload_type stream number p u is got = let no = rw is at got in absurd (cc)
none_found false dropped telephone payload_type stream number p u is got = let no = rw is at got in absurd (cc)

sorted_here : (f : Format) (fs : List Format) (dropped telephone : List ℕ) (payload_type : ℕ) → has_type f payload_type ≡ false → resends f payload_type ≡ true
    → AreSorted (f ∷ fs) dropped telephone payload_type f.payload_type
sorted_here f fs dropped telephone payload_type has again = λ s ssrc. rw (has, again) refl

sorted_later : (f : Format) (fs : List Format) (dropped telephone : List ℕ) (payload_type own : ℕ) → has_type f payload_type ≡ false → resends f payload_type ≡ false
    → AreSorted fs dropped telephone payload_type own → AreSorted (f ∷ fs) dropped telephone payload_type own
sorted_later f fs dropped telephone payload_type own has again more = λ s ssrc. rw (has, again) (more s ssrc)

found_format : (b c : Bool) (f : Format) (fs : List Format) (dropped telephone : List ℕ) (payload_type : ℕ) (stream number : Option ℕ) (p : Packet) (u : _) → has_type f payload_type ≡ b → resends f payload_type ≡ c
    → unpaired_by (role_by (f ∷ fs) dropped telephone payload_type) stream number p ≡ Some u
    → (unpaired_by (role_by fs dropped telephone payload_type) stream number p ≡ Some u → AreSorted fs dropped telephone payload_type u.payload_type × (u.ssrc ≡ p.header.ssrc))
    → AreSorted (f ∷ fs) dropped telephone payload_type u.payload_type × (u.ssrc ≡ p.header.ssrc)
found_format true c f fs dropped telephone payload_type stream number p u has again got later = let no = rw has at got in absurd (cc)
found_format false true f fs dropped telephone payload_type None (Some number) p u has again got later =
    let is = rw (has, again) at got in
    let e : u ≡ record { ssrc = p.header.ssrc; payload_type = f.payload_type; number = number; rtp_time = p.header.timestamp } = cc in (
      subst (λ (own : ℕ). AreSorted (f ∷ fs) dropped telephone payload_type own) (ap (λ (x : _). x.payload_type) (sym e)) (sorted_here f fs dropped telephone payload_type has again),
      ap (λ (x : _). x.ssrc) e,
    )
found_format false true f fs dropped telephone payload_type None None p u has again got later = let no = rw (has, again) at got in absurd (cc)
found_format false true f fs dropped telephone payload_type (Some ssrc) number p u has again got later = let no = rw (has, again) at got in absurd (cc)
found_format false false f fs dropped telephone payload_type stream number p u has again got later =
    let more = later (rw (has, again) at got) in
    (sorted_later f fs dropped telephone payload_type u.payload_type has again more.0, more.1)

found_role : (fs : List Format) (dropped telephone : List ℕ) (payload_type : ℕ) (stream number : Option ℕ) (p : Packet) (u : _) → unpaired_by (role_by fs dropped telephone payload_type) stream number p ≡ Some u
    → AreSorted fs dropped telephone payload_type u.payload_type × (u.ssrc ≡ p.header.ssrc)
found_role [] dropped telephone payload_type stream number p u got =
    absurd (none_found (is_among payload_type dropped || is_among payload_type telephone) dropped telephone payload_type stream number p u refl got)
found_role (f ∷ fs) dropped telephone payload_type stream number p u got =
    found_format (has_type f payload_type) (resends f payload_type) f fs dropped telephone payload_type stream number p u refl refl got
    (found_role fs dropped telephone payload_type stream number p u)

found_unpaired : (s : SessionSettings) (bytes : List ℕ) (u : _) → unpaired_at s bytes ≡ Some u → IsUnpaired s bytes u.ssrc u.payload_type
found_unpaired s bytes u got = by_kind (is_rtcp bytes) (rtp_at bytes) refl refl got
  where
    by_kind : (b : Bool) (r : Result Packet RtpError) → is_rtcp bytes ≡ b → rtp_at bytes ≡ r → (if b then None else unpaired_rtp s r) ≡ Some u → IsUnpaired s bytes u.ssrc u.payload_type
    by_kind true r media reads is = absurd (cc)
    by_kind false (Ok p) media reads is =
        let found = found_role s.formats.items s.no_media.items s.telephone_events.items p.header.payload_type (stream_of p.header.ssrc s.pairs.items) (original_number p.payload) p u is in
        record { packet = p; is_media = media; reads = reads; sorts = found.0; own = found.1 }
    by_kind false (Err e) media reads is = absurd (cc)

-- ---- its stream

same_number : (n : ℕ) → (n == n) ≡ true
same_number n = grind (arith, nat_tests)

second_true : (a b c d e : Bool) → (a && b && c && d && e) ≡ true → b ≡ true
second_true true true c d e is = refl
second_true true false c d e is = absurd (cc)
second_true false b c d e is = absurd (cc)

-- a stream that may be the stream of the retransmission has its payload type
may_have_type : (named : List SsrcPair) (now : ℕ) (u : _) (x : StreamState) → may_be_of named now u x ≡ true → (x.format.payload_type == u.payload_type) ≡ true
may_have_type named now u x is =
    second_true (is_playing x.stage) (x.format.payload_type == u.payload_type) (has_requested u.number x.feedback) (is_on_time now u.rtp_time x) (not (has_pair x.ssrc named)) is

-- streams with the payload type and other SSRCs
abbrev AreOther : ℕ → List StreamState → Type 0
AreOther ssrc [] = Unit {0}
AreOther ssrc (x ∷ xs) = ((x.ssrc == ssrc) ≡ false) × AreOther ssrc xs

other_ssrc : (a b : Bool) → b ≡ true → (a && b) ≡ false → a ≡ false
other_ssrc true true has other = absurd (cc)
other_ssrc true false has other = absurd (cc)
other_ssrc false b has other = refl

are_other : (fits : StreamState → Bool) (payload_type ssrc : ℕ) (ss : List StreamState) → ((x : StreamState) → fits x ≡ true → (x.format.payload_type == payload_type) ≡ true) → IsAbsent ssrc payload_type ss
    → AreOther ssrc (filter fits ss)
are_other fits payload_type ssrc [] typed absent = tt
are_other fits payload_type ssrc (x ∷ xs) typed absent = by_test (fits x) refl (are_other fits payload_type ssrc xs typed absent.1)
  where
    by_test : (b : Bool) → fits x ≡ b → AreOther ssrc (filter fits xs) → AreOther ssrc (filter fits (x ∷ xs))
    by_test true is later = rw is (other_ssrc (x.ssrc == ssrc) (x.format.payload_type == payload_type) (typed x is) absent.0, later)
    by_test false is later = rw is later

only_other : (ssrc : ℕ) (xs : List StreamState) → AreOther ssrc xs → only_ssrc xs ≡ Some ssrc → ⊥
only_other ssrc [] other is = absurd (cc)
only_other ssrc (x ∷ []) other is =
    let e : x.ssrc ≡ ssrc = cc in
    let same : (ssrc == ssrc) ≡ true = same_number ssrc in
    let no : (ssrc == ssrc) ≡ false = subst (λ (n : ℕ). (n == ssrc) ≡ false) e other.0 in absurd (cc)
only_other ssrc (x ∷ y ∷ ys) other is = absurd (cc)

found_with : (own : Option ℕ) (again : ℕ) (pair : SsrcPair) → pair_with own again ≡ Some pair → (own ≡ Some pair.ssrc) × (pair.retransmission ≡ again)
found_with None again pair is = absurd (cc)
found_with (Some own) again pair is =
    let e : record { ssrc = own; retransmission = again } ≡ pair = cc in
    (ap (λ (x : SsrcPair). Some x.ssrc) e, ap (λ (x : SsrcPair). x.retransmission) (sym e))

pub found_pair : (s : SessionSettings) (now : ℕ) (bytes : List ℕ) (ss : List StreamState) (pair : SsrcPair) → pair_at s now bytes ss ≡ Some pair → IsFound s bytes ss pair
found_pair s now bytes ss pair got = by_kind (unpaired_at s bytes) refl got
  where
    by_kind : (o : Option _) → unpaired_at s bytes ≡ o → pair_of o s.pairs.items now ss ≡ Some pair → IsFound s bytes ss pair
    by_kind None at is = absurd (cc)
    by_kind (Some u) at is =
        let found : IsUnpaired s bytes u.ssrc u.payload_type = found_unpaired s bytes u at in
        let owner = found_with (owner_of s.pairs.items now u ss) u.ssrc pair is in
        record {
          packet = found.packet;
          own_type = u.payload_type;
          is_media = found.is_media;
          reads = found.reads;
          sorts = found.sorts;
          own = owner.1 ∙ found.own;
          there = λ absent. only_other pair.ssrc (filter (may_be_of s.pairs.items now u) ss)
              (are_other (may_be_of s.pairs.items now u) u.payload_type pair.ssrc ss (may_have_type s.pairs.items now u) absent) owner.0;
        }

-- so it begins no stream, whatever the pairs
sorted_found : (s : SessionSettings) (named : Vec SsrcPair) (bytes : List ℕ) (ss : List StreamState) (pair : SsrcPair) → (found : IsFound s bytes ss pair)
    → sorted_at (record s { pairs = named }) bytes ≡ sorted_retransmission (stream_of found.packet.header.ssrc named.items) found.own_type
sorted_found s named bytes ss pair found =
    let t : SessionSettings = record s { pairs = named } in
    ap (λ (b : Bool). if b then sorted_rtcp (compound_at false bytes) else sorted_rtp t (rtp_at bytes)) found.is_media
    ∙ (ap (λ (r : Result Packet RtpError). sorted_rtp t r) found.reads ∙ found.sorts t found.packet.header.ssrc)

-- ---- the SSRC that its streams get

named_last : (pair : SsrcPair) (payload_type : ℕ) (ps : List SsrcPair)
    → retransmission_of pair.ssrc payload_type (filter (is_apart pair) ps ++ pair ∷ []) ≡ Some (record { ssrc = pair.retransmission; payload_type = payload_type })
named_last pair payload_type [] = let e : (pair.ssrc == pair.ssrc) ≡ true = same_number pair.ssrc in rw e refl
named_last pair payload_type (p ∷ ps) = by_test (p.ssrc == pair.ssrc) (p.retransmission == pair.retransmission) refl refl (named_last pair payload_type ps)
  where
    by_test : (a b : Bool) → (p.ssrc == pair.ssrc) ≡ a → (p.retransmission == pair.retransmission) ≡ b
        → retransmission_of pair.ssrc payload_type (filter (is_apart pair) ps ++ pair ∷ []) ≡ Some (record { ssrc = pair.retransmission; payload_type = payload_type })
        → retransmission_of pair.ssrc payload_type (filter (is_apart pair) (p ∷ ps) ++ pair ∷ []) ≡ Some (record { ssrc = pair.retransmission; payload_type = payload_type })
    by_test true b own again later = rw own later
    by_test false true own again later = rw (own, again) later
    by_test false false own again later = rw (own, again) (rw own later)

-- the SSRC of the retransmissions belongs to the stream of the pair
stream_last : (pair : SsrcPair) (ps : List SsrcPair) → stream_of pair.retransmission (filter (is_apart pair) ps ++ pair ∷ []) ≡ Some pair.ssrc
stream_last pair [] = let e : (pair.retransmission == pair.retransmission) ≡ true = same_number pair.retransmission in rw e refl
stream_last pair (p ∷ ps) = by_test (p.ssrc == pair.ssrc) (p.retransmission == pair.retransmission) refl refl (stream_last pair ps)
  where
    by_test : (a b : Bool) → (p.ssrc == pair.ssrc) ≡ a → (p.retransmission == pair.retransmission) ≡ b
        → stream_of pair.retransmission (filter (is_apart pair) ps ++ pair ∷ []) ≡ Some pair.ssrc → stream_of pair.retransmission (filter (is_apart pair) (p ∷ ps) ++ pair ∷ []) ≡ Some pair.ssrc
    by_test true b own again later = rw own later
    by_test false true own again later = rw (own, again) later
    by_test false false own again later = rw (own, again) (rw again later)

gets_ssrc : (s : SessionSettings) (now : Ticks) (micros : Option ℕ) (datagram : Vec ℕ) (answer : Result Arrival AllocError) (ss : List StreamState) (pair : SsrcPair) (ps : List SsrcPair)
    → IsFound s datagram.items ss pair → NamesSsrc pair.ssrc (answers.Received answer) → IsAboutPair (call_of now micros datagram answer) pair.ssrc (with_pair pair ps)
gets_ssrc s now micros datagram answer ss pair ps found names = λ x given is.
    let e : pair.ssrc ≡ x.ssrc = sym (eqb-true x.ssrc pair.ssrc is) in (
      subst (λ (n : ℕ). NamesSsrc n (answers.Received answer)) e names,
      subst (λ (n : ℕ). IsPairOf x.format.retransmission datagram.items (retransmission_for n x.format.retransmission (with_pair pair ps))) e (by_type x.format.retransmission),
    )
  where
    by_type : (o : Option ℕ) → IsPairOf o datagram.items (retransmission_for pair.ssrc o (with_pair pair ps))
    by_type None = refl
    by_type (Some payload_type) =
        subst (λ (o : Option Retransmission). IsPairOf (Some payload_type) datagram.items o) (sym (named_last pair payload_type ps)) ((found.packet, found.reads, found.own), refl)

-- a pair that the caller adds
pub added_pair : (ssrc retransmission : ℕ) (answer : StepAnswer) (ps : List SsrcPair)
    → IsAboutPair (record { step = calls.AddPair ssrc retransmission; answer = answer }) ssrc (with_pair (record { ssrc = ssrc; retransmission = retransmission }) ps)
added_pair ssrc retransmission answer ps = λ x given is. (
  sym (eqb-true x.ssrc ssrc is),
  subst (λ (n : ℕ). HasSsrc retransmission x.format.retransmission (retransmission_for n x.format.retransmission (with_pair pair ps))) (sym (eqb-true x.ssrc ssrc is)) (by_type x.format.retransmission),
)
  where
    pair : SsrcPair
    pair = record { ssrc = ssrc; retransmission = retransmission }

    by_type : (o : Option ℕ) → HasSsrc retransmission o (retransmission_for ssrc o (with_pair pair ps))
    by_type None = refl
    by_type (Some payload_type) = subst (λ (o : Option Retransmission). HasSsrc retransmission (Some payload_type) o) (sym (named_last pair payload_type ps)) (refl, refl)

-- pairs that the caller removes
named_none : (ssrc payload_type : ℕ) (ps : List SsrcPair) → retransmission_of ssrc payload_type (without_pair ssrc ps) ≡ None
named_none ssrc payload_type [] = refl
named_none ssrc payload_type (p ∷ ps) = by_test (p.ssrc == ssrc) refl (named_none ssrc payload_type ps)
  where
    by_test : (a : Bool) → (p.ssrc == ssrc) ≡ a → retransmission_of ssrc payload_type (without_pair ssrc ps) ≡ None → retransmission_of ssrc payload_type (without_pair ssrc (p ∷ ps)) ≡ None
    by_test true own later = rw own later
    by_test false own later = rw own (rw own later)

pub removed_pair : (ssrc : ℕ) (answer : StepAnswer) (ps : List SsrcPair) → IsAboutPair (record { step = calls.RemovePair ssrc; answer = answer }) ssrc (without_pair ssrc ps)
removed_pair ssrc answer ps = λ x given is. (
  sym (eqb-true x.ssrc ssrc is),
  ap (λ (n : ℕ). retransmission_for n x.format.retransmission (without_pair ssrc ps)) (eqb-true x.ssrc ssrc is) ∙ by_type x.format.retransmission,
)
  where
    by_type : (o : Option ℕ) → retransmission_for ssrc o (without_pair ssrc ps) ≡ None
    by_type None = refl
    by_type (Some payload_type) = named_none ssrc payload_type ps

-- ---- the streams: they get the pair, and at most one of them receives the datagram

paired_ssrc : (b : Bool) (named : List SsrcPair) (s : StreamState) → (paired_when b named s).ssrc ≡ s.ssrc
paired_ssrc true named s = refl
paired_ssrc false named s = refl

paired_format : (b : Bool) (named : List SsrcPair) (s : StreamState) → (paired_when b named s).format ≡ s.format
paired_format true named s = refl
paired_format false named s = refl

absent_paired : (a b ssrc : ℕ) (named : List SsrcPair) (ss : List StreamState) → IsAbsent a b ss → IsAbsent a b (map (paired_if ssrc named) ss)
absent_paired a b ssrc named [] absent = tt
absent_paired a b ssrc named (s ∷ ss) absent = (
  of_same a b s (paired_if ssrc named s) (paired_ssrc (s.ssrc == ssrc) named s) (paired_format (s.ssrc == ssrc) named s) ∙ absent.0,
  absent_paired a b ssrc named ss absent.1,
)

others_paired : (c : Call) (ssrc : ℕ) (named : List SsrcPair) (a b : ℕ) (xs : List StreamState) → IsAbsent a b xs
    → ((z : StreamState) → is_same z.ssrc z.format.payload_type a b ≡ false → Goes c z (paired_if ssrc named z)) → GoAll c xs (map (paired_if ssrc named) xs)
others_paired c ssrc named a b [] absent others = tt
others_paired c ssrc named a b (x ∷ xs) absent others =
    (others x (same_sym x.ssrc x.format.payload_type a b ∙ absent.0), others_paired c ssrc named a b xs absent.1 others)

one_paired : (c : Call) (ssrc : ℕ) (named : List SsrcPair) (ss : List StreamState) (place : ℕ) (x y : StreamState) → slice_get (map (paired_if ssrc named) ss) place ≡ Some x → AreApart ss
    → ((z : StreamState) → paired_if ssrc named z ≡ x → Goes c z y)
    → ((z : StreamState) → is_same z.ssrc z.format.payload_type x.ssrc x.format.payload_type ≡ false → Goes c z (paired_if ssrc named z))
    → GoAll c ss (slice_set (map (paired_if ssrc named) ss) place y)
one_paired c ssrc named [] place x y there apart goes others = absurd (cc)
one_paired c ssrc named (z ∷ zs) zero x y there apart goes others =
    let e : paired_if ssrc named z ≡ x = cc in
    let ssrc_is : z.ssrc ≡ x.ssrc = sym (paired_ssrc (z.ssrc == ssrc) named z) ∙ ap (λ (w : StreamState). w.ssrc) e in
    let format : z.format ≡ x.format = sym (paired_format (z.ssrc == ssrc) named z) ∙ ap (λ (w : StreamState). w.format) e in (
      goes z e,
      others_paired c ssrc named x.ssrc x.format.payload_type zs (subst₂ (λ (n : ℕ) (f : Format). IsAbsent n f.payload_type zs) ssrc_is format apart.0) others,
    )
one_paired c ssrc named (z ∷ zs) (suc i) x y there apart goes others = (
  others z (absent_at z.ssrc z.format.payload_type (map (paired_if ssrc named) zs) i x (absent_paired z.ssrc z.format.payload_type ssrc named zs apart.0) there),
  one_paired c ssrc named zs i x y there apart.1 goes others,
)

-- the streams are the same without the pair
absent_before : (a b ssrc : ℕ) (named : List SsrcPair) (ss : List StreamState) → IsAbsent a b (map (paired_if ssrc named) ss) → IsAbsent a b ss
absent_before a b ssrc named [] absent = tt
absent_before a b ssrc named (s ∷ ss) absent = (
  sym (of_same a b s (paired_if ssrc named s) (paired_ssrc (s.ssrc == ssrc) named s) (paired_format (s.ssrc == ssrc) named s)) ∙ absent.0,
  absent_before a b ssrc named ss absent.1,
)

-- a stream that takes a datagram is named by the answer, unless memory runs out
names_by : (b : Bool) (s p : ℕ) (told : Result Outcome ReceiveError) (answer : Result Arrival AllocError) → Arrives b (arrival_of s p told) answer → NamesSsrc s (answers.Received answer)
names_by false s p (Ok outcome) answer is = subst (λ (a : Result Arrival AllocError). NamesSsrc s (answers.Received a)) (sym is) refl
names_by false s p (Err fault) answer is = subst (λ (a : Result Arrival AllocError). NamesSsrc s (answers.Received a)) (sym is) refl
names_by true s p told (Ok arrival) is = absurd (cc)
names_by true s p told (Err e) is = tt

feeds_paired : (given s : SessionSettings) (probation place : ℕ) (now : Ticks) (micros : Option ℕ) (datagram : Vec ℕ) (pair : SsrcPair) (ps : List SsrcPair) (ss : List StreamState) (p : Port) (answer : Result Arrival AllocError) (q : Port)
    → IsFound s datagram.items ss pair → p.streams ≡ paired_where pair.ssrc (with_pair pair ps) ss → AreApart ss → (got : Feeds probation place now datagram.items p answer q) → pair.ssrc ≡ got.stream.ssrc
    → Evolves given (call_of now micros datagram answer) ss q.streams
feeds_paired given s probation place now micros datagram pair ps ss p answer q found is apart got own =
    let c : Call = call_of now micros datagram answer in
    let named : List SsrcPair = with_pair pair ps in
    let x : StreamState = got.stream in
    let there : slice_get (paired_where pair.ssrc named ss) place ≡ Some x = subst (λ (zs : List StreamState). slice_get zs place ≡ Some x) is got.there in
    let names : NamesSsrc pair.ssrc (answers.Received answer) =
    subst (λ (n : ℕ). NamesSsrc n (answers.Received answer)) (sym own) (names_by (is_no_memory got.told) x.ssrc x.format.payload_type got.told answer got.arrives) in
    let about : IsAboutPair c pair.ssrc named = gets_ssrc s now micros datagram answer ss pair ps found names in
    subst (λ (o : Port). Evolves given c ss o.streams) (sym got.left)
    (subst (λ (zs : List StreamState). Evolves given c ss (slice_set zs place got.after)) (sym is)
    (evolves_all given c ss (slice_set (paired_where pair.ssrc named ss) place got.after) (λ s t. refl)
    (one_paired c pair.ssrc named ss place x got.after there apart
    (λ (z : StreamState) (e : paired_if pair.ssrc named z ≡ x).
    paired_fed_goes now micros datagram probation named (z.ssrc == pair.ssrc) z got.told got.after answer (about z [])
    (subst (λ (w : StreamState). Takes now probation datagram.items w got.told got.after) (sym e) got.takes)
    (subst (λ (w : StreamState). Arrives (is_no_memory got.told) (arrival_of w.ssrc w.format.payload_type got.told) answer) (sym e) got.arrives))
    (λ (z : StreamState) (other : is_same z.ssrc z.format.payload_type x.ssrc x.format.payload_type ≡ false).
    paired_goes c pair.ssrc named (z.ssrc == pair.ssrc) z refl about refl
    (given_other (is_no_memory got.told) now datagram.items z.ssrc z.format.payload_type x.ssrc x.format.payload_type got.told answer other got.arrives)))))

-- the stream of the pair is one of the streams
feeds_found : (o : Option ℕ) (given s : SessionSettings) (probation : ℕ) (now : Ticks) (micros : Option ℕ) (datagram : Vec ℕ) (pair : SsrcPair) (ps : List SsrcPair) (ss : List StreamState) (p : Port) (answer : Result Arrival AllocError) (q : Port)
    → (found : IsFound s datagram.items ss pair) → p.streams ≡ paired_where pair.ssrc (with_pair pair ps) ss → AreApart ss → position (is_of pair.ssrc found.own_type) p.streams ≡ o
    → FeedsIf o arrivals.Unassociated probation now datagram.items p answer q → Evolves given (call_of now micros datagram answer) ss q.streams
feeds_found None given s probation now micros datagram pair ps ss p answer q found is apart none got =
    absurd (found.there (absent_before pair.ssrc found.own_type pair.ssrc (with_pair pair ps) ss
    (subst (λ (zs : List StreamState). IsAbsent pair.ssrc found.own_type zs) is (found_none pair.ssrc found.own_type p.streams none))))
feeds_found (Some place) given s probation now micros datagram pair ps ss p answer q found is apart at got =
    let here = position-Some (is_of pair.ssrc found.own_type) p.streams place got.stream at in
    let own : is_of pair.ssrc found.own_type got.stream ≡ true =
    subst (λ (x : StreamState). is_of pair.ssrc found.own_type x ≡ true) (at_place p.streams place got.stream got.stream got.there) here.1 in
    feeds_paired given s probation place now micros datagram pair ps ss p answer q found is apart got (sym (of_is pair.ssrc found.own_type got.stream own).0)

-- ---- the datagram after the pair

pub paired_evolves : (s : SessionSettings) (now : Ticks) (micros : Option ℕ) (datagram : Vec ℕ) (pair : SsrcPair) (named : Vec SsrcPair) (ss : List StreamState) (p : Port) (answer : Result Arrival AllocError) (q : Port)
    → IsFound s datagram.items ss pair → named.items ≡ with_pair pair s.pairs.items → p.streams ≡ paired_where pair.ssrc (with_pair pair s.pairs.items) ss → AreApart ss
    → TakesIn (record s { pairs = named }) now datagram.items p answer q → Evolves s (call_of now micros datagram answer) ss q.streams
paired_evolves s now micros datagram pair named ss p answer q found has is apart got =
    let owner : stream_of found.packet.header.ssrc named.items ≡ Some pair.ssrc =
    ap (λ (ps : List SsrcPair). stream_of found.packet.header.ssrc ps) has
    ∙ (ap (λ (n : ℕ). stream_of n (with_pair pair s.pairs.items)) (sym found.own) ∙ stream_last pair s.pairs.items) in
    feeds_found (position (is_of pair.ssrc found.own_type) p.streams) s s s.probation now micros datagram pair s.pairs.items ss p answer q found is apart refl
    (subst (λ (o : Option ℕ). TakesInAs (sorted_retransmission o found.own_type) (record s { pairs = named }) now datagram.items p answer q) owner
    (subst (λ (d : _). TakesInAs d (record s { pairs = named }) now datagram.items p answer q) (sorted_found s named datagram.items ss pair found) got))

-- memory ran out for the datagram: the pair stays
pub failed_paired : (s : SessionSettings) (now : Ticks) (micros : Option ℕ) (datagram : Vec ℕ) (pair : SsrcPair) (answer : Result Arrival AllocError) (ss : List StreamState) → IsFound s datagram.items ss pair → IsErr answer
    → Evolves s (call_of now micros datagram answer) ss (paired_where pair.ssrc (with_pair pair s.pairs.items) ss)
failed_paired s now micros datagram pair (Ok arrival) ss found fails = absurd (cc)
failed_paired s now micros datagram pair (Err e) ss found fails =
    pairs_evolve s (call_of now micros datagram (Err e)) pair.ssrc (with_pair pair s.pairs.items) ss (gets_ssrc s now micros datagram (Err e) ss pair s.pairs.items found tt) (λ s t. refl) (λ s t. refl)
