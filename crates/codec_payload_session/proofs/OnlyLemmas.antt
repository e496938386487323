-- A stream that alone has its SSRC: what finds it, and that its sender left no other stream.
use Rattle.std.proofs.Common.{◌≡◌, ◌≢◌, ◌∙◌, ◌<◌, ◌&&◌, ℕ, ◌+◌, ◌-◌, List, length, set, get_or, Option, Some, None, Bool, true, false, not, is_ok, ap, refl, sym, subst, arith, inl, inr}
use Rattle.std.proofs.lemmas.List.{get_or-set_other, get_or-set_same, get_or_default, length-set}
use Rattle.std.proofs.lemmas.Bool.{cases_lt}
use Rattle.std.proofs.lemmas.Option.{get_or_from_slice_get}
use Rattle.std.proofs.lemmas.Bool.Decides.{nat_tests}
use Rattle.std.specs.Prelude.{nat_le, ◌==◌}
use Rattle.std.specs.declared.result.Result.{Result}
use Rattle.std.specs.declared.alloc.AllocError.{AllocError}
use Rattle.codec_payload_base.specs.declared.wire.Ticks.{Ticks}
use Rattle.codec_payload_index.specs.Ssrcs.{IsFirstFrom, IsOnly, IsPlaceFrom}
use Rattle.codec_payload_jitter.specs.declared.outcome.Outcome.{Outcome}
use Rattle.codec_payload_receiver.specs.declared.receiver.ReceiveError.{ReceiveError}
use Rattle.codec_payload_receiver.specs.Sessions.{Session as Receiver}
use Rattle.codec_payload_rtp.specs.RtpReading.{rtp_at}
use Rattle.codec_payload_session_formats.specs.Formats.{is_video}
use Rattle.codec_payload_session_formats.specs.declared.formats.Format.{Format}
use Rattle.codec_payload_session_requests.specs.Late.{limit_by}
use Rattle.codec_payload_session_stream.specs.Changes.{any_left_behind, are_alike, is_left_behind, is_playing, takes_turns}
use Rattle.codec_payload_session_stream.specs.Streams.{StreamState, Takes, heard_unless, is_accepted, is_no_memory, is_of, late_followed, late_noted, payload_size, received, waiting_for, with_edges, probed}
use Rattle.codec_payload_session_stream.specs.Waking.{ssrcs_of}
use Rattle.codec_payload_session_stream.specs.declared.arrival.Arrival.{Arrival}
use Rattle.codec_payload_session.specs.Arrivals.{Feeds, Port}
use Rattle.codec_payload_session.specs.Waking.{IsOnlyOf}
use Rattle.codec_payload_session_stream.proofs.SsrcLemmas.{count_of, ssrc_at}
use Rattle.codec_payload_session.proofs.SsrcLemmas.{first_at, found_in, is_of_it, none_before, none_left, of_left, of_ssrc}

-- ---- a stream that takes a datagram keeps its format

waiting_format : (o : Option ℕ) (s : StreamState) → (waiting_for o s).format ≡ s.format
waiting_format None s = refl
waiting_format (Some wait) s = refl

received_format : (now : ℕ) (bytes : List ℕ) (b : Bool) (r : Receiver) (s : StreamState) → (received now bytes b r s).format ≡ s.format
received_format now bytes true r s = waiting_format _ _
received_format now bytes false r s = refl

late_format : (b : Bool) (now : ℕ) (bytes : List ℕ) (s : StreamState) → (late_followed b now bytes s).format ≡ s.format
late_format true now bytes s = waiting_format (limit_by (late_noted now bytes s).late) (late_noted now bytes s)
late_format false now bytes s = refl

heard_format : (b : Bool) (now probation : ℕ) (accepted : Bool) (size : ℕ) (s : StreamState) → (heard_unless b now probation accepted size s).format ≡ s.format
heard_format true now probation accepted size s = refl
heard_format false now probation accepted size s = refl

takes_format : (now : Ticks) (probation : ℕ) (bytes : List ℕ) (s : StreamState) (answer : Result Outcome ReceiveError) (t : StreamState) → Takes now probation bytes s answer t → t.format ≡ s.format
takes_format now probation bytes s answer t got =
    let r : StreamState = received now.0 bytes (is_accepted answer) got.0 (with_edges got.0 got.1 (probed bytes answer s)) in
    ap (λ (x : StreamState). x.format) got.3 ∙ heard_format (is_no_memory answer) now.0 probation (is_accepted answer) (payload_size (rtp_at bytes)) (late_followed (is_ok answer) now.0 bytes r)
    ∙ late_format (is_ok answer) now.0 bytes r
    ∙ received_format now.0 bytes (is_accepted answer) got.0 (with_edges got.0 got.1 (probed bytes answer s))

-- ---- the only stream of an SSRC

pub only_of : (ssrc payload_type place : ℕ) (ids : List ℕ) (ss : List StreamState) (x : StreamState) → ids ≡ ssrcs_of ss → IsOnly ssrc ids (Some place) → x ≡ get_or ss place x
    → x.format.payload_type ≡ payload_type → IsOnlyOf ssrc payload_type place ss
only_of ssrc payload_type place ids ss x listed only is type_is =
    let it = found_in ids ssrc 0 place ss x listed only.0 is in
    let found : IsPlaceFrom 0 ssrc (ssrcs_of ss) place = subst (λ (l : List ℕ). IsPlaceFrom 0 ssrc l place) listed only.0 in
    let alone : IsFirstFrom (place + 1) ssrc (ssrcs_of ss) None = subst (λ (l : List ℕ). IsFirstFrom (place + 1) ssrc l None) listed only.1 in
    let none = none_before (is_of ssrc payload_type) ssrc 0 place ss (of_ssrc ssrc payload_type) (λ k d low l. absurd (omega (arith, l))) found in
    record {
      within = it.within;
      found = first_at (is_of ssrc payload_type) ss place x it.within none is (is_of_it ssrc payload_type x it.ssrc_is type_is);
      type_is = λ d. ap (λ (s : StreamState). s.format.payload_type) (get_or_default ss place d x it.within ∙ sym is) ∙ type_is;
      others = λ i d l other same. elim (cases_lt i place) [
        | inl low ↦ found.first i 0 (omega arith) low (ssrc_at ss i d l ∙ same)
        | inr high ↦ elim (cases_lt place i) [
          | inl more ↦ alone i 0 (omega (arith, more)) (omega (arith, l, count_of ss)) (ssrc_at ss i d l ∙ same)
          | inr equal ↦ other (omega (arith, high, equal))
        ]
      ];
    }

-- no stream of this payload type was left for it
of_type : (now wait ssrc : ℕ) (f : Format) (s : StreamState) → s.format.payload_type ≡ f.payload_type → is_left_behind now wait ssrc f s ≡ false
of_type now wait ssrc f s same =
    let e : (s.format.payload_type == f.payload_type) ≡ true = grind (arith, nat_tests, same) in
    ap (λ (b : Bool). (s.ssrc == ssrc) && not b && not (takes_turns s.format.spec.codec) && are_alike (is_video s.format.spec.codec) (is_video f.spec.codec) && is_playing s.stage && nat_le wait (now - s.last)) e
    ∙ by_test (s.ssrc == ssrc)
  where
    by_test : (a : Bool) → (a && not true && not (takes_turns s.format.spec.codec) && are_alike (is_video s.format.spec.codec) (is_video f.spec.codec) && is_playing s.stage && nat_le wait (now - s.last)) ≡ false
    by_test true = refl
    by_test false = refl

-- so once it took the datagram, its sender left no other one
pub left_none : (wait ssrc place probation : ℕ) (f : Format) (now : Ticks) (bytes : List ℕ) (p : Port) (answer : Result Arrival AllocError) (q : Port) → IsOnlyOf ssrc f.payload_type place p.streams
    → Feeds probation place now bytes p answer q → any_left_behind now.0 wait ssrc f q.streams ≡ false
left_none wait ssrc place probation f now bytes p answer q only feeds =
    ap (λ (x : Port). any_left_behind now.0 wait ssrc f x.streams) feeds.left ∙ none_left now.0 wait ssrc f (set ss place feeds.after) (λ k d low l. at k d l)
  where
    ss : List StreamState
    ss = p.streams

    after_is : feeds.after.format.payload_type ≡ f.payload_type
    after_is = ap (λ (g : Format). g.payload_type) (takes_format now probation bytes feeds.stream feeds.told feeds.after feeds.takes)
        ∙ sym (ap (λ (s : StreamState). s.format.payload_type) (get_or_from_slice_get ss place feeds.stream feeds.stream feeds.there)) ∙ only.type_is feeds.stream

    other : (k : ℕ) (d : StreamState) → k < length (set ss place feeds.after) → k ≢ place → is_left_behind now.0 wait ssrc f (get_or (set ss place feeds.after) k d) ≡ false
    other k d l apart = ap (is_left_behind now.0 wait ssrc f) (get_or-set_other ss place k feeds.after d apart)
        ∙ (of_left now.0 wait ssrc f).fails (get_or ss k d) (only.others k d (omega (arith, l, length-set ss place feeds.after)) apart)

    same : (k : ℕ) (d : StreamState) → k ≡ place → is_left_behind now.0 wait ssrc f (get_or (set ss place feeds.after) k d) ≡ false
    same k d is = ap (λ (i : ℕ). is_left_behind now.0 wait ssrc f (get_or (set ss place feeds.after) i d)) is
        ∙ ap (is_left_behind now.0 wait ssrc f) (get_or-set_same ss place feeds.after d only.within) ∙ of_type now.0 wait ssrc f feeds.after after_is

    at : (k : ℕ) (d : StreamState) → k < length (set ss place feeds.after) → is_left_behind now.0 wait ssrc f (get_or (set ss place feeds.after) k d) ≡ false
    at k d l = elim (cases_lt k place) [
      | inl low ↦ other k d l (λ is. absurd (omega (arith, low, is)))
      | inr high ↦ elim (cases_lt place k) [
        | inl more ↦ other k d l (λ is. absurd (omega (arith, more, is)))
        | inr equal ↦ same k d (omega (arith, high, equal))
      ]
    ]
