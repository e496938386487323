-- What the calls of a path are for its pacer and for its limit.
use Rattle.std.proofs.Common.{◌≡◌, ◌≤◌, ◌∙◌, refl, sym, ap, subst, ℕ, ◌+◌, ◌-◌, ◌*◌, max, drop, Bool, true, false, List, [], ◌∷◌, ◌++◌, length, Option, Some, None, arith}
use Rattle.std.proofs.lemmas.List.{take-append-le}
use Rattle.codec_payload_bandwidth_pacer.proofs.RunLemmas.{leaves_by_the_rate}
use Rattle.codec_payload_bandwidth_pacer.proofs.ShareLemmas.{resends_are_shared}
use Rattle.codec_payload_bandwidth_pacer.specs.Pacing.{Pacing, after_pop as pacer_after, bits_of, filled, next_of}
use Rattle.codec_payload_bandwidth_pacer.specs.Resending.{Limit, after_resend, after_sent, new_limit}
use Rattle.codec_payload_bandwidth_pacer.specs.ResendRuns.{Call as LimitCall, after_calls as limit_after, resent_by, resent_bytes, sent_in}
use Rattle.codec_payload_bandwidth_pacer.specs.Runs.{carried_by, last_size, left_by as pacer_left, sizes, with_packet}
use Rattle.codec_payload_bandwidth_pacer.specs.declared.pacer.PacedPacket.{PacedPacket}
use Rattle.codec_payload_bandwidth_path.specs.Departures.{Departed, clock_by, counted_of, departed_in, index_near, last_time, open_index, reported_fates, unknown_fates}
use Rattle.codec_payload_bandwidth_path.specs.Paths.{Path, after_feedback, after_pop, estimate_by, is_first, limit_with, new_path, with_leaving}
use Rattle.codec_payload_bandwidth_path.specs.PathRuns.{Call, LeavesByThePace, LimitsByCalls, PacketsBehindChangeNothing, ResendsByTheShare, StrangersChangeNothing, after_call, after_calls, choose, feedback, left_by, limit_calls, limit_calls_of, pacer_calls, pop, push, remove, resend, sent_call, take_back}

-- ---- the pacer

leaving_pacer : (now : ℕ) (o : Option PacedPacket) (p : Path) → (with_leaving now o p).pacer ≡ p.pacer
leaving_pacer now None p = refl
leaving_pacer now (Some packet) p = refl

pop_pacer : (now : ℕ) (p : Path) → (after_pop now p).pacer ≡ pacer_after now p.pacer
pop_pacer now p = leaving_pacer now (next_of (filled now p.pacer)) (record p { pacer = pacer_after now p.pacer })

leaves_as : (calls : List Call) (p : Path) → left_by calls p ≡ pacer_left (pacer_calls calls p) p.pacer
leaves_as [] p = refl
leaves_as (push packet ∷ calls) p = leaves_as calls (after_call (push packet) p)
leaves_as (pop now ∷ calls) p =
    ap (λ (packets : List PacedPacket). with_packet (next_of (filled now p.pacer)) packets)
    (leaves_as calls (after_pop now p) ∙ ap (λ (q : Pacing). pacer_left (pacer_calls calls (after_pop now p)) q) (pop_pacer now p))
leaves_as (remove kind ∷ calls) p = leaves_as calls (after_call (remove kind) p)
leaves_as (resend now number size round_trip ∷ calls) p = leaves_as calls (after_call (resend now number size round_trip) p)
leaves_as (feedback now round_trip base statuses ∷ calls) p = leaves_as calls (after_call (feedback now round_trip base statuses) p)
leaves_as (choose now choices ∷ calls) p = leaves_as calls (after_call (choose now choices) p)
leaves_as (take_back number ∷ calls) p = leaves_as calls (after_call (take_back number) p)

pub leaves_by_the_pace : LeavesByThePace
leaves_by_the_pace p calls =
    subst (λ (packets : List PacedPacket). bits_of (sizes packets) ≤ carried_by (pacer_calls calls p) p.pacer + bits_of (p.pacer.settings.burst + last_size packets)) (sym (leaves_as calls p))
    (leaves_by_the_rate p.pacer (pacer_calls calls p))

-- ---- the limit

sent_limit : (now : ℕ) (b : Bool) (packet : PacedPacket) (before : List LimitCall) (l first : Limit) → is_first packet.kind ≡ b → l ≡ limit_after before first
    → limit_with now packet l ≡ limit_after (sent_call now (Some packet) ++ before) first
sent_limit now true packet before l first is same = rw is (ap (λ (x : Limit). after_sent now packet.size x) same)
sent_limit now false packet before l first is same = rw is same

leaving_limit : (now : ℕ) (o : Option PacedPacket) (p : Path) (before : List LimitCall) (first : Limit) → p.limit ≡ limit_after before first
    → (with_leaving now o p).limit ≡ limit_after (sent_call now o ++ before) first
leaving_limit now None p before first same = same
leaving_limit now (Some packet) p before first same = sent_limit now (is_first packet.kind) packet before p.limit first refl same

limits_as : (calls : List Call) (p : Path) (before : List LimitCall) (first : Limit) → p.limit ≡ limit_after before first
    → (after_calls calls p).limit ≡ limit_after (limit_calls calls p before) first
limits_as [] p before first same = same
limits_as (push packet ∷ calls) p before first same = limits_as calls (after_call (push packet) p) before first same
limits_as (pop now ∷ calls) p before first same =
    limits_as calls (after_pop now p) (sent_call now (next_of (filled now p.pacer)) ++ before) first
    (leaving_limit now (next_of (filled now p.pacer)) (record p { pacer = pacer_after now p.pacer }) before first same)
limits_as (remove kind ∷ calls) p before first same = limits_as calls (after_call (remove kind) p) before first same
limits_as (resend now number size round_trip ∷ calls) p before first same =
    limits_as calls (after_call (resend now number size round_trip) p) _ first (ap (λ (l : Limit). after_resend now number size round_trip l) same)
limits_as (feedback now round_trip base statuses ∷ calls) p before first same = limits_as calls (after_call (feedback now round_trip base statuses) p) before first same
limits_as (choose now choices ∷ calls) p before first same = limits_as calls (after_call (choose now choices) p) before first same
limits_as (take_back number ∷ calls) p before first same = limits_as calls (after_call (take_back number) p) before first same

pub limits_by_calls : LimitsByCalls
limits_by_calls now settings calls = limits_as calls (new_path now settings) [] (new_limit settings.resends) refl

zero_more : (n : ℕ) → 0 + n ≡ n
zero_more n = omega arith

pub resends_by_the_share : ResendsByTheShare
resends_by_the_share now settings calls =
    subst (λ (n : ℕ). resent_bytes (resent_by (limit_calls_of now settings calls) (new_limit settings.resends)) * 1000 ≤ settings.resends.share * n)
    (zero_more (sent_in (limit_calls_of now settings calls))) (resends_are_shared settings.resends [] (limit_calls_of now settings calls))

-- ---- feedback

pub strangers_change_nothing : StrangersChangeNothing
strangers_change_nothing p now round_trip base statuses none = rw none refl

-- the statuses of packets that left are the same
behind_counts_not : (first : ℕ) (statuses behind : List (Option ℕ)) (d : Departed) → d.count ≤ first + length statuses
    → counted_of first (statuses ++ behind) d ≡ counted_of first statuses d
behind_counts_not first statuses behind d most = take-append-le (d.count - first) statuses behind (omega (arith, most))

-- a path after a feedback that begins with the packet with this index, by the statuses of packets that left
abbrev path_after : (now round_trip base : ℕ) → List (Option ℕ) → Path → Path
path_after now round_trip base counted p = record p {
  estimator = estimate_by now round_trip
      (unknown_fates (departed_in (open_index p.departures) (max base (open_index p.departures)) p.departures)
      ++ reported_fates p.departures.clock (departed_in (max base (open_index p.departures)) p.departures.count p.departures) (drop (max base (open_index p.departures) - base) counted))
      p.estimator;
  departures = record p.departures { counted = max p.departures.counted (base + length counted); clock = clock_by p.departures.clock (last_time counted) };
}

after_is : (p : Path) (now round_trip base first : ℕ) (statuses : List (Option ℕ)) → index_near base p.departures.count ≡ Some first
    → after_feedback now round_trip base statuses p ≡ path_after now round_trip first (counted_of first statuses p.departures) p
after_is p now round_trip base first statuses is = rw is refl

pub packets_behind_change_nothing : PacketsBehindChangeNothing
packets_behind_change_nothing p now round_trip base first statuses behind is most =
    after_is p now round_trip base first (statuses ++ behind) is
    ∙ (ap (λ (counted : List (Option ℕ)). path_after now round_trip first counted p) (behind_counts_not first statuses behind p.departures most)
    ∙ sym (after_is p now round_trip base first statuses is))
