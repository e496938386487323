-- The streams of a report, one after another.
use Rattle.std.proofs.Common.{◌≡◌, ◌<◌, ◌≤◌, ◌∙◌, ◌||◌, ◌&&◌, ◌==◌, not, cond, leb, ℕ, zero, suc, ◌+◌, ◌-◌, List, [], ◌∷◌, ◌++◌, length, take, drop, set, get_or, Bool, true, false, Option, Some, None, Result, Ok, Err, IfOk, IfErr, ap, refl, sym, subst, arith, append_assoc}
use Rattle.std.proofs.lemmas.Bool.{and_parts, leb-true}
use Rattle.std.proofs.lemmas.Bool.Decides.{nat_tests}
use Rattle.std.proofs.lemmas.List.{append-nil, drop-set-lt, drop_all, drop_more, length-take, take_all, take_more_set}
use Rattle.std.specs.Global.{Vec}
use Rattle.std.specs.List.{cons_option, filter_map}
use Rattle.std.specs.declared.alloc.AllocError.{AllocError}
use Rattle.codec_payload_rtcp.specs.declared.items.ReportBlock.{ReportBlock}
use Rattle.codec_payload_feedback_xr.specs.Exchange.{reference_time}
use Rattle.codec_payload_session.specs.Arrivals.{Port}
use Rattle.codec_payload_session_stream.specs.Reports.{block_of, reported_if}
use Rattle.codec_payload_session.specs.Reporting.{IsReport, Reports, ReportsEach, ReportsIf, all_reported, blocks_of, bytes_if, bytes_of, due_after, due_if, due_streams, extended_part, has_announced, is_chosen, is_due, is_first_chosen, is_first_due, is_new_round, is_report_due, is_reported, most_blocks, noted_sent, room_after}
use Rattle.codec_payload_session_formats.specs.declared.formats.FeedbackSettings.{FeedbackSettings}
use Rattle.codec_payload_session_stream.specs.declared.stream.StreamState.{StreamState}

-- ---- streams that are due

-- the stream at a place is due, or it is not
due_here : (is_new : Bool) (ss : List StreamState) (i : ℕ) (d : StreamState) (b : Bool) → i < length ss → is_first_due is_new (drop i ss) ≡ b
    → due_streams is_new (drop i ss) ≡ due_if b (get_or ss i d) (due_streams is_new (drop (i + 1) ss))
due_here is_new ss i d b within is =
    let rest : List StreamState = drop (i + 1) ss in
    let front : drop i ss ≡ get_or ss i d ∷ rest = drop_more ss i d within in
    let it : is_due is_new (get_or ss i d) rest ≡ b = ap (λ (l : List StreamState). is_first_due is_new l) (sym front) ∙ is in
    ap (λ (l : List StreamState). due_streams is_new l) front ∙ ap (λ (c : Bool). due_if c (get_or ss i d) (due_streams is_new rest)) it

pub count_one : (is_new : Bool) (ss : List StreamState) (i count next : ℕ) → i < length ss → is_first_due is_new (drop i ss) ≡ true → next ≡ count + 1
    → count + length (due_streams is_new (drop i ss)) ≡ length (due_streams is_new ss) → next + length (due_streams is_new (drop (i + 1) ss)) ≡ length (due_streams is_new ss)
count_one is_new [] i count next within is more counted = absurd (omega (arith, within))
count_one is_new (s ∷ ss) i count next within is more counted =
    omega (arith, ap (λ (l : List StreamState). length l) (due_here is_new (s ∷ ss) i s true within is), more, counted)

pub count_none : (is_new : Bool) (ss : List StreamState) (i count next : ℕ) → i < length ss → is_first_due is_new (drop i ss) ≡ false → next ≡ count
    → count + length (due_streams is_new (drop i ss)) ≡ length (due_streams is_new ss) → next + length (due_streams is_new (drop (i + 1) ss)) ≡ length (due_streams is_new ss)
count_none is_new [] i count next within is same counted = absurd (omega (arith, within))
count_none is_new (s ∷ ss) i count next within is same counted =
    omega (arith, ap (λ (l : List StreamState). length l) (due_here is_new (s ∷ ss) i s false within is), same, counted)

-- ---- blocks

take_first : (room : ℕ) (s : StreamState) (ss : List StreamState) → 1 ≤ room → take room (s ∷ ss) ≡ s ∷ take (room - 1) ss
take_first zero s ss some = absurd (omega (arith, some))
take_first (suc n) s ss some = let less : n ≡ suc n - 1 = omega arith in ap (λ (m : ℕ). s ∷ take m ss) less

bytes_with : (o : Option ReportBlock) (bs : List ReportBlock) → bytes_of (cons_option o bs) ≡ bytes_if o ++ bytes_of bs
bytes_with None bs = refl
bytes_with (Some b) bs = refl

-- what makes a stream one of this report
chosen_parts : (is_new : Bool) (room : ℕ) (l : List StreamState) → is_first_chosen is_new room l ≡ true → (1 ≤ room) × (is_first_due is_new l ≡ true)
chosen_parts is_new room [] is = absurd cc
chosen_parts is_new room (s ∷ later) is =
    let both = and_parts (leb 1 room) (is_due is_new s later) is in
    (leb-true 1 room both.0, both.1)

-- the stream at a place gave its block
pub block_more : (is_new : Bool) (room left tick_rate now : ℕ) (ss : List StreamState) (i : ℕ) (s : StreamState) (a b : List ℕ) → i < length ss → s ≡ get_or ss i s → is_first_chosen is_new room (drop i ss) ≡ true → left ≡ room - 1
    → b ≡ a ++ bytes_if (block_of tick_rate now s) → b ++ bytes_of (blocks_of is_new left tick_rate now (drop (i + 1) ss)) ≡ a ++ bytes_of (blocks_of is_new room tick_rate now (drop i ss))
block_more is_new room left tick_rate now ss i s a b within at is less more =
    let rest : List StreamState = drop (i + 1) ss in
    let others : List ℕ = bytes_of (blocks_of is_new (room - 1) tick_rate now rest) in
    let parts = chosen_parts is_new room (drop i ss) is in
    let due : due_streams is_new (drop i ss) ≡ s ∷ due_streams is_new rest = due_here is_new ss i s true within parts.1 ∙ ap (λ (x : StreamState). x ∷ due_streams is_new rest) (sym at) in
    let front : take room (due_streams is_new (drop i ss)) ≡ s ∷ take (room - 1) (due_streams is_new rest) =
    ap (λ (l : List StreamState). take room l) due ∙ take_first room s (due_streams is_new rest) parts.0 in
    let whole : bytes_of (blocks_of is_new room tick_rate now (drop i ss)) ≡ bytes_if (block_of tick_rate now s) ++ others =
    ap (λ (l : List StreamState). bytes_of (filter_map (block_of tick_rate now) l)) front ∙ bytes_with (block_of tick_rate now s) (blocks_of is_new (room - 1) tick_rate now rest) in
    ap (λ (n : ℕ). b ++ bytes_of (blocks_of is_new n tick_rate now rest)) less
    ∙ ap (λ (l : List ℕ). l ++ others) more
    ∙ append_assoc a (bytes_if (block_of tick_rate now s)) others
    ∙ ap (λ (l : List ℕ). a ++ l) (sym whole)

none_in : (room : ℕ) (b : Bool) (s : StreamState) (ss : List StreamState) → (leb 1 room && b) ≡ false → take room (due_if b s ss) ≡ take room ss
none_in zero b s ss is = refl
none_in (suc n) true s ss is = absurd (grind (arith, nat_tests))
none_in (suc n) false s ss is = refl

none_first : (is_new : Bool) (room : ℕ) (l : List StreamState) (s : StreamState) (later : List StreamState) → l ≡ s ∷ later → is_first_chosen is_new room l ≡ false
    → take room (due_streams is_new l) ≡ take room (due_streams is_new later)
none_first is_new room l s later front is =
    ap (λ (x : List StreamState). take room (due_streams is_new x)) front
    ∙ none_in room (is_due is_new s later) s (due_streams is_new later) (ap (λ (x : List StreamState). is_first_chosen is_new room x) (sym front) ∙ is)

-- the stream at a place gave no block
pub block_none : (is_new : Bool) (room left tick_rate now : ℕ) (ss : List StreamState) (i : ℕ) (a b : List ℕ) → i < length ss → is_first_chosen is_new room (drop i ss) ≡ false → left ≡ room → b ≡ a
    → b ++ bytes_of (blocks_of is_new left tick_rate now (drop (i + 1) ss)) ≡ a ++ bytes_of (blocks_of is_new room tick_rate now (drop i ss))
block_none is_new room left tick_rate now [] i a b within is stays same = absurd (omega (arith, within))
block_none is_new room left tick_rate now (s ∷ ss) i a b within is stays same =
    let rest : List StreamState = drop (i + 1) (s ∷ ss) in
    let front : drop i (s ∷ ss) ≡ get_or (s ∷ ss) i s ∷ rest = drop_more (s ∷ ss) i s within in
    ap (λ (n : ℕ). b ++ bytes_of (blocks_of is_new n tick_rate now rest)) stays
    ∙ ap (λ (l : List ℕ). l ++ bytes_of (blocks_of is_new room tick_rate now rest)) same
    ∙ ap (λ (l : List StreamState). a ++ bytes_of (filter_map (block_of tick_rate now) l)) (sym (none_first is_new room (drop i (s ∷ ss)) (get_or (s ∷ ss) i s) rest front is))

few_of : (tick_rate now : ℕ) (ss : List StreamState) → length (filter_map (block_of tick_rate now) ss) ≤ length ss
few_of tick_rate now [] = omega arith
few_of tick_rate now (s ∷ ss) = with_few (block_of tick_rate now s) (filter_map (block_of tick_rate now) ss) (length ss) (few_of tick_rate now ss)
  where
    with_few : (o : Option ReportBlock) (bs : List ReportBlock) (n : ℕ) → length bs ≤ n → length (cons_option o bs) ≤ suc n
    with_few None bs n few = omega (arith, few)
    with_few (Some b) bs n few = omega (arith, few)

-- no more blocks than there is room for
pub few_blocks : (is_new : Bool) (room tick_rate now : ℕ) (ss : List StreamState) → length (blocks_of is_new room tick_rate now ss) ≤ room
few_blocks is_new room tick_rate now ss =
    omega (arith, few_of tick_rate now (take room (due_streams is_new ss)), length-take room (due_streams is_new ss))

-- ---- fractions

-- one more stream
pub fraction_more : (is_new : Bool) (room left : ℕ) (ss ts whole : List StreamState) (i : ℕ) (d t : StreamState) (b : Bool) → i < length ss → b ≡ is_first_chosen is_new room (drop i ss)
    → t ≡ reported_if b is_new (get_or ss i d) → left ≡ room_after b room → ts ≡ set ss i t → take i ss ++ all_reported is_new room (drop i ss) ≡ whole
    → take (i + 1) ts ++ all_reported is_new left (drop (i + 1) ts) ≡ whole
fraction_more is_new room left ss ts whole i d t b within tells is less changed made =
    let rest : List StreamState = drop (i + 1) ss in
    let s : StreamState = get_or ss i d in
    let front : drop i ss ≡ s ∷ rest = drop_more ss i d within in
    let chosen : b ≡ is_chosen is_new room s rest = tells ∙ ap (λ (l : List StreamState). is_first_chosen is_new room l) front in
    let there : all_reported is_new room (drop i ss) ≡ t ∷ all_reported is_new left rest =
    ap (λ (l : List StreamState). all_reported is_new room l) front ∙ ap (λ (c : Bool). reported_if c is_new s ∷ all_reported is_new (room_after c room) rest) (sym chosen)
    ∙ ap (λ (x : StreamState). x ∷ all_reported is_new (room_after b room) rest) (sym is) ∙ ap (λ (n : ℕ). t ∷ all_reported is_new n rest) (sym less) in
    let head : take (i + 1) ts ≡ take i ss ++ t ∷ [] = ap (λ (l : List StreamState). take (i + 1) l) changed ∙ take_more_set ss i t within in
    let tail : drop (i + 1) ts ≡ rest = ap (λ (l : List StreamState). drop (i + 1) l) changed ∙ drop-set-lt (i + 1) ss i t (omega arith) in
    ap (λ (l : List StreamState). l ++ all_reported is_new left (drop (i + 1) ts)) head ∙ ap (λ (l : List StreamState). (take i ss ++ t ∷ []) ++ all_reported is_new left l) tail
    ∙ append_assoc (take i ss) (t ∷ []) (all_reported is_new left rest) ∙ ap (λ (l : List StreamState). take i ss ++ l) (sym there) ∙ made

-- all streams
pub all_mixed : (is_new : Bool) (room : ℕ) (ts whole : List StreamState) (i : ℕ) → length ts ≤ i → take i ts ++ all_reported is_new room (drop i ts) ≡ whole → ts ≡ whole
all_mixed is_new room ts whole i end made =
    sym (append-nil ts) ∙ ap (λ (l : List StreamState). l ++ []) (sym (take_all i ts end)) ∙ ap (λ (l : List StreamState). take i ts ++ all_reported is_new room l) (sym (drop_all i ts end)) ∙ made

-- ---- turns

-- a report changes neither who is announced nor any SSRC
same_if : (b is_new : Bool) (s : StreamState) → ((reported_if b is_new s).announced ≡ s.announced) × ((reported_if b is_new s).ssrc ≡ s.ssrc)
same_if true is_new s = (refl, refl)
same_if false is_new s = (refl, refl)

same_announced : (ssrc : ℕ) (is_new : Bool) (room : ℕ) (ss : List StreamState) → has_announced ssrc (all_reported is_new room ss) ≡ has_announced ssrc ss
same_announced ssrc is_new room [] = refl
same_announced ssrc is_new room (s ∷ ss) =
    let b : Bool = is_chosen is_new room s ss in
    let it = same_if b is_new s in
    ap (λ (t : Bool). (t && ((reported_if b is_new s).ssrc == ssrc)) || has_announced ssrc (all_reported is_new (room_after b room) ss)) it.0
    ∙ ap (λ (n : ℕ). (s.announced && (n == ssrc)) || has_announced ssrc (all_reported is_new (room_after b room) ss)) it.1
    ∙ ap (λ (t : Bool). (s.announced && (s.ssrc == ssrc)) || t) (same_announced ssrc is_new (room_after b room) ss)

same_reported : (b is_new : Bool) (room : ℕ) (s : StreamState) (ss : List StreamState) → is_reported (reported_if b is_new s) (all_reported is_new room ss) ≡ is_reported s ss
same_reported b is_new room s ss =
    let it = same_if b is_new s in
    ap (λ (t : Bool). t && not (has_announced (reported_if b is_new s).ssrc (all_reported is_new room ss))) it.0
    ∙ ap (λ (n : ℕ). s.announced && not (has_announced n (all_reported is_new room ss))) it.1
    ∙ ap (λ (t : Bool). s.announced && not t) (same_announced s.ssrc is_new room ss)

-- a stream of this report is not due again in its round
not_again : (reported : Bool) → (reported && (false || not true)) ≡ false
not_again true = refl
not_again false = refl

-- another stream is due as before
as_before : (reported is_new was : Bool) → (reported && (false || not (not is_new && was))) ≡ (reported && (is_new || not was))
as_before true true was = refl
as_before true false was = refl
as_before false is_new was = refl

due_again : (b is_new : Bool) (room : ℕ) (s : StreamState) (ss : List StreamState)
    → is_due false (reported_if b is_new s) (all_reported is_new room ss) ≡ cond b false (is_due is_new s ss)
due_again true is_new room s ss =
    ap (λ (r : Bool). r && (false || not true)) (same_reported true is_new room s ss) ∙ not_again (is_reported s ss)
due_again false is_new room s ss =
    ap (λ (r : Bool). r && (false || not (not is_new && s.was_reported))) (same_reported false is_new room s ss) ∙ as_before (is_reported s ss) is_new s.was_reported

one_fewer : (some due : Bool) (room : ℕ) (s t : StreamState) (rest left : List StreamState) → leb 1 room ≡ some → length left ≡ length rest - room_after (some && due) room
    → length (due_if (cond (some && due) false due) t left) ≡ length (due_if due s rest) - room
one_fewer true true room s t rest left is fewer = omega (arith, fewer, leb-true 1 room is)
one_fewer true false room s t rest left is fewer = fewer
one_fewer false true zero s t rest left is fewer = omega (arith, fewer)
one_fewer false true (suc room) s t rest left is fewer = absurd (grind (arith, nat_tests))
one_fewer false false room s t rest left is fewer = fewer

pub take_turns : (is_new : Bool) (room : ℕ) (ss : List StreamState) → length (due_streams false (all_reported is_new room ss)) ≡ length (due_streams is_new ss) - room
take_turns is_new room [] = omega arith
take_turns is_new room (s ∷ ss) =
    let b : Bool = is_chosen is_new room s ss in
    let left : List StreamState = due_streams false (all_reported is_new (room_after b room) ss) in
    ap (λ (c : Bool). length (due_if c (reported_if b is_new s) left)) (due_again b is_new (room_after b room) s ss)
    ∙ one_fewer (leb 1 room) (is_due is_new s ss) room s (reported_if b is_new s) (due_streams is_new ss) left refl (take_turns is_new (room_after b room) ss)

-- ---- a report is sent

sends_by : (f : FeedbackSettings) (interval tick_rate now : ℕ) (due : Option ℕ) (p : Port) (packet : Result (Vec ℕ) AllocError) (next : Option ℕ) (q : Port)
    → IfOk packet (λ bytes. IsReport f (bytes_of (blocks_of (is_new_round (most_blocks f) p.streams) (most_blocks f) tick_rate now p.streams)) (extended_part f (reference_time now tick_rate) p.exchange) bytes.items) → IfOk packet (λ bytes. q ≡ noted_sent (record p { streams = all_reported (is_new_round (most_blocks f) p.streams) (most_blocks f) p.streams })) → IfErr packet (λ e. q ≡ p)
    → next ≡ due_after packet interval now due → Reports f interval tick_rate now due p packet next q
sends_by f interval tick_rate now due p (Ok packet) next q is after stays then = (is, then, after)
sends_by f interval tick_rate now due p (Err e) next q is after stays then = (then, stays)

pub sends : (f : FeedbackSettings) (wanted : Option ℕ) (interval tick_rate now : ℕ) (due : Option ℕ) (p : Port) (packet : Result (Vec ℕ) AllocError) (next : Option ℕ) (q : Port)
    → wanted ≡ Some interval → is_report_due now due p ≡ true
    → IfOk packet (λ bytes. IsReport f (bytes_of (blocks_of (is_new_round (most_blocks f) p.streams) (most_blocks f) tick_rate now p.streams)) (extended_part f (reference_time now tick_rate) p.exchange) bytes.items) → IfOk packet (λ bytes. q ≡ noted_sent (record p { streams = all_reported (is_new_round (most_blocks f) p.streams) (most_blocks f) p.streams })) → IfErr packet (λ e. q ≡ p)
    → next ≡ due_after packet interval now due → ReportsEach wanted f tick_rate now due p (Some packet) next q
sends f wanted interval tick_rate now due p packet next q some time is after stays then =
    subst (λ (w : Option ℕ). ReportsEach w f tick_rate now due p (Some packet) next q) (sym some)
    (subst (λ (b : Bool). ReportsIf b f interval tick_rate now due p (Some packet) next q) (sym time)
    (packet, refl, sends_by f interval tick_rate now due p packet next q is after stays then))
