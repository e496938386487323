-- What is spelled is read.
use Rattle.std.proofs.Common.{◌≡◌, ℕ, ◌+◌, ◌-◌, ◌*◌, ◌/◌, ◌%◌, ◌<◌, ◌≤◌, ◌&&◌, true, nat_le, List, [], ◌∷◌, ◌++◌, length, take, drop, Option, Some, None, Result, Ok, refl, ap, ◌∙◌, arith, append_assoc, length-append}
use Rattle.std.specs.Int.{w16, w32, from_be_bytes, to_be_bytes}
use Rattle.std.proofs.lemmas.Bool.{le-ltb}
use Rattle.std.proofs.lemmas.Bool.Decides.{nat_tests}
use Rattle.std.proofs.lemmas.List.{drop_at, take_at}
use Rattle.std.proofs.lemmas.Nat.{from_be_bytes-to_be_bytes_2, from_be_bytes-to_be_bytes_4}
use Rattle.codec_payload_feedback_ccfb.specs.Ccfb.{Congestion, Report, block_size, congestion_fits, fill_of, metric_fits, metric_word, metrics_bytes, metrics_fit, report_bytes, report_fits, reports_bytes, reports_fit}
use Rattle.codec_payload_feedback_ccfb.specs.CcfbReading.{AreNumbers, FeedbackComesBack, after_block, block_at, body_at, metric_at, metrics_in, reports_at, reports_in, rest_at, with_report}
use Rattle.codec_payload_feedback_ccfb.specs.declared.feedback.CcfbFault.{CcfbFault}
use Rattle.codec_payload_feedback_ccfb.specs.declared.feedback.PacketMetric.{PacketMetric}
use Rattle.codec_payload_feedback_ccfb.proofs.CcfbLemmas.{both, length_fill, length_metrics, length_report, read_by}

same_metric : (m : PacketMetric) (a b : ℕ) → a ≡ m.ecn → b ≡ m.offset → (let o : Option PacketMetric = Some (record { ecn = a; offset = b }) in o) ≡ Some m
same_metric m a b ea eb = rw (ea, eb) refl

metric_back : (m : Option PacketMetric) → metric_fits m ≡ true → (metric_word m < 65536) × (metric_at (metric_word m) ≡ m)
metric_back None fit = (omega arith, refl)
metric_back (Some m) fit =
    let parts = both (nat_le m.ecn 3) (nat_le m.offset 8191) fit in
    let few : m.ecn ≤ 3 = grind (arith, nat_tests, parts.0) in
    let low : m.offset ≤ 8191 = grind (arith, nat_tests, parts.1) in
    let word : ℕ = 32768 + m.ecn * 8192 + m.offset in (
      omega (arith, few, low),
      rw (le-ltb word 32768 (omega arith)) (same_metric m (word / 8192 % 4) (word % 8192) (omega (arith, few, low)) (omega (arith, few, low))),
    )

metrics_next : (word : ℕ) (bytes : List ℕ) → word < 65536 → metrics_in (to_be_bytes w16 word ++ bytes) ≡ metric_at word ∷ metrics_in bytes
unfolding metrics_in
metrics_next word bytes small = rw (from_be_bytes-to_be_bytes_2 word small) refl

no_metrics : metrics_in [] ≡ []
unfolding metrics_in
no_metrics = refl

metrics_back : (ms : List (Option PacketMetric)) → metrics_fit ms ≡ true → metrics_in (metrics_bytes ms) ≡ ms
metrics_back [] fit = no_metrics
metrics_back (m ∷ ms) fit =
    let parts = both (metric_fits m) (metrics_fit ms) fit in
    let one = metric_back m parts.0 in
    metrics_next (metric_word m) (metrics_bytes ms) one.0
    ∙ ap (λ (x : Option PacketMetric). x ∷ metrics_in (metrics_bytes ms)) one.1
    ∙ ap (λ (xs : List (Option PacketMetric)). m ∷ xs) (metrics_back ms parts.1)

same_report : (r : Report) (ms : List (Option PacketMetric)) (more bytes : List ℕ) → ms ≡ r.metrics → bytes ≡ more
    → (let o : Result (Report × List ℕ) CcfbFault = Ok (record { ssrc = r.ssrc; first = r.first; metrics = ms }, bytes) in o) ≡ Ok (r, more)
same_report r ms more bytes e f = rw (e, f) refl

after_back : (r : Report) (more : List ℕ) → report_fits r ≡ true → after_block r.ssrc r.first (length r.metrics) ((metrics_bytes r.metrics ++ fill_of (length r.metrics)) ++ more) ≡ Ok (r, more)
after_back r more fit =
    let count : ℕ = length r.metrics in
    let size : ℕ = 2 * (count + count % 2) in
    let parts = both (nat_le count 16384) (metrics_fit r.metrics) fit in
    let few : count ≤ 16384 = grind (arith, nat_tests, parts.0) in
    let front : List ℕ = metrics_bytes r.metrics ++ fill_of count in
    let long : length front ≡ size = length-append (metrics_bytes r.metrics) (fill_of count) ∙ omega (arith, length_metrics r.metrics, length_fill count) in
    let all : length (front ++ more) ≡ size + length more = length-append front more ∙ ap (λ (n : ℕ). n + length more) long in
    let enough : size ≤ length (front ++ more) = omega (arith, all) in
    let taken : take (2 * count) (front ++ more) ≡ metrics_bytes r.metrics = ap (take (2 * count)) (append_assoc (metrics_bytes r.metrics) (fill_of count) more) ∙ take_at (metrics_bytes r.metrics) (fill_of count ++ more) (2 * count) (length_metrics r.metrics) in
    rw (le-ltb 16384 count few) (rw (le-ltb (length (front ++ more)) size enough)
    (same_report r (metrics_in (take (2 * count) (front ++ more))) more (drop size (front ++ more)) (ap metrics_in taken ∙ metrics_back r.metrics parts.1) (drop_at front more size long)))

few_metrics : (r : Report) → report_fits r ≡ true → length r.metrics < 65536
few_metrics r fit =
    let parts = both (nat_le (length r.metrics) 16384) (metrics_fit r.metrics) fit in
    let few : length r.metrics ≤ 16384 = grind (arith, nat_tests, parts.0) in
    omega (arith, few)

block_back : (r : Report) (more : List ℕ) → report_fits r ≡ true → r.ssrc < 4294967296 → r.first < 65536 → block_at (report_bytes r ++ more) ≡ Ok (r, more)
unfolding block_at
block_back r more fit ssrc first =
    rw (from_be_bytes-to_be_bytes_4 r.ssrc ssrc, from_be_bytes-to_be_bytes_2 r.first first, from_be_bytes-to_be_bytes_2 (length r.metrics) (few_metrics r fit)) (after_back r more fit)

no_reports : reports_at [] ≡ Ok []
unfolding reports_in
no_reports = refl

reports_back : (room : ℕ) (rs : List Report) → reports_fit room rs ≡ true → AreNumbers rs → reports_at (reports_bytes rs) ≡ Ok rs
reports_back room [] fit are = no_reports
reports_back room (r ∷ rs) fit are =
    let size : ℕ = block_size (length r.metrics) in
    let parts = both (report_fits r) (nat_le size room && reports_fit (room - size) rs) fit in
    let rest = both (nat_le size room) (reports_fit (room - size) rs) parts.1 in
    let long : length (report_bytes r ++ reports_bytes rs) ≡ size + length (reports_bytes rs) = length-append (report_bytes r) (reports_bytes rs) ∙ ap (λ (n : ℕ). n + length (reports_bytes rs)) (length_report r) in
    read_by (report_bytes r ++ reports_bytes rs) (Ok (r, reports_bytes rs)) (block_back r (reports_bytes rs) parts.0 are.0 are.1) (omega (arith, long))
    ∙ ap (with_report r) (reports_back (room - size) rs rest.1 are.2)

same_congestion : (f : Congestion) (rs : List Report) (sender time : ℕ) → rs ≡ f.reports → sender ≡ f.sender → time ≡ f.timestamp
    → (let o : Result Congestion CcfbFault = Ok (record { sender = sender; reports = rs; timestamp = time }) in o) ≡ Ok f
same_congestion f rs sender time a b c = rw (a, b, c) refl

rest_back : (f : Congestion) → congestion_fits f ≡ true → f.timestamp < 4294967296 → AreNumbers f.reports → rest_at f.sender (reports_bytes f.reports ++ to_be_bytes w32 f.timestamp) ≡ Ok f
rest_back f fit time are =
    let blocks : List ℕ = reports_bytes f.reports in
    let last : List ℕ = to_be_bytes w32 f.timestamp in
    let all : length (blocks ++ last) ≡ length blocks + 4 = length-append blocks last in
    let place : length blocks ≡ length (blocks ++ last) - 4 = omega (arith, all) in
    let front : take (length (blocks ++ last) - 4) (blocks ++ last) ≡ blocks = take_at blocks last (length (blocks ++ last) - 4) place in
    let back : drop (length (blocks ++ last) - 4) (blocks ++ last) ≡ last = drop_at blocks last (length (blocks ++ last) - 4) place in
    rw (le-ltb (length (blocks ++ last)) 4 (omega (arith, all))) (rw front (rw back (rw (reports_back 262132 f.reports fit are)
    (same_congestion f f.reports f.sender (from_be_bytes w32 last) refl refl (from_be_bytes-to_be_bytes_4 f.timestamp time)))))

pub feedback_back : FeedbackComesBack
unfolding body_at
feedback_back f fit sender time are = rw (from_be_bytes-to_be_bytes_4 f.sender sender) (rest_back f fit time are)
