-- Report blocks, and entries of full intra requests, that are appended are read again.
use Rattle.std.proofs.Common.{◌≡◌, ℕ, suc, ◌+◌, ◌*◌, List, [], ◌∷◌, ◌++◌, length, take, drop, Result, Ok, Err, ap, ◌∙◌, arith}
use Rattle.std.specs.Prelude.{OnOk}
use Rattle.std.specs.Int.{w32, from_be_bytes}
use Rattle.std.proofs.lemmas.Nat.{from_be_bytes-to_be_bytes_4}
use Rattle.codec_payload_rtcp.specs.declared.items.FullIntraEntry.{FullIntraEntry}
use Rattle.codec_payload_rtcp.specs.declared.items.ReportBlock.{ReportBlock}
use Rattle.codec_payload_rtcp.specs.RtcpItems.{FitsBlock, FitsEntry, word_in, block_at, block_bytes, entry_at, entry_bytes}

drop_past : (xs ys : List ℕ) (k : ℕ) → drop (length xs + k) (xs ++ ys) ≡ drop k ys
drop_past [] ys k = let e : 0 + k ≡ k = omega arith in ap (λ (n : ℕ). drop n ys) e
drop_past (x ∷ xs) ys k = let e : length (x ∷ xs) + k ≡ suc (length xs + k) = omega arith in ap (λ (n : ℕ). drop n (x ∷ (xs ++ ys))) e ∙ drop_past xs ys k

-- a number after other bytes
word_past : (old ys : List ℕ) (place k n : ℕ) → place ≡ length old + k → word_in k ys ≡ n → word_in place (old ++ ys) ≡ n
word_past old ys place k n e is = ap (λ (p : ℕ). from_be_bytes w32 (take 4 (drop p (old ++ ys)))) e ∙ ap (λ (t : List ℕ). from_be_bytes w32 (take 4 t)) (drop_past old ys k) ∙ is

abbrev made : ℕ → ℕ → ℕ → ℕ → ℕ → ℕ → ℕ → ReportBlock
made a b c d e f g = record { ssrc = a; fraction_lost = b; cumulative_lost = c; highest_sequence_number = d; jitter = e; last_sender_report = f; delay_since_sender_report = g }

same_made : (a a' b b' c c' d d' e e' f f' g g' : ℕ) → a ≡ a' → b ≡ b' → c ≡ c' → d ≡ d' → e ≡ e' → f ≡ f' → g ≡ g' → made a b c d e f g ≡ made a' b' c' d' e' f' g'
same_made a a' b b' c c' d d' e e' f f' g g' h1 h2 h3 h4 h5 h6 h7 = cc

pub block_again : {X E : Type 0} (result : Result X E) (old new : List ℕ) (b : ReportBlock) → FitsBlock b → OnOk result (new ≡ old ++ block_bytes b) → OnOk result ((i : ℕ) → length old ≡ 24 * i → block_at i new ≡ b)
block_again (Err x) old new b fits e = tt
block_again (Ok x) old new b fits e = λ i is.
    let ys : List ℕ = block_bytes b in
    let lost : ℕ = b.fraction_lost * 16777216 + b.cumulative_lost in
    let w : word_in (24 * i + 4) (old ++ ys) ≡ lost = word_past old ys (24 * i + 4) 4 lost (omega (arith, is)) (from_be_bytes-to_be_bytes_4 lost (omega (arith, fits.fraction_lost, fits.cumulative_lost))) in
    ap (block_at i) e ∙ same_made _ b.ssrc _ b.fraction_lost _ b.cumulative_lost _ b.highest_sequence_number _ b.jitter _ b.last_sender_report _ b.delay_since_sender_report
    (word_past old ys (24 * i) 0 b.ssrc (omega (arith, is)) (from_be_bytes-to_be_bytes_4 b.ssrc fits.ssrc))
    (omega (arith, w, fits.cumulative_lost)) (omega (arith, w, fits.cumulative_lost))
    (word_past old ys (24 * i + 8) 8 b.highest_sequence_number (omega (arith, is)) (from_be_bytes-to_be_bytes_4 b.highest_sequence_number fits.highest_sequence_number))
    (word_past old ys (24 * i + 12) 12 b.jitter (omega (arith, is)) (from_be_bytes-to_be_bytes_4 b.jitter fits.jitter))
    (word_past old ys (24 * i + 16) 16 b.last_sender_report (omega (arith, is)) (from_be_bytes-to_be_bytes_4 b.last_sender_report fits.last_sender_report))
    (word_past old ys (24 * i + 20) 20 b.delay_since_sender_report (omega (arith, is)) (from_be_bytes-to_be_bytes_4 b.delay_since_sender_report fits.delay_since_sender_report))

abbrev entry : ℕ → ℕ → FullIntraEntry
entry a b = record { ssrc = a; sequence_number = b }

made_entry : (a a' b b' : ℕ) → a ≡ a' → b ≡ b' → entry a b ≡ entry a' b'
made_entry a a' b b' h1 h2 = cc

pub entry_again : {X E : Type 0} (result : Result X E) (old new : List ℕ) (e : FullIntraEntry) → FitsEntry e → OnOk result (new ≡ old ++ entry_bytes e) → OnOk result ((i : ℕ) → length old ≡ 8 * i → entry_at i new ≡ e)
entry_again (Err x) old new e fits appended = tt
entry_again (Ok x) old new e fits appended = λ i is.
    let ys : List ℕ = entry_bytes e in
    let number : ℕ = e.sequence_number * 16777216 in
    let w : word_in (8 * i + 4) (old ++ ys) ≡ number = word_past old ys (8 * i + 4) 4 number (omega (arith, is)) (from_be_bytes-to_be_bytes_4 number (omega (arith, fits.sequence_number))) in
    ap (entry_at i) appended ∙ made_entry _ e.ssrc _ e.sequence_number
    (word_past old ys (8 * i) 0 e.ssrc (omega (arith, is)) (from_be_bytes-to_be_bytes_4 e.ssrc fits.ssrc)) (omega (arith, w))
