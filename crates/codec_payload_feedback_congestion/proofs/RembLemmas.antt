-- Bitrates of 18 binary digits.
use Rattle.std.proofs.Common.{◌≡◌, ◌⊎◌, ℕ, zero, suc, ◌+◌, ◌*◌, ◌/◌, ◌%◌, ◌^◌, ◌<◌, ◌≤◌, List, [], ◌∷◌, ◌++◌, length, take, drop, Result, Ok, Err, refl, sym, ap, ◌∙◌, subst, arith, append_assoc, length-append, inl, inr}
use Rattle.std.specs.Int.{w32, from_be_bytes, to_be_bytes}
use Rattle.std.proofs.lemmas.Bool.{le-ltb, lt-ltb}
use Rattle.std.proofs.lemmas.List.{take_at}
use Rattle.std.proofs.lemmas.Nat.{from_be_bytes-to_be_bytes_4, shr-shr, shr_below, shr_split}
use Rattle.codec_payload_feedback_congestion.specs.declared.remb.RembFault.{RembFault}
use Rattle.codec_payload_feedback_congestion.specs.Remb.{AppendsRemb, Estimate, Estimates, IsRounded, remb_at, remb_head, word_of}

pub halved : (bitrate e : ℕ) → 262144 ≤ bitrate / 2 ^ e → 131072 ≤ bitrate / 2 ^ (e + 1)
halved bitrate e h =
    let two : bitrate / 2 ^ e / 2 ^ 1 ≡ bitrate / 2 ^ (e + 1) = shr-shr bitrate e 1 in
    let half : 131072 ≤ bitrate / 2 ^ e / 2 = omega (arith, h) in
    subst (λ (n : ℕ). 131072 ≤ n) two half

pub last_small : (bitrate : ℕ) → bitrate < 2 ^ 64 → bitrate / 2 ^ 46 < 262144
last_small bitrate small = shr_below bitrate 18 46 small

back : (bitrate m e : ℕ) → m ≡ bitrate / 2 ^ e → m * 2 ^ e ≤ bitrate
back bitrate m e is = let split : bitrate / 2 ^ e * 2 ^ e + bitrate % 2 ^ e ≡ bitrate = shr_split bitrate e in let same : m * 2 ^ e ≡ bitrate / 2 ^ e * 2 ^ e = ap (λ (n : ℕ). n * 2 ^ e) is in omega (arith, split, same)

same_estimate : (a b : ℕ) (xs ys : List ℕ) → a ≡ b → xs ≡ ys → (let o : Result Estimate RembFault = Ok (record { bitrate = a; ssrcs = xs }) in o) ≡ Ok (record { bitrate = b; ssrcs = ys })
same_estimate a b xs ys e f = ap (λ (n : ℕ). let o : Result Estimate RembFault = Ok (record { bitrate = n; ssrcs = xs }) in o) e ∙ ap (λ (l : List ℕ). let o : Result Estimate RembFault = Ok (record { bitrate = b; ssrcs = l }) in o) f

read_again : (bitrate m e count : ℕ) (ssrcs more : List ℕ) → bitrate < 2 ^ 64 → IsRounded bitrate m e → length ssrcs ≡ 4 * count → count < 256
    → remb_at ((remb_head (word_of count e m) ++ ssrcs) ++ more) ≡ Ok (record { bitrate = m * 2 ^ e; ssrcs = ssrcs })
unfolding remb_at
read_again bitrate m e count ssrcs more small r long few =
    let word : ℕ = word_of count e m in
    let fits : word < 4294967296 = omega (arith, few, r.fits, r.small) in
    let mantissa : word % 262144 ≡ m = omega (arith, r.small) in
    let exponent : word / 262144 % 64 ≡ e = omega (arith, r.small, r.fits) in
    let number : word / 16777216 ≡ count = omega (arith, r.small, r.fits) in
    let low : m * 2 ^ e < 18446744073709551616 = omega (arith, back bitrate m e r.mantissa, small) in
    let enough : 4 * count ≤ length (ssrcs ++ more) = omega (arith, length-append ssrcs more, long) in
    rw (from_be_bytes-to_be_bytes_4 word fits, mantissa, exponent, number, lt-ltb (m * 2 ^ e) 18446744073709551616 low, le-ltb (length (ssrcs ++ more)) (4 * count) enough, take_at ssrcs more (4 * count) long) refl

pub remb_written : (bitrate m e count word : ℕ) (old mid new head ssrcs : List ℕ) → bitrate < 2 ^ 64 → IsRounded bitrate m e → length ssrcs ≡ 4 * count → count < 256 → word ≡ word_of count e m → head ≡ remb_head word → mid ≡ old ++ head → new ≡ mid ++ ssrcs
    → AppendsRemb old new bitrate ssrcs
remb_written bitrate m e count word old mid new head ssrcs small r long few w is first second =
    let head_is : head ≡ remb_head (word_of count e m) = is ∙ ap remb_head w in
    let eight : length head ≡ 8 = ap length head_is in (
      head ++ ssrcs,
      m,
      e,
      r,
      record {
        whole = omega (arith, length-append head ssrcs, eight);
        says = λ more. ap (λ (h : List ℕ). remb_at ((h ++ ssrcs) ++ more)) head_is ∙ read_again bitrate m e count ssrcs more small r long few;
      },
      second ∙ ap (λ (t : List ℕ). t ++ ssrcs) first ∙ append_assoc old head ssrcs,
    )
