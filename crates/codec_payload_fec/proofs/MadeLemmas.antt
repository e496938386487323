-- The packet of a bit string.
use Rattle.std.proofs.Common.{◌≡◌, ℕ, ◌+◌, ◌/◌, ◌%◌, ◌<◌, ◌≤◌, Bool, true, false, cond, eqb, List, [], ◌∷◌, ◌++◌, length, get_or, take, drop, Some, None, Result, Err, refl, sym, ap, ◌∙◌, arith}
use Rattle.std.specs.Prelude.{IsTrue, is_ok}
use Rattle.std.specs.Int.{w16, w32, to_be_bytes}
use Rattle.std.proofs.lemmas.Bool.{eqb-true, le-ltb}
use Rattle.std.proofs.lemmas.List.{ext_get_or, get_or-take, length-take-le}
use Rattle.std.proofs.lemmas.Nat.{be_bytes_2, be_bytes_4}
use Rattle.codec_payload_rtp.specs.RtpReading.{◌>>=◌, header_at, rtp_at}
use Rattle.codec_payload_rtp.specs.declared.rtp.RtpError.{RtpError}
use Rattle.codec_payload_rtp.proofs.RtpFields.{drop_bytes, take_bytes}
use Rattle.codec_payload_fec.specs.Protecting.{IsOfStream}
use Rattle.codec_payload_fec.specs.Rebuilding.{bytes_of, packet_of}
use Rattle.codec_payload_fec.specs.Strings.{BitString, bit_string, number_of}
use Rattle.codec_payload_fec.proofs.BitStringLemmas.{BeginsWith}

-- what was read after a test passed it
passed : {A B : Type 0} (b : Bool) (r : Result A RtpError) (e : RtpError) (f : A → Result B RtpError) → IsTrue (is_ok (cond b r (Err e) >>= f)) → b ≡ true
passed true r e f h = refl
passed false r e f h = absurd cc

same_parts : (f f' s s' : ℕ) (n n' t t' c c' bs bs' : List ℕ) → f ≡ f' → s ≡ s' → n ≡ n' → t ≡ t' → c ≡ c' → bs ≡ bs' → f ∷ s ∷ (n ++ t ++ c ++ bs) ≡ f' ∷ s' ∷ (n' ++ t' ++ c' ++ bs')
same_parts f f' s s' n n' t t' c c' bs bs' e1 e2 e3 e4 e5 e6 = cc

-- the front of the bytes
front_is : (a rest : List ℕ) (size : ℕ) → size ≡ length rest → length rest ≤ length a → ((i : ℕ) → i < length a → get_or a i 0 ≡ get_or rest i 0) → take size a ≡ rest
front_is a rest size is enough same =
    let long : length (take size a) ≡ size = length-take-le size a (omega (arith, is, enough)) in
    ext_get_or 0 (take size a) rest (long ∙ is) (λ i h. get_or-take size a i 0 (omega (arith, h, long)) ∙ same i (omega (arith, h, long, is, enough)))

-- the bytes of a packet of the stream
bytes_again : (ssrc n : ℕ) (q : List ℕ) (a : BitString) → IsOfStream ssrc q → number_of q ≡ n → BeginsWith a (bit_string q) → (bytes_of n ssrc a ≡ q) × (a.size ≤ length a.bytes)
unfolding rtp_at header_at bit_string number_of
bytes_again ssrc n (b0 ∷ b1 ∷ n1 ∷ n0 ∷ t3 ∷ t2 ∷ t1 ∷ t0 ∷ c3 ∷ c2 ∷ c1 ∷ c0 ∷ rest) a is number same =
    let all : List ℕ = b0 ∷ b1 ∷ n1 ∷ n0 ∷ t3 ∷ t2 ∷ t1 ∷ t0 ∷ c3 ∷ c2 ∷ c1 ∷ c0 ∷ rest in
    let two : b0 / 64 ≡ 2 = eqb-true (b0 / 64) 2 (passed (eqb (b0 / 64) 2) _ _ _ is.is_rtp) in
    let size : a.size ≡ length rest = omega (arith, same.size, is.few) in
    let numbers : to_be_bytes w16 n ≡ n1 ∷ n0 ∷ [] = be_bytes_2 (n1 ∷ n0 ∷ []) n refl (take_bytes 2 (drop 2 all) (drop_bytes 2 all is.are_bytes)) (sym number) in
    let times : to_be_bytes w32 a.time ≡ t3 ∷ t2 ∷ t1 ∷ t0 ∷ [] = be_bytes_4 (t3 ∷ t2 ∷ t1 ∷ t0 ∷ []) a.time refl (take_bytes 4 (drop 4 all) (drop_bytes 4 all is.are_bytes)) same.time in
    let sources : to_be_bytes w32 ssrc ≡ c3 ∷ c2 ∷ c1 ∷ c0 ∷ [] = be_bytes_4 (c3 ∷ c2 ∷ c1 ∷ c0 ∷ []) ssrc refl (take_bytes 4 (drop 8 all) (drop_bytes 8 all is.are_bytes)) (sym is.source) in (
      same_parts (128 + a.first % 64) b0 a.second b1 _ (n1 ∷ n0 ∷ []) _ (t3 ∷ t2 ∷ t1 ∷ t0 ∷ []) _ (c3 ∷ c2 ∷ c1 ∷ c0 ∷ []) _ rest
          (omega (arith, same.first, two)) same.second numbers times sources (front_is a.bytes rest a.size size same.enough same.bytes),
      omega (arith, size, same.enough),
    )
bytes_again ssrc n q a is number same = absurd (cc is.is_rtp)

is_true : (b : Bool) → IsTrue b → b ≡ true
is_true true h = refl
is_true false h = absurd cc

pub packet_again : (ssrc n : ℕ) (q : List ℕ) (a : BitString) → IsOfStream ssrc q → number_of q ≡ n → BeginsWith a (bit_string q) → packet_of n ssrc a ≡ Some q
unfolding packet_of
packet_again ssrc n q a is number same =
    let again = bytes_again ssrc n q a is number same in
    let ok : is_ok (rtp_at (bytes_of n ssrc a)) ≡ true = ap (λ (bs : List ℕ). is_ok (rtp_at bs)) again.0 ∙ is_true (is_ok (rtp_at q)) is.is_rtp in
    ap (λ (b : Bool). cond b None (cond (is_ok (rtp_at (bytes_of n ssrc a))) (Some (bytes_of n ssrc a)) None)) (le-ltb (length a.bytes) a.size again.1)
    ∙ ap (λ (b : Bool). cond b (Some (bytes_of n ssrc a)) None) ok
    ∙ ap (λ (bs : List ℕ). Some bs) again.0
