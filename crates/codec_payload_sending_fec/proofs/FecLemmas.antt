-- Packets of FEC under numbers that follow one another.
use Rattle.std.proofs.Common.{◌≡◌, ℕ, zero, suc, ◌+◌, ◌%◌, ◌<◌, List, [], ◌∷◌, ◌++◌, length, get_or, take, refl, sym, ap, ◌∙◌, arith, add-one}
use Rattle.std.proofs.Math.Seq.{take-suc}
use Rattle.codec_payload_rtp.specs.RtpPackets.{packet_bytes}
use Rattle.codec_payload_sending_fec.specs.Senders.{Sender, fec_packet, fec_packets}

-- so many numbers after another one
abbrev pub number_after : ℕ → ℕ → ℕ
number_after n zero = n
number_after n (suc k) = (number_after n k + 1) % 65536

after_next : (n k : ℕ) → number_after ((n + 1) % 65536) k ≡ number_after n (suc k)
after_next n zero = refl
after_next n (suc k) = ap (λ (m : ℕ). (m + 1) % 65536) (after_next n k)

snoc : (s : Sender) (n : ℕ) (fs : List (List ℕ)) (f : List ℕ) → fec_packets s n (fs ++ f ∷ []) ≡ fec_packets s n fs ++ packet_bytes (fec_packet s (number_after n (length fs)) f) ∷ []
snoc s n [] f = refl
snoc s n (g ∷ fs) f =
    ap (λ (ps : List (List ℕ)). packet_bytes (fec_packet s n g) ∷ ps) (
    snoc s ((n + 1) % 65536) fs f
    ∙ ap (λ (m : ℕ). fec_packets s ((n + 1) % 65536) fs ++ packet_bytes (fec_packet s m f) ∷ []) (after_next n (length fs))
    )

length_take : (i : ℕ) (fs : List (List ℕ)) → i < length fs → length (take i fs) ≡ i
length_take zero fs h = refl
length_take (suc i) [] h = absurd (omega (arith, h))
length_take (suc i) (f ∷ fs) h = ap suc (length_take i fs (omega (arith, h)))

-- one more packet of FEC
pub fec_more : (s : Sender) (n i : ℕ) (fs : List (List ℕ)) → i < length fs
    → fec_packets s n (take (i + 1) fs) ≡ fec_packets s n (take i fs) ++ packet_bytes (fec_packet s (number_after n i) (get_or fs i [])) ∷ []
fec_more s n i fs h =
    let one : take (i + 1) fs ≡ take i fs ++ get_or fs i [] ∷ [] = rw add-one (take-suc fs i [] h) in
    ap (fec_packets s n) one ∙ snoc s n (take i fs) (get_or fs i [])
    ∙ ap (λ (k : ℕ). fec_packets s n (take i fs) ++ packet_bytes (fec_packet s (number_after n k) (get_or fs i [])) ∷ []) (length_take i fs h)

next_after : (n i : ℕ) → (number_after n i + 1) % 65536 ≡ number_after n (i + 1)
next_after n i = let one : suc i ≡ i + 1 = omega arith in ap (number_after n) one

-- the loop: a packet of FEC is written under the next number
pub all_more : (s s' : Sender) (n number i : ℕ) (fs out new : List (List ℕ)) (x : List ℕ) → i < length fs → out ≡ fec_packets s n (take i fs) → number ≡ number_after n i → s' ≡ s → x ≡ get_or fs i []
    → new ≡ out ++ packet_bytes (fec_packet s' number x) ∷ [] → new ≡ fec_packets s n (take (i + 1) fs)
all_more s s' n number i fs out new x h e1 e2 e3 e4 e5 =
    e5 ∙ ap (λ (ps : List (List ℕ)). ps ++ packet_bytes (fec_packet s' number x) ∷ []) e1
    ∙ ap (λ (t : Sender). fec_packets s n (take i fs) ++ packet_bytes (fec_packet t number x) ∷ []) e3
    ∙ ap (λ (k : ℕ). fec_packets s n (take i fs) ++ packet_bytes (fec_packet s k x) ∷ []) e2
    ∙ ap (λ (y : List ℕ). fec_packets s n (take i fs) ++ packet_bytes (fec_packet s (number_after n i) y) ∷ []) e4
    ∙ sym (fec_more s n i fs h)

pub number_more : (n number next i : ℕ) → number ≡ number_after n i → next ≡ (number + 1) % 65536 → next ≡ number_after n (i + 1)
number_more n number next i e1 e2 = e2 ∙ ap (λ (k : ℕ). (k + 1) % 65536) e1 ∙ next_after n i
