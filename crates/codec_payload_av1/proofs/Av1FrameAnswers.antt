-- Facts about the packets of a frame.
use Rattle.std.proofs.Common.{◌≡◌, ℕ, ◌≤◌, ◌<◌, ◌^◌, Bool, true, false, leb, map, Option, List, [], ◌∷◌, length, take, Some, None, Ok, Err, refl, sym, ap, ◌∙◌, arith}
use Rattle.std.specs.Option.{option_map}
use Rattle.std.specs.Prelude.{◌||◌}
use Rattle.std.proofs.lemmas.Bool.Decides.{nat_tests}
use Rattle.std.proofs.lemmas.List.{length-map}
use Rattle.codec_payload_av1.specs.Av1Obu.{Obu, IsSequence, kept, string, strings_of, starts_sequence, obus_of, frame_kept}
use Rattle.codec_payload_av1.specs.Av1Payload.{written}
use Rattle.codec_payload_av1.specs.Av1Size.{bytes_sent}
use Rattle.codec_payload_av1.specs.Av1Packing.{Packs, reach, AreSent}
use Rattle.codec_payload_av1.specs.Av1Steps.{ComesBack, LastComeBack, IsSentFrame, AnswersAv1}
use Rattle.codec_payload_base.specs.declared.error.PacketError.TheVariants as faults
use Rattle.codec_payload_av1.proofs.Av1PayloadLengths.{bind_some, some_is}
use Rattle.codec_payload_av1.proofs.Av1ObuGrammar.{IsBytes, sequence_sound, sequence_complete, sequence_good}
use Rattle.codec_payload_av1.proofs.Av1RoundTrip.{frame_comes, last_packets_come, sent_are_read}
use Rattle.codec_payload_av1.proofs.Av1FewestPackets.{fewest, furthest}

pub frame_read : (bytes : List ℕ) (ks : List Obu) → frame_kept bytes ≡ Some ks → (os : List Obu) × IsSequence os bytes × (ks ≡ kept os)
unfolding frame_kept
frame_read bytes ks e =
    let h = bind_some (obus_of bytes) (λ os. Some (kept os)) ks e in
    (h.0, sequence_sound bytes h.0 h.1, sym (some_is (kept h.0) ks h.2))

pub same_sequence : (bytes : List ℕ) (os others : List Obu) → IsSequence os bytes → IsSequence others bytes → os ≡ others
same_sequence bytes os others a b = some_is os others (sym (sequence_complete os bytes a) ∙ sequence_complete others bytes b)

-- ---- skipped frames, refused frames, and out of memory

is_large : (mtu : ℕ) → 2 ≤ mtu → leb mtu 1 ≡ false
is_large mtu le = grind (arith, nat_tests)

no_size : (r : Option (List Obu)) → None ≡ option_map bytes_sent r → r ≡ None
no_size None is = refl
no_size (Some os) is = absurd cc

some_size : (n : ℕ) (r : Option (List Obu)) → Some n ≡ option_map bytes_sent r → (os : List Obu) × (r ≡ Some os) × (n ≡ bytes_sent os)
some_size n None is = absurd cc
some_size n (Some os) is = (os, refl, cc)

pub kept_frame : (n : ℕ) (bytes : List ℕ) → Some n ≡ option_map bytes_sent (frame_kept bytes) → (os : List Obu) × (frame_kept bytes ≡ Some os) × (n ≡ bytes_sent os)
kept_frame n bytes is = some_size n (frame_kept bytes) is

pub refused_frame : (mtu : ℕ) (bytes : List ℕ) → 2 ≤ mtu → None ≡ option_map bytes_sent (frame_kept bytes) → AnswersAv1 mtu bytes (Err faults.ErrAv1CorruptedPacket)
refused_frame mtu bytes large is = rw (is_large mtu large, no_size (frame_kept bytes) is) (refl, refl)

or_true : (b : Bool) → (b || true) ≡ false → ⊥
or_true true e = cc
or_true false e = cc

pub skipped_frame : (mtu : ℕ) (bytes : List ℕ) (os : List Obu) → frame_kept bytes ≡ Some os → length os ≡ 0 → AnswersAv1 mtu bytes (Ok [])
skipped_frame mtu bytes [] is none = rw is (λ _. refl, λ no. absurd (or_true (leb mtu 1) no))
skipped_frame mtu bytes (o ∷ os) is none = absurd (omega (arith, none))

pub sent_is_answer : (mtu : ℕ) (bytes : List ℕ) (os : List Obu) (packets : List (List ℕ)) → 2 ≤ mtu → frame_kept bytes ≡ Some os → (length os ≡ 0 → ⊥)
    → IsSentFrame mtu bytes packets → AnswersAv1 mtu bytes (Ok packets)
sent_is_answer mtu bytes [] packets large is some sent = absurd (some refl)
sent_is_answer mtu bytes (o ∷ os) packets large is some sent = rw (is_large mtu large, is) (λ no. absurd cc, λ _. sent)

-- no strings are sent in no packets
none_sent : (mtu : ℕ) → AreSent mtu false [] []
none_sent mtu = ([], refl, record { stands = (refl, refl); nonempty = tt; within = tt; full = tt; first = tt })

pub none_kept_sent : (mtu : ℕ) (ks : List Obu) → length ks ≡ 0 → AreSent mtu (starts_sequence ks) (map string ks) []
none_kept_sent mtu [] none = none_sent mtu
none_kept_sent mtu (o ∷ os) none = absurd (omega (arith, none))

-- the theorems on sent packets
module _ (bytes : List ℕ) (fits : IsBytes bytes) (short : length bytes < 2 ^ 64) (mtu : ℕ) (small : mtu < 2 ^ 64) (os : List Obu) (seq : IsSequence os bytes) (packets : List (List ℕ))
    (sent : AreSent mtu (starts_sequence (kept os)) (strings_of os) packets) where
  back : ComesBack os packets
  back pending =
      let c = frame_comes mtu (starts_sequence (kept os)) os sent.0 pending small (sequence_good os bytes fits short seq) sent.2 in
      (c.0, rw sent.1 c.1)

  last_back : LastComeBack os packets
  last_back front packet behind are head pending =
      last_packets_come mtu (starts_sequence (kept os)) os sent.0 front packet behind pending small (sequence_good os bytes fits short seq) sent.2 (sym are ∙ sent.1) head

  pub sent_frame : IsSentFrame mtu bytes packets
  sent_frame = record { obus = os; sequence = seq; sent = sent; comes_back = back; last_come_back = last_back }

  pub few : (others : List Obu) → IsSequence others bytes → (payloads : List (List ℕ)) → Packs mtu payloads (strings_of others) → length packets ≤ length payloads
  few others h payloads packs =
      let same = same_sequence bytes os others seq h in
      let packs' : Packs mtu payloads (strings_of os) = rw same packs in
      omega (arith, fewest mtu (starts_sequence (kept os)) (strings_of os) sent.0 payloads sent.2 packs', ap length sent.1, length-map sent.0 written)

  pub far : (others : List Obu) → IsSequence others bytes → (payloads : List (List ℕ)) → Packs mtu payloads (strings_of others) → (count : ℕ) → reach (take count payloads) ≤ reach (take count packets)
  far others h payloads packs count =
      let same = same_sequence bytes os others seq h in
      let packs' : Packs mtu payloads (strings_of os) = rw same packs in
      rw sent.1 (furthest mtu (starts_sequence (kept os)) (strings_of os) sent.0 payloads sent.2 (sent_are_read mtu (starts_sequence (kept os)) (strings_of os) sent.0 small sent.2) packs' count)
