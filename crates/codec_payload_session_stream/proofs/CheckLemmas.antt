-- The receiver of a stream is made, if a stream can begin by its format.
use Rattle.std.proofs.Common.{◌≡◌, ◌∙◌, ◌&&◌, ◌==◌, ◌∷◌, [], ℕ, List, Bool, true, false, not, if◌then◌else◌, Option, Some, None, Result, Ok, Err, IsOk, is_some, nat_le, nat_lt, option_map, is_ok, ap, refl, sym, subst}
use Rattle.codec_payload_codec.specs.Depacketizers.{DepacketizerState, depacketizer_state_for}
use Rattle.codec_payload_numbers.specs.Numbers.{Numbering, numbering_within}
use Rattle.codec_payload_numbers.specs.declared.numbers.WindowError.{WindowError}
use Rattle.codec_payload_receiver.specs.Sessions.{Session as Receiver, red_within, retransmission_fits, session_by, session_in, session_within}
use Rattle.codec_payload_datagrams.specs.declared.kinds.RedStream.{RedStream}
use Rattle.codec_payload_receiver.specs.declared.receiver.RedSettings.{RedSettings}
use Rattle.codec_payload_datagrams.specs.declared.kinds.Retransmission.{Retransmission}
use Rattle.codec_payload_receiver.specs.declared.receiver.Settings.{Settings}
use Rattle.codec_payload_receiver.specs.declared.receiver.SettingsError.{SettingsError}
use Rattle.codec_payload_receiver.specs.declared.receiver.SettingsError.TheVariants as errors
use Rattle.codec_payload_session_formats.specs.Checks.{at_most_127, can_begin, red_fits}
use Rattle.codec_payload_session_formats.specs.Formats.{HasSettings, backward_for, forward_for, is_video, retransmission_for, retransmission_of}
use Rattle.codec_payload_session_formats.specs.declared.formats.Format.{Format}
use Rattle.codec_payload_session_formats.specs.declared.formats.SessionSettings.{SessionSettings}
use Rattle.codec_payload_session_formats.specs.declared.formats.SsrcPair.{SsrcPair}

-- ---- its receiver

pub some_mapped : {A B : Type 0} (g : A → B) (o : Option A) (p : Option B) → option_map g o ≡ p → is_some p ≡ true → is_some o ≡ true
some_mapped g None None is some = absurd (cc)
some_mapped g None (Some y) is some = absurd (cc)
some_mapped g (Some x) p is some = refl

pub known_by : {A B : Type 0} (g : A → B) (o : Option A) (x : A) (p : Option B) → option_map g o ≡ p → o ≡ Some x → p ≡ Some (g x)
known_by {A} g o x p is some = sym is ∙ ap (λ (q : Option A). option_map g q) some

pair_fits : (ssrc t : ℕ) (pairs : List SsrcPair) → nat_le t 127 ≡ true → retransmission_fits (retransmission_of ssrc t pairs) ≡ true
pair_fits ssrc t [] low = refl
pair_fits ssrc t (p ∷ ps) low = by_test (p.ssrc == ssrc) (pair_fits ssrc t ps low)
  where
    by_test : (b : Bool) → retransmission_fits (retransmission_of ssrc t ps) ≡ true
        → retransmission_fits (if b then Some (record { ssrc = p.retransmission; payload_type = t }) else retransmission_of ssrc t ps) ≡ true
    by_test true rest = low
    by_test false rest = rest

retransmissions_fit : (ssrc : ℕ) (o : Option ℕ) (pairs : List SsrcPair) → at_most_127 o ≡ true → retransmission_fits (retransmission_for ssrc o pairs) ≡ true
retransmissions_fit ssrc None pairs low = refl
retransmissions_fit ssrc (Some t) pairs low = pair_fits ssrc t pairs low

within_made : (r : Settings) (d : DepacketizerState) (red : Option RedStream) (n : Result Numbering WindowError) → is_ok n ≡ true → is_ok (session_within r d red n) ≡ true
within_made r d red (Ok n) made = refl
within_made r d red (Err e) made = absurd (cc)

in_made : (r : Settings) (d : DepacketizerState) (o : Result (Option RedStream) SettingsError) → is_ok o ≡ true → is_ok (numbering_within r.forward r.backward) ≡ true → is_ok (session_in r d o) ≡ true
in_made r d (Ok red) made numbers = within_made r d red (numbering_within r.forward r.backward) numbers
in_made r d (Err e) made numbers = absurd (cc)

tests_made : (a b c : Bool) (r : Settings) (d : DepacketizerState) (o : Result Receiver SettingsError) → a ≡ true → b ≡ true → c ≡ true → is_ok o ≡ true
    → is_ok (if a then (if b then (if c then o else Err errors.RetransmissionPayloadType) else Err errors.Limit) else Err errors.PayloadType) ≡ true
tests_made true true true r d o x y z made = made
tests_made false b c r d o x y z made = absurd (cc)
tests_made true false c r d o x y z made = absurd (cc)
tests_made true true false r d o x y z made = absurd (cc)

windows_made : (video : Bool) → is_ok (numbering_within (forward_for video) (backward_for video)) ≡ true
windows_made true = refl
windows_made false = refl

by_two : (a b : Bool) (x : Option RedStream) → (a && b) ≡ true → is_ok (if a then (if b then Ok x else Err errors.RedStep) else Err errors.RedPayloadType) ≡ true
by_two true true x both = refl
by_two true false x both = absurd (cc)
by_two false b x both = absurd (cc)

four : (a b c d : Bool) → (a && b && c && d) ≡ true → ((a && b) && (c && d)) ≡ true
four true true true true is = refl
four true true true false is = absurd (cc)
four true true false d is = absurd (cc)
four true false c d is = absurd (cc)
four false b c d is = absurd (cc)

red_made : (own : ℕ) (o : Option RedSettings) → red_fits own o ≡ true → is_ok (red_within own o) ≡ true
red_made own None fits = refl
red_made own (Some red) fits = by_two _ _ _ (four (nat_le red.payload_type 127) (not (red.payload_type == own)) (nat_lt 0 red.step) (nat_le red.step 16383) fits)

-- what a format that can begin fits
pub record Fits (s : SessionSettings) (f : Format) : Type 0 where
  pub limit : (nat_le 1 s.limit && nat_le s.limit 65536) ≡ true
  pub codec : is_some (depacketizer_state_for f.spec.codec) ≡ true
  pub own : nat_le f.payload_type 127 ≡ true
  pub red : red_fits f.payload_type f.red ≡ true
  pub retransmission : at_most_127 f.retransmission ≡ true

fits_by : (s : SessionSettings) (f : Format) (a b c d e g : Bool)
    → nat_le 1 s.limit ≡ a → nat_le s.limit 65536 ≡ b → is_some (depacketizer_state_for f.spec.codec) ≡ c → nat_le f.payload_type 127 ≡ d → red_fits f.payload_type f.red ≡ e
    → at_most_127 f.retransmission ≡ g → (a && b && (c && d && e && g)) ≡ true → Fits s f
fits_by s f true true true true true true i j k l m n is = record { limit = rw (i, j) refl; codec = k; own = l; red = m; retransmission = n }
fits_by s f false b c d e g i j k l m n is = absurd (cc)
fits_by s f true false c d e g i j k l m n is = absurd (cc)
fits_by s f true true false d e g i j k l m n is = absurd (cc)
fits_by s f true true true false e g i j k l m n is = absurd (cc)
fits_by s f true true true true false g i j k l m n is = absurd (cc)
fits_by s f true true true true true false i j k l m n is = absurd (cc)

pub fits : (s : SessionSettings) (f : Format) → can_begin s f ≡ true → Fits s f
fits s f begins = fits_by s f _ _ _ _ _ _ refl refl refl refl refl refl begins

-- the receiver of a format that can begin is made
pub receiver_made : (s : SessionSettings) (ssrc : ℕ) (f : Format) (r : Settings) (d : DepacketizerState) → can_begin s f ≡ true → HasSettings s ssrc f r → IsOk (session_by r d)
receiver_made s ssrc f r d begins has =
    let it : Fits s f = fits s f begins in
    let low : nat_le r.payload_type 127 ≡ true = subst (λ (n : ℕ). nat_le n 127 ≡ true) (sym has.payload_type) it.own in
    let limit : (nat_le 1 r.limit && nat_le r.limit 65536) ≡ true = subst (λ (n : ℕ). (nat_le 1 n && nat_le n 65536) ≡ true) (sym has.limit) it.limit in
    let again : retransmission_fits r.retransmission ≡ true =
    subst (λ (o : Option Retransmission). retransmission_fits o ≡ true) (sym has.retransmission) (retransmissions_fit ssrc f.retransmission s.pairs.items it.retransmission) in
    let red : is_ok (red_within r.payload_type r.red) ≡ true =
    subst (λ (n : ℕ). is_ok (red_within n r.red) ≡ true) (sym has.payload_type)
    (subst (λ (o : Option RedSettings). is_ok (red_within f.payload_type o) ≡ true) (sym has.red) (red_made f.payload_type f.red it.red)) in
    let numbers : is_ok (numbering_within r.forward r.backward) ≡ true =
    subst (λ (n : ℕ). is_ok (numbering_within n r.backward) ≡ true) (sym has.forward)
    (subst (λ (n : ℕ). is_ok (numbering_within (forward_for (is_video f.spec.codec)) n) ≡ true) (sym has.backward) (windows_made (is_video f.spec.codec))) in
    tests_made _ _ _ r d (session_in r d (red_within r.payload_type r.red)) low limit again (in_made r d (red_within r.payload_type r.red) red numbers)
