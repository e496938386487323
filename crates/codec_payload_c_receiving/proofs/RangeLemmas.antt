-- A receiver is made exactly if all settings are in range.
use Rattle.std.proofs.Common.{◌≡◌, ◌∙◌, ap, refl, sym, ℕ, Bool, true, false, List, Option, Some, None, Result, Ok, Err, ◌&&◌, ◌||◌, ◌==◌, not, nat_le, nat_lt, if◌then◌else◌, is_ok}
use Rattle.codec_payload_c_receiving.specs.StreamReceivers.{AreSettings, is_in_range, red_in_range, red_rtx_in_range, rtx_in_range}
use Rattle.codec_payload_handle.specs.Numbers.{given_if}
use Rattle.codec_payload_core.specs.Depacketizers.{DepacketizerState}
use Rattle.codec_payload_numbers.specs.Numbers.{Numbering, numbering_within}
use Rattle.codec_payload_datagrams.specs.declared.kinds.RedStream.{RedStream}
use Rattle.codec_payload_receiver.specs.Sessions.{red_by, red_within, retransmission_fits, session_by, session_in, session_within}
use Rattle.codec_payload_c_receiving.specs.declared.receiver.ReceiverSettings.{ReceiverSettings}
use Rattle.codec_payload_numbers.specs.declared.numbers.WindowError.{WindowError}
use Rattle.codec_payload_numbers.specs.declared.numbers.WindowError.TheVariants as windows
use Rattle.codec_payload_receiver.specs.declared.receiver.RedSettings.{RedSettings}
use Rattle.codec_payload_datagrams.specs.declared.kinds.Retransmission.{Retransmission}
use Rattle.codec_payload_receiver.specs.declared.receiver.Settings.{Settings}
use Rattle.codec_payload_receiver.specs.declared.receiver.SettingsError.{SettingsError}
use Rattle.codec_payload_receiver.specs.declared.receiver.SettingsError.TheVariants as settings

ok_if : {A E : Type 0} (b : Bool) (x : Result A E) (e : E) → is_ok (if b then x else Err e) ≡ (b && is_ok x)
ok_if true x e = refl
ok_if false x e = refl

and_true : (b : Bool) → (b && true) ≡ b
and_true true = refl
and_true false = refl

and_and : (a b x : Bool) → ((a && b) && x) ≡ (a && (b && x))
and_and true b x = refl
and_and false b x = refl

ok_windows : (f b : ℕ) → is_ok (numbering_within f b) ≡ ((nat_lt 0 f && nat_le f 32768) && nat_lt b f)
ok_windows f b = ok_if (nat_lt 0 f && nat_le f 32768) _ windows.Forward ∙ ap (λ (x : Bool). (nat_lt 0 f && nat_le f 32768) && x) (ok_if (nat_lt b f) _ windows.Backward ∙ and_true (nat_lt b f))

ok_within : (t : Settings) (d : DepacketizerState) (red : Option RedStream) (n : Result Numbering WindowError) → is_ok (session_within t d red n) ≡ is_ok n
ok_within t d red (Ok n) = refl
ok_within t d red (Err windows.Forward) = refl
ok_within t d red (Err windows.Backward) = refl

ok_in : (t : Settings) (d : DepacketizerState) (r : Result (Option RedStream) SettingsError) → is_ok (session_in t d r) ≡ (is_ok r && is_ok (numbering_within t.forward t.backward))
ok_in t d (Err e) = refl
ok_in t d (Ok red) = ok_within t d red (numbering_within t.forward t.backward)

ok_red_by : (p : ℕ) (red : RedSettings) → is_ok (red_by p red) ≡ (nat_le red.payload_type 127 && not (red.payload_type == p) && nat_le 1 red.step && nat_le red.step 16383)
ok_red_by p red =
    ok_if (nat_le red.payload_type 127 && not (red.payload_type == p)) _ settings.RedPayloadType
    ∙ ap (λ (x : Bool). (nat_le red.payload_type 127 && not (red.payload_type == p)) && x) (ok_if (nat_lt 0 red.step && nat_le red.step 16383) _ settings.RedStep ∙ and_true (nat_lt 0 red.step && nat_le red.step 16383))
    ∙ sym (and_and (nat_le red.payload_type 127 && not (red.payload_type == p)) (nat_lt 0 red.step) (nat_le red.step 16383))

ok_red_if : (p : ℕ) (has : Bool) (red : RedSettings) → is_ok (red_within p (if has then Some red else None))
    ≡ (not has || (nat_le red.payload_type 127 && not (red.payload_type == p) && nat_le 1 red.step && nat_le red.step 16383))
ok_red_if p true red = ok_red_by p red
ok_red_if p false red = refl

fits_if : (has : Bool) (rtx : Retransmission) → retransmission_fits (if has then Some rtx else None) ≡ (not has || nat_le rtx.payload_type 127)
fits_if true rtx = refl
fits_if false rtx = refl

turned : (r d x : Bool) → (r && (d && x)) ≡ ((x && d) && r)
turned true true true = refl
turned true true false = refl
turned true false true = refl
turned true false false = refl
turned false true true = refl
turned false true false = refl
turned false false true = refl
turned false false false = refl

with_all : (x t k q : Bool) → true ≡ (t && k && q) → x ≡ (x && t && k && q)
with_all true t k q h = h
with_all false t k q h = refl

in_order : (a b c r d e f g t k q : Bool) → true ≡ (t && k && q)
    → (a && ((b && c) && (r && (d && ((e && f) && g))))) ≡ (a && b && c && e && f && g && t && k && q && d && r)
in_order false b c r d e f g t k q h = refl
in_order true false c r d e f g t k q h = refl
in_order true true false r d e f g t k q h = refl
in_order true true true r d e f g t k q h = turned r d ((e && f) && g) ∙ ap (λ (x : Bool). (x && d) && r) (with_all ((e && f) && g) t k q h)

-- of settings as C gave them, whether they are in range
pub ok_settings : (s : ReceiverSettings) (types : List ℕ) (t : Settings) (d : DepacketizerState) → AreSettings s types t → true ≡ (nat_lt 0 s.tick_rate && nat_le s.from_keyframe 2 && red_rtx_in_range s)
    → is_ok (session_by t d) ≡ is_in_range s
ok_settings s types t d a h =
    ok_if (nat_le t.payload_type 127) _ settings.PayloadType
    ∙ ap (λ (x : Bool). nat_le t.payload_type 127 && x) (ok_if (nat_le 1 t.limit && nat_le t.limit 65536) _ settings.Limit
    ∙ ap (λ (x : Bool). (nat_le 1 t.limit && nat_le t.limit 65536) && x) (ok_if (retransmission_fits t.retransmission) _ settings.RetransmissionPayloadType
    ∙ ap (λ (x : Bool). retransmission_fits t.retransmission && x) (ok_in t d (red_within t.payload_type t.red)
    ∙ ap (λ (x : Bool). is_ok (red_within t.payload_type t.red) && x) (ok_windows t.forward t.backward))))
    ∙ (λ i. nat_le (a.payload_type i) 127 && ((nat_le 1 (a.limit i) && nat_le (a.limit i) 65536) && (retransmission_fits (a.retransmission i)
    && (is_ok (red_within (a.payload_type i) (a.red i)) && ((nat_lt 0 (a.forward i) && nat_le (a.forward i) 32768) && nat_lt (a.backward i) (a.forward i))))))
    ∙ (λ i. nat_le s.payload_type 127 && ((nat_le 1 s.limit && nat_le s.limit 65536) && (fits_if s.has_rtx (record { ssrc = s.rtx_ssrc; payload_type = s.rtx_payload_type }) i
    && (ok_red_if s.payload_type s.has_red (record { payload_type = s.red_payload_type; step = s.red_step; retransmission = given_if s.has_red_rtx s.red_rtx_payload_type }) i && ((nat_lt 0 s.forward && nat_le s.forward 32768) && nat_lt s.backward s.forward)))))
    ∙ in_order (nat_le s.payload_type 127) (nat_le 1 s.limit) (nat_le s.limit 65536) (rtx_in_range s) (red_in_range s) (nat_lt 0 s.forward) (nat_le s.forward 32768) (nat_lt s.backward s.forward) (nat_lt 0 s.tick_rate) (nat_le s.from_keyframe 2) (red_rtx_in_range s) h
