-- The rules that are made of settings fit to each receiver with these settings.
use Rattle.std.proofs.Common.{◌≡◌, ◌∙◌, refl, ap, subst, ℕ, false, cond, eqb, leb, ltb, ◌&&◌, ◌%◌, not, Option, Some, None, Result, Ok, Err}
use Rattle.std.specs.Prelude.{IfSome}
use Rattle.std.specs.Option.{option_map}
use Rattle.codec_payload_codec.proofs.CaseLemmas.{by_test}
use Rattle.codec_payload_codec.specs.Depacketizers.{DepacketizerState}
use Rattle.codec_payload_datagrams.specs.declared.kinds.RedStream.{RedStream}
use Rattle.codec_payload_datagrams.specs.declared.kinds.Retransmission.{Retransmission}
use Rattle.codec_payload_numbers.specs.Numbers.{Numbering, numbering_within}
use Rattle.codec_payload_numbers.specs.declared.numbers.WindowError.{WindowError}
use Rattle.codec_payload_numbers.specs.declared.numbers.WindowError.TheVariants as windows
use Rattle.codec_payload_receiver.specs.Sessions.{Session, red_within, retransmission_fits, session_by, session_in, session_with, session_within}
use Rattle.codec_payload_receiver.specs.declared.receiver.RedSettings.{RedSettings}
use Rattle.codec_payload_receiver.specs.declared.receiver.Settings.{Settings}
use Rattle.codec_payload_receiver.specs.declared.receiver.SettingsError.{SettingsError}
use Rattle.codec_payload_receiver.specs.declared.receiver.SettingsError.TheVariants as errors
use Rattle.codec_payload_stream_edges.specs.Agreement.{RulesFit, again_type}
use Rattle.codec_payload_stream_edges.specs.Brought.{has_type, is_own_type, rules_of, type_of_red, type_of_red_again, type_of_retransmission}

ok_same : {X E : Type 0} (r : Result X E) (x y : X) → r ≡ Ok x → r ≡ Ok y → x ≡ y
ok_same r x y a b = cc

-- ---- RED

record HasTypes (red : Option RedSettings) (out : Option RedStream) : Type 0 where
  own : type_of_red red ≡ option_map (λ r. r.payload_type) out
  again : type_of_red_again red ≡ again_type out

red_has : (payload_type : ℕ) (red : Option RedSettings) (out : Option RedStream) → red_within payload_type red ≡ Ok out → HasTypes red out
red_has payload_type None out is = subst (λ (o : Option RedStream). HasTypes None o) (ok_same (red_within payload_type None) None out refl is) (record { own = refl; again = refl })
red_has payload_type (Some red) out is =
    by_test (leb red.payload_type 127 && not (eqb red.payload_type payload_type))
    (λ b. cond b (cond (ltb 0 red.step && leb red.step 16383) (Ok made) (Err errors.RedStep)) (Err errors.RedPayloadType) ≡ Ok out → HasTypes (Some red) out)
    (λ e is.
    by_test (ltb 0 red.step && leb red.step 16383) (λ b. cond b (Ok made) (Err errors.RedStep) ≡ Ok out → HasTypes (Some red) out)
    (λ e is. let answer : Result (Option RedStream) SettingsError = Ok made in subst (λ (o : Option RedStream). HasTypes (Some red) o) (ok_same answer made out refl is) (record { own = refl; again = refl }))
    (λ e is. absurd (cc))
    is)
    (λ e is. absurd (cc))
    is
  where
    made : Option RedStream
    made = Some (record { payload_type = red.payload_type; receiver = record { primary_pt = payload_type % 128; step = red.step }; retransmission = red.retransmission })

-- ---- a new receiver

record HasStream (settings : Settings) (s : Session) : Type 0 where
  payload_type : settings.payload_type ≡ s.stream.payload_type
  retransmission : settings.retransmission ≡ s.stream.retransmission
  red : HasTypes settings.red s.stream.red

within_has : (settings : Settings) (d : DepacketizerState) (red : Option RedStream) (numbering : Result Numbering WindowError) (s : Session) → HasTypes settings.red red
    → session_within settings d red numbering ≡ Ok s → HasStream settings s
within_has settings d red (Ok numbering) s types is =
    let answer : Result Session SettingsError = Ok (session_with settings d red numbering) in
    subst (λ (x : Session). HasStream settings x) (ok_same answer (session_with settings d red numbering) s refl is) (record { payload_type = refl; retransmission = refl; red = types })
within_has settings d red (Err windows.Forward) s types is = absurd (cc)
within_has settings d red (Err windows.Backward) s types is = absurd (cc)

in_has : (settings : Settings) (d : DepacketizerState) (red : Result (Option RedStream) SettingsError) (s : Session) → red_within settings.payload_type settings.red ≡ red
    → session_in settings d red ≡ Ok s → HasStream settings s
in_has settings d (Err fault) s found is = absurd (cc)
in_has settings d (Ok red) s found is = within_has settings d red (numbering_within settings.forward settings.backward) s (red_has settings.payload_type settings.red red found) is

has_stream : (settings : Settings) (d : DepacketizerState) (s : Session) → session_by settings d ≡ Ok s → HasStream settings s
has_stream settings d s is =
    by_test (leb settings.payload_type 127) (λ b. cond b (cond (leb 1 settings.limit && leb settings.limit 65536) inner (Err errors.Limit)) (Err errors.PayloadType) ≡ Ok s → HasStream settings s)
    (λ e is.
    by_test (leb 1 settings.limit && leb settings.limit 65536) (λ b. cond b inner (Err errors.Limit) ≡ Ok s → HasStream settings s)
    (λ e is.
    by_test (retransmission_fits settings.retransmission) (λ b. cond b red_in (Err errors.RetransmissionPayloadType) ≡ Ok s → HasStream settings s)
    (λ e is. in_has settings d (red_within settings.payload_type settings.red) s refl is)
    (λ e is. absurd (cc))
    is)
    (λ e is. absurd (cc))
    is)
    (λ e is. absurd (cc))
    is
  where
    red_in : Result Session SettingsError
    red_in = session_in settings d (red_within settings.payload_type settings.red)

    inner : Result Session SettingsError
    inner = cond (retransmission_fits settings.retransmission) red_in (Err errors.RetransmissionPayloadType)

retransmission_types : (a b : Option Retransmission) → a ≡ b → type_of_retransmission a ≡ option_map (λ r. r.payload_type) b
retransmission_types a b same = mapped a ∙ ap (λ (o : Option Retransmission). option_map (λ r. r.payload_type) o) same
  where
    mapped : (o : Option Retransmission) → type_of_retransmission o ≡ option_map (λ r. r.payload_type) o
    mapped None = refl
    mapped (Some r) = refl

pub rules_fit : RulesFit
rules_fit codec settings d s is apart red_apart =
    let has = has_stream settings d s is in
    record {
      payload_type = has.payload_type;
      red = has.red.own;
      red_again = has.red.again;
      retransmission = retransmission_types settings.retransmission s.stream.retransmission has.retransmission;
      apart = subst (λ (o : Option Retransmission). IfSome o (λ r. is_own_type (rules_of codec settings) r.payload_type ≡ false)) has.retransmission apart;
      red_apart = subst (λ (o : Option ℕ). IfSome o (λ t. (is_own_type (rules_of codec settings) t ≡ false) × (has_type (rules_of codec settings).retransmission t ≡ false))) has.red.again red_apart;
    }
