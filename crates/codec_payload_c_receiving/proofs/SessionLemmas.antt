-- New sessions: the faults of their settings.
use Rattle.std.proofs.Common.{◌≡◌, ◌∙◌, ◌&&◌, ℕ, List, Bool, true, false, not, if◌then◌else◌, Option, Some, None, Ok, Err, inl, inr, is_some, ap, refl, sym}
use Rattle.codec_payload_session_formats.specs.Checks.{checked, fault_of, feedback_fault, name_fault}
use Rattle.codec_payload_session.specs.Ports.{Session, made_of, new_session}
use Rattle.codec_payload_session_formats.specs.declared.checks.SessionSettingsError.{SessionSettingsError}
use Rattle.codec_payload_session_formats.specs.declared.formats.FeedbackSettings.{FeedbackSettings}
use Rattle.codec_payload_session_formats.specs.declared.formats.SessionSettings.{SessionSettings as Settings}
use Rattle.codec_payload_c_receiving.specs.SessionFormats.{AreSessionSettings, MatchFeedbackIf, RefusesSession, fault_given}
use Rattle.codec_payload_c_receiving.specs.declared.session_settings.SessionFeedback.{SessionFeedback}
use Rattle.codec_payload_c_receiving.specs.declared.session_settings.SessionFormat.{SessionFormat}
use Rattle.codec_payload_c_receiving.specs.declared.session_settings.SessionSettings.{SessionSettings}
use Rattle.codec_payload_c_receiving.specs.declared.session_settings.SsrcPair.{SsrcPair}

feedback_same : (b : Bool) (c : SessionFeedback) (t : Option FeedbackSettings) → MatchFeedbackIf b c t → feedback_fault t ≡ (if b then name_fault c.cname_len else None)
feedback_same false c t got = ap feedback_fault got
feedback_same true c None got = absurd got
feedback_same true c (Some f) got = ap name_fault got.cname_len

-- the session finds the fault of the settings from C
pub fault_same : (s : SessionSettings) (formats : List SessionFormat) (no_media : List ℕ) (pairs : List SsrcPair) (t : Settings) → AreSessionSettings s formats no_media pairs t
    → fault_of t ≡ fault_given s formats no_media
fault_same s formats no_media pairs t are =
    rw (
      are.plain.limit,
      are.plain.max_streams,
      are.formats_are,
      are.no_media_are,
      are.telephone_events_are,
      are.plain.transport,
      feedback_same s.has_feedback s.feedback t.feedback are.feedback_is,
    ) refl

made_none : (o : Option SessionSettingsError) (t : Settings) (x : Session) → Ok x ≡ made_of o t → o ≡ None
made_none None t x is = refl
made_none (Some fault) t x is = absurd (cc)

pub made_new : (o : Option SessionSettingsError) (t : Settings) (x : Session) → Ok x ≡ made_of o t → x ≡ new_session t
made_new None t x is = cc
made_new (Some fault) t x is = absurd (cc)

refused_some : (o : Option SessionSettingsError) (t : Settings) (e : SessionSettingsError) → Err e ≡ made_of o t → is_some o ≡ true
refused_some None t e is = absurd (cc)
refused_some (Some fault) t e is = refl

-- formats that a session can have, and formats that it cannot have
pub usable_by : (o : Option SessionSettingsError) (done : Unit {0}) → Ok done ≡ checked o → o ≡ None
usable_by None done is = refl
usable_by (Some fault) done is = absurd (cc)

pub faulty_by : (o : Option SessionSettingsError) (e : SessionSettingsError) → Err e ≡ checked o → is_some o ≡ true
faulty_by None e is = absurd (cc)
faulty_by (Some fault) e is = refl

pub both_true : (a b : Bool) → a ≡ true → b ≡ true → (a && b) ≡ true
both_true true true x y = refl
both_true true false x y = absurd (cc)
both_true false b x y = absurd (cc)

all_true : (a b : Bool) (o : Option SessionSettingsError) → (a && b) ≡ true → o ≡ None → (a && (b && not (is_some o))) ≡ true
all_true true true None x z = refl
all_true true true (Some fault) x z = absurd (cc)
all_true true false o x z = absurd (cc)
all_true false b o x z = absurd (cc)

none_true : (a b : Bool) (o : Option SessionSettingsError) → is_some o ≡ true → (a && (b && not (is_some o))) ≡ false
none_true true true (Some fault) some = refl
none_true true true None some = absurd (cc)
none_true true false o some = refl
none_true false b o some = refl

-- a session was made: the settings are in range
pub range_of_made : (a b : Bool) (s : SessionSettings) (formats : List SessionFormat) (no_media : List ℕ) (pairs : List SsrcPair) (t : Settings) (x : Session)
    → AreSessionSettings s formats no_media pairs t → (a && b) ≡ true → Ok x ≡ made_of (fault_of t) t → (a && (b && not (is_some (fault_given s formats no_media)))) ≡ true
range_of_made a b s formats no_media pairs t x are both made =
    all_true a b (fault_given s formats no_media) both (sym (fault_same s formats no_media pairs t are) ∙ made_none (fault_of t) t x made)

-- settings that cannot be converted are out of range
pub refused_by : (a b : Bool) (o : Option SessionSettingsError) (status : ℕ) → RefusesSession (a && b) status → RefusesSession (a && (b && not (is_some o))) status
refused_by false b o status (inl got) = inl (got.0, refl)
refused_by true false o status (inl got) = inl (got.0, refl)
refused_by true true o status (inl got) = absurd (cc)
refused_by a b o status (inr got) = inr got

-- no session was made: they are not
pub range_of_refused : (a b : Bool) (s : SessionSettings) (formats : List SessionFormat) (no_media : List ℕ) (pairs : List SsrcPair) (t : Settings) (e : SessionSettingsError)
    → AreSessionSettings s formats no_media pairs t → Err e ≡ made_of (fault_of t) t → (a && (b && not (is_some (fault_given s formats no_media)))) ≡ false
range_of_refused a b s formats no_media pairs t e are made =
    none_true a b (fault_given s formats no_media) (ap is_some (sym (fault_same s formats no_media pairs t are)) ∙ refused_some (fault_of t) t e made)
