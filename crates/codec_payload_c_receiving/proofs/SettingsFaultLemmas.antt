-- The first fault of the settings of a session, for C.
use Rattle.std.proofs.Common.{◌≡◌, ◌∙◌, ◌&&◌, ℕ, suc, List, [], ◌∷◌, Bool, true, false, not, if◌then◌else◌, Option, Some, None, Ok, Err, inl, inr, is_some, ap, ap₂, refl, sym, subst, arith}
use Rattle.std.specs.Prelude.{⊤, nat_le, nat_lt}
use Rattle.std.specs.List.{list_all}
use Rattle.codec_payload_session_formats.specs.Checks.{checked, fault_of}
use Rattle.codec_payload_session_formats.specs.declared.checks.SessionSettingsError.{SessionSettingsError}
use Rattle.codec_payload_session_formats.specs.declared.formats.SessionSettings.{SessionSettings as Settings}
use Rattle.codec_payload_c_receiving.specs.SessionFaults.{TellsFault, fault_at, fault_for_c, fault_told, first_told, plain_fault, range_fault, rate_fault}
use Rattle.codec_payload_c_receiving.specs.SessionFormats.{AreSessionSettings, RefusesSession, can_convert, fault_given, format_in_range, is_in_range, session_in_range}
use Rattle.codec_payload_c_receiving.specs.declared.session_faults.SettingsFault.{SettingsFault}
use Rattle.codec_payload_c_receiving.specs.declared.session_settings.SessionFormat.{SessionFormat}
use Rattle.codec_payload_c_receiving.specs.declared.session_settings.SessionSettings.{SessionSettings}
use Rattle.codec_payload_c_receiving.specs.declared.session_settings.SsrcPair.{SsrcPair}
use Rattle.codec_payload_c_receiving.proofs.SessionLemmas.{fault_same}

-- ---- numbers that cannot be converted

rates_told : (index : ℕ) (fs : List SessionFormat) → is_some (rate_fault index fs) ≡ not (list_all format_in_range fs)
rates_told index [] = refl
rates_told index (f ∷ fs) = by_test (format_in_range f) (rates_told (suc index) fs)
  where
    by_test : (b : Bool) → is_some (rate_fault (suc index) fs) ≡ not (list_all format_in_range fs)
        → is_some (if b then rate_fault (suc index) fs else Some (fault_at 3 index)) ≡ not (b && list_all format_in_range fs)
    by_test true rest = rest
    by_test false rest = refl

range_by : (a b : Bool) (r : Option SettingsFault) (l : Bool) → is_some r ≡ not l → is_some (if a then (if b then r else Some (plain_fault 2)) else Some (plain_fault 1)) ≡ not ((a && b) && l)
range_by true true r l is = is
range_by true false r l is = refl
range_by false b r l is = refl

range_told : (s : SessionSettings) (fs : List SessionFormat) → is_some (range_fault s fs) ≡ not (can_convert s fs)
range_told s fs = range_by (nat_lt 0 s.tick_rate) (nat_le s.from_keyframe 2) (rate_fault 0 fs) (list_all format_in_range fs) (rates_told 0 fs)

converts_by : (r : Option SettingsFault) (c : Bool) (status : ℕ) → is_some r ≡ not c → is_some r ≡ false → RefusesSession c status → status ≡ 17
converts_by r true status is none (inl got) = absurd (cc)
converts_by r false status is none (inl got) = absurd (cc)
converts_by r c status is none (inr got) = got

-- settings that can be converted are refused if memory runs out alone
pub no_memory : (s : SessionSettings) (fs : List SessionFormat) (r : Option SettingsFault) (status : ℕ) → r ≡ range_fault s fs → is_some r ≡ false → RefusesSession (can_convert s fs) status → status ≡ 17
no_memory s fs r status same none refuses = converts_by r (can_convert s fs) status (ap is_some same ∙ range_told s fs) none refuses

-- ---- the first fault

first_by : (r : Option SettingsFault) (o : Option SessionSettingsError) → is_some r ≡ true → r ≡ first_told r o
first_by None o some = absurd (cc)
first_by (Some own) o some = refl

pub range_first : (s : SessionSettings) (fs : List SessionFormat) (no_media : List ℕ) (r : Option SettingsFault) → r ≡ range_fault s fs → is_some r ≡ true → r ≡ fault_for_c s fs no_media
range_first s fs no_media r same some = subst (λ (x : Option SettingsFault). r ≡ first_told x (fault_given s fs no_media)) same (first_by r (fault_given s fs no_media) some)

rest_by : (r : Option SettingsFault) (o : Option SessionSettingsError) → is_some r ≡ false → first_told None o ≡ first_told r o
rest_by None o none = refl
rest_by (Some own) o none = absurd (cc)

rest_told : (s : SessionSettings) (fs : List SessionFormat) (no_media : List ℕ) (r : Option SettingsFault) (o : Option SessionSettingsError) → r ≡ range_fault s fs → is_some r ≡ false
    → o ≡ fault_given s fs no_media → first_told None o ≡ fault_for_c s fs no_media
rest_told s fs no_media r o same none is = rest_by r o none ∙ ap₂ first_told same is

checked_none : (o : Option SessionSettingsError) (x : ⊤) → Ok x ≡ checked o → o ≡ None
checked_none None x is = refl
checked_none (Some fault) x is = absurd (cc)

checked_some : (o : Option SessionSettingsError) (e : SessionSettingsError) → Err e ≡ checked o → o ≡ Some e
checked_some None e is = absurd (cc)
checked_some (Some fault) e is = cc

pub none_told : (s : SessionSettings) (fs : List SessionFormat) (no_media : List ℕ) (pairs : List SsrcPair) (t : Settings) (r : Option SettingsFault) (x : ⊤) → r ≡ range_fault s fs → is_some r ≡ false
    → AreSessionSettings s fs no_media pairs t → Ok x ≡ checked (fault_of t) → None ≡ fault_for_c s fs no_media
none_told s fs no_media pairs t r x same none are is =
    rest_told s fs no_media r None same none (sym (checked_none (fault_of t) x is) ∙ fault_same s fs no_media pairs t are)

pub some_told : (s : SessionSettings) (fs : List SessionFormat) (no_media : List ℕ) (pairs : List SsrcPair) (t : Settings) (r : Option SettingsFault) (e : SessionSettingsError) → r ≡ range_fault s fs → is_some r ≡ false
    → AreSessionSettings s fs no_media pairs t → Err e ≡ checked (fault_of t) → Some (fault_told e) ≡ fault_for_c s fs no_media
some_told s fs no_media pairs t r e same none are is =
    rest_told s fs no_media r (Some e) same none (sym (checked_some (fault_of t) e is) ∙ fault_same s fs no_media pairs t are)

-- ---- there is a fault exactly if no session is made

agrees_by : (r : Option SettingsFault) (o : Option SessionSettingsError) (c l : Bool) → is_some r ≡ not (c && l) → is_some (first_told r o) ≡ not (c && (l && not (is_some o)))
agrees_by (Some own) o true true is = absurd (cc)
agrees_by (Some own) o true false is = refl
agrees_by (Some own) o false l is = refl
agrees_by None None true true is = refl
agrees_by None (Some fault) true true is = refl
agrees_by None o true false is = absurd (cc)
agrees_by None o false l is = absurd (cc)

agrees : (s : SessionSettings) (fs : List SessionFormat) (no_media : List ℕ) → is_some (fault_for_c s fs no_media) ≡ not (is_in_range s fs no_media)
agrees s fs no_media = agrees_by (range_fault s fs) (fault_given s fs no_media) (session_in_range s) (list_all format_in_range fs) (range_told s fs)

true_by : (b : Bool) → false ≡ not b → b ≡ true
true_by true is = refl
true_by false is = absurd (cc)

false_by : (b : Bool) → true ≡ not b → b ≡ false
false_by true is = absurd (cc)
false_by false is = refl

pub accepts : (s : SessionSettings) (fs : List SessionFormat) (no_media : List ℕ) (found : Option SettingsFault) (status : ℕ) (after : SettingsFault) → found ≡ fault_for_c s fs no_media
    → TellsFault found status after → status ≡ 0 → is_in_range s fs no_media ≡ true
accepts s fs no_media None status after is told zero = true_by (is_in_range s fs no_media) (ap is_some is ∙ agrees s fs no_media)
accepts s fs no_media (Some fault) status after is told zero = absurd (omega (arith, told.0, zero))

pub refuses : (s : SessionSettings) (fs : List SessionFormat) (no_media : List ℕ) (found : Option SettingsFault) (status : ℕ) (after : SettingsFault) → found ≡ fault_for_c s fs no_media
    → TellsFault found status after → status ≡ 37 → is_in_range s fs no_media ≡ false
refuses s fs no_media None status after is told not_zero = absurd (omega (arith, told.0, not_zero))
refuses s fs no_media (Some fault) status after is told not_zero = false_by (is_in_range s fs no_media) (ap is_some is ∙ agrees s fs no_media)
