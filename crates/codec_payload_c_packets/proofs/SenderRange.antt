-- A sender is made exactly if its settings are in range.
use Rattle.std.proofs.Common.{◌≡◌, inl, inr, ap, refl, subst, ℕ, Bool, true, false, Some, None, Result, Ok, Err, ◌&&◌, not, nat_le, nat_lt, if◌then◌else◌, IfSome, arith}
use Rattle.codec_payload_rtp.specs.ExtensionWriting.{ids_fit}
use Rattle.codec_payload_sending.specs.Senders.{refusal_of}
use Rattle.codec_payload_sending.specs.declared.sender.SenderError.{SenderError}
use Rattle.codec_payload_sending.specs.declared.sender.SenderError.TheVariants as errors
use Rattle.codec_payload_sending.specs.declared.sender.SenderSettings.{SenderSettings as Settings}
use Rattle.codec_payload_handle.specs.Ids.{ids_given}
use Rattle.codec_payload_handle.specs.Refusals.{RefusesSettings}
use Rattle.codec_payload_c_packets.specs.StreamSenders.{is_in_range, refusal_status, settings_for}
use Rattle.codec_payload_c_packets.specs.declared.sender.SenderSettings.{SenderSettings}

not_above : (p : ℕ) → not (nat_lt 127 p) ≡ nat_le p 127
not_above p = grind arith

abbrev status_in : {S : Type 0} → Result S SenderError → ℕ
status_in (Ok s) = 17
status_in (Err e) = refusal_status e

by_flags : {S : Type 0} (h f : Bool) (r : Result S SenderError) → IfSome (if h then Some errors.PayloadType else if not f then Some errors.ExtensionIds else None) (λ x. r ≡ Err x)
    → ((if h then Some errors.PayloadType else if not f then Some errors.ExtensionIds else None) ≡ None → status_in r ≡ 17)
    → RefusesSettings (not h && f) (status_in r)
by_flags true f r a b = inl (ap status_in a, refl)
by_flags false false r a b = inl (ap status_in a, refl)
by_flags false true r a b = inr (b refl, refl)

abbrev refusal : {S : Type 0} → SenderError → Result S SenderError
refusal e = Err e

-- the status of a refusal says whether the settings are in range
pub refused : (S : Type 0) (s : SenderSettings) (t : Settings) (e : SenderError) → t ≡ settings_for s → IfSome (refusal_of t) (λ x. refusal {S = S} e ≡ Err x) → (refusal_of t ≡ None → e ≡ errors.OutOfMemory)
    → RefusesSettings (is_in_range s) (refusal_status e)
refused S s t e is a b =
    subst (λ (x : Bool). RefusesSettings (x && ids_fit (ids_given s.extension_ids)) (refusal_status e)) (not_above s.payload_type)
    (by_flags (nat_lt 127 s.payload_type) (ids_fit (ids_given s.extension_ids)) (refusal {S = S} e)
    (subst (λ (t : Settings). IfSome (refusal_of t) (λ x. refusal {S = S} e ≡ Err x)) is a)
    (λ n. ap refusal_status (subst (λ (t : Settings). refusal_of t ≡ None → e ≡ errors.OutOfMemory) is b n)))
