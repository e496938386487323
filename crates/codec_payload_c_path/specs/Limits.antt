-- The calls on a limit of retransmissions.
use Rattle.std.specs.Prelude.{◌≡◌, ℕ, Result, Ok, Err}
use Rattle.codec_payload_bandwidth_pacer.specs.Resending.{Limit, after_resend, after_sent, answer_to, new_limit}
use Rattle.codec_payload_bandwidth_pacer.specs.declared.resends.ResendRefused.{ResendRefused}
use Rattle.codec_payload_bandwidth_pacer.specs.declared.resends.ResendRefused.TheVariants as refused
use Rattle.codec_payload_c_path.specs.Settings.{limit_set}
use Rattle.codec_payload_c_path.specs.declared.object.PathObject.{PathObject}
use Rattle.codec_payload_c_path.specs.declared.object.PathObject.TheVariants as objects
use Rattle.codec_payload_c_path.specs.declared.path_settings.ResendLimitSettings.{ResendLimitSettings}

-- 0: the packet may be retransmitted; otherwise why not
abbrev pub answer_number : Result (Unit {0}) ResendRefused → ℕ
answer_number (Ok _) = 0
answer_number (Err refused.TooSoon) = 1
answer_number (Err refused.Share) = 2
answer_number (Err refused.TooMany) = 3

-- nothing was sent
abbrev pub IsLimitOf : ResendLimitSettings → PathObject → Type 0
IsLimitOf settings (objects.ResendLimit r) = r.value ≡ new_limit (limit_set settings)
IsLimitOf settings _ = ⊥

-- a packet is sent for the first time
abbrev pub CountsSent : (now size : ℕ) → Limit → ℕ → Limit → Type 0
CountsSent now size r status s = (status ≡ 0) × (s ≡ after_sent now size r)

-- a packet is requested: whether it may be retransmitted
abbrev pub AsksLimit : (now number size round_trip : ℕ) → Limit → (status answer : ℕ) → Limit → Type 0
AsksLimit now number size round_trip r status answer s =
    (status ≡ 0) × (answer ≡ answer_number (answer_to now number size r)) × (s ≡ after_resend now number size round_trip r)
