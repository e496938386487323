-- A new receiver.
use Rattle.std.proofs.Common.{◌≡◌, ◌∙◌, refl, sym, ap, ℕ, ◌<◌, ◌≤◌, ◌&&◌, Bool, true, false, cond, ltb, leb, Option, Result, Ok, Err, arith}
use Rattle.std.proofs.lemmas.Bool.{and_parts, leb-true, ltb-true}
use Rattle.codec_payload_codec.specs.Depacketizers.{DepacketizerState}
use Rattle.codec_payload_numbers.specs.Numbers.{IsNumbering, Numbering, no_numbers, numbering_within}
use Rattle.codec_payload_numbers.specs.declared.numbers.WindowError.{WindowError}
use Rattle.codec_payload_numbers.specs.declared.numbers.WindowError.TheVariants as windows
use Rattle.codec_payload_receiver.specs.Sessions.{Session, red_within, retransmission_fits, session_by, session_in, session_with, session_within}
use Rattle.codec_payload_datagrams.specs.declared.kinds.RedStream.{RedStream}
use Rattle.codec_payload_receiver.specs.declared.receiver.Settings.{Settings}
use Rattle.codec_payload_receiver.specs.declared.receiver.SettingsError.{SettingsError}
use Rattle.codec_payload_receiver.specs.declared.receiver.SettingsError.TheVariants as settings

pub passed : {A E : Type 0} (b : Bool) (r : Result A E) (d : E) (y : A) → cond b r (Err d) ≡ Ok y → (b ≡ true) × (r ≡ Ok y)
passed true r d y e = (refl, e)
passed false r d y e = absurd cc

-- windows in range
windows_of : (forward backward : ℕ) (numbering : Numbering) → numbering_within forward backward ≡ Ok numbering → (no_numbers forward backward ≡ numbering) × IsNumbering (no_numbers forward backward)
windows_of forward backward numbering e =
    let a = passed (ltb 0 forward && leb forward 32768) _ windows.Forward numbering e in
    let b = passed (ltb backward forward) _ windows.Backward numbering a.1 in
    let range = and_parts (ltb 0 forward) (leb forward 32768) a.0 in
    let some : 0 < forward = ltb-true 0 forward range.0 in
    let most : forward ≤ 32768 = leb-true forward 32768 range.1 in
    let order : backward < forward = ltb-true backward forward b.0 in
    (cc, record { some = some; apart = omega (arith, most, order); order = order; far = tt })

-- no datagram arrived so far, and the windows are in range
pub record IsBegun (s : Settings) (depacketizer : DepacketizerState) (receiver : Session) : Type 0 where
  pub red : Option RedStream
  pub windows : IsNumbering (no_numbers s.forward s.backward)
  pub is : receiver ≡ session_with s depacketizer red (no_numbers s.forward s.backward)

begun_within : (s : Settings) (depacketizer : DepacketizerState) (red : Option RedStream) (n : Result Numbering WindowError) (receiver : Session)
    → numbering_within s.forward s.backward ≡ n → session_within s depacketizer red n ≡ Ok receiver → IsBegun s depacketizer receiver
begun_within s depacketizer red (Ok numbering) receiver is e =
    let w = windows_of s.forward s.backward numbering is in
    let made : session_with s depacketizer red numbering ≡ receiver = cc in
    record { red = red; windows = w.1; is = sym made ∙ ap (session_with s depacketizer red) (sym w.0) }
begun_within s depacketizer red (Err windows.Forward) receiver is e = absurd (cc)
begun_within s depacketizer red (Err windows.Backward) receiver is e = absurd (cc)

begun_in : (s : Settings) (depacketizer : DepacketizerState) (red : Result (Option RedStream) SettingsError) (receiver : Session)
    → session_in s depacketizer red ≡ Ok receiver → IsBegun s depacketizer receiver
begun_in s depacketizer (Ok red) receiver e = begun_within s depacketizer red (numbering_within s.forward s.backward) receiver refl e
begun_in s depacketizer (Err fault) receiver e = absurd (cc)

pub new_is_begun : (s : Settings) (depacketizer : DepacketizerState) (receiver : Session) → session_by s depacketizer ≡ Ok receiver → IsBegun s depacketizer receiver
new_is_begun s depacketizer receiver e =
    let a = passed (leb s.payload_type 127) _ settings.PayloadType receiver e in
    let b = passed (leb 1 s.limit && leb s.limit 65536) _ settings.Limit receiver a.1 in
    let c = passed (retransmission_fits s.retransmission) _ settings.RetransmissionPayloadType receiver b.1 in
    begun_in s depacketizer (red_within s.payload_type s.red) receiver c.1
