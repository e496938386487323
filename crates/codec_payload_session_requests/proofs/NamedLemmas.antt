-- A receiver whose settings name the SSRC keeps it, so no packet ever waits for the choice of a stream.
use Rattle.std.proofs.Common.{◌≡◌, ◌∙◌, refl, ap, sym, subst, ℕ, List, Bool, true, false, Option, Some, None, Result, Ok, Err, inl, inr}
use Rattle.std.specs.Prelude.{◌&&◌, if◌then◌else◌, nat_le, ⊤}
use Rattle.std.specs.declared.alloc.AllocError.{AllocError}
use Rattle.codec_payload_base.specs.declared.error.PacketError.{PacketError}
use Rattle.codec_payload_base.specs.declared.wire.Ticks.{Ticks}
use Rattle.codec_payload_metadata.specs.Release.{Release}
use Rattle.codec_payload_codec.specs.Depacketizers.{DepacketizerState}
use Rattle.codec_payload_numbers.specs.Numbers.{Numbering, numbering_within}
use Rattle.codec_payload_numbers.specs.declared.numbers.WindowError.{WindowError}
use Rattle.codec_payload_numbers.specs.declared.numbers.WindowError.TheVariants as windows
use Rattle.codec_payload_jitter.specs.declared.outcome.Outcome.{Outcome}
use Rattle.codec_payload_datagrams.specs.Kinds.{AgainEmpty, AgainInRed, Again, Datagram, InRed, Malformed, OfOthers, RtcpPacket, WithMedia, WithoutMedia, datagram_at}
use Rattle.codec_payload_buffer.specs.Steps.{popped_to}
use Rattle.codec_payload_receiver.specs.Pops.{DropsUnits, NamesFault, PopsGated, PopsOnce, answer_of, is_too_large, none_dropped, one_more}
use Rattle.codec_payload_receiver.specs.declared.pops.Popped.{Popped}
use Rattle.codec_payload_receiver.specs.declared.pops.Popped.TheVariants as popped
use Rattle.codec_payload_receiver.specs.Sessions.{Heard, ReceivesBy, ReceivesBytes, Session as Receiver, is_none_of, red_within, retransmission_fits, session_by, session_in, session_with, session_within, ssrc_after, verdict_in}
use Rattle.codec_payload_receiver.specs.declared.receiver.ReceiveError.{ReceiveError}
use Rattle.codec_payload_receiver.specs.declared.receiver.ReceiveError.TheVariants as errors
use Rattle.codec_payload_receiver.specs.declared.receiver.Settings.{Settings}
use Rattle.codec_payload_receiver.specs.declared.receiver.SettingsError.{SettingsError}
use Rattle.codec_payload_receiver.specs.declared.receiver.SettingsError.TheVariants as settings
use Rattle.codec_payload_session_requests.specs.Named.{IsNamed, popped_with}

-- ---- a new receiver

passed : (b : Bool) (x : Result Receiver SettingsError) (fault : SettingsError) (r : Receiver) → (if b then x else Err fault) ≡ Ok r → x ≡ Ok r
passed true x fault r e = e
passed false x fault r e = absurd (cc)

named_within : (s : Settings) (d : DepacketizerState) (red : _) (n : Result Numbering WindowError) (r : Receiver) → is_none_of s.ssrc ≡ false
    → session_within s d red n ≡ Ok r → IsNamed r
named_within s d red (Ok numbering) r named e =
    let made : session_with s d red numbering ≡ r = cc in
    record { named = sym (ap (λ (x : Receiver). is_none_of x.named) made) ∙ named; known = sym (ap (λ (x : Receiver). is_none_of x.ssrc) made) ∙ named }
named_within s d red (Err windows.Forward) r named e = absurd (cc)
named_within s d red (Err windows.Backward) r named e = absurd (cc)

named_in : (s : Settings) (d : DepacketizerState) (red : Result _ SettingsError) (r : Receiver) → is_none_of s.ssrc ≡ false
    → session_in s d red ≡ Ok r → IsNamed r
named_in s d (Ok red) r named e = named_within s d red (numbering_within s.forward s.backward) r named e
named_in s d (Err fault) r named e = absurd (cc)

pub begins_named : (s : Settings) (d : DepacketizerState) (r : Receiver) → is_none_of s.ssrc ≡ false → session_by s d ≡ Ok r → IsNamed r
begins_named s d r named e =
    let first = passed (nat_le s.payload_type 127) _ settings.PayloadType r e in
    let second = passed (nat_le 1 s.limit && nat_le s.limit 65536) _ settings.Limit r first in
    let third = passed (retransmission_fits s.retransmission) _ settings.RetransmissionPayloadType r second in
    named_in s d (red_within s.payload_type s.red) r named third

-- ---- datagrams

ssrc_kept : (o : Option ℕ) (d : Datagram) → is_none_of o ≡ false → is_none_of (ssrc_after o d) ≡ false
ssrc_kept o (WithoutMedia h) is = refl
ssrc_kept o (WithMedia p) is = refl
ssrc_kept o (InRed c) is = refl
ssrc_kept o RtcpPacket is = is
ssrc_kept o (Malformed e) is = is
ssrc_kept o OfOthers is = is
ssrc_kept o (Again p) is = is
ssrc_kept o (AgainInRed c) is = is
ssrc_kept o AgainEmpty is = is

same_named : (s t : Receiver) → t ≡ s → IsNamed s → IsNamed t
same_named s t same is = subst (λ (x : Receiver). IsNamed x) (sym same) is

heard_named : (now : Ticks) (d : Datagram) (s t : Receiver) (answer : Result Outcome ReceiveError) → IsNamed s → Heard now d s answer t → IsNamed t
heard_named now d s t (Ok outcome) is heard = record { named = ap (λ (x : Receiver). is_none_of x.named) heard.left ∙ is.named; known = ap (λ (x : Receiver). is_none_of x.ssrc) heard.left ∙ ssrc_kept s.ssrc d is.known }
heard_named now d s t (Err errors.OutOfMemory) is heard = same_named s t heard.0 is
heard_named now d s t (Err (errors.Rtp e)) is heard = record { named = ap (λ (x : Receiver). is_none_of x.named) heard.left ∙ is.named; known = ap (λ (x : Receiver). is_none_of x.ssrc) heard.left ∙ ssrc_kept s.ssrc d is.known }
heard_named now d s t (Err errors.Red) is heard = record { named = ap (λ (x : Receiver). is_none_of x.named) heard.left ∙ is.named; known = ap (λ (x : Receiver). is_none_of x.ssrc) heard.left ∙ ssrc_kept s.ssrc d is.known }
heard_named now d s t (Err errors.Retransmission) is heard = record { named = ap (λ (x : Receiver). is_none_of x.named) heard.left ∙ is.named; known = ap (λ (x : Receiver). is_none_of x.ssrc) heard.left ∙ ssrc_kept s.ssrc d is.known }
heard_named now d s t (Err errors.BlocksOutOfMemory) is heard = record { named = ap (λ (x : Receiver). is_none_of x.named) heard.left ∙ is.named; known = ap (λ (x : Receiver). is_none_of x.ssrc) heard.left ∙ ssrc_kept s.ssrc d is.known }

some_of : (o : Option ℕ) → is_none_of o ≡ false → (n : ℕ) × (o ≡ Some n)
some_of None is = absurd (cc)
some_of (Some n) is = (n, refl)

-- each datagram is received at once
pub receives_named : (now : Ticks) (bytes : List ℕ) (s t : Receiver) (answer : Result Outcome ReceiveError) → IsNamed s → ReceivesBytes now bytes s answer t → IsNamed t
receives_named now bytes s t answer is (inl got) =
    heard_named now (datagram_at s.stream s.ssrc bytes) s t answer is
    (subst (λ (o : Option ℕ). ReceivesBy (verdict_in (record s { named = o }) now.0 bytes) now bytes s answer t) (some_of s.named is.named).1 got)
receives_named now bytes s t answer is (inr got) = same_named s t got.1 is

-- ---- pops

once_named : (now : ℕ) (s t : Receiver) (answer : Option (Result Release PacketError)) → IsNamed s → PopsOnce now s answer t → IsNamed t
once_named now s t answer is pops = record { named = ap (λ (x : Receiver). is_none_of x.named) pops.left ∙ is.named; known = ap (λ (x : Receiver). is_none_of x.ssrc) pops.left ∙ is.known }

dropped_named : (now : ℕ) (s t : Receiver) → IsNamed s → DropsUnits now s t → IsNamed t
dropped_named now s t is none_dropped = is
dropped_named now s t is (one_more {mid = mid} unit before passes) = once_named now mid t (Some (Ok unit)) (dropped_named now s mid is before) passes.0

pub pops_named : (now : ℕ) (s t : Receiver) (answer : Option (Result Release PacketError)) → IsNamed s → PopsGated now s answer t → IsNamed t
pops_named now s t answer is gated = once_named now gated.mid t answer (dropped_named now s gated.mid is gated.dropped) gated.pops

pub answer_with : (o : Option (Result (Popped ⊤) AllocError)) (unit : Release) → answer_of (popped_with o unit) ≡ popped_to (answer_of o) unit
answer_with None unit = refl
answer_with (Some (Ok (popped.Unit done))) unit = refl
answer_with (Some (Ok (popped.TooLarge done))) unit = refl
answer_with (Some (Ok (popped.Refused fault))) unit = refl
answer_with (Some (Err e)) unit = refl

pub names_with : (o : Option (Result (Popped ⊤) AllocError)) (unit : Release) → NamesFault o → NamesFault (popped_with o unit)
names_with None unit names = tt
names_with (Some (Ok (popped.Unit done))) unit names = tt
names_with (Some (Ok (popped.TooLarge done))) unit names = tt
names_with (Some (Ok (popped.Refused fault))) unit names = names
names_with (Some (Err e)) unit names = tt

pub large_with : (o : Option (Result (Popped ⊤) AllocError)) (unit : Release) → is_too_large (popped_with o unit) ≡ is_too_large o
large_with None unit = refl
large_with (Some (Ok (popped.Unit done))) unit = refl
large_with (Some (Ok (popped.TooLarge done))) unit = refl
large_with (Some (Ok (popped.Refused fault))) unit = refl
large_with (Some (Err e)) unit = refl
