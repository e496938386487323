-- Calls of a receiver of FEC, and the packets that they hand out.
use Rattle.std.specs.Prelude.{◌≡◌, ℕ, ◌+◌, ◌%◌, ◌<◌, ◌≤◌, max, List, [], ◌∷◌, ◌++◌, Option, Some, None, IfSome, Result, Ok, Err}
use Rattle.codec_payload_rtp.specs.RtpPackets.{Packet}
use Rattle.codec_payload_rtp.specs.RtpReading.{rtp_at}
use Rattle.codec_payload_fec.specs.Fec.{Fec}
use Rattle.codec_payload_fec.specs.FecReading.{fec_at}
use Rattle.codec_payload_fec.specs.Protecting.{IsOfStream, Protects}
use Rattle.codec_payload_fec.specs.Rebuilding.{found_in, to_list}
use Rattle.codec_payload_fec.specs.Strings.{number_of}
use Rattle.codec_payload_fec.specs.declared.packet.FecFault.{FecFault}
use Rattle.codec_payload_fec_receiver.specs.Contents.{Content, Nothing, Media, content_of}
use Rattle.codec_payload_fec_receiver.specs.Contents.{Fec as FecIn}
use Rattle.codec_payload_fec_receiver.specs.Late.{plain_bytes}
use Rattle.codec_payload_fec_receiver.specs.States.{State, after_tries, next_of, received}
use Rattle.codec_payload_fec_receiver.specs.declared.content.FecSettings.{FecSettings}

-- a call: a datagram is passed; the next packet is taken; memory runs out when it is taken. If memory runs out for a datagram, nothing
-- changes, as if it had been lost
pub data Call : Type 0 where
  Passes : (datagram : List ℕ) → Call
  Takes : Call
  Lacks : Call

abbrev pub handed_out : List Call → State → List (List ℕ)
handed_out [] s = []
handed_out (Passes datagram ∷ calls) s = handed_out calls (received datagram s)
handed_out (Takes ∷ calls) s = to_list (next_of s).packet ++ handed_out calls (next_of s).state
handed_out (Lacks ∷ calls) s = handed_out calls (after_tries s)

-- ---- the sender

-- `sent`: which packet was sent with a number, counted without wrap, as FEC protects it: before RED, and with zeros in the elements that are
-- filled in late. None: no packet of media has that number
pub record IsSender (ssrc : ℕ) (sent : ℕ → Option (List ℕ)) : Type 0 where
  pub packets : (n : ℕ) → IfSome (sent n) (λ p. IsOfStream ssrc p × (number_of p ≡ n % 65536))

-- packets that were sent with less than 8,192 numbers in between
abbrev pub WasSentNear : (ℕ → Option (List ℕ)) → ℕ → List ℕ → Type 0
WasSentNear sent n p = (i : ℕ) × (sent i ≡ Some p) × (i < n + 8192) × (n < i + 8192)

abbrev pub WereSentNear : (ℕ → Option (List ℕ)) → ℕ → List (List ℕ) → Type 0
WereSentNear sent n [] = Unit {0}
WereSentNear sent n (p ∷ ps) = WasSentNear sent n p × WereSentNear sent n ps

-- a packet of FEC that was made from sent packets, by RFC 5109; n is SN base, counted without wrap
pub record IsMadeFrom (sent : ℕ → Option (List ℕ)) (n : ℕ) (f : Fec) : Type 0 where
  pub base : f.base ≡ n % 65536
  pub packets : List (List ℕ)
  pub protects : Protects f packets
  pub were_sent : WereSentNear sent n packets

-- ---- what arrives

-- a number is less than 16,384 from the highest one so far; the first one is at least 65,536, to where one may count
abbrev pub IsNear : Option ℕ → ℕ → Type 0
IsNear None n = 65536 ≤ n
IsNear (Some highest) n = (n < highest + 16384) × (highest < n + 16384)

abbrev pub raised : Option ℕ → ℕ → Option ℕ
raised None n = Some n
raised (Some highest) n = Some (max highest n)

pub record IsMedia (settings : FecSettings) (sent : ℕ → Option (List ℕ)) (p : Packet) (before after : Option ℕ) : Type 0 where
  pub number : ℕ
  pub near : IsNear before number
  pub numbered : p.header.sequence_number ≡ number % 65536
  pub was_sent : sent number ≡ Some (plain_bytes settings.late_ids p)
  pub raises : after ≡ raised before number

pub record IsFec (sent : ℕ → Option (List ℕ)) (f : Fec) (before after : Option ℕ) : Type 0 where
  pub number : ℕ
  pub near : IsNear before number
  pub is_made : IsMadeFrom sent number f
  pub raises : after ≡ raised before number

-- bytes that are not a packet of FEC rebuild nothing
abbrev pub IsFecIf : (ℕ → Option (List ℕ)) → Result Fec FecFault → Option ℕ → Option ℕ → Type 0
IsFecIf sent (Ok f) before after = IsFec sent f before after
IsFecIf sent (Err fault) before after = after ≡ before

-- a datagram of the sender; the highest number before and after it
abbrev pub IsOfSender : FecSettings → (ℕ → Option (List ℕ)) → Content → Option ℕ → Option ℕ → Type 0
IsOfSender settings sent Nothing before after = after ≡ before
IsOfSender settings sent (Media p) before after = IsMedia settings sent p before after
IsOfSender settings sent (FecIn bytes) before after = IsFecIf sent (fec_at bytes) before after

abbrev pub AreOfSender : FecSettings → (ℕ → Option (List ℕ)) → Option ℕ → List Call → Type 0
AreOfSender settings sent highest [] = Unit {0}
AreOfSender settings sent highest (Passes datagram ∷ calls) =
    (after : Option ℕ) × IsOfSender settings sent (content_of settings (rtp_at datagram)) highest after × AreOfSender settings sent after calls
AreOfSender settings sent highest (Takes ∷ calls) = AreOfSender settings sent highest calls
AreOfSender settings sent highest (Lacks ∷ calls) = AreOfSender settings sent highest calls

-- ---- what is handed out was sent

abbrev pub WereSent : (ℕ → Option (List ℕ)) → List (List ℕ) → Type 0
WereSent sent [] = Unit {0}
WereSent sent (p ∷ ps) = ((n : ℕ) × (sent n ≡ Some p)) × WereSent sent ps

pub record HoldsNothing (s : State) : Type 0 where
  pub none_kept : (n : ℕ) → found_in s.store.slots n ≡ None
  pub no_fecs : s.fecs ≡ []
  pub is_number : IfSome s.first (λ first. first < 65536)

-- Whatever datagrams are lost, repeated or come in another order: each packet that is handed out was sent, byte for byte
abbrev pub HandedOutWasSent : Type 0
HandedOutWasSent =
    (sent : ℕ → Option (List ℕ)) (s : State) (calls : List Call) → IsSender s.settings.ssrc sent → HoldsNothing s → AreOfSender s.settings sent None calls
    → WereSent sent (handed_out calls s)
