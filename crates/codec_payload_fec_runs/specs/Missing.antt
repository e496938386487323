-- A lost packet is handed out as soon as its FEC comes.
use Rattle.std.specs.Prelude.{◌≡◌, ℕ, ◌-◌, ◌≤◌, true, false, List, [], ◌∷◌, length, Some, Ok}
use Rattle.codec_payload_rtp.specs.RtpReading.{rtp_at}
use Rattle.codec_payload_fec.specs.Fec.{Fec, numbers}
use Rattle.codec_payload_fec.specs.FecReading.{fec_at}
use Rattle.codec_payload_fec.specs.Protecting.{AllCameOrLost, AreOfStream, IsAmong, Protects}
use Rattle.codec_payload_fec.specs.Rebuilding.{found_in, missing_of}
use Rattle.codec_payload_fec.specs.Strings.{number_of}
use Rattle.codec_payload_fec_receiver.specs.Contents.{content_of}
use Rattle.codec_payload_fec_receiver.specs.Contents.{Fec as FecIn}
use Rattle.codec_payload_fec_receiver.specs.States.{OpenFec, State, is_within, next_of, received}

-- no packet of FEC is to be tried
abbrev pub NoneDue : List OpenFec → Type 0
NoneDue [] = Unit {0}
NoneDue (o ∷ os) = (o.is_due ≡ false) × NoneDue os

-- A packet of FEC comes, made from these packets of the stream. Of these one alone is missing, whose number is n, and the others are held.
-- It is within the window and not too large, and no other packet of FEC is to be tried
pub record CompletesGroup (s : State) (datagram : List ℕ) (packets : List (List ℕ)) (n : ℕ) : Type 0 where
  pub bytes : List ℕ
  pub fec : Fec
  pub content : content_of s.settings (rtp_at datagram) ≡ FecIn bytes
  pub read : fec_at bytes ≡ Ok fec
  pub within : is_within s.first fec.base ≡ true
  pub small : length bytes - 6 ≤ s.store.largest
  pub none_due : NoneDue s.fecs
  pub protects : Protects fec packets
  pub of_stream : AreOfStream s.settings.ssrc packets
  pub came : AllCameOrLost (found_in s.store.slots) packets
  pub missing : missing_of (found_in s.store.slots) (numbers fec) ≡ n ∷ []

-- the missing packet is handed out at once
abbrev pub TheMissingIsHandedOut : Type 0
TheMissingIsHandedOut =
    (s : State) (datagram : List ℕ) (packets : List (List ℕ)) (n : ℕ) → CompletesGroup s datagram packets n
    → (p : List ℕ) × ((next_of (received datagram s)).packet ≡ Some p) × IsAmong p packets × (number_of p ≡ n)
