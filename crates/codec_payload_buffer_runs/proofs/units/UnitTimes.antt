-- All packets of a unit have one time.
use Rattle.std.proofs.Common.{◌≡◌, ℕ, ◌+◌, ◌%◌, ◌^◌, List, [], ◌∷◌, ◌++◌, refl, sym, subst}
use Rattle.codec_payload_codec.specs.Packetizers.{PacketizerState}
use Rattle.codec_payload_payloader.specs.Packets.{Packet}
use Rattle.codec_payload_payloader.specs.Sending.{Sample, packets_for, packets_from}
use Rattle.codec_payload_buffer_runs.specs.SentStream.{SentUnit, packets_of}

abbrev pub HasTime : ℕ → List Packet → Type 0
HasTime time [] = Unit {0}
HasTime time (p ∷ ps) = (p.rtp_time ≡ time) × HasTime time ps

-- each unit has one time, which may differ from the times of the others
abbrev pub AllOneTime : List SentUnit → Type 0
AllOneTime [] = Unit {0}
AllOneTime (u ∷ us) = ((time : ℕ) × HasTime time u.packets) × AllOneTime us

time_of_packets : (packetizer : PacketizerState) (sample : Sample) (rtp_time number place : ℕ) (payloads : List (List ℕ))
    → HasTime rtp_time (packets_from packetizer sample rtp_time number place payloads)
time_of_packets packetizer sample rtp_time number place [] = tt
time_of_packets packetizer sample rtp_time number place (payload ∷ payloads) = (refl, time_of_packets packetizer sample rtp_time ((number + 1) % 2 ^ 64) (place + 1) payloads)

time_front : (time : ℕ) (xs ys : List Packet) → HasTime time (xs ++ ys) → HasTime time xs
time_front time [] ys h = tt
time_front time (x ∷ xs) ys h = (h.0, time_front time xs ys h.1)

time_back : (time : ℕ) (xs ys : List Packet) → HasTime time (xs ++ ys) → HasTime time ys
time_back time [] ys h = h
time_back time (x ∷ xs) ys h = time_back time xs ys h.1

time_of_units : (time : ℕ) (units : List SentUnit) → HasTime time (packets_of units) → AllOneTime units
time_of_units time [] h = tt
time_of_units time (u ∷ us) h = ((time, time_front time u.packets (packets_of us) h), time_of_units time us (time_back time u.packets (packets_of us) h))

-- all packets of a sample have its time
pub times_of_sample : (packetizer : PacketizerState) (sample : Sample) (rtp_time number : ℕ) (payloads : List (List ℕ)) (units : List SentUnit)
    → packets_of units ≡ packets_for packetizer sample rtp_time number payloads → AllOneTime units
times_of_sample packetizer sample rtp_time number payloads units are = time_of_units rtp_time units (subst (HasTime rtp_time) (sym are) (time_of_packets packetizer sample rtp_time number 0 payloads))

pub times_append : (us vs : List SentUnit) → AllOneTime us → AllOneTime vs → AllOneTime (us ++ vs)
times_append [] vs a b = b
times_append (u ∷ us) vs a b = (a.0, times_append us vs a.1 b)
