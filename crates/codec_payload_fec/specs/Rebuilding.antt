-- What a packet of FEC and the packets that came rebuild (RFC 5109, section 9).
use Rattle.std.specs.Prelude.{ℕ, ◌+◌, ◌%◌, ◌==◌, nat_lt, if◌then◌else◌, Bool, true, false, List, [], ◌∷◌, ◌++◌, length, take, slice_index_or, Option, Some, None, is_ok}
use Rattle.std.specs.Int.{w16, w32, to_be_bytes}
use Rattle.codec_payload_rtp.specs.RtpReading.{rtp_at}
use Rattle.codec_payload_fec.specs.Fec.{Fec, numbers}
use Rattle.codec_payload_fec.specs.Strings.{BitString, added_all, number_of}

-- ---- the packets that came

-- the packet of a place, if it has that number
abbrev pub matching : ℕ → Option (List ℕ) → Option (List ℕ)
matching number None = None
matching number (Some p) = if number_of p == number then Some p else None

-- each packet is at its number modulo 512
abbrev pub found_in : List (Option (List ℕ)) → ℕ → Option (List ℕ)
found_in slots number = matching number (slice_index_or slots (number % 512) None)

-- the numbers of a list under which no packet came, and the packets that came under the others
abbrev pub if_missing : Option (List ℕ) → ℕ → List ℕ
if_missing None number = number ∷ []
if_missing (Some p) number = []

abbrev pub missing_of : (ℕ → Option (List ℕ)) → List ℕ → List ℕ
missing_of find [] = []
missing_of find (n ∷ ns) = if_missing (find n) n ++ missing_of find ns

abbrev pub to_list : Option (List ℕ) → List (List ℕ)
to_list None = []
to_list (Some p) = p ∷ []

abbrev pub found_of : (ℕ → Option (List ℕ)) → List ℕ → List (List ℕ)
found_of find [] = []
found_of find (n ∷ ns) = to_list (find n) ++ found_of find ns

abbrev pub are_none : List ℕ → Bool
are_none [] = true
are_none (n ∷ ns) = false

-- the only element of a list
abbrev pub only : List ℕ → Option ℕ
only [] = None
only (n ∷ []) = Some n
only (n ∷ m ∷ ns) = None

-- ---- the missing packet

-- a packet of version 2 with that number, that SSRC and these bits
abbrev pub bytes_of : ℕ → ℕ → BitString → List ℕ
bytes_of number ssrc a = (128 + a.first % 64) ∷ a.second ∷ (to_be_bytes w16 number ++ to_be_bytes w32 a.time ++ to_be_bytes w32 ssrc ++ take a.size a.bytes)

-- None if the length passes the end of the bits, or if the bytes are not an RTP packet
unfoldable pub packet_of : ℕ → ℕ → BitString → Option (List ℕ)
packet_of number ssrc a = if nat_lt (length a.bytes) a.size then None else (if is_ok (rtp_at (bytes_of number ssrc a)) then Some (bytes_of number ssrc a) else None)

-- the exclusive or of a packet of FEC and of the packets that came is the bit string of the only missing one
abbrev pub sum_in : Fec → (ℕ → Option (List ℕ)) → BitString
sum_in f find = added_all (found_of find (numbers f)) f.recovery

abbrev pub rebuilt_as : ℕ → Fec → (ℕ → Option (List ℕ)) → Option ℕ → Option (List ℕ)
rebuilt_as ssrc f find None = None
rebuilt_as ssrc f find (Some number) = packet_of number ssrc (sum_in f find)

abbrev pub rebuilt : ℕ → Fec → (ℕ → Option (List ℕ)) → Option (List ℕ)
rebuilt ssrc f find = rebuilt_as ssrc f find (only (missing_of find (numbers f)))
