-- The calls on a port with FEC.
use Rattle.std.specs.Prelude.{◌≡◌, ◌⊎◌, ℕ, List, [], Option, Some, None}
use Rattle.std.specs.Option.{option_map}
use Rattle.codec_payload_rtp.specs.RtpPackets.{Packet, packet_bytes}
use Rattle.codec_payload_fec_port.specs.Plain.{plain_of}
use Rattle.codec_payload_fec_port.specs.Ports.{cleared_of, fetched, handed, port_received, tried}
use Rattle.codec_payload_fec_port.specs.declared.fec_stream.FecCounts.{FecCounts}
use Rattle.codec_payload_c_path.specs.declared.object.CallerFecPort.{CallerFecPort}
use Rattle.codec_payload_c_fec.specs.Lending.{IsLent}
use Rattle.codec_payload_c_fec.specs.declared.lending.LentPacket.{LentPacket}
use Rattle.codec_payload_c_fec.specs.declared.port.FecCountsInfo.{FecCountsInfo}

-- ---- a datagram

-- the packet that passes in its place is lent, in the port's memory. None: the datagram passes as it is, and nothing is written
abbrev pub LendsPassed : Option Packet → (before after : LentPacket) → CallerFecPort → Type 0
LendsPassed None before after s = (after ≡ before) × (s.passed.items ≡ [])
LendsPassed (Some p) before after s = (s.passed.items ≡ packet_bytes p) × IsLent s.passed after

-- Status 0: the datagram is taken. Status 17: memory ran out, the port is as before, and the packet that was lent is no longer
abbrev pub PassesDatagram : List ℕ → CallerFecPort → ℕ → (before after : LentPacket) → CallerFecPort → Type 0
PassesDatagram datagram r status before after s =
    ((status ≡ 0) × (s.port ≡ port_received datagram r.port) × LendsPassed (plain_of r.port.settings datagram) before after s)
    ⊎ ((status ≡ 17) × (s.port ≡ r.port) × (after ≡ before) × (s.passed.items ≡ []))

-- the packet that was rebuilt and lent stays lent
abbrev pub TakesDatagram : List ℕ → CallerFecPort → ℕ → (before after : LentPacket) → CallerFecPort → Type 0
TakesDatagram datagram r status before after s = PassesDatagram datagram r status before after s × (s.rebuilt ≡ r.rebuilt)

-- ---- the next packet

-- Status 0: the packet is lent, in the port's memory. Status 32: there is none, and the one that was lent stays lent
abbrev pub LendsRebuilt : Option (List ℕ) → CallerFecPort → ℕ → (before after : LentPacket) → CallerFecPort → Type 0
LendsRebuilt None r status before after s = (status ≡ 32) × (after ≡ before) × (s.rebuilt ≡ r.rebuilt)
LendsRebuilt (Some packet) r status before after s = (status ≡ 0) × (s.rebuilt.items ≡ packet) × IsLent s.rebuilt after

-- Status 17: memory ran out, and no packet is lost
abbrev pub FetchesPacket : CallerFecPort → ℕ → (before after : LentPacket) → CallerFecPort → Type 0
FetchesPacket r status before after s =
    (LendsRebuilt (option_map (cleared_of r.port.settings) (fetched r.port).waiting) r status before after s × (s.port ≡ handed r.port))
    ⊎ ((status ≡ 17) × (after ≡ before) × (s.rebuilt ≡ r.rebuilt) × ((s.port ≡ tried r.port) ⊎ (s.port ≡ fetched r.port)))

-- the packet that passed and is lent stays lent
abbrev pub HandsOutPacket : CallerFecPort → ℕ → (before after : LentPacket) → CallerFecPort → Type 0
HandsOutPacket r status before after s = FetchesPacket r status before after s × (s.passed ≡ r.passed)

-- ---- counts

abbrev pub counts_told : FecCounts → FecCountsInfo
counts_told c = record { media = c.media; fec = c.fec; rebuilt = c.rebuilt }

-- Status 0: the counts of the stream. Status 32: there is none
abbrev pub TellsCounts : Option FecCounts → ℕ → (before after : FecCountsInfo) → Type 0
TellsCounts (Some counts) status before after = (status ≡ 0) × (after ≡ counts_told counts)
TellsCounts None status before after = (status ≡ 32) × (after ≡ before)
