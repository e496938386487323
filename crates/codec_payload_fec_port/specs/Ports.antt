-- A port with FEC: what it holds, and what each call leaves.
use Rattle.std.specs.Prelude.{ℕ, ◌==◌, nat_lt, if◌then◌else◌, Bool, true, false, List, [], ◌∷◌, ◌++◌, length, Option, option_map, is_some, Some, None}
use Rattle.std.specs.List.{find, position, remove}
use Rattle.codec_payload_rtp.specs.RtpPackets.{Packet}
use Rattle.codec_payload_rtp.specs.RtpReading.{rtp_at}
use Rattle.codec_payload_fec_port.specs.Cleared.{cleared_at}
use Rattle.codec_payload_fec_port.specs.Firsts.{changed_first, without_first}
use Rattle.codec_payload_fec_port.specs.Plain.{kind_of, packet_at}
use Rattle.codec_payload_fec_port.specs.Streams.{begun, counted, fed, is_of, may_go, no_counts, one_more, rebuilt_in, restarted, tried_in, with_rebuilt}
use Rattle.codec_payload_fec_port.specs.declared.fec_port.Rebuilt.{Rebuilt}
use Rattle.codec_payload_fec_port.specs.declared.fec_stream.FecCounts.{FecCounts}
use Rattle.codec_payload_fec_port.specs.declared.fec_stream.FecStream.{FecStream}
use Rattle.codec_payload_fec_port.specs.declared.plain.Kind.{Kind}
use Rattle.codec_payload_fec_port.specs.declared.plain.Kind.TheVariants as kinds
use Rattle.codec_payload_fec_port.specs.declared.port_settings.FecPortSettings.{FecPortSettings}

-- a packet that was rebuilt and not handed out yet
pub record Held : Type 0 where
  pub ssrc : ℕ
  pub packet : List ℕ

abbrev pub held_of : Rebuilt → Held
held_of r = record { ssrc = r.ssrc; packet = r.packet.items }

-- `streams`: in the order in which they began. `latest`: the SSRC of the stream that had the latest packet. `taken`: how many packets the streams had
pub record Port : Type 0 where
  pub settings : FecPortSettings
  pub streams : List FecStream
  pub latest : Option ℕ
  pub taken : ℕ
  pub counts : FecCounts
  pub waiting : Option Held

abbrev pub new_port : FecPortSettings → Port
new_port settings = record { settings = settings; streams = []; latest = None; taken = 0; counts = no_counts; waiting = None }

-- ---- the stream with an SSRC: the first one

abbrev pub found : ℕ → List FecStream → Option FecStream
found ssrc ts = find (is_of ssrc) ts

abbrev pub counts_of : ℕ → List FecStream → Option FecCounts
counts_of ssrc ts = option_map (λ (t : FecStream). t.counts) (found ssrc ts)

abbrev pub changed : ℕ → (FecStream → FecStream) → List FecStream → List FecStream
changed ssrc f ts = changed_first (is_of ssrc) f ts

abbrev pub ended : ℕ → List FecStream → List FecStream
ended ssrc ts = without_first (is_of ssrc) ts

abbrev pub rebuilt_if : Option FecStream → Option (List ℕ)
rebuilt_if None = None
rebuilt_if (Some t) = (rebuilt_in t).0

abbrev pub rebuilt_of : ℕ → List FecStream → Option (List ℕ)
rebuilt_of ssrc ts = rebuilt_if (found ssrc ts)

-- ---- a datagram

abbrev pub noted : Kind → ℕ → Port → Port
noted kind ssrc s = record s { latest = Some ssrc; taken = one_more s.taken; counts = counted kind s.counts }

abbrev pub took_known : Kind → ℕ → List ℕ → Port → Port
took_known kind ssrc datagram s = noted kind ssrc (record s { streams = changed ssrc (fed kind s.taken datagram) s.streams })

-- the streams once the one at a place left
abbrev pub left : Option ℕ → List FecStream → List FecStream
left None ts = ts
left (Some place) ts = remove ts place

abbrev pub added : Kind → ℕ → List ℕ → List FecStream → Port → Port
added kind ssrc datagram ts s = noted kind ssrc (record s { streams = ts ++ fed kind s.taken datagram (begun s.settings ssrc) ∷ [] })

-- a stream that begins takes the place of the first one that may go. Without a place it does not begin
abbrev pub began_in : Option ℕ → Kind → ℕ → List ℕ → Port → Port
began_in None kind ssrc datagram s = s
began_in (Some place) kind ssrc datagram s = added kind ssrc datagram (remove s.streams place) s

abbrev pub began : Kind → ℕ → List ℕ → Port → Port
began kind ssrc datagram s =
    if nat_lt (length s.streams) s.settings.max_streams then added kind ssrc datagram s.streams s
    else began_in (position (may_go s.taken) s.streams) kind ssrc datagram s

-- packets of RED and of FEC begin a stream
abbrev pub begins : FecPortSettings → ℕ → Bool
begins settings payload_type = if payload_type == settings.red_type then true else payload_type == settings.fec_type

abbrev pub took_kind : Kind → Packet → List ℕ → Port → Port
took_kind kind p datagram s =
    if is_some (found p.header.ssrc s.streams) then took_known kind p.header.ssrc datagram s
    else if begins s.settings p.header.payload_type then began kind p.header.ssrc datagram s
    else s

abbrev pub took_if : Kind → Packet → List ℕ → Port → Port
took_if kinds.Neither p datagram s = s
took_if kinds.Media p datagram s = took_kind kinds.Media p datagram s
took_if kinds.Fec p datagram s = took_kind kinds.Fec p datagram s

abbrev pub taken_in : Packet → List ℕ → Port → Port
taken_in p datagram s = took_if (kind_of s.settings p) p datagram s

abbrev pub received_as : Option Packet → List ℕ → Port → Port
received_as None datagram s = s
received_as (Some p) datagram s = taken_in p datagram s

abbrev pub port_received : List ℕ → Port → Port
port_received datagram s = received_as (packet_at datagram) datagram s

-- ---- the next packet

abbrev pub with_waiting : ℕ → Option (List ℕ) → Port → Port
with_waiting ssrc None s = s
with_waiting ssrc (Some packet) s = record s { counts = with_rebuilt s.counts; waiting = Some (record { ssrc = ssrc; packet = packet }) }

abbrev pub fetched_of : ℕ → Port → Port
fetched_of ssrc s = with_waiting ssrc (rebuilt_of ssrc s.streams) (record s { streams = changed ssrc (λ t. (rebuilt_in t).1) s.streams })

abbrev pub fetched_latest : Option ℕ → Port → Port
fetched_latest None s = s
fetched_latest (Some ssrc) s = fetched_of ssrc s

abbrev pub fetched_if : Option Held → Port → Port
fetched_if None s = fetched_latest s.latest s
fetched_if (Some h) s = s

-- the stream that had the latest packet rebuilds one, unless one waits
abbrev pub fetched : Port → Port
fetched s = fetched_if s.waiting s

abbrev pub handed : Port → Port
handed s = record (fetched s) { waiting = None }

-- the packet for a session
abbrev pub cleared_of : FecPortSettings → Held → List ℕ
cleared_of settings h = cleared_at settings.late_ids h.packet (rtp_at h.packet)

-- memory ran out before a packet was rebuilt
abbrev pub tried_of : ℕ → Port → Port
tried_of ssrc s = record s { streams = changed ssrc tried_in s.streams }

abbrev pub tried_latest : Option ℕ → Port → Port
tried_latest None s = s
tried_latest (Some ssrc) s = tried_of ssrc s

abbrev pub tried : Port → Port
tried s = tried_latest s.latest s

-- ---- restarts, and ends

abbrev pub is_waiting : ℕ → Option Held → Bool
is_waiting ssrc None = false
is_waiting ssrc (Some h) = h.ssrc == ssrc

abbrev pub without_waiting : ℕ → Port → Port
without_waiting ssrc s = if is_waiting ssrc s.waiting then record s { waiting = None } else s

abbrev pub port_restarted : ℕ → Port → Port
port_restarted ssrc s = without_waiting ssrc (record s { streams = changed ssrc restarted s.streams })

abbrev pub port_ended : ℕ → Port → Port
port_ended ssrc s = without_waiting ssrc (record s { streams = ended ssrc s.streams })
