-- A stream of a port with FEC.
use Rattle.std.specs.Prelude.{ℕ, ◌+◌, ◌-◌, ◌%◌, ◌^◌, ◌==◌, ◌||◌, ◌&&◌, nat_le, nat_lt, Bool, List, Option, Some, None}
use Rattle.codec_payload_fec_receiver.specs.States.{after_tries, forgotten, new_state, next_of, received}
use Rattle.codec_payload_fec_port.specs.Settings.{fec_settings}
use Rattle.codec_payload_fec_port.specs.declared.fec_stream.FecCounts.{FecCounts}
use Rattle.codec_payload_fec_port.specs.declared.fec_stream.FecStream.{FecStream}
use Rattle.codec_payload_fec_port.specs.declared.plain.Kind.{Kind}
use Rattle.codec_payload_fec_port.specs.declared.plain.Kind.TheVariants as kinds
use Rattle.codec_payload_fec_port.specs.declared.port_settings.FecPortSettings.{FecPortSettings}

-- ---- counts, modulo 2^64

abbrev pub no_counts : FecCounts
no_counts = record { media = 0; fec = 0; rebuilt = 0 }

abbrev pub one_more : ℕ → ℕ
one_more n = (n + 1) % 2 ^ 64

abbrev pub counted : Kind → FecCounts → FecCounts
counted kinds.Neither c = c
counted kinds.Media c = record c { media = one_more c.media }
counted kinds.Fec c = record c { fec = one_more c.fec }

abbrev pub with_rebuilt : FecCounts → FecCounts
with_rebuilt c = record c { rebuilt = one_more c.rebuilt }

-- ---- streams

abbrev pub begun : FecPortSettings → ℕ → FecStream
begun s ssrc = record { ssrc = ssrc; receiver = new_state (fec_settings s ssrc); counts = no_counts; heard = 0 }

abbrev pub is_of : ℕ → FecStream → Bool
is_of ssrc t = t.ssrc == ssrc

-- a stream that begins may take the place of one with fewer than 16 packets of media and of FEC each, or of one without a packet among the
-- latest 16,384 of the streams of the port
abbrev pub may_go : ℕ → FecStream → Bool
may_go taken t = (nat_lt t.counts.media 16 && nat_lt t.counts.fec 16) || nat_le 16384 ((taken + 2 ^ 64 - t.heard) % 2 ^ 64)

abbrev pub fed : Kind → ℕ → List ℕ → FecStream → FecStream
fed kind taken datagram t = record t { receiver = received datagram t.receiver; counts = counted kind t.counts; heard = taken }

abbrev pub restarted : FecStream → FecStream
restarted t = record t { receiver = forgotten t.receiver }

-- ---- the next packet

abbrev pub counted_if : Option (List ℕ) → FecCounts → FecCounts
counted_if None c = c
counted_if (Some packet) c = with_rebuilt c

abbrev pub rebuilt_in : FecStream → Option (List ℕ) × FecStream
rebuilt_in t = ((next_of t.receiver).packet, record t { receiver = (next_of t.receiver).state; counts = counted_if (next_of t.receiver).packet t.counts })

-- memory ran out
abbrev pub tried_in : FecStream → FecStream
tried_in t = record t { receiver = after_tries t.receiver }
