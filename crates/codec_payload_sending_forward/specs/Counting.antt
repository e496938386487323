-- Counts of a viewer's stream, each modulo 2^64.
use Rattle.std.specs.Prelude.{ℕ, ◌+◌, ◌%◌, Bool, true, false}
use Rattle.codec_payload_sending_forward.specs.declared.counts.ForwardCounts.{ForwardCounts}
use Rattle.codec_payload_sending_forward.specs.declared.forwarder.Forwarded.{Forwarded}
use Rattle.codec_payload_sending_forward.specs.declared.forwarder.Forwarded.TheVariants as answers

abbrev pub no_counts : ForwardCounts
no_counts = record { packets = 0; octets = 0; switches = 0; filled = 0; left_out = 0; refused = 0; resent = 0 }

abbrev pub plus : ℕ → ℕ → ℕ
plus n more = (n + more) % 18446744073709551616

-- one more packet under the viewer's SSRC, with that number of bytes of payload
abbrev pub one_packet : ℕ → ForwardCounts → ForwardCounts
one_packet octets c = record c { packets = plus c.packets 1; octets = plus c.octets octets }

-- the counts after an answer for a packet whose payload has that number of bytes. A packet of padding has no payload
abbrev pub after_answer : Forwarded → ℕ → ForwardCounts → ForwardCounts
after_answer answers.Began octets c = one_packet octets (record c { switches = plus c.switches 1 })
after_answer answers.Written octets c = one_packet octets c
after_answer answers.NoKeyframe octets c = record c { refused = plus c.refused 1 }
after_answer answers.OtherSource octets c = record c { refused = plus c.refused 1 }
after_answer answers.TooOld octets c = record c { refused = plus c.refused 1 }
after_answer answers.LeftOut octets c = record c { left_out = plus c.left_out 1 }
after_answer answers.Filled octets c = one_packet 0 (record c { filled = plus c.filled 1 })

-- the counts after a packet was resent: under the SSRC of the retransmissions, or under the viewer's
abbrev pub after_resent : (wrapped : Bool) → ℕ → ForwardCounts → ForwardCounts
after_resent true octets c = record c { resent = plus c.resent 1 }
after_resent false octets c = one_packet octets (record c { resent = plus c.resent 1 })
